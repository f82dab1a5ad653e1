-- How many tokens a term takes, and how many values it holds at a time.
use Rattle.std.proofs.Common.{◌≡◌, ◌≤◌, ◌+◌, ℕ, suc, max, List, [], ◌∷◌, ◌++◌, length, ◌∙◌, refl, sym, ap, subst, length-append, true≢false, arith}
use Rattle.std.specs.Prelude.{Bool, true, false, Option, Some, None, Ok, Err, if◌then◌else◌}
use Rattle.cc_base.specs.declared.text.Span.{Span}
use Rattle.cc_tree.specs.declared.identifier.Identifier.{Identifier}
use Rattle.cc_tree.specs.declared.expression.Expression.{Expression, Expression-F, out-Expression, roll-Expression, fold-roll-Expression, out-roll-Expression}
use Rattle.cc_tree.specs.declared.expression.Expression.TheOpen as layer
use Rattle.cc_tree.specs.declared.expression.Expression.TheVariants as e
use Rattle.cc_tree.specs.declared.expression.Arguments.{Arguments, Arguments-F, out-Arguments, roll-Arguments, out-roll-Arguments, fold-roll-Arguments}
use Rattle.cc_tree.specs.declared.expression.BinaryOperator.{BinaryOperator}
use Rattle.cc_tree.specs.declared.terminal.ReservedWord.{ReservedWord}
use Rattle.cc_tree.specs.declared.type_name.TypeName.{TypeName}
use Rattle.cc_tree.specs.Terminals.{Classified}
use Rattle.cc_tree.specs.Spans.{across}
use Rattle.cc_tree.specs.GrammarTypes as gt
use Rattle.cc_tree.specs.GrammarTypes.{ReadsPath, ReadsWords, ReadsType, ReadsCore, ReadsNamed, ReadsTypes}
use Rattle.cc_tree.specs.GrammarExpressions as g
use Rattle.cc_tree.specs.GrammarExpressions.{ReadsExpression, ReadsConditional, ReadsBinary, ReadsUnary, ReadsPostfix, ReadsPrimary, ReadsArguments, ReadsExpressions}
use Rattle.cc_tree.specs.Operators as op
use Rattle.cc_tree.specs.Operators.{ReadsOperator}
use Rattle.cc_tree.specs.Depth.{expression_layer, expression_depth, arguments_depth}
use Rattle.cc_tree.specs.Depth as depth
use Rattle.cc_core.specs.declared.straight.StraightOperator.{StraightOperator}
use Rattle.cc_core.specs.declared.straight.StraightOperation.{StraightOperation}
use Rattle.cc_core.specs.declared.straight.StraightOperation.TheVariants as operation
use Rattle.cc_core.specs.StraightSource.{Term, number, apply, operations_of}
use Rattle.cc_straight.specs.Straight.{height_of}
use Rattle.cc_straight.specs.Form.{Judged, term_layer, arguments_layer, term_of, number_term, number_value, binary_term, arithmetic, printed_layer, printed_term, is_write_line, argument_term}
use Rattle.cc_straight.proofs.Opened.{number_opens, group_opens, binary_opens, call_opens, number_deep, group_deep, binary_deep, call_deep}

abbrev Fails : {A : Type 0} → Judged A → Type 0
Fails (Ok a) = ⊥
Fails (Err span) = Unit {0}

pub not_both : {A : Type 0} {j : Judged A} {span : Span} {a : A} → j ≡ Err span → j ≡ Ok a → ⊥
not_both p q = subst Fails (sym p ∙ q) tt

-- The tokens of a term are at least its operations, those of a call that prints one have one more, and those of a name are any.
pub record Small (x : Expression) (ts rest : List Classified) : Type 0 where
  pub term : (t : Term) → term_of x ≡ Ok t → (length (operations_of t) + length rest ≤ length ts) × (height_of t ≤ expression_depth x)
  pub printed : (t : Term) → printed_term x ≡ Ok t → (length (operations_of t) + 1 + length rest ≤ length ts) × (height_of t ≤ expression_depth x)
  pub name : is_write_line (out-Expression x) ≡ true → length rest ≤ length ts

abbrev IsOther : Expression-F Expression Arguments → Type 0
IsOther (layer.Number value suffix radix span) = ⊥
IsOther (layer.Group x span) = ⊥
IsOther (layer.Binary left operator right span) = ⊥
IsOther (layer.Call x given span) = ⊥
IsOther (layer.StaticMember of name span) = ⊥
IsOther _ = Unit {0}

neither : {x : Expression} {ts rest : List Classified} {first second : Span} → term_of x ≡ Err first → printed_term x ≡ Err second → is_write_line (out-Expression x) ≡ false → Small x ts rest
neither p q r = record {
  term = λ t h. absurd (not_both p h);
  printed = λ t h. absurd (not_both q h);
  name = λ h. absurd (true≢false (sym h ∙ r));
}

other : {x : Expression} (l : Expression-F Expression Arguments) {ts rest : List Classified} → roll-Expression l ≡ x → IsOther l → Small x ts rest
other (layer.Number value suffix radix span) r h = absurd h
other (layer.Group x span) r h = absurd h
other (layer.Binary left operator right span) r h = absurd h
other (layer.Call x given span) r h = absurd h
other (layer.StaticMember of name span) r h = absurd h
other l r h =
    neither (ap term_of (sym r) ∙ fold-roll-Expression (Judged Term) Span term_layer arguments_layer l) (ap printed_term (sym r) ∙ ap printed_layer (out-roll-Expression l))
    (ap (λ y. is_write_line (out-Expression y)) (sym r) ∙ ap is_write_line (out-roll-Expression l))

pair : (a b : List StraightOperation) (o : StraightOperation) → length (a ++ b ++ o ∷ []) ≡ length a + length b + 1
pair a b o = simp length-append (omega arith)

operator_takes : {operator : BinaryOperator} {ts rest : List Classified} → ReadsOperator operator ts rest → length rest + 1 ≤ length ts
operator_takes (op.sign p) = omega arith
operator_takes (op.shift_right p) = omega arith

pub path_takes : {path : List Identifier} {ts rest : List Classified} → ReadsPath path ts rest → length rest ≤ length ts
path_takes gt.none = omega arith
path_takes (gt.next i p) = let a = path_takes p in omega (arith, a)

words_take : {words : List ReservedWord} {span : Span} {ts rest : List Classified} → ReadsWords words span ts rest → length rest ≤ length ts
words_take gt.last = omega arith
words_take (gt.more p) = let a = words_take p in omega (arith, a)

mutual
  type_takes : {of : TypeName} {span : Span} {ts rest : List Classified} → ReadsType of span ts rest → length rest ≤ length ts
  type_takes (gt.core p) = core_takes p
  type_takes (gt.handle p) = let a = core_takes p in omega (arith, a)
  type_takes (gt.tracking p) = let a = core_takes p in omega (arith, a)
  type_takes (gt.handle_tracking p) = let a = core_takes p in omega (arith, a)

  pub core_takes : {of : TypeName} {span : Span} {ts rest : List Classified} → ReadsCore of span ts rest → length rest ≤ length ts
  core_takes (gt.fundamental f p) = words_take p
  core_takes (gt.named p) = named_takes p

  named_takes : {of : TypeName} {span : Span} {ts rest : List Classified} → ReadsNamed of span ts rest → length rest ≤ length ts
  named_takes (gt.alone p) = let a = path_takes p in omega (arith, a)
  named_takes (gt.applied p q) = let a = path_takes p in let b = types_take q in omega (arith, a, b)

  types_take : {types : List TypeName} {ts rest : List Classified} → ReadsTypes types ts rest → length rest ≤ length ts
  types_take (gt.last p) = type_takes p
  types_take (gt.more p q) = let a = type_takes p in let b = types_take q in omega (arith, a, b)

-- two terms under an operator
module _ (left right : Judged Term) (span : Span) (deep_left deep_right ts us vs rest : ℕ) (taken : vs + 1 ≤ us)
    (first : (t : Term) → left ≡ Ok t → (length (operations_of t) + us ≤ ts) × (height_of t ≤ deep_left))
    (second : (t : Term) → right ≡ Ok t → (length (operations_of t) + rest ≤ vs) × (height_of t ≤ deep_right)) where
  joined_small : (o : Option StraightOperator) (l r : Judged Term) → left ≡ l → right ≡ r → (t : Term) → binary_term o l r span ≡ Ok t
      → (length (operations_of t) + rest ≤ ts) × (height_of t ≤ suc (max deep_left deep_right))
  joined_small None l r p q t h = absurd (not_both refl h)
  joined_small (Some o) (Err s) r p q t h = absurd (not_both refl h)
  joined_small (Some o) (Ok a) (Err s) p q t h = absurd (not_both refl h)
  joined_small (Some o) (Ok a) (Ok b) p q t h =
      let f = first a p in let s = second b q in
      let e : apply o a b ≡ t = cc in
      subst (λ t. (length (operations_of t) + rest ≤ ts) × (height_of t ≤ suc (max deep_left deep_right))) e
      (omega (arith, f.0, s.0, taken, pair (operations_of a) (operations_of b) (operation.Apply o)), omega (arith, f.1, s.1))

number_small : (value : Option ℕ) (span : Span) (rest deep : ℕ) → 1 ≤ deep → (t : Term) → number_term value span ≡ Ok t → (length (operations_of t) + rest ≤ suc rest) × (height_of t ≤ deep)
number_small None span rest deep d t h = absurd (not_both refl h)
number_small (Some n) span rest deep d t h =
    let e : number n ≡ t = cc in
    subst (λ t. (length (operations_of t) + rest ≤ suc rest) × (height_of t ≤ deep)) e (omega arith, omega (arith, d))

call_small : (b : Bool) (callee span : Span) (items : List Expression) (t : Term) → (if b then argument_term items span else Err callee) ≡ Ok t → (b ≡ true) × (argument_term items span ≡ Ok t)
call_small true callee span items t h = (refl, h)
call_small false callee span items t h = absurd (not_both refl h)

arguments_open : (items : List Expression) (span : Span) → out-Arguments (roll-Arguments (record { items = items; span = span })) ≡ record { items = items; span = span }
arguments_open items span = out-roll-Arguments (record { items = items; span = span })

abbrev Given : Arguments → List Classified → List Classified → Type 0
Given given ts rest = (t : Term) → argument_term (out-Arguments given).items (out-Arguments given).span ≡ Ok t → (length (operations_of t) + length rest ≤ length ts) × (height_of t ≤ arguments_depth given)

one_deep : (x : Expression) (span : Span) → arguments_depth (roll-Arguments (record { items = x ∷ []; span = span })) ≡ suc (max (expression_depth x) 0)
one_deep x span = fold-roll-Arguments ℕ ℕ expression_layer depth.arguments_layer (record { items = x ∷ []; span = span })

mutual
  pub expression_small : {x : Expression} {span : Span} {ts rest : List Classified} → ReadsExpression x span ts rest → Small x ts rest
  expression_small (g.assign p q r) = other _ (e.rolls-Assign _ _ _ _) tt
  expression_small (g.conditional p) = conditional_small p

  conditional_small : {x : Expression} {span : Span} {ts rest : List Classified} → ReadsConditional x span ts rest → Small x ts rest
  conditional_small (g.choice p q r) = other _ (e.rolls-Conditional _ _ _ _) tt
  conditional_small (g.binary p) = binary_small p

  binary_small : {n : ℕ} {x : Expression} {span : Span} {ts rest : List Classified} → ReadsBinary n x span ts rest → Small x ts rest
  binary_small (g.joined {operator = o} {left = l} {right = r} {first = f} {second = s} {ts = ts} {us = us} {vs = vs} {rest = rest} h p q k) =
      let a = binary_small p in let b = binary_small k in let c = operator_takes q in
      record {
        term = λ t h.
            let both = joined_small (term_of l) (term_of r) _ (expression_depth l) (expression_depth r) (length ts) (length us) (length vs) (length rest) c a.term b.term (arithmetic o) (term_of l) (term_of r) refl refl t (sym (binary_opens l o r _) ∙ h) in
            (both.0, rw (binary_deep l o r _) both.1);
        printed = λ t h. absurd (not_both (ap printed_layer (e.outs-Binary l o r _)) h);
        name = λ h. absurd (true≢false (sym h ∙ ap is_write_line (e.outs-Binary l o r _)));
      }
  binary_small (g.unary p) = unary_small p

  unary_small : {x : Expression} {span : Span} {ts rest : List Classified} → ReadsUnary x span ts rest → Small x ts rest
  unary_small (g.prefix p q) = other _ (e.rolls-Prefix _ _ _) tt
  unary_small (g.cast p q) = other _ (e.rolls-Cast _ _ _) tt
  unary_small (g.postfix p) = postfix_small p

  postfix_small : {x : Expression} {span : Span} {ts rest : List Classified} → ReadsPostfix x span ts rest → Small x ts rest
  postfix_small (g.primary p) = primary_small p
  postfix_small (g.index p q) = other _ (e.rolls-Index _ _ _) tt
  postfix_small (g.call {x = x} {given = given} p q) =
      let a = postfix_small p in let b = arguments_small q in
      record {
        term = λ t h. absurd (not_both (call_opens x given _) h);
        printed = λ t h.
            let parts = call_small (is_write_line (out-Expression x)) _ _ _ t (sym (ap printed_layer (e.outs-Call x given _)) ∙ h) in
            let few = a.name parts.0 in let one = b t parts.1 in
            (omega (arith, few, one.0), rw (call_deep x given _) (omega (arith, one.1)));
        name = λ h. absurd (true≢false (sym h ∙ ap is_write_line (e.outs-Call x given _)));
      }
  postfix_small (g.member p q r) = other _ (e.rolls-Member _ _ _ _ _) tt
  postfix_small (g.member_of p q r) = other _ (e.rolls-Member _ _ _ _ _) tt
  postfix_small (g.finaliser p q) = other _ (e.rolls-Finaliser _ _ _ _) tt
  postfix_small (g.step p q) = other _ (e.rolls-Postfix _ _ _) tt

  primary_small : {x : Expression} {span : Span} {ts rest : List Classified} → ReadsPrimary x span ts rest → Small x ts rest
  primary_small (g.number {value = value} {suffix = suffix} {radix = radix} {span = span} {rest = rest} p) = record {
    term = λ t h. number_small (number_value value suffix radix) span (length rest) _ (rw (number_deep value suffix radix span) (omega arith)) t (sym (number_opens value suffix radix span) ∙ h);
    printed = λ t h. absurd (not_both (ap printed_layer (e.outs-Number value suffix radix span)) h);
    name = λ h. absurd (true≢false (sym h ∙ ap is_write_line (e.outs-Number value suffix radix span)));
  }
  primary_small g.character = other _ (e.rolls-Character _ _) tt
  primary_small (g.strings p) = other _ (e.rolls-Strings _ _) tt
  primary_small g.true_ = other _ (e.rolls-True _) tt
  primary_small g.false_ = other _ (e.rolls-False _) tt
  primary_small g.nullptr = other _ (e.rolls-Nullptr _) tt
  primary_small g.this = other _ (e.rolls-This _) tt
  primary_small (g.group {x = x} p) =
      let a = expression_small p in
      record {
        term = λ t h. let one = a.term t (sym (group_opens x _) ∙ h) in (omega (arith, one.0), rw (group_deep x _) (omega (arith, one.1)));
        printed = λ t h. absurd (not_both (ap printed_layer (e.outs-Group x _)) h);
        name = λ h. absurd (true≢false (sym h ∙ ap is_write_line (e.outs-Group x _)));
      }
  primary_small (g.name p i) = other _ (e.rolls-Name _ _ _ _) tt
  primary_small (g.name_of p q) = other _ (e.rolls-Name _ _ _ _) tt
  primary_small (g.static_member p i) = record {
    term = λ t h. absurd (not_both (ap term_of (sym (e.rolls-StaticMember _ _ _)) ∙ fold-roll-Expression (Judged Term) Span term_layer arguments_layer (layer.StaticMember _ _ _)) h);
    printed = λ t h. absurd (not_both (ap printed_layer (e.outs-StaticMember _ _ _)) h);
    name = λ h. let a = core_takes p in omega (arith, a);
  }
  primary_small (g.construct p q) = other _ (e.rolls-Construct _ _ _) tt
  primary_small (g.new {of = of} {span = span} {gcnew = gcnew} p q r) = other (layer.New of None None (across gcnew.span span)) (e.rolls-New of None None (across gcnew.span span)) tt
  primary_small (g.new_with {of = of} {given = given} {gcnew = gcnew} {close = close} p q r) =
      other (layer.New of (Some given) None (across gcnew.span close.span)) (e.rolls-New of (Some given) None (across gcnew.span close.span)) tt
  primary_small (g.new_of {of = of} {elements = elements} {gcnew = gcnew} {close = close} p q) =
      other (layer.New of None (Some elements) (across gcnew.span close.span)) (e.rolls-New of None (Some elements) (across gcnew.span close.span)) tt
  primary_small (g.new_with_of {of = of} {given = given} {elements = elements} {gcnew = gcnew} {end = end} p q r) =
      other (layer.New of (Some given) (Some elements) (across gcnew.span end.span)) (e.rolls-New of (Some given) (Some elements) (across gcnew.span end.span)) tt
  primary_small (g.named_cast p q r) = other _ (e.rolls-NamedCast _ _ _ _) tt

  arguments_small : {before : Span} {given : Arguments} {ts rest : List Classified} → ReadsArguments before given ts rest → Given given ts rest
  arguments_small (g.none {before}) t h = absurd (not_both (ap (λ (a : Arguments-F Expression Arguments). argument_term a.items a.span) (arguments_open [] _)) h)
  arguments_small (g.some {span = span} (g.last {x = x} p)) t h =
      let one = (expression_small p).term t (sym (ap (λ (a : Arguments-F Expression Arguments). argument_term a.items a.span) (arguments_open (x ∷ []) span)) ∙ h) in
      (one.0, rw (one_deep x span) (omega (arith, one.1)))
  arguments_small (g.some {span = span} (g.more {x = x} p (g.last {x = y} q))) t h = absurd (not_both (ap (λ (a : Arguments-F Expression Arguments). argument_term a.items a.span) (arguments_open (x ∷ y ∷ []) span)) h)
  arguments_small (g.some {span = span} (g.more {x = x} p (g.more {x = y} {items = items} q r))) t h = absurd (not_both (ap (λ (a : Arguments-F Expression Arguments). argument_term a.items a.span) (arguments_open (x ∷ y ∷ items) span)) h)
