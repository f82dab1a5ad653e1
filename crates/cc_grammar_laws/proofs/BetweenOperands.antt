-- The operators between operands, and what stands behind a name where `<` follows.
use Rattle.std.proofs.Common.{◌≡◌, ◌∙◌, sym, ap, subst, refl, ℕ, List, [], ◌∷◌, ◌++◌, ◌≤◌, ◌<◌, ◌+◌, arith}
use Rattle.std.specs.Prelude.{Option, Some, None, true, false, cond, leb, nat_eq, unwrap_or}
use Rattle.cc_tree.specs.declared.token.Token.{Token}
use Rattle.cc_tree.specs.declared.terminal.Terminal.TheVariants as t
use Rattle.cc_tree.specs.declared.terminal.Sign.{Sign}
use Rattle.cc_tree.specs.declared.terminal.Sign.TheVariants as s
use Rattle.cc_tree.specs.declared.expression.BinaryOperator.{BinaryOperator}
use Rattle.cc_tree.specs.declared.expression.BinaryOperator.TheVariants as b
use Rattle.cc_tree.specs.Spans.{across}
use Rattle.cc_tree.specs.Terminals.{Classified, at}
use Rattle.cc_tree.specs.Operators as op
use Rattle.cc_tree.specs.Operators.{assignment_operator, binary_operator, prefix_operator, postfix_operator, selector, cast_word, level, ReadsOperator}
use Rattle.cc_table.specs.declared.symbols.Sort.{Sort}
use Rattle.cc_table.specs.declared.symbols.Sort.TheVariants as o
use Rattle.cc_table.specs.declared.symbols.Action.{Action}
use Rattle.cc_table.specs.declared.symbols.Action.TheVariants as a
use Rattle.cc_table.specs.Table.{otherwise}
use Rattle.cc_table.specs.declared.symbols.Input.{Input}
use Rattle.cc_table.specs.declared.symbols.Input.TheVariants as i
use Rattle.cc_table.specs.declared.symbols.Symbol.{Symbol}
use Rattle.cc_table.specs.declared.symbols.Symbol.TheVariants.{Non, Act, Back}
use Rattle.cc_pushdown.specs.declared.value.Value.{Value}
use Rattle.cc_pushdown.specs.declared.value.Value.TheVariants as v
use Rattle.cc_pushdown.specs.Build.{build}
use Rattle.cc_pushdown.specs.Machine.{Fed, fed, At, begins, joins, operator_part}
use Rattle.cc_grammar_laws.specs.Read.{read, Passes}
use Rattle.cc_grammar_laws.proofs.Meets.{Meets, same, ahead, behind, then, turn, pass, pass_fed, Plain, LooksAt, look, put_fed}
use Rattle.cc_grammar_laws.proofs.Heads.{Heads, IsOperand, plain_name, function_name, operand_type}
use Rattle.std.proofs.lemmas.Bool.{le-leb}
use Rattle.std.proofs.lemmas.Bool.Decides.{leb_tells}
use Rattle.cc_grammar_laws.proofs.Starts.{IsNothing, not_some, NotGreater, TokenFirst, TypeFirst, Starts, token, operand}

-- the `<` at the head, and what follows it
abbrev pub less_at : List Classified → Option (Token × List Classified)
less_at (at (t.Sign s.Less) k ∷ us) = Some (k, us)
less_at _ = None

abbrev pub less_value : Token → Value
less_value k = v.Mark (record { terminal = t.Sign s.Less; span = k.span })

-- Where a `<` follows, an expression follows it, and what is expected reads on whether its operand was put back or not.
abbrev pub Tolerates : List Symbol → Option (Token × List Classified) → Type 0
Tolerates more None = Unit {0}
Tolerates more (Some (k, us)) = Starts us × ((input : Input) (value : Value) (fs : List Fed) → TypeFirst us → IsOperand input → Heads us input value fs → (vs : List Value)
    → Meets (At more vs (fed (i.Token (t.Sign s.Less)) (less_value k) ∷ fed input value ∷ fs)) (At more vs (fed (i.Token (t.Sign s.Less)) (less_value k) ∷ read us)))

pub tolerates_nothing : (more : List Symbol) (q : Option (Token × List Classified)) → IsNothing (Token × List Classified) q → Tolerates more q
tolerates_nothing more None h = tt
tolerates_nothing more (Some one) h = absurd h

pub tolerates_act : (action : Action) (more : List Symbol) (q : Option (Token × List Classified)) → Tolerates more q → Tolerates (Act action ∷ more) q
tolerates_act action more None h = tt
tolerates_act action more (Some (k, us)) h = (h.0, λ input value fs f j heads vs. ahead (behind (h.1 input value fs f j heads (build action vs))))

pub tolerates_pass : (sort : Sort) (part : List Symbol) → Plain sort → otherwise sort ≡ Some part → begins sort (i.Token (t.Sign s.Less)) ≡ None
    → (more : List Symbol) (q : Option (Token × List Classified)) → Tolerates (part ++ more) q → Tolerates (Non sort ∷ more) q
tolerates_pass sort part simple e f more None h = tt
tolerates_pass sort part simple e f more (Some (k, us)) h = (
  h.0,
  λ input value fs first j heads vs. then (pass_fed sort part simple e (fed (i.Token (t.Sign s.Less)) (less_value k) ∷ fed input value ∷ fs) f more vs)
      (then (h.1 input value fs first j heads vs) (turn (pass_fed sort part simple e (fed (i.Token (t.Sign s.Less)) (less_value k) ∷ read us) f more vs))),
)

looks_operand : (input : Input) (value : Value) (fs : List Fed) → IsOperand input → (more : List Symbol) (vs : List Value)
    → Meets (At (Non o.Unary ∷ more) vs (fed input value ∷ fs)) (At (Non o.Operand ∷ Non o.SuffixRest ∷ more) vs (fed input value ∷ fs))
looks_operand _ value fs plain_name more vs = ahead same
looks_operand _ value fs function_name more vs = ahead same
looks_operand _ value fs operand_type more vs = ahead same

pub operand_read : (ts : List Classified) (input : Input) (value : Value) (fs : List Fed) → TypeFirst ts → Heads ts input value fs → (more : List Symbol) (vs : List Value)
    → Meets (At (Non o.Unary ∷ more) vs (read ts)) (At (Non o.Operand ∷ Non o.SuffixRest ∷ more) vs (fed input value ∷ fs))
operand_read ts input value fs f heads more vs = then (look o.Unary (Non o.TypeOrName ∷ Non o.Operand ∷ Non o.SuffixRest ∷ []) (λ a b c. refl) ts f.4 more vs) (heads (Non o.Operand ∷ Non o.SuffixRest ∷ more) vs)

pub operand_unary : (ts : List Classified) (input : Input) (value : Value) (fs : List Fed) → TypeFirst ts → IsOperand input → Heads ts input value fs → (more : List Symbol) (vs : List Value)
    → Meets (At (Non o.Unary ∷ more) vs (fed input value ∷ fs)) (At (Non o.Unary ∷ more) vs (read ts))
operand_unary ts input value fs f j heads more vs = then (looks_operand input value fs j more vs) (turn (operand_read ts input value fs f heads more vs))

passes_expression : (ts : List Classified) → Passes o.Expression ts
passes_expression [] = tt
passes_expression (at terminal k ∷ ts) = refl

pub expression_unary : (ts : List Classified) (more : List Symbol) (vs : List Value) → Meets (At (Non o.Expression ∷ more) vs (read ts)) (At (Non o.Unary ∷ Non o.AfterUnary ∷ more) vs (read ts))
expression_unary ts more vs = pass o.Expression (Non o.Unary ∷ Non o.AfterUnary ∷ []) (λ a b c. refl) refl ts (passes_expression ts) more vs

pub operand_expression : (ts : List Classified) (input : Input) (value : Value) (fs : List Fed) → TypeFirst ts → IsOperand input → Heads ts input value fs → (more : List Symbol) (vs : List Value)
    → Meets (At (Non o.Expression ∷ more) vs (fed input value ∷ fs)) (At (Non o.Expression ∷ more) vs (read ts))
operand_expression ts input value fs f j heads more vs = ahead (then (operand_unary ts input value fs f j heads (Non o.AfterUnary ∷ more) vs) (turn (expression_unary ts more vs)))

less_starts : (sort chooser : Sort) (part : List Symbol) → Plain sort → Plain chooser
    → otherwise sort ≡ Some (Back (i.Token (t.Sign s.Less)) ∷ part) → otherwise chooser ≡ Some (Back (i.Token (t.Sign s.Less)) ∷ part)
    → ((input : Input) → IsOperand input → begins chooser input ≡ None)
    → (k : Token) (us : List Classified) → (TokenFirst us → Passes sort us) → (TypeFirst us → LooksAt sort (Non o.TypeOrName ∷ Non chooser ∷ []) us)
    → (more : List Symbol) (vs : List Value) → Tolerates (part ++ more) (Some (k, us)) → Starts us
    → Meets (At (Non sort ∷ more) (less_value k ∷ vs) (read us)) (At (part ++ more) vs (read (at (t.Sign s.Less) k ∷ us)))
less_starts sort chooser part simple plainly e f none k us first second more vs h (token c l) =
    then (pass sort (Back (i.Token (t.Sign s.Less)) ∷ part) simple e us (first l) more (less_value k ∷ vs)) (ahead same)
less_starts sort chooser part simple plainly e f none k us first second more vs h (operand {input} {value} {fs} c l j heads) =
    then (look sort (Non o.TypeOrName ∷ Non chooser ∷ []) simple us (second l) more (less_value k ∷ vs))
    (then (heads (Non chooser ∷ more) (less_value k ∷ vs))
    (then (pass_fed chooser (Back (i.Token (t.Sign s.Less)) ∷ part) plainly f (fed input value ∷ fs) (none input j) more (less_value k ∷ vs)) (ahead (h.1 input value fs l j heads vs))))

-- A `<` behind a name, with what follows it, is put back where it begins no arguments.
pub less_back : (sort chooser : Sort) (part : List Symbol) → Plain sort → Plain chooser
    → otherwise sort ≡ Some (Back (i.Token (t.Sign s.Less)) ∷ part) → otherwise chooser ≡ Some (Back (i.Token (t.Sign s.Less)) ∷ part)
    → ((input : Input) → IsOperand input → begins chooser input ≡ None)
    → (k : Token) (us : List Classified) → (TokenFirst us → Passes sort us) → (TypeFirst us → LooksAt sort (Non o.TypeOrName ∷ Non chooser ∷ []) us)
    → (more : List Symbol) (vs : List Value) → Tolerates (part ++ more) (Some (k, us))
    → Meets (At (Non sort ∷ more) (less_value k ∷ vs) (read us)) (At (part ++ more) vs (read (at (t.Sign s.Less) k ∷ us)))
less_back sort chooser part simple plainly e f none k us first second more vs h = less_starts sort chooser part simple plainly e f none k us first second more vs h h.0

-- An operator, with the signs that it consists of, as one input.
abbrev pub Folded : BinaryOperator → List Classified → List Classified → Type 0
Folded operator us ws = (input : Input) × (value : Value) × ((l : ℕ) → begins (o.BinaryRest l) input ≡ operator_part l operator)
    × ((l : ℕ) (more : List Symbol) (vs : List Value) → Meets (At (Non (o.BinaryRest l) ∷ more) vs (read us)) (At (Non (o.BinaryRest l) ∷ more) vs (fed input value ∷ read ws)))

pub some_same : {A : Type 0} {one other : A} → Some one ≡ Some other → one ≡ other
some_same {A} {one} e = ap (λ q. unwrap_or q one) e

not_touching : (ws : List Classified) → NotGreater ws → (more : List Symbol) (vs : List Value) → Meets (At (Non o.GreaterEnd ∷ more) vs (read ws)) (At (Back i.RelationalGreater ∷ more) vs (read ws))
not_touching [] h more vs = ahead same
not_touching (at (t.Sign s.Greater) k ∷ ws) h more vs = absurd h
not_touching (at _ k ∷ ws) h more vs = ahead same

greater_folds : (operator : BinaryOperator) (k : Token) (ws : List Classified) → b.Greater ≡ operator → NotGreater ws → Folded operator (at (t.Sign s.Greater) k ∷ ws) ws
greater_folds operator k ws e h = (
  i.RelationalGreater,
  v.Mark (record { terminal = t.Sign s.Greater; span = k.span }),
  (λ l. ap (operator_part l) e),
  λ l more vs. ahead (then (not_touching ws h (Non (o.BinaryRest l) ∷ more) (v.Mark (record { terminal = t.Sign s.Greater; span = k.span }) ∷ vs)) (ahead same)),
)

sign_folds : (sign : Sign) (operator : BinaryOperator) (k : Token) (ws : List Classified) → binary_operator sign ≡ Some operator → NotGreater ws → Folded operator (at (t.Sign sign) k ∷ ws) ws
sign_folds s.Greater operator k ws e h = greater_folds operator k ws (some_same e) h
sign_folds s.LogicalOr operator k ws e h = (i.Token (t.Sign s.LogicalOr), _, (λ l. ap (operator_part l) (some_same e)), λ l more vs. same)
sign_folds s.LogicalAnd operator k ws e h = (i.Token (t.Sign s.LogicalAnd), _, (λ l. ap (operator_part l) (some_same e)), λ l more vs. same)
sign_folds s.Bar operator k ws e h = (i.Token (t.Sign s.Bar), _, (λ l. ap (operator_part l) (some_same e)), λ l more vs. same)
sign_folds s.Caret operator k ws e h = (i.Token (t.Sign s.Caret), _, (λ l. ap (operator_part l) (some_same e)), λ l more vs. same)
sign_folds s.Ampersand operator k ws e h = (i.Token (t.Sign s.Ampersand), _, (λ l. ap (operator_part l) (some_same e)), λ l more vs. same)
sign_folds s.Equal operator k ws e h = (i.Token (t.Sign s.Equal), _, (λ l. ap (operator_part l) (some_same e)), λ l more vs. same)
sign_folds s.NotEqual operator k ws e h = (i.Token (t.Sign s.NotEqual), _, (λ l. ap (operator_part l) (some_same e)), λ l more vs. same)
sign_folds s.Less operator k ws e h = (i.Token (t.Sign s.Less), _, (λ l. ap (operator_part l) (some_same e)), λ l more vs. same)
sign_folds s.LessOrEqual operator k ws e h = (i.Token (t.Sign s.LessOrEqual), _, (λ l. ap (operator_part l) (some_same e)), λ l more vs. same)
sign_folds s.GreaterOrEqual operator k ws e h = (i.Token (t.Sign s.GreaterOrEqual), _, (λ l. ap (operator_part l) (some_same e)), λ l more vs. same)
sign_folds s.ShiftLeft operator k ws e h = (i.Token (t.Sign s.ShiftLeft), _, (λ l. ap (operator_part l) (some_same e)), λ l more vs. same)
sign_folds s.Plus operator k ws e h = (i.Token (t.Sign s.Plus), _, (λ l. ap (operator_part l) (some_same e)), λ l more vs. same)
sign_folds s.Minus operator k ws e h = (i.Token (t.Sign s.Minus), _, (λ l. ap (operator_part l) (some_same e)), λ l more vs. same)
sign_folds s.Star operator k ws e h = (i.Token (t.Sign s.Star), _, (λ l. ap (operator_part l) (some_same e)), λ l more vs. same)
sign_folds s.Slash operator k ws e h = (i.Token (t.Sign s.Slash), _, (λ l. ap (operator_part l) (some_same e)), λ l more vs. same)
sign_folds s.Percent operator k ws e h = (i.Token (t.Sign s.Percent), _, (λ l. ap (operator_part l) (some_same e)), λ l more vs. same)
sign_folds _ operator k ws e h = absurd (not_some e)

touching : (a b : ℕ) → a ≡ b → nat_eq a b ≡ true
touching a b e = grind (e, arith)

pub operator_folds : {operator : BinaryOperator} {us ws : List Classified} → ReadsOperator operator us ws → NotGreater ws → Folded operator us ws
operator_folds (op.sign {sign} {operator} {k} {rest} e) h = sign_folds sign operator k rest e h
operator_folds (op.shift_right {first} {second} {rest} e) h =
    (i.ShiftRight, v.Mark (record { terminal = t.Sign s.Greater; span = across first.span second.span }), (λ l. refl), λ l more vs. ahead (ahead (rw (touching first.span.past second.span.first e) (ahead (ahead same)))))

pub takes_operator : (operator : BinaryOperator) (us ws : List Classified) → Folded operator us ws → (n : ℕ) → n ≤ level operator → (more : List Symbol) (vs : List Value)
    → Meets (At (Non (o.BinaryRest n) ∷ more) vs (read us)) (At (Non o.Unary ∷ Non (o.BinaryRest (level operator + 1)) ∷ Act a.MakeBinary ∷ Non (o.BinaryRest n) ∷ more) (v.Operator operator ∷ vs) (read ws))
takes_operator operator us ws (input, value, e, p) n h more vs =
    then (p n more vs) (put_fed (o.BinaryRest n) (joins operator (Non o.Unary ∷ Non (o.BinaryRest (level operator + 1)) ∷ Act a.MakeBinary ∷ Non (o.BinaryRest n) ∷ [])) (λ a b c. refl) input value (read ws)
    (e n ∙ ap (λ q. cond q (Some (joins operator (Non o.Unary ∷ Non (o.BinaryRest (level operator + 1)) ∷ Act a.MakeBinary ∷ Non (o.BinaryRest n) ∷ []))) None) (le-leb n (level operator) h)) more vs)

not_leb : (l m : ℕ) → m < l → leb l m ≡ false
not_leb l m h = grind (leb_tells l m, arith)

pub drops_operator : (operator : BinaryOperator) (us ws : List Classified) → Folded operator us ws → (l n : ℕ) → level operator < l → (more : List Symbol) (vs : List Value)
    → Meets (At (Non (o.BinaryRest l) ∷ Act a.MakeBinary ∷ Non (o.BinaryRest n) ∷ more) vs (read us)) (At (Act a.MakeBinary ∷ Non (o.BinaryRest n) ∷ more) vs (read us))
drops_operator operator us ws (input, value, e, p) l n h more vs =
    then (p l (Act a.MakeBinary ∷ Non (o.BinaryRest n) ∷ more) vs)
    (then (pass_fed (o.BinaryRest l) [] (λ a b c. refl) refl (fed input value ∷ read ws) (e l ∙ ap (λ q. cond q (Some (joins operator (Non o.Unary ∷ Non (o.BinaryRest (level operator + 1)) ∷ Act a.MakeBinary ∷ Non (o.BinaryRest l) ∷ []))) None) (not_leb l (level operator) h)) (Act a.MakeBinary ∷ Non (o.BinaryRest n) ∷ more) vs)
    (ahead (behind (turn (p n more (build a.MakeBinary vs))))))

less_joins : (n : ℕ) → n ≤ 7 → (k : Token) (us : List Classified) → Starts us → (more : List Symbol) → Tolerates (Non (o.BinaryRest n) ∷ more) (Some (k, us))
less_joins n h k us st more =
    let part : List Symbol = Non o.Unary ∷ Non (o.BinaryRest 8) ∷ Act a.MakeBinary ∷ Non (o.BinaryRest n) ∷ [] in
    let e : begins (o.BinaryRest n) (i.Token (t.Sign s.Less)) ≡ Some (joins b.Less part) = ap (λ q. cond q (Some (joins b.Less part)) None) (le-leb n 7 h) in (
      st,
      λ input value fs f j heads vs. then (put_fed (o.BinaryRest n) (joins b.Less part) (λ a b c. refl) (i.Token (t.Sign s.Less)) (less_value k) (fed input value ∷ fs) e more vs)
          (then (operand_unary us input value fs f j heads (Non (o.BinaryRest 8) ∷ Act a.MakeBinary ∷ Non (o.BinaryRest n) ∷ more) (v.Operator b.Less ∷ vs))
          (turn (put_fed (o.BinaryRest n) (joins b.Less part) (λ a b c. refl) (i.Token (t.Sign s.Less)) (less_value k) (read us) e more vs))),
    )

sign_tolerates : (sign : Sign) (operator : BinaryOperator) (k : Token) (ws : List Classified) → binary_operator sign ≡ Some operator → (n : ℕ) → n ≤ level operator → Starts ws → (more : List Symbol)
    → Tolerates (Non (o.BinaryRest n) ∷ more) (less_at (at (t.Sign sign) k ∷ ws))
sign_tolerates s.Less operator k ws e n h st more = less_joins n (subst (λ q. n ≤ level q) (sym (some_same e)) h) k ws st more
sign_tolerates _ operator k ws e n h st more = tt

pub operator_tolerates : {operator : BinaryOperator} {us ws : List Classified} → ReadsOperator operator us ws → (n : ℕ) → n ≤ level operator → Starts ws → (more : List Symbol)
    → Tolerates (Non (o.BinaryRest n) ∷ more) (less_at us)
operator_tolerates (op.sign {sign} {operator} {k} {rest} e) n h st more = sign_tolerates sign operator k rest e n h st more
operator_tolerates (op.shift_right e) n h st more = tt

-- where a `<` stands, operators as loose as it may stand
abbrev pub LessLevel : ℕ → Option (Token × List Classified) → Type 0
LessLevel m None = Unit {0}
LessLevel m (Some one) = 7 ≤ m

sign_level : (sign : Sign) (operator : BinaryOperator) (k : Token) (ws : List Classified) → binary_operator sign ≡ Some operator → LessLevel (level operator) (less_at (at (t.Sign sign) k ∷ ws))
sign_level s.Less operator k ws e = subst (λ q. 7 ≤ level q) (some_same e) (omega arith)
sign_level _ operator k ws e = tt

operator_level : {operator : BinaryOperator} {us ws : List Classified} → ReadsOperator operator us ws → LessLevel (level operator) (less_at us)
operator_level (op.sign {sign} {operator} {k} {rest} e) = sign_level sign operator k rest e
operator_level (op.shift_right e) = tt

-- what may follow an operand of a level: nothing that a tighter level would take
abbrev pub Ends : ℕ → List Classified → Type 0
Ends m rest = ((l n : ℕ) (more : List Symbol) (vs : List Value) → m < l → Meets (At (Non (o.BinaryRest l) ∷ Act a.MakeBinary ∷ Non (o.BinaryRest n) ∷ more) vs (read rest)) (At (Act a.MakeBinary ∷ Non (o.BinaryRest n) ∷ more) vs (read rest)))
    × LessLevel m (less_at rest)

pub operator_ends : {operator : BinaryOperator} {us ws : List Classified} → ReadsOperator operator us ws → NotGreater ws → Ends (level operator) us
operator_ends {operator} {us} {ws} p h = ((λ l n more vs lt. drops_operator operator us ws (operator_folds p h) l n lt more vs), operator_level p)

level_grows : (m l : ℕ) (q : Option (Token × List Classified)) → m ≤ l → LessLevel m q → LessLevel l q
level_grows m l None h i = tt
level_grows m l (Some one) h i = omega (h, i, arith)

pub ends_grow : (m l : ℕ) (rest : List Classified) → m ≤ l → Ends m rest → Ends l rest
ends_grow m l rest h e = ((λ j n more vs lt. e.0 j n more vs (omega (h, lt, arith))), level_grows m l (less_at rest) h e.1)

-- Behind a looser operand, what is expected reads on past a tighter level.
pub tolerates_level : (m l n : ℕ) → m < l → (more : List Symbol) (q : Option (Token × List Classified)) → LessLevel m q → Tolerates (Non (o.BinaryRest n) ∷ more) q → Tolerates (Non (o.BinaryRest l) ∷ Act a.MakeBinary ∷ Non (o.BinaryRest n) ∷ more) q
tolerates_level m l n lt more None h i = tt
tolerates_level m l n lt more (Some (k, us)) h i =
    tolerates_pass (o.BinaryRest l) [] (λ a b c. refl) refl (ap (λ q. cond q (Some (joins b.Less (Non o.Unary ∷ Non (o.BinaryRest 8) ∷ Act a.MakeBinary ∷ Non (o.BinaryRest l) ∷ []))) None) (not_leb l 7 (omega (h, lt, arith)))) (Act a.MakeBinary ∷ Non (o.BinaryRest n) ∷ more) (Some (k, us))
    (tolerates_act a.MakeBinary (Non (o.BinaryRest n) ∷ more) (Some (k, us)) i)
