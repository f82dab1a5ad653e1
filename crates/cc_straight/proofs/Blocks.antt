-- How many tokens the lines and the result of a block take, and how many values they hold at a time.
use Rattle.std.proofs.Common.{◌≡◌, ◌≤◌, ◌+◌, ℕ, suc, List, [], ◌∷◌, ◌++◌, length, map, ◌∙◌, refl, sym, ap, subst, length-append, arith}
use Rattle.std.specs.Prelude.{Option, Some, None, Ok, Err, reverse}
use Rattle.std.specs.List.{flat_map, AllByRecursion}
use Rattle.std.proofs.lemmas.List.{reverse-reverse, reverse-append}
use Rattle.cc_base.specs.declared.text.Span.{Span}
use Rattle.cc_tree.specs.declared.expression.Expression.{Expression}
use Rattle.cc_tree.specs.declared.statement.Statement.{Statement, Statement-F, roll-Statement, fold-roll-Statement, out-roll-Statement}
use Rattle.cc_tree.specs.declared.statement.Statement.TheOpen as layer
use Rattle.cc_tree.specs.declared.statement.Statement.TheVariants as z
use Rattle.cc_tree.specs.declared.statement.Block.{Block, Block-F, out-Block, out-roll-Block, fold-roll-Block}
use Rattle.cc_tree.specs.declared.statement.Section.{Section}
use Rattle.cc_tree.specs.declared.statement.Catch.{Catch}
use Rattle.cc_tree.specs.Terminals.{Classified}
use Rattle.cc_tree.specs.Spans.{across}
use Rattle.cc_tree.specs.GrammarStatements as g
use Rattle.cc_tree.specs.GrammarStatements.{ReadsStatement, ReadsStatements, ReadsBlock}
use Rattle.cc_tree.specs.Depth.{greatest, expression_depth, statement_depth, statement_layer, block_depth, block_layer, catch_layer, section_layer}
use Rattle.cc_core.specs.declared.straight.StraightOperation.TheVariants as operation
use Rattle.cc_core.specs.StraightSource.{Term, operations_of, line_operations, Source, source_operations}
use Rattle.cc_straight.specs.Straight.{height_of}
use Rattle.cc_straight.specs.Form.{Judged, term_of, line_layer, line_term, line_terms, then_terms, returned_layer, returned, source, statements_source, turned_source, block_source}
use Rattle.cc_straight.proofs.Terms.{expression_small, not_both}

abbrev IsNone : Option Expression → Type 0
IsNone None = Unit {0}
IsNone (Some x) = ⊥

none_some : {o : Option Expression} {x : Expression} → o ≡ None → o ≡ Some x → ⊥
none_some p q = subst IsNone (sym p ∙ q) tt

pub record SmallLine (statement : Statement) (ts rest : List Classified) : Type 0 where
  pub line : (t : Term) → line_term statement ≡ Ok t → (length (operations_of t) + 1 + length rest ≤ length ts) × (height_of t ≤ statement_depth statement)
  pub value : (x : Expression) → returned statement ≡ Some x → (t : Term) → term_of x ≡ Ok t → (length (operations_of t) + 1 + length rest ≤ length ts) × (height_of t ≤ statement_depth statement)

abbrev IsOther : Statement-F Statement Block Catch Section → Type 0
IsOther (layer.Expression x span) = ⊥
IsOther (layer.Return x span) = ⊥
IsOther _ = Unit {0}

neither : {statement : Statement} {ts rest : List Classified} {span : Span} → line_term statement ≡ Err span → returned statement ≡ None → SmallLine statement ts rest
neither p q = record { line = λ t h. absurd (not_both p h); value = λ x h. absurd (none_some q h) }

other : {statement : Statement} (l : Statement-F Statement Block Catch Section) {ts rest : List Classified} → roll-Statement l ≡ statement → IsOther l → SmallLine statement ts rest
other (layer.Expression x span) r h = absurd h
other (layer.Return x span) r h = absurd h
other l r h = neither (ap line_term (sym r) ∙ ap line_layer (out-roll-Statement l)) (ap returned (sym r) ∙ ap returned_layer (out-roll-Statement l))

expression_deep : (x : Expression) (span : Span) → statement_depth (z.Expression x span) ≡ suc (expression_depth x)
expression_deep x span = ap statement_depth (sym (z.rolls-Expression x span)) ∙ fold-roll-Statement ℕ ℕ ℕ ℕ statement_layer block_layer catch_layer section_layer (layer.Expression x span)

return_deep : (x : Expression) (span : Span) → statement_depth (z.Return (Some x) span) ≡ suc (expression_depth x)
return_deep x span = ap statement_depth (sym (z.rolls-Return (Some x) span)) ∙ fold-roll-Statement ℕ ℕ ℕ ℕ statement_layer block_layer catch_layer section_layer (layer.Return (Some x) span)

pub statement_small : {statement : Statement} {span : Span} {ts rest : List Classified} → ReadsStatement statement span ts rest → SmallLine statement ts rest
statement_small (g.of_block p) = other _ (z.rolls-Block _) tt
statement_small g.empty = other _ (z.rolls-Empty _) tt
statement_small (g.local p) = other _ (z.rolls-Local _ _) tt
statement_small (g.expression {x = x} p) =
    let a = expression_small p in
    record {
      line = λ t h. let one = a.printed t (sym (ap line_layer (z.outs-Expression x _)) ∙ h) in (omega (arith, one.0), rw (expression_deep x _) (omega (arith, one.1)));
      value = λ y h. absurd (none_some (ap returned_layer (z.outs-Expression x _)) h);
    }
statement_small (g.delete p) = other _ (z.rolls-Delete _ _) tt
statement_small (g.if_alone p q r) = other _ (z.rolls-If _ _ None _) tt
statement_small (g.if_else {other = second} p q r) = other _ (z.rolls-If _ _ (Some second) _) tt
statement_small (g.while p q) = other _ (z.rolls-While _ _ _) tt
statement_small (g.do_ p q) = other _ (z.rolls-Do _ _ _) tt
statement_small (g.for p q r u) = other _ (z.rolls-For _ _ _ _ _) tt
statement_small (g.for_each p q r u) = other _ (z.rolls-ForEach _ _ _ _ _) tt
statement_small (g.switch p q) = other _ (z.rolls-Switch _ _ _) tt
statement_small g.break = other _ (z.rolls-Break _) tt
statement_small g.continue = other _ (z.rolls-Continue _) tt
statement_small (g.return {x = None} p) = record {
  line = λ t h. absurd (not_both (ap line_layer (z.outs-Return None _)) h);
  value = λ y h. absurd (none_some (ap returned_layer (z.outs-Return None _)) h);
}
statement_small (g.return {x = Some x} (g.some p)) =
    let a = expression_small p in
    record {
      line = λ t h. absurd (not_both (ap line_layer (z.outs-Return (Some x) _)) h);
      value = λ y h t k.
          let e : Some x ≡ Some y = sym (ap returned_layer (z.outs-Return (Some x) _)) ∙ h in
          let same : x ≡ y = cc in
          let one = a.term t (ap term_of same ∙ k) in
          (omega (arith, one.0), rw (return_deep x _) (omega (arith, one.1)));
    }
statement_small (g.throw {x = x} p) = other _ (z.rolls-Throw x _) tt
statement_small (g.try_catch {catch_ = one} {catches = catches} p q) = other _ (z.rolls-Try _ (one ∷ catches) None _) tt
statement_small (g.try_finally {at_last = at_last} {catches = catches} p q r) = other _ (z.rolls-Try _ catches (Some at_last) _) tt

-- The operations of lines are at most their tokens, and no line holds more values than the most.
pub record SmallLines (most : ℕ) (terms : List Term) (ts rest : List Classified) : Type 0 where
  pub few : length (flat_map line_operations terms) + length rest ≤ length ts
  pub low : AllByRecursion (λ t. height_of t ≤ most) terms

line_length : (t : Term) → length (line_operations t) ≡ length (operations_of t) + 1
line_length t = length-append (operations_of t) (operation.WriteLine ∷ [])

next_small : {most : ℕ} {ts us rest : List Classified} (line : Judged Term) (later : Judged (List Term)) (terms : List Term) → then_terms line later ≡ Ok terms
    → ((t : Term) → line ≡ Ok t → (length (operations_of t) + 1 + length us ≤ length ts) × (height_of t ≤ most)) → ((all : List Term) → later ≡ Ok all → SmallLines most all us rest) → SmallLines most terms ts rest
next_small (Err span) later terms h first others = absurd (not_both refl h)
next_small (Ok t) (Err span) terms h first others = absurd (not_both refl h)
next_small {most} {ts} {us} {rest} (Ok t) (Ok all) terms h first others =
    let one = first t refl in let more = others all refl in
    let e : t ∷ all ≡ terms = cc in
    let a = more.few in
    subst (λ all. SmallLines most all ts rest) e (record {
      few = rw length-append (omega (arith, a, one.0, line_length t));
      low = (one.1, more.low);
    })

pub lines_small : {statements : List Statement} {ts rest : List Classified} (most : ℕ) → ReadsStatements statements ts rest → greatest (map statement_depth statements) ≤ most → (terms : List Term) → line_terms statements ≡ Ok terms → SmallLines most terms ts rest
lines_small {rest = rest} most g.no_statement deep terms h =
    let e : [] ≡ terms = cc in
    subst (λ all. SmallLines most all rest rest) e (record { few = omega arith; low = tt })
lines_small most (g.next_statement {statement = statement} {statements = statements} p q) deep terms h =
    let a = statement_small p in
    next_small (line_term statement) (line_terms statements) terms h (λ t k. let one = a.line t k in (one.0, omega (arith, one.1, deep))) (λ all k. lines_small most q (omega (arith, deep)) all k)

split_statements : (lines : List Statement) (last : Statement) {ts rest : List Classified} → ReadsStatements (lines ++ last ∷ []) ts rest
    → (us : List Classified) × (span : Span) × ReadsStatements lines ts us × ReadsStatement last span us rest
split_statements [] last {ts} (g.next_statement {span = span} p g.no_statement) = (ts, span, g.no_statement, p)
split_statements (line ∷ lines) last (g.next_statement p q) = let r = split_statements lines last q in (r.0, r.1, g.next_statement p r.2, r.3)

deep_parts : (lines : List Statement) (last : Statement) (most : ℕ) → greatest (map statement_depth (lines ++ last ∷ [])) ≤ most → (greatest (map statement_depth lines) ≤ most) × (statement_depth last ≤ most)
deep_parts [] last most h = (omega arith, omega (arith, h))
deep_parts (line ∷ lines) last most h = let r = deep_parts lines last most (omega (arith, h)) in (omega (arith, h, r.0), r.1)

-- The operations of a source are at most its tokens, and no term of it holds more values than the most.
pub record SmallSource (most : ℕ) (s : Source) (ts rest : ℕ) : Type 0 where
  pub few : length (source_operations s) + rest ≤ ts
  pub lines_low : AllByRecursion (λ t. height_of t ≤ most) s.lines
  pub result_low : height_of s.result ≤ most

source_small : (most : ℕ) (ts us rest : List Classified) (lines : Judged (List Term)) (value : Judged Term) (s : Source) → source lines value ≡ Ok s → ((terms : List Term) → lines ≡ Ok terms → SmallLines most terms ts us)
    → ((t : Term) → value ≡ Ok t → (length (operations_of t) + 1 + length rest ≤ length us) × (height_of t ≤ most)) → SmallSource most s (length ts) (length rest)
source_small most ts us rest (Err span) value s h first second = absurd (not_both refl h)
source_small most ts us rest (Ok terms) (Err span) s h first second = absurd (not_both refl h)
source_small most ts us rest (Ok terms) (Ok t) s h first second =
    let e : record { lines = terms; result = t } ≡ s = cc in
    let a = first terms refl in let few = a.few in let one = second t refl in
    let size = length-append (flat_map line_operations terms ++ operations_of t) (operation.Return ∷ []) ∙ ap (λ n. n + 1) (length-append (flat_map line_operations terms) (operations_of t)) in
    subst (λ s. SmallSource most s (length ts) (length rest)) e (record {
      few = omega (arith, few, one.0, size);
      lines_low = a.low;
      result_low = one.1;
    })

module _ (most : ℕ) (statements : List Statement) (span : Span) (ts rest : List Classified) (p : ReadsStatements statements ts rest) (deep : greatest (map statement_depth statements) ≤ most) (s : Source) where
  by_parts : (lines : List Statement) (last : Statement) (value : Option Expression) → statements ≡ lines ++ last ∷ [] → returned last ≡ value → statements_source span lines value ≡ Ok s → SmallSource most s (length ts) (length rest)
  by_parts lines last None e k h = absurd (not_both refl h)
  by_parts lines last (Some x) e k h =
      let parts = split_statements lines last (subst (λ all. ReadsStatements all ts rest) e p) in
      let depths = deep_parts lines last most (subst (λ all. greatest (map statement_depth all) ≤ most) e deep) in
      let end = statement_small parts.3 in
      source_small most ts parts.0 rest (line_terms lines) (term_of x) s h (λ terms q. lines_small most parts.2 depths.0 terms q)
      (λ t q. let one = end.value x k t q in (one.0, omega (arith, one.1, depths.1)))

  pub by_turned : (turned : List Statement) → reverse statements ≡ turned → turned_source span turned ≡ Ok s → SmallSource most s (length ts) (length rest)
  by_turned [] e h = absurd (not_both refl h)
  by_turned (last ∷ before) e h =
      by_parts (reverse before) last (returned last) (sym (reverse-reverse statements) ∙ ap reverse e ∙ reverse-append (last ∷ []) before) refl h

block_open : (statements : List Statement) (span : Span) → out-Block (g.block statements span) ≡ record { statements = statements; span = span }
block_open statements span = out-roll-Block (record { statements = statements; span = span })

block_deep : (statements : List Statement) (span : Span) → block_depth (g.block statements span) ≡ suc (greatest (map statement_depth statements))
block_deep statements span = fold-roll-Block ℕ ℕ ℕ ℕ statement_layer block_layer catch_layer section_layer (record { statements = statements; span = span })

pub block_small : {body : Block} {span : Span} {ts rest : List Classified} (most : ℕ) → ReadsBlock body span ts rest → block_depth body ≤ most → (s : Source) → block_source body ≡ Ok s → SmallSource most s (length ts) (length rest)
block_small most (g.block_ {statements = statements} {open_ = open_} {close = close} {ts = ts} {rest = rest} p) deep s h =
    let same = ap (λ (b : Block-F Statement Block Catch Section). turned_source b.span (reverse b.statements)) (block_open statements (across open_.span close.span)) in
    let size = block_deep statements (across open_.span close.span) in
    let a = by_turned most statements (across open_.span close.span) ts _ p (omega (arith, deep, size)) s (reverse statements) refl (sym same ∙ h) in
    let few = a.few in
    record { few = omega (arith, few); lines_low = a.lines_low; result_low = a.result_low }
