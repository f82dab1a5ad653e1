-- Tokens that complete what is expected behind an operator and its right operand.
use Rattle.std.proofs.Common.{◌≡◌, ◌≤◌, ◌<◌, arith, sym, subst, true≢false, ℕ, List, [], ◌∷◌, true, false, leb, ◌||◌, ◌⊎◌, inl, inr}
use Rattle.std.proofs.lemmas.Bool.Decides.{leb_tells}
use Rattle.cc_base.specs.declared.text.Span.{Span}
use Rattle.cc_tree.specs.declared.expression.Expression.{Expression}
use Rattle.cc_tree.specs.declared.expression.Expression.TheVariants as e
use Rattle.cc_tree.specs.declared.expression.BinaryOperator.{BinaryOperator}
use Rattle.cc_tree.specs.Spans.{across}
use Rattle.cc_tree.specs.Operators.{level}
use Rattle.cc_tree.specs.GrammarExpressions as x
use Rattle.cc_table.specs.declared.symbols.Sort.TheVariants as o
use Rattle.cc_table.specs.declared.symbols.Symbol.{Symbol}
use Rattle.cc_table.specs.declared.symbols.Symbol.TheVariants.{Non, Act, Back}
use Rattle.cc_pushdown.specs.declared.value.Node.{Node}
use Rattle.cc_pushdown.specs.declared.value.Value.{Value}
use Rattle.cc_pushdown.specs.declared.value.Value.TheVariants as v
use Rattle.cc_pushdown.specs.Build.{build}
use Rattle.cc_grammar_laws.proofs.ExpressionParts.{expressed}
use Rattle.cc_grammar_laws.proofs.AbleSymbols.{goes, head, Formed, formed_ok}
use Rattle.cc_grammar_laws.proofs.Tokens.{Given, mild_stops}
use Rattle.cc_grammar_laws.proofs.AbleKnown.{whole, Goes, CanGo, Known, behind_not_first, weaken}

module _ (given : Given) where
  -- The expression on the left, and the operator with its operand, are one from here on.
  binary_goes : (n : ℕ) (more : List Symbol) → Formed (Non (o.BinaryRest n) ∷ more) → Known given more → (left : Node Expression) (vs : List Value) (operator : BinaryOperator) → 7 ≤ level operator → (y : Expression) (span : Span)
      → ((leb n (level operator) ≡ true) × (n ≤ level operator)) ⊎ ((leb n (level operator) ≡ false) × (level operator < n)) → ((leb n 7 ≡ true) × (n ≤ 7)) ⊎ ((leb n 7 ≡ false) × (7 < n)) → Goes given (Non (o.BinaryRest n) ∷ more) (v.Expression left ∷ vs) operator y span
  binary_goes n more f r left vs operator low y span (inl (same, tight_enough)) seven =
      let (ok, goes_so, behind) = formed_ok (Non (o.BinaryRest n)) more f in
      let (pieces, last, m, gentle) = r.ends (expressed (e.Binary left.tree operator y (across left.span span)) (across left.span span) ∷ vs) (behind_not_first (Non (o.BinaryRest n)) (head more) behind) in (
        pieces,
        last,
        (λ kinds us ws tight p q settled.
            (e.Binary left.tree operator y (across left.span span), across left.span span, _, (λ begin bound above stops before. x.joined tight_enough (weaken (omega (stops operator ws p, arith)) before) p (x.unary q)), mild_stops n (whole given kinds pieces) (gentle ok kinds), m kinds)),
      )
  binary_goes n more f r left vs operator low y span (inr (same, high)) (inl (e, within)) = absurd (omega (low, high, within, arith))
  binary_goes n more f r left vs operator low y span (inr (same, high)) (inr (e, beyond)) =
      let (pieces, last, m) = r.goes_on (subst (λ b. (b || goes more) ≡ true) e (formed_ok (Non (o.BinaryRest n)) more f).1) (v.Expression left ∷ vs) operator low y span in
      (pieces, last, (λ kinds us ws tight p q settled. (left.tree, left.span, us, (λ begin bound above stops before. weaken above before), (λ one zs other. omega (tight one zs other, high, arith)), m kinds us ws tight p q)))

  pub goes_step : (symbol : Symbol) (more : List Symbol) → Formed (symbol ∷ more) → Known given more → CanGo given (symbol ∷ more)
  goes_step (Act action) more f r g vs operator low y span = let (pieces, last, m) = r.goes_on g (build action vs) operator low y span in (pieces, last, m)
  goes_step (Non o.SuffixRest) more f r g (v.Expression left ∷ vs) operator low y span =
      let (pieces, last, m) = r.goes_on g (v.Expression left ∷ vs) operator low y span in
      (pieces, last, (λ kinds us ws tight p q. (left.tree, left.span, us, (λ xs before. before), m kinds us ws tight p q)))
  goes_step (Non o.SuffixRest) more f r g vs operator low y span = ([], [], (λ kinds us ws tight p q. tt))
  goes_step (Non o.AfterUnary) more f r g (v.Expression left ∷ vs) operator low y span =
      let (pieces, last, m, gentle) = r.ends (expressed (e.Binary left.tree operator y (across left.span span)) (across left.span span) ∷ vs) (behind_not_first (Non o.AfterUnary) (head more) (formed_ok (Non o.AfterUnary) more f).2) in
      (pieces, last, (λ kinds us ws tight p q. (_, _, _, (λ xs before. x.conditional (x.binary (x.joined (omega (low, arith)) (x.unary before) p (x.unary q)))), m kinds)))
  goes_step (Non o.AfterUnary) more f r g vs operator low y span = ([], [], (λ kinds us ws tight p q. tt))
  goes_step (Non (o.BinaryRest n)) more f r g (v.Expression left ∷ vs) operator low y span = binary_goes n more f r left vs operator low y span (leb_tells n (level operator)) (leb_tells n 7)
  goes_step (Non (o.BinaryRest n)) more f r g vs operator low y span = ([], [], (λ kinds us ws tight p q settled. tt))
  goes_step (Non _) more f r g vs operator low y span = absurd (true≢false (sym g))
  goes_step (Back input) more f r g vs operator low y span = absurd (true≢false (sym g))
