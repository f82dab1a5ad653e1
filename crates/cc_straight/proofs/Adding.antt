-- How operations are added part by part.
use Rattle.std.proofs.Common.{◌≡◌, List, [], ◌∷◌, ◌++◌, refl, sym, ap, subst, ◌∙◌, append_assoc}
use Rattle.std.specs.Prelude.{Some, Result, Ok, Err}
use Rattle.std.specs.Result.{IsErrAnd}
use Rattle.cc_base.specs.declared.text.Span.{Span}
use Rattle.cc_tree.specs.declared.expression.BinaryOperator.{BinaryOperator}
use Rattle.cc_tree.specs.declared.expression.Expression.{Expression}
use Rattle.cc_tree.specs.declared.expression.Expression.TheVariants as e
use Rattle.cc_core.specs.declared.straight.StraightOperator.{StraightOperator}
use Rattle.cc_core.specs.declared.straight.StraightOperation.{StraightOperation}
use Rattle.cc_core.specs.declared.straight.StraightOperation.TheVariants as operation
use Rattle.cc_core.specs.StraightSource.{Term, operations_of}
use Rattle.cc_straight.specs.Form.{Judged, term_of, arithmetic, joined, binary_term}
use Rattle.cc_straight.specs.Added.{IsFault, AreAdded, IsAdded, IsPushed}
use Rattle.cc_straight.specs.declared.fault.CompileFault.{CompileFault}
use Rattle.cc_straight.specs.declared.fault.CompileFault.TheVariants.{Refused, Memory}
use Rattle.cc_straight.proofs.Opened.{binary_opens}

-- a fault that was handed on
pub handed : {B A : Type 0} (result : Result B CompileFault) (operations : A → List StraightOperation) (fault : CompileFault) (judged : Judged A) (old new : List StraightOperation)
    → IsErrAnd result (λ other. other ≡ fault) → IsFault fault judged → IsAdded operations result judged old new
handed (Ok done) operations fault judged old new e h = absurd e
handed (Err other) operations fault judged old new e h = subst (λ f. IsFault f judged) (sym e) h

left_fails : (o : StraightOperator) (left right : Judged Term) (fault : CompileFault) → IsFault fault left → IsFault fault (joined o left right)
left_fails o left right Memory h = tt
left_fails o (Ok a) right (Refused why place) h = absurd h
left_fails o (Err span) right (Refused why place) h = h

right_fails : (o : StraightOperator) (left right : Judged Term) (fault : CompileFault) (old mid : List StraightOperation) → AreAdded operations_of left old mid → IsFault fault right → IsFault fault (joined o left right)
right_fails o left right Memory old mid h k = tt
right_fails o (Err span) right (Refused why place) old mid h k = absurd h
right_fails o (Ok a) (Ok b) (Refused why place) old mid h k = absurd k
right_fails o (Ok a) (Err span) (Refused why place) old mid h k = k

both_added : (o : StraightOperator) (left right : Judged Term) (old mid more new : List StraightOperation)
    → AreAdded operations_of left old mid → AreAdded operations_of right mid more → new ≡ more ++ operation.Apply o ∷ [] → AreAdded operations_of (joined o left right) old new
both_added o (Err span) right old mid more new h k p = absurd h
both_added o (Ok a) (Err span) old mid more new h k p = absurd k
both_added o (Ok a) (Ok b) old mid more new h k p = rw (p, k, h) (simp append_assoc refl)

pub pushed_on : {B A : Type 0} (result : Result B CompileFault) (operations : A → List StraightOperation) (operation : StraightOperation) (judged : Judged A) (old more new : List StraightOperation)
    → IsPushed operation result more new → (new ≡ more ++ operation ∷ [] → AreAdded operations judged old new) → IsAdded operations result judged old new
pushed_on (Ok done) operations operation judged old more new p h = h p
pushed_on (Err fault) operations operation judged old more new p h = subst (λ f. IsFault f judged) (sym p) tt

-- at an expression of two operands
module _ (x left right : Expression) (operator : BinaryOperator) (span : Span) (o : StraightOperator) (is : x ≡ e.Binary left operator right span) (arithmetic_is : arithmetic operator ≡ Some o) where
  opened : joined o (term_of left) (term_of right) ≡ term_of x
  opened = sym (ap term_of is ∙ binary_opens left operator right span ∙ ap (λ b. binary_term b (term_of left) (term_of right) span) arithmetic_is)

  pub at_left : (fault : CompileFault) → IsFault fault (term_of left) → IsFault fault (term_of x)
  at_left fault h = subst (λ j. IsFault fault j) opened (left_fails o (term_of left) (term_of right) fault h)

  pub at_right : (fault : CompileFault) (old mid : List StraightOperation) → AreAdded operations_of (term_of left) old mid → IsFault fault (term_of right) → IsFault fault (term_of x)
  at_right fault old mid h k = subst (λ j. IsFault fault j) opened (right_fails o (term_of left) (term_of right) fault old mid h k)

  pub at_both : (old mid more new : List StraightOperation) → AreAdded operations_of (term_of left) old mid → AreAdded operations_of (term_of right) mid more → new ≡ more ++ operation.Apply o ∷ []
      → AreAdded operations_of (term_of x) old new
  at_both old mid more new h k p = subst (λ j. AreAdded operations_of j old new) opened (both_added o (term_of left) (term_of right) old mid more new h k p)
