-- The operations of a term leave its value, and those of a source print its lines and give its result.
use Rattle.std.proofs.Common.{◌≤◌, ◌+◌, ℕ, suc, List, [], ◌∷◌, ◌++◌, length, sym, subst, append_assoc, arith}
use Rattle.std.specs.List.{flat_map, AllByRecursion}
use Rattle.std.proofs.lemmas.List.{append-nil}
use Rattle.cc_core.specs.declared.straight.StraightOperator.{StraightOperator}
use Rattle.cc_core.specs.declared.straight.StraightOperator.TheVariants as operator
use Rattle.cc_core.specs.declared.straight.StraightOperation.{StraightOperation}
use Rattle.cc_core.specs.declared.straight.StraightOperation.TheVariants as operation
use Rattle.cc_core.specs.StraightSource.{Term, number, apply, operations_of, line_operations}
use Rattle.cc_core.specs.StraightMeaning.{applied, value_of, line_of}
use Rattle.cc_cil.specs.Steps.{Running, Does, pushes, adds, subtracts, multiplies, writes}
use Rattle.cc_straight.specs.Straight.{action_for, height_of}

-- operations lead from a stack and an output to others, never above a height
pub data Path (most : ℕ) : List StraightOperation → List ℕ → List ℕ → List ℕ → List ℕ → Type 0 where
  ends : {stack out : List ℕ} → Path most [] stack out stack out
  next : {o : StraightOperation} {os : List StraightOperation} {stack out stack' out' stack'' out'' : List ℕ} → ((at : ℕ) → Does (action_for o) at stack out (Running at stack' out')) → length stack' ≤ most
      → Path most os stack' out' stack'' out'' → Path most (o ∷ os) stack out stack'' out''

pub path_append : {most : ℕ} {a b : List StraightOperation} {s o s1 o1 s2 o2 : List ℕ} → Path most a s o s1 o1 → Path most b s1 o1 s2 o2 → Path most (a ++ b) s o s2 o2
path_append ends q = q
path_append (next d h p) q = next d h (path_append p q)

operate : {most : ℕ} (o : StraightOperator) (l r : ℕ) (stack out : List ℕ) → suc (length stack) ≤ most → Path most (operation.Apply o ∷ []) (r ∷ l ∷ stack) out (applied o l r ∷ stack) out
operate operator.Add l r stack out h = next (λ at. adds) h ends
operate operator.Subtract l r stack out h = next (λ at. subtracts) h ends
operate operator.Multiply l r stack out h = next (λ at. multiplies) h ends

pub term_path : {most : ℕ} (t : Term) (stack out : List ℕ) → length stack + height_of t ≤ most → Path most (operations_of t) stack out (value_of t ∷ stack) out
term_path (number n) stack out h = next (λ at. pushes) (omega (arith, h)) ends
term_path (apply o l r) stack out h =
    path_append (path_append (term_path l stack out (omega (arith, h))) (term_path r (value_of l ∷ stack) out (omega (arith, h)))) (operate o (value_of l) (value_of r) stack out (omega (arith, h)))

line_path : {most : ℕ} (t : Term) (out : List ℕ) → height_of t ≤ most → Path most (line_operations t) [] out [] (out ++ line_of (value_of t))
line_path t out h = path_append (term_path t [] out (omega (arith, h))) (next (λ at. writes) (omega arith) ends)

pub lines_path : {most : ℕ} (lines : List Term) (out : List ℕ) → AllByRecursion (λ t. height_of t ≤ most) lines
    → Path most (flat_map line_operations lines) [] out [] (out ++ flat_map (λ t. line_of (value_of t)) lines)
lines_path {most} [] out h = subst (λ o. Path most [] [] out [] o) (sym (append-nil out)) ends
lines_path {most} (t ∷ lines) out h =
    subst (λ o. Path most (flat_map line_operations (t ∷ lines)) [] out [] o) (append_assoc out (line_of (value_of t)) (flat_map (λ t. line_of (value_of t)) lines))
    (path_append (line_path t out h.0) (lines_path lines (out ++ line_of (value_of t)) h.1))
