-- Code with an instruction for each operation of a source is right at each offset, and runs as the source means.
use Rattle.std.proofs.Common.{◌≡◌, ◌≤◌, ◌+◌, ℕ, suc, List, [], ◌∷◌, ◌++◌, length, refl, sym, ap, subst, ◌∙◌, append_assoc, length-append, add-one, arith}
use Rattle.std.specs.Prelude.{false, Some, None, nat_lt, ◌&&◌, ◌==◌}
use Rattle.std.specs.List.{flat_map, AllByRecursion}
use Rattle.std.specs.Int.{w32, cast_signed}
use Rattle.std.proofs.lemmas.Bool.{lt-ltb, le-ltb}
use Rattle.std.proofs.lemmas.List.{append-nil}
use Rattle.std.proofs.Math.Seq.{drop-append_seam}
use Rattle.std.proofs.lemmas.Grind.{flat_map-append}
use Rattle.cc_base.specs.declared.running.Ending.TheVariants as ending
use Rattle.cc_core.specs.declared.straight.StraightOperation.{StraightOperation}
use Rattle.cc_core.specs.declared.straight.StraightOperation.TheVariants as operation
use Rattle.cc_core.specs.StraightSource.{Source, operations_of, line_operations, source_operations}
use Rattle.cc_core.specs.StraightMeaning.{value_of, line_of}
use Rattle.cc_cil.specs.declared.body.Body.{Body}
use Rattle.cc_cil.specs.declared.instruction.Instruction.{Instruction}
use Rattle.cc_cil.specs.declared.action.Action.{Action}
use Rattle.cc_cil.specs.declared.action.Action.TheVariants.{Return}
use Rattle.cc_cil.specs.Instructions.{spelling, operand, IsInRange}
use Rattle.cc_cil.specs.Steps as code_words
use Rattle.cc_cil.specs.Steps.{State, Running, Ended, Stands, Does, Step, Runs, Checks, action_of, height_at, height_behind, is_return, pushes, adds, subtracts, multiplies, writes, returns, does, stays, steps}
use Rattle.cc_machine.proofs.Steps.{more}
use Rattle.cc_straight.specs.Straight.{action_for, Acts, height_of, greatest_height, RunsAs, IsCodeOf}
use Rattle.cc_straight.proofs.Paths.{Path, ends, next, path_append, term_path, lines_path}

bytes_of : List Instruction → List ℕ
bytes_of is = flat_map spelling is

-- an instruction stands behind the bytes before it
stands_at : (code before rest : List ℕ) (i : Instruction) → code ≡ before ++ (spelling i ++ rest) → IsInRange (operand i) → Stands code (length before) i
stands_at code before rest i e r = (rest, rw e (drop-append_seam before (spelling i ++ rest)), r)

abbrev IsGoing : State → Type 0
IsGoing (Running at stack out) = Unit {0}
IsGoing (Ended ending out) = ⊥

no_return : {a : Action} {at : ℕ} {s o : List ℕ} {n : State} → Does a at s o n → IsGoing n → is_return (Some a) ≡ false
no_return pushes h = refl
no_return adds h = refl
no_return subtracts h = refl
no_return multiplies h = refl
no_return writes h = refl
no_return returns h = absurd h

not_less : (a b : ℕ) → b ≤ a → nat_lt a b ≡ false
not_less a b h = le-ltb a b h

abbrev Rises : ℕ → Action → List ℕ → State → Type 0
Rises most a s (Running at s' o) = height_behind most a (length s) ≡ Some (length s')
Rises most a s (Ended ending out) = Unit {0}

abbrev Below : ℕ → State → Type 0
Below most (Running at s o) = length s ≤ most
Below most (Ended ending out) = Unit {0}

rises : (most : ℕ) {a : Action} {at : ℕ} {s o : List ℕ} {n : State} → Does a at s o n → Below most n → Rises most a s n
rises most (pushes {stack = s}) h = rw (lt-ltb (length s) most (omega (arith, h))) (ap (λ n. Some n) (omega arith))
rises most (adds {stack = s}) h = rw (not_less (suc (suc (length s))) 2 (omega arith)) (ap (λ n. Some n) (omega arith))
rises most (subtracts {stack = s}) h = rw (not_less (suc (suc (length s))) 2 (omega arith)) (ap (λ n. Some n) (omega arith))
rises most (multiplies {stack = s}) h = rw (not_less (suc (suc (length s))) 2 (omega arith)) (ap (λ n. Some n) (omega arith))
rises most (writes {stack = s}) h = rw (not_less (suc (length s)) 1 (omega arith)) (ap (λ n. Some n) (omega arith))
rises most returns h = tt

module _ (code : List ℕ) (most : ℕ) where
  shifted : (before rest : List ℕ) (i : Instruction) (is : List Instruction) → code ≡ before ++ (flat_map spelling (i ∷ is) ++ rest) → code ≡ before ++ spelling i ++ (flat_map spelling is ++ rest)
  shifted before rest i is e = e ∙ ap (λ x. before ++ x) (append_assoc (spelling i) (flat_map spelling is) rest) ∙ sym (append_assoc before (spelling i) (flat_map spelling is ++ rest))

  here : (before rest : List ℕ) (i : Instruction) (is : List Instruction) → code ≡ before ++ (flat_map spelling (i ∷ is) ++ rest) → IsInRange (operand i) → Stands code (length before) i
  here before rest i is e r = stands_at code before (flat_map spelling is ++ rest) i (e ∙ ap (λ x. before ++ x) (append_assoc (spelling i) (flat_map spelling is) rest)) r

  pub path_runs : {os : List StraightOperation} {s o s' o' : List ℕ} → Path most os s o s' o' → (is : List Instruction) (before rest : List ℕ) → Acts is os → code ≡ before ++ (flat_map spelling is ++ rest)
      → Runs code (length os) (Running (length before) s o) (Running (length (before ++ flat_map spelling is)) s' o')
  path_runs {s = s} {o = o} ends [] before rest acts e = subst (λ b. Runs code 0 (Running (length before) s o) (Running (length b) s o)) (sym (append-nil before)) stays
  path_runs ends (i ∷ is) before rest acts e = absurd acts
  path_runs (next d h p) [] before rest acts e = absurd acts
  path_runs {os = op ∷ os} {s = s} {o = o} {s' = s'} {o' = o'} (next {stack' = s1} {out' = o1} d h p) (i ∷ is) before rest acts e =
      let first : Step code (Running (length before) s o) (Running (length before + length (spelling i)) s1 o1) = does i (action_for op) (here before rest i is e acts.1) acts.0 (d (length before + length (spelling i))) in
      let later = path_runs p is (before ++ spelling i) rest acts.2 (shifted before rest i is e) in
      steps (subst (λ n. Step code (Running (length before) s o) (Running n s1 o1)) (sym (length-append before (spelling i))) first)
      (subst (λ b. Runs code (length os) (Running (length (before ++ spelling i)) s1 o1) (Running (length b) s' o')) (append_assoc before (spelling i) (flat_map spelling is)) later)

  pub path_checks : {os : List StraightOperation} {s o s' o' : List ℕ} → Path most os s o s' o' → (is : List Instruction) (before rest : List ℕ) → Acts is os → code ≡ before ++ (flat_map spelling is ++ rest)
      → Checks code most (length (before ++ flat_map spelling is)) (length s') None → Checks code most (length before) (length s) None
  path_checks {s = s} ends [] before rest acts e c = subst (λ b. Checks code most (length b) (length s) None) (append-nil before) c
  path_checks ends (i ∷ is) before rest acts e c = absurd acts
  path_checks (next d h p) [] before rest acts e c = absurd acts
  path_checks {os = op ∷ os} {s = s} {o = o} {s' = s'} {o' = o'} (next {stack' = s1} {out' = o1} d h p) (i ∷ is) before rest acts e c =
      let later = path_checks p is (before ++ spelling i) rest acts.2 (shifted before rest i is e) (subst (λ b. Checks code most (length b) (length s') None) (sym (append_assoc before (spelling i) (flat_map spelling is))) c) in
      code_words.goes i (here before rest i is e acts.1) (rw acts.0 (rises most (d 0) h))
      (rw acts.0 (ap (λ b. b && (length before + length (spelling i) == length code)) (no_return (d 0) tt)))
      (subst (λ n. Checks code most n (length s1) None) (length-append before (spelling i)) later)

-- the instructions of two lists of operations, one behind the other
pub acts_split : (a b : List StraightOperation) (is : List Instruction) → Acts is (a ++ b) → (first : List Instruction) × (second : List Instruction) × (is ≡ first ++ second) × Acts first a × Acts second b
acts_split [] b is h = ([], is, refl, tt, h)
acts_split (o ∷ a) b [] h = absurd h
acts_split (o ∷ a) b (i ∷ is) h = let r = acts_split a b is h.2 in (i ∷ r.0, r.1, ap (λ x. i ∷ x) r.2, (h.0, h.1, r.3), r.4)

-- the one instruction of the return
acts_return : (is : List Instruction) → Acts is (operation.Return ∷ []) → (i : Instruction) × (is ≡ i ∷ []) × (action_of i ≡ Some Return) × IsInRange (operand i)
acts_return [] h = absurd h
acts_return (i ∷ []) h = (i, refl, h.0, h.1)
acts_return (i ∷ j ∷ is) h = absurd h.2

-- a path, and behind it the return of its one value
module _ (code : List ℕ) (most : ℕ) (first : List Instruction) (last : Instruction) (text : code ≡ flat_map spelling first ++ spelling last) (os : List StraightOperation) (acts : Acts first os)
    (is_return_here : action_of last ≡ Some Return) (in_range : IsInRange (operand last)) (v : ℕ) (out : List ℕ) (path : Path most os [] [] (v ∷ []) out) where
  last_stands : Stands code (length (flat_map spelling first)) last
  last_stands = stands_at code (flat_map spelling first) [] last (text ∙ ap (λ x. flat_map spelling first ++ x) (sym (append-nil (spelling last)))) in_range

  pub runs_to_end : Runs code (length (os ++ operation.Return ∷ [])) (Running 0 [] []) (Ended (ending.Returned (cast_signed w32 v)) out)
  runs_to_end =
      let runs = path_runs code most path first [] (spelling last) acts text in
      let whole : Runs code (suc (length os)) (Running 0 [] []) (Ended (ending.Returned (cast_signed w32 v)) out) = more runs (does last Return last_stands is_return_here returns) in
      subst (λ n. Runs code n (Running 0 [] []) (Ended (ending.Returned (cast_signed w32 v)) out)) (sym (length-append os (operation.Return ∷ []) ∙ add-one (length os))) whole

  pub checks_to_end : Checks code most 0 0 None
  checks_to_end =
      let size : length (flat_map spelling first) + length (spelling last) ≡ length code = sym (ap length text ∙ length-append (flat_map spelling first) (spelling last)) in
      path_checks code most path first [] (spelling last) acts text
      (code_words.ends last last_stands (rw is_return_here refl) (rw is_return_here refl) size)

-- what the instructions of a whole source are: those before its return, and that
pub record Layout (code : List ℕ) (os : List StraightOperation) : Type 0 where
  pub first : List Instruction
  pub last : Instruction
  pub text : code ≡ flat_map spelling first ++ spelling last
  pub acts : Acts first os
  pub is_return_here : action_of last ≡ Some Return
  pub in_range : IsInRange (operand last)

pub layout : (code : List ℕ) (is : List Instruction) (os : List StraightOperation) → code ≡ flat_map spelling is → Acts is (os ++ operation.Return ∷ []) → Layout code os
layout code is os e acts =
    let split = acts_split os (operation.Return ∷ []) is acts in
    let last = acts_return split.1 split.4 in
    let text : code ≡ flat_map spelling split.0 ++ flat_map spelling split.1 = e ∙ ap (λ x. flat_map spelling x) split.2 ∙ flat_map-append spelling split.0 split.1 in
    record {
      first = split.0;
      last = last.0;
      text = text ∙ ap (λ x. flat_map spelling split.0 ++ flat_map spelling x) last.1 ∙ ap (λ x. flat_map spelling split.0 ++ x) (append-nil (spelling last.0));
      acts = split.3;
      is_return_here = last.2;
      in_range = last.3;
    }

pub source_path : (source : Source) → AllByRecursion (λ t. height_of t ≤ greatest_height) source.lines → height_of source.result ≤ greatest_height
    → Path greatest_height (flat_map line_operations source.lines ++ operations_of source.result) [] [] (value_of source.result ∷ []) (flat_map (λ t. line_of (value_of t)) source.lines)
source_path source lines result = path_append (lines_path source.lines [] lines) (term_path source.result [] (flat_map (λ t. line_of (value_of t)) source.lines) (omega (arith, result)))

pub source_runs : (body : Body) (source : Source) → RunsAs body source
    → Runs body.code (length (source_operations source)) (Running 0 [] []) (Ended (ending.Returned (cast_signed w32 (value_of source.result))) (flat_map (λ t. line_of (value_of t)) source.lines))
source_runs body source runs =
    let os = flat_map line_operations source.lines ++ operations_of source.result in
    let l = layout body.code runs.instructions os runs.code runs.acts in
    runs_to_end body.code greatest_height l.first l.last l.text os l.acts l.is_return_here l.in_range (value_of source.result) (flat_map (λ t. line_of (value_of t)) source.lines) (source_path source runs.lines_low runs.result_low)

pub source_checks : (body : Body) (source : Source) → RunsAs body source → Checks body.code greatest_height 0 0 None
source_checks body source runs =
    let os = flat_map line_operations source.lines ++ operations_of source.result in
    let l = layout body.code runs.instructions os runs.code runs.acts in
    checks_to_end body.code greatest_height l.first l.last l.text os l.acts l.is_return_here l.in_range (value_of source.result) (flat_map (λ t. line_of (value_of t)) source.lines) (source_path source runs.lines_low runs.result_low)

pub acts_more : (is : List Instruction) (os : List StraightOperation) (i : Instruction) (o : StraightOperation) → Acts is os → action_of i ≡ Some (action_for o) → IsInRange (operand i) → Acts (is ++ i ∷ []) (os ++ o ∷ [])
acts_more [] [] i o h a r = (a, r, tt)
acts_more [] (p ∷ os) i o h a r = absurd h
acts_more (j ∷ is) [] i o h a r = absurd h
acts_more (j ∷ is) (p ∷ os) i o h a r = (h.0, h.1, acts_more is os i o h.2 a r)

pub code_more : (code code' : List ℕ) (os os' : List StraightOperation) (i : Instruction) (o : StraightOperation) → IsCodeOf code os → code' ≡ code ++ spelling i → os' ≡ os ++ o ∷ [] → action_of i ≡ Some (action_for o) → IsInRange (operand i) → IsCodeOf code' os'
code_more code code' os os' i o h e f a r = (
  h.0 ++ i ∷ [],
  e ∙ ap (λ x. x ++ spelling i) h.1 ∙ ap (λ x. flat_map spelling h.0 ++ x) (sym (append-nil (spelling i))) ∙ sym (flat_map-append spelling h.0 (i ∷ [])),
  rw f (acts_more h.0 os i o h.2 a r),
)
