-- How large the code of a straight program is.
use Rattle.std.proofs.Common.{◌≡◌, ◌≤◌, ◌*◌, refl, ap, Bool, true, false, List, [], ◌∷◌, length, arith, length-append}
use Rattle.std.specs.Prelude.{Option, Some, None, nat_le, not, is_some, ◌||◌}
use Rattle.std.specs.List.{flat_map}
use Rattle.std.proofs.lemmas.Bool.Decides.{nat_tests}
use Rattle.cc_cil.specs.declared.action.Action.{Action}
use Rattle.cc_cil.specs.declared.body.Body.{Body}
use Rattle.cc_cil.specs.declared.instruction.Instruction.{Instruction}
use Rattle.cc_cil.specs.declared.instruction.Instruction.TheVariants as the
use Rattle.cc_cil.specs.Instructions.{spelling}
use Rattle.cc_cil.specs.Steps.{action_of}
use Rattle.cc_core.specs.StraightSource.{Source, source_operations}
use Rattle.cc_core.specs.declared.straight.StraightOperation.{StraightOperation}
use Rattle.cc_emit.specs.Program.{code_limit}
use Rattle.cc_straight.specs.Straight.{Acts, RunsAs, action_for}

-- an instruction of the machine has at most five bytes
short_or_other : (i : Instruction) → (nat_le (length (spelling i)) 5 || not (is_some (action_of i))) ≡ true
short_or_other the.Nop = refl
short_or_other i = refl

acting : (short : Bool) (found : Option Action) (a : Action) → (short || not (is_some found)) ≡ true → found ≡ Some a → short ≡ true
acting true found a test is = refl
acting false None a test is = cc
acting false (Some b) a test is = cc

short_spelling : (i : Instruction) (a : Action) → action_of i ≡ Some a → length (spelling i) ≤ 5
short_spelling i a is = let test = acting (nat_le (length (spelling i)) 5) (action_of i) a (short_or_other i) is in grind (arith, nat_tests)

code_size : (is : List Instruction) (os : List StraightOperation) → Acts is os → length (flat_map spelling is) ≤ 5 * length os
code_size [] [] acts = omega arith
code_size [] (o ∷ os) acts = absurd acts
code_size (i ∷ is) [] acts = absurd acts
code_size (i ∷ is) (o ∷ os) acts =
    let here = short_spelling i (action_for o) acts.0 in
    let later = code_size is os acts.2 in
    let both = length-append (spelling i) (flat_map spelling is) in
    omega arith

pub code_within : (code : Body) (source : Source) → RunsAs code source → length code.code ≤ code_limit
code_within code source runs =
    let size = code_size runs.instructions (source_operations source) runs.acts in
    let few = runs.short in
    let same : length code.code ≡ length (flat_map spelling runs.instructions) = ap length runs.code in
    omega arith
