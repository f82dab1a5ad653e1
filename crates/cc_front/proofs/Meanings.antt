-- Programs that are the same but for where their parts stand in memory mean the same.
use Rattle.std.proofs.Common.{◌≡◌, ◌∙◌, ℕ, zero, suc, ◌-◌, List, [], ◌∷◌, ◌++◌, length, drop, map, Bool, true, false, refl, sym, ap}
use Rattle.std.specs.Prelude.{Option, Some, None, option_map, Ok, Err, nat_eq, if◌then◌else◌}
use Rattle.std.proofs.lemmas.List.{drop-map}
use Rattle.cc_base.specs.Cells.{arguments_cells, arguments_pass}
use Rattle.cc_base.specs.declared.identifiers.MethodId.{MethodId}
use Rattle.cc_base.specs.declared.running.Ending.TheVariants as ending
use Rattle.cc_base.specs.declared.running.Limits.{Limits}
use Rattle.cc_core.specs.declared.state.Exit.{Exit}
use Rattle.cc_core.specs.declared.state.Exit.TheVariants.{Normal, Break, Continue, Return}
use Rattle.cc_core.specs.declared.state.State.{State}
use Rattle.cc_core.specs.declared.state.Stop.TheVariants.{DepthLimit}
use Rattle.cc_core.specs.declared.tree.FunctionBody.{FunctionBody}
use Rattle.cc_core.specs.declared.tree.ProgramParts.{ProgramParts}
use Rattle.cc_core.specs.declared.types.ClassInfo.{ClassInfo}
use Rattle.cc_core.specs.declared.types.CoreType.{CoreType}
use Rattle.cc_core.specs.declared.types.CoreType.TheVariants as core
use Rattle.cc_core.specs.declared.world.Value.{Value, Nothing}
use Rattle.cc_core.specs.Bare.{step_of}
use Rattle.cc_core.specs.Frames.{body_for, both, zeros_of, variables_of, end_value, entered, returned, in_frame, enter, call_body, calls_with}
use Rattle.cc_core.specs.Numbers.{zero_of}
use Rattle.cc_core.specs.Outcome.{outcome_of}
use Rattle.cc_core.specs.Run.{Ran, Does, Calls, given, in_world, tick}
use Rattle.cc_core.specs.SourceRun.{Meaning, ended, meaning_of, run_of, start}
use Rattle.cc_core.specs.Step.{Step}
use Rattle.cc_core.specs.Types.{BareType, bare}
use Rattle.cc_core.specs.Types as types
use Rattle.cc_typing_laws.specs.Functions.{TypedBody, told_body}
use Rattle.cc_typing_laws.specs.Programs.{TypedProgram}
use Rattle.cc_front.specs.Reading.{AreSame}

-- ---- a body is found by what is told of it

abbrev told_for : MethodId → List TypedBody → Option TypedBody
told_for m [] = None
told_for m (one ∷ more) = if nat_eq one.method.0 m.0 then Some one else told_for m more

told_if : (test : Bool) (one : FunctionBody) (found : Option FunctionBody) (told : Option TypedBody) → option_map told_body found ≡ told
    → option_map told_body (if test then Some one else found) ≡ (if test then Some (told_body one) else told)
told_if true one found told same = refl
told_if false one found told same = same

told_for_is : (m : MethodId) (bodies : List FunctionBody) → option_map told_body (body_for m bodies) ≡ told_for m (map told_body bodies)
told_for_is m [] = refl
told_for_is m (one ∷ more) = told_if (nat_eq one.method.0 m.0) one (body_for m more) (told_for m (map told_body more)) (told_for_is m more)

-- ---- what variables hold at first, and what a function gives that flows off its end

abbrev zeros_told : List BareType → Option (List Value)
zeros_told [] = Some []
zeros_told (one ∷ more) = both (zero_of one) (zeros_told more)

zeros_is : (all : List CoreType) → zeros_of all ≡ zeros_told (map bare all)
zeros_is [] = refl
zeros_is (one ∷ more) = ap (both (zero_of (bare one))) (zeros_is more)

abbrev variables_told : List BareType → List Value → Option (List Value)
variables_told locals arguments = option_map (λ zeros. arguments ++ zeros) (zeros_told (drop (length arguments) locals))

variables_is : (locals : List CoreType) (arguments : List Value) → variables_of locals arguments ≡ variables_told (map bare locals) arguments
variables_is locals arguments =
    ap (option_map (λ zeros. arguments ++ zeros)) (zeros_is (drop (length arguments) locals) ∙ ap zeros_told (sym (drop-map bare (length arguments) locals)))

abbrev end_told : BareType → Option Value
end_told types.Void = Some Nothing
end_told other = zero_of other

end_is : (of : CoreType) → end_value of ≡ end_told (bare of)
end_is core.Void = refl
end_is core.Bool = refl
end_is core.Char = refl
end_is core.I8 = refl
end_is core.U8 = refl
end_is core.I16 = refl
end_is core.U16 = refl
end_is core.I32 = refl
end_is core.U32 = refl
end_is core.I64 = refl
end_is core.U64 = refl
end_is core.Null = refl
end_is (core.Enum class) = refl
end_is (core.Value class) = refl
end_is (core.Handle class) = refl
end_is (core.Array' place element) = refl
end_is (core.Track' place target) = refl

-- ---- a call

returned_same : (one other : CoreType) → end_value one ≡ end_value other → (ran : Ran Exit) → returned one ran ≡ returned other ran
returned_same one other same (Ok Normal, s) = ap (λ v. given v s) same
returned_same one other same (Ok (Return v), s) = refl
returned_same one other same (Ok Break, s) = refl
returned_same one other same (Ok Continue, s) = refl
returned_same one other same (Err e, s) = refl

enter_same : (one other : CoreType) → end_value one ≡ end_value other → (variables : Option (List Value)) (go : Step → Does Exit) (body : Step) (s : State) → enter variables one go body s ≡ enter variables other go body s
enter_same one other same None go body s = refl
enter_same one other same (Some variables) go body s = ap in_frame (returned_same one other same (go body (in_world (entered variables) s)))

body_same : (go : Step → Does Exit) (one other : FunctionBody) → told_body one ≡ told_body other → (arguments : List Value) (s : State) → call_body go (Some one) arguments s ≡ call_body go (Some other) arguments s
body_same go one other same arguments s =
    let results : bare one.result ≡ bare other.result = ap (λ (t : TypedBody). t.result) same in
    let locals : map bare one.locals ≡ map bare other.locals = ap (λ (t : TypedBody). t.locals) same in
    let bodies : step_of one.body ≡ step_of other.body = ap (λ (t : TypedBody). t.body) same in
    let variables : variables_of one.locals arguments ≡ variables_of other.locals arguments =
    variables_is one.locals arguments ∙ ap (λ (all : List BareType). variables_told all arguments) locals ∙ sym (variables_is other.locals arguments) in
    let ends : end_value one.result ≡ end_value other.result = end_is one.result ∙ ap end_told results ∙ sym (end_is other.result) in
    ap (λ v. enter v one.result go (step_of one.body) (tick s)) variables
    ∙ enter_same one.result other.result ends (variables_of other.locals arguments) go (step_of one.body) (tick s)
    ∙ ap (λ body. enter (variables_of other.locals arguments) other.result go body (tick s)) bodies

call_same : (go : Step → Does Exit) (one other : Option FunctionBody) → option_map told_body one ≡ option_map told_body other → (arguments : List Value) (s : State) → call_body go one arguments s ≡ call_body go other arguments s
call_same go None None same arguments s = refl
call_same go None (Some other) same arguments s = absurd cc
call_same go (Some one) None same arguments s = absurd cc
call_same go (Some one) (Some other) same arguments s = let both_told : told_body one ≡ told_body other = cc in body_same go one other both_told arguments s

-- ---- a run

module _ (w : List ClassInfo) (n : ℕ) (a b : List FunctionBody) (same : map told_body a ≡ map told_body b) where
  found_same : (m : MethodId) → option_map told_body (body_for m a) ≡ option_map told_body (body_for m b)
  found_same m = told_for_is m a ∙ ap (told_for m) same ∙ sym (told_for_is m b)

  calls_same : (frames : ℕ) → calls_with w a n frames ≡ calls_with w b n frames
  calls_same zero = λ i m arguments s. (Err DepthLimit, s)
  calls_same (suc frames) = λ i m arguments s.
      (ap (λ (calls : Calls). call_body (outcome_of w calls n) (body_for m a) arguments s) (calls_same frames)
      ∙ call_same (outcome_of w (calls_with w b n frames) n) (body_for m a) (body_for m b) (found_same m) arguments s) i

abbrev run_with : List ClassInfo → MethodId → List ℕ → List (List ℕ) → Limits → Calls → Meaning
run_with w main input arguments limits calls =
    if arguments_pass limits.cells arguments then record { output = []; events = []; work = 0; finish = ended ending.HeapLimit }
    else meaning_of w (calls main [] (start (limits.cells - arguments_cells arguments) input))

pub run_same : (one other : ProgramParts) (input : List ℕ) (arguments : List (List ℕ)) (limits : Limits) (n : ℕ) → AreSame one other
    → run_of one.classes one.bodies one.main input arguments limits n ≡ run_of other.classes other.bodies other.main input arguments limits n
run_same one other input arguments limits n same =
    let classes : one.classes ≡ other.classes = ap (λ (t : TypedProgram). t.classes) same in
    let main : one.main ≡ other.main = ap (λ (t : TypedProgram). t.main) same in
    let bodies : map told_body one.bodies ≡ map told_body other.bodies = ap (λ (t : TypedProgram). t.bodies) same in
    ap (λ (w : List ClassInfo). run_of w one.bodies one.main input arguments limits n) classes
    ∙ ap (λ (m : MethodId). run_of other.classes one.bodies m input arguments limits n) main
    ∙ ap (run_with other.classes other.main input arguments limits) (calls_same other.classes n one.bodies other.bodies bodies (limits.frames - 1))
