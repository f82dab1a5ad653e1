-- Calls of lowered functions do what calls of the source's functions do, and so does the run of a whole program.
use Rattle.std.proofs.Common.{◌≡◌, ℕ, zero, suc, ◌-◌, List, [], ◌∷◌, ◌++◌, Bool, true, false, Option, Some, None, option_map, Ok, Err, refl, sym, ap, ◌∙◌, subst, map, drop, length}
use Rattle.std.specs.Prelude.{if◌then◌else◌, nat_eq, ⊤}
use Rattle.cc_base.specs.Cells.{arguments_cells, arguments_pass}
use Rattle.cc_base.specs.declared.identifiers.MethodId.{MethodId}
use Rattle.cc_base.specs.declared.running.Ending.TheVariants as ending
use Rattle.cc_base.specs.declared.running.Limits.{Limits}
use Rattle.cc_core.specs.declared.state.Exit.{Exit}
use Rattle.cc_core.specs.declared.state.Exit.TheVariants as exit
use Rattle.cc_core.specs.declared.state.State.{State}
use Rattle.cc_core.specs.declared.state.Stop.TheVariants.{Wrong}
use Rattle.cc_core.specs.declared.tree.FunctionBody.{FunctionBody}
use Rattle.cc_core.specs.declared.types.ClassInfo.{ClassInfo}
use Rattle.cc_core.specs.declared.types.CoreType.{CoreType}
use Rattle.cc_core.specs.declared.types.CoreType.TheVariants as core
use Rattle.cc_core.specs.declared.world.Value.{Value, Nothing}
use Rattle.cc_core.specs.Types as type
use Rattle.cc_core.specs.Types.{BareType, bare}
use Rattle.cc_core.specs.Step.{Step}
use Rattle.cc_core.specs.Bare.{step_of}
use Rattle.cc_core.specs.Numbers.{zero_of}
use Rattle.cc_core.specs.Run.{Ran, Does, Calls, given, tick, in_world}
use Rattle.cc_core.specs.Outcome as source
use Rattle.cc_core.specs.Frames as s
use Rattle.cc_core.specs.Frames.{both, zeros_of, end_value, variables_of, entered, in_frame}
use Rattle.cc_core.specs.SourceRun.{ended, meaning_of, start}
use Rattle.cc_region.specs.declared.tree.RegionFunction.{RegionFunction}
use Rattle.cc_region.specs.Leave.{Way}
use Rattle.cc_region.specs.Region.{Region}
use Rattle.cc_region.specs.Bare.{region_of}
use Rattle.cc_region.specs.Outcome as region
use Rattle.cc_region.specs.Frames as r
use Rattle.cc_dispose.specs.Lower.{lowered, IsLowered, AreLowered}
use Rattle.cc_core.specs.SourceRun as source_run
use Rattle.cc_region.specs.RegionRun as region_run
use Rattle.cc_dispose.specs.Keeps.{LoweringKeepsTheRun}
use Rattle.cc_dispose.proofs.Means.{ways, outcome_same}

-- ---- what types that are the same hold at first

abbrev end_of : BareType → Option Value
end_of type.Void = Some Nothing
end_of of = zero_of of

end_is : (of : CoreType) → end_value of ≡ end_of (bare of)
end_is core.Void = refl
end_is core.Bool = refl
end_is core.Char = refl
end_is core.I8 = refl
end_is core.U8 = refl
end_is core.I16 = refl
end_is core.U16 = refl
end_is core.I32 = refl
end_is core.U32 = refl
end_is core.I64 = refl
end_is core.U64 = refl
end_is (core.Enum class) = refl
end_is (core.Value class) = refl
end_is (core.Handle class) = refl
end_is (core.Array' p element) = refl
end_is core.Null = refl
end_is (core.Track' p of) = refl

abbrev zeros : List BareType → Option (List Value)
zeros [] = Some []
zeros (of ∷ types) = both (zero_of of) (zeros types)

zeros_are : (types : List CoreType) → zeros_of types ≡ zeros (map bare types)
zeros_are [] = refl
zeros_are (of ∷ types) = ap (both (zero_of (bare of))) (zeros_are types)

dropped : (n : ℕ) (types : List CoreType) → map bare (drop n types) ≡ drop n (map bare types)
dropped zero types = refl
dropped (suc n) [] = refl
dropped (suc n) (of ∷ types) = dropped n types

variables_are : (a b : List CoreType) → map bare a ≡ map bare b → (arguments : List Value) → variables_of a arguments ≡ variables_of b arguments
variables_are a b p arguments =
    let n = length arguments in
    ap (option_map (λ zeros. arguments ++ zeros))
    (zeros_are (drop n a) ∙ ap zeros (dropped n a ∙ ap (drop n) p ∙ sym (dropped n b)) ∙ sym (zeros_are (drop n b)))

-- ---- calls

returned_is : (a b : CoreType) → bare b ≡ bare a → (ran : Ran Exit) → r.returned b (ways zero ran) ≡ s.returned a ran
returned_is a b p (Ok exit.Normal, t) = ap (λ v. given v t) (end_is b ∙ ap end_of p ∙ sym (end_is a))
returned_is a b p (Ok exit.Break, t) = refl
returned_is a b p (Ok exit.Continue, t) = refl
returned_is a b p (Ok (exit.Return v), t) = refl
returned_is a b p (Err e, t) = refl

module _ (go : Step → Does Exit) (go' : Region → Does Way) (h : (a : Step) (t : State) → ways zero (go a t) ≡ go' (lowered zero a) t) where
  entered_is : (variables : Option (List Value)) (a b : CoreType) → bare b ≡ bare a → (body : Step) (t : State)
      → r.enter variables b (go' (lowered zero body)) t ≡ s.enter variables a go body t
  entered_is None a b p body t = refl
  entered_is (Some variables) a b p body t =
      let t1 = in_world (entered variables) t in
      ap in_frame (ap (r.returned b) (sym (h body t1)) ∙ returned_is a b p (go body t1))

  body_is : (b : FunctionBody) (f : RegionFunction) → IsLowered b f → (arguments : List Value) (t : State)
      → r.call_function go' (Some f) arguments t ≡ s.call_body go (Some b) arguments t
  body_is b f l arguments t =
      ap (λ variables. r.enter variables f.result (go' (region_of f.body)) (tick t)) (variables_are f.locals b.locals l.locals arguments)
      ∙ ap (λ body. r.enter (variables_of b.locals arguments) f.result (go' body) (tick t)) l.region
      ∙ entered_is (variables_of b.locals arguments) b.result f.result l.result (step_of b.body) (tick t)

  -- the function of a number among the lowered ones
  call_is : (m : MethodId) (bodies : List FunctionBody) (functions : List RegionFunction) → AreLowered bodies functions → (arguments : List Value) (t : State)
      → r.call_function go' (r.function_for m functions) arguments t ≡ s.call_body go (s.body_for m bodies) arguments t
  call_is m [] [] l arguments t = refl
  call_is m [] (f ∷ functions) l arguments t = absurd l
  call_is m (b ∷ bodies) [] l arguments t = absurd l
  call_is m (b ∷ bodies) (f ∷ functions) l arguments t =
      ap (λ id. r.call_function go' (if nat_eq id.0 m.0 then Some f else r.function_for m functions) arguments t) l.0.method ∙ one (nat_eq b.method.0 m.0) (call_is m bodies functions l.1 arguments t)
    where
      one : (c : Bool) → r.call_function go' (r.function_for m functions) arguments t ≡ s.call_body go (s.body_for m bodies) arguments t
          → r.call_function go' (if c then Some f else r.function_for m functions) arguments t ≡ s.call_body go (if c then Some b else s.body_for m bodies) arguments t
      one true h = body_is b f l.0 arguments t
      one false h = h

module _ (w : List ClassInfo) (bodies : List FunctionBody) (functions : List RegionFunction) (l : AreLowered bodies functions) (n : ℕ) where
  one_more : (frames : ℕ) → r.calls_with w functions n frames ≡ s.calls_with w bodies n frames → (m : MethodId) (arguments : List Value) (t : State)
      → r.calls_with w functions n (suc frames) m arguments t ≡ s.calls_with w bodies n (suc frames) m arguments t
  one_more frames below m arguments t =
      let k = s.calls_with w bodies n frames in
      ap (λ k. r.call_function (region.outcome_of w k n) (r.function_for m functions) arguments t) below
      ∙ call_is (source.outcome_of w k n) (region.outcome_of w k n) (λ a. (outcome_same w k n zero a).at) m bodies functions l arguments t

  none_left : (m : MethodId) (arguments : List Value) (t : State) → r.calls_with w functions n zero m arguments t ≡ s.calls_with w bodies n zero m arguments t
  none_left m arguments t = refl

  calls_are : (frames : ℕ) → r.calls_with w functions n frames ≡ s.calls_with w bodies n frames
  calls_are zero = λ i m arguments t. none_left m arguments t i
  calls_are (suc frames) = let below = calls_are frames in λ i m arguments t. one_more frames below m arguments t i

run_is : (w : List ClassInfo) (bodies : List FunctionBody) (functions : List RegionFunction) (main : MethodId) → AreLowered bodies functions
    → (input : List ℕ) (arguments : List (List ℕ)) (limits : Limits) (n : ℕ) → region_run.run_of w functions main input arguments limits n ≡ source_run.run_of w bodies main input arguments limits n
run_is w bodies functions main l input arguments limits n =
    ap (λ k. if arguments_pass limits.cells arguments then record { output = []; events = []; work = 0; finish = ended ending.HeapLimit }
    else meaning_of w (k main [] (start (limits.cells - arguments_cells arguments) input)))
    (calls_are w bodies functions l n (limits.frames - 1))

pub keeps_the_run : LoweringKeepsTheRun
keeps_the_run program made l input arguments limits n =
    ap (λ w. region_run.run_of w made.functions made.main input arguments limits n) l.classes
    ∙ ap (λ main. region_run.run_of program.classes made.functions main input arguments limits n) l.main
    ∙ run_is program.classes program.bodies made.functions program.main l.functions input arguments limits n
