-- What calls do, by how many frames are left.
use Rattle.std.specs.Prelude.{ℕ, zero, suc, ◌-◌, List, [], ◌∷◌, ◌++◌, length, drop, take, slice_get, Option, Some, None, option_map, Ok, Err, nat_eq, if◌then◌else◌}
use Rattle.cc_base.specs.declared.identifiers.MethodId.{MethodId}
use Rattle.cc_core.specs.declared.state.Exit.{Exit}
use Rattle.cc_core.specs.declared.state.Exit.TheVariants.{Normal, Break, Continue, Return}
use Rattle.cc_core.specs.declared.state.Stop.TheVariants.{DepthLimit, Wrong}
use Rattle.cc_core.specs.declared.tree.FunctionBody.{FunctionBody}
use Rattle.cc_core.specs.declared.types.ClassInfo.{ClassInfo}
use Rattle.cc_core.specs.declared.types.CoreType.{CoreType}
use Rattle.cc_core.specs.declared.types.CoreType.TheVariants.{Void}
use Rattle.cc_core.specs.declared.world.Value.{Value, Nothing}
use Rattle.cc_core.specs.declared.world.World.{World}
use Rattle.cc_core.specs.Types.{bare}
use Rattle.cc_core.specs.Step.{Step}
use Rattle.cc_core.specs.Bare.{step_of}
use Rattle.cc_core.specs.Numbers.{zero_of}
use Rattle.cc_core.specs.Run.{Ran, Does, Calls, given, tick, in_world}
use Rattle.cc_core.specs.Outcome.{outcome_of}

-- the body of a function
abbrev pub body_for : MethodId → List FunctionBody → Option FunctionBody
body_for m [] = None
body_for m (b ∷ bodies) = if nat_eq b.method.0 m.0 then Some b else body_for m bodies

abbrev pub both : Option Value → Option (List Value) → Option (List Value)
both None rest = None
both (Some v) None = None
both (Some v) (Some vs) = Some (v ∷ vs)

-- what variables of these types hold at first
abbrev pub zeros_of : List CoreType → Option (List Value)
zeros_of [] = Some []
zeros_of (type ∷ types) = both (zero_of (bare type)) (zeros_of types)

-- what a function gives that flows off its end
abbrev pub end_value : CoreType → Option Value
end_value Void = Some Nothing
end_value type = zero_of (bare type)

-- a frame with these variables is entered
abbrev pub entered : List Value → World → World
entered variables w = record w { variables = variables; callers = w.callers ++ w.variables ∷ [] }

abbrev pub or_none : Option (List Value) → List Value
or_none None = []
or_none (Some variables) = variables

-- a frame is left: the variables are those of the frame around it again
abbrev pub left : World → World
left w = record w { variables = or_none (slice_get w.callers (length w.callers - 1)); callers = take (length w.callers - 1) w.callers }

-- the end of a body as the end of its call, whose frame is left
abbrev pub returned : CoreType → Ran Exit → Ran Value
returned type (Ok Normal, s) = given (end_value type) s
returned type (Ok (Return v), s) = (Ok v, s)
returned type (Ok Break, s) = (Err Wrong, s)
returned type (Ok Continue, s) = (Err Wrong, s)
returned type (Err e, s) = (Err e, s)

-- a run at whose end its frame is left
abbrev pub in_frame : Ran Value → Ran Value
in_frame (ended, s) = (ended, in_world left s)

-- The variables of a frame: the arguments, and zero or null for each further local variable.
abbrev pub variables_of : List CoreType → List Value → Option (List Value)
variables_of locals arguments = option_map (λ zeros. arguments ++ zeros) (zeros_of (drop (length arguments) locals))

abbrev pub enter : Option (List Value) → CoreType → (Step → Does Exit) → Step → Does Value
enter None type go body s = (Err Wrong, s)
enter (Some variables) type go body s = in_frame (returned type (go body (in_world (entered variables) s)))

abbrev pub call_body : (Step → Does Exit) → Option FunctionBody → List Value → Does Value
call_body go None arguments s = (Err Wrong, s)
call_body go (Some b) arguments s = enter (variables_of b.locals arguments) b.result go (step_of b.body) (tick s)

-- A call of a function where so many frames are left: within it there is one less.
abbrev pub calls_with : List ClassInfo → List FunctionBody → ℕ → ℕ → Calls
calls_with w bodies n zero m arguments s = (Err DepthLimit, s)
calls_with w bodies n (suc frames) m arguments s =
    call_body (outcome_of w (calls_with w bodies n frames) n) (body_for m bodies) arguments s
