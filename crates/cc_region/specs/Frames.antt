-- What calls of region functions do, by how many frames are left.
use Rattle.std.specs.Prelude.{ℕ, zero, suc, List, [], ◌∷◌, Option, Some, None, Ok, Err, nat_eq, if◌then◌else◌}
use Rattle.cc_base.specs.declared.identifiers.MethodId.{MethodId}
use Rattle.cc_core.specs.declared.state.Stop.TheVariants.{DepthLimit, Wrong}
use Rattle.cc_core.specs.declared.types.ClassInfo.{ClassInfo}
use Rattle.cc_core.specs.declared.types.CoreType.{CoreType}
use Rattle.cc_core.specs.declared.world.Value.{Value}
use Rattle.cc_core.specs.Run.{Ran, Does, Calls, given, tick, in_world}
use Rattle.cc_core.specs.Frames.{end_value, entered, in_frame, variables_of}
use Rattle.cc_region.specs.declared.tree.RegionFunction.{RegionFunction}
use Rattle.cc_region.specs.Leave.{Way, Next, Break, Continue, Return}
use Rattle.cc_region.specs.Region.{Region}
use Rattle.cc_region.specs.Bare.{region_of}
use Rattle.cc_region.specs.Outcome.{outcome_of}

-- the function of a number
abbrev pub function_for : MethodId → List RegionFunction → Option RegionFunction
function_for m [] = None
function_for m (f ∷ functions) = if nat_eq f.method.0 m.0 then Some f else function_for m functions

-- the end of a body as the end of its call
abbrev pub returned : CoreType → Ran Way → Ran Value
returned type (Ok Next, s) = given (end_value type) s
returned type (Ok (Return v), s) = (Ok v, s)
returned type (Ok (Break number), s) = (Err Wrong, s)
returned type (Ok (Continue number), s) = (Err Wrong, s)
returned type (Err e, s) = (Err e, s)

abbrev pub enter : Option (List Value) → CoreType → Does Way → Does Value
enter None type body s = (Err Wrong, s)
enter (Some variables) type body s = in_frame (returned type (body (in_world (entered variables) s)))

abbrev pub call_function : (Region → Does Way) → Option RegionFunction → List Value → Does Value
call_function go None arguments s = (Err Wrong, s)
call_function go (Some f) arguments s = enter (variables_of f.locals arguments) f.result (go (region_of f.body)) (tick s)

-- A call of a function where so many frames are left: within it there is one less.
abbrev pub calls_with : List ClassInfo → List RegionFunction → ℕ → ℕ → Calls
calls_with w functions n zero m arguments s = (Err DepthLimit, s)
calls_with w functions n (suc frames) m arguments s =
    call_function (outcome_of w (calls_with w functions n frames) n) (function_for m functions) arguments s
