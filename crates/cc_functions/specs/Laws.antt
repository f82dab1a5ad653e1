-- What holds of the module of a program of functions.
use Rattle.std.specs.Prelude.{◌≡◌, ◌≤◌, ◌<◌, ℕ, ◌+◌, List, Some, length}
use Rattle.cc_module.specs.Methods.{NamesMethod, body_of}
use Rattle.cc_module.specs.Storable.{IsStorable, image_size}
use Rattle.cc_emit.specs.Program.{image_limit}
use Rattle.cc_functions.specs.declared.function.Function.{Function}
use Rattle.cc_functions.specs.Fits.{Fits}
use Rattle.cc_functions.specs.Program.{METHOD, functions_module}

-- a file can hold it, and has no more bytes than a file that is loaded may have
abbrev pub FitsFile : List Function → ℕ → Type 0
FitsFile functions main = IsStorable (functions_module functions main) × (image_size (functions_module functions main) ≤ image_limit)

abbrev pub EachFits : Type 0
EachFits = (functions : List Function) (main : ℕ) → Fits functions → FitsFile functions main

-- a method stands in a row, counted from 1, and has the body at the same place
pub record HasMethod (functions : List Function) (main place : ℕ) : Type 0 where
  pub names : NamesMethod (functions_module functions main) (METHOD + place + 1) (place + 1)
  pub body : body_of (functions_module functions main) (place + 1) ≡ Some place

-- each function is the method behind as many as stand before it, and `<start>`, the entry, stands behind all
pub record HasMethods (functions : List Function) (main : ℕ) : Type 0 where
  pub each : (place : ℕ) → place < length functions → HasMethod functions main place
  pub start : HasMethod functions main (length functions)
  pub entry : (functions_module functions main).entry ≡ METHOD + length functions + 1

abbrev pub EachHasMethods : Type 0
EachHasMethods = (functions : List Function) (main : ℕ) → Fits functions → HasMethods functions main
