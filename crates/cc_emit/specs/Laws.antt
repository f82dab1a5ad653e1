-- What holds of the module of a straight program.
use Rattle.std.specs.Prelude.{◌≡◌, ◌≤◌, ℕ, List, Some, length}
use Rattle.cc_module.specs.Methods.{NamesMethod, body_of}
use Rattle.cc_module.specs.Storable.{IsStorable, image_size}
use Rattle.cc_emit.specs.Program.{module_of, code_limit, image_limit, ENTRY}

-- a file can hold it, and has no more bytes than a file that is loaded may have
abbrev pub FitsFile : List ℕ → Type 0
FitsFile code = IsStorable (module_of code) × (image_size (module_of code) ≤ image_limit)

-- where its code is no larger than the limit
abbrev pub EachFits : Type 0
EachFits = (code : List ℕ) → length code ≤ code_limit → FitsFile code

-- its entry is the second method, and `main` is the first; each has its body
pub record BeginsAtStart (code : List ℕ) : Type 0 where
  pub entry : NamesMethod (module_of code) ENTRY 2
  pub start : body_of (module_of code) 2 ≡ Some 1
  pub main_is : NamesMethod (module_of code) 0x06000001 1
  pub main : body_of (module_of code) 1 ≡ Some 0
