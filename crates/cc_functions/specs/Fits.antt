-- Which functions a file of at most 268,435,456 bytes can hold (ECMA-335, II.22.26, II.23.2, II.24.2 and II.25.4).
--   size_of f      at most so many bytes of the file are a function's
--   HasRange f      its numbers are of their types
--   Fits functions each has a name and signatures that a file can hold, and they are few enough
use Rattle.std.specs.Prelude.{ℕ, ◌+◌, ◌^◌, ◌<◌, ◌≤◌, Option, Some, None, List, [], ◌∷◌, length, IsUtf8}
use Rattle.std.specs.List.{AllByRecursion}
use Rattle.cc_layout.specs.Numbers.{AreBytes}
use Rattle.cc_module.specs.declared.signature.Signature.{Signature}
use Rattle.cc_module.specs.Signatures.{HasSpelling, signature_bytes}
use Rattle.cc_functions.specs.declared.function.Function.{Function}

abbrev pub HasLocals : Option Signature → Type 0
HasLocals None = Unit {0}
HasLocals (Some s) = HasSpelling s

pub record FitsFunction (f : Function) : Type 0 where
  -- the name is well-formed text without a zero
  pub text : IsUtf8 f.name
  pub filled : AllByRecursion (λ byte. 0 < byte) f.name
  pub signature : HasSpelling f.signature
  pub locals : HasLocals f.locals

-- its numbers are of their types
pub record HasRange (f : Function) : Type 0 where
  pub name : AreBytes f.name
  pub code : AreBytes f.code
  pub max_stack : f.max_stack < 2 ^ 16

-- ---- sizes

abbrev pub locals_size : Option Signature → ℕ
locals_size None = 0
locals_size (Some s) = length (signature_bytes s)

-- its code, its name and its signatures, and at most 64 bytes of rows, header and padding
abbrev pub size_of : Function → ℕ
size_of f = 64 + length f.name + length (signature_bytes f.signature) + locals_size f.locals + length f.code

abbrev pub total_size : List Function → ℕ
total_size [] = 0
total_size (f ∷ functions) = size_of f + total_size functions

-- what is left of 268,435,456 bytes beside at most 4,096 of headers, `<start>` and the library's members
abbrev pub size_limit : ℕ
size_limit = 268431360

pub record Fits (functions : List Function) : Type 0 where
  pub each : AllByRecursion FitsFunction functions
  pub size : total_size functions ≤ size_limit
