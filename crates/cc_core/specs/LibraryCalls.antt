-- What calls of the library do (ECMA-335, IV; the texts of numbers are those of System.Int32 and its kin).
use Rattle.std.specs.Prelude.{ℕ, ◌%◌, ◌^◌, List, [], ◌∷◌, ◌++◌, Option, Some, None, Ok, Err, nat_eq, codes, ◌&&◌, nat_le, if◌then◌else◌}
use Rattle.std.specs.Char.{encode_utf8}
use Rattle.std.specs.Fmt.{decimal, signed_decimal}
use Rattle.std.specs.Int.{w32, w64, cast_signed}
use Rattle.cc_core.specs.declared.library_call.LibraryCall.{LibraryCall}
use Rattle.cc_core.specs.declared.library_call.LibraryCall.TheVariants.{Write, WriteLine, WriteEmptyLine}
use Rattle.cc_core.specs.declared.library_call.Printed.{Printed}
use Rattle.cc_core.specs.declared.library_call.Printed.TheVariants as printed
use Rattle.cc_core.specs.declared.world.Value.{Value, Int32, Int64, Nothing}
use Rattle.cc_core.specs.declared.state.Stop.TheVariants.{Wrong}
use Rattle.cc_core.specs.Run.{Does, in_world, with_output}

-- the bytes of one unit of UTF-16 that stands alone: a surrogate is no character
abbrev pub unit_bytes : ℕ → List ℕ
unit_bytes unit = encode_utf8 (if nat_le 0xD800 unit && nat_le unit 0xDFFF then 0xFFFD else unit)

-- the bytes that a value is printed as
abbrev pub printed_bytes : Printed → Value → Option (List ℕ)
printed_bytes printed.Bool (Int32 n) = Some (if nat_eq n 0 then codes "False" else codes "True")
printed_bytes printed.Char (Int32 n) = Some (unit_bytes (n % 2 ^ 16))
printed_bytes printed.I32 (Int32 n) = Some (signed_decimal (cast_signed w32 n))
printed_bytes printed.U32 (Int32 n) = Some (decimal n)
printed_bytes printed.I64 (Int64 n) = Some (signed_decimal (cast_signed w64 n))
printed_bytes printed.U64 (Int64 n) = Some (decimal n)
printed_bytes _ _ = None

-- prints these bytes, where there are some, and what stands behind them
abbrev pub print : Option (List ℕ) → List ℕ → Does Value
print None behind s = (Err Wrong, s)
print (Some bytes) behind s = (Ok Nothing, in_world (with_output (bytes ++ behind)) s)

abbrev pub print_one : Printed → List Value → List ℕ → Does Value
print_one of (v ∷ []) behind = print (printed_bytes of v) behind
print_one of _ behind = λ s. (Err Wrong, s)

-- a call of a member of the library
abbrev pub library : LibraryCall → List Value → Does Value
library (Write of) vs = print_one of vs []
library (WriteLine of) vs = print_one of vs (10 ∷ [])
library WriteEmptyLine [] = print (Some []) (10 ∷ [])
library WriteEmptyLine (v ∷ vs) = λ s. (Err Wrong, s)
