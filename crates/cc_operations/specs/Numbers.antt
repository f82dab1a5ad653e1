-- The types of numbers, their promotion and their common type (ECMA-372, 14 and 15; ISO/IEC 14882:2003, 2.13.1, 4.5 and 5).
use Rattle.std.specs.Prelude.{ℕ, ◌-◌, ◌^◌, List, [], ◌∷◌, codes, Bool, true, false, ◌||◌, cond, nat_le}
use Rattle.std.specs.Str.{bytes_eq}
use Rattle.cc_tree.specs.declared.token.Suffix.{Suffix}
use Rattle.cc_tree.specs.declared.token.Suffix.TheVariants as suffix
use Rattle.cc_tree.specs.declared.token.Radix.{Radix}
use Rattle.cc_tree.specs.declared.token.Radix.TheVariants as radix
use Rattle.cc_tree.specs.declared.type_name.FundamentalType.{FundamentalType}
use Rattle.cc_tree.specs.declared.type_name.FundamentalType.TheVariants as f
use Rattle.cc_tree.specs.declared.type_name.TypeName.{TypeName, TypeName-F, out-TypeName}
use Rattle.cc_tree.specs.declared.type_name.TypeName.TheOpen as t
use Rattle.cc_core.specs.declared.types.CoreType.{CoreType}
use Rattle.cc_core.specs.declared.types.CoreType.TheVariants as c
use Rattle.cc_core.specs.Types.{BareType, bare}

-- a fundamental type, or `void`, as a type of typed terms
abbrev pub core_type : FundamentalType → CoreType
core_type f.Void = c.Void
core_type f.Bool = c.Bool
core_type f.WideChar = c.Char
core_type f.SignedChar = c.I8
core_type f.UnsignedChar = c.U8
core_type f.Short = c.I16
core_type f.UnsignedShort = c.U16
core_type f.Int = c.I32
core_type f.UnsignedInt = c.U32
core_type f.LongLong = c.I64
core_type f.UnsignedLongLong = c.U64

abbrev pub core : FundamentalType → BareType
core of = bare (core_type of)

abbrev pub is_void : FundamentalType → Bool
is_void f.Void = true
is_void _ = false

abbrev pub is_bool : FundamentalType → Bool
is_bool f.Bool = true
is_bool _ = false

-- `bool`, `wchar_t` and the integers of 8 or 16 bits
abbrev pub is_small : FundamentalType → Bool
is_small f.Bool = true
is_small f.WideChar = true
is_small f.SignedChar = true
is_small f.UnsignedChar = true
is_small f.Short = true
is_small f.UnsignedShort = true
is_small _ = false

abbrev pub is_unsigned_int : FundamentalType → Bool
is_unsigned_int f.UnsignedInt = true
is_unsigned_int _ = false

abbrev pub is_long_long : FundamentalType → Bool
is_long_long f.LongLong = true
is_long_long _ = false

abbrev pub is_unsigned_long_long : FundamentalType → Bool
is_unsigned_long_long f.UnsignedLongLong = true
is_unsigned_long_long _ = false

-- the place of a type among those of numbers, by which two are told apart
abbrev pub rank : FundamentalType → ℕ
rank f.Void = 0
rank f.Bool = 1
rank f.WideChar = 2
rank f.SignedChar = 3
rank f.UnsignedChar = 4
rank f.Short = 5
rank f.UnsignedShort = 6
rank f.Int = 7
rank f.UnsignedInt = 8
rank f.LongLong = 9
rank f.UnsignedLongLong = 10

-- `bool`, `wchar_t` and the integers of 8 or 16 bits are promoted to `int`; the other types stay
abbrev pub promoted : FundamentalType → FundamentalType
promoted f.Void = f.Void
promoted f.Bool = f.Int
promoted f.WideChar = f.Int
promoted f.SignedChar = f.Int
promoted f.UnsignedChar = f.Int
promoted f.Short = f.Int
promoted f.UnsignedShort = f.Int
promoted f.Int = f.Int
promoted f.UnsignedInt = f.UnsignedInt
promoted f.LongLong = f.LongLong
promoted f.UnsignedLongLong = f.UnsignedLongLong

-- the common type of two numbers: `unsigned long long` if either has it, else `long long`, else `unsigned int`, else `int`
abbrev pub common : FundamentalType → FundamentalType → FundamentalType
common one other =
    cond (is_unsigned_long_long one || is_unsigned_long_long other) f.UnsignedLongLong
    (cond (is_long_long one || is_long_long other) f.LongLong
    (cond (is_unsigned_int one || is_unsigned_int other) f.UnsignedInt f.Int))

-- ---- literals

-- the types that a number may have, the first that holds it is taken
abbrev pub allowed : Suffix → Radix → List FundamentalType
allowed suffix.Plain radix.Decimal = f.Int ∷ f.LongLong ∷ []
allowed suffix.Plain radix.Hexadecimal = f.Int ∷ f.UnsignedInt ∷ f.LongLong ∷ f.UnsignedLongLong ∷ []
allowed suffix.Plain radix.Octal = f.Int ∷ f.UnsignedInt ∷ f.LongLong ∷ f.UnsignedLongLong ∷ []
allowed suffix.U of = f.UnsignedInt ∷ f.UnsignedLongLong ∷ []
allowed suffix.Ll radix.Decimal = f.LongLong ∷ []
allowed suffix.Ll radix.Hexadecimal = f.LongLong ∷ f.UnsignedLongLong ∷ []
allowed suffix.Ll radix.Octal = f.LongLong ∷ f.UnsignedLongLong ∷ []
allowed suffix.Ull of = f.UnsignedLongLong ∷ []

-- the greatest value of a type
abbrev pub greatest : FundamentalType → ℕ
greatest f.Int = 2 ^ 31 - 1
greatest f.UnsignedInt = 2 ^ 32 - 1
greatest f.LongLong = 2 ^ 63 - 1
greatest _ = 2 ^ 64 - 1

-- the first of some types that holds a number, or else the last
abbrev pub first_holding : ℕ → FundamentalType → List FundamentalType → FundamentalType
first_holding value of [] = of
first_holding value of (next ∷ types) = cond (nat_le value (greatest of)) of (first_holding value next types)

abbrev pub of_allowed : ℕ → List FundamentalType → FundamentalType
of_allowed value [] = f.Int
of_allowed value (of ∷ types) = first_holding value of types

abbrev pub number_type : ℕ → Suffix → Radix → FundamentalType
number_type value suffix radix = of_allowed value (allowed suffix radix)

-- ---- written types

-- the type that one of the library's names means, and `void` for another name, of which no type is built
abbrev pub library_type : List ℕ → FundamentalType
library_type name =
    cond (bytes_eq name (codes "Boolean")) f.Bool
    (cond (bytes_eq name (codes "Char")) f.WideChar
    (cond (bytes_eq name (codes "SByte")) f.SignedChar
    (cond (bytes_eq name (codes "Byte")) f.UnsignedChar
    (cond (bytes_eq name (codes "Int16")) f.Short
    (cond (bytes_eq name (codes "UInt16")) f.UnsignedShort
    (cond (bytes_eq name (codes "Int32")) f.Int
    (cond (bytes_eq name (codes "UInt32")) f.UnsignedInt
    (cond (bytes_eq name (codes "Int64")) f.LongLong
    (cond (bytes_eq name (codes "UInt64")) f.UnsignedLongLong
    f.Void)))))))))

abbrev pub type_layer : TypeName-F TypeName → FundamentalType
type_layer (t.Fundamental of span) = of
type_layer (t.Named path name arguments span) = library_type name.name
type_layer (t.Marked inner is_handle is_tracking span) = f.Void

-- the fundamental type that a written type means
abbrev pub written : TypeName → FundamentalType
written of = type_layer (out-TypeName of)
