-- The fundamental types in signatures, and what variables of them hold (ECMA-335, I.12.1, II.23.1.16 and III.1.1.1).
--   fundamental e      the type that an element of a signature stands for
--   zero_of t          what a variable of the type holds at first
--   stored t v         what a variable holds into which a value is stored: the low bits, widened by the type's sign
use Rattle.std.specs.Prelude.{List, [], ◌∷◌, map, Option, Some, None, if◌then◌else◌}
use Rattle.cc_core.specs.declared.world.Value.{Value, Int32, Int64}
use Rattle.cc_core.specs.Types.{BareType}
use Rattle.cc_core.specs.Types as type
use Rattle.cc_core.specs.Numbers.{narrowed, is_wide}
use Rattle.cc_module.specs.declared.element.Element.{Element}
use Rattle.cc_module.specs.declared.element.Element.TheVariants as the
use Rattle.cc_module.specs.declared.signature.TypeSignature.{TypeSignature}
use Rattle.cc_execution.specs.declared.operation.FundamentalType.{FundamentalType}
use Rattle.cc_execution.specs.declared.operation.FundamentalType.TheVariants.{Boolean, Char, I1, U1, I2, U2, I4, U4, I8, U8}

abbrev pub fundamental : Element → Option FundamentalType
fundamental the.Boolean = Some Boolean
fundamental the.Char = Some Char
fundamental the.I1 = Some I1
fundamental the.U1 = Some U1
fundamental the.I2 = Some I2
fundamental the.U2 = Some U2
fundamental the.I4 = Some I4
fundamental the.U4 = Some U4
fundamental the.I8 = Some I8
fundamental the.U8 = Some U8
fundamental _ = None

-- the type as the core of the language has it
abbrev pub core_type : FundamentalType → BareType
core_type Boolean = type.Bool
core_type Char = type.Char
core_type I1 = type.I8
core_type U1 = type.U8
core_type I2 = type.I16
core_type U2 = type.U16
core_type I4 = type.I32
core_type U4 = type.U32
core_type I8 = type.I64
core_type U8 = type.U64

-- how a variable of the type is laid out: a bool is a byte
abbrev pub layout : FundamentalType → BareType
layout Boolean = type.U8
layout t = core_type t

-- what a variable of a type holds into which a value is stored (III.1.1.1): of an int32 the low bits that the type has, widened by its sign or by zeros
abbrev pub stored : FundamentalType → Value → Option Value
stored t (Int32 n) = if is_wide (layout t) then None else narrowed (layout t) n
stored t (Int64 n) = if is_wide (layout t) then Some (Int64 n) else None
stored t _ = None

abbrev pub both : Option Value → Option (List Value) → Option (List Value)
both None rest = None
both (Some v) None = None
both (Some v) (Some vs) = Some (v ∷ vs)

-- values as variables of these types hold them, one for each
abbrev pub stored_each : List FundamentalType → List Value → Option (List Value)
stored_each [] [] = Some []
stored_each [] (v ∷ vs) = None
stored_each (t ∷ types) [] = None
stored_each (t ∷ types) (v ∷ vs) = both (stored t v) (stored_each types vs)

-- what a variable holds at first (II.15.4.1.3)
abbrev pub zero_of : FundamentalType → Value
zero_of t = if is_wide (core_type t) then Int64 0 else Int32 0

-- ---- signatures

-- the one type of a signature that is made of no other
abbrev pub fundamental_alone : List Element → Option FundamentalType
fundamental_alone [] = None
fundamental_alone (e ∷ []) = fundamental e
fundamental_alone (e ∷ f ∷ elements) = None

-- the types of parameters; none for one that isn't fundamental
abbrev pub parameter_types : List TypeSignature → List (Option FundamentalType)
parameter_types types = map (λ (t : TypeSignature). fundamental_alone t.elements) types

abbrev pub with_type : Option FundamentalType → Option (List FundamentalType) → Option (List FundamentalType)
with_type None types = None
with_type (Some t) None = None
with_type (Some t) (Some types) = Some (t ∷ types)

-- the types, where each is fundamental
abbrev pub fundamental_each : List TypeSignature → Option (List FundamentalType)
fundamental_each [] = Some []
fundamental_each (t ∷ types) = with_type (fundamental_alone t.elements) (fundamental_each types)

abbrev pub some_result : Option FundamentalType → Option (Option FundamentalType)
some_result None = None
some_result (Some t) = Some (Some t)

-- the type of a result, none for void, where it is one of these
abbrev pub result_of : List Element → Option (Option FundamentalType)
result_of (the.Void ∷ []) = Some None
result_of elements = some_result (fundamental_alone elements)
