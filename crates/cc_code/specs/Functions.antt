-- The code of a function, and the types of its local variables (ECMA-335, I.12.3.2 and II.23.2.6).
use Rattle.std.specs.Prelude.{ℕ, ◌+◌, List, [], ◌∷◌, ◌++◌, drop, map, max}
use Rattle.cc_cil.specs.declared.instruction.Instruction.{Instruction}
use Rattle.cc_cil.specs.declared.instruction.Instruction.TheVariants as the
use Rattle.cc_core.specs.declared.types.CoreType.{CoreType}
use Rattle.cc_core.specs.Types as type
use Rattle.cc_core.specs.Types.{BareType, bare}
use Rattle.cc_module.specs.declared.element.Element.{Element}
use Rattle.cc_module.specs.declared.element.Element.TheVariants as element
use Rattle.cc_module.specs.declared.signature.TypeSignature.{TypeSignature}
use Rattle.cc_region.specs.declared.tree.RegionFunction.{RegionFunction}
use Rattle.cc_region.specs.Bare.{region_of}
use Rattle.cc_code.specs.declared.tokens.Tokens.{Tokens}
use Rattle.cc_code.specs.Operators.{zero}
use Rattle.cc_code.specs.Heights.{region_height, values_of}
use Rattle.cc_code.specs.Regions.{region_code}
use Rattle.cc_code.specs.Sizes.{zero_size, region_size}

-- what is returned where the body ends normally: zero, or nothing
abbrev pub end_code : BareType → List Instruction
end_code type.Void = the.Return ∷ []
end_code of = zero of ∷ the.Return ∷ []

abbrev pub end_size : BareType → ℕ
end_size type.Void = 1
end_size of = zero_size of + 1

abbrev pub function_instructions : Tokens → ℕ → RegionFunction → List Instruction
function_instructions tokens parameters f = region_code tokens parameters (region_of f.body) 0 [] ++ end_code (bare f.result)

abbrev pub function_size : RegionFunction → ℕ
function_size f = region_size (region_of f.body) + end_size (bare f.result)

abbrev pub function_height : RegionFunction → ℕ
function_height f = max (region_height (region_of f.body)) (values_of (bare f.result))

-- ---- types in signatures (II.23.2.12): those that are built

abbrev pub elements_of : BareType → List Element
elements_of type.Void = element.Void ∷ []
elements_of type.Bool = element.Boolean ∷ []
elements_of type.Char = element.Char ∷ []
elements_of type.I8 = element.I1 ∷ []
elements_of type.U8 = element.U1 ∷ []
elements_of type.I16 = element.I2 ∷ []
elements_of type.U16 = element.U2 ∷ []
elements_of type.I32 = element.I4 ∷ []
elements_of type.U32 = element.U4 ∷ []
elements_of type.I64 = element.I8 ∷ []
elements_of type.U64 = element.U8 ∷ []
elements_of _ = []

abbrev pub signature_of : BareType → TypeSignature
signature_of of = record { elements = elements_of of }

abbrev pub signatures_of : List CoreType → List TypeSignature
signatures_of types = map (λ of. signature_of (bare of)) types

-- the variables behind the parameters
abbrev pub local_types : ℕ → RegionFunction → List TypeSignature
local_types parameters f = signatures_of (drop parameters f.locals)
