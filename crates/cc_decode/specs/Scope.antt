-- What the operands of a method's instructions name, as the loader has it: what is asked of a method that is called, and the place of each argument, are found once.
--   variables_from place types    the places and the types of parameters, where so many variables stand before these
--   IsScope names members variables    these stand for what the operands name
use Rattle.std.specs.Prelude.{◌≡◌, ℕ, suc, List, [], ◌∷◌, map, length, Option, Some, None, option_map}
use Rattle.cc_execution.specs.declared.operation.FundamentalType.{FundamentalType}
use Rattle.cc_execution.specs.declared.executable.PlacedOperation.{PlacedOperation}
use Rattle.cc_execution.specs.Operations.{Names, loaded, are_loaded}
use Rattle.cc_execution.specs.Loaded.{Decodes}
use Rattle.cc_decode.specs.declared.members.Members.{Members}
use Rattle.cc_decode.specs.declared.variables.Variables.{Variables}

-- of a parameter, none for one of a type that no operation loads
abbrev pub variable : ℕ → Option FundamentalType → Option (ℕ × FundamentalType)
variable place parameter = option_map (λ t. (place, t)) parameter

-- how many variables stand before the next parameter
abbrev pub place_behind : ℕ → Option FundamentalType → ℕ
place_behind place None = place
place_behind place (Some t) = suc place

abbrev pub variables_from : ℕ → List (Option FundamentalType) → List (Option (ℕ × FundamentalType))
variables_from place [] = []
variables_from place (p ∷ parameters) = variable place p ∷ variables_from (place_behind place p) parameters

-- what tokens name
pub record AreMembers (names : Names) (members : Members) : Type 0 where
  pub callable : members.callable ≡ map are_loaded names.methods
  pub called : members.references ≡ names.references

-- what indexes name
pub record AreVariables (names : Names) (variables : Variables) : Type 0 where
  pub arguments : variables.arguments ≡ variables_from 0 names.parameters
  pub count : variables.loaded ≡ length (loaded names.parameters)
  pub own : variables.locals ≡ names.locals

pub record IsScope (names : Names) (members : Members) (variables : Variables) : Type 0 where
  pub of_tokens : AreMembers names members
  pub of_indexes : AreVariables names variables

-- ---- code

-- the instructions from an offset on have operations
abbrev pub HasOperations : Members → Variables → List ℕ → ℕ → Type 0
HasOperations members variables code at = (names : Names) × IsScope names members variables × (operations : List PlacedOperation) × Decodes names code at operations

-- the operations are this one, and then those from the offset on where its instruction ends
pub record Continues (names : Names) (code : List ℕ) (placed : PlacedOperation) (operations : List PlacedOperation) : Type 0 where
  pub rest : List PlacedOperation
  pub split : operations ≡ placed ∷ rest
  pub more : Decodes names code placed.next rest
