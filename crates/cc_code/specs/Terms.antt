-- The code of expressions (ECMA-372, 15; ECMA-335, III.3): it leaves the value on the evaluation stack, and nothing where the type is `void`. Operands stand from left to right. What isn't built has no code.
use Rattle.std.specs.Prelude.{ℕ, ◌+◌, List, [], ◌∷◌, ◌++◌, slice_index, Option, Some, None}
use Rattle.cc_base.specs.declared.identifiers.LocalId.{LocalId}
use Rattle.cc_cil.specs.declared.instruction.Instruction.{Instruction}
use Rattle.cc_cil.specs.declared.instruction.Instruction.TheVariants as the
use Rattle.cc_core.specs.declared.library_call.LibraryCall.{LibraryCall}
use Rattle.cc_core.specs.declared.library_call.LibraryCall.TheVariants.{Write, WriteLine, WriteEmptyLine}
use Rattle.cc_core.specs.declared.library_call.Printed.{Printed}
use Rattle.cc_core.specs.declared.library_call.Printed.TheVariants as printed
use Rattle.cc_core.specs.declared.tree.Dispatch.{Dispatch}
use Rattle.cc_core.specs.declared.tree.Dispatch.TheVariants.{Direct, Virtual}
use Rattle.cc_core.specs.Term as term
use Rattle.cc_core.specs.Term.{Term, Terms, type_of}
use Rattle.cc_core.specs.Types as type
use Rattle.cc_core.specs.Types.{BareType}
use Rattle.cc_code.specs.declared.tokens.PrintedTokens.{PrintedTokens}
use Rattle.cc_code.specs.declared.tokens.Tokens.{Tokens}
use Rattle.cc_code.specs.Instructions.{branches}
use Rattle.cc_code.specs.Operators.{constant, load, store, drop_value, conversion, unary_code, operated, changed}
use Rattle.cc_code.specs.Sizes.{term_size, truth_size}

abbrev pub printed_token : PrintedTokens → Printed → ℕ
printed_token tokens printed.Bool = tokens.boolean
printed_token tokens printed.Char = tokens.character
printed_token tokens printed.I32 = tokens.int32
printed_token tokens printed.U32 = tokens.uint32
printed_token tokens printed.I64 = tokens.int64
printed_token tokens printed.U64 = tokens.uint64

-- the variable that an expression names
abbrev pub variable_of : Term → Option LocalId
variable_of (term.Local of x) = Some x
variable_of _ = None

abbrev pub library_token : Tokens → LibraryCall → ℕ
library_token tokens (Write of) = printed_token tokens.console.write of
library_token tokens (WriteLine of) = printed_token tokens.console.write_line of
library_token tokens WriteEmptyLine = tokens.console.write_empty_line

abbrev pub call : Tokens → Dispatch → ℕ → Instruction
call tokens Direct method = the.Call (slice_index tokens.functions method)
call tokens Virtual method = the.CallVirtual (slice_index tokens.functions method)

-- loads a variable of a function with so many parameters, and stores to it, where there is one
abbrev pub load_variable : ℕ → Option LocalId → List Instruction
load_variable parameters None = []
load_variable parameters (Some x) = load parameters x.0 ∷ []

abbrev pub store_variable : ℕ → Option LocalId → List Instruction
store_variable parameters None = []
store_variable parameters (Some x) = store parameters x.0 ∷ []

-- In a program whose members have these tokens, in a function with so many parameters.
module _ (tokens : Tokens) (parameters : ℕ) where
  abbrev mutual
    pub term_code : Term → List Instruction
    term_code (term.Number of n) = constant of n ∷ []
    term_code (term.Local of x) = load parameters x.0 ∷ []
    term_code (term.Convert of operand) = term_code operand ++ conversion (type_of operand) of
    term_code (term.Unary of operator operand) = term_code operand ++ unary_code operator (type_of operand)
    term_code (term.Binary of operator left right) = term_code left ++ operated operator (type_of left) (type_of right) (term_code right)
    -- `first && second`: where the first is true the truth of the second, and else false
    term_code (term.And of first second) =
        term_code first ++ branches (term_size second + truth_size (type_of second)) (term_code second ++ conversion (type_of second) type.Bool) 1 (the.LoadInt0 ∷ [])
    -- `first || second`: where the first is true that, and else the truth of the second
    term_code (term.Or of first second) =
        term_code first ++ branches 1 (the.LoadInt1 ∷ []) (term_size second + truth_size (type_of second)) (term_code second ++ conversion (type_of second) type.Bool)
    term_code (term.Choose of condition first second) = term_code condition ++ branches (term_size first) (term_code first) (term_size second) (term_code second)
    term_code (term.Assign of place value) = term_code value ++ (the.Duplicate ∷ store_variable parameters (variable_of place))
    term_code (term.Update of operator common result place operand) =
        load_variable parameters (variable_of place) ++ (changed of operator common result (type_of operand) (term_code operand) ++ store_variable parameters (variable_of place))
    term_code (term.Call of method dispatch arguments) = terms_code arguments ++ call tokens dispatch method.0 ∷ []
    term_code (term.Library of member arguments) = terms_code arguments ++ the.Call (library_token tokens member) ∷ []
    term_code (term.Let of x first second) = term_code first ++ (store parameters x.0 ∷ term_code second)
    term_code (term.Then of first second) = term_code first ++ (drop_value (type_of first) ++ term_code second)
    term_code _ = []

    pub terms_code : Terms → List Instruction
    terms_code term.no_terms = []
    terms_code (term.next_term first rest) = term_code first ++ terms_code rest
