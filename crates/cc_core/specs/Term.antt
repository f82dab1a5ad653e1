-- Typed expressions, without the places where their parts stand in memory: all definitions of what they mean speak of these.
use Rattle.std.specs.Prelude.{ℕ, List}
use Rattle.cc_base.specs.declared.identifiers.ClassId.{ClassId}
use Rattle.cc_base.specs.declared.identifiers.FieldId.{FieldId}
use Rattle.cc_base.specs.declared.identifiers.LocalId.{LocalId}
use Rattle.cc_base.specs.declared.identifiers.MethodId.{MethodId}
use Rattle.cc_core.specs.declared.types.Operator.{Operator}
use Rattle.cc_core.specs.declared.types.UnaryOperator.{UnaryOperator}
use Rattle.cc_core.specs.declared.library_call.LibraryCall.{LibraryCall}
use Rattle.cc_core.specs.declared.tree.CastKind.{CastKind}
use Rattle.cc_core.specs.declared.tree.Dispatch.{Dispatch}
use Rattle.cc_core.specs.declared.tree.UpdateResult.{UpdateResult}
use Rattle.cc_core.specs.Types.{BareType}

mutual
  pub data Term : Type 0 where
    Number : BareType → ℕ → Term
    Literal : BareType → List ℕ → Term
    Null This : BareType → Term
    Local : BareType → LocalId → Term
    Field : BareType → FieldId → Term → Term
    StaticField : BareType → FieldId → Term
    Element And Or Assign Then : BareType → Term → Term → Term
    Convert PlaceOf HandleOf : BareType → Term → Term
    Unary : BareType → UnaryOperator → Term → Term
    Binary : BareType → Operator → Term → Term → Term
    Choose : BareType → Term → Term → Term → Term
    Update : BareType → Operator → BareType → UpdateResult → Term → Term → Term
    Call : BareType → MethodId → Dispatch → Terms → Term
    New : BareType → ClassId → MethodId → Terms → Term
    NewArray : BareType → BareType → Term → Term
    ArrayOf : BareType → BareType → Terms → Term
    Cast : BareType → CastKind → Term → Term
    Library : BareType → LibraryCall → Terms → Term
    Let : BareType → LocalId → Term → Term → Term

  pub data Terms : Type 0 where
    no_terms : Terms
    next_term : Term → Terms → Terms

-- the type of an expression's value
abbrev pub type_of : Term → BareType
type_of (Number type n) = type
type_of (Literal type text) = type
type_of (Null type) = type
type_of (This type) = type
type_of (Local type local) = type
type_of (Field type field object) = type
type_of (StaticField type field) = type
type_of (Element type array index) = type
type_of (And type first second) = type
type_of (Or type first second) = type
type_of (Assign type place value) = type
type_of (Then type first second) = type
type_of (Convert type operand) = type
type_of (PlaceOf type operand) = type
type_of (HandleOf type operand) = type
type_of (Unary type operator operand) = type
type_of (Binary type operator left right) = type
type_of (Choose type condition first second) = type
type_of (Update type operator common result place operand) = type
type_of (Call type method dispatch arguments) = type
type_of (New type of constructor arguments) = type
type_of (NewArray type element count) = type
type_of (ArrayOf type element elements) = type
type_of (Cast type kind operand) = type
type_of (Library type call arguments) = type
type_of (Let type local first second) = type
