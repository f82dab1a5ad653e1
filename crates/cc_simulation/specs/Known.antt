-- What is known where the code of a function's expressions stands.
--   IsSmall e      the bits of each constant fit 64 bits
--   Knows h ..     variables are loaded and stored by their instructions, members of the library are called by theirs, and calls of functions do what they mean
use Rattle.std.specs.Prelude.{◌≡◌, ℕ, ◌+◌, ◌<◌, ◌^◌, List, [], ◌∷◌, true, Option, Some, None, slice_get, ⊤}
use Rattle.cc_base.specs.declared.identifiers.MethodId.{MethodId}
use Rattle.cc_cil.specs.declared.instruction.Instruction.TheVariants as the
use Rattle.cc_core.specs.declared.library_call.LibraryCall.{LibraryCall}
use Rattle.cc_core.specs.declared.state.State.{State}
use Rattle.cc_core.specs.declared.tree.Dispatch.TheVariants.{Direct}
use Rattle.cc_core.specs.declared.world.Value.{Value}
use Rattle.cc_core.specs.declared.world.World.{World}
use Rattle.cc_core.specs.Run.{Calls}
use Rattle.cc_core.specs.Term as term
use Rattle.cc_core.specs.Term.{Term, Terms}
use Rattle.cc_core.specs.Typed.{is_number, IsCallable, AreNumbers}
use Rattle.cc_core.specs.Types.{BareType}
use Rattle.cc_code.specs.declared.tokens.Tokens.{Tokens}
use Rattle.cc_code.specs.Operators.{load, store}
use Rattle.cc_code.specs.Terms.{call, library_token}
use Rattle.cc_execution.specs.declared.operation.FundamentalType.{FundamentalType}
use Rattle.cc_execution.specs.declared.operation.Operation.TheVariants as does
use Rattle.cc_execution.specs.Fundamental.{core_type}
use Rattle.cc_execution.specs.Operations.{resolve}
use Rattle.cc_simulation.specs.Sites.{Site, Quiet, StandsAt, HasAt, Fine, Good, go}
use Rattle.cc_simulation.specs.Values.{AreOf, pushed, pushed_each}

abbrev mutual
  pub IsSmall : Term → Type 0
  IsSmall (term.Number of n) = n < 2 ^ 64
  IsSmall (term.Convert of operand) = IsSmall operand
  IsSmall (term.Unary of operator operand) = IsSmall operand
  IsSmall (term.Binary of operator left right) = IsSmall left × IsSmall right
  IsSmall (term.And of first second) = IsSmall first × IsSmall second
  IsSmall (term.Or of first second) = IsSmall first × IsSmall second
  IsSmall (term.Choose of condition first second) = IsSmall condition × IsSmall first × IsSmall second
  IsSmall (term.Assign of place value) = IsSmall value
  IsSmall (term.Update of operator common result place operand) = IsSmall operand
  IsSmall (term.Call of method dispatch arguments) = AreSmall arguments
  IsSmall (term.Library of member arguments) = AreSmall arguments
  IsSmall (term.Let of x first second) = IsSmall first × IsSmall second
  IsSmall (term.Then of first second) = IsSmall first × IsSmall second
  IsSmall _ = ⊤

  pub AreSmall : Terms → Type 0
  AreSmall term.no_terms = ⊤
  AreSmall (term.next_term first rest) = IsSmall first × AreSmall rest

abbrev pub IsSmallIf : Option Term → Type 0
IsSmallIf None = ⊤
IsSmallIf (Some e) = IsSmall e

pub record Knows (h : Site) (tokens : Tokens) (parameters : ℕ) (k : Calls) : Type 0 where
  pub quiet : Quiet h.set
  pub numbers : (y : ℕ) (of : BareType) → slice_get h.locals y ≡ Some of → is_number of ≡ true
  pub loads : (y : ℕ) (of : BareType) → slice_get h.locals y ≡ Some of → (next : ℕ) → resolve h.names next (load parameters y) ≡ Some (does.LoadVariable y)
  pub stores : (y : ℕ) (of : BareType) → slice_get h.locals y ≡ Some of → (t : FundamentalType) × (core_type t ≡ of) × ((next : ℕ) → resolve h.names next (store parameters y) ≡ Some (does.StoreVariable y t))
  pub members : (member : LibraryCall) (next : ℕ) → resolve h.names next (the.Call (library_token tokens member)) ≡ Some (does.CallLibrary member)
  pub arguments : (method : MethodId) (given : List BareType) (result : BareType) → IsCallable h.set.classes method given result → AreNumbers given
  pub calls : (method : MethodId) (given : List BareType) (result : BareType) → IsCallable h.set.classes method given result → (at : ℕ) (vs stack : List Value) (s : State)
      → HasAt h at (call tokens Direct method.0 ∷ []) → AreOf given vs → Fine h s.world
      → StandsAt h.set 64 (go h at (pushed_each vs stack) s.world) (λ (v : Value) (w : World). go h (at + 5) (pushed result v stack) w) (Good h result) s.work (k method vs s)
