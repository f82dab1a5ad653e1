-- What was printed, told and counted stays: each part of a run only adds to it.
use Rattle.std.proofs.Common.{ℕ, ◌≤◌, List, [], ◌∷◌, ◌++◌, Bool, true, false, Option, Some, None, Ok, Err, refl, sym, ap, ◌∙◌, append_assoc, append-nil, length, arith}
use Rattle.std.specs.Prelude.{nat_lt, slice_get, if◌then◌else◌}
use Rattle.cc_base.specs.declared.identifiers.ClassId.{ClassId}
use Rattle.cc_base.specs.declared.identifiers.FieldId.{FieldId}
use Rattle.cc_base.specs.declared.identifiers.LocalId.{LocalId}
use Rattle.cc_core.specs.declared.library_call.LibraryCall.{LibraryCall}
use Rattle.cc_core.specs.declared.library_call.LibraryCall.TheVariants.{Write, WriteLine, WriteEmptyLine}
use Rattle.cc_core.specs.declared.library_call.Printed.{Printed}
use Rattle.cc_core.specs.declared.state.Computed.{Computed}
use Rattle.cc_core.specs.declared.state.Computed.TheVariants as computing
use Rattle.cc_core.specs.declared.state.Root.{Root}
use Rattle.cc_core.specs.declared.state.Root.TheVariants as root
use Rattle.cc_core.specs.declared.state.State.{State}
use Rattle.cc_core.specs.declared.state.Stop.TheVariants.{Throws, HeapLimit, Wrong}
use Rattle.cc_core.specs.declared.state.Target.{Target}
use Rattle.cc_core.specs.declared.types.Operator.{Operator}
use Rattle.cc_core.specs.declared.types.UnaryOperator.{UnaryOperator}
use Rattle.cc_core.specs.declared.world.Value.{Value}
use Rattle.cc_core.specs.Types.{BareType}
use Rattle.cc_core.specs.Laws.{Front}
use Rattle.cc_core.specs.Numbers.{converted, computed, computed_alone}
use Rattle.cc_core.specs.LibraryCalls.{library, print, print_one, printed_bytes}
use Rattle.cc_core.specs.Run.{Ran, Does, given, gives, tick, in_world, raise, exception, with_object, with_variable, read_local, write_local, read_root, write_root, read_target, write_target, convert, outcome_of_computed, operate, operate_alone}

pub same_front : {A : Type 0} (xs : List A) → Front xs xs
same_front xs = ([], append-nil xs)

pub front_on : {A : Type 0} (xs ys zs : List A) → Front xs ys → Front ys zs → Front xs zs
front_on {A} xs ys zs f g = (f.0 ++ g.0, sym (append_assoc xs f.0 g.0) ∙ ap (λ l. l ++ g.0) f.1 ∙ g.1)

pub record Grown (s t : State) : Type 0 where
  pub output : Front s.world.output t.world.output
  pub events : Front s.world.events t.world.events
  pub work : s.work ≤ t.work

pub same_grown : (s : State) → Grown s s
same_grown s = record { output = same_front s.world.output; events = same_front s.world.events; work = omega arith }

pub grown_on : {s t u : State} → Grown s t → Grown t u → Grown s u
grown_on g h = record {
  output = front_on _ _ _ g.output h.output;
  events = front_on _ _ _ g.events h.events;
  work = let a = g.work in let b = h.work in omega arith;
}

pub tick_grown : (s : State) → Grown s (tick s)
tick_grown s = record { output = same_front s.world.output; events = same_front s.world.events; work = omega arith }

pub record Grows {A : Type 0} (f : Does A) : Type 0 where
  pub by : (s : State) → Grown s (f s).1

pub stop_grows : {A : Type 0} {e : _} → Grows {A = A} (λ s. (Err e, s))
stop_grows = record { by = same_grown }

pub gives_grows : {A : Type 0} {a : A} → Grows (gives a)
gives_grows = record { by = same_grown }

pub given_grows : {A : Type 0} (a : Option A) → Grows (given a)
given_grows None = record { by = same_grown }
given_grows (Some a) = record { by = same_grown }

pub raise_grows : {A : Type 0} (of : ClassId) → Grows {A = A} (raise of)
raise_grows {A} of = record { by = λ s. one s (nat_lt s.world.cells 3) }
  where
    one : (s : State) (b : Bool) → Grown s (if◌then◌else◌ {A = Ran A} b (Err HeapLimit, s) (Err (Throws (length s.world.heap)), in_world (with_object (exception of) 3) s)).1
    one s true = same_grown s
    one s false = record { output = same_front s.world.output; events = same_front s.world.events; work = omega arith }

pub read_local_grows : (x : LocalId) → Grows (read_local x)
read_local_grows x = record { by = λ s. (given_grows (slice_get s.world.variables x.0)).by s }

pub write_local_grows : (x : LocalId) (v : Value) → Grows (write_local x v)
write_local_grows x v = record { by = λ s. one s (nat_lt x.0 (length s.world.variables)) }
  where
    one : (s : State) (b : Bool) → Grown s (if◌then◌else◌ {A = Ran Value} b (Ok v, in_world (with_variable x.0 v) s) (Err Wrong, s)).1
    one s true = record { output = same_front s.world.output; events = same_front s.world.events; work = omega arith }
    one s false = same_grown s

pub read_root_grows : (r : Root) → Grows (read_root r)
read_root_grows (root.Local x) = record { by = λ s. (read_local_grows x).by s }
read_root_grows _ = record { by = same_grown }

pub write_root_grows : (r : Root) (v : Value) → Grows (write_root r v)
write_root_grows (root.Local x) v = record { by = λ s. (write_local_grows x v).by s }
write_root_grows _ v = record { by = same_grown }

at_path_grows : {A : Type 0} (path : List FieldId) (f : Does A) → Grows f → Grows (λ s. elim path [ [] ↦ f s | field ∷ fields ↦ (Err Wrong, s) ])
at_path_grows [] f g = record { by = g.by }
at_path_grows (field ∷ fields) f g = record { by = same_grown }

pub read_target_grows : (at : Target) → Grows (read_target at)
read_target_grows at = record { by = λ s. (at_path_grows at.path (read_root at.root) (read_root_grows at.root)).by s }

pub write_target_grows : (at : Target) (v : Value) → Grows (write_target at v)
write_target_grows at v = record { by = λ s. (at_path_grows at.path (write_root at.root v) (write_root_grows at.root v)).by s }

pub convert_grows : (from to : BareType) (v : Value) → Grows (convert from to v)
convert_grows from to v = given_grows (converted from to v)

computed_grows : (c : Option Computed) → Grows (outcome_of_computed c)
computed_grows None = record { by = same_grown }
computed_grows (Some (computing.Gives v)) = record { by = same_grown }
computed_grows (Some (computing.Throws of)) = record { by = λ s. (raise_grows {A = Value} of).by s }

pub operate_grows : (type : BareType) (operator : Operator) (v u : Value) → Grows (operate type operator v u)
operate_grows type operator v u = computed_grows (computed type operator v u)

pub operate_alone_grows : (operator : UnaryOperator) (v : Value) → Grows (operate_alone operator v)
operate_alone_grows operator v = given_grows (computed_alone operator v)

print_grows : (bytes : Option (List ℕ)) (behind : List ℕ) → Grows (print bytes behind)
print_grows None behind = record { by = same_grown }
print_grows (Some bytes) behind = record { by = λ s. record { output = (bytes ++ behind, refl); events = same_front s.world.events; work = omega arith } }

print_one_grows : (of : Printed) (vs : List Value) (behind : List ℕ) → Grows (print_one of vs behind)
print_one_grows of [] behind = record { by = same_grown }
print_one_grows of (v ∷ []) behind = print_grows (printed_bytes of v) behind
print_one_grows of (v ∷ u ∷ vs) behind = record { by = same_grown }

pub library_grows : (call : LibraryCall) (vs : List Value) → Grows (library call vs)
library_grows (Write of) vs = print_one_grows of vs []
library_grows (WriteLine of) vs = print_one_grows of vs (10 ∷ [])
library_grows WriteEmptyLine [] = print_grows (Some []) (10 ∷ [])
library_grows WriteEmptyLine (v ∷ vs) = record { by = same_grown }
