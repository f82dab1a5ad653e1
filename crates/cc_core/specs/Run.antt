-- How the parts of a run follow one another, and what they do to its state.
use Rattle.std.specs.Prelude.{ℕ, ◌+◌, ◌-◌, List, [], ◌∷◌, ◌++◌, length, Bool, true, false, Option, Some, None, Result, Ok, Err, nat_lt, slice_get, slice_set, if◌then◌else◌}
use Rattle.cc_base.specs.declared.identifiers.ClassId.{ClassId}
use Rattle.cc_base.specs.declared.identifiers.LocalId.{LocalId}
use Rattle.cc_base.specs.declared.identifiers.MethodId.{MethodId}
use Rattle.cc_core.specs.declared.types.Operator.{Operator}
use Rattle.cc_core.specs.declared.types.UnaryOperator.{UnaryOperator}
use Rattle.cc_core.specs.declared.world.Value.{Value, Int32, Null}
use Rattle.cc_core.specs.declared.world.Contents.TheVariants.{Fields}
use Rattle.cc_core.specs.declared.world.Object.{Object}
use Rattle.cc_core.specs.declared.world.World.{World}
use Rattle.cc_core.specs.declared.state.Computed.{Computed}
use Rattle.cc_core.specs.declared.state.Computed.TheVariants as computing
use Rattle.cc_core.specs.declared.state.Root.{Root}
use Rattle.cc_core.specs.declared.state.Root.TheVariants as root
use Rattle.cc_core.specs.declared.state.State.{State}
use Rattle.cc_core.specs.declared.state.Stop.{Stop}
use Rattle.cc_core.specs.declared.state.Stop.TheVariants.{Throws, HeapLimit, Wrong}
use Rattle.cc_core.specs.declared.state.Target.{Target}
use Rattle.cc_core.specs.Types.{BareType}
use Rattle.cc_core.specs.Numbers.{converted, computed, computed_alone, is_true, truth}

-- what a part of a run gives, or why it stops, and the state that it leaves
abbrev pub Ran : Type 0 → Type 0
Ran A = Result A Stop × State

abbrev pub Does : Type 0 → Type 0
Does A = State → Ran A

-- what a call of a function does with its arguments
abbrev pub Calls : Type 0
Calls = MethodId → List Value → Does Value

abbrev pub gives : {A : Type 0} → A → Does A
gives a s = (Ok a, s)

abbrev pub stops : {A : Type 0} → Stop → Does A
stops e s = (Err e, s)

-- one part, and then the next with what it gave
abbrev pub bind : {A B : Type 0} → Ran A → (A → Does B) → Ran B
bind (Ok a, s) next = next a s
bind (Err e, s) next = (Err e, s)

-- what is there, or nothing that has a meaning
abbrev pub given : {A : Type 0} → Option A → Does A
given None s = (Err Wrong, s)
given (Some a) s = (Ok a, s)

-- one more thing is begun
abbrev pub tick : State → State
tick s = record s { work = s.work + 1 }

abbrev pub in_world : (World → World) → State → State
in_world change s = record s { world = change s.world }

-- ---- exceptions

-- An exception that the machine makes: it has no number, and null in place of its message.
abbrev pub exception : ClassId → Object
exception of = record { «class» = of; number = None; holds = Fields (Null ∷ []) }

abbrev pub with_object : Object → ℕ → World → World
with_object object cells w = record w { heap = w.heap ++ object ∷ []; cells = w.cells - cells }

-- throws an exception of this class, which takes 3 cells
abbrev pub raise : {A : Type 0} → ClassId → Does A
raise of s =
    if nat_lt s.world.cells 3 then (Err HeapLimit, s)
    else (Err (Throws (length s.world.heap)), in_world (with_object (exception of) 3) s)

-- ---- variables

abbrev pub read_local : LocalId → Does Value
read_local x s = given (slice_get s.world.variables x.0) s

abbrev pub with_variable : ℕ → Value → World → World
with_variable n v w = record w { variables = slice_set w.variables n v }

-- sets a variable, and gives the value
abbrev pub write_local : LocalId → Value → Does Value
write_local x v s =
    if nat_lt x.0 (length s.world.variables) then (Ok v, in_world (with_variable x.0 v) s) else (Err Wrong, s)

abbrev pub read_root : Root → Does Value
read_root (root.Local x) s = read_local x s
read_root _ s = (Err Wrong, s)

abbrev pub write_root : Root → Value → Does Value
write_root (root.Local x) v s = write_local x v s
write_root _ v s = (Err Wrong, s)

-- reads a target, after its tests
abbrev pub read_target : Target → Does Value
read_target at s = elim at.path [ [] ↦ read_root at.root s | field ∷ fields ↦ (Err Wrong, s) ]

-- writes a target, after its tests, and gives the value
abbrev pub write_target : Target → Value → Does Value
write_target at v s = elim at.path [ [] ↦ write_root at.root v s | field ∷ fields ↦ (Err Wrong, s) ]

-- ---- values

abbrev pub convert : BareType → BareType → Value → Does Value
convert from to v = given (converted from to v)

abbrev pub outcome_of_computed : Option Computed → Does Value
outcome_of_computed None s = (Err Wrong, s)
outcome_of_computed (Some (computing.Gives v)) s = (Ok v, s)
outcome_of_computed (Some (computing.Throws of)) s = raise of s

-- an operator on two values, of which the left one has this type
abbrev pub operate : BareType → Operator → Value → Value → Does Value
operate type operator v u = outcome_of_computed (computed type operator v u)

abbrev pub operate_alone : UnaryOperator → Value → Does Value
operate_alone operator v = given (computed_alone operator v)

-- the second where the value is true, and else the third
abbrev pub by_truth : {A : Type 0} → Value → Does A → Does A → Does A
by_truth v a b s = elim (is_true v) [ true ↦ a s | false ↦ b s ]

abbrev pub truth_value : Bool → Value
truth_value b = Int32 (truth b)

-- ---- output

abbrev pub with_output : List ℕ → World → World
with_output bytes w = record w { output = w.output ++ bytes }
