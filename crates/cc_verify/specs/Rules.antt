-- The rules that a method's body keeps (ECMA-335, III.1.7 and III.1.8), and the first that it breaks: clauses in their order, then instructions by offset, and at one offset by the number of the rule.
--   KeepsClause m before c k   a clause keeps a rule, with those before it
--   Keeps m h k                an instruction keeps a rule, with the stack before it
--   ClauseVerdict, CodeVerdict the first that breaks one, if any
--   MethodVerdict              those of a body together
-- The stack before an instruction is the handler's where one begins there, else what is fallen in with, else what the first branch brought, else empty (III.1.8.1.3):
-- a place has the stack that is given to it first, and each later way to it brings an equal one.
use Rattle.std.specs.Prelude.{◌≡◌, ◌≢◌, ◌==◌, ◌&&◌, ◌||◌, ◌+◌, ◌-◌, ℕ, zero, suc, Bool, true, false, List, [], ◌∷◌, ◌++◌, length, Option, Some, None, nat_le, if◌then◌else◌}
use Rattle.cc_base.specs.declared.identifiers.ClassId.{ClassId}
use Rattle.cc_cil.specs.declared.body.ClauseKind.{ClauseKind}
use Rattle.cc_cil.specs.declared.body.ClauseKind.TheVariants.{Catch, Finally, Fault}
use Rattle.cc_cil.specs.declared.body.Clause.{Clause}
use Rattle.cc_cil.specs.declared.body.Body.{Body}
use Rattle.cc_verify.specs.declared.stack_type.StackType.TheVariants.{Object}
use Rattle.cc_verify.specs.declared.transition.Transition.{Transition}
use Rattle.cc_verify.specs.declared.transition.Transition.TheVariants as to
use Rattle.cc_verify.specs.declared.environment.Environment.{Environment}
use Rattle.cc_verify.specs.declared.environment.Frame.{Frame}
use Rattle.cc_verify.specs.declared.method.Method.{Method}
use Rattle.cc_verify.specs.declared.places.Place.{Place}
use Rattle.cc_verify.specs.declared.places.Broken.{Broken}
use Rattle.cc_verify.specs.Transitions.{Stack, table_of, row_of, at_row, transition_of, is_built, takes, gives, effect, stores_fit, falls, branches, is_leave, jump}
use Rattle.cc_verify.specs.Regions.{try_past, handler_past, handles_not, is_clause, nests, may_pass, may_exit, is_out, begins_try, innermost_handler, ends_handler, is_cleanup, is_catch_handler, each_clause, some_clause}
use Rattle.cc_verify.specs.Places.{Decodes, starts_at}

-- ---- the first rule that is broken, by number

-- each rule below a number is kept
abbrev pub Before : (ℕ → Type 0) → ℕ → Type 0
Before Rule zero = Unit {0}
Before Rule (suc n) = Before Rule n × Rule n

-- the rule is broken, and each below it is kept
pub record IsFirst (Rule : ℕ → Type 0) (n : ℕ) : Type 0 where
  pub before : Before Rule n
  pub broken : Rule n → ⊥

-- ---- clauses: first their edges (rule 1), then how they nest (rule 6)

-- Where a clause begins an instruction does; where it ends one begins, or the code ends.
abbrev pub is_start : Method → ℕ → Bool
is_start m at = starts_at m.places at

abbrev pub is_end : Method → ℕ → Bool
is_end m at = at == m.size || is_start m at

abbrev pub has_edges : Method → Clause → Bool
has_edges m c = (is_start m c.try_first && is_end m (try_past c)) && (is_start m c.handler_first && is_end m (handler_past c))

abbrev pub is_nested : List Clause → Clause → Bool
is_nested before c = is_clause c && each_clause (λ d. nests d c) before

pub data ClauseVerdict (m : Method) : List Clause → List Clause → Option Broken → Type 0 where
  all_nest : {before : List Clause} → ClauseVerdict m before [] None
  no_edge : {before left : List Clause} {c : Clause} → has_edges m c ≡ false → ClauseVerdict m before (c ∷ left) (Some (record { at = c.try_first; rule = 1 }))
  not_nested : {before left : List Clause} {c : Clause} → has_edges m c ≡ true → is_nested before c ≡ false → ClauseVerdict m before (c ∷ left) (Some (record { at = c.try_first; rule = 6 }))
  nested : {before left : List Clause} {c : Clause} {verdict : Option Broken} → has_edges m c ≡ true → is_nested before c ≡ true → ClauseVerdict m (before ++ c ∷ []) left verdict → ClauseVerdict m before (c ∷ left) verdict

-- ---- the stacks of places

-- which stack was given to which offset, in order
abbrev pub Given : Type 0
Given = List (ℕ × Stack)

-- the first that was given to an offset
abbrev pub given_to : Given → ℕ → Option Stack
given_to [] at = None
given_to (g ∷ given) at = if g.0 == at then Some g.1 else given_to given at

-- the class that a catch names
abbrev pub caught : Option ClassId → Stack
caught None = []
caught (Some class) = Object class ∷ []

-- the classes of a module follow the library's 28, in the order of TypeDef
abbrev pub own_class : ℕ → ClassId
own_class row = record { 0 = 27 + row }

-- the class that a token names, of TypeRef or of TypeDef
abbrev pub class_of : Environment → ℕ → Option ClassId
class_of e token = if table_of token == 0x01 then at_row e.classes (row_of token) else if table_of token == 0x02 then Some (own_class (row_of token)) else None

-- a catch's handler begins with the exception, another with nothing
abbrev pub entry_of : Environment → ClauseKind → ℕ → Stack
entry_of e Catch class = caught (class_of e class)
entry_of e Finally class = []
entry_of e Fault class = []

abbrev pub entries : Environment → List Clause → Given
entries e [] = []
entries e (c ∷ clauses) = (c.handler_first, entry_of e c.kind c.class) ∷ entries e clauses

-- what comes a further way is what a place has
abbrev pub Agrees : Option Stack → Stack → Type 0
Agrees None s = Unit {0}
Agrees (Some has) s = has ≡ s

-- what is fallen in with is what the place has
abbrev pub Meets : Option Stack → Option Stack → Type 0
Meets None has = Unit {0}
Meets (Some s) has = Agrees has s

-- what is fallen in with, or what the place has, or nothing
abbrev pub arrival : Option Stack → Option Stack → Stack
arrival (Some s) has = s
arrival None (Some has) = has
arrival None None = []

-- ---- instructions

-- an instruction, the stack before it, and what its target has already, the instruction itself included
pub record Here : Type 0 where
  pub place : Place
  pub stack : Stack
  pub target_has : Option Stack

abbrev pub transition_at : Here → Transition
transition_at h = transition_of h.place.instruction

abbrev pub behind : Method → Here → Option Stack
behind m h = effect m.environment m.frame (transition_at h) h.stack

abbrev pub jump_at : Here → Option ℕ
jump_at h = jump (transition_at h) h.place.next

-- a target is a start
abbrev pub starts_target : Method → Option ℕ → Bool
starts_target m None = false
starts_target m (Some at) = is_start m at

abbrev pub is_aimed : Method → Transition → ℕ → Bool
is_aimed m t next = if branches t then starts_target m (jump t next) else true

-- enough values, and no more than the greatest number before it and behind it
abbrev pub has_room : Method → Transition → ℕ → Bool
has_room m t height =
    nat_le (takes m.environment m.frame t) height && (nat_le height m.most && nat_le (height - takes m.environment m.frame t + gives m.environment m.frame t) m.most)

-- what is brought to a target is what it has
abbrev pub Brings : Option Stack → Option ℕ → Option Stack → Type 0
Brings has None out = Unit {0}
Brings has (Some at) None = Unit {0}
Brings has (Some at) (Some out) = Agrees has out

-- a branch passes, and a leave exits
abbrev pub may_jump : Transition → List Clause → ℕ → Option ℕ → Bool
may_jump t clauses from None = true
may_jump t clauses from (Some at) = each_clause (if is_leave t then may_exit from at else may_pass from at) clauses

abbrev pub may_fall : Transition → List Clause → ℕ → ℕ → Bool
may_fall t clauses from next = if falls t then each_clause (may_pass from next) clauses else true

-- `ret` stands outside all clauses, and `endfinally` ends the innermost region
abbrev pub may_end : Transition → List Clause → ℕ → Bool
may_end to.Return clauses at = each_clause (is_out at) clauses
may_end to.EndFinally clauses at = ends_handler clauses at
may_end _ clauses at = true

-- no method begins in a handler
abbrev pub may_begin : List Clause → ℕ → Bool
may_begin clauses at = if at == 0 then each_clause (handles_not 0) clauses else true

-- a try begins with an empty stack
abbrev pub may_protect : List Clause → ℕ → Stack → Bool
may_protect clauses at [] = true
may_protect clauses at (a ∷ s) = if some_clause (begins_try at) clauses then false else true

-- the code's end is reached
abbrev pub runs_out : Transition → ℕ → ℕ → Bool
runs_out t next size = falls t && next == size

abbrev pub keeps_regions : Method → Place → Transition → Stack → Bool
keeps_regions m p t s =
    may_begin m.clauses p.at && (may_protect m.clauses p.at s && (may_fall t m.clauses p.at p.next && (may_jump t m.clauses p.at (jump t p.next) && may_end t m.clauses p.at)))

-- `endfinally` stands in a finally or fault handler, `rethrow` in a catch's with no other handler between
abbrev pub stands : Transition → Option ClauseKind → Bool
stands to.EndFinally kind = is_cleanup kind
stands to.Rethrow kind = is_catch_handler kind
stands _ kind = true

abbrev pub Keeps : Method → Here → ℕ → Type 0
-- 0: the machine has the instruction.
Keeps m h zero = is_built m.environment m.frame (transition_at h) ≡ true
-- 1: a target is a start.
Keeps m h (suc zero) = is_aimed m (transition_at h) h.place.next ≡ true
-- 2: the stack has enough, and never passes its greatest size.
Keeps m h (suc (suc zero)) = has_room m (transition_at h) (length h.stack) ≡ true
-- 3: operands have their types.
Keeps m h (suc (suc (suc zero))) = (out : Stack) × (behind m h ≡ Some out)
-- 4: what a branch brings is what its target has.
Keeps m h (suc (suc (suc (suc zero)))) = Brings h.target_has (jump_at h) (behind m h)
-- 5: the code's end isn't reached.
Keeps m h (suc (suc (suc (suc (suc zero))))) = runs_out (transition_at h) h.place.next m.size ≡ false
-- 7: regions are entered and left as they may be.
Keeps m h (suc (suc (suc (suc (suc (suc (suc zero))))))) = keeps_regions m h.place (transition_at h) h.stack ≡ true
-- 8: the ends of handlers stand in them.
Keeps m h (suc (suc (suc (suc (suc (suc (suc (suc zero)))))))) = stands (transition_at h) (innermost_handler m.clauses h.place.at) ≡ true
-- 11: local variables are stored by their types.
Keeps m h (suc (suc (suc (suc (suc (suc (suc (suc (suc (suc (suc zero))))))))))) = stores_fit m.frame (transition_at h) h.stack ≡ true
-- 6 is of clauses, and 9, 10 and 12 are of members, virtual methods and lengths of arrays, which the machine does not have.
Keeps m h n = Unit {0}

-- ---- code

-- with the stack before an instruction
abbrev pub given_here : Given → ℕ → Stack → Given
given_here given at s = given ++ (at, s) ∷ []

-- what its target has
abbrev pub target_has : Given → Option ℕ → Option Stack
target_has given None = None
target_has given (Some at) = given_to given at

-- what it brings to its target
abbrev pub brought : Option ℕ → Option Stack → Given
brought None out = []
brought (Some at) None = []
brought (Some at) (Some out) = (at, out) ∷ []

abbrev pub stack_here : Place → Given → Option Stack → Stack
stack_here p given fallen = arrival fallen (given_to given p.at)

abbrev pub here : Place → Given → Option Stack → Here
here p given fallen = record {
  place = p;
  stack = stack_here p given fallen;
  target_has = target_has (given_here given p.at (stack_here p given fallen)) (jump (transition_of p.instruction) p.next);
}

abbrev pub given_behind : Method → Place → Given → Option Stack → Given
given_behind m p given fallen = given_here given p.at (stack_here p given fallen) ++ brought (jump_at (here p given fallen)) (behind m (here p given fallen))

-- what the next instruction is fallen into with
abbrev pub fallen_behind : Method → Here → Option Stack
fallen_behind m h = if falls (transition_at h) then behind m h else None

-- From an offset on, with the stacks given so far and what is fallen in with: the first rule that is broken, or none. `end` is where the first offset lies that begins no instruction.
pub data CodeVerdict (m : Method) (end : ℕ) : Given → Option Stack → List Place → Option Broken → Type 0 where
  all_keep : {given : Given} {fallen : Option Stack} → end ≡ m.size → CodeVerdict m end given fallen [] None
  no_start : {given : Given} {fallen : Option Stack} → end ≢ m.size → CodeVerdict m end given fallen [] (Some (record { at = end; rule = 1 }))
  not_met : {given : Given} {fallen : Option Stack} {p : Place} {left : List Place} → (Meets fallen (given_to given p.at) → ⊥) → CodeVerdict m end given fallen (p ∷ left) (Some (record { at = p.at; rule = 4 }))
  breaks : {given : Given} {fallen : Option Stack} {p : Place} {left : List Place} {n : ℕ} → Meets fallen (given_to given p.at) → IsFirst (Keeps m (here p given fallen)) n
      → CodeVerdict m end given fallen (p ∷ left) (Some (record { at = p.at; rule = n }))
  keeps : {given : Given} {fallen : Option Stack} {p : Place} {left : List Place} {verdict : Option Broken} → Meets fallen (given_to given p.at) → Before (Keeps m (here p given fallen)) 13
      → CodeVerdict m end (given_behind m p given fallen) (fallen_behind m (here p given fallen)) left verdict → CodeVerdict m end given fallen (p ∷ left) verdict

-- ---- a body

abbrev pub method_with : Environment → Frame → Body → List Place → Method
method_with e f body places = record { environment = e; frame = f; clauses = body.clauses; places = places; most = body.max_stack; size = length body.code }

-- clauses first; code that is empty breaks rule 5 at its start
pub data Verdict (m : Method) (end : ℕ) : Option Broken → Type 0 where
  of_clauses : {broken : Broken} → ClauseVerdict m [] m.clauses (Some broken) → Verdict m end (Some broken)
  of_nothing : ClauseVerdict m [] m.clauses None → m.size ≡ 0 → Verdict m end (Some (record { at = 0; rule = 5 }))
  of_code : {verdict : Option Broken} → ClauseVerdict m [] m.clauses None → m.size ≢ 0 → CodeVerdict m end (entries m.environment m.clauses) None m.places verdict → Verdict m end verdict

abbrev pub MethodVerdict : Environment → Frame → Body → Option Broken → Type 0
MethodVerdict e f body verdict = (places : List Place) × (end : ℕ) × Decodes body.code 0 places end × Verdict (method_with e f body places) end verdict
