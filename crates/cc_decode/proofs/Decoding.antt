-- The operations of code, one after another.
use Rattle.std.proofs.Common.{◌≡◌, ◌≤◌, ◌<◌, ◌+◌, ◌-◌, ℕ, List, [], ◌∷◌, ◌++◌, length, refl, sym, ap, subst, ◌∙◌, length-append, length-drop, append_assoc, append-nil, arith}
use Rattle.std.specs.Prelude.{Bool, true, false, ◌/◌, ◌%◌, nat_lt, if◌then◌else◌, Some, Result, Ok, Err}
use Rattle.std.proofs.lemmas.Option.{same_Some}
use Rattle.cc_cil.specs.declared.instruction.Instruction.{Instruction}
use Rattle.cc_cil.specs.Instructions.{spelling, opcode}
use Rattle.cc_cil.specs.Steps.{Stands}
use Rattle.cc_execution.specs.declared.operation.Operation.{Operation}
use Rattle.cc_execution.specs.declared.executable.PlacedOperation.{PlacedOperation}
use Rattle.cc_execution.specs.Operations.{Names, resolve}
use Rattle.cc_execution.specs.Loaded.{Decodes, ends, goes}
use Rattle.cc_decode.specs.declared.members.Members.{Members}
use Rattle.cc_decode.specs.declared.variables.Variables.{Variables}
use Rattle.cc_decode.specs.Scope.{IsScope, HasOperations, Continues}

ok_or : {A E : Type 0} → A → Result A E → A
ok_or a (Ok x) = x
ok_or a (Err e) = a

ok_is : {A E : Type 0} (a b : A) (r : Result A E) → r ≡ Ok a → r ≡ Ok b → a ≡ b
unfolding ok_or
ok_is a b r p q = ap (ok_or a) (sym p ∙ q)

-- an instruction and the offset behind it
pub ok_parts : {E : Type 0} (i j : Instruction) (n k : ℕ) (r : Result (Instruction × ℕ) E) → r ≡ Ok (i, n) → r ≡ Ok (j, k) → (i ≡ j) × (n ≡ k)
ok_parts i j n k r p q = let e = ok_is (i, n) (j, k) r p q in (ap (λ (x : Instruction × ℕ). x.0) e, ap (λ (x : Instruction × ℕ). x.1) e)

opcode_some : (code : ℕ) (b : Bool) → 0 < length (if b then code ∷ [] else code / 0x100 ∷ code % 0x100 ∷ [])
opcode_some code true = omega arith
opcode_some code false = omega arith

spelling_some : (i : Instruction) → 0 < length (spelling i)
spelling_some i = let some = opcode_some (opcode i) (nat_lt (opcode i) 0x100) in rw length-append (omega (arith, some))

-- an instruction ends within the code
pub stands_within : (code : List ℕ) (at : ℕ) (i : Instruction) → Stands code at i → at < length code → at + length (spelling i) ≤ length code
stands_within code at i (rest, e, p) h =
    let size : length code - at ≡ length (spelling i) + length rest = sym (length-drop at code) ∙ ap length e ∙ length-append (spelling i) rest in
    omega (arith, size, h, spelling_some i)

-- and behind the place where it begins
pub stands_later : (at next : ℕ) (i : Instruction) → next ≡ at + length (spelling i) → at < next
stands_later at next i e = omega (arith, e, spelling_some i)

-- nothing stands at the end
none_at_end : (code : List ℕ) (at : ℕ) → length code ≤ at → (i : Instruction) → Stands code at i → ⊥
none_at_end code at h i (rest, e, p) =
    let size : length code - at ≡ length (spelling i) + length rest = sym (length-drop at code) ∙ ap length e ∙ length-append (spelling i) rest in
    absurd (omega (arith, size, h, spelling_some i))

placed : ℕ → Operation → ℕ → PlacedOperation
placed at operation next = record { at = at; operation = operation; next = next }

placed_is : (p q : PlacedOperation) → p.at ≡ q.at → p.operation ≡ q.operation → p.next ≡ q.next → p ≡ q
unfolding placed
placed_is p q e f g = ap (λ n. placed n p.operation p.next) e ∙ ap (λ o. placed q.at o p.next) f ∙ ap (λ n. placed q.at q.operation n) g

-- an instruction with its operation stands at each offset within the code
pub record IsNext (names : Names) (code : List ℕ) (at : ℕ) : Type 0 where
  pub instruction : Instruction
  pub operation : Operation
  pub stands : Stands code at instruction
  pub resolves : resolve names (at + length (spelling instruction)) instruction ≡ Some operation

pub next_of : (names : Names) (code : List ℕ) (at : ℕ) (operations : List PlacedOperation) → at < length code → Decodes names code at operations → IsNext names code at
next_of names code at operations lt (ends e) = absurd (omega (arith, e, lt))
next_of names code at operations lt (goes i p stands a n o more) =
    record { instruction = i; operation = p.operation; stands = stands; resolves = ap (λ k. resolve names k i) (sym n) ∙ o }

-- the operations from an offset on, where the instruction there, the next offset and the operation are known
pub goes_here : (names : Names) (code : List ℕ) (at : ℕ) (operations : List PlacedOperation) (instruction : Instruction) (next : ℕ) (operation : Operation) → at < length code
    → ((i : Instruction) → Stands code at i → (instruction ≡ i) × (next ≡ at + length (spelling i)))
    → Some operation ≡ resolve names next instruction → Decodes names code at operations → Continues names code (record { at = at; operation = operation; next = next }) operations
goes_here names code at operations instruction next operation lt spelled resolved (ends e) = absurd (omega (arith, e, lt))
goes_here names code at operations instruction next operation lt spelled resolved (goes {rest = rest} i p stands a n o more) =
    let s = spelled i stands in
    let same_next : next ≡ p.next = s.1 ∙ sym n in
    let same : operation ≡ p.operation =
    same_Some operation p.operation (resolved ∙ ap (λ k. resolve names next k) s.0 ∙ ap (λ k. resolve names k i) same_next ∙ o) in
    record {
      rest = rest;
      split = ap (λ z. z ∷ rest) (sym (placed_is (record { at = at; operation = operation; next = next }) p (sym a) same same_next));
      more = subst (λ k. Decodes names code k rest) (sym same_next) more;
    }

-- what is known of the operations from an offset on, behind those that were found
abbrev pub Leads : Members → Variables → List ℕ → List PlacedOperation → ℕ → Type 0
Leads members variables code found at =
    (names : Names) → IsScope names members variables → (operations : List PlacedOperation) → Decodes names code 0 operations → (rest : List PlacedOperation) × Decodes names code at rest × (operations ≡ found ++ rest)

pub leads_on : (members : Members) (variables : Variables) (code : List ℕ) (old new : List PlacedOperation) (at : ℕ) (placed : PlacedOperation) → new ≡ old ++ placed ∷ []
    → ((names : Names) → IsScope names members variables → (operations : List PlacedOperation) → Decodes names code at operations → Continues names code placed operations)
    → Leads members variables code old at → Leads members variables code new placed.next
leads_on members variables code old new at placed e continues leads names scope operations d =
    let before = leads names scope operations d in
    let here = continues names scope before.0 before.1 in
    (here.rest, here.more, before.2 ∙ ap (λ l. old ++ l) here.split ∙ sym (append_assoc old (placed ∷ []) here.rest) ∙ ap (λ l. l ++ here.rest) (sym e))

pub has_here : (members : Members) (variables : Variables) (code : List ℕ) (found : List PlacedOperation) (at : ℕ) → HasOperations members variables code 0 → Leads members variables code found at → HasOperations members variables code at
has_here members variables code found at (names, scope, operations, d) leads = let here = leads names scope operations d in (names, scope, here.0, here.1)

nothing_left : (names : Names) (code : List ℕ) (at : ℕ) (operations : List PlacedOperation) → length code ≤ at → Decodes names code at operations → operations ≡ []
nothing_left names code at operations h (ends e) = refl
nothing_left names code at operations h (goes i p stands a n o more) = absurd (none_at_end code at h i stands)

pub leads_all : (members : Members) (variables : Variables) (code : List ℕ) (found : List PlacedOperation) (at : ℕ) → length code ≤ at → Leads members variables code found at
    → (names : Names) → IsScope names members variables → (operations : List PlacedOperation) → Decodes names code 0 operations → found ≡ operations
leads_all members variables code found at h leads names scope operations d =
    let last = leads names scope operations d in
    sym (last.2 ∙ ap (λ l. found ++ l) (nothing_left names code at last.0 h last.1) ∙ append-nil found)
