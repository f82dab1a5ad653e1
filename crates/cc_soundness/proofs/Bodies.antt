-- A body that breaks no rule is typed by the table of the verifier's pass.
use Rattle.std.proofs.Common.{◌≡◌, ◌≢◌, ℕ, ◌+◌, ◌-◌, ◌<◌, ◌/◌, ◌%◌, List, [], ◌∷◌, length, refl, sym, ap, ◌∙◌, subst, arith, length-append, length-drop, eq-eqb, eqb-true}
use Rattle.std.specs.Prelude.{Bool, true, false, not, ◌&&◌, ◌||◌, ◌==◌, Option, Some, None, nat_lt, if◌then◌else◌}
use Rattle.std.proofs.lemmas.Bool.{and_parts, or_left, or_right}
use Rattle.std.proofs.lemmas.Option.{same_Some}
use Rattle.cc_base.specs.declared.identifiers.ClassId.{ClassId}
use Rattle.cc_cil.specs.declared.body.Body.{Body}
use Rattle.cc_cil.specs.declared.body.ClauseKind.{ClauseKind}
use Rattle.cc_cil.specs.declared.body.ClauseKind.TheVariants.{Catch, Finally, Fault}
use Rattle.cc_cil.specs.declared.body.Clause.{Clause}
use Rattle.cc_cil.specs.declared.instruction.Instruction.{Instruction}
use Rattle.cc_cil.specs.Instructions.{spelling, opcode, OneSpelling}
use Rattle.cc_cil.specs.Steps.{Stands}
use Rattle.cc_execution.specs.declared.executable.Executable.{Executable}
use Rattle.cc_execution.specs.declared.executable.Method.{Method}
use Rattle.cc_execution.specs.declared.executable.PlacedOperation.{PlacedOperation}
use Rattle.cc_execution.specs.Loaded.{Decodes as Executes, ends, goes as executes}
use Rattle.cc_execution.specs.Operations.{Names, names_in, resolve}
use Rattle.cc_execution.specs.Step.{placed_at}
use Rattle.cc_verify.specs.declared.environment.Environment.{Environment}
use Rattle.cc_verify.specs.declared.method.Method.{Method as VerifiedMethod}
use Rattle.cc_verify.specs.declared.places.Place.{Place}
use Rattle.cc_verify.specs.declared.places.Broken.{Broken}
use Rattle.cc_verify.specs.declared.transition.Transition.{Transition}
use Rattle.cc_verify.specs.Transitions.{Stack, transition_of, jump}
use Rattle.cc_verify.specs.Regions.{is_catch, may_pass, handles_not, each_clause, in_handler}
use Rattle.cc_verify.specs.Places.{Decodes, stops, goes, starts_at}
use Rattle.cc_verify.specs.Rules.{Given, given_to, caught, class_of, entry_of, entries, arrival, has_edges, may_begin, may_protect, may_fall, may_jump, may_end, keeps_regions, stands, ClauseVerdict, CodeVerdict, Verdict, of_clauses, of_nothing, of_code, method_with}
use Rattle.cc_soundness.specs.Kinds.{frame_kinds}
use Rattle.cc_soundness.specs.Regions.{EachClause}
use Rattle.cc_soundness.specs.Typed.{Has, KeepsRulesAt, BeginsHandler, IsTyped}
use Rattle.cc_soundness.proofs.Nesting.{each_is, each_then, each_both}
use Rattle.cc_soundness.proofs.Tables.{some_none, to_front, AllStart, all_start_append, starts_given, Kept, AllPlaces, Chained, chained, FirstHas, Found, pass_finds, ClausesFound, clauses_found, entries_are, none_at_zero}

-- ---- the same code, read twice

opcode_some : (code : ℕ) (b : Bool) → 0 < length (if b then code ∷ [] else code / 0x100 ∷ code % 0x100 ∷ [])
opcode_some code true = omega arith
opcode_some code false = omega arith

-- nothing stands at the end
none_at_end : (code : List ℕ) (at : ℕ) → at ≡ length code → (i : Instruction) → Stands code at i → ⊥
none_at_end code at h i (rest, e, p) =
    let size : length code - at ≡ length (spelling i) + length rest = sym (length-drop at code) ∙ ap length e ∙ length-append (spelling i) rest in
    let some = opcode_some (opcode i) (nat_lt (opcode i) 0x100) in
    let long : 0 < length (spelling i) = rw length-append (omega (arith, some)) in
    absurd (omega (arith, size, h, long))

-- an instruction and its operation
record Agree (names : Names) (p : Place) (q : PlacedOperation) : Type 0 where
  at : p.at ≡ q.at
  next : p.next ≡ q.next
  resolves : resolve names q.next p.instruction ≡ Some q.operation

abbrev Aligned : Names → List Place → List PlacedOperation → Type 0
Aligned names [] [] = Unit {0}
Aligned names [] (q ∷ operations) = ⊥
Aligned names (p ∷ places) [] = ⊥
Aligned names (p ∷ places) (q ∷ operations) = Agree names p q × Aligned names places operations

abbrev place : ℕ → Instruction → Place
place at i = record { at = at; instruction = i; next = at + length (spelling i) }

module _ (one : OneSpelling) (names : Names) (code : List ℕ) where
  aligned : {at end : ℕ} {places : List Place} {operations : List PlacedOperation} → Decodes code at places end → Executes names code at operations → Aligned names places operations
  aligned (stops none) (ends e) = tt
  aligned (stops none) (executes i q stands a n o rest) = absurd (none i stands)
  aligned {at = at} (goes i begins more) (ends e) = absurd (none_at_end code at e i begins)
  aligned {at = at} (goes {end = end} {places = places} i begins more) (executes {rest = operations} j q stands a n o rest) =
      let same : i ≡ j = (one i j begins.0 stands.0 begins.2 stands.2 (sym begins.1 ∙ stands.1)).0 in
      let next : at + length (spelling i) ≡ q.next = ap (λ k. at + length (spelling k)) same ∙ sym n in
      (record { at = sym a; next = next; resolves = ap (λ k. resolve names q.next k) same ∙ o }, aligned (subst (λ k. Decodes code k places end) next more) rest)

-- ---- places by their offsets

record Located (names : Names) (P : Place → Type 0) (operations : List PlacedOperation) (at : ℕ) : Type 0 where
  here : Place
  is_at : here.at ≡ at
  has : P here
  placed : PlacedOperation
  found : placed_at operations at ≡ Some placed
  next : here.next ≡ placed.next
  resolves : resolve names placed.next here.instruction ≡ Some placed.operation

module _ (m : VerifiedMethod) where
  locate : (names : Names) (P : Place → Type 0) (places : List Place) (operations : List PlacedOperation) (at : ℕ) → Aligned names places operations → AllPlaces m P places → starts_at places at ≡ true → Located names P operations at
  locate names P [] operations at a h s = let bad : false ≡ true = s in cc
  locate names P (p ∷ places) [] at a h s = absurd a
  locate names P (p ∷ places) (q ∷ operations) at a h s = by_test (p.at == at) refl s (locate names P places operations at a.1 h.1) where
    by_test : (b : Bool) → (p.at == at) ≡ b → (b || starts_at places at) ≡ true → (starts_at places at ≡ true → Located names P operations at) → Located names P (q ∷ operations) at
    by_test true e s rec =
        let same : (q.at == at) ≡ true = ap (λ n. n == at) (sym a.0.at) ∙ e in
        record { here = p; is_at = eqb-true p.at at e; has = h.0; placed = q; found = ap (λ b. if b then Some q else placed_at operations at) same; next = a.0.next; resolves = a.0.resolves }
    by_test false e s rec =
        let other : (q.at == at) ≡ false = ap (λ n. n == at) (sym a.0.at) ∙ e in
        let r = rec s in
        record { here = r.here; is_at = r.is_at; has = r.has; placed = r.placed; found = ap (λ b. if b then Some q else placed_at operations at) other ∙ r.found; next = r.next; resolves = r.resolves }

  more_starts : (q : Place) (all places : List Place) → AllPlaces m (λ (p : Place). starts_at all p.at ≡ true) places → AllPlaces m (λ (p : Place). starts_at (q ∷ all) p.at ≡ true) places
  more_starts q all [] h = tt
  more_starts q all (p ∷ places) h = (or_right (q.at == p.at) (starts_at all p.at) h.0, more_starts q all places h.1)

  pub own_starts : (places : List Place) → AllPlaces m (λ (p : Place). starts_at places p.at ≡ true) places
  own_starts [] = tt
  own_starts (p ∷ places) = (or_left (p.at == p.at) (starts_at places p.at) (eq-eqb p.at p.at refl), more_starts p places places (own_starts places))

  entries_start : (e : Environment) (cs : List Clause) → EachClause (λ (c : Clause). has_edges m c ≡ true) cs → AllStart m (entries e cs)
  entries_start e [] h = tt
  entries_start e (c ∷ cs) h = ((and_parts _ _ (and_parts _ _ h.0).1).0, entries_start e cs h.1)

  pub record Parts (end : ℕ) : Type 0 where
    pub of_clauses_is : ClauseVerdict m [] m.clauses None
    pub not_empty : m.size ≢ 0
    pub verdict : Option Broken
    pub of_code_is : CodeVerdict m end (entries m.environment m.clauses) None m.places verdict
    pub none : verdict ≡ None

  pub parts : {end : ℕ} {v : Option Broken} → Verdict m end v → v ≡ None → Parts end
  parts (of_clauses c) n = some_none _ n
  parts (of_nothing c e) n = some_none _ n
  parts (of_code {verdict = v} c ne code) n = record { of_clauses_is = c; not_empty = ne; verdict = v; of_code_is = code; none = n }

regions_parts : (m : VerifiedMethod) (q : Place) (how : Transition) (s : Stack) → keeps_regions m q how s ≡ true
    → (may_begin m.clauses q.at ≡ true) × (may_fall how m.clauses q.at q.next ≡ true) × (may_jump how m.clauses q.at (jump how q.next) ≡ true)
regions_parts m q how s h =
    let jumps = may_jump how m.clauses q.at (jump how q.next) in
    let fall = may_fall how m.clauses q.at q.next in
    let end = may_end how m.clauses q.at in
    let protect = may_protect m.clauses q.at s in
    let a = and_parts (may_begin m.clauses q.at) (protect && (fall && (jumps && end))) h in
    let b = and_parts protect (fall && (jumps && end)) a.1 in
    let c = and_parts fall (jumps && end) b.1 in
    let d = and_parts jumps end c.1 in
    (a.0, c.0, d.0)

-- the class of each catch is there
abbrev pub CatchIsThere : Environment → Clause → Type 0
CatchIsThere e c = is_catch c.kind ≡ true → (class : ClassId) × (class_of e c.class ≡ Some class)

begins_by : (e : Environment) (t : Given) (of : ClauseKind) (class at : ℕ) → (is_catch of ≡ true → (id : ClassId) × (class_of e class ≡ Some id)) → given_to t at ≡ Some (entry_of e of class) → BeginsHandler t of at
begins_by e t Catch class at there h = let c = there refl in (c.0, h ∙ ap (λ o. Some (caught o)) c.1)
begins_by e t Finally class at there h = h
begins_by e t Fault class at there h = h

-- with the clauses and the height of a body
abbrev with_body : Method → List Clause → ℕ → Method
with_body m clauses most = record m { clauses = clauses; max_stack = most }

module _ (one : OneSpelling) (x : Executable) (e : Environment) (method : Method) (body : Body) (there : EachClause (CatchIsThere e) body.clauses) (places : List Place) (end : ℕ)
    (decodes : Decodes body.code 0 places end) (verdict : Verdict (method_with e (frame_kinds method) body places) end None) (executed : Executes (names_in x method) body.code 0 method.operations) where
  abbrev m : VerifiedMethod
  m = method_with e (frame_kinds method) body places

  abbrev cs : List Clause
  cs = body.clauses

  abbrev own : Method
  own = with_body method body.clauses body.max_stack

  p : Parts m end
  p = parts m verdict refl

  chain : Chained m 0 places end
  chain = chained m decodes

  found : Found m end (entries e cs) None places
  found = pass_finds m p.of_code_is p.none 0 chain (own_starts m places)

  clauses : ClausesFound m [] cs
  clauses = clauses_found m p.of_clauses_is refl

  abbrev table : Given
  table = found.table

  all_start : AllStart m table
  all_start = subst (AllStart m) (sym found.extends) (all_start_append m (entries e cs) found.more (entries_start m e cs clauses.edges) found.starts)

  -- ---- the method's start

  record Start : Type 0 where
    outside : each_clause (handles_not 0) cs ≡ true
    empty : Has table 0 []

  zero_out : each_clause (handles_not 0) cs ≡ true → given_to (entries e cs) 0 ≡ None
  zero_out h = none_at_zero e cs clauses.nested (each_then (λ (c : Clause). handles_not 0 c ≡ true) (λ (c : Clause). in_handler c 0 ≡ false) (λ c g. not_is (in_handler c 0) g) cs (each_is (handles_not 0) cs h)) where
    not_is : (a : Bool) → not a ≡ true → a ≡ false
    not_is true h = let bad : false ≡ true = h in cc
    not_is false h = refl

  starts_by : (ps : List Place) → Chained m 0 ps end → AllPlaces m (Kept m table) ps → FirstHas m table (entries e cs) None ps → Start
  starts_by [] ch kept first = absurd (p.not_empty (sym (ch ∙ found.ends)))
  starts_by (q ∷ ps) ch kept first =
      let regions = kept.0.regions in
      let begins : may_begin cs 0 ≡ true = subst (λ n. may_begin cs n ≡ true) ch.0 (regions_parts m q (transition_of q.instruction) kept.0.stack regions).0 in
      let none = zero_out begins in
      record {
        outside = begins;
        empty = subst (λ n. given_to table n ≡ Some (arrival None (given_to (entries e cs) n))) ch.0 first ∙ ap (λ o. Some (arrival None o)) none;
      }

  start : Start
  start = starts_by places chain found.kept found.first

  -- ---- handlers

  handlers : EachClause (λ (c : Clause). BeginsHandler table c.kind c.handler_first) cs
  handlers =
      each_then (λ (c : Clause). CatchIsThere e c × (given_to (entries e cs) c.handler_first ≡ Some (entry_of e c.kind c.class))) (λ (c : Clause). BeginsHandler table c.kind c.handler_first)
      (λ c h. begins_by e table c.kind c.class c.handler_first h.0 (subst (λ t. given_to t c.handler_first ≡ Some (entry_of e c.kind c.class)) (sym found.extends) (to_front (entries e cs) found.more c.handler_first (entry_of e c.kind c.class) h.1)))
      cs (each_both (CatchIsThere e) (λ (c : Clause). given_to (entries e cs) c.handler_first ≡ Some (entry_of e c.kind c.class)) cs there (entries_are e cs clauses.nested))

  -- ---- each offset that has a stack

  keeps_at : (q : Place) (kept : Kept m table q) (placed : PlacedOperation) → placed_at method.operations q.at ≡ Some placed → q.next ≡ placed.next → resolve (names_in x method) placed.next q.instruction ≡ Some placed.operation
      → KeepsRulesAt x e own table q.at kept.stack
  keeps_at q kept placed is next resolves =
      let how = transition_of q.instruction in
      let r = regions_parts m q how kept.stack kept.regions in
      record {
        placed = placed;
        is = is;
        instruction = q.instruction;
        resolves = resolves;
        small = kept.small;
        behind = kept.behind;
        leaves = kept.leaves;
        stores = kept.stores;
        fall = λ f. (
          subst (λ n. given_to table n ≡ Some kept.behind) next (kept.fall f),
          subst (λ n. each_clause (may_pass q.at n) cs ≡ true) next (ap (λ z. if z then each_clause (may_pass q.at q.next) cs else true) (sym f) ∙ r.1),
        );
        jump_to = λ to j.
            let k : jump how q.next ≡ Some to = ap (λ n. jump how n) next ∙ j in
            (kept.jump_to to k, subst (λ o. may_jump how cs q.at o ≡ true) k r.2);
        stays = kept.stays;
      }

  covered : (at : ℕ) (s : Stack) → Has table at s → KeepsRulesAt x e own table at s
  covered at s h =
      let names = names_in x method in
      let l = locate m names (Kept m table) places method.operations at (aligned one names body.code decodes executed) found.kept (starts_given m table at s all_start h) in
      let k = keeps_at l.here l.has l.placed (subst (λ n. placed_at method.operations n ≡ Some l.placed) (sym l.is_at) l.found) l.next l.resolves in
      let same : l.has.stack ≡ s = same_Some l.has.stack s (sym l.has.has ∙ subst (λ n. given_to table n ≡ Some s) (sym l.is_at) h) in
      subst (λ z. KeepsRulesAt x e own table at z) same (subst (λ n. KeepsRulesAt x e own table n l.has.stack) l.is_at k)

  body_typed : IsTyped x e own table
  body_typed = record { start = start.empty; outside = start.outside; nested = clauses.nested; handlers = handlers; covered = covered }

  pub typed_by : method.clauses ≡ body.clauses → method.max_stack ≡ body.max_stack → (t : Given) × IsTyped x e method t
  typed_by ce me =
      let same : own ≡ method = ap (λ l. with_body method l body.max_stack) (sym ce) ∙ ap (with_body method method.clauses) (sym me) in
      (table, subst (λ z. IsTyped x e z table) same body_typed)
