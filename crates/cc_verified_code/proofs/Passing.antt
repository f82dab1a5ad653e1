-- The verifier's pass finds the stacks of rows that keep the rules, and no rule that is broken.
use Rattle.std.proofs.Common.{◌≡◌, ℕ, ◌+◌, ◌-◌, ◌<◌, ◌≤◌, ◌⊎◌, inl, inr, List, [], ◌∷◌, ◌++◌, Bool, true, false, ◌&&◌, ◌||◌, ◌==◌, length, map, Option, Some, None, refl, sym, ap, ◌∙◌, subst, arith, ⊎_elim, if◌then◌else◌, ◌/◌, ◌%◌, nat_lt, eq-eqb, ne_eqb, eqb-true, le-leb, length-append}
use Rattle.std.specs.Prelude.{ℤ}
use Rattle.std.proofs.lemmas.Bool.{cases_lt}
use Rattle.std.proofs.lemmas.Option.{same_Some}
use Rattle.cc_cil.specs.declared.instruction.Instruction.{Instruction}
use Rattle.cc_cil.specs.Instructions.{opcode}
use Rattle.cc_code.specs.Instructions.{width, bytes}
use Rattle.cc_verify.specs.declared.environment.Environment.{Environment}
use Rattle.cc_verify.specs.declared.environment.Frame.{Frame}
use Rattle.cc_verify.specs.declared.method.Method.{Method}
use Rattle.cc_verify.specs.declared.places.Place.{Place}
use Rattle.cc_verify.specs.declared.transition.Transition.{Transition}
use Rattle.cc_verify.specs.declared.transition.Transition.TheVariants as to
use Rattle.cc_verify.specs.Places.{starts_at}
use Rattle.cc_verify.specs.Rules.{Before, Keeps, Given, given_to, Agrees, Meets, arrival, Here, behind, jump_at, is_aimed, starts_target, has_room, Brings, runs_out, may_begin, may_protect, may_fall, may_jump, may_end, keeps_regions, given_here, target_has, brought, stack_here, here, given_behind, fallen_behind, CodeVerdict, all_keep, keeps}
use Rattle.cc_verify.specs.Transitions.{Stack, takes, gives, falls, branches, branch_offset, is_some_offset, jump, target}
use Rattle.cc_verified_code.specs.Rows.{Row, row, instruction_of, Table, HasRows, Expects, transition, Reached, Takes, Leads, Good, AllGood, fetch, places}

opcode_some : (code : ℕ) (b : Bool) → 0 < length (if b then code ∷ [] else code / 0x100 ∷ code % 0x100 ∷ [])
opcode_some code true = omega arith
opcode_some code false = omega arith

-- no instruction is without a byte
pub width_some : (i : Instruction) → 1 ≤ width i
width_some i = let some = opcode_some (opcode i) (nat_lt (opcode i) 0x100) in rw length-append (omega (arith, some))

none_some : {A : Type 0} {B : Type 0} {a : A} → None ≡ Some a → B
none_some e = cc

some_none : {A : Type 0} {B : Type 0} {a : A} → Some a ≡ None → B
some_none e = cc

-- ---- what begins at an offset

test_true : {A : Type 0} (b : Bool) (x y : A) → b ≡ true → (if b then x else y) ≡ x
test_true true x y h = refl
test_true false x y h = let bad : false ≡ true = h in cc

test_false : {A : Type 0} (b : Bool) (x y : A) → b ≡ false → (if b then x else y) ≡ y
test_false false x y h = refl
test_false true x y h = let bad : true ≡ false = h in cc

-- what a test of a row says
tested : (b : Bool) (r q : Row) (o : Option Row) → (if b then Some q else o) ≡ Some r → ((b ≡ true) × (q ≡ r)) ⊎ ((b ≡ false) × (o ≡ Some r))
tested true r q o h = inl (refl, same_Some q r h)
tested false r q o h = inr (refl, h)

pub fetch_low : (rows : List Row) (lo pc : ℕ) → pc < lo → fetch rows lo pc ≡ None
fetch_low [] lo pc h = refl
fetch_low (r ∷ rows) lo pc h =
    let w = width_some r.instruction in
    test_false (lo == pc) (Some r) (fetch rows (lo + width r.instruction) pc) (ne_eqb lo pc (λ q. absurd (omega (arith, h, q)))) ∙ fetch_low rows (lo + width r.instruction) pc (omega arith)

fetched_from : (rows : List Row) (lo pc : ℕ) (r : Row) → fetch rows lo pc ≡ Some r → lo ≤ pc
fetched_from rows lo pc r h = ⊎_elim (λ (less : pc < lo). let none = fetch_low rows lo pc less in none_some (sym none ∙ h)) (λ (more : lo ≤ pc). more) (cases_lt pc lo)

pub has_rows : (at : Table) (rows : List Row) (lo : ℕ) → ((pc : ℕ) → lo ≤ pc → at pc ≡ fetch rows lo pc) → HasRows at lo rows
has_rows at [] lo h = tt
has_rows at (r ∷ rows) lo h =
    let w = width_some r.instruction in (
      h lo (omega arith) ∙ test_true (lo == lo) (Some r) (fetch rows (lo + width r.instruction) lo) (eq-eqb lo lo refl),
      has_rows at rows (lo + width r.instruction) (λ pc low. h pc (omega (arith, low, w)) ∙ test_false (lo == pc) (Some r) (fetch rows (lo + width r.instruction) pc) (ne_eqb lo pc (λ q. absurd (omega (arith, low, w, q))))),
    )

-- nothing begins within an instruction
pub gaps : (rows : List Row) (lo pc x : ℕ) (r : Row) → fetch rows lo pc ≡ Some r → pc < x → x < pc + width r.instruction → fetch rows lo x ≡ None
gaps [] lo pc x r h low high = none_some h
gaps (q ∷ rows) lo pc x r h low high =
    ⊎_elim
    (λ here.
    let same : lo ≡ pc = eqb-true lo pc here.0 in
    let wide : width q.instruction ≡ width r.instruction = ap (λ (r : Row). width r.instruction) here.1 in
    test_false (lo == x) (Some q) (fetch rows (lo + width q.instruction) x) (ne_eqb lo x (λ e. absurd (omega (arith, same, low, e)))) ∙ fetch_low rows (lo + width q.instruction) x (omega (arith, same, wide, high)))
    (λ behind.
    let w = width_some q.instruction in
    let from = fetched_from rows (lo + width q.instruction) pc r behind.1 in
    test_false (lo == x) (Some q) (fetch rows (lo + width q.instruction) x) (ne_eqb lo x (λ e. absurd (omega (arith, from, low, w, e)))) ∙ gaps rows (lo + width q.instruction) pc x r behind.1 low high)
    (tested (lo == pc) r q (fetch rows (lo + width q.instruction) pc) h)

-- what begins is a start
starts : (rows : List Row) (lo pc : ℕ) (r : Row) → fetch rows lo pc ≡ Some r → starts_at (places lo rows) pc ≡ true
starts [] lo pc r h = none_some h
starts (q ∷ rows) lo pc r h = by_test (lo == pc) h (starts rows (lo + width q.instruction) pc r)
  where
    by_test : (b : Bool) → (if b then Some q else fetch rows (lo + width q.instruction) pc) ≡ Some r
        → (fetch rows (lo + width q.instruction) pc ≡ Some r → starts_at (places (lo + width q.instruction) rows) pc ≡ true) → (b || starts_at (places (lo + width q.instruction) rows) pc) ≡ true
    by_test true h rec = refl
    by_test false h rec = rec h

-- and lies within the code
within : (rows : List Row) (lo pc : ℕ) (r : Row) → fetch rows lo pc ≡ Some r → pc < lo + bytes (map instruction_of rows)
within [] lo pc r h = none_some h
within (q ∷ rows) lo pc r h =
    let w = width_some q.instruction in
    ⊎_elim (λ here. let same : lo ≡ pc = eqb-true lo pc here.0 in omega (arith, same, w)) (λ behind. let rest = within rows (lo + width q.instruction) pc r behind.1 in omega (arith, rest)) (tested (lo == pc) r q (fetch rows (lo + width q.instruction) pc) h)

-- ---- stacks that were given

given_is : (b : Bool) (x s : Stack) (o : Option Stack) → (if b then Some x else o) ≡ Some s → ((b ≡ true) × (x ≡ s)) ⊎ (o ≡ Some s)
given_is true x s o h = inl (refl, same_Some x s h)
given_is false x s o h = inr h

to_front : (g h : Given) (t : ℕ) (s : Stack) → given_to g t ≡ Some s → given_to (g ++ h) t ≡ Some s
to_front [] h t s e = none_some e
to_front (a ∷ g) h t s e = by_test (a.0 == t) e (to_front g h t s)
  where
    by_test : (b : Bool) → (if b then Some a.1 else given_to g t) ≡ Some s → (given_to g t ≡ Some s → given_to (g ++ h) t ≡ Some s) → (if b then Some a.1 else given_to (g ++ h) t) ≡ Some s
    by_test true e rec = e
    by_test false e rec = rec e

-- what was given among two is given by the one or by the other
to_either : (g h : Given) (t : ℕ) (s : Stack) → given_to (g ++ h) t ≡ Some s → (given_to g t ≡ Some s) ⊎ (given_to h t ≡ Some s)
to_either [] h t s e = inr e
to_either (a ∷ g) h t s e = by_test (a.0 == t) e (to_either g h t s)
  where
    by_test : (b : Bool) → (if b then Some a.1 else given_to (g ++ h) t) ≡ Some s → (given_to (g ++ h) t ≡ Some s → (given_to g t ≡ Some s) ⊎ (given_to h t ≡ Some s))
        → ((if b then Some a.1 else given_to g t) ≡ Some s) ⊎ (given_to h t ≡ Some s)
    by_test true e rec = inl e
    by_test false e rec = rec e

-- what is given last is there
to_last : (g : Given) (t : ℕ) (s : Stack) → (x : Stack) × (given_to (g ++ (t, s) ∷ []) t ≡ Some x)
to_last [] t s = (s, test_true (t == t) (Some s) None (eq-eqb t t refl))
to_last (a ∷ g) t s = by_test (a.0 == t) (to_last g t s)
  where
    by_test : (b : Bool) → (x : Stack) × (given_to (g ++ (t, s) ∷ []) t ≡ Some x) → (x : Stack) × ((if b then Some a.1 else given_to (g ++ (t, s) ∷ []) t) ≡ Some x)
    by_test true h = (a.1, refl)
    by_test false h = h

module _ (at : Table) where
  its_stack : (pc : ℕ) (r : Row) (x : Stack) → at pc ≡ Some r → Expects at pc x → x ≡ r.stack
  its_stack pc r x h e = sym (ap (λ (r : Row). r.stack) (same_Some r (row e.0 x) (sym h ∙ e.1)))

  same_stack : (pc : ℕ) (s x : Stack) → Expects at pc s → Expects at pc x → s ≡ x
  same_stack pc s x a b = its_stack pc (row b.0 x) s b.1 a

  abbrev Sound : Given → Type 0
  Sound given = (t : ℕ) (s : Stack) → given_to given t ≡ Some s → Expects at t s

  one_sound : (pc t : ℕ) (s x : Stack) → Expects at pc s → given_to ((pc, s) ∷ []) t ≡ Some x → Expects at t x
  one_sound pc t s x h e =
      ⊎_elim
      (λ q. let to : pc ≡ t = eqb-true pc t q.0 in subst (λ (x : Stack). Expects at t x) q.1 (subst (λ (n : ℕ). Expects at n s) to h))
      (λ q. none_some q)
      (given_is (pc == t) s x None e)

  more_sound : (g h : Given) → Sound g → Sound h → Sound (g ++ h)
  more_sound g h a b t s e = ⊎_elim (λ q. a t s q) (λ q. b t s q) (to_either g h t s e)

-- what the pass knows at an offset
pub record Knows (at : Table) (pc : ℕ) (fallen : Option Stack) (given : Given) : Type 0 where
  pub sound : (t : ℕ) (s : Stack) → given_to given t ≡ Some s → Expects at t s
  pub sound_fall : (s : Stack) → fallen ≡ Some s → Expects at pc s
  pub full : (from t : ℕ) (q : Row) → from < pc → at from ≡ Some q → jump (transition q) (from + width q.instruction) ≡ Some t → (s : Stack) × (given_to given t ≡ Some s)
  pub full_fall : (from : ℕ) (q : Row) → from < pc → at from ≡ Some q → falls (transition q) ≡ true → from + width q.instruction ≡ pc → (s : Stack) × (fallen ≡ Some s)

both_true : (a b : Bool) → a ≡ true → b ≡ true → (a && b) ≡ true
both_true true b p q = q
both_true false b p q = let bad : false ≡ true = p in cc

if_same : (b : Bool) → (if b then true else true) ≡ true
if_same true = refl
if_same false = refl

begins_so : (pc : ℕ) → may_begin [] pc ≡ true
begins_so pc = if_same (pc == 0)

protects_so : (pc : ℕ) (s : Stack) → may_protect [] pc s ≡ true
protects_so pc [] = refl
protects_so pc (a ∷ s) = refl

falls_so : (t : Transition) (from next : ℕ) → may_fall t [] from next ≡ true
falls_so t from next = if_same (falls t)

jumps_so : (t : Transition) (from : ℕ) (o : Option ℕ) → may_jump t [] from o ≡ true
jumps_so t from None = refl
jumps_so t from (Some n) = refl

ends_so : (t : Transition) (pc : ℕ) → may_end t [] pc ≡ true
ends_so to.Nothing pc = refl
ends_so (to.LoadArgument n) pc = refl
ends_so (to.StoreArgument n) pc = refl
ends_so (to.LoadLocal n) pc = refl
ends_so (to.StoreLocal n) pc = refl
ends_so (to.Push of) pc = refl
ends_so to.Duplicate pc = refl
ends_so to.Pop pc = refl
ends_so (to.Call n) pc = refl
ends_so to.Return pc = refl
ends_so (to.Branch n) pc = refl
ends_so (to.BranchIf n) pc = refl
ends_so (to.BranchOrdered n) pc = refl
ends_so (to.BranchEqual n) pc = refl
ends_so to.Binary pc = refl
ends_so to.Shift pc = refl
ends_so to.Unary pc = refl
ends_so (to.Convert of) pc = refl
ends_so to.Order pc = refl
ends_so to.Equal pc = refl
ends_so to.Throw pc = refl
ends_so to.Rethrow pc = refl
ends_so to.EndFinally pc = refl
ends_so (to.Leave n) pc = refl
ends_so to.NotBuilt pc = refl

-- what leads elsewhere branches
jump_branches : (t : Transition) (next n : ℕ) → jump t next ≡ Some n → branches t ≡ true
jump_branches t next n h = by_offset (branch_offset t) h
  where
    by_offset : (o : Option ℤ) → target next o ≡ Some n → is_some_offset o ≡ true
    by_offset None h = none_some h
    by_offset (Some offset) h = refl

module _ (e : Environment) (f : Frame) (most : ℕ) (rows : List Row) where
  abbrev table : Table
  table = fetch rows 0

  abbrev pub method : Method
  method = record { environment = e; frame = f; clauses = []; places = places 0 rows; most = most; size = bytes (map instruction_of rows) }

  room : (t : Transition) (s out : Stack) → Takes e f most t s out → has_room method t (length s) ≡ true
  room t s out k =
      let a = k.taken in
      let b = k.given in
      let c = k.high in
      let d = k.high_behind in
      both_true _ _ (le-leb (takes e f t) (length s) (omega (arith, a))) (both_true _ _ (le-leb (length s) most c) (le-leb (length s - takes e f t + gives e f t) most (omega (arith, a, b, d))))

  aimed : (t : Transition) (next : ℕ) (out : Stack) → (branches t ≡ true → Leads e f most table t next out) → is_aimed method t next ≡ true
  aimed t next out h = by_test (branches t) (λ q. let l = h q in let there = starts rows 0 l.target (row l.expects.0 out) l.expects.1 in subst (λ (o : Option ℕ). starts_target method o ≡ true) (sym l.is) there)
    where
      by_test : (b : Bool) → (b ≡ true → starts_target method (jump t next) ≡ true) → (if b then starts_target method (jump t next) else true) ≡ true
      by_test true h = h refl
      by_test false h = refl

  stays_in : (t : Transition) (next : ℕ) (out : Stack) → (falls t ≡ true → Expects table next out) → runs_out t next method.size ≡ false
  stays_in t next out h = by_test (falls t) (λ q. let x = h q in let low = within rows 0 next (row x.0 out) x.1 in ne_eqb next method.size (λ same. absurd (omega (arith, low, same))))
    where
      by_test : (b : Bool) → (b ≡ true → (next == method.size) ≡ false) → (b && (next == method.size)) ≡ false
      by_test true h = h refl
      by_test false h = refl

  agrees : (given : Given) (n : ℕ) (out : Stack) → Sound table given → Expects table n out → Agrees (given_to given n) out
  agrees given n out sound x = by_has (given_to given n) refl
    where
      by_has : (o : Option Stack) → given_to given n ≡ o → Agrees o out
      by_has None h = tt
      by_has (Some has) h = same_stack table n has out (sound n has h) x

  brings_so : (given : Given) (o : Option ℕ) (out : Stack) → Sound table given → ((n : ℕ) → o ≡ Some n → Expects table n out) → Brings (target_has given o) o (Some out)
  brings_so given None out sound h = tt
  brings_so given (Some n) out sound h = agrees given n out sound (h n refl)

  module _ (pc : ℕ) (r : Row) (fallen : Option Stack) (given : Given) (is : table pc ≡ Some r) (g : Good e f most table pc r) (k : Knows table pc fallen given) where
    abbrev next : ℕ
    next = pc + width r.instruction

    abbrev p : Place
    p = record { at = pc; instruction = r.instruction; next = next }

    abbrev h : Here
    h = here p given fallen

    abbrev t : Transition
    t = transition r

    meets : Meets fallen (given_to given pc)
    meets = by_fallen fallen k.sound_fall
      where
        by_fallen : (o : Option Stack) → ((s : Stack) → o ≡ Some s → Expects table pc s) → Meets o (given_to given pc)
        by_fallen None h = tt
        by_fallen (Some s) h = agrees given pc s k.sound (h s refl)

    nothing_came : fallen ≡ None → given_to given pc ≡ None → Reached table pc r.stack → r.stack ≡ []
    nothing_came a b (inl empty) = empty
    nothing_came a b (inr came) =
        absurd (⊎_elim
        (λ j. let x = k.full came.from pc came.by came.before came.is j in none_some (sym b ∙ x.1))
        (λ l. let x = k.full_fall came.from came.by came.before came.is l.0 l.1 in none_some (sym a ∙ x.1))
        came.leads)

    found : stack_here p given fallen ≡ r.stack
    found = by_both fallen (given_to given pc) (λ s q. its_stack table pc r s is (k.sound_fall s q)) (λ s q. its_stack table pc r s is (k.sound pc s q)) (λ a b. nothing_came a b g.reached)
      where
        by_both : (o has : Option Stack) → ((s : Stack) → o ≡ Some s → s ≡ r.stack) → ((s : Stack) → has ≡ Some s → s ≡ r.stack) → (o ≡ None → has ≡ None → r.stack ≡ []) → arrival o has ≡ r.stack
        by_both (Some s) has a b c = a s refl
        by_both None (Some s) a b c = b s refl
        by_both None None a b c = sym (c refl refl)

    step : Takes e f most t h.stack g.out
    step = subst (λ (s : Stack). Takes e f most t s g.out) (sym found) g.step

    here_expects : Expects table pc h.stack
    here_expects = subst (λ (s : Stack). Expects table pc s) (sym found) (r.instruction, is)

    sound_here : Sound table (given_here given pc h.stack)
    sound_here = more_sound table given ((pc, h.stack) ∷ []) k.sound (λ n s q. one_sound table pc n h.stack s here_expects q)

    jump_expects : (n : ℕ) → jump t next ≡ Some n → Expects table n g.out
    jump_expects n j = let l = g.leads_to (jump_branches t next n j) in subst (λ (n : ℕ). Expects table n g.out) (same_Some l.target n (sym l.is ∙ j)) l.expects

    brings_it : Brings h.target_has (jump_at h) (behind method h)
    brings_it = subst (λ (o : Option Stack). Brings h.target_has (jump_at h) o) (sym step.does) (brings_so (given_here given pc h.stack) (jump t next) g.out sound_here jump_expects)

    regions_so : keeps_regions method p t h.stack ≡ true
    regions_so = both_true _ _ (begins_so pc) (both_true _ _ (protects_so pc h.stack) (both_true _ _ (falls_so t pc next) (both_true _ _ (jumps_so t pc (jump t next)) (ends_so t pc))))

    all_rules : Before (Keeps method h) 13
    all_rules = (((((((((((((tt, step.built), aimed t next g.out g.leads_to), room t h.stack g.out step), (g.out, step.does)), brings_it), stays_in t next g.out g.falls_to), tt), regions_so), step.outside), tt), tt), step.stores), tt)

    sound_brought : (o : Option ℕ) → ((n : ℕ) → o ≡ Some n → Expects table n g.out) → Sound table (brought o (Some g.out))
    sound_brought None h n s q = none_some q
    sound_brought (Some m) h n s q = one_sound table m n g.out s (h m refl) q

    brought_is : brought (jump_at h) (behind method h) ≡ brought (jump t next) (Some g.out)
    brought_is = ap (λ (o : Option Stack). brought (jump t next) o) step.does

    fallen_is : fallen_behind method h ≡ (if falls t then Some g.out else None)
    fallen_is = ap (λ (o : Option Stack). if falls t then o else None) step.does

    -- an instruction before the next place is before this one, or is this one
    one_more : (from : ℕ) (q : Row) → table from ≡ Some q → from < next → (from < pc) ⊎ ((from ≡ pc) × (r ≡ q))
    one_more from q x low =
        ⊎_elim (λ (a : from < pc). inl a)
        (λ (a : pc ≤ from). ⊎_elim
        (λ (b : pc < from). absurd (none_some (sym (gaps rows 0 pc from r is b low) ∙ x)))
        (λ (b : from ≤ pc). let same : from ≡ pc = omega (arith, a, b) in inr (same, same_Some r q (sym is ∙ (ap table (sym same) ∙ x))))
        (cases_lt pc from))
        (cases_lt from pc)

    fall_sound : (b : Bool) → (b ≡ true → Expects table next g.out) → (s : Stack) → (if b then Some g.out else None) ≡ Some s → Expects table next s
    fall_sound true h s q = subst (λ (s : Stack). Expects table next s) (same_Some g.out s q) (h refl)
    fall_sound false h s q = none_some q

    knows_more : Knows table next (if falls t then Some g.out else None) (given_here given pc h.stack ++ brought (jump t next) (Some g.out))
    knows_more = record {
      sound = more_sound table (given_here given pc h.stack) (brought (jump t next) (Some g.out)) sound_here (sound_brought (jump t next) jump_expects);
      sound_fall = fall_sound (falls t) g.falls_to;
      full = λ from n q low x j.
          ⊎_elim
          (λ (a : from < pc).
          let l = k.full from n q a x j in
          (l.0, to_front (given_here given pc h.stack) (brought (jump t next) (Some g.out)) n l.0 (to_front given ((pc, h.stack) ∷ []) n l.0 l.1)))
          (λ (a : (from ≡ pc) × (r ≡ q)).
          let width_same : from + width q.instruction ≡ next = let w : width r.instruction ≡ width q.instruction = ap (λ (r : Row). width r.instruction) a.1 in omega (arith, w, a.0) in
          let jr : jump t next ≡ Some n = ap (λ (r : Row). jump (transition r) next) a.1 ∙ (ap (λ (n : ℕ). jump (transition q) n) (sym width_same) ∙ j) in
          let l = to_last (given_here given pc h.stack) n g.out in
          (l.0, ap (λ (o : Option ℕ). given_to (given_here given pc h.stack ++ brought o (Some g.out)) n) jr ∙ l.1))
          (one_more from q x low);
      full_fall = λ from q low x fa w.
          ⊎_elim
          (λ (a : from < pc). absurd (let wr = width_some r.instruction in none_some (sym (gaps rows 0 from pc q x a (omega (arith, w, wr))) ∙ is)))
          (λ (a : (from ≡ pc) × (r ≡ q)).
          let fr : falls t ≡ true = ap (λ (r : Row). falls (transition r)) a.1 ∙ fa in
          (g.out, ap (λ (b : Bool). if b then Some g.out else None) fr))
          (one_more from q x low);
    }

  -- no instruction breaks a rule
  pub passes : (left : List Row) (pc : ℕ) (fallen : Option Stack) (given : Given) → HasRows table pc left → AllGood e f most table pc left → Knows table pc fallen given
      → CodeVerdict method (bytes (map instruction_of rows)) given fallen (places pc left) None
  passes [] pc fallen given h g k = all_keep refl
  passes (r ∷ left) pc fallen given h g k =
      let more = passes left (pc + width r.instruction) (if falls (transition r) then Some g.0.out else None) _ h.1 g.1 (knows_more pc r fallen given h.0 g.0 k) in
      keeps (meets pc r fallen given h.0 g.0 k) (all_rules pc r fallen given h.0 g.0 k)
      (subst (λ (o : Option Stack). CodeVerdict method (bytes (map instruction_of rows)) (given_behind method (p pc r fallen given h.0 g.0 k) given fallen) o (places (pc + width r.instruction) left) None) (sym (fallen_is pc r fallen given h.0 g.0 k))
      (subst (λ (b : Given). CodeVerdict method (bytes (map instruction_of rows)) (given_here given pc (stack_here (p pc r fallen given h.0 g.0 k) given fallen) ++ b) (if falls (transition r) then Some g.0.out else None) (places (pc + width r.instruction) left) None) (sym (brought_is pc r fallen given h.0 g.0 k)) more))

  -- at its start the pass knows nothing
  pub nothing_known : Knows table 0 None []
  nothing_known = record {
    sound = λ t s q. none_some q;
    sound_fall = λ s q. none_some q;
    full = λ from t q low x j. absurd (omega (arith, low));
    full_fall = λ from q low x fa w. absurd (omega (arith, low));
  }

  pub whole : AllGood e f most table 0 rows → CodeVerdict method (bytes (map instruction_of rows)) [] None (places 0 rows) None
  whole g = passes rows 0 None [] (has_rows table rows 0 (λ pc low. refl)) g nothing_known
