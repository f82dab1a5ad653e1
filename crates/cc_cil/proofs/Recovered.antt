-- The spelling of a body tells the body, and has no fault.
use Rattle.std.proofs.Common.{◌≡◌, ℕ, zero, suc, ◌+◌, ◌*◌, ◌%◌, ◌^◌, ◌<◌, ◌≤◌, min, Bool, true, false, not, eqb, ◌&&◌, List, [], ◌∷◌, ◌++◌, ◌⊎◌, inl, inr, length, take, drop, Option, Some, None, refl, sym, ap, subst, ◌∙◌, append_assoc, if◌then◌else◌, lit<, arith}
use Rattle.std.specs.Prelude.{Result, Ok, Err, IfOk, IsOkUnless}
use Rattle.std.specs.List.{flat_map, AllByRecursion}
use Rattle.std.proofs.Math.ListN.{drop_of_length-le}
use Rattle.std.proofs.lemmas.Bool.{cases_lt, le-ltb, eqb-true, eq-eqb, leb-true, ltb-true}
use Rattle.std.proofs.lemmas.List.{take_at, drop_at, drop-drop, length-append, length-drop}
use Rattle.std.proofs.lemmas.List.Concat.{flat_map-cons}
use Rattle.cc_layout.specs.declared.field.Field.{Field}
use Rattle.cc_layout.specs.Numbers.{AreBytes}
use Rattle.cc_layout.specs.Layout.{fault_of, bytes_of, peeked, Spells, FitsField}
use Rattle.cc_layout.proofs.Numbers.{AreBytes-drop}
use Rattle.cc_layout.proofs.Laws.{bytes_of-append, bytes_of-spells, bytes_of-no_fault, peeked-stands, length-bytes_of}
use Rattle.cc_cil.specs.declared.body.ClauseKind.{ClauseKind}
use Rattle.cc_cil.specs.declared.body.ClauseKind.TheVariants.{Catch, Finally, Fault}
use Rattle.cc_cil.specs.declared.body.Clause.{Clause}
use Rattle.cc_cil.specs.declared.body.Body.{Body}
use Rattle.cc_cil.specs.declared.fault.CodeFault.{CodeFault}
use Rattle.cc_cil.specs.declared.fault.CodeFault.TheVariants.{Short, UnknownOpcode, BadHeader, BadClause, Memory}
use Rattle.cc_cil.specs.Bodies.{kind_flags, class_of, clause_layout, clause_width, clause_is_small, each_is_small, is_small, section_head, section_layout, padding, zeros, FAT, FAT_WITH_SECTION, fat_header, tiny_header, is_tiny, bytes_by, body_bytes, HasClass, HasSpelling, IsClauseInRange, IsInRange}
use Rattle.cc_cil.specs.BodyFaults.{kind_of, clause_in, clauses_in, section_is_small, count_in, section_clauses, tail_layout, has_tiny_header, has_section, flags_in, clauses_after, tiny_size, body_in, width_in, located, code_fault, form_fault, header_fault, section_form_fault, tail_fault, fault_after, body_fault}
use Rattle.cc_cil.proofs.Reading.{width_of-clause, width_of-zeros, first_none}
use Rattle.cc_cil.proofs.Sound.{which, first_byte, sound}

both_of : (a b : Bool) → (a && b) ≡ true → (a ≡ true) × (b ≡ true)
both_of true b e = (refl, e)
both_of false b e = absurd cc

-- ---- clauses

flags_below : (kind : ClauseKind) → kind_flags kind < 5
flags_below Catch = lit< tt
flags_below Finally = lit< tt
flags_below Fault = lit< tt

class_below : (kind : ClauseKind) (class : ℕ) → class < 2 ^ 32 → class_of kind class < 2 ^ 32
class_below Catch class h = h
class_below Finally class h = lit< tt
class_below Fault class h = lit< tt

kind_told : (kind : ClauseKind) → kind_of (kind_flags kind) ≡ kind
kind_told Catch = refl
kind_told Finally = refl
kind_told Fault = refl

clause_fits : (small : Bool) (c : Clause) → IsClauseInRange c → (small ≡ true → clause_is_small c ≡ true) → AllByRecursion FitsField (clause_layout small c)
clause_fits true c h is =
    let p = both_of _ _ (is refl) in
    let q = both_of _ _ p.0 in
    let r = both_of _ _ q.0 in
    let flags = flags_below c.kind in
    (omega (arith, flags), (ltb-true _ _ r.0, (ltb-true _ _ r.1, (ltb-true _ _ q.1, (ltb-true _ _ p.1, (class_below c.kind c.class h.class, tt))))))
clause_fits false c h is =
    let flags = flags_below c.kind in
    (omega (arith, flags), (h.try_first, (h.try_length, (h.handler_first, (h.handler_length, (class_below c.kind c.class h.class, tt))))))

clause_told : (small : Bool) (c : Clause) (bytes rest : List ℕ) → HasClass c → Spells (clause_layout small c) bytes rest → clause_in small bytes ≡ c
clause_told true c bytes rest has h =
    let kind = ap kind_of (peeked-stands (clause_layout true c) bytes rest 0 0 2 (kind_flags c.kind) h refl refl) ∙ kind_told c.kind in
    let try_first = peeked-stands (clause_layout true c) bytes rest 1 2 2 c.try_first h refl refl in
    let try_length = peeked-stands (clause_layout true c) bytes rest 2 4 1 c.try_length h refl refl in
    let handler_first = peeked-stands (clause_layout true c) bytes rest 3 5 2 c.handler_first h refl refl in
    let handler_length = peeked-stands (clause_layout true c) bytes rest 4 7 1 c.handler_length h refl refl in
    let class = peeked-stands (clause_layout true c) bytes rest 5 8 4 (class_of c.kind c.class) h refl refl ∙ has in
    λ i. record { kind = kind i; try_first = try_first i; try_length = try_length i; handler_first = handler_first i; handler_length = handler_length i; class = class i }
clause_told false c bytes rest has h =
    let kind = ap kind_of (peeked-stands (clause_layout false c) bytes rest 0 0 4 (kind_flags c.kind) h refl refl) ∙ kind_told c.kind in
    let try_first = peeked-stands (clause_layout false c) bytes rest 1 4 4 c.try_first h refl refl in
    let try_length = peeked-stands (clause_layout false c) bytes rest 2 8 4 c.try_length h refl refl in
    let handler_first = peeked-stands (clause_layout false c) bytes rest 3 12 4 c.handler_first h refl refl in
    let handler_length = peeked-stands (clause_layout false c) bytes rest 4 16 4 c.handler_length h refl refl in
    let class = peeked-stands (clause_layout false c) bytes rest 5 20 4 (class_of c.kind c.class) h refl refl ∙ has in
    λ i. record { kind = kind i; try_first = try_first i; try_length = try_length i; handler_first = handler_first i; handler_length = handler_length i; class = class i }

fits-append : (a b : List Field) → AllByRecursion FitsField a → AllByRecursion FitsField b → AllByRecursion FitsField (a ++ b)
fits-append [] b h k = k
fits-append (f ∷ a) b h k = (h.0, fits-append a b h.1 k)

clauses_fit : (small : Bool) (clauses : List Clause) → AllByRecursion IsClauseInRange clauses → (small ≡ true → each_is_small clauses ≡ true) → AllByRecursion FitsField (flat_map (clause_layout small) clauses)
clauses_fit small [] h is = tt
clauses_fit small (c ∷ clauses) h is = subst (AllByRecursion FitsField) (sym (flat_map-cons (clause_layout small) c clauses))
    (fits-append (clause_layout small c) (flat_map (clause_layout small) clauses) (clause_fits small c h.0 (λ e. (both_of _ _ (is e)).0)) (clauses_fit small clauses h.1 (λ e. (both_of _ _ (is e)).1)))

clauses_told : (small : Bool) (clauses : List Clause) (bytes rest : List ℕ) → AllByRecursion HasClass clauses → AllByRecursion IsClauseInRange clauses → (small ≡ true → each_is_small clauses ≡ true)
    → bytes ≡ bytes_of (flat_map (clause_layout small) clauses) ++ rest → clauses_in small (length clauses) bytes ≡ clauses
clauses_told small [] bytes rest has h is e = refl
clauses_told small (c ∷ clauses) bytes rest has h is e =
    let others = bytes_of (flat_map (clause_layout small) clauses) ++ rest in
    let parts : bytes ≡ bytes_of (clause_layout small c) ++ others =
    e ∙ ap (λ (x : List Field). bytes_of x ++ rest) (flat_map-cons (clause_layout small) c clauses) ∙ ap (λ (x : List ℕ). x ++ rest) (bytes_of-append (clause_layout small c) (flat_map (clause_layout small) clauses)) ∙ append_assoc (bytes_of (clause_layout small c)) (bytes_of (flat_map (clause_layout small) clauses)) rest in
    let fits = clause_fits small c h.0 (λ e. (both_of _ _ (is e)).0) in
    let spells = subst (λ (x : List ℕ). Spells (clause_layout small c) x others) (sym parts) (bytes_of-spells (clause_layout small c) others fits) in
    let one = clause_told small c bytes others has.0 spells in
    let width : length (bytes_of (clause_layout small c)) ≡ clause_width small = length-bytes_of (clause_layout small c) ∙ width_of-clause small c in
    let after : drop (clause_width small) bytes ≡ others = ap (drop (clause_width small)) parts ∙ drop_at (bytes_of (clause_layout small c)) others (clause_width small) width in
    let more = clauses_told small clauses (drop (clause_width small) bytes) rest has.1 h.1 (λ e. (both_of _ _ (is e)).1) after in
    λ i. one i ∷ more i

-- ---- sections

form_none : (a b : Bool) (f : CodeFault) → a ≡ b → (if not a && b then Some f else None) ≡ None
form_none true b f e = refl
form_none false b f e = rw (sym e) refl

flags_below_16 : (section : Bool) → (if section then FAT_WITH_SECTION else FAT) < 2 ^ 16
flags_below_16 true = lit< tt
flags_below_16 false = lit< tt

fat_flags : (section : Bool) (byte : ℕ) → byte ≡ (if section then FAT_WITH_SECTION else FAT) % 256 → eqb (byte % 4) 2 ≡ false
fat_flags true byte e = rw e refl
fat_flags false byte e = rw e refl

section_flags : (section : Bool) (flags : ℕ) → flags ≡ (if section then FAT_WITH_SECTION else FAT) → eqb flags FAT_WITH_SECTION ≡ section
section_flags true flags e = rw e refl
section_flags false flags e = rw e refl

not_both : (section tiny : Bool) → (section ≡ false → tiny ≡ false) → (not section && tiny) ≡ false
not_both true tiny h = refl
not_both false tiny h = h refl

pub record IsSection (clauses : List Clause) : Type 0 where
  pub some : 0 < length clauses
  pub few : length clauses < 699051
  pub classes : AllByRecursion HasClass clauses
  pub in_range : AllByRecursion IsClauseInRange clauses

head_fits : (small : Bool) (count : ℕ) → (small ≡ true → count ≤ 20) → count < 699051 → AllByRecursion FitsField (section_head small count)
head_fits true count h k = let n = h refl in (lit< tt, (omega (arith, n), (lit< tt, tt)))
head_fits false count h k = (lit< tt, (omega (arith, k), tt))

is_small_parts : (clauses : List Clause) (small : Bool) → small ≡ is_small clauses → small ≡ true → (length clauses ≤ 20) × (each_is_small clauses ≡ true)
is_small_parts clauses small e f = let p = both_of _ _ (sym e ∙ f) in (leb-true _ _ p.0, p.1)

kind_told_by : (small : Bool) (clauses : List Clause) (bytes rest : List ℕ) → Spells (section_layout small clauses) bytes rest → section_is_small bytes ≡ small
kind_told_by true clauses bytes rest h = rw (peeked-stands (section_layout true clauses) bytes rest 0 0 1 0x01 h refl refl) refl
kind_told_by false clauses bytes rest h = rw (peeked-stands (section_layout false clauses) bytes rest 0 0 1 0x41 h refl refl) refl

count_told : (small : Bool) (clauses : List Clause) (bytes rest : List ℕ) → 0 < length clauses → Spells (section_layout small clauses) bytes rest → count_in small bytes ≡ length clauses
count_told true clauses bytes rest some h = let size = peeked-stands (section_layout true clauses) bytes rest 1 1 1 (12 * length clauses + 4) h refl refl in omega (arith, size, some)
count_told false clauses bytes rest some h = let size = peeked-stands (section_layout false clauses) bytes rest 1 1 3 (24 * length clauses + 4) h refl refl in omega (arith, size, some)

head_long : (small : Bool) (count : ℕ) → length (bytes_of (section_head small count)) ≡ 4
head_long true count = refl
head_long false count = refl

module _ (small : Bool) (clauses : List Clause) (bytes rest : List ℕ) (is : small ≡ is_small clauses) (h : IsSection clauses) (e : bytes ≡ bytes_of (section_layout small clauses) ++ rest) where
  abbrev layout : List Field
  layout = section_layout small clauses

  section_fits : AllByRecursion FitsField layout
  section_fits = fits-append (section_head small (length clauses)) (flat_map (clause_layout small) clauses)
      (head_fits small (length clauses) (λ f. (is_small_parts clauses small is f).0) h.few) (clauses_fit small clauses h.in_range (λ f. (is_small_parts clauses small is f).1))

  pub section_spells : Spells layout bytes rest
  section_spells = subst (λ (x : List ℕ). Spells layout x rest) (sym e) (bytes_of-spells layout rest section_fits)

  -- what the section tells
  section_kind : section_is_small bytes ≡ small
  section_kind = kind_told_by small clauses bytes rest section_spells

  after_head : drop 4 bytes ≡ bytes_of (flat_map (clause_layout small) clauses) ++ rest
  after_head =
      let head = bytes_of (section_head small (length clauses)) in
      let more = bytes_of (flat_map (clause_layout small) clauses) ++ rest in
      let parts : bytes ≡ head ++ more = e ∙ ap (λ (x : List ℕ). x ++ rest) (bytes_of-append (section_head small (length clauses)) (flat_map (clause_layout small) clauses)) ∙ append_assoc head (bytes_of (flat_map (clause_layout small) clauses)) rest in
      ap (drop 4) parts ∙ drop_at head more 4 (head_long small (length clauses))

  section_told : section_clauses bytes ≡ clauses
  section_told =
      ap (λ (x : Bool). clauses_in x (count_in x bytes) (drop 4 bytes)) section_kind
      ∙ ap (λ (x : ℕ). clauses_in small x (drop 4 bytes)) (count_told small clauses bytes rest h.some section_spells)
      ∙ clauses_told small clauses (drop 4 bytes) rest h.classes h.in_range (λ f. (is_small_parts clauses small is f).1) after_head

  section_form : (at : ℕ) → section_form_fault at bytes ≡ None
  section_form at = form_none (section_is_small bytes) (is_small (section_clauses bytes)) (BadClause at) (section_kind ∙ is ∙ sym (ap is_small section_told))

-- ---- zeros, then a section

zeros_fit : (count : ℕ) → AllByRecursion FitsField (zeros count)
zeros_fit zero = tt
zeros_fit (suc count) = (lit< tt, zeros_fit count)

module _ (size : ℕ) (clauses : List Clause) (bytes rest : List ℕ) (h : IsSection clauses) (e : bytes ≡ bytes_of (zeros (padding size) ++ section_layout (is_small clauses) clauses) ++ rest) where
  abbrev after : List ℕ
  after = drop (padding size) bytes

  abbrev section : List Field
  section = section_layout (is_small clauses) clauses

  after_zeros : after ≡ bytes_of section ++ rest
  after_zeros =
      let more = bytes_of section ++ rest in
      let parts : bytes ≡ bytes_of (zeros (padding size)) ++ more = e ∙ ap (λ (x : List ℕ). x ++ rest) (bytes_of-append (zeros (padding size)) section) ∙ append_assoc (bytes_of (zeros (padding size))) (bytes_of section) rest in
      ap (drop (padding size)) parts ∙ drop_at (bytes_of (zeros (padding size))) more (padding size) (length-bytes_of (zeros (padding size)) ∙ width_of-zeros (padding size))

  tail_kind : section_is_small after ≡ is_small clauses
  tail_kind = section_kind (is_small clauses) clauses after rest refl h after_zeros

  pub tail_told : clauses_after true size bytes ≡ clauses
  tail_told = section_told (is_small clauses) clauses after rest refl h after_zeros

  tail_is : tail_layout size bytes ≡ zeros (padding size) ++ section
  tail_is = λ i. zeros (padding size) ++ section_layout (tail_kind i) (tail_told i)

  pub tail_fine : (at : ℕ) → tail_fault at size bytes ≡ None
  tail_fine at =
      let fits = fits-append (zeros (padding size)) section (zeros_fit (padding size)) (section_fits (is_small clauses) clauses after rest refl h after_zeros) in
      let none : fault_of at (tail_layout size bytes) bytes ≡ None = ap (λ (x : List Field). fault_of at x bytes) tail_is ∙ bytes_of-no_fault at (zeros (padding size) ++ section) bytes rest fits e in
      first_none _ _ (ap (located BadClause) none) ∙ section_form (is_small clauses) clauses after rest refl h after_zeros (at + padding size)

-- ---- bodies

-- the bytes tell the body without a fault
pub record IsTold (b : Body) (bytes : List ℕ) : Type 0 where
  pub fine : (at : ℕ) → body_fault at bytes ≡ None
  pub body : body_in bytes ≡ b

starts : (bytes rest : List ℕ) (byte : ℕ) → bytes ≡ byte ∷ rest → peeked 1 0 bytes ≡ byte
starts bytes rest byte e = ap (peeked 1 0) e ∙ first_byte byte rest

code_there : (at before size : ℕ) (bytes : List ℕ) → before + size ≤ length bytes → code_fault at before size bytes ≡ None
code_there at before size bytes h = rw (le-ltb (length bytes) (before + size) h) refl

abbrev made : ℕ → ℕ → List ℕ → List Clause → Body
made max_stack locals code clauses = record { max_stack = max_stack; locals = locals; code = code; clauses = clauses }

tiny_told : (code bytes rest : List ℕ) → length code < 64 → bytes ≡ (bytes_of (tiny_header (length code)) ++ code) ++ rest → IsTold (made 8 0 code []) bytes
tiny_told code bytes rest lt e =
    let byte = (length code * 4 + 2) % 256 in
    let start : peeked 1 0 bytes ≡ byte = ap (peeked 1 0) e ∙ first_byte byte (code ++ rest) in
    let tiny : has_tiny_header bytes ≡ true = eq-eqb _ _ (omega (arith, start, lt)) in
    let size : tiny_size bytes ≡ length code = omega (arith, start, lt) in
    let after : drop 1 bytes ≡ code ++ rest = ap (drop 1) e in
    let text : take (tiny_size bytes) (drop 1 bytes) ≡ code = ap (take (tiny_size bytes)) after ∙ take_at code rest (tiny_size bytes) (sym size) in
    let long : 1 + tiny_size bytes ≤ length bytes = omega (arith, size, ap length e, length-append code rest) in
    record {
      fine = λ at. rw tiny (code_there at 1 (tiny_size bytes) bytes long);
      body = rw tiny (λ i. made 8 0 (text i) []);
    }

module _ (section : Bool) (max_stack locals : ℕ) (code more bytes : List ℕ) (stack : max_stack < 2 ^ 16) (wide : locals < 2 ^ 32) (fits : length code < 2 ^ 32) where
  abbrev flags : ℕ
  flags = if section then FAT_WITH_SECTION else FAT

  abbrev header : List Field
  header = fat_header flags max_stack (length code) locals

  flags_fit : flags < 2 ^ 16
  flags_fit = flags_below_16 section

  module _ (e : bytes ≡ (bytes_of header ++ code) ++ more) where
    header_spells : Spells header bytes (code ++ more)
    header_spells = subst (λ (x : List ℕ). Spells header x (code ++ more)) (sym (append_assoc (bytes_of header) code more) ∙ sym e) (bytes_of-spells header (code ++ more) (flags_fit, (stack, (fits, (wide, tt)))))

    not_tiny : has_tiny_header bytes ≡ false
    not_tiny = fat_flags section (peeked 1 0 bytes) (starts bytes _ _ e)

    stack_told : peeked 2 2 bytes ≡ max_stack
    stack_told = peeked-stands header bytes (code ++ more) 1 2 2 max_stack header_spells refl refl

    size_told : peeked 4 4 bytes ≡ length code
    size_told = peeked-stands header bytes (code ++ more) 2 4 4 (length code) header_spells refl refl

    locals_told : peeked 4 8 bytes ≡ locals
    locals_told = peeked-stands header bytes (code ++ more) 3 8 4 locals header_spells refl refl

    section_there : has_section bytes ≡ section
    section_there = section_flags section (peeked 2 0 bytes) (peeked-stands header bytes (code ++ more) 0 0 2 flags header_spells refl refl)

    after_header : drop 12 bytes ≡ code ++ more
    after_header = ap (drop 12) (e ∙ append_assoc (bytes_of header) code more)

    code_told : take (peeked 4 4 bytes) (drop 12 bytes) ≡ code
    code_told = ap (take (peeked 4 4 bytes)) after_header ∙ take_at code more (peeked 4 4 bytes) (sym size_told)

    after_code : drop (12 + peeked 4 4 bytes) bytes ≡ more
    after_code = sym (drop-drop (peeked 4 4 bytes) 12 bytes) ∙ ap (drop (peeked 4 4 bytes)) after_header ∙ drop_at code more (peeked 4 4 bytes) (sym size_told)

    header_fine : (at : ℕ) → header_fault at bytes ≡ None
    header_fine at =
        let is : fat_header (flags_in bytes) (peeked 2 2 bytes) (peeked 4 4 bytes) (peeked 4 8 bytes) ≡ header = λ i. fat_header (if section_there i then FAT_WITH_SECTION else FAT) (stack_told i) (size_told i) (locals_told i) in
        ap (located BadHeader) (ap (λ (x : List Field). fault_of at x bytes) is ∙ bytes_of-no_fault at header bytes (code ++ more) (flags_fit, (stack, (fits, (wide, tt)))) (e ∙ append_assoc (bytes_of header) code more))

    form_fine : (at : ℕ) → (section ≡ false → is_tiny max_stack (length code) locals ≡ false) → form_fault at bytes ≡ None
    form_fine at h =
        ap (λ (x : Bool). if x then Some (BadHeader at) else None) ((λ i. not (section_there i) && is_tiny (stack_told i) (size_told i) (locals_told i)) ∙ not_both section (is_tiny max_stack (length code) locals) h)

    code_fine : (at : ℕ) → code_fault at 12 (peeked 4 4 bytes) bytes ≡ None
    code_fine at = code_there at 12 (peeked 4 4 bytes) bytes (omega (arith, size_told, ap length e, length-append (bytes_of header ++ code) more, length-append (bytes_of header) code, length-bytes_of header))

    pub fat_told : (clauses : List Clause) → (section ≡ false → is_tiny max_stack (length code) locals ≡ false) → clauses_after section (length code) more ≡ clauses
        → ((at : ℕ) → fault_after section at (length code) more ≡ None) → IsTold (made max_stack locals code clauses) bytes
    fat_told clauses h told none =
        let clauses_are : clauses_after (has_section bytes) (peeked 4 4 bytes) (drop (12 + peeked 4 4 bytes) bytes) ≡ clauses = (λ i. clauses_after (section_there i) (size_told i) (after_code i)) ∙ told in
        let last : (at : ℕ) → fault_after (has_section bytes) at (peeked 4 4 bytes) (drop (12 + peeked 4 4 bytes) bytes) ≡ None = λ at. (λ i. fault_after (section_there i) at (size_told i) (after_code i)) ∙ none at in
        record {
          fine = λ at. rw not_tiny (first_none _ _ (header_fine at) ∙ first_none _ _ (form_fine at h) ∙ first_none _ _ (code_fine at) ∙ last (at + (12 + peeked 4 4 bytes)));
          body = rw not_tiny (λ i. made (stack_told i) (locals_told i) (code_told i) (clauses_are i));
        }

same_body : (max_stack locals : ℕ) (code bytes : List ℕ) → IsTold (made 8 0 code []) bytes → 8 ≡ max_stack → 0 ≡ locals → IsTold (made max_stack locals code []) bytes
same_body max_stack locals code bytes h e f = subst (λ (x : ℕ). IsTold (made max_stack x code []) bytes) f (subst (λ (x : ℕ). IsTold (made x 0 code []) bytes) e h)

tiny_text : (max_stack locals : ℕ) (code rest : List ℕ) → is_tiny max_stack (length code) locals ≡ true → max_stack ≡ 8 → locals ≡ 0
    → bytes_by (made max_stack locals code []) [] ++ rest ≡ (bytes_of (tiny_header (length code)) ++ code) ++ rest
tiny_text max_stack locals code rest e f g = rw e refl

told_by : (max_stack locals : ℕ) (code : List ℕ) (clauses : List Clause) (bytes rest : List ℕ) → HasSpelling (made max_stack locals code clauses) → IsInRange (made max_stack locals code clauses)
    → bytes ≡ bytes_by (made max_stack locals code clauses) clauses ++ rest → IsTold (made max_stack locals code clauses) bytes
told_by max_stack locals code [] bytes rest h g e =
    elim (which (is_tiny max_stack (length code) locals)) [
      | inl tiny ↦
          let p = both_of _ _ tiny in
          let q = both_of _ _ p.0 in
          same_body max_stack locals code bytes (tiny_told code bytes rest (ltb-true _ _ q.0) (e ∙ tiny_text max_stack locals code rest tiny (eqb-true _ _ p.1) (eqb-true _ _ q.1))) (sym (eqb-true _ _ p.1)) (sym (eqb-true _ _ q.1))
      | inr fat ↦ fat_told false max_stack locals code rest bytes g.max_stack g.locals h.code (rw fat at e) [] (λ x. fat) refl (λ at. refl)
    ]
told_by max_stack locals code (c ∷ clauses) bytes rest h g e =
    let section : IsSection (c ∷ clauses) = record { some = omega arith; few = h.clauses; classes = h.classes; in_range = g.clauses } in
    let tail = bytes_of (zeros (padding (length code)) ++ section_layout (is_small (c ∷ clauses)) (c ∷ clauses)) in
    fat_told true max_stack locals code (tail ++ rest) bytes g.max_stack g.locals h.code (e ∙ append_assoc (bytes_of (fat_header FAT_WITH_SECTION max_stack (length code) locals) ++ code) tail rest) (c ∷ clauses)
    (λ x. absurd cc) (tail_told (length code) (c ∷ clauses) (tail ++ rest) rest section refl) (tail_fine (length code) (c ∷ clauses) (tail ++ rest) rest section refl)

pub told : (b : Body) (bytes rest : List ℕ) → HasSpelling b → IsInRange b → bytes ≡ body_bytes b ++ rest → IsTold b bytes
told b bytes rest h g e = told_by b.max_stack b.locals b.code b.clauses bytes rest h g e

-- ---- the answers of a reader

empty_faults : (at : ℕ) → body_fault at [] ≡ None → ⊥
unfolding fault_of
empty_faults at e = cc

record IsPlace (at place : ℕ) (all bytes : List ℕ) : Type 0 where
  pub place_is : place ≡ at
  pub bytes_are : bytes ≡ drop at all

place_of : (at place : ℕ) (all bytes : List ℕ) → place ≡ min at (length all) → bytes ≡ drop place all → body_fault place bytes ≡ None → IsPlace at place all bytes
place_of at place all bytes e f h =
    elim (cases_lt (length all) at) [
      | inl past ↦
          let end : place ≡ length all = omega (arith, e, past) in
          let none : bytes ≡ [] = f ∙ drop_of_length-le all (omega (arith, end)) in
          absurd (empty_faults place (rw none at h))
      | inr within ↦ let same : place ≡ at = omega (arith, e, within) in record { place_is = same; bytes_are = f ∙ ap (λ (x : ℕ). drop x all) same }
    ]

module _ (at place : ℕ) (all bytes : List ℕ) (is : place ≡ min at (length all)) (from : bytes ≡ drop place all) (each : AreBytes all) (few : length all < 2 ^ 32) where
  bytes_each : AreBytes bytes
  bytes_each = rw from (AreBytes-drop place all each)

  bytes_few : length bytes < 2 ^ 32
  bytes_few = omega (arith, ap length from, length-drop place all, few)

  pub read_found : (r : Body × ℕ) → (r.0 ≡ body_in bytes) × (r.1 ≡ place + width_in bytes) → body_fault place bytes ≡ None
      → HasSpelling r.0 × (rest : List ℕ) × (drop at all ≡ body_bytes r.0 ++ rest) × (r.1 ≡ at + length (body_bytes r.0))
  read_found r value fine =
      let there = place_of at place all bytes is from fine in
      let spelled = sound place bytes bytes_each bytes_few fine in
      let long : width_in bytes ≡ length (body_bytes r.0) = rw value.0 spelled.long in
      (rw value.0 spelled.spelled, drop (width_in bytes) bytes, sym there.bytes_are ∙ rw value.0 spelled.text, omega (arith, value.1, there.place_is, long))

  pub read_told : (b : Body) (rest : List ℕ) → HasSpelling b → IsInRange b → drop at all ≡ body_bytes b ++ rest → body_fault place bytes ≡ None
  read_told b rest h g e =
      elim (cases_lt (length all) at) [
        | inl past ↦
            let end : place ≡ length all = omega (arith, is, past) in
            let none : bytes ≡ [] = from ∙ drop_of_length-le all (omega (arith, end)) in
            let text : bytes ≡ body_bytes b ++ rest = none ∙ sym (drop_of_length-le all (omega (arith, past))) ∙ e in
            (told b bytes rest h g text).fine place
        | inr within ↦
            let same : place ≡ at = omega (arith, is, within) in
            (told b bytes rest h g (from ∙ ap (λ (x : ℕ). drop x all) same ∙ e)).fine place
      ]

  pub read_spelled : (b : Body) (rest : List ℕ) → HasSpelling b → IsInRange b → drop at all ≡ body_bytes b ++ rest → (r : Body × ℕ) → (r.0 ≡ body_in bytes) × (r.1 ≡ place + width_in bytes) → body_fault place bytes ≡ None
      → r ≡ (b, at + length (body_bytes b))
  read_spelled b rest h g e r value fine =
      let there = place_of at place all bytes is from fine in
      let tells = told b bytes rest h g (there.bytes_are ∙ e) in
      let found = read_found r value fine in
      let same : r.0 ≡ b = value.0 ∙ tells.body in
      let past : r.1 ≡ at + length (body_bytes b) = found.3 ∙ ap (λ (x : Body). at + length (body_bytes x)) same in
      λ i. (same i, past i)

memory_or : (f : CodeFault) → (f ≡ Memory) ⊎ (f ≡ Memory → ⊥)
memory_or (Short n) = inr (λ e. cc)
memory_or (UnknownOpcode n) = inr (λ e. cc)
memory_or (BadHeader n) = inr (λ e. cc)
memory_or (BadClause n) = inr (λ e. cc)
memory_or Memory = inl refl

pub memory_alone : {T : Type 0} (result : Result T CodeFault) → ((f : CodeFault) → result ≡ Err f → (f ≡ Memory → ⊥) → ⊥) → IsOkUnless result Memory
memory_alone (Ok value) h = tt
memory_alone (Err f) h = elim (memory_or f) [ inl e ↦ e | inr other ↦ absurd (h f refl other) ]

pub no_fault_found : (fault : Option CodeFault) (f : CodeFault) → fault ≡ None → fault ≡ Some f → ⊥
no_fault_found fault f e g = let h = sym e ∙ g in cc

pub both_ok : {T E : Type 0} (P Q R : T → Type 0) (result : Result T E) → ((value : T) → P value → Q value → R value) → IfOk result P → IfOk result Q → IfOk result R
both_ok P Q R (Ok value) f p q = f value p q
both_ok P Q R (Err error) f p q = tt
