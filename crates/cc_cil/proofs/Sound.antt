-- Bytes without a fault are the spelling of the body that they tell.
use Rattle.std.proofs.Common.{◌≡◌, ℕ, zero, suc, ◌+◌, ◌*◌, ◌/◌, ◌%◌, ◌^◌, ◌<◌, ◌≤◌, Bool, true, false, not, ◌&&◌, List, [], ◌∷◌, ◌++◌, ◌⊎◌, inl, inr, length, take, drop, Option, Some, None, refl, sym, ap, subst, ◌∙◌, append_assoc, if◌then◌else◌, lit<, arith}
use Rattle.std.specs.List.{flat_map, AllByRecursion}
use Rattle.std.proofs.lemmas.Bool.{lt-ltb, le-ltb, eqb-true, le-leb, ltb-false}
use Rattle.std.proofs.lemmas.List.{drop-drop, take-append-drop, length-take, length-drop, length-append}
use Rattle.std.proofs.lemmas.List.Concat.{flat_map-cons}
use Rattle.cc_layout.specs.declared.field.Field.{Field}
use Rattle.cc_layout.specs.declared.field.FieldFault.{FieldFault}
use Rattle.cc_layout.specs.declared.field.FieldFault.TheVariants.{Missing, Differs}
use Rattle.cc_layout.specs.Numbers.{AreBytes}
use Rattle.cc_layout.specs.Layout.{width_of, fault_of, bytes_of, peeked}
use Rattle.cc_layout.proofs.Numbers.{AreBytes-drop}
use Rattle.cc_layout.proofs.Laws.{fault-before, fault-after, no_fault-bytes_of, no_fault-spells, peeked-stands, peeked-below, HasValue, length-bytes_of}
use Rattle.cc_cil.specs.declared.body.Clause.{Clause}
use Rattle.cc_cil.specs.declared.body.Body.{Body}
use Rattle.cc_cil.specs.declared.fault.CodeFault.{CodeFault}
use Rattle.cc_cil.specs.declared.fault.CodeFault.TheVariants.{BadHeader, BadClause}
use Rattle.cc_cil.specs.Bodies.{class_of, clause_layout, clause_width, clause_is_small, each_is_small, is_small, section_head, section_layout, padding, zeros, FAT, FAT_WITH_SECTION, fat_header, is_tiny, body_bytes, HasClass, HasSpelling}
use Rattle.cc_cil.specs.BodyFaults.{clause_in, clauses_in, section_is_small, count_in, tail_layout, has_tiny_header, has_section, flags_in, clauses_after, tiny_size, tiny_body_in, fat_body_in, fat_width_in, body_in, width_in, located, first, code_fault, form_fault, header_fault, section_form_fault, tail_fault, fault_after, fat_fault, body_fault}
use Rattle.cc_cil.proofs.Reading.{which_fault, head_width, width_of-zeros, width_of-clause, length-clauses_in}
use Rattle.cc_cil.proofs.Writing.{some_clauses}

pub which : (b : Bool) → (b ≡ true) ⊎ (b ≡ false)
which true = inl refl
which false = inr refl

both_true : {a b : Bool} → a ≡ true → b ≡ true → (a && b) ≡ true
both_true e f = rw (e, f) refl

-- ---- no fault of two

none_of : (a b : Option CodeFault) → first a b ≡ None → (a ≡ None) × (b ≡ None)
none_of None b e = (refl, e)
none_of (Some f) b e = absurd cc

none_located : (bad : ℕ → CodeFault) (fault : Option FieldFault) → located bad fault ≡ None → fault ≡ None
none_located bad None e = refl
none_located bad (Some (Missing place)) h = absurd cc
none_located bad (Some (Differs place)) h = absurd cc

none_first : (at : ℕ) (a b : List Field) (bytes : List ℕ) → fault_of at (a ++ b) bytes ≡ None → fault_of at a bytes ≡ None
none_first at a b bytes h =
    elim (which_fault (fault_of at a bytes)) [
      | inl none ↦ none
      | inr some ↦ absurd (let g = sym (fault-before at a b bytes some.0 some.1) ∙ h in cc)
    ]

none_second : (at : ℕ) (a b : List Field) (bytes : List ℕ) → fault_of at (a ++ b) bytes ≡ None → fault_of (at + width_of a) b (drop (width_of a) bytes) ≡ None
none_second at a b bytes h = sym (fault-after at a b bytes (none_first at a b bytes h)) ∙ h

none_if : (test : Bool) (fault : CodeFault) → (if test then Some fault else None) ≡ None → test ≡ false
none_if true fault e = absurd cc
none_if false fault e = refl

-- ---- layouts have values

values-append : (a b : List Field) → AllByRecursion HasValue a → AllByRecursion HasValue b → AllByRecursion HasValue (a ++ b)
values-append [] b h k = k
values-append (f ∷ a) b h k = (h.0, values-append a b h.1 k)

values-zeros : (count : ℕ) → AllByRecursion HasValue (zeros count)
values-zeros zero = tt
values-zeros (suc count) = (tt, values-zeros count)

values-clause : (small : Bool) (c : Clause) → AllByRecursion HasValue (clause_layout small c)
values-clause true c = (tt, (tt, (tt, (tt, (tt, (tt, tt))))))
values-clause false c = (tt, (tt, (tt, (tt, (tt, (tt, tt))))))

values-clauses : (small : Bool) (clauses : List Clause) → AllByRecursion HasValue (flat_map (clause_layout small) clauses)
values-clauses small [] = tt
values-clauses small (c ∷ clauses) = subst (AllByRecursion HasValue) (sym (flat_map-cons (clause_layout small) c clauses)) (values-append (clause_layout small c) (flat_map (clause_layout small) clauses) (values-clause small c) (values-clauses small clauses))

values-head : (small : Bool) (count : ℕ) → AllByRecursion HasValue (section_head small count)
values-head true count = (tt, (tt, (tt, tt)))
values-head false count = (tt, (tt, tt))

values-tail : (size : ℕ) (small : Bool) (clauses : List Clause) → AllByRecursion HasValue (zeros (padding size) ++ section_layout small clauses)
values-tail size small clauses = values-append (zeros (padding size)) (section_layout small clauses) (values-zeros (padding size))
    (values-append (section_head small (length clauses)) (flat_map (clause_layout small) clauses) (values-head small (length clauses)) (values-clauses small clauses))

-- ---- clauses

class_stands : (small : Bool) (at : ℕ) (bytes : List ℕ) → fault_of at (clause_layout small (clause_in small bytes)) bytes ≡ None → HasClass (clause_in small bytes)
class_stands true at bytes h =
    sym (peeked-stands (clause_layout true (clause_in true bytes)) bytes (drop 12 bytes) 5 8 4 (class_of (clause_in true bytes).kind (clause_in true bytes).class) (no_fault-spells at (clause_layout true (clause_in true bytes)) bytes h) refl refl)
class_stands false at bytes h =
    sym (peeked-stands (clause_layout false (clause_in false bytes)) bytes (drop 24 bytes) 5 20 4 (class_of (clause_in false bytes).kind (clause_in false bytes).class) (no_fault-spells at (clause_layout false (clause_in false bytes)) bytes h) refl refl)

classes_stand : (small : Bool) (count at : ℕ) (bytes : List ℕ) → fault_of at (flat_map (clause_layout small) (clauses_in small count bytes)) bytes ≡ None → AllByRecursion HasClass (clauses_in small count bytes)
classes_stand small zero at bytes h = tt
classes_stand small (suc count) at bytes h =
    let one = clause_layout small (clause_in small bytes) in
    let others = flat_map (clause_layout small) (clauses_in small count (drop (clause_width small) bytes)) in
    let g : fault_of at (one ++ others) bytes ≡ None = ap (λ (x : List Field). fault_of at x bytes) (sym (flat_map-cons (clause_layout small) (clause_in small bytes) (clauses_in small count (drop (clause_width small) bytes)))) ∙ h in
    let rest : fault_of (at + width_of one) others (drop (clause_width small) bytes) ≡ None = ap (λ (x : ℕ). fault_of (at + width_of one) others (drop x bytes)) (sym (width_of-clause small (clause_in small bytes))) ∙ none_second at one others bytes g in
    (class_stands small at bytes (none_first at one others bytes g), classes_stand small count (at + width_of one) (drop (clause_width small) bytes) rest)

small_clause : (bytes : List ℕ) → AreBytes bytes → clause_is_small (clause_in true bytes) ≡ true
small_clause bytes h =
    rw (lt-ltb _ _ (peeked-below 2 2 bytes h), lt-ltb _ _ (peeked-below 1 4 bytes h), lt-ltb _ _ (peeked-below 2 5 bytes h), lt-ltb _ _ (peeked-below 1 7 bytes h)) refl

each_small : (count : ℕ) (bytes : List ℕ) → AreBytes bytes → each_is_small (clauses_in true count bytes) ≡ true
each_small zero bytes h = refl
each_small (suc count) bytes h = rw (small_clause bytes h) (each_small count (drop 12 bytes) (AreBytes-drop 12 bytes h))

-- ---- sections

some_count : (small : Bool) (bytes : List ℕ) → 0 < count_in small bytes
some_count true bytes = omega arith
some_count false bytes = omega arith

few_small : (at : ℕ) (bytes : List ℕ) (clauses : List Clause) → AreBytes bytes → fault_of at (section_layout true clauses) bytes ≡ None → length clauses ≤ 20
few_small at bytes clauses h e =
    let size = peeked-stands (section_layout true clauses) bytes _ 1 1 1 (12 * length clauses + 4) (no_fault-spells at (section_layout true clauses) bytes e) refl refl in
    let below = peeked-below 1 1 bytes h in
    omega (arith, size, below)

few_fat : (at : ℕ) (bytes : List ℕ) (clauses : List Clause) → AreBytes bytes → fault_of at (section_layout false clauses) bytes ≡ None → length clauses < 699051
few_fat at bytes clauses h e =
    let size = peeked-stands (section_layout false clauses) bytes _ 1 1 3 (24 * length clauses + 4) (no_fault-spells at (section_layout false clauses) bytes e) refl refl in
    let below = peeked-below 3 1 bytes h in
    omega (arith, size, below)

abbrev told : Bool → List ℕ → List Clause
told small bytes = clauses_in small (count_in small bytes) (drop 4 bytes)

few : (small : Bool) (at : ℕ) (bytes : List ℕ) → AreBytes bytes → fault_of at (section_layout small (told small bytes)) bytes ≡ None → length (told small bytes) < 699051
few true at bytes h e = let n = few_small at bytes (told true bytes) h e in omega (arith, n)
few false at bytes h e = few_fat at bytes (told false bytes) h e

form_is : (small : Bool) (at : ℕ) (bytes : List ℕ) → AreBytes bytes → fault_of at (section_layout small (told small bytes)) bytes ≡ None → (not small && is_small (told small bytes)) ≡ false → small ≡ is_small (told small bytes)
form_is true at bytes h e f =
    let n = few_small at bytes (told true bytes) h e in
    sym (both_true (le-leb (length (told true bytes)) 20 n) (each_small (count_in true bytes) (drop 4 bytes) (AreBytes-drop 4 bytes h)))
form_is false at bytes h e f = sym f

classes_told : (small : Bool) (at : ℕ) (bytes : List ℕ) → fault_of at (section_layout small (told small bytes)) bytes ≡ None → AllByRecursion HasClass (told small bytes)
classes_told small at bytes e =
    let place = at + width_of (section_head small (length (told small bytes))) in
    classes_stand small (count_in small bytes) place (drop 4 bytes)
    (ap (λ (x : ℕ). fault_of place (flat_map (clause_layout small) (told small bytes)) (drop x bytes)) (sym (head_width small (length (told small bytes)))) ∙ none_second at (section_head small (length (told small bytes))) (flat_map (clause_layout small) (told small bytes)) bytes e)

-- what the zeros and the section tell
record IsTail (size : ℕ) (bytes : List ℕ) : Type 0 where
  pub classes : AllByRecursion HasClass (clauses_after true size bytes)
  pub some : 0 < length (clauses_after true size bytes)
  pub few : length (clauses_after true size bytes) < 699051
  pub layout : tail_layout size bytes ≡ zeros (padding size) ++ section_layout (is_small (clauses_after true size bytes)) (clauses_after true size bytes)
  pub text : bytes ≡ bytes_of (tail_layout size bytes) ++ drop (width_of (tail_layout size bytes)) bytes

tail_sound : (at size : ℕ) (bytes : List ℕ) → AreBytes bytes → tail_fault at size bytes ≡ None → IsTail size bytes
tail_sound at size bytes h e =
    let after = drop (padding size) bytes in
    let small = section_is_small after in
    let parts = none_of (located BadClause (fault_of at (tail_layout size bytes) bytes)) (section_form_fault (at + padding size) after) e in
    let fine : fault_of at (zeros (padding size) ++ section_layout small (told small after)) bytes ≡ None = none_located BadClause (fault_of at (tail_layout size bytes) bytes) parts.0 in
    let form : (not small && is_small (told small after)) ≡ false = none_if (not small && is_small (told small after)) (BadClause (at + padding size)) parts.1 in
    let place = at + width_of (zeros (padding size)) in
    let section : fault_of place (section_layout small (told small after)) after ≡ None =
    ap (λ (x : ℕ). fault_of place (section_layout small (told small after)) (drop x bytes)) (sym (width_of-zeros (padding size))) ∙ none_second at (zeros (padding size)) (section_layout small (told small after)) bytes fine in
    let after_bytes = AreBytes-drop (padding size) bytes h in
    let is = form_is small place after after_bytes section form in
    record {
      classes = classes_told small place after section;
      some = let n = length-clauses_in small (count_in small after) (drop 4 after) in let p = some_count small after in omega (arith, n, p);
      few = few small place after after_bytes section;
      layout = ap (λ (x : Bool). zeros (padding size) ++ section_layout x (told small after)) is;
      text = no_fault-bytes_of at (tail_layout size bytes) bytes (values-tail size small (told small after)) h fine;
    }

-- ---- bodies

-- the bytes begin with the spelling of the body, which has this width
pub record IsSpelled (b : Body) (width : ℕ) (bytes : List ℕ) : Type 0 where
  pub spelled : HasSpelling b
  pub text : bytes ≡ body_bytes b ++ drop width bytes
  pub long : width ≡ length (body_bytes b)

pub first_byte : (byte : ℕ) (bytes : List ℕ) → peeked 1 0 (byte ∷ bytes) ≡ byte
first_byte byte bytes = rw (le-ltb (length (byte ∷ bytes)) 1 (omega arith)) (omega arith)

tiny_spelled : (byte size : ℕ) (bytes : List ℕ) → byte ≡ size * 4 + 2 → size < 64 → size ≤ length bytes → IsSpelled (record { max_stack = 8; locals = 0; code = take size bytes; clauses = [] }) (1 + size) (byte ∷ bytes)
tiny_spelled byte size bytes e lt long =
    let len : length (take size bytes) ≡ size = omega (arith, length-take size bytes) in
    let tiny : is_tiny 8 (length (take size bytes)) 0 ≡ true = rw (lt-ltb (length (take size bytes)) 64 (omega (arith, len))) refl in
    let head : (length (take size bytes) * 4 + 2) % 256 ≡ byte = omega (arith, len, e) in
    let k : 1 + size ≡ suc size = omega arith in
    record {
      spelled = record { code = omega (arith, len); clauses = lit< tt; classes = tt };
      text = rw (tiny, head, k) (ap (λ (x : List ℕ). byte ∷ x) (sym (take-append-drop size bytes)));
      long = rw (tiny, k) (ap suc (sym len));
    }

pub tiny_sound : (at : ℕ) (bytes : List ℕ) → AreBytes bytes → has_tiny_header bytes ≡ true → code_fault at 1 (tiny_size bytes) bytes ≡ None → IsSpelled (tiny_body_in bytes) (1 + tiny_size bytes) bytes
tiny_sound at [] h e f = absurd cc
tiny_sound at (byte ∷ bytes) h e f =
    let is = first_byte byte bytes in
    let tiny : byte % 4 ≡ 2 = eqb-true _ _ (rw is at e) in
    let long = ltb-false _ _ (none_if _ _ f) in
    let size : tiny_size (byte ∷ bytes) ≡ byte / 4 = ap (λ (x : ℕ). x / 4) is in
    let fits = h.0 in
    rw is (tiny_spelled byte (byte / 4) bytes (omega (arith, tiny)) (omega (arith, fits)) (omega (arith, rw is at long)))

-- ---- fat bodies

module _ (at : ℕ) (bytes : List ℕ) (h : AreBytes bytes) (fits : length bytes < 2 ^ 32) (e : fat_fault at bytes ≡ None) where
  abbrev size : ℕ
  size = peeked 4 4 bytes

  abbrev body : Body
  body = fat_body_in bytes

  abbrev tail : List ℕ
  tail = drop (12 + size) bytes

  abbrev header : List Field
  header = fat_header (flags_in bytes) (peeked 2 2 bytes) size (peeked 4 8 bytes)

  one : (header_fault at bytes ≡ None) × (first (form_fault at bytes) (first (code_fault at 12 size bytes) (fault_after (has_section bytes) (at + (12 + size)) size tail)) ≡ None)
  one = none_of (header_fault at bytes) (first (form_fault at bytes) (first (code_fault at 12 size bytes) (fault_after (has_section bytes) (at + (12 + size)) size tail))) e

  two : (form_fault at bytes ≡ None) × (first (code_fault at 12 size bytes) (fault_after (has_section bytes) (at + (12 + size)) size tail) ≡ None)
  two = none_of (form_fault at bytes) (first (code_fault at 12 size bytes) (fault_after (has_section bytes) (at + (12 + size)) size tail)) one.1

  three : (code_fault at 12 size bytes ≡ None) × (fault_after (has_section bytes) (at + (12 + size)) size tail ≡ None)
  three = none_of (code_fault at 12 size bytes) (fault_after (has_section bytes) (at + (12 + size)) size tail) two.1

  long : 12 + size ≤ length bytes
  long = ltb-false _ _ (none_if _ _ three.0)

  head_text : bytes ≡ bytes_of header ++ drop 12 bytes
  head_text = no_fault-bytes_of at header bytes (tt, (tt, (tt, (tt, tt)))) h (none_located BadHeader (fault_of at header bytes) one.0)

  code_is : length body.code ≡ size
  code_is = omega (arith, length-take size (drop 12 bytes), length-drop 12 bytes, long)

  code_text : drop 12 bytes ≡ body.code ++ tail
  code_text = sym (take-append-drop size (drop 12 bytes)) ∙ ap (λ (x : List ℕ). body.code ++ x) (drop-drop size 12 bytes)

  front : bytes ≡ (bytes_of header ++ body.code) ++ tail
  front = head_text ∙ ap (λ (x : List ℕ). bytes_of header ++ x) code_text ∙ sym (append_assoc (bytes_of header) body.code tail)

  front_width : length (bytes_of header ++ body.code) ≡ 12 + size
  front_width = omega (arith, length-append (bytes_of header) body.code, length-bytes_of header, code_is)

  -- without a section
  plain : has_section bytes ≡ false → is_tiny (peeked 2 2 bytes) size (peeked 4 8 bytes) ≡ false
  plain none = none_if _ _ (rw none at two.0)

  pub plain_spelled : has_section bytes ≡ false → IsSpelled (record { max_stack = peeked 2 2 bytes; locals = peeked 4 8 bytes; code = body.code; clauses = [] }) (12 + size + 0) bytes
  plain_spelled none =
      let not_tiny : is_tiny (peeked 2 2 bytes) (length body.code) (peeked 4 8 bytes) ≡ false = rw code_is (plain none) in
      let k : 12 + size + 0 ≡ 12 + size = omega arith in
      let is : bytes_of header ++ body.code ≡ bytes_of (fat_header FAT (peeked 2 2 bytes) (length body.code) (peeked 4 8 bytes)) ++ body.code = rw (none, code_is) refl in
      record {
        spelled = record { code = omega (arith, code_is, long, fits); clauses = lit< tt; classes = tt };
        text = rw (not_tiny, k) (front ∙ ap (λ (x : List ℕ). x ++ tail) is);
        long = rw (not_tiny, k) (sym front_width ∙ ap length is);
      }

  -- with a section
  section_spelled : has_section bytes ≡ true → IsSpelled (record { max_stack = peeked 2 2 bytes; locals = peeked 4 8 bytes; code = body.code; clauses = clauses_after true size tail }) (12 + size + width_of (tail_layout size tail)) bytes
  section_spelled some =
      let told_tail = tail_sound (at + (12 + size)) size tail (AreBytes-drop (12 + size) bytes h) (rw some at three.1) in
      let clauses = clauses_after true size tail in
      let whole : Body = record { max_stack = peeked 2 2 bytes; locals = peeked 4 8 bytes; code = body.code; clauses = clauses } in
      let is : bytes_of header ++ body.code ≡ bytes_of (fat_header FAT_WITH_SECTION (peeked 2 2 bytes) (length body.code) (peeked 4 8 bytes)) ++ body.code = rw (some, code_is) refl in
      let layout : tail_layout size tail ≡ zeros (padding (length body.code)) ++ section_layout (is_small clauses) clauses = rw code_is told_tail.layout in
      let spelling : body_bytes whole ≡ (bytes_of header ++ body.code) ++ bytes_of (tail_layout size tail) =
      some_clauses whole clauses told_tail.some ∙ sym (ap (λ (x : List ℕ). x ++ bytes_of (tail_layout size tail)) is ∙ ap (λ (x : List Field). (bytes_of (fat_header FAT_WITH_SECTION (peeked 2 2 bytes) (length body.code) (peeked 4 8 bytes)) ++ body.code) ++ bytes_of x) layout) in
      let after : drop (width_of (tail_layout size tail)) tail ≡ drop (12 + size + width_of (tail_layout size tail)) bytes = drop-drop (width_of (tail_layout size tail)) (12 + size) bytes in
      record {
        spelled = record { code = omega (arith, code_is, long, fits); clauses = told_tail.few; classes = told_tail.classes };
        text =
            front ∙ ap (λ (x : List ℕ). (bytes_of header ++ body.code) ++ x) (told_tail.text ∙ ap (λ (x : List ℕ). bytes_of (tail_layout size tail) ++ x) after)
            ∙ sym (append_assoc (bytes_of header ++ body.code) (bytes_of (tail_layout size tail)) (drop (12 + size + width_of (tail_layout size tail)) bytes))
            ∙ ap (λ (x : List ℕ). x ++ drop (12 + size + width_of (tail_layout size tail)) bytes) (sym spelling);
        long = omega (arith, front_width, ap length spelling, length-append (bytes_of header ++ body.code) (bytes_of (tail_layout size tail)), length-bytes_of (tail_layout size tail));
      }

  pub fat_sound : IsSpelled (fat_body_in bytes) (fat_width_in bytes) bytes
  fat_sound =
      elim (which (has_section bytes)) [
        | inl some ↦ rw some (section_spelled some)
        | inr none ↦ rw none (plain_spelled none)
      ]

pub sound : (at : ℕ) (bytes : List ℕ) → AreBytes bytes → length bytes < 2 ^ 32 → body_fault at bytes ≡ None → IsSpelled (body_in bytes) (width_in bytes) bytes
sound at bytes h fits e =
    elim (which (has_tiny_header bytes)) [
      | inl tiny ↦ rw tiny (tiny_sound at bytes h tiny (rw tiny at e))
      | inr fat ↦ rw fat (fat_sound at bytes h fits (rw fat at e))
    ]
