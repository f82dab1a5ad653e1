-- Sections read part by part, each part compared with its layout.
use Rattle.std.proofs.Common.{◌≡◌, ℕ, zero, suc, ◌+◌, ◌-◌, ◌<◌, Bool, true, false, not, ◌&&◌, if◌then◌else◌, take, List, [], ◌∷◌, ◌++◌, ◌⊎◌, inl, inr, length, drop, Option, Some, None, refl, sym, ap, ◌∙◌, append_assoc, arith}
use Rattle.std.specs.Prelude.{Result, Ok, Err, IfOk}
use Rattle.std.specs.List.{flat_map}
use Rattle.std.proofs.lemmas.List.{append-nil, drop-drop}
use Rattle.std.proofs.lemmas.List.Concat.{flat_map-cons}
use Rattle.std.proofs.lemmas.Grind.{flat_map-append}
use Rattle.cc_layout.specs.declared.field.Field.{Field}
use Rattle.cc_layout.specs.declared.field.FieldFault.{FieldFault}
use Rattle.cc_layout.specs.Layout.{number, width_of, fault_of}
use Rattle.cc_layout.proofs.Laws.{fault-before, fault-after}
use Rattle.cc_cil.specs.declared.body.Clause.{Clause}
use Rattle.cc_cil.specs.declared.fault.CodeFault.{CodeFault}
use Rattle.cc_cil.specs.declared.fault.CodeFault.TheVariants.{BadClause}
use Rattle.cc_cil.specs.Bodies.{is_small, zeros, padding, clause_layout, clause_width, section_head, section_layout}
use Rattle.cc_cil.specs.BodyFaults.{tail_layout, tail_fault, section_is_small, section_clauses, section_form_fault, clause_in, clauses_in, located, first}

-- ---- faults in two parts

pub which_fault : (fault : Option FieldFault) → (fault ≡ None) ⊎ ((e : FieldFault) × (fault ≡ Some e))
which_fault None = inl refl
which_fault (Some e) = inr (e, refl)

pub first_some : (a b : Option CodeFault) (f : CodeFault) → a ≡ Some f → first a b ≡ Some f
first_some a b f e = rw e refl

pub first_none : (a b : Option CodeFault) → a ≡ None → first a b ≡ b
first_none a b e = rw e refl

pub located_before : (bad : ℕ → CodeFault) (at : ℕ) (a b : List Field) (bytes : List ℕ) (f : CodeFault) → located bad (fault_of at a bytes) ≡ Some f → located bad (fault_of at (a ++ b) bytes) ≡ Some f
located_before bad at a b bytes f h =
    elim (which_fault (fault_of at a bytes)) [
      | inl none ↦ absurd (let g = rw none at h in cc)
      | inr some ↦ ap (located bad) (fault-before at a b bytes some.0 some.1 ∙ sym some.1) ∙ h
    ]

pub width_of-append : (a b : List Field) → width_of (a ++ b) ≡ width_of a + width_of b
width_of-append [] b = omega arith
width_of-append (f ∷ a) b = let ih = width_of-append a b in omega (arith, ih)

-- what the second part tells, where the first has no fault
pub after_first : (at place : ℕ) (a b : List Field) (bytes rest : List ℕ) → fault_of at a bytes ≡ None → place ≡ at + width_of a → rest ≡ drop (width_of a) bytes → fault_of at (a ++ b) bytes ≡ fault_of place b rest
after_first at place a b bytes rest fine reached left =
    fault-after at a b bytes fine ∙ ap (λ (x : ℕ). fault_of x b (drop (width_of a) bytes)) (sym reached) ∙ ap (λ (x : List ℕ). fault_of place b x) (sym left)

-- ---- clauses

pub length-clauses_in : (small : Bool) (count : ℕ) (bytes : List ℕ) → length (clauses_in small count bytes) ≡ count
length-clauses_in small zero bytes = refl
length-clauses_in small (suc count) bytes = ap suc (length-clauses_in small count (drop (clause_width small) bytes))

pub width_of-clause : (small : Bool) (c : Clause) → width_of (clause_layout small c) ≡ clause_width small
width_of-clause true c = refl
width_of-clause false c = refl

module _ (small : Bool) where
  abbrev layout : List Clause → List Field
  layout clauses = flat_map (clause_layout small) clauses

  pub start_whole : (count : ℕ) (bytes : List ℕ) (done : List Clause) → done ≡ [] → clauses_in small count bytes ≡ done ++ clauses_in small (count - 0) bytes
  start_whole count bytes done e = let k : count - 0 ≡ count = omega arith in rw (e, k) refl

  pub start_fine : (at : ℕ) (bytes : List ℕ) (done : List Clause) → done ≡ [] → fault_of at (layout done) bytes ≡ None
  unfolding fault_of
  start_fine at bytes done e = rw e refl

  pub start_left : (bytes : List ℕ) (done : List Clause) → done ≡ [] → bytes ≡ drop (width_of (layout done)) bytes
  start_left bytes done e = rw e refl

  pub start_reached : (at : ℕ) (done : List Clause) → done ≡ [] → at ≡ at + width_of (layout done)
  start_reached at done e = rw e (omega arith)

  module _ (at count i place : ℕ) (bytes rest : List ℕ) (done : List Clause) (c : Clause) (lt : i < count) (is : c ≡ clause_in small rest)
      (whole : clauses_in small count bytes ≡ done ++ clauses_in small (count - i) rest) (fine : fault_of at (layout done) bytes ≡ None)
      (left : rest ≡ drop (width_of (layout done)) bytes) (reached : place ≡ at + width_of (layout done)) where
    abbrev others : List Clause
    others = clauses_in small (count - (i + 1)) (drop (clause_width small) rest)

    next : clauses_in small count bytes ≡ done ++ (c ∷ others)
    next = let k : count - i ≡ suc (count - (i + 1)) = omega arith in whole ∙ rw (k, is) refl

    fields : layout (clauses_in small count bytes) ≡ layout done ++ (clause_layout small c ++ layout others)
    fields = ap layout next ∙ flat_map-append (clause_layout small) done (c ∷ others) ∙ ap (λ (x : List Field). layout done ++ x) (flat_map-cons (clause_layout small) c others)

    pub clause_ends : (given : List Field) (f : CodeFault) → given ≡ clause_layout small c → located BadClause (fault_of place given rest) ≡ Some f → located BadClause (fault_of at (layout (clauses_in small count bytes)) bytes) ≡ Some f
    clause_ends given f same e =
        ap (λ (x : List Field). located BadClause (fault_of at x bytes)) fields
        ∙ ap (located BadClause) (after_first at place (layout done) (clause_layout small c ++ layout others) bytes rest fine reached left)
        ∙ located_before BadClause place (clause_layout small c) (layout others) rest f (rw same at e)

    module _ (new : List Clause) (more : new ≡ done ++ c ∷ []) where
      both : layout new ≡ layout done ++ clause_layout small c
      both = ap layout more ∙ flat_map-append (clause_layout small) done (c ∷ []) ∙ ap (λ (x : List Field). layout done ++ x) (flat_map-cons (clause_layout small) c [] ∙ append-nil (clause_layout small c))

      long : width_of (layout new) ≡ width_of (layout done) + clause_width small
      long = ap width_of both ∙ width_of-append (layout done) (clause_layout small c) ∙ ap (λ (x : ℕ). width_of (layout done) + x) (width_of-clause small c)

      pub on_whole : clauses_in small count bytes ≡ new ++ others
      on_whole = next ∙ sym (append_assoc done (c ∷ []) others) ∙ ap (λ (x : List Clause). x ++ others) (sym more)

      pub on_fine : (given : List Field) → given ≡ clause_layout small c → fault_of place given rest ≡ None → fault_of at (layout new) bytes ≡ None
      on_fine given same e = ap (λ (x : List Field). fault_of at x bytes) both ∙ after_first at place (layout done) (clause_layout small c) bytes rest fine reached left ∙ rw same at e

      pub on_left : drop (clause_width small) rest ≡ drop (width_of (layout new)) bytes
      on_left = ap (drop (clause_width small)) left ∙ drop-drop (clause_width small) (width_of (layout done)) bytes ∙ ap (λ (x : ℕ). drop x bytes) (sym long)

      pub on_reached : place + clause_width small ≡ at + width_of (layout new)
      on_reached = omega (arith, reached, long)

-- ---- sections

pub head_width : (small : Bool) (count : ℕ) → width_of (section_head small count) ≡ 4
head_width true count = refl
head_width false count = refl

module _ (small : Bool) (count at : ℕ) (bytes : List ℕ) where
  abbrev clauses : List Clause
  clauses = clauses_in small count (drop 4 bytes)

  abbrev tail : List Field
  tail = flat_map (clause_layout small) clauses

  section_is : section_layout small clauses ≡ section_head small count ++ tail
  section_is = ap (λ (n : ℕ). section_head small n ++ tail) (length-clauses_in small count (drop 4 bytes))

  pub head_ends : (f : CodeFault) → located BadClause (fault_of at (section_head small count) bytes) ≡ Some f → located BadClause (fault_of at (section_layout small clauses) bytes) ≡ Some f
  head_ends f h = ap (λ (x : List Field). located BadClause (fault_of at x bytes)) section_is ∙ located_before BadClause at (section_head small count) tail bytes f h

  pub section_after : fault_of at (section_head small count) bytes ≡ None → fault_of at (section_layout small clauses) bytes ≡ fault_of (at + 4) tail (drop 4 bytes)
  section_after h =
      ap (λ (x : List Field). fault_of at x bytes) section_is
      ∙ after_first at (at + 4) (section_head small count) tail bytes (drop 4 bytes) h (ap (λ (n : ℕ). at + n) (sym (head_width small count))) (ap (λ (n : ℕ). drop n bytes) (sym (head_width small count)))

  pub section_past : (at + 4) + width_of tail ≡ at + width_of (section_layout small clauses)
  section_past = let long = ap width_of section_is ∙ width_of-append (section_head small count) tail in omega (arith, long, head_width small count)

if_both : (a b : Bool) (f : CodeFault) → a ≡ false → b ≡ true → (if not a && b then Some f else None) ≡ Some f
if_both a b f e g = rw (e, g) refl

pub form_there : (at : ℕ) (bytes : List ℕ) → section_is_small bytes ≡ false → is_small (section_clauses bytes) ≡ true → section_form_fault at bytes ≡ Some (BadClause at)
form_there at bytes e f = if_both (section_is_small bytes) (is_small (section_clauses bytes)) (BadClause at) e f

-- ---- zeros, then a section

pub width_of-zeros : (count : ℕ) → width_of (zeros count) ≡ count
width_of-zeros zero = refl
width_of-zeros (suc count) = let ih = width_of-zeros count in omega (arith, ih)

module _ (at size : ℕ) (bytes : List ℕ) where
  abbrev after : List ℕ
  after = drop (padding size) bytes

  abbrev section : List Field
  section = section_layout (section_is_small after) (section_clauses after)

  pub zeros_end : (f : CodeFault) → located BadClause (fault_of at (zeros (padding size)) bytes) ≡ Some f → tail_fault at size bytes ≡ Some f
  zeros_end f h = first_some _ _ f (located_before BadClause at (zeros (padding size)) section bytes f h)

  pub tail_after : fault_of at (zeros (padding size)) bytes ≡ None → tail_fault at size bytes ≡ first (located BadClause (fault_of (at + padding size) section after)) (section_form_fault (at + padding size) after)
  tail_after h = ap (λ (x : Option FieldFault). first (located BadClause x) (section_form_fault (at + padding size) after))
      (after_first at (at + padding size) (zeros (padding size)) section bytes after h (ap (λ (n : ℕ). at + n) (sym (width_of-zeros (padding size)))) (ap (λ (n : ℕ). drop n bytes) (sym (width_of-zeros (padding size)))))

  pub tail_past : (at + padding size) + width_of section ≡ at + width_of (tail_layout size bytes)
  tail_past = omega (arith, width_of-append (zeros (padding size)) section, width_of-zeros (padding size))

  pub tail_fine : fault_of (at + padding size) section after ≡ None → section_form_fault (at + padding size) after ≡ None → fault_of at (zeros (padding size)) bytes ≡ None → tail_fault at size bytes ≡ None
  tail_fine e f h = tail_after h ∙ first_none _ _ (ap (located BadClause) e) ∙ f

pub zeros_taken : (count : ℕ) (a b c : Field) → count < 4 → a ≡ number 1 0 → b ≡ number 1 0 → c ≡ number 1 0 → take count (a ∷ b ∷ c ∷ []) ≡ zeros count
zeros_taken zero a b c h e f g = refl
zeros_taken (suc zero) a b c h e f g = rw e refl
zeros_taken (suc (suc zero)) a b c h e f g = rw (e, f) refl
zeros_taken (suc (suc (suc zero))) a b c h e f g = rw (e, f, g) refl
zeros_taken (suc (suc (suc (suc n)))) a b c h e f g = absurd (omega (arith, h))

pub padding-below : (size : ℕ) → padding size < 4
padding-below size = omega arith

pub both_ok : {T E P Q R : Type 0} (result : Result T E) → (P → Q → R) → IfOk result (λ _. P) → IfOk result (λ _. Q) → IfOk result (λ _. R)
both_ok (Ok value) f p q = f p q
both_ok (Err error) f p q = tt

pub ok_weaker : {T E : Type 0} (P Q : T → Type 0) (result : Result T E) → ((value : T) → P value → Q value) → IfOk result P → IfOk result Q
ok_weaker P Q (Ok value) f p = f value p
ok_weaker P Q (Err error) f p = tt
