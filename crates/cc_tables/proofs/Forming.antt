-- The forms of heaps: entries one after the other, and the zeros behind them.
use Rattle.std.proofs.Common.{◌≡◌, ℕ, zero, suc, ◌+◌, ◌-◌, ◌<◌, ◌≤◌, List, [], ◌∷◌, ◌++◌, length, get_or, drop, replicate, Option, Some, None, refl, sym, ap, subst, ◌∙◌, ◌⊎◌, inl, inr, append_assoc, arith}
use Rattle.std.specs.Prelude.{nat_lt, if◌then◌else◌, IfNone}
use Rattle.std.specs.List.{AllByRecursion}
use Rattle.std.proofs.lemmas.Bool.{cases_lt, lt-ltb, le-ltb}
use Rattle.std.proofs.Math.ListN.{drop_of_length-le}
use Rattle.std.proofs.lemmas.List.{drop_at, append-nil, length-append}
use Rattle.cc_cil.specs.Bodies.{padding, zeros}
use Rattle.cc_layout.specs.declared.field.FieldFault.{FieldFault}
use Rattle.cc_layout.specs.Numbers.{AreBytes}
use Rattle.cc_layout.specs.Layout.{number, width_of, bytes_of, fault_of}
use Rattle.cc_layout.proofs.Numbers.{AreBytes-back}
use Rattle.cc_layout.proofs.Laws.{HasValue, no_fault-bytes_of}
use Rattle.cc_module.specs.Heaps.{padded, heap_bytes}
use Rattle.cc_tables.specs.declared.fault.TableFault.{TableFault}
use Rattle.cc_tables.specs.Faults.{stream_located, first, rest_fault, end_fault}
use Rattle.cc_tables.specs.Forms.{Form, IsHeapText, heap_entry, Entries, BeginsNone, HasForm, BeginsWithZero}
use Rattle.cc_tables.proofs.Heaps.{bytes_added}

-- ---- zeros

width_of-zeros : (count : ℕ) → width_of (zeros count) ≡ count
width_of-zeros zero = refl
width_of-zeros (suc count) = let ih = width_of-zeros count in omega (arith, ih)

pub bytes_of-zeros : (count : ℕ) → bytes_of (zeros count) ≡ replicate count 0
bytes_of-zeros zero = refl
bytes_of-zeros (suc count) = ap (λ (x : List ℕ). 0 ∷ x) (bytes_of-zeros count)

zeros_have : (count : ℕ) → AllByRecursion HasValue (zeros count)
zeros_have zero = tt
zeros_have (suc count) = (tt, zeros_have count)

-- ---- the end of a stream without a fault

pub first_none : (a b : Option TableFault) → first a b ≡ None → (a ≡ None) × (b ≡ None)
first_none None b e = (refl, e)
first_none (Some fault) b e = absurd cc

located_none : (r : Option FieldFault) → stream_located r ≡ None → r ≡ None
located_none None e = refl
located_none (Some fault) e = absurd cc

at_most : (n m : ℕ) (fault : TableFault) → (if nat_lt n m then Some fault else None) ≡ None → m ≤ n
at_most n m fault e =
    elim (cases_lt n m) [
      | inl less ↦ absurd (let k = rw (lt-ltb n m less) at e in cc)
      | inr le ↦ le
    ]

rest_zeros : (place count : ℕ) (rest : List ℕ) → AreBytes rest → rest_fault place count rest ≡ None → rest ≡ replicate count 0
rest_zeros place count rest h e =
    let p = first_none (stream_located (fault_of place (zeros count) rest)) _ e in
    let few = at_most count (length rest) _ p.1 in
    let is = no_fault-bytes_of place (zeros count) rest (zeros_have count) h (located_none (fault_of place (zeros count) rest) p.0) in
    let none : drop (width_of (zeros count)) rest ≡ [] = drop_of_length-le rest (omega (arith, few, width_of-zeros count)) in
    is ∙ ap (λ (x : List ℕ). bytes_of (zeros count) ++ x) none ∙ append-nil (bytes_of (zeros count)) ∙ bytes_of-zeros count

end_zeros : (at used : ℕ) (stream : List ℕ) → AreBytes (drop used stream) → end_fault at used stream ≡ None → drop used stream ≡ replicate (padding used) 0
end_zeros at used stream h e =
    elim (cases_lt (length stream) used) [
      | inl short ↦ absurd (let k = rw (lt-ltb (length stream) used short) at e in cc)
      | inr long ↦ rest_zeros (at + used) (padding used) (drop used stream) h (rw (le-ltb (length stream) used long) at e)
    ]

pub heap_padded : (at : ℕ) (heap rest stream : List ℕ) → AreBytes stream → stream ≡ heap ++ rest → end_fault at (length heap) stream ≡ None → stream ≡ padded heap
heap_padded at heap rest stream h is e =
    let back : drop (length heap) stream ≡ rest = ap (drop (length heap)) is ∙ drop_at heap rest (length heap) refl in
    let bytes : AreBytes rest = AreBytes-back heap rest (subst AreBytes is h) in
    is ∙ ap (λ (x : List ℕ). heap ++ x) (sym back ∙ end_zeros at (length heap) stream (subst AreBytes (sym back) bytes) e)

-- ---- entries one after the other

pub entries_more : (form : Form) (stream rest after text : List ℕ) (texts : List (List ℕ)) → stream ≡ heap_bytes (heap_entry form) texts ++ rest → rest ≡ heap_entry form text ++ after
    → stream ≡ heap_bytes (heap_entry form) (texts ++ text ∷ []) ++ after
entries_more form stream rest after text texts is next =
    let entry : List ℕ → List ℕ = heap_entry form in
    let heap : List ℕ = heap_bytes entry texts in
    let grown : heap ++ entry text ≡ heap_bytes entry (texts ++ text ∷ []) = bytes_added entry texts (texts ++ text ∷ []) text heap (heap ++ entry text) refl refl refl in
    is ∙ ap (λ (x : List ℕ). heap ++ x) next ∙ sym (append_assoc heap (entry text) after) ∙ ap (λ (x : List ℕ). x ++ after) grown

pub texts_more : (P : List ℕ → Type 0) (texts : List (List ℕ)) (text : List ℕ) → AllByRecursion P texts → P text → AllByRecursion P (texts ++ text ∷ [])
texts_more P [] text h k = (k, tt)
texts_more P (other ∷ texts) text h k = (h.0, texts_more P texts text h.1 k)

-- what has been met so far
pub record Met (form : Form) (stream rest : List ℕ) : Type 0 where
  pub texts : List (List ℕ)
  pub parts : stream ≡ heap_bytes (heap_entry form) texts ++ rest
  pub each : AllByRecursion (IsHeapText form) texts

pub met_none : (form : Form) (stream rest : List ℕ) → BeginsWithZero stream → rest ≡ drop 1 stream → Met form stream rest
met_none form stream rest (more, is) e = record { texts = []; parts = is ∙ ap (λ (x : List ℕ). 0 ∷ x) (sym (e ∙ ap (drop 1) is)); each = tt }

pub met_more : (form : Form) (stream rest after text : List ℕ) → Met form stream rest → IsHeapText form text → rest ≡ heap_entry form text ++ after → Met form stream after
met_more form stream rest after text m h e = record { texts = m.texts ++ text ∷ []; parts = entries_more form stream rest after text m.texts m.parts e; each = texts_more (IsHeapText form) m.texts text m.each h }

pub met_within : (form : Form) (stream rest : List ℕ) → Met form stream rest → length rest < length stream
met_within form stream rest m = omega (arith, ap length m.parts, length-append (heap_bytes (heap_entry form) m.texts) rest)

pub met_last : (form : Form) (stream rest : List ℕ) (used : ℕ) → Met form stream rest → BeginsNone form rest → used ≡ length stream - length rest
    → (texts : List (List ℕ)) × (rest : List ℕ) × Entries form stream texts rest × (used ≡ length (heap_bytes (heap_entry form) texts))
met_last form stream rest used m last e =
    (m.texts, rest, record { parts = m.parts; each = m.each; last = last }, omega (arith, e, ap length m.parts, length-append (heap_bytes (heap_entry form) m.texts) rest))

-- the form, where nothing is wrong behind the entries
pub form_there : (form : Form) (stream rest : List ℕ) (at : ℕ) (texts : List (List ℕ)) → AreBytes stream → Entries form stream texts rest → end_fault at (length (heap_bytes (heap_entry form) texts)) stream ≡ None → HasForm form stream texts
form_there form stream rest at texts h entries e = record { bytes = heap_padded at (heap_bytes (heap_entry form) texts) rest stream h entries.parts e; each = entries.each }

pub form_known : (form : Form) (stream : List ℕ) (at used : ℕ) (result : Option TableFault) → AreBytes stream
    → ((texts : List (List ℕ)) × (rest : List ℕ) × Entries form stream texts rest × (used ≡ length (heap_bytes (heap_entry form) texts))) → result ≡ end_fault at used stream → IfNone result ((texts : List (List ℕ)) × HasForm form stream texts)
form_known form stream at used None h (texts, rest, entries, e) is = (texts, form_there form stream rest at texts h entries (ap (λ (n : ℕ). end_fault at n stream) (sym e) ∙ sym is))
form_known form stream at used (Some fault) h m is = tt
