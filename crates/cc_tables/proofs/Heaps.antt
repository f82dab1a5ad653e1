-- What a heap tells of a text, and how it grows.
use Rattle.std.proofs.Common.{◌≡◌, ℕ, ◌+◌, ◌<◌, ◌≤◌, ◌==◌, Bool, true, false, List, [], ◌∷◌, ◌++◌, length, Some, None, refl, sym, ap, ◌∙◌, ◌⊎◌, inl, inr, arith}
use Rattle.std.specs.List.{flat_map, list_any}
use Rattle.std.specs.Map.{lookup}
use Rattle.std.specs.Str.{bytes_eq}
use Rattle.std.proofs.lemmas.List.{length-append, append-nil}
use Rattle.std.proofs.lemmas.List.Concat.{flat_map-cons}
use Rattle.std.proofs.lemmas.Grind.{flat_map-append}
use Rattle.indexmap.specs.IndexMap.{insert_entry}
use Rattle.cc_module.specs.Heaps.{filled, heap_bytes, place_from, place_of}
use Rattle.cc_tables.specs.Numbering.{texts_of, ArePlaces, with_text, with_texts}

pub which : (b : Bool) → (b ≡ true) ⊎ (b ≡ false)
which true = inl refl
which false = inr refl

module _ {K : Type 0} (items : K → List ℕ) (entry : List ℕ → List ℕ) where
  abbrev texts : List (K × ℕ) → List (List ℕ)
  texts entries = texts_of items entries

  abbrev is_text : List ℕ → K → Bool
  is_text text key = bytes_eq text (items key)

  -- the place that is told is where the entry stands
  pub found_place : (at : ℕ) (entries : List (K × ℕ)) (text : List ℕ) (place : ℕ) → ArePlaces items entry at entries → lookup (is_text text) entries ≡ Some place → place_from entry at (texts entries) text ≡ place
  found_place at [] text place h e = absurd cc
  found_place at (x ∷ entries) text place h e =
      elim (which (bytes_eq text (items x.0))) [
        | inl s ↦ let here : Some x.1 ≡ Some place = rw s at e in rw s (cc (h.0, here))
        | inr s ↦ let further : lookup (is_text text) entries ≡ Some place = rw s at e in rw s (found_place (at + length (entry (items x.0))) entries text place h.1 further)
      ]

  pub found_any : (entries : List (K × ℕ)) (text : List ℕ) (place : ℕ) → lookup (is_text text) entries ≡ Some place → list_any (bytes_eq text) (texts entries) ≡ true
  found_any [] text place e = absurd cc
  found_any (x ∷ entries) text place e =
      elim (which (bytes_eq text (items x.0))) [
        | inl s ↦ rw s refl
        | inr s ↦ let further : lookup (is_text text) entries ≡ Some place = rw s at e in rw s (found_any entries text place further)
      ]

  -- where there is none, the next entry stands behind all
  pub new_place : (at : ℕ) (entries : List (K × ℕ)) (text : List ℕ) → lookup (is_text text) entries ≡ None → place_from entry at (texts entries) text ≡ at + length (flat_map entry (texts entries))
  new_place at [] text e = omega arith
  new_place at (x ∷ entries) text e =
      elim (which (bytes_eq text (items x.0))) [
        | inl s ↦ let no : Some x.1 ≡ None = rw s at e in absurd cc
        | inr s ↦
            let further : lookup (is_text text) entries ≡ None = rw s at e in
            let ih = new_place (at + length (entry (items x.0))) entries text further in
            let long = ap length (flat_map-cons entry (items x.0) (texts entries)) ∙ length-append (entry (items x.0)) (flat_map entry (texts entries)) in
            rw s (omega (arith, ih, long))
      ]

  pub new_any : (entries : List (K × ℕ)) (text : List ℕ) → lookup (is_text text) entries ≡ None → list_any (bytes_eq text) (texts entries) ≡ false
  new_any [] text e = refl
  new_any (x ∷ entries) text e =
      elim (which (bytes_eq text (items x.0))) [
        | inl s ↦ let no : Some x.1 ≡ None = rw s at e in absurd cc
        | inr s ↦ let further : lookup (is_text text) entries ≡ None = rw s at e in rw s (new_any entries text further)
      ]

  pub places_more : (at : ℕ) (entries : List (K × ℕ)) (key : K) (place : ℕ) → ArePlaces items entry at entries → place ≡ at + length (flat_map entry (texts entries)) → ArePlaces items entry at (entries ++ (key, place) ∷ [])
  places_more at [] key place h e = (omega (arith, e), tt)
  places_more at (x ∷ entries) key place h e =
      let long = ap length (flat_map-cons entry (items x.0) (texts entries)) ∙ length-append (entry (items x.0)) (flat_map entry (texts entries)) in
      (h.0, places_more (at + length (entry (items x.0))) entries key place h.1 (omega (arith, e, long)))

  pub texts_more : (entries : List (K × ℕ)) (key : K) (place : ℕ) → texts (entries ++ (key, place) ∷ []) ≡ texts entries ++ items key ∷ []
  texts_more [] key place = refl
  texts_more (x ∷ entries) key place = ap (λ (rest : List (List ℕ)). items x.0 ∷ rest) (texts_more entries key place)

  -- a new key goes last
  pub added : (eq : K → K → Bool) → ((a b : K) → eq a b ≡ bytes_eq (items a) (items b)) → (entries new : List (K × ℕ)) (key : K) (place : ℕ) (text : List ℕ) → items key ≡ text → lookup (is_text text) entries ≡ None
      → new ≡ insert_entry eq entries key place → new ≡ entries ++ (key, place) ∷ []
  added eq same entries new key place text is none e = e ∙ last entries none
    where
      last : (rest : List (K × ℕ)) → lookup (is_text text) rest ≡ None → insert_entry eq rest key place ≡ rest ++ (key, place) ∷ []
      last [] n = refl
      last (x ∷ rest) n =
          let test : eq key x.0 ≡ bytes_eq text (items x.0) = same key x.0 ∙ ap (λ (t : List ℕ). bytes_eq t (items x.0)) is in
          elim (which (bytes_eq text (items x.0))) [
            | inl s ↦ let no : Some x.1 ≡ None = rw s at n in absurd cc
            | inr s ↦ let further : lookup (is_text text) rest ≡ None = rw s at n in rw (test, s) (ap (λ (more : List (K × ℕ)). x ∷ more) (last rest further))
          ]

  pub texts_added : (entries new : List (K × ℕ)) (key : K) (place : ℕ) (text : List ℕ) → items key ≡ text → new ≡ entries ++ (key, place) ∷ [] → texts new ≡ texts entries ++ text ∷ []
  texts_added entries new key place text is e = ap texts e ∙ texts_more entries key place ∙ ap (λ (t : List ℕ). texts entries ++ t ∷ []) is

  pub places_added : (entries new : List (K × ℕ)) (key : K) (place : ℕ) (bytes : List ℕ) → ArePlaces items entry 1 entries → bytes ≡ heap_bytes entry (texts entries) → place ≡ length bytes → new ≡ entries ++ (key, place) ∷ [] → ArePlaces items entry 1 new
  places_added entries new key place bytes h b p e = rw e (places_more 1 entries key place h (omega (arith, p, ap length b)))

pub bytes_added : (entry : List ℕ → List ℕ) (texts new_texts : List (List ℕ)) (text old new : List ℕ) → old ≡ heap_bytes entry texts → new_texts ≡ texts ++ text ∷ [] → new ≡ old ++ entry text → new ≡ heap_bytes entry new_texts
bytes_added entry texts new_texts text old new e t f =
    let grown : flat_map entry (texts ++ text ∷ []) ≡ flat_map entry texts ++ entry text =
    flat_map-append entry texts (text ∷ []) ∙ ap (λ (x : List ℕ). flat_map entry texts ++ x) (flat_map-cons entry text [] ∙ append-nil (entry text)) in
    rw (f, e, t) (ap (λ (x : List ℕ). 0 ∷ x) (sym grown))

-- ---- the place of a text that is there, and of one that is not

pub place_there : {K : Type 0} (items : K → List ℕ) (entry : List ℕ → List ℕ) (entries : List (K × ℕ)) (text : List ℕ) (place : ℕ) → 0 < length text → ArePlaces items entry 1 entries → lookup (λ key. bytes_eq text (items key)) entries ≡ Some place
    → place ≡ place_of entry (texts_of items entries) text
place_there items entry entries [] place n h e = absurd (omega arith)
place_there items entry entries (byte ∷ text) place n h e = sym (found_place items entry 1 entries (byte ∷ text) place h e)

pub texts_there : {K : Type 0} (items : K → List ℕ) (entries : List (K × ℕ)) (text : List ℕ) (place : ℕ) → 0 < length text → lookup (λ key. bytes_eq text (items key)) entries ≡ Some place
    → texts_of items entries ≡ with_texts (texts_of items entries) (filled text)
unfolding with_text
texts_there items entries [] place n e = absurd (omega arith)
texts_there items entries (byte ∷ text) place n e = rw (found_any items (λ (x : List ℕ). x) entries (byte ∷ text) place e) refl

pub place_next : {K : Type 0} (items : K → List ℕ) (entry : List ℕ → List ℕ) (entries : List (K × ℕ)) (text bytes : List ℕ) (place : ℕ) → 0 < length text → bytes ≡ heap_bytes entry (texts_of items entries) → place ≡ length bytes
    → lookup (λ key. bytes_eq text (items key)) entries ≡ None → place ≡ place_of entry (texts_of items entries) text
place_next items entry entries [] bytes place n b p e = absurd (omega arith)
place_next items entry entries (byte ∷ text) bytes place n b p e = omega (arith, p, ap length b, new_place items entry 1 entries (byte ∷ text) e)

pub texts_next : {K : Type 0} (items : K → List ℕ) (entries : List (K × ℕ)) (text : List ℕ) (new : List (List ℕ)) → 0 < length text → lookup (λ key. bytes_eq text (items key)) entries ≡ None → new ≡ texts_of items entries ++ text ∷ []
    → new ≡ with_texts (texts_of items entries) (filled text)
unfolding with_text
texts_next items entries [] new n e t = absurd (omega arith)
texts_next items entries (byte ∷ text) new n e t = rw (new_any items (λ (x : List ℕ). x) entries (byte ∷ text) e) t

pub not_empty : (text : List ℕ) → (length text == 0) ≡ false → 0 < length text
not_empty [] e = absurd cc
not_empty (byte ∷ text) e = omega arith

-- ---- a place is within the heap

place_from_within : (entry : List ℕ → List ℕ) (at : ℕ) (texts : List (List ℕ)) (text : List ℕ) → place_from entry at texts text ≤ at + length (flat_map entry texts)
place_from_within entry at [] text = omega arith
place_from_within entry at (other ∷ texts) text =
    let long = ap length (flat_map-cons entry other texts) ∙ length-append (entry other) (flat_map entry texts) in
    elim (which (bytes_eq text other)) [
      | inl s ↦ rw s (omega arith)
      | inr s ↦ rw s (omega (arith, place_from_within entry (at + length (entry other)) texts text, long))
    ]

pub place_within : (entry : List ℕ → List ℕ) (texts : List (List ℕ)) (text bytes : List ℕ) → bytes ≡ heap_bytes entry texts → place_of entry texts text ≤ length bytes
place_within entry texts [] bytes b = omega arith
place_within entry texts (byte ∷ text) bytes b = omega (arith, place_from_within entry 1 texts (byte ∷ text), ap length b)
