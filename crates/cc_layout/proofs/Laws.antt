-- The first fault and what bytes are of a layout.
use Rattle.std.proofs.Common.{◌≡◌, ℕ, zero, suc, ◌+◌, ◌^◌, ◌<◌, ◌≤◌, Bool, true, false, ltb, List, [], ◌∷◌, ◌++◌, length, get_or, take, drop, Option, Some, None, refl, sym, ap, subst, ◌∙◌, append_assoc, ◌⊎◌, inl, inr, arith}
use Rattle.std.specs.Prelude.{IfSome, unwrap_or, slice_get}
use Rattle.std.specs.List.{AllByRecursion}
use Rattle.std.proofs.lemmas.Bool.{cases_lt, lt-ltb, le-ltb, eqb-true, eq-eqb}
use Rattle.std.proofs.Math.ListN.{drop_of_length-le}
use Rattle.std.proofs.lemmas.List.{take_at, drop_at, take-append-drop, length-append, length-take, length-drop, append-nil, drop-drop, drop_more, take_more}
use Rattle.cc_layout.specs.declared.field.Field.{Field}
use Rattle.cc_layout.specs.declared.field.FieldFault.{FieldFault}
use Rattle.cc_layout.specs.declared.field.FieldFault.TheVariants.{Missing, Differs}
use Rattle.cc_layout.specs.Numbers.{little_endian, value_of, AreBytes, Extends}
use Rattle.cc_layout.specs.Layout.{number, free, FitsField, Spells, width_of, agrees, fault_of, bytes_of, peeked}
use Rattle.std.specs.Prelude.{IfNone}
use Rattle.std.proofs.Math.Nat.{pow-succ'}
use Rattle.cc_layout.proofs.Numbers.{AreBytes-take, AreBytes-drop, value_of-below, AreBytes-front, AreBytes-back, little_endian-value_of, length-little_endian, value_of-little_endian}

agrees_is : (value : Option ℕ) (n : ℕ) → agrees value n ≡ true → IfSome value (λ v. n ≡ v)
agrees_is None n h = tt
agrees_is (Some v) n h = sym (eqb-true v n h)

is_agrees : (value : Option ℕ) (n : ℕ) → IfSome value (λ v. n ≡ v) → agrees value n ≡ true
is_agrees None n h = refl
is_agrees (Some v) n h = eq-eqb v n (sym h)

value_is : (value : Option ℕ) (width : ℕ) → IfSome value (λ v. v < 256 ^ width) → IfSome value (λ v. value_of (little_endian width (unwrap_or value 0)) ≡ v)
value_is None width h = tt
value_is (Some v) width h = value_of-little_endian width v h

some_is : (a b : Field) → Some a ≡ Some b → a ≡ b
some_is a b e = cc

which : (b : Bool) → (b ≡ true) ⊎ (b ≡ false)
which true = inl refl
which false = inr refl

-- bytes with no fault are of the layout
pub no_fault-spells : (at : ℕ) (fields : List Field) (bytes : List ℕ) → fault_of at fields bytes ≡ None → Spells fields bytes (drop (width_of fields) bytes)
unfolding fault_of
no_fault-spells at [] bytes e = refl
no_fault-spells at (f ∷ fields) bytes e =
    elim (cases_lt (length bytes) f.width) [
      | inl short ↦ let g = rw (lt-ltb (length bytes) f.width short) at e in cc
      | inr long ↦ let g = rw (le-ltb (length bytes) f.width long) at e in
          elim (which (agrees f.value (value_of (take f.width bytes)))) [
            | inr differs ↦ let k = rw differs at g in cc
            | inl same ↦
                let ih = no_fault-spells (at + f.width) fields (drop f.width bytes) (rw same at g) in (
                  take f.width bytes,
                  drop f.width bytes,
                  record { width = omega (arith, length-take f.width bytes); value = agrees_is f.value _ same },
                  sym (take-append-drop f.width bytes),
                  rw drop-drop at ih,
                )
          ]
    ]

-- bytes of the layout have no fault
pub spells-no_fault : (at : ℕ) (fields : List Field) (bytes rest : List ℕ) → Spells fields bytes rest → fault_of at fields bytes ≡ None
unfolding fault_of
spells-no_fault at [] bytes rest h = refl
spells-no_fault at (f ∷ fields) bytes rest (text, more, is, parts, others) =
    let long : ltb (length bytes) f.width ≡ false = le-ltb _ _ (omega (arith, ap length parts, length-append text more, is.width)) in
    let front : take f.width bytes ≡ text = rw parts (take_at text more f.width is.width) in
    let back : drop f.width bytes ≡ more = rw parts (drop_at text more f.width is.width) in
    rw (long, front, back, is_agrees f.value (value_of text) is.value) (spells-no_fault (at + f.width) fields more rest others)

-- what was bytes_of is of the layout
pub bytes_of-spells : (fields : List Field) (rest : List ℕ) → AllByRecursion FitsField fields → Spells fields (bytes_of fields ++ rest) rest
bytes_of-spells [] rest h = refl
bytes_of-spells (f ∷ fields) rest h = (
  little_endian f.width (unwrap_or f.value 0),
  bytes_of fields ++ rest,
  record { width = length-little_endian f.width (unwrap_or f.value 0); value = value_is f.value f.width h.0 },
  append_assoc (little_endian f.width (unwrap_or f.value 0)) (bytes_of fields) rest,
  bytes_of-spells fields rest h.1,
)

-- a layout in two parts
pub Spells-append : (a b : List Field) (bytes middle rest : List ℕ) → Spells a bytes middle → Spells b middle rest → Spells (a ++ b) bytes rest
Spells-append [] b bytes middle rest h k = rw h k
Spells-append (f ∷ a) b bytes middle rest (text, more, is, parts, others) k = (text, more, is, parts, Spells-append a b more middle rest others k)

pub Spells-parts : (a b : List Field) (bytes rest : List ℕ) → Spells (a ++ b) bytes rest → (middle : List ℕ) × Spells a bytes middle × Spells b middle rest
Spells-parts [] b bytes rest h = (bytes, refl, h)
Spells-parts (f ∷ a) b bytes rest (text, more, is, parts, others) =
    let p = Spells-parts a b more rest others in
    (p.0, (text, more, is, parts, p.1), p.2)

-- ---- a loop over a layout

step_short : (at : ℕ) (f : Field) (fields : List Field) (bytes : List ℕ) → length bytes < f.width → fault_of at (f ∷ fields) bytes ≡ Some (Missing (at + length bytes))
unfolding fault_of
step_short at f fields bytes h = rw (lt-ltb (length bytes) f.width h) refl

step_wrong : (at : ℕ) (f : Field) (fields : List Field) (bytes : List ℕ) → f.width ≤ length bytes → agrees f.value (value_of (take f.width bytes)) ≡ false → fault_of at (f ∷ fields) bytes ≡ Some (Differs at)
unfolding fault_of
step_wrong at f fields bytes h differs = rw (le-ltb (length bytes) f.width h, differs) refl

step_on : (at : ℕ) (f : Field) (fields : List Field) (bytes : List ℕ) → f.width ≤ length bytes → agrees f.value (value_of (take f.width bytes)) ≡ true
    → fault_of at (f ∷ fields) bytes ≡ fault_of (at + f.width) fields (drop f.width bytes)
unfolding fault_of
step_on at f fields bytes h same = rw (le-ltb (length bytes) f.width h, same) refl

module _ (total : Option FieldFault) (place i : ℕ) (fields : List Field) (rest : List ℕ) (d : Field) (left : total ≡ fault_of place (drop i fields) rest) where
  pub ends_short : i < length fields → length rest < (get_or fields i d).width → total ≡ Some (Missing (place + length rest))
  ends_short lt h = left ∙ rw (drop_more fields i d lt) (step_short place (get_or fields i d) (drop (i + 1) fields) rest h)

  pub ends_wrong : i < length fields → (get_or fields i d).width ≤ length rest → agrees (get_or fields i d).value (value_of (take (get_or fields i d).width rest)) ≡ false → total ≡ Some (Differs place)
  ends_wrong lt h differs = left ∙ rw (drop_more fields i d lt) (step_wrong place (get_or fields i d) (drop (i + 1) fields) rest h differs)

  pub goes_on : i < length fields → (get_or fields i d).width ≤ length rest → agrees (get_or fields i d).value (value_of (take (get_or fields i d).width rest)) ≡ true
      → total ≡ fault_of (place + (get_or fields i d).width) (drop (i + 1) fields) (drop (get_or fields i d).width rest)
  goes_on lt h same = left ∙ rw (drop_more fields i d lt) (step_on place (get_or fields i d) (drop (i + 1) fields) rest h same)

  pub is_done : length fields ≤ i → total ≡ None
  unfolding fault_of
  is_done le = left ∙ rw (drop_of_length-le fields le) refl

-- the number that stands at a place
pub number_stands : (fields : List Field) (bytes rest : List ℕ) (k width v : ℕ) → Spells fields bytes rest → slice_get fields k ≡ Some (number width v)
    → (width_of (take k fields) + width ≤ length bytes) × (value_of (take width (drop (width_of (take k fields)) bytes)) ≡ v)
number_stands [] bytes rest k width v h e = absurd cc
number_stands (f ∷ fields) bytes rest zero width v (text, more, is, parts, others) e =
    let same : f ≡ number width v = some_is f (number width v) e in
    let w : f.width ≡ width = ap (λ (x : Field). x.width) same in
    let len : length text ≡ width = is.width ∙ w in
    let val : IfSome (Some v) (λ x. value_of text ≡ x) = subst (λ (x : Field). IfSome x.value (λ y. value_of text ≡ y)) same is.value in
    (omega (arith, ap length parts, length-append text more), rw (parts, take_at text more width len) val)
number_stands (f ∷ fields) bytes rest (suc k) width v (text, more, is, parts, others) e =
    let ih = number_stands fields more rest k width v others e in
    let back : drop f.width bytes ≡ more = rw parts (drop_at text more f.width is.width) in
    (omega (arith, ap length parts, length-append text more, is.width, ih.0), rw (← drop-drop (width_of (take k fields)) f.width bytes, back) ih.1)

-- ---- a layout in two parts

-- a fault of the first part is the fault of the whole
pub fault-before : (at : ℕ) (a b : List Field) (bytes : List ℕ) (e : FieldFault) → fault_of at a bytes ≡ Some e → fault_of at (a ++ b) bytes ≡ Some e
unfolding fault_of
fault-before at [] b bytes e h = absurd cc
fault-before at (f ∷ a) b bytes e h =
    elim (cases_lt (length bytes) f.width) [
      | inl short ↦ rw (lt-ltb (length bytes) f.width short) (rw (lt-ltb (length bytes) f.width short) at h)
      | inr long ↦ let g = rw (le-ltb (length bytes) f.width long) at h in
          elim (which (agrees f.value (value_of (take f.width bytes)))) [
            | inl same ↦ rw (le-ltb (length bytes) f.width long, same) (fault-before (at + f.width) a b (drop f.width bytes) e (rw same at g))
            | inr differs ↦ rw (le-ltb (length bytes) f.width long, differs) (rw differs at g)
          ]
    ]

-- where the first part has none, it is that of the second
pub fault-after : (at : ℕ) (a b : List Field) (bytes : List ℕ) → fault_of at a bytes ≡ None → fault_of at (a ++ b) bytes ≡ fault_of (at + width_of a) b (drop (width_of a) bytes)
unfolding fault_of
fault-after at [] b bytes h = let z : at + 0 ≡ at = omega arith in ap (λ (x : ℕ). fault_of x b bytes) (sym z)
fault-after at (f ∷ a) b bytes h =
    elim (cases_lt (length bytes) f.width) [
      | inl short ↦ absurd (let g = rw (lt-ltb (length bytes) f.width short) at h in cc)
      | inr long ↦ let g = rw (le-ltb (length bytes) f.width long) at h in
          elim (which (agrees f.value (value_of (take f.width bytes)))) [
            | inl same ↦
                let k : (at + f.width) + width_of a ≡ at + (f.width + width_of a) = omega arith in
                let ih = fault-after (at + f.width) a b (drop f.width bytes) (rw same at g) in
                rw (le-ltb (length bytes) f.width long, same) (ih ∙ rw (k, drop-drop) refl)
            | inr differs ↦ absurd (let k = rw differs at g in cc)
          ]
    ]

Spells-width_of : (fields : List Field) (bytes rest : List ℕ) → Spells fields bytes rest → width_of fields ≤ length bytes
Spells-width_of [] bytes rest h = omega arith
Spells-width_of (f ∷ fields) bytes rest (text, more, is, parts, others) = let ih = Spells-width_of fields more rest others in omega (arith, ap length parts, length-append text more, is.width, ih)

pub no_fault_width : (at : ℕ) (fields : List Field) (bytes : List ℕ) → fault_of at fields bytes ≡ None → width_of fields ≤ length bytes
no_fault_width at fields bytes e = Spells-width_of fields bytes (drop (width_of fields) bytes) (no_fault-spells at fields bytes e)

-- ---- writing

pub bytes_of-append : (a b : List Field) → bytes_of (a ++ b) ≡ bytes_of a ++ bytes_of b
bytes_of-append [] b = refl
bytes_of-append (f ∷ a) b = ap (λ (x : List ℕ). little_endian f.width (unwrap_or f.value 0) ++ x) (bytes_of-append a b) ∙ sym (append_assoc (little_endian f.width (unwrap_or f.value 0)) (bytes_of a) (bytes_of b))

pub bytes_of-take : (fields : List Field) (i : ℕ) (d : Field) → i < length fields
    → bytes_of (take (i + 1) fields) ≡ bytes_of (take i fields) ++ little_endian (get_or fields i d).width (unwrap_or (get_or fields i d).value 0)
bytes_of-take fields i d lt = ap bytes_of (take_more fields i d lt) ∙ bytes_of-append (take i fields) (get_or fields i d ∷ []) ∙ ap (λ (x : List ℕ). bytes_of (take i fields) ++ x) (append-nil (little_endian (get_or fields i d).width (unwrap_or (get_or fields i d).value 0)))

pub bytes_of-halves : (fields : List Field) (i : ℕ) → bytes_of fields ≡ bytes_of (take i fields) ++ bytes_of (drop i fields)
bytes_of-halves fields i = ap bytes_of (sym (take-append-drop i fields)) ∙ bytes_of-append (take i fields) (drop i fields)

-- what stands where memory stops the fields from i on
pub stops_at : (fields : List Field) (i : ℕ) (old before new : List ℕ) → before ≡ old ++ bytes_of (take i fields) → new ≡ before → Extends old new (bytes_of fields)
stops_at fields i old before new e f = (bytes_of (take i fields), bytes_of (drop i fields), f ∙ e, bytes_of-halves fields i)

pub goes_on_writing : (fields : List Field) (i value : ℕ) (old before new : List ℕ) → i < length fields → before ≡ old ++ bytes_of (take i fields)
    → new ≡ before ++ little_endian (get_or fields i (free 0)).width value → value ≡ unwrap_or (get_or fields i (free 0)).value 0 → new ≡ old ++ bytes_of (take (i + 1) fields)
goes_on_writing fields i value old before new lt e f g =
    let width = (get_or fields i (free 0)).width in
    f ∙ ap (λ (x : List ℕ). x ++ little_endian width value) e ∙ ap (λ (v : ℕ). (old ++ bytes_of (take i fields)) ++ little_endian width v) g
    ∙ append_assoc old (bytes_of (take i fields)) (little_endian width (unwrap_or (get_or fields i (free 0)).value 0)) ∙ ap (λ (x : List ℕ). old ++ x) (sym (bytes_of-take fields i (free 0) lt))

-- ---- bytes of a layout whose fields all have values

abbrev pub HasValue : Field → Type 0
HasValue f = IfNone f.value ⊥

text_is : (width : ℕ) (value : Option ℕ) (text : List ℕ) → IfNone value ⊥ → AreBytes text → length text ≡ width → IfSome value (λ v. value_of text ≡ v) → text ≡ little_endian width (unwrap_or value 0)
text_is width None text h bytes long is = absurd h
text_is width (Some v) text h bytes long is = sym (little_endian-value_of text bytes) ∙ ap (λ (n : ℕ). little_endian n (value_of text)) long ∙ ap (little_endian width) is

pub spells-bytes_of : (fields : List Field) (bytes rest : List ℕ) → AllByRecursion HasValue fields → AreBytes bytes → Spells fields bytes rest → bytes ≡ bytes_of fields ++ rest
spells-bytes_of [] bytes rest h fits spells = spells
spells-bytes_of (f ∷ fields) bytes rest h fits (text, more, is, parts, others) =
    let both : AreBytes (text ++ more) = rw parts at fits in
    let front = text_is f.width f.value text h.0 (AreBytes-front text more both) is.width is.value in
    let back = spells-bytes_of fields more rest h.1 (AreBytes-back text more both) others in
    parts ∙ ap (λ (x : List ℕ). x ++ more) front ∙ ap (λ (x : List ℕ). little_endian f.width (unwrap_or f.value 0) ++ x) back ∙ sym (append_assoc (little_endian f.width (unwrap_or f.value 0)) (bytes_of fields) rest)

pub no_fault-bytes_of : (at : ℕ) (fields : List Field) (bytes : List ℕ) → AllByRecursion HasValue fields → AreBytes bytes → fault_of at fields bytes ≡ None → bytes ≡ bytes_of fields ++ drop (width_of fields) bytes
no_fault-bytes_of at fields bytes h fits e = spells-bytes_of fields bytes (drop (width_of fields) bytes) h fits (no_fault-spells at fields bytes e)

pub bytes_of-no_fault : (at : ℕ) (fields : List Field) (bytes rest : List ℕ) → AllByRecursion FitsField fields → bytes ≡ bytes_of fields ++ rest → fault_of at fields bytes ≡ None
bytes_of-no_fault at fields bytes rest h e = spells-no_fault at fields bytes rest (subst (λ (x : List ℕ). Spells fields x rest) (sym e) (bytes_of-spells fields rest h))

pub length-bytes_of : (fields : List Field) → length (bytes_of fields) ≡ width_of fields
length-bytes_of [] = refl
length-bytes_of (f ∷ fields) = length-append (little_endian f.width (unwrap_or f.value 0)) (bytes_of fields) ∙ (λ k. length-little_endian f.width (unwrap_or f.value 0) k + length-bytes_of fields k)

-- ---- numbers at a place

pub peeked-stands : (fields : List Field) (bytes rest : List ℕ) (k place width v : ℕ) → Spells fields bytes rest → slice_get fields k ≡ Some (number width v) → width_of (take k fields) ≡ place → peeked width place bytes ≡ v
peeked-stands fields bytes rest k place width v h e at =
    let p = number_stands fields bytes rest k width v h e in
    let long : ltb (length bytes) (place + width) ≡ false = le-ltb _ _ (omega (arith, p.0, at)) in
    rw (long, ← at) p.1

pub pow_pos : (width : ℕ) → 0 < 256 ^ width
pow_pos zero = omega arith
pow_pos (suc width) = let ih = pow_pos width in rw (pow-succ' 256 width) (omega (arith, ih))

pub peeked-below : (width place : ℕ) (bytes : List ℕ) → AreBytes bytes → peeked width place bytes < 256 ^ width
peeked-below width place bytes h =
    elim (cases_lt (length bytes) (place + width)) [
      | inl short ↦ rw (lt-ltb (length bytes) (place + width) short) (pow_pos width)
      | inr long ↦
          let below = value_of-below (take width (drop place bytes)) (AreBytes-take width (drop place bytes) (AreBytes-drop place bytes h)) in
          let wide : length (take width (drop place bytes)) ≡ width = omega (arith, length-take width (drop place bytes), length-drop place bytes) in
          rw (le-ltb (length bytes) (place + width) long) (rw wide at below)
    ]
