-- The bodies of an image: what the bytes tell, and what stands there.
use Rattle.std.proofs.Common.{◌≡◌, ℕ, zero, suc, ◌+◌, ◌-◌, ◌*◌, ◌/◌, ◌%◌, ◌<◌, ◌≤◌, ◌^◌, Bool, true, false, eqb, not, if◌then◌else◌, List, [], ◌∷◌, ◌++◌, length, map, replicate, take, drop, Option, Some, None, refl, sym, ap, subst, ◌∙◌, append_assoc, ◌⊎◌, inl, inr, arith}
use Rattle.std.specs.Prelude.{filter}
use Rattle.std.specs.List.{AllByRecursion}
use Rattle.std.proofs.lemmas.Bool.{eqb-true, eq-eqb}
use Rattle.std.proofs.lemmas.List.{length-append, length-replicate, length-take, length-drop, take_at, drop_at, drop-drop, take-append-drop}
use Rattle.cc_layout.specs.Numbers.{AreBytes}
use Rattle.cc_layout.proofs.Numbers.{AreBytes-drop}
use Rattle.cc_cil.specs.declared.body.Body.{Body}
use Rattle.cc_cil.specs.declared.fault.CodeFault.{CodeFault}
use Rattle.cc_cil.specs.Bodies.{padding, body_bytes, HasSpelling}
use Rattle.cc_cil.specs.Bodies as body
use Rattle.cc_cil.specs.BodyFaults.{body_in, width_in}
use Rattle.cc_cil.proofs.Sound.{which, sound}
use Rattle.cc_cil.proofs.Recovered.{told}
use Rattle.cc_module.specs.declared.rows.MethodDefRow.{MethodDefRow}
use Rattle.cc_module.specs.Methods.{has_rva}
use Rattle.cc_module.specs.Heaps.{padded}
use Rattle.cc_module.specs.Storable.{aligned, body_places}
use Rattle.cc_image.specs.declared.fault.ImageFault.{ImageFault}
use Rattle.cc_image.specs.declared.fault.ImageFault.TheVariants.{BadField}
use Rattle.cc_image.specs.Images.{bodies_bytes}
use Rattle.cc_image.specs.ImageFaults.{first, LOADED_LATER, zeros_fault, gap_fault, past_body, body_at, fault_at, bodies_in, bodies_end, gaps_fault, in_code, method_fault, bodies_fault}
use Rattle.cc_image.proofs.Sections.{length-padded}

-- ---- zeros

pub zeros_fine : (at count : ℕ) → zeros_fault at (replicate count 0) ≡ None
zeros_fine at zero = refl
zeros_fine at (suc count) = zeros_fine (at + 1) count

pub zeros_are : (at : ℕ) (bytes : List ℕ) → zeros_fault at bytes ≡ None → bytes ≡ replicate (length bytes) 0
zeros_are at [] h = refl
zeros_are at (byte ∷ bytes) h =
    elim (which (eqb byte 0)) [
      | inl zero_byte ↦
          let rest = zeros_are (at + 1) bytes (rw zero_byte at h) in
          let first_byte : byte ≡ 0 = eqb-true byte 0 zero_byte in
          λ i. first_byte i ∷ rest i
      | inr other ↦ absurd (let g = rw other at h in cc)
    ]

-- ---- two faults

pub both_none : (a b : Option ImageFault) → first a b ≡ None → (a ≡ None) × (b ≡ None)
both_none None b h = (refl, h)
both_none (Some f) b h = absurd cc

pub none_first : (a b : Option ImageFault) → a ≡ None → b ≡ None → first a b ≡ None
none_first a b e f = rw e f

pub first_assoc : (a b c : Option ImageFault) → first a (first b c) ≡ first (first a b) c
first_assoc None b c = refl
first_assoc (Some f) b c = refl

code_none : (row : ℕ) (fault : Option CodeFault) → in_code row fault ≡ None → fault ≡ None
code_none row None h = refl
code_none row (Some fault) h = absurd cc

-- ---- one body

-- the bytes at a place tell the body, and these bytes follow it at the next multiple of four
pub record StandsAt (b : Body) (at : ℕ) (bytes after : List ℕ) : Type 0 where
  pub body : body_at at bytes ≡ b
  pub past : past_body at bytes ≡ at + length (body_bytes b)
  pub fine : fault_at at bytes ≡ None
  pub gap : gap_fault (past_body at bytes) bytes ≡ None
  pub rest : drop (aligned (past_body at bytes)) bytes ≡ after

pub record IsTold (b : Body) (at : ℕ) (bytes : List ℕ) : Type 0 where
  pub body : body_at at bytes ≡ b
  pub past : past_body at bytes ≡ at + length (body_bytes b)
  pub fine : fault_at at bytes ≡ None

-- the spelling of a body at a place tells it
pub told_at : (b : Body) (at : ℕ) (bytes rest : List ℕ) → AreBytes bytes → length bytes < 2 ^ 32 → HasSpelling b → body.IsInRange b → drop at bytes ≡ body_bytes b ++ rest → IsTold b at bytes
unfolding body_at past_body fault_at
told_at b at bytes rest each few h g e =
    let here = drop at bytes in
    let tells = told b here rest h g e in
    let long : width_in here ≡ length (body_bytes (body_in here)) = (sound 0 here (AreBytes-drop at bytes each) (omega (arith, length-drop at bytes)) (tells.fine 0)).long in
    record {
      body = tells.body;
      past = ap (λ (n : ℕ). at + n) (long ∙ ap (λ (x : Body). length (body_bytes x)) tells.body);
      fine = tells.fine at;
    }

module _ (b : Body) (at : ℕ) (bytes after : List ℕ) (multiple : at % 4 ≡ 0) (tells : IsTold b at bytes) (e : drop at bytes ≡ padded (body_bytes b) ++ after) where
  abbrev size : ℕ
  size = length (body_bytes b)

  abbrev gap_bytes : List ℕ
  gap_bytes = replicate (padding size) 0

  behind : drop (past_body at bytes) bytes ≡ gap_bytes ++ after
  behind =
      ap (λ (n : ℕ). drop n bytes) tells.past ∙ sym (drop-drop size at bytes) ∙ ap (drop size) (e ∙ append_assoc (body_bytes b) gap_bytes after)
      ∙ drop_at (body_bytes b) (gap_bytes ++ after) size refl

  few_zeros : padding (past_body at bytes) ≡ padding size
  few_zeros = omega (arith, tells.past, multiple)

  gap_long : length gap_bytes ≡ padding (past_body at bytes)
  gap_long = length-replicate (padding size) 0 ∙ sym few_zeros

  pub stands_at : StandsAt b at bytes after
  stands_at = record {
    body = tells.body;
    past = tells.past;
    fine = tells.fine;
    gap = ap (λ (x : List ℕ). zeros_fault (past_body at bytes) x) (ap (take (padding (past_body at bytes))) behind ∙ take_at gap_bytes after (padding (past_body at bytes)) gap_long) ∙ zeros_fine (past_body at bytes) (padding size);
    rest = sym (drop-drop (padding (past_body at bytes)) (past_body at bytes) bytes) ∙ ap (drop (padding (past_body at bytes))) behind ∙ drop_at gap_bytes after (padding (past_body at bytes)) gap_long;
  }

-- what is told without a fault is a body
pub record IsSound (at : ℕ) (bytes : List ℕ) : Type 0 where
  pub spelled : HasSpelling (body_at at bytes)
  pub past : past_body at bytes ≡ at + length (body_bytes (body_at at bytes))
  pub within : past_body at bytes ≤ length bytes
  pub text : drop at bytes ≡ body_bytes (body_at at bytes) ++ drop (past_body at bytes) bytes

pub sound_at : (at : ℕ) (bytes : List ℕ) → AreBytes bytes → length bytes < 2 ^ 32 → at ≤ length bytes → fault_at at bytes ≡ None → IsSound at bytes
unfolding body_at past_body fault_at
sound_at at bytes each few within fine =
    let here = drop at bytes in
    let h = sound at here (AreBytes-drop at bytes each) (omega (arith, length-drop at bytes)) fine in
    record {
      spelled = h.spelled;
      past = ap (λ (n : ℕ). at + n) h.long;
      within = omega (arith, h.long, ap length h.text, length-append (body_bytes (body_in here)) (drop (width_in here) here), length-drop at bytes);
      text = h.text ∙ ap (λ (x : List ℕ). body_bytes (body_in here) ++ x) (drop-drop (width_in here) at bytes);
    }

-- with the zeros up to the next multiple of four
pub sound_padded : (at : ℕ) (bytes : List ℕ) → IsSound at bytes → at % 4 ≡ 0 → length bytes % 4 ≡ 0 → gap_fault (past_body at bytes) bytes ≡ None
    → drop at bytes ≡ padded (body_bytes (body_at at bytes)) ++ drop (aligned (past_body at bytes)) bytes
sound_padded at bytes h multiple whole gap =
    let past = past_body at bytes in
    let text = body_bytes (body_at at bytes) in
    let after = drop (aligned past) bytes in
    let count : padding past ≡ padding (length text) = omega (arith, h.past, multiple) in
    let long : length (take (padding past) (drop past bytes)) ≡ padding (length text) = omega (arith, length-take (padding past) (drop past bytes), length-drop past bytes, h.within, whole, count) in
    let zeros : take (padding past) (drop past bytes) ≡ replicate (padding (length text)) 0 = zeros_are past (take (padding past) (drop past bytes)) gap ∙ ap (λ (n : ℕ). replicate n 0) long in
    let parts : drop past bytes ≡ replicate (padding (length text)) 0 ++ after =
    sym (take-append-drop (padding past) (drop past bytes)) ∙ ap (λ (x : List ℕ). x ++ drop (padding past) (drop past bytes)) zeros ∙ ap (λ (x : List ℕ). replicate (padding (length text)) 0 ++ x) (drop-drop (padding past) past bytes) in
    h.text ∙ ap (λ (x : List ℕ). text ++ x) parts ∙ sym (append_assoc text (replicate (padding (length text)) 0) after)

-- ---- all bodies: what stands there is told

pub record AreTold (row at : ℕ) (methods : List MethodDefRow) (bytes : List ℕ) (bodies : List Body) : Type 0 where
  pub fine : bodies_fault row at methods bytes ≡ None
  pub items : bodies_in at methods bytes ≡ bodies
  pub end : bodies_end at methods bytes ≡ at + length (bodies_bytes bodies)
  pub gaps : gaps_fault at methods bytes ≡ None

abbrev pub rvas : List MethodDefRow → List ℕ
rvas methods = map (λ method. method.rva) (filter has_rva methods)

rvas_skip : (method : MethodDefRow) (methods : List MethodDefRow) → has_rva method ≡ false → rvas (method ∷ methods) ≡ rvas methods
rvas_skip method methods hasnt = rw hasnt refl

rvas_take : (method : MethodDefRow) (methods : List MethodDefRow) → has_rva method ≡ true → rvas (method ∷ methods) ≡ method.rva ∷ rvas methods
rvas_take method methods has_one = rw has_one refl

skip_told : (row at : ℕ) (method : MethodDefRow) (methods : List MethodDefRow) (bytes : List ℕ) (bodies : List Body) → has_rva method ≡ false → AreTold (row + 1) at methods bytes bodies → AreTold row at (method ∷ methods) bytes bodies
skip_told row at method methods bytes bodies hasnt h = record { fine = rw hasnt h.fine; items = rw hasnt h.items; end = rw hasnt h.end; gaps = rw hasnt h.gaps }

module _ (row at : ℕ) (method : MethodDefRow) (methods : List MethodDefRow) (bytes after : List ℕ) (b : Body) (bodies : List Body) (has : has_rva method ≡ true) (place : method.rva ≡ at + LOADED_LATER)
    (here : StandsAt b at bytes after) (multiple : at % 4 ≡ 0) (others : AreTold (row + 1) (aligned (past_body at bytes)) methods bytes bodies) where
  no_fault : method_fault row method.rva at bytes ≡ None
  no_fault = rw (eq-eqb method.rva (at + LOADED_LATER) place, here.fine) refl

  long : aligned (past_body at bytes) + length (bodies_bytes bodies) ≡ at + length (bodies_bytes (b ∷ bodies))
  long = omega (arith, here.past, multiple, length-append (padded (body_bytes b)) (bodies_bytes bodies), length-padded (body_bytes b))

  take_told : AreTold row at (method ∷ methods) bytes (b ∷ bodies)
  take_told = record {
    fine = rw (has, no_fault) others.fine;
    items = rw has (λ i. here.body i ∷ others.items i);
    end = rw has (others.end ∙ long);
    gaps = rw (has, here.gap) others.gaps;
  }

pub bodies_told : (row at : ℕ) (methods : List MethodDefRow) (bytes rest : List ℕ) (bodies : List Body) → AreBytes bytes → length bytes < 2 ^ 32 → at % 4 ≡ 0
    → AllByRecursion HasSpelling bodies → AllByRecursion body.IsInRange bodies → rvas methods ≡ body_places (at + LOADED_LATER) bodies → drop at bytes ≡ bodies_bytes bodies ++ rest → AreTold row at methods bytes bodies
bodies_told row at [] bytes rest [] each few multiple h g places e = record { fine = refl; items = refl; end = omega arith; gaps = refl }
bodies_told row at [] bytes rest (b ∷ bodies) each few multiple h g places e = absurd cc
bodies_told row at (method ∷ methods) bytes rest [] each few multiple h g places e =
    elim (which (has_rva method)) [
      | inr hasnt ↦ skip_told row at method methods bytes [] hasnt (bodies_told (row + 1) at methods bytes rest [] each few multiple h g (sym (rvas_skip method methods hasnt) ∙ places) e)
      | inl has_one ↦ absurd (let p : method.rva ∷ rvas methods ≡ [] = sym (rvas_take method methods has_one) ∙ places in cc)
    ]
bodies_told row at (method ∷ methods) bytes rest (b ∷ bodies) each few multiple h g places e =
    elim (which (has_rva method)) [
      | inr hasnt ↦ skip_told row at method methods bytes (b ∷ bodies) hasnt (bodies_told (row + 1) at methods bytes rest (b ∷ bodies) each few multiple h g (sym (rvas_skip method methods hasnt) ∙ places) e)
      | inl has_one ↦
          let after = bodies_bytes bodies ++ rest in
          let other = body_places (aligned (at + LOADED_LATER + length (body_bytes b))) bodies in
          let p : method.rva ∷ rvas methods ≡ (at + LOADED_LATER) ∷ other = sym (rvas_take method methods has_one) ∙ places in
          let place : method.rva ≡ at + LOADED_LATER = cc in
          let other_places : rvas methods ≡ other = cc in
          let text : drop at bytes ≡ padded (body_bytes b) ++ after = e ∙ append_assoc (padded (body_bytes b)) (bodies_bytes bodies) rest in
          let whole : drop at bytes ≡ body_bytes b ++ (replicate (padding (length (body_bytes b))) 0 ++ after) = text ∙ append_assoc (body_bytes b) (replicate (padding (length (body_bytes b))) 0) after in
          let tells = told_at b at bytes (replicate (padding (length (body_bytes b))) 0 ++ after) each few h.0 g.0 whole in
          let here = stands_at b at bytes after multiple tells text in
          let next : aligned (at + LOADED_LATER + length (body_bytes b)) ≡ aligned (past_body at bytes) + LOADED_LATER = omega (arith, here.past, multiple) in
          let others = bodies_told (row + 1) (aligned (past_body at bytes)) methods bytes rest bodies each few (omega arith) h.1 g.1 (other_places ∙ ap (λ (n : ℕ). body_places n bodies) next) here.rest in
          take_told row at method methods bytes after b bodies has_one place here multiple others
    ]

-- ---- all bodies: what is told without a fault stands there

pub record AreSound (at : ℕ) (methods : List MethodDefRow) (bytes : List ℕ) : Type 0 where
  pub spelled : AllByRecursion HasSpelling (bodies_in at methods bytes)
  pub places : rvas methods ≡ body_places (at + LOADED_LATER) (bodies_in at methods bytes)
  pub end : bodies_end at methods bytes ≡ at + length (bodies_bytes (bodies_in at methods bytes))
  pub within : bodies_end at methods bytes ≤ length bytes
  pub text : drop at bytes ≡ bodies_bytes (bodies_in at methods bytes) ++ drop (bodies_end at methods bytes) bytes

skip_sound : (at : ℕ) (method : MethodDefRow) (methods : List MethodDefRow) (bytes : List ℕ) → has_rva method ≡ false → AreSound at methods bytes → AreSound at (method ∷ methods) bytes
skip_sound at method methods bytes hasnt h = record { spelled = rw hasnt h.spelled; places = rw hasnt h.places; end = rw hasnt h.end; within = rw hasnt h.within; text = rw hasnt h.text }

module _ (at : ℕ) (method : MethodDefRow) (methods : List MethodDefRow) (bytes : List ℕ) (has : has_rva method ≡ true) (place : method.rva ≡ at + LOADED_LATER) (multiple : at % 4 ≡ 0) (whole : length bytes % 4 ≡ 0)
    (here : IsSound at bytes) (gap : gap_fault (past_body at bytes) bytes ≡ None) (others : AreSound (aligned (past_body at bytes)) methods bytes) where
  abbrev text : List ℕ
  text = body_bytes (body_at at bytes)

  abbrev next : ℕ
  next = aligned (past_body at bytes)

  abbrev rest : List Body
  rest = bodies_in next methods bytes

  next_is : next + LOADED_LATER ≡ aligned (at + LOADED_LATER + length text)
  next_is = omega (arith, here.past, multiple)

  sound_places : method.rva ∷ rvas methods ≡ body_places (at + LOADED_LATER) (body_at at bytes ∷ rest)
  sound_places = let tail = others.places ∙ ap (λ (n : ℕ). body_places n rest) next_is in λ i. place i ∷ tail i

  sound_end : bodies_end next methods bytes ≡ at + length (bodies_bytes (body_at at bytes ∷ rest))
  sound_end = omega (arith, others.end, here.past, multiple, length-append (padded text) (bodies_bytes rest), length-padded text)

  sound_text : drop at bytes ≡ bodies_bytes (body_at at bytes ∷ rest) ++ drop (bodies_end next methods bytes) bytes
  sound_text = sound_padded at bytes here multiple whole gap ∙ ap (λ (x : List ℕ). padded text ++ x) others.text ∙ sym (append_assoc (padded text) (bodies_bytes rest) (drop (bodies_end next methods bytes) bytes))

  take_sound : AreSound at (method ∷ methods) bytes
  take_sound = record { spelled = rw has (here.spelled, others.spelled); places = rw has sound_places; end = rw has sound_end; within = rw has others.within; text = rw has sound_text }

-- what a method's fault that isn't there means
method_sound : (row rva at : ℕ) (bytes : List ℕ) → method_fault row rva at bytes ≡ None → (rva ≡ at + LOADED_LATER) × (fault_at at bytes ≡ None)
method_sound row rva at bytes h =
    elim (which (eqb rva (at + LOADED_LATER))) [
      | inl same ↦ (eqb-true rva (at + LOADED_LATER) same, code_none row (fault_at at bytes) (rw same at h))
      | inr other ↦ absurd (let g = rw other at h in cc)
    ]

pub bodies_sound : (row at : ℕ) (methods : List MethodDefRow) (bytes : List ℕ) → AreBytes bytes → length bytes < 2 ^ 32 → at % 4 ≡ 0 → length bytes % 4 ≡ 0 → at ≤ length bytes
    → bodies_fault row at methods bytes ≡ None → gaps_fault at methods bytes ≡ None → AreSound at methods bytes
bodies_sound row at [] bytes each few multiple whole within h g = record { spelled = tt; places = refl; end = omega arith; within = within; text = refl }
bodies_sound row at (method ∷ methods) bytes each few multiple whole within h g =
    elim (which (has_rva method)) [
      | inr hasnt ↦ skip_sound at method methods bytes hasnt (bodies_sound (row + 1) at methods bytes each few multiple whole within (rw hasnt at h) (rw hasnt at g))
      | inl has_one ↦
          let next = aligned (past_body at bytes) in
          let faults = both_none (method_fault row method.rva at bytes) (bodies_fault (row + 1) next methods bytes) (rw has_one at h) in
          let gaps = both_none (gap_fault (past_body at bytes) bytes) (gaps_fault next methods bytes) (rw has_one at g) in
          let one = method_sound row method.rva at bytes faults.0 in
          let here = sound_at at bytes each few within one.1 in
          let others = bodies_sound (row + 1) next methods bytes each few (omega arith) whole (omega (arith, here.within, whole)) faults.1 gaps.1 in
          take_sound at method methods bytes has_one one.0 multiple whole here gaps.0 others
    ]
