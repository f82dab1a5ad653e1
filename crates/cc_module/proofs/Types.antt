-- Types element by element, and where bytes begin no type.
use Rattle.std.proofs.Common.{◌≡◌, ℕ, zero, suc, ◌+◌, ◌-◌, ◌*◌, ◌<◌, ◌≤◌, List, [], ◌∷◌, ◌++◌, length, take, drop, Some, refl, sym, ap, subst, ◌∙◌, append_assoc, zero-add, lit<, arith}
use Rattle.std.specs.List.{flat_map, AllByRecursion}
use Rattle.std.proofs.Math.ListN.{replicate}
use Rattle.std.proofs.lemmas.List.{length-append, append-nil, drop_at}
use Rattle.std.proofs.lemmas.List.Concat.{flat_map-cons}
use Rattle.std.proofs.lemmas.Grind.{flat_map-append}
use Rattle.cc_layout.specs.Codes.{IsBad, IsCode}
use Rattle.cc_layout.proofs.Codes.{no_front}
use Rattle.cc_module.specs.declared.element.Element.{Element}
use Rattle.cc_module.specs.declared.element.Element.TheVariants as the
use Rattle.cc_module.specs.declared.signature.TypeSignature.{TypeSignature}
use Rattle.cc_module.specs.Signatures.{element_bytes, arity, FitsElement, IsElement, wanted, IsType, type_bytes, IsOneType}
use Rattle.cc_module.proofs.Elements.{bad_same, element_one, element_code}

-- the text is so many types
abbrev pub IsElements : ℕ → List ℕ → Type 0
IsElements k text = (ms : List Element) × (wanted k ms ≡ Some 0) × AllByRecursion FitsElement ms × (text ≡ flat_map element_bytes ms)

wanted-append : (k : ℕ) (a b : List Element) (j : ℕ) → wanted k a ≡ Some j → wanted k (a ++ b) ≡ wanted j b
wanted-append k [] b j e = let p : k ≡ j = cc in rw p refl
wanted-append zero (m ∷ a) b j e = absurd cc
wanted-append (suc k) (m ∷ a) b j e = wanted-append (arity m + k) a b j e

wanted-voids : (k : ℕ) → wanted k (replicate k the.Void) ≡ Some 0
wanted-voids zero = refl
wanted-voids (suc k) = let z : 0 + k ≡ k = omega arith in ap (λ (j : ℕ). wanted j (replicate k the.Void)) z ∙ wanted-voids k

fits-append : (a b : List Element) → AllByRecursion FitsElement a → AllByRecursion FitsElement b → AllByRecursion FitsElement (a ++ b)
fits-append [] b h k = k
fits-append (m ∷ a) b h k = (h.0, fits-append a b h.1 k)

fits-voids : (k : ℕ) → AllByRecursion FitsElement (replicate k the.Void)
fits-voids zero = tt
fits-voids (suc k) = (tt, fits-voids k)

-- marks that begin with others, of which one more is wanted, have a next mark
next_element : (done ms : List Element) (k pending : ℕ) (rest : List ℕ) → wanted k done ≡ Some (suc pending) → wanted k ms ≡ Some 0 → AllByRecursion FitsElement done → AllByRecursion FitsElement ms
    → flat_map element_bytes ms ≡ flat_map element_bytes done ++ rest → (m : Element) × (others : List Element) × FitsElement m × (element_bytes m ++ flat_map element_bytes others ≡ rest)
next_element [] [] k pending rest d e h g f = absurd cc
next_element [] (m ∷ ms) k pending rest d e h g f = (m, ms, g.0, sym (flat_map-cons element_bytes m ms) ∙ f)
next_element (n ∷ done) [] zero pending rest d e h g f = absurd cc
next_element (n ∷ done) [] (suc k) pending rest d e h g f = absurd cc
next_element (n ∷ done) (m ∷ ms) zero pending rest d e h g f = absurd cc
next_element (n ∷ done) (m ∷ ms) (suc k) pending rest d e h g f =
    let parts : element_bytes m ++ flat_map element_bytes ms ≡ element_bytes n ++ (flat_map element_bytes done ++ rest) =
    sym (flat_map-cons element_bytes m ms) ∙ f ∙ ap (λ (t : List ℕ). t ++ rest) (flat_map-cons element_bytes n done) ∙ append_assoc (element_bytes n) (flat_map element_bytes done) rest in
    let p = element_one m n (flat_map element_bytes ms) (flat_map element_bytes done ++ rest) g.0 h.0 parts in
    next_element done ms (arity n + k) pending rest d (rw p.0 at e) h.1 g.1 p.1

take_past : (a rest : List ℕ) (n : ℕ) → take (length a + n) (a ++ rest) ≡ a ++ take n rest
take_past [] rest n = rw zero-add refl
take_past (x ∷ a) rest n = let k : suc (length a) + n ≡ suc (length a + n) = omega arith in rw k (ap (λ (t : List ℕ). x ∷ t) (take_past a rest n))

-- where a mark goes wrong, the types do
pub types_bad : (done : List Element) (bytes rest : List ℕ) (k pending n : ℕ) → wanted k done ≡ Some (suc pending) → AllByRecursion FitsElement done → bytes ≡ flat_map element_bytes done ++ rest
    → IsBad IsElement rest n → IsBad (IsElements k) bytes (length (flat_map element_bytes done) + n)
types_bad done bytes rest k pending n d h e bad =
    let front = flat_map element_bytes done in
    let m = bad.front.2.0 in
    let voids = replicate (arity m + pending) the.Void in
    let ms = done ++ (m ∷ voids) in
    let whole : wanted k ms ≡ Some 0 = wanted-append k done (m ∷ voids) (suc pending) d ∙ wanted-voids (arity m + pending) in
    let texts : take (length front + n) bytes ++ (bad.front.0 ++ flat_map element_bytes voids) ≡ flat_map element_bytes ms =
    ap (λ (t : List ℕ). take (length front + n) t ++ (bad.front.0 ++ flat_map element_bytes voids)) e
    ∙ ap (λ (t : List ℕ). t ++ (bad.front.0 ++ flat_map element_bytes voids)) (take_past front rest n)
    ∙ append_assoc front (take n rest) (bad.front.0 ++ flat_map element_bytes voids)
    ∙ ap (λ (t : List ℕ). front ++ t) (sym (append_assoc (take n rest) bad.front.0 (flat_map element_bytes voids)) ∙ ap (λ (t : List ℕ). t ++ flat_map element_bytes voids) bad.front.2.2 ∙ sym (flat_map-cons element_bytes m voids))
    ∙ sym (flat_map-append element_bytes done (m ∷ voids)) in
    let len = ap length e in
    let pos = bad.front.1 in
    let within = bad.within in
    record {
      within = omega (arith, length-append front rest, len);
      front = (bad.front.0 ++ flat_map element_bytes voids, omega (arith, length-append bad.front.0 (flat_map element_bytes voids)), (ms, whole, fits-append done (m ∷ voids) h (bad.front.2.1, fits-voids (arity m + pending)), texts));
      first = λ lt more p.
          let k2 : (length front + n) + 1 ≡ length front + (n + 1) = omega arith in
          let f : flat_map element_bytes p.0 ≡ front ++ (take (n + 1) rest ++ more) = sym p.3 ∙ ap (λ (t : List ℕ). take ((length front + n) + 1) t ++ more) e ∙ rw (k2, take_past front rest (n + 1)) (append_assoc front (take (n + 1) rest) more) in
          let next = next_element done p.0 k pending (take (n + 1) rest ++ more) d p.1 h p.2 f in
          no_front IsElement element_code rest n bad (element_bytes next.0) (flat_map element_bytes next.1) more (next.0, next.2, refl) (omega (arith, length-append front rest, len)) next.3;
    }

-- ---- one mark more

wanted_one : (pending : ℕ) (m : Element) → 0 < pending → wanted pending (m ∷ []) ≡ Some (pending - 1 + arity m)
wanted_one zero m h = absurd (omega arith)
wanted_one (suc p) m h = let e : arity m + p ≡ suc p - 1 + arity m = omega arith in ap Some e

module _ (k pending : ℕ) (marks new : List Element) (m : Element) (is : new ≡ marks ++ m ∷ []) where
  pub more_wanted : 0 < pending → wanted k marks ≡ Some pending → wanted k new ≡ Some (pending - 1 + arity m)
  more_wanted h e = rw is (wanted-append k marks (m ∷ []) pending e ∙ wanted_one pending m h)

  pub more_fit : AllByRecursion FitsElement marks → FitsElement m → AllByRecursion FitsElement new
  more_fit h g = rw is (fits-append marks (m ∷ []) h (g, tt))

  pub more_text : (bytes rest after : List ℕ) → bytes ≡ flat_map element_bytes marks ++ rest → rest ≡ element_bytes m ++ after → bytes ≡ flat_map element_bytes new ++ after
  more_text bytes rest after e f =
      let one : flat_map element_bytes (m ∷ []) ≡ element_bytes m = flat_map-cons element_bytes m [] ∙ append-nil (element_bytes m) in
      let whole : flat_map element_bytes new ≡ flat_map element_bytes marks ++ element_bytes m = ap (flat_map element_bytes) is ∙ flat_map-append element_bytes marks (m ∷ []) ∙ ap (λ (t : List ℕ). flat_map element_bytes marks ++ t) one in
      e ∙ ap (λ (t : List ℕ). flat_map element_bytes marks ++ t) f ∙ sym (append_assoc (flat_map element_bytes marks) (element_bytes m) after) ∙ ap (λ (t : List ℕ). t ++ after) (sym whole)

-- the place that the code counts
pub place_is : (bytes front rest : List ℕ) (n : ℕ) → bytes ≡ front ++ rest → length bytes - length rest + n ≡ length front + n
place_is bytes front rest n e = let l = ap length e in omega (arith, l, length-append front rest)

-- ---- one type

abbrev typed : List Element → TypeSignature
typed elements = record { elements = elements }

one_to : (text : List ℕ) → IsElements 1 text → IsOneType text
one_to text (ms, w, fits, e) = (typed ms, record { whole = w; fits = fits }, e)

one_from : (text : List ℕ) → IsOneType text → IsElements 1 text
one_from text (t, h, e) = (t.elements, h.whole, h.fits, e)

pub type_bad : (done : List Element) (bytes rest : List ℕ) (pending n place : ℕ) → 0 < pending → wanted 1 done ≡ Some pending → AllByRecursion FitsElement done → bytes ≡ flat_map element_bytes done ++ rest
    → place ≡ length bytes - length rest → IsBad IsElement rest n → IsBad IsOneType bytes (place + n)
type_bad done bytes rest pending n place some w h e is bad =
    let p : pending ≡ suc (pending - 1) = omega (arith, some) in
    let k : length (flat_map element_bytes done) + n ≡ place + n = omega (arith, is, ap length e, length-append (flat_map element_bytes done) rest) in
    subst (λ (x : ℕ). IsBad IsOneType bytes x) k (bad_same (IsElements 1) IsOneType bytes (length (flat_map element_bytes done) + n) one_to one_from (types_bad done bytes rest 1 (pending - 1) n (w ∙ ap Some p) h e bad))

pub type_read : (elements : List Element) (bytes rest : List ℕ) (width : ℕ) → wanted 1 elements ≡ Some 0 → AllByRecursion FitsElement elements → bytes ≡ flat_map element_bytes elements ++ rest → width ≡ length bytes - length rest
    → IsType (typed elements) × (bytes ≡ type_bytes (typed elements) ++ drop width bytes)
type_read elements bytes rest width w h e is =
    let long : length (flat_map element_bytes elements) ≡ width = omega (arith, is, ap length e, length-append (flat_map element_bytes elements) rest) in
    let after : drop width bytes ≡ rest = ap (drop width) e ∙ drop_at (flat_map element_bytes elements) rest width long in
    (record { whole = w; fits = h }, e ∙ ap (λ (x : List ℕ). flat_map element_bytes elements ++ x) (sym after))

-- ---- no type begins another

elements_one : (k : ℕ) (a b : List Element) (x y : List ℕ) → wanted k a ≡ Some 0 → wanted k b ≡ Some 0 → AllByRecursion FitsElement a → AllByRecursion FitsElement b → flat_map element_bytes a ++ x ≡ flat_map element_bytes b ++ y → (a ≡ b) × (x ≡ y)
elements_one k [] [] x y w v h g e = (refl, e)
elements_one zero [] (n ∷ b) x y w v h g e = absurd cc
elements_one (suc k) [] (n ∷ b) x y w v h g e = absurd cc
elements_one zero (m ∷ a) [] x y w v h g e = absurd cc
elements_one (suc k) (m ∷ a) [] x y w v h g e = absurd cc
elements_one zero (m ∷ a) (n ∷ b) x y w v h g e = absurd cc
elements_one (suc k) (m ∷ a) (n ∷ b) x y w v h g e =
    let f : element_bytes m ++ (flat_map element_bytes a ++ x) ≡ element_bytes n ++ (flat_map element_bytes b ++ y) =
    sym (append_assoc (element_bytes m) (flat_map element_bytes a) x) ∙ ap (λ (t : List ℕ). t ++ x) (sym (flat_map-cons element_bytes m a)) ∙ e ∙ ap (λ (t : List ℕ). t ++ y) (flat_map-cons element_bytes n b) ∙ append_assoc (element_bytes n) (flat_map element_bytes b) y in
    let p = element_one m n (flat_map element_bytes a ++ x) (flat_map element_bytes b ++ y) h.0 g.0 f in
    let q = elements_one (arity m + k) a b x y w (rw (sym p.0) at v) h.1 g.1 p.1 in
    (λ i. p.0 i ∷ q.0 i, q.1)

pub type_one : (a b : TypeSignature) (x y : List ℕ) → IsType a → IsType b → type_bytes a ++ x ≡ type_bytes b ++ y → (a ≡ b) × (x ≡ y)
type_one a b x y h g e = let p = elements_one 1 a.elements b.elements x y h.whole g.whole h.fits g.fits e in (ap typed p.0, p.1)

pub type_code : IsCode IsOneType
type_code a b x y pa pb e =
    let p = type_one pa.0 pb.0 x y pa.1 pb.1 (ap (λ (t : List ℕ). t ++ x) (sym pa.2) ∙ e ∙ ap (λ (t : List ℕ). t ++ y) pb.2) in
    (pa.2 ∙ ap type_bytes p.0 ∙ sym pb.2, p.1)

-- ---- how many types can be pending

arity_below : (e : Element) → FitsElement e → arity e < 536870912
arity_below (the.Instance v t n) h = h.1
arity_below the.Void h = lit< tt
arity_below e h = lit< tt

pub pending_below : (e : Element) (bytes rest after : List ℕ) (pending : ℕ) → FitsElement e → rest ≡ element_bytes e ++ after → pending + 536870912 * length rest ≤ 1 + 536870912 * length bytes → 0 < pending
    → pending - 1 + arity e + 536870912 * length after ≤ 1 + 536870912 * length bytes
pending_below e bytes rest after pending fits is h some =
    let a = arity_below e fits in
    let long = ap length is ∙ length-append (element_bytes e) after in
    let one : 1 ≤ length (element_bytes e) = omega arith in
    omega (arith, a, long, h, some, one)
