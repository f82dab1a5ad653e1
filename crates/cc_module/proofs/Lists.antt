-- Types one after the other, and where bytes begin no so many types.
use Rattle.std.proofs.Common.{◌≡◌, ℕ, zero, suc, ◌+◌, ◌-◌, ◌<◌, List, [], ◌∷◌, ◌++◌, length, drop, refl, sym, ap, subst, ◌∙◌, append_assoc, arith}
use Rattle.std.specs.List.{AllByRecursion}
use Rattle.std.proofs.Math.ListN.{replicate, length-replicate}
use Rattle.std.proofs.lemmas.List.{length-append, append-nil, drop_at}
use Rattle.std.proofs.lemmas.List.Concat.{flat_map-cons}
use Rattle.std.proofs.lemmas.Grind.{flat_map-append}
use Rattle.cc_layout.specs.Codes.{IsBad, IsCode, Then}
use Rattle.cc_layout.proofs.Sequences.{bad_before, bad_after}
use Rattle.cc_module.specs.declared.element.Element.TheVariants as the
use Rattle.cc_module.specs.declared.signature.TypeSignature.{TypeSignature}
use Rattle.cc_module.specs.Signatures.{IsType, type_bytes, types_bytes, IsOneType, IsTypes}
use Rattle.cc_module.proofs.Elements.{bad_same}
use Rattle.cc_module.proofs.Types.{type_one, type_code}

-- the type void, which stands where any type will do
abbrev void : TypeSignature
void = record { elements = the.Void ∷ [] }

void_type : IsType void
void_type = record { whole = refl; fits = (tt, tt) }

-- ---- one type and the others

types_to : (count : ℕ) (text : List ℕ) → Then IsOneType (λ _. IsTypes count) text → IsTypes (suc count) text
types_to count text (a, b, (t, h, e), (types, long, each, f), g) =
    (t ∷ types, ap suc long, (h, each), g ∙ ap (λ (x : List ℕ). x ++ b) e ∙ ap (λ (x : List ℕ). type_bytes t ++ x) f ∙ sym (flat_map-cons type_bytes t types))

types_from : (count : ℕ) (text : List ℕ) → IsTypes (suc count) text → Then IsOneType (λ _. IsTypes count) text
types_from count text ([], long, each, e) = absurd (omega (arith, long))
types_from count text (t ∷ types, long, each, e) = (type_bytes t, types_bytes types, (t, each.0, refl), (types, omega (arith, long), each.1, refl), e ∙ flat_map-cons type_bytes t types)

types_same : (count : ℕ) (bytes : List ℕ) (n : ℕ) → IsBad (Then IsOneType (λ _. IsTypes count)) bytes n → IsBad (IsTypes (suc count)) bytes n
types_same count bytes n = bad_same (Then IsOneType (λ _. IsTypes count)) (IsTypes (suc count)) bytes n (types_to count) (types_from count)

each_void : (count : ℕ) → AllByRecursion IsType (replicate count void)
each_void zero = tt
each_void (suc count) = (void_type, each_void count)

pub types_more_of : (count : ℕ) → (b : List ℕ) × IsTypes count b
types_more_of count = (types_bytes (replicate count void), (replicate count void, length-replicate count void, each_void count, refl))

types_more : (count : ℕ) (a : List ℕ) → IsOneType a → (b : List ℕ) × IsTypes count b
types_more count a p = (types_bytes (replicate count void), (replicate count void, length-replicate count void, each_void count, refl))

-- where one type goes wrong after others, so many types do
pub types_bad : (done : List TypeSignature) (bytes rest : List ℕ) (more n : ℕ) → AllByRecursion IsType done → bytes ≡ types_bytes done ++ rest → IsBad IsOneType rest n → IsBad (IsTypes (length done + suc more)) bytes (length (types_bytes done) + n)
types_bad [] bytes rest more n h e bad =
    let k : 0 + suc more ≡ suc more = omega arith in
    let j : 0 + n ≡ n = omega arith in
    rw (k, j, e) (types_same more rest n (bad_before IsOneType (λ _. IsTypes more) type_code (types_more more) rest n bad))
types_bad (t ∷ done) bytes rest more n h e bad =
    let others = types_bytes done ++ rest in
    let parts : bytes ≡ type_bytes t ++ others = e ∙ ap (λ (x : List ℕ). x ++ rest) (flat_map-cons type_bytes t done) ∙ append_assoc (type_bytes t) (types_bytes done) rest in
    let ih = types_bad done others rest more n h.1 refl bad in
    let count : suc (length done) + suc more ≡ suc (length done + suc more) = omega arith in
    let place : length (types_bytes (t ∷ done)) + n ≡ length (type_bytes t) + (length (types_bytes done) + n) = omega (arith, ap length (flat_map-cons type_bytes t done), length-append (type_bytes t) (types_bytes done)) in
    rw (count, place) (types_same (length done + suc more) bytes (length (type_bytes t) + (length (types_bytes done) + n))
    (bad_after IsOneType (λ _. IsTypes (length done + suc more)) type_code (type_bytes t) others bytes (length (types_bytes done) + n) (t, h.0, refl) parts ih))

-- ---- a reader's steps

each-append : (a b : List TypeSignature) → AllByRecursion IsType a → AllByRecursion IsType b → AllByRecursion IsType (a ++ b)
each-append [] b h k = k
each-append (t ∷ a) b h k = (h.0, each-append a b h.1 k)

pub on_each : (types new : List TypeSignature) (t : TypeSignature) → new ≡ types ++ t ∷ [] → AllByRecursion IsType types → IsType t → AllByRecursion IsType new
on_each types new t e h k = rw e (each-append types (t ∷ []) h (k, tt))

pub on_count : (types new : List TypeSignature) (t : TypeSignature) (i : ℕ) → new ≡ types ++ t ∷ [] → length types ≡ i → length new ≡ i + 1
on_count types new t i e h = omega (arith, ap length e, length-append types (t ∷ []), h)

pub on_text : (types new : List TypeSignature) (t : TypeSignature) (bytes rest after : List ℕ) → new ≡ types ++ t ∷ [] → bytes ≡ types_bytes types ++ rest → rest ≡ type_bytes t ++ after → bytes ≡ types_bytes new ++ after
on_text types new t bytes rest after e f g =
    let one : types_bytes (t ∷ []) ≡ type_bytes t = flat_map-cons type_bytes t [] ∙ append-nil (type_bytes t) in
    let whole : types_bytes new ≡ types_bytes types ++ type_bytes t = ap types_bytes e ∙ flat_map-append type_bytes types (t ∷ []) ∙ ap (λ (x : List ℕ). types_bytes types ++ x) one in
    f ∙ ap (λ (x : List ℕ). types_bytes types ++ x) g ∙ sym (append_assoc (types_bytes types) (type_bytes t) after) ∙ ap (λ (x : List ℕ). x ++ after) (sym whole)

pub ends_bad : (types : List TypeSignature) (bytes rest : List ℕ) (count i n place : ℕ) → i < count → length types ≡ i → AllByRecursion IsType types → bytes ≡ types_bytes types ++ rest → place ≡ length bytes - length rest
    → IsBad IsOneType rest n → IsBad (IsTypes count) bytes (place + n)
ends_bad types bytes rest count i n place lt long h e is bad =
    let k : length types + suc (count - (i + 1)) ≡ count = omega (arith, long, lt) in
    let j : length (types_bytes types) + n ≡ place + n = omega (arith, is, ap length e, length-append (types_bytes types) rest) in
    subst (λ (x : ℕ). IsBad (IsTypes count) bytes x) j (subst (λ (x : ℕ). IsBad (IsTypes x) bytes (length (types_bytes types) + n)) k (types_bad types bytes rest (count - (i + 1)) n h e bad))

pub types_read : (types : List TypeSignature) (bytes rest : List ℕ) (width : ℕ) → bytes ≡ types_bytes types ++ rest → width ≡ length bytes - length rest → bytes ≡ types_bytes types ++ drop width bytes
types_read types bytes rest width e is =
    let long : length (types_bytes types) ≡ width = omega (arith, is, ap length e, length-append (types_bytes types) rest) in
    let after : drop width bytes ≡ rest = ap (drop width) e ∙ drop_at (types_bytes types) rest width long in
    e ∙ ap (λ (x : List ℕ). types_bytes types ++ x) (sym after)

-- ---- no types begin others

pub types_one : (a b : List TypeSignature) (x y : List ℕ) → length a ≡ length b → AllByRecursion IsType a → AllByRecursion IsType b → types_bytes a ++ x ≡ types_bytes b ++ y → (a ≡ b) × (x ≡ y)
types_one [] [] x y n h g e = (refl, e)
types_one [] (t ∷ b) x y n h g e = absurd (omega (arith, n))
types_one (s ∷ a) [] x y n h g e = absurd (omega (arith, n))
types_one (s ∷ a) (t ∷ b) x y n h g e =
    let f : type_bytes s ++ (types_bytes a ++ x) ≡ type_bytes t ++ (types_bytes b ++ y) =
    sym (append_assoc (type_bytes s) (types_bytes a) x) ∙ ap (λ (w : List ℕ). w ++ x) (sym (flat_map-cons type_bytes s a)) ∙ e ∙ ap (λ (w : List ℕ). w ++ y) (flat_map-cons type_bytes t b) ∙ append_assoc (type_bytes t) (types_bytes b) y in
    let p = type_one s t (types_bytes a ++ x) (types_bytes b ++ y) h.0 g.0 f in
    let q = types_one a b x y (omega (arith, n)) h.1 g.1 p.1 in
    (λ i. p.0 i ∷ q.0 i, q.1)

pub types_code : (count : ℕ) → IsCode (IsTypes count)
types_code count a b x y pa pb e =
    let p = types_one pa.0 pb.0 x y (pa.1 ∙ sym pb.1) pa.2 pb.2 (ap (λ (t : List ℕ). t ++ x) (sym pa.3) ∙ e ∙ ap (λ (t : List ℕ). t ++ y) pb.3) in
    (pa.3 ∙ ap types_bytes p.0 ∙ sym pb.3, p.1)
