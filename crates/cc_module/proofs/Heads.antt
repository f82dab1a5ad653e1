-- What the first byte of a signature tells.
use Rattle.std.proofs.Common.{◌≡◌, ℕ, zero, suc, ◌+◌, ◌^◌, ◌<◌, Bool, true, false, List, [], ◌∷◌, ◌++◌, ◌⊎◌, inl, inr, length, take, Option, Some, None, refl, sym, ap, subst, ◌∙◌, lit≤, arith}
use Rattle.std.specs.List.{flat_map, AllByRecursion}
use Rattle.std.proofs.lemmas.Bool.{cases_lt}
use Rattle.std.specs.Prelude.{get_or, eqb, ◌||◌, ◌%◌}
use Rattle.cc_layout.proofs.CompressedForms.{compressed_free}
use Rattle.std.proofs.lemmas.List.{length-append, length-take}
use Rattle.std.proofs.lemmas.List.Concat.{flat_map-cons}
use Rattle.cc_layout.specs.Compressed.{compressed}
use Rattle.cc_module.specs.declared.element.Element.{Element}
use Rattle.cc_module.specs.declared.element.Element.TheVariants as the
use Rattle.cc_module.specs.declared.signature.TypeSignature.{TypeSignature}
use Rattle.cc_module.specs.declared.signature.Signature.{Signature}
use Rattle.cc_module.specs.declared.signature.Signature.TheVariants.{Field, Method, Locals, Property, Instantiation, Plain}
use Rattle.cc_module.proofs.Elements.{no_number}
use Rattle.cc_module.proofs.Types.{type_one}
use Rattle.cc_module.proofs.Lists.{types_one}
use Rattle.cc_module.specs.Signatures.{generic_bytes, FitsGeneric, mark, operand, arity, element_bytes, wanted, IsType, AreTypes, type_bytes, types_bytes, this_mark, generic_mark, typed_bytes, counted_bytes, signature_bytes, HasSpelling, BeginsAlone, IsSignature, IsBadWhole, IsOneType, IsCounted, IsGeneric, IsPlainLead}

cons_one : (a b : ℕ) (x y : List ℕ) → a ∷ x ≡ b ∷ y → (a ≡ b) × (x ≡ y)
cons_one a b x y e = (cc, cc)

-- a signature by its first byte
pub data Shape (lead : ℕ) (t : List ℕ) : Type 0 where
  field : lead ≡ 0x06 → IsOneType t → Shape lead t
  locals : lead ≡ 0x07 → IsCounted 0 t → Shape lead t
  instantiation : lead ≡ 0x0A → IsCounted 0 t → Shape lead t
  method : (this : Bool) → lead ≡ this_mark this + 0x00 → IsCounted 1 t → Shape lead t
  generic : (this : Bool) → lead ≡ this_mark this + 0x10 → IsGeneric t → Shape lead t
  property : (this : Bool) → lead ≡ this_mark this + 0x08 → IsCounted 1 t → Shape lead t
  plain : (e : Element) → mark e ≡ lead → (lead ≡ 0x01 → ⊥) → (lead ≡ 0x10 → ⊥) → (arity e ≡ 0 → operand e ≡ [] → t ≡ []) → IsOneType (lead ∷ t) → Shape lead t

no_more : (elements : List Element) → wanted 0 elements ≡ Some 0 → elements ≡ []
no_more [] e = refl
no_more (m ∷ elements) e = absurd cc

counted_all : (first : TypeSignature) (types : List TypeSignature) → IsType first → AreTypes types → IsCounted 1 (typed_bytes first types)
counted_all first types h g = (length types, first ∷ types, g.few, omega arith, (h, g.each), ap (λ (x : List ℕ). compressed (length types) ++ x) (sym (flat_map-cons type_bytes first types)))

plain_shape : (lead : ℕ) (t : List ℕ) (elements : List Element) → IsType (record { elements = elements }) → BeginsAlone elements → lead ∷ t ≡ flat_map element_bytes elements → Shape lead t
plain_shape lead t [] h alone e = absurd (let w = h.whole in cc)
plain_shape lead t (m ∷ elements) h alone e =
    let parts : lead ∷ t ≡ mark m ∷ (operand m ++ flat_map element_bytes elements) = e ∙ flat_map-cons element_bytes m elements in
    let p = cons_one lead (mark m) t (operand m ++ flat_map element_bytes elements) parts in
    let left : wanted (arity m + 0) elements ≡ Some 0 = h.whole in
    plain m (sym p.0) (λ x. alone.0 (sym p.0 ∙ x)) (λ x. alone.1 (sym p.0 ∙ x))
    (λ none bare.
    let k : arity m + 0 ≡ 0 = omega (arith, none) in
    let end = no_more elements (rw k at left) in
    p.1 ∙ (λ i. bare i ++ flat_map element_bytes (end i)))
    (record { elements = m ∷ elements }, h, e)

pub shape : (lead : ℕ) (t : List ℕ) → IsSignature (lead ∷ t) → Shape lead t
shape lead t (Field ty, h, e) = let p = cons_one lead 0x06 t (type_bytes ty) e in field p.0 (ty, h, p.1)
shape lead t (Method this None r ps, h, e) = let p = cons_one lead (this_mark this + 0x00) t (typed_bytes r ps) e in method this p.0 (subst (IsCounted 1) (sym p.1) (counted_all r ps h.1 h.2))
shape lead t (Method this (Some k) r ps, h, e) =
    let p = cons_one lead (this_mark this + 0x10) t (compressed k ++ typed_bytes r ps) e in
    generic this p.0 (compressed k, typed_bytes r ps, (k, h.0, refl), counted_all r ps h.1 h.2, p.1)
shape lead t (Locals types, h, e) = let p = cons_one lead 0x07 t (counted_bytes types) e in locals p.0 (length types, types, h.few, omega arith, h.each, p.1)
shape lead t (Property this ty types, h, e) = let p = cons_one lead (this_mark this + 0x08) t (typed_bytes ty types) e in property this p.0 (subst (IsCounted 1) (sym p.1) (counted_all ty types h.0 h.1))
shape lead t (Instantiation types, h, e) = let p = cons_one lead 0x0A t (counted_bytes types) e in instantiation p.0 (length types, types, h.few, omega arith, h.each, p.1)
shape lead t (Plain ty, h, e) = plain_shape lead t ty.elements h.0 h.1 e

-- ---- the marks of elements

leaf_06 : (e : Element) → mark e ≡ 0x06 → (arity e ≡ 0) × (operand e ≡ [])
leaf_06 the.I2 h = (refl, refl)
leaf_06 e h = absurd (omega (arith, h))

leaf_07 : (e : Element) → mark e ≡ 0x07 → (arity e ≡ 0) × (operand e ≡ [])
leaf_07 the.U2 h = (refl, refl)
leaf_07 e h = absurd (omega (arith, h))

leaf_08 : (e : Element) → mark e ≡ 0x08 → (arity e ≡ 0) × (operand e ≡ [])
leaf_08 the.I4 h = (refl, refl)
leaf_08 e h = absurd (omega (arith, h))

leaf_0A : (e : Element) → mark e ≡ 0x0A → (arity e ≡ 0) × (operand e ≡ [])
leaf_0A the.I8 h = (refl, refl)
leaf_0A e h = absurd (omega (arith, h))

none_00 : (e : Element) → mark e ≡ 0x00 → ⊥
none_00 the.Void h = omega (arith, h)
none_00 e h = omega (arith, h)

none_20 : (e : Element) → mark e ≡ 0x20 → ⊥
none_20 the.Void h = omega (arith, h)
none_20 e h = omega (arith, h)

none_28 : (e : Element) → mark e ≡ 0x28 → ⊥
none_28 the.Void h = omega (arith, h)
none_28 e h = omega (arith, h)

none_30 : (e : Element) → mark e ≡ 0x30 → ⊥
none_30 the.Void h = omega (arith, h)
none_30 e h = omega (arith, h)

by_06 : (lead : ℕ) (t : List ℕ) → lead ≡ 0x06 → 0 < length t → Shape lead t → IsOneType t
by_06 lead t d long (field e p) = p
by_06 lead t d long (locals e p) = absurd (omega (arith, d, e))
by_06 lead t d long (instantiation e p) = absurd (omega (arith, d, e))
by_06 lead t d long (method false e p) = absurd (omega (arith, d, e))
by_06 lead t d long (method true e p) = absurd (omega (arith, d, e))
by_06 lead t d long (generic false e p) = absurd (omega (arith, d, e))
by_06 lead t d long (generic true e p) = absurd (omega (arith, d, e))
by_06 lead t d long (property false e p) = absurd (omega (arith, d, e))
by_06 lead t d long (property true e p) = absurd (omega (arith, d, e))
by_06 lead t d long (plain e m not_void not_pointer bare one) = let p = leaf_06 e (m ∙ d) in let none = bare p.0 p.1 in absurd (omega (arith, ap length none, long))

by_07 : (lead : ℕ) (t : List ℕ) → lead ≡ 0x07 → 0 < length t → Shape lead t → IsCounted 0 t
by_07 lead t d long (field e p) = absurd (omega (arith, d, e))
by_07 lead t d long (locals e p) = p
by_07 lead t d long (instantiation e p) = absurd (omega (arith, d, e))
by_07 lead t d long (method false e p) = absurd (omega (arith, d, e))
by_07 lead t d long (method true e p) = absurd (omega (arith, d, e))
by_07 lead t d long (generic false e p) = absurd (omega (arith, d, e))
by_07 lead t d long (generic true e p) = absurd (omega (arith, d, e))
by_07 lead t d long (property false e p) = absurd (omega (arith, d, e))
by_07 lead t d long (property true e p) = absurd (omega (arith, d, e))
by_07 lead t d long (plain e m not_void not_pointer bare one) = let p = leaf_07 e (m ∙ d) in let none = bare p.0 p.1 in absurd (omega (arith, ap length none, long))

by_0A : (lead : ℕ) (t : List ℕ) → lead ≡ 0x0A → 0 < length t → Shape lead t → IsCounted 0 t
by_0A lead t d long (field e p) = absurd (omega (arith, d, e))
by_0A lead t d long (locals e p) = absurd (omega (arith, d, e))
by_0A lead t d long (instantiation e p) = p
by_0A lead t d long (method false e p) = absurd (omega (arith, d, e))
by_0A lead t d long (method true e p) = absurd (omega (arith, d, e))
by_0A lead t d long (generic false e p) = absurd (omega (arith, d, e))
by_0A lead t d long (generic true e p) = absurd (omega (arith, d, e))
by_0A lead t d long (property false e p) = absurd (omega (arith, d, e))
by_0A lead t d long (property true e p) = absurd (omega (arith, d, e))
by_0A lead t d long (plain e m not_void not_pointer bare one) = let p = leaf_0A e (m ∙ d) in let none = bare p.0 p.1 in absurd (omega (arith, ap length none, long))

by_00 : (lead : ℕ) (t : List ℕ) → lead ≡ 0x00 → Shape lead t → IsCounted 1 t
by_00 lead t d (field e p) = absurd (omega (arith, d, e))
by_00 lead t d (locals e p) = absurd (omega (arith, d, e))
by_00 lead t d (instantiation e p) = absurd (omega (arith, d, e))
by_00 lead t d (method false e p) = p
by_00 lead t d (method true e p) = absurd (omega (arith, d, e))
by_00 lead t d (generic false e p) = absurd (omega (arith, d, e))
by_00 lead t d (generic true e p) = absurd (omega (arith, d, e))
by_00 lead t d (property false e p) = absurd (omega (arith, d, e))
by_00 lead t d (property true e p) = absurd (omega (arith, d, e))
by_00 lead t d (plain e m not_void not_pointer bare one) = absurd (none_00 e (m ∙ d))

by_20 : (lead : ℕ) (t : List ℕ) → lead ≡ 0x20 → Shape lead t → IsCounted 1 t
by_20 lead t d (field e p) = absurd (omega (arith, d, e))
by_20 lead t d (locals e p) = absurd (omega (arith, d, e))
by_20 lead t d (instantiation e p) = absurd (omega (arith, d, e))
by_20 lead t d (method false e p) = absurd (omega (arith, d, e))
by_20 lead t d (method true e p) = p
by_20 lead t d (generic false e p) = absurd (omega (arith, d, e))
by_20 lead t d (generic true e p) = absurd (omega (arith, d, e))
by_20 lead t d (property false e p) = absurd (omega (arith, d, e))
by_20 lead t d (property true e p) = absurd (omega (arith, d, e))
by_20 lead t d (plain e m not_void not_pointer bare one) = absurd (none_20 e (m ∙ d))

by_10 : (lead : ℕ) (t : List ℕ) → lead ≡ 0x10 → Shape lead t → IsGeneric t
by_10 lead t d (field e p) = absurd (omega (arith, d, e))
by_10 lead t d (locals e p) = absurd (omega (arith, d, e))
by_10 lead t d (instantiation e p) = absurd (omega (arith, d, e))
by_10 lead t d (method false e p) = absurd (omega (arith, d, e))
by_10 lead t d (method true e p) = absurd (omega (arith, d, e))
by_10 lead t d (generic false e p) = p
by_10 lead t d (generic true e p) = absurd (omega (arith, d, e))
by_10 lead t d (property false e p) = absurd (omega (arith, d, e))
by_10 lead t d (property true e p) = absurd (omega (arith, d, e))
by_10 lead t d (plain e m not_void not_pointer bare one) = absurd (not_pointer d)

by_30 : (lead : ℕ) (t : List ℕ) → lead ≡ 0x30 → Shape lead t → IsGeneric t
by_30 lead t d (field e p) = absurd (omega (arith, d, e))
by_30 lead t d (locals e p) = absurd (omega (arith, d, e))
by_30 lead t d (instantiation e p) = absurd (omega (arith, d, e))
by_30 lead t d (method false e p) = absurd (omega (arith, d, e))
by_30 lead t d (method true e p) = absurd (omega (arith, d, e))
by_30 lead t d (generic false e p) = absurd (omega (arith, d, e))
by_30 lead t d (generic true e p) = p
by_30 lead t d (property false e p) = absurd (omega (arith, d, e))
by_30 lead t d (property true e p) = absurd (omega (arith, d, e))
by_30 lead t d (plain e m not_void not_pointer bare one) = absurd (none_30 e (m ∙ d))

by_08 : (lead : ℕ) (t : List ℕ) → lead ≡ 0x08 → 0 < length t → Shape lead t → IsCounted 1 t
by_08 lead t d long (field e p) = absurd (omega (arith, d, e))
by_08 lead t d long (locals e p) = absurd (omega (arith, d, e))
by_08 lead t d long (instantiation e p) = absurd (omega (arith, d, e))
by_08 lead t d long (method false e p) = absurd (omega (arith, d, e))
by_08 lead t d long (method true e p) = absurd (omega (arith, d, e))
by_08 lead t d long (generic false e p) = absurd (omega (arith, d, e))
by_08 lead t d long (generic true e p) = absurd (omega (arith, d, e))
by_08 lead t d long (property false e p) = p
by_08 lead t d long (property true e p) = absurd (omega (arith, d, e))
by_08 lead t d long (plain e m not_void not_pointer bare one) = let p = leaf_08 e (m ∙ d) in let none = bare p.0 p.1 in absurd (omega (arith, ap length none, long))

by_28 : (lead : ℕ) (t : List ℕ) → lead ≡ 0x28 → Shape lead t → IsCounted 1 t
by_28 lead t d (field e p) = absurd (omega (arith, d, e))
by_28 lead t d (locals e p) = absurd (omega (arith, d, e))
by_28 lead t d (instantiation e p) = absurd (omega (arith, d, e))
by_28 lead t d (method false e p) = absurd (omega (arith, d, e))
by_28 lead t d (method true e p) = absurd (omega (arith, d, e))
by_28 lead t d (generic false e p) = absurd (omega (arith, d, e))
by_28 lead t d (generic true e p) = absurd (omega (arith, d, e))
by_28 lead t d (property false e p) = absurd (omega (arith, d, e))
by_28 lead t d (property true e p) = p
by_28 lead t d (plain e m not_void not_pointer bare one) = absurd (none_28 e (m ∙ d))

by_plain : (lead : ℕ) (t : List ℕ) → IsPlainLead lead → Shape lead t → IsOneType (lead ∷ t)
by_plain lead t h (field e p) = absurd (h.1.1.0 e)
by_plain lead t h (locals e p) = absurd (h.1.1.1.0 e)
by_plain lead t h (instantiation e p) = absurd (h.1.1.1.1.1.0 e)
by_plain lead t h (method false e p) = absurd (h.0 e)
by_plain lead t h (method true e p) = absurd (h.1.1.1.1.1.1.1.0 e)
by_plain lead t h (generic false e p) = absurd (h.1.1.1.1.1.1.0 e)
by_plain lead t h (generic true e p) = absurd (h.1.1.1.1.1.1.1.1.1.0 e)
by_plain lead t h (property false e p) = absurd (h.1.1.1.1.0 e)
by_plain lead t h (property true e p) = absurd (h.1.1.1.1.1.1.1.1.0 e)
by_plain lead t h (plain e m not_void not_pointer bare one) = one

by_void : (lead : ℕ) (t : List ℕ) → lead ≡ 0x01 → Shape lead t → ⊥
by_void lead t d (field e p) = omega (arith, d, e)
by_void lead t d (locals e p) = omega (arith, d, e)
by_void lead t d (instantiation e p) = omega (arith, d, e)
by_void lead t d (method false e p) = omega (arith, d, e)
by_void lead t d (method true e p) = omega (arith, d, e)
by_void lead t d (generic false e p) = omega (arith, d, e)
by_void lead t d (generic true e p) = omega (arith, d, e)
by_void lead t d (property false e p) = omega (arith, d, e)
by_void lead t d (property true e p) = omega (arith, d, e)
by_void lead t d (plain e m not_void not_pointer bare one) = not_void d

-- ---- where a blob with such a first byte goes wrong

module _ (P Allowed : List ℕ → Type 0) (lead : ℕ) (to : (t : List ℕ) → P t → IsSignature (lead ∷ t)) (from : (t : List ℕ) → Allowed t → IsSignature (lead ∷ t) → P t) (some : (t : List ℕ) → 0 < length t → Allowed t) where
  headed : (tail : List ℕ) (n : ℕ) → Allowed tail → IsBadWhole P tail n → IsBadWhole IsSignature (lead ∷ tail) (1 + n)
  headed tail n allowed bad =
      let k : 1 + n ≡ suc n = omega arith in
      rw k (record {
        within = let w = bad.within in omega arith;
        front = (bad.front.0, to (take n tail ++ bad.front.0) bad.front.1);
        first = λ lt more p.
            let j : suc n + 1 ≡ suc (n + 1) = omega arith in
            let q : IsSignature (lead ∷ (take (n + 1) tail ++ more)) = rw j at p in
            bad.first (omega arith) more (from (take (n + 1) tail ++ more) (some (take (n + 1) tail ++ more) (omega (arith, length-append (take (n + 1) tail) more, length-take (n + 1) tail, lt))) q);
        none = λ p. bad.none (from tail allowed p);
      })

field_to : (t : List ℕ) → IsOneType t → IsSignature (0x06 ∷ t)
field_to t (ty, h, e) = (Field ty, h, ap (λ (x : List ℕ). 0x06 ∷ x) e)

locals_to : (t : List ℕ) → IsCounted 0 t → IsSignature (0x07 ∷ t)
locals_to t (count, types, few, long, each, e) =
    let k : count ≡ length types = omega (arith, long) in
    (Locals types, record { few = subst (λ (x : ℕ). x < 2 ^ 29) k few; each = each }, ap (λ (x : List ℕ). 0x07 ∷ x) (e ∙ ap (λ (x : ℕ). compressed x ++ types_bytes types) k))

instantiation_to : (t : List ℕ) → IsCounted 0 t → IsSignature (0x0A ∷ t)
instantiation_to t (count, types, few, long, each, e) =
    let k : count ≡ length types = omega (arith, long) in
    (Instantiation types, record { few = subst (λ (x : ℕ). x < 2 ^ 29) k few; each = each }, ap (λ (x : List ℕ). 0x0A ∷ x) (e ∙ ap (λ (x : ℕ). compressed x ++ types_bytes types) k))

-- a count, and one type more
pub record OneMore (t : List ℕ) : Type 0 where
  pub one : TypeSignature
  pub types : List TypeSignature
  pub is_type : IsType one
  pub are_types : AreTypes types
  pub text : t ≡ typed_bytes one types

pub one_more : (t : List ℕ) → IsCounted 1 t → OneMore t
one_more t (count, [], few, long, each, e) = absurd (omega (arith, long))
one_more t (count, ty ∷ types, few, long, each, e) =
    let k : count ≡ length types = omega (arith, long) in
    record { one = ty; types = types; is_type = each.0; are_types = record { few = subst (λ (x : ℕ). x < 2 ^ 29) k few; each = each.1 }; text = e ∙ (λ i. compressed (k i) ++ flat_map-cons type_bytes ty types i) }

method_to : (this : Bool) (t : List ℕ) → IsCounted 1 t → IsSignature ((this_mark this + 0x00) ∷ t)
method_to this t p = let q = one_more t p in (Method this None q.one q.types, (tt, q.is_type, q.are_types), ap (λ (x : List ℕ). (this_mark this + 0x00) ∷ x) q.text)

generic_to : (this : Bool) (t : List ℕ) → IsGeneric t → IsSignature ((this_mark this + 0x10) ∷ t)
generic_to this t (a, b, (k, h, e), p, f) =
    let q = one_more b p in
    (Method this (Some k) q.one q.types, (h, q.is_type, q.are_types), ap (λ (x : List ℕ). (this_mark this + 0x10) ∷ x) (f ∙ (λ i. e i ++ q.text i)))

property_to : (this : Bool) (t : List ℕ) → IsCounted 1 t → IsSignature ((this_mark this + 0x08) ∷ t)
property_to this t p = let q = one_more t p in (Property this q.one q.types, (q.is_type, q.are_types), ap (λ (x : List ℕ). (this_mark this + 0x08) ∷ x) q.text)

pub bad_06 : (tail : List ℕ) (n : ℕ) → 0 < length tail → IsBadWhole IsOneType tail n → IsBadWhole IsSignature (0x06 ∷ tail) (1 + n)
bad_06 tail n long bad = headed IsOneType (λ t. 0 < length t) 0x06 (field_to) (λ t allowed p. by_06 0x06 t refl allowed (shape 0x06 t p)) (λ t more. more) tail n long bad

pub bad_07 : (tail : List ℕ) (n : ℕ) → 0 < length tail → IsBadWhole (IsCounted 0) tail n → IsBadWhole IsSignature (0x07 ∷ tail) (1 + n)
bad_07 tail n long bad = headed (IsCounted 0) (λ t. 0 < length t) 0x07 (locals_to) (λ t allowed p. by_07 0x07 t refl allowed (shape 0x07 t p)) (λ t more. more) tail n long bad

pub bad_0A : (tail : List ℕ) (n : ℕ) → 0 < length tail → IsBadWhole (IsCounted 0) tail n → IsBadWhole IsSignature (0x0A ∷ tail) (1 + n)
bad_0A tail n long bad = headed (IsCounted 0) (λ t. 0 < length t) 0x0A (instantiation_to) (λ t allowed p. by_0A 0x0A t refl allowed (shape 0x0A t p)) (λ t more. more) tail n long bad

pub bad_00 : (tail : List ℕ) (n : ℕ) → IsBadWhole (IsCounted 1) tail n → IsBadWhole IsSignature (0x00 ∷ tail) (1 + n)
bad_00 tail n bad = headed (IsCounted 1) (λ t. Unit {0}) 0x00 (method_to false) (λ t allowed p. by_00 0x00 t refl (shape 0x00 t p)) (λ t more. tt) tail n tt bad

pub bad_20 : (tail : List ℕ) (n : ℕ) → IsBadWhole (IsCounted 1) tail n → IsBadWhole IsSignature (0x20 ∷ tail) (1 + n)
bad_20 tail n bad = headed (IsCounted 1) (λ t. Unit {0}) 0x20 (method_to true) (λ t allowed p. by_20 0x20 t refl (shape 0x20 t p)) (λ t more. tt) tail n tt bad

pub bad_10 : (tail : List ℕ) (n : ℕ) → IsBadWhole IsGeneric tail n → IsBadWhole IsSignature (0x10 ∷ tail) (1 + n)
bad_10 tail n bad = headed IsGeneric (λ t. Unit {0}) 0x10 (generic_to false) (λ t allowed p. by_10 0x10 t refl (shape 0x10 t p)) (λ t more. tt) tail n tt bad

pub bad_30 : (tail : List ℕ) (n : ℕ) → IsBadWhole IsGeneric tail n → IsBadWhole IsSignature (0x30 ∷ tail) (1 + n)
bad_30 tail n bad = headed IsGeneric (λ t. Unit {0}) 0x30 (generic_to true) (λ t allowed p. by_30 0x30 t refl (shape 0x30 t p)) (λ t more. tt) tail n tt bad

pub bad_08 : (tail : List ℕ) (n : ℕ) → 0 < length tail → IsBadWhole (IsCounted 1) tail n → IsBadWhole IsSignature (0x08 ∷ tail) (1 + n)
bad_08 tail n long bad = headed (IsCounted 1) (λ t. 0 < length t) 0x08 (property_to false) (λ t allowed p. by_08 0x08 t refl allowed (shape 0x08 t p)) (λ t more. more) tail n long bad

pub bad_28 : (tail : List ℕ) (n : ℕ) → IsBadWhole (IsCounted 1) tail n → IsBadWhole IsSignature (0x28 ∷ tail) (1 + n)
bad_28 tail n bad = headed (IsCounted 1) (λ t. Unit {0}) 0x28 (property_to true) (λ t allowed p. by_28 0x28 t refl (shape 0x28 t p)) (λ t more. tt) tail n tt bad

alone_of : (lead : ℕ) (t : List ℕ) (elements : List Element) → IsType (record { elements = elements }) → (lead ≡ 0x01 → ⊥) → (lead ≡ 0x10 → ⊥) → lead ∷ t ≡ flat_map element_bytes elements → BeginsAlone elements
alone_of lead t [] h v p e = tt
alone_of lead t (m ∷ elements) h v p e =
    let q = cons_one lead (mark m) t (operand m ++ flat_map element_bytes elements) (e ∙ flat_map-cons element_bytes m elements) in
    ((λ x. v (q.0 ∙ x)), (λ x. p (q.0 ∙ x)))

no_type : (elements : List Element) → IsType (record { elements = elements }) → [] ≡ flat_map element_bytes elements → ⊥
no_type [] h e = absurd (let w = h.whole in cc)
no_type (m ∷ elements) h e = absurd (let f = e ∙ flat_map-cons element_bytes m elements in cc)

plain_to : (lead : ℕ) (t : List ℕ) → (lead ≡ 0x01 → ⊥) → (lead ≡ 0x10 → ⊥) → IsOneType (lead ∷ t) → IsSignature (lead ∷ t)
plain_to lead t v p (ty, h, e) = (Plain ty, (h, alone_of lead t ty.elements h v p e), e)

pub bad_plain : (lead : ℕ) (tail : List ℕ) (n : ℕ) → IsPlainLead lead → IsBadWhole IsOneType (lead ∷ tail) n → IsBadWhole IsSignature (lead ∷ tail) n
bad_plain lead tail zero h bad = record {
  within = bad.within;
  front = (0x02 ∷ [], (Plain (record { elements = the.Boolean ∷ [] }), (record { whole = refl; fits = (tt, tt) }, ((λ e. omega (arith, e)), (λ e. omega (arith, e)))), refl));
  first = λ lt more p. bad.first lt more (by_plain lead more h (shape lead more p));
  none = λ p. bad.none (by_plain lead tail h (shape lead tail p));
}
bad_plain lead tail (suc n) h bad = record {
  within = bad.within;
  front = (bad.front.0, plain_to lead (take n tail ++ bad.front.0) h.1.0 h.1.1.1.1.1.1.0 bad.front.1);
  first = λ lt more p.
      let j : suc n + 1 ≡ suc (n + 1) = omega arith in
      let q : IsSignature (lead ∷ (take (n + 1) tail ++ more)) = rw j at p in
      let one : IsOneType (lead ∷ (take (n + 1) tail ++ more)) = by_plain lead (take (n + 1) tail ++ more) h (shape lead (take (n + 1) tail ++ more) q) in
      bad.first lt more (rw j one);
  none = λ p. bad.none (by_plain lead tail h (shape lead tail p));
}

pub bad_void : (tail : List ℕ) → IsBadWhole IsSignature (0x01 ∷ tail) 0
bad_void tail = record {
  within = omega arith;
  front = (0x02 ∷ [], (Plain (record { elements = the.Boolean ∷ [] }), (record { whole = refl; fits = (tt, tt) }, ((λ e. omega (arith, e)), (λ e. omega (arith, e)))), refl));
  first = λ lt more p. by_void 0x01 more refl (shape 0x01 more p);
  none = λ p. by_void 0x01 tail refl (shape 0x01 tail p);
}

empty_none : (s : Signature) → HasSpelling s → [] ≡ signature_bytes s → ⊥
empty_none (Field ty) h e = absurd cc
empty_none (Method this number r ps) h e = absurd cc
empty_none (Locals types) h e = absurd cc
empty_none (Property this ty types) h e = absurd cc
empty_none (Instantiation types) h e = absurd cc
empty_none (Plain ty) h e = no_type ty.elements h.0 e

pub bad_nothing : (blob : List ℕ) → length blob < 1 → IsBadWhole IsSignature blob 0
bad_nothing [] h = record {
  within = lit≤ tt;
  front = (0x02 ∷ [], (Plain (record { elements = the.Boolean ∷ [] }), (record { whole = refl; fits = (tt, tt) }, ((λ e. omega (arith, e)), (λ e. omega (arith, e)))), refl));
  first = λ lt more p. absurd (omega arith);
  none = λ p. empty_none p.0 p.1 p.2;
}
bad_nothing (x ∷ blob) h = absurd (omega arith)

-- ---- with and without this

pub bad_method : (this : Bool) (tail : List ℕ) (n : ℕ) → IsBadWhole (IsCounted 1) tail n → IsBadWhole IsSignature ((this_mark this + 0x00) ∷ tail) (1 + n)
bad_method true tail n bad = bad_20 tail n bad
bad_method false tail n bad = bad_00 tail n bad

pub bad_generic : (this : Bool) (tail : List ℕ) (n : ℕ) → IsBadWhole IsGeneric tail n → IsBadWhole IsSignature ((this_mark this + 0x10) ∷ tail) (1 + n)
bad_generic true tail n bad = bad_30 tail n bad
bad_generic false tail n bad = bad_10 tail n bad

pub bad_property : (this : Bool) (tail : List ℕ) (n : ℕ) → (this ≡ false → 0 < length tail) → IsBadWhole (IsCounted 1) tail n → IsBadWhole IsSignature ((this_mark this + 0x08) ∷ tail) (1 + n)
bad_property true tail n some bad = bad_28 tail n bad
bad_property false tail n some bad = bad_08 tail n (some refl) bad

-- ---- what a reader makes of a count and types

pub few_types : (count : ℕ) (types : List TypeSignature) → count < 2 ^ 29 → length types ≡ count + 0 → AllByRecursion IsType types → AreTypes types
few_types count types h e each = let k : count ≡ length types = omega (arith, e) in record { few = subst (λ (x : ℕ). x < 2 ^ 29) k h; each = each }

pub counted_text : (count : ℕ) (types : List TypeSignature) (tail : List ℕ) → length types ≡ count + 0 → tail ≡ compressed count ++ types_bytes types → tail ≡ counted_bytes types
counted_text count types tail e f = let k : count ≡ length types = omega (arith, e) in f ∙ ap (λ (x : ℕ). compressed x ++ types_bytes types) k

pub more_types : (count : ℕ) (all types : List TypeSignature) (one : TypeSignature) → count < 2 ^ 29 → length all ≡ count + 1 → AllByRecursion IsType all → all ≡ one ∷ types → IsType one × AreTypes types
more_types count all types one h e each f =
    let g = subst (AllByRecursion IsType) f each in
    let k : count ≡ length types = omega (arith, e, ap length f) in
    (g.0, record { few = subst (λ (x : ℕ). x < 2 ^ 29) k h; each = g.1 })

pub typed_text : (count : ℕ) (all types : List TypeSignature) (one : TypeSignature) (tail : List ℕ) → length all ≡ count + 1 → all ≡ one ∷ types → tail ≡ compressed count ++ types_bytes all → tail ≡ typed_bytes one types
typed_text count all types one tail e f g =
    let k : count ≡ length types = omega (arith, e, ap length f) in
    g ∙ (λ i. compressed (k i) ++ types_bytes (f i)) ∙ ap (λ (x : List ℕ). compressed (length types) ++ x) (flat_map-cons type_bytes one types)

pub bad_plain_at : (blob : List ℕ) (n : ℕ) → 0 < length blob → IsPlainLead (get_or blob 0 0) → IsBadWhole IsOneType blob n → IsBadWhole IsSignature blob n
bad_plain_at [] n some h bad = absurd (omega arith)
bad_plain_at (lead ∷ tail) n some h bad = bad_plain lead tail n h bad

-- ---- a spelling is of one signature

low : ℕ → Bool
low lead = eqb (lead % 16) 0 || eqb (lead % 16) 6 || eqb (lead % 16) 7 || eqb (lead % 16) 8 || eqb (lead % 16) 10

mark_low : (e : Element) → low (mark e) ≡ true → (mark e ≡ 0x10) ⊎ ((arity e ≡ 0) × (operand e ≡ []))
unfolding low
mark_low the.Pointer h = inl refl
mark_low the.I2 h = inr (refl, refl)
mark_low the.U2 h = inr (refl, refl)
mark_low the.I4 h = inr (refl, refl)
mark_low the.I8 h = inr (refl, refl)
mark_low e h = absurd cc

-- a type alone begins as no other signature
apart : (lead : ℕ) (t : List ℕ) (elements : List Element) → IsType (record { elements = elements }) → BeginsAlone elements → lead ∷ t ≡ flat_map element_bytes elements → low lead ≡ true → 0 < length t → ⊥
apart lead t [] h alone e l long = let w = h.whole in absurd cc
apart lead t (m ∷ elements) h alone e l long =
    let parts : lead ∷ t ≡ mark m ∷ (operand m ++ flat_map element_bytes elements) = e ∙ flat_map-cons element_bytes m elements in
    let p = cons_one lead (mark m) t (operand m ++ flat_map element_bytes elements) parts in
    let left : wanted (arity m + 0) elements ≡ Some 0 = h.whole in
    elim (mark_low m (ap low (sym p.0) ∙ l)) [
      | inl pointer ↦ alone.1 pointer
      | inr leaf ↦
          let k : arity m + 0 ≡ 0 = omega (arith, leaf.0) in
          let end = no_more elements (rw k at left) in
          let none : t ≡ [] = p.1 ∙ (λ i. leaf.1 i ++ flat_map element_bytes (end i)) in
          absurd (omega (arith, ap length none, long))
    ]

method_low : (this : Bool) (number : Option ℕ) → low (this_mark this + generic_mark number) ≡ true
unfolding low
method_low true None = refl
method_low true (Some n) = refl
method_low false None = refl
method_low false (Some n) = refl

property_low : (this : Bool) → low (this_mark this + 0x08) ≡ true
unfolding low
property_low true = refl
property_low false = refl

lit_low : (low 0x06 ≡ true) × (low 0x07 ≡ true) × (low 0x0A ≡ true)
unfolding low
lit_low = (refl, refl, refl)

method_mod : (this : Bool) (number : Option ℕ) → (this_mark this + generic_mark number) % 16 ≡ 0
method_mod true None = refl
method_mod true (Some n) = refl
method_mod false None = refl
method_mod false (Some n) = refl

property_mod : (this : Bool) → (this_mark this + 0x08) % 16 ≡ 8
property_mod true = refl
property_mod false = refl

this_one : (a b : Bool) → this_mark a ≡ this_mark b → a ≡ b
this_one true true e = refl
this_one false false e = refl
this_one true false e = absurd (omega (arith, e))
this_one false true e = absurd (omega (arith, e))

type_long : (elements : List Element) → IsType (record { elements = elements }) → 0 < length (flat_map element_bytes elements)
type_long [] h = absurd (let w = h.whole in cc)
type_long (m ∷ elements) h = let n = ap length (flat_map-cons element_bytes m elements) in omega (arith, n)

nothing : (a x : List ℕ) → length (a ++ x) < 1 → a ≡ []
nothing [] x h = refl
nothing (c ∷ a) x h = absurd (omega arith)

compressed_long : (v : ℕ) (x : List ℕ) → v < 2 ^ 29 → 0 < length (compressed v ++ x)
compressed_long v x h =
    elim (cases_lt (length (compressed v ++ x)) 1) [
      | inl none ↦ absurd (no_number v h (nothing (compressed v) x none))
      | inr some ↦ some
    ]

no_mark : (a b : Bool) → this_mark a + 0x00 ≡ this_mark b + 0x10 → ⊥
no_mark true true e = omega (arith, e)
no_mark true false e = omega (arith, e)
no_mark false true e = omega (arith, e)
no_mark false false e = omega (arith, e)

counted_one : (a b : List TypeSignature) → AreTypes a → AreTypes b → counted_bytes a ≡ counted_bytes b → a ≡ b
counted_one a b h k e =
    let p = compressed_free (length a) (length b) (types_bytes a) (types_bytes b) h.few k.few e in
    let f = ap (λ (x : List ℕ). x ++ []) p.1 in
    (types_one a b [] [] p.0 h.each k.each f).0

typed_one : (s t : TypeSignature) (a b : List TypeSignature) (x y : List ℕ) → IsType s → IsType t → AreTypes a → AreTypes b → typed_bytes s a ≡ typed_bytes t b → (s ≡ t) × (a ≡ b)
typed_one s t a b x y hs ht h k e =
    let p = compressed_free (length a) (length b) (type_bytes s ++ types_bytes a) (type_bytes t ++ types_bytes b) h.few k.few e in
    let q = type_one s t (types_bytes a) (types_bytes b) hs ht p.1 in
    (q.0, (types_one a b [] [] p.0 h.each k.each (ap (λ (w : List ℕ). w ++ []) q.1)).0)

method_long : (number : Option ℕ) (s : TypeSignature) (ss : List TypeSignature) → FitsGeneric number → AreTypes ss → 0 < length (generic_bytes number ++ typed_bytes s ss)
method_long None s ss f h = compressed_long (length ss) (type_bytes s ++ types_bytes ss) h.few
method_long (Some n) s ss f h = compressed_long n (typed_bytes s ss) f

method_one : (a b : Bool) (g k : Option ℕ) (s t : TypeSignature) (ss ts : List TypeSignature) → FitsGeneric g × IsType s × AreTypes ss → FitsGeneric k × IsType t × AreTypes ts
    → (this_mark a + generic_mark g) ∷ (generic_bytes g ++ typed_bytes s ss) ≡ (this_mark b + generic_mark k) ∷ (generic_bytes k ++ typed_bytes t ts) → Method a g s ss ≡ Method b k t ts
method_one a b None None s t ss ts h k e =
    let p = cons_one (this_mark a + 0x00) (this_mark b + 0x00) (typed_bytes s ss) (typed_bytes t ts) e in
    let this = this_one a b (omega (arith, p.0)) in
    let q = typed_one s t ss ts [] [] h.1 k.1 h.2 k.2 p.1 in
    λ i. Method (this i) None (q.0 i) (q.1 i)
method_one a b (Some m) (Some n) s t ss ts h k e =
    let p = cons_one (this_mark a + 0x10) (this_mark b + 0x10) (compressed m ++ typed_bytes s ss) (compressed n ++ typed_bytes t ts) e in
    let this = this_one a b (omega (arith, p.0)) in
    let number = compressed_free m n (typed_bytes s ss) (typed_bytes t ts) h.0 k.0 p.1 in
    let q = typed_one s t ss ts [] [] h.1 k.1 h.2 k.2 number.1 in
    λ i. Method (this i) (Some (number.0 i)) (q.0 i) (q.1 i)
method_one a b None (Some n) s t ss ts h k e =
    let p = cons_one (this_mark a + 0x00) (this_mark b + 0x10) (typed_bytes s ss) (compressed n ++ typed_bytes t ts) e in
    absurd (no_mark a b p.0)
method_one a b (Some m) None s t ss ts h k e =
    let p = cons_one (this_mark a + 0x10) (this_mark b + 0x00) (compressed m ++ typed_bytes s ss) (typed_bytes t ts) e in
    absurd (no_mark b a (sym p.0))

pub one_signature : (r s : Signature) → HasSpelling r → HasSpelling s → signature_bytes r ≡ signature_bytes s → r ≡ s
one_signature (Field s) (Field t) h k_ e = ap Field (type_one s t [] [] h k_ (ap (λ (x : List ℕ). x ++ []) (cons_one 0x06 0x06 (type_bytes s) (type_bytes t) e).1)).0
one_signature (Field s) (Method b k t ts) h k_ e = absurd (let p = cons_one 0x06 (this_mark b + generic_mark k) (type_bytes s) (generic_bytes k ++ typed_bytes t ts) e in omega (arith, p.0, method_mod b k))
one_signature (Field s) (Locals ts) h k_ e = absurd (let p = cons_one 0x06 0x07 (type_bytes s) (counted_bytes ts) e in omega (arith, p.0))
one_signature (Field s) (Property b t ts) h k_ e = absurd (let p = cons_one 0x06 (this_mark b + 0x08) (type_bytes s) (typed_bytes t ts) e in omega (arith, p.0, property_mod b))
one_signature (Field s) (Instantiation ts) h k_ e = absurd (let p = cons_one 0x06 0x0A (type_bytes s) (counted_bytes ts) e in omega (arith, p.0))
one_signature (Field s) (Plain t) h k_ e = absurd (apart 0x06 (type_bytes s) t.elements k_.0 k_.1 e lit_low.0 (type_long s.elements h))
one_signature (Method a g s ss) (Field t) h k_ e = absurd (let p = cons_one (this_mark a + generic_mark g) 0x06 (generic_bytes g ++ typed_bytes s ss) (type_bytes t) e in omega (arith, p.0, method_mod a g))
one_signature (Method a g s ss) (Method b k t ts) h k_ e = method_one a b g k s t ss ts h k_ e
one_signature (Method a g s ss) (Locals ts) h k_ e = absurd (let p = cons_one (this_mark a + generic_mark g) 0x07 (generic_bytes g ++ typed_bytes s ss) (counted_bytes ts) e in omega (arith, p.0, method_mod a g))
one_signature (Method a g s ss) (Property b t ts) h k_ e = absurd (let p = cons_one (this_mark a + generic_mark g) (this_mark b + 0x08) (generic_bytes g ++ typed_bytes s ss) (typed_bytes t ts) e in omega (arith, p.0, method_mod a g, property_mod b))
one_signature (Method a g s ss) (Instantiation ts) h k_ e = absurd (let p = cons_one (this_mark a + generic_mark g) 0x0A (generic_bytes g ++ typed_bytes s ss) (counted_bytes ts) e in omega (arith, p.0, method_mod a g))
one_signature (Method a g s ss) (Plain t) h k_ e = absurd (apart (this_mark a + generic_mark g) (generic_bytes g ++ typed_bytes s ss) t.elements k_.0 k_.1 e (method_low a g) (method_long g s ss h.0 h.2))
one_signature (Locals ss) (Field t) h k_ e = absurd (let p = cons_one 0x07 0x06 (counted_bytes ss) (type_bytes t) e in omega (arith, p.0))
one_signature (Locals ss) (Method b k t ts) h k_ e = absurd (let p = cons_one 0x07 (this_mark b + generic_mark k) (counted_bytes ss) (generic_bytes k ++ typed_bytes t ts) e in omega (arith, p.0, method_mod b k))
one_signature (Locals ss) (Locals ts) h k_ e = ap Locals (counted_one ss ts h k_ (cons_one 0x07 0x07 (counted_bytes ss) (counted_bytes ts) e).1)
one_signature (Locals ss) (Property b t ts) h k_ e = absurd (let p = cons_one 0x07 (this_mark b + 0x08) (counted_bytes ss) (typed_bytes t ts) e in omega (arith, p.0, property_mod b))
one_signature (Locals ss) (Instantiation ts) h k_ e = absurd (let p = cons_one 0x07 0x0A (counted_bytes ss) (counted_bytes ts) e in omega (arith, p.0))
one_signature (Locals ss) (Plain t) h k_ e = absurd (apart 0x07 (counted_bytes ss) t.elements k_.0 k_.1 e lit_low.1 (compressed_long (length ss) (types_bytes ss) h.few))
one_signature (Property a s ss) (Field t) h k_ e = absurd (let p = cons_one (this_mark a + 0x08) 0x06 (typed_bytes s ss) (type_bytes t) e in omega (arith, p.0, property_mod a))
one_signature (Property a s ss) (Method b k t ts) h k_ e = absurd (let p = cons_one (this_mark a + 0x08) (this_mark b + generic_mark k) (typed_bytes s ss) (generic_bytes k ++ typed_bytes t ts) e in omega (arith, p.0, property_mod a, method_mod b k))
one_signature (Property a s ss) (Locals ts) h k_ e = absurd (let p = cons_one (this_mark a + 0x08) 0x07 (typed_bytes s ss) (counted_bytes ts) e in omega (arith, p.0, property_mod a))
one_signature (Property a s ss) (Property b t ts) h k_ e =
    let p = cons_one (this_mark a + 0x08) (this_mark b + 0x08) (typed_bytes s ss) (typed_bytes t ts) e in
    let this = this_one a b (omega (arith, p.0)) in
    let q = typed_one s t ss ts [] [] h.0 k_.0 h.1 k_.1 p.1 in
    λ i. Property (this i) (q.0 i) (q.1 i)
one_signature (Property a s ss) (Instantiation ts) h k_ e = absurd (let p = cons_one (this_mark a + 0x08) 0x0A (typed_bytes s ss) (counted_bytes ts) e in omega (arith, p.0, property_mod a))
one_signature (Property a s ss) (Plain t) h k_ e = absurd (apart (this_mark a + 0x08) (typed_bytes s ss) t.elements k_.0 k_.1 e (property_low a) (compressed_long (length ss) (type_bytes s ++ types_bytes ss) h.1.few))
one_signature (Instantiation ss) (Field t) h k_ e = absurd (let p = cons_one 0x0A 0x06 (counted_bytes ss) (type_bytes t) e in omega (arith, p.0))
one_signature (Instantiation ss) (Method b k t ts) h k_ e = absurd (let p = cons_one 0x0A (this_mark b + generic_mark k) (counted_bytes ss) (generic_bytes k ++ typed_bytes t ts) e in omega (arith, p.0, method_mod b k))
one_signature (Instantiation ss) (Locals ts) h k_ e = absurd (let p = cons_one 0x0A 0x07 (counted_bytes ss) (counted_bytes ts) e in omega (arith, p.0))
one_signature (Instantiation ss) (Property b t ts) h k_ e = absurd (let p = cons_one 0x0A (this_mark b + 0x08) (counted_bytes ss) (typed_bytes t ts) e in omega (arith, p.0, property_mod b))
one_signature (Instantiation ss) (Instantiation ts) h k_ e = ap Instantiation (counted_one ss ts h k_ (cons_one 0x0A 0x0A (counted_bytes ss) (counted_bytes ts) e).1)
one_signature (Instantiation ss) (Plain t) h k_ e = absurd (apart 0x0A (counted_bytes ss) t.elements k_.0 k_.1 e lit_low.2 (compressed_long (length ss) (types_bytes ss) h.few))
one_signature (Plain s) (Field t) h k_ e = absurd (apart 0x06 (type_bytes t) s.elements h.0 h.1 (sym e) lit_low.0 (type_long t.elements k_))
one_signature (Plain s) (Method b k t ts) h k_ e = absurd (apart (this_mark b + generic_mark k) (generic_bytes k ++ typed_bytes t ts) s.elements h.0 h.1 (sym e) (method_low b k) (method_long k t ts k_.0 k_.2))
one_signature (Plain s) (Locals ts) h k_ e = absurd (apart 0x07 (counted_bytes ts) s.elements h.0 h.1 (sym e) lit_low.1 (compressed_long (length ts) (types_bytes ts) k_.few))
one_signature (Plain s) (Property b t ts) h k_ e = absurd (apart (this_mark b + 0x08) (typed_bytes t ts) s.elements h.0 h.1 (sym e) (property_low b) (compressed_long (length ts) (type_bytes t ++ types_bytes ts) k_.1.few))
one_signature (Plain s) (Instantiation ts) h k_ e = absurd (apart 0x0A (counted_bytes ts) s.elements h.0 h.1 (sym e) lit_low.2 (compressed_long (length ts) (types_bytes ts) k_.few))
one_signature (Plain s) (Plain t) h k_ e = ap Plain (type_one s t [] [] h.0 k_.0 (ap (λ (x : List ℕ). x ++ []) e)).0
