-- Where whole blobs go wrong.
use Rattle.std.proofs.Common.{◌≡◌, ℕ, suc, ◌+◌, ◌-◌, ◌^◌, ◌<◌, ◌≤◌, List, [], ◌∷◌, ◌++◌, length, take, drop, refl, sym, ap, subst, ◌∙◌, append_assoc, zero-add, lit<, arith}
use Rattle.std.specs.Prelude.{Result, Ok, Err, IfOk, IsOkUnless}
use Rattle.std.specs.List.{AllByRecursion}
use Rattle.std.proofs.Math.ListN.{drop_of_length-le}
use Rattle.std.proofs.lemmas.List.{length-append, append-nil, take_at, length-drop, length-take}
use Rattle.cc_layout.specs.Codes.{IsBad, IsCode, Then}
use Rattle.cc_layout.specs.Compressed.{compressed, IsCompressed}
use Rattle.cc_layout.proofs.Codes.{no_whole}
use Rattle.cc_layout.proofs.CompressedForms.{compressed_free}
use Rattle.cc_layout.proofs.Sequences.{bad_before}
use Rattle.cc_module.specs.declared.fault.BlobFault.{BlobFault}
use Rattle.cc_module.specs.declared.fault.BlobFault.TheVariants.{Bad, Memory}
use Rattle.cc_module.specs.declared.signature.TypeSignature.{TypeSignature}
use Rattle.cc_module.specs.Signatures.{IsType, type_bytes, types_bytes, IsOneType, IsTypes, IsCounted, IsGeneric, IsBadWhole, moved}
use Rattle.cc_module.proofs.Elements.{bad_same, compressed_code}
use Rattle.cc_module.proofs.Types.{type_code}
use Rattle.cc_module.proofs.Lists.{types_code, types_more_of}

take_past : (a rest : List ℕ) (n : ℕ) → take (length a + n) (a ++ rest) ≡ a ++ take n rest
take_past [] rest n = rw zero-add refl
take_past (x ∷ a) rest n = let k : suc (length a) + n ≡ suc (length a + n) = omega arith in rw k (ap (λ (t : List ℕ). x ∷ t) (take_past a rest n))

pub whole_bad : (P : List ℕ → Type 0) (code : IsCode P) (bytes : List ℕ) (n : ℕ) → IsBad P bytes n → IsBadWhole P bytes n
whole_bad P code bytes n bad = record {
  within = bad.within;
  front = (bad.front.0, bad.front.2);
  first = bad.first;
  none = λ p. no_whole P code bytes n bad bytes [] p (sym (append-nil bytes));
}

no_longer : (P : List ℕ → Type 0) (code : IsCode P) (a x : List ℕ) → P a → P (a ++ x) → 0 < length x → ⊥
no_longer P code a x pa p long =
    let f = code a (a ++ x) x [] pa p (sym (append-nil (a ++ x))) in
    omega (arith, ap length f.1, long)

-- a whole text and bytes behind it
pub rest_bad : (P : List ℕ → Type 0) (code : IsCode P) (a rest bytes : List ℕ) → P a → bytes ≡ a ++ rest → 0 < length rest → IsBadWhole P bytes (length a)
rest_bad P code a rest bytes pa e long =
    let len = ap length e in
    let front : take (length a) bytes ++ [] ≡ a = append-nil (take (length a) bytes) ∙ ap (take (length a)) e ∙ take_at a rest (length a) refl in
    record {
      within = omega (arith, len, length-append a rest);
      front = ([], subst P (sym front) pa);
      first = λ lt more p.
          let f : take (length a + 1) bytes ++ more ≡ a ++ (take 1 rest ++ more) = ap (λ (x : List ℕ). take (length a + 1) x ++ more) e ∙ ap (λ (x : List ℕ). x ++ more) (take_past a rest 1) ∙ append_assoc a (take 1 rest) more in
          no_longer P code a (take 1 rest ++ more) pa (subst P f p) (omega (arith, length-append (take 1 rest) more, length-take 1 rest, long));
      none = λ p. no_longer P code a rest pa (subst P e p) long;
    }

pub whole_same : (P Q : List ℕ → Type 0) (bytes : List ℕ) (n : ℕ) → ((t : List ℕ) → P t → Q t) → ((t : List ℕ) → Q t → P t) → IsBadWhole P bytes n → IsBadWhole Q bytes n
whole_same P Q bytes n to from bad = record { within = bad.within; front = (bad.front.0, to _ bad.front.1); first = λ lt more q. bad.first lt more (from _ q); none = λ q. bad.none (from _ q) }

pub then_code : (P : List ℕ → Type 0) (Q : List ℕ → List ℕ → Type 0) → IsCode P → ((a : List ℕ) → IsCode (Q a)) → IsCode (Then P Q)
then_code P Q code others s t x y (a, b, pa, qb, e) (c, d, pc, qd, f) g =
    let h : a ++ (b ++ x) ≡ c ++ (d ++ y) = sym (append_assoc a b x) ∙ ap (λ (w : List ℕ). w ++ x) (sym e) ∙ g ∙ ap (λ (w : List ℕ). w ++ y) f ∙ append_assoc c d y in
    let p = code a c (b ++ x) (d ++ y) pa pc h in
    let q = others a b d x y qb (subst (λ (w : List ℕ). Q w d) (sym p.0) qd) p.1 in
    (e ∙ (λ i. p.0 i ++ q.0 i) ∙ sym f, q.1)

pub whole_after : (P : List ℕ → Type 0) (Q : List ℕ → List ℕ → Type 0) (code : IsCode P) (a rest bytes : List ℕ) (n : ℕ) → P a → bytes ≡ a ++ rest → IsBadWhole (Q a) rest n → IsBadWhole (Then P Q) bytes (length a + n)
whole_after P Q code a rest bytes n pa e bad =
    let len = ap length e in
    let within = bad.within in
    let inner : (t : List ℕ) → Then P Q (a ++ t) → Q a t = λ t p.
    let same = code a p.0 t p.1 pa p.2 p.4 in
    subst (λ (x : List ℕ). Q x t) (sym same.0) (subst (λ (x : List ℕ). Q p.0 x) (sym same.1) p.3) in
    record {
      within = omega (arith, length-append a rest, len);
      front = (bad.front.0, (a, take n rest ++ bad.front.0, pa, bad.front.1, ap (λ (t : List ℕ). take (length a + n) t ++ bad.front.0) e ∙ ap (λ (t : List ℕ). t ++ bad.front.0) (take_past a rest n) ∙ append_assoc a (take n rest) bad.front.0));
      first = λ lt more p.
          let k : (length a + n) + 1 ≡ length a + (n + 1) = omega arith in
          let f : take ((length a + n) + 1) bytes ++ more ≡ a ++ (take (n + 1) rest ++ more) = ap (λ (j : ℕ). take j bytes ++ more) k ∙ ap (λ (t : List ℕ). take (length a + (n + 1)) t ++ more) e ∙ ap (λ (t : List ℕ). t ++ more) (take_past a rest (n + 1)) ∙ append_assoc a (take (n + 1) rest) more in
          bad.first (omega (arith, length-append a rest, len)) more (inner (take (n + 1) rest ++ more) (subst (Then P Q) f p));
      none = λ p. bad.none (inner rest (subst (Then P Q) e p));
    }

-- ---- types

pub type_rest : (bytes : List ℕ) (t : TypeSignature) (width : ℕ) → IsType t → bytes ≡ type_bytes t ++ drop width bytes → width < length bytes → IsBadWhole IsOneType bytes width
type_rest bytes t width h e lt =
    let long : length (type_bytes t) ≡ width = omega (arith, ap length e, length-append (type_bytes t) (drop width bytes), length-drop width bytes, lt) in
    subst (λ (x : ℕ). IsBadWhole IsOneType bytes x) long (rest_bad IsOneType type_code (type_bytes t) (drop width bytes) bytes (t, h, refl) e (omega (arith, length-drop width bytes, lt)))

pub all_read : (bytes front : List ℕ) (width : ℕ) → bytes ≡ front ++ drop width bytes → length bytes ≤ width → bytes ≡ front
all_read bytes front width e le = e ∙ ap (λ (x : List ℕ). front ++ x) (drop_of_length-le bytes le) ∙ append-nil front

-- ---- a count and types

abbrev CountedBy : ℕ → List ℕ → List ℕ → Type 0
CountedBy extra a b = (v : ℕ) × (v < 2 ^ 29) × (a ≡ compressed v) × IsTypes (v + extra) b

counted_to : (extra : ℕ) (text : List ℕ) → Then IsCompressed (CountedBy extra) text → IsCounted extra text
counted_to extra text (a, b, c, (v, h, e, (types, long, each, f)), g) = (v, types, h, long, each, g ∙ ap (λ (x : List ℕ). x ++ b) e ∙ ap (λ (x : List ℕ). compressed v ++ x) f)

counted_from : (extra : ℕ) (text : List ℕ) → IsCounted extra text → Then IsCompressed (CountedBy extra) text
counted_from extra text (v, types, h, long, each, e) = (compressed v, types_bytes types, (v, h, refl), (v, h, refl, (types, long, each, refl)), e)

counted_more : (extra : ℕ) (a : List ℕ) → IsCompressed a → (b : List ℕ) × CountedBy extra a b
counted_more extra a (v, h, e) = let more = types_more_of (v + extra) in (more.0, (v, h, e, more.1))

by_code : (extra : ℕ) (a : List ℕ) → IsCode (CountedBy extra a)
by_code extra a b d x y (v, h, e, p) (w, k, f, q) g =
    let same = compressed_free v w [] [] h k (ap (λ (t : List ℕ). t ++ []) (sym e ∙ f)) in
    types_code (v + extra) b d x y p (subst (λ (n : ℕ). IsTypes (n + extra) d) (sym same.0) q) g

pub counted_code : (extra : ℕ) → IsCode (IsCounted extra)
counted_code extra a b x y pa pb e = then_code IsCompressed (CountedBy extra) compressed_code (by_code extra) a b x y (counted_from extra a pa) (counted_from extra b pb) e

pub counted_count : (extra : ℕ) (bytes : List ℕ) (n : ℕ) → IsBad IsCompressed bytes n → IsBadWhole (IsCounted extra) bytes n
counted_count extra bytes n bad =
    whole_bad (IsCounted extra) (counted_code extra) bytes n (bad_same (Then IsCompressed (CountedBy extra)) (IsCounted extra) bytes n (counted_to extra) (counted_from extra) (bad_before IsCompressed (CountedBy extra) compressed_code (counted_more extra) bytes n bad))

module _ (extra v : ℕ) (bytes rest : List ℕ) (h : v < 2 ^ 29) (e : bytes ≡ compressed v ++ rest) (before : ℕ) (is : before ≡ length bytes - length rest) where
  long : length (compressed v) ≡ before
  long = omega (arith, is, ap length e, length-append (compressed v) rest)

  inside : (n : ℕ) → IsBadWhole (CountedBy extra (compressed v)) rest n → IsBadWhole (IsCounted extra) bytes (before + n)
  inside n bad = subst (λ (x : ℕ). IsBadWhole (IsCounted extra) bytes (x + n)) long
      (whole_same (Then IsCompressed (CountedBy extra)) (IsCounted extra) bytes (length (compressed v) + n) (counted_to extra) (counted_from extra) (whole_after IsCompressed (CountedBy extra) compressed_code (compressed v) rest bytes n (v, h, refl) e bad))

  types_to_by : (t : List ℕ) → IsTypes (v + extra) t → CountedBy extra (compressed v) t
  types_to_by t p = (v, h, refl, p)

  types_from_by : (t : List ℕ) → CountedBy extra (compressed v) t → IsTypes (v + extra) t
  types_from_by t (w, k, f, q) = let same = compressed_free v w [] [] h k (ap (λ (x : List ℕ). x ++ []) f) in subst (λ (n : ℕ). IsTypes (n + extra) t) (sym same.0) q

  pub counted_types : (n : ℕ) → IsBad (IsTypes (v + extra)) rest n → IsBadWhole (IsCounted extra) bytes (before + n)
  counted_types n bad = inside n (whole_same (IsTypes (v + extra)) (CountedBy extra (compressed v)) rest n types_to_by types_from_by (whole_bad (IsTypes (v + extra)) (types_code (v + extra)) rest n bad))

  pub counted_rest : (types : List TypeSignature) (width : ℕ) → length types ≡ v + extra → AllByRecursion IsType types → rest ≡ types_bytes types ++ drop width rest → width < length rest → IsBadWhole (IsCounted extra) bytes (before + width)
  counted_rest types width count each f lt =
      let wide : length (types_bytes types) ≡ width = omega (arith, ap length f, length-append (types_bytes types) (drop width rest), length-drop width rest, lt) in
      inside width (subst (λ (x : ℕ). IsBadWhole (CountedBy extra (compressed v)) rest x) wide
      (whole_same (IsTypes (v + extra)) (CountedBy extra (compressed v)) rest (length (types_bytes types)) types_to_by types_from_by (rest_bad (IsTypes (v + extra)) (types_code (v + extra)) (types_bytes types) (drop width rest) rest (types, count, each, refl) f (omega (arith, length-drop width rest, lt)))))

  pub counted_read : (types : List TypeSignature) (width : ℕ) → rest ≡ types_bytes types ++ drop width rest → length rest ≤ width → bytes ≡ compressed v ++ types_bytes types
  counted_read types width f le = e ∙ ap (λ (x : List ℕ). compressed v ++ x) (all_read rest (types_bytes types) width f le)

-- ---- a number of type parameters before

pub generic_code : IsCode IsGeneric
generic_code a b x y pa pb e = then_code IsCompressed (λ _. IsCounted 1) compressed_code (λ _. counted_code 1) a b x y pa pb e

generic_more : (a : List ℕ) → IsCompressed a → (b : List ℕ) × IsCounted 1 b
generic_more a p = let more = types_more_of (0 + 1) in (compressed 0 ++ more.0, counted_to 1 (compressed 0 ++ more.0) (compressed 0, more.0, (0, lit< tt, refl), (0, lit< tt, refl, more.1), refl))

pub generic_number : (bytes : List ℕ) (n : ℕ) → IsBad IsCompressed bytes n → IsBadWhole IsGeneric bytes n
generic_number bytes n bad = whole_bad IsGeneric generic_code bytes n (bad_before IsCompressed (λ _. IsCounted 1) compressed_code generic_more bytes n bad)

pub generic_counted : (v : ℕ) (bytes rest : List ℕ) (n before : ℕ) → v < 2 ^ 29 → bytes ≡ compressed v ++ rest → before ≡ length bytes - length rest → IsBadWhole (IsCounted 1) rest n → IsBadWhole IsGeneric bytes (before + n)
generic_counted v bytes rest n before h e is bad =
    let long : length (compressed v) ≡ before = omega (arith, is, ap length e, length-append (compressed v) rest) in
    subst (λ (x : ℕ). IsBadWhole IsGeneric bytes (x + n)) long (whole_after IsCompressed (λ _. IsCounted 1) compressed_code (compressed v) rest bytes n (v, h, refl) e bad)

-- ---- moved faults

bad_one : (a b : ℕ) → Bad a ≡ Bad b → a ≡ b
bad_one a b e = cc

pub moved_bad : (before n : ℕ) (fault : BlobFault) → moved before fault ≡ Bad n → (place : ℕ) × (fault ≡ Bad place) × (before + place ≡ n)
moved_bad before n (Bad place) e = (place, refl, bad_one (before + place) n e)
moved_bad before n Memory e = absurd cc

-- ---- answers

pub ok_weaker : {T E : Type 0} (P Q : T → Type 0) (result : Result T E) → ((value : T) → P value → Q value) → IfOk result P → IfOk result Q
ok_weaker P Q (Ok value) f p = f value p
ok_weaker P Q (Err error) f p = tt

pub memory_alone : {T : Type 0} (result : Result T BlobFault) → ((n : ℕ) → result ≡ Err (Bad n) → ⊥) → IsOkUnless result Memory
memory_alone (Ok value) h = tt
memory_alone (Err (Bad n)) h = absurd (h n refl)
memory_alone (Err Memory) h = refl
