-- Where bytes begin no named type, no operand and no element, and that no element begins another.
use Rattle.std.proofs.Common.{◌≡◌, ℕ, suc, ◌+◌, ◌-◌, ◌/◌, ◌%◌, ◌^◌, ◌<◌, ◌≤◌, Bool, true, false, if◌then◌else◌, List, [], ◌∷◌, ◌++◌, ◌⊎◌, inl, inr, length, get_or, eqb, take, drop, refl, sym, ap, subst, ◌∙◌, append_assoc, add-one, lit<, lit≤, arith}
use Rattle.std.specs.List.{AllByRecursion, list_any}
use Rattle.std.proofs.lemmas.Bool.{cases_lt, cases_eq, ne_eqb, lt-ltb, le-ltb}
use Rattle.std.proofs.lemmas.List.{length-append, append-nil, take_at, take_all}
use Rattle.cc_layout.specs.Codes.{IsBad, IsCode, Then}
use Rattle.cc_layout.specs.Compressed.{compressed, IsCompressed}
use Rattle.cc_layout.proofs.Codes.{split_two}
use Rattle.cc_layout.proofs.CompressedForms.{compressed_free, Form, one, two, four, form_of}
use Rattle.cc_layout.proofs.Sequences.{bad_before, bad_after}
use Rattle.cc_module.specs.declared.element.TypeDefOrRef.{TypeDefOrRef}
use Rattle.cc_module.specs.declared.element.TypeDefOrRef.TheVariants.{TypeDef, TypeRef, TypeSpec}
use Rattle.cc_module.specs.declared.element.Element.{Element}
use Rattle.cc_module.specs.declared.element.Element.TheVariants as the
use Rattle.cc_module.specs.Signatures.{coded, marks, IsNoMark, mark, operand, element_bytes, FitsElement, IsToken, IsElement, IsOperand}

cons_one : (a b : ℕ) (x y : List ℕ) → a ∷ x ≡ b ∷ y → (a ≡ b) × (x ≡ y)
cons_one a b x y e = (cc, cc)

-- the same fault of the same texts
pub bad_same : (P Q : List ℕ → Type 0) (bytes : List ℕ) (n : ℕ) → ((t : List ℕ) → P t → Q t) → ((t : List ℕ) → Q t → P t) → IsBad P bytes n → IsBad Q bytes n
bad_same P Q bytes n to from bad = record { within = bad.within; front = (bad.front.0, bad.front.1, to _ bad.front.2); first = λ lt more q. bad.first lt more (from _ q) }

-- ---- named types

coded_one : (a b : TypeDefOrRef) → coded a ≡ coded b → a ≡ b
coded_one (TypeDef m) (TypeDef n) e = ap TypeDef (omega (arith, e))
coded_one (TypeRef m) (TypeRef n) e = ap TypeRef (omega (arith, e))
coded_one (TypeSpec m) (TypeSpec n) e = ap TypeSpec (omega (arith, e))
coded_one a b e = absurd (omega (arith, e))

coded_tag : (t : TypeDefOrRef) → coded t % 4 ≡ 3 → ⊥
coded_tag (TypeDef m) e = omega (arith, e)
coded_tag (TypeRef m) e = omega (arith, e)
coded_tag (TypeSpec m) e = omega (arith, e)

token_number : (t : List ℕ) → IsToken t → IsCompressed t
token_number t (named, fits, e) = (coded named, fits, e)

pub token_one : (a b : TypeDefOrRef) (x y : List ℕ) → coded a < 2 ^ 29 → coded b < 2 ^ 29 → compressed (coded a) ++ x ≡ compressed (coded b) ++ y → (a ≡ b) × (x ≡ y)
token_one a b x y h k e = let p = compressed_free (coded a) (coded b) x y h k e in (coded_one a b p.0, p.1)

-- a number ends in a byte, and the number below it with the tag 0 has the same bytes before
record Ends (v : ℕ) : Type 0 where
  pub front : List ℕ
  pub last : ℕ
  pub is : compressed v ≡ front ++ last ∷ []
  pub below : compressed (v - 3) ≡ front ++ (last - 3) ∷ []

one_below : (v : ℕ) → v < 0x80 → compressed v ≡ v ∷ []
one_below v h = rw (lt-ltb v 0x80 h) refl

two_below : (v : ℕ) → 0x80 ≤ v → v < 0x4000 → compressed v ≡ (0x80 + v / 0x100) ∷ (v % 0x100) ∷ []
two_below v h k = rw (le-ltb v 0x80 h, lt-ltb v 0x4000 k) refl

four_below : (v : ℕ) → 0x4000 ≤ v → compressed v ≡ (0xC0 + v / 0x1000000) ∷ (v / 0x10000 % 0x100) ∷ (v / 0x100 % 0x100) ∷ (v % 0x100) ∷ []
four_below v h = rw (le-ltb v 0x80 (omega arith), le-ltb v 0x4000 h) refl

ends_in : (v : ℕ) → v % 4 ≡ 3 → Form v → Ends v
ends_in v t (one h e) = record { front = []; last = v; is = e; below = one_below (v - 3) (omega arith) }
ends_in v t (two h k e) =
    let high : (v - 3) / 0x100 ≡ v / 0x100 = omega (arith, t) in
    let low : (v - 3) % 0x100 ≡ v % 0x100 - 3 = omega (arith, t) in
    record { front = (0x80 + v / 0x100) ∷ []; last = v % 0x100; is = e; below = two_below (v - 3) (omega (arith, t)) (omega arith) ∙ rw (high, low) refl }
ends_in v t (four h e) =
    let a : (v - 3) / 0x1000000 ≡ v / 0x1000000 = omega (arith, t) in
    let b : (v - 3) / 0x10000 % 0x100 ≡ v / 0x10000 % 0x100 = omega (arith, t) in
    let c : (v - 3) / 0x100 % 0x100 ≡ v / 0x100 % 0x100 = omega (arith, t) in
    let d : (v - 3) % 0x100 ≡ v % 0x100 - 3 = omega (arith, t) in
    record { front = (0xC0 + v / 0x1000000) ∷ (v / 0x10000 % 0x100) ∷ (v / 0x100 % 0x100) ∷ []; last = v % 0x100; is = e; below = four_below (v - 3) (omega (arith, t)) ∙ rw (a, b, c, d) refl }

last_one : (z more : List ℕ) (c : ℕ) → z ++ more ≡ c ∷ [] → 0 < length more → z ≡ []
last_one [] more c e h = refl
last_one (x ∷ z) more c e h = let n = ap length e in absurd (omega (arith, n, length-append z more, h))

tagged : (v : ℕ) → (v % 4 ≡ 3 → ⊥) → (t : TypeDefOrRef) × (coded t ≡ v)
tagged v h =
    elim (cases_lt (v % 4) 1) [
      | inl none ↦ (TypeDef (v / 4), omega (arith, none))
      | inr more ↦ elim (cases_lt (v % 4) 2) [
        | inl below ↦ (TypeRef (v / 4), omega (arith, more, below))
        | inr above ↦ elim (cases_lt (v % 4) 3) [
          | inl third ↦ (TypeSpec (v / 4), omega (arith, above, third))
          | inr last ↦ absurd (h (omega (arith, last)))
        ]
      ]
    ]

-- what goes on to a number goes on to a named type
token_front : (text more : List ℕ) (v : ℕ) → 0 < length more → v < 2 ^ 29 → text ++ more ≡ compressed v → (other : List ℕ) × (0 < length other) × IsToken (text ++ other)
token_front text more v long h e =
    elim (cases_lt (v % 4) 3) [
      | inl low ↦ let t = tagged v (λ x. omega (arith, low, x)) in (more, long, (t.0, subst (λ (x : ℕ). x < 2 ^ 29) (sym t.1) h, e ∙ ap compressed (sym t.1)))
      | inr three ↦
          let tag : v % 4 ≡ 3 = omega (arith, three) in
          let end = ends_in v tag (form_of v) in
          let t = tagged (v - 3) (λ x. omega (arith, tag, x)) in
          let fits : coded t.0 < 2 ^ 29 = omega (arith, t.1, h) in
          elim (split_two text end.front more (end.last ∷ []) (e ∙ end.is)) [
            | inl q ↦
                let z : q.0 ≡ [] = last_one q.0 more end.last (sym q.2) long in
                let same : text ≡ end.front = q.1 ∙ ap (λ (x : List ℕ). end.front ++ x) z ∙ append-nil end.front in
                ((end.last - 3) ∷ [], lit< tt, (t.0, fits, ap (λ (x : List ℕ). x ++ (end.last - 3) ∷ []) same ∙ sym end.below ∙ ap compressed (sym t.1)))
            | inr q ↦
                let whole : text ++ (q.0 ++ (end.last - 3) ∷ []) ≡ compressed (coded t.0) = sym (append_assoc text q.0 ((end.last - 3) ∷ [])) ∙ ap (λ (x : List ℕ). x ++ (end.last - 3) ∷ []) (sym q.1) ∙ sym end.below ∙ ap compressed (sym t.1) in
                (q.0 ++ (end.last - 3) ∷ [], omega (arith, length-append q.0 ((end.last - 3) ∷ [])), (t.0, fits, whole))
          ]
    ]

pub token_bad : (bytes : List ℕ) (n : ℕ) → IsBad IsCompressed bytes n → IsBad IsToken bytes n
token_bad bytes n bad = record {
  within = bad.within;
  front = token_front (take n bytes) bad.front.0 bad.front.2.0 bad.front.1 bad.front.2.1 bad.front.2.2;
  first = λ lt more p. bad.first lt more (token_number _ p);
}

take_front : (a : List ℕ) (n : ℕ) (rest : List ℕ) → length a ≡ n → take n (a ++ rest) ≡ a
take_front a n rest e = take_at a rest n e

pub token_tag : (bytes rest : List ℕ) (v n : ℕ) → v < 2 ^ 29 → bytes ≡ compressed v ++ rest → v % 4 ≡ 3 → n ≡ length bytes - length rest - 1 → IsBad IsToken bytes n
token_tag bytes rest v n h e tag place =
    let end = ends_in v tag (form_of v) in
    let t = tagged (v - 3) (λ x. omega (arith, tag, x)) in
    let fits : coded t.0 < 2 ^ 29 = omega (arith, t.1, h) in
    let parts : bytes ≡ end.front ++ (end.last ∷ rest) = e ∙ ap (λ (x : List ℕ). x ++ rest) end.is ∙ append_assoc end.front (end.last ∷ []) rest in
    let long : length bytes ≡ length end.front + suc (length rest) = ap length parts ∙ length-append end.front (end.last ∷ rest) in
    let at : length end.front ≡ n = omega (arith, long, place) in
    let next : length (compressed v) ≡ n + 1 = omega (arith, ap length end.is, length-append end.front (end.last ∷ []), at) in
    let before : take n bytes ≡ end.front = ap (take n) parts ∙ take_at end.front (end.last ∷ rest) n at in
    let through : take (n + 1) bytes ≡ compressed v = ap (take (n + 1)) e ∙ take_at (compressed v) rest (n + 1) next in
    record {
      within = omega (arith, long, at);
      front = ((end.last - 3) ∷ [], lit< tt, (t.0, fits, ap (λ (x : List ℕ). x ++ (end.last - 3) ∷ []) before ∙ sym end.below ∙ ap compressed (sym t.1)));
      first = λ lt more p.
          let same = compressed_free v (coded p.0) more [] h p.1 (ap (λ (x : List ℕ). x ++ more) (sym through) ∙ p.2 ∙ sym (append-nil (compressed (coded p.0)))) in
          coded_tag p.0 (ap (λ (x : ℕ). x % 4) (sym same.0) ∙ tag);
    }

-- ---- codes

pub compressed_code : IsCode IsCompressed
compressed_code a b x y pa pb e =
    let p = compressed_free pa.0 pb.0 x y pa.1 pb.1 (ap (λ (t : List ℕ). t ++ x) (sym pa.2) ∙ e ∙ ap (λ (t : List ℕ). t ++ y) pb.2) in
    (pa.2 ∙ ap compressed p.0 ∙ sym pb.2, p.1)

token_code : IsCode IsToken
token_code a b x y pa pb e = compressed_code a b x y (token_number a pa) (token_number b pb) e

-- ---- what follows the mark of an instance

abbrev IsKind : List ℕ → Type 0
IsKind text = (text ≡ 0x11 ∷ []) ⊎ (text ≡ 0x12 ∷ [])

kind_code : IsCode IsKind
kind_code a b x y (inl p) (inl q) e = let g = cons_one 0x11 0x11 x y (rw (p, q) at e) in (p ∙ sym q, g.1)
kind_code a b x y (inl p) (inr q) e = absurd (let g = cons_one 0x11 0x12 x y (rw (p, q) at e) in omega (arith, g.0))
kind_code a b x y (inr p) (inl q) e = absurd (let g = cons_one 0x12 0x11 x y (rw (p, q) at e) in omega (arith, g.0))
kind_code a b x y (inr p) (inr q) e = let g = cons_one 0x12 0x12 x y (rw (p, q) at e) in (p ∙ sym q, g.1)

abbrev IsArguments : List ℕ → Type 0
IsArguments = Then IsToken (λ _. IsCompressed)

abbrev IsInstance : List ℕ → Type 0
IsInstance = Then IsKind (λ _. IsArguments)

kind_byte : (a : List ℕ) → IsKind a → (v : Bool) × (a ≡ (if v then 0x11 else 0x12) ∷ [])
kind_byte a (inl p) = (true, p)
kind_byte a (inr p) = (false, p)

kind_of_byte : (v : Bool) → IsKind ((if v then 0x11 else 0x12) ∷ [])
kind_of_byte true = inl refl
kind_of_byte false = inr refl

instance_to : (text : List ℕ) → IsInstance text → IsOperand 0x15 text
instance_to text (a, b, k, (c, d, t, n, f), e) =
    let v = kind_byte a k in
    (the.Instance v.0 t.0 n.0, (t.1, n.1), refl, e ∙ ap (λ (x : List ℕ). x ++ b) v.1 ∙ ap (λ (x : List ℕ). (if v.0 then 0x11 else 0x12) ∷ x) (f ∙ ap (λ (x : List ℕ). x ++ d) t.2 ∙ ap (λ (x : List ℕ). compressed (coded t.0) ++ x) n.2))

instance_from : (text : List ℕ) → IsOperand 0x15 text → IsInstance text
instance_from text (the.Instance v t n, h, m, e) = ((if v then 0x11 else 0x12) ∷ [], compressed (coded t) ++ compressed n, kind_of_byte v, (compressed (coded t), compressed n, (t, h.0, refl), (n, h.1, refl), refl), e)
instance_from text (other, h, m, e) = absurd (omega (arith, m))

arguments_more : (a : List ℕ) → IsKind a → (b : List ℕ) × IsArguments b
arguments_more a k = (0 ∷ 0 ∷ [], (0 ∷ [], 0 ∷ [], (TypeDef 0, lit< tt, refl), (0, lit< tt, refl), refl))

count_more : (a : List ℕ) → IsToken a → (b : List ℕ) × IsCompressed b
count_more a t = (0 ∷ [], (0, lit< tt, refl))

instance_same : (bytes : List ℕ) (n : ℕ) → IsBad IsInstance bytes n → IsBad (IsOperand 0x15) bytes n
instance_same bytes n = bad_same IsInstance (IsOperand 0x15) bytes n instance_to instance_from

pub instance_empty : (bytes : List ℕ) → length bytes < 1 → IsBad (IsOperand 0x15) bytes 0
instance_empty [] h = instance_same [] 0 (bad_before IsKind (λ _. IsArguments) kind_code arguments_more [] 0 (record { within = lit≤ tt; front = (0x11 ∷ [], lit< tt, inl refl); first = λ lt more p. absurd (omega arith) }))
instance_empty (x ∷ bytes) h = absurd (omega arith)

no_kind : (kind : ℕ) (more : List ℕ) → (kind ≡ 0x11 → ⊥) → (kind ≡ 0x12 → ⊥) → IsKind (kind ∷ more) → ⊥
no_kind kind more h k (inl p) = h (cons_one kind 0x11 more [] p).0
no_kind kind more h k (inr p) = k (cons_one kind 0x12 more [] p).0

pub instance_kind : (kind : ℕ) (bytes rest : List ℕ) → bytes ≡ kind ∷ rest → (kind ≡ 0x11 → ⊥) → (kind ≡ 0x12 → ⊥) → IsBad (IsOperand 0x15) bytes 0
instance_kind kind bytes rest e h k = rw e (instance_same (kind ∷ rest) 0 (bad_before IsKind (λ _. IsArguments) kind_code arguments_more (kind ∷ rest) 0
    (record { within = omega arith; front = (0x11 ∷ [], lit< tt, inl refl); first = λ lt more p. no_kind kind more h k p })))

which_kind : (kind : ℕ) → ((kind ≡ 0x11 → ⊥) × (kind ≡ 0x12)) ⊎ (kind ≡ 0x11) → IsKind (kind ∷ [])
which_kind kind (inl e) = inr (ap (λ (x : ℕ). x ∷ []) e.1)
which_kind kind (inr e) = inl (ap (λ (x : ℕ). x ∷ []) e)

pub instance_token : (kind : ℕ) (bytes rest : List ℕ) (n : ℕ) → bytes ≡ kind ∷ rest → ((kind ≡ 0x11 → ⊥) × (kind ≡ 0x12)) ⊎ (kind ≡ 0x11) → IsBad IsToken rest n → IsBad (IsOperand 0x15) bytes (n + 1)
instance_token kind bytes rest n e h bad =
    let k : 1 + n ≡ n + 1 = omega arith in
    let inner = bad_before IsToken (λ _. IsCompressed) token_code count_more rest n bad in
    subst (λ (x : ℕ). IsBad (IsOperand 0x15) bytes x) k (instance_same bytes (1 + n) (bad_after IsKind (λ _. IsArguments) kind_code (kind ∷ []) rest bytes n (which_kind kind h) e inner))

pub instance_count : (kind : ℕ) (bytes rest after : List ℕ) (t : TypeDefOrRef) (n place : ℕ) → bytes ≡ kind ∷ rest → ((kind ≡ 0x11 → ⊥) × (kind ≡ 0x12)) ⊎ (kind ≡ 0x11) → coded t < 2 ^ 29 → rest ≡ compressed (coded t) ++ after
    → place ≡ length bytes - length after → IsBad IsCompressed after n → IsBad (IsOperand 0x15) bytes (place + n)
instance_count kind bytes rest after t n place e h fits f is bad =
    let inner = bad_after IsToken (λ _. IsCompressed) token_code (compressed (coded t)) after rest n (t, fits, refl) f bad in
    let whole = instance_same bytes (1 + (length (compressed (coded t)) + n)) (bad_after IsKind (λ _. IsArguments) kind_code (kind ∷ []) rest bytes (length (compressed (coded t)) + n) (which_kind kind h) e inner) in
    let k : 1 + (length (compressed (coded t)) + n) ≡ place + n = omega (arith, is, ap length e, ap length f, length-append (compressed (coded t)) after) in
    subst (λ (x : ℕ). IsBad (IsOperand 0x15) bytes x) k whole

-- ---- elements

pub element_empty : (bytes : List ℕ) → length bytes < 1 → IsBad IsElement bytes 0
element_empty [] h = record { within = lit≤ tt; front = (0x01 ∷ [], lit< tt, (the.Void, tt, refl)); first = λ lt more p. absurd (omega arith) }
element_empty (x ∷ bytes) h = absurd (omega arith)

listed : (e : Element) → list_any (λ other. eqb (mark e) other) marks ≡ true
listed the.Void = refl
listed e = refl

unlisted : (c d : ℕ) (all : List ℕ) → AllByRecursion (λ x. c ≡ x → ⊥) all → list_any (λ x. eqb d x) all ≡ true → c ≡ d → ⊥
unlisted c d [] h e same = cc
unlisted c d (x ∷ all) h e same =
    elim (cases_eq d x) [ inl p ↦ h.0 (same ∙ p) | inr p ↦ unlisted c d all h.1 (rw (ne_eqb d x p) at e) same ]

pub element_unknown : (code : ℕ) (bytes rest : List ℕ) → bytes ≡ code ∷ rest → IsNoMark code → IsBad IsElement bytes 0
element_unknown code bytes rest e h = rw e (record {
  within = omega arith;
  front = (0x01 ∷ [], lit< tt, (the.Void, tt, refl));
  first = λ lt more p. unlisted code (mark p.0) marks h (listed p.0) (cons_one code (mark p.0) more (operand p.0) p.2).0;
})

pub element_inside : (code : ℕ) (bytes rest : List ℕ) (n : ℕ) → bytes ≡ code ∷ rest → IsBad (IsOperand code) rest n → IsBad IsElement bytes (n + 1)
element_inside code bytes rest n e bad = rw e (record {
  within = let w = bad.within in omega arith;
  front = let p = bad.front.2 in (bad.front.0, bad.front.1, (p.0, p.1, rw add-one (λ i. sym p.2 i ∷ p.3 i)));
  first = λ lt more p.
      let k : (n + 1) + 1 ≡ suc (n + 1) = omega arith in
      let f : code ∷ (take (n + 1) rest ++ more) ≡ mark p.0 ∷ operand p.0 = rw k at p.2 in
      let g = cons_one code (mark p.0) (take (n + 1) rest ++ more) (operand p.0) f in
      bad.first (omega arith) more (p.0, p.1, sym g.0, g.1);
})

value_from : (text : List ℕ) → IsOperand 0x11 text → IsToken text
value_from text (the.ValueType t, h, m, e) = (t, h, e)
value_from text (other, h, m, e) = absurd (omega (arith, m))

class_from : (text : List ℕ) → IsOperand 0x12 text → IsToken text
class_from text (the.Class t, h, m, e) = (t, h, e)
class_from text (other, h, m, e) = absurd (omega (arith, m))

variable_from : (text : List ℕ) → IsOperand 0x13 text → IsCompressed text
variable_from text (the.TypeVariable n, h, m, e) = (n, h, e)
variable_from text (other, h, m, e) = absurd (omega (arith, m))

method_from : (text : List ℕ) → IsOperand 0x1E text → IsCompressed text
method_from text (the.MethodVariable n, h, m, e) = (n, h, e)
method_from text (other, h, m, e) = absurd (omega (arith, m))

pub value_bad : (bytes rest : List ℕ) (n : ℕ) → bytes ≡ 0x11 ∷ rest → IsBad IsToken rest n → IsBad IsElement bytes (n + 1)
value_bad bytes rest n e bad = element_inside 0x11 bytes rest n e (bad_same IsToken (IsOperand 0x11) rest n (λ t p. (the.ValueType p.0, p.1, refl, p.2)) value_from bad)

pub class_bad : (bytes rest : List ℕ) (n : ℕ) → bytes ≡ 0x12 ∷ rest → IsBad IsToken rest n → IsBad IsElement bytes (n + 1)
class_bad bytes rest n e bad = element_inside 0x12 bytes rest n e (bad_same IsToken (IsOperand 0x12) rest n (λ t p. (the.Class p.0, p.1, refl, p.2)) class_from bad)

pub variable_bad : (bytes rest : List ℕ) (n : ℕ) → bytes ≡ 0x13 ∷ rest → IsBad IsCompressed rest n → IsBad IsElement bytes (n + 1)
variable_bad bytes rest n e bad = element_inside 0x13 bytes rest n e (bad_same IsCompressed (IsOperand 0x13) rest n (λ t p. (the.TypeVariable p.0, p.1, refl, p.2)) variable_from bad)

pub method_bad : (bytes rest : List ℕ) (n : ℕ) → bytes ≡ 0x1E ∷ rest → IsBad IsCompressed rest n → IsBad IsElement bytes (n + 1)
method_bad bytes rest n e bad = element_inside 0x1E bytes rest n e (bad_same IsCompressed (IsOperand 0x1E) rest n (λ t p. (the.MethodVariable p.0, p.1, refl, p.2)) method_from bad)

-- ---- the byte at the front, as a reader takes it

pub at_front : (bytes : List ℕ) (code : ℕ) → 1 ≤ length bytes → get_or bytes 0 0 ≡ code → bytes ≡ code ∷ take (length bytes - 1) (drop 1 bytes)
at_front [] code h e = absurd (omega arith)
at_front (x ∷ bytes) code h e =
    let all : take (suc (length bytes) - 1) bytes ≡ bytes = take_all (suc (length bytes) - 1) bytes (omega arith) in
    λ i. e i ∷ sym all i

-- ---- no element begins another

abbrev kind : Bool → ℕ
kind v = if v then 0x11 else 0x12

same_kind : (v w : Bool) → kind v ≡ kind w → v ≡ w
same_kind true true e = refl
same_kind false false e = refl
same_kind true false e = absurd (omega (arith, e))
same_kind false true e = absurd (omega (arith, e))

operand_one : (a b : Element) (x y : List ℕ) → FitsElement a → FitsElement b → mark a ≡ mark b → operand a ++ x ≡ operand b ++ y → (a ≡ b) × (x ≡ y)
operand_one the.Void the.Void x y h k m e = (refl, e)
operand_one the.Boolean the.Boolean x y h k m e = (refl, e)
operand_one the.Char the.Char x y h k m e = (refl, e)
operand_one the.I1 the.I1 x y h k m e = (refl, e)
operand_one the.U1 the.U1 x y h k m e = (refl, e)
operand_one the.I2 the.I2 x y h k m e = (refl, e)
operand_one the.U2 the.U2 x y h k m e = (refl, e)
operand_one the.I4 the.I4 x y h k m e = (refl, e)
operand_one the.U4 the.U4 x y h k m e = (refl, e)
operand_one the.I8 the.I8 x y h k m e = (refl, e)
operand_one the.U8 the.U8 x y h k m e = (refl, e)
operand_one the.String the.String x y h k m e = (refl, e)
operand_one the.Pointer the.Pointer x y h k m e = (refl, e)
operand_one the.Object the.Object x y h k m e = (refl, e)
operand_one the.Array the.Array x y h k m e = (refl, e)
operand_one (the.ValueType s) (the.ValueType t) x y h k m e = let p = token_one s t x y h k e in (ap the.ValueType p.0, p.1)
operand_one (the.Class s) (the.Class t) x y h k m e = let p = token_one s t x y h k e in (ap the.Class p.0, p.1)
operand_one (the.TypeVariable i) (the.TypeVariable j) x y h k m e = let p = compressed_free i j x y h k e in (ap the.TypeVariable p.0, p.1)
operand_one (the.MethodVariable i) (the.MethodVariable j) x y h k m e = let p = compressed_free i j x y h k e in (ap the.MethodVariable p.0, p.1)
operand_one (the.Instance v s i) (the.Instance w t j) x y h k m e =
    let p = cons_one (kind v) (kind w) ((compressed (coded s) ++ compressed i) ++ x) ((compressed (coded t) ++ compressed j) ++ y) e in
    let f = sym (append_assoc (compressed (coded s)) (compressed i) x) ∙ p.1 ∙ append_assoc (compressed (coded t)) (compressed j) y in
    let q = token_one s t (compressed i ++ x) (compressed j ++ y) h.0 k.0 f in
    let r = compressed_free i j x y h.1 k.1 q.1 in
    (λ n. the.Instance (same_kind v w p.0 n) (q.0 n) (r.0 n), r.1)
operand_one a b x y h k m e = absurd (omega (arith, m))

pub element_one : (a b : Element) (x y : List ℕ) → FitsElement a → FitsElement b → element_bytes a ++ x ≡ element_bytes b ++ y → (a ≡ b) × (x ≡ y)
element_one a b x y h k e =
    let p = cons_one (mark a) (mark b) (operand a ++ x) (operand b ++ y) e in
    operand_one a b x y h k p.0 p.1

pub element_code : IsCode IsElement
element_code a b x y pa pb e =
    let p = element_one pa.0 pb.0 x y pa.1 pb.1 (ap (λ (t : List ℕ). t ++ x) (sym pa.2) ∙ e ∙ ap (λ (t : List ℕ). t ++ y) pb.2) in
    (pa.2 ∙ ap element_bytes p.0 ∙ sym pb.2, p.1)

-- ---- numbers are not empty

number_form : (v : ℕ) → Form v → compressed v ≡ [] → ⊥
number_form v (one a f) e = let g = sym f ∙ e in absurd cc
number_form v (two a b f) e = let g = sym f ∙ e in absurd cc
number_form v (four a f) e = let g = sym f ∙ e in absurd cc

pub no_number : (v : ℕ) → v < 2 ^ 29 → compressed v ≡ [] → ⊥
no_number v h e = number_form v (form_of v) e
