-- Where bytes begin no compressed number.
use Rattle.std.proofs.Common.{◌≡◌, ℕ, ◌+◌, ◌-◌, ◌*◌, ◌/◌, ◌%◌, ◌^◌, ◌<◌, ◌≤◌, List, [], ◌∷◌, ◌++◌, ◌⊎◌, inl, inr, length, get_or, refl, sym, subst, lit<, lit≤, arith}
use Rattle.std.proofs.lemmas.Bool.{cases_lt, lt-ltb, le-ltb}
use Rattle.cc_layout.specs.Codes.{IsBad}
use Rattle.cc_layout.specs.Compressed.{compressed, IsCompressed}

-- what stands in the forms of a number
pub record One (a : ℕ) (rest : List ℕ) : Type 0 where
  pub low : a < 0x80
  pub end : rest ≡ []

pub record Two (a : ℕ) (rest : List ℕ) : Type 0 where
  pub low : 0x80 ≤ a
  pub high : a < 0xC0
  pub b : ℕ
  pub end : rest ≡ b ∷ []
  pub shortest : a ≡ 0x80 → 0x80 ≤ b

pub record Four (a : ℕ) (rest : List ℕ) : Type 0 where
  pub low : 0xC0 ≤ a
  pub high : a < 0xE0
  pub b : ℕ
  pub c : ℕ
  pub d : ℕ
  pub end : rest ≡ b ∷ c ∷ d ∷ []
  pub shortest : a ≡ 0xC0 → b ≡ 0 → 0x40 ≤ c

cons_one : (a b : ℕ) (x y : List ℕ) → a ∷ x ≡ b ∷ y → (a ≡ b) × (x ≡ y)
cons_one a b x y e = (cc, cc)

forms : (v a : ℕ) (rest : List ℕ) → v < 2 ^ 29 → a ∷ rest ≡ compressed v → One a rest ⊎ (Two a rest ⊎ Four a rest)
forms v a rest lt e =
    elim (cases_lt v 0x80) [
      | inl one ↦
          let f : a ∷ rest ≡ v ∷ [] = rw (lt-ltb v 0x80 one) at e in
          let g = cons_one a v rest [] f in
          inl (record { low = omega (arith, g.0); end = g.1 })
      | inr more ↦ elim (cases_lt v 0x4000) [
        | inl two ↦
            let f : a ∷ rest ≡ (0x80 + v / 0x100) ∷ (v % 0x100) ∷ [] = rw (le-ltb v 0x80 more, lt-ltb v 0x4000 two) at e in
            let g = cons_one a (0x80 + v / 0x100) rest ((v % 0x100) ∷ []) f in
            inr (inl (record { low = omega (arith, g.0); high = omega (arith, g.0); b = v % 0x100; end = g.1; shortest = λ h. omega (arith, g.0) }))
        | inr four ↦
            let f : a ∷ rest ≡ (0xC0 + v / 0x1000000) ∷ (v / 0x10000 % 0x100) ∷ (v / 0x100 % 0x100) ∷ (v % 0x100) ∷ [] = rw (le-ltb v 0x80 more, le-ltb v 0x4000 four) at e in
            let g = cons_one a (0xC0 + v / 0x1000000) rest ((v / 0x10000 % 0x100) ∷ (v / 0x100 % 0x100) ∷ (v % 0x100) ∷ []) f in
            inr (inr (record { low = omega (arith, g.0); high = omega (arith, g.0); b = v / 0x10000 % 0x100; c = v / 0x100 % 0x100; d = v % 0x100; end = g.1; shortest = λ h k. omega (arith, g.0) }))
      ]
    ]

pub bad_empty : IsBad IsCompressed [] 0
bad_empty = record { within = lit≤ tt; front = (0 ∷ [], lit< tt, (0, lit< tt, refl)); first = λ lt more h. absurd (omega arith) }

pub bad_first : (a : ℕ) (rest : List ℕ) → 0xE0 ≤ a → IsBad IsCompressed (a ∷ rest) 0
bad_first a rest ge = record {
  within = omega arith;
  front = (0 ∷ [], lit< tt, (0, lit< tt, refl));
  first = λ lt more h. elim (forms h.0 a more h.1 h.2) [ inl x ↦ absurd (omega (arith, x.low)) | inr y ↦ elim y [ inl x ↦ absurd (omega (arith, x.high)) | inr x ↦ absurd (omega (arith, x.high)) ] ];
}

pub bad_second : (b : ℕ) (rest : List ℕ) → b < 0x80 → IsBad IsCompressed (0x80 ∷ b ∷ rest) 1
bad_second b rest lt = record {
  within = omega arith;
  front = (0x80 ∷ [], lit< tt, (0x80, lit< tt, refl));
  first = λ l more h. elim (forms h.0 0x80 (b ∷ more) h.1 h.2) [
    | inl x ↦ absurd (omega (arith, x.low))
    | inr y ↦ elim y [
      | inl x ↦ let e = cons_one b x.b more [] x.end in let s = x.shortest refl in absurd (omega (arith, e.0, s))
      | inr x ↦ absurd (omega (arith, x.low))
    ]
  ];
}

pub bad_third : (c : ℕ) (rest : List ℕ) → c < 0x40 → IsBad IsCompressed (0xC0 ∷ 0 ∷ c ∷ rest) 2
bad_third c rest lt = record {
  within = omega arith;
  front = (0x40 ∷ 0 ∷ [], lit< tt, (0x4000, lit< tt, refl));
  first = λ l more h. elim (forms h.0 0xC0 (0 ∷ c ∷ more) h.1 h.2) [
    | inl x ↦ absurd (omega (arith, x.low))
    | inr y ↦ elim y [
      | inl x ↦ absurd (omega (arith, x.high))
      | inr x ↦
          let e = cons_one 0 x.b (c ∷ more) (x.c ∷ x.d ∷ []) x.end in
          let f = cons_one c x.c more (x.d ∷ []) e.1 in
          let s = x.shortest refl (sym e.0) in absurd (omega (arith, f.0, s))
    ]
  ];
}

low_two : (a b : ℕ) → 0x80 ≤ a → (a ≡ 0x80 → 0x80 ≤ b) → 0x80 ≤ (a - 0x80) * 0x100 + b
low_two a b h s = grind arith

low_four : (a b c d : ℕ) → 0xC0 ≤ a → (a ≡ 0xC0 → b ≡ 0 → 0x40 ≤ c) → 0x4000 ≤ ((a - 0xC0) * 0x100 + b) * 0x10000 + (c * 0x100 + d)
low_four a b c d h s = grind arith

pub spelled_one : (a : ℕ) → a < 0x80 → compressed a ≡ a ∷ []
spelled_one a h = rw (lt-ltb a 0x80 h) refl

pub spelled_two : (a b : ℕ) → 0x80 ≤ a → a < 0xC0 → b < 0x100 → (a ≡ 0x80 → 0x80 ≤ b) → compressed ((a - 0x80) * 0x100 + b) ≡ a ∷ b ∷ []
spelled_two a b h k l s =
    let v = (a - 0x80) * 0x100 + b in
    let low : 0x80 ≤ v = low_two a b h s in
    let high : v < 0x4000 = omega arith in
    let first : 0x80 + v / 0x100 ≡ a = omega arith in
    let second : v % 0x100 ≡ b = omega arith in
    rw (le-ltb v 0x80 low, lt-ltb v 0x4000 high, first, second) refl

pub spelled_four : (a b c d : ℕ) → 0xC0 ≤ a → a < 0xE0 → b < 0x100 → c < 0x100 → d < 0x100 → (a ≡ 0xC0 → b ≡ 0 → 0x40 ≤ c)
    → compressed (((a - 0xC0) * 0x100 + b) * 0x10000 + (c * 0x100 + d)) ≡ a ∷ b ∷ c ∷ d ∷ []
spelled_four a b c d h k lb lc ld s =
    let v = ((a - 0xC0) * 0x100 + b) * 0x10000 + (c * 0x100 + d) in
    let high : 0x4000 ≤ v = low_four a b c d h s in
    let low : 0x80 ≤ v = omega arith in
    let first : 0xC0 + v / 0x1000000 ≡ a = omega arith in
    let second : v / 0x10000 % 0x100 ≡ b = omega arith in
    let third : v / 0x100 % 0x100 ≡ c = omega arith in
    let fourth : v % 0x100 ≡ d = omega arith in
    rw (le-ltb v 0x80 low, le-ltb v 0x4000 high, first, second, third, fourth) refl

pub bad_short_1 : (a : ℕ) → 0x80 ≤ a → a < 0xE0 → IsBad IsCompressed (a ∷ []) 1
bad_short_1 a h k =
    elim (cases_lt a 0xC0) [
      | inl lt ↦ record { within = omega arith; front = (0x80 ∷ [], lit< tt, ((a - 0x80) * 0x100 + 0x80, omega arith, sym (spelled_two a 0x80 h lt (lit< tt) (λ e. lit≤ tt)))); first = λ l more p. absurd (omega arith) }
      | inr ge ↦ record { within = omega arith; front = (0x40 ∷ 0 ∷ 0 ∷ [], lit< tt, (((a - 0xC0) * 0x100 + 0x40) * 0x10000 + (0 * 0x100 + 0), omega arith, sym (spelled_four a 0x40 0 0 ge k (lit< tt) (lit< tt) (lit< tt) (λ e f. absurd (omega arith))))); first = λ l more p. absurd (omega arith) }
    ]

pub bad_short_2 : (a b : ℕ) → 0xC0 ≤ a → a < 0xE0 → b < 0x100 → IsBad IsCompressed (a ∷ b ∷ []) 2
bad_short_2 a b h k l =
    record { within = omega arith; front = (0x40 ∷ 0 ∷ [], lit< tt, (((a - 0xC0) * 0x100 + b) * 0x10000 + (0x40 * 0x100 + 0), omega arith, sym (spelled_four a b 0x40 0 h k l (lit< tt) (lit< tt) (λ e f. lit≤ tt)))); first = λ l2 more p. absurd (omega arith) }

pub bad_short_3 : (a b c : ℕ) → 0xC0 ≤ a → a < 0xE0 → b < 0x100 → c < 0x100 → (a ≡ 0xC0 → b ≡ 0 → 0x40 ≤ c) → IsBad IsCompressed (a ∷ b ∷ c ∷ []) 3
bad_short_3 a b c h k l m s =
    record { within = omega arith; front = (0 ∷ [], lit< tt, (((a - 0xC0) * 0x100 + b) * 0x10000 + (c * 0x100 + 0), omega arith, sym (spelled_four a b c 0 h k l m (lit< tt) s))); first = λ l2 more p. absurd (omega arith) }

-- ---- the same by the places of the bytes

pub at_empty : (bytes : List ℕ) → length bytes ≡ 0 → IsBad IsCompressed bytes 0
at_empty [] e = bad_empty
at_empty (x ∷ bytes) e = absurd (omega arith)

pub at_first : (bytes : List ℕ) → 1 ≤ length bytes → 0xE0 ≤ get_or bytes 0 0 → IsBad IsCompressed bytes 0
at_first [] e h = absurd (omega arith)
at_first (a ∷ bytes) e h = bad_first a bytes h

pub at_second : (bytes : List ℕ) → 2 ≤ length bytes → get_or bytes 0 0 ≡ 0x80 → get_or bytes 1 0 < 0x80 → IsBad IsCompressed bytes 1
at_second [] e f h = absurd (omega arith)
at_second (a ∷ []) e f h = absurd (omega arith)
at_second (a ∷ b ∷ bytes) e f h = subst (λ (x : ℕ). IsBad IsCompressed (x ∷ b ∷ bytes) 1) (sym f) (bad_second b bytes h)

pub at_third : (bytes : List ℕ) → 3 ≤ length bytes → get_or bytes 0 0 ≡ 0xC0 → get_or bytes 1 0 ≡ 0 → get_or bytes 2 0 < 0x40 → IsBad IsCompressed bytes 2
at_third [] e f g h = absurd (omega arith)
at_third (a ∷ []) e f g h = absurd (omega arith)
at_third (a ∷ b ∷ []) e f g h = absurd (omega arith)
at_third (a ∷ b ∷ c ∷ bytes) e f g h = subst (λ (x : ℕ). IsBad IsCompressed (x ∷ b ∷ c ∷ bytes) 2) (sym f) (subst (λ (x : ℕ). IsBad IsCompressed (0xC0 ∷ x ∷ c ∷ bytes) 2) (sym g) (bad_third c bytes h))

pub at_short_1 : (bytes : List ℕ) → length bytes ≡ 1 → 0x80 ≤ get_or bytes 0 0 → get_or bytes 0 0 < 0xE0 → IsBad IsCompressed bytes 1
at_short_1 [] e h k = absurd (omega arith)
at_short_1 (a ∷ []) e h k = bad_short_1 a h k
at_short_1 (a ∷ b ∷ bytes) e h k = absurd (omega arith)

pub at_short_2 : (bytes : List ℕ) → length bytes ≡ 2 → 0xC0 ≤ get_or bytes 0 0 → get_or bytes 0 0 < 0xE0 → get_or bytes 1 0 < 0x100 → IsBad IsCompressed bytes 2
at_short_2 [] e h k l = absurd (omega arith)
at_short_2 (a ∷ []) e h k l = absurd (omega arith)
at_short_2 (a ∷ b ∷ []) e h k l = bad_short_2 a b h k l
at_short_2 (a ∷ b ∷ c ∷ bytes) e h k l = absurd (omega arith)

pub at_short_3 : (bytes : List ℕ) → length bytes ≡ 3 → 0xC0 ≤ get_or bytes 0 0 → get_or bytes 0 0 < 0xE0 → get_or bytes 1 0 < 0x100 → get_or bytes 2 0 < 0x100
    → (get_or bytes 0 0 ≡ 0xC0 → get_or bytes 1 0 ≡ 0 → 0x40 ≤ get_or bytes 2 0) → IsBad IsCompressed bytes 3
at_short_3 [] e h k l m s = absurd (omega arith)
at_short_3 (a ∷ []) e h k l m s = absurd (omega arith)
at_short_3 (a ∷ b ∷ []) e h k l m s = absurd (omega arith)
at_short_3 (a ∷ b ∷ c ∷ []) e h k l m s = bad_short_3 a b c h k l m s
at_short_3 (a ∷ b ∷ c ∷ d ∷ bytes) e h k l m s = absurd (omega arith)

-- ---- no compressed number begins another

pub data Form (v : ℕ) : Type 0 where
  one : v < 0x80 → compressed v ≡ v ∷ [] → Form v
  two : 0x80 ≤ v → v < 0x4000 → compressed v ≡ (0x80 + v / 0x100) ∷ (v % 0x100) ∷ [] → Form v
  four : 0x4000 ≤ v → compressed v ≡ (0xC0 + v / 0x1000000) ∷ (v / 0x10000 % 0x100) ∷ (v / 0x100 % 0x100) ∷ (v % 0x100) ∷ [] → Form v

pub form_of : (v : ℕ) → Form v
form_of v =
    elim (cases_lt v 0x80) [
      | inl a ↦ one a (rw (lt-ltb v 0x80 a) refl)
      | inr more ↦ elim (cases_lt v 0x4000) [
        | inl b ↦ two more b (rw (le-ltb v 0x80 more, lt-ltb v 0x4000 b) refl)
        | inr c ↦ four c (rw (le-ltb v 0x80 more, le-ltb v 0x4000 c) refl)
      ]
    ]

free_by : (v w : ℕ) (x y : List ℕ) → v < 2 ^ 29 → w < 2 ^ 29 → Form v → Form w → compressed v ++ x ≡ compressed w ++ y → (v ≡ w) × (x ≡ y)
free_by v w x y l m (one a e) (one b f) g = let p = cons_one v w x y (rw (e, f) at g) in (p.0, p.1)
free_by v w x y l m (one a e) (two b b2 f) g = absurd (let p = cons_one v (0x80 + w / 0x100) x ((w % 0x100) ∷ y) (rw (e, f) at g) in omega (arith, p.0))
free_by v w x y l m (one a e) (four b f) g = absurd (let p = cons_one v (0xC0 + w / 0x1000000) x ((w / 0x10000 % 0x100) ∷ (w / 0x100 % 0x100) ∷ (w % 0x100) ∷ y) (rw (e, f) at g) in omega (arith, p.0))
free_by v w x y l m (two a a2 e) (one b f) g = absurd (let p = cons_one (0x80 + v / 0x100) w ((v % 0x100) ∷ x) y (rw (e, f) at g) in omega (arith, p.0))
free_by v w x y l m (two a a2 e) (two b b2 f) g =
    let p = cons_one (0x80 + v / 0x100) (0x80 + w / 0x100) ((v % 0x100) ∷ x) ((w % 0x100) ∷ y) (rw (e, f) at g) in
    let q = cons_one (v % 0x100) (w % 0x100) x y p.1 in
    (omega (arith, p.0, q.0), q.1)
free_by v w x y l m (two a a2 e) (four b f) g = absurd (let p = cons_one (0x80 + v / 0x100) (0xC0 + w / 0x1000000) ((v % 0x100) ∷ x) ((w / 0x10000 % 0x100) ∷ (w / 0x100 % 0x100) ∷ (w % 0x100) ∷ y) (rw (e, f) at g) in omega (arith, p.0))
free_by v w x y l m (four a e) (one b f) g = absurd (let p = cons_one (0xC0 + v / 0x1000000) w ((v / 0x10000 % 0x100) ∷ (v / 0x100 % 0x100) ∷ (v % 0x100) ∷ x) y (rw (e, f) at g) in omega (arith, p.0))
free_by v w x y l m (four a e) (two b b2 f) g = absurd (let p = cons_one (0xC0 + v / 0x1000000) (0x80 + w / 0x100) ((v / 0x10000 % 0x100) ∷ (v / 0x100 % 0x100) ∷ (v % 0x100) ∷ x) ((w % 0x100) ∷ y) (rw (e, f) at g) in omega (arith, p.0))
free_by v w x y l m (four a e) (four b f) g =
    let p = cons_one (0xC0 + v / 0x1000000) (0xC0 + w / 0x1000000) ((v / 0x10000 % 0x100) ∷ (v / 0x100 % 0x100) ∷ (v % 0x100) ∷ x) ((w / 0x10000 % 0x100) ∷ (w / 0x100 % 0x100) ∷ (w % 0x100) ∷ y) (rw (e, f) at g) in
    let q = cons_one (v / 0x10000 % 0x100) (w / 0x10000 % 0x100) ((v / 0x100 % 0x100) ∷ (v % 0x100) ∷ x) ((w / 0x100 % 0x100) ∷ (w % 0x100) ∷ y) p.1 in
    let r = cons_one (v / 0x100 % 0x100) (w / 0x100 % 0x100) ((v % 0x100) ∷ x) ((w % 0x100) ∷ y) q.1 in
    let s = cons_one (v % 0x100) (w % 0x100) x y r.1 in
    (omega (arith, p.0, q.0, r.0, s.0), s.1)

pub compressed_free : (v w : ℕ) (x y : List ℕ) → v < 2 ^ 29 → w < 2 ^ 29 → compressed v ++ x ≡ compressed w ++ y → (v ≡ w) × (x ≡ y)
compressed_free v w x y l m e = free_by v w x y l m (form_of v) (form_of w) e
