-- Bytes and the number that they stand for, both ways.
use Rattle.std.proofs.Common.{◌≡◌, ℕ, zero, suc, ◌+◌, ◌*◌, ◌/◌, ◌%◌, ◌^◌, ◌<◌, ◌≤◌, List, [], ◌∷◌, ◌++◌, length, get_or, take, refl, sym, ap, ◌∙◌, append_assoc, arith, ◌-◌}
use Rattle.std.proofs.Math.Nat.{pow-suc, pow-succ'}
use Rattle.std.proofs.lemmas.List.{append-nil}
use Rattle.byteorder.specs.Endian.{little_from}
use Rattle.byteorder.specs.Numbers.{little_from-cons}
use Rattle.std.specs.Prelude.{Result, Ok, Err, OnErr, drop}
use Rattle.cc_layout.specs.Numbers.{little_endian, value_of, AreBytes, Extends}

pub AreBytes-each : (bytes : List ℕ) → ((i : ℕ) → get_or bytes i 0 < 256) → AreBytes bytes
AreBytes-each [] h = tt
AreBytes-each (b ∷ bytes) h = (h 0, AreBytes-each bytes (λ i. h (suc i)))

pub AreBytes-append : (a b : List ℕ) → AreBytes a → AreBytes b → AreBytes (a ++ b)
AreBytes-append [] b h k = k
AreBytes-append (x ∷ a) b h k = (h.0, AreBytes-append a b h.1 k)

pub AreBytes-front : (a b : List ℕ) → AreBytes (a ++ b) → AreBytes a
AreBytes-front [] b h = tt
AreBytes-front (x ∷ a) b h = (h.0, AreBytes-front a b h.1)

pub AreBytes-back : (a b : List ℕ) → AreBytes (a ++ b) → AreBytes b
AreBytes-back [] b h = h
AreBytes-back (x ∷ a) b h = AreBytes-back a b h.1

pub little_endian-value_of : (bytes : List ℕ) → AreBytes bytes → little_endian (length bytes) (value_of bytes) ≡ bytes
little_endian-value_of [] h = refl
little_endian-value_of (b ∷ bytes) h =
    let low : (b + 256 * value_of bytes) % 256 ≡ b = omega (arith, h.0) in
    let high : (b + 256 * value_of bytes) / 256 ≡ value_of bytes = omega (arith, h.0) in
    rw (low, high, little_endian-value_of bytes h.1) refl

pub value_of-below : (bytes : List ℕ) → AreBytes bytes → value_of bytes < 256 ^ length bytes
value_of-below [] h = omega arith
value_of-below (b ∷ bytes) h =
    let rest = value_of-below bytes h.1 in
    let byte = h.0 in
    rw (pow-succ' 256 (length bytes)) (omega arith)

pub length-little_endian : (n x : ℕ) → length (little_endian n x) ≡ n
length-little_endian zero x = refl
length-little_endian (suc n) x = ap suc (length-little_endian n (x / 256))

pub value_of-little_endian : (n x : ℕ) → x < 256 ^ n → value_of (little_endian n x) ≡ x
value_of-little_endian zero x h = omega arith
value_of-little_endian (suc n) x h =
    let h2 : x < 256 ^ n * 256 = rw pow-suc at h in
    let ih = value_of-little_endian n (x / 256) (omega arith) in
    rw ih (omega arith)

-- what `read_uint` reads
pub little_from-value_of : (n : ℕ) (bytes : List ℕ) → n ≤ length bytes → little_from 0 n bytes ≡ value_of (take n bytes)
little_from-value_of zero bytes h = refl
little_from-value_of (suc n) [] h = absurd (omega arith)
little_from-value_of (suc n) (b ∷ bytes) h =
    let moved = little_from-cons 0 n b bytes in
    let ih = little_from-value_of n bytes (omega arith) in
    rw (moved, ih) refl

-- one byte more is written
pub write_step : (width i rest : ℕ) (out after total : List ℕ) → i < width → out ++ little_endian (width - i) rest ≡ total
    → after ≡ out ++ rest % 256 ∷ [] → after ++ little_endian (width - (i + 1)) (rest / 256) ≡ total
write_step width i rest out after total lt so_far is =
    let k : width - i ≡ suc (width - (i + 1)) = omega arith in
    let one : out ++ little_endian (suc (width - (i + 1))) rest ≡ total = rw k at so_far in
    ap (λ (x : List ℕ). x ++ little_endian (width - (i + 1)) (rest / 256)) is ∙ append_assoc out (rest % 256 ∷ []) (little_endian (width - (i + 1)) (rest / 256)) ∙ one

pub AreBytes-take : (n : ℕ) (bytes : List ℕ) → AreBytes bytes → AreBytes (take n bytes)
AreBytes-take zero bytes h = tt
AreBytes-take (suc n) [] h = tt
AreBytes-take (suc n) (b ∷ bytes) h = (h.0, AreBytes-take n bytes h.1)

pub number_start : (width value : ℕ) (old : List ℕ) → (added : List ℕ) × (old ≡ old ++ added) × (added ++ little_endian (width - 0) value ≡ little_endian width value)
number_start width value old = let k : width - 0 ≡ width = omega arith in ([], sym (append-nil old), ap (λ (w : ℕ). little_endian w value) k)

pub number_done : (width i rest : ℕ) (old new added total : List ℕ) → width ≤ i → new ≡ old ++ added → added ++ little_endian (width - i) rest ≡ total → new ≡ old ++ total
number_done width i rest old new added total le e f =
    let k : width - i ≡ 0 = omega arith in
    e ∙ ap (λ (x : List ℕ). old ++ x) (sym (append-nil added) ∙ rw k at f)

-- ---- appends that memory stops

pub extends_none : (old new text : List ℕ) → new ≡ old → Extends old new text
extends_none old new text e = ([], text, e ∙ sym (append-nil old), refl)

pub extends_first : (old new first second : List ℕ) → Extends old new first → Extends old new (first ++ second)
extends_first old new first second (added, missing, e, f) = (added, missing ++ second, e, ap (λ (x : List ℕ). x ++ second) f ∙ append_assoc added missing second)

pub extends_second : (old middle new first second : List ℕ) → middle ≡ old ++ first → Extends middle new second → Extends old new (first ++ second)
extends_second old middle new first second e (added, missing, f, g) =
    (first ++ added, missing, f ∙ ap (λ (x : List ℕ). x ++ added) e ∙ append_assoc old first added, ap (λ (x : List ℕ). first ++ x) g ∙ sym (append_assoc first added missing))

-- numbers within their width have one spelling
pub little_endian-one : (width m n : ℕ) (x y : List ℕ) → m < 256 ^ width → n < 256 ^ width → little_endian width m ++ x ≡ little_endian width n ++ y → (m ≡ n) × (x ≡ y)
little_endian-one zero m n x y h k e = (omega (arith, h, k), e)
little_endian-one (suc width) m n x y h k e =
    let head : m % 256 ≡ n % 256 = cc in
    let tail : little_endian width (m / 256) ++ x ≡ little_endian width (n / 256) ++ y = cc in
    let h2 : m < 256 ^ width * 256 = rw pow-suc at h in
    let k2 : n < 256 ^ width * 256 = rw pow-suc at k in
    let ih = little_endian-one width (m / 256) (n / 256) x y (omega (arith, h2)) (omega (arith, k2)) tail in
    (omega (arith, head, ih.0), ih.1)

pub little_endian-take : (n m x : ℕ) → n ≤ m → take n (little_endian m x) ≡ little_endian n x
little_endian-take zero m x h = refl
little_endian-take (suc n) zero x h = absurd (omega arith)
little_endian-take (suc n) (suc m) x h = ap (λ (t : List ℕ). x % 256 ∷ t) (little_endian-take n m (x / 256) (omega arith))

pub on_err : {T E : Type 0} (result : Result T E) (P : Type 0) → P → OnErr result P
on_err (Ok value) P p = tt
on_err (Err error) P p = p

pub AreBytes-drop : (n : ℕ) (bytes : List ℕ) → AreBytes bytes → AreBytes (drop n bytes)
AreBytes-drop zero bytes h = h
AreBytes-drop (suc n) [] h = tt
AreBytes-drop (suc n) (byte ∷ bytes) h = AreBytes-drop n bytes h.1
