-- The root and the headers of the streams as fields.
use Rattle.std.proofs.Common.{◌≡◌, ℕ, Bool, true, false, leb, ◌&&◌, min, List, [], ◌∷◌, ◌++◌, refl, ap, ◌∙◌, append_assoc}
use Rattle.std.specs.List.{AllByRecursion}
use Rattle.std.proofs.lemmas.Bool.{leb-true}
use Rattle.cc_layout.specs.declared.field.Field.{Field}
use Rattle.cc_layout.specs.Layout.{HasWidth, peeked}
use Rattle.cc_tables.specs.declared.headers.StreamLengths.{StreamLengths}
use Rattle.cc_tables.specs.Faults.{whole, lengths_in, headers}

has_widths : List Field → Bool
has_widths [] = true
has_widths (f ∷ fields) = leb 1 f.width && leb f.width 8 && has_widths fields

both : (a b : Bool) → (a && b) ≡ true → (a ≡ true) × (b ≡ true)
both true true e = (refl, refl)
both true false e = absurd cc
both false b e = absurd cc

widths_hold : (fields : List Field) → has_widths fields ≡ true → AllByRecursion HasWidth fields
unfolding has_widths
widths_hold [] e = tt
widths_hold (f ∷ fields) e =
    let p = both (leb 1 f.width && leb f.width 8) (has_widths fields) e in
    let q = both (leb 1 f.width) (leb f.width 8) p.0 in
    ((leb-true _ _ q.0, leb-true _ _ q.1), widths_hold fields p.1)

pub header_widths : (s : StreamLengths) → AllByRecursion HasWidth (headers s)
unfolding headers has_widths
header_widths s = widths_hold (headers s) refl

pub pushed_four : (X : Type 0) (old one two three new a b c d all : List X) → one ≡ old ++ a → two ≡ one ++ b → three ≡ two ++ c → new ≡ three ++ d → a ++ (b ++ (c ++ d)) ≡ all → new ≡ old ++ all
pushed_four X old one two three new a b c d all e f g h k =
    h ∙ ap (λ (x : List X). x ++ d) (g ∙ ap (λ (x : List X). x ++ c) (f ∙ ap (λ (x : List X). x ++ b) e))
    ∙ append_assoc ((old ++ a) ++ b) c d ∙ append_assoc (old ++ a) b (c ++ d) ∙ append_assoc old a (b ++ (c ++ d)) ∙ ap (λ (x : List X). old ++ x) k

pub lengths_known : (bytes : List ℕ) (tables strings user_strings blobs : ℕ) → tables ≡ whole (peeked 4 36 bytes) → strings ≡ whole (peeked 4 48 bytes) → user_strings ≡ min (whole (peeked 4 68 bytes)) 0xFFFFFC
    → blobs ≡ whole (peeked 4 96 bytes) → ◌≡◌ {A = StreamLengths} (record { tables = tables; strings = strings; user_strings = user_strings; blobs = blobs }) (lengths_in bytes)
unfolding lengths_in
lengths_known bytes tables strings user_strings blobs a b c d = λ i. record { tables = a i; strings = b i; user_strings = c i; blobs = d i }
