-- The offsets at which instructions begin, as a list by offsets.
use Rattle.std.proofs.Common.{◌≡◌, ℕ, zero, suc, ◌+◌, ◌<◌, ⊎_elim, List, [], ◌∷◌, ◌++◌, length, take, refl, sym, ap, ◌∙◌, subst, arith, replicate}
use Rattle.std.specs.Prelude.{Bool, true, false, ◌||◌, ◌≢◌, get_or, set, nat_eq}
use Rattle.std.proofs.lemmas.Bool.{cases_eq, eq-eqb, ne_eqb}
use Rattle.std.specs.List.{AllByRecursion}
use Rattle.std.proofs.lemmas.List.{get_or-set_same, get_or-set_other, take_more}
use Rattle.cc_verify.specs.declared.places.Place.{Place}
use Rattle.cc_verify.specs.Places.{starts_at}
use Rattle.cc_verify.specs.Passes.{AreStarts}

or_assoc : (a b c : Bool) → (a || (b || c)) ≡ ((a || b) || c)
or_assoc true b c = refl
or_assoc false b c = refl

or_true : (a : Bool) → (a || (true || false)) ≡ true
or_true true = refl
or_true false = refl

or_false : (a : Bool) → (a || (false || false)) ≡ a
or_false true = refl
or_false false = refl

starts_snoc : (places : List Place) (p : Place) (at : ℕ) → starts_at (places ++ p ∷ []) at ≡ (starts_at places at || (nat_eq p.at at || false))
starts_snoc [] p at = refl
starts_snoc (q ∷ places) p at = ap (λ b. nat_eq q.at at || b) (starts_snoc places p at) ∙ or_assoc (nat_eq q.at at) (starts_at places at) (nat_eq p.at at || false)

none_started : (n at : ℕ) → get_or (replicate n false) at false ≡ false
none_started zero at = refl
none_started (suc n) zero = refl
none_started (suc n) (suc at) = none_started n at

pub starts_empty : (starts : List Bool) (n : ℕ) → starts ≡ replicate n false → AreStarts starts []
starts_empty starts n e at = ap (λ l. get_or l at false) e ∙ none_started n at

pub starts_more : (starts : List Bool) (places : List Place) (p : Place) → AreStarts starts places → p.at < length starts → AreStarts (set starts p.at true) (places ++ p ∷ [])
starts_more starts places p are within at =
    ⊎_elim
    (λ (q : p.at ≡ at).
    let there : get_or (set starts p.at true) p.at false ≡ true = get_or-set_same starts p.at true false within in
    let hit : starts_at (places ++ p ∷ []) p.at ≡ true = starts_snoc places p p.at ∙ ap (λ b. starts_at places p.at || (b || false)) (eq-eqb p.at p.at refl) ∙ or_true (starts_at places p.at) in
    subst (λ u. get_or (set starts p.at true) u false ≡ starts_at (places ++ p ∷ []) u) q (there ∙ sym hit))
    (λ (q : p.at ≡ at → ⊥).
    let apart : at ≢ p.at = λ e. q (sym e) in
    get_or-set_other starts p.at at true false apart ∙ are at
    ∙ sym (starts_snoc places p at ∙ ap (λ b. starts_at places at || (b || false)) (ne_eqb p.at at q) ∙ or_false (starts_at places at)))
    (cases_eq p.at at)

-- an instruction's offset
pub place_at : (places : List Place) (n i : ℕ) (d : Place) → i < length places → AllByRecursion (λ (p : Place). p.at < n) places → (get_or places i d).at < n
place_at [] n i d lt all = absurd (omega (arith, lt))
place_at (p ∷ places) n zero d lt all = all.0
place_at (p ∷ places) n (suc i) d lt all = place_at places n i d (omega (arith, lt)) all.1

-- one instruction further on
pub starts_on : (starts : List Bool) (places : List Place) (i : ℕ) (d : Place) (size : ℕ) → i < length places → AllByRecursion (λ (p : Place). p.at < size) places → length starts ≡ size → AreStarts starts (take i places)
    → AreStarts (set starts (get_or places i d).at true) (take (i + 1) places)
starts_on starts places i d size lt all long are =
    let within : (get_or places i d).at < length starts = let w = place_at places size i d lt all in omega (arith, w, long) in
    subst (λ l. AreStarts (set starts (get_or places i d).at true) l) (sym (take_more places i d lt)) (starts_more starts (take i places) (get_or places i d) are within)
