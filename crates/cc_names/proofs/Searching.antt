-- A search through pairs, step by step.
use Rattle.std.proofs.Common.{◌≡◌, ◌⊎◌, inl, inr, ℕ, zero, suc, ◌+◌, ◌-◌, ◌<◌, ◌≤◌, List, [], ◌∷◌, ◌++◌, Bool, true, false, cond, Option, Some, None, refl, sym, ap, subst, ◌∙◌, arith, length, take, get_or}
use Rattle.std.proofs.lemmas.List.{take_more}
use Rattle.std.proofs.lemmas.Option.{slice_get_within}
use mathlib.Core.Logic.{⊎_elim}
use Rattle.std.specs.Prelude.{slice_get}
use Rattle.std.specs.Str.{bytes_eq}
use Rattle.std.specs.Cmp.Lexicographic.{bytes_decides}
use Rattle.cc_names.specs.Keys.{Ways, places, places_from, leads_within, leads}
use Rattle.cc_names.specs.Reaching.{In, Searched}
use Rattle.cc_names.proofs.Leading.{step_front, step_back, here, at_most, never}
use Rattle.cc_names.proofs.Marking.{kept_on, last_in, only_on}

nothing_there : {A : Type 0} (x : A) → None ≡ Some x → ⊥
nothing_there x e = cc

one_value : (o : Option ℕ) (x y : ℕ) → o ≡ Some x → o ≡ Some y → x ≡ y
one_value o x y e f = cc

one_name : (o : Option (List ℕ)) (x y : List ℕ) → o ≡ Some x → o ≡ Some y → x ≡ y
one_name o x y e f = cc

place_of : (b : Bool) (n : ℕ) (all : List ℕ) (at pair : ℕ) → slice_get (cond b (n ∷ all) all) at ≡ Some pair → (pair ≡ n) ⊎ (In all pair)
place_of true n all zero pair e =
    let same : n ≡ pair = cc in
    inl (sym same)
place_of true n all (suc at) pair e = inr (at, e)
place_of false n all at pair e = inr (at, e)

bound_from : (n : ℕ) (keys : List (List ℕ)) (key : List ℕ) (at pair : ℕ) → slice_get (places_from n keys key) at ≡ Some pair → pair < n + length keys
bound_from n [] key at pair e = absurd (nothing_there pair e)
bound_from n (one ∷ keys) key at pair e =
    ⊎_elim
    (λ same. omega arith)
    (λ found.
    let rest : pair < suc n + length keys = bound_from (suc n) keys key found.0 pair found.1 in
    omega arith)
    (place_of (bytes_eq one key) n (places_from (suc n) keys key) at pair e)

pub bound : (keys : List (List ℕ)) (key : List ℕ) (pair : ℕ) → In (places keys key) pair → pair < length keys
bound keys key pair found =
    let within : pair < 0 + length keys = bound_from 0 keys key found.0 pair found.1 in
    omega arith

-- What adding pairs to a list of pairs does.
abbrev pub Kept : List ℕ → List ℕ → Type 0
Kept old new = (at pair : ℕ) → slice_get old at ≡ Some pair → slice_get new at ≡ Some pair

abbrev pub Added : List ℕ → ℕ → List ℕ → Type 0
Added numbers count new = (pair : ℕ) → In numbers pair → pair < count → In new pair

abbrev pub Only : List ℕ → List ℕ → List ℕ → Type 0
Only numbers old new = (at pair : ℕ) → slice_get new at ≡ Some pair → (slice_get old at ≡ Some pair) ⊎ ((length old ≤ at) × In numbers pair)

last : (at done : ℕ) → at < done + 1 → (at < done) ⊎ (at ≡ done)
last zero zero h = inr refl
last zero (suc done) h = inl (omega arith)
last (suc at) zero h = absurd (omega arith)
last (suc at) (suc done) h = ⊎_elim (λ less. inl (omega arith)) (λ same. inr (ap suc same)) (last at done (omega arith))

module _ (ways : Ways) (from to : List ℕ) where
  -- the pairs of the first name, and no others
  pub begun : (count : ℕ) (order : List ℕ) → length ways.firsts ≤ count → Added (places ways.firsts from) count order → Only (places ways.firsts from) [] order → Searched ways from to order 0
  begun count order size added only = record {
    start = λ pair found.
        let within : pair < length ways.firsts = bound ways.firsts from pair found in
        added pair found (omega arith);
    onward = λ at pair name other less e f found. absurd (omega arith);
    apart = λ at pair name less e f. absurd (omega arith);
    led = λ at pair name e f.
        ⊎_elim
        (λ old. absurd (nothing_there pair old))
        (λ new. step_front ways at from name name pair new.1 f (here ways at name))
        (only at pair e);
  }

  module _ (order : List ℕ) (done pair : ℕ) (searched : Searched ways from to order done) (this : slice_get order done ≡ Some pair) where
    is_this : (at one : ℕ) → at ≡ done → slice_get order at ≡ Some one → pair ≡ one
    is_this at one same e = one_value (slice_get order done) pair one this (ap (slice_get order) (sym same) ∙ e)

    gone_name : (at one : ℕ) (name : List ℕ) → at ≡ done → slice_get order at ≡ Some one → slice_get ways.seconds pair ≡ None → slice_get ways.seconds one ≡ Some name → ⊥
    gone_name at one name same e gone f = nothing_there name (sym gone ∙ ap (slice_get ways.seconds) (is_this at one same e) ∙ f)

    -- a pair whose second is no name
    pub skipped : slice_get ways.seconds pair ≡ None → Searched ways from to order (done + 1)
    skipped gone = record {
      start = searched.start;
      onward = λ at one name other less e f found.
          ⊎_elim (λ before. searched.onward at one name other before e f found) (λ same. absurd (gone_name at one name same e gone f)) (last at done less);
      apart = λ at one name less e f. ⊎_elim (λ before. searched.apart at one name before e f) (λ same. absurd (gone_name at one name same e gone f)) (last at done less);
      led = searched.led;
    }

    -- a pair whose second is a name, and the pairs of that name
    module _ (name : List ℕ) (second : slice_get ways.seconds pair ≡ Some name) where
      same_name : (at one : ℕ) (other : List ℕ) → at ≡ done → slice_get order at ≡ Some one → slice_get ways.seconds one ≡ Some other → other ≡ name
      same_name at one other same e f = one_name (slice_get ways.seconds pair) other name (ap (slice_get ways.seconds) (is_this at one same e) ∙ f) second

      pub arrived : done < length ways.firsts → bytes_eq name to ≡ true → leads ways from to ≡ true
      arrived within e =
          at_most ways (suc done) (length ways.firsts) from to (omega arith)
          (subst (λ there. leads_within (suc done) ways from there ≡ true) ((bytes_decides name to).0 e) (searched.led done pair name this second))

      module _ (new : List ℕ) (count : ℕ) (size : length ways.firsts ≤ count) (kept : Kept order new) (added : Added (places ways.firsts name) count new) (only : Only (places ways.firsts name) order new) where
        carried : (one : ℕ) → In order one → In new one
        carried one found = (found.0, kept found.0 one found.1)

        within : done < length order
        within = slice_get_within order done pair this

        too_far : (at : ℕ) → length order ≤ at → at < done + 1 → ⊥
        too_far at far less =
            let inside : done < length order = within in
            omega arith

        was_there : (at one : ℕ) → at < done + 1 → slice_get new at ≡ Some one → slice_get order at ≡ Some one
        was_there at one less e = ⊎_elim (λ old. old) (λ further. absurd (too_far at further.0 less)) (only at one e)

        all_added : (one : ℕ) → In (places ways.firsts name) one → In new one
        all_added one found =
            let less : one < length ways.firsts = bound ways.firsts name one found in
            added one found (omega arith)

        further : (at one : ℕ) (other : List ℕ) → (length order ≤ at) → In (places ways.firsts name) one → slice_get ways.seconds one ≡ Some other → leads_within (suc at) ways from other ≡ true
        further at one other far found f =
            let inside : done < length order = within in
            at_most ways (suc (suc done)) (suc at) from other (omega arith) (step_back ways (suc done) from name other one (searched.led done pair name this second) found f)

        pub searched_on : bytes_eq name to ≡ false → Searched ways from to new (done + 1)
        searched_on differs = record {
          start = λ one found. carried one (searched.start one found);
          onward = λ at one next other less e f found.
              ⊎_elim
              (λ before. carried other (searched.onward at one next other before (was_there at one less e) f found))
              (λ same. all_added other (subst (λ there. In (places ways.firsts there) other) (same_name at one next same (was_there at one less e) f) found))
              (last at done less);
          apart = λ at one next less e f.
              ⊎_elim
              (λ before. searched.apart at one next before (was_there at one less e) f)
              (λ same. ap (λ there. bytes_eq there to) (same_name at one next same (was_there at one less e) f) ∙ differs)
              (last at done less);
          led = λ at one next e f. ⊎_elim (λ old. searched.led at one next old f) (λ new. further at one next new.0 new.1 f) (only at one e);
        }

  before : (order : List ℕ) (done : ℕ) → length order ≤ done → (at pair : ℕ) → slice_get order at ≡ Some pair → at < done
  before order done all at pair e =
      let inside : at < length order = slice_get_within order at pair e in
      omega arith

  -- where all that were reached are gone through, the name is not led to
  pub ended : (order : List ℕ) (done : ℕ) → Searched ways from to order done → length order ≤ done → bytes_eq from to ≡ false → leads ways from to ≡ false
  ended order done searched all differs =
      never ways from to order differs searched.start
      (λ pair name other found e there. searched.onward found.0 pair name other (before order done all found.0 pair found.1) found.1 e there)
      (λ pair name found e. searched.apart found.0 pair name (before order done all found.0 pair found.1) found.1 e)
      (length ways.firsts)

-- Adding the pairs of a list, one after another.
longer : (old new : List ℕ) → Kept old new → length old ≤ length new
longer [] new kept = omega arith
longer (one ∷ old) [] kept = absurd (nothing_there one (kept 0 one refl))
longer (one ∷ old) (other ∷ new) kept =
    let rest : length old ≤ length new = longer old new (λ at pair e. kept (suc at) pair e) in
    let all : suc (length old) ≤ suc (length new) = omega arith in
    all

in_more : (numbers : List ℕ) (number pair : ℕ) → In numbers pair → In (numbers ++ number ∷ []) pair
in_more numbers number pair found = (found.0, kept_on numbers number found.0 pair found.1)

pub added_step : (numbers : List ℕ) (i count : ℕ) (middle new : List ℕ) → i < length numbers → Added (take i numbers) count middle → Kept middle new
    → (get_or numbers i 0 < count → In new (get_or numbers i 0)) → Added (take (i + 1) numbers) count new
added_step numbers i count middle new h before kept this pair found less =
    let there : In (take i numbers ++ get_or numbers i 0 ∷ []) pair = subst (λ (l : List ℕ). In l pair) (take_more numbers i 0 h) found in
    ⊎_elim
    (λ old. let was : In middle pair = before pair (there.0, old) less in (was.0, kept was.0 pair was.1))
    (λ last. subst (λ (n : ℕ). In new n) (sym last.1) (this (subst (λ (n : ℕ). n < count) last.1 less)))
    (only_on (take i numbers) (get_or numbers i 0) there.0 pair there.1)

pub only_step : (numbers : List ℕ) (i : ℕ) (old middle new : List ℕ) → i < length numbers → Kept old middle → Only (take i numbers) old middle
    → ((at pair : ℕ) → slice_get new at ≡ Some pair → (slice_get middle at ≡ Some pair) ⊎ ((length middle ≤ at) × (pair ≡ get_or numbers i 0))) → Only (take (i + 1) numbers) old new
only_step numbers i old middle new h kept before this at pair e =
    let taken : take i numbers ++ get_or numbers i 0 ∷ [] ≡ take (i + 1) numbers = sym (take_more numbers i 0 h) in
    let grown : length old ≤ length middle = longer old middle kept in
    let late : In (take i numbers ++ get_or numbers i 0 ∷ []) (get_or numbers i 0) = last_in (take i numbers) (get_or numbers i 0) in
    ⊎_elim
    (λ was. ⊎_elim (λ first. inl first) (λ later. inr (later.0, subst (λ (l : List ℕ). In l pair) taken (in_more (take i numbers) (get_or numbers i 0) pair later.1))) (before at pair was))
    (λ last. inr (omega (arith, last.0, grown), subst (λ (l : List ℕ). In l pair) taken (subst (λ (n : ℕ). In (take i numbers ++ get_or numbers i 0 ∷ []) n) (sym last.1) late)))
    (this at pair e)

-- past the end of a list is nothing, and only there
pub past_end : (xs : List ℕ) (at : ℕ) → slice_get xs at ≡ None → length xs ≤ at
past_end [] at e = omega arith
past_end (x ∷ xs) zero e = absurd (nothing_there x (sym e))
past_end (x ∷ xs) (suc at) e =
    let rest : length xs ≤ at = past_end xs at e in
    let all : suc (length xs) ≤ suc at = omega arith in
    all

pub only_from : (numbers all old start new : List ℕ) → numbers ≡ all → old ≡ start → Only numbers old new → Only all start new
only_from numbers all old start new e f only = subst (λ (l : List ℕ). Only all l new) f (subst (λ (l : List ℕ). Only l old new) e only)

pub added_from : (numbers all : List ℕ) (size count : ℕ) (new : List ℕ) → numbers ≡ all → size ≡ count → Added numbers size new → Added all count new
added_from numbers all size count new e f added = subst (λ (n : ℕ). Added all n new) f (subst (λ (l : List ℕ). Added l size new) e added)
