-- Types and pairs, gathered one after another.
use Rattle.std.proofs.Common.{◌≡◌, ℕ, suc, ◌+◌, ◌<◌, List, [], ◌∷◌, ◌++◌, Option, None, Some, map, drop, length, get_or, refl, sym, ap, ◌∙◌, append_assoc, add-one, drop-cons}
use Rattle.std.proofs.lemmas.List.{map-append}
use Rattle.cc_names.specs.declared.known.Known.{Known}
use Rattle.cc_names.specs.declared.space.Types.{Types}
use Rattle.cc_names.specs.declared.ways.Pairs.{Pairs}
use Rattle.cc_names.specs.declared.standing.Standing.{Standing}
use Rattle.cc_tree.specs.declared.class.Class.{Class}
use Rattle.cc_names.specs.Classes.{Placed, placed, ways_of}
use Rattle.cc_names.specs.Keys.{Ways}
use Rattle.cc_names.specs.Outermost.{Path, within}
use Rattle.cc_names.specs.Outermost as spec
use Rattle.cc_names.specs.Refusals.{class_list, class_of, classes_of}
use Rattle.cc_names.specs.Types.{Named}
use Rattle.cc_names.specs.Spaces.{with_types, with_pairs, after_pairs}
use Rattle.cc_names.specs.Told.{told, told_one, told_all}

pub with_more : (types : Types) (first second : List Named) → with_types (with_types types first) second ≡ with_types types (first ++ second)
with_more types first second =
    let all_types = map-append (λ (one : Named). one.type_) first second in
    let all_names = map-append (λ (one : Named). one.name) first second in
    rw (all_types, all_names, append_assoc, append_assoc) refl

pub with_one : (types : Types) (one : Named) (more : List Named) → with_types (with_types types (one ∷ [])) more ≡ with_types types (one ∷ more)
with_one types one more = with_more types (one ∷ []) more

pub pairs_more : (pairs : Pairs) (name : List ℕ) (first second : List (List ℕ)) → with_pairs (with_pairs pairs name first) name second ≡ with_pairs pairs name (first ++ second)
pairs_more pairs name first second =
    let all_names = map-append (λ (second : List ℕ). name) first second in
    rw (all_names, append_assoc, append_assoc) refl

pub pairs_before : (pairs : Pairs) (name : List ℕ) (some : List (List ℕ)) (more : Ways) → after_pairs (with_pairs pairs name some) more ≡ after_pairs pairs (record { firsts = map (λ second. name) some ++ more.firsts; seconds = some ++ more.seconds })
pairs_before pairs name some more = rw (append_assoc, append_assoc) refl

-- a loop over what stands outside classes
pub next_told : (all : List Standing) (i : ℕ) (one : Standing) → i < length all → one ≡ get_or all i one → told_all (drop i all) ≡ told_one one ∷ told_all (drop (i + 1) all)
next_told all i one h is =
    let opened = drop-cons all i one h in
    let here = sym is in
    rw (add-one, opened, here) refl

-- ways over the classes among what stands outside classes
module _ (seconds : Path → Class → List (List ℕ)) where
  pub ways_taken : (pairs : Pairs) (path : Path) (class : Class) (more : List Placed) → after_pairs (with_pairs pairs (within path class.name.name) (seconds path class)) (ways_of seconds more) ≡ after_pairs pairs (ways_of seconds (placed path class ∷ more))
  ways_taken pairs path class more = pairs_before pairs (within path class.name.name) (seconds path class) (ways_of seconds more)

  -- pairs, and after them those of a class, where there is one
  abbrev pub with_found : Pairs → Path → Option Class → Pairs
  with_found pairs path None = pairs
  with_found pairs path (Some class) = with_pairs pairs (within path class.name.name) (seconds path class)

  pub ways_of_one : (pairs : Pairs) (one : spec.Standing) (more : List spec.Standing) (found : Option Class) → class_list found ≡ class_of one.what → after_pairs (with_found pairs one.path found) (ways_of seconds (classes_of more)) ≡ after_pairs pairs (ways_of seconds (classes_of (one ∷ more)))
  ways_of_one pairs one more None is = ap (λ (l : List Class). after_pairs pairs (ways_of seconds (map (placed one.path) l ++ classes_of more))) is
  ways_of_one pairs one more (Some class) is = ways_taken pairs one.path class (classes_of more) ∙ ap (λ (l : List Class). after_pairs pairs (ways_of seconds (map (placed one.path) l ++ classes_of more))) is

  pub next_ways : (all : List Standing) (i : ℕ) (one : Standing) (before after : Pairs) (found : Option Class) (whole : Ways) → i < length all → one ≡ get_or all i one → after_pairs before (ways_of seconds (classes_of (told_all (drop i all)))) ≡ whole → class_list found ≡ class_of (told one.what) → after ≡ with_found before one.path found
      → after_pairs after (ways_of seconds (classes_of (told_all (drop (i + 1) all)))) ≡ whole
  next_ways all i one before after found whole h is so_far found_is after_is =
      ap (λ (p : Pairs). after_pairs p (ways_of seconds (classes_of (told_all (drop (i + 1) all))))) after_is
      ∙ ways_of_one before (told_one one) (told_all (drop (i + 1) all)) found found_is
      ∙ sym (ap (λ (l : List spec.Standing). after_pairs before (ways_of seconds (classes_of l))) (next_told all i one h is))
      ∙ so_far
