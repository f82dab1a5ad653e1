-- Typed statements and sections as lists, as the rows that trees hold, and one after another.
use Rattle.std.proofs.Common.{◌≡◌, ℕ, ◌+◌, ◌-◌, ◌<◌, ◌≤◌, refl, sym, ap, ◌∙◌, List, [], ◌∷◌, ◌++◌, Bool, false, map, length, drop, get_or, eqb, Ok, Err, arith, add-one, suc, drop-cons, length-drop}
use Rattle.std.proofs.Math.ListN.{drop_of_length-le}
use Rattle.std.proofs.lemmas.Bool.Decides.{nat_tests}
use Rattle.cc_core.specs.declared.tree.Section.{Section}
use Rattle.cc_core.specs.declared.tree.Statement.{Statement}
use Rattle.cc_core.specs.declared.tree.SwitchLabel.{SwitchLabel}
use Rattle.cc_core.specs.Bare.{step_of}
use Rattle.cc_core.specs.Lists.{steps_of, sections_of}
use Rattle.cc_core.specs.Step as step
use Rattle.cc_core.specs.Step.{Step}
use Rattle.cc_tree.specs.declared.type_name.FundamentalType.{FundamentalType}
use Rattle.cc_operations.specs.declared.judged.Refusal.{Refusal}
use Rattle.cc_operations.specs.declared.source.Source.{Source}
use Rattle.cc_operations.specs.declared.source.Frame.{Frame}
use Rattle.cc_operations.specs.Choosing.{Pick}
use Rattle.cc_terms.specs.Resolving.{Finds}
use Rattle.cc_statements.specs.declared.stand.Stand.{Stand}
use Rattle.cc_statements.specs.Steps.{Typed, Part, Branch, Made, in_row, section, sections, steps_from, steps_bare, made_of, sections_from, sections_bare, none_behind}
use Rattle.cc_statements.proofs.Going.{ended, went}

pub steps_same : (steps : List Statement) → steps_of steps ≡ steps_from (steps_bare steps)
steps_same [] = refl
steps_same (one ∷ more) = ap (step.next_step (step_of one)) (steps_same more)

pub sections_same : (sections : List Section) → sections_of sections ≡ sections_from (sections_bare sections)
sections_same [] = refl
sections_same (one ∷ more) =
    ap (λ body. step.next_section one.labels body (sections_of more)) (steps_same one.body) ∙ ap (step.next_section one.labels (steps_from (steps_bare one.body))) (sections_same more)

pub steps_joined : (done more : List Statement) → steps_bare (done ++ more) ≡ steps_bare done ++ steps_bare more
steps_joined [] more = refl
steps_joined (one ∷ done) more = ap (λ (s : List Step). step_of one ∷ s) (steps_joined done more)

sections_joined : (done : List Section) (one : Section) → sections_bare (done ++ one ∷ []) ≡ sections_bare done ++ made_of one ∷ []
sections_joined [] one = refl
sections_joined (before ∷ done) one = ap (λ (s : List Made). made_of before ∷ s) (sections_joined done one)

-- what is left of a list from an element on
drop_here : {A : Type 0} (xs : List A) (i : ℕ) (x : A) → i < length xs → x ≡ get_or xs i x → drop i xs ≡ x ∷ drop (i + 1) xs
drop_here xs i x h is = drop-cons xs i x h ∙ ap (λ y. y ∷ drop (suc i) xs) (sym is) ∙ ap (λ n. x ∷ drop n xs) (sym (add-one i))

-- ---- statements in a row

module _ {A : Type 0} (part : A → Part) (stand : Stand) (xs : List A) (i : ℕ) where
  abbrev rest : List Step → Frame → Typed (List Step)
  rest done frame = in_row stand (map part (drop i xs)) done frame

  abbrev rest_behind : List Step → List Step × Frame → Typed (List Step)
  rest_behind done made = in_row stand (map part (drop (i + 1) xs)) (done ++ made.0) made.1

  pub row_gone : (x : A) (done : List Step) (frame : Frame) (refusal : Refusal) → i < length xs → x ≡ get_or xs i x → Err refusal ≡ part x stand frame → Err refusal ≡ rest done frame
  row_gone x done frame refusal h is e =
      ended (part x stand frame) refusal (rest_behind done) e ∙ sym (ap (λ (ys : List A). in_row stand (map part ys) done frame) (drop_here xs i x h is))

  pub row_more : (x : A) (done made all : List Statement) (frame after : Frame) → i < length xs → x ≡ get_or xs i x → Ok (steps_bare made, after) ≡ part x stand frame → all ≡ done ++ made
      → in_row stand (map part (drop (i + 1) xs)) (steps_bare all) after ≡ rest (steps_bare done) frame
  row_more x done made all frame after h is e joined =
      went (part x stand frame) (steps_bare made, after) (rest_behind (steps_bare done)) (in_row stand (map part (drop (i + 1) xs)) (steps_bare all) after) e
      (ap (λ (s : List Step). in_row stand (map part (drop (i + 1) xs)) s after) (ap steps_bare joined ∙ steps_joined done made))
      ∙ sym (ap (λ (ys : List A). in_row stand (map part ys) (steps_bare done) frame) (drop_here xs i x h is))

  pub row_done : (done : List Step) (frame : Frame) → length xs ≤ i → Ok (done, frame) ≡ rest done frame
  row_done done frame h = sym (ap (λ (ys : List A). in_row stand (map part ys) done frame) (drop_of_length-le xs h))

-- ---- sections, one after another

not_nothing : (n : ℕ) → false ≡ eqb (suc n) 0
not_nothing n = grind (arith, nat_tests)

nothing_left : {A : Type 0} (ys : List A) → none_behind ys ≡ eqb (length ys) 0
nothing_left [] = refl
nothing_left (y ∷ ys) = not_nothing (length ys)

mapped_left : {A B : Type 0} (f : A → B) (ys : List A) → none_behind (map f ys) ≡ none_behind ys
mapped_left f [] = refl
mapped_left f (y ∷ ys) = refl

tests_same : (m n : ℕ) → m ≤ n → eqb m n ≡ eqb (n - m) 0
tests_same m n h = grind (arith, nat_tests)

module _ (pick : Pick) (finds : Finds) (source : Source) {A : Type 0} (operand : FundamentalType) (branch : A → Branch) (stand : Stand) (xs : List A) (i : ℕ) where
  abbrev all_from : List SwitchLabel → List A → List Made → Frame → Typed (List Made)
  all_from seen ys done frame = sections pick finds source operand seen (map branch ys) done stand frame

  last_is : i < length xs → eqb (i + 1) (length xs) ≡ none_behind (map branch (drop (i + 1) xs))
  last_is h =
      tests_same (i + 1) (length xs) (omega arith) ∙ ap (λ n. eqb n 0) (sym (length-drop (i + 1) xs)) ∙ sym (nothing_left (drop (i + 1) xs)) ∙ sym (mapped_left branch (drop (i + 1) xs))

  abbrev sections_behind : List SwitchLabel → List Made → Made × Frame → Typed (List Made)
  sections_behind seen done made = all_from (seen ++ made.0.labels) (drop (i + 1) xs) (done ++ made.0 ∷ []) made.1

  abbrev this_section : List SwitchLabel → Bool → A → Frame → Typed Made
  this_section seen is_last x frame = section pick finds source operand seen is_last (branch x) stand frame

  pub sections_gone : (x : A) (seen : List SwitchLabel) (done : List Made) (frame : Frame) (is_last : Bool) (refusal : Refusal)
      → i < length xs → x ≡ get_or xs i x → is_last ≡ eqb (i + 1) (length xs) → Err refusal ≡ this_section seen is_last x frame → Err refusal ≡ all_from seen (drop i xs) done frame
  sections_gone x seen done frame is_last refusal h is last e =
      ended (this_section seen (none_behind (map branch (drop (i + 1) xs))) x frame) refusal (sections_behind seen done) (e ∙ ap (λ (b : Bool). this_section seen b x frame) (last ∙ last_is h))
      ∙ sym (ap (λ (ys : List A). all_from seen ys done frame) (drop_here xs i x h is))

  pub sections_more : (x : A) (seen with_more : List SwitchLabel) (done all : List Section) (made : Section) (frame after : Frame) (is_last : Bool)
      → i < length xs → x ≡ get_or xs i x → is_last ≡ eqb (i + 1) (length xs) → Ok (made_of made, after) ≡ this_section seen is_last x frame → with_more ≡ seen ++ made.labels → all ≡ done ++ made ∷ []
      → all_from with_more (drop (i + 1) xs) (sections_bare all) after ≡ all_from seen (drop i xs) (sections_bare done) frame
  sections_more x seen with_more done all made frame after is_last h is last e labels joined =
      went (this_section seen (none_behind (map branch (drop (i + 1) xs))) x frame) (made_of made, after) (sections_behind seen (sections_bare done)) (all_from with_more (drop (i + 1) xs) (sections_bare all) after)
      (e ∙ ap (λ (b : Bool). this_section seen b x frame) (last ∙ last_is h))
      (ap (λ (s : List SwitchLabel). all_from s (drop (i + 1) xs) (sections_bare all) after) labels
      ∙ ap (λ (s : List Made). all_from (seen ++ made.labels) (drop (i + 1) xs) s after) (ap sections_bare joined ∙ sections_joined done made))
      ∙ sym (ap (λ (ys : List A). all_from seen ys (sections_bare done) frame) (drop_here xs i x h is))

  pub sections_done : (seen : List SwitchLabel) (done : List Made) (frame : Frame) → length xs ≤ i → Ok (done, frame) ≡ all_from seen (drop i xs) done frame
  sections_done seen done frame h = sym (ap (λ (ys : List A). all_from seen ys done frame) (drop_of_length-le xs h))
