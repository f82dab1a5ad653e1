-- A call among functions of fundamental types always has a choice.
use Rattle.std.proofs.Common.{◌≡◌, ◌⊎◌, ℕ, ◌<◌, zero, suc, List, Option, Some, None, option_map, length, slice_get, refl, sym, ap, ◌∙◌, subst, inl, inr, ⊎_elim, arith}
use Rattle.std.proofs.lemmas.Bool.{cases_eq, cases_lt}
use Rattle.std.proofs.lemmas.Option.{slice_get_within, slice_get-map}
use Rattle.cc_tree.specs.declared.type_name.FundamentalType.{FundamentalType}
use Rattle.cc_core.specs.declared.types.ClassInfo.{ClassInfo}
use Rattle.cc_core.specs.declared.types.CoreType.{CoreType}
use Rattle.cc_core.specs.Types.{bare}
use Rattle.cc_convert.specs.declared.conversion.Conversion.{Conversion}
use Rattle.cc_convert.specs.declared.overload.Signature.{Signature}
use Rattle.cc_convert.specs.declared.overload.Choice.{Choice}
use Rattle.cc_convert.specs.declared.overload.Choice.TheVariants as choice
use Rattle.cc_convert.specs.Overloads.{handed, IsPassed, IsViable, IsBetter, IsBetterAt, HasBetter, Beats, IsViableAt, BeatsAt, BeatsOthers, IsChoice}
use Rattle.cc_convert.proofs.LawProofs.{one_conversion}
use Rattle.cc_operations.specs.Numbers.{core_type}
use Rattle.cc_operations.specs.Choosing.{Types, given_types, signature_of, signatures_of}
use Rattle.cc_typing_laws.proofs.Passing.{Decided, Passed, NotPassed, passes}
use Rattle.cc_typing_laws.proofs.Lists.{no_element, same_some}

-- The first number below a bound for which a fact holds.
record First (P : ℕ → Type 0) (bound : ℕ) : Type 0 where
  at : ℕ
  within : at < bound
  holds : P at
  before : (k : ℕ) → k < at → P k → ⊥

first : (P : ℕ → Type 0) → ((k : ℕ) → Decided (P k)) → (bound : ℕ) → First P bound ⊎ ((k : ℕ) → k < bound → P k → ⊥)
first P decide zero = inr (λ k h p. absurd (omega arith))
first P decide (suc n) =
    ⊎_elim (λ (found : First P n). inl (record { at = found.at; within = omega (arith, found.within); holds = found.holds; before = found.before }))
    (λ none. ⊎_elim (λ p. inl (record { at = n; within = omega arith; holds = p; before = none }))
    (λ q. inr (λ k h p. ⊎_elim (λ e. q (subst P e p)) (λ d. none k (omega arith) p) (cases_eq k n)))
    (decide n))
    (first P decide n)

-- the type at a place of fundamental types
module _ (types : Types) (at : ℕ) where
  at_some : (of : FundamentalType) → slice_get types at ≡ Some of → slice_get (given_types types) at ≡ Some (core_type of)
  at_some of e = slice_get-map core_type types at ∙ ap (option_map core_type) e

  at_none : slice_get types at ≡ None → (type : CoreType) → slice_get (given_types types) at ≡ Some type → ⊥
  at_none e type is = no_element type (sym (slice_get-map core_type types at ∙ ap (option_map core_type) e) ∙ is)

  at_same : (of : FundamentalType) → slice_get types at ≡ Some of → (type : CoreType) → slice_get (given_types types) at ≡ Some type → core_type of ≡ type
  at_same of e type is = same_some (core_type of) type (sym (at_some of e) ∙ is)

module _ (classes : List ClassInfo) (arguments : Types) where
  -- an argument that doesn't convert for the parameter at its place
  record Bad (parameters : Types) (at : ℕ) : Type 0 where
    argument : FundamentalType
    parameter : FundamentalType
    argument_is : slice_get arguments at ≡ Some argument
    parameter_is : slice_get parameters at ≡ Some parameter
    none : NotPassed classes argument parameter

  bad_with : (parameters : Types) (at : ℕ) (a p : Option FundamentalType) → slice_get arguments at ≡ a → slice_get parameters at ≡ p → Decided (Bad parameters at)
  bad_with parameters at None p e f = inr (λ b. no_element b.argument (sym e ∙ b.argument_is))
  bad_with parameters at (Some a) None e f = inr (λ b. no_element b.parameter (sym f ∙ b.parameter_is))
  bad_with parameters at (Some a) (Some p) e f =
      ⊎_elim
      (λ (passed : Passed classes a p). inr (λ b. b.none passed.conversion (subst (λ x. IsPassed classes (core_type x) (core_type b.parameter) passed.conversion) (same_some a b.argument (sym e ∙ b.argument_is)) (subst (λ y. IsPassed classes (core_type a) (core_type y) passed.conversion) (same_some p b.parameter (sym f ∙ b.parameter_is)) passed.is))))
      (λ none. inl (record { argument = a; parameter = p; argument_is = e; parameter_is = f; none = none }))
      (passes classes a p)

  bad : (parameters : Types) (at : ℕ) → Decided (Bad parameters at)
  bad parameters at = bad_with parameters at (slice_get arguments at) (slice_get parameters at) refl refl

  -- a conversion at a place where no argument is bad
  each_with : (parameters : Types) (at : ℕ) (a p : Option FundamentalType) → slice_get arguments at ≡ a → slice_get parameters at ≡ p → (Bad parameters at → ⊥) → (argument parameter : CoreType)
      → slice_get (given_types arguments) at ≡ Some argument → slice_get (given_types parameters) at ≡ Some parameter → (conversion : Conversion) × IsPassed classes argument parameter conversion
  each_with parameters at None p e f good argument parameter g h = absurd (at_none arguments at e argument g)
  each_with parameters at (Some a) None e f good argument parameter g h = absurd (at_none parameters at f parameter h)
  each_with parameters at (Some a) (Some p) e f good argument parameter g h =
      ⊎_elim
      (λ (passed : Passed classes a p). (passed.conversion, subst (λ x. IsPassed classes x parameter passed.conversion) (at_same arguments at a e argument g) (subst (λ y. IsPassed classes (core_type a) y passed.conversion) (at_same parameters at p f parameter h) passed.is)))
      (λ none. absurd (good (record { argument = a; parameter = p; argument_is = e; parameter_is = f; none = none })))
      (passes classes a p)

  not_viable : (parameters : Types) (at : ℕ) → Bad parameters at → IsViable classes (given_types arguments) (signature_of parameters) → ⊥
  not_viable parameters at b v =
      let passed = v.each at (core_type b.argument) (core_type b.parameter) (at_some arguments at b.argument b.argument_is) (at_some parameters at b.parameter b.parameter_is) in
      b.none passed.0 passed.1

  viable : (parameters : Types) → Decided (IsViable classes (given_types arguments) (signature_of parameters))
  viable parameters =
      ⊎_elim
      (λ count. ⊎_elim
      (λ (found : First (Bad parameters) (length arguments)). inr (not_viable parameters found.at found.holds))
      (λ none. inl (record {
        same_count = count;
        each = λ at argument parameter g h. each_with parameters at (slice_get arguments at) (slice_get parameters at) refl refl
            (λ b. none at (slice_get_within arguments at b.argument b.argument_is) b) argument parameter g h;
      }))
      (first (Bad parameters) (bad parameters) (length arguments)))
      (λ n. inr (λ v. n v.same_count))
      (cases_eq (length (given_types parameters)) (length (given_types arguments)))

  -- ---- better conversions

  better_ranks : (a p q : FundamentalType) (one : Passed classes a p) (other : Passed classes a q) → Decided (IsBetter classes (core_type a) (core_type p) (core_type q))
  better_ranks a p q one other =
      ⊎_elim
      (λ less. inl (record { one = one.conversion; other = other.conversion; to_first = one.is; to_second = other.is; better = inl less }))
      (λ most. inr (λ (b : IsBetter classes (core_type a) (core_type p) (core_type q)).
      let first_same : b.one ≡ one.conversion = one_conversion classes (handed (bare (core_type a)) (bare (core_type p))) (bare (core_type p)) b.one one.conversion b.to_first one.is in
      let second_same : b.other ≡ other.conversion = one_conversion classes (handed (bare (core_type a)) (bare (core_type q))) (bare (core_type q)) b.other other.conversion b.to_second other.is in
      let e : b.one.rank ≡ one.conversion.rank = ap (λ (c : Conversion). c.rank) first_same in
      let f : b.other.rank ≡ other.conversion.rank = ap (λ (c : Conversion). c.rank) second_same in
      let low : one.conversion.rank < 3 = one.low in
      ⊎_elim (λ less. absurd (omega (arith, less, e, f, most))) (λ third. absurd (omega (arith, third.0, e, low))) b.better))
      (cases_lt one.conversion.rank other.conversion.rank)

  better : (a p q : FundamentalType) → Decided (IsBetter classes (core_type a) (core_type p) (core_type q))
  better a p q =
      ⊎_elim
      (λ one. ⊎_elim (λ other. better_ranks a p q one other) (λ none. inr (λ (b : IsBetter classes (core_type a) (core_type p) (core_type q)). none b.other b.to_second)) (passes classes a q))
      (λ none. inr (λ (b : IsBetter classes (core_type a) (core_type p) (core_type q)). none b.one b.to_first))
      (passes classes a p)

  better_with : (first_types second_types : Types) (at : ℕ) (a p q : Option FundamentalType) → slice_get arguments at ≡ a → slice_get first_types at ≡ p → slice_get second_types at ≡ q
      → Decided (IsBetterAt classes (given_types arguments) (given_types first_types) (given_types second_types) at)
  better_with first_types second_types at None p q e f g = inr (λ b. at_none arguments at e b.argument b.argument_is)
  better_with first_types second_types at (Some a) None q e f g = inr (λ b. at_none first_types at f b.one b.one_is)
  better_with first_types second_types at (Some a) (Some p) None e f g = inr (λ b. at_none second_types at g b.other b.other_is)
  better_with first_types second_types at (Some a) (Some p) (Some q) e f g =
      ⊎_elim
      (λ is. inl (record { argument = core_type a; one = core_type p; other = core_type q; argument_is = at_some arguments at a e; one_is = at_some first_types at p f; other_is = at_some second_types at q g; better = is }))
      (λ not. inr (λ b. not (subst (λ x. IsBetter classes x (core_type p) (core_type q)) (sym (at_same arguments at a e b.argument b.argument_is))
      (subst (λ x. IsBetter classes b.argument x (core_type q)) (sym (at_same first_types at p f b.one b.one_is))
      (subst (λ x. IsBetter classes b.argument b.one x) (sym (at_same second_types at q g b.other b.other_is)) b.better)))))
      (better a p q)

  better_at : (first_types second_types : Types) (at : ℕ) → Decided (IsBetterAt classes (given_types arguments) (given_types first_types) (given_types second_types) at)
  better_at first_types second_types at = better_with first_types second_types at (slice_get arguments at) (slice_get first_types at) (slice_get second_types at) refl refl refl

  has_better : (first_types second_types : Types) → Decided (HasBetter classes (given_types arguments) (given_types first_types) (given_types second_types))
  has_better first_types second_types =
      ⊎_elim
      (λ (found : First (IsBetterAt classes (given_types arguments) (given_types first_types) (given_types second_types)) (length (given_types arguments))). inl (found.at, found.holds))
      (λ none. inr (λ b. none b.0 (slice_get_within (given_types arguments) b.0 b.1.argument b.1.argument_is) b.1))
      (first (IsBetterAt classes (given_types arguments) (given_types first_types) (given_types second_types)) (better_at first_types second_types) (length (given_types arguments)))

  beats : (first_types second_types : Types) → Decided (Beats classes (given_types arguments) (signature_of first_types) (signature_of second_types))
  beats first_types second_types =
      ⊎_elim
      (λ worse. inr (λ b. b.none_worse worse))
      (λ fine. ⊎_elim (λ is. inl (record { none_worse = fine; one_better = is })) (λ not. inr (λ b. not b.one_better)) (has_better first_types second_types))
      (has_better second_types first_types)

  -- ---- candidates by their places

  module _ (candidates : List Types) where
    candidate_some : (at : ℕ) (types : Types) → slice_get candidates at ≡ Some types → slice_get (signatures_of candidates) at ≡ Some (signature_of types)
    candidate_some at types e = slice_get-map signature_of candidates at ∙ ap (option_map signature_of) e

    candidate_none : (at : ℕ) → slice_get candidates at ≡ None → (signature : Signature) → slice_get (signatures_of candidates) at ≡ Some signature → ⊥
    candidate_none at e signature is = no_element signature (sym (slice_get-map signature_of candidates at ∙ ap (option_map signature_of) e) ∙ is)

    candidate_same : (at : ℕ) (types : Types) → slice_get candidates at ≡ Some types → (signature : Signature) → slice_get (signatures_of candidates) at ≡ Some signature → signature ≡ signature_of types
    candidate_same at types e signature is = same_some signature (signature_of types) (sym is ∙ candidate_some at types e)

    viable_with : (at : ℕ) (found : Option Types) → slice_get candidates at ≡ found → Decided (IsViableAt classes (given_types arguments) (signatures_of candidates) at)
    viable_with at None e = inr (λ v. candidate_none at e v.signature v.is)
    viable_with at (Some types) e =
        ⊎_elim (λ is. inl (record { signature = signature_of types; is = candidate_some at types e; viable = is }))
        (λ not. inr (λ v. not (subst (IsViable classes (given_types arguments)) (candidate_same at types e v.signature v.is) v.viable)))
        (viable types)

    viable_at : (at : ℕ) → Decided (IsViableAt classes (given_types arguments) (signatures_of candidates) at)
    viable_at at = viable_with at (slice_get candidates at) refl

    beats_with : (one other : ℕ) (p q : Option Types) → slice_get candidates one ≡ p → slice_get candidates other ≡ q → Decided (BeatsAt classes (given_types arguments) (signatures_of candidates) one other)
    beats_with one other None q e f = inr (λ b. candidate_none one e b.first b.first_is)
    beats_with one other (Some p) None e f = inr (λ b. candidate_none other f b.second b.second_is)
    beats_with one other (Some p) (Some q) e f =
        ⊎_elim (λ is. inl (record { first = signature_of p; second = signature_of q; first_is = candidate_some one p e; second_is = candidate_some other q f; beats = is }))
        (λ not. inr (λ b. not (subst (λ s. Beats classes (given_types arguments) s (signature_of q)) (candidate_same one p e b.first b.first_is)
        (subst (λ s. Beats classes (given_types arguments) b.first s) (candidate_same other q f b.second b.second_is) b.beats))))
        (beats p q)

    beats_at : (one other : ℕ) → Decided (BeatsAt classes (given_types arguments) (signatures_of candidates) one other)
    beats_at one other = beats_with one other (slice_get candidates one) (slice_get candidates other) refl refl

    within : (at : ℕ) → IsViableAt classes (given_types arguments) (signatures_of candidates) at → at < length (signatures_of candidates)
    within at v = slice_get_within (signatures_of candidates) at v.signature v.is

    -- another viable candidate that one doesn't beat
    record Unbeaten (one other : ℕ) : Type 0 where
      viable : IsViableAt classes (given_types arguments) (signatures_of candidates) other
      another : other ≡ one → ⊥
      unbeaten : BeatsAt classes (given_types arguments) (signatures_of candidates) one other → ⊥

    unbeaten_at : (one other : ℕ) → Decided (Unbeaten one other)
    unbeaten_at one other =
        ⊎_elim
        (λ v. ⊎_elim (λ e. inr (λ u. u.another e))
        (λ d. ⊎_elim (λ b. inr (λ u. u.unbeaten b)) (λ n. inl (record { viable = v; another = d; unbeaten = n })) (beats_at one other))
        (cases_eq other one))
        (λ n. inr (λ u. n u.viable))
        (viable_at other)

    beaten : (one other : ℕ) → (Unbeaten one other → ⊥) → IsViableAt classes (given_types arguments) (signatures_of candidates) other → (other ≡ one → ⊥) → BeatsAt classes (given_types arguments) (signatures_of candidates) one other
    beaten one other none v d = ⊎_elim (λ b. b) (λ n. absurd (none (record { viable = v; another = d; unbeaten = n }))) (beats_at one other)

    beats_others : (one : ℕ) → First (Unbeaten one) (length (signatures_of candidates)) ⊎ BeatsOthers classes (given_types arguments) (signatures_of candidates) one
    beats_others one =
        ⊎_elim (λ found. inl found) (λ none. inr (λ other v d. beaten one other (none other (within other v)) v d)) (first (Unbeaten one) (unbeaten_at one) (length (signatures_of candidates)))

    -- the best candidate
    record Best (at : ℕ) : Type 0 where
      viable : IsViableAt classes (given_types arguments) (signatures_of candidates) at
      best : BeatsOthers classes (given_types arguments) (signatures_of candidates) at

    best_at : (at : ℕ) → Decided (Best at)
    best_at at =
        ⊎_elim
        (λ v. ⊎_elim (λ (found : First (Unbeaten at) (length (signatures_of candidates))). inr (λ b. found.holds.unbeaten (b.best found.at found.holds.viable found.holds.another)))
        (λ b. inl (record { viable = v; best = b })) (beats_others at))
        (λ n. inr (λ b. n b.viable))
        (viable_at at)

    tie_of : (one : First (IsViableAt classes (given_types arguments) (signatures_of candidates)) (length (signatures_of candidates))) → ((at : ℕ) → at < length (signatures_of candidates) → Best at → ⊥)
        → (made : Choice) × IsChoice classes (given_types arguments) (signatures_of candidates) made
    tie_of one none =
        ⊎_elim
        (λ (other : First (Unbeaten one.at) (length (signatures_of candidates))). (
          choice.Tie one.at other.at,
          record {
            viable = one.holds;
            none_before = one.before;
            unbeaten = record {
              viable = other.holds.viable;
              another = other.holds.another;
              unbeaten = other.holds.unbeaten;
              before = λ k h v d. beaten one.at k (other.before k h) v d;
            };
            no_best = λ at v b. none at (within at v) (record { viable = v; best = b });
          },
        ))
        (λ b. absurd (none one.at one.within (record { viable = one.holds; best = b })))
        (beats_others one.at)

    pub some_choice : (made : Choice) × IsChoice classes (given_types arguments) (signatures_of candidates) made
    some_choice =
        ⊎_elim
        (λ (found : First Best (length (signatures_of candidates))). (choice.One found.at, (found.holds.viable, found.holds.best)))
        (λ none. ⊎_elim (λ one. tie_of one none) (λ nothing. (choice.None, λ at v. nothing at (within at v) v))
        (first (IsViableAt classes (given_types arguments) (signatures_of candidates)) viable_at (length (signatures_of candidates))))
        (first Best best_at (length (signatures_of candidates)))
