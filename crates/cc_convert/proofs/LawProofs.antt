-- Laws of conversions and of overloads.
use Rattle.std.proofs.Common.{◌≡◌, ℕ, ◌<◌, List, Some, option_map, map, length, get_or, slice_get, refl, sym, ap, ◌∙◌, subst, ⊎_elim, arith}
use Rattle.std.proofs.lemmas.Bool.{cases_eq, cases_lt}
use Rattle.std.proofs.lemmas.List.{length-map}
use Rattle.std.proofs.lemmas.Option.{slice_get_within, slice_get-get_or, slice_get-map}
use Rattle.cc_core.specs.declared.types.ClassInfo.{ClassInfo}
use Rattle.cc_core.specs.declared.types.CoreType.{CoreType}
use Rattle.cc_core.specs.Types.{BareType, bare}
use Rattle.cc_convert.specs.declared.conversion.Way.{Way}
use Rattle.cc_convert.specs.declared.conversion.Way.TheVariants as way
use Rattle.cc_convert.specs.declared.conversion.Conversion.{Conversion}
use Rattle.cc_convert.specs.declared.overload.Signature.{Signature}
use Rattle.cc_convert.specs.declared.overload.Choice.TheVariants as choice
use Rattle.cc_convert.specs.Conversions.{rank_of, IsConversion}
use Rattle.cc_convert.specs.Overloads.{handed, IsBetter, IsViable, IsViableAt, BeatsAt, BeatsOthers, IsTie, IsFirstUnbeaten}
use Rattle.cc_convert.specs.Laws.{OneConversion, AreEqual, OneChoice, EqualTie}
use Rattle.cc_convert.proofs.Chosen.{same_some, asymmetric}

-- a rank belongs to one way
one_way : (a b : Way) → rank_of a ≡ rank_of b → a ≡ b
one_way way.Same way.Same e = refl
one_way way.Promote way.Promote e = refl
one_way way.Number way.Number e = refl
one_way way.Reference way.Reference e = refl
one_way way.Boxed way.Boxed e = refl
one_way _ _ e = absurd (omega arith)

same_rank : (classes : List ClassInfo) (from to : BareType) (one other : Conversion) → IsConversion classes from to one → IsConversion classes from to other → one.rank ≡ other.rank
same_rank classes from to one other a b = omega (arith, a.lowest other.way b.covered, b.lowest one.way a.covered, a.rank, b.rank)

pub one_conversion : OneConversion
one_conversion classes from to one other a b =
    let rank = same_rank classes from to one other a b in
    let same = one_way one.way other.way (sym a.rank ∙ rank ∙ b.rank) in
    ap (λ r. record { rank = r; way = one.way }) rank ∙ ap (λ w. record { rank = other.rank; way = w }) same

-- two candidates that each beat all others are one
one_best : (classes : List ClassInfo) (given : List CoreType) (candidates : List Signature) (one other : ℕ) → IsViableAt classes given candidates one → BeatsOthers classes given candidates one → IsViableAt classes given candidates other → BeatsOthers classes given candidates other → one ≡ other
one_best classes given candidates one other v a w b =
    ⊎_elim (λ e. e) (λ n. absurd (asymmetric classes given candidates one other (a other w (λ e. n (sym e))) (b one v n))) (cases_eq one other)

-- the first of two that are both the first is neither before nor behind the other
first_of : (one other : ℕ) → (one < other → ⊥) → (other < one → ⊥) → one ≡ other
first_of one other a b = ⊎_elim (λ h. absurd (a h)) (λ h. ⊎_elim (λ k. absurd (b k)) (λ k. omega arith) (cases_lt other one)) (cases_lt one other)

tie_parts : (first second third fourth : ℕ) → first ≡ third → second ≡ fourth → choice.Tie first second ≡ choice.Tie third fourth
tie_parts first second third fourth e f = ap (λ a. choice.Tie a second) e ∙ ap (λ b. choice.Tie third b) f

one_tie : (classes : List ClassInfo) (given : List CoreType) (candidates : List Signature) (first second third fourth : ℕ) → IsTie classes given candidates first second → IsTie classes given candidates third fourth → choice.Tie first second ≡ choice.Tie third fourth
one_tie classes given candidates first second third fourth a b =
    let e : first ≡ third = first_of first third (λ h. b.none_before first h a.viable) (λ h. a.none_before third h b.viable) in
    let u = subst (λ x. IsFirstUnbeaten classes given candidates x second) e a.unbeaten in
    let v = b.unbeaten in
    tie_parts first second third fourth e (first_of second fourth (λ h. u.unbeaten (v.before second h u.viable u.another)) (λ h. v.unbeaten (u.before fourth h v.viable v.another)))

pub one_choice : OneChoice
one_choice classes given candidates (choice.One one) (choice.One other) a b = ap choice.One (one_best classes given candidates one other a.0 a.1 b.0 b.1)
one_choice classes given candidates (choice.One one) choice.None a b = absurd (b one a.0)
one_choice classes given candidates (choice.One one) (choice.Tie first second) a b = absurd (b.no_best one a.0 a.1)
one_choice classes given candidates choice.None (choice.One other) a b = absurd (a other b.0)
one_choice classes given candidates choice.None choice.None a b = refl
one_choice classes given candidates choice.None (choice.Tie first second) a b = absurd (a first b.viable)
one_choice classes given candidates (choice.Tie first second) (choice.One other) a b = absurd (a.no_best other b.0 b.1)
one_choice classes given candidates (choice.Tie first second) choice.None a b = absurd (b first a.viable)
one_choice classes given candidates (choice.Tie first second) (choice.Tie third fourth) a b = one_tie classes given candidates first second third fourth a b

-- a parameter converts no better than another one of the same type
never_better : (classes : List ClassInfo) (given first second : CoreType) → bare first ≡ bare second → IsBetter classes given first second → ⊥
never_better classes given first second e b =
    let other = subst (λ t. IsConversion classes (handed (bare given) t) t b.other) (sym e) b.to_second in
    let same = same_rank classes (handed (bare given) (bare first)) (bare first) b.one b.other b.to_first other in
    ⊎_elim (λ h. absurd (omega (arith, h, same))) (λ h. h.2 e) b.better

-- the types at one place of two lists of equal types
types_at : (xs ys : List CoreType) (at : ℕ) (x y : CoreType) → map bare xs ≡ map bare ys → slice_get xs at ≡ Some x → slice_get ys at ≡ Some y → bare x ≡ bare y
types_at xs ys at x y e f g =
    same_some (bare x) (bare y)
    (sym (ap (option_map bare) f) ∙ sym (slice_get-map bare xs at) ∙ ap (λ l. slice_get l at) e ∙ slice_get-map bare ys at ∙ ap (option_map bare) g)

-- a candidate beats none that is equal in types
never_beats : (classes : List ClassInfo) (given : List CoreType) (candidates : List Signature) (one other : ℕ) → AreEqual candidates → BeatsAt classes given candidates one other → ⊥
never_beats classes given candidates one other equal b =
    let better = b.beats.one_better in
    let h = better.1 in
    never_better classes h.argument h.one h.other
    (types_at b.first.parameters b.second.parameters better.0 h.one h.other (equal one other b.first b.second b.first_is b.second_is) h.one_is h.other_is) h.better

-- a function with the types of a viable one is viable
viable_same : (classes : List ClassInfo) (given : List CoreType) (first second : Signature) → map bare first.parameters ≡ map bare second.parameters → IsViable classes given first → IsViable classes given second
viable_same classes given first second e v =
    let counts : length second.parameters ≡ length first.parameters = sym (length-map second.parameters bare) ∙ ap length (sym e) ∙ length-map first.parameters bare in
    record {
      same_count = counts ∙ v.same_count;
      each = λ at argument parameter f g.
          let within = slice_get_within second.parameters at parameter g in
          let own = slice_get-get_or first.parameters at parameter (omega (arith, within, counts)) in
          let passed = v.each at argument (get_or first.parameters at parameter) f own in
          (passed.0, subst (λ t. IsConversion classes (handed (bare argument) t) t passed.0) (types_at first.parameters second.parameters at (get_or first.parameters at parameter) parameter e own g) passed.1);
    }

second_viable : (classes : List ClassInfo) (given : List CoreType) (candidates : List Signature) → AreEqual candidates → 1 < length candidates → IsViableAt classes given candidates 0 → IsViableAt classes given candidates 1
second_viable classes given candidates equal two v =
    let second = get_or candidates 1 v.signature in
    let is = slice_get-get_or candidates 1 v.signature two in
    record { signature = second; is = is; viable = viable_same classes given v.signature second (equal 0 1 v.signature second v.is is) v.viable }

pub equal_tie : EqualTie
equal_tie classes given candidates (choice.One one) equal two v c =
    ⊎_elim
    (λ e. absurd (never_beats classes given candidates one 1 equal (c.1 1 (second_viable classes given candidates equal two v) (λ f. absurd (omega (arith, e, f))))))
    (λ n. absurd (never_beats classes given candidates one 0 equal (c.1 0 v (λ f. n (sym f)))))
    (cases_eq one 0)
equal_tie classes given candidates choice.None equal two v c = absurd (c 0 v)
equal_tie classes given candidates (choice.Tie first second) equal two v c =
    let e : first ≡ 0 = first_of first 0 (λ h. absurd (omega arith)) (λ h. c.none_before 0 h v) in
    let u = c.unbeaten in
    let f : second ≡ 1 =
    first_of second 1
    (λ h. u.another (omega (arith, e, h)))
    (λ h. never_beats classes given candidates first 1 equal (u.before 1 h (second_viable classes given candidates equal two v) (λ g. absurd (omega (arith, e, g))))) in
    tie_parts first second 0 1 e f
