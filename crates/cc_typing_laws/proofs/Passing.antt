-- Which conversion an argument of a fundamental type has for a parameter of one, and where there is none.
use Rattle.std.proofs.Common.{◌≡◌, ◌⊎◌, ℕ, ◌<◌, true, cond, ◌==◌, List, refl, sym, ap, ◌∙◌, subst, inl, inr, ⊎_elim, arith}
use Rattle.std.proofs.lemmas.Bool.{cases_eq, cases_Bool, false≢true}
use Rattle.cc_tree.specs.declared.type_name.FundamentalType.{FundamentalType}
use Rattle.cc_tree.specs.declared.type_name.FundamentalType.TheVariants as f
use Rattle.cc_core.specs.declared.types.ClassInfo.{ClassInfo}
use Rattle.cc_core.specs.Types.{BareType, bare}
use Rattle.cc_core.specs.Types as type
use Rattle.cc_convert.specs.declared.conversion.Way.{Way}
use Rattle.cc_convert.specs.declared.conversion.Way.TheVariants as way
use Rattle.cc_convert.specs.declared.conversion.Conversion.{Conversion}
use Rattle.cc_convert.specs.Conversions.{is_small, is_fundamental, is_handle, Covers, IsConversion}
use Rattle.cc_convert.specs.Conversions as rule
use Rattle.cc_convert.specs.Overloads.{handed, IsPassed}
use Rattle.cc_convert.proofs.Rules.{lowest-from, no-rule, promoted_to, same_type}
use Rattle.cc_operations.specs.Numbers.{core, core_type, rank}

-- a fact holds, or it doesn't
abbrev pub Decided : Type 0 → Type 0
Decided P = P ⊎ (P → ⊥)

pub handed_core : (from : FundamentalType) (to : BareType) → handed (core from) to ≡ core from
handed_core f.Void to = refl
handed_core f.Bool to = refl
handed_core f.WideChar to = refl
handed_core f.SignedChar to = refl
handed_core f.UnsignedChar to = refl
handed_core f.Short to = refl
handed_core f.UnsignedShort to = refl
handed_core f.Int to = refl
handed_core f.UnsignedInt to = refl
handed_core f.LongLong to = refl
handed_core f.UnsignedLongLong to = refl

no_handle : (of : FundamentalType) → is_handle (core of) ≡ true → ⊥
no_handle f.Void e = false≢true e
no_handle f.Bool e = false≢true e
no_handle f.WideChar e = false≢true e
no_handle f.SignedChar e = false≢true e
no_handle f.UnsignedChar e = false≢true e
no_handle f.Short e = false≢true e
no_handle f.UnsignedShort e = false≢true e
no_handle f.Int e = false≢true e
no_handle f.UnsignedInt e = false≢true e
no_handle f.LongLong e = false≢true e
no_handle f.UnsignedLongLong e = false≢true e

-- `void`, or a type of numbers
pub void_or_number : (of : FundamentalType) → (of ≡ f.Void) ⊎ (is_fundamental (core of) ≡ true)
void_or_number f.Void = inl refl
void_or_number f.Bool = inr refl
void_or_number f.WideChar = inr refl
void_or_number f.SignedChar = inr refl
void_or_number f.UnsignedChar = inr refl
void_or_number f.Short = inr refl
void_or_number f.UnsignedShort = inr refl
void_or_number f.Int = inr refl
void_or_number f.UnsignedInt = inr refl
void_or_number f.LongLong = inr refl
void_or_number f.UnsignedLongLong = inr refl

-- the place of a type among those of numbers
abbrev number_of : BareType → ℕ
number_of type.Void = 0
number_of type.Bool = 1
number_of type.Char = 2
number_of type.I8 = 3
number_of type.U8 = 4
number_of type.I16 = 5
number_of type.U16 = 6
number_of type.I32 = 7
number_of type.U32 = 8
number_of type.I64 = 9
number_of type.U64 = 10
number_of _ = 11

number_of-core : (of : FundamentalType) → number_of (core of) ≡ rank of
number_of-core f.Void = refl
number_of-core f.Bool = refl
number_of-core f.WideChar = refl
number_of-core f.SignedChar = refl
number_of-core f.UnsignedChar = refl
number_of-core f.Short = refl
number_of-core f.UnsignedShort = refl
number_of-core f.Int = refl
number_of-core f.UnsignedInt = refl
number_of-core f.LongLong = refl
number_of-core f.UnsignedLongLong = refl

-- the type at a place
abbrev at_rank : ℕ → BareType
at_rank n =
    cond (n == 0) type.Void (cond (n == 1) type.Bool (cond (n == 2) type.Char (cond (n == 3) type.I8 (cond (n == 4) type.U8 (cond (n == 5) type.I16
    (cond (n == 6) type.U16 (cond (n == 7) type.I32 (cond (n == 8) type.U32 (cond (n == 9) type.I64 type.U64)))))))))

at_rank-core : (of : FundamentalType) → at_rank (rank of) ≡ core of
at_rank-core f.Void = refl
at_rank-core f.Bool = refl
at_rank-core f.WideChar = refl
at_rank-core f.SignedChar = refl
at_rank-core f.UnsignedChar = refl
at_rank-core f.Short = refl
at_rank-core f.UnsignedShort = refl
at_rank-core f.Int = refl
at_rank-core f.UnsignedInt = refl
at_rank-core f.LongLong = refl
at_rank-core f.UnsignedLongLong = refl

pub same_core : (one other : FundamentalType) → rank one ≡ rank other → core one ≡ core other
same_core one other e = sym (at_rank-core one) ∙ ap at_rank e ∙ at_rank-core other

other_core : (one other : FundamentalType) → (rank one ≡ rank other → ⊥) → core one ≡ core other → ⊥
other_core one other n e = n (sym (number_of-core one) ∙ ap number_of e ∙ number_of-core other)

reference_to : {classes : List ClassInfo} {from to : BareType} → Covers classes way.Reference from to → is_handle to ≡ true
reference_to (rule.to_parent d) = refl
reference_to (rule.to_object h) = refl
reference_to (rule.null h) = h

box_to : {classes : List ClassInfo} {from to : BareType} → Covers classes way.Boxed from to → is_handle to ≡ true
box_to (rule.box h) = refl
box_to (rule.box_as h i d) = refl

-- The conversion of an argument, with a rank below that of handles.
pub record Passed (classes : List ClassInfo) (given parameter : FundamentalType) : Type 0 where
  pub conversion : Conversion
  pub is : IsPassed classes (core_type given) (core_type parameter) conversion
  pub low : conversion.rank < 3

abbrev pub NotPassed : List ClassInfo → FundamentalType → FundamentalType → Type 0
NotPassed classes given parameter = (conversion : Conversion) → IsPassed classes (core_type given) (core_type parameter) conversion → ⊥

passed_by : (classes : List ClassInfo) (given parameter : FundamentalType) (conversion : Conversion) → conversion.rank < 3 → IsConversion classes (core given) (core parameter) conversion → Passed classes given parameter
passed_by classes given parameter conversion low is =
    record { conversion = conversion; is = subst (λ t. IsConversion classes t (core parameter) conversion) (sym (handed_core given (core parameter))) is; low = low }

none_passed : (classes : List ClassInfo) (given parameter : FundamentalType) → ((way : Way) → Covers classes way (core given) (core parameter) → ⊥) → NotPassed classes given parameter
none_passed classes given parameter none conversion is =
    none conversion.way (subst (λ t. Covers classes conversion.way t (core parameter)) (handed_core given (core parameter)) is.covered)

-- one of two different types is `void`
from_void : (to : BareType) → is_small type.Void ≡ true → to ≡ type.I32 → ⊥
from_void to e i = false≢true e

to_void : (from : BareType) → is_small from ≡ true → type.Void ≡ type.I32 → ⊥
to_void from e i = cc

module _ (classes : List ClassInfo) where
  pub void_first : (given parameter : FundamentalType) → (core given ≡ core parameter → ⊥) → given ≡ f.Void → NotPassed classes given parameter
  void_first given parameter n e =
      none_passed classes given parameter
      (no-rule classes (core given) (core parameter) n (λ s i. from_void (core parameter) (subst (λ (t : FundamentalType). is_small (core t) ≡ true) e s) i)
      (λ a b. false≢true (subst (λ (t : FundamentalType). is_fundamental (core t) ≡ true) e a)) (λ r. no_handle parameter (reference_to r)) (λ b. no_handle parameter (box_to b)))

  void_second : (given parameter : FundamentalType) → (core given ≡ core parameter → ⊥) → parameter ≡ f.Void → NotPassed classes given parameter
  void_second given parameter n e =
      none_passed classes given parameter
      (no-rule classes (core given) (core parameter) n (λ s i. to_void (core given) s (subst (λ (t : FundamentalType). core t ≡ type.I32) e i))
      (λ a b. false≢true (subst (λ (t : FundamentalType). is_fundamental (core t) ≡ true) e b)) (λ r. no_handle parameter (reference_to r)) (λ b. no_handle parameter (box_to b)))

  same_passed : (given parameter : FundamentalType) → core given ≡ core parameter → Passed classes given parameter
  same_passed given parameter e =
      passed_by classes given parameter (record { rank = 0; way = way.Same }) (omega arith)
      (record { covered = same_type classes (core given) (core parameter) e; rank = refl; lowest = λ other c. omega arith })

  promoted_passed : (given parameter : FundamentalType) → (core given ≡ core parameter → ⊥) → is_small (core given) ≡ true → core parameter ≡ type.I32 → Passed classes given parameter
  promoted_passed given parameter n s e =
      passed_by classes given parameter (record { rank = 1; way = way.Promote }) (omega arith)
      (record {
        covered = promoted_to classes (core given) (core parameter) s e;
        rank = refl;
        lowest = lowest-from classes (core given) (core parameter) 1 (λ h. n) (λ h. absurd (omega arith)) (λ h. absurd (omega arith)) (λ h. absurd (omega arith)) (omega arith);
      })

  number_passed : (given parameter : FundamentalType) → (core given ≡ core parameter → ⊥) → is_fundamental (core given) ≡ true → is_fundamental (core parameter) ≡ true
      → (is_small (core given) ≡ true → core parameter ≡ type.I32 → ⊥) → Passed classes given parameter
  number_passed given parameter n a b s =
      passed_by classes given parameter (record { rank = 2; way = way.Number }) (omega arith)
      (record {
        covered = rule.number a b n;
        rank = refl;
        lowest = lowest-from classes (core given) (core parameter) 2 (λ h. n) (λ h. s) (λ h. absurd (omega arith)) (λ h. absurd (omega arith)) (omega arith);
      })

  numbers : (given parameter : FundamentalType) → (core given ≡ core parameter → ⊥) → is_fundamental (core given) ≡ true → is_fundamental (core parameter) ≡ true → Passed classes given parameter
  numbers given parameter n a b =
      ⊎_elim
      (λ s. ⊎_elim (λ e. promoted_passed given parameter n s (same_core parameter f.Int e)) (λ d. number_passed given parameter n a b (λ t i. other_core parameter f.Int d i)) (cases_eq (rank parameter) (rank f.Int)))
      (λ s. number_passed given parameter n a b (λ t i. false≢true (sym s ∙ t)))
      (cases_Bool (is_small (core given)))

  pub passes : (given parameter : FundamentalType) → Passed classes given parameter ⊎ NotPassed classes given parameter
  passes given parameter =
      ⊎_elim
      (λ e. inl (same_passed given parameter (same_core given parameter e)))
      (λ d. let n : core given ≡ core parameter → ⊥ = other_core given parameter d in
      ⊎_elim (λ v. inr (void_first given parameter n v))
      (λ a. ⊎_elim (λ w. inr (void_second given parameter n w)) (λ b. inl (numbers given parameter n a b)) (void_or_number parameter))
      (void_or_number given))
      (cases_eq (rank given) (rank parameter))
