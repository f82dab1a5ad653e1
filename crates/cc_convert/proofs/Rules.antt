-- Which rules cover types of a given form, and which of them has the lowest rank.
use Rattle.std.proofs.Common.{◌≡◌, ◌⊎◌, ◌↔◌, ℕ, ◌<◌, ◌≤◌, Bool, true, false, nat_eq, List, Some, IsTrue, refl, sym, ap, ◌∙◌, subst, inl, inr, ⊎_elim}
use Rattle.std.proofs.lemmas.Bool.{eqb-true, eq-eqb, cases_lt, false≢true}
use Rattle.cc_base.specs.declared.identifiers.ClassId.{ClassId}
use Rattle.cc_core.specs.declared.types.ClassInfo.{ClassInfo}
use Rattle.cc_core.specs.Types.{BareType, bare}
use Rattle.cc_core.specs.Types as type
use Rattle.cc_core.specs.Classes.{Derives}
use Rattle.cc_core.specs.Library.{object, boxed_class}
use Rattle.cc_convert.specs.declared.conversion.Way.{Way}
use Rattle.cc_convert.specs.declared.conversion.Way.TheVariants as way
use Rattle.cc_convert.specs.Conversions.{is_small, is_fundamental, is_handle, IsInterface, rank_of, Covers, IsConversion}
use Rattle.cc_convert.specs.Conversions as rule

pub object_id : (class : ClassId) → class.0 ≡ 0 → class ≡ object
object_id class e = ap (λ n. record { 0 = n }) e

handle_rules : {classes : List ClassInfo} {class target : ClassId} → Covers classes way.Reference (type.Handle class) (type.Handle target) → Derives classes class target ⊎ (target ≡ object)
handle_rules (rule.to_parent d) = inl d
handle_rules (rule.to_object h) = inr refl

array_rules : {classes : List ClassInfo} {element : BareType} {target : ClassId} → Covers classes way.Reference (type.Array element) (type.Handle target) → target ≡ object
array_rules (rule.to_object h) = refl

-- any handle to Object^
pub refers-object : (classes : List ClassInfo) (from : BareType) (target : ClassId) (answer : Bool) → is_handle from ≡ true → target.0 ≡ 0 → answer ≡ true → IsTrue answer ↔ Covers classes way.Reference from (type.Handle target)
refers-object classes from target answer h e a = (λ t. subst (λ c. Covers classes way.Reference from (type.Handle c)) (sym (object_id target e)) (rule.to_object h), λ r. a)

-- a handle to another class
pub refers-class : (classes : List ClassInfo) (from : BareType) (class target : ClassId) (answer : Bool) → from ≡ type.Handle class → (target.0 ≡ 0 → ⊥) → IsTrue answer ↔ Derives classes class target → IsTrue answer ↔ Covers classes way.Reference from (type.Handle target)
refers-class classes from class target answer e n d =
    rw e (λ t. rule.to_parent (d.0 t), λ r. ⊎_elim (λ h. d.1 h) (λ o. absurd (n (ap (λ (c : ClassId). c.0) o))) (handle_rules r))

-- an array
pub refers-array : (classes : List ClassInfo) (from element : BareType) (target : ClassId) → from ≡ type.Array element → IsTrue (nat_eq target.0 0) ↔ Covers classes way.Reference from (type.Handle target)
refers-array classes from element target e =
    rw e (λ t. (refers-object classes (type.Array element) target (nat_eq target.0 0) refl (eqb-true target.0 0 t) t).0 t, λ r. eq-eqb target.0 0 (ap (λ (c : ClassId). c.0) (array_rules r)))

-- nullptr
pub refers-null : (classes : List ClassInfo) (from to : BareType) → from ≡ type.Null → is_handle to ≡ true → IsTrue true ↔ Covers classes way.Reference from to
refers-null classes from to e h = rw e (λ t. rule.null h, λ r. refl)

box_rules : {classes : List ClassInfo} {from : BareType} {target : ClassId} → Covers classes way.Boxed from (type.Handle target)
    → ((class : ClassId) × (boxed_class from ≡ Some class) × ((target ≡ object) ⊎ (IsInterface classes target × Derives classes class target)))
box_rules (rule.box {class} h) = (class, h, inl refl)
box_rules (rule.box_as {class} h i d) = (class, h, inr (i, d))

same_some : (a b : ClassId) → Some a ≡ Some b → a ≡ b
same_some a b e = cc

-- a value that is boxed as an Object
pub boxes-object : (classes : List ClassInfo) (from : BareType) (class target : ClassId) (answer : Bool) → Some class ≡ boxed_class from → target.0 ≡ 0 → answer ≡ true → IsTrue answer ↔ Covers classes way.Boxed from (type.Handle target)
boxes-object classes from class target answer h e a =
    (λ t. subst (λ c. Covers classes way.Boxed from (type.Handle c)) (sym (object_id target e)) (rule.box (sym h)), λ r. a)

-- a value that is boxed as an object of another class
pub boxes-class : (classes : List ClassInfo) (from : BareType) (class target : ClassId) (answer : Bool) → Some class ≡ boxed_class from → (target.0 ≡ 0 → ⊥) → IsTrue answer ↔ (IsInterface classes target × Derives classes class target) → IsTrue answer ↔ Covers classes way.Boxed from (type.Handle target)
boxes-class classes from class target answer h n says = (
  λ a. let is = says.0 a in rule.box_as (sym h) is.0 is.1,
  λ r. let b = box_rules r in
      ⊎_elim (λ o. absurd (n (ap (λ (c : ClassId). c.0) o))) (λ i. says.1 (i.0, subst (λ c. Derives classes c target) (same_some b.0 class (sym b.1 ∙ sym h)) i.1)) b.2,
)

-- the rules of a rank that is not below this one
pub lowest-from : (classes : List ClassInfo) (from to : BareType) (rank : ℕ) → (0 < rank → from ≡ to → ⊥) → (1 < rank → is_small from ≡ true → to ≡ type.I32 → ⊥) → (2 < rank → is_fundamental from ≡ true → is_fundamental to ≡ true → ⊥) → (3 < rank → Covers classes way.Reference from to → ⊥) → rank ≤ 4 → (other : Way) → Covers classes other from to → rank ≤ rank_of other
lowest-from classes from to rank same small number refers most _ (rule.same) = ⊎_elim (λ h. absurd (same h refl)) (λ h. h) (cases_lt 0 rank)
lowest-from classes from to rank same small number refers most _ (rule.promoted s) = ⊎_elim (λ h. absurd (small h s refl)) (λ h. h) (cases_lt 1 rank)
lowest-from classes from to rank same small number refers most _ (rule.number f t n) = ⊎_elim (λ h. absurd (number h f t)) (λ h. h) (cases_lt 2 rank)
lowest-from classes from to rank same small number refers most _ (rule.to_parent d) = ⊎_elim (λ h. absurd (refers h (rule.to_parent d))) (λ h. h) (cases_lt 3 rank)
lowest-from classes from to rank same small number refers most _ (rule.to_object o) = ⊎_elim (λ h. absurd (refers h (rule.to_object o))) (λ h. h) (cases_lt 3 rank)
lowest-from classes from to rank same small number refers most _ (rule.null o) = ⊎_elim (λ h. absurd (refers h (rule.null o))) (λ h. h) (cases_lt 3 rank)
lowest-from classes from to rank same small number refers most _ (rule.box v) = most
lowest-from classes from to rank same small number refers most _ (rule.box_as e i d) = most

-- where no rule of any rank covers two types
pub no-rule : (classes : List ClassInfo) (from to : BareType) → (from ≡ to → ⊥) → (is_small from ≡ true → to ≡ type.I32 → ⊥) → (is_fundamental from ≡ true → is_fundamental to ≡ true → ⊥) → (Covers classes way.Reference from to → ⊥) → (Covers classes way.Boxed from to → ⊥) → (other : Way) → Covers classes other from to → ⊥
no-rule classes from to same small number refers boxes _ (rule.same) = same refl
no-rule classes from to same small number refers boxes _ (rule.promoted s) = small s refl
no-rule classes from to same small number refers boxes _ (rule.number f t n) = number f t
no-rule classes from to same small number refers boxes _ (rule.to_parent d) = refers (rule.to_parent d)
no-rule classes from to same small number refers boxes _ (rule.to_object o) = refers (rule.to_object o)
no-rule classes from to same small number refers boxes _ (rule.null o) = refers (rule.null o)
no-rule classes from to same small number refers boxes _ (rule.box v) = boxes (rule.box v)
no-rule classes from to same small number refers boxes _ (rule.box_as e i d) = boxes (rule.box_as e i d)

pub promoted_to : (classes : List ClassInfo) (from to : BareType) → is_small from ≡ true → to ≡ type.I32 → Covers classes way.Promote from to
promoted_to classes from to s e = subst (λ t. Covers classes way.Promote from t) (sym e) (rule.promoted s)

pub same_type : (classes : List ClassInfo) (from to : BareType) → from ≡ to → Covers classes way.Same from to
same_type classes from to e = subst (λ t. Covers classes way.Same from t) e rule.same

-- what a test says that answered no
pub refuted : (answer : Bool) (P : Type 0) → IsTrue answer ↔ P → answer ≡ false → P → ⊥
refuted answer P says was holds = false≢true (sym was ∙ says.1 holds)
