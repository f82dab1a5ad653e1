-- What the count of a unit's nodes says of its expansion, and whether it has templates.
use Rattle.std.proofs.Common.{◌≡◌, ℕ, List, [], ◌∷◌, map, ◌||◌, refl, sym, ap, subst, ◌∙◌}
use Rattle.std.specs.Prelude.{Bool, Result, Ok, Err}
use Rattle.std.specs.List.{list_any}
use Rattle.cc_base.specs.declared.text.Span.{Span}
use Rattle.cc_tree.specs.declared.unit.Unit as unit
use Rattle.cc_template.specs.Faults.{too_many}
use Rattle.cc_template.specs.Walk.{counted}
use Rattle.cc_template.specs.Expansion.{IsExpandFault}
use Rattle.cc_template.specs.declared.fault.TemplateFault.{TemplateFault}
use Rattle.cc_template.specs.declared.fault.TemplateFault.TheVariants as fault

ok_as : (count : ℕ) (verdict : Result ℕ Span) → Ok count ≡ too_many verdict → verdict ≡ Ok count
ok_as count (Ok other) e = cc
ok_as count (Err span) e = cc

pub counted_as : (tree : unit.Unit) (answer : Result ℕ TemplateFault) (count : ℕ) → answer ≡ too_many (counted tree) → answer ≡ Ok count → counted tree ≡ Ok count
counted_as tree answer count e f = ok_as count (counted tree) (sym f ∙ e)

err_as : (fault : TemplateFault) (tree : unit.Unit) (verdict : Result ℕ Span) → counted tree ≡ verdict → Err fault ≡ too_many verdict → IsExpandFault tree fault
err_as one tree (Ok other) is e = absurd (cc)
err_as one tree (Err span) is e = let same : fault.TooManyNodes span ≡ one = cc in subst (λ f. IsExpandFault tree f) same is

pub refused_as : (tree : unit.Unit) (answer : Result ℕ TemplateFault) (one : TemplateFault) → answer ≡ too_many (counted tree) → answer ≡ Err one → IsExpandFault tree one
refused_as tree answer one e f = err_as one tree (counted tree) refl (sym f ∙ e)

-- a test of some items, by the list of its answers
pub any_mapped : {A : Type 0} (p : A → Bool) (xs : List A) → list_any (λ has. has) (map p xs) ≡ list_any p xs
any_mapped p [] = refl
any_mapped p (x ∷ xs) = ap (λ b. p x || b) (any_mapped p xs)
