-- The rules on rows in their order.
use Rattle.std.proofs.Common.{◌≡◌, ℕ, List, refl, sym, ap, ◌∙◌}
use Rattle.std.specs.Prelude.{Bool, true, false, Option, Some, None, if◌then◌else◌}
use Rattle.cc_module.specs.declared.module.Module.{Module}
use Rattle.cc_verify.specs.declared.readings.Readings.{Readings}
use Rattle.cc_verify.specs.declared.check.ClassRule.{ClassRule}
use Rattle.cc_verify.specs.declared.check.TheConstants.{ROW_RULES, BODY_RULES}
use Rattle.cc_verify.specs.Transitions.{row_of}
use Rattle.cc_verify.specs.ClassRules.{or, row_rules, body_rules, first_broken, names_entry, bad_entry, first_class_fault}

rows_are : ROW_RULES ≡ row_rules
unfolding row_rules
rows_are = refl

bodies_are : BODY_RULES ≡ body_rules
unfolding body_rules
bodies_are = refl

-- what is found by a table is found by the rules that it has
by_table : (m : Module) (r : Readings) (rules listed : List ClassRule) (rows v : Option (ℕ × ℕ)) → rules ≡ listed → rows ≡ first_broken m r rules → rows ≡ v → first_broken m r listed ≡ v
by_table m r rules listed rows v same found is = sym (ap (first_broken m r) same) ∙ sym found ∙ is

abbrev pub at_entry : ℕ → Option (ℕ × ℕ)
at_entry row = Some (11, row)

abbrev entry_of : Module → Bool → Option (ℕ × ℕ)
entry_of m b = if b then None else at_entry (row_of m.entry)

entry_bad : (m : Module) (b : Bool) (row : ℕ) → b ≡ false → row ≡ row_of m.entry → at_entry row ≡ entry_of m b
entry_bad m true row e same = let bad : true ≡ false = e in cc
entry_bad m false row e same = ap at_entry same

entry_good : (m : Module) (b : Bool) → b ≡ true → entry_of m b ≡ None
entry_good m true e = refl
entry_good m false e = let bad : false ≡ true = e in cc

after : (o next : Option (ℕ × ℕ)) → o ≡ None → next ≡ or o next
after o next e = ap (λ x. or x next) (sym e)

pub of_rows : (m : Module) (r : Readings) (rows : Option (ℕ × ℕ)) (at : ℕ × ℕ) → rows ≡ first_broken m r ROW_RULES → rows ≡ Some at → Some at ≡ first_class_fault m r
of_rows m r rows at found is = ap (λ x. or x (or (bad_entry m r) (first_broken m r body_rules))) (sym (by_table m r ROW_RULES row_rules rows (Some at) rows_are found is))

pub of_entry : (m : Module) (r : Readings) (rows : Option (ℕ × ℕ)) (row : ℕ) → rows ≡ first_broken m r ROW_RULES → rows ≡ None → names_entry m r ≡ false → row ≡ row_of m.entry → at_entry row ≡ first_class_fault m r
of_entry m r rows row found is bad same =
    ap (λ x. or x (first_broken m r body_rules)) (entry_bad m (names_entry m r) row bad same) ∙ after (first_broken m r row_rules) (or (bad_entry m r) (first_broken m r body_rules)) (by_table m r ROW_RULES row_rules rows None rows_are found is)

pub of_bodies : (m : Module) (r : Readings) (rows bodies : Option (ℕ × ℕ)) → rows ≡ first_broken m r ROW_RULES → rows ≡ None → names_entry m r ≡ true → bodies ≡ first_broken m r BODY_RULES → bodies ≡ first_class_fault m r
of_bodies m r rows bodies found is good bad =
    sym (by_table m r BODY_RULES body_rules bodies bodies bodies_are bad refl) ∙ after (bad_entry m r) (first_broken m r body_rules) (entry_good m (names_entry m r) good)
    ∙ after (first_broken m r row_rules) (or (bad_entry m r) (first_broken m r body_rules)) (by_table m r ROW_RULES row_rules rows None rows_are found is)
