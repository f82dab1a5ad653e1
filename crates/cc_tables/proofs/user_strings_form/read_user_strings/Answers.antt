use Rattle.std.proofs.Common.{List, ℕ, sym, ◌∙◌, subst, arith}
use Rattle.cc_layout.proofs.Numbers.{AreBytes-each}
use Rattle.cc_tables.specs.Forms.{user_strings_heap, HasForm}
use Rattle.cc_tables.proofs.UserStrings.{strings_there}
use Rattle.cc_tables.proofs.user_strings_form.read_user_strings.Goals as goal

pub returns-in-None-clause-form : goal.returns-in-None-clause-form
returns-in-None-clause-form c =
    let form = strings_there c.args.stream.now c.args.at c.in_ok-texts.used c.in_ok-texts.texts.items (AreBytes-each c.args.stream.now (λ i. omega (arith, c.type_inv.stream i))) c.in_ok-texts.ensures (sym c.end_fault.ensures ∙ c.in-None.is) in
    subst (λ (texts : List (List ℕ)). HasForm user_strings_heap c.args.stream.now texts) (sym c.from_vec.ensures) form
