use Rattle.std.proofs.Common.{sym, ◌∙◌}
use Rattle.cc_verify.specs.declared.check.TheConstants.{ROW_RULES, BODY_RULES}
use Rattle.cc_verify.proofs.RuleTables.{of_rows, of_entry, of_bodies}
use Rattle.cc_verify.proofs.class_rules.first_class_fault.Goals as goal

pub returns-in-Some : goal.returns-in-Some
returns-in-Some c = of_rows c.args.«module».now c.args.readings.now c.in_ok-rows.rows c.in-Some.at c.in_ok-rows.ensures c.in-Some.is

pub returns-then-not-names_entry : goal.returns-then-not-names_entry
returns-then-not-names_entry c = of_entry c.args.«module».now c.args.readings.now c.in_ok-rows.rows c.row_of.result c.in_ok-rows.ensures c.in-None.is (sym c.names_entry.ensures ∙ c.if-not-names_entry.true) c.row_of.ensures

pub returns : goal.returns
returns c = of_bodies c.args.«module».now c.args.readings.now c.in_ok-rows.rows c.in_ok-found.found c.in_ok-rows.ensures c.in-None.is (sym c.names_entry.ensures ∙ c.if-not-names_entry.false) c.in_ok-found.ensures
