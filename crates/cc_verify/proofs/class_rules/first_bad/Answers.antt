use Rattle.std.proofs.Common.{sym, ◌∙◌}
use Rattle.cc_verify.specs.ClassRules.{keeps}
use Rattle.cc_verify.proofs.Rows.{rows_start, rows_on, rows_off, rows_end}
use Rattle.cc_verify.proofs.class_rules.first_bad.Goals as goal

pub loop-before-init : goal.loop-before-init
loop-before-init c = rows_start (keeps c.args.«module».now c.args.readings.now c.args.check) c.args.count

pub returns-then-not-keeps : goal.returns-then-not-keeps
returns-then-not-keeps c =
    rows_off (keeps c.args.«module».now c.args.readings.now c.args.check) c.args.count c.loop-before.before c.loop-before-test.true (sym c.keeps.ensures ∙ c.if-not-keeps.true) c.loop-before.invariant

pub loop-before-preserved : goal.loop-before-preserved
loop-before-preserved c =
    rows_on (keeps c.args.«module».now c.args.readings.now c.args.check) c.args.count c.loop-before.before c.loop-before-test.true (sym c.keeps.ensures ∙ c.if-not-keeps.false) c.loop-before.invariant

pub returns : goal.returns
returns c = rows_end (keeps c.args.«module».now c.args.readings.now c.args.check) c.args.count c.loop-before.before c.loop-before-test.false c.loop-before.invariant
