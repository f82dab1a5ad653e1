use Rattle.std.proofs.Common.{◌≡◌, drop, map}
use Rattle.cc_names.specs.Checks.{run, joined}
use Rattle.cc_names.specs.Mentions as spec
use Rattle.cc_names.specs.Spaces.{space}
use Rattle.cc_names.proofs.find_type.Here.+statement.Given as goal

abbrev pub invariant-statements-statements : goal.invariant-statements-statements
invariant-statements-statements l = run (joined (map (spec.statement_checks (space l.self.space.now) l.self.path.now) (drop l.statement-index l.statements))) l.first ≡ run (joined (map (spec.statement_checks (space l.self.space.now) l.self.path.now) l.statements)) l.initial.first

abbrev pub invariant-catches-catches : goal.invariant-catches-catches
invariant-catches-catches l = run (joined (map (spec.catch_checks (space l.self.space.now) l.self.path.now) (drop l.one-index l.catches))) l.first ≡ run (joined (map (spec.catch_checks (space l.self.space.now) l.self.path.now) l.catches)) l.initial.first

abbrev pub invariant-sections-sections : goal.invariant-sections-sections
invariant-sections-sections l = run (joined (map (spec.section_checks (space l.self.space.now) l.self.path.now) (drop l.section-index l.items))) l.first ≡ run (joined (map (spec.section_checks (space l.self.space.now) l.self.path.now) l.items)) l.initial.first
