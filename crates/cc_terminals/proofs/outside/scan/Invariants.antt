use Rattle.std.proofs.Common.{◌≡◌, length}
use Rattle.std.specs.Prelude.{None, false}
use Rattle.cc_terminals.specs.Scan.{first_fault}
use Rattle.cc_terminals.proofs.outside.scan.Given as goal

abbrev pub invariant-tokens : goal.invariant-tokens
invariant-tokens l = first_fault l.class_may_stand l.char_may_stand None l.rest ≡ first_fault false false None l.tokens

abbrev pub decreases-tokens : goal.decreases-tokens
decreases-tokens l = length l.rest
