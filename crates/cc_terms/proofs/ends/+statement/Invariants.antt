use Rattle.std.proofs.Common.{◌≡◌, map, take}
use Rattle.std.specs.List.{list_any, list_all}
use Rattle.cc_terms.specs.Ends.{any_ends, any_breaks, statement_way, catch_way, branch_of, last_ends}
use Rattle.cc_terms.proofs.ends.+statement.Given as goal

abbrev pub invariant-row-loop-statement : goal.invariant-row-loop-statement
invariant-row-loop-statement l = record {
  ends : l.ends ≡ any_ends (map statement_way (take l.statement-index l.statements));
  breaks : l.breaks ≡ any_breaks (map statement_way (take l.statement-index l.statements));
}

abbrev pub invariant-catches-loop-one : goal.invariant-catches-loop-one
invariant-catches-loop-one l = record {
  ends : l.ends ≡ list_all (λ way. way.ends) (map catch_way (take l.one-index l.items));
  breaks : l.breaks ≡ any_breaks (map catch_way (take l.one-index l.items));
}

abbrev pub invariant-switched-loop-section : goal.invariant-switched-loop-section
invariant-switched-loop-section l = record {
  has_default : l.has_default ≡ list_any (λ branch. branch.has_default) (map branch_of (take l.section-index l.items));
  breaks : l.breaks ≡ list_any (λ branch. branch.way.breaks) (map branch_of (take l.section-index l.items));
  last : l.last ≡ last_ends (map branch_of (take l.section-index l.items));
}
