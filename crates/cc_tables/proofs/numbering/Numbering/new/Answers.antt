use Rattle.std.proofs.Common.{rules, ◌≡◌, []}
use Rattle.cc_tables.proofs.Numbered.{numbered_none}
use Rattle.cc_tables.proofs.numbering.Numbering.new.Goals as goal

pub returns-clause-empty : goal.returns-clause-empty
returns-clause-empty c =
    let none : c.new-3.result.items ≡ [] = search rules in
    numbered_none (record { names = c.in_ok-new.field-0; blobs = c.in_ok-new-2.field-0; slots = c.new-3.result }) c.in_ok-new.ensures.empty c.in_ok-new-2.ensures.empty none
