use Rattle.std.proofs.Common.{◌≡◌, ◌∙◌, ap}
use Rattle.cc_names.specs.Library.{declared}
use Rattle.cc_names.specs.LibraryRows.{with_library}
use Rattle.cc_names.proofs.Assembled.{assembled}
use Rattle.cc_names.proofs.assemble.declarations_of.Goals as goal

pub returns-clause-directives : goal.returns-clause-directives
returns-clause-directives c =
    assembled c.in_ok-all.all (declared c.args.unit.now) c.new-directives.result c.add_directives.new.directives c.as_slice-2.result.now c.args.unit.now
    c.in_ok-add_directives.ensures c.new-directives.ensures c.as_slice-2.ensures (c.in_ok-all.ensures ∙ ap with_library c.in_ok-own.ensures)
