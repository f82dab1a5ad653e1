use Rattle.std.proofs.Common.{sym, ◌∙◌}
use Rattle.cc_tree.specs.declared.word.TheConstants.{RESERVED_WORDS}
use Rattle.cc_terminals.proofs.Rows.{found_by_rows}
use Rattle.cc_terminals.proofs.terminal.reserved_word.Goals as goal

pub returns : goal.returns
returns c = c.reserved_in.ensures ∙ sym (found_by_rows (λ row. row.0.now) (λ row. row.1) RESERVED_WORDS c.args.word.now)
