use Rattle.std.proofs.Common.{sym, ◌∙◌, ap}
use Rattle.std.specs.Prelude.{unwrap_or}
use Rattle.cc_tree.specs.declared.word.TheConstants.{CONTEXTUAL_WORDS}
use Rattle.cc_tree.specs.declared.terminal.ContextualWord.TheVariants.{Nothing}
use Rattle.cc_terminals.proofs.Rows.{found_by_rows}
use Rattle.cc_terminals.proofs.terminal.contextual_word.Goals as goal

pub returns : goal.returns
returns c = c.contextual_in.ensures ∙ ap (λ found. unwrap_or found Nothing) (sym (found_by_rows (λ row. row.0.now) (λ row. row.1) CONTEXTUAL_WORDS c.args.word.now))
