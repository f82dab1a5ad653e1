use Rattle.std.proofs.Common.{◌∙◌, subst, sym}
use Rattle.cc_grammar.specs.Parse as parse
use Rattle.cc_front.proofs.Faults.{lexical_fault, parse_fault}
use Rattle.cc_front.proofs.front.tree_of.Goals as goal

pub returns-in-Err : goal.returns-in-Err
returns-in-Err c = lexical_fault c.args.text.now _ c.told.result c.in-Err.ensures.lexed (sym c.refusal.ensures ∙ c.told.ensures)

pub returns : goal.returns
returns c =
    parse_fault c.args.text.now c.in-Ok.tokens c.in-Err-parse.fault c.told-in-Err-parse.result c.in-Ok.ensures.lexed (subst (λ ts. parse.Refuses ts c.in-Err-parse.fault) c.as_slice.ensures c.in-Err-parse.ensures.refused)
    (sym c.refusal-in-Err-parse.ensures ∙ c.told-in-Err-parse.ensures)

pub returns-in-Ok-parse : goal.returns-in-Ok-parse
returns-in-Ok-parse c = record {
  tokens = c.in-Ok.tokens;
  lexed = c.in-Ok.ensures.lexed;
  parsed = subst (λ ts. parse.Accepts ts c.in-Ok-parse.tree) c.as_slice.ensures c.in-Ok-parse.ensures.tree;
}
