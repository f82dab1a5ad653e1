use Rattle.std.proofs.Common.{ap, ◌∙◌}
use Rattle.cc_core.specs.declared.tree.Dispatch.TheVariants.{Direct}
use Rattle.cc_core.specs.declared.tree.Expression.TheBlock.{hidden-the_row-Expression-0}
use Rattle.cc_core.specs.declared.types.CoreType.{CoreType}
use Rattle.cc_core.specs.Bare.{row_terms}
use Rattle.cc_core.specs.Lists.{row_terms-hidden}
use Rattle.cc_core.specs.Term as term
use Rattle.cc_core.specs.Term.{Terms}
use Rattle.cc_core.specs.Types.{bare}
use Rattle.cc_operations.specs.Numbers.{core}
use Rattle.cc_operations.specs.Operations.{valued_as, method_at}
use Rattle.cc_operations.proofs.calls.call_term.Goals as goal

pub returns : goal.returns
returns c =
    ap (λ (t : CoreType). valued_as c.args.of (term.Call (bare t) (method_at c.args.at) Direct (row_terms (hidden-the_row-Expression-0 c.args.arguments)))) c.core.ensures
    ∙ ap (λ (r : Terms). valued_as c.args.of (term.Call (core c.args.of) (method_at c.args.at) Direct r)) (row_terms-hidden c.args.arguments)
