use Rattle.std.proofs.Common.{◌∙◌}
use Rattle.cc_typing.proofs.Going.{by_declared}
use Rattle.cc_typing.proofs.programs.typed_parts.Goals as goal

pub returns : goal.returns
returns c = λ choice chooses.
    c.in_ok-made.ensures choice chooses
    ∙ by_declared choice c.args.unit.now c.args.declarations.now.scopes c.args.declarations.now.items c.args.declarations.now.directives c.requires.scopes c.requires.items c.requires.directives
