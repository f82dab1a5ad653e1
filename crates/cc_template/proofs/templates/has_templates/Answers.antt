use Rattle.std.proofs.Common.{◌∙◌, ap, map}
use Rattle.std.specs.List.{list_any}
use Rattle.cc_template.specs.Expansion.{has_template}
use Rattle.cc_template.proofs.Expanded.{any_mapped}
use Rattle.cc_template.proofs.templates.has_templates.Goals as goal

pub returns : goal.returns
returns c =
    c.have_template.ensures ∙ ap (λ outers. list_any (λ has. has) (map has_template outers)) c.as_slice.ensures ∙ any_mapped has_template c.args.unit.now.outers
