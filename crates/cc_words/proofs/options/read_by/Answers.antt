use Rattle.std.proofs.Common.{◌∙◌, ap, codes}
use Rattle.std.specs.Prelude.{option_map}
use Rattle.clap.specs.Words.{first_of, found_of}
use Rattle.clap.proofs.WalkLemmas.{first_value-rows}
use Rattle.cc_words.specs.Options.{told}
use Rattle.cc_words.proofs.options.read_by.Goals as goal

pub returns-in-Ok : goal.returns-in-Ok
returns-in-Ok c =
    let rows = (c.in-Ok.ensures.matches c.requires.simple).0 in (
      c.in-Ok.ensures.kinds c.requires.free,
      c.get_str.ensures ∙ (first_value-rows (found_of c.in-Ok.matches) (codes "file") ∙ ap (first_of (codes "file")) rows),
      c.told.ensures ∙ ap (told (option_map (λ name. name.now) c.args.option)) rows,
    )
