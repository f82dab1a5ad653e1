use Rattle.cc_image.specs.Headers.{cli_bytes}
use Rattle.cc_image.proofs.Joined.{joined_two}
use Rattle.cc_image.proofs.write.write_cli.Goals as goal

pub returns : goal.returns
unfolding cli_bytes
returns c = joined_two _ _ _ _ _ c.in_ok-write_items.ensures c.in_ok-write_items-2.ensures
