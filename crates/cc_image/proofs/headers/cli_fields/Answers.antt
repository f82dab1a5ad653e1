use Rattle.cc_image.specs.Headers.{cli_layout}
use Rattle.cc_image.proofs.Joined.{new_two}
use Rattle.cc_image.proofs.headers.cli_fields.Goals as goal

pub returns : goal.returns
unfolding cli_layout
returns c = new_two _ _ _ _ _ c.new-fields.ensures.items c.in_ok-push_items.ensures c.in_ok-push_items-2.ensures
