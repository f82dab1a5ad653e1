use Rattle.cc_image.specs.Headers.{header_layout}
use Rattle.cc_image.proofs.Joined.{new_eight}
use Rattle.cc_image.proofs.headers.header_fields.Goals as goal

pub returns : goal.returns
unfolding header_layout
returns c =
    new_eight _ _ _ _ _ _ _ _ _ _ _ _ _ _ _ _ _ c.new-fields.ensures.items c.in_ok-push_run.ensures c.in_ok-push_items.ensures c.in_ok-push_items-2.ensures c.in_ok-push_items-3.ensures c.in_ok-push_items-4.ensures
    c.in_ok-push_run-2.ensures c.in_ok-push_items-5.ensures c.in_ok-push_run-3.ensures
