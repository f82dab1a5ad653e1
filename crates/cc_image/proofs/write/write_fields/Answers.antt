use Rattle.cc_image.specs.Headers.{fields_bytes}
use Rattle.cc_image.proofs.Joined.{joined_eight}
use Rattle.cc_image.proofs.write.write_fields.Goals as goal

pub returns : goal.returns
unfolding fields_bytes
returns c =
    joined_eight _ _ _ _ _ _ _ _ _ _ _ _ _ _ _ _ _ c.in_ok-extend_from_slice.ensures.items c.in_ok-write_items.ensures c.in_ok-write_items-2.ensures c.in_ok-write_items-3.ensures c.in_ok-write_items-4.ensures
    c.in_ok-extend_from_slice-2.ensures.items c.in_ok-write_items-5.ensures c.in_ok-extend_from_slice-3.ensures.items
