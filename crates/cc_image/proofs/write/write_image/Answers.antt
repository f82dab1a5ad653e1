use Rattle.std.proofs.Common.{rules, ◌≡◌, ◌∙◌, ap, length, arith}
use Rattle.cc_module.specs.Metadata.{metadata_bytes}
use Rattle.cc_image.specs.Images.{bodies_bytes, sizes_of}
use Rattle.cc_image.proofs.Sections.{storable_room, bodies_made, sizes_made, image_made}
use Rattle.cc_image.proofs.write.write_image.Goals as goal

pub sizes_for-sizes-requires : goal.sizes_for-sizes-requires
sizes_for-sizes-requires c =
    let m = c.args.module.now in
    let bodies : c.write_bodies.new.into.items ≡ bodies_bytes m.bodies = bodies_made _ _ _ _ c.new-bodies.ensures.items c.in_ok-write_bodies.ensures c.as_slice.ensures in
    let first : c.len.result ≡ length c.write_bodies.new.into.items = search rules in
    let second : c.len-2.result ≡ length c.in_ok-metadata.metadata.items = search rules in
    omega (arith, first, second, ap length bodies, ap length c.in_ok-metadata.ensures, storable_room m c.requires)

pub returns : goal.returns
returns c =
    let m = c.args.module.now in
    let bodies : c.write_bodies.new.into.items ≡ bodies_bytes m.bodies = bodies_made _ _ _ _ c.new-bodies.ensures.items c.in_ok-write_bodies.ensures c.as_slice.ensures in
    let first : c.len.result ≡ length c.write_bodies.new.into.items = search rules in
    let second : c.len-2.result ≡ length c.in_ok-metadata.metadata.items = search rules in
    let sizes : c.sizes_for-sizes.result ≡ sizes_of m = sizes_made m _ _ _ c.sizes_for-sizes.ensures (first ∙ ap length bodies) (second ∙ ap length c.in_ok-metadata.ensures) in
    image_made m _ _ _ _ _ _ _ _ _ sizes c.new-bytes.ensures.items c.in_ok-write_fields.ensures c.in_ok-write_cli.ensures c.in_ok-extend_from_slice.ensures.items c.in_ok-extend_from_slice-2.ensures.items c.in_ok-write_zeros.ensures
    (c.deref.ensures.value ∙ bodies) (c.deref-2.ensures.value ∙ c.in_ok-metadata.ensures)
