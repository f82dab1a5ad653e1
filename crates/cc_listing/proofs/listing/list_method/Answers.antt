use Rattle.std.proofs.Common.{◌≡◌, ℕ, ◌-◌, ◌<◌, List, ◌++◌, Some, None, get_or, length, arith, refl, sym, ap, subst, append_assoc, ◌∙◌}
use Rattle.std.specs.Prelude.{Option, slice_get}
use Rattle.std.proofs.lemmas.Option.{get_or_from_slice_get}
use Rattle.cc_cil.specs.declared.body.Body.{Body}
use Rattle.cc_module.specs.Methods.{body_of}
use Rattle.cc_listing.specs.Listing.{ListsBodyAt, method_line}
use Rattle.cc_listing.proofs.ModuleLines.{joined, method_lists, read_at}
use Rattle.cc_listing.proofs.RowTexts.{on_ok}
use Rattle.cc_listing.proofs.listing.list_method.Goals as goal

pub returns : goal.returns
returns c =
    let m = c.args.module.now in
    let at = c.args.row - 1 in
    let method = c.index-as_slice-row.result in
    let there : at < length m.methods = omega (arith, c.requires.counted, c.requires.within) in
    let found : slice_get m.methods at ≡ Some method = read_at m.methods c.as_slice.result.now at method c.as_slice.ensures there c.index-as_slice-row.is in
    let place = get_or_from_slice_get c.args.places.now at (body_of m c.args.row) None (c.requires.places.each at there) in
    let line = c.in_ok-extend_from_slice.ensures.items ∙ ap (λ (l : List ℕ). c.args.into.now.items ++ l) (c.as_slice-2.ensures.value ∙ c.in_ok-line.ensures) in
    on_ok c.list_body_at.result c.list_body_at.ensures (λ lines. (
      method_line method ++ lines.0,
      method_lists m c.args.row method (get_or c.args.places.now at None) lines.0 found place
          (subst (λ (bodies : List Body). ListsBodyAt bodies (get_or c.args.places.now at None) lines.0) c.as_slice-3.ensures lines.1),
      joined c.args.into.now.items c.extend_from_slice.new.self.items c.list_body_at.new.into.items (method_line method) lines.0 line lines.2,
    ))
