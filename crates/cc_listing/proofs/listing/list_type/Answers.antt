use Rattle.std.proofs.Common.{◌≡◌, ℕ, ◌<◌, List, ◌++◌, Some, length, refl, sym, ap, subst, ◌∙◌}
use Rattle.std.specs.Prelude.{slice_get}
use Rattle.cc_module.specs.declared.rows.FieldRow.{FieldRow}
use Rattle.cc_listing.specs.Listing.{ListsField, ListsMethod, class_line, run_past}
use Rattle.cc_listing.specs.Rows.{Rows}
use Rattle.cc_listing.proofs.ModuleLines.{Read, Found, joined, read_at, type_lists}
use Rattle.cc_listing.proofs.RowTexts.{on_ok}
use Rattle.cc_listing.proofs.listing.list_type.Goals as goal

pub returns : goal.returns
returns c =
    let m = c.args.module.now in
    let at = c.args.at in
    let t = c.index-types-at.result in
    let found = read_at m.type_defs c.as_slice-types.result.now at t c.as_slice-types.ensures c.requires.there c.index-types-at.is in
    let fields = c.in_ok-list_fields.ensures in
    let line = c.in_ok-extend_from_slice.ensures.items ∙ ap (λ (l : List ℕ). c.args.into.now.items ++ l) (c.as_slice.ensures.value ∙ c.in_ok-line.ensures) in
    let front = joined c.args.into.now.items c.extend_from_slice.new.self.items c.list_fields.new.into.items (class_line t) fields.0 line fields.2 in
    let field_run = c.run_of-field_run in
    let method_run = c.run_of-method_run in
    let next = c.next_starts-next_fields in
    let read : Read m c.as_slice-types.result.now c.as_slice-fields.result.now c.as_slice-methods.result.now = record {
      types_are = c.as_slice-types.ensures;
      fields_are = c.as_slice-fields.ensures;
      methods_are = c.as_slice-methods.ensures;
    } in
    on_ok c.list_methods.result c.list_methods.ensures (λ methods. (
      class_line t ++ fields.0 ++ methods.0,
      type_lists m _ _ _ at field_run.result.first field_run.result.past method_run.result.first method_run.result.past t fields.0 methods.0 next.result.0 next.result.1 read found
          (record { first_is = field_run.ensures.first; past_is = field_run.ensures.past; next_is = next.ensures.fields })
          (record { first_is = method_run.ensures.first; past_is = method_run.ensures.past; next_is = next.ensures.methods })
          fields.1 methods.1,
      joined c.args.into.now.items c.list_fields.new.into.items c.list_methods.new.into.items (class_line t ++ fields.0) methods.0 front methods.2,
    ))
