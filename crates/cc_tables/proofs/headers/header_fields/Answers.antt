use Rattle.std.proofs.Common.{◌++◌, List, ap, ◌∙◌}
use Rattle.cc_layout.specs.declared.field.Field.{Field}
use Rattle.cc_module.specs.Metadata.{root, stream_headers}
use Rattle.cc_tables.specs.Faults.{headers}
use Rattle.cc_tables.proofs.headers.header_fields.Goals as goal

pub returns : goal.returns
unfolding headers
returns c =
    c.in_ok-push_stream_headers.ensures
    ∙ ap (λ (x : List Field). x ++ stream_headers c.args.lengths.tables c.args.lengths.strings c.args.lengths.user_strings c.args.lengths.blobs)
    (c.in_ok-push_root.ensures ∙ ap (λ (x : List Field). x ++ root) c.new-fields.ensures.items)
