use Rattle.std.proofs.Common.{rules, ◌≡◌, ◌∙◌, ap, length}
use Rattle.cc_module.specs.Metadata.{user_strings_stream}
use Rattle.cc_tables.proofs.Written.{storable_short, storable_texts, IsPrepared, prepared_fits, prepared_whole}
use Rattle.cc_tables.proofs.write.write_metadata.Goals as goal

pub number_module-requires-clause-short : goal.number_module-requires-clause-short
number_module-requires-clause-short c = storable_short c.args.module.now c.requires

pub user_strings_stream-requires : goal.user_strings_stream-requires
user_strings_stream-requires c = rw c.as_slice.ensures (storable_texts c.args.module.now c.requires)

pub join_streams-requires : goal.join_streams-requires
join_streams-requires c =
    let strings_size : c.len.result ≡ length c.in_ok-strings.strings.items = search rules in
    let blobs_size : c.len-2.result ≡ length c.in_ok-blobs.blobs.items = search rules in
    let prepared : IsPrepared c.args.module.now c.in_ok-numbering.numbering c.number_module.new.into c.in_ok-tables.tables.items c.in_ok-strings.strings.items c.in_ok-user_strings.user_strings.items c.in_ok-blobs.blobs.items
    (record { strings = c.len.result; blobs = c.len-2.result }) c.deref.result.now =
    record {
      empty = c.in_ok-numbering.ensures.empty;
      met = c.in_ok-number_module.ensures;
      strings_is = c.in_ok-strings.ensures;
      blobs_is = c.in_ok-blobs.ensures;
      user_strings_is = c.in_ok-user_strings.ensures ∙ ap user_strings_stream c.as_slice.ensures;
      strings_size = strings_size;
      blobs_size = blobs_size;
      slots_are = c.deref.ensures.value;
      rows_are = c.in_ok-tables.ensures;
    } in
    rw (c.deref-2.ensures.value, c.deref-3.ensures.value, c.deref-4.ensures.value, c.deref-5.ensures.value) (prepared_fits _ _ _ _ _ _ _ _ _ prepared c.requires)

pub returns : goal.returns
returns c =
    let strings_size : c.len.result ≡ length c.in_ok-strings.strings.items = search rules in
    let blobs_size : c.len-2.result ≡ length c.in_ok-blobs.blobs.items = search rules in
    let prepared : IsPrepared c.args.module.now c.in_ok-numbering.numbering c.number_module.new.into c.in_ok-tables.tables.items c.in_ok-strings.strings.items c.in_ok-user_strings.user_strings.items c.in_ok-blobs.blobs.items
    (record { strings = c.len.result; blobs = c.len-2.result }) c.deref.result.now =
    record {
      empty = c.in_ok-numbering.ensures.empty;
      met = c.in_ok-number_module.ensures;
      strings_is = c.in_ok-strings.ensures;
      blobs_is = c.in_ok-blobs.ensures;
      user_strings_is = c.in_ok-user_strings.ensures ∙ ap user_strings_stream c.as_slice.ensures;
      strings_size = strings_size;
      blobs_size = blobs_size;
      slots_are = c.deref.ensures.value;
      rows_are = c.in_ok-tables.ensures;
    } in
    prepared_whole _ _ _ _ _ _ _ _ _ prepared c.in_ok-bytes.bytes.items (rw (c.deref-2.ensures.value, c.deref-3.ensures.value, c.deref-4.ensures.value, c.deref-5.ensures.value) at c.in_ok-bytes.ensures)
