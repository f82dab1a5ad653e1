use Rattle.std.proofs.Common.{◌≡◌, ◌∙◌, sym, ap, subst, Some}
use Rattle.cc_module.specs.Rows.{all_cells}
use Rattle.cc_module.specs.Metadata.{tables}
use Rattle.cc_tables.specs.declared.fault.TableFault.{TableFault}
use Rattle.cc_tables.specs.Counts.{table_rows}
use Rattle.cc_tables.specs.Numbering.{sizes_by}
use Rattle.cc_tables.specs.Reading.{tables_numbers, RowFault}
use Rattle.cc_tables.proofs.RowsAdded.{start_ready, start_read, start_room, end_read, names_read, blobs_read}
use Rattle.cc_tables.proofs.read_rows.read_rows.Goals as goal

pub read_all-content-requires : goal.read_all-content-requires
read_all-content-requires c =
    λ e.
    let s = sizes_by (table_rows c.args.source.now.counts.now.counts.items) c.args.source.now.sizes in
    start_ready s c.args.bytes.now c.in_ok-reader.reader c.in_ok-reader.ensures.met c.in_ok-reader.ensures.place (start_room s c.args.bytes.now c.requires)

pub returns-in-Some-clause-fault : goal.returns-in-Some-clause-fault
returns-in-Some-clause-fault c =
    λ fault e some.
    let s = sizes_by (table_rows c.args.source.now.counts.now.counts.items) c.args.source.now.sizes in
    let all = tables_numbers s tables c.args.bytes.now in
    let start = start_read c.args.source.now.strings.now c.args.source.now.blobs.now s c.args.bytes.now c.in_ok-reader.reader c.in_ok-reader.ensures.met c.in_ok-reader.ensures.place c.in_ok-reader.ensures.fault in
    let same : c.in-Some.fault ≡ fault = cc in
    (c.read_all-content.ensures.read all start).fault fault (c.in-Some.is ∙ ap (λ (x : TableFault). Some x) same) some

pub returns-clause-rows : goal.returns-clause-rows
returns-clause-rows c =
    let s = sizes_by (table_rows c.args.source.now.counts.now.counts.items) c.args.source.now.sizes in
    let all = tables_numbers s tables c.args.bytes.now in
    let start = start_read c.args.source.now.strings.now c.args.source.now.blobs.now s c.args.bytes.now c.in_ok-reader.reader c.in_ok-reader.ensures.met c.in_ok-reader.ensures.place c.in_ok-reader.ensures.fault in
    let last = c.read_all-content.ensures.read all start in
    let end = end_read c.args.source.now.strings.now c.args.source.now.blobs.now s c.args.bytes.now all c.read_all-content.new.self (all_cells c.read_all-content.result) last c.in_default.is in
    end.0

pub returns-clause-names : goal.returns-clause-names
returns-clause-names c =
    let s = sizes_by (table_rows c.args.source.now.counts.now.counts.items) c.args.source.now.sizes in
    let all = tables_numbers s tables c.args.bytes.now in
    let start = start_read c.args.source.now.strings.now c.args.source.now.blobs.now s c.args.bytes.now c.in_ok-reader.reader c.in_ok-reader.ensures.met c.in_ok-reader.ensures.place c.in_ok-reader.ensures.fault in
    let last = c.read_all-content.ensures.read all start in
    let end = end_read c.args.source.now.strings.now c.args.source.now.blobs.now s c.args.bytes.now all c.read_all-content.new.self (all_cells c.read_all-content.result) last c.in_default.is in
    names_read c.read_all-content.new.self.numbering (all_cells c.read_all-content.result) end.1

pub returns-clause-blobs : goal.returns-clause-blobs
returns-clause-blobs c =
    let s = sizes_by (table_rows c.args.source.now.counts.now.counts.items) c.args.source.now.sizes in
    let all = tables_numbers s tables c.args.bytes.now in
    let start = start_read c.args.source.now.strings.now c.args.source.now.blobs.now s c.args.bytes.now c.in_ok-reader.reader c.in_ok-reader.ensures.met c.in_ok-reader.ensures.place c.in_ok-reader.ensures.fault in
    let last = c.read_all-content.ensures.read all start in
    let end = end_read c.args.source.now.strings.now c.args.source.now.blobs.now s c.args.bytes.now all c.read_all-content.new.self (all_cells c.read_all-content.result) last c.in_default.is in
    blobs_read c.read_all-content.new.self.numbering (all_cells c.read_all-content.result) end.1
