use Rattle.cc_tables.specs.Counts.{table_rows}
use Rattle.cc_tables.specs.Numbering.{sizes_by}
use Rattle.cc_tables.proofs.TablesForm.{place_known}
use Rattle.cc_tables.proofs.tables_form.rows_place.Goals as goal

pub returns-clause-place : goal.returns-clause-place
returns-clause-place c = λ sizes. place_known (sizes_by (table_rows c.args.counts.now.counts.items) sizes) c.counts_size.result c.counts_size.ensures.size
