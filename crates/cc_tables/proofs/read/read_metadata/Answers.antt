use Rattle.std.proofs.Common.{◌≡◌, List, ℕ, sym, subst, inl, arith}
use Rattle.std.proofs.lemmas.Result.{err_from_is_err_and}
use Rattle.cc_layout.specs.Layout.{peeked}
use Rattle.cc_layout.proofs.Numbers.{AreBytes-each}
use Rattle.cc_module.specs.Metadata.{tables}
use Rattle.cc_tables.specs.declared.headers.StreamLengths.{StreamLengths}
use Rattle.cc_tables.specs.Counts.{counts_in}
use Rattle.cc_tables.specs.Forms.{user_strings_heap, HasForm}
use Rattle.cc_tables.specs.Reading.{streams_in, IsFirstFault}
use Rattle.cc_tables.proofs.Answered.{memory_alone, tables_formed, form_wrong, row_wrong, content_wrong, module_found, module_only}
use Rattle.cc_tables.proofs.Started.{handed}
use Rattle.cc_tables.proofs.read.read_metadata.Goals as goal

pub returns-in_err-lengths-clause-fault : goal.returns-in_err-lengths-clause-fault
returns-in_err-lengths-clause-fault c =
    handed c.from_residual.result c.in_err-lengths.field-0.0 (IsFirstFault c.args.bytes.now) c.from_residual.ensures.1 (λ fault e n. inl (c.in_err-lengths.ensures.fault fault (cc) n))

pub returns-in_err-lengths-clause-only : goal.returns-in_err-lengths-clause-only
returns-in_err-lengths-clause-only c m h =
    let is = err_from_is_err_and c.from_residual.result c.from_residual.ensures.1 in
    memory_alone c.args.bytes.now m c.from_residual.result is.0 is.1 (returns-in_err-lengths-clause-fault c) h

pub returns-in_err-texts-clause-fault : goal.returns-in_err-texts-clause-fault
returns-in_err-texts-clause-fault c =
    handed c.from_residual-in_err-texts.result c.in_err-texts.field-0.0 (IsFirstFault c.args.bytes.now) c.from_residual-in_err-texts.ensures.1
    (λ fault e n. form_wrong c.args.bytes.now c.in_ok-lengths.lengths c.in_ok-lengths.ensures.lengths c.in_ok-lengths.ensures.found fault (c.in_err-texts.ensures.fault fault (cc) n))

pub returns-in_err-texts-clause-only : goal.returns-in_err-texts-clause-only
returns-in_err-texts-clause-only c m h =
    let is = err_from_is_err_and c.from_residual-in_err-texts.result c.from_residual-in_err-texts.ensures.1 in
    memory_alone c.args.bytes.now m c.from_residual-in_err-texts.result is.0 is.1 (returns-in_err-texts-clause-fault c) h

pub read_content-requires-clause-counts : goal.read_content-requires-clause-counts
read_content-requires-clause-counts c =
    subst (λ (l : StreamLengths). c.in_ok-lengths.counts.counts.items ≡ counts_in (peeked 8 8 (streams_in l c.args.bytes.now).tables) 24 tables (streams_in l c.args.bytes.now).tables) (sym c.in_ok-lengths.ensures.lengths)
    c.in_ok-lengths.ensures.counts

pub read_content-requires-clause-formed : goal.read_content-requires-clause-formed
read_content-requires-clause-formed c = tables_formed c.args.bytes.now c.in_ok-lengths.lengths c.in_ok-lengths.ensures.lengths c.in_ok-lengths.ensures.found

pub returns-in_err-read-clause-fault : goal.returns-in_err-read-clause-fault
returns-in_err-read-clause-fault c =
    handed c.from_residual-in_err-read.result c.in_err-read.field-0.0 (IsFirstFault c.args.bytes.now) c.from_residual-in_err-read.ensures.1
    (λ fault e n. row_wrong c.args.bytes.now c.in_ok-lengths.lengths c.in_ok-lengths.ensures.lengths c.in_ok-lengths.ensures.found c.in_ok-texts.ensures.formed fault (c.in_err-read.ensures.fault fault (cc) n))

pub returns-in_err-read-clause-only : goal.returns-in_err-read-clause-only
returns-in_err-read-clause-only c m h =
    let is = err_from_is_err_and c.from_residual-in_err-read.result c.from_residual-in_err-read.ensures.1 in
    memory_alone c.args.bytes.now m c.from_residual-in_err-read.result is.0 is.1 (returns-in_err-read-clause-fault c) h

pub returns-in_err-check_content-clause-fault : goal.returns-in_err-check_content-clause-fault
returns-in_err-check_content-clause-fault c =
    handed c.from_residual-in_err-check_content.result c.in_err-check_content.field-0.0 (IsFirstFault c.args.bytes.now) c.from_residual-in_err-check_content.ensures.1
    (λ fault e n. content_wrong c.args.bytes.now c.in_ok-lengths.lengths c.in_ok-lengths.ensures.lengths c.in_ok-lengths.ensures.found c.in_ok-texts.ensures.formed c.in_ok-read.read.content c.in_ok-read.ensures.rows fault
    (c.in_err-check_content.ensures.fault fault (cc) n))

pub returns-in_err-check_content-clause-only : goal.returns-in_err-check_content-clause-only
returns-in_err-check_content-clause-only c m h =
    let is = err_from_is_err_and c.from_residual-in_err-check_content.result c.from_residual-in_err-check_content.ensures.1 in
    memory_alone c.args.bytes.now m c.from_residual-in_err-check_content.result is.0 is.1 (returns-in_err-check_content-clause-fault c) h

pub returns-clause-tables : goal.returns-clause-tables
returns-clause-tables c =
    let texts = subst (HasForm user_strings_heap (streams_in c.in_ok-lengths.lengths c.args.bytes.now).user_strings) (sym c.in_ok-read.ensures.texts) c.in_ok-texts.ensures.texts in
    module_found c.args.bytes.now c.in_ok-lengths.lengths c.in_ok-lengths.ensures.lengths c.in_ok-lengths.ensures.found c.in_ok-texts.ensures.formed c.in_ok-read.read.content c.in_ok-read.ensures.rows texts
    c.in_ok-check_content.ensures.used c.in_ok-check_content.ensures.sorted c.in_ok-check_content.ensures.signatures c.in_ok-read.ensures.bodies c.in_ok-read.ensures.entry
    (AreBytes-each c.args.bytes.now (λ i. omega (arith, c.type_inv.bytes i)))

pub returns-clause-only : goal.returns-clause-only
returns-clause-only c m h =
    let texts = subst (HasForm user_strings_heap (streams_in c.in_ok-lengths.lengths c.args.bytes.now).user_strings) (sym c.in_ok-read.ensures.texts) c.in_ok-texts.ensures.texts in (
      module_only c.args.bytes.now c.in_ok-lengths.lengths c.in_ok-lengths.ensures.lengths c.in_ok-lengths.ensures.found c.in_ok-texts.ensures.formed c.in_ok-read.read.content c.in_ok-read.ensures.rows texts
          c.in_ok-check_content.ensures.used c.in_ok-check_content.ensures.sorted c.in_ok-check_content.ensures.signatures c.in_ok-read.ensures.bodies c.in_ok-read.ensures.entry m h,
      tt,
    )
