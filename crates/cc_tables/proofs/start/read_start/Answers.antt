use Rattle.std.proofs.Common.{◌≡◌, List, ℕ, Some, None, refl, sym, ap, ◌∙◌}
use Rattle.cc_layout.specs.Layout.{peeked}
use Rattle.cc_module.specs.Metadata.{tables}
use Rattle.cc_tables.specs.Counts.{counts_in}
use Rattle.cc_tables.specs.declared.fault.TableFault.{TableFault}
use Rattle.cc_tables.specs.Reading.{start_fault}
use Rattle.cc_tables.proofs.Started.{size_found, header_fault, end_found, stream_is, tables_found, handed}
use Rattle.cc_tables.proofs.start.read_start.Goals as goal

pub returns-in-Some-clause-fault : goal.returns-in-Some-clause-fault
returns-in-Some-clause-fault c =
    λ fault e n. let same : c.in-Some.fault ≡ fault = cc in size_found c.args.bytes.now fault (sym c.size_fault.ensures.fault ∙ c.in-Some.is ∙ ap (λ (x : TableFault). Some x) same)

pub returns-in_err-lengths-clause-fault : goal.returns-in_err-lengths-clause-fault
returns-in_err-lengths-clause-fault c =
    handed c.from_residual.result c.in_err-lengths.field-0.0 (λ fault. start_fault c.args.bytes.now ≡ Some fault) c.from_residual.ensures.1
    (λ fault e n. header_fault c.args.bytes.now fault (sym c.size_fault.ensures.fault ∙ c.in_default.is) (c.in_err-lengths.ensures.fault fault (cc) n))

pub returns-in-Some-length_fault-clause-fault : goal.returns-in-Some-length_fault-clause-fault
returns-in-Some-length_fault-clause-fault c =
    λ fault e n.
    let same : c.in-Some-length_fault.fault ≡ fault = cc in
    end_found c.args.bytes.now c.in_ok-lengths.lengths c.in_ok-lengths.ensures.lengths (sym c.size_fault.ensures.fault ∙ c.in_default.is) c.in_ok-lengths.ensures.found fault
    (sym c.length_fault.ensures.fault ∙ c.in-Some-length_fault.is ∙ ap (λ (x : TableFault). Some x) same)

pub returns-in_err-counts-clause-fault : goal.returns-in_err-counts-clause-fault
returns-in_err-counts-clause-fault c =
    handed c.from_residual-in_err-counts.result c.in_err-counts.field-0.0 (λ fault. start_fault c.args.bytes.now ≡ Some fault) c.from_residual-in_err-counts.ensures.1
    (λ fault e n. tables_found c.args.bytes.now c.in_ok-lengths.lengths c.in_ok-lengths.ensures.lengths (sym c.size_fault.ensures.fault ∙ c.in_default.is) c.in_ok-lengths.ensures.found (Some fault) _ c.piece.result.now
    (sym c.length_fault.ensures.fault ∙ c.in_default-length_fault.is) refl c.piece.ensures (c.in_err-counts.ensures.fault fault (cc) n))

pub returns-clause-counts : goal.returns-clause-counts
returns-clause-counts c =
    c.in_ok-counts.ensures.counts
    ∙ ap (λ (stream : List ℕ). counts_in (peeked 8 8 stream) 24 tables stream)
    (stream_is c.args.bytes.now c.in_ok-lengths.lengths c.in_ok-lengths.ensures.lengths (sym c.size_fault.ensures.fault ∙ c.in_default.is) c.in_ok-lengths.ensures.found c.piece.result.now c.piece.ensures)

pub returns-clause-found : goal.returns-clause-found
returns-clause-found c =
    tables_found c.args.bytes.now c.in_ok-lengths.lengths c.in_ok-lengths.ensures.lengths (sym c.size_fault.ensures.fault ∙ c.in_default.is) c.in_ok-lengths.ensures.found None _ c.piece.result.now
    (sym c.length_fault.ensures.fault ∙ c.in_default-length_fault.is) refl c.piece.ensures c.in_ok-counts.ensures.found
