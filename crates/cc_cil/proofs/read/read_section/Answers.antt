use Rattle.std.proofs.Common.{rules, ◌≡◌, ◌∙◌, sym, ap, None, Some, Err, true, false}
use Rattle.cc_layout.specs.Layout.{fault_of}
use Rattle.cc_cil.specs.declared.fault.CodeFault.TheVariants.{BadClause}
use Rattle.cc_cil.specs.Bodies.{section_head, is_small}
use Rattle.cc_cil.specs.BodyFaults.{section_is_small, count_in, section_clauses, located}
use Rattle.cc_cil.proofs.Reading.{first_some, first_none, head_ends, section_after, form_there}
use Rattle.cc_cil.proofs.read.read_section.Goals as goal

pub returns-in_err-check_head-clause-fault : goal.returns-in_err-check_head-clause-fault
returns-in_err-check_head-clause-fault c f e n =
    let bytes = c.args.bytes.now in
    let same : c.in_err-check_head.field-0.0 ≡ f = search rules in
    let found = rw (c.count_in-count.ensures.count, c.section_is_small-small.ensures) at (c.in_err-check_head.ensures.err ∙ ap Some same) in
    first_some _ _ f (head_ends (section_is_small bytes) (count_in (section_is_small bytes) bytes) c.args.at bytes f found)

pub returns-in_err-clauses-clause-fault : goal.returns-in_err-clauses-clause-fault
returns-in_err-clauses-clause-fault c f e n =
    let bytes = c.args.bytes.now in
    let same : c.in_err-clauses.field-0.0 ≡ f = search rules in
    let head : fault_of c.args.at (section_head (section_is_small bytes) (count_in (section_is_small bytes) bytes)) bytes ≡ None = rw (c.count_in-count.ensures.count, c.section_is_small-small.ensures) at c.in_ok-check_head.ensures.ok in
    let found = rw (c.count_in-count.ensures.count, c.section_is_small-small.ensures, c.split_at.ensures.back) at (c.in_err-clauses.ensures.fault f (ap Err same) n) in
    first_some _ _ f (ap (located BadClause) (section_after (section_is_small bytes) (count_in (section_is_small bytes) bytes) c.args.at bytes head) ∙ found)

pub returns-then-is_small-clause-fault : goal.returns-then-is_small-clause-fault
returns-then-is_small-clause-fault c f e n =
    let bytes = c.args.bytes.now in
    let same : BadClause c.args.at ≡ f = cc in
    let head : fault_of c.args.at (section_head (section_is_small bytes) (count_in (section_is_small bytes) bytes)) bytes ≡ None = rw (c.count_in-count.ensures.count, c.section_is_small-small.ensures) at c.in_ok-check_head.ensures.ok in
    let found = rw (c.count_in-count.ensures.count, c.section_is_small-small.ensures, c.split_at.ensures.back) at c.in_ok-clauses.ensures.found in
    let clauses : c.in_ok-clauses.clauses ≡ section_clauses bytes = rw (c.count_in-count.ensures.count, c.section_is_small-small.ensures, c.split_at.ensures.back) at c.in_ok-clauses.ensures.values.0 in
    let fat : section_is_small bytes ≡ false = sym c.section_is_small-small.ensures ∙ c.if-not-small.true in
    let small : is_small (section_clauses bytes) ≡ true = ap is_small (sym clauses ∙ sym c.as_slice.ensures) ∙ sym c.is_small.ensures ∙ c.if-is_small.true in
    first_none _ _ (ap (located BadClause) (section_after (section_is_small bytes) (count_in (section_is_small bytes) bytes) c.args.at bytes head ∙ found)) ∙ form_there c.args.at bytes fat small ∙ ap Some same

pub returns-clause-found : goal.returns-clause-found
returns-clause-found c =
    let bytes = c.args.bytes.now in
    let head : fault_of c.args.at (section_head (section_is_small bytes) (count_in (section_is_small bytes) bytes)) bytes ≡ None = rw (c.count_in-count.ensures.count, c.section_is_small-small.ensures) at c.in_ok-check_head.ensures.ok in
    let found = rw (c.count_in-count.ensures.count, c.section_is_small-small.ensures, c.split_at.ensures.back) at c.in_ok-clauses.ensures.found in
    section_after (section_is_small bytes) (count_in (section_is_small bytes) bytes) c.args.at bytes head ∙ found
