use Rattle.std.proofs.Common.{◌≡◌, map, ap, ◌∙◌}
use Rattle.cc_core.specs.Bare.{term_of}
use Rattle.cc_dispose.proofs.Copies.{call_copied, new_copied, library_copied, array_copied, let_copied}
use Rattle.cc_dispose.proofs.copied.+expression.Goals as goal

pub copied-returns-in_ok-copied_type-in-Call : goal.copied-returns-in_ok-copied_type-in-Call
copied-returns-in_ok-copied_type-in-Call t c =
    let a = c.in-Call in
    call_copied c.args.e.now a.of c.in_ok-copied_type-in-Call.field-0 a.method a.dispatch a.arguments c.in_ok-arguments-in-Call.arguments a.is
    c.in_ok-copied_type-in-Call.ensures (c.in_ok-arguments-in-Call.ensures ∙ ap (map term_of) c.as_slice.ensures)

pub copied-returns-in_ok-copied_type-in-New : goal.copied-returns-in_ok-copied_type-in-New
copied-returns-in_ok-copied_type-in-New t c =
    let a = c.in-New in
    new_copied c.args.e.now a.of c.in_ok-copied_type-in-New.field-0 a.class a.constructor a.arguments c.in_ok-arguments-in-New.arguments a.is
    c.in_ok-copied_type-in-New.ensures (c.in_ok-arguments-in-New.ensures ∙ ap (map term_of) c.as_slice-in-New.ensures)

pub copied-returns-in_ok-copied_type-in-Library : goal.copied-returns-in_ok-copied_type-in-Library
copied-returns-in_ok-copied_type-in-Library t c =
    let a = c.in-Library in
    library_copied c.args.e.now a.of c.in_ok-copied_type-in-Library.field-0 a.call a.arguments c.in_ok-arguments-in-Library.arguments a.is
    c.in_ok-copied_type-in-Library.ensures (c.in_ok-arguments-in-Library.ensures ∙ ap (map term_of) c.as_slice-in-Library.ensures)

pub copied-returns-in_ok-copied_type-in-ArrayOf : goal.copied-returns-in_ok-copied_type-in-ArrayOf
copied-returns-in_ok-copied_type-in-ArrayOf t c =
    let a = c.in-ArrayOf in
    array_copied c.args.e.now a.of c.in_ok-copied_type-in-ArrayOf.field-0 a.element c.in_ok-element-in-ArrayOf.element a.elements c.in_ok-elements-in-ArrayOf.elements a.is
    c.in_ok-copied_type-in-ArrayOf.ensures c.in_ok-element-in-ArrayOf.ensures (c.in_ok-elements-in-ArrayOf.ensures ∙ ap (map term_of) c.as_slice-in-ArrayOf.ensures)

pub copied-returns-in_ok-of-in-Let : goal.copied-returns-in_ok-of-in-Let
copied-returns-in_ok-of-in-Let t c =
    let a = c.in-Let in
    let o = c.in_ok-of-in-Let in
    let_copied c.args.e.now a.of o.of a.local a.first a.second o.first o.second a.is o.ensures.of
    (ap term_of o.ensures.first ∙ c.in_ok-first-in-Let.ensures ∙ ap term_of c.deref-in-Let.ensures)
    (ap term_of o.ensures.second ∙ c.in_ok-second-in-Let.ensures ∙ ap term_of c.deref-in-Let-2.ensures)
