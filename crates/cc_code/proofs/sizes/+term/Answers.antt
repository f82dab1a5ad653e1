use Rattle.std.proofs.Common.{ap, arith, rules}
use Rattle.cc_core.specs.declared.tree.Expression.{the_lemmas}
use Rattle.cc_core.specs.Lists.{terms_of}
use Rattle.cc_code.specs.Sizes.{terms_size}
use Rattle.cc_code.proofs.Rows.{size_call, size_library}
use Rattle.cc_code.proofs.sizes.+term.Goals as goal

pub term_size-terms_size-requires : goal.term_size-terms_size-requires
term_size-terms_size-requires t c =
    let s = size_call c.args.e.now c.in-Call.field-0 c.in-Call.field-1 c.in-Call.field-2 c.in-Call.arguments c.in-Call.is in
    let l = ap (λ l. terms_size (terms_of l)) c.as_slice.ensures in
    (search (rules, the_lemmas), omega arith)

pub term_size-overflow_add-result-in-Call : goal.term_size-overflow_add-result-in-Call
term_size-overflow_add-result-in-Call t c =
    let s = size_call c.args.e.now c.in-Call.field-0 c.in-Call.field-1 c.in-Call.field-2 c.in-Call.arguments c.in-Call.is in
    let l = ap (λ l. terms_size (terms_of l)) c.as_slice.ensures in
    omega arith

pub term_size-terms_size-requires-in-Library : goal.term_size-terms_size-requires-in-Library
term_size-terms_size-requires-in-Library t c =
    let s = size_library c.args.e.now c.in-Library.field-0 c.in-Library.field-1 c.in-Library.arguments c.in-Library.is in
    let l = ap (λ l. terms_size (terms_of l)) c.as_slice-in-Library.ensures in
    (search (rules, the_lemmas), omega arith)

pub term_size-overflow_add-result-in-Library : goal.term_size-overflow_add-result-in-Library
term_size-overflow_add-result-in-Library t c =
    let s = size_library c.args.e.now c.in-Library.field-0 c.in-Library.field-1 c.in-Library.arguments c.in-Library.is in
    let l = ap (λ l. terms_size (terms_of l)) c.as_slice-in-Library.ensures in
    omega arith

pub term_size-returns-in-Call : goal.term_size-returns-in-Call
term_size-returns-in-Call t c =
    let s = size_call c.args.e.now c.in-Call.field-0 c.in-Call.field-1 c.in-Call.field-2 c.in-Call.arguments c.in-Call.is in
    let l = ap (λ l. terms_size (terms_of l)) c.as_slice.ensures in
    omega arith

pub term_size-returns-in-Library : goal.term_size-returns-in-Library
term_size-returns-in-Library t c =
    let s = size_library c.args.e.now c.in-Library.field-0 c.in-Library.field-1 c.in-Library.arguments c.in-Library.is in
    let l = ap (λ l. terms_size (terms_of l)) c.as_slice-in-Library.ensures in
    omega arith
