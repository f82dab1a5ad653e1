use Rattle.std.proofs.Common.{ap, arith, rules}
use Rattle.std.proofs.lemmas.Grind.{common_steps}
use Rattle.cc_core.specs.declared.tree.Expression.{the_lemmas}
use Rattle.cc_core.specs.Lists.{terms_of}
use Rattle.cc_code.specs.Heights.{terms_height}
use Rattle.cc_code.proofs.Rows.{height_call, height_library}
use Rattle.cc_code.proofs.heights.+term.Goals as goal

pub term_height-terms_height-requires : goal.term_height-terms_height-requires
term_height-terms_height-requires t c =
    let s = height_call c.args.e.now _ _ _ _ c.in-Call.is in
    let l = ap (λ l. terms_height (terms_of l)) c.as_slice.ensures in
    (search (rules, the_lemmas), omega arith)

pub term_height-terms_height-requires-in-Library : goal.term_height-terms_height-requires-in-Library
term_height-terms_height-requires-in-Library t c =
    let s = height_library c.args.e.now _ _ _ c.in-Library.is in
    let l = ap (λ l. terms_height (terms_of l)) c.as_slice-in-Library.ensures in
    (search (rules, the_lemmas), omega arith)

pub term_height-returns-in-Call : goal.term_height-returns-in-Call
term_height-returns-in-Call t c =
    let s = height_call c.args.e.now _ _ _ _ c.in-Call.is in
    let l = ap (λ l. terms_height (terms_of l)) c.as_slice.ensures in
    grind (arith, common_steps)

pub term_height-returns-in-Library : goal.term_height-returns-in-Library
term_height-returns-in-Library t c =
    let s = height_library c.args.e.now _ _ _ c.in-Library.is in
    let l = ap (λ l. terms_height (terms_of l)) c.as_slice-in-Library.ensures in
    grind (arith, common_steps)
