use Rattle.std.proofs.Common.{◌≡◌, ap, arith, rules}
use Rattle.std.proofs.lemmas.Grind.{common_steps}
use Rattle.cc_core.specs.declared.tree.Expression.{the_lemmas}
use Rattle.cc_core.specs.Lists.{terms_of}
use Rattle.cc_code.specs.Sizes.{terms_size}
use Rattle.cc_code.specs.Terms.{terms_code}
use Rattle.cc_code.proofs.Rows.{size_call, size_library, code_call, code_library}
use Rattle.cc_code.proofs.terms.+term.Goals as goal

pub append-append_all-requires : goal.append-append_all-requires
append-append_all-requires t c =
    let s = size_call c.args.e.now _ _ _ _ c.in-Call.is in
    let l = ap (λ l. terms_size (terms_of l)) c.as_slice.ensures in
    (search (rules, the_lemmas), omega arith)

pub append-append_all-requires-in-Library : goal.append-append_all-requires-in-Library
append-append_all-requires-in-Library t c =
    let s = size_library c.args.e.now _ _ _ c.in-Library.is in
    let l = ap (λ l. terms_size (terms_of l)) c.as_slice-in-Library.ensures in
    (search (rules, the_lemmas), omega arith)

pub append-returns-in_ok-push-in-Call : goal.append-returns-in_ok-push-in-Call
append-returns-in_ok-push-in-Call t c =
    let s = code_call c.args.tokens.now c.args.parameters c.args.e.now _ _ _ _ c.in-Call.is in
    let l = ap (λ l. terms_code c.args.tokens.now c.args.parameters (terms_of l)) c.as_slice.ensures in
    grind (arith, common_steps)

pub append-returns-in_ok-push-in-Library : goal.append-returns-in_ok-push-in-Library
append-returns-in_ok-push-in-Library t c =
    let s = code_library c.args.tokens.now c.args.parameters c.args.e.now _ _ _ c.in-Library.is in
    let l = ap (λ l. terms_code c.args.tokens.now c.args.parameters (terms_of l)) c.as_slice-in-Library.ensures in
    grind (arith, common_steps)
