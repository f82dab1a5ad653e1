use Rattle.std.proofs.Common.{◌≡◌, ℕ, List, [], ◌++◌, length, arith, sym, subst, append-nil}
use Rattle.cc_listing.specs.Bodies.{ListsCode, ended}
use Rattle.cc_listing.proofs.bodies.list_code.Goals as goal

pub returns : goal.returns
returns c =
    let code = c.args.code.now in
    let so_far = c.loop-at.invariant.so_far in
    let end : c.loop-at.at ≡ length code = omega (arith, c.loop-at.invariant.within, c.loop-at-test.false) in
    let lists = so_far.2 [] (subst (λ (at : ℕ). ListsCode code at []) (sym end) ended) in
    (so_far.0, subst (λ (text : List ℕ). ListsCode code 0 text) (append-nil so_far.0) lists, so_far.1)
