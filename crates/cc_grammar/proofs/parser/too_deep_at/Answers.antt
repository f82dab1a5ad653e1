use Rattle.std.proofs.Common.{inl, ◌≡◌, ◌≤◌, ◌<◌, sym, subst, ℕ, length, arith}
use Rattle.cc_tree.specs.CollectedNames.{collected}
use Rattle.cc_grammar.proofs.Parsed as parsed
use Rattle.cc_grammar.proofs.parser.too_deep_at.Goals as goal

pub unreachable-requires : goal.unreachable-requires
unreachable-requires c =
    let whole : length c.args.sorted.now ≡ length c.args.names.now.tokens.now = parsed.same_length (collected c.args.names.now.tokens.now) c.args.names.now.tokens.now c.args.sorted.now c.requires.sorted in
    omega (arith, whole, c.requires.deep.within, c.in-None.ensures.lookup.3)

pub returns : goal.returns
returns c = (c.requires.scanned, inl (_, _, parsed.too_deep_token c.args.names.now.tokens.now c.args.sorted.now c.args.place c.in-Some.token.now c.requires.sorted c.requires.deep c.in-Some.ensures.lookup.3.0 c.in-Some.ensures.lookup.1))
