use Rattle.std.proofs.Common.{inr, ◌≡◌, ◌≤◌, sym, subst, ℕ, length, arith}
use Rattle.cc_tree.specs.CollectedNames.{collected}
use Rattle.cc_grammar.specs.Parse.{WantsMore}
use Rattle.cc_grammar.proofs.Parsed as parsed
use Rattle.cc_grammar.proofs.parser.refused_at.Goals as goal

pub refused_token-requires-clause-refused : goal.refused_token-requires-clause-refused
refused_token-requires-clause-refused c pointer sign =
    parsed.refused_token c.args.names.now.tokens.now c.args.sorted.now c.args.place c.in-Some.token.now pointer c.requires.sorted c.requires.refused c.in-Some.ensures.lookup.3.0 c.in-Some.ensures.lookup.1 sign

pub returns-in-None : goal.returns-in-None
returns-in-None c =
    let whole : length c.args.sorted.now ≡ length c.args.names.now.tokens.now = parsed.same_length (collected c.args.names.now.tokens.now) c.args.names.now.tokens.now c.args.sorted.now c.requires.sorted in
    let end : c.args.place ≡ length c.args.names.now.tokens.now = omega (arith, whole, c.requires.refused.within, c.in-None.ensures.lookup.3) in (
      c.requires.scanned,
      inr (subst (λ span. WantsMore c.args.names.now.tokens.now span) (sym c.end_of.ensures)
          (parsed.refused_end c.args.names.now.tokens.now c.args.sorted.now c.args.place c.requires.sorted c.requires.refused end)),
    )
