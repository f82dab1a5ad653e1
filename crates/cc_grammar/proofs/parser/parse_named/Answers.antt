use Rattle.std.proofs.Common.{inr, ◌≡◌, ◌∙◌, ap, sym, subst, map}
use Rattle.cc_tree.specs.CollectedNames.{collected}
use Rattle.cc_tree.specs.Terminals.{classify}
use Rattle.cc_pushdown.specs.Machine.{feed}
use Rattle.cc_grammar_laws.specs.Kinds.{AllFed}
use Rattle.cc_grammar_laws.proofs.HeightLaws.{all_fed}
use Rattle.cc_grammar.specs.Parse.{TooDeepAtEnd}
use Rattle.cc_grammar.specs.Reading.{classified, Reads}
use Rattle.cc_grammar.proofs.Parsed as parsed
use Rattle.cc_grammar.proofs.parser.parse_named.Goals as goal

pub read-requires : goal.read-requires
read-requires c =
    let same : classified c.as_slice.result.now ≡ classify (collected c.args.names.now.tokens.now) c.args.names.now.tokens.now = ap classified c.as_slice.ensures.value ∙ c.in_ok-sorted.ensures in
    subst (λ q. AllFed (map feed q)) (sym same) (all_fed (collected c.args.names.now.tokens.now) c.args.names.now.tokens.now)

pub returns-in-Whole-clause-tree : goal.returns-in-Whole-clause-tree
returns-in-Whole-clause-tree c =
    let same : classified c.as_slice.result.now ≡ classify (collected c.args.names.now.tokens.now) c.args.names.now.tokens.now = ap classified c.as_slice.ensures.value ∙ c.in_ok-sorted.ensures in
    let reads = subst (λ q. Reads c.as_slice.result.now q) c.in-Whole.is c.in_ok-values.ensures in
    parsed.accepted c.args.names.now.tokens.now c.as_slice.result.now _ c.unit.result c.requires.scanned same reads.0 reads.1 c.unit.ensures.top

pub returns-clause-refused : goal.returns-clause-refused
returns-clause-refused c =
    let same : classified c.as_slice.result.now ≡ classify (collected c.args.names.now.tokens.now) c.args.names.now.tokens.now = ap classified c.as_slice.ensures.value ∙ c.in_ok-sorted.ensures in
    let reads = subst (λ q. Reads c.as_slice.result.now q) c.in-TooDeepAtEnd.is c.in_ok-values.ensures in (
      c.requires.scanned,
      inr (subst (λ span. TooDeepAtEnd c.args.names.now.tokens.now span) (sym c.end_of.ensures)
          (parsed.too_deep_end c.args.names.now.tokens.now c.as_slice.result.now reads.0 same reads.1 reads.2)),
    )
