use Rattle.cc_grammar.proofs.Tokens.{begun, begun_measured, token_typed, token_carries, as_read, reached, refused, too_deep, last_typed, end_refused, ended, top_deep, top_within}
use Rattle.cc_grammar.proofs.reading.read.Goals as goal

pub loop-i-init : goal.loop-i-init
loop-i-init c = (begun c.args.tokens.now _ _ c.in_ok-expect_unit.ensures c.new-values.ensures, begun_measured _ _ c.new-values.ensures c.new-heights.ensures)

pub feed-requires-clause-typed : goal.feed-requires-clause-typed
feed-requires-clause-typed c = token_typed c.args.tokens.now c.loop-i.i c.index-tokens-i.result c.in_ok-kept.kept _ _ c.index-tokens-i.is c.in_ok-kept.ensures c.loop-i-test.true c.requires c.loop-i.invariant.0

pub feed-requires-clause-carried : goal.feed-requires-clause-carried
feed-requires-clause-carried c = token_carries c.index-tokens-i.result c.in_ok-kept.kept c.in_ok-kept.ensures

pub returns-then-not-branch : goal.returns-then-not-branch
returns-then-not-branch c =
    let at = as_read c.args.tokens.now c.loop-i.i c.index-tokens-i.result c.in_ok-kept.kept c.in_ok-feed.field-0 c.loop-i.symbols c.feed.new.symbols c.loop-i.values c.feed.new.values c.index-tokens-i.is c.in_ok-kept.ensures c.in_ok-feed.ensures.feeds in
    refused c.args.tokens.now c.loop-i.i c.index-tokens-i.result c.loop-i.symbols c.feed.new.symbols c.loop-i.values c.feed.new.values c.in_ok-feed.field-0 c.if-not-branch.true c.loop-i-test.true at c.loop-i.invariant.0

pub returns-then-least-gt-DEPTH_LIMIT : goal.returns-then-least-gt-DEPTH_LIMIT
returns-then-least-gt-DEPTH_LIMIT c =
    let at = as_read c.args.tokens.now c.loop-i.i c.index-tokens-i.result c.in_ok-kept.kept c.in_ok-feed.field-0 c.loop-i.symbols c.feed.new.symbols c.loop-i.values c.feed.new.values c.index-tokens-i.is c.in_ok-kept.ensures c.in_ok-feed.ensures.feeds in
    let g = reached c.args.tokens.now c.loop-i.i c.index-tokens-i.result c.loop-i.symbols c.feed.new.symbols c.loop-i.values c.feed.new.values c.in_ok-feed.field-0 c.if-not-branch.false c.loop-i-test.true at c.loop-i.invariant.0 in
    too_deep c.args.tokens.now c.loop-i.i c.feed.new.symbols c.feed.new.values c.feed.new.heights _ c.loop-i-test.true g c.in_ok-feed.ensures.measures c.in_ok-least.ensures c.if-least-gt-DEPTH_LIMIT.true

pub loop-i-preserved : goal.loop-i-preserved
loop-i-preserved c =
    let at = as_read c.args.tokens.now c.loop-i.i c.index-tokens-i.result c.in_ok-kept.kept c.in_ok-feed.field-0 c.loop-i.symbols c.feed.new.symbols c.loop-i.values c.feed.new.values c.index-tokens-i.is c.in_ok-kept.ensures c.in_ok-feed.ensures.feeds in
    (reached c.args.tokens.now c.loop-i.i c.index-tokens-i.result c.loop-i.symbols c.feed.new.symbols c.loop-i.values c.feed.new.values c.in_ok-feed.field-0 c.if-not-branch.false c.loop-i-test.true at c.loop-i.invariant.0, c.in_ok-feed.ensures.measures)

pub finish-requires-clause-typed : goal.finish-requires-clause-typed
finish-requires-clause-typed c = last_typed c.args.tokens.now c.loop-i.i _ _ c.loop-i-test.false c.requires c.loop-i.invariant.0

pub returns-then-not-branch-2 : goal.returns-then-not-branch-2
returns-then-not-branch-2 c = end_refused _ _ _ _ _ _ c.if-not-branch-2.true c.loop-i-test.false c.in_ok-finish.ensures.finishes c.loop-i.invariant.0

pub returns-then-top-gt-DEPTH_LIMIT : goal.returns-then-top-gt-DEPTH_LIMIT
returns-then-top-gt-DEPTH_LIMIT c =
    (c.finish.new.values, ended _ _ _ _ _ _ c.if-not-branch-2.false c.loop-i-test.false c.in_ok-finish.ensures.finishes c.loop-i.invariant.0, top_deep _ _ _ c.in_ok-finish.ensures.measures c.take_tallest-top.ensures.tallest c.if-top-gt-DEPTH_LIMIT.true)

pub returns : goal.returns
returns c =
    (ended _ _ _ _ _ _ c.if-not-branch-2.false c.loop-i-test.false c.in_ok-finish.ensures.finishes c.loop-i.invariant.0, top_within _ _ _ c.in_ok-finish.ensures.measures c.take_tallest-top.ensures.tallest c.if-top-gt-DEPTH_LIMIT.false)
