use Rattle.std.proofs.Common.{◌≡◌, ◌∙◌, sym, ap, arith, ◌+◌, drop}
use Rattle.std.specs.List.{filter_map, flat_map}
use Rattle.cc_names.specs.Lookup as spec
use Rattle.cc_names.proofs.Chains.{next_name, nearest_append}
use Rattle.cc_names.proofs.declarations.Declarations.+nearest.Goals as goal

pub nearest_of-returns-in-Some : goal.nearest_of-returns-in-Some
nearest_of-returns-in-Some t c =
    let further = spec.nearest c.args.self.now.scopes c.args.self.now.items c.args.numbers.now (flat_map (spec.chain_within c.args.self.now.scopes c.args.self.now.items c.args.left) (filter_map (spec.class_named c.args.self.now.scopes c.args.self.now.items) (drop (c.loop-name.name-index + 1) c.args.names.now))) in
    let step = next_name (spec.nearest c.args.self.now.scopes c.args.self.now.items c.args.numbers.now) (spec.or_else c.args.self.now.scopes c.args.self.now.items c.args.numbers.now) (nearest_append c.args.self.now.scopes c.args.self.now.items c.args.numbers.now) (spec.chain_within c.args.self.now.scopes c.args.self.now.items c.args.left) (spec.class_named c.args.self.now.scopes c.args.self.now.items)
    c.args.names.now c.loop-name.name-index c.name-item.result (omega arith) c.name-item.is in
    ap (λ one. spec.or_else c.args.self.now.scopes c.args.self.now.items c.args.numbers.now one further) (sym c.in-Some.is ∙ c.nearest_named.ensures) ∙ sym step ∙ c.loop-name.invariant

pub nearest_of-loop-name-preserved : goal.nearest_of-loop-name-preserved
nearest_of-loop-name-preserved t c =
    let further = spec.nearest c.args.self.now.scopes c.args.self.now.items c.args.numbers.now (flat_map (spec.chain_within c.args.self.now.scopes c.args.self.now.items c.args.left) (filter_map (spec.class_named c.args.self.now.scopes c.args.self.now.items) (drop (c.loop-name.name-index + 1) c.args.names.now))) in
    let step = next_name (spec.nearest c.args.self.now.scopes c.args.self.now.items c.args.numbers.now) (spec.or_else c.args.self.now.scopes c.args.self.now.items c.args.numbers.now) (nearest_append c.args.self.now.scopes c.args.self.now.items c.args.numbers.now) (spec.chain_within c.args.self.now.scopes c.args.self.now.items c.args.left) (spec.class_named c.args.self.now.scopes c.args.self.now.items)
    c.args.names.now c.loop-name.name-index c.name-item.result (omega arith) c.name-item.is in
    ap (λ one. spec.or_else c.args.self.now.scopes c.args.self.now.items c.args.numbers.now one further) (sym c.in-None.is ∙ c.nearest_named.ensures) ∙ sym step ∙ c.loop-name.invariant
