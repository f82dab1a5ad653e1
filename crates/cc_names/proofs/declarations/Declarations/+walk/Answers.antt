use Rattle.std.proofs.Common.{◌≡◌, ◌∙◌, sym, ap, arith, ◌+◌, drop}
use Rattle.std.specs.List.{filter_map, flat_map}
use Rattle.cc_names.specs.Lookup as spec
use Rattle.cc_names.specs.Chains as chains
use Rattle.cc_names.proofs.Chains.{next_name, walk_append, first_then}
use Rattle.cc_names.proofs.declarations.Declarations.+walk.Goals as goal

pub walk_of-returns-in-Reached : goal.walk_of-returns-in-Reached
walk_of-returns-in-Reached t c =
    let further = chains.walk c.args.self.now.scopes c.args.self.now.items c.args.numbers.now c.args.number (flat_map (spec.chain_within c.args.self.now.scopes c.args.self.now.items c.args.left) (filter_map (spec.class_named c.args.self.now.scopes c.args.self.now.items) (drop (c.loop-name.name-index + 1) c.args.names.now))) in
    let step = next_name (chains.walk c.args.self.now.scopes c.args.self.now.items c.args.numbers.now c.args.number) first_then (walk_append c.args.self.now.scopes c.args.self.now.items c.args.numbers.now c.args.number) (spec.chain_within c.args.self.now.scopes c.args.self.now.items c.args.left) (spec.class_named c.args.self.now.scopes c.args.self.now.items)
    c.args.names.now c.loop-name.name-index c.name-item.result (omega arith) c.name-item.is in
    ap (λ one. first_then one further) (sym c.in-Reached.is ∙ c.walk_named.ensures) ∙ sym step ∙ c.loop-name.invariant

pub walk_of-returns-in-Hidden : goal.walk_of-returns-in-Hidden
walk_of-returns-in-Hidden t c =
    let further = chains.walk c.args.self.now.scopes c.args.self.now.items c.args.numbers.now c.args.number (flat_map (spec.chain_within c.args.self.now.scopes c.args.self.now.items c.args.left) (filter_map (spec.class_named c.args.self.now.scopes c.args.self.now.items) (drop (c.loop-name.name-index + 1) c.args.names.now))) in
    let step = next_name (chains.walk c.args.self.now.scopes c.args.self.now.items c.args.numbers.now c.args.number) first_then (walk_append c.args.self.now.scopes c.args.self.now.items c.args.numbers.now c.args.number) (spec.chain_within c.args.self.now.scopes c.args.self.now.items c.args.left) (spec.class_named c.args.self.now.scopes c.args.self.now.items)
    c.args.names.now c.loop-name.name-index c.name-item.result (omega arith) c.name-item.is in
    ap (λ one. first_then one further) (sym c.in-Hidden.is ∙ c.walk_named.ensures) ∙ sym step ∙ c.loop-name.invariant

pub walk_of-loop-name-preserved : goal.walk_of-loop-name-preserved
walk_of-loop-name-preserved t c =
    let further = chains.walk c.args.self.now.scopes c.args.self.now.items c.args.numbers.now c.args.number (flat_map (spec.chain_within c.args.self.now.scopes c.args.self.now.items c.args.left) (filter_map (spec.class_named c.args.self.now.scopes c.args.self.now.items) (drop (c.loop-name.name-index + 1) c.args.names.now))) in
    let step = next_name (chains.walk c.args.self.now.scopes c.args.self.now.items c.args.numbers.now c.args.number) first_then (walk_append c.args.self.now.scopes c.args.self.now.items c.args.numbers.now c.args.number) (spec.chain_within c.args.self.now.scopes c.args.self.now.items c.args.left) (spec.class_named c.args.self.now.scopes c.args.self.now.items)
    c.args.names.now c.loop-name.name-index c.name-item.result (omega arith) c.name-item.is in
    ap (λ one. first_then one further) (sym c.in-Passed.is ∙ c.walk_named.ensures) ∙ sym step ∙ c.loop-name.invariant
