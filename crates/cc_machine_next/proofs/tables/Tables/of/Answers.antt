use Rattle.std.proofs.Common.{length, sym, ap, subst, ◌∙◌, arith, get_or}
use Rattle.std.proofs.lemmas.List.{take_all}
use Rattle.cc_machine_next.proofs.Tabling.{Match, match_next, match_each}
use Rattle.cc_machine_next.proofs.tables.Tables.of.Goals as goal

pub loop-method-preserved : goal.loop-method-preserved
loop-method-preserved c =
    let items = c.as_slice-method-items.ensures in
    match_next c.args.code.now.methods c.loop-method.method-index c.loop-method.methods.items c.push.new.self.items c.method-item.result c.in_ok-entry.entry (omega (arith, ap length items)) (c.method-item.is ∙ ap (λ l. get_or l c.loop-method.method-index c.method-item.result) items)
    c.loop-method.invariant c.in_ok-entry.ensures c.in_ok-push.ensures.items

pub returns : goal.returns
returns c =
    let methods = c.args.code.now.methods in let entries = c.loop-method.methods.items in
    let all = subst (λ l. Match l entries) (take_all c.loop-method.method-index methods (omega (arith, ap length c.as_slice-method-items.ensures))) c.loop-method.invariant in
    record { each = match_each methods c.from_vec.result (subst (Match methods) (sym c.from_vec.ensures) all) }
