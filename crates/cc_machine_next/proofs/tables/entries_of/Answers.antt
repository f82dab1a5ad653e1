use Rattle.std.proofs.Common.{◌≡◌, ◌-◌, ◌<◌, length, sym, subst, arith, drop}
use Rattle.std.proofs.lemmas.Option.{slice_get-get_or}
use Rattle.cc_machine_next.specs.Tables.{AreEntries}
use Rattle.cc_machine_next.proofs.Tabling.{none_yet, entries_more}
use Rattle.cc_machine_next.proofs.tables.entries_of.Goals as goal

pub loop-k-init : goal.loop-k-init
loop-k-init c =
    let operations = c.args.operations.now in let entries = c.new-entries.result.items in
    let all : length operations - 0 ≡ length operations = omega arith in
    subst (λ k. AreEntries (drop k operations) entries) (sym all) (none_yet operations entries)

pub loop-k-preserved : goal.loop-k-preserved
loop-k-preserved c =
    let operations = c.args.operations.now in let k = c.loop-k.k in
    let low : k < length operations = omega arith in
    entries_more operations k _ c.loop-k.entries.items c.put.new.entries.items low (slice_get-get_or operations (length operations - 1 - k) _ (omega (arith, low))) c.loop-k.invariant
    c.in_ok-put.ensures.there c.in_ok-put.ensures.others

pub returns : goal.returns
returns c =
    let operations = c.args.operations.now in
    let none : length operations - c.loop-k.k ≡ 0 = omega arith in
    subst (λ j. AreEntries (drop j operations) c.loop-k.entries.items) none c.loop-k.invariant
