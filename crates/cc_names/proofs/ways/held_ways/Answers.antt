use Rattle.std.proofs.Common.{◌≡◌, ◌∙◌, sym, ap, ℕ, List, None, Some}
use Rattle.std.specs.Option.{option_copied}
use Rattle.cc_names.specs.Classes as classes
use Rattle.cc_names.specs.Refusals as spec
use Rattle.cc_names.specs.Spaces as spaces
use Rattle.cc_names.specs.Told.{told_all}
use Rattle.cc_names.proofs.Gathering.{with_found, next_ways}
use Rattle.cc_names.proofs.ways.held_ways.Goals.{in-None, in-Some+in_ok-add_held-in-Some}
use Rattle.cc_names.proofs.ways.held_ways.Goals as goal

pub loop-one-preserved : goal.loop-one-preserved
loop-one-preserved c =
    let seconds = classes.held_seconds (spaces.space c.args.space.now) in
    let whole = classes.ways_of seconds (spec.classes_of (told_all c.args.all.now)) in
    elim c.match-class_of.branch [
      | in-None w ↦
          next_ways seconds c.args.all.now c.loop-one.one-index c.one-item.result c.loop-one.pairs c.match-class_of.pairs None whole c.loop-one-test.true c.one-item.is c.loop-one.invariant
          (ap (λ found. spec.class_list (option_copied found)) (sym w.in-None.is) ∙ c.class_of.ensures) w.pairs-is
      | in-Some+in_ok-add_held-in-Some w ↦
          next_ways seconds c.args.all.now c.loop-one.one-index c.one-item.result c.loop-one.pairs c.match-class_of.pairs (Some w.in-Some.class.now) whole c.loop-one-test.true c.one-item.is c.loop-one.invariant
          (ap (λ found. spec.class_list (option_copied found)) (sym w.in-Some.is) ∙ c.class_of.ensures) (w.pairs-is ∙ w.in_ok-add_held-in-Some.ensures ∙ ap (λ (path : List ℕ). with_found seconds c.loop-one.pairs path (Some w.in-Some.class.now)) c.as_slice.ensures)
    ]
