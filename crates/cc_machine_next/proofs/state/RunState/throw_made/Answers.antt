use Rattle.std.proofs.Common.{◌-◌, ◌≤◌, arith, refl}
use Rattle.std.proofs.lemmas.Bool.{le-ltb}
use Rattle.cc_machine_next.proofs.Throwing.{made}
use Rattle.cc_machine_next.proofs.state.RunState.throw_made.Goals as goal

pub returns-in-Ok-clause-shows : goal.returns-in-Ok-clause-shows
returns-in-Ok-clause-shows c =
    let s = c.args.self.now in
    let enough : 3 ≤ s.room = omega arith in
    made c.args.code.now c.requires s.frames s.heap.items s.room s.output.items c.args.class c.push.new.self.items (s.room - 3) (le-ltb s.room 3 enough) c.in-Ok.ensures.items refl
