use Rattle.std.proofs.Common.{◌<◌, ◌^◌, length}
use Rattle.std.proofs.lemmas.List.Elements.{All-from_recursion, All-weaker}
use Rattle.cc_cil.specs.Bodies.{HasSpelling}
use Rattle.cppcli.proofs.steps.list_module.Goals as goal

pub list-requires : goal.list-requires
list-requires c = All-weaker HasSpelling (λ b. length b.code < 2 ^ 32) (λ b spelled. spelled.code) c.args.«module».now.bodies (All-from_recursion HasSpelling c.args.«module».now.bodies c.requires.bodies)
