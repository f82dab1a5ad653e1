use Rattle.std.proofs.Common.{◌≡◌, map, take}
use Rattle.cc_typing.specs.Told.{told_all}
use Rattle.cc_typing_laws.specs.Programs.{function_info}
use Rattle.cc_typing.proofs.classes.methods_of.Given as goal

abbrev pub invariant-loop-one : goal.invariant-loop-one
invariant-loop-one l = l.methods ≡ map function_info (told_all (take l.one-index l.functions))
