use Rattle.std.proofs.Common.{◌≡◌, ◌++◌, drop, map}
use Rattle.cc_typing.specs.Told.{told_all}
use Rattle.cc_typing_laws.specs.Contents.{in_order, functions_of}
use Rattle.cc_typing.proofs.contents.+functions.Given as goal

abbrev pub invariant-add_all_functions-loop-outer : goal.invariant-add_all_functions-loop-outer
invariant-add_all_functions-loop-outer l = told_all l.all.items ++ in_order (map functions_of (drop l.outer-index l.outers)) l.path ≡ told_all l.initial.all.items ++ in_order (map functions_of l.outers) l.path
