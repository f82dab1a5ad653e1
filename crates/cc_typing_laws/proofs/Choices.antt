-- The choice that the language makes among functions of fundamental types: there is one, and no other.
use Rattle.std.proofs.Common.{◌≡◌, List, ap}
use Rattle.cc_core.specs.declared.types.ClassInfo.{ClassInfo}
use Rattle.cc_convert.proofs.LawProofs.{one_choice}
use Rattle.cc_operations.specs.Choosing.{Pick, Chooses, given_types, signatures_of}
use Rattle.cc_typing_laws.specs.Laws.{SomeChoice, OneAnswer}
use Rattle.cc_typing_laws.specs.Contents.{functions}
use Rattle.cc_typing_laws.specs.Programs.{library_classes, classes_with, typed_program}
use Rattle.cc_typing_laws.proofs.Existence as existence

pub some_choice : SomeChoice
some_choice classes = ((λ candidates arguments. (existence.some_choice classes arguments candidates).0), λ candidates arguments. (existence.some_choice classes arguments candidates).1)

-- two that are made in each case as the language does are the same
same_pick : (classes : List ClassInfo) (one other : Pick) → Chooses classes one → Chooses classes other → one ≡ other
same_pick classes one other a b =
    λ i candidates arguments. one_choice classes (given_types arguments) (signatures_of candidates) (one candidates arguments) (other candidates arguments) (a candidates arguments) (b candidates arguments) i

pub one_answer : OneAnswer
one_answer one other unit a b = ap (λ pick. typed_program pick unit) (same_pick (classes_with library_classes (functions unit)) one other a b)
