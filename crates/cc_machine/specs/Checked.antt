-- What the check of a body answers: the body itself, where no offset is wrong, or the body and its first wrong offset.
use Rattle.std.specs.Prelude.{◌≡◌, Some, None, Result, Ok, Err}
use Rattle.cc_cil.specs.declared.body.Body.{Body}
use Rattle.cc_cil.specs.Steps.{Checks}
use Rattle.cc_machine.specs.declared.checked.CheckFault.{CheckFault}
use Rattle.cc_machine.specs.declared.checked.CheckFault.TheVariants.{Memory, Bad}
use Rattle.cc_machine.specs.declared.checked.CheckRefusal.{CheckRefusal}

abbrev pub IsFault : Body → CheckFault → Type 0
IsFault body Memory = Unit {0}
IsFault body (Bad at) = Checks body.code body.max_stack 0 0 (Some at)

abbrev pub IsChecked : Body → Result Body CheckRefusal → Type 0
IsChecked body (Ok checked) = (checked ≡ body) × Checks body.code body.max_stack 0 0 None
IsChecked body (Err refusal) = (refusal.body ≡ body) × IsFault body refusal.fault
