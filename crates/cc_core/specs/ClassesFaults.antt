-- What each refusal of a list of classes says of it.
use Rattle.std.specs.Prelude.{◌≡◌, ◌≤◌, ◌^◌, List, length, slice_get, sum_by, false, Some}
use Rattle.cc_core.specs.declared.types.ClassInfo.{ClassInfo}
use Rattle.cc_core.specs.declared.fault.ClassesFault.{ClassesFault}
use Rattle.cc_core.specs.declared.fault.ClassesFault.TheVariants as fault
use Rattle.cc_core.specs.Classes.{class_within, Derives, Holds}

abbrev pub IsBroken : List ClassInfo → ClassesFault → Type 0
IsBroken classes fault.TooManyClasses = 2 ^ 32 ≤ length classes
IsBroken classes fault.TooManyFields = 2 ^ 32 ≤ sum_by (λ class. length class.fields) classes
IsBroken classes fault.TooManyMethods = 2 ^ 32 ≤ sum_by (λ class. length class.methods) classes
IsBroken classes (fault.NamesNoClass id) = (class : ClassInfo) × (slice_get classes id.0 ≡ Some class) × (class_within (length classes) class ≡ false)
IsBroken classes (fault.DerivesFromItself id) = Derives classes id id
IsBroken classes (fault.HoldsItself id) = Holds classes id id
IsBroken classes fault.Memory = Unit {0}
