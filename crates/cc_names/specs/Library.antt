-- The scopes and declarations of a unit with those of the library.
use Rattle.cc_tree.specs.declared.unit.Unit.{Unit}
use Rattle.cc_names.specs.declared.scope.Declared.{Declared}
use Rattle.cc_names.specs.Units.{collected}
use Rattle.cc_names.specs.LibraryRows.{with_library}

abbrev pub declared : Unit → Declared
declared unit = with_library (collected unit)
