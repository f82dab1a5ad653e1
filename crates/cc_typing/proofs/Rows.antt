-- The library's classes by the table of their names.
use Rattle.std.proofs.Common.{◌≡◌, map, refl}
use Rattle.cc_names.specs.declared.catalogue.TheConstants.{LIBRARY}
use Rattle.cc_typing.specs.Library.{class_of}
use Rattle.cc_typing_laws.specs.Programs.{library_classes}

pub rows_are_classes : map (λ row. class_of row.0.now row.2 row.3.now) LIBRARY ≡ library_classes
rows_are_classes = refl
