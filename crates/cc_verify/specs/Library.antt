-- The library's classes that a module's references name (assembly mscorlib, namespace System), by their numbers, and the members that the machine has.
--   class_named space name     the class with a full name
--   is_library_member c n s    a class has a member with the name and the signature
use Rattle.std.specs.Prelude.{◌≡◌, ◌==◌, ℕ, Bool, true, false, List, [], ◌∷◌, map, codes, Option, Some, None, if◌then◌else◌}
use Rattle.std.specs.Str.{bytes_eq}
use Rattle.cc_base.specs.declared.identifiers.ClassId.{ClassId}
use Rattle.cc_module.specs.declared.element.Element.{Element}
use Rattle.cc_module.specs.declared.element.Element.TheVariants as the
use Rattle.cc_module.specs.declared.signature.TypeSignature.{TypeSignature}
use Rattle.cc_module.specs.declared.signature.Signature.{Signature}
use Rattle.cc_module.specs.declared.signature.Signature.TheVariants.{Field, Method, Locals, Property, Instantiation, Plain}
use Rattle.cc_verify.specs.declared.library.TheConstants.{LIBRARY_CLASSES}

-- the class that stands beside a name
abbrev pub class_in : List (List ℕ × ClassId) → List ℕ → Option ClassId
class_in [] name = None
class_in (c ∷ classes) name = if bytes_eq c.0 name then Some c.1 else class_in classes name

abbrev pub library_classes : List (List ℕ × ClassId)
library_classes = map (λ row. (row.0.now, row.1)) LIBRARY_CLASSES

abbrev pub class_named : List ℕ → List ℕ → Option ClassId
class_named namespace name = if bytes_eq namespace (codes "System") then class_in library_classes name else None

-- ---- members that the machine has: Write and WriteLine of Console

abbrev pub CONSOLE : ℕ
CONSOLE = 15

-- the types of which Console writes a value
abbrev pub is_written_element : Element → Bool
is_written_element the.Boolean = true
is_written_element the.Char = true
is_written_element the.I4 = true
is_written_element the.U4 = true
is_written_element the.I8 = true
is_written_element the.U8 = true
is_written_element _ = false

abbrev pub is_void_element : Element → Bool
is_void_element the.Void = true
is_void_element _ = false

-- the one element of a type that is made of no other
abbrev pub only : List Element → Option Element
only [] = None
only (e ∷ []) = Some e
only (e ∷ f ∷ elements) = None

abbrev pub is_one : (Element → Bool) → Option Element → Bool
is_one test None = false
is_one test (Some e) = test e

abbrev pub is_written : List Element → Bool
is_written t = is_one is_written_element (only t)

abbrev pub is_void : List Element → Bool
is_void t = is_one is_void_element (only t)

abbrev pub are_written : Bool → List TypeSignature → Bool
are_written line [] = line
are_written line (t ∷ []) = is_written t.elements
are_written line (t ∷ u ∷ types) = false

abbrev pub is_generic : Option ℕ → Bool
is_generic None = false
is_generic (Some count) = true

-- a static method without a result that takes one such value, or, where it ends a line, none
abbrev pub writes : Bool → Signature → Bool
writes line (Method has_this generic result parameters) = if has_this then false else if is_generic generic then false else if is_void result.elements then are_written line parameters else false
writes line (Field t) = false
writes line (Locals types) = false
writes line (Property has_this holds indexes) = false
writes line (Instantiation types) = false
writes line (Plain t) = false

abbrev pub is_library_member : ClassId → List ℕ → Signature → Bool
is_library_member class name s = if class.0 == CONSOLE then (if bytes_eq name (codes "Write") then writes false s else if bytes_eq name (codes "WriteLine") then writes true s else false) else false
