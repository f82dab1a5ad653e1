-- A verified module is loaded as an executable.
use Rattle.std.proofs.Common.{◌≡◌, ℕ, ◌+◌, List, [], ◌∷◌, refl, sym, ap, ◌∙◌, subst, eqb-true, eq-eqb}
use Rattle.std.specs.Prelude.{Bool, true, false, not, ◌&&◌, ◌==◌, Option, Some, None, option_map, codes, position, if◌then◌else◌}
use Rattle.std.specs.Str.{bytes_eq}
use Rattle.std.specs.List.{position_from}
use Rattle.std.proofs.lemmas.Bool.{and_parts}
use Rattle.std.proofs.lemmas.Iterator.Adapters.{position_from-zero}
use Rattle.cc_base.specs.declared.identifiers.ClassId.{ClassId}
use Rattle.cc_core.specs.declared.library_call.LibraryCall.{LibraryCall}
use Rattle.cc_core.specs.declared.library_call.LibraryCall.TheVariants.{Write, WriteLine, WriteEmptyLine}
use Rattle.cc_core.specs.declared.library_call.Printed.{Printed}
use Rattle.cc_core.specs.declared.library_call.Printed.TheVariants as printed
use Rattle.cc_module.specs.declared.element.Element.{Element}
use Rattle.cc_module.specs.declared.element.Element.TheVariants as the
use Rattle.cc_module.specs.declared.index.MemberRefParent.{MemberRefParent}
use Rattle.cc_module.specs.declared.index.MemberRefParent.TheVariants as parent
use Rattle.cc_module.specs.declared.signature.TypeSignature.{TypeSignature}
use Rattle.cc_module.specs.declared.signature.Signature.{Signature}
use Rattle.cc_module.specs.declared.signature.Signature.TheVariants as sig
use Rattle.cc_module.specs.declared.rows.TypeRefRow.{TypeRefRow}
use Rattle.cc_module.specs.declared.rows.MemberRefRow.{MemberRefRow}
use Rattle.cc_module.specs.declared.module.Module.{Module}
use Rattle.cc_execution.specs.declared.operation.FundamentalType.{FundamentalType}
use Rattle.cc_execution.specs.declared.operation.FundamentalType.TheVariants.{Boolean, Char, I1, U1, I2, U2, I4, U4, I8, U8}
use Rattle.cc_execution.specs.Fundamental.{fundamental, fundamental_alone, parameter_types, with_type, fundamental_each, result_of}
use Rattle.cc_execution.specs.Library.{class_names, class_number, printed_type, printed_alone, write_call, write_line_call, named_call, library_call, CONSOLE}
use Rattle.cc_execution.specs.Library as library
use Rattle.cc_execution.specs.Loaded.{Spells, parameters_in, result_in, locals_in, is_console, class_of_reference, parent_class, IsReference}
use Rattle.cc_execution.specs.Operations as operations
use Rattle.cc_verify.specs.Library.{class_in, library_classes, class_named, is_written_element, is_written, is_void, are_written, writes}
use Rattle.cc_verify.specs.Types.{is_built_type, are_built_types, is_built_method, are_built_locals}
use Rattle.cc_verify.specs.ClassRules.{is_static_method, is_locals, class_at, no_void, takes_no_void, class_of_parent, is_member}
use Rattle.cc_soundness.proofs.Nesting.{iff_same}

pub false_true : {P : Type 0} → false ≡ true → P
false_true h = let bad : false ≡ true = h in cc

-- ---- methods

built_result : (elements : List Element) → is_built_type elements ≡ true → (r : Option FundamentalType) × (result_of elements ≡ Some r)
built_result [] h = false_true h
built_result (t ∷ []) h = one t h where
  one : (t : Element) → is_built_type (t ∷ []) ≡ true → (r : Option FundamentalType) × (result_of (t ∷ []) ≡ Some r)
  one the.Void h = (None, refl)
  one the.Boolean h = (Some Boolean, refl)
  one the.Char h = (Some Char, refl)
  one the.I1 h = (Some I1, refl)
  one the.U1 h = (Some U1, refl)
  one the.I2 h = (Some I2, refl)
  one the.U2 h = (Some U2, refl)
  one the.I4 h = (Some I4, refl)
  one the.U4 h = (Some U4, refl)
  one the.I8 h = (Some I8, refl)
  one the.U8 h = (Some U8, refl)
  one t h = false_true h
built_result (t ∷ u ∷ elements) h = false_true h

-- a method's signature is that of a method of the machine
pub record Typed (s : Signature) : Type 0 where
  pub parameters : List (Option FundamentalType)
  pub result : Option FundamentalType
  pub takes : parameters_in s ≡ Some parameters
  pub gives : result_in s ≡ Some result

pub method_typed : (s : Signature) → is_static_method s ≡ true → is_built_method s ≡ true → Typed s
method_typed (sig.Method false None result parameters) h k = let r = built_result result.elements (and_parts _ _ k).0 in record { parameters = parameter_types parameters; result = r.0; takes = refl; gives = r.1 }
method_typed (sig.Method false (Some count) result parameters) h k = false_true k
method_typed (sig.Method true None result parameters) h k = false_true h
method_typed (sig.Method true (Some count) result parameters) h k = false_true h
method_typed s h k = false_true h

-- ---- local variables

built_local : (elements : List Element) → is_built_type elements ≡ true → not (is_void elements) ≡ true → (t : FundamentalType) × (fundamental_alone elements ≡ Some t)
built_local [] h k = false_true h
built_local (t ∷ []) h k = one t h k where
  one : (t : Element) → is_built_type (t ∷ []) ≡ true → not (is_void (t ∷ [])) ≡ true → (r : FundamentalType) × (fundamental t ≡ Some r)
  one the.Void h k = false_true k
  one the.Boolean h k = (Boolean, refl)
  one the.Char h k = (Char, refl)
  one the.I1 h k = (I1, refl)
  one the.U1 h k = (U1, refl)
  one the.I2 h k = (I2, refl)
  one the.U2 h k = (U2, refl)
  one the.I4 h k = (I4, refl)
  one the.U4 h k = (U4, refl)
  one the.I8 h k = (I8, refl)
  one the.U8 h k = (U8, refl)
  one t h k = false_true h
built_local (t ∷ u ∷ elements) h k = false_true h

built_locals : (types : List TypeSignature) → are_built_types types ≡ true → no_void types ≡ true → (locals : List FundamentalType) × (fundamental_each types ≡ Some locals)
built_locals [] h k = ([], refl)
built_locals (t ∷ types) h k =
    let p = and_parts (is_built_type t.elements) (are_built_types types) h in
    let q = and_parts (not (is_void t.elements)) (no_void types) k in
    let one = built_local t.elements p.0 q.0 in
    let rest = built_locals types p.1 q.1 in
    (one.0 ∷ rest.0, ap (λ o. with_type o (fundamental_each types)) one.1 ∙ ap (with_type (Some one.0)) rest.1)

pub locals_typed : (s : Signature) → is_locals s ≡ true → are_built_locals s ≡ true → takes_no_void s ≡ true → (locals : List FundamentalType) × (locals_in s ≡ Some locals)
locals_typed (sig.Locals types) h k v = built_locals types k v
locals_typed s h k v = false_true h

-- ---- the library's classes: the two tables agree

numbered : ℕ → List (List ℕ) → List (List ℕ × ClassId)
numbered n [] = []
numbered n (c ∷ cs) = (c, class_number n) ∷ numbered (n + 1) cs

same_table : library_classes ≡ numbered 0 class_names
unfolding class_names numbered
same_table = refl

bytes_turned : (a b : List ℕ) → bytes_eq a b ≡ bytes_eq b a
bytes_turned [] [] = refl
bytes_turned [] (y ∷ b) = refl
bytes_turned (x ∷ a) [] = refl
bytes_turned (x ∷ a) (y ∷ b) = ap (λ z. z && bytes_eq a b) (turned x y) ∙ ap (λ z. (y == x) && z) (bytes_turned a b) where
  turned : (x y : ℕ) → (x == y) ≡ (y == x)
  turned x y = iff_same (x == y) (y == x) (λ h. eq-eqb y x (sym (eqb-true x y h))) (λ h. eq-eqb x y (sym (eqb-true y x h)))

-- where a name stands in a table
found_in : (n : ℕ) (names : List (List ℕ)) (name : List ℕ) → class_in (numbered n names) name ≡ option_map class_number (position_from (bytes_eq name) n names)
unfolding numbered
found_in n [] name = refl
found_in n (c ∷ names) name =
    ap (λ b. if b then Some (class_number n) else class_in (numbered (n + 1) names) name) (bytes_turned c name)
    ∙ ap (λ o. if bytes_eq name c then Some (class_number n) else o) (found_in (n + 1) names name)
    ∙ mapped_if (bytes_eq name c) n (position_from (bytes_eq name) (n + 1) names) where
      mapped_if : (b : Bool) (n : ℕ) (o : Option ℕ) → (if b then Some (class_number n) else option_map class_number o) ≡ option_map class_number (if b then Some n else o)
      mapped_if true n o = refl
      mapped_if false n o = refl

same_class : (space name : List ℕ) → class_named space name ≡ library.class_named space name
same_class space name = ap (λ o. if bytes_eq space (codes "System") then o else None) (ap (λ l. class_in l name) same_table ∙ found_in 0 class_names name ∙ ap (option_map class_number) (position_is (bytes_eq name) class_names)) where
  position_is : (p : List ℕ → Bool) (names : List (List ℕ)) → position_from p 0 names ≡ position p names
  position_is p names = sym (position_from-zero p names)

-- ---- members of the library

written_there : (elements : List Element) → is_written elements ≡ true → (p : Printed) × (printed_alone elements ≡ Some p)
written_there [] h = false_true h
written_there (t ∷ []) h = one t h where
  one : (t : Element) → is_written_element t ≡ true → (p : Printed) × (printed_type t ≡ Some p)
  one the.Boolean h = (printed.Bool, refl)
  one the.Char h = (printed.Char, refl)
  one the.I4 h = (printed.I32, refl)
  one the.U4 h = (printed.U32, refl)
  one the.I8 h = (printed.I64, refl)
  one the.U8 h = (printed.U64, refl)
  one t h = false_true h
written_there (t ∷ u ∷ elements) h = false_true h

write_there : (types : List TypeSignature) → are_written false types ≡ true → (c : LibraryCall) × (write_call types ≡ Some c)
write_there [] h = false_true h
write_there (t ∷ []) h = let p = written_there t.elements h in (Write p.0, ap (option_map Write) p.1)
write_there (t ∷ u ∷ types) h = false_true h

write_line_there : (types : List TypeSignature) → are_written true types ≡ true → (c : LibraryCall) × (write_line_call types ≡ Some c)
write_line_there [] h = (WriteEmptyLine, refl)
write_line_there (t ∷ []) h = let p = written_there t.elements h in (WriteLine p.0, ap (option_map WriteLine) p.1)
write_line_there (t ∷ u ∷ types) h = false_true h

void_same : (elements : List Element) → is_void elements ≡ true → library.is_void elements ≡ true
void_same [] h = false_true h
void_same (t ∷ []) h = one t h where
  one : (t : Element) → is_void (t ∷ []) ≡ true → library.is_void (t ∷ []) ≡ true
  one the.Void h = refl
  one t h = false_true h
void_same (t ∷ u ∷ elements) h = false_true h

-- a static member without a result that writes
writes_static : (line : Bool) (s : Signature) → writes line s ≡ true
    → (result : TypeSignature) × (parameters : List TypeSignature) × (s ≡ sig.Method false None result parameters) × (is_void result.elements ≡ true) × (are_written line parameters ≡ true)
writes_static line (sig.Method false None result parameters) h = by_void (is_void result.elements) refl h where
  by_void : (b : Bool) → is_void result.elements ≡ b → (if b then are_written line parameters else false) ≡ true
      → (r : TypeSignature) × (ps : List TypeSignature) × (sig.Method false None result parameters ≡ sig.Method false None r ps) × (is_void r.elements ≡ true) × (are_written line ps ≡ true)
  by_void true e h = (result, parameters, refl, e, h)
  by_void false e h = false_true h
writes_static line (sig.Method false (Some count) result parameters) h = false_true h
writes_static line (sig.Method true None result parameters) h = false_true h
writes_static line (sig.Method true (Some count) result parameters) h = false_true h
writes_static line s h = false_true h

-- by the names of members
abbrev CallOf : List ℕ → Signature → Type 0
CallOf name s = (c : LibraryCall) × (library_call name s ≡ Some c)

call_by : (name : List ℕ) (result : TypeSignature) (parameters : List TypeSignature) (s : Signature) → s ≡ sig.Method false None result parameters → is_void result.elements ≡ true → (c : LibraryCall) → named_call name parameters ≡ Some c → CallOf name s
call_by name result parameters s same void c named =
    (c, ap (library_call name) same ∙ ap (λ b. if b then named_call name parameters else None) (void_same result.elements void) ∙ named)

member_call : (name : List ℕ) (s : Signature) (a b : Bool) → bytes_eq name (codes "Write") ≡ a → bytes_eq name (codes "WriteLine") ≡ b → (if a then writes false s else if b then writes true s else false) ≡ true → CallOf name s
member_call name s true b e f h =
    let w = writes_static false s h in
    let c = write_there w.1 w.4 in
    call_by name w.0 w.1 s w.2 w.3 c.0 (ap (λ z. if z then write_call w.1 else if bytes_eq name (codes "WriteLine") then write_line_call w.1 else None) e ∙ c.1)
member_call name s false true e f h =
    let w = writes_static true s h in
    let c = write_line_there w.1 w.4 in
    call_by name w.0 w.1 s w.2 w.3 c.0
    (ap (λ z. if z then write_call w.1 else if bytes_eq name (codes "WriteLine") then write_line_call w.1 else None) e ∙ ap (λ z. if z then write_line_call w.1 else None) f ∙ c.1)
member_call name s false false e f h = false_true h

-- of Console alone
console_member : (class : ClassId) (name : List ℕ) (s : Signature) (a : Bool) → (class.0 == CONSOLE) ≡ a
    → (if a then (if bytes_eq name (codes "Write") then writes false s else if bytes_eq name (codes "WriteLine") then writes true s else false) else false) ≡ true → ((class.0 == CONSOLE) ≡ true) × CallOf name s
console_member class name s true e h = (e, member_call name s (bytes_eq name (codes "Write")) (bytes_eq name (codes "WriteLine")) refl refl h)
console_member class name s false e h = false_true h

same_reference : (o : Option TypeRefRow) → class_at o ≡ class_of_reference o
same_reference None = refl
same_reference (Some row) = same_class row.namespace row.name

same_parent : (m : Module) (p : MemberRefParent) → class_of_parent m p ≡ parent_class m p
same_parent m (parent.TypeRef row) = same_reference (operations.at_row m.type_refs row)
same_parent m (parent.TypeDef row) = refl
same_parent m (parent.TypeSpec row) = refl

member_there : (class : Option ClassId) (name : List ℕ) (s : Signature) → is_member class name s ≡ true → (is_console class ≡ true) × CallOf name s
member_there None name s h = false_true h
member_there (Some class) name s h = console_member class name s (class.0 == CONSOLE) refl h

pub reference_there : (m : Module) (row : ℕ) (of : MemberRefRow) (s : Signature) → Spells of.signature s → is_member (class_of_parent m of.class) of.name s ≡ true → (c : LibraryCall) × IsReference m row of c
reference_there m row of s spells h =
    let r = member_there (class_of_parent m of.class) of.name s h in
    (r.1.0, record { signature = s; spells = spells; console = subst (λ o. is_console o ≡ true) (same_parent m of.class) r.0; member = r.1.1 })
