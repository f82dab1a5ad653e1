-- The rules that the rows of a module keep (ECMA-335, II.22), as far as they speak of a module whose one type is row 1 of TypeDef, and the first that is broken: rule by rule, and under one rule by table and by row.
--   keeps m r check row    a row passes a check
--   first_bad test n       the first row of n that a test refuses
--   first_broken m r rules the first of the rules that is broken, and the first row that breaks it
--   first_class_fault m r  the first of all
use Rattle.std.specs.Prelude.{◌≡◌, ◌==◌, ◌&&◌, ◌+◌, ◌-◌, ◌/◌, ◌%◌, ℕ, zero, suc, Bool, true, false, not, List, [], ◌∷◌, length, take, slice_get, nat_le, nat_lt, Option, Some, None, codes, if◌then◌else◌}
use Rattle.std.specs.Str.{bytes_eq}
use Rattle.cc_base.specs.declared.identifiers.ClassId.{ClassId}
use Rattle.cc_cil.specs.declared.body.Body.{Body}
use Rattle.cc_cil.specs.declared.body.Clause.{Clause}
use Rattle.cc_module.specs.declared.element.TypeDefOrRef.{TypeDefOrRef}
use Rattle.cc_module.specs.declared.element.TypeDefOrRef.TheVariants as defined
use Rattle.cc_module.specs.declared.element.Element.{Element}
use Rattle.cc_module.specs.declared.element.Element.TheVariants as the
use Rattle.cc_module.specs.declared.signature.TypeSignature.{TypeSignature}
use Rattle.cc_module.specs.declared.signature.Signature.{Signature}
use Rattle.cc_module.specs.declared.signature.Signature.TheVariants.{Field, Method, Locals, Property, Instantiation, Plain}
use Rattle.cc_module.specs.declared.index.MemberRefParent.{MemberRefParent}
use Rattle.cc_module.specs.declared.index.MemberRefParent.TheVariants as parent
use Rattle.cc_module.specs.declared.index.ResolutionScope.{ResolutionScope}
use Rattle.cc_module.specs.declared.index.ResolutionScope.TheVariants as scope
use Rattle.cc_module.specs.declared.rows.TypeRefRow.{TypeRefRow}
use Rattle.cc_module.specs.declared.rows.TypeDefRow.{TypeDefRow}
use Rattle.cc_module.specs.declared.rows.MethodDefRow.{MethodDefRow}
use Rattle.cc_module.specs.declared.rows.MemberRefRow.{MemberRefRow}
use Rattle.cc_module.specs.declared.rows.AssemblyRefRow.{AssemblyRefRow}
use Rattle.cc_module.specs.declared.module.Module.{Module}
use Rattle.cc_module.specs.declared.table.Table.{Table}
use Rattle.cc_module.specs.declared.table.Table.TheVariants as table
use Rattle.cc_module.specs.Methods.{body_of}
use Rattle.cc_module.specs.Rows.{row_count}
use Rattle.cc_verify.specs.declared.readings.Readings.{Readings}
use Rattle.cc_verify.specs.declared.check.Check.{Check}
use Rattle.cc_verify.specs.declared.check.Check.TheVariants as check
use Rattle.cc_verify.specs.declared.check.ClassRule.{ClassRule}
use Rattle.cc_verify.specs.Transitions.{table_of, row_of, at_row}
use Rattle.cc_verify.specs.Regions.{is_catch}
use Rattle.cc_verify.specs.Library.{class_named, is_library_member, is_void, only, is_one}
use Rattle.cc_verify.specs.Types.{is_built_method, is_built_reference, are_built_locals, is_text_array}

-- ---- first rows

-- the first of so many rows that a test refuses, from a row on
abbrev pub first_bad_from : (ℕ → Bool) → ℕ → ℕ → Option ℕ
first_bad_from test row zero = None
first_bad_from test row (suc left) = if test row then first_bad_from test (suc row) left else Some row

-- rows count from 1
abbrev pub first_bad : (ℕ → Bool) → ℕ → Option ℕ
first_bad test count = first_bad_from test 1 count

-- what a signature column holds has a property, where it is a signature
abbrev pub if_read : (Signature → Bool) → Option (Option Signature) → Bool
if_read test None = true
if_read test (Some None) = true
if_read test (Some (Some s)) = test s

-- it is a signature, and has the property
abbrev pub is_read : (Signature → Bool) → Option (Option Signature) → Bool
is_read test None = false
is_read test (Some None) = false
is_read test (Some (Some s)) = test s

-- a row has a property, where it is there
abbrev pub row_has : {A : Type 0} → (A → Bool) → Option A → Bool
row_has test None = true
row_has test (Some a) = test a

-- ---- rule 0: the machine has the rows and the signatures

abbrev pub is_type_ref : MemberRefParent → Bool
is_type_ref (parent.TypeDef row) = false
is_type_ref (parent.TypeRef row) = true
is_type_ref (parent.TypeSpec row) = false

abbrev pub builds_method : Readings → ℕ → Bool
builds_method r row = if_read is_built_method (at_row r.methods row)

abbrev pub has_type_parent : MemberRefRow → Bool
has_type_parent x = is_type_ref x.class

abbrev pub builds_reference : Module → Readings → ℕ → Bool
builds_reference m r row = row_has has_type_parent (at_row m.member_refs row) && if_read is_built_reference (at_row r.references row)

abbrev pub builds_locals : Readings → ℕ → Bool
builds_locals r row = if_read are_built_locals (at_row r.locals row)

-- ---- rule 1: row 1 of TypeDef extends no class (II.22.37)

abbrev pub names_none : TypeDefOrRef → Bool
names_none (defined.TypeDef row) = row == 0
names_none (defined.TypeRef row) = row == 0
names_none (defined.TypeSpec row) = row == 0

abbrev pub has_no_base : TypeDefRow → Bool
has_no_base x = names_none x.extends

abbrev pub extends_none : Module → ℕ → Bool
extends_none m row = row_has has_no_base (at_row m.type_defs row)

-- ---- rule 2: no two methods have one name and signature (II.22.26); the later one offends

abbrev pub differs : MethodDefRow → MethodDefRow → Bool
differs r other = if bytes_eq r.name other.name then not (bytes_eq r.signature other.signature) else true

abbrev pub differs_from_each : MethodDefRow → List MethodDefRow → Bool
differs_from_each r [] = true
differs_from_each r (other ∷ rows) = differs r other && differs_from_each r rows

-- it differs from those before it
abbrev pub is_new_row : Module → ℕ → MethodDefRow → Bool
is_new_row m row x = differs_from_each x (take (row - 1) m.methods)

abbrev pub is_new : Module → ℕ → Bool
is_new m row = row_has (is_new_row m row) (at_row m.methods row)

-- ---- rule 3: signatures are of their kinds, and flags of theirs (II.22.25, II.22.26, II.22.36, II.23.1.10, II.23.1.15)

-- a bit of flags, by the number that it stands for
abbrev pub has_bit : ℕ → ℕ → Bool
has_bit bit flags = flags / bit % 2 == 1

-- public 1, sequential 8, interface 20, abstract 80 and sealed 100 (hexadecimal)
abbrev pub are_type_flags : ℕ → Bool
are_type_flags flags = nat_lt flags 0x200 && (flags / 2 % 4 == 0 && (not (has_bit 0x10 flags) && not (has_bit 0x40 flags)))

-- private 1, family 4 and public 6
abbrev pub is_access : ℕ → Bool
is_access access = if access == 1 then true else if access == 4 then true else access == 6

-- with static 10, final 20, virtual 40, hide by signature 80, new slot 100, abstract 400, special name 800 and runtime special name 1000 (hexadecimal)
abbrev pub are_method_flags : ℕ → Bool
are_method_flags flags = nat_lt flags 0x2000 && (is_access (flags % 8) && (not (has_bit 8 flags) && not (has_bit 0x200 flags)))

-- those of a static method, which isn't virtual, and so isn't abstract
abbrev pub are_static_flags : ℕ → Bool
are_static_flags flags = has_bit 0x10 flags && (not (has_bit 0x40 flags) && not (has_bit 0x400 flags))

abbrev pub is_static_method : Signature → Bool
is_static_method (Method has_this generic result parameters) = not has_this
is_static_method (Field t) = false
is_static_method (Locals types) = false
is_static_method (Property has_this holds indexes) = false
is_static_method (Instantiation types) = false
is_static_method (Plain t) = false

abbrev pub is_reference : Signature → Bool
is_reference (Method has_this generic result parameters) = true
is_reference (Field t) = true
is_reference (Locals types) = false
is_reference (Property has_this holds indexes) = false
is_reference (Instantiation types) = false
is_reference (Plain t) = false

abbrev pub is_locals : Signature → Bool
is_locals (Method has_this generic result parameters) = false
is_locals (Field t) = false
is_locals (Locals types) = true
is_locals (Property has_this holds indexes) = false
is_locals (Instantiation types) = false
is_locals (Plain t) = false

abbrev pub are_flags_of_type : TypeDefRow → Bool
are_flags_of_type x = are_type_flags x.flags

abbrev pub has_type_flags : Module → ℕ → Bool
has_type_flags m row = row_has are_flags_of_type (at_row m.type_defs row)

abbrev pub has_method_flags : MethodDefRow → Bool
has_method_flags x = are_method_flags x.flags && are_static_flags x.flags

-- an interface's methods are virtual and abstract
abbrev pub is_no_interface : TypeDefRow → Bool
is_no_interface x = not (has_bit 0x20 x.flags)

abbrev pub is_static : Module → Readings → ℕ → Bool
is_static m r row = is_read is_static_method (at_row r.methods row) && (row_has has_method_flags (at_row m.methods row) && row_has is_no_interface (at_row m.type_defs 1))

-- ---- rule 4: rows that are named are there, and void is a method's result alone (II.22)

abbrev pub is_there : {A : Type 0} → Option A → Bool
is_there None = false
is_there (Some a) = true

-- the library's assembly
abbrev pub is_library : Option AssemblyRefRow → Bool
is_library None = false
is_library (Some r) = bytes_eq r.name (codes "mscorlib")

abbrev pub scope_row : ResolutionScope → ℕ
scope_row (scope.AssemblyRef row) = row

abbrev pub class_at : Option TypeRefRow → Option ClassId
class_at None = None
class_at (Some r) = class_named r.namespace r.name

abbrev pub is_in_library : Module → TypeRefRow → Bool
is_in_library m x = is_library (at_row m.assembly_refs (scope_row x.scope)) && is_there (class_named x.namespace x.name)

abbrev pub names_class : Module → ℕ → Bool
names_class m row = row_has (is_in_library m) (at_row m.type_refs row)

-- the lists of row 1 begin at row 1
abbrev pub have_first_lists : TypeDefRow → Bool
have_first_lists x = x.fields.0 == 1 && x.methods.0 == 1

abbrev pub begins_lists : Module → ℕ → Bool
begins_lists m row = row_has have_first_lists (at_row m.type_defs row)

-- an index counts from 1 and may be one past the table's end
abbrev pub is_list_start : ℕ → ℕ → Bool
is_list_start index count = nat_le 1 index && nat_le index (count + 1)

abbrev pub no_void : List TypeSignature → Bool
no_void [] = true
no_void (t ∷ types) = not (is_void t.elements) && no_void types

abbrev pub takes_no_void : Signature → Bool
takes_no_void (Method has_this generic result parameters) = no_void parameters
takes_no_void (Locals types) = no_void types
takes_no_void (Field t) = true
takes_no_void (Property has_this holds indexes) = true
takes_no_void (Instantiation types) = true
takes_no_void (Plain t) = true

-- a body's token of locals is 0 or names a row of StandAloneSig
abbrev pub names_locals : Module → ℕ → Bool
names_locals m token = if token == 0 then true else if table_of token == 0x11 then is_there (at_row m.stand_alone_sigs (row_of token)) else false

-- a row of TypeRef or of TypeDef
abbrev pub names_type : Module → ℕ → Bool
names_type m token = if table_of token == 0x01 then is_there (at_row m.type_refs (row_of token)) else if table_of token == 0x02 then is_there (at_row m.type_defs (row_of token)) else false

-- a catch's token names one
abbrev pub names_caught : Module → Clause → Bool
names_caught m c = if is_catch c.kind then names_type m c.class else true

abbrev pub name_caught : Module → List Clause → Bool
name_caught m [] = true
name_caught m (c ∷ clauses) = names_caught m c && name_caught m clauses

abbrev pub body_at : Module → Option ℕ → Option Body
body_at m None = None
body_at m (Some place) = slice_get m.bodies place

abbrev pub body_names : Module → Option Body → Bool
body_names m None = true
body_names m (Some b) = names_locals m b.locals && name_caught m b.clauses

abbrev pub has_parameters : Module → MethodDefRow → Bool
has_parameters m x = is_list_start x.parameters.0 (length m.params)

-- a method belongs to a type, its parameters are there, and so is what its body names
abbrev pub names_all : Module → Readings → ℕ → Bool
names_all m r row = is_there (at_row m.type_defs 1) && (row_has (has_parameters m) (at_row m.methods row) && (if_read takes_no_void (at_row r.methods row) && body_names m (body_at m (body_of m row))))

-- the class that a reference's parent names
abbrev pub class_of_parent : Module → MemberRefParent → Option ClassId
class_of_parent m (parent.TypeRef row) = class_at (at_row m.type_refs row)
class_of_parent m (parent.TypeDef row) = None
class_of_parent m (parent.TypeSpec row) = None

abbrev pub is_member : Option ClassId → List ℕ → Signature → Bool
is_member None name s = false
is_member (Some class) name s = is_library_member class name s

-- where the reference has a signature, the class has such a member
abbrev pub is_member_row : Module → Option (Option Signature) → MemberRefRow → Bool
is_member_row m s x = if_read (is_member (class_of_parent m x.class) x.name) s

abbrev pub names_member : Module → Readings → ℕ → Bool
names_member m r row = row_has (is_member_row m (at_row r.references row)) (at_row m.member_refs row)

abbrev pub holds_no_void : Readings → ℕ → Bool
holds_no_void r row = if_read takes_no_void (at_row r.locals row)

-- ---- rule 11: the entry is a static method of one array of strings that gives int32 (II.15.4.1.2)

abbrev pub is_i4 : Element → Bool
is_i4 the.I4 = true
is_i4 _ = false

abbrev pub is_int : List Element → Bool
is_int t = is_one is_i4 (only t)

abbrev pub takes_texts : List TypeSignature → Bool
takes_texts [] = false
takes_texts (t ∷ []) = is_text_array t.elements
takes_texts (t ∷ u ∷ types) = false

abbrev pub is_entry : Signature → Bool
is_entry (Method has_this generic result parameters) = is_int result.elements && takes_texts parameters
is_entry (Field t) = false
is_entry (Locals types) = false
is_entry (Property has_this holds indexes) = false
is_entry (Instantiation types) = false
is_entry (Plain t) = false

abbrev pub names_entry : Module → Readings → Bool
names_entry m r = table_of m.entry == 0x06 && is_read is_entry (at_row r.methods (row_of m.entry))

-- ---- rule 12: each method has a body, none being abstract, and no static method is a constructor (II.22.26)

-- special name and runtime special name
abbrev pub is_constructor : ℕ → Bool
is_constructor flags = has_bit 0x800 flags && has_bit 0x1000 flags

abbrev pub is_no_constructor : MethodDefRow → Bool
is_no_constructor x = not (is_constructor x.flags)

abbrev pub has_body : Module → ℕ → Bool
has_body m row = is_there (body_at m (body_of m row)) && row_has is_no_constructor (at_row m.methods row)

-- ---- checks of rows

abbrev pub keeps : Module → Readings → Check → ℕ → Bool
keeps m r check.FirstType row = row == 1
keeps m r check.NoRow row = false
keeps m r check.MethodTypes row = builds_method r row
keeps m r check.ReferenceTypes row = builds_reference m r row
keeps m r check.LocalTypes row = builds_locals r row
keeps m r check.NoBase row = extends_none m row
keeps m r check.NewMethod row = is_new m row
keeps m r check.TypeFlags row = has_type_flags m row
keeps m r check.StaticMethod row = is_static m r row
keeps m r check.ReferenceKind row = is_read is_reference (at_row r.references row)
keeps m r check.LocalsKind row = is_read is_locals (at_row r.locals row)
keeps m r check.LibraryClass row = names_class m row
keeps m r check.ListStarts row = begins_lists m row
keeps m r check.MethodNames row = names_all m r row
keeps m r check.LibraryMember row = names_member m r row
keeps m r check.LocalsWithoutVoid row = holds_no_void r row
keeps m r check.MethodBody row = has_body m row

-- ---- all rules, in their order; 5 to 10 are of value classes, virtual methods, interfaces and properties

abbrev pub tested : ℕ → Table → Check → ClassRule
tested rule table check = record { rule = rule; table = table; check = check }

-- rules 0 to 4: by number, and under one number by table
unfoldable pub row_rules : List ClassRule
row_rules =
    tested 0 table.TypeDef check.FirstType ∷
    tested 0 table.Field check.NoRow ∷
    tested 0 table.MethodDef check.MethodTypes ∷
    tested 0 table.InterfaceImpl check.NoRow ∷
    tested 0 table.MemberRef check.ReferenceTypes ∷
    tested 0 table.Constant check.NoRow ∷
    tested 0 table.StandAloneSig check.LocalTypes ∷
    tested 0 table.PropertyMap check.NoRow ∷
    tested 0 table.Property check.NoRow ∷
    tested 0 table.MethodSemantics check.NoRow ∷
    tested 0 table.MethodImpl check.NoRow ∷
    tested 0 table.TypeSpec check.NoRow ∷
    tested 0 table.GenericParam check.NoRow ∷
    tested 0 table.MethodSpec check.NoRow ∷
    tested 0 table.GenericParamConstraint check.NoRow ∷
    tested 1 table.TypeDef check.NoBase ∷
    tested 2 table.MethodDef check.NewMethod ∷
    tested 3 table.TypeDef check.TypeFlags ∷
    tested 3 table.MethodDef check.StaticMethod ∷
    tested 3 table.MemberRef check.ReferenceKind ∷
    tested 3 table.StandAloneSig check.LocalsKind ∷
    tested 4 table.TypeRef check.LibraryClass ∷
    tested 4 table.TypeDef check.ListStarts ∷
    tested 4 table.MethodDef check.MethodNames ∷
    tested 4 table.MemberRef check.LibraryMember ∷
    tested 4 table.StandAloneSig check.LocalsWithoutVoid ∷ []

-- rule 12
unfoldable pub body_rules : List ClassRule
body_rules = tested 12 table.MethodDef check.MethodBody ∷ []

abbrev pub or : Option (ℕ × ℕ) → Option (ℕ × ℕ) → Option (ℕ × ℕ)
or (Some at) next = Some at
or None next = next

abbrev pub under : ℕ → Option ℕ → Option (ℕ × ℕ)
under rule None = None
under rule (Some row) = Some (rule, row)

abbrev pub broken_rule : Module → Readings → ClassRule → Option (ℕ × ℕ)
broken_rule m r x = under x.rule (first_bad (keeps m r x.check) (row_count m x.table))

abbrev pub first_broken : Module → Readings → List ClassRule → Option (ℕ × ℕ)
first_broken m r [] = None
first_broken m r (x ∷ rules) = or (broken_rule m r x) (first_broken m r rules)

-- rule 11 names the row in the entry token
abbrev pub bad_entry : Module → Readings → Option (ℕ × ℕ)
bad_entry m r = if names_entry m r then None else Some (11, row_of m.entry)

abbrev pub first_class_fault : Module → Readings → Option (ℕ × ℕ)
first_class_fault m r = or (first_broken m r row_rules) (or (bad_entry m r) (first_broken m r body_rules))
