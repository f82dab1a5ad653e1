-- What the verifier knows of the methods and variables of a module is what they are in its executable.
use Rattle.std.proofs.Common.{◌≡◌, ℕ, zero, suc, List, [], ◌∷◌, map, refl, sym, ap, ◌∙◌}
use Rattle.std.specs.Prelude.{Bool, true, false, ◌==◌, Option, Some, None, option_map, slice_get, codes, if◌then◌else◌}
use Rattle.std.specs.Str.{bytes_eq}
use Rattle.std.proofs.lemmas.Option.{same_Some}
use Rattle.cc_cil.specs.declared.body.Body.{Body}
use Rattle.cc_core.specs.declared.library_call.LibraryCall.{LibraryCall}
use Rattle.cc_core.specs.declared.library_call.LibraryCall.TheVariants.{Write, WriteLine, WriteEmptyLine}
use Rattle.cc_core.specs.declared.library_call.Printed.{Printed}
use Rattle.cc_core.specs.declared.library_call.Printed.TheVariants as printed
use Rattle.cc_module.specs.declared.element.Element.{Element}
use Rattle.cc_module.specs.declared.element.Element.TheVariants as the
use Rattle.cc_module.specs.declared.signature.TypeSignature.{TypeSignature}
use Rattle.cc_module.specs.declared.signature.Signature.{Signature}
use Rattle.cc_module.specs.declared.signature.Signature.TheVariants as sig
use Rattle.cc_module.specs.declared.rows.MethodDefRow.{MethodDefRow}
use Rattle.cc_module.specs.declared.rows.MemberRefRow.{MemberRefRow}
use Rattle.cc_module.specs.declared.rows.StandAloneSigRow.{StandAloneSigRow}
use Rattle.cc_module.specs.declared.module.Module.{Module}
use Rattle.cc_module.specs.Signatures.{OneSignature}
use Rattle.cc_execution.specs.declared.operation.FundamentalType.{FundamentalType}
use Rattle.cc_execution.specs.declared.executable.Executable.{Executable}
use Rattle.cc_execution.specs.declared.executable.Method.{Method}
use Rattle.cc_execution.specs.Fundamental.{fundamental, fundamental_alone, parameter_types, with_type, fundamental_each, some_result, result_of}
use Rattle.cc_execution.specs.Library.{printed_type, printed_alone, write_call, write_line_call, is_void, named_call, library_call}
use Rattle.cc_execution.specs.Operations.{at_row, row_of}
use Rattle.cc_execution.specs.Loaded.{Rows, parameters_in, result_in, locals_in, AreLocalsOf, AreLocalsIf, AreLocals, IsMethod, IsReference, IsLoaded}
use Rattle.cc_execution.specs.Step as step
use Rattle.cc_verify.specs.declared.stack_type.StackType.{StackType}
use Rattle.cc_verify.specs.declared.environment.MethodType.{MethodType}
use Rattle.cc_verify.specs.declared.readings.Readings.{Readings}
use Rattle.cc_verify.specs.Types.{stack_type, value_type, IsReading, Zip, AreReadings, value_types, type_of_signature, method_type, with_some, some_types, locals_of_signature, local_types, environment_of}
use Rattle.cc_verify.specs.Transitions as rules
use Rattle.cc_verify.specs.Verified.{locals_named, some_locals}
use Rattle.cc_soundness.specs.Kinds.{kind, kinds, method_kinds, member_kinds, IsEnvironment}
use Rattle.cc_soundness.proofs.Matching.{none_some}

-- ---- types

element_kind : (t : Element) → stack_type t ≡ option_map kind (fundamental t)
element_kind the.Boolean = refl
element_kind the.Char = refl
element_kind the.I1 = refl
element_kind the.U1 = refl
element_kind the.I2 = refl
element_kind the.U2 = refl
element_kind the.I4 = refl
element_kind the.U4 = refl
element_kind the.I8 = refl
element_kind the.U8 = refl
element_kind t = refl

value_kind : (elements : List Element) → value_type elements ≡ option_map kind (fundamental_alone elements)
value_kind [] = refl
value_kind (t ∷ []) = element_kind t
value_kind (t ∷ u ∷ elements) = refl

value_kinds : (types : List TypeSignature) → value_types types ≡ kinds (parameter_types types)
value_kinds [] = refl
value_kinds (t ∷ types) = ap (λ z. z ∷ value_types types) (value_kind t.elements) ∙ ap (λ l. option_map kind (fundamental_alone t.elements) ∷ l) (value_kinds types)

some_result_is : (o : Option FundamentalType) (r : Option FundamentalType) → some_result o ≡ Some r → o ≡ r
some_result_is None r h = none_some h
some_result_is (Some t) r h = same_Some (Some t) r h

element_result : (t : Element) (r : Option FundamentalType) → result_of (t ∷ []) ≡ Some r → stack_type t ≡ option_map kind r
element_result the.Void r h = ap (option_map kind) (same_Some None r h)
element_result t r h = element_kind t ∙ ap (option_map kind) (some_result_is (fundamental t) r h)

result_kind : (elements : List Element) (r : Option FundamentalType) → result_of elements ≡ Some r → value_type elements ≡ option_map kind r
result_kind [] r h = none_some h
result_kind (t ∷ []) r h = element_result t r h
result_kind (t ∷ u ∷ elements) r h = long t h where
  long : (t : Element) → result_of (t ∷ u ∷ elements) ≡ Some r → None ≡ option_map kind r
  long the.Void h = none_some h
  long t h = none_some h

abbrev pub typed : List (Option StackType) → Option StackType → MethodType
typed parameters result = record { parameters = parameters; result = result }

-- a method's signature
pub method_is : (s : Signature) (ps : List (Option FundamentalType)) (r : Option FundamentalType) → parameters_in s ≡ Some ps → result_in s ≡ Some r → type_of_signature s ≡ typed (kinds ps) (option_map kind r)
method_is (sig.Method false None result parameters) ps r h g =
    ap (λ z. typed z (value_type result.elements)) (value_kinds parameters ∙ ap kinds (same_Some (parameter_types parameters) ps h)) ∙ ap (typed (kinds ps)) (result_kind result.elements r g)
method_is (sig.Method false (Some count) result parameters) ps r h g = none_some h
method_is (sig.Method true None result parameters) ps r h g = none_some h
method_is (sig.Method true (Some count) result parameters) ps r h g = none_some h
method_is s ps r h g = none_some h

-- ---- members of the library

printed_kind : (t : Element) (what : Printed) → printed_type t ≡ Some what → stack_type t ≡ Some (kind (step.printed_type what))
printed_kind the.Boolean what h = ap (λ z. Some (kind (step.printed_type z))) (same_Some printed.Bool what h)
printed_kind the.Char what h = ap (λ z. Some (kind (step.printed_type z))) (same_Some printed.Char what h)
printed_kind the.I4 what h = ap (λ z. Some (kind (step.printed_type z))) (same_Some printed.I32 what h)
printed_kind the.U4 what h = ap (λ z. Some (kind (step.printed_type z))) (same_Some printed.U32 what h)
printed_kind the.I8 what h = ap (λ z. Some (kind (step.printed_type z))) (same_Some printed.I64 what h)
printed_kind the.U8 what h = ap (λ z. Some (kind (step.printed_type z))) (same_Some printed.U64 what h)
printed_kind t what h = none_some h

written_kind : (elements : List Element) (what : Printed) → printed_alone elements ≡ Some what → value_type elements ≡ Some (kind (step.printed_type what))
written_kind [] what h = none_some h
written_kind (t ∷ []) what h = printed_kind t what h
written_kind (t ∷ u ∷ elements) what h = none_some h

some_mapped : {A B : Type 0} (f : A → B) (o : Option A) (b : B) → option_map f o ≡ Some b → (a : A) × (o ≡ Some a) × (f a ≡ b)
some_mapped f None b h = none_some h
some_mapped f (Some a) b h = (a, refl, same_Some (f a) b h)

write_kind : (types : List TypeSignature) (c : LibraryCall) → write_call types ≡ Some c → typed (value_types types) None ≡ member_kinds c
write_kind [] c h = none_some h
write_kind (t ∷ []) c h =
    let r = some_mapped Write (printed_alone t.elements) c h in
    ap (λ z. typed (z ∷ []) None) (written_kind t.elements r.0 r.1) ∙ ap member_kinds r.2
write_kind (t ∷ u ∷ types) c h = none_some h

write_line_kind : (types : List TypeSignature) (c : LibraryCall) → write_line_call types ≡ Some c → typed (value_types types) None ≡ member_kinds c
write_line_kind [] c h = ap member_kinds (same_Some WriteEmptyLine c h)
write_line_kind (t ∷ []) c h =
    let r = some_mapped WriteLine (printed_alone t.elements) c h in
    ap (λ z. typed (z ∷ []) None) (written_kind t.elements r.0 r.1) ∙ ap member_kinds r.2
write_line_kind (t ∷ u ∷ types) c h = none_some h

named_kind : (a b : Bool) (types : List TypeSignature) (c : LibraryCall) → (if a then write_call types else if b then write_line_call types else None) ≡ Some c → typed (value_types types) None ≡ member_kinds c
named_kind true b types c h = write_kind types c h
named_kind false true types c h = write_line_kind types c h
named_kind false false types c h = none_some h

void_kind : (elements : List Element) → is_void elements ≡ true → value_type elements ≡ None
void_kind [] h = let bad : false ≡ true = h in cc
void_kind (t ∷ []) h = one t h where
  one : (t : Element) → is_void (t ∷ []) ≡ true → stack_type t ≡ None
  one the.Void h = refl
  one t h = let bad : false ≡ true = h in cc
void_kind (t ∷ u ∷ elements) h = refl

member_is : (name : List ℕ) (s : Signature) (c : LibraryCall) → library_call name s ≡ Some c → type_of_signature s ≡ member_kinds c
member_is name (sig.Method false None result parameters) c h = by_void (is_void result.elements) refl h where
  by_void : (b : Bool) → is_void result.elements ≡ b → (if b then named_call name parameters else None) ≡ Some c → typed (value_types parameters) (value_type result.elements) ≡ member_kinds c
  by_void true v h = ap (typed (value_types parameters)) (void_kind result.elements v) ∙ named_kind (bytes_eq name (codes "Write")) (bytes_eq name (codes "WriteLine")) parameters c h
  by_void false v h = none_some h
member_is name (sig.Method false (Some count) result parameters) c h = none_some h
member_is name (sig.Method true None result parameters) c h = none_some h
member_is name (sig.Method true (Some count) result parameters) c h = none_some h
member_is name s c h = none_some h

-- ---- rows

module _ (one : OneSignature) (m : Module) (x : Executable) where
  method_row : (row : ℕ) (def : MethodDefRow) (o : Option Signature) (method : Method) → IsReading def.signature o → IsMethod m x row def method → method_type o ≡ method_kinds method
  method_row row def None method h k = absurd (h k.signature k.spells)
  method_row row def (Some s) method h k =
      ap type_of_signature (one s k.signature h.0 k.spells.0 (sym h.1 ∙ k.spells.1)) ∙ method_is k.signature method.parameters method.result k.parameters k.result

  method_rows : (row : ℕ) (defs : List MethodDefRow) (os : List (Option Signature)) (methods : List Method) → Zip (λ (def : MethodDefRow) (o : Option Signature). IsReading def.signature o) defs os → Rows (IsMethod m x) row defs methods
      → map method_type os ≡ map method_kinds methods
  method_rows row [] [] [] h k = refl
  method_rows row [] [] (y ∷ methods) h k = absurd k
  method_rows row [] (o ∷ os) methods h k = absurd h
  method_rows row (def ∷ defs) [] methods h k = absurd h
  method_rows row (def ∷ defs) (o ∷ os) [] h k = absurd k
  method_rows row (def ∷ defs) (o ∷ os) (y ∷ methods) h k = ap (λ z. z ∷ map method_type os) (method_row row def o y h.0 k.0) ∙ ap (λ l. method_kinds y ∷ l) (method_rows (suc row) defs os methods h.1 k.1)

  reference_row : (row : ℕ) (of : MemberRefRow) (o : Option Signature) (c : LibraryCall) → IsReading of.signature o → IsReference m row of c → method_type o ≡ member_kinds c
  reference_row row of None c h k = absurd (h k.signature k.spells)
  reference_row row of (Some s) c h k = ap type_of_signature (one s k.signature h.0 k.spells.0 (sym h.1 ∙ k.spells.1)) ∙ member_is of.name k.signature c k.member

  reference_rows : (row : ℕ) (refs : List MemberRefRow) (os : List (Option Signature)) (calls : List LibraryCall) → Zip (λ (of : MemberRefRow) (o : Option Signature). IsReading of.signature o) refs os → Rows (IsReference m) row refs calls
      → map method_type os ≡ map member_kinds calls
  reference_rows row [] [] [] h k = refl
  reference_rows row [] [] (y ∷ calls) h k = absurd k
  reference_rows row [] (o ∷ os) calls h k = absurd h
  reference_rows row (of ∷ refs) [] calls h k = absurd h
  reference_rows row (of ∷ refs) (o ∷ os) [] h k = absurd k
  reference_rows row (of ∷ refs) (o ∷ os) (y ∷ calls) h k = ap (λ z. z ∷ map method_type os) (reference_row row of o y h.0 k.0) ∙ ap (λ l. member_kinds y ∷ l) (reference_rows (suc row) refs os calls h.1 k.1)

  pub environment_is : (r : Readings) → AreReadings m r → IsLoaded m x → IsEnvironment x (environment_of m r)
  environment_is r h k = record { methods = method_rows 1 m.methods r.methods x.methods h.methods k.methods; references = reference_rows 1 m.member_refs r.references x.references h.references k.references }

  -- ---- local variables

  types_are : (types : List TypeSignature) (locals : List FundamentalType) → fundamental_each types ≡ Some locals → some_types types ≡ map kind locals
  types_are [] locals h = ap (map kind) (same_Some [] locals h)
  types_are (t ∷ types) locals h = by_type (fundamental_alone t.elements) (fundamental_each types) refl refl (types_are types) h where
    by_type : (o : Option FundamentalType) (rest : Option (List FundamentalType)) → fundamental_alone t.elements ≡ o → fundamental_each types ≡ rest → ((us : List FundamentalType) → fundamental_each types ≡ Some us → some_types types ≡ map kind us) → with_type o rest ≡ Some locals → with_some (value_type t.elements) (some_types types) ≡ map kind locals
    by_type None rest e f rec h = none_some h
    by_type (Some u) None e f rec h = none_some h
    by_type (Some u) (Some us) e f rec h =
        ap (λ z. with_some z (some_types types)) (value_kind t.elements ∙ ap (option_map kind) e) ∙ ap (λ l. kind u ∷ l) (rec us f) ∙ ap (map kind) (same_Some (u ∷ us) locals h)

  signature_locals : (s : Signature) (locals : List FundamentalType) → locals_in s ≡ Some locals → locals_of_signature s ≡ map kind locals
  signature_locals (sig.Locals types) locals h = types_are types locals h
  signature_locals s locals h = none_some h

  local_row : (row : StandAloneSigRow) (o : Option Signature) (locals : List FundamentalType) → IsReading row.signature o → AreLocalsOf (Some row) locals → local_types o ≡ map kind locals
  local_row row None locals h (s, spells, e) = absurd (h s spells)
  local_row row (Some r) locals h (s, spells, e) = ap locals_of_signature (one r s h.0 spells.0 (sym h.1 ∙ spells.1)) ∙ signature_locals s locals e

  local_rows : (sigs : List StandAloneSigRow) (os : List (Option Signature)) (i : ℕ) (locals : List FundamentalType) → Zip (λ (row : StandAloneSigRow) (o : Option Signature). IsReading row.signature o) sigs os
      → AreLocalsOf (slice_get sigs i) locals → some_locals (slice_get (map local_types os) i) ≡ map kind locals
  local_rows [] os i locals h k = absurd k
  local_rows (row ∷ sigs) [] i locals h k = absurd h
  local_rows (row ∷ sigs) (o ∷ os) zero locals h k = local_row row o locals h.0 k
  local_rows (row ∷ sigs) (o ∷ os) (suc i) locals h k = local_rows sigs os i locals h.1 k

  locals_at : (sigs : List StandAloneSigRow) (os : List (Option Signature)) (row : ℕ) (locals : List FundamentalType) → Zip (λ (row : StandAloneSigRow) (o : Option Signature). IsReading row.signature o) sigs os
      → AreLocalsOf (at_row sigs row) locals → some_locals (rules.at_row (map local_types os) row) ≡ map kind locals
  locals_at sigs os zero locals h k = absurd k
  locals_at sigs os (suc i) locals h k = local_rows sigs os i locals h k

  pub locals_are : (r : Readings) → AreReadings m r → (body : Body) (locals : List FundamentalType) → AreLocals m body.locals locals → some_locals (locals_named (environment_of m r) body.locals) ≡ map kind locals
  locals_are r h body locals k = by_token (body.locals == 0) k where
    by_token : (b : Bool) → AreLocalsIf b (at_row m.stand_alone_sigs (row_of body.locals)) locals → some_locals (if b then None else rules.at_row (map local_types r.locals) (rules.row_of body.locals)) ≡ map kind locals
    by_token true k = ap (map kind) (sym k)
    by_token false k = locals_at m.stand_alone_sigs r.locals (row_of body.locals) locals h.locals k
