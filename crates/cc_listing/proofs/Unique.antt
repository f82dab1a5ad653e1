-- A module has one listing.
use Rattle.std.proofs.Common.{◌≡◌, ℕ, ◌+◌, ◌-◌, ◌<◌, ◌≤◌, List, [], ◌++◌, Some, None, length, refl, sym, ap, subst, arith, ◌∙◌}
use Rattle.std.specs.Prelude.{Option, slice_get}
use Rattle.std.specs.Option.{option_map}
use Rattle.cc_cil.specs.declared.body.Body.{Body}
use Rattle.cc_cil.specs.Instructions.{OneSpelling}
use Rattle.cc_module.specs.declared.module.Module.{Module}
use Rattle.cc_module.specs.declared.rows.FieldRow.{FieldRow}
use Rattle.cc_module.specs.declared.rows.MethodDefRow.{MethodDefRow}
use Rattle.cc_module.specs.declared.rows.TypeDefRow.{TypeDefRow}
use Rattle.cc_module.specs.Methods.{body_of}
use Rattle.cc_listing.specs.Bodies.{ListsBody, clause_lines}
use Rattle.cc_listing.specs.Listing.{ListsBodyAt, ListsField, ListsMethod, ListsModule, ListsType, class_line, field_line, method_line, run_first, run_past}
use Rattle.cc_listing.specs.Laws.{OneListing}
use Rattle.cc_listing.specs.Rows.{Rows, none, row}
use Rattle.cc_listing.proofs.CodeLines.{one_code}

-- rows have one text each
abbrev OneText : (ℕ → List ℕ → Type 0) → Type 0
OneText R = (at : ℕ) (text other : List ℕ) → R at text → R at other → text ≡ other

data Form (R : ℕ → List ℕ → Type 0) (first past : ℕ) (text : List ℕ) : Type 0 where
  no_row : past ≤ first → text ≡ [] → Form R first past text
  one_row : (line rest : List ℕ) → first < past → R first line → Rows R (first + 1) past rest → text ≡ line ++ rest → Form R first past text

form : {R : ℕ → List ℕ → Type 0} {first past : ℕ} {text : List ℕ} → Rows R first past text → Form R first past text
form (none end) = no_row end refl
form (row {text = text} {rest = rest} within here rows) = one_row text rest within here rows refl

after_none : (R : ℕ → List ℕ → Type 0) (first past : ℕ) (other : List ℕ) → past ≤ first → Form R first past other → [] ≡ other
after_none R first past other end (no_row _ nothing) = sym nothing
after_none R first past other end (one_row line rest within here rows same) = absurd (omega (arith, end, within))

after_row : (R : ℕ → List ℕ → Type 0) (first past : ℕ) (text rest other : List ℕ) → OneText R → first < past → R first text → ((more : List ℕ) → Rows R (first + 1) past more → rest ≡ more)
    → Form R first past other → text ++ rest ≡ other
after_row R first past text rest other one within here further (no_row end _) = absurd (omega (arith, end, within))
after_row R first past text rest other one within here further (one_row line more _ here' rows same) =
    ap (λ (l : List ℕ). text ++ l) (further more rows) ∙ ap (λ (l : List ℕ). l ++ more) (one first text line here here') ∙ sym same

same_rows : {R : ℕ → List ℕ → Type 0} {first past : ℕ} {text : List ℕ} → OneText R → Rows R first past text → (other : List ℕ) → Rows R first past other → text ≡ other
same_rows {R = R} one (none {first = first} {past = past} end) other second = after_none R first past other end (form second)
same_rows {R = R} one (row {first = first} {past = past} {text = text} {rest = rest} within here rows) other second =
    after_row R first past text rest other one within here (λ more further. same_rows one rows more further) (form second)

same_element : {X : Type 0} (o : Option X) (x y : X) → o ≡ Some x → o ≡ Some y → x ≡ y
same_element o x y e f = let same : Some x ≡ Some y = sym e ∙ f in cc

one_field : (fields : List FieldRow) → OneText (ListsField fields)
one_field fields at text other (f, found, line) (g, found', line') = line ∙ ap field_line (same_element (slice_get fields (at - 1)) f g found found') ∙ sym line'

one_body : OneSpelling → (body : Body) (text other : List ℕ) → ListsBody body text → ListsBody body other → text ≡ other
one_body spelling body text other (lines, lists, is) (lines', lists', is') =
    is ∙ ap (λ (l : List ℕ). l ++ clause_lines body.clauses) (one_code spelling body.code 0 lines lines' lists lists') ∙ sym is'

one_body_at : OneSpelling → (bodies : List Body) (place : Option ℕ) (text other : List ℕ) → ListsBodyAt bodies place text → ListsBodyAt bodies place other → text ≡ other
one_body_at spelling bodies None text other nothing nothing' = nothing ∙ sym nothing'
one_body_at spelling bodies (Some place) text other (body, found, lists) (body', found', lists') =
    let same = same_element (slice_get bodies place) body' body found' found in
    one_body spelling body text other lists (subst (λ (b : Body). ListsBody b other) same lists')

one_method : OneSpelling → (m : Module) → OneText (ListsMethod m)
one_method spelling m at text other (method, found, lines, lists, is) (method', found', lines', lists', is') =
    is ∙ ap (λ (r : MethodDefRow). method_line r ++ lines) (same_element (slice_get m.methods (at - 1)) method method' found found')
    ∙ ap (λ (l : List ℕ). method_line method' ++ l) (one_body_at spelling m.bodies (body_of m at) lines lines' lists lists') ∙ sym is'

one_type : OneSpelling → (m : Module) → OneText (ListsType m)
one_type spelling m at text other (t, found, fields, field_rows, methods, method_rows, is) (t', found', fields', field_rows', methods', method_rows', is') =
    let same = same_element (slice_get m.type_defs at) t' t found' found in
    let field_past = run_past (option_map (λ (r : TypeDefRow). r.fields.0) (slice_get m.type_defs (at + 1))) (length m.fields) in
    let method_past = run_past (option_map (λ (r : TypeDefRow). r.methods.0) (slice_get m.type_defs (at + 1))) (length m.methods) in
    let fields_same = same_rows (one_field m.fields) field_rows fields' (subst (λ (r : TypeDefRow). Rows (ListsField m.fields) (run_first r.fields.0) field_past fields') same field_rows') in
    let methods_same = same_rows (one_method spelling m) method_rows methods' (subst (λ (r : TypeDefRow). Rows (ListsMethod m) (run_first r.methods.0) method_past methods') same method_rows') in
    is ∙ ap (λ (r : TypeDefRow). class_line r ++ fields ++ methods) (sym same) ∙ ap (λ (l : List ℕ). class_line t' ++ l ++ methods) fields_same
    ∙ ap (λ (l : List ℕ). class_line t' ++ fields' ++ l) methods_same ∙ sym is'

pub one_listing : OneSpelling → OneListing
one_listing spelling m text other first second = same_rows (one_type spelling m) first other second
