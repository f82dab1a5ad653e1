-- The lines of types and methods, put together.
use Rattle.std.proofs.Common.{◌≡◌, ℕ, ◌+◌, ◌-◌, ◌<◌, List, ◌++◌, Some, length, get_or, refl, sym, ap, subst, append_assoc, ◌∙◌}
use Rattle.std.specs.Prelude.{Option, slice_get}
use Rattle.std.specs.Option.{option_map}
use Rattle.std.proofs.lemmas.Option.{slice_get_read}
use Rattle.cc_module.specs.declared.module.Module.{Module}
use Rattle.cc_module.specs.declared.rows.FieldRow.{FieldRow}
use Rattle.cc_module.specs.declared.rows.MethodDefRow.{MethodDefRow}
use Rattle.cc_module.specs.declared.rows.TypeDefRow.{TypeDefRow}
use Rattle.cc_module.specs.Methods.{body_of}
use Rattle.cc_listing.specs.Listing.{ListsBodyAt, ListsField, ListsMethod, ListsType, class_line, method_line, run_first, run_past}
use Rattle.cc_listing.specs.Rows.{Rows}

pub read_at : {X : Type 0} (xs ys : List X) (i : ℕ) (x : X) → ys ≡ xs → i < length xs → x ≡ get_or ys i x → slice_get xs i ≡ Some x
read_at {X = X} xs ys i x same within is = slice_get_read xs (length xs) i x refl within (subst (λ (l : List X). x ≡ get_or l i x) same is)

pub joined : (into one two line more : List ℕ) → one ≡ into ++ line → two ≡ one ++ more → two ≡ into ++ (line ++ more)
joined into one two line more first second = second ∙ ap (λ (l : List ℕ). l ++ more) first ∙ append_assoc into line more

pub method_lists : (m : Module) (row : ℕ) (method : MethodDefRow) (place : Option ℕ) (lines : List ℕ) → slice_get m.methods (row - 1) ≡ Some method → place ≡ body_of m row
    → ListsBodyAt m.bodies place lines → ListsMethod m row (method_line method ++ lines)
method_lists m row method place lines found at body = (method, found, lines, subst (λ (p : Option ℕ). ListsBodyAt m.bodies p lines) at body, refl)

moved_rows : (R : ℕ → List ℕ → Type 0) (first past first' past' : ℕ) (text : List ℕ) → first ≡ first' → past ≡ past' → Rows R first past text → Rows R first' past' text
moved_rows R first past first' past' text e f rows = subst (λ (n : ℕ). Rows R n past' text) e (subst (λ (n : ℕ). Rows R first n text) f rows)

-- where a run ends, by the rows that the code reads
past_is : (start : TypeDefRow → ℕ) (types types' : List TypeDefRow) (at past count count' : ℕ) (next : Option ℕ) → types ≡ types' → count ≡ count'
    → next ≡ option_map start (slice_get types (at + 1)) → past ≡ run_past next count → past ≡ run_past (option_map start (slice_get types' (at + 1))) count'
past_is start types types' at past count count' next same counted starts is =
    is ∙ ap (λ (o : Option ℕ). run_past o count) starts ∙ ap (λ (l : List TypeDefRow). run_past (option_map start (slice_get l (at + 1))) count) same
    ∙ ap (λ (n : ℕ). run_past (option_map start (slice_get types' (at + 1))) n) counted

-- the rows of a module as the code reads them
pub record Read (m : Module) (types : List TypeDefRow) (fields : List FieldRow) (methods : List MethodDefRow) : Type 0 where
  pub types_are : types ≡ m.type_defs
  pub fields_are : fields ≡ m.fields
  pub methods_are : methods ≡ m.methods

-- a run as the code finds it
pub record Found (start : TypeDefRow → ℕ) (types : List TypeDefRow) (at count first past : ℕ) (t : TypeDefRow) (next : Option ℕ) : Type 0 where
  pub first_is : first ≡ run_first (start t)
  pub past_is : past ≡ run_past next count
  pub next_is : next ≡ option_map start (slice_get types (at + 1))

pub type_lists : (m : Module) (types : List TypeDefRow) (fields : List FieldRow) (methods : List MethodDefRow) (at f p g q : ℕ) (t : TypeDefRow) (field_lines method_lines : List ℕ) (n o : Option ℕ)
    → Read m types fields methods → slice_get m.type_defs at ≡ Some t → Found (λ r. r.fields.0) types at (length fields) f p t n → Found (λ r. r.methods.0) types at (length methods) g q t o
    → Rows (ListsField fields) f p field_lines → Rows (ListsMethod m) g q method_lines → ListsType m at (class_line t ++ field_lines ++ method_lines)
type_lists m types fields methods at f p g q t field_lines method_lines n o read found run run' field_rows method_rows =
    let field_past = past_is (λ (r : TypeDefRow). r.fields.0) types m.type_defs at p (length fields) (length m.fields) n read.types_are (ap (λ (l : List FieldRow). length l) read.fields_are) run.next_is run.past_is in
    let method_past = past_is (λ (r : TypeDefRow). r.methods.0) types m.type_defs at q (length methods) (length m.methods) o read.types_are (ap (λ (l : List MethodDefRow). length l) read.methods_are) run'.next_is run'.past_is in
    let fields_there = subst (λ (l : List FieldRow). Rows (ListsField l) f p field_lines) read.fields_are field_rows in (
      t,
      found,
      field_lines,
      moved_rows (ListsField m.fields) f p _ _ field_lines run.first_is field_past fields_there,
      method_lines,
      moved_rows (ListsMethod m) g q _ _ method_lines run'.first_is method_past method_rows,
      refl,
    )
