-- A module is loaded in one way.
use Rattle.std.proofs.Common.{◌≡◌, ◌+◌, ◌-◌, ◌<◌, ℕ, length-append, length-drop, suc, List, [], ◌∷◌, length, refl, sym, ap, subst, ◌∙◌, arith}
use Rattle.std.specs.Prelude.{Bool, true, false, ◌/◌, ◌%◌, nat_lt, Option, Some, None, ◌==◌, map, if◌then◌else◌}
use Rattle.cc_cil.specs.declared.body.Body.{Body}
use Rattle.cc_cil.specs.declared.body.Clause.{Clause}
use Rattle.cc_cil.specs.declared.instruction.Instruction.{Instruction}
use Rattle.cc_cil.specs.Instructions.{spelling, opcode}
use Rattle.cc_cil.specs.Steps.{Stands}
use Rattle.cc_cil.proofs.Unique.{spelling_one}
use Rattle.cc_core.specs.declared.library_call.LibraryCall.{LibraryCall}
use Rattle.cc_module.specs.declared.signature.Signature.{Signature}
use Rattle.cc_module.specs.declared.rows.MethodDefRow.{MethodDefRow}
use Rattle.cc_module.specs.declared.rows.MemberRefRow.{MemberRefRow}
use Rattle.cc_module.specs.declared.rows.StandAloneSigRow.{StandAloneSigRow}
use Rattle.cc_module.specs.declared.module.Module.{Module}
use Rattle.cc_module.specs.Methods.{body_of}
use Rattle.cc_module.proofs.Heads.{one_signature}
use Rattle.cc_execution.specs.declared.operation.FundamentalType.{FundamentalType}
use Rattle.cc_execution.specs.declared.operation.Operation.{Operation}
use Rattle.cc_execution.specs.declared.executable.ClassRow.{ClassRow}
use Rattle.cc_execution.specs.declared.executable.Executable.{Executable}
use Rattle.cc_execution.specs.declared.executable.Method.{Method}
use Rattle.cc_execution.specs.declared.executable.PlacedOperation.{PlacedOperation}
use Rattle.cc_execution.specs.Library.{library_call}
use Rattle.cc_execution.specs.Operations.{Names, names_in, at_row, resolve, row_of}
use Rattle.cc_execution.specs.Loaded.{Spells, Rows, Decodes, ends, goes, parameters_in, result_in, locals_in, AreLocalsOf, AreLocalsIf, AreLocals, body_at, HasBody, IsMethod, IsReference, IsLoaded}

-- ---- options and lists

value_or : {A : Type 0} → A → Option A → A
value_or a (Some x) = x
value_or a None = a

some_is : {A : Type 0} (a b : A) → Some a ≡ Some b → a ≡ b
unfolding value_or
some_is a b e = ap (value_or a) e

both_is : {A : Type 0} (o : Option A) (a b : A) → o ≡ Some a → o ≡ Some b → a ≡ b
both_is o a b e f = some_is a b (sym e ∙ f)

-- rows that stand for one thing each
rows_one : {A B : Type 0} (P Q : ℕ → A → B → Type 0) → ((row : ℕ) (a : A) (b c : B) → P row a b → Q row a c → b ≡ c) → (row : ℕ) (rows : List A) (xs ys : List B) → Rows P row rows xs → Rows Q row rows ys → xs ≡ ys
rows_one P Q one row [] [] [] h k = refl
rows_one P Q one row [] [] (y ∷ ys) h k = absurd k
rows_one P Q one row [] (x ∷ xs) ys h k = absurd h
rows_one P Q one row (a ∷ rows) [] ys h k = absurd h
rows_one P Q one row (a ∷ rows) (x ∷ xs) [] h k = absurd k
rows_one P Q one row (a ∷ rows) (x ∷ xs) (y ∷ ys) h k =
    ap (λ z. z ∷ xs) (one row a x y h.0 k.0) ∙ ap (λ l. y ∷ l) (rows_one P Q one (suc row) rows xs ys h.1 k.1)

-- rows that agree in what is asked of each
rows_map : {A B C : Type 0} (P Q : ℕ → A → B → Type 0) (f : B → C) → ((row : ℕ) (a : A) (b c : B) → P row a b → Q row a c → f b ≡ f c) → (row : ℕ) (rows : List A) (xs ys : List B) → Rows P row rows xs → Rows Q row rows ys → map f xs ≡ map f ys
rows_map P Q f one row [] [] [] h k = refl
rows_map P Q f one row [] [] (y ∷ ys) h k = absurd k
rows_map P Q f one row [] (x ∷ xs) ys h k = absurd h
rows_map P Q f one row (a ∷ rows) [] ys h k = absurd h
rows_map P Q f one row (a ∷ rows) (x ∷ xs) [] h k = absurd k
rows_map P Q f one row (a ∷ rows) (x ∷ xs) (y ∷ ys) h k =
    ap (λ z. z ∷ map f xs) (one row a x y h.0 k.0) ∙ ap (λ l. f y ∷ l) (rows_map P Q f one (suc row) rows xs ys h.1 k.1)

-- ---- signatures

spells_one : (blob : List ℕ) (s t : Signature) → Spells blob s → Spells blob t → s ≡ t
spells_one blob s t h k = one_signature s t h.0 k.0 (sym h.1 ∙ k.1)

-- what one reads in a signature is what another reads there
read_one : {A : Type 0} (read : Signature → Option A) (blob : List ℕ) (s t : Signature) (a b : A) → Spells blob s → Spells blob t → read s ≡ Some a → read t ≡ Some b → a ≡ b
read_one read blob s t a b h k e f = both_is (read s) a b e (ap read (spells_one blob s t h k) ∙ f)

-- ---- code

stands_one : (code : List ℕ) (at : ℕ) (i j : Instruction) → Stands code at i → Stands code at j → i ≡ j
stands_one code at i j (x, e, p) (y, f, q) = (spelling_one i j x y p q (sym e ∙ f)).0

opcode_some : (code : ℕ) (b : Bool) → 0 < length (if b then code ∷ [] else code / 0x100 ∷ code % 0x100 ∷ [])
opcode_some code true = omega arith
opcode_some code false = omega arith

-- nothing stands at the end
none_at_end : (code : List ℕ) (at : ℕ) → at ≡ length code → (i : Instruction) → Stands code at i → ⊥
none_at_end code at h i (rest, e, p) =
    let size : length code - at ≡ length (spelling i) + length rest = sym (length-drop at code) ∙ ap length e ∙ length-append (spelling i) rest in
    let some = opcode_some (opcode i) (nat_lt (opcode i) 0x100) in
    let long : 0 < length (spelling i) = rw length-append (omega (arith, some)) in
    absurd (omega (arith, size, h, long))

placed : ℕ → Operation → ℕ → PlacedOperation
placed at operation next = record { at = at; operation = operation; next = next }

placed_is : (p q : PlacedOperation) → p.at ≡ q.at → p.operation ≡ q.operation → p.next ≡ q.next → p ≡ q
unfolding placed
placed_is p q e f g = ap (λ n. placed n p.operation p.next) e ∙ ap (λ o. placed q.at o p.next) f ∙ ap (λ n. placed q.at q.operation n) g

decodes_one : (names : Names) (code : List ℕ) {at : ℕ} {xs ys : List PlacedOperation} → Decodes names code at xs → Decodes names code at ys → xs ≡ ys
decodes_one names code (ends e) (ends f) = refl
decodes_one names code {at = at} (ends e) (goes i p stands a n o rest) = absurd (none_at_end code at e i stands)
decodes_one names code {at = at} (goes i p stands a n o rest) (ends e) = absurd (none_at_end code at e i stands)
decodes_one names code {at = at} (goes {rest = xs} i p stands a n o rest) (goes {rest = ys} j q stands2 b m r rest2) =
    let same : i ≡ j = stands_one code at i j stands stands2 in
    let next : p.next ≡ q.next = n ∙ ap (λ k. at + length (spelling k)) same ∙ sym m in
    let operation : p.operation ≡ q.operation = both_is (resolve names p.next i) p.operation q.operation o (ap (λ k. resolve names p.next k) same ∙ ap (λ k. resolve names k j) next ∙ r) in
    let more : xs ≡ ys = decodes_one names code rest (subst (λ k. Decodes names code k ys) (sym next) rest2) in
    ap (λ z. z ∷ xs) (placed_is p q (a ∙ sym b) operation next) ∙ ap (λ l. q ∷ l) more

-- ---- methods

module _ (m : Module) where
  locals_of_one : (row : Option StandAloneSigRow) (xs ys : List FundamentalType) → AreLocalsOf row xs → AreLocalsOf row ys → xs ≡ ys
  locals_of_one None xs ys h k = absurd h
  locals_of_one (Some row) xs ys (s, spells, e) (t, spells2, f) = read_one locals_in row.signature s t xs ys spells spells2 e f

  locals_one_if : (b : Bool) (row : Option StandAloneSigRow) (xs ys : List FundamentalType) → AreLocalsIf b row xs → AreLocalsIf b row ys → xs ≡ ys
  locals_one_if true row xs ys e f = e ∙ sym f
  locals_one_if false row xs ys h k = locals_of_one row xs ys h k

  locals_one : (token : ℕ) (xs ys : List FundamentalType) → AreLocals m token xs → AreLocals m token ys → xs ≡ ys
  locals_one token xs ys h k = locals_one_if (token == 0) (at_row m.stand_alone_sigs (row_of token)) xs ys h k

  body_locals_one : (x y : Executable) (a b : Method) (body : Option Body) → HasBody m x a body → HasBody m y b body → a.locals ≡ b.locals
  body_locals_one x y a b None h k = h.0 ∙ sym k.0
  body_locals_one x y a b (Some body) h k = locals_one body.locals a.locals b.locals h.0 k.0

  body_operations_one : (x y : Executable) (a b : Method) (body : Option Body) → names_in x a ≡ names_in y b → HasBody m x a body → HasBody m y b body → a.operations ≡ b.operations
  body_operations_one x y a b None same h k = h.1 ∙ sym k.1
  body_operations_one x y a b (Some body) same h k = decodes_one (names_in x a) body.code h.1 (subst (λ names. Decodes names body.code 0 b.operations) (sym same) k.1)

  body_clauses_one : (x y : Executable) (a b : Method) (body : Option Body) → HasBody m x a body → HasBody m y b body → a.clauses ≡ b.clauses
  body_clauses_one x y a b None h k = h.2 ∙ sym k.2
  body_clauses_one x y a b (Some body) h k = h.2 ∙ sym k.2

  body_height_one : (x y : Executable) (a b : Method) (body : Option Body) → HasBody m x a body → HasBody m y b body → a.max_stack ≡ b.max_stack
  body_height_one x y a b None h k = h.3 ∙ sym k.3
  body_height_one x y a b (Some body) h k = h.3 ∙ sym k.3

  parameters_one : (x y : Executable) (row : ℕ) (def : MethodDefRow) (a b : Method) → IsMethod m x row def a → IsMethod m y row def b → a.parameters ≡ b.parameters
  parameters_one x y row def a b h k = read_one parameters_in def.signature h.signature k.signature a.parameters b.parameters h.spells k.spells h.parameters k.parameters

  result_one : (x y : Executable) (row : ℕ) (def : MethodDefRow) (a b : Method) → IsMethod m x row def a → IsMethod m y row def b → a.result ≡ b.result
  result_one x y row def a b h k = read_one result_in def.signature h.signature k.signature a.result b.result h.spells k.spells h.result k.result

  reference_one : (row : ℕ) (of : MemberRefRow) (a b : LibraryCall) → IsReference m row of a → IsReference m row of b → a ≡ b
  reference_one row of a b h k = read_one (library_call of.name) of.signature h.signature k.signature a b h.spells k.spells h.member k.member

named : List (List (Option FundamentalType)) → List LibraryCall → List (Option FundamentalType) → List FundamentalType → Names
named methods references parameters locals = record { methods = methods; references = references; parameters = parameters; locals = locals }

method_of : List (Option FundamentalType) → Option FundamentalType → List FundamentalType → List PlacedOperation → List Clause → ℕ → Method
method_of parameters result locals operations clauses height = record { parameters = parameters; result = result; locals = locals; operations = operations; clauses = clauses; max_stack = height }

method_is : (a b : Method) → a.parameters ≡ b.parameters → a.result ≡ b.result → a.locals ≡ b.locals → a.operations ≡ b.operations → a.clauses ≡ b.clauses → a.max_stack ≡ b.max_stack → a ≡ b
unfolding method_of
method_is a b e f g h i j =
    ap (λ z. method_of z a.result a.locals a.operations a.clauses a.max_stack) e ∙ ap (λ z. method_of b.parameters z a.locals a.operations a.clauses a.max_stack) f
    ∙ ap (λ z. method_of b.parameters b.result z a.operations a.clauses a.max_stack) g ∙ ap (λ z. method_of b.parameters b.result b.locals z a.clauses a.max_stack) h
    ∙ ap (λ z. method_of b.parameters b.result b.locals b.operations z a.max_stack) i ∙ ap (λ z. method_of b.parameters b.result b.locals b.operations b.clauses z) j

executable_of : List Method → List LibraryCall → List ClassRow → List (List ℕ) → ℕ → Executable
executable_of methods references classes names entry = record { methods = methods; references = references; classes = classes; names = names; entry = entry }

executable_is : (x y : Executable) → x.methods ≡ y.methods → x.references ≡ y.references → x.classes ≡ y.classes → x.names ≡ y.names → x.entry ≡ y.entry → x ≡ y
unfolding executable_of
executable_is x y e f g h i =
    ap (λ z. executable_of z x.references x.classes x.names x.entry) e ∙ ap (λ z. executable_of y.methods z x.classes x.names x.entry) f
    ∙ ap (λ z. executable_of y.methods y.references z x.names x.entry) g ∙ ap (λ z. executable_of y.methods y.references y.classes z x.entry) h
    ∙ ap (λ z. executable_of y.methods y.references y.classes y.names z) i

module _ (m : Module) (x y : Executable) (h : IsLoaded m x) (k : IsLoaded m y) where
  parameters_same : map (λ (other : Method). other.parameters) x.methods ≡ map (λ (other : Method). other.parameters) y.methods
  parameters_same = rows_map (IsMethod m x) (IsMethod m y) (λ (other : Method). other.parameters) (parameters_one m x y) 1 m.methods x.methods y.methods h.methods k.methods

  references_same : x.references ≡ y.references
  references_same = rows_one (IsReference m) (IsReference m) (reference_one m) 1 m.member_refs x.references y.references h.references k.references

  names_same : (a b : Method) → a.parameters ≡ b.parameters → a.locals ≡ b.locals → names_in x a ≡ names_in y b
  unfolding named
  names_same a b e f =
      ap (λ z. named z x.references a.parameters a.locals) parameters_same ∙ ap (λ z. named (map (λ (other : Method). other.parameters) y.methods) z a.parameters a.locals) references_same
      ∙ ap (λ z. named (map (λ (other : Method). other.parameters) y.methods) y.references z a.locals) e ∙ ap (λ z. named (map (λ (other : Method). other.parameters) y.methods) y.references b.parameters z) f

  method_one : (row : ℕ) (def : MethodDefRow) (a b : Method) → IsMethod m x row def a → IsMethod m y row def b → a ≡ b
  method_one row def a b g i =
      let body = body_at m (body_of m row) in
      let parameters = parameters_one m x y row def a b g i in
      let locals = body_locals_one m x y a b body g.body i.body in
      method_is a b parameters (result_one m x y row def a b g i) locals (body_operations_one m x y a b body (names_same a b parameters locals) g.body i.body)
      (body_clauses_one m x y a b body g.body i.body) (body_height_one m x y a b body g.body i.body)

  loaded_one : x ≡ y
  loaded_one =
      let entry : x.entry ≡ y.entry = omega (arith, h.entry.is, k.entry.is) in
      executable_is x y (rows_one (IsMethod m x) (IsMethod m y) method_one 1 m.methods x.methods y.methods h.methods k.methods) references_same
      (h.classes ∙ sym k.classes) (h.names ∙ sym k.names) entry

pub one_executable : (m : Module) (x y : Executable) → IsLoaded m x → IsLoaded m y → x ≡ y
one_executable m x y h k = loaded_one m x y h k
