-- The executable of a verified module.
use Rattle.std.proofs.Common.{◌≡◌, ℕ, zero, suc, ◌+◌, ◌<◌, ◌/◌, ◌%◌, ◌^◌, List, [], ◌∷◌, length, map, refl, sym, ap, ◌∙◌, subst, arith, eqb-true}
use Rattle.std.specs.Prelude.{Bool, true, false, ◌&&◌, ◌==◌, Option, Some, None, option_map, slice_get, if◌then◌else◌}
use Rattle.std.proofs.lemmas.Bool.{and_parts}
use Rattle.std.proofs.lemmas.List.{length-map}
use Rattle.std.proofs.lemmas.Option.{same_Some, slice_get_within, slice_get-map}
use Rattle.cc_cil.specs.declared.body.Body.{Body}
use Rattle.cc_core.specs.declared.library_call.LibraryCall.{LibraryCall}
use Rattle.cc_module.specs.declared.signature.Signature.{Signature}
use Rattle.cc_module.specs.declared.rows.MethodDefRow.{MethodDefRow}
use Rattle.cc_module.specs.declared.rows.MemberRefRow.{MemberRefRow}
use Rattle.cc_module.specs.declared.rows.StandAloneSigRow.{StandAloneSigRow}
use Rattle.cc_module.specs.declared.module.Module.{Module}
use Rattle.cc_module.specs.declared.table.Table.TheVariants as table
use Rattle.cc_module.specs.Methods.{NamesMethod, body_of}
use Rattle.cc_module.specs.Rows.{row_count}
use Rattle.cc_module.specs.Signatures.{OneSignature}
use Rattle.cc_execution.specs.declared.operation.FundamentalType.{FundamentalType}
use Rattle.cc_execution.specs.declared.operation.Operation.{Operation}
use Rattle.cc_execution.specs.declared.executable.Executable.{Executable}
use Rattle.cc_execution.specs.declared.executable.Method.{Method}
use Rattle.cc_execution.specs.declared.executable.PlacedOperation.{PlacedOperation}
use Rattle.cc_execution.specs.Loaded.{Spells, Rows, Decodes as Executes, parameters_in, result_in, locals_in, AreLocalsOf, AreLocalsIf, AreLocals, HasBody, IsMethod, IsReference, IsLoaded, classes_of, names_of}
use Rattle.cc_execution.specs.Loaded as loading
use Rattle.cc_execution.specs.Operations.{Names, names_in}
use Rattle.cc_execution.specs.Operations as operations
use Rattle.cc_verify.specs.declared.check.Check.TheVariants as check
use Rattle.cc_verify.specs.declared.check.ClassRule.{ClassRule}
use Rattle.cc_verify.specs.declared.environment.MethodType.{MethodType}
use Rattle.cc_verify.specs.declared.environment.Environment.{Environment}
use Rattle.cc_verify.specs.declared.method.Method.{Method as VerifiedMethod}
use Rattle.cc_verify.specs.declared.places.Place.{Place}
use Rattle.cc_verify.specs.declared.readings.Readings.{Readings}
use Rattle.cc_verify.specs.Rules.{Given, method_with}
use Rattle.cc_verify.specs.Transitions.{table_of, row_of, at_row}
use Rattle.cc_verify.specs.Types.{IsReading, Zip, AreReadings, is_built_method, are_built_locals, method_type, environment_of}
use Rattle.cc_verify.specs.ClassRules.{if_read, is_read, row_has, is_there, is_static_method, has_method_flags, is_no_interface, is_reference, is_locals, takes_no_void, names_locals, name_caught, body_at, body_names, class_of_parent, is_member, is_member_row, is_entry, keeps, tested, row_rules}
use Rattle.cc_verify.specs.Verified.{frame_of, BodyVerdict, IsVerified}
use Rattle.cc_soundness.specs.Kinds.{kinds}
use Rattle.cc_soundness.proofs.Matching.{none_some}
use Rattle.cc_soundness.proofs.Environments.{method_is, locals_are}
use Rattle.cc_soundness.proofs.Tables.{Kept, AllPlaces, pass_finds, chained}
use Rattle.cc_soundness.proofs.Bodies.{own_starts, parts}
use Rattle.cc_soundness.proofs.Modules.{zip_at, rows_length, rule_none, row_keeps, rows_clean, body_there, names_there, entry_named, body_named, there_is, same_body, codes_at, Clean, clean}
use Rattle.cc_soundness.proofs.Resolving.{Stand, mapped_there, resolved, executed}
use Rattle.cc_soundness.proofs.Loads.{false_true, Typed, method_typed, locals_typed, reference_there}

-- ---- rows

one_more : (k : ℕ) → 1 + k ≡ suc k
one_more k = omega arith

-- a row for each of these, in order
rows_from : {A B : Type 0} (P : ℕ → A → B → Type 0) (row : ℕ) (rows : List A) → ((k : ℕ) (a : A) → slice_get rows k ≡ Some a → (b : B) × P (row + k) a b) → (bs : List B) × Rows P row rows bs
rows_from P row [] f = ([], tt)
rows_from {B = B} P row (a ∷ rows) f =
    let b = f 0 a refl in
    let here : row + 0 ≡ row = omega arith in
    let rest = rows_from P (suc row) rows (λ k c h. let r = f (suc k) c h in let same : row + suc k ≡ suc row + k = omega arith in (r.0, subst (λ n. P n c r.0) same r.1)) in
    (b.0 ∷ rest.0, (subst (λ n. P n a b.0) here b.1, rest.1))

rows_join : {A B C : Type 0} (P : ℕ → A → B → Type 0) (Q : ℕ → B → C → Type 0) (R : ℕ → A → C → Type 0) → ((row : ℕ) (a : A) (b : B) (c : C) → P row a b → Q row b c → R row a c) → (row : ℕ) (xs : List A) (ys : List B) (zs : List C)
    → Rows P row xs ys → Rows Q row ys zs → Rows R row xs zs
rows_join P Q R f row [] [] [] h k = tt
rows_join P Q R f row [] [] (z ∷ zs) h k = absurd k
rows_join P Q R f row [] (y ∷ ys) zs h k = absurd h
rows_join P Q R f row (x ∷ xs) [] zs h k = absurd h
rows_join P Q R f row (x ∷ xs) (y ∷ ys) [] h k = absurd k
rows_join P Q R f row (x ∷ xs) (y ∷ ys) (z ∷ zs) h k = (f row x y z h.0 k.0, rows_join P Q R f (suc row) xs ys zs h.1 k.1)

rows_same : {A B C : Type 0} (P : ℕ → A → B → Type 0) (f : A → C) (g : B → C) → ((row : ℕ) (a : A) (b : B) → P row a b → g b ≡ f a) → (row : ℕ) (xs : List A) (ys : List B) → Rows P row xs ys → map g ys ≡ map f xs
rows_same P f g same row [] [] h = refl
rows_same P f g same row [] (y ∷ ys) h = absurd h
rows_same P f g same row (x ∷ xs) [] h = absurd h
rows_same P f g same row (x ∷ xs) (y ∷ ys) h = ap (λ z. z ∷ map g ys) (same row x y h.0) ∙ ap (λ l. f x ∷ l) (rows_same P f g same (suc row) xs ys h.1)

zip_length : {A B : Type 0} (P : A → B → Type 0) (xs : List A) (ys : List B) → Zip P xs ys → length xs ≡ length ys
zip_length P [] [] h = refl
zip_length P [] (y ∷ ys) h = absurd h
zip_length P (x ∷ xs) [] h = absurd h
zip_length P (x ∷ xs) (y ∷ ys) h = ap suc (zip_length P xs ys h.1)

-- a signature is read at a row that is there
read_at : (test : Signature → Bool) (o : Option (Option Signature)) → is_read test o ≡ true → (s : Signature) × (o ≡ Some (Some s)) × (test s ≡ true)
read_at test None h = false_true h
read_at test (Some None) h = false_true h
read_at test (Some (Some s)) h = (s, refl, h)

-- ---- heads of methods

record Head : Type 0 where
  parameters : List (Option FundamentalType)
  result : Option FundamentalType

record HeadIs (row : ℕ) (def : MethodDefRow) (head : Head) : Type 0 where
  signature : Signature
  spells : Spells def.signature signature
  takes : parameters_in signature ≡ Some head.parameters
  gives : result_in signature ≡ Some head.result

abbrev heads_parameters : List Head → List (List (Option FundamentalType))
heads_parameters heads = map (λ (h : Head). h.parameters) heads

record Heads (row : ℕ) (defs : List MethodDefRow) (os : List (Option Signature)) : Type 0 where
  heads : List Head
  are : Rows HeadIs row defs heads
  types : map (λ (t : MethodType). t.parameters) (map method_type os) ≡ map kinds (heads_parameters heads)

heads_from : (row : ℕ) (defs : List MethodDefRow) (os : List (Option Signature)) → Zip (λ (def : MethodDefRow) (o : Option Signature). IsReading def.signature o) defs os
    → ((k : ℕ) (o : Option Signature) → slice_get os k ≡ Some o → (s : Signature) × (o ≡ Some s) × Typed s) → Heads row defs os
heads_from row [] [] h f = record { heads = []; are = tt; types = refl }
heads_from row [] (o ∷ os) h f = absurd h
heads_from row (def ∷ defs) [] h f = absurd h
heads_from row (def ∷ defs) (o ∷ os) h f =
    let s = f 0 o refl in
    let spells : Spells def.signature s.0 = subst (λ z. IsReading def.signature z) s.1 h.0 in
    let rest = heads_from (suc row) defs os h.1 (λ k z e. f (suc k) z e) in
    let head : Head = record { parameters = s.2.parameters; result = s.2.result } in
    let type : (method_type o).parameters ≡ kinds s.2.parameters = ap (λ z. (method_type z).parameters) s.1 ∙ ap (λ (t : MethodType). t.parameters) (method_is s.0 s.2.parameters s.2.result s.2.takes s.2.gives) in
    record {
      heads = head ∷ rest.heads;
      are = (record { signature = s.0; spells = spells; takes = s.2.takes; gives = s.2.gives }, rest.are);
      types = ap (λ z. z ∷ map (λ (t : MethodType). t.parameters) (map method_type os)) type ∙ ap (λ l. kinds s.2.parameters ∷ l) rest.types;
    }

no_executable : Executable
no_executable = record { methods = []; references = []; classes = []; names = []; entry = 0 }

module _ (signatures : OneSignature) (m : Module) (r : Readings) (reads : AreReadings m r) (ok : Clean m r) where
  abbrev e : Environment
  e = environment_of m r

  -- a rule on rows is kept
  kept_by : (i : ℕ) (c : ClassRule) → slice_get row_rules i ≡ Some c → (k : ℕ) → k < row_count m c.table → keeps m r c.check (suc k) ≡ true
  kept_by i c at k lt = subst (λ n. keeps m r c.check n ≡ true) (one_more k) (row_keeps m r c (rule_none m r row_rules (rows_clean m r ok.rows) i c at) k lt)

  -- ---- methods by their signatures

  types_rule : slice_get row_rules 2 ≡ Some (tested 0 table.MethodDef check.MethodTypes)
  unfolding row_rules
  types_rule = refl

  static_rule : slice_get row_rules 18 ≡ Some (tested 3 table.MethodDef check.StaticMethod)
  unfolding row_rules
  static_rule = refl

  signature_of : (k : ℕ) (o : Option Signature) → slice_get r.methods k ≡ Some o → (s : Signature) × (o ≡ Some s) × Typed s
  signature_of k o h =
      let size = zip_length (λ (def : MethodDefRow) (o : Option Signature). IsReading def.signature o) m.methods r.methods reads.methods in
      let lt : k < length m.methods = let a = slice_get_within r.methods k o h in omega (arith, a, size) in
      let static = and_parts (is_read is_static_method (slice_get r.methods k)) (row_has has_method_flags (at_row m.methods (suc k)) && row_has is_no_interface (at_row m.type_defs 1))
      (kept_by 18 (tested 3 table.MethodDef check.StaticMethod) static_rule k lt) in
      let s = read_at is_static_method (slice_get r.methods k) static.0 in
      let built : is_built_method s.0 ≡ true = subst (λ o. if_read is_built_method o ≡ true) s.1 (kept_by 2 (tested 0 table.MethodDef check.MethodTypes) types_rule k lt) in
      (s.0, same_Some o (Some s.0) (sym h ∙ s.1), method_typed s.0 s.2 built)

  all_heads : Heads 1 m.methods r.methods
  all_heads = heads_from 1 m.methods r.methods reads.methods signature_of

  -- ---- members of the library

  reference_rule : slice_get row_rules 19 ≡ Some (tested 3 table.MemberRef check.ReferenceKind)
  unfolding row_rules
  reference_rule = refl

  member_rule : slice_get row_rules 24 ≡ Some (tested 4 table.MemberRef check.LibraryMember)
  unfolding row_rules
  member_rule = refl

  reference_of : (k : ℕ) (of : MemberRefRow) → slice_get m.member_refs k ≡ Some of → (c : LibraryCall) × IsReference m (1 + k) of c
  reference_of k of h =
      let lt = slice_get_within m.member_refs k of h in
      let s = read_at is_reference (slice_get r.references k) (kept_by 19 (tested 3 table.MemberRef check.ReferenceKind) reference_rule k lt) in
      let spells = zip_at (λ (of : MemberRefRow) (o : Option Signature). IsReading of.signature o) m.member_refs r.references k of (Some s.0) reads.references h s.1 in
      let member : row_has (is_member_row m (slice_get r.references k)) (slice_get m.member_refs k) ≡ true = kept_by 24 (tested 4 table.MemberRef check.LibraryMember) member_rule k lt in
      let named : is_member_row m (slice_get r.references k) of ≡ true = subst (λ o. row_has (is_member_row m (slice_get r.references k)) o ≡ true) h member in
      reference_there m (1 + k) of s.0 spells (subst (λ o. if_read (is_member (class_of_parent m of.class) of.name) o ≡ true) s.1 named)

  references : (cs : List LibraryCall) × Rows (IsReference m) 1 m.member_refs cs
  references = rows_from (IsReference m) 1 m.member_refs reference_of

  -- ---- local variables

  local_types_rule : slice_get row_rules 6 ≡ Some (tested 0 table.StandAloneSig check.LocalTypes)
  unfolding row_rules
  local_types_rule = refl

  locals_kind_rule : slice_get row_rules 20 ≡ Some (tested 3 table.StandAloneSig check.LocalsKind)
  unfolding row_rules
  locals_kind_rule = refl

  locals_void_rule : slice_get row_rules 25 ≡ Some (tested 4 table.StandAloneSig check.LocalsWithoutVoid)
  unfolding row_rules
  locals_void_rule = refl

  locals_of_row : (k : ℕ) (row : StandAloneSigRow) → slice_get m.stand_alone_sigs k ≡ Some row → (ls : List FundamentalType) × AreLocalsOf (Some row) ls
  locals_of_row k row h =
      let lt = slice_get_within m.stand_alone_sigs k row h in
      let s = read_at is_locals (slice_get r.locals k) (kept_by 20 (tested 3 table.StandAloneSig check.LocalsKind) locals_kind_rule k lt) in
      let built : are_built_locals s.0 ≡ true = subst (λ o. if_read are_built_locals o ≡ true) s.1 (kept_by 6 (tested 0 table.StandAloneSig check.LocalTypes) local_types_rule k lt) in
      let held : takes_no_void s.0 ≡ true = subst (λ o. if_read takes_no_void o ≡ true) s.1 (kept_by 25 (tested 4 table.StandAloneSig check.LocalsWithoutVoid) locals_void_rule k lt) in
      let spells = zip_at (λ (row : StandAloneSigRow) (o : Option Signature). IsReading row.signature o) m.stand_alone_sigs r.locals k row (Some s.0) reads.locals h s.1 in
      let ls = locals_typed s.0 s.2 built held in
      (ls.0, (s.0, spells, ls.1))

  locals_at_row : (row : ℕ) → is_there (at_row m.stand_alone_sigs row) ≡ true → (ls : List FundamentalType) × AreLocalsOf (operations.at_row m.stand_alone_sigs row) ls
  locals_at_row zero h = false_true h
  locals_at_row (suc k) h =
      let row = there_is m r (slice_get m.stand_alone_sigs k) h in
      let ls = locals_of_row k row.0 row.1 in
      (ls.0, subst (λ o. AreLocalsOf o ls.0) (sym row.1) ls.1)

  locals_of : (token : ℕ) → names_locals m token ≡ true → (ls : List FundamentalType) × AreLocals m token ls
  locals_of token h = by_token (token == 0) (table_of token == 0x11) h where
    by_token : (a b : Bool) → (if a then true else if b then is_there (at_row m.stand_alone_sigs (row_of token)) else false) ≡ true → (ls : List FundamentalType) × AreLocalsIf a (operations.at_row m.stand_alone_sigs (operations.row_of token)) ls
    by_token true b h = ([], refl)
    by_token false true h = locals_at_row (row_of token) h
    by_token false false h = false_true h

  -- ---- bodies

  abbrev names_with : List (Option FundamentalType) → List FundamentalType → Names
  names_with parameters locals = record { methods = heads_parameters all_heads.heads; references = references.0; parameters = parameters; locals = locals }

  record Made (row : ℕ) (head : Head) (method : Method) : Type 0 where
    parameters : method.parameters ≡ head.parameters
    result : method.result ≡ head.result
    body : Body
    there : loading.body_at m (body_of m row) ≡ Some body
    locals : AreLocals m body.locals method.locals
    operations_are : Executes (names_with method.parameters method.locals) body.code 0 method.operations
    clauses : method.clauses ≡ body.clauses
    most : method.max_stack ≡ body.max_stack

  stands : (body : Body) (t : MethodType) (parameters : List (Option FundamentalType)) (ls : List FundamentalType) → t.parameters ≡ kinds parameters → AreLocals m body.locals ls → Stand (names_with parameters ls) e (frame_of e t body)
  stands body t parameters ls same are = record {
    arguments = same;
    locals = locals_are signatures m no_executable r reads body ls are;
    methods = all_heads.types;
    references = length-map r.references method_type ∙ sym (zip_length (λ (of : MemberRefRow) (o : Option Signature). IsReading of.signature o) m.member_refs r.references reads.references)
        ∙ rows_length (IsReference m) 1 m.member_refs references.0 references.1;
  }

  places_resolve : (names : Names) (v : VerifiedMethod) → Stand names v.environment v.frame → (t : Given) (places : List Place) → AllPlaces v (Kept v t) places
      → AllPlaces v (λ (p : Place). (o : Operation) × (operations.resolve names p.next p.instruction ≡ Some o)) places
  places_resolve names v stand t [] h = tt
  places_resolve names v stand t (p ∷ places) h = (resolved names v stand p.next p.instruction h.0.stack h.0.behind h.0.built h.0.leaves h.0.aimed, places_resolve names v stand t places h.1)

  code_of : (body : Body) (t : MethodType) (names : Names) → Stand names e (frame_of e t body) → BodyVerdict e t (Some body) None → (ops : List PlacedOperation) × Executes names body.code 0 ops
  code_of body t names stand (places, end, decodes, verdict) =
      let v = method_with e (frame_of e t body) body places in
      let p = parts v verdict refl in
      let found = pass_finds v p.of_code_is p.none 0 (chained v decodes) (own_starts v places) in
      executed v names body.code decodes found.ends (places_resolve names v stand found.table places found.kept)

  mapped_at : {A B : Type 0} (f : A → B) (xs : List A) (k : ℕ) (b : B) → slice_get (map f xs) k ≡ Some b → (a : A) × (slice_get xs k ≡ Some a) × (f a ≡ b)
  mapped_at f xs k b h = mapped_there f (slice_get xs k) b (sym (slice_get-map f xs k) ∙ h)

  made : (k : ℕ) (head : Head) → slice_get all_heads.heads k ≡ Some head → (method : Method) × Made (1 + k) head method
  made k head h =
      let kinds_at : slice_get (map kinds (heads_parameters all_heads.heads)) k ≡ Some (kinds head.parameters) =
      slice_get-map kinds (heads_parameters all_heads.heads) k ∙ ap (option_map kinds) (slice_get-map (λ (h : Head). h.parameters) all_heads.heads k ∙ ap (option_map (λ (h : Head). h.parameters)) h) in
      let t = mapped_at (λ (t : MethodType). t.parameters) e.methods k (kinds head.parameters) (ap (λ l. slice_get l k) all_heads.types ∙ kinds_at) in
      let lt : k < length m.methods = let a = slice_get_within all_heads.heads k head h in let b = rows_length HeadIs 1 m.methods all_heads.heads all_heads.are in omega (arith, a, b) in
      let place = body_of m (1 + k) in
      let some = there_is m r (body_at m place) (and_parts _ _ (body_there m r ok.rows k lt)).0 in
      let names : body_names m (Some some.0) ≡ true = subst (λ o. body_names m o ≡ true) some.1 (body_named m r (1 + k) (names_there m r ok.rows k lt)) in
      let ls = locals_of some.0.locals (and_parts (names_locals m some.0.locals) (name_caught m some.0.clauses) names).0 in
      let verdict : BodyVerdict e t.0 (Some some.0) None = subst (λ o. BodyVerdict e t.0 o None) some.1 (codes_at ok.codes refl k t.0 t.1) in
      let ops = code_of some.0 t.0 (names_with head.parameters ls.0) (stands some.0 t.0 head.parameters ls.0 t.2 ls.1) verdict in (
        record { parameters = head.parameters; result = head.result; locals = ls.0; operations = ops.0; clauses = some.0.clauses; max_stack = some.0.max_stack },
        record { parameters = refl; result = refl; body = some.0; there = same_body m place ∙ some.1; locals = ls.1; operations_are = ops.1; clauses = refl; most = refl },
      )

  methods : (ms : List Method) × Rows Made 1 all_heads.heads ms
  methods = rows_from Made 1 all_heads.heads made

  same_parameters : map (λ (other : Method). other.parameters) methods.0 ≡ heads_parameters all_heads.heads
  same_parameters = rows_same Made (λ (h : Head). h.parameters) (λ (other : Method). other.parameters) (λ row a b h. h.parameters) 1 all_heads.heads methods.0 methods.1

  -- ---- the entry

  entry_there : (o : Option (Option Signature)) (row : ℕ) → at_row r.methods row ≡ o → is_read is_entry o ≡ true → (k : ℕ) × (row ≡ suc k) × (k < length m.methods)
  entry_there o zero at h = by_none o at h where
    by_none : (o : Option (Option Signature)) → None ≡ o → is_read is_entry o ≡ true → (k : ℕ) × (zero ≡ suc k) × (k < length m.methods)
    by_none None at h = false_true h
    by_none (Some s) at h = none_some at
  entry_there o (suc k) at h =
      let s = read_at is_entry o h in
      let size = zip_length (λ (def : MethodDefRow) (o : Option Signature). IsReading def.signature o) m.methods r.methods reads.methods in
      let lt = slice_get_within r.methods k (Some s.0) (at ∙ s.1) in
      (k, refl, omega (arith, lt, size))

  entry_parts : ((table_of m.entry == 0x06) ≡ true) × (is_read is_entry (at_row r.methods (row_of m.entry)) ≡ true)
  entry_parts = and_parts (table_of m.entry == 0x06) (is_read is_entry (at_row r.methods (row_of m.entry))) (entry_named m r ok.rows)

  entry : (k : ℕ) × (row_of m.entry ≡ suc k) × (k < length m.methods)
  entry = entry_there (at_row r.methods (row_of m.entry)) (row_of m.entry) refl entry_parts.1

  entry_names : NamesMethod m m.entry (entry.0 + 1)
  entry_names =
      let six : m.entry / 2 ^ 24 ≡ 6 = eqb-true (table_of m.entry) 0x06 entry_parts.0 in
      let row : m.entry % 2 ^ 24 ≡ suc entry.0 = entry.1 in
      record { counted = omega arith; fits = omega (arith, row); there = omega (arith, entry.2); is = omega (arith, six, row) }

  -- ---- the whole

  executable : Executable
  executable = record { methods = methods.0; references = references.0; classes = classes_of m; names = names_of m; entry = entry.0 }

  same_names : (method : Method) → names_with method.parameters method.locals ≡ names_in executable method
  unfolding executable
  same_names method = ap (λ l. record { methods = l; references = references.0; parameters = method.parameters; locals = method.locals }) (sym same_parameters)

  method_made : (row : ℕ) (def : MethodDefRow) (head : Head) (method : Method) → HeadIs row def head → Made row head method → IsMethod m executable row def method
  unfolding executable
  method_made row def head method h k =
      let code = subst (λ names. Executes names k.body.code 0 method.operations) (same_names method) k.operations_are in
      let body : HasBody m executable method (Some k.body) = (k.locals, code, k.clauses, k.most) in
      record {
        signature = h.signature;
        spells = h.spells;
        parameters = h.takes ∙ ap (λ z. Some z) (sym k.parameters);
        result = h.gives ∙ ap (λ z. Some z) (sym k.result);
        body = subst (λ o. HasBody m executable method o) (sym k.there) body;
      }

  is_loaded : IsLoaded m executable
  unfolding executable
  is_loaded = record {
    methods = rows_join HeadIs Made (IsMethod m executable) method_made 1 m.methods all_heads.heads methods.0 all_heads.are methods.1;
    references = references.1;
    classes = refl;
    names = refl;
    entry = entry_names;
  }

pub verified_loads : OneSignature → (m : Module) → IsVerified m → (x : Executable) × IsLoaded m x
verified_loads signatures m (r, reads, faults) = let ok = clean faults refl in (executable signatures m r reads ok, is_loaded signatures m r reads ok)
