-- A verified module keeps the rules as an executable, with the tables of the verifier's pass.
use Rattle.std.proofs.Common.{◌≡◌, ◌≢◌, ℕ, zero, suc, ◌+◌, ◌<◌, List, [], ◌∷◌, ◌++◌, length, map, refl, sym, ap, ◌∙◌, subst, arith}
use Rattle.std.specs.Prelude.{Bool, true, false, ◌&&◌, ◌==◌, Option, Some, None, option_map, slice_get, if◌then◌else◌}
use Rattle.std.proofs.lemmas.Bool.{and_parts}
use Rattle.std.proofs.lemmas.Option.{same_Some, slice_get_within, slice_get-map}
use Rattle.cc_base.specs.declared.identifiers.ClassId.{ClassId}
use Rattle.cc_base.specs.declared.running.Limits.{Limits}
use Rattle.cc_cil.specs.declared.body.Body.{Body}
use Rattle.cc_cil.specs.declared.body.Clause.{Clause}
use Rattle.cc_cil.specs.Instructions.{OneSpelling}
use Rattle.cc_module.specs.declared.element.Element.{Element}
use Rattle.cc_module.specs.declared.element.Element.TheVariants as the
use Rattle.cc_module.specs.declared.signature.TypeSignature.{TypeSignature}
use Rattle.cc_module.specs.declared.signature.Signature.{Signature}
use Rattle.cc_module.specs.declared.signature.Signature.TheVariants as sig
use Rattle.cc_module.specs.declared.rows.MethodDefRow.{MethodDefRow}
use Rattle.cc_module.specs.declared.rows.TypeRefRow.{TypeRefRow}
use Rattle.cc_module.specs.declared.module.Module.{Module}
use Rattle.cc_module.specs.declared.table.Table.TheVariants as table
use Rattle.cc_module.specs.Methods.{body_of}
use Rattle.cc_module.specs.Rows.{row_count}
use Rattle.cc_module.specs.Signatures.{OneSignature}
use Rattle.cc_execution.specs.declared.operation.FundamentalType.{FundamentalType}
use Rattle.cc_execution.specs.declared.operation.FundamentalType.TheVariants.{I4}
use Rattle.cc_execution.specs.declared.executable.Executable.{Executable}
use Rattle.cc_execution.specs.declared.executable.Method.{Method}
use Rattle.cc_execution.specs.Fundamental.{fundamental_alone, parameter_types, result_of}
use Rattle.cc_execution.specs.Library.{class_names, library_names, LIBRARY_CLASSES}
use Rattle.cc_execution.specs.Loaded.{Rows, parameters_in, result_in, HasBody, IsMethod, IsLoaded, type_name, names_of}
use Rattle.cc_execution.specs.Loaded as loading
use Rattle.cc_execution.specs.Operations.{loaded}
use Rattle.cc_execution.specs.Run.{run_of}
use Rattle.cc_core.specs.SourceRun.{wrong}
use Rattle.cc_verify.specs.declared.check.Check.TheVariants as check
use Rattle.cc_verify.specs.declared.check.ClassRule.{ClassRule}
use Rattle.cc_verify.specs.declared.environment.MethodType.{MethodType}
use Rattle.cc_verify.specs.declared.environment.Environment.{Environment}
use Rattle.cc_verify.specs.declared.fault.VerifyFault.{VerifyFault}
use Rattle.cc_verify.specs.declared.places.Broken.{Broken}
use Rattle.cc_verify.specs.declared.readings.Readings.{Readings}
use Rattle.cc_verify.specs.Rules.{Given, own_class, MethodVerdict}
use Rattle.cc_verify.specs.Transitions.{table_of, row_of, at_row}
use Rattle.cc_verify.specs.Types.{IsReading, Zip, AreReadings, class_or_object, is_text_array, environment_of}
use Rattle.cc_verify.specs.ClassRules.{first_bad_from, first_bad, if_read, is_there, is_read, row_has, has_parameters, takes_no_void, names_type, names_caught, name_caught, body_at, body_names, names_all, has_body, is_i4, is_int, takes_texts, is_entry, names_entry, keeps, tested, row_rules, body_rules, or, under, broken_rule, first_broken, bad_entry, first_class_fault}
use Rattle.cc_verify.specs.Verified.{frame_of, BodyVerdict, CodesVerdict, all, broken, kept, Faults, of_class, of_fault, of_none, IsVerified}
use Rattle.cc_soundness.specs.Kinds.{kind, kinds, method_kinds, frame_kinds, IsEnvironment}
use Rattle.cc_soundness.specs.Regions.{EachClause}
use Rattle.cc_soundness.specs.Typed.{IsTyped, HasEntry, KeepsRules}
use Rattle.cc_soundness.proofs.Matching.{none_some}
use Rattle.cc_soundness.proofs.Environments.{environment_is, locals_are}
use Rattle.cc_soundness.proofs.Tables.{some_none}
use Rattle.cc_soundness.proofs.Runs.{never_stuck}
use Rattle.cc_soundness.proofs.Bodies.{CatchIsThere, typed_by}

-- ---- rows

record RowAt {A B : Type 0} (P : ℕ → A → B → Type 0) (row : ℕ) (rows : List A) (i : ℕ) (b : B) : Type 0 where
  a : A
  there : slice_get rows i ≡ Some a
  is : P (row + i) a b

row_at : {A B : Type 0} (P : ℕ → A → B → Type 0) (row : ℕ) (rows : List A) (others : List B) (i : ℕ) (b : B) → Rows P row rows others → slice_get others i ≡ Some b → RowAt P row rows i b
row_at P row [] [] i b h e = none_some e
row_at P row [] (y ∷ others) i b h e = absurd h
row_at P row (a ∷ rows) [] i b h e = absurd h
row_at P row (a ∷ rows) (y ∷ others) zero b h e =
    let same : row ≡ row + 0 = omega arith in
    record { a = a; there = refl; is = subst (λ n. P n a b) same (subst (λ z. P row a z) (same_Some y b e) h.0) }
row_at P row (a ∷ rows) (y ∷ others) (suc i) b h e =
    let r = row_at P (suc row) rows others i b h.1 e in
    let same : suc row + i ≡ row + suc i = omega arith in
    record { a = r.a; there = r.there; is = subst (λ n. P n r.a b) same r.is }

pub rows_length : {A B : Type 0} (P : ℕ → A → B → Type 0) (row : ℕ) (rows : List A) (others : List B) → Rows P row rows others → length rows ≡ length others
rows_length P row [] [] h = refl
rows_length P row [] (y ∷ others) h = absurd h
rows_length P row (a ∷ rows) [] h = absurd h
rows_length P row (a ∷ rows) (y ∷ others) h = ap suc (rows_length P (suc row) rows others h.1)

pub zip_at : {A B : Type 0} (P : A → B → Type 0) (rows : List A) (others : List B) (i : ℕ) (a : A) (b : B) → Zip P rows others → slice_get rows i ≡ Some a → slice_get others i ≡ Some b → P a b
zip_at P [] others i a b h e f = none_some e
zip_at P (x ∷ rows) [] i a b h e f = absurd h
zip_at P (x ∷ rows) (y ∷ others) zero a b h e f = subst (λ z. P a z) (same_Some y b f) (subst (λ z. P z y) (same_Some x a e) h.0)
zip_at P (x ∷ rows) (y ∷ others) (suc i) a b h e f = zip_at P rows others i a b h.1 e f

get_within : {A : Type 0} (xs : List A) (n : ℕ) → n < length xs → (a : A) × (slice_get xs n ≡ Some a)
get_within [] n lt = absurd (omega (arith, lt))
get_within (x ∷ xs) zero lt = (x, refl)
get_within (x ∷ xs) (suc n) lt = get_within xs n (omega (arith, lt))

get_first : {A : Type 0} (xs ys : List A) (n : ℕ) (a : A) → slice_get xs n ≡ Some a → slice_get (xs ++ ys) n ≡ Some a
get_first [] ys n a e = none_some e
get_first (x ∷ xs) ys zero a e = e
get_first (x ∷ xs) ys (suc n) a e = get_first xs ys n a e

-- ---- the rules on rows

or_none : (a b : Option (ℕ × ℕ)) → or a b ≡ None → (a ≡ None) × (b ≡ None)
or_none None b h = (refl, h)
or_none (Some at) b h = some_none at h

under_none : (rule : ℕ) (o : Option ℕ) → under rule o ≡ None → o ≡ None
under_none rule None h = refl
under_none rule (Some row) h = some_none (rule, row) h

not_bad : (test : ℕ → Bool) (row left : ℕ) → first_bad_from test row left ≡ None → (k : ℕ) → k < left → test (row + k) ≡ true
not_bad test row zero h k lt = absurd (omega (arith, lt))
not_bad test row (suc left) h k lt = by_test (test row) refl h (not_bad test (suc row) left) k lt where
  by_test : (b : Bool) → test row ≡ b → (if b then first_bad_from test (suc row) left else Some row) ≡ None → (first_bad_from test (suc row) left ≡ None → (k : ℕ) → k < left → test (suc row + k) ≡ true) → (k : ℕ) → k < suc left → test (row + k) ≡ true
  by_test true e h rec zero lt = let same : row ≡ row + 0 = omega arith in subst (λ n. test n ≡ true) same e
  by_test true e h rec (suc k) lt = let same : suc row + k ≡ row + suc k = omega arith in subst (λ n. test n ≡ true) same (rec h k (omega (arith, lt)))
  by_test false e h rec k lt = some_none row h

module _ (m : Module) (r : Readings) where
  pub rule_none : (rules : List ClassRule) → first_broken m r rules ≡ None → (i : ℕ) (c : ClassRule) → slice_get rules i ≡ Some c → broken_rule m r c ≡ None
  rule_none [] h i c e = none_some e
  rule_none (y ∷ rules) h zero c e = subst (λ z. broken_rule m r z ≡ None) (same_Some y c e) (or_none (broken_rule m r y) (first_broken m r rules) h).0
  rule_none (y ∷ rules) h (suc i) c e = rule_none rules (or_none (broken_rule m r y) (first_broken m r rules) h).1 i c e

  pub row_keeps : (c : ClassRule) → broken_rule m r c ≡ None → (k : ℕ) → k < row_count m c.table → keeps m r c.check (1 + k) ≡ true
  row_keeps c h k lt = not_bad (keeps m r c.check) 1 (row_count m c.table) (under_none c.rule (first_bad (keeps m r c.check) (row_count m c.table)) h) k lt

  module _ (clean : first_class_fault m r ≡ None) where
    pub rows_clean : first_broken m r row_rules ≡ None
    rows_clean = (or_none (first_broken m r row_rules) (or (bad_entry m r) (first_broken m r body_rules)) clean).0

    rest_clean : (bad_entry m r ≡ None) × (first_broken m r body_rules ≡ None)
    rest_clean = or_none (bad_entry m r) (first_broken m r body_rules) (or_none (first_broken m r row_rules) (or (bad_entry m r) (first_broken m r body_rules)) clean).1

    names_rule : slice_get row_rules 23 ≡ Some (tested 4 table.MethodDef check.MethodNames)
    unfolding row_rules
    names_rule = refl

    body_rule : slice_get body_rules 0 ≡ Some (tested 12 table.MethodDef check.MethodBody)
    unfolding body_rules
    body_rule = refl

    pub names_there : (k : ℕ) → k < length m.methods → names_all m r (1 + k) ≡ true
    names_there k lt = row_keeps (tested 4 table.MethodDef check.MethodNames) (rule_none row_rules rows_clean 23 (tested 4 table.MethodDef check.MethodNames) names_rule) k lt

    pub body_there : (k : ℕ) → k < length m.methods → has_body m (1 + k) ≡ true
    body_there k lt = row_keeps (tested 12 table.MethodDef check.MethodBody) (rule_none body_rules rest_clean.1 0 (tested 12 table.MethodDef check.MethodBody) body_rule) k lt

    pub entry_named : names_entry m r ≡ true
    entry_named = by_test (names_entry m r) refl rest_clean.0 where
      by_test : (b : Bool) → names_entry m r ≡ b → if◌then◌else◌ {A = Option (ℕ × ℕ)} b None (Some (11, row_of m.entry)) ≡ None → names_entry m r ≡ true
      by_test true e h = e
      by_test false e h = some_none {A = ℕ × ℕ} (11, row_of m.entry) h

  pub body_named : (row : ℕ) → names_all m r row ≡ true → body_names m (body_at m (body_of m row)) ≡ true
  body_named row h =
      let body = body_names m (body_at m (body_of m row)) in
      let reads = if_read takes_no_void (at_row r.methods row) in
      let parameters = row_has (has_parameters m) (at_row m.methods row) in
      let a = and_parts (is_there (at_row m.type_defs 1)) (parameters && (reads && body)) h in
      let b = and_parts parameters (reads && body) a.1 in
      (and_parts reads body b.1).1

  -- ---- catches

  pub there_is : {A : Type 0} (o : Option A) → is_there o ≡ true → (a : A) × (o ≡ Some a)
  there_is None h = let bad : false ≡ true = h in cc
  there_is (Some a) h = (a, refl)

  ref_class : (refs : List TypeRefRow) (row : ℕ) → is_there (at_row refs row) ≡ true → (class : ClassId) × (at_row (map class_or_object refs) row ≡ Some class)
  ref_class refs zero h = let bad : false ≡ true = h in cc
  ref_class refs (suc i) h = let o = there_is (slice_get refs i) h in (class_or_object o.0, slice_get-map class_or_object refs i ∙ ap (option_map class_or_object) o.1)

  class_there : (token : ℕ) (a b : Bool) → (if a then is_there (at_row m.type_refs (row_of token)) else if b then is_there (at_row m.type_defs (row_of token)) else false) ≡ true
      → (class : ClassId) × ((if a then at_row (map class_or_object m.type_refs) (row_of token) else if b then Some (own_class (row_of token)) else None) ≡ Some class)
  class_there token true b h = ref_class m.type_refs (row_of token) h
  class_there token false true h = (own_class (row_of token), refl)
  class_there token false false h = let bad : false ≡ true = h in cc

  catch_there : (c : Clause) → names_caught m c ≡ true → CatchIsThere (environment_of m r) c
  catch_there c h is = class_there c.class (table_of c.class == 0x01) (table_of c.class == 0x02) (sym (ap (λ b. if b then names_type m c.class else true) is) ∙ h)

  catches_there : (cs : List Clause) → name_caught m cs ≡ true → EachClause (CatchIsThere (environment_of m r)) cs
  catches_there [] h = tt
  catches_there (c ∷ cs) h = let p = and_parts _ _ h in (catch_there c p.0, catches_there cs p.1)

-- ---- bodies

pub same_body : (m : Module) (o : Option ℕ) → loading.body_at m o ≡ body_at m o
same_body m None = refl
same_body m (Some place) = refl

pub codes_at : {m : Module} {e : Environment} {row : ℕ} {methods : List MethodType} {v : Option (ℕ × Broken)} → CodesVerdict m e row methods v → v ≡ None → (i : ℕ) (t : MethodType) → slice_get methods i ≡ Some t → BodyVerdict e t (body_at m (body_of m (row + i))) None
codes_at all n i t h = none_some h
codes_at (broken {row = row} {b = b} x) n i t h = some_none (row, b) n
codes_at {m} {e} (kept {row = row} {t = u} {methods = methods} x more) n zero t h =
    let same : row ≡ row + 0 = omega arith in
    subst (λ k. BodyVerdict e t (body_at m (body_of m k)) None) same (subst (λ z. BodyVerdict e z (body_at m (body_of m row)) None) (same_Some u t h) x)
codes_at {m} {e} (kept {row = row} {t = u} {methods = methods} x more) n (suc i) t h =
    let same : (row + 1) + i ≡ row + suc i = omega arith in
    subst (λ k. BodyVerdict e t (body_at m (body_of m k)) None) same (codes_at more n i t h)

pub record Clean (m : Module) (r : Readings) : Type 0 where
  pub rows : first_class_fault m r ≡ None
  pub codes : CodesVerdict m (environment_of m r) 1 (environment_of m r).methods None

pub clean : {m : Module} {r : Readings} {v : Option VerifyFault} → Faults m r v → v ≡ None → Clean m r
clean (of_class e) n = some_none _ n
clean (of_fault e codes) n = some_none _ n
clean (of_none e codes) n = record { rows = e; codes = codes }

module _ (spellings : OneSpelling) (signatures : OneSignature) (m : Module) (x : Executable) (r : Readings) (reads : AreReadings m r) (ok : Clean m r) (is : IsLoaded m x) where
  abbrev e : Environment
  e = environment_of m r

  environment : IsEnvironment x e
  environment = environment_is signatures m x r reads is

  type_at_row : (i : ℕ) (method : Method) → slice_get x.methods i ≡ Some method → slice_get e.methods i ≡ Some (method_kinds method)
  type_at_row i method h = ap (λ l. slice_get l i) environment.methods ∙ slice_get-map method_kinds x.methods i ∙ ap (option_map method_kinds) h

  in_rows : (i : ℕ) (method : Method) → slice_get x.methods i ≡ Some method → i < length m.methods
  in_rows i method h =
      let a = slice_get_within x.methods i method h in
      let b = rows_length (IsMethod m x) 1 m.methods x.methods is.methods in
      omega (arith, a, b)

  abbrev Typed : Method → Type 0
  Typed method = (t : Given) × IsTyped x e method t

  body_is_typed : (method : Method) (body : Body) → HasBody m x method (Some body) → EachClause (CatchIsThere e) body.clauses → BodyVerdict e (method_kinds method) (Some body) None → Typed method
  body_is_typed method body has there verdict =
      let same : frame_of e (method_kinds method) body ≡ frame_kinds method = ap (λ l. record { arguments = kinds method.parameters; locals = l; result = option_map kind method.result }) (locals_are signatures m x r reads body method.locals has.0) in
      let v : MethodVerdict e (frame_kinds method) body None = subst (λ f. MethodVerdict e f body None) same verdict in
      typed_by spellings x e method body there v.0 v.1 v.2 v.3 has.1 has.2 has.3

  method_typed : (i : ℕ) (method : Method) → slice_get x.methods i ≡ Some method → Typed method
  method_typed i method h =
      let row = row_at (IsMethod m x) 1 m.methods x.methods i method is.methods h in
      let place = body_of m (1 + i) in
      let lt = in_rows i method h in
      let some = there_is m r (body_at m place) (and_parts _ _ (body_there m r ok.rows i lt)).0 in
      let has : HasBody m x method (Some some.0) = subst (λ o. HasBody m x method o) (same_body m place ∙ some.1) row.is.body in
      let names : body_names m (Some some.0) ≡ true = subst (λ o. body_names m o ≡ true) some.1 (body_named m r (1 + i) (names_there m r ok.rows i lt)) in
      let verdict : BodyVerdict e (method_kinds method) (Some some.0) None = subst (λ o. BodyVerdict e (method_kinds method) o None) some.1 (codes_at ok.codes refl i (method_kinds method) (type_at_row i method h)) in
      body_is_typed method some.0 has (catches_there m r some.0.clauses (and_parts _ _ names).1) verdict

  -- ---- tables by the numbers of methods

  pick : (i : ℕ) (o : Option Method) → slice_get x.methods i ≡ o → Given
  pick i None h = []
  pick i (Some method) h = (method_typed i method h).0

  tables : ℕ → Given
  tables i = pick i (slice_get x.methods i) refl

  picked : (i : ℕ) (o : Option Method) (h : slice_get x.methods i ≡ o) (method : Method) → o ≡ Some method → IsTyped x e method (pick i o h)
  unfolding pick
  picked i None h method q = none_some q
  picked i (Some other) h method q = subst (λ z. IsTyped x e z (method_typed i other h).0) (same_Some other method q) (method_typed i other h).1

  tables_type : (i : ℕ) (method : Method) → slice_get x.methods i ≡ Some method → IsTyped x e method (tables i)
  unfolding tables
  tables_type i method h = picked i (slice_get x.methods i) refl method h

  -- ---- the entry

  entry_row : row_of m.entry ≡ suc x.entry
  entry_row = let a = is.entry.is in let b = is.entry.fits in ap row_of a ∙ (omega (arith, b))

  read_some : (test : Signature → Bool) (o : Option (Option Signature)) → is_read test o ≡ true → (s : Signature) × (o ≡ Some (Some s)) × (test s ≡ true)
  read_some test None h = let bad : false ≡ true = h in cc
  read_some test (Some None) h = let bad : false ≡ true = h in cc
  read_some test (Some (Some s)) h = (s, refl, h)

  text_parameter : (elements : List Element) → is_text_array elements ≡ true → fundamental_alone elements ≡ None
  text_parameter [] h = refl
  text_parameter (t ∷ []) h = let bad : false ≡ true = h in cc
  text_parameter (t ∷ u ∷ elements) h = refl

  texts_parameters : (types : List TypeSignature) → takes_texts types ≡ true → loaded (parameter_types types) ≡ []
  texts_parameters [] h = let bad : false ≡ true = h in cc
  texts_parameters (t ∷ []) h = ap (λ o. loaded (o ∷ [])) (text_parameter t.elements h)
  texts_parameters (t ∷ u ∷ types) h = let bad : false ≡ true = h in cc

  int_result : (elements : List Element) → is_int elements ≡ true → result_of elements ≡ Some (Some I4)
  int_result [] h = let bad : false ≡ true = h in cc
  int_result (t ∷ []) h = one t h where
    one : (t : Element) → is_i4 t ≡ true → result_of (t ∷ []) ≡ Some (Some I4)
    one the.I4 h = refl
    one t h = let bad : false ≡ true = h in cc
  int_result (t ∷ u ∷ elements) h = let bad : false ≡ true = h in cc

  entry_types : (s : Signature) (ps : List (Option FundamentalType)) (result : Option FundamentalType) → is_entry s ≡ true → parameters_in s ≡ Some ps → result_in s ≡ Some result → (loaded ps ≡ []) × (result ≡ Some I4)
  entry_types (sig.Method false None given parameters) ps result h p q =
      let z = and_parts _ _ h in
      (ap loaded (sym (same_Some (parameter_types parameters) ps p)) ∙ texts_parameters parameters z.1, same_Some result (Some I4) (sym q ∙ int_result given.elements z.0))
  entry_types (sig.Method false (Some count) given parameters) ps result h p q = none_some p
  entry_types (sig.Method true None given parameters) ps result h p q = none_some p
  entry_types (sig.Method true (Some count) given parameters) ps result h p q = none_some p
  entry_types s ps result h p q = none_some p

  entry_is : HasEntry x
  entry_is =
      let size = rows_length (IsMethod m x) 1 m.methods x.methods is.methods in
      let there = is.entry.there in
      let method = get_within x.methods x.entry (omega (arith, size, there)) in
      let row = row_at (IsMethod m x) 1 m.methods x.methods x.entry method.0 is.methods method.1 in
      let read = read_some is_entry (at_row r.methods (row_of m.entry)) (and_parts _ _ (entry_named m r ok.rows)).1 in
      let at : slice_get r.methods x.entry ≡ Some (Some read.0) = sym (ap (λ n. at_row r.methods n) entry_row) ∙ read.1 in
      let spells = zip_at (λ (def : MethodDefRow) (o : Option Signature). IsReading def.signature o) m.methods r.methods x.entry row.a (Some read.0) reads.methods row.there at in
      let k = row.is in
      let same : read.0 ≡ k.signature = signatures read.0 k.signature spells.0 k.spells.0 (sym spells.1 ∙ k.spells.1) in
      let types = entry_types k.signature method.0.parameters method.0.result (subst (λ s. is_entry s ≡ true) same read.2) k.parameters k.result in
      record { method = method.0; is = method.1; parameters = types.0; result = types.1 }

  -- ---- the names of the library's classes

  library_size : length library_names ≡ LIBRARY_CLASSES
  unfolding library_names class_names
  library_size = refl

  named : (n : ℕ) → n < LIBRARY_CLASSES → (name : List ℕ) × (slice_get x.names n ≡ Some name)
  named n lt =
      let a = get_within library_names n (subst (λ k. n < k) (sym library_size) lt) in
      (a.0, ap (λ l. slice_get l n) is.names ∙ get_first library_names (map type_name m.type_defs) n a.0 a.1)

  keeps_all : KeepsRules x e tables
  keeps_all = record { environment = environment; methods = tables_type; entry = entry_is; names = named }

pub verified_keeps : OneSpelling → OneSignature → (m : Module) (x : Executable) → IsVerified m → IsLoaded m x → (e : Environment) × (tables : ℕ → Given) × KeepsRules x e tables
verified_keeps spellings signatures m x (r, reads, faults) is =
    let ok = clean faults refl in
    (environment_of m r, tables spellings signatures m x r reads ok is, keeps_all spellings signatures m x r reads ok is)

pub verified_never_stuck : OneSpelling → OneSignature → (m : Module) (x : Executable) → IsVerified m → IsLoaded m x → (input : List ℕ) (arguments : List (List ℕ)) (limits : Limits) (n : ℕ) → (run_of x input arguments limits n).finish ≢ wrong
verified_never_stuck spellings signatures m x verified is input arguments limits n =
    let k = verified_keeps spellings signatures m x verified is in never_stuck x k.0 k.1 k.2 input arguments limits n
