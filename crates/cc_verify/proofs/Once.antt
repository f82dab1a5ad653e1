-- A module has one first fault.
use Rattle.std.proofs.Common.{◌≡◌, ◌<◌, ◌≤◌, ◌+◌, ◌-◌, ℕ, zero, suc, List, [], ◌∷◌, ◌++◌, length, drop, refl, sym, ap, subst, ◌∙◌, arith, ◌⊎◌, ⊎_elim}
use Rattle.std.specs.Prelude.{Bool, true, false, Option, Some, None}
use Rattle.std.proofs.lemmas.Bool.{false≢true, cases_eq, cases_order, cases_lt}
use Rattle.std.proofs.lemmas.Option.{same_Some}
use Rattle.cc_cil.specs.declared.body.Body.{Body}
use Rattle.cc_cil.specs.declared.body.Clause.{Clause}
use Rattle.cc_cil.specs.declared.instruction.Instruction.{Instruction}
use Rattle.cc_cil.specs.Instructions.{spelling, OneSpelling}
use Rattle.cc_module.specs.declared.module.Module.{Module}
use Rattle.cc_module.specs.declared.rows.MethodDefRow.{MethodDefRow}
use Rattle.cc_module.specs.declared.rows.MemberRefRow.{MemberRefRow}
use Rattle.cc_module.specs.declared.rows.StandAloneSigRow.{StandAloneSigRow}
use Rattle.cc_module.specs.declared.signature.Signature.{Signature}
use Rattle.cc_module.specs.Signatures.{OneSignature}
use Rattle.cc_module.specs.Methods.{body_of}
use Rattle.cc_verify.specs.declared.environment.MethodType.{MethodType}
use Rattle.cc_verify.specs.declared.environment.Environment.{Environment}
use Rattle.cc_verify.specs.declared.environment.Frame.{Frame}
use Rattle.cc_verify.specs.declared.method.Method.{Method}
use Rattle.cc_verify.specs.declared.places.Place.{Place}
use Rattle.cc_verify.specs.declared.places.Broken.{Broken}
use Rattle.cc_verify.specs.declared.readings.Readings.{Readings}
use Rattle.cc_verify.specs.declared.fault.VerifyFault.{VerifyFault}
use Rattle.cc_verify.specs.declared.fault.VerifyFault.TheVariants as fault
use Rattle.cc_verify.specs.Transitions.{Stack}
use Rattle.cc_verify.specs.Places.{Decodes, stops, goes}
use Rattle.cc_verify.specs.Rules.{Before, IsFirst, Keeps, Here, here, Given, ClauseVerdict, all_nest, no_edge, not_nested, nested, CodeVerdict, all_keep, no_start, not_met, breaks, keeps, Verdict, of_clauses, of_nothing, of_code, MethodVerdict, method_with}
use Rattle.cc_verify.specs.Types.{IsReading, Zip, AreReadings, environment_of}
use Rattle.cc_verify.specs.ClassRules.{body_at, first_class_fault}
use Rattle.cc_verify.specs.Verified.{frame_of, BodyVerdict, CodesVerdict, all, broken, kept, Faults, of_class, of_fault, of_none, FirstFault, OneFault}

-- ---- rules

before_holds : (K : ℕ → Type 0) (n k : ℕ) → k < n → Before K n → K k
before_holds K zero k lt b = absurd (omega (arith, lt))
before_holds K (suc n) k lt b = ⊎_elim (λ (e : k ≡ n). subst K (sym e) b.1) (λ (e : k ≡ n → ⊥). before_holds K n k (below n k lt e) b.0) (cases_eq k n) where
  below : (n k : ℕ) → k < suc n → (k ≡ n → ⊥) → k < n
  below n k lt e = ⊎_elim (λ (l : k < n). l) (λ (g : n ≤ k). absurd (e (omega (arith, lt, g)))) (cases_lt k n)

one_first : (K : ℕ → Type 0) (n k : ℕ) → IsFirst K n → IsFirst K k → n ≡ k
one_first K n k f g =
    ⊎_elim (λ (e : n ≡ k). e)
    (λ (o : (n < k) ⊎ (k < n)). ⊎_elim (λ (l : n < k). absurd (f.broken (before_holds K k n l g.before))) (λ (l : k < n). absurd (g.broken (before_holds K n k l f.before))) o)
    (cases_order n k)

-- past rule 12 there is none
past_rules : (m : Method) (h : Here) (n : ℕ) → 13 ≤ n → Keeps m h n
past_rules m h n past =
    let same : suc (suc (suc (suc (suc (suc (suc (suc (suc (suc (suc (suc (suc (n - 13))))))))))))) ≡ n = omega (arith, past) in
    subst (λ k. Keeps m h k) same (last m h (n - 13)) where
      last : (m : Method) (h : Here) (k : ℕ) → Keeps m h (suc (suc (suc (suc (suc (suc (suc (suc (suc (suc (suc (suc (suc k)))))))))))))
      last m h k = tt

not_both : (m : Method) (h : Here) (n : ℕ) → IsFirst (Keeps m h) n → Before (Keeps m h) 13 → ⊥
not_both m h n f b = ⊎_elim (λ (l : n < 13). f.broken (before_holds (Keeps m h) 13 n l b)) (λ (g : 13 ≤ n). f.broken (past_rules m h n g)) (cases_lt n 13)

-- ---- bodies

one_clause : {m : Method} {before left : List Clause} {v w : Option Broken} → ClauseVerdict m before left v → ClauseVerdict m before left w → v ≡ w
one_clause all_nest all_nest = refl
one_clause (no_edge e) (no_edge f) = refl
one_clause (no_edge e) (not_nested f g) = absurd (false≢true (sym e ∙ f))
one_clause (no_edge e) (nested f g more) = absurd (false≢true (sym e ∙ f))
one_clause (not_nested f g) (no_edge e) = absurd (false≢true (sym e ∙ f))
one_clause (not_nested f g) (not_nested f' g') = refl
one_clause (not_nested f g) (nested f' g' more) = absurd (false≢true (sym g ∙ g'))
one_clause (nested f g more) (no_edge e) = absurd (false≢true (sym e ∙ f))
one_clause (nested f g more) (not_nested f' g') = absurd (false≢true (sym g' ∙ g))
one_clause (nested f g more) (nested f' g' more') = one_clause more more'

abbrev at_rule : ℕ → ℕ → Option Broken
at_rule at n = Some (record { at = at; rule = n })

one_code : {m : Method} {end : ℕ} {given : Given} {fallen : Option Stack} {places : List Place} {v w : Option Broken} → CodeVerdict m end given fallen places v → CodeVerdict m end given fallen places w → v ≡ w
one_code (all_keep e) (all_keep f) = refl
one_code (all_keep e) (no_start n) = absurd (n e)
one_code (no_start n) (all_keep e) = absurd (n e)
one_code (no_start n) (no_start k) = refl
one_code (not_met n) (not_met k) = refl
one_code (not_met n) (breaks meets f) = absurd (n meets)
one_code (not_met n) (keeps meets b more) = absurd (n meets)
one_code (breaks meets f) (not_met n) = absurd (n meets)
one_code (breaks {p = p} meets f) (breaks meets' g) = ap (at_rule p.at) (one_first _ _ _ f g)
one_code {m} {given = given} {fallen = fallen} (breaks {p = p} {n = n} meets f) (keeps meets' b more) = absurd (not_both m (here p given fallen) n f b)
one_code (keeps meets b more) (not_met n) = absurd (n meets)
one_code {m} {given = given} {fallen = fallen} (keeps {p = p} meets b more) (breaks {n = n} meets' f) = absurd (not_both m (here p given fallen) n f b)
one_code (keeps meets b more) (keeps meets' b' more') = one_code more more'

some_none : {A B : Type 0} (a : A) → Some a ≡ None → B
some_none a e = let bad : Some a ≡ None = e in cc

one_verdict : {m : Method} {end : ℕ} {v w : Option Broken} → Verdict m end v → Verdict m end w → v ≡ w
one_verdict (of_clauses c) (of_clauses d) = one_clause c d
one_verdict (of_clauses c) (of_nothing d e) = some_none _ (one_clause c d)
one_verdict (of_clauses c) (of_code d e more) = some_none _ (one_clause c d)
one_verdict (of_nothing d e) (of_clauses c) = some_none _ (one_clause c d)
one_verdict (of_nothing d e) (of_nothing d' e') = refl
one_verdict (of_nothing d e) (of_code d' n more) = absurd (n e)
one_verdict (of_code d n more) (of_clauses c) = some_none _ (one_clause c d)
one_verdict (of_code d n more) (of_nothing d' e) = absurd (n e)
one_verdict (of_code d n more) (of_code d' n' more') = one_code more more'

abbrev place : ℕ → Instruction → Place
place at i = record { at = at; instruction = i; next = at + length (spelling i) }

one_decoding : OneSpelling → {code : List ℕ} {at end end' : ℕ} {places places' : List Place} → Decodes code at places end → Decodes code at places' end' → (places ≡ places') × (end ≡ end')
one_decoding one (stops none) (stops none') = (refl, refl)
one_decoding one (stops none) (goes i begins more) = absurd (none i begins)
one_decoding one (goes i begins more) (stops none) = absurd (none i begins)
one_decoding one {code} {at} {end' = end'} (goes {places = left} i begins more) (goes {places = left'} j begins' more') =
    let same : i ≡ j = (one i j begins.0 begins'.0 begins.2 begins'.2 (sym begins.1 ∙ begins'.1)).0 in
    let rest = one_decoding one more (subst (λ k. Decodes code (at + length (spelling k)) left' end') (sym same) more') in
    (ap (λ l. place at i ∷ l) rest.0 ∙ ap (λ k. place at k ∷ left') same, rest.1)

one_method : OneSpelling → (e : Environment) (f : Frame) (body : Body) (v w : Option Broken) → MethodVerdict e f body v → MethodVerdict e f body w → v ≡ w
one_method one e f body v w (places, end, d, found) (places', end', d', found') =
    let same = one_decoding one d d' in
    let moved : Verdict (method_with e f body places) end w = subst (λ l. Verdict (method_with e f body l) end w) (sym same.0) (subst (λ n. Verdict (method_with e f body places') n w) (sym same.1) found') in
    one_verdict found moved

one_body : OneSpelling → (e : Environment) (t : MethodType) (body : Option Body) (v w : Option Broken) → BodyVerdict e t body v → BodyVerdict e t body w → v ≡ w
one_body one e t None v w a b = a ∙ sym b
one_body one e t (Some body) v w a b = one_method one e (frame_of e t body) body v w a b

abbrev row_fault : ℕ → Broken → Option (ℕ × Broken)
row_fault row b = Some (row, b)

one_codes : OneSpelling → {m : Module} {e : Environment} {row : ℕ} {methods : List MethodType} {v w : Option (ℕ × Broken)} → CodesVerdict m e row methods v → CodesVerdict m e row methods w → v ≡ w
one_codes one all all = refl
one_codes one {m} {e} {row} (broken {t = t} {b = b} x) (broken {b = b'} y) = ap (row_fault row) (same_Some b b' (one_body one e t (body_at m (body_of m row)) (Some b) (Some b') x y))
one_codes one {m} {e} {row} (broken {t = t} {b = b} x) (kept y more) = some_none b (one_body one e t (body_at m (body_of m row)) (Some b) None x y)
one_codes one {m} {e} {row} (kept {t = t} x more) (broken {b = b} y) = some_none b (one_body one e t (body_at m (body_of m row)) (Some b) None y x)
one_codes one (kept x more) (kept y more') = one_codes one more more'

-- ---- what signature columns hold

one_reading : OneSignature → (blob : List ℕ) (o p : Option Signature) → IsReading blob o → IsReading blob p → o ≡ p
one_reading one blob None None a b = refl
one_reading one blob None (Some s) a b = absurd (a s b)
one_reading one blob (Some s) None a b = absurd (b s a)
one_reading one blob (Some s) (Some t) a b = ap (λ x. Some x) (one s t a.0 b.0 (sym a.1 ∙ b.1))

one_zip : {A B : Type 0} (P : A → B → Type 0) → ((a : A) (b c : B) → P a b → P a c → b ≡ c) → (rows : List A) (read other : List B) → Zip P rows read → Zip P rows other → read ≡ other
one_zip P one [] [] [] x y = refl
one_zip P one [] [] (c ∷ other) x y = absurd y
one_zip P one [] (b ∷ read) other x y = absurd x
one_zip P one (a ∷ rows) [] other x y = absurd x
one_zip P one (a ∷ rows) (b ∷ read) [] x y = absurd y
one_zip P one (a ∷ rows) (b ∷ read) (c ∷ other) x y = ap (λ k. k ∷ read) (one a b c x.0 y.0) ∙ ap (λ l. c ∷ l) (one_zip P one rows read other x.1 y.1)

one_column : OneSignature → {A : Type 0} (column : A → List ℕ) (rows : List A) (read other : List (Option Signature)) → Zip (λ (a : A) (o : Option Signature). IsReading (column a) o) rows read → Zip (λ (a : A) (o : Option Signature). IsReading (column a) o) rows other → read ≡ other
one_column one {A} column rows read other x y = one_zip (λ (a : A) (o : Option Signature). IsReading (column a) o) (λ a o p. one_reading one (column a) o p) rows read other x y

abbrev made : List (Option Signature) → List (Option Signature) → List (Option Signature) → Readings
made methods references locals = record { methods = methods; references = references; locals = locals }

one_readings : OneSignature → (m : Module) (r s : Readings) → AreReadings m r → AreReadings m s → r ≡ s
one_readings one m r s a b =
    ap (λ l. made l r.references r.locals) (one_column one (λ (row : MethodDefRow). row.signature) m.methods r.methods s.methods a.methods b.methods)
    ∙ ap (λ l. made s.methods l r.locals) (one_column one (λ (row : MemberRefRow). row.signature) m.member_refs r.references s.references a.references b.references)
    ∙ ap (λ l. made s.methods s.references l) (one_column one (λ (row : StandAloneSigRow). row.signature) m.stand_alone_sigs r.locals s.locals a.locals b.locals)

-- ---- the module

abbrev class_fault : ℕ × ℕ → Option VerifyFault
class_fault at = Some (fault.BadClass at.0 at.1)

abbrev code_fault : ℕ × Broken → Option VerifyFault
code_fault at = Some (fault.BadCode at.0 at.1.at at.1.rule)

one_fault_of : OneSpelling → {m : Module} {r : Readings} {v w : Option VerifyFault} → Faults m r v → Faults m r w → v ≡ w
one_fault_of one (of_class {at = at} a) (of_class {at = at'} b) = ap class_fault (same_Some at at' (sym a ∙ b))
one_fault_of one (of_class {at = at} a) (of_fault b more) = some_none at (sym a ∙ b)
one_fault_of one (of_class {at = at} a) (of_none b more) = some_none at (sym a ∙ b)
one_fault_of one (of_fault a more) (of_class {at = at} b) = some_none at (sym b ∙ a)
one_fault_of one (of_fault {row = row} {b = x} a more) (of_fault {row = row'} {b = y} b more') = ap code_fault (same_Some {A = ℕ × Broken} (row, x) (row', y) (one_codes one more more'))
one_fault_of one (of_fault {row = row} {b = x} a more) (of_none b more') = some_none _ (one_codes one more more')
one_fault_of one (of_none a more) (of_class {at = at} b) = some_none at (sym b ∙ a)
one_fault_of one (of_none a more) (of_fault {row = row} {b = x} b more') = some_none _ (one_codes one more' more)
one_fault_of one (of_none a more) (of_none b more') = refl

pub one_fault_each : OneSpelling → OneSignature → OneFault
one_fault_each spellings signatures m v w (r, a, x) (s, b, y) = one_fault_of spellings x (subst (λ q. Faults m q w) (sym (one_readings signatures m r s a b)) y)
