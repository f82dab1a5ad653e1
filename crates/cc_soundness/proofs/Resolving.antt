-- Each instruction that keeps the rules has an operation.
use Rattle.std.proofs.Common.{◌≡◌, ℕ, zero, suc, ◌+◌, ◌<◌, List, [], ◌∷◌, length, map, refl, sym, ap, ◌∙◌, subst, arith}
use Rattle.std.specs.Prelude.{Bool, true, false, ◌==◌, ℤ, pos, ◌+ℤ◌, Option, Some, None, option_map, slice_get, if◌then◌else◌}
use Rattle.std.specs.Int.{w32, w64, cast_unsigned}
use Rattle.std.proofs.lemmas.Option.{same_Some, slice_get_within, slice_get-map}
use Rattle.cc_cil.specs.declared.instruction.Instruction.{Instruction}
use Rattle.cc_cil.specs.declared.instruction.Instruction.TheVariants as the
use Rattle.cc_cil.specs.Instructions.{spelling}
use Rattle.cc_core.specs.declared.types.Operator.TheVariants as op
use Rattle.cc_core.specs.declared.types.UnaryOperator.TheVariants as unary
use Rattle.cc_execution.specs.declared.executable.PlacedOperation.{PlacedOperation}
use Rattle.cc_execution.specs.declared.operation.FundamentalType.{FundamentalType}
use Rattle.cc_execution.specs.declared.operation.FundamentalType.TheVariants as to
use Rattle.cc_execution.specs.declared.operation.Operation.{Operation}
use Rattle.cc_execution.specs.declared.operation.Operation.TheVariants as does
use Rattle.cc_execution.specs.Loaded.{Decodes as Executes, ends, goes as executes}
use Rattle.cc_execution.specs.Operations.{Names, loaded, argument_from, argument, local, load, store, at_row, row_of, table_of, are_loaded, call_method, call_defined, call, target, resolve}
use Rattle.cc_verify.specs.declared.environment.MethodType.{MethodType}
use Rattle.cc_verify.specs.declared.environment.Environment.{Environment}
use Rattle.cc_verify.specs.declared.environment.Frame.{Frame}
use Rattle.cc_verify.specs.declared.method.Method.{Method}
use Rattle.cc_verify.specs.declared.places.Place.{Place}
use Rattle.cc_verify.specs.declared.stack_type.StackType.{StackType}
use Rattle.cc_verify.specs.Places.{Decodes, stops, goes}
use Rattle.cc_verify.specs.Rules.{is_aimed, starts_target}
use Rattle.cc_verify.specs.Transitions.{Stack, transition_of, is_built, is_built_callee, are_built, fits, push_variable, store_variable, push_local, store_local, effect, method_of}
use Rattle.cc_verify.specs.Transitions as rules
use Rattle.cc_soundness.specs.Kinds.{kind, kinds}
use Rattle.cc_soundness.proofs.Matching.{none_some}
use Rattle.cc_soundness.proofs.Steps.{same_natural}
use Rattle.cc_soundness.proofs.Tables.{AllPlaces}

-- ---- variables

pushed_variable : (o : Option (Option StackType)) (s out : Stack) → push_variable o s ≡ Some out → (k : StackType) × (o ≡ Some (Some k))
pushed_variable None s out h = none_some h
pushed_variable (Some None) s out h = none_some h
pushed_variable (Some (Some k)) s out h = (k, refl)

stored_variable : (o : Option (Option StackType)) (s out : Stack) → store_variable o s ≡ Some out → (k : StackType) × (o ≡ Some (Some k))
stored_variable None s out h = none_some h
stored_variable (Some v) [] out h = none_some h
stored_variable (Some None) (a ∷ s) out h = none_some h
stored_variable (Some (Some k)) (a ∷ s) out h = (k, refl)

pushed_local : (o : Option StackType) (s out : Stack) → push_local o s ≡ Some out → (k : StackType) × (o ≡ Some k)
pushed_local None s out h = none_some h
pushed_local (Some k) s out h = (k, refl)

stored_local : (o : Option StackType) (s out : Stack) → store_local o s ≡ Some out → (k : StackType) × (o ≡ Some k)
stored_local None s out h = none_some h
stored_local (Some k) s out h = (k, refl)

argument_there : (parameters : List (Option FundamentalType)) (base n : ℕ) (k : StackType) → slice_get (kinds parameters) n ≡ Some (Some k) → (v : ℕ × FundamentalType) × (argument_from base parameters n ≡ Some v)
argument_there [] base n k h = none_some h
argument_there (None ∷ parameters) base zero k h = none_some (same_Some None (Some k) h)
argument_there (Some t ∷ parameters) base zero k h = ((base, t), refl)
argument_there (None ∷ parameters) base (suc n) k h = argument_there parameters base n k h
argument_there (Some t ∷ parameters) base (suc n) k h = argument_there parameters (suc base) n k h

pub mapped_there : {A B : Type 0} (f : A → B) (o : Option A) (b : B) → option_map f o ≡ Some b → (a : A) × (o ≡ Some a) × (f a ≡ b)
mapped_there f None b h = none_some h
mapped_there f (Some a) b h = (a, refl, same_Some (f a) b h)

called_there : (o : Option MethodType) (s out : Stack) → rules.call o s ≡ Some out → (t : MethodType) × (o ≡ Some t)
called_there None s out h = none_some h
called_there (Some t) s out h = (t, refl)

loaded_there : (parameters : List (Option FundamentalType)) → are_built (kinds parameters) ≡ true → are_loaded parameters ≡ true
loaded_there [] h = refl
loaded_there (None ∷ parameters) h = let bad : false ≡ true = h in cc
loaded_there (Some t ∷ parameters) h = loaded_there parameters h

get_there : {A : Type 0} (xs : List A) (n : ℕ) → n < length xs → (a : A) × (slice_get xs n ≡ Some a)
get_there [] n lt = absurd (omega (arith, lt))
get_there (x ∷ xs) zero lt = (x, refl)
get_there (x ∷ xs) (suc n) lt = get_there xs n (omega (arith, lt))

-- what the names stand for is what the verifier knows of them
pub record Stand (names : Names) (e : Environment) (f : Frame) : Type 0 where
  pub arguments : f.arguments ≡ kinds names.parameters
  pub locals : f.locals ≡ map kind names.locals
  pub methods : map (λ (t : MethodType). t.parameters) e.methods ≡ map kinds names.methods
  pub references : length e.references ≡ length names.references

module _ (names : Names) (m : Method) (stand : Stand names m.environment m.frame) (next : ℕ) where
  abbrev Has : Instruction → Type 0
  Has i = (o : Operation) × (resolve names next i ≡ Some o)

  load_argument_some : (n : ℕ) (st out : Stack) → push_variable (slice_get m.frame.arguments n) st ≡ Some out → (o : Operation) × (load (argument names n) ≡ Some o)
  load_argument_some n st out h =
      let k = pushed_variable (slice_get m.frame.arguments n) st out h in
      let v = argument_there names.parameters 0 n k.0 (sym (ap (λ l. slice_get l n) stand.arguments) ∙ k.1) in
      (does.LoadVariable v.0.0, ap load v.1)

  store_argument_some : (n : ℕ) (st out : Stack) → store_variable (slice_get m.frame.arguments n) st ≡ Some out → (o : Operation) × (store (argument names n) ≡ Some o)
  store_argument_some n st out h =
      let k = stored_variable (slice_get m.frame.arguments n) st out h in
      let v = argument_there names.parameters 0 n k.0 (sym (ap (λ l. slice_get l n) stand.arguments) ∙ k.1) in
      (does.StoreVariable v.0.0 v.0.1, ap store v.1)

  local_there : (n : ℕ) (k : StackType) → slice_get m.frame.locals n ≡ Some k → (t : FundamentalType) × (slice_get names.locals n ≡ Some t)
  local_there n k h =
      let r = mapped_there kind (slice_get names.locals n) k (sym (slice_get-map kind names.locals n) ∙ sym (ap (λ l. slice_get l n) stand.locals) ∙ h) in (r.0, r.1)

  load_local_some : (n : ℕ) (st out : Stack) → push_local (slice_get m.frame.locals n) st ≡ Some out → (o : Operation) × (load (local names n) ≡ Some o)
  load_local_some n st out h =
      let k = pushed_local (slice_get m.frame.locals n) st out h in
      let t = local_there n k.0 k.1 in
      (does.LoadVariable (length (loaded names.parameters) + n), ap (λ o. load (option_map (λ t. (length (loaded names.parameters) + n, t)) o)) t.1)

  store_local_some : (n : ℕ) (st out : Stack) → store_local (slice_get m.frame.locals n) st ≡ Some out → (o : Operation) × (store (local names n) ≡ Some o)
  store_local_some n st out h =
      let k = stored_local (slice_get m.frame.locals n) st out h in
      let t = local_there n k.0 k.1 in
      (does.StoreVariable (length (loaded names.parameters) + n) t.0, ap (λ o. store (option_map (λ t. (length (loaded names.parameters) + n, t)) o)) t.1)

  -- ---- calls

  defined_some : (row : ℕ) (st out : Stack) → is_built_callee (rules.at_row m.environment.methods row) ≡ true → rules.call (rules.at_row m.environment.methods row) st ≡ Some out → (o : Operation) × (call_defined names row ≡ Some o)
  defined_some zero st out built h = none_some h
  defined_some (suc n) st out built h =
      let t = called_there (slice_get m.environment.methods n) st out h in
      let same : slice_get (map kinds names.methods) n ≡ Some t.0.parameters =
      sym (ap (λ l. slice_get l n) stand.methods) ∙ slice_get-map (λ (t : MethodType). t.parameters) m.environment.methods n ∙ ap (option_map (λ (t : MethodType). t.parameters)) t.1 in
      let ps = mapped_there kinds (slice_get names.methods n) t.0.parameters (sym (slice_get-map kinds names.methods n) ∙ same) in
      let all : are_built (kinds ps.0) ≡ true = subst (λ l. are_built l ≡ true) (sym ps.2) (subst (λ o. is_built_callee o ≡ true) t.1 built) in
      (does.Call n, ap (λ o. call_method o n) ps.1 ∙ ap (λ b. if b then Some (does.Call n) else None) (loaded_there ps.0 all))

  referred_some : (row : ℕ) (st out : Stack) → rules.call (rules.at_row m.environment.references row) st ≡ Some out → (o : Operation) × (option_map does.CallLibrary (at_row names.references row) ≡ Some o)
  referred_some zero st out h = none_some h
  referred_some (suc n) st out h =
      let t = called_there (slice_get m.environment.references n) st out h in
      let lt = slice_get_within m.environment.references n t.0 t.1 in
      let c = get_there names.references n (subst (λ k. n < k) stand.references lt) in
      (does.CallLibrary c.0, ap (option_map does.CallLibrary) c.1)

  token_some : (token : ℕ) (a b : Bool) (st out : Stack)
      → is_built_callee (if a then rules.at_row m.environment.methods (row_of token) else if b then rules.at_row m.environment.references (row_of token) else None) ≡ true
      → rules.call (if a then rules.at_row m.environment.methods (row_of token) else if b then rules.at_row m.environment.references (row_of token) else None) st ≡ Some out
      → (o : Operation) × ((if a then call_defined names (row_of token) else if b then option_map does.CallLibrary (at_row names.references (row_of token)) else None) ≡ Some o)
  token_some token true b st out built h = defined_some (row_of token) st out built h
  token_some token false true st out built h = referred_some (row_of token) st out h
  token_some token false false st out built h = none_some h

  call_some : (token : ℕ) (st out : Stack) → is_built_callee (method_of m.environment token) ≡ true → rules.call (method_of m.environment token) st ≡ Some out → (o : Operation) × (call names token ≡ Some o)
  call_some token st out built h = token_some token (table_of token == 0x06) (table_of token == 0x0A) st out built h

  -- ---- branches

  aimed_there : (o : Option ℕ) → starts_target m o ≡ true → (to : ℕ) × (o ≡ Some to)
  aimed_there None h = let bad : false ≡ true = h in cc
  aimed_there (Some to) h = (to, refl)

  target_some : (f : ℕ → Operation) (offset : ℤ) → starts_target m (rules.natural (pos next +ℤ offset)) ≡ true → (o : Operation) × (option_map f (target next offset) ≡ Some o)
  target_some f offset h = let t = aimed_there (rules.natural (pos next +ℤ offset)) h in (f t.0, ap (option_map f) (same_natural (pos next +ℤ offset) ∙ t.1))

  pub resolved : (i : Instruction) (st out : Stack) → is_built m.environment m.frame (transition_of i) ≡ true → effect m.environment m.frame (transition_of i) st ≡ Some out → is_aimed m (transition_of i) next ≡ true → Has i
  resolved the.Nop st out built k aim = (does.Nothing, refl)
  resolved the.LoadArgument0 st out built k aim = load_argument_some 0 st out k
  resolved the.LoadArgument1 st out built k aim = load_argument_some 1 st out k
  resolved the.LoadArgument2 st out built k aim = load_argument_some 2 st out k
  resolved the.LoadArgument3 st out built k aim = load_argument_some 3 st out k
  resolved (the.LoadArgumentShort n) st out built k aim = load_argument_some n st out k
  resolved (the.LoadArgument n) st out built k aim = load_argument_some n st out k
  resolved the.LoadLocal0 st out built k aim = load_local_some 0 st out k
  resolved the.LoadLocal1 st out built k aim = load_local_some 1 st out k
  resolved the.LoadLocal2 st out built k aim = load_local_some 2 st out k
  resolved the.LoadLocal3 st out built k aim = load_local_some 3 st out k
  resolved (the.LoadLocalShort n) st out built k aim = load_local_some n st out k
  resolved (the.LoadLocal n) st out built k aim = load_local_some n st out k
  resolved the.StoreLocal0 st out built k aim = store_local_some 0 st out k
  resolved the.StoreLocal1 st out built k aim = store_local_some 1 st out k
  resolved the.StoreLocal2 st out built k aim = store_local_some 2 st out k
  resolved the.StoreLocal3 st out built k aim = store_local_some 3 st out k
  resolved (the.StoreLocalShort n) st out built k aim = store_local_some n st out k
  resolved (the.StoreLocal n) st out built k aim = store_local_some n st out k
  resolved (the.LoadArgumentAddressShort n) st out built k aim = none_some k
  resolved (the.LoadArgumentAddress n) st out built k aim = none_some k
  resolved (the.LoadLocalAddressShort n) st out built k aim = none_some k
  resolved (the.LoadLocalAddress n) st out built k aim = none_some k
  resolved (the.StoreArgumentShort n) st out built k aim = store_argument_some n st out k
  resolved (the.StoreArgument n) st out built k aim = store_argument_some n st out k
  resolved the.LoadNull st out built k aim = (does.PushNull, refl)
  resolved the.LoadIntMinus1 st out built k aim = ((does.PushInt32 0xFFFFFFFF), refl)
  resolved the.LoadInt0 st out built k aim = ((does.PushInt32 0), refl)
  resolved the.LoadInt1 st out built k aim = ((does.PushInt32 1), refl)
  resolved the.LoadInt2 st out built k aim = ((does.PushInt32 2), refl)
  resolved the.LoadInt3 st out built k aim = ((does.PushInt32 3), refl)
  resolved the.LoadInt4 st out built k aim = ((does.PushInt32 4), refl)
  resolved the.LoadInt5 st out built k aim = ((does.PushInt32 5), refl)
  resolved the.LoadInt6 st out built k aim = ((does.PushInt32 6), refl)
  resolved the.LoadInt7 st out built k aim = ((does.PushInt32 7), refl)
  resolved the.LoadInt8 st out built k aim = ((does.PushInt32 8), refl)
  resolved (the.LoadIntShort n) st out built k aim = ((does.PushInt32 (cast_unsigned w32 n)), refl)
  resolved (the.LoadInt n) st out built k aim = ((does.PushInt32 (cast_unsigned w32 n)), refl)
  resolved (the.LoadLong n) st out built k aim = ((does.PushInt64 (cast_unsigned w64 n)), refl)
  resolved the.Duplicate st out built k aim = (does.Duplicate, refl)
  resolved the.Pop st out built k aim = (does.Pop, refl)
  resolved (the.Call n) st out built k aim = call_some n st out built k
  resolved (the.CallVirtual n) st out built k aim = none_some k
  resolved (the.NewObject n) st out built k aim = none_some k
  resolved the.Return st out built k aim = (does.Return, refl)
  resolved (the.BranchShort n) st out built k aim = target_some does.Branch n aim
  resolved (the.BranchFalseShort n) st out built k aim = target_some (does.BranchIf false) n aim
  resolved (the.BranchTrueShort n) st out built k aim = target_some (does.BranchIf true) n aim
  resolved (the.Branch n) st out built k aim = target_some does.Branch n aim
  resolved (the.BranchFalse n) st out built k aim = target_some (does.BranchIf false) n aim
  resolved (the.BranchTrue n) st out built k aim = target_some (does.BranchIf true) n aim
  resolved (the.BranchEqual n) st out built k aim = target_some (does.BranchCompare op.Equal true) n aim
  resolved (the.BranchGreaterEqual n) st out built k aim = target_some (does.BranchCompare op.GreaterOrEqual true) n aim
  resolved (the.BranchGreater n) st out built k aim = target_some (does.BranchCompare op.Greater true) n aim
  resolved (the.BranchLessEqual n) st out built k aim = target_some (does.BranchCompare op.LessOrEqual true) n aim
  resolved (the.BranchLess n) st out built k aim = target_some (does.BranchCompare op.Less true) n aim
  resolved (the.BranchNotEqual n) st out built k aim = target_some (does.BranchCompare op.NotEqual false) n aim
  resolved (the.BranchGreaterEqualUnsigned n) st out built k aim = target_some (does.BranchCompare op.GreaterOrEqual false) n aim
  resolved (the.BranchGreaterUnsigned n) st out built k aim = target_some (does.BranchCompare op.Greater false) n aim
  resolved (the.BranchLessEqualUnsigned n) st out built k aim = target_some (does.BranchCompare op.LessOrEqual false) n aim
  resolved (the.BranchLessUnsigned n) st out built k aim = target_some (does.BranchCompare op.Less false) n aim
  resolved the.Add st out built k aim = ((does.Compute op.Add true), refl)
  resolved the.Subtract st out built k aim = ((does.Compute op.Subtract true), refl)
  resolved the.Multiply st out built k aim = ((does.Compute op.Multiply true), refl)
  resolved the.Divide st out built k aim = ((does.Compute op.Divide true), refl)
  resolved the.DivideUnsigned st out built k aim = ((does.Compute op.Divide false), refl)
  resolved the.Remainder st out built k aim = ((does.Compute op.Remainder true), refl)
  resolved the.RemainderUnsigned st out built k aim = ((does.Compute op.Remainder false), refl)
  resolved the.And st out built k aim = ((does.Compute op.And true), refl)
  resolved the.Or st out built k aim = ((does.Compute op.Or true), refl)
  resolved the.Xor st out built k aim = ((does.Compute op.ExclusiveOr true), refl)
  resolved the.ShiftLeft st out built k aim = ((does.Compute op.ShiftLeft true), refl)
  resolved the.ShiftRight st out built k aim = ((does.Compute op.ShiftRight true), refl)
  resolved the.ShiftRightUnsigned st out built k aim = ((does.Compute op.ShiftRight false), refl)
  resolved the.Negate st out built k aim = ((does.ComputeAlone unary.Negate), refl)
  resolved the.Not st out built k aim = ((does.ComputeAlone unary.Complement), refl)
  resolved the.ConvertI1 st out built k aim = ((does.Convert to.I1), refl)
  resolved the.ConvertI2 st out built k aim = ((does.Convert to.I2), refl)
  resolved the.ConvertI4 st out built k aim = ((does.Convert to.I4), refl)
  resolved the.ConvertI8 st out built k aim = ((does.Convert to.I8), refl)
  resolved the.ConvertU4 st out built k aim = ((does.Convert to.U4), refl)
  resolved the.ConvertU8 st out built k aim = ((does.Convert to.U8), refl)
  resolved the.ConvertU2 st out built k aim = ((does.Convert to.U2), refl)
  resolved the.ConvertU1 st out built k aim = ((does.Convert to.U1), refl)
  resolved (the.LoadObject n) st out built k aim = none_some k
  resolved (the.StoreObject n) st out built k aim = none_some k
  resolved (the.InitializeObject n) st out built k aim = none_some k
  resolved (the.LoadString n) st out built k aim = none_some k
  resolved (the.CastClass n) st out built k aim = none_some k
  resolved (the.IsInstance n) st out built k aim = none_some k
  resolved the.Throw st out built k aim = (does.Throw, refl)
  resolved the.Rethrow st out built k aim = (does.Rethrow, refl)
  resolved (the.LoadField n) st out built k aim = none_some k
  resolved (the.LoadFieldAddress n) st out built k aim = none_some k
  resolved (the.StoreField n) st out built k aim = none_some k
  resolved (the.LoadStaticField n) st out built k aim = none_some k
  resolved (the.LoadStaticFieldAddress n) st out built k aim = none_some k
  resolved (the.StoreStaticField n) st out built k aim = none_some k
  resolved (the.Box n) st out built k aim = none_some k
  resolved (the.UnboxAny n) st out built k aim = none_some k
  resolved (the.NewArray n) st out built k aim = none_some k
  resolved the.LoadLength st out built k aim = none_some k
  resolved (the.LoadElementAddress n) st out built k aim = none_some k
  resolved (the.LoadElement n) st out built k aim = none_some k
  resolved (the.StoreElement n) st out built k aim = none_some k
  resolved the.EndFinally st out built k aim = (does.EndFinally, refl)
  resolved (the.Leave n) st out built k aim = target_some does.Leave n aim
  resolved (the.LeaveShort n) st out built k aim = target_some does.Leave n aim
  resolved the.CompareEqual st out built k aim = ((does.Compute op.Equal true), refl)
  resolved the.CompareGreater st out built k aim = ((does.Compute op.Greater true), refl)
  resolved the.CompareGreaterUnsigned st out built k aim = ((does.Compute op.Greater false), refl)
  resolved the.CompareLess st out built k aim = ((does.Compute op.Less true), refl)
  resolved the.CompareLessUnsigned st out built k aim = ((does.Compute op.Less false), refl)
  resolved (the.LoadFunction n) st out built k aim = none_some k
  resolved (the.Constrained n) st out built k aim = none_some k

-- ---- code

-- the operations of code whose instructions have one each
pub executed : (m : Method) (names : Names) (code : List ℕ) {at end : ℕ} {places : List Place} → Decodes code at places end → end ≡ length code → AllPlaces m (λ (p : Place). (o : Operation) × (resolve names p.next p.instruction ≡ Some o)) places
    → (operations : List PlacedOperation) × Executes names code at operations
executed m names code (stops none) e h = ([], ends e)
executed m names code {at = at} (goes i begins more) e h =
    let rest = executed m names code more e h.1 in
    let placed : PlacedOperation = record { at = at; operation = h.0.0; next = at + length (spelling i) } in
    (placed ∷ rest.0, executes i placed begins refl refl h.0.1 rest.1)
