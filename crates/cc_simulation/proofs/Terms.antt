-- The machine does what expressions mean.
use Rattle.std.proofs.Common.{◌≡◌, ℕ, ◌+◌, List, [], ◌∷◌, ◌++◌, Bool, true, false, Option, Some, refl, sym, ap, ◌∙◌, subst, arith, slice_get, append_assoc, append-nil}
use Rattle.std.specs.Prelude.{cond, ⊤}
use Rattle.cc_base.specs.declared.identifiers.LocalId.{LocalId}
use Rattle.cc_cil.specs.declared.instruction.Instruction.{Instruction}
use Rattle.cc_cil.specs.declared.instruction.Instruction.TheVariants as the
use Rattle.cc_core.specs.declared.library_call.LibraryCall.{LibraryCall}
use Rattle.cc_core.specs.declared.library_call.LibraryCall.TheVariants.{Write, WriteLine, WriteEmptyLine}
use Rattle.cc_core.specs.declared.library_call.Printed.{Printed}
use Rattle.cc_core.specs.declared.library_call.Printed.TheVariants as printed
use Rattle.cc_core.specs.declared.state.State.{State}
use Rattle.cc_core.specs.declared.tree.Dispatch.{Dispatch}
use Rattle.cc_core.specs.declared.tree.Dispatch.TheVariants.{Direct, Virtual}
use Rattle.cc_core.specs.declared.tree.UpdateResult.TheVariants.{New, Old}
use Rattle.cc_core.specs.declared.types.Operator.{Operator}
use Rattle.cc_core.specs.declared.types.UnaryOperator.{UnaryOperator}
use Rattle.cc_core.specs.declared.types.UnaryOperator.TheVariants as unary
use Rattle.cc_core.specs.declared.world.Value.{Value, Nothing}
use Rattle.cc_core.specs.declared.world.World.{World}
use Rattle.cc_core.specs.LibraryCalls as source
use Rattle.cc_core.specs.LibraryCalls.{printed_bytes}
use Rattle.cc_core.specs.declared.state.Root.TheVariants as root
use Rattle.cc_core.specs.declared.state.Target.{Target}
use Rattle.cc_core.specs.Numbers.{converted, narrowed_if, is_signed, is_wide, is_true}
use Rattle.cc_core.specs.Run as run
use Rattle.cc_core.specs.Run.{Ran, Does, Calls, bind, gives, tick, in_world, with_variable, with_output, read_local, write_local, write_target, convert, operate, by_truth, truth_value}
use Rattle.cc_core.specs.Term as term
use Rattle.cc_core.specs.Term.{Term, Terms, type_of}
use Rattle.cc_core.specs.Typed.{is_number, is_promoted, compares, shifts, result_of, FitsRight, FitsAlone, IsTyped, AreTyped, AreNumbers, types_of, taken_by, IsCallable}
use Rattle.cc_core.specs.Typed as typed
use Rattle.cc_core.specs.Types as type
use Rattle.cc_core.specs.Types.{BareType}
use Rattle.cc_core.specs.Value.{value_of, values_of}
use Rattle.cc_code.specs.declared.tokens.Tokens.{Tokens}
use Rattle.cc_code.specs.Instructions.{width, bytes, branches}
use Rattle.cc_code.specs.Operators.{load, store, drop_value, conversion, unary_code, count_code, operator_code, operated, changed}
use Rattle.cc_code.specs.Sizes.{drop_size, conversion_size, operator_size, count_size, truth_size, term_size, terms_size}
use Rattle.cc_code.specs.Terms.{term_code, terms_code, call, library_token}
use Rattle.cc_code.proofs.Sums.{bytes-append, load_is, store_is, drop_is, conversion_is, term_is, terms_are, operated_is, changed_is}
use Rattle.cc_execution.specs.declared.operation.Operation.TheVariants as does
use Rattle.cc_execution.specs.Fundamental.{core_type}
use Rattle.cc_execution.specs.State.{Next}
use Rattle.cc_execution.specs.Step.{given, placed_in, printed_type}
use Rattle.cc_execution.specs.Step as step
use Rattle.cc_simulation.specs.Known.{IsSmall, AreSmall, Knows}
use Rattle.cc_simulation.specs.Sites.{Site, StandsAt, HasAt, Fine, Good, go, state_at, placed}
use Rattle.cc_simulation.specs.Values.{IsOf, AreOf, pushed, pushed_each}
use Rattle.cc_simulation.proofs.Parts.{has_front, has_back, pushed_last, are_append, result_number, right_number, EndsAt, NumberAt, as_number, of_number, then_branch, branches_stand, drops, load_stands, store_stands}
use Rattle.cc_simulation.proofs.Conversions.{constant_stands, conversion_stands, truth_stands, alone_stands}
use Rattle.cc_simulation.proofs.Operators.{binary_stands, promoted_number}
use Rattle.cc_simulation.proofs.Ranges.{number_of, narrowed_of, extended, widened_is, stored_is}
use Rattle.cc_simulation.proofs.Steps.{did, stays, more, at_same, meant_same, ticks, binds}

-- ---- what is printed

record Prints (of : Printed) (v : Value) : Type 0 where
  text : List ℕ
  is : printed_bytes of v ≡ Some text

prints : (of : Printed) (v : Value) → IsOf (typed.printed_type of) v → Prints of v
prints printed.Bool v p = record { text = _; is = ap (printed_bytes printed.Bool) p.1 }
prints printed.Char v p = record { text = _; is = ap (printed_bytes printed.Char) p.2 }
prints printed.I32 v p = record { text = _; is = ap (printed_bytes printed.I32) p.2 }
prints printed.U32 v p = record { text = _; is = ap (printed_bytes printed.U32) p.2 }
prints printed.I64 v p = record { text = _; is = ap (printed_bytes printed.I64) p.1 }
prints printed.U64 v p = record { text = _; is = ap (printed_bytes printed.U64) p.1 }

printed_core : (of : Printed) → core_type (printed_type of) ≡ typed.printed_type of
printed_core printed.Bool = refl
printed_core printed.Char = refl
printed_core printed.I32 = refl
printed_core printed.U32 = refl
printed_core printed.I64 = refl
printed_core printed.U64 = refl

printed_number : (of : Printed) → is_number (typed.printed_type of) ≡ true
printed_number printed.Bool = refl
printed_number printed.Char = refl
printed_number printed.I32 = refl
printed_number printed.U32 = refl
printed_number printed.I64 = refl
printed_number printed.U64 = refl

taken_numbers : (member : LibraryCall) → AreNumbers (taken_by member)
taken_numbers (Write of) = (printed_number of, tt)
taken_numbers (WriteLine of) = (printed_number of, tt)
taken_numbers WriteEmptyLine = tt

-- ---- conversions

record Converts (from of : BareType) (v : Value) : Type 0 where
  value : Value
  is : converted from of v ≡ Some value

converts : (from of : BareType) (v : Value) → is_number from ≡ true → is_number of ≡ true → IsOf from v → Converts from of v
converts from of v nf nt vi =
    let nv = number_of from v nf vi in
    let nr = narrowed_of of (extended (is_wide from) (is_signed from) nv.bits) nt in
    record { value = nr.value; is = ap (converted from of) nv.is ∙ ap (narrowed_if of) (widened_is (is_wide from) from nv.bits) ∙ nr.is }

no_virtual : {A : Type 0} → Virtual ≡ Direct → A
no_virtual {A} e = absurd (subst (λ (d : Dispatch). elim d as (λ (d : Dispatch). Type 0) [ Direct ↦ ⊥ | Virtual ↦ ⊤ ]) e tt)

alone_operand : (operator : UnaryOperator) (operand result : BareType) → FitsAlone operator operand result → is_number operand ≡ true
alone_operand unary.Not operand result p = p.0
alone_operand unary.Complement operand result p = promoted_number operand p.0
alone_operand unary.Negate operand result p = promoted_number operand p.0

alone_result : (operator : UnaryOperator) (operand result : BareType) → FitsAlone operator operand result → is_number result ≡ true
alone_result unary.Not operand result p = ap is_number p.1
alone_result unary.Complement operand result p = ap is_number p.1 ∙ promoted_number operand p.0
alone_result unary.Negate operand result p = ap is_number p.1 ∙ promoted_number operand p.0

module _ (h : Site) (tokens : Tokens) (parameters : ℕ) (k : Calls) (known : Knows h tokens parameters k) where
  print_stands : (at next end : ℕ) (of : Printed) (behind : List ℕ) (v : Value) (stack : List Value) (s : State) → IsOf (typed.printed_type of) v → next ≡ end → Fine h s.world
      → StandsAt h.set 0 (step.print_value of behind next (state_at h at (v ∷ stack) s.world)) (λ (v : Value) (w : World). go h end stack w) (Good h type.Void) s.work (source.print_one of (v ∷ []) behind s)
  print_stands at next end of behind v stack s vi e fine =
      let pr = prints of v vi in
      meant_same h.set.x h.set.classes h.set.frames (ap (λ (o : Option (List ℕ)). source.print o behind s) pr.is)
      (at_same h.set.x h.set.classes h.set.frames
      (ap (λ (o : Option Value). given o (λ (argument : Value). step.print (state_at h at (v ∷ stack) s.world) next stack (printed_bytes of argument) behind)) (stored_is (printed_type of) v (subst (λ (t : BareType). IsOf t v) (sym (printed_core of)) vi))
      ∙ ap (λ (o : Option (List ℕ)). step.print (state_at h at (v ∷ stack) s.world) next stack o behind) pr.is
      ∙ ap (λ (n : ℕ). go h n stack (with_output (pr.text ++ behind) s.world)) e)
      (stays h.set.x h.set.classes h.set.frames Nothing (in_world (with_output (pr.text ++ behind)) s) (tt, fine) refl))

  library_stands : (at end : ℕ) (member : LibraryCall) (vs stack : List Value) (s : State) → AreOf (taken_by member) vs → HasAt h at (the.Call (library_token tokens member) ∷ []) → at + 5 ≡ end → Fine h s.world
      → StandsAt h.set 1 (go h at (pushed_each vs stack) s.world) (λ (v : Value) (w : World). go h end stack w) (Good h type.Void) s.work (source.library member vs s)
  library_stands at end (Write of) [] stack s p has e fine = absurd p
  library_stands at end (Write of) (v ∷ u ∷ vs) stack s p has e fine = absurd p.1
  library_stands at end (Write of) (v ∷ []) stack s p has e fine =
      did h.set.x h.set.classes h.set.frames (state_at h at (v ∷ stack) s.world) (record { at = at; operation = does.CallLibrary (Write of); next = at + 5 }) (has.0 ∙ ap (placed at (at + 5)) (known.members (Write of) (at + 5)))
      (print_stands at (at + 5) end of [] v stack s p.0 e fine)
  library_stands at end (WriteLine of) [] stack s p has e fine = absurd p
  library_stands at end (WriteLine of) (v ∷ u ∷ vs) stack s p has e fine = absurd p.1
  library_stands at end (WriteLine of) (v ∷ []) stack s p has e fine =
      did h.set.x h.set.classes h.set.frames (state_at h at (v ∷ stack) s.world) (record { at = at; operation = does.CallLibrary (WriteLine of); next = at + 5 }) (has.0 ∙ ap (placed at (at + 5)) (known.members (WriteLine of) (at + 5)))
      (print_stands at (at + 5) end of (10 ∷ []) v stack s p.0 e fine)
  library_stands at end WriteEmptyLine (v ∷ vs) stack s p has e fine = absurd p
  library_stands at end WriteEmptyLine [] stack s p has e fine =
      did h.set.x h.set.classes h.set.frames (state_at h at stack s.world) (record { at = at; operation = does.CallLibrary WriteEmptyLine; next = at + 5 }) (has.0 ∙ ap (placed at (at + 5)) (known.members WriteEmptyLine (at + 5)))
      (stays h.set.x h.set.classes h.set.frames Nothing (in_world (with_output ([] ++ 10 ∷ [])) s) (tt, fine) (ap (λ (n : ℕ). go h n stack (with_output ([] ++ 10 ∷ []) s.world)) e))

  abbrev pub TermStands : Term → Type 0
  TermStands e = (at end : ℕ) (stack : List Value) (s : State) → HasAt h at (term_code tokens parameters e) → at + term_size e ≡ end → Fine h s.world
      → EndsAt h 0 (go h at stack s.world) end (type_of e) stack s.work (value_of h.set.classes k e s)

  abbrev pub NumberStands : Term → Type 0
  NumberStands e = (at end : ℕ) (stack : List Value) (s : State) → HasAt h at (term_code tokens parameters e) → at + term_size e ≡ end → Fine h s.world
      → NumberAt h 0 (go h at stack s.world) end (type_of e) stack s.work (value_of h.set.classes k e s)

  pub numbered : (e : Term) → is_number (type_of e) ≡ true → TermStands e → NumberStands e
  numbered e num m at end stack s has size fine = as_number h 0 (go h at stack s.world) end (type_of e) stack s.work (value_of h.set.classes k e s) num (m at end stack s has size fine)

  -- ---- updates

  -- between what stood at the place and what is stored there
  update_middle : {ends : Value → World → Next} {good : Value → World → Type 0} (k1 k5 : ℕ) (after : List Instruction) (of common : BareType) (operator : Operator) (operand : Term) (before : Value) (stack : List Value) (s : State) (fin : Value → Does Value)
      → NumberStands operand → is_number of ≡ true → is_promoted common ≡ true → compares operator ≡ false → FitsRight operator common (type_of operand) → IsOf of before
      → HasAt h k1 (conversion of common ++ (operated operator common (type_of operand) (term_code tokens parameters operand) ++ (conversion common of ++ after)))
      → k1 + (conversion_size of common + (term_size operand + count_size operator (type_of operand) + operator_size operator) + conversion_size common of) ≡ k5 → Fine h s.world
      → (HasAt h k5 after → (c : Value) (s3 : State) → Good h of c s3.world → StandsAt h.set 2 (go h k5 (c ∷ stack) s3.world) ends good s3.work (fin c s3))
      → StandsAt h.set 10 (go h k1 (before ∷ stack) s.world) ends good s.work
      (bind (value_of h.set.classes k operand s) (λ u s2. bind (convert of common before s2) (λ v s3. bind (operate common operator v u s3) (λ y s4. bind (convert common of y s4) fin))))
  update_middle {ends} {good} k1 k5 after of common operator operand before stack s fin ih num pro cmp right bi has size fine go_on =
      let rt = type_of operand in
      let oc = term_code tokens parameters operand in
      let k2 = k1 + conversion_size of common in
      let k3 = k2 + term_size operand in
      let k4 = k3 + count_size operator rt + operator_size operator in
      let cv = converts of common before num (promoted_number common pro) bi in
      let a1 = conversion_is of common in
      let a2 = term_is tokens parameters operand in
      let a3 = operated_is operator common rt oc in
      let a4 = conversion_is common of in
      let r2 = has_back h k1 k2 (conversion of common) (operated operator common rt oc ++ (conversion common of ++ after)) (ap (λ (n : ℕ). k1 + n) a1) has in
      let o2 = has_front h k2 (operated operator common rt oc) (conversion common of ++ after) r2 in
      let r3 = has_back h k2 k3 oc (count_code operator rt ++ operator_code common operator) (ap (λ (n : ℕ). k2 + n) a2) o2 in
      let r4 = has_back h k2 k4 (operated operator common rt oc) (conversion common of ++ after) (omega (arith, a2, a3)) r2 in
      let r5 = has_back h k4 k5 (conversion common of) after (omega (arith, a4, size)) r4 in
      meant_same h.set.x h.set.classes h.set.frames
      (ap (λ (o : Option Value). bind (value_of h.set.classes k operand s) (λ u s2. bind (run.given o s2) (λ v s3. bind (operate common operator v u s3) (λ y s4. bind (convert common of y s4) fin)))) cv.is
      ∙ sym (ap (λ (o : Option Value). bind (run.given o s) (λ v s2. bind (value_of h.set.classes k operand s2) (λ u s3. bind (operate common operator v u s3) (λ y s4. bind (convert common of y s4) fin)))) cv.is))
      (binds h.set.x h.set.classes h.set.frames 2 8 (conversion_stands h known.quiet of common k1 k2 before stack s num (promoted_number common pro) bi (has_front h k1 (conversion of common) (operated operator common rt oc ++ (conversion common of ++ after)) has) refl fine)
      (λ v s1 g1. binds h.set.x h.set.classes h.set.frames 0 8 (ih k2 k3 (v ∷ stack) s1 (has_front h k2 oc (count_code operator rt ++ operator_code common operator) o2) refl g1.1)
      (λ u s2 g2. binds h.set.x h.set.classes h.set.frames 4 4 (binary_stands h known.quiet k3 k4 common rt operator v u stack s2 pro right g1.0 g2.0 r3 refl g2.1)
      (λ y s3 g3. binds h.set.x h.set.classes h.set.frames 2 2
      (conversion_stands h known.quiet common of k4 k5 y stack s3 (promoted_number common pro) num (subst (λ (t : BareType). IsOf t y) (ap (λ (c : Bool). cond c type.Bool common) cmp) g3.0) (has_front h k4 (conversion common of) after r4) (omega (arith, size)) g3.1)
      (λ c s4 g4. go_on r5 c s4 g4)))))

  place_of : LocalId → Target
  place_of x = record { root = root.Local x; path = [] }

  update_new : (at end : ℕ) (of common : BareType) (operator : Operator) (x : LocalId) (operand : Term) (stack : List Value) (s : State) → NumberStands operand → slice_get h.locals x.0 ≡ Some of → is_promoted common ≡ true → compares operator ≡ false → FitsRight operator common (type_of operand)
      → HasAt h at (load parameters x.0 ∷ (changed of operator common New (type_of operand) (term_code tokens parameters operand) ++ store parameters x.0 ∷ []))
      → at + (term_size operand + conversion_size of common + count_size operator (type_of operand) + operator_size operator + conversion_size common of + 9) ≡ end → Fine h s.world
      → NumberAt h 11 (go h at stack s.world) end of stack s.work
      (bind (read_local x s) (λ before s2. bind (value_of h.set.classes k operand s2) (λ u s3. bind (convert of common before s3) (λ v s4. bind (operate common operator v u s4) (λ y s5. bind (convert common of y s5) (λ c s6. bind (write_local x c s6) (λ stored. gives stored)))))))
  update_new at end of common operator x operand stack s ih is pro cmp right has size fine =
      let num = known.numbers x.0 of is in
      let lw = load_is parameters x.0 in
      let sw = store_is parameters x.0 in
      let k1 = at + width (load parameters x.0) in
      let ch = changed of operator common New (type_of operand) (term_code tokens parameters operand) in
      let k5 = k1 + (conversion_size of common + (term_size operand + count_size operator (type_of operand) + operator_size operator) + conversion_size common of) in
      let cb = changed_is of operator common New (type_of operand) (term_code tokens parameters operand) in
      let ts = term_is tokens parameters operand in
      let st = has_back h k1 (k5 + 1) ch (store parameters x.0 ∷ []) (omega (arith, cb, ts)) has.1 in
      binds h.set.x h.set.classes h.set.frames 1 10 (load_stands h tokens parameters k known at k1 (ch ++ store parameters x.0 ∷ []) x of stack s is has refl fine)
      (λ before s1 g1. update_middle k1 k5 (the.Duplicate ∷ []) of common operator operand before stack s1 (λ c s6. bind (write_local x c s6) (λ stored. gives stored)) ih num pro cmp right g1.0
      (has_front h k1 ch (store parameters x.0 ∷ []) has.1) refl g1.1
      (λ hd c s3 g3. did h.set.x h.set.classes h.set.frames (state_at h k5 (c ∷ stack) s3.world) (record { at = k5; operation = does.Duplicate; next = k5 + 1 }) hd.0
      (binds h.set.x h.set.classes h.set.frames 1 0 (store_stands h tokens parameters k known (k5 + 1) end [] x of c (λ (r : Value). r ∷ stack) s3 is g3.0 st (omega (arith, lw, sw, size)) g3.1)
      (λ stored s4 g4. stays h.set.x h.set.classes h.set.frames stored s4 g4 refl))))

  update_old : (at end : ℕ) (of common : BareType) (operator : Operator) (x : LocalId) (operand : Term) (stack : List Value) (s : State) → NumberStands operand → slice_get h.locals x.0 ≡ Some of → is_promoted common ≡ true → compares operator ≡ false → FitsRight operator common (type_of operand)
      → HasAt h at (load parameters x.0 ∷ (changed of operator common Old (type_of operand) (term_code tokens parameters operand) ++ store parameters x.0 ∷ []))
      → at + (term_size operand + conversion_size of common + count_size operator (type_of operand) + operator_size operator + conversion_size common of + 9) ≡ end → Fine h s.world
      → NumberAt h 12 (go h at stack s.world) end of stack s.work
      (bind (read_local x s) (λ before s2. bind (value_of h.set.classes k operand s2) (λ u s3. bind (convert of common before s3) (λ v s4. bind (operate common operator v u s4) (λ y s5. bind (convert common of y s5) (λ c s6. bind (write_local x c s6) (λ stored. gives before)))))))
  update_old at end of common operator x operand stack s ih is pro cmp right has size fine =
      let num = known.numbers x.0 of is in
      let lw = load_is parameters x.0 in
      let sw = store_is parameters x.0 in
      let k0 = at + width (load parameters x.0) in
      let k1 = k0 + 1 in
      let mid = conversion of common ++ (operated operator common (type_of operand) (term_code tokens parameters operand) ++ (conversion common of ++ [])) in
      let ch = changed of operator common Old (type_of operand) (term_code tokens parameters operand) in
      let k5 = k1 + (conversion_size of common + (term_size operand + count_size operator (type_of operand) + operator_size operator) + conversion_size common of) in
      let cb = changed_is of operator common Old (type_of operand) (term_code tokens parameters operand) in
      let ts = term_is tokens parameters operand in
      let st = has_back h k0 k5 ch (store parameters x.0 ∷ []) (omega (arith, cb, ts)) has.1 in
      let hc = has_front h k0 ch (store parameters x.0 ∷ []) has.1 in
      binds h.set.x h.set.classes h.set.frames 1 11 (load_stands h tokens parameters k known at k0 (ch ++ store parameters x.0 ∷ []) x of stack s is has refl fine)
      (λ before s1 g1. did h.set.x h.set.classes h.set.frames (state_at h k0 (before ∷ stack) s1.world) (record { at = k0; operation = does.Duplicate; next = k1 }) hc.0
      (update_middle k1 k5 [] of common operator operand before (before ∷ stack) s1 (λ c s6. bind (write_local x c s6) (λ stored. gives before)) ih num pro cmp right g1.0 hc.1 refl g1.1
      (λ hd c s3 g3. binds h.set.x h.set.classes h.set.frames 1 1 (store_stands h tokens parameters k known k5 end [] x of c (λ (r : Value). before ∷ stack) s3 is g3.0 st (omega (arith, lw, sw, size)) g3.1)
      (λ stored s4 g4. stays h.set.x h.set.classes h.set.frames before s4 (g1.0, g4.1) refl))))

  -- ---- choices

  truth_size_is : (e : Term) → bytes (term_code tokens parameters e ++ conversion (type_of e) type.Bool) ≡ term_size e + truth_size (type_of e)
  truth_size_is e =
      let a = bytes-append (term_code tokens parameters e) (conversion (type_of e) type.Bool) in
      let b = term_is tokens parameters e in
      let c = conversion_is (type_of e) type.Bool in
      omega (arith, a, b, c)

  -- the truth of an expression
  truth_runs : (e : Term) (at end : ℕ) (stack : List Value) (s : State) → NumberStands e → is_number (type_of e) ≡ true → HasAt h at (term_code tokens parameters e ++ conversion (type_of e) type.Bool) → at + (term_size e + truth_size (type_of e)) ≡ end → Fine h s.world
      → NumberAt h 2 (go h at stack s.world) end type.Bool stack s.work (bind (value_of h.set.classes k e s) (λ u. gives (truth_value (is_true u))))
  truth_runs e at end stack s ih num has size fine =
      let a = term_is tokens parameters e in
      binds h.set.x h.set.classes h.set.frames 0 2 (ih at (at + term_size e) stack s (has_front h at (term_code tokens parameters e) (conversion (type_of e) type.Bool) has) refl fine)
      (λ u s2 g. truth_stands h known.quiet (type_of e) (at + term_size e) end u stack s2 num g.0
      (has_back h at (at + term_size e) (term_code tokens parameters e) (conversion (type_of e) type.Bool) (ap (λ (n : ℕ). at + n) a) has) (omega (arith, size)) g.1)

  mutual
    pub term_stands : (e : Term) → IsTyped h.set.classes h.locals e → IsSmall e → TermStands e
    term_stands (term.Number of n) t small at end stack s has size fine =
        ticks h.set.x h.set.classes h.set.frames 0 (of_number h 64 (go h at stack s.world) end of stack (s.work + 1) _ t.0
        (more h.set.x h.set.classes h.set.frames h.set.turns 64 (constant_stands h at end n of stack (tick s) t.0 t.1 small has size fine) (omega arith) (omega arith)))
    term_stands (term.Local of x) t small at end stack s has size fine =
        let lw = load_is parameters x.0 in
        let num = known.numbers x.0 of t in
        ticks h.set.x h.set.classes h.set.frames 0 (of_number h 64 (go h at stack s.world) end of stack (s.work + 1) _ num
        (more h.set.x h.set.classes h.set.frames h.set.turns 64 (load_stands h tokens parameters k known at end [] x of stack (tick s) t has (omega (arith, lw, size)) fine) (omega arith) (omega arith)))
    term_stands (term.Convert of a) t small at end stack s has size fine =
        let mid = at + term_size a in
        let ia = numbered a t.1 (term_stands a t.0 small) in
        let ta = term_is tokens parameters a in
        ticks h.set.x h.set.classes h.set.frames 0 (of_number h 64 (go h at stack s.world) end of stack (s.work + 1) _ t.2
        (binds h.set.x h.set.classes h.set.frames 0 64 (ia at mid stack (tick s) (has_front h at (term_code tokens parameters a) (conversion (type_of a) of) has) refl fine)
        (λ v s1 g. more h.set.x h.set.classes h.set.frames h.set.turns 64
        (conversion_stands h known.quiet (type_of a) of mid end v stack s1 t.1 t.2 g.0 (has_back h at mid (term_code tokens parameters a) (conversion (type_of a) of) (ap (λ (n : ℕ). at + n) ta) has) (omega (arith, size)) g.1)
        (omega arith) (omega arith))))
    term_stands (term.Unary of operator a) t small at end stack s has size fine =
        let mid = at + term_size a in
        let na = alone_operand operator (type_of a) of t.1 in
        let nr = alone_result operator (type_of a) of t.1 in
        let ia = numbered a na (term_stands a t.0 small) in
        let ta = term_is tokens parameters a in
        ticks h.set.x h.set.classes h.set.frames 0 (of_number h 64 (go h at stack s.world) end of stack (s.work + 1) _ nr
        (binds h.set.x h.set.classes h.set.frames 0 64 (ia at mid stack (tick s) (has_front h at (term_code tokens parameters a) (unary_code operator (type_of a)) has) refl fine)
        (λ v s1 g. more h.set.x h.set.classes h.set.frames h.set.turns 64
        (alone_stands h known.quiet mid end (type_of a) of operator v stack s1 na t.1 g.0 (has_back h at mid (term_code tokens parameters a) (unary_code operator (type_of a)) (ap (λ (n : ℕ). at + n) ta) has) (omega (arith, size)) g.1)
        (omega arith) (omega arith))))
    term_stands (term.Binary of operator a b) t small at end stack s has size fine =
        let m1 = at + term_size a in
        let m2 = m1 + term_size b in
        let nb = right_number operator (type_of a) (type_of b) t.2 t.3 in
        let ia = numbered a (promoted_number (type_of a) t.2) (term_stands a t.0 small.0) in
        let ib = numbered b nb (term_stands b t.1 small.1) in
        let ta = term_is tokens parameters a in
        let tb = term_is tokens parameters b in
        let cb = term_code tokens parameters b in
        let oc = count_code operator (type_of b) ++ operator_code (type_of a) operator in
        let r1 = has_back h at m1 (term_code tokens parameters a) (cb ++ oc) (ap (λ (n : ℕ). at + n) ta) has in
        subst (λ (of : BareType). EndsAt h 0 (go h at stack s.world) end of stack s.work (value_of h.set.classes k (term.Binary of operator a b) s)) (sym t.4)
        (ticks h.set.x h.set.classes h.set.frames 0 (of_number h 64 (go h at stack s.world) end (result_of operator (type_of a)) stack (s.work + 1) _ (result_number operator (type_of a) t.2)
        (binds h.set.x h.set.classes h.set.frames 0 64 (ia at m1 stack (tick s) (has_front h at (term_code tokens parameters a) (cb ++ oc) has) refl fine)
        (λ v s1 g1. binds h.set.x h.set.classes h.set.frames 0 64 (ib m1 m2 (v ∷ stack) s1 (has_front h m1 cb oc r1) refl g1.1)
        (λ u s2 g2. more h.set.x h.set.classes h.set.frames h.set.turns 64
        (binary_stands h known.quiet m2 end (type_of a) (type_of b) operator v u stack s2 t.2 t.3 g1.0 g2.0 (has_back h m1 m2 cb oc (ap (λ (n : ℕ). m1 + n) tb) r1) (omega (arith, size)) g2.1)
        (omega arith) (omega arith))))))
    term_stands (term.And of a b) t small at end stack s has size fine =
        let mid = at + term_size a in
        let n = term_size b + truth_size (type_of b) in
        let ia = numbered a t.2 (term_stands a t.0 small.0) in
        let ib = numbered b t.3 (term_stands b t.1 small.1) in
        let ta = term_is tokens parameters a in
        let truth_code = term_code tokens parameters b ++ conversion (type_of b) type.Bool in
        subst (λ (of : BareType). EndsAt h 0 (go h at stack s.world) end of stack s.work (value_of h.set.classes k (term.And of a b) s)) (sym t.4)
        (ticks h.set.x h.set.classes h.set.frames 0 (of_number h 64 (go h at stack s.world) end type.Bool stack (s.work + 1) _ refl
        (binds h.set.x h.set.classes h.set.frames 0 64 (ia at mid stack (tick s) (has_front h at (term_code tokens parameters a) (branches n truth_code 1 (the.LoadInt0 ∷ [])) has) refl fine)
        (λ v s1 g. more h.set.x h.set.classes h.set.frames h.set.turns 64
        (branches_stand h {ends = λ (v : Value) (w : World). go h end (v ∷ stack) w} {good = Good h type.Bool} 3 mid n 1 end truth_code (the.LoadInt0 ∷ []) v stack s1 (λ s2. bind (value_of h.set.classes k b s2) (λ u. gives (truth_value (is_true u)))) (gives (truth_value false)) refl (omega (arith, size))
        (has_back h at mid (term_code tokens parameters a) (branches n truth_code 1 (the.LoadInt0 ∷ [])) (ap (λ (n : ℕ). at + n) ta) has)
        (λ hf. more h.set.x h.set.classes h.set.frames h.set.turns 3 (truth_runs b (mid + 1 + 10) end stack s1 ib t.3 hf (omega (arith, size)) g.1) (omega arith) (omega arith))
        (λ hs jump. more h.set.x h.set.classes h.set.frames h.set.turns 3
        (then_branch h 1 (mid + 5 + 1) end (λ (r : Value). r ∷ stack)
        (did h.set.x h.set.classes h.set.frames (state_at h (mid + 5) stack s1.world) (record { at = mid + 5; operation = does.PushInt32 0; next = mid + 5 + 1 }) hs.0 (stays h.set.x h.set.classes h.set.frames {b = 0} (truth_value false) s1 ((false, refl), g.1) refl)) jump)
        (omega arith) (omega arith)))
        (omega arith) (omega arith)))))
    term_stands (term.Or of a b) t small at end stack s has size fine =
        let mid = at + term_size a in
        let n = term_size b + truth_size (type_of b) in
        let ia = numbered a t.2 (term_stands a t.0 small.0) in
        let ib = numbered b t.3 (term_stands b t.1 small.1) in
        let ta = term_is tokens parameters a in
        let truth_code = term_code tokens parameters b ++ conversion (type_of b) type.Bool in
        let after : mid + n + 10 + 1 ≡ end = omega (arith, size) in
        subst (λ (of : BareType). EndsAt h 0 (go h at stack s.world) end of stack s.work (value_of h.set.classes k (term.Or of a b) s)) (sym t.4)
        (ticks h.set.x h.set.classes h.set.frames 0 (of_number h 64 (go h at stack s.world) end type.Bool stack (s.work + 1) _ refl
        (binds h.set.x h.set.classes h.set.frames 0 64 (ia at mid stack (tick s) (has_front h at (term_code tokens parameters a) (branches 1 (the.LoadInt1 ∷ []) n truth_code) has) refl fine)
        (λ v s1 g. more h.set.x h.set.classes h.set.frames h.set.turns 64
        (branches_stand h {ends = λ (v : Value) (w : World). go h end (v ∷ stack) w} {good = Good h type.Bool} 3 mid 1 n end (the.LoadInt1 ∷ []) truth_code v stack s1 (gives (truth_value true)) (λ s2. bind (value_of h.set.classes k b s2) (λ u. gives (truth_value (is_true u)))) (truth_size_is b) (omega (arith, size))
        (has_back h at mid (term_code tokens parameters a) (branches 1 (the.LoadInt1 ∷ []) n truth_code) (ap (λ (n : ℕ). at + n) ta) has)
        (λ hf. did h.set.x h.set.classes h.set.frames (state_at h (mid + n + 10) stack s1.world) (record { at = mid + n + 10; operation = does.PushInt32 1; next = mid + n + 10 + 1 }) hf.0
        (stays h.set.x h.set.classes h.set.frames {b = 2} (truth_value true) s1 ((true, refl), g.1) (ap (λ (n : ℕ). go h n (truth_value true ∷ stack) s1.world) after)))
        (λ hs jump. then_branch h 2 (mid + 5 + n) end (λ (r : Value). r ∷ stack) (truth_runs b (mid + 5) (mid + 5 + n) stack s1 ib t.3 hs refl g.1) jump))
        (omega arith) (omega arith)))))
    term_stands (term.Choose of c a b) t small at end stack s has size fine =
        let mid = at + term_size c in
        let ic = numbered c t.3 (term_stands c t.0 small.0) in
        let tc = term_is tokens parameters c in
        let n = term_size a in
        let m = term_size b in
        let ca = term_code tokens parameters a in
        let cb = term_code tokens parameters b in
        ticks h.set.x h.set.classes h.set.frames 0 (binds h.set.x h.set.classes h.set.frames 0 64 (ic at mid stack (tick s) (has_front h at (term_code tokens parameters c) (branches n ca m cb) has) refl fine)
        (λ v s1 g. more h.set.x h.set.classes h.set.frames h.set.turns 64
        (branches_stand h {ends = λ (v : Value) (w : World). go h end (pushed of v stack) w} {good = Good h of} 1 mid n m end ca cb v stack s1 (value_of h.set.classes k a) (value_of h.set.classes k b) (term_is tokens parameters b) (omega (arith, size))
        (has_back h at mid (term_code tokens parameters c) (branches n ca m cb) (ap (λ (n : ℕ). at + n) tc) has)
        (λ hf. subst (λ (of : BareType). EndsAt h 1 (go h (mid + m + 10) stack s1.world) end of stack s1.work (value_of h.set.classes k a s1)) t.4
        (more h.set.x h.set.classes h.set.frames h.set.turns 1 (term_stands a t.1 small.1 (mid + m + 10) end stack s1 hf (omega (arith, size)) g.1) (omega arith) (omega arith)))
        (λ hs jump. then_branch h 0 (mid + 5 + m) end (λ (v : Value). pushed of v stack)
        (subst (λ (of : BareType). EndsAt h 0 (go h (mid + 5) stack s1.world) (mid + 5 + m) of stack s1.work (value_of h.set.classes k b s1)) t.5
        (term_stands b t.2 small.2 (mid + 5) (mid + 5 + m) stack s1 hs refl g.1)) jump))
        (omega arith) (omega arith)))
    term_stands (term.Assign of (term.Local of' x) a) t small at end stack s has size fine =
        let is : slice_get h.locals x.0 ≡ Some of = t.1 ∙ ap Some t.3 in
        let num = known.numbers x.0 of is in
        let mid = at + term_size a in
        let ia = numbered a (subst (λ (o : BareType). is_number o ≡ true) (sym t.4) num) (term_stands a t.2 small) in
        let ta = term_is tokens parameters a in
        let sw = store_is parameters x.0 in
        let r = has_back h at mid (term_code tokens parameters a) (the.Duplicate ∷ store parameters x.0 ∷ []) (ap (λ (n : ℕ). at + n) ta) has in
        ticks h.set.x h.set.classes h.set.frames 0 (ticks h.set.x h.set.classes h.set.frames 64 (of_number h 128 (go h at stack s.world) end of stack (s.work + 1 + 1) _ num
        (binds h.set.x h.set.classes h.set.frames 0 128 (ia at mid stack (tick (tick s)) (has_front h at (term_code tokens parameters a) (the.Duplicate ∷ store parameters x.0 ∷ []) has) refl fine)
        (λ v s1 g. more h.set.x h.set.classes h.set.frames h.set.turns 128
        (did h.set.x h.set.classes h.set.frames (state_at h mid (v ∷ stack) s1.world) (record { at = mid; operation = does.Duplicate; next = mid + 1 }) r.0
        (store_stands h tokens parameters k known (mid + 1) end [] x of v (λ (r : Value). r ∷ stack) s1 is (subst (λ (o : BareType). IsOf o v) t.4 g.0) r.1 (omega (arith, sw, size)) g.1))
        (omega arith) (omega arith)))))
    term_stands (term.Assign of _ a) t small at end stack s has size fine = absurd t.0
    term_stands (term.Update of operator common New (term.Local of' x) a) t small at end stack s has size fine =
        let is : slice_get h.locals x.0 ≡ Some of = t.1 ∙ ap Some t.3 in
        let ia = numbered a (right_number operator common (type_of a) t.5 t.7) (term_stands a t.2 small) in
        ticks h.set.x h.set.classes h.set.frames 0 (ticks h.set.x h.set.classes h.set.frames 64 (of_number h 128 (go h at stack s.world) end of stack (s.work + 1 + 1) _ t.4
        (more h.set.x h.set.classes h.set.frames h.set.turns 128 (update_new at end of common operator x a stack (tick (tick s)) ia is t.5 t.6 t.7 has (omega (arith, size)) fine) (omega arith) (omega arith))))
    term_stands (term.Update of operator common Old (term.Local of' x) a) t small at end stack s has size fine =
        let is : slice_get h.locals x.0 ≡ Some of = t.1 ∙ ap Some t.3 in
        let ia = numbered a (right_number operator common (type_of a) t.5 t.7) (term_stands a t.2 small) in
        ticks h.set.x h.set.classes h.set.frames 0 (ticks h.set.x h.set.classes h.set.frames 64 (of_number h 128 (go h at stack s.world) end of stack (s.work + 1 + 1) _ t.4
        (more h.set.x h.set.classes h.set.frames h.set.turns 128 (update_old at end of common operator x a stack (tick (tick s)) ia is t.5 t.6 t.7 has (omega (arith, size)) fine) (omega arith) (omega arith))))
    term_stands (term.Update of operator common result _ a) t small at end stack s has size fine = absurd t.0
    term_stands (term.Call of method Direct arguments) t small at end stack s has size fine =
        let mid = at + terms_size arguments in
        let ta = terms_are tokens parameters arguments in
        let code = call tokens Direct method.0 ∷ [] in
        let e : mid + 5 ≡ end = omega (arith, size) in
        ticks h.set.x h.set.classes h.set.frames 0 (binds h.set.x h.set.classes h.set.frames 0 64
        (terms_stand arguments t.1 (known.arguments method (types_of arguments) of t.2) small at mid stack (tick s) [] [] (types_of arguments) tt refl (has_front h at (terms_code tokens parameters arguments) code has) refl fine)
        (λ vs s1 g. subst (λ (n : ℕ). EndsAt h 64 (go h mid (pushed_each vs stack) s1.world) n of stack s1.work (k method vs s1)) e
        (known.calls method (types_of arguments) of t.2 mid vs stack s1 (has_back h at mid (terms_code tokens parameters arguments) code (ap (λ (n : ℕ). at + n) ta) has) g.0 g.1)))
    term_stands (term.Call of method Virtual arguments) t small at end stack s has size fine = no_virtual t.0
    term_stands (term.Library of member arguments) t small at end stack s has size fine =
        let mid = at + terms_size arguments in
        let ta = terms_are tokens parameters arguments in
        let code = the.Call (library_token tokens member) ∷ [] in
        subst (λ (of : BareType). EndsAt h 0 (go h at stack s.world) end of stack s.work (value_of h.set.classes k (term.Library of member arguments) s)) (sym t.2)
        (ticks h.set.x h.set.classes h.set.frames 0 (binds h.set.x h.set.classes h.set.frames 0 64
        (terms_stand arguments t.0 (subst (λ (types : List BareType). AreNumbers types) (sym t.1) (taken_numbers member)) small at mid stack (tick s) [] [] (types_of arguments) tt refl (has_front h at (terms_code tokens parameters arguments) code has) refl fine)
        (λ vs s1 g. more h.set.x h.set.classes h.set.frames h.set.turns 64
        (library_stands mid end member vs stack s1 (subst (λ (types : List BareType). AreOf types vs) t.1 g.0) (has_back h at mid (terms_code tokens parameters arguments) code (ap (λ (n : ℕ). at + n) ta) has) (omega (arith, size)) g.1)
        (omega arith) (omega arith))))
    term_stands (term.Let of x a b) t small at end stack s has size fine =
        let num = known.numbers x.0 (type_of a) t.2 in
        let m1 = at + term_size a in
        let m2 = m1 + width (store parameters x.0) in
        let sw = store_is parameters x.0 in
        let ta = term_is tokens parameters a in
        let ia = numbered a num (term_stands a t.0 small.0) in
        let cb = term_code tokens parameters b in
        let r = has_back h at m1 (term_code tokens parameters a) (store parameters x.0 ∷ cb) (ap (λ (n : ℕ). at + n) ta) has in
        subst (λ (of : BareType). EndsAt h 0 (go h at stack s.world) end of stack s.work (value_of h.set.classes k (term.Let of x a b) s)) (sym t.3)
        (ticks h.set.x h.set.classes h.set.frames 0 (binds h.set.x h.set.classes h.set.frames 0 64 (ia at m1 stack (tick s) (has_front h at (term_code tokens parameters a) (store parameters x.0 ∷ cb) has) refl fine)
        (λ v s1 g. binds h.set.x h.set.classes h.set.frames 1 63 (store_stands h tokens parameters k known m1 m2 cb x (type_of a) v (λ (r : Value). stack) s1 t.2 g.0 r refl g.1)
        (λ done s2 g2. more h.set.x h.set.classes h.set.frames h.set.turns 63 (term_stands b t.1 small.1 m2 end stack s2 r.1 (omega (arith, sw, size)) g2.1) (omega arith) (omega arith)))))
    term_stands (term.Then of a b) t small at end stack s has size fine =
        let m1 = at + term_size a in
        let m2 = m1 + drop_size (type_of a) in
        let ta = term_is tokens parameters a in
        let td = drop_is (type_of a) in
        let cb = term_code tokens parameters b in
        let r = has_back h at m1 (term_code tokens parameters a) (drop_value (type_of a) ++ cb) (ap (λ (n : ℕ). at + n) ta) has in
        subst (λ (of : BareType). EndsAt h 0 (go h at stack s.world) end of stack s.work (value_of h.set.classes k (term.Then of a b) s)) (sym t.2)
        (ticks h.set.x h.set.classes h.set.frames 0 (binds h.set.x h.set.classes h.set.frames 0 64 (term_stands a t.0 small.0 at m1 stack (tick s) (has_front h at (term_code tokens parameters a) (drop_value (type_of a) ++ cb) has) refl fine)
        (λ v s1 g. drops h 63 m1 m2 (type_of a) v stack s1.world (has_front h m1 (drop_value (type_of a)) cb r) refl
        (more h.set.x h.set.classes h.set.frames h.set.turns 63 (term_stands b t.1 small.1 m2 end stack s1 (has_back h m1 m2 (drop_value (type_of a)) cb (ap (λ (n : ℕ). m1 + n) td) r) (omega (arith, size)) g.1) (omega arith) (omega arith)))))
    term_stands _ t small at end stack s has size fine = absurd t

    pub terms_stand : (arguments : Terms) → AreTyped h.set.classes h.locals arguments → AreNumbers (types_of arguments) → AreSmall arguments → (at end : ℕ) (stack : List Value) (s : State) (done : List Value) (types all : List BareType) → AreOf types done → types ++ types_of arguments ≡ all
        → HasAt h at (terms_code tokens parameters arguments) → at + terms_size arguments ≡ end → Fine h s.world
        → StandsAt h.set 0 (go h at (pushed_each done stack) s.world) (λ (vs : List Value) (w : World). go h end (pushed_each vs stack) w) (λ (vs : List Value) (w : World). AreOf all vs × Fine h w) s.work (values_of h.set.classes k arguments done s)
    terms_stand term.no_terms t num small at end stack s done types all p e has size fine =
        let f : at ≡ end = omega (arith, size) in
        stays h.set.x h.set.classes h.set.frames done s (subst (λ (types : List BareType). AreOf types done) (sym (append-nil types) ∙ e) p, fine) (ap (λ (n : ℕ). go h n (pushed_each done stack) s.world) f)
    terms_stand (term.next_term a rest) t num small at end stack s done types all p e has size fine =
        let mid = at + term_size a in
        let ia = numbered a num.0 (term_stands a t.0 small.0) in
        let ta = term_is tokens parameters a in
        binds h.set.x h.set.classes h.set.frames 0 0 (ia at mid (pushed_each done stack) s (has_front h at (term_code tokens parameters a) (terms_code tokens parameters rest) has) refl fine)
        (λ v s1 g. at_same h.set.x h.set.classes h.set.frames (ap (λ (st : List Value). go h mid st s1.world) (sym (pushed_last done stack v)))
        (terms_stand rest t.1 num.1 small.1 mid end stack s1 (done ++ v ∷ []) (types ++ type_of a ∷ []) all (are_append types done (type_of a) v p g.0) (append_assoc types (type_of a ∷ []) (types_of rest) ∙ e)
        (has_back h at mid (term_code tokens parameters a) (terms_code tokens parameters rest) (ap (λ (n : ℕ). at + n) ta) has) (omega (arith, size)) g.1))
