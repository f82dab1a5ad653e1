-- The code of a function keeps the rules.
use Rattle.std.proofs.Common.{◌≡◌, ℕ, zero, suc, ◌+◌, ◌-◌, ◌^◌, ◌<◌, ◌≤◌, inl, List, [], ◌∷◌, true, false, length, map, take, drop, Some, None, refl, sym, ap, ◌∙◌, subst, arith, slice_get, ltb-true, ltb-false}
use Rattle.std.specs.Prelude.{⊤}
use Rattle.std.proofs.lemmas.List.{length-map}
use Rattle.std.proofs.lemmas.Option.{same_Some}
use Rattle.cc_cil.specs.declared.instruction.Instruction.{Instruction}
use Rattle.cc_cil.specs.declared.instruction.Instruction.TheVariants as the
use Rattle.cc_core.specs.declared.types.ClassInfo.{ClassInfo}
use Rattle.cc_core.specs.Typed.{IsNumber, AreNumbers}
use Rattle.cc_core.specs.Types as type
use Rattle.cc_core.specs.Types.{BareType, bare}
use Rattle.cc_region.specs.declared.tree.RegionFunction.{RegionFunction}
use Rattle.cc_region.specs.Bare.{region_of}
use Rattle.cc_region.specs.Typed.{a_loop}
use Rattle.cc_code.specs.declared.tokens.Tokens.{Tokens}
use Rattle.cc_code.specs.Functions.{end_code, function_instructions}
use Rattle.cc_code.specs.Heights.{values_of}
use Rattle.cc_code.specs.Instructions.{width, bytes}
use Rattle.cc_code.specs.Operators as operators
use Rattle.cc_code.specs.Operators.{index}
use Rattle.cc_code.specs.Regions.{region_code}
use Rattle.cc_code.specs.Sizes.{region_size}
use Rattle.cc_code.proofs.RegionSums.{region_is}
use Rattle.cc_code.proofs.RegionLanding.{Aimed}
use Rattle.cc_verify.specs.declared.environment.Environment.{Environment}
use Rattle.cc_verify.specs.declared.environment.Frame.{Frame}
use Rattle.cc_verify.specs.declared.places.Place.{Place}
use Rattle.cc_verify.specs.Rules.{CodeVerdict}
use Rattle.cc_verified_code.specs.Kinds.{kind, parameter_kind, result_kind, IsResult, HasMethods, HasVariables}
use Rattle.cc_verified_code.specs.Rows.{Row, instruction_of, Expects, fetch, places}
use Rattle.cc_verified_code.specs.Flows.{Ends}
use Rattle.cc_verified_code.specs.Laws.{code_places, IsFrameOf, KeepsTheRules, FunctionsKeepTheRules}
use Rattle.cc_verified_code.proofs.Passing.{has_rows, whole}
use Rattle.cc_verified_code.proofs.Pieces.{return_ends, then_ends}
use Rattle.cc_verified_code.proofs.Operators.{zero_flows}
use Rattle.cc_verified_code.proofs.Regions.{Targets, nothing_returned, value_returned, region_flows}

-- ---- variables

taken_at : (types : List BareType) (n x : ℕ) (of : BareType) → slice_get types x ≡ Some of → x < n → slice_get (map parameter_kind (take n types)) x ≡ Some (Some (kind of))
taken_at [] n zero of h low = let bad : None ≡ Some of = h in cc
taken_at [] n (suc x) of h low = let bad : None ≡ Some of = h in cc
taken_at (t ∷ types) zero x of h low = absurd (omega (arith, low))
taken_at (t ∷ types) (suc n) zero of h low = ap (λ o. Some (Some (kind o))) (same_Some t of h)
taken_at (t ∷ types) (suc n) (suc x) of h low = taken_at types n x of h (omega (arith, low))

kind_at : (types : List BareType) (x : ℕ) (of : BareType) → slice_get types x ≡ Some of → slice_get (map kind types) x ≡ Some (kind of)
kind_at [] zero of h = let bad : None ≡ Some of = h in cc
kind_at [] (suc x) of h = let bad : None ≡ Some of = h in cc
kind_at (t ∷ types) zero of h = ap (λ o. Some (kind o)) (same_Some t of h)
kind_at (t ∷ types) (suc x) of h = kind_at types x of h

left_at : (types : List BareType) (n x y : ℕ) (of : BareType) → slice_get types x ≡ Some of → n + y ≡ x → slice_get (map kind (drop n types)) y ≡ Some (kind of)
left_at types zero x y of h e = let same : x ≡ y = omega arith in kind_at types y of (ap (slice_get types) (sym same) ∙ h)
left_at [] (suc n) zero y of h e = let bad : None ≡ Some of = h in cc
left_at [] (suc n) (suc x) y of h e = let bad : None ≡ Some of = h in cc
left_at (t ∷ types) (suc n) zero y of h e = absurd (omega (arith, e))
left_at (t ∷ types) (suc n) (suc x) y of h e = left_at types n x y of h (omega (arith, e))

below_length : (types : List BareType) (x : ℕ) (of : BareType) → slice_get types x ≡ Some of → x < length types
below_length [] zero of h = let bad : None ≡ Some of = h in cc
below_length [] (suc x) of h = let bad : None ≡ Some of = h in cc
below_length (t ∷ types) zero of h = omega arith
below_length (t ∷ types) (suc x) of h = let a = below_length types x of h in omega (arith, a)

number_at : (types : List BareType) (x : ℕ) (of : BareType) → AreNumbers types → slice_get types x ≡ Some of → IsNumber of
number_at [] zero of n h = let bad : None ≡ Some of = h in cc
number_at [] (suc x) of n h = let bad : None ≡ Some of = h in cc
number_at (t ∷ types) zero of n h = subst IsNumber (same_Some t of h) n.0
number_at (t ∷ types) (suc x) of n h = number_at types x of n.1 h

has_variables : (f : Frame) (function : RegionFunction) (parameters : ℕ) → IsFrameOf f function parameters → AreNumbers (map bare function.locals) → length function.locals < 2 ^ 16 → HasVariables f (map bare function.locals) parameters
has_variables f function parameters is numbers few =
    let types = map bare function.locals in
    let long : length types ≡ length function.locals = length-map function.locals bare in
    record {
      numbers = λ x of h. number_at types x of numbers h;
      arguments = λ x of h low.
          let a = below_length types x of h in
          let b = ltb-true x parameters low in
          let same : x ≡ index x = omega (arith, a, long, few) in
          ap (λ arguments. slice_get arguments (index x)) is.arguments ∙ (ap (slice_get (map parameter_kind (take parameters types))) (sym same) ∙ taken_at types parameters x of h b);
      own = λ x of h high.
          let a = below_length types x of h in
          let b = ltb-false x parameters high in
          let same : x - parameters ≡ index (x - parameters) = omega (arith, a, long, few) in
          ap (λ locals. slice_get locals (index (x - parameters))) is.locals ∙ (ap (slice_get (map kind (drop parameters types))) (sym same) ∙ left_at types parameters x (x - parameters) of h (omega (arith, b)));
    }

-- ---- whole functions

no_targets : (P : ℕ → Type 0) → Aimed P [] []
no_targets P = record {
  breaks = λ n h. let none : n < 0 = h in absurd (omega arith);
  continues = λ n h. absurd (none_at n h);
}
  where
    none_at : (n : ℕ) → slice_get [] n ≡ Some a_loop → ⊥
    none_at zero h = let bad : None ≡ Some a_loop = h in cc
    none_at (suc n) h = let bad : None ≡ Some a_loop = h in cc

places_are : (rows : List Row) (lo : ℕ) → places lo rows ≡ code_places lo (map instruction_of rows)
places_are [] lo = refl
places_are (r ∷ rows) lo = ap (λ rest. record { at = lo; instruction = r.instruction; next = lo + width r.instruction } ∷ rest) (places_are rows (lo + width r.instruction))

-- code that ends a method keeps the rules where each of its instructions does
kept : (e : Environment) (f : Frame) (most : ℕ) (code : List Instruction) → Ends e f most code 0 [] → KeepsTheRules e f most code
kept e f most code x =
    let verdict = whole e f most x.rows (x.good (fetch x.rows 0) (has_rows (fetch x.rows 0) x.rows 0 (λ pc low. refl)) (inl refl)) in
    let size = bytes (map instruction_of x.rows) in
    let placed = subst (λ (here : List Place). CodeVerdict (record { environment = e; frame = f; clauses = []; places = here; most = most; size = size }) size [] None here None) (places_are x.rows 0) verdict in
    subst (λ (code : List Instruction). KeepsTheRules e f most code) x.is placed

module _ (e : Environment) (f : Frame) (most : ℕ) (classes : List ClassInfo) (tokens : Tokens) (locals : List BareType) (parameters : ℕ) (variables : HasVariables f locals parameters) (methods : HasMethods e classes tokens) where
  end_ends : (result : BareType) (lo : ℕ) → f.result ≡ result_kind result → IsResult result → values_of result ≤ most → Ends e f most (end_code result) lo []
  end_ends type.Void lo is n h = return_ends e f most the.Return lo [] [] refl refl (nothing_returned e f most classes tokens locals parameters type.Void variables methods is (λ at. ⊤) refl)
  end_ends type.Bool lo is n h =
      then_ends e f most (λ at. ⊤) (operators.zero type.Bool ∷ []) (the.Return ∷ []) lo (lo + bytes (operators.zero type.Bool ∷ [])) [] (kind type.Bool ∷ []) (λ at. tt) refl (zero_flows e f most (λ at. ⊤) type.Bool lo [] h)
      (return_ends e f most the.Return (lo + bytes (operators.zero type.Bool ∷ [])) (kind type.Bool ∷ []) [] refl refl (value_returned e f most classes tokens locals parameters type.Bool variables methods is (λ at. ⊤) refl h))
  end_ends type.Char lo is n h =
      then_ends e f most (λ at. ⊤) (operators.zero type.Char ∷ []) (the.Return ∷ []) lo (lo + bytes (operators.zero type.Char ∷ [])) [] (kind type.Char ∷ []) (λ at. tt) refl (zero_flows e f most (λ at. ⊤) type.Char lo [] h)
      (return_ends e f most the.Return (lo + bytes (operators.zero type.Char ∷ [])) (kind type.Char ∷ []) [] refl refl (value_returned e f most classes tokens locals parameters type.Char variables methods is (λ at. ⊤) refl h))
  end_ends type.I8 lo is n h =
      then_ends e f most (λ at. ⊤) (operators.zero type.I8 ∷ []) (the.Return ∷ []) lo (lo + bytes (operators.zero type.I8 ∷ [])) [] (kind type.I8 ∷ []) (λ at. tt) refl (zero_flows e f most (λ at. ⊤) type.I8 lo [] h)
      (return_ends e f most the.Return (lo + bytes (operators.zero type.I8 ∷ [])) (kind type.I8 ∷ []) [] refl refl (value_returned e f most classes tokens locals parameters type.I8 variables methods is (λ at. ⊤) refl h))
  end_ends type.U8 lo is n h =
      then_ends e f most (λ at. ⊤) (operators.zero type.U8 ∷ []) (the.Return ∷ []) lo (lo + bytes (operators.zero type.U8 ∷ [])) [] (kind type.U8 ∷ []) (λ at. tt) refl (zero_flows e f most (λ at. ⊤) type.U8 lo [] h)
      (return_ends e f most the.Return (lo + bytes (operators.zero type.U8 ∷ [])) (kind type.U8 ∷ []) [] refl refl (value_returned e f most classes tokens locals parameters type.U8 variables methods is (λ at. ⊤) refl h))
  end_ends type.I16 lo is n h =
      then_ends e f most (λ at. ⊤) (operators.zero type.I16 ∷ []) (the.Return ∷ []) lo (lo + bytes (operators.zero type.I16 ∷ [])) [] (kind type.I16 ∷ []) (λ at. tt) refl (zero_flows e f most (λ at. ⊤) type.I16 lo [] h)
      (return_ends e f most the.Return (lo + bytes (operators.zero type.I16 ∷ [])) (kind type.I16 ∷ []) [] refl refl (value_returned e f most classes tokens locals parameters type.I16 variables methods is (λ at. ⊤) refl h))
  end_ends type.U16 lo is n h =
      then_ends e f most (λ at. ⊤) (operators.zero type.U16 ∷ []) (the.Return ∷ []) lo (lo + bytes (operators.zero type.U16 ∷ [])) [] (kind type.U16 ∷ []) (λ at. tt) refl (zero_flows e f most (λ at. ⊤) type.U16 lo [] h)
      (return_ends e f most the.Return (lo + bytes (operators.zero type.U16 ∷ [])) (kind type.U16 ∷ []) [] refl refl (value_returned e f most classes tokens locals parameters type.U16 variables methods is (λ at. ⊤) refl h))
  end_ends type.I32 lo is n h =
      then_ends e f most (λ at. ⊤) (operators.zero type.I32 ∷ []) (the.Return ∷ []) lo (lo + bytes (operators.zero type.I32 ∷ [])) [] (kind type.I32 ∷ []) (λ at. tt) refl (zero_flows e f most (λ at. ⊤) type.I32 lo [] h)
      (return_ends e f most the.Return (lo + bytes (operators.zero type.I32 ∷ [])) (kind type.I32 ∷ []) [] refl refl (value_returned e f most classes tokens locals parameters type.I32 variables methods is (λ at. ⊤) refl h))
  end_ends type.U32 lo is n h =
      then_ends e f most (λ at. ⊤) (operators.zero type.U32 ∷ []) (the.Return ∷ []) lo (lo + bytes (operators.zero type.U32 ∷ [])) [] (kind type.U32 ∷ []) (λ at. tt) refl (zero_flows e f most (λ at. ⊤) type.U32 lo [] h)
      (return_ends e f most the.Return (lo + bytes (operators.zero type.U32 ∷ [])) (kind type.U32 ∷ []) [] refl refl (value_returned e f most classes tokens locals parameters type.U32 variables methods is (λ at. ⊤) refl h))
  end_ends type.I64 lo is n h =
      then_ends e f most (λ at. ⊤) (operators.zero type.I64 ∷ []) (the.Return ∷ []) lo (lo + bytes (operators.zero type.I64 ∷ [])) [] (kind type.I64 ∷ []) (λ at. tt) refl (zero_flows e f most (λ at. ⊤) type.I64 lo [] h)
      (return_ends e f most the.Return (lo + bytes (operators.zero type.I64 ∷ [])) (kind type.I64 ∷ []) [] refl refl (value_returned e f most classes tokens locals parameters type.I64 variables methods is (λ at. ⊤) refl h))
  end_ends type.U64 lo is n h =
      then_ends e f most (λ at. ⊤) (operators.zero type.U64 ∷ []) (the.Return ∷ []) lo (lo + bytes (operators.zero type.U64 ∷ [])) [] (kind type.U64 ∷ []) (λ at. tt) refl (zero_flows e f most (λ at. ⊤) type.U64 lo [] h)
      (return_ends e f most the.Return (lo + bytes (operators.zero type.U64 ∷ [])) (kind type.U64 ∷ []) [] refl refl (value_returned e f most classes tokens locals parameters type.U64 variables methods is (λ at. ⊤) refl h))
  end_ends type.Null lo is n h = let bad : false ≡ true = n in cc
  end_ends (type.Enum of) lo is n h = let bad : false ≡ true = n in cc
  end_ends (type.Value of) lo is n h = let bad : false ≡ true = n in cc
  end_ends (type.Handle of) lo is n h = let bad : false ≡ true = n in cc
  end_ends (type.Array of) lo is n h = let bad : false ≡ true = n in cc
  end_ends (type.Track of) lo is n h = let bad : false ≡ true = n in cc

pub functions_keep : FunctionsKeepTheRules
functions_keep e classes tokens f parameters most function methods fit number is few small high =
    let locals = map bare function.locals in
    let result = bare function.result in
    let body = region_of function.body in
    let variables = has_variables f function parameters is fit.variables few in
    let w = region_is tokens parameters body 0 [] in
    kept e f most (function_instructions tokens parameters function)
    (then_ends e f most (Targets e f most classes tokens locals parameters result variables methods is.result [] []) (region_code tokens parameters body 0 []) (end_code result) 0 (region_size body) [] [] (λ at. no_targets (λ n. Expects at n [])) (omega (arith, w))
    (region_flows e f most classes tokens locals parameters result variables methods is.result body [] 0 [] fit.fit (no_targets (λ n. ⊤)) (omega (arith, high)) (omega (arith, small)))
    (end_ends e f most classes tokens locals parameters variables methods result (region_size body) is.result number (omega (arith, high))))
