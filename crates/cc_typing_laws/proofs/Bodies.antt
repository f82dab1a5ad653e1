-- The bodies of the functions of a source are sound.
use Rattle.std.proofs.Common.{◌≡◌, ℕ, suc, false, ◌&&◌, not, List, [], ◌∷◌, ◌++◌, map, length, take, Ok, slice_get, refl, sym, ap, ◌∙◌, subst, append_assoc, append-nil}
use Rattle.std.specs.Prelude.{⊤}
use Rattle.std.specs.List.{list_any}
use Rattle.cc_base.specs.declared.kind.Kind.TheVariants as kind
use Rattle.cc_core.specs.declared.types.ClassInfo.{ClassInfo}
use Rattle.cc_core.specs.Step.{Step}
use Rattle.cc_core.specs.Typed.{AreNumbers, IsSound, HasProperSwitches}
use Rattle.cc_names.specs.declared.scope.Item.{Item}
use Rattle.cc_operations.specs.declared.source.Source.{Source}
use Rattle.cc_operations.specs.declared.source.Frame.{Frame}
use Rattle.cc_operations.specs.Choosing.{Pick, Chooses, Types}
use Rattle.cc_operations.specs.Numbers.{core, is_void, written}
use Rattle.cc_operations.specs.Judgements.{next, refused}
use Rattle.cc_operations.specs.Operations.{no_conversion}
use Rattle.cc_statements.specs.Steps.{scope, block_part}
use Rattle.cc_terms.specs.Resolving.{Finds}
use Rattle.cc_terms.specs.Ends.{block_way}
use Rattle.cc_typing_laws.specs.Contents.{Placed}
use Rattle.cc_typing_laws.specs.Functions.{TypedBody, parameter_types, or_zero, scope_of, frame_of, outermost, must_end, method_id, body_of, ended, function_typed, bodies_from}
use Rattle.cc_typing_laws.proofs.TypeKinds.{number_core}
use Rattle.cc_typing_laws.proofs.Calls.{HaveValues, FitsSource}
use Rattle.cc_typing_laws.proofs.Frames.{Covers, covers_before, values_append}
use Rattle.cc_typing_laws.proofs.Made.{GoodStep, scope_good}
use Rattle.cc_typing_laws.proofs.Trees.{block_good}
use Rattle.cc_typing_laws.proofs.Functions.{HasParameters, have_values, frame_ready}
use Rattle.cc_typing_laws.proofs.Lists.{Each, get_map}
use Rattle.cc_typing_laws.proofs.Refusals.{Unless, next_unless, unless_cond, unless_all, unless_map}

-- ---- variables

numbers_of : (types : Types) → HaveValues types → AreNumbers (map core types)
numbers_of [] h = tt
numbers_of (of ∷ types) h = (number_core of h.0, numbers_of types h.1)

take_none : {X : Type 0} (xs : List X) → take 0 xs ≡ []
take_none [] = refl
take_none (x ∷ xs) = refl

take_front : (types more : Types) → take (length types) (map core (types ++ more)) ≡ map core types
take_front [] more = take_none (map core more)
take_front (of ∷ types) more = ap (λ rest. core of ∷ rest) (take_front types more)

covers_all : (frame : Frame) → Covers (map core frame.locals) frame
covers_all frame at of e = get_map core frame.locals at of e

-- ---- bodies

-- The typed body of a function: its variables have values, its parameters first, and its statements are sound.
pub record GoodBody (classes : List ClassInfo) (number : ℕ) (one : Placed) (typed : TypedBody) : Type 0 where
  pub method : typed.method ≡ method_id number
  pub result : typed.result ≡ core (written one.function.result)
  pub parameters : take (length (parameter_types one.function)) typed.locals ≡ map core (parameter_types one.function)
  pub variables : AreNumbers typed.locals
  pub no_start : typed.start ≡ []
  pub sound : IsSound classes typed.locals typed.result false false typed.body
  pub switches : HasProperSwitches typed.body

-- the typed bodies of functions, of which the first has a number
abbrev pub GoodBodies : List ClassInfo → ℕ → List Placed → List TypedBody → Type 0
GoodBodies classes number [] [] = ⊤
GoodBodies classes number [] (typed ∷ more) = ⊥
GoodBodies classes number (one ∷ all) [] = ⊥
GoodBodies classes number (one ∷ all) (typed ∷ more) = GoodBody classes number one typed × GoodBodies classes (suc number) all more

module _ (pick : Pick) (finds : Finds) (source : Source) (items : List Item) (numbers : List ℕ) where
  -- ---- a function that is typed has parameters with values

  valued_function : (one : Placed) (number around : ℕ) → Unless (λ (typed : TypedBody). HasParameters one) (function_typed pick finds source one number around)
  valued_function one number around =
      unless_cond (λ (typed : TypedBody). HasParameters one) (list_any is_void (parameter_types one.function)) (no_conversion one.function.span)
      (next (scope (block_part pick finds source one.body) outermost (frame_of one around)) (λ made. ended one number made.0 made.1)) tt
      (λ e. unless_all (λ (typed : TypedBody). HasParameters one) (next (scope (block_part pick finds source one.body) outermost (frame_of one around)) (λ made. ended one number made.0 made.1))
      (λ typed. have_values (parameter_types one.function) e))

  pub valued_functions : (all : List Placed) (at : ℕ) (done : List TypedBody) → Unless (λ (made : List TypedBody). Each HasParameters all) (bodies_from pick finds source items numbers at all done)
  valued_functions [] at done = tt
  valued_functions (one ∷ more) at done =
      next_unless (λ (typed : TypedBody). HasParameters one) (λ (made : List TypedBody). Each HasParameters (one ∷ more)) (function_typed pick finds source one at (scope_of (slice_get items (or_zero (slice_get numbers at)))))
      (λ made. bodies_from pick finds source items numbers (suc at) more (done ++ made ∷ []))
      (valued_function one at (scope_of (slice_get items (or_zero (slice_get numbers at)))))
      (λ made h. unless_map (λ (all : List TypedBody). Each HasParameters more) (λ (all : List TypedBody). Each HasParameters (one ∷ more)) (bodies_from pick finds source items numbers (suc at) more (done ++ made ∷ [])) (λ all k. (h, k))
      (valued_functions more (suc at) (done ++ made ∷ [])))

  -- ---- and a sound body

  module _ (classes : List ClassInfo) (chooses : Chooses classes pick) (fits_source : FitsSource classes source.functions) where
    body_good : (one : Placed) (number around : ℕ) (body : Step) (after : Frame) → HasParameters one → GoodStep classes outermost (frame_of one around) (body, after) → GoodBody classes number one (body_of one number body after)
    body_good one number around body after valued h =
        let covers = covers_all after in
        let ready = frame_ready (map core after.locals) one around (covers_before (map core after.locals) (frame_of one around) after h.grown covers) valued in
        let made = h.good (map core after.locals) (written one.function.result) covers ready in
        let locals : after.locals ≡ parameter_types one.function ++ h.grown.more = h.grown.locals in
        record {
          method = refl;
          result = refl;
          parameters = ap (λ types. take (length (parameter_types one.function)) (map core types)) locals ∙ take_front (parameter_types one.function) h.grown.more;
          variables = subst (λ (types : Types). AreNumbers (map core types)) (sym locals) (numbers_of (parameter_types one.function ++ h.grown.more) (values_append (parameter_types one.function) h.grown.more valued h.grown.valued));
          no_start = refl;
          sound = made.0.0;
          switches = made.0.1;
        }

    function_good : (one : Placed) (number around : ℕ) → Unless (GoodBody classes number one) (function_typed pick finds source one number around)
    function_good one number around =
        unless_cond (GoodBody classes number one) (list_any is_void (parameter_types one.function)) (no_conversion one.function.span)
        (next (scope (block_part pick finds source one.body) outermost (frame_of one around)) (λ made. ended one number made.0 made.1)) tt
        (λ e. next_unless (λ made. GoodStep classes outermost (frame_of one around) made) (GoodBody classes number one) (scope (block_part pick finds source one.body) outermost (frame_of one around)) (λ made. ended one number made.0 made.1)
        (unless_map _ (λ made. GoodStep classes outermost (frame_of one around) made) (scope (block_part pick finds source one.body) outermost (frame_of one around)) (λ made m. m.0)
        (scope_good classes (block_part pick finds source one.body) outermost (frame_of one around) (block_good classes pick chooses finds source fits_source one.body)))
        (λ made m. unless_cond (GoodBody classes number one) (must_end one && not (block_way one.body).ends) (refused kind.MissingReturn one.function.span) (Ok (body_of one number made.0 made.1)) tt
        (λ n. body_good one number around made.0 made.1 (have_values (parameter_types one.function) e) m)))

    -- the typed bodies, behind those that are typed
    abbrev Behind : ℕ → List Placed → List TypedBody → List TypedBody → Type 0
    Behind at all done made = (rest : List TypedBody) × (made ≡ done ++ rest) × GoodBodies classes at all rest

    bodies_behind : (all : List Placed) (at : ℕ) (done : List TypedBody) → Unless (Behind at all done) (bodies_from pick finds source items numbers at all done)
    bodies_behind [] at done = ([], sym (append-nil done), tt)
    bodies_behind (one ∷ more) at done =
        next_unless (GoodBody classes at one) (Behind at (one ∷ more) done) (function_typed pick finds source one at (scope_of (slice_get items (or_zero (slice_get numbers at)))))
        (λ made. bodies_from pick finds source items numbers (suc at) more (done ++ made ∷ []))
        (function_good one at (scope_of (slice_get items (or_zero (slice_get numbers at)))))
        (λ made h. unless_map (Behind (suc at) more (done ++ made ∷ [])) (Behind at (one ∷ more) done) (bodies_from pick finds source items numbers (suc at) more (done ++ made ∷ []))
        (λ all k. (made ∷ k.0, k.1 ∙ append_assoc done (made ∷ []) k.0, (h, k.2)))
        (bodies_behind more (suc at) (done ++ made ∷ [])))

    pub bodies_good : (all : List Placed) → Unless (GoodBodies classes 0 all) (bodies_from pick finds source items numbers 0 all [])
    bodies_good all =
        unless_map (Behind 0 all []) (GoodBodies classes 0 all) (bodies_from pick finds source items numbers 0 all []) (λ made k. subst (GoodBodies classes 0 all) (sym k.1) k.2) (bodies_behind all 0 [])
