-- Calls with well typed arguments are well typed.
use Rattle.std.proofs.Common.{◌≡◌, ℕ, suc, Bool, true, false, List, [], ◌∷◌, map, length, Option, Some, None, option_map, nat_lt, slice_get, refl, sym, ap, ◌∙◌, subst, arith}
use Rattle.std.specs.Prelude.{⊤}
use Rattle.std.proofs.lemmas.Bool.{false≢true}
use Rattle.std.proofs.lemmas.Option.{slice_get-map}
use Rattle.cc_base.specs.declared.text.Span.{Span}
use Rattle.cc_tree.specs.declared.type_name.FundamentalType.{FundamentalType}
use Rattle.cc_tree.specs.declared.type_name.FundamentalType.TheVariants as f
use Rattle.cc_core.specs.declared.types.ClassInfo.{ClassInfo}
use Rattle.cc_core.specs.Types.{BareType}
use Rattle.cc_core.specs.Typed as core_typed
use Rattle.cc_core.specs.Typed.{IsTyped, AreTyped, IsCallable, is_number}
use Rattle.cc_convert.specs.declared.conversion.Conversion.{Conversion}
use Rattle.cc_convert.specs.declared.overload.Choice.{Choice}
use Rattle.cc_convert.specs.declared.overload.Choice.TheVariants as choice
use Rattle.cc_convert.specs.Overloads.{IsViable, IsViableAt, IsPassed, IsChoice}
use Rattle.cc_operations.specs.declared.source.Known.{Known}
use Rattle.cc_operations.specs.declared.judged.ConsoleMember.{ConsoleMember}
use Rattle.cc_operations.specs.declared.judged.ConsoleMember.TheVariants as console
use Rattle.cc_operations.specs.Numbers.{core, core_type, is_void}
use Rattle.cc_operations.specs.Judgements.{next, Value, Meaning, is_value, is_place, are_functions, is_console}
use Rattle.cc_operations.specs.Choosing.{Types, given_types, signature_of, signatures_of, Pick, Chooses, taken}
use Rattle.cc_operations.specs.Operations as spec
use Rattle.cc_operations.specs.Operations.{convert, passed, types_of, method_at, parameters_at, Row, console_rows}
use Rattle.cc_typing_laws.proofs.Passing.{void_first}
use Rattle.cc_typing_laws.proofs.TypeKinds.{number_core}
use Rattle.cc_typing_laws.proofs.Terms.{Has, convert_has, SoundMeaning}
use Rattle.cc_typing_laws.proofs.Lists.{same_some, Each, each_at}
use Rattle.cc_typing_laws.proofs.Refusals.{Unless, unless_cond}

-- each of some types has values
abbrev pub HaveValues : Types → Type 0
HaveValues [] = ⊤
HaveValues (of ∷ types) = (is_void of ≡ false) × HaveValues types

pub is_the_void : (of : FundamentalType) → is_void of ≡ true → of ≡ f.Void
is_the_void f.Void e = refl
is_the_void f.Bool e = absurd (false≢true e)
is_the_void f.WideChar e = absurd (false≢true e)
is_the_void f.SignedChar e = absurd (false≢true e)
is_the_void f.UnsignedChar e = absurd (false≢true e)
is_the_void f.Short e = absurd (false≢true e)
is_the_void f.UnsignedShort e = absurd (false≢true e)
is_the_void f.Int e = absurd (false≢true e)
is_the_void f.UnsignedInt e = absurd (false≢true e)
is_the_void f.LongLong e = absurd (false≢true e)
is_the_void f.UnsignedLongLong e = absurd (false≢true e)

-- what has no value passes for no parameter
void_passes : (classes : List ClassInfo) (value of : FundamentalType) → is_void value ≡ true → is_void of ≡ false → (conversion : Conversion) → IsPassed classes (core_type value) (core_type of) conversion → ⊥
void_passes classes value of e v conversion is =
    let void : value ≡ f.Void = is_the_void value e in
    void_first classes value of
    (λ same. false≢true (subst (λ t. is_number t ≡ true) (sym same ∙ ap core void) (number_core of v))) void conversion is

-- A function of the source is one of the classes, and its parameters have values.
pub record FitsAt (classes : List ClassInfo) (at : ℕ) (one : Known) : Type 0 where
  pub callable : IsCallable classes (method_at at) (map core one.parameters) (core one.result)
  pub valued : HaveValues one.parameters

abbrev pub FitsSource : List ClassInfo → List Known → Type 0
FitsSource classes functions = (at : ℕ) (one : Known) → slice_get functions at ≡ Some one → FitsAt classes at one

-- what a member of the library takes has values, and the types that the member has
abbrev FitsRow : Row → Type 0
FitsRow row = HaveValues row.1 × (map core row.1 ≡ core_typed.taken_by row.0)

rows_fit : (member : ConsoleMember) → Each FitsRow (console_rows member)
rows_fit console.Write = (((refl, tt), refl), (((refl, tt), refl), (((refl, tt), refl), (((refl, tt), refl), (((refl, tt), refl), (((refl, tt), refl), tt))))))
rows_fit console.WriteLine =
    ((tt, refl), (((refl, tt), refl), (((refl, tt), refl), (((refl, tt), refl), (((refl, tt), refl), (((refl, tt), refl), (((refl, tt), refl), tt)))))))

module _ (classes : List ClassInfo) (locals : List BareType) where
  abbrev pub AreSound : List Value → Type 0
  AreSound [] = ⊤
  AreSound (value ∷ values) = Has classes locals value.term value.of × AreSound values

  -- the arguments are as many as the parameters, and each converts
  abbrev pub Fit : Types → List Value → Type 0
  Fit [] [] = ⊤
  Fit [] (value ∷ values) = ⊥
  Fit (of ∷ types) [] = ⊥
  Fit (of ∷ types) (value ∷ values) = (is_void value.of ≡ false) × Fit types values

  pub passed_typed : (types : Types) (values : List Value) → HaveValues types → AreSound values → Fit types values → AreTyped classes locals (passed types values)
  passed_typed [] [] t s fit = tt
  passed_typed [] (value ∷ values) t s fit = absurd fit
  passed_typed (of ∷ types) [] t s fit = absurd fit
  passed_typed (of ∷ types) (value ∷ values) t s fit = ((convert_has classes locals of value fit.0 t.0 s.0).typed, passed_typed types values t.1 s.1 fit.1)

  pub passed_types : (types : Types) (values : List Value) → HaveValues types → AreSound values → Fit types values → core_typed.types_of (passed types values) ≡ map core types
  passed_types [] [] t s fit = refl
  passed_types [] (value ∷ values) t s fit = absurd fit
  passed_types (of ∷ types) [] t s fit = absurd fit
  passed_types (of ∷ types) (value ∷ values) t s fit =
      ap (λ x. x ∷ core_typed.types_of (passed types values)) (convert_has classes locals of value fit.0 t.0 s.0).type ∙ ap (λ xs. core of ∷ xs) (passed_types types values t.1 s.1 fit.1)

  not_void : (value of : FundamentalType) (void : Bool) → is_void value ≡ void → is_void of ≡ false → (conversion : Conversion) → IsPassed classes (core_type value) (core_type of) conversion → is_void value ≡ false
  not_void value of false e v conversion is = e
  not_void value of true e v conversion is = absurd (void_passes classes value of e v conversion is)

  pub fits : (types : Types) (values : List Value) → HaveValues types → IsViable classes (given_types (types_of values)) (signature_of types) → Fit types values
  fits [] [] t v = tt
  fits [] (value ∷ values) t v = absurd (omega (arith, v.same_count))
  fits (of ∷ types) [] t v = absurd (omega (arith, v.same_count))
  fits (of ∷ types) (value ∷ values) t v =
      let first = v.each 0 (core_type value.of) (core_type of) refl refl in (
        not_void value.of of (is_void value.of) refl t.0 first.0 first.1,
        fits types values t.1 (record { same_count = omega (arith, v.same_count); each = λ at argument parameter g h. v.each (suc at) argument parameter g h }),
      )

  -- ---- calls of functions of the source

  module _ (pick : Pick) (chooses : Chooses classes pick) (functions : List Known) (fits_source : FitsSource classes functions) (values : List Value) (sound : AreSound values) where
    call_of_sound : (span : Span) (at : ℕ) (one : Option Known) → slice_get functions at ≡ one
        → ((known : Known) → one ≡ Some known → IsViable classes (given_types (types_of values)) (signature_of known.parameters))
        → Unless (SoundMeaning classes locals) (spec.call_of span at one values)
    call_of_sound span at None e viable = tt
    call_of_sound span at (Some one) e viable =
        let fitting = fits_source at one e in
        let fit = fits one.parameters values fitting.valued (viable one refl) in
        unless_cond (SoundMeaning classes locals) (nat_lt 250 (length values)) _ _ tt (λ few. record {
          typed = (
            refl,
            passed_typed one.parameters values fitting.valued sound fit,
            subst (λ given. IsCallable classes (method_at at) given (core one.result)) (sym (passed_types one.parameters values fitting.valued sound fit)) fitting.callable,
          );
          type = refl;
        })

    parameters_known : (at : ℕ) (one : Known) → slice_get functions at ≡ Some one → parameters_at functions at ≡ one.parameters
    parameters_known at one e = rw (e, parameters_at) refl

    module _ (candidates : List ℕ) where
      viable_there : (best at : ℕ) → slice_get candidates best ≡ Some at → IsViableAt classes (given_types (types_of values)) (signatures_of (map (parameters_at functions) candidates)) best
          → (known : Known) → slice_get functions at ≡ Some known → IsViable classes (given_types (types_of values)) (signature_of known.parameters)
      viable_there best at e v known k =
          let there : slice_get (signatures_of (map (parameters_at functions) candidates)) best ≡ Some (signature_of known.parameters) =
          slice_get-map signature_of (map (parameters_at functions) candidates) best
          ∙ ap (option_map signature_of) (slice_get-map (parameters_at functions) candidates best ∙ ap (option_map (parameters_at functions)) e)
          ∙ ap (λ types. Some (signature_of types)) (parameters_known at known k) in
          subst (IsViable classes (given_types (types_of values))) (same_some v.signature (signature_of known.parameters) (sym v.is ∙ there)) v.viable

      call_at_sound : (span : Span) (best : ℕ) → IsViableAt classes (given_types (types_of values)) (signatures_of (map (parameters_at functions) candidates)) best
          → (found : Option ℕ) → slice_get candidates best ≡ found → Unless (SoundMeaning classes locals) (spec.call_at span functions values found)
      call_at_sound span best v None e = tt
      call_at_sound span best v (Some at) e = call_of_sound span at (slice_get functions at) refl (viable_there best at e v)

      taken_sound : (span : Span) (made : Choice) → IsChoice classes (given_types (types_of values)) (signatures_of (map (parameters_at functions) candidates)) made
          → Unless (SoundMeaning classes locals) (next (taken made span) (λ best. spec.call_at span functions values (slice_get candidates best)))
      taken_sound span (choice.One best) is = call_at_sound span best is.0 (slice_get candidates best) refl
      taken_sound span choice.None is = tt
      taken_sound span (choice.Tie first second) is = tt

      called_sound : (span : Span) → Unless (SoundMeaning classes locals) (spec.called pick span functions candidates values)
      called_sound span =
          taken_sound span (pick (map (parameters_at functions) candidates) (types_of values)) (chooses (map (parameters_at functions) candidates) (types_of values))

    -- ---- calls of members of the console

    library_sound : (span : Span) (row : Option Row) → ((one : Row) → row ≡ Some one → FitsRow one × IsViable classes (given_types (types_of values)) (signature_of one.1))
        → Unless (SoundMeaning classes locals) (spec.library_call span row values)
    library_sound span None is = tt
    library_sound span (Some row) is =
        let known = is row refl in
        let fit = fits row.1 values known.0.0 known.1 in
        record {
          typed = (passed_typed row.1 values known.0.0 sound fit, passed_types row.1 values known.0.0 sound fit ∙ known.0.1, refl);
          type = refl;
        }

    row_there : (rows : List Row) (best : ℕ) → IsViableAt classes (given_types (types_of values)) (signatures_of (map (λ row. row.1) rows)) best
        → (one : Row) → slice_get rows best ≡ Some one → IsViable classes (given_types (types_of values)) (signature_of one.1)
    row_there rows best v one e =
        let there : slice_get (signatures_of (map (λ row. row.1) rows)) best ≡ Some (signature_of one.1) =
        slice_get-map signature_of (map (λ row. row.1) rows) best ∙ ap (option_map signature_of) (slice_get-map (λ (row : Row). row.1) rows best ∙ ap (option_map (λ (row : Row). row.1)) e) in
        subst (IsViable classes (given_types (types_of values))) (same_some v.signature (signature_of one.1) (sym v.is ∙ there)) v.viable

    console_taken : (span : Span) (rows : List Row) → Each FitsRow rows → (made : Choice) → IsChoice classes (given_types (types_of values)) (signatures_of (map (λ row. row.1) rows)) made
        → Unless (SoundMeaning classes locals) (next (taken made span) (λ best. spec.library_call span (slice_get rows best) values))
    console_taken span rows fit (choice.One best) is = library_sound span (slice_get rows best) (λ one e. (each_at FitsRow rows best one fit e, row_there rows best is.0 one e))
    console_taken span rows fit choice.None is = tt
    console_taken span rows fit (choice.Tie first second) is = tt

    console_sound : (span : Span) (member : ConsoleMember) → Unless (SoundMeaning classes locals) (spec.console_called pick span member values)
    console_sound span member =
        console_taken span (console_rows member) (rows_fit member) (pick (map (λ row. row.1) (console_rows member)) (types_of values)) (chooses (map (λ row. row.1) (console_rows member)) (types_of values))

    pub call_sound : (span : Span) (meaning : Meaning) → SoundMeaning classes locals meaning → Unless (SoundMeaning classes locals) (spec.call pick span functions meaning values)
    call_sound span (is_value value) m = tt
    call_sound span (is_place of local) m = tt
    call_sound span (are_functions at candidates) m = called_sound candidates span
    call_sound span (is_console at member) m = console_sound span member
