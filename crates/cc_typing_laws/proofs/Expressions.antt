-- What an expression means is well typed.
use Rattle.std.proofs.Common.{◌≡◌, ℕ, ◌%◌, ◌^◌, Bool, true, false, cond, List, [], ◌∷◌, ◌++◌, map, Option, Some, None, Ok, refl, sym, ap, subst, arith}
use Rattle.std.specs.Prelude.{⊤, codes}
use Rattle.std.specs.Str.{bytes_eq}
use Rattle.std.proofs.lemmas.Bool.{false≢true}
use Rattle.cc_base.specs.declared.text.Span.{Span}
use Rattle.cc_tree.specs.declared.identifier.Identifier.{Identifier}
use Rattle.cc_tree.specs.declared.token.Suffix.{Suffix}
use Rattle.cc_tree.specs.declared.token.Suffix.TheVariants as suffix
use Rattle.cc_tree.specs.declared.token.Radix.{Radix}
use Rattle.cc_tree.specs.declared.token.Radix.TheVariants as radix
use Rattle.cc_tree.specs.declared.type_name.FundamentalType.{FundamentalType}
use Rattle.cc_tree.specs.declared.type_name.FundamentalType.TheVariants as f
use Rattle.cc_tree.specs.declared.expression.Expression.{Expression, Expression-F, roll-Expression, fold-roll-Expression, map-Expression, ind-Expression}
use Rattle.cc_tree.specs.declared.expression.Arguments.{Arguments, roll-Arguments, fold-roll-Arguments, map-Arguments}
use Rattle.cc_tree.specs.declared.expression.Expression.TheOpen as e
use Rattle.cc_core.specs.declared.types.ClassInfo.{ClassInfo}
use Rattle.cc_core.specs.declared.world.Value.TheVariants.{Int32}
use Rattle.cc_core.specs.Types.{BareType}
use Rattle.cc_core.specs.Types as type
use Rattle.cc_core.specs.Term as term
use Rattle.cc_core.specs.Typed.{IsVariable, IsConstant, is_promoted}
use Rattle.cc_operations.specs.declared.source.Source.{Source}
use Rattle.cc_operations.specs.declared.source.Frame.{Frame}
use Rattle.cc_operations.specs.declared.source.Variable.{Variable}
use Rattle.cc_operations.specs.declared.judged.ConsoleMember.TheVariants.{Write, WriteLine}
use Rattle.cc_operations.specs.Choosing.{Pick, Chooses}
use Rattle.cc_operations.specs.Numbers.{core, is_void, first_holding, number_type, written}
use Rattle.cc_operations.specs.Judgements.{Judged, next, Value, Meaning, is_console, valued, operand, with_value, all_values}
use Rattle.cc_operations.specs.Operations as spec
use Rattle.cc_terms.specs.Resolving.{Finds, Path, candidates_by, numbered, functions_or_unknown, by_found, plain, resolved, newest_from, newest, console_named, those, stands_there, path_from, unknown}
use Rattle.cc_terms.specs.Terms.{expression_layer, arguments_layer, typed, typed_arguments, typed_value}
use Rattle.cc_typing_laws.proofs.Terms.{Has, SoundMeaning, Sound, valued_sound, operand_sound, assigned_sound, conditional_sound, binary_sound, prefixed_sound, postfixed_sound, cast_sound, named_sound}
use Rattle.cc_typing_laws.proofs.Calls.{AreSound, FitsSource, call_sound}
use Rattle.cc_typing_laws.proofs.Lists.{Each}
use Rattle.cc_typing_laws.proofs.Refusals.{Unless, next_unless, unless_cond}

-- ---- numbers and characters

-- a number of a type in which operators work is a constant of it
pub plain_number : (classes : List ClassInfo) (locals : List BareType) (of : FundamentalType) (n : ℕ) → is_promoted (core of) ≡ true → Has classes locals (term.Number (core of) n) of
plain_number classes locals f.Void n h = absurd (false≢true h)
plain_number classes locals f.Bool n h = absurd (false≢true h)
plain_number classes locals f.WideChar n h = absurd (false≢true h)
plain_number classes locals f.SignedChar n h = absurd (false≢true h)
plain_number classes locals f.UnsignedChar n h = absurd (false≢true h)
plain_number classes locals f.Short n h = absurd (false≢true h)
plain_number classes locals f.UnsignedShort n h = absurd (false≢true h)
plain_number classes locals f.Int n h = record { typed = (refl, refl); type = refl }
plain_number classes locals f.UnsignedInt n h = record { typed = (refl, refl); type = refl }
plain_number classes locals f.LongLong n h = record { typed = (refl, refl); type = refl }
plain_number classes locals f.UnsignedLongLong n h = record { typed = (refl, refl); type = refl }

abbrev Operates : FundamentalType → Type 0
Operates of = is_promoted (core of) ≡ true

either_works : (b : Bool) (one other : FundamentalType) → Operates one → Operates other → Operates (cond b one other)
either_works true one other h k = h
either_works false one other h k = k

first_works : (value : ℕ) (of : FundamentalType) (types : List FundamentalType) → Operates of → Each Operates types → Operates (first_holding value of types)
first_works value of [] h k = h
first_works value of (one ∷ types) h k = either_works _ of (first_holding value one types) h (first_works value one types k.0 k.1)

number_works : (value : ℕ) (ending : Suffix) (base : Radix) → Operates (number_type value ending base)
number_works value suffix.Plain radix.Decimal = first_works value f.Int (f.LongLong ∷ []) refl (refl, tt)
number_works value suffix.Plain radix.Hexadecimal = first_works value f.Int (f.UnsignedInt ∷ f.LongLong ∷ f.UnsignedLongLong ∷ []) refl (refl, (refl, (refl, tt)))
number_works value suffix.Plain radix.Octal = first_works value f.Int (f.UnsignedInt ∷ f.LongLong ∷ f.UnsignedLongLong ∷ []) refl (refl, (refl, (refl, tt)))
number_works value suffix.U base = first_works value f.UnsignedInt (f.UnsignedLongLong ∷ []) refl (refl, tt)
number_works value suffix.Ll radix.Decimal = first_works value f.LongLong [] refl tt
number_works value suffix.Ll radix.Hexadecimal = first_works value f.LongLong (f.UnsignedLongLong ∷ []) refl (refl, tt)
number_works value suffix.Ll radix.Octal = first_works value f.LongLong (f.UnsignedLongLong ∷ []) refl (refl, tt)
number_works value suffix.Ull base = first_works value f.UnsignedLongLong [] refl tt

-- a character is a constant of its type
character_fits : (unit : ℕ) → IsConstant type.Char (unit % 2 ^ 16)
character_fits unit = ap (λ n. Some (Int32 n)) (omega arith)

-- ---- variables

-- variables are those of the function, and have values
abbrev pub FitsVariable : List BareType → Variable → Type 0
FitsVariable locals one = IsVariable locals one.local (core one.of) × (is_void one.of ≡ false)

abbrev pub Fits : List BareType → Frame → Type 0
Fits locals frame = Each (FitsVariable locals) frame.variables

abbrev FitsFound : List BareType → Option Variable → Type 0
FitsFound locals None = ⊤
FitsFound locals (Some one) = FitsVariable locals one

found_if : (locals : List BareType) (b : Bool) (one other : Option Variable) → FitsFound locals one → FitsFound locals other → FitsFound locals (cond b one other)
found_if locals true one other h k = h
found_if locals false one other h k = k

newest_fits : (locals : List BareType) (name : List ℕ) (variables : List Variable) (found : Option Variable) → FitsFound locals found → Each (FitsVariable locals) variables → FitsFound locals (newest_from name found variables)
newest_fits locals name [] found h k = h
newest_fits locals name (one ∷ variables) found h k =
    newest_fits locals name variables (cond (bytes_eq one.name name) (Some one) found) (found_if locals (bytes_eq one.name name) (Some one) found k.0 h) k.1

-- ---- names

module _ (classes : List ClassInfo) (locals : List BareType) where
  functions_sound : (span : Span) (candidates : List ℕ) → Unless (SoundMeaning classes locals) (functions_or_unknown span candidates)
  functions_sound span [] = tt
  functions_sound span (first ∷ candidates) = tt

  found_sound : (source : Source) (here : Path) (span : Span) (name : List ℕ) (found : Option ℕ) → Unless (SoundMeaning classes locals) (by_found source here span name found)
  found_sound source here span name None = tt
  found_sound source here span name (Some number) = functions_sound span (candidates_by source here span.first name (numbered number source.functions))

  plain_sound : (finds : Finds) (source : Source) (frame : Frame) (name : List ℕ) (span : Span) (found : Option Variable) → FitsFound locals found → Unless (SoundMeaning classes locals) (plain finds source frame name span found)
  plain_sound finds source frame name span (Some one) h = h
  plain_sound finds source frame name span None h = found_sound source frame.path span name (finds frame.scope span.first name)

  resolved_sound : (finds : Finds) (source : Source) (frame : Frame) (path : List Identifier) (name : Identifier) (span : Span) → Fits locals frame → Unless (SoundMeaning classes locals) (resolved finds source frame path name span)
  resolved_sound finds source frame [] name span h = plain_sound finds source frame name.name span (newest name.name frame.variables) (newest_fits locals name.name frame.variables None tt h)
  resolved_sound finds source frame (outer ∷ path) name span h = functions_sound span (those (stands_there (path_from [] (outer ∷ path)) name.name) source.functions)

  console_sound : (name : List ℕ) (span : Span) → Unless (SoundMeaning classes locals) (console_named name span)
  console_sound name span =
      unless_cond (SoundMeaning classes locals) (bytes_eq name (codes "Write")) (Ok (is_console span Write)) (cond (bytes_eq name (codes "WriteLine")) (Ok (is_console span WriteLine)) (unknown span)) tt
      (λ n. unless_cond (SoundMeaning classes locals) (bytes_eq name (codes "WriteLine")) (Ok (is_console span WriteLine)) (unknown span) tt (λ m. tt))

  -- ---- values in a row

  append_sound : (values : List Value) (value : Value) → AreSound classes locals values → Sound classes locals value → AreSound classes locals (values ++ value ∷ [])
  append_sound [] value h s = (s, tt)
  append_sound (one ∷ values) value h s = (h.0, append_sound values value h.1 s)

  all_values_sound : (values : List Value) (judged : List (Judged Meaning)) → AreSound classes locals values → Each (Unless (SoundMeaning classes locals)) judged → Unless (AreSound classes locals) (all_values values judged)
  all_values_sound values [] h k = h
  all_values_sound values (one ∷ more) h k =
      next_unless (Sound classes locals) (AreSound classes locals) (valued one) (λ value. all_values (values ++ value ∷ []) more) (valued_sound classes locals one k.0)
      (λ value s. all_values_sound (values ++ value ∷ []) more (append_sound values value h s) k.1)

  constructed_sound : (span : Span) (to : FundamentalType) (values : List Value) → AreSound classes locals values → Unless (SoundMeaning classes locals) (spec.constructed span to values)
  constructed_sound span to [] h = tt
  constructed_sound span to (value ∷ []) h = cast_sound classes locals span to value h.0
  constructed_sound span to (value ∷ second ∷ more) h = tt

  with_sound : (judged : Judged Meaning) (step : Value → Judged Meaning) → Unless (SoundMeaning classes locals) judged → ((value : Value) → Sound classes locals value → Unless (SoundMeaning classes locals) (step value))
      → Unless (SoundMeaning classes locals) (with_value judged step)
  with_sound judged step h k = next_unless (Sound classes locals) (SoundMeaning classes locals) (valued judged) step (valued_sound classes locals judged h) k

  -- ---- all forms

  module _ (pick : Pick) (chooses : Chooses classes pick) (finds : Finds) (source : Source) (fits_source : FitsSource classes source.functions) (frame : Frame) (fits : Fits locals frame) where
    abbrev IsSoundExpression : Expression → Type 0
    IsSoundExpression x = Unless (SoundMeaning classes locals) (typed pick finds source frame x)

    abbrev AreSoundArguments : Arguments → Type 0
    AreSoundArguments arguments = Unless (AreSound classes locals) (typed_arguments pick finds source frame arguments)

    abbrev SoundExpression : Type 0
    SoundExpression = (x : Expression) × IsSoundExpression x

    abbrev SoundArguments : Type 0
    SoundArguments = (arguments : Arguments) × AreSoundArguments arguments

    -- what a layer of expressions means, each with a proof beside it
    abbrev bare_layer : Expression-F SoundExpression SoundArguments → Expression-F Expression Arguments
    bare_layer = map-Expression SoundExpression SoundArguments Expression Arguments (λ k. k.0) (λ k. k.0)

    abbrev judged_layer : Expression-F Expression Arguments → Expression-F (Judged Meaning) (Judged (List Value))
    judged_layer = map-Expression Expression Arguments (Judged Meaning) (Judged (List Value)) (typed pick finds source frame) (typed_arguments pick finds source frame)

    abbrev means : Expression → Judged Meaning
    means = typed pick finds source frame

    abbrev mean : Arguments → Judged (List Value)
    mean = typed_arguments pick finds source frame

    next_sound : (judged : Judged Meaning) (step : Meaning → Judged Meaning) → Unless (SoundMeaning classes locals) judged → ((meaning : Meaning) → SoundMeaning classes locals meaning → Unless (SoundMeaning classes locals) (step meaning))
        → Unless (SoundMeaning classes locals) (next judged step)
    next_sound judged step h k = next_unless (SoundMeaning classes locals) (SoundMeaning classes locals) judged step h k

    values_sound : (judged : Judged (List Value)) (step : List Value → Judged Meaning) → Unless (AreSound classes locals) judged → ((values : List Value) → AreSound classes locals values → Unless (SoundMeaning classes locals) (step values))
        → Unless (SoundMeaning classes locals) (next judged step)
    values_sound judged step h k = next_unless (AreSound classes locals) (SoundMeaning classes locals) judged step h k

    layer_sound : (y : Expression-F SoundExpression SoundArguments) → Unless (SoundMeaning classes locals) (expression_layer pick finds source frame (judged_layer (bare_layer y)))
    layer_sound (e.Assign left operator right span) =
        next_sound (operand (means left.0)) (λ target. with_value (means right.0) (spec.assigned operator span target)) (operand_sound classes locals (means left.0) left.1)
        (λ target m. with_sound (means right.0) (spec.assigned operator span target) right.1 (λ value s. assigned_sound classes locals operator span target value m s))
    layer_sound (e.Conditional condition first second span) =
        with_sound (means condition.0) (λ test. with_value (means first.0) (λ one. with_value (means second.0) (spec.conditional span test one))) condition.1
        (λ test c. with_sound (means first.0) (λ one. with_value (means second.0) (spec.conditional span test one)) first.1
        (λ one s. with_sound (means second.0) (spec.conditional span test one) second.1 (λ other t. conditional_sound classes locals span test one other c s t)))
    layer_sound (e.Binary left operator right span) =
        with_sound (means left.0) (λ one. with_value (means right.0) (spec.binary operator span one)) left.1
        (λ one s. with_sound (means right.0) (spec.binary operator span one) right.1 (λ other t. binary_sound classes locals operator span one other s t))
    layer_sound (e.Prefix operator x span) = next_sound (means x.0) (spec.prefixed operator span) x.1 (λ meaning m. prefixed_sound classes locals operator span meaning m)
    layer_sound (e.Cast of x span) = with_sound (means x.0) (spec.cast_to span (written of)) x.1 (λ value s. cast_sound classes locals span (written of) value s)
    layer_sound (e.Index x y span) = tt
    layer_sound (e.Call x arguments span) =
        next_sound (means x.0) (λ callee. next (mean arguments.0) (spec.call pick span source.functions callee)) x.1
        (λ callee m. values_sound (mean arguments.0) (spec.call pick span source.functions callee) arguments.1
        (λ values s. call_sound classes locals pick chooses source.functions fits_source values s span callee m))
    layer_sound (e.Member x selects name types span) = tt
    layer_sound (e.Finaliser x selects name span) = tt
    layer_sound (e.Postfix x operator span) = next_sound (means x.0) (spec.postfixed operator span) x.1 (λ meaning m. postfixed_sound classes locals operator span meaning m)
    layer_sound (e.Number value ending base span) = plain_number classes locals (number_type value ending base) value (number_works value ending base)
    layer_sound (e.Character unit span) = record { typed = (refl, character_fits unit); type = refl }
    layer_sound (e.Strings texts span) = tt
    layer_sound (e.True span) = record { typed = (refl, refl); type = refl }
    layer_sound (e.False span) = record { typed = (refl, refl); type = refl }
    layer_sound (e.Nullptr span) = tt
    layer_sound (e.This span) = tt
    layer_sound (e.Group x span) = x.1
    layer_sound (e.Name path name types span) = resolved_sound finds source frame path name span fits
    layer_sound (e.StaticMember of name span) = console_sound name.name span
    layer_sound (e.Construct of arguments span) = values_sound (mean arguments.0) (spec.constructed span (written of)) arguments.1 (λ values s. constructed_sound span (written of) values s)
    layer_sound (e.New of arguments elements span) = tt
    layer_sound (e.NamedCast which of x span) = with_sound (means x.0) (spec.named_cast which span (written of)) x.1 (λ value s. named_sound classes locals which span (written of) value s)

    each_sound : (ys : List SoundExpression) → Each (Unless (SoundMeaning classes locals)) (map (typed pick finds source frame) (map (λ k. k.0) ys))
    each_sound [] = tt
    each_sound (y ∷ ys) = (y.1, each_sound ys)

    expression_step : (x : Expression-F Expression Arguments) (y : Expression-F SoundExpression SoundArguments) → bare_layer y ≡ x → IsSoundExpression (roll-Expression x)
    expression_step x y is =
        subst (λ z. IsSoundExpression (roll-Expression z)) is
        (subst (Unless (SoundMeaning classes locals)) (sym (fold-roll-Expression (Judged Meaning) (Judged (List Value)) (expression_layer pick finds source frame) (arguments_layer pick finds source frame) (bare_layer y))) (layer_sound y))

    arguments_step : (x : e.Arguments-F Expression Arguments) (y : e.Arguments-F SoundExpression SoundArguments)
        → map-Arguments SoundExpression SoundArguments Expression Arguments (λ k. k.0) (λ k. k.0) y ≡ x → AreSoundArguments (roll-Arguments x)
    arguments_step x y is =
        subst (λ z. AreSoundArguments (roll-Arguments z)) is
        (subst (Unless (AreSound classes locals))
        (sym (fold-roll-Arguments (Judged Meaning) (Judged (List Value)) (expression_layer pick finds source frame) (arguments_layer pick finds source frame)
        (map-Arguments SoundExpression SoundArguments Expression Arguments (λ k. k.0) (λ k. k.0) y)))
        (all_values_sound [] (map (typed pick finds source frame) (map (λ k. k.0) y.items)) tt (each_sound y.items)))

    pub expression_sound : (x : Expression) → IsSoundExpression x
    expression_sound = ind-Expression IsSoundExpression AreSoundArguments expression_step arguments_step

    pub value_sound : (x : Expression) → Unless (Sound classes locals) (typed_value pick finds source frame x)
    value_sound x = valued_sound classes locals (typed pick finds source frame x) (expression_sound x)
