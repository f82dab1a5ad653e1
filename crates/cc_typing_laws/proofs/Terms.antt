-- What operators, casts and calls make of well typed operands is well typed.
use Rattle.std.proofs.Common.{◌≡◌, ℕ, Bool, true, false, cond, ◌||◌, ◌==◌, List, Ok, refl, sym, ap, ◌∙◌, subst, ⊎_elim}
use Rattle.std.specs.Prelude.{⊤}
use Rattle.std.proofs.lemmas.Bool.{cases_Bool, false≢true, eqb-true, eq-eqb}
use Rattle.cc_base.specs.declared.text.Span.{Span}
use Rattle.cc_base.specs.declared.identifiers.LocalId.{LocalId}
use Rattle.cc_tree.specs.declared.type_name.FundamentalType.{FundamentalType}
use Rattle.cc_tree.specs.declared.type_name.FundamentalType.TheVariants as f
use Rattle.cc_tree.specs.declared.expression.AssignmentOperator.{AssignmentOperator}
use Rattle.cc_tree.specs.declared.expression.AssignmentOperator.TheVariants as a
use Rattle.cc_tree.specs.declared.expression.BinaryOperator.{BinaryOperator}
use Rattle.cc_tree.specs.declared.expression.BinaryOperator.TheVariants as b
use Rattle.cc_tree.specs.declared.expression.PrefixOperator.{PrefixOperator}
use Rattle.cc_tree.specs.declared.expression.PrefixOperator.TheVariants as p
use Rattle.cc_tree.specs.declared.expression.PostfixOperator.{PostfixOperator}
use Rattle.cc_tree.specs.declared.expression.PostfixOperator.TheVariants as post
use Rattle.cc_tree.specs.declared.expression.CastWord.{CastWord}
use Rattle.cc_tree.specs.declared.expression.CastWord.TheVariants as word
use Rattle.cc_core.specs.declared.tree.UpdateResult.{UpdateResult}
use Rattle.cc_core.specs.declared.tree.UpdateResult.TheVariants.{New, Old}
use Rattle.cc_core.specs.declared.types.ClassInfo.{ClassInfo}
use Rattle.cc_core.specs.declared.types.Operator.{Operator}
use Rattle.cc_core.specs.declared.types.Operator.TheVariants as op
use Rattle.cc_core.specs.declared.types.UnaryOperator.{UnaryOperator}
use Rattle.cc_core.specs.declared.types.UnaryOperator.TheVariants as unary
use Rattle.cc_core.specs.Types.{BareType}
use Rattle.cc_core.specs.Types as type
use Rattle.cc_core.specs.Term.{Term, type_of}
use Rattle.cc_core.specs.Term as term
use Rattle.cc_core.specs.Typed.{IsTyped, IsPromoted, IsNumber, IsVariable, shifts, compares, result_of}
use Rattle.cc_operations.specs.Numbers.{core, is_void, is_bool, rank, promoted, common}
use Rattle.cc_operations.specs.Judgements.{Judged, Value, Meaning, is_value, is_place, are_functions, is_console, as_value, as_operand, valued, operand}
use Rattle.cc_operations.specs.Operations as spec
use Rattle.cc_operations.specs.Operations.{convert}
use Rattle.cc_typing_laws.proofs.Passing.{same_core}
use Rattle.cc_typing_laws.proofs.TypeKinds.{Works, number_core, promoted_works, common_works}
use Rattle.cc_typing_laws.proofs.Refusals.{Unless, next_unless, unless_cond}
use Rattle.cc_typing_laws.proofs.Tests.{neither}

-- A term is well typed, and its value has a type.
pub record Has (classes : List ClassInfo) (locals : List BareType) (x : Term) (of : FundamentalType) : Type 0 where
  pub typed : IsTyped classes locals x
  pub type : type_of x ≡ core of

eqb-refl : (n : ℕ) → (n == n) ≡ true
eqb-refl n = eq-eqb n n refl

eqb-flip : (n m : ℕ) → (n == m) ≡ true → (m == n) ≡ true
eqb-flip n m e = eq-eqb m n (sym (eqb-true n m e))

module _ (classes : List ClassInfo) (locals : List BareType) where
  abbrev pub Sound : Value → Type 0
  Sound value = Has classes locals value.term value.of

  -- a variable is one of the function, of a type that has values
  abbrev pub SoundMeaning : Meaning → Type 0
  SoundMeaning (is_value value) = Has classes locals value.term value.of
  SoundMeaning (is_place of local) = IsVariable locals local (core of) × (is_void of ≡ false)
  SoundMeaning (are_functions span candidates) = ⊤
  SoundMeaning (is_console span member) = ⊤

  pub as_value_sound : (meaning : Meaning) → SoundMeaning meaning → Unless Sound (as_value meaning)
  as_value_sound (is_value value) h = h
  as_value_sound (is_place of local) h = record { typed = h.0; type = refl }
  as_value_sound (are_functions span candidates) h = tt
  as_value_sound (is_console span member) h = tt

  pub as_operand_sound : (meaning : Meaning) → SoundMeaning meaning → Unless SoundMeaning (as_operand meaning)
  as_operand_sound (is_value value) h = h
  as_operand_sound (is_place of local) h = h
  as_operand_sound (are_functions span candidates) h = tt
  as_operand_sound (is_console span member) h = tt

  pub valued_sound : (judged : Judged Meaning) → Unless SoundMeaning judged → Unless Sound (valued judged)
  valued_sound judged h = next_unless SoundMeaning Sound judged as_value h as_value_sound

  pub operand_sound : (judged : Judged Meaning) → Unless SoundMeaning judged → Unless SoundMeaning (operand judged)
  operand_sound judged h = next_unless SoundMeaning SoundMeaning judged as_operand h as_operand_sound

  -- ---- conversions

  converted_has : (to : FundamentalType) (value : Value) (same : Bool) → (rank value.of == rank to) ≡ same → is_void value.of ≡ false → is_void to ≡ false → Has classes locals value.term value.of
      → Has classes locals (cond same value (record { of = to; term = term.Convert (core to) value.term })).term to
  converted_has to value true e v w h = record { typed = h.typed; type = h.type ∙ same_core value.of to (eqb-true (rank value.of) (rank to) e) }
  converted_has to value false e v w h = record { typed = (h.typed, subst IsNumber (sym h.type) (number_core value.of v), number_core to w); type = refl }

  pub convert_has : (to : FundamentalType) (value : Value) → is_void value.of ≡ false → is_void to ≡ false → Has classes locals value.term value.of → Has classes locals (convert to value).term to
  convert_has to value v w h = converted_has to value (rank value.of == rank to) refl v w h

  -- the type of a converted value, by its place among those of numbers
  convert_of : (to : FundamentalType) (value : Value) (same : Bool) → (rank value.of == rank to) ≡ same → core (cond same value (record { of = to; term = term.Convert (core to) value.term })).of ≡ core to
  convert_of to value true e = same_core value.of to (eqb-true (rank value.of) (rank to) e)
  convert_of to value false e = refl

  convert_sound : (to : FundamentalType) (value : Value) → is_void value.of ≡ false → is_void to ≡ false → Has classes locals value.term value.of → Sound (convert to value)
  convert_sound to value v w h =
      let made = convert_has to value v w h in
      record { typed = made.typed; type = made.type ∙ sym (convert_of to value (rank value.of == rank to) refl) }

  pub converted_sound : (span : Span) (to : FundamentalType) (value : Value) → Sound value → Unless (λ (made : Value). Has classes locals made.term to) (spec.converted span to value)
  converted_sound span to value h =
      unless_cond (λ (made : Value). Has classes locals made.term to) (is_void value.of || is_void to) _ _ tt
      (λ e. let n = neither (is_void value.of) (is_void to) e in convert_has to value n.0 n.1 h)

  pub cast_sound : (span : Span) (to : FundamentalType) (value : Value) → Sound value → Unless SoundMeaning (spec.cast_to span to value)
  cast_sound span to value h =
      next_unless Sound SoundMeaning (spec.converted span to value) (λ made. Ok (is_value made))
      (unless_cond Sound (is_void value.of || is_void to) _ _ tt (λ e. let n = neither (is_void value.of) (is_void to) e in convert_sound to value n.0 n.1 h))
      (λ made s. s)

  pub named_sound : (which : CastWord) (span : Span) (to : FundamentalType) (value : Value) → Sound value → Unless SoundMeaning (spec.named_cast which span to value)
  named_sound word.Safe span to value h = cast_sound span to value h
  named_sound word.Static span to value h = cast_sound span to value h
  named_sound word.Dynamic span to value h = tt

  -- ---- operators

  binary_has : (operator : Operator) (of result : FundamentalType) (left right : Term) → shifts operator ≡ false → core result ≡ result_of operator (core of) → Works of → Has classes locals left of → Has classes locals right of
      → Has classes locals (term.Binary (core result) operator left right) result
  binary_has operator of result left right s r w h k = record {
    typed = (h.typed, k.typed, subst IsPromoted (sym h.type) w.is, subst (λ b. cond b (IsPromoted (type_of right)) (type_of right ≡ type_of left)) (sym s) (k.type ∙ sym h.type), r ∙ ap (result_of operator) (sym h.type));
    type = refl;
  }

  shift_has : (operator : Operator) (of count : FundamentalType) (left right : Term) → shifts operator ≡ true → core of ≡ result_of operator (core of) → Works of → Works count → Has classes locals left of → Has classes locals right count
      → Has classes locals (term.Binary (core of) operator left right) of
  shift_has operator of count left right s r w v h k = record {
    typed = (h.typed, k.typed, subst IsPromoted (sym h.type) w.is, subst (λ b. cond b (IsPromoted (type_of right)) (type_of right ≡ type_of left)) (sym s) (subst IsPromoted (sym k.type) v.is), r ∙ ap (result_of operator) (sym h.type));
    type = refl;
  }

  module _ (left right : Value) (v : is_void left.of ≡ false) (w : is_void right.of ≡ false) (h : Has classes locals left.term left.of) (k : Has classes locals right.term right.of) where
    operation_sound : (operator : Operator) → shifts operator ≡ false → compares operator ≡ false → Sound (spec.operation operator left right)
    operation_sound operator s c =
        let of = common left.of right.of in
        let works = common_works left.of right.of in
        binary_has operator of of (convert of left).term (convert of right).term s (sym (ap (λ b. cond b type.Bool (core of)) c)) works (convert_has of left v works.valued h) (convert_has of right w works.valued k)

    comparison_sound : (operator : Operator) → shifts operator ≡ false → compares operator ≡ true → Sound (spec.comparison operator left right)
    comparison_sound operator s c =
        let of = common left.of right.of in
        let works = common_works left.of right.of in
        binary_has operator of f.Bool (convert of left).term (convert of right).term s (sym (ap (λ b. cond b type.Bool (core of)) c)) works (convert_has of left v works.valued h) (convert_has of right w works.valued k)

    shift_sound : (operator : Operator) → shifts operator ≡ true → compares operator ≡ false → Sound (spec.shift operator left right)
    shift_sound operator s c =
        let of = promoted left.of in
        let works = promoted_works left.of v in
        let counts = promoted_works right.of w in
        shift_has operator of (promoted right.of) (convert of left).term (convert (promoted right.of) right).term s (sym (ap (λ b. cond b type.Bool (core of)) c)) works counts (convert_has of left v works.valued h) (convert_has (promoted right.of) right w counts.valued k)

    numbers : IsNumber (type_of left.term) × IsNumber (type_of right.term)
    numbers = (subst IsNumber (sym h.type) (number_core left.of v), subst IsNumber (sym k.type) (number_core right.of w))

    operator_sound : (operator : BinaryOperator) → Sound (spec.of_operator operator left right)
    operator_sound b.LogicalOr = record { typed = (h.typed, k.typed, numbers.0, numbers.1, refl); type = refl }
    operator_sound b.LogicalAnd = record { typed = (h.typed, k.typed, numbers.0, numbers.1, refl); type = refl }
    operator_sound b.Or = operation_sound op.Or refl refl
    operator_sound b.ExclusiveOr = operation_sound op.ExclusiveOr refl refl
    operator_sound b.And = operation_sound op.And refl refl
    operator_sound b.Equal = comparison_sound op.Equal refl refl
    operator_sound b.NotEqual = comparison_sound op.NotEqual refl refl
    operator_sound b.Less = comparison_sound op.Less refl refl
    operator_sound b.Greater = comparison_sound op.Greater refl refl
    operator_sound b.LessOrEqual = comparison_sound op.LessOrEqual refl refl
    operator_sound b.GreaterOrEqual = comparison_sound op.GreaterOrEqual refl refl
    operator_sound b.ShiftLeft = shift_sound op.ShiftLeft refl refl
    operator_sound b.ShiftRight = shift_sound op.ShiftRight refl refl
    operator_sound b.Add = operation_sound op.Add refl refl
    operator_sound b.Subtract = operation_sound op.Subtract refl refl
    operator_sound b.Multiply = operation_sound op.Multiply refl refl
    operator_sound b.Divide = operation_sound op.Divide refl refl
    operator_sound b.Remainder = operation_sound op.Remainder refl refl

  pub binary_sound : (operator : BinaryOperator) (span : Span) (left right : Value) → Sound left → Sound right → Unless SoundMeaning (spec.binary operator span left right)
  binary_sound operator span left right h k =
      unless_cond SoundMeaning (is_void left.of || is_void right.of) _ _ tt
      (λ e. let n = neither (is_void left.of) (is_void right.of) e in operator_sound left right n.0 n.1 h k operator)

  alone_sound : (operator : UnaryOperator) (value : Value) → is_void value.of ≡ false → ((x : Term) (of : FundamentalType) → Works of → Has classes locals x of → Has classes locals (term.Unary (core of) operator x) of) → Sound value → Sound (spec.alone operator value)
  alone_sound operator value v make h =
      let works = promoted_works value.of v in make (convert (promoted value.of) value).term (promoted value.of) works (convert_has (promoted value.of) value v works.valued h)

  complement_has : (x : Term) (of : FundamentalType) → Works of → Has classes locals x of → Has classes locals (term.Unary (core of) unary.Complement x) of
  complement_has x of w h = record { typed = (h.typed, (subst IsPromoted (sym h.type) w.is, sym h.type)); type = refl }

  negate_has : (x : Term) (of : FundamentalType) → Works of → Has classes locals x of → Has classes locals (term.Unary (core of) unary.Negate x) of
  negate_has x of w h = record { typed = (h.typed, (subst IsPromoted (sym h.type) w.is, sym h.type)); type = refl }

  negated_sound : (operator : UnaryOperator) (span : Span) (value : Value) → ((x : Term) (of : FundamentalType) → Works of → Has classes locals x of → Has classes locals (term.Unary (core of) operator x) of) → Sound value → Unless SoundMeaning (spec.negated operator span value)
  negated_sound operator span value make h = unless_cond SoundMeaning (is_void value.of) _ _ tt (λ e. alone_sound operator value e make h)

  denied_sound : (span : Span) (value : Value) → Sound value → Unless SoundMeaning (spec.denied span value)
  denied_sound span value h =
      unless_cond SoundMeaning (is_void value.of) _ _ tt (λ e. record { typed = (h.typed, (subst IsNumber (sym h.type) (number_core value.of e), refl)); type = refl })

  widened_sound : (span : Span) (value : Value) → Sound value → Unless SoundMeaning (spec.widened span value)
  widened_sound span value h =
      unless_cond SoundMeaning (is_void value.of) _ _ tt (λ e. convert_sound (promoted value.of) value e (promoted_works value.of e).valued h)

  -- ---- variables that are changed

  update_sound : (operator : Operator) (result : UpdateResult) (of : FundamentalType) (local : LocalId) (works : FundamentalType) (value : Value) → compares operator ≡ false → Works works → IsVariable locals local (core of) → is_void of ≡ false
      → IsTyped classes locals value.term → cond (shifts operator) (IsPromoted (type_of value.term)) (type_of value.term ≡ core works)
      → Unless SoundMeaning (spec.update operator result of local works value)
  update_sound operator result of local works value c w place n typed fits =
      record { typed = (tt, place, typed, refl, number_core of n, w.is, c, fits); type = refl }

  counted_one : (of : FundamentalType) → is_void of ≡ false → Has classes locals (term.Number (core (promoted of)) 1) (promoted of)
  counted_one f.Void e = absurd (false≢true (sym e))
  counted_one f.Bool e = record { typed = (refl, refl); type = refl }
  counted_one f.WideChar e = record { typed = (refl, refl); type = refl }
  counted_one f.SignedChar e = record { typed = (refl, refl); type = refl }
  counted_one f.UnsignedChar e = record { typed = (refl, refl); type = refl }
  counted_one f.Short e = record { typed = (refl, refl); type = refl }
  counted_one f.UnsignedShort e = record { typed = (refl, refl); type = refl }
  counted_one f.Int e = record { typed = (refl, refl); type = refl }
  counted_one f.UnsignedInt e = record { typed = (refl, refl); type = refl }
  counted_one f.LongLong e = record { typed = (refl, refl); type = refl }
  counted_one f.UnsignedLongLong e = record { typed = (refl, refl); type = refl }

  -- an operand of an update that is no shift
  fits_operand : (operator : Operator) (works : FundamentalType) (x : Term) → shifts operator ≡ false → type_of x ≡ core works → cond (shifts operator) (IsPromoted (type_of x)) (type_of x ≡ core works)
  fits_operand operator works x s e = subst (λ b. cond b (IsPromoted (type_of x)) (type_of x ≡ core works)) (sym s) e

  fits_count : (operator : Operator) (works : FundamentalType) (x : Term) → shifts operator ≡ true → IsPromoted (type_of x) → cond (shifts operator) (IsPromoted (type_of x)) (type_of x ≡ core works)
  fits_count operator works x s e = subst (λ b. cond b (IsPromoted (type_of x)) (type_of x ≡ core works)) (sym s) e

  counted_sound : (operator : Operator) (result : UpdateResult) (span : Span) (meaning : Meaning) → shifts operator ≡ false → compares operator ≡ false → SoundMeaning meaning → Unless SoundMeaning (spec.counted operator result span meaning)
  counted_sound operator result span (is_value value) s c h = tt
  counted_sound operator result span (is_place of local) s c h =
      unless_cond SoundMeaning (is_bool of) _ _ tt
      (λ e. let one = counted_one of h.1 in
      update_sound operator result of local (promoted of) (record { of = promoted of; term = term.Number (core (promoted of)) 1 }) c (promoted_works of h.1) h.0 h.1 one.typed (fits_operand operator (promoted of) (term.Number (core (promoted of)) 1) s one.type))
  counted_sound operator result span (are_functions at candidates) s c h = tt
  counted_sound operator result span (is_console at member) s c h = tt

  counted_of_sound : (operator : Operator) (result : UpdateResult) (span : Span) (meaning : Meaning) → shifts operator ≡ false → compares operator ≡ false → SoundMeaning meaning → Unless SoundMeaning (spec.counted_of operator result span meaning)
  counted_of_sound operator result span meaning s c h =
      next_unless SoundMeaning SoundMeaning (as_operand meaning) (spec.counted operator result span) (as_operand_sound meaning h) (λ made m. counted_sound operator result span made s c m)

  module _ (of : FundamentalType) (local : LocalId) (value : Value) (place : IsVariable locals local (core of)) (n : is_void of ≡ false) (v : is_void value.of ≡ false) (h : Has classes locals value.term value.of) where
    compound_sound : (operator : Operator) → shifts operator ≡ false → compares operator ≡ false → Unless SoundMeaning (spec.compound operator of local value)
    compound_sound operator s c =
        let works = common_works of value.of in
        let made = convert_has (common of value.of) value v works.valued h in
        update_sound operator New of local (common of value.of) (convert (common of value.of) value) c works place n made.typed (fits_operand operator (common of value.of) (convert (common of value.of) value).term s made.type)

    compound_shift_sound : (operator : Operator) → shifts operator ≡ true → compares operator ≡ false → Unless SoundMeaning (spec.compound_shift operator of local value)
    compound_shift_sound operator s c =
        let counts = promoted_works value.of v in
        let made = convert_has (promoted value.of) value v counts.valued h in
        update_sound operator New of local (promoted of) (convert (promoted value.of) value) c (promoted_works of n) place n made.typed
        (fits_count operator (promoted of) (convert (promoted value.of) value).term s (subst IsPromoted (sym made.type) counts.is))

    assignment_sound : (operator : AssignmentOperator) → Unless SoundMeaning (spec.assignment operator of local value)
    assignment_sound a.Assign =
        let made = convert_has of value v n h in record { typed = (tt, place, made.typed, refl, made.type); type = refl }
    assignment_sound a.Add = compound_sound op.Add refl refl
    assignment_sound a.Subtract = compound_sound op.Subtract refl refl
    assignment_sound a.Multiply = compound_sound op.Multiply refl refl
    assignment_sound a.Divide = compound_sound op.Divide refl refl
    assignment_sound a.Remainder = compound_sound op.Remainder refl refl
    assignment_sound a.ExclusiveOr = compound_sound op.ExclusiveOr refl refl
    assignment_sound a.And = compound_sound op.And refl refl
    assignment_sound a.Or = compound_sound op.Or refl refl
    assignment_sound a.ShiftLeft = compound_shift_sound op.ShiftLeft refl refl
    assignment_sound a.ShiftRight = compound_shift_sound op.ShiftRight refl refl

  pub assigned_sound : (operator : AssignmentOperator) (span : Span) (meaning : Meaning) (value : Value) → SoundMeaning meaning → Sound value → Unless SoundMeaning (spec.assigned operator span meaning value)
  assigned_sound operator span (is_value target) value m h = tt
  assigned_sound operator span (is_place of local) value m h =
      unless_cond SoundMeaning (is_void value.of) _ _ tt (λ e. assignment_sound of local value m.0 m.1 e h operator)
  assigned_sound operator span (are_functions at candidates) value m h = tt
  assigned_sound operator span (is_console at member) value m h = tt

  pub prefixed_sound : (operator : PrefixOperator) (span : Span) (meaning : Meaning) → SoundMeaning meaning → Unless SoundMeaning (spec.prefixed operator span meaning)
  prefixed_sound p.Not span meaning h = next_unless Sound SoundMeaning (as_value meaning) (spec.denied span) (as_value_sound meaning h) (denied_sound span)
  prefixed_sound p.Complement span meaning h =
      next_unless Sound SoundMeaning (as_value meaning) (spec.negated unary.Complement span) (as_value_sound meaning h) (λ value s. negated_sound unary.Complement span value complement_has s)
  prefixed_sound p.Negate span meaning h =
      next_unless Sound SoundMeaning (as_value meaning) (spec.negated unary.Negate span) (as_value_sound meaning h) (λ value s. negated_sound unary.Negate span value negate_has s)
  prefixed_sound p.Plus span meaning h = next_unless Sound SoundMeaning (as_value meaning) (spec.widened span) (as_value_sound meaning h) (widened_sound span)
  prefixed_sound p.Increment span meaning h = counted_of_sound op.Add New span meaning refl refl h
  prefixed_sound p.Decrement span meaning h = counted_of_sound op.Subtract New span meaning refl refl h
  prefixed_sound p.Handle span meaning h = next_unless Sound SoundMeaning (as_value meaning) (λ value. spec.no_conversion span) (as_value_sound meaning h) (λ value s. tt)

  pub postfixed_sound : (operator : PostfixOperator) (span : Span) (meaning : Meaning) → SoundMeaning meaning → Unless SoundMeaning (spec.postfixed operator span meaning)
  postfixed_sound post.Increment span meaning h = counted_of_sound op.Add Old span meaning refl refl h
  postfixed_sound post.Decrement span meaning h = counted_of_sound op.Subtract Old span meaning refl refl h

  chosen_sound : (of : FundamentalType) (condition first second : Value) → is_void condition.of ≡ false → Sound condition → Has classes locals (convert of first).term of → Has classes locals (convert of second).term of
      → Unless SoundMeaning (spec.chosen of condition first second)
  chosen_sound of condition first second v c h k =
      record { typed = (c.typed, h.typed, k.typed, subst IsNumber (sym c.type) (number_core condition.of v), h.type, k.type); type = refl }

  -- a value of the type itself stays
  convert_same : (to : FundamentalType) (value : Value) → (rank value.of == rank to) ≡ true → Has classes locals value.term value.of → Has classes locals (convert to value).term to
  convert_same to value e h =
      subst (λ same. Has classes locals (cond same value (record { of = to; term = term.Convert (core to) value.term })).term to) (sym e)
      (record { typed = h.typed; type = h.type ∙ same_core value.of to (eqb-true (rank value.of) (rank to) e) })

  pub conditional_sound : (span : Span) (condition first second : Value) → Sound condition → Sound first → Sound second → Unless SoundMeaning (spec.conditional span condition first second)
  conditional_sound span condition first second c h k =
      unless_cond SoundMeaning (is_void condition.of) _ _ tt (λ v. ⊎_elim
      (λ e. subst (λ same. Unless SoundMeaning (cond same (spec.chosen first.of condition first second) (cond (is_void first.of || is_void second.of) (spec.no_conversion span) (spec.chosen (common first.of second.of) condition first second)))) (sym e)
      (chosen_sound first.of condition first second v c (convert_same first.of first (eqb-refl (rank first.of)) h) (convert_same first.of second (eqb-flip (rank first.of) (rank second.of) e) k)))
      (λ e. subst (λ same. Unless SoundMeaning (cond same (spec.chosen first.of condition first second) (cond (is_void first.of || is_void second.of) (spec.no_conversion span) (spec.chosen (common first.of second.of) condition first second)))) (sym e)
      (unless_cond SoundMeaning (is_void first.of || is_void second.of) _ _ tt (λ n. let both = neither (is_void first.of) (is_void second.of) n in
      let works = common_works first.of second.of in
      chosen_sound (common first.of second.of) condition first second v c (convert_has (common first.of second.of) first both.0 works.valued h) (convert_has (common first.of second.of) second both.1 works.valued k))))
      (cases_Bool (rank first.of == rank second.of)))
