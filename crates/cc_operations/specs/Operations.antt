-- What operators, casts and calls make of typed operands, or why they are refused (ECMA-372, 14 and 15; ISO/IEC 14882:2003, 4 and 5). A conversion is made directly after its operand is evaluated.
use Rattle.std.specs.Prelude.{ℕ, List, [], ◌∷◌, map, length, cond, ◌||◌, ◌==◌, nat_lt, Option, Some, None, Ok, slice_get}
use Rattle.cc_base.specs.declared.text.Span.{Span}
use Rattle.cc_base.specs.declared.kind.Kind.TheVariants as kind
use Rattle.cc_base.specs.declared.identifiers.LocalId.{LocalId}
use Rattle.cc_base.specs.declared.identifiers.MethodId.{MethodId}
use Rattle.cc_tree.specs.declared.type_name.FundamentalType.{FundamentalType}
use Rattle.cc_tree.specs.declared.type_name.FundamentalType.TheVariants as f
use Rattle.cc_tree.specs.declared.expression.AssignmentOperator.{AssignmentOperator}
use Rattle.cc_tree.specs.declared.expression.AssignmentOperator.TheVariants as a
use Rattle.cc_tree.specs.declared.expression.BinaryOperator.{BinaryOperator}
use Rattle.cc_tree.specs.declared.expression.BinaryOperator.TheVariants as b
use Rattle.cc_tree.specs.declared.expression.PrefixOperator.{PrefixOperator}
use Rattle.cc_tree.specs.declared.expression.PrefixOperator.TheVariants as p
use Rattle.cc_tree.specs.declared.expression.PostfixOperator.{PostfixOperator}
use Rattle.cc_tree.specs.declared.expression.PostfixOperator.TheVariants as post
use Rattle.cc_tree.specs.declared.expression.CastWord.{CastWord}
use Rattle.cc_tree.specs.declared.expression.CastWord.TheVariants as word
use Rattle.cc_core.specs.declared.library_call.LibraryCall.{LibraryCall}
use Rattle.cc_core.specs.declared.library_call.LibraryCall.TheVariants as library
use Rattle.cc_core.specs.declared.library_call.Printed.TheVariants as printed
use Rattle.cc_core.specs.declared.tree.Dispatch.TheVariants.{Direct}
use Rattle.cc_core.specs.declared.tree.UpdateResult.{UpdateResult}
use Rattle.cc_core.specs.declared.tree.UpdateResult.TheVariants.{New, Old}
use Rattle.cc_core.specs.declared.types.Operator.{Operator}
use Rattle.cc_core.specs.declared.types.Operator.TheVariants as op
use Rattle.cc_core.specs.declared.types.UnaryOperator.{UnaryOperator}
use Rattle.cc_core.specs.declared.types.UnaryOperator.TheVariants as unary
use Rattle.cc_core.specs.Term as term
use Rattle.cc_core.specs.Term.{Term, Terms}
use Rattle.cc_operations.specs.declared.source.Known.{Known}
use Rattle.cc_operations.specs.declared.judged.ConsoleMember.{ConsoleMember}
use Rattle.cc_operations.specs.declared.judged.ConsoleMember.TheVariants as console
use Rattle.cc_operations.specs.Numbers.{core, is_void, is_bool, rank, promoted, common}
use Rattle.cc_operations.specs.Judgements.{Judged, refused, next, Value, Meaning, is_value, is_place, are_functions, is_console, as_value, as_operand, operand}
use Rattle.cc_operations.specs.Choosing.{Types, Pick, taken}

abbrev pub valued_as : FundamentalType → Term → Value
valued_as of made = record { of = of; term = made }

abbrev pub given_as : FundamentalType → Term → Judged Meaning
given_as of made = Ok (is_value (valued_as of made))

abbrev pub constant : FundamentalType → ℕ → Meaning
constant of value = is_value (valued_as of (term.Number (core of) value))

abbrev pub no_conversion : {A : Type 0} → Span → Judged A
no_conversion span = refused kind.NoConversion span

-- ---- conversions

-- a value of a type of numbers as one of another
abbrev pub convert : FundamentalType → Value → Value
convert to value = cond (rank value.of == rank to) value (valued_as to (term.Convert (core to) value.term))

-- what has no value is converted to nothing, and nothing to `void`
abbrev pub converted : Span → FundamentalType → Value → Judged Value
converted span to value = cond (is_void value.of || is_void to) (no_conversion span) (Ok (convert to value))

abbrev pub cast_to : Span → FundamentalType → Value → Judged Meaning
cast_to span to value = next (converted span to value) (λ made. Ok (is_value made))

-- a `dynamic_cast` takes handles alone
abbrev pub named_cast : CastWord → Span → FundamentalType → Value → Judged Meaning
named_cast word.Safe span to value = cast_to span to value
named_cast word.Static span to value = cast_to span to value
named_cast word.Dynamic span to value = no_conversion span

abbrev pub constructed : Span → FundamentalType → List Value → Judged Meaning
constructed span to [] = no_conversion span
constructed span to (value ∷ []) = cast_to span to value
constructed span to (value ∷ second ∷ more) = no_conversion span

-- ---- operators

-- operands are promoted; an operation has their common type, a comparison gives a `bool`, and a shift has the type of its left operand
abbrev pub operation : Operator → Value → Value → Value
operation operator left right =
    let of = common left.of right.of in
    valued_as of (term.Binary (core of) operator (convert of left).term (convert of right).term)

abbrev pub comparison : Operator → Value → Value → Value
comparison operator left right =
    let of = common left.of right.of in
    valued_as f.Bool (term.Binary (core f.Bool) operator (convert of left).term (convert of right).term)

abbrev pub shift : Operator → Value → Value → Value
shift operator left right =
    let of = promoted left.of in
    valued_as of (term.Binary (core of) operator (convert of left).term (convert (promoted right.of) right).term)

abbrev pub of_operator : BinaryOperator → Value → Value → Value
of_operator b.LogicalOr left right = valued_as f.Bool (term.Or (core f.Bool) left.term right.term)
of_operator b.LogicalAnd left right = valued_as f.Bool (term.And (core f.Bool) left.term right.term)
of_operator b.Or left right = operation op.Or left right
of_operator b.ExclusiveOr left right = operation op.ExclusiveOr left right
of_operator b.And left right = operation op.And left right
of_operator b.Equal left right = comparison op.Equal left right
of_operator b.NotEqual left right = comparison op.NotEqual left right
of_operator b.Less left right = comparison op.Less left right
of_operator b.Greater left right = comparison op.Greater left right
of_operator b.LessOrEqual left right = comparison op.LessOrEqual left right
of_operator b.GreaterOrEqual left right = comparison op.GreaterOrEqual left right
of_operator b.ShiftLeft left right = shift op.ShiftLeft left right
of_operator b.ShiftRight left right = shift op.ShiftRight left right
of_operator b.Add left right = operation op.Add left right
of_operator b.Subtract left right = operation op.Subtract left right
of_operator b.Multiply left right = operation op.Multiply left right
of_operator b.Divide left right = operation op.Divide left right
of_operator b.Remainder left right = operation op.Remainder left right

abbrev pub binary : BinaryOperator → Span → Value → Value → Judged Meaning
binary operator span left right = cond (is_void left.of || is_void right.of) (no_conversion span) (Ok (is_value (of_operator operator left right)))

abbrev pub alone : UnaryOperator → Value → Value
alone operator value = valued_as (promoted value.of) (term.Unary (core (promoted value.of)) operator (convert (promoted value.of) value).term)

abbrev pub negated : UnaryOperator → Span → Value → Judged Meaning
negated operator span value = cond (is_void value.of) (no_conversion span) (Ok (is_value (alone operator value)))

abbrev pub denied : Span → Value → Judged Meaning
denied span value = cond (is_void value.of) (no_conversion span) (given_as f.Bool (term.Unary (core f.Bool) unary.Not value.term))

abbrev pub widened : Span → Value → Judged Meaning
widened span value = cond (is_void value.of) (no_conversion span) (Ok (is_value (convert (promoted value.of) value)))

-- ---- variables that are changed

abbrev pub update : Operator → UpdateResult → FundamentalType → LocalId → FundamentalType → Value → Judged Meaning
update operator result of local works value = given_as of (term.Update (core of) operator (core works) result (term.Local (core of) local) value.term)

-- `++` and `--` take variables of all types but `bool`
abbrev pub counted : Operator → UpdateResult → Span → Meaning → Judged Meaning
counted operator result span (is_value value) = refused kind.NotAssignable span
counted operator result span (is_place of local) =
    cond (is_bool of) (no_conversion span) (update operator result of local (promoted of) (valued_as (promoted of) (term.Number (core (promoted of)) 1)))
counted operator result span (are_functions at candidates) = no_conversion span
counted operator result span (is_console at member) = no_conversion span

abbrev pub compound : Operator → FundamentalType → LocalId → Value → Judged Meaning
compound operator of local value = update operator New of local (common of value.of) (convert (common of value.of) value)

abbrev pub compound_shift : Operator → FundamentalType → LocalId → Value → Judged Meaning
compound_shift operator of local value = update operator New of local (promoted of) (convert (promoted value.of) value)

abbrev pub assignment : AssignmentOperator → FundamentalType → LocalId → Value → Judged Meaning
assignment a.Assign of local value = given_as of (term.Assign (core of) (term.Local (core of) local) (convert of value).term)
assignment a.Add of local value = compound op.Add of local value
assignment a.Subtract of local value = compound op.Subtract of local value
assignment a.Multiply of local value = compound op.Multiply of local value
assignment a.Divide of local value = compound op.Divide of local value
assignment a.Remainder of local value = compound op.Remainder of local value
assignment a.ExclusiveOr of local value = compound op.ExclusiveOr of local value
assignment a.And of local value = compound op.And of local value
assignment a.Or of local value = compound op.Or of local value
assignment a.ShiftLeft of local value = compound_shift op.ShiftLeft of local value
assignment a.ShiftRight of local value = compound_shift op.ShiftRight of local value

abbrev pub assigned : AssignmentOperator → Span → Meaning → Value → Judged Meaning
assigned operator span (is_value target) value = refused kind.NotAssignable span
assigned operator span (is_place of local) value = cond (is_void value.of) (no_conversion span) (assignment operator of local value)
assigned operator span (are_functions at candidates) value = no_conversion span
assigned operator span (is_console at member) value = no_conversion span

abbrev pub with_operand : {B : Type 0} → Judged Meaning → (Meaning → Judged B) → Judged B
with_operand judged step = next (operand judged) step

abbrev pub counted_of : Operator → UpdateResult → Span → Meaning → Judged Meaning
counted_of operator result span meaning = next (as_operand meaning) (counted operator result span)

abbrev pub prefixed : PrefixOperator → Span → Meaning → Judged Meaning
prefixed p.Not span meaning = next (as_value meaning) (denied span)
prefixed p.Complement span meaning = next (as_value meaning) (negated unary.Complement span)
prefixed p.Negate span meaning = next (as_value meaning) (negated unary.Negate span)
prefixed p.Plus span meaning = next (as_value meaning) (widened span)
prefixed p.Increment span meaning = counted_of op.Add New span meaning
prefixed p.Decrement span meaning = counted_of op.Subtract New span meaning
prefixed p.Handle span meaning = next (as_value meaning) (λ value. no_conversion span)

abbrev pub postfixed : PostfixOperator → Span → Meaning → Judged Meaning
postfixed post.Increment span meaning = counted_of op.Add Old span meaning
postfixed post.Decrement span meaning = counted_of op.Subtract Old span meaning

-- Both sides have one type, or are numbers with a common type.
abbrev pub chosen : FundamentalType → Value → Value → Value → Judged Meaning
chosen of condition first second = given_as of (term.Choose (core of) condition.term (convert of first).term (convert of second).term)

abbrev pub conditional : Span → Value → Value → Value → Judged Meaning
conditional span condition first second =
    cond (is_void condition.of) (no_conversion span)
    (cond (rank first.of == rank second.of) (chosen first.of condition first second)
    (cond (is_void first.of || is_void second.of) (no_conversion span)
    (chosen (common first.of second.of) condition first second)))

-- ---- calls

-- the arguments, each converted for its parameter
abbrev pub passed : Types → List Value → Terms
passed [] values = term.no_terms
passed (of ∷ types) [] = term.no_terms
passed (of ∷ types) (value ∷ values) = term.next_term (convert of value).term (passed types values)

abbrev pub types_of : List Value → Types
types_of values = map (λ value. value.of) values

-- the functions outside classes have the first numbers, since the library's have none yet
abbrev pub method_at : ℕ → MethodId
method_at at = record { 0 = at }

abbrev pub parameters_at : List Known → ℕ → Types
parameters_at functions at = elim (slice_get functions at) [ None ↦ [] | Some one ↦ one.parameters ]

abbrev pub call_of : Span → ℕ → Option Known → List Value → Judged Meaning
call_of span at None values = no_conversion span
call_of span at (Some one) values =
    cond (nat_lt 250 (length values)) (refused kind.TooManyArguments span)
    (given_as one.result (term.Call (core one.result) (method_at at) Direct (passed one.parameters values)))

abbrev pub call_at : Span → List Known → List Value → Option ℕ → Judged Meaning
call_at span functions values None = no_conversion span
call_at span functions values (Some at) = call_of span at (slice_get functions at) values

abbrev pub called : Pick → Span → List Known → List ℕ → List Value → Judged Meaning
called pick span functions candidates values =
    next (taken (pick (map (parameters_at functions) candidates) (types_of values)) span) (λ best. call_at span functions values (slice_get candidates best))

-- the functions of a member of the console, in order of declaration: what each does, and what it takes
abbrev pub Row : Type 0
Row = LibraryCall × Types

abbrev pub console_rows : ConsoleMember → List Row
console_rows console.Write =
    (library.Write printed.I32, f.Int ∷ []) ∷ (library.Write printed.U32, f.UnsignedInt ∷ []) ∷ (library.Write printed.I64, f.LongLong ∷ [])
    ∷ (library.Write printed.U64, f.UnsignedLongLong ∷ []) ∷ (library.Write printed.Bool, f.Bool ∷ []) ∷ (library.Write printed.Char, f.WideChar ∷ []) ∷ []
console_rows console.WriteLine =
    (library.WriteEmptyLine, [])
    ∷ (library.WriteLine printed.I32, f.Int ∷ []) ∷ (library.WriteLine printed.U32, f.UnsignedInt ∷ []) ∷ (library.WriteLine printed.I64, f.LongLong ∷ [])
    ∷ (library.WriteLine printed.U64, f.UnsignedLongLong ∷ []) ∷ (library.WriteLine printed.Bool, f.Bool ∷ []) ∷ (library.WriteLine printed.Char, f.WideChar ∷ []) ∷ []

abbrev pub library_call : Span → Option Row → List Value → Judged Meaning
library_call span None values = no_conversion span
library_call span (Some row) values = given_as f.Void (term.Library (core f.Void) row.0 (passed row.1 values))

abbrev pub console_called : Pick → Span → ConsoleMember → List Value → Judged Meaning
console_called pick span member values =
    next (taken (pick (map (λ row. row.1) (console_rows member)) (types_of values)) span) (λ best. library_call span (slice_get (console_rows member) best) values)

abbrev pub call : Pick → Span → List Known → Meaning → List Value → Judged Meaning
call pick span functions (is_value value) values = no_conversion span
call pick span functions (is_place of local) values = no_conversion span
call pick span functions (are_functions at candidates) values = called pick span functions candidates values
call pick span functions (is_console at member) values = console_called pick span member values
