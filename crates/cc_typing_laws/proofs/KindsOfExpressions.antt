-- The kinds by which expressions are refused.
use Rattle.std.proofs.Common.{◌≡◌, ℕ, Bool, true, false, cond, ◌||◌, ◌==◌, nat_lt, List, [], ◌∷◌, ◌++◌, map, length, codes, Option, Some, None, Ok, Err, slice_get, refl, sym, subst}
use Rattle.std.specs.Prelude.{⊤}
use Rattle.std.specs.Str.{bytes_eq}
use Rattle.cc_base.specs.declared.text.Span.{Span}
use Rattle.cc_base.specs.declared.kind.Kind.TheVariants as kind
use Rattle.cc_tree.specs.declared.identifier.Identifier.{Identifier}
use Rattle.cc_tree.specs.declared.type_name.FundamentalType.{FundamentalType}
use Rattle.cc_tree.specs.declared.type_name.FundamentalType.TheVariants as f
use Rattle.cc_core.specs.Term as term
use Rattle.cc_core.specs.declared.tree.Dispatch.TheVariants.{Direct}
use Rattle.cc_tree.specs.declared.expression.AssignmentOperator.{AssignmentOperator}
use Rattle.cc_tree.specs.declared.expression.AssignmentOperator.TheVariants as a
use Rattle.cc_tree.specs.declared.expression.BinaryOperator.{BinaryOperator}
use Rattle.cc_tree.specs.declared.expression.PrefixOperator.{PrefixOperator}
use Rattle.cc_tree.specs.declared.expression.PrefixOperator.TheVariants as p
use Rattle.cc_tree.specs.declared.expression.PostfixOperator.{PostfixOperator}
use Rattle.cc_tree.specs.declared.expression.PostfixOperator.TheVariants as post
use Rattle.cc_tree.specs.declared.expression.CastWord.{CastWord}
use Rattle.cc_tree.specs.declared.expression.CastWord.TheVariants as word
use Rattle.cc_tree.specs.declared.expression.Expression.{Expression, Expression-F, roll-Expression, fold-roll-Expression, map-Expression, ind-Expression}
use Rattle.cc_tree.specs.declared.expression.Arguments.{Arguments, roll-Arguments, fold-roll-Arguments, map-Arguments}
use Rattle.cc_tree.specs.declared.expression.Expression.TheOpen as e
use Rattle.cc_core.specs.declared.tree.UpdateResult.{UpdateResult}
use Rattle.cc_core.specs.declared.tree.UpdateResult.TheVariants.{New, Old}
use Rattle.cc_core.specs.declared.types.Operator.{Operator}
use Rattle.cc_core.specs.declared.types.Operator.TheVariants as op
use Rattle.cc_core.specs.declared.types.UnaryOperator.TheVariants as unary
use Rattle.cc_base.specs.declared.identifiers.LocalId.{LocalId}
use Rattle.cc_convert.specs.declared.overload.Choice.{Choice}
use Rattle.cc_convert.specs.declared.overload.Choice.TheVariants as choice
use Rattle.cc_operations.specs.declared.source.Source.{Source}
use Rattle.cc_operations.specs.declared.source.Frame.{Frame}
use Rattle.cc_operations.specs.declared.source.Known.{Known}
use Rattle.cc_operations.specs.declared.source.Variable.{Variable}
use Rattle.cc_operations.specs.declared.judged.ConsoleMember.TheVariants.{Write, WriteLine}
use Rattle.cc_operations.specs.Choosing.{Pick, taken}
use Rattle.cc_operations.specs.Numbers.{core, is_void, is_bool, rank, promoted, common, written}
use Rattle.cc_operations.specs.Judgements.{Judged, refused, next, Value, Meaning, is_value, is_place, are_functions, is_console, as_value, as_operand, valued, operand, with_value, all_values}
use Rattle.cc_operations.specs.Operations as spec
use Rattle.cc_terms.specs.Resolving.{Finds, Path, candidates_by, numbered, functions_or_unknown, by_found, plain, resolved, newest, console_named, those, stands_there, path_from, unknown}
use Rattle.cc_terms.specs.Terms.{expression_layer, arguments_layer, typed, typed_arguments, typed_value}
use Rattle.cc_typing_laws.specs.Laws.{is_typing_kind}
use Rattle.cc_typing_laws.proofs.Lists.{Each}

-- a refusal is of a kind by which typing refuses
abbrev pub Kept : {A : Type 0} → Judged A → Type 0
Kept (Ok made) = ⊤
Kept (Err refusal) = is_typing_kind refusal.kind ≡ true

pub next_kept : {A B : Type 0} (judged : Judged A) (step : A → Judged B) → Kept judged → ((made : A) → Kept (step made)) → Kept (next judged step)
next_kept (Ok made) step h k = k made
next_kept (Err refusal) step h k = h

pub cond_kept : {A : Type 0} (test : Bool) (one other : Judged A) → Kept one → Kept other → Kept (cond test one other)
cond_kept true one other h k = h
cond_kept false one other h k = k

-- ---- operators

as_value_kept : (meaning : Meaning) → Kept (as_value meaning)
as_value_kept (is_value value) = tt
as_value_kept (is_place of local) = tt
as_value_kept (are_functions span candidates) = refl
as_value_kept (is_console span member) = refl

as_operand_kept : (meaning : Meaning) → Kept (as_operand meaning)
as_operand_kept (is_value value) = tt
as_operand_kept (is_place of local) = tt
as_operand_kept (are_functions span candidates) = refl
as_operand_kept (is_console span member) = refl

pub with_kept : {B : Type 0} (judged : Judged Meaning) (step : Value → Judged B) → Kept judged → ((value : Value) → Kept (step value)) → Kept (with_value judged step)
with_kept judged step h k = next_kept (valued judged) step (next_kept judged as_value h as_value_kept) k

pub converted_kept : (span : Span) (to : FundamentalType) (value : Value) → Kept (spec.converted span to value)
converted_kept span to value = cond_kept (is_void value.of || is_void to) (spec.no_conversion span) (Ok (spec.convert to value)) refl tt

cast_kept : (span : Span) (to : FundamentalType) (value : Value) → Kept (spec.cast_to span to value)
cast_kept span to value = next_kept (spec.converted span to value) (λ made. Ok (is_value made)) (converted_kept span to value) (λ made. tt)

named_kept : (which : CastWord) (span : Span) (to : FundamentalType) (value : Value) → Kept (spec.named_cast which span to value)
named_kept word.Safe span to value = cast_kept span to value
named_kept word.Static span to value = cast_kept span to value
named_kept word.Dynamic span to value = refl

constructed_kept : (span : Span) (to : FundamentalType) (values : List Value) → Kept (spec.constructed span to values)
constructed_kept span to [] = refl
constructed_kept span to (value ∷ []) = cast_kept span to value
constructed_kept span to (value ∷ second ∷ more) = refl

binary_kept : (operator : BinaryOperator) (span : Span) (left right : Value) → Kept (spec.binary operator span left right)
binary_kept operator span left right = cond_kept (is_void left.of || is_void right.of) (spec.no_conversion span) (Ok (is_value (spec.of_operator operator left right))) refl tt

counted_kept : (operator : Operator) (result : UpdateResult) (span : Span) (meaning : Meaning) → Kept (spec.counted operator result span meaning)
counted_kept operator result span (is_value value) = refl
counted_kept operator result span (is_place of local) = if_bool (is_bool of)
  where
    if_bool : (b : Bool) → Kept (cond b (spec.no_conversion span) (Ok (is_value (spec.valued_as of (term.Update (core of) operator (core (promoted of)) result (term.Local (core of) local) (term.Number (core (promoted of)) 1))))))
    if_bool true = refl
    if_bool false = tt
counted_kept operator result span (are_functions at candidates) = refl
counted_kept operator result span (is_console at member) = refl

counted_of_kept : (operator : Operator) (result : UpdateResult) (span : Span) (meaning : Meaning) → Kept (spec.counted_of operator result span meaning)
counted_of_kept operator result span meaning = next_kept (as_operand meaning) (spec.counted operator result span) (as_operand_kept meaning) (counted_kept operator result span)

assignment_kept : (operator : AssignmentOperator) (of : FundamentalType) (local : LocalId) (value : Value) → Kept (spec.assignment operator of local value)
assignment_kept a.Assign of local value = tt
assignment_kept a.Add of local value = tt
assignment_kept a.Subtract of local value = tt
assignment_kept a.Multiply of local value = tt
assignment_kept a.Divide of local value = tt
assignment_kept a.Remainder of local value = tt
assignment_kept a.ExclusiveOr of local value = tt
assignment_kept a.And of local value = tt
assignment_kept a.Or of local value = tt
assignment_kept a.ShiftLeft of local value = tt
assignment_kept a.ShiftRight of local value = tt

assigned_kept : (operator : AssignmentOperator) (span : Span) (meaning : Meaning) (value : Value) → Kept (spec.assigned operator span meaning value)
assigned_kept operator span (is_value target) value = refl
assigned_kept operator span (is_place of local) value = cond_kept (is_void value.of) (spec.no_conversion span) (spec.assignment operator of local value) refl (assignment_kept operator of local value)
assigned_kept operator span (are_functions at candidates) value = refl
assigned_kept operator span (is_console at member) value = refl

-- an operator before its operand that takes values
alone_kept : (span : Span) (meaning : Meaning) (step : Value → Judged Meaning) → ((value : Value) → Kept (step value)) → Kept (next (as_value meaning) step)
alone_kept span meaning step h = next_kept (as_value meaning) step (as_value_kept meaning) h

prefixed_kept : (operator : PrefixOperator) (span : Span) (meaning : Meaning) → Kept (spec.prefixed operator span meaning)
prefixed_kept p.Not span meaning = alone_kept span meaning (spec.denied span) (λ value. cond_kept (is_void value.of) (spec.no_conversion span) (Ok (is_value (spec.valued_as f.Bool (term.Unary (core f.Bool) unary.Not value.term)))) refl tt)
prefixed_kept p.Complement span meaning = alone_kept span meaning (spec.negated unary.Complement span) (λ value. cond_kept (is_void value.of) (spec.no_conversion span) (Ok (is_value (spec.alone unary.Complement value))) refl tt)
prefixed_kept p.Negate span meaning = alone_kept span meaning (spec.negated unary.Negate span) (λ value. cond_kept (is_void value.of) (spec.no_conversion span) (Ok (is_value (spec.alone unary.Negate value))) refl tt)
prefixed_kept p.Plus span meaning = alone_kept span meaning (spec.widened span) (λ value. cond_kept (is_void value.of) (spec.no_conversion span) (Ok (is_value (spec.convert (promoted value.of) value))) refl tt)
prefixed_kept p.Increment span meaning = counted_of_kept op.Add New span meaning
prefixed_kept p.Decrement span meaning = counted_of_kept op.Subtract New span meaning
prefixed_kept p.Handle span meaning = alone_kept span meaning (λ value. spec.no_conversion span) (λ value. refl)

postfixed_kept : (operator : PostfixOperator) (span : Span) (meaning : Meaning) → Kept (spec.postfixed operator span meaning)
postfixed_kept post.Increment span meaning = counted_of_kept op.Add Old span meaning
postfixed_kept post.Decrement span meaning = counted_of_kept op.Subtract Old span meaning

conditional_kept : (span : Span) (condition first second : Value) → Kept (spec.conditional span condition first second)
conditional_kept span condition first second =
    cond_kept (is_void condition.of) (spec.no_conversion span)
    (cond (rank first.of == rank second.of) (spec.chosen first.of condition first second) (cond (is_void first.of || is_void second.of) (spec.no_conversion span) (spec.chosen (common first.of second.of) condition first second))) refl
    (cond_kept (rank first.of == rank second.of) (spec.chosen first.of condition first second) (cond (is_void first.of || is_void second.of) (spec.no_conversion span) (spec.chosen (common first.of second.of) condition first second)) tt
    (cond_kept (is_void first.of || is_void second.of) (spec.no_conversion span) (spec.chosen (common first.of second.of) condition first second) refl tt))

-- ---- calls

taken_kept : (made : Choice) (span : Span) → Kept (taken made span)
taken_kept (choice.One best) span = tt
taken_kept choice.None span = refl
taken_kept (choice.Tie first second) span = refl

call_of_kept : (span : Span) (at : ℕ) (one : Option Known) (values : List Value) → Kept (spec.call_of span at one values)
call_of_kept span at None values = refl
call_of_kept span at (Some one) values = if_many (nat_lt 250 (length values)) (is_value (spec.valued_as one.result (term.Call (core one.result) (spec.method_at at) Direct (spec.passed one.parameters values))))
  where
    if_many : (b : Bool) (made : Meaning) → Kept (cond b (refused kind.TooManyArguments span) (Ok made))
    if_many true made = refl
    if_many false made = tt

call_at_kept : (span : Span) (functions : List Known) (values : List Value) (found : Option ℕ) → Kept (spec.call_at span functions values found)
call_at_kept span functions values None = refl
call_at_kept span functions values (Some at) = call_of_kept span at (slice_get functions at) values

library_kept : (span : Span) (row : Option spec.Row) (values : List Value) → Kept (spec.library_call span row values)
library_kept span None values = refl
library_kept span (Some row) values = tt

call_kept : (pick : Pick) (span : Span) (functions : List Known) (meaning : Meaning) (values : List Value) → Kept (spec.call pick span functions meaning values)
call_kept pick span functions (is_value value) values = refl
call_kept pick span functions (is_place of local) values = refl
call_kept pick span functions (are_functions at candidates) values =
    next_kept (taken (pick (map (spec.parameters_at functions) candidates) (spec.types_of values)) span) (λ best. spec.call_at span functions values (slice_get candidates best))
    (taken_kept (pick (map (spec.parameters_at functions) candidates) (spec.types_of values)) span) (λ best. call_at_kept span functions values (slice_get candidates best))
call_kept pick span functions (is_console at member) values =
    next_kept (taken (pick (map (λ row. row.1) (spec.console_rows member)) (spec.types_of values)) span) (λ best. spec.library_call span (slice_get (spec.console_rows member) best) values)
    (taken_kept (pick (map (λ row. row.1) (spec.console_rows member)) (spec.types_of values)) span) (λ best. library_kept span (slice_get (spec.console_rows member) best) values)

-- ---- names

functions_kept : (span : Span) (candidates : List ℕ) → Kept (functions_or_unknown span candidates)
functions_kept span [] = refl
functions_kept span (first ∷ candidates) = tt

found_kept : (source : Source) (here : Path) (span : Span) (name : List ℕ) (found : Option ℕ) → Kept (by_found source here span name found)
found_kept source here span name None = refl
found_kept source here span name (Some number) = functions_kept span (candidates_by source here span.first name (numbered number source.functions))

plain_kept : (finds : Finds) (source : Source) (frame : Frame) (name : List ℕ) (span : Span) (found : Option Variable) → Kept (plain finds source frame name span found)
plain_kept finds source frame name span (Some one) = tt
plain_kept finds source frame name span None = found_kept source frame.path span name (finds frame.scope span.first name)

resolved_kept : (finds : Finds) (source : Source) (frame : Frame) (path : List Identifier) (name : Identifier) (span : Span) → Kept (resolved finds source frame path name span)
resolved_kept finds source frame [] name span = plain_kept finds source frame name.name span (newest name.name frame.variables)
resolved_kept finds source frame (outer ∷ path) name span = functions_kept span (those (stands_there (path_from [] (outer ∷ path)) name.name) source.functions)

console_kept : (name : List ℕ) (span : Span) → Kept (console_named name span)
console_kept name span =
    cond_kept (bytes_eq name (codes "Write")) (Ok (is_console span Write)) (cond (bytes_eq name (codes "WriteLine")) (Ok (is_console span WriteLine)) (unknown span)) tt
    (cond_kept (bytes_eq name (codes "WriteLine")) (Ok (is_console span WriteLine)) (unknown span) tt refl)

all_values_kept : (judged : List (Judged Meaning)) (values : List Value) → Each Kept judged → Kept (all_values values judged)
all_values_kept [] values h = tt
all_values_kept (one ∷ more) values h = with_kept one (λ value. all_values (values ++ value ∷ []) more) h.0 (λ value. all_values_kept more (values ++ value ∷ []) h.1)

-- ---- all forms

module _ (pick : Pick) (finds : Finds) (source : Source) (frame : Frame) where
  abbrev means : Expression → Judged Meaning
  means = typed pick finds source frame

  abbrev mean : Arguments → Judged (List Value)
  mean = typed_arguments pick finds source frame

  abbrev KeptExpression : Type 0
  KeptExpression = (x : Expression) × Kept (means x)

  abbrev KeptArguments : Type 0
  KeptArguments = (x : Arguments) × Kept (mean x)

  abbrev bare_layer : Expression-F KeptExpression KeptArguments → Expression-F Expression Arguments
  bare_layer = map-Expression KeptExpression KeptArguments Expression Arguments (λ k. k.0) (λ k. k.0)

  layer_kept : (y : Expression-F KeptExpression KeptArguments) → Kept (expression_layer pick finds source frame (map-Expression Expression Arguments (Judged Meaning) (Judged (List Value)) means mean (bare_layer y)))
  layer_kept (e.Assign left operator right span) =
      next_kept (operand (means left.0)) (λ target. with_value (means right.0) (spec.assigned operator span target)) (next_kept (means left.0) as_operand left.1 as_operand_kept)
      (λ target. with_kept (means right.0) (spec.assigned operator span target) right.1 (assigned_kept operator span target))
  layer_kept (e.Conditional condition first second span) =
      with_kept (means condition.0) (λ test. with_value (means first.0) (λ one. with_value (means second.0) (spec.conditional span test one))) condition.1
      (λ test. with_kept (means first.0) (λ one. with_value (means second.0) (spec.conditional span test one)) first.1
      (λ one. with_kept (means second.0) (spec.conditional span test one) second.1 (conditional_kept span test one)))
  layer_kept (e.Binary left operator right span) =
      with_kept (means left.0) (λ one. with_value (means right.0) (spec.binary operator span one)) left.1 (λ one. with_kept (means right.0) (spec.binary operator span one) right.1 (binary_kept operator span one))
  layer_kept (e.Prefix operator x span) = next_kept (means x.0) (spec.prefixed operator span) x.1 (prefixed_kept operator span)
  layer_kept (e.Cast of x span) = with_kept (means x.0) (spec.cast_to span (written of)) x.1 (cast_kept span (written of))
  layer_kept (e.Index x y span) = refl
  layer_kept (e.Call x arguments span) =
      next_kept (means x.0) (λ callee. next (mean arguments.0) (spec.call pick span source.functions callee)) x.1
      (λ callee. next_kept (mean arguments.0) (spec.call pick span source.functions callee) arguments.1 (call_kept pick span source.functions callee))
  layer_kept (e.Member x selects name types span) = refl
  layer_kept (e.Finaliser x selects name span) = refl
  layer_kept (e.Postfix x operator span) = next_kept (means x.0) (spec.postfixed operator span) x.1 (postfixed_kept operator span)
  layer_kept (e.Number value ending base span) = tt
  layer_kept (e.Character unit span) = tt
  layer_kept (e.Strings texts span) = refl
  layer_kept (e.True span) = tt
  layer_kept (e.False span) = tt
  layer_kept (e.Nullptr span) = refl
  layer_kept (e.This span) = refl
  layer_kept (e.Group x span) = x.1
  layer_kept (e.Name path name types span) = resolved_kept finds source frame path name span
  layer_kept (e.StaticMember of name span) = console_kept name.name span
  layer_kept (e.Construct of arguments span) = next_kept (mean arguments.0) (spec.constructed span (written of)) arguments.1 (constructed_kept span (written of))
  layer_kept (e.New of arguments elements span) = refl
  layer_kept (e.NamedCast which of x span) = with_kept (means x.0) (spec.named_cast which span (written of)) x.1 (named_kept which span (written of))

  each_kept : (ys : List KeptExpression) → Each Kept (map means (map (λ k. k.0) ys))
  each_kept [] = tt
  each_kept (y ∷ ys) = (y.1, each_kept ys)

  pub expression_kept : (x : Expression) → Kept (means x)
  expression_kept =
      ind-Expression (λ x. Kept (means x)) (λ x. Kept (mean x))
      (λ x y is. subst (λ z. Kept (means (roll-Expression z))) is
      (subst Kept (sym (fold-roll-Expression (Judged Meaning) (Judged (List Value)) (expression_layer pick finds source frame) (arguments_layer pick finds source frame) (bare_layer y))) (layer_kept y)))
      (λ x y is. subst (λ z. Kept (mean (roll-Arguments z))) is
      (subst Kept (sym (fold-roll-Arguments (Judged Meaning) (Judged (List Value)) (expression_layer pick finds source frame) (arguments_layer pick finds source frame) (map-Arguments KeptExpression KeptArguments Expression Arguments (λ k. k.0) (λ k. k.0) y)))
      (all_values_kept (map means (map (λ k. k.0) y.items)) [] (each_kept y.items))))

  pub value_kept : (x : Expression) → Kept (typed_value pick finds source frame x)
  value_kept x = next_kept (means x) as_value (expression_kept x) as_value_kept
