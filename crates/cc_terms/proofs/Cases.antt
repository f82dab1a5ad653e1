-- What typing makes of each form of expression, by what it makes of the parts.
use Rattle.std.proofs.Common.{◌≡◌, List, sym, ap, ◌∙◌, Ok, Err}
use Rattle.cc_base.specs.declared.text.Span.{Span}
use Rattle.cc_tree.specs.declared.type_name.TypeName.{TypeName}
use Rattle.cc_tree.specs.declared.expression.AssignmentOperator.{AssignmentOperator}
use Rattle.cc_tree.specs.declared.expression.BinaryOperator.{BinaryOperator}
use Rattle.cc_tree.specs.declared.expression.PrefixOperator.{PrefixOperator}
use Rattle.cc_tree.specs.declared.expression.PostfixOperator.{PostfixOperator}
use Rattle.cc_tree.specs.declared.expression.CastWord.{CastWord}
use Rattle.cc_tree.specs.declared.expression.Expression.{Expression, Expression-F, roll-Expression, fold-roll-Expression, map-Expression}
use Rattle.cc_tree.specs.declared.expression.Expression.TheOpen as layer
use Rattle.cc_tree.specs.declared.expression.Expression.TheVariants as e
use Rattle.cc_tree.specs.declared.expression.Arguments.{Arguments}
use Rattle.cc_operations.specs.declared.judged.Refusal.{Refusal}
use Rattle.cc_operations.specs.declared.source.Source.{Source}
use Rattle.cc_operations.specs.declared.source.Frame.{Frame}
use Rattle.cc_operations.specs.Choosing.{Pick}
use Rattle.cc_operations.specs.Numbers.{written}
use Rattle.cc_operations.specs.Judgements.{Judged, next, Value, Meaning, operand}
use Rattle.cc_operations.specs.Operations.{assigned, conditional, binary, prefixed, postfixed, cast_to, named_cast, constructed, call}
use Rattle.cc_terms.specs.Resolving.{Finds}
use Rattle.cc_terms.specs.Terms.{expression_layer, arguments_layer, typed, typed_arguments, typed_value}
use Rattle.cc_terms.proofs.Going.{ended, went}

module _ (pick : Pick) (finds : Finds) (source : Source) (frame : Frame) where
  abbrev means : Expression → Judged Meaning
  means = typed pick finds source frame

  abbrev gives : Expression → Judged Value
  gives = typed_value pick finds source frame

  abbrev give : Arguments → Judged (List Value)
  give = typed_arguments pick finds source frame

  opened : (l : Expression-F Expression Arguments)
      → means (roll-Expression l) ≡ expression_layer pick finds source frame (map-Expression Expression Arguments (Judged Meaning) (Judged (List Value)) means give l)
  opened = fold-roll-Expression (Judged Meaning) (Judged (List Value)) (expression_layer pick finds source frame) (arguments_layer pick finds source frame)

  module _ (x : Expression) (left : Expression) (operator : AssignmentOperator) (right : Expression) (span : Span) (is : x ≡ e.Assign left operator right span) where
    assign_is : means x ≡ next (operand (means left)) (λ target. next (gives right) (λ given. assigned operator span target given))
    assign_is = ap means (is ∙ sym (e.rolls-Assign left operator right span)) ∙ opened (layer.Assign left operator right span)

    pub assign_ended_first : (refusal : Refusal) → Err refusal ≡ operand (means left) → Err refusal ≡ means x
    assign_ended_first refusal h = ended (operand (means left)) refusal (λ target. next (gives right) (λ given. assigned operator span target given)) h ∙ sym assign_is

    pub assign_ended_second : (target : Meaning) (refusal : Refusal) → Ok target ≡ operand (means left) → Err refusal ≡ gives right → Err refusal ≡ means x
    assign_ended_second target refusal h0 h = went (operand (means left)) target (λ target. next (gives right) (λ given. assigned operator span target given)) (Err refusal) h0 (ended (gives right) refusal (λ given. assigned operator span target given) h) ∙ sym assign_is

    pub assign_made : (target : Meaning) (given : Value) (made : Judged Meaning) → Ok target ≡ operand (means left) → Ok given ≡ gives right → made ≡ assigned operator span target given → made ≡ means x
    assign_made target given made h0 h1 h = went (operand (means left)) target (λ target. next (gives right) (λ given. assigned operator span target given)) made h0 (went (gives right) given (λ given. assigned operator span target given) made h1 h) ∙ sym assign_is

  module _ (x : Expression) (test : Expression) (first : Expression) (second : Expression) (span : Span) (is : x ≡ e.Conditional test first second span) where
    conditional_is : means x ≡ next (gives test) (λ condition. next (gives first) (λ one. next (gives second) (λ other. conditional span condition one other)))
    conditional_is = ap means (is ∙ sym (e.rolls-Conditional test first second span)) ∙ opened (layer.Conditional test first second span)

    pub conditional_ended_first : (refusal : Refusal) → Err refusal ≡ gives test → Err refusal ≡ means x
    conditional_ended_first refusal h = ended (gives test) refusal (λ condition. next (gives first) (λ one. next (gives second) (λ other. conditional span condition one other))) h ∙ sym conditional_is

    pub conditional_ended_second : (condition : Value) (refusal : Refusal) → Ok condition ≡ gives test → Err refusal ≡ gives first → Err refusal ≡ means x
    conditional_ended_second condition refusal h0 h = went (gives test) condition (λ condition. next (gives first) (λ one. next (gives second) (λ other. conditional span condition one other))) (Err refusal) h0 (ended (gives first) refusal (λ one. next (gives second) (λ other. conditional span condition one other)) h) ∙ sym conditional_is

    pub conditional_ended_third : (condition : Value) (one : Value) (refusal : Refusal) → Ok condition ≡ gives test → Ok one ≡ gives first → Err refusal ≡ gives second → Err refusal ≡ means x
    conditional_ended_third condition one refusal h0 h1 h = went (gives test) condition (λ condition. next (gives first) (λ one. next (gives second) (λ other. conditional span condition one other))) (Err refusal) h0 (went (gives first) one (λ one. next (gives second) (λ other. conditional span condition one other)) (Err refusal) h1 (ended (gives second) refusal (λ other. conditional span condition one other) h)) ∙ sym conditional_is

    pub conditional_made : (condition : Value) (one : Value) (other : Value) (made : Judged Meaning) → Ok condition ≡ gives test → Ok one ≡ gives first → Ok other ≡ gives second → made ≡ conditional span condition one other → made ≡ means x
    conditional_made condition one other made h0 h1 h2 h = went (gives test) condition (λ condition. next (gives first) (λ one. next (gives second) (λ other. conditional span condition one other))) made h0 (went (gives first) one (λ one. next (gives second) (λ other. conditional span condition one other)) made h1 (went (gives second) other (λ other. conditional span condition one other) made h2 h)) ∙ sym conditional_is

  module _ (x : Expression) (left : Expression) (operator : BinaryOperator) (right : Expression) (span : Span) (is : x ≡ e.Binary left operator right span) where
    binary_is : means x ≡ next (gives left) (λ one. next (gives right) (λ other. binary operator span one other))
    binary_is = ap means (is ∙ sym (e.rolls-Binary left operator right span)) ∙ opened (layer.Binary left operator right span)

    pub binary_ended_first : (refusal : Refusal) → Err refusal ≡ gives left → Err refusal ≡ means x
    binary_ended_first refusal h = ended (gives left) refusal (λ one. next (gives right) (λ other. binary operator span one other)) h ∙ sym binary_is

    pub binary_ended_second : (one : Value) (refusal : Refusal) → Ok one ≡ gives left → Err refusal ≡ gives right → Err refusal ≡ means x
    binary_ended_second one refusal h0 h = went (gives left) one (λ one. next (gives right) (λ other. binary operator span one other)) (Err refusal) h0 (ended (gives right) refusal (λ other. binary operator span one other) h) ∙ sym binary_is

    pub binary_made : (one : Value) (other : Value) (made : Judged Meaning) → Ok one ≡ gives left → Ok other ≡ gives right → made ≡ binary operator span one other → made ≡ means x
    binary_made one other made h0 h1 h = went (gives left) one (λ one. next (gives right) (λ other. binary operator span one other)) made h0 (went (gives right) other (λ other. binary operator span one other) made h1 h) ∙ sym binary_is

  module _ (x : Expression) (operator : PrefixOperator) (y : Expression) (span : Span) (is : x ≡ e.Prefix operator y span) where
    prefix_is : means x ≡ next (means y) (λ meaning. prefixed operator span meaning)
    prefix_is = ap means (is ∙ sym (e.rolls-Prefix operator y span)) ∙ opened (layer.Prefix operator y span)

    pub prefix_ended : (refusal : Refusal) → Err refusal ≡ means y → Err refusal ≡ means x
    prefix_ended refusal h = ended (means y) refusal (λ meaning. prefixed operator span meaning) h ∙ sym prefix_is

    pub prefix_made : (meaning : Meaning) (made : Judged Meaning) → Ok meaning ≡ means y → made ≡ prefixed operator span meaning → made ≡ means x
    prefix_made meaning made h0 h = went (means y) meaning (λ meaning. prefixed operator span meaning) made h0 h ∙ sym prefix_is

  module _ (x : Expression) (of : TypeName) (y : Expression) (span : Span) (is : x ≡ e.Cast of y span) where
    cast_is : means x ≡ next (gives y) (λ given. cast_to span (written of) given)
    cast_is = ap means (is ∙ sym (e.rolls-Cast of y span)) ∙ opened (layer.Cast of y span)

    pub cast_ended : (refusal : Refusal) → Err refusal ≡ gives y → Err refusal ≡ means x
    cast_ended refusal h = ended (gives y) refusal (λ given. cast_to span (written of) given) h ∙ sym cast_is

    pub cast_made : (given : Value) (made : Judged Meaning) → Ok given ≡ gives y → made ≡ cast_to span (written of) given → made ≡ means x
    cast_made given made h0 h = went (gives y) given (λ given. cast_to span (written of) given) made h0 h ∙ sym cast_is

  module _ (x : Expression) (y : Expression) (arguments : Arguments) (span : Span) (is : x ≡ e.Call y arguments span) where
    call_is : means x ≡ next (means y) (λ callee. next (give arguments) (λ values. call pick span source.functions callee values))
    call_is = ap means (is ∙ sym (e.rolls-Call y arguments span)) ∙ opened (layer.Call y arguments span)

    pub call_ended_first : (refusal : Refusal) → Err refusal ≡ means y → Err refusal ≡ means x
    call_ended_first refusal h = ended (means y) refusal (λ callee. next (give arguments) (λ values. call pick span source.functions callee values)) h ∙ sym call_is

    pub call_ended_second : (callee : Meaning) (refusal : Refusal) → Ok callee ≡ means y → Err refusal ≡ give arguments → Err refusal ≡ means x
    call_ended_second callee refusal h0 h = went (means y) callee (λ callee. next (give arguments) (λ values. call pick span source.functions callee values)) (Err refusal) h0 (ended (give arguments) refusal (λ values. call pick span source.functions callee values) h) ∙ sym call_is

    pub call_made : (callee : Meaning) (values : List Value) (made : Judged Meaning) → Ok callee ≡ means y → Ok values ≡ give arguments → made ≡ call pick span source.functions callee values → made ≡ means x
    call_made callee values made h0 h1 h = went (means y) callee (λ callee. next (give arguments) (λ values. call pick span source.functions callee values)) made h0 (went (give arguments) values (λ values. call pick span source.functions callee values) made h1 h) ∙ sym call_is

  module _ (x : Expression) (y : Expression) (operator : PostfixOperator) (span : Span) (is : x ≡ e.Postfix y operator span) where
    postfix_is : means x ≡ next (means y) (λ meaning. postfixed operator span meaning)
    postfix_is = ap means (is ∙ sym (e.rolls-Postfix y operator span)) ∙ opened (layer.Postfix y operator span)

    pub postfix_ended : (refusal : Refusal) → Err refusal ≡ means y → Err refusal ≡ means x
    postfix_ended refusal h = ended (means y) refusal (λ meaning. postfixed operator span meaning) h ∙ sym postfix_is

    pub postfix_made : (meaning : Meaning) (made : Judged Meaning) → Ok meaning ≡ means y → made ≡ postfixed operator span meaning → made ≡ means x
    postfix_made meaning made h0 h = went (means y) meaning (λ meaning. postfixed operator span meaning) made h0 h ∙ sym postfix_is

  module _ (x : Expression) (of : TypeName) (arguments : Arguments) (span : Span) (is : x ≡ e.Construct of arguments span) where
    construct_is : means x ≡ next (give arguments) (λ values. constructed span (written of) values)
    construct_is = ap means (is ∙ sym (e.rolls-Construct of arguments span)) ∙ opened (layer.Construct of arguments span)

    pub construct_ended : (refusal : Refusal) → Err refusal ≡ give arguments → Err refusal ≡ means x
    construct_ended refusal h = ended (give arguments) refusal (λ values. constructed span (written of) values) h ∙ sym construct_is

    pub construct_made : (values : List Value) (made : Judged Meaning) → Ok values ≡ give arguments → made ≡ constructed span (written of) values → made ≡ means x
    construct_made values made h0 h = went (give arguments) values (λ values. constructed span (written of) values) made h0 h ∙ sym construct_is

  module _ (x : Expression) (which : CastWord) (of : TypeName) (y : Expression) (span : Span) (is : x ≡ e.NamedCast which of y span) where
    named_cast_is : means x ≡ next (gives y) (λ given. named_cast which span (written of) given)
    named_cast_is = ap means (is ∙ sym (e.rolls-NamedCast which of y span)) ∙ opened (layer.NamedCast which of y span)

    pub named_cast_ended : (refusal : Refusal) → Err refusal ≡ gives y → Err refusal ≡ means x
    named_cast_ended refusal h = ended (gives y) refusal (λ given. named_cast which span (written of) given) h ∙ sym named_cast_is

    pub named_cast_made : (given : Value) (made : Judged Meaning) → Ok given ≡ gives y → made ≡ named_cast which span (written of) given → made ≡ means x
    named_cast_made given made h0 h = went (gives y) given (λ given. named_cast which span (written of) given) made h0 h ∙ sym named_cast_is

  pub group_is : (x : Expression) (y : Expression) (span : Span) → x ≡ e.Group y span → means x ≡ means y
  group_is x y span is = ap means (is ∙ sym (e.rolls-Group y span)) ∙ opened (layer.Group y span)
