-- What an expression means, or why it is refused (ECMA-372, 15; ISO/IEC 14882:2003, 5): a case for each form of node. A refusal is that of the first node, in postorder, that no case covers.
use Rattle.std.specs.Prelude.{◌%◌, ◌^◌, List, [], Ok}
use Rattle.cc_tree.specs.declared.type_name.FundamentalType.TheVariants as f
use Rattle.cc_tree.specs.declared.expression.Expression.{Expression, Expression-F, fold-Expression}
use Rattle.cc_tree.specs.declared.expression.Expression.TheOpen as e
use Rattle.cc_tree.specs.declared.expression.Arguments.{Arguments, fold-Arguments}
use Rattle.cc_operations.specs.declared.source.Source.{Source}
use Rattle.cc_operations.specs.declared.source.Frame.{Frame}
use Rattle.cc_operations.specs.Choosing.{Pick}
use Rattle.cc_operations.specs.Numbers.{number_type, written}
use Rattle.cc_operations.specs.Judgements.{Judged, next, Value, Meaning, valued, with_value, all_values}
use Rattle.cc_operations.specs.Operations.{constant, no_conversion, with_operand, assigned, conditional, binary, prefixed, postfixed, cast_to, named_cast, constructed, call}
use Rattle.cc_terms.specs.Resolving.{Finds, resolved, console_named}

module _ (pick : Pick) (finds : Finds) (source : Source) (frame : Frame) where
  -- operands from left to right; forms of types that are not built have no conversion
  abbrev pub expression_layer : Expression-F (Judged Meaning) (Judged (List Value)) → Judged Meaning
  expression_layer (e.Assign left operator right span) = with_operand left (λ target. with_value right (assigned operator span target))
  expression_layer (e.Conditional condition first second span) = with_value condition (λ test. with_value first (λ one. with_value second (conditional span test one)))
  expression_layer (e.Binary left operator right span) = with_value left (λ one. with_value right (binary operator span one))
  expression_layer (e.Prefix operator x span) = next x (prefixed operator span)
  expression_layer (e.Cast of x span) = with_value x (cast_to span (written of))
  expression_layer (e.Index x index span) = no_conversion span
  expression_layer (e.Call x arguments span) = next x (λ callee. next arguments (call pick span source.functions callee))
  expression_layer (e.Member x selects name types span) = no_conversion span
  expression_layer (e.Finaliser x selects name span) = no_conversion span
  expression_layer (e.Postfix x operator span) = next x (postfixed operator span)
  expression_layer (e.Number value suffix radix span) = Ok (constant (number_type value suffix radix) value)
  -- a character is a unit of 16 bits
  expression_layer (e.Character unit span) = Ok (constant f.WideChar (unit % 2 ^ 16))
  expression_layer (e.Strings texts span) = no_conversion span
  expression_layer (e.True span) = Ok (constant f.Bool 1)
  expression_layer (e.False span) = Ok (constant f.Bool 0)
  expression_layer (e.Nullptr span) = no_conversion span
  expression_layer (e.This span) = no_conversion span
  expression_layer (e.Group x span) = x
  expression_layer (e.Name path name types span) = resolved finds source frame path name span
  expression_layer (e.StaticMember of name span) = console_named name.name span
  expression_layer (e.Construct of arguments span) = next arguments (constructed span (written of))
  expression_layer (e.New of arguments elements span) = no_conversion span
  expression_layer (e.NamedCast which of x span) = with_value x (named_cast which span (written of))

  -- arguments are values
  abbrev pub arguments_layer : e.Arguments-F (Judged Meaning) (Judged (List Value)) → Judged (List Value)
  arguments_layer layer = all_values [] layer.items

  -- what an expression means
  abbrev pub typed : Expression → Judged Meaning
  typed = fold-Expression (Judged Meaning) (Judged (List Value)) expression_layer arguments_layer

  abbrev pub typed_arguments : Arguments → Judged (List Value)
  typed_arguments = fold-Arguments (Judged Meaning) (Judged (List Value)) expression_layer arguments_layer

  -- an expression as a value
  abbrev pub typed_value : Expression → Judged Value
  typed_value x = valued (typed x)
