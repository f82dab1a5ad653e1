-- An input that was put back stands for tokens that begin with a name, a word of a type or an operator.
use Rattle.std.proofs.Common.{◌≡◌, List, [], ◌∷◌}
use Rattle.cc_base.specs.declared.text.Span.{Span}
use Rattle.cc_tree.specs.declared.token.Token.{Token}
use Rattle.cc_tree.specs.declared.identifier.Identifier.{Identifier}
use Rattle.cc_tree.specs.declared.terminal.Terminal.TheVariants as t
use Rattle.cc_tree.specs.declared.terminal.NameKind.{NameKind}
use Rattle.cc_tree.specs.declared.terminal.ContextualWord.{ContextualWord}
use Rattle.cc_tree.specs.declared.terminal.ReservedWord.TheVariants as w
use Rattle.cc_tree.specs.declared.terminal.Sign.{Sign}
use Rattle.cc_tree.specs.declared.terminal.Sign.TheVariants as s
use Rattle.cc_tree.specs.declared.type_name.TypeName.{TypeName}
use Rattle.cc_tree.specs.declared.expression.BinaryOperator.{BinaryOperator}
use Rattle.cc_tree.specs.Terminals.{Classified, at, plain, function}
use Rattle.cc_tree.specs.Operators as op
use Rattle.cc_tree.specs.Operators.{binary_operator, ReadsOperator}
use Rattle.std.specs.Prelude.{Some}
use Rattle.cc_tree.specs.GrammarTypes as g
use Rattle.cc_tree.specs.GrammarTypes.{ReadsPath, ReadsCore}
use Rattle.cc_tree.specs.GrammarExpressions.{NoBrace, NoParenthesis}
use Rattle.cc_tree.specs.GrammarStatements.{NoElse, NoLabel}
use Rattle.cc_table.specs.declared.symbols.Input.{Input}
use Rattle.cc_table.specs.declared.symbols.Input.TheVariants as i
use Rattle.cc_pushdown.specs.declared.value.Value.{Value}
use Rattle.cc_grammar_laws.proofs.CompleteTypes.{StartsFundamental, starts_fundamental, StartsName, named_starts}
use Rattle.cc_grammar_laws.proofs.Starts.{not_some, not_true}
use Rattle.cc_grammar_laws.proofs.Stands.{StandsOne, StandsCore, StandsQualified, StandsProperty, StandsName, StandsDeclared, core, qualified, property, name, declared}

-- what may follow a choice, labels and the type of a `gcnew`
abbrev pub Clear : List Classified → Type 0
Clear ts = NoElse ts × NoLabel ts × NoBrace ts × NoParenthesis ts

abbrev pub IsPutBack : Input → Type 0
IsPutBack (i.Token terminal) = ⊥
IsPutBack _ = Unit {0}

word_clear : (ts : List Classified) → StartsFundamental ts → Clear ts
word_clear [] h = absurd h
word_clear (at (t.Word w.Else) k ∷ rest) h = absurd (not_true h)
word_clear (at (t.Word w.Case) k ∷ rest) h = absurd (not_true h)
word_clear (at (t.Word w.Default) k ∷ rest) h = absurd (not_true h)
word_clear (at (t.Word _) k ∷ rest) h = (tt, tt, tt, tt)
word_clear (at _ k ∷ rest) h = absurd h

name_clear : (ts : List Classified) → StartsName ts → Clear ts
name_clear [] h = absurd h
name_clear (at (t.Name kind word) k ∷ rest) h = (tt, tt, tt, tt)
name_clear (at _ k ∷ rest) h = absurd h

core_clear : {of : TypeName} {span : Span} {ts rest : List Classified} → ReadsCore of span ts rest → Clear ts
core_clear {ts} (g.fundamental p q) = word_clear ts (starts_fundamental p q)
core_clear {ts} (g.named p) = name_clear ts (named_starts p)

path_clear : {path : List Identifier} {kind : NameKind} {word : ContextualWord} {k : Token} {ts rest : List Classified} → ReadsPath path ts (at (t.Name kind word) k ∷ rest) → Clear ts
path_clear g.none = (tt, tt, tt, tt)
path_clear (g.next plain p) = (tt, tt, tt, tt)
path_clear (g.next function p) = (tt, tt, tt, tt)

sign_clear : (sign : Sign) (operator : BinaryOperator) (k : Token) (rest : List Classified) → binary_operator sign ≡ Some operator → Clear (at (t.Sign sign) k ∷ rest)
sign_clear s.OpenBrace operator k rest h = absurd (not_some h)
sign_clear s.OpenParenthesis operator k rest h = absurd (not_some h)
sign_clear _ operator k rest h = (tt, tt, tt, tt)

operator_clear : {operator : BinaryOperator} {ts rest : List Classified} → ReadsOperator operator ts rest → Clear ts
operator_clear (op.sign {sign} {operator} {k} {rest} h) = sign_clear sign operator k rest h
operator_clear (op.shift_right h) = (tt, tt, tt, tt)

value_core : {value : Value} {ts rest : List Classified} → StandsCore value ts rest → Clear ts
value_core (core p) = core_clear p

value_qualified : {kind : NameKind} {value : Value} {ts rest : List Classified} → StandsQualified kind value ts rest → Clear ts
value_qualified (qualified p) = path_clear p

value_property : {value : Value} {ts rest : List Classified} → StandsProperty value ts rest → Clear ts
value_property (property p) = (tt, tt, tt, tt)

value_name : {value : Value} {ts rest : List Classified} → StandsName value ts rest → Clear ts
value_name name = (tt, tt, tt, tt)

value_declared : {value : Value} {ts rest : List Classified} → StandsDeclared value ts rest → Clear ts
value_declared (declared i) = (tt, tt, tt, tt)

pub put_back_clear : (input : Input) (value : Value) (ts rest : List Classified) → IsPutBack input → StandsOne input value ts rest → Clear ts
put_back_clear (i.Token terminal) value ts rest h p = absurd h
put_back_clear (i.Own kind word) value ts rest h p = absurd p
put_back_clear i.TouchingGreater value ts rest h p = absurd p
put_back_clear i.CoreType value ts rest h p = value_core p
put_back_clear i.OperandType value ts rest h p = value_core p
put_back_clear i.QualifiedPlain value ts rest h p = value_qualified p
put_back_clear i.QualifiedFunction value ts rest h p = value_qualified p
put_back_clear i.PropertyType value ts rest h p = value_property p
put_back_clear i.ConstructorName value ts rest h p = value_name p
put_back_clear i.DeclaredName value ts rest h p = value_declared p
put_back_clear i.ShiftRight value ts rest h p = operator_clear p
put_back_clear i.RelationalGreater value ts rest h p = operator_clear p
