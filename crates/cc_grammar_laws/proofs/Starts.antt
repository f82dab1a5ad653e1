-- How an expression begins.
use Rattle.std.proofs.Common.{◌≡◌, subst, refl, ℕ, List, [], ◌∷◌}
use Rattle.std.specs.Prelude.{Option, Some, None, true, false, cond}
use Rattle.cc_base.specs.declared.text.Span.{Span}
use Rattle.cc_tree.specs.declared.token.Token.{Token}
use Rattle.cc_tree.specs.declared.terminal.Terminal.{Terminal}
use Rattle.cc_tree.specs.declared.terminal.Terminal.TheVariants as t
use Rattle.cc_tree.specs.declared.terminal.ReservedWord.{ReservedWord}
use Rattle.cc_tree.specs.declared.terminal.ReservedWord.TheVariants as w
use Rattle.cc_tree.specs.declared.terminal.Sign.{Sign}
use Rattle.cc_tree.specs.declared.terminal.Sign.TheVariants as s
use Rattle.cc_tree.specs.declared.type_name.TypeName.{TypeName}
use Rattle.cc_tree.specs.declared.identifier.Identifier.{Identifier}
use Rattle.cc_tree.specs.declared.expression.Expression.{Expression}
use Rattle.cc_tree.specs.declared.expression.BinaryOperator.{BinaryOperator}
use Rattle.cc_tree.specs.declared.expression.PrefixOperator.{PrefixOperator}
use Rattle.cc_tree.specs.declared.expression.PostfixOperator.{PostfixOperator}
use Rattle.cc_tree.specs.declared.expression.AssignmentOperator.{AssignmentOperator}
use Rattle.cc_tree.specs.declared.expression.Selector.{Selector}
use Rattle.cc_tree.specs.declared.expression.CastWord.{CastWord}
use Rattle.cc_tree.specs.Terminals.{Classified, at, Id, plain, function}
use Rattle.cc_tree.specs.Operators as op
use Rattle.cc_tree.specs.Operators.{assignment_operator, binary_operator, prefix_operator, postfix_operator, selector, cast_word, ReadsOperator}
use Rattle.cc_tree.specs.GrammarTypes as g
use Rattle.cc_tree.specs.GrammarTypes.{ReadsPath, ReadsType, ReadsCore, ReadsNamed, ReadsTypeArguments}
use Rattle.cc_tree.specs.GrammarExpressions as x
use Rattle.cc_tree.specs.GrammarExpressions.{ReadsStrings, IsNumber, ReadsExpression, ReadsConditional, ReadsBinary, ReadsUnary, ReadsPostfix, ReadsPrimary}
use Rattle.cc_table.specs.declared.symbols.Sort.TheVariants as o
use Rattle.cc_table.specs.declared.symbols.Input.{Input}
use Rattle.cc_table.specs.declared.symbols.Symbol.TheVariants.{Non}
use Rattle.cc_pushdown.specs.declared.value.Value.{Value}
use Rattle.cc_pushdown.specs.Machine.{Fed}
use Rattle.cc_grammar_laws.specs.Read.{Passes}
use Rattle.cc_grammar_laws.proofs.Meets.{LooksAt}
use Rattle.cc_grammar_laws.proofs.CompleteTypes.{StartsFundamental, starts_fundamental, StartsName, named_starts}
use Rattle.cc_grammar_laws.proofs.Heads.{Heads, IsOperand, plain_name, function_name, operand_type, plain_heads, function_heads, operand_heads}

abbrev pub IsNothing : (A : Type 0) → Option A → Type 0
IsNothing A None = Unit {0}
IsNothing A (Some one) = ⊥

pub not_some : {A : Type 0} {one : A} → None ≡ Some one → ⊥
not_some {A} e = subst (IsNothing A) e tt

pub not_true : false ≡ true → ⊥
not_true e = subst (λ q. cond q ⊥ (Unit {0})) e tt

abbrev pub NotGreater : List Classified → Type 0
NotGreater [] = Unit {0}
NotGreater (at (t.Sign s.Greater) k ∷ rest) = ⊥
NotGreater (at terminal k ∷ rest) = Unit {0}

-- what holds of the first token of each expression and of each type
abbrev pub Common : List Classified → Type 0
Common ts = Passes o.Arguments ts × NotGreater ts × Passes o.OptionalExpression ts × Passes o.ForAdvance ts × Passes o.DeclaratorValue ts
    × Passes o.Statements ts × Passes o.SectionStatements ts × Passes o.MoreCatches ts × Passes o.Caught ts × Passes o.Parameters ts

-- a first token that begins no type and no name
abbrev pub TokenFirst : List Classified → Type 0
TokenFirst ts = Passes o.AfterParenthesis ts × Passes o.AfterNameLess ts × Passes o.AfterMemberLess ts × Passes o.AfterNewLess ts × Passes o.Statement ts × Passes o.ForStart ts

-- a first token that begins a type or a name
abbrev pub TypeFirst : List Classified → Type 0
TypeFirst ts = LooksAt o.AfterParenthesis (Non o.TypeOrName ∷ Non o.CastOrGroup ∷ []) ts × LooksAt o.AfterNameLess (Non o.TypeOrName ∷ Non o.NameTypes ∷ []) ts
    × LooksAt o.AfterMemberLess (Non o.TypeOrName ∷ Non o.MemberTypes ∷ []) ts × LooksAt o.AfterNewLess (Non o.TypeOrName ∷ Non o.NewTypes ∷ []) ts
    × LooksAt o.Unary (Non o.TypeOrName ∷ Non o.Operand ∷ Non o.SuffixRest ∷ []) ts
    × LooksAt o.Statement (Non o.TypeOrName ∷ Non o.LocalOrExpression ∷ []) ts × LooksAt o.ForStart (Non o.TypeOrName ∷ Non o.LocalOrExpressionStart ∷ []) ts

pub data Starts : List Classified → Type 0 where
  token : {ts : List Classified} → Common ts → TokenFirst ts → Starts ts
  operand : {ts : List Classified} {input : Input} {value : Value} {fs : List Fed} → Common ts → TypeFirst ts → IsOperand input → Heads ts input value fs → Starts ts

pub common : {ts : List Classified} → Starts ts → Common ts
common (token c h) = c
common (operand c h j k) = c

-- what holds of the first token of each type, where a member, an accessor or something outside classes may begin
abbrev pub MemberFacts : List Classified → Type 0
MemberFacts ts = Passes o.Accessor ts × Passes o.Accessors ts × Passes o.Member ts × Passes o.Members ts × Passes o.VirtualStart ts × Passes o.PropertyOrNamespace ts

word_facts : (ts : List Classified) → StartsFundamental ts → MemberFacts ts
word_facts [] h = absurd h
word_facts (at (t.Word w.Void) k ∷ rest) h = (refl, refl, refl, refl, refl, refl)
word_facts (at (t.Word w.Bool) k ∷ rest) h = (refl, refl, refl, refl, refl, refl)
word_facts (at (t.Word w.WideChar) k ∷ rest) h = (refl, refl, refl, refl, refl, refl)
word_facts (at (t.Word w.Signed) k ∷ rest) h = (refl, refl, refl, refl, refl, refl)
word_facts (at (t.Word w.Unsigned) k ∷ rest) h = (refl, refl, refl, refl, refl, refl)
word_facts (at (t.Word w.Short) k ∷ rest) h = (refl, refl, refl, refl, refl, refl)
word_facts (at (t.Word w.Int) k ∷ rest) h = (refl, refl, refl, refl, refl, refl)
word_facts (at (t.Word w.Long) k ∷ rest) h = (refl, refl, refl, refl, refl, refl)
word_facts (at (t.Word _) k ∷ rest) h = absurd (not_true h)
word_facts (at _ k ∷ rest) h = absurd h

name_facts : (ts : List Classified) → StartsName ts → MemberFacts ts
name_facts [] h = absurd h
name_facts (at (t.Name kind word) k ∷ rest) h = (refl, refl, refl, refl, refl, refl)
name_facts (at _ k ∷ rest) h = absurd h

core_facts : {of : TypeName} {span : Span} {ts rest : List Classified} → ReadsCore of span ts rest → MemberFacts ts
core_facts {ts} (g.fundamental p q) = word_facts ts (starts_fundamental p q)
core_facts {ts} (g.named p) = name_facts ts (named_starts p)

pub type_facts : {of : TypeName} {span : Span} {ts rest : List Classified} → ReadsType of span ts rest → MemberFacts ts
type_facts (g.core p) = core_facts p
type_facts (g.handle p) = core_facts p
type_facts (g.tracking p) = core_facts p
type_facts (g.handle_tracking p) = core_facts p

pub word_first : (ts : List Classified) → StartsFundamental ts → Common ts × TypeFirst ts
word_first [] h = absurd h
word_first (at (t.Word w.Void) k ∷ rest) h = ((refl, tt, refl, refl, refl, refl, refl, refl, refl, refl), (refl, refl, refl, refl, refl, refl, refl))
word_first (at (t.Word w.Bool) k ∷ rest) h = ((refl, tt, refl, refl, refl, refl, refl, refl, refl, refl), (refl, refl, refl, refl, refl, refl, refl))
word_first (at (t.Word w.WideChar) k ∷ rest) h = ((refl, tt, refl, refl, refl, refl, refl, refl, refl, refl), (refl, refl, refl, refl, refl, refl, refl))
word_first (at (t.Word w.Signed) k ∷ rest) h = ((refl, tt, refl, refl, refl, refl, refl, refl, refl, refl), (refl, refl, refl, refl, refl, refl, refl))
word_first (at (t.Word w.Unsigned) k ∷ rest) h = ((refl, tt, refl, refl, refl, refl, refl, refl, refl, refl), (refl, refl, refl, refl, refl, refl, refl))
word_first (at (t.Word w.Short) k ∷ rest) h = ((refl, tt, refl, refl, refl, refl, refl, refl, refl, refl), (refl, refl, refl, refl, refl, refl, refl))
word_first (at (t.Word w.Int) k ∷ rest) h = ((refl, tt, refl, refl, refl, refl, refl, refl, refl, refl), (refl, refl, refl, refl, refl, refl, refl))
word_first (at (t.Word w.Long) k ∷ rest) h = ((refl, tt, refl, refl, refl, refl, refl, refl, refl, refl), (refl, refl, refl, refl, refl, refl, refl))
word_first (at (t.Word _) k ∷ rest) h = absurd (not_true h)
word_first (at _ k ∷ rest) h = absurd h

pub name_first : (ts : List Classified) → StartsName ts → Common ts × TypeFirst ts
name_first [] h = absurd h
name_first (at (t.Name kind word) k ∷ rest) h = ((refl, tt, refl, refl, refl, refl, refl, refl, refl, refl), (refl, refl, refl, refl, refl, refl, refl))
name_first (at _ k ∷ rest) h = absurd h

pub core_first : {of : TypeName} {span : Span} {ts rest : List Classified} → ReadsCore of span ts rest → Common ts × TypeFirst ts
core_first {ts} (g.fundamental p q) = word_first ts (starts_fundamental p q)
core_first {ts} (g.named p) = name_first ts (named_starts p)

pub type_first : {of : TypeName} {span : Span} {ts rest : List Classified} → ReadsType of span ts rest → Common ts × TypeFirst ts
type_first (g.core p) = core_first p
type_first (g.handle p) = core_first p
type_first (g.tracking p) = core_first p
type_first (g.handle_tracking p) = core_first p

id_path_first : {path : List Identifier} {id : Terminal} {k : Token} {ts rest : List Classified} → ReadsPath path ts (at id k ∷ rest) → Id id → StartsName ts
id_path_first g.none plain = tt
id_path_first g.none function = tt
id_path_first (g.next plain p) i = tt
id_path_first (g.next function p) i = tt

-- what may follow a name or a list of strings, so that it ends there
abbrev pub PrimaryEnds : List Classified → Type 0
PrimaryEnds rest = Passes o.NameEnd rest × Passes o.FunctionNameEnd rest × Passes o.StringsRest rest

from_operand : {ts : List Classified} {input : Input} {value : Value} {fs : List Fed} → Common ts × TypeFirst ts → IsOperand input → Heads ts input value fs → Starts ts
from_operand h j k = operand h.0 h.1 j k

starts_prefix : (sign : Sign) (operator : PrefixOperator) (k : Token) (rest : List Classified) → prefix_operator sign ≡ Some operator → Starts (at (t.Sign sign) k ∷ rest)
starts_prefix s.Exclamation operator k rest h = token (refl, tt, refl, refl, refl, refl, refl, refl, refl, refl) (refl, refl, refl, refl, refl, refl)
starts_prefix s.Tilde operator k rest h = token (refl, tt, refl, refl, refl, refl, refl, refl, refl, refl) (refl, refl, refl, refl, refl, refl)
starts_prefix s.Minus operator k rest h = token (refl, tt, refl, refl, refl, refl, refl, refl, refl, refl) (refl, refl, refl, refl, refl, refl)
starts_prefix s.Plus operator k rest h = token (refl, tt, refl, refl, refl, refl, refl, refl, refl, refl) (refl, refl, refl, refl, refl, refl)
starts_prefix s.Increment operator k rest h = token (refl, tt, refl, refl, refl, refl, refl, refl, refl, refl) (refl, refl, refl, refl, refl, refl)
starts_prefix s.Decrement operator k rest h = token (refl, tt, refl, refl, refl, refl, refl, refl, refl, refl) (refl, refl, refl, refl, refl, refl)
starts_prefix s.Percent operator k rest h = token (refl, tt, refl, refl, refl, refl, refl, refl, refl, refl) (refl, refl, refl, refl, refl, refl)
starts_prefix _ operator k rest h = absurd (not_some h)

starts_cast : (word : ReservedWord) (casts : CastWord) (k : Token) (rest : List Classified) → cast_word word ≡ Some casts → Starts (at (t.Word word) k ∷ rest)
starts_cast w.SafeCast casts k rest h = token (refl, tt, refl, refl, refl, refl, refl, refl, refl, refl) (refl, refl, refl, refl, refl, refl)
starts_cast w.StaticCast casts k rest h = token (refl, tt, refl, refl, refl, refl, refl, refl, refl, refl) (refl, refl, refl, refl, refl, refl)
starts_cast w.DynamicCast casts k rest h = token (refl, tt, refl, refl, refl, refl, refl, refl, refl, refl) (refl, refl, refl, refl, refl, refl)
starts_cast _ casts k rest h = absurd (not_some h)

starts_strings : {texts : List (List ℕ)} {span : Span} {ts rest : List Classified} → ReadsStrings texts span ts rest → Starts ts
starts_strings x.last = token (refl, tt, refl, refl, refl, refl, refl, refl, refl, refl) (refl, refl, refl, refl, refl, refl)
starts_strings (x.more p) = token (refl, tt, refl, refl, refl, refl, refl, refl, refl, refl) (refl, refl, refl, refl, refl, refl)

pub starts_primary : {one : Expression} {span : Span} {ts rest : List Classified} → ReadsPrimary one span ts rest → PrimaryEnds rest → Starts ts
starts_primary (x.number x.number) h = token (refl, tt, refl, refl, refl, refl, refl, refl, refl, refl) (refl, refl, refl, refl, refl, refl)
starts_primary (x.number x.zero_number) h = token (refl, tt, refl, refl, refl, refl, refl, refl, refl, refl) (refl, refl, refl, refl, refl, refl)
starts_primary x.character h = token (refl, tt, refl, refl, refl, refl, refl, refl, refl, refl) (refl, refl, refl, refl, refl, refl)
starts_primary (x.strings p) h = starts_strings p
starts_primary x.true_ h = token (refl, tt, refl, refl, refl, refl, refl, refl, refl, refl) (refl, refl, refl, refl, refl, refl)
starts_primary x.false_ h = token (refl, tt, refl, refl, refl, refl, refl, refl, refl, refl) (refl, refl, refl, refl, refl, refl)
starts_primary x.nullptr h = token (refl, tt, refl, refl, refl, refl, refl, refl, refl, refl) (refl, refl, refl, refl, refl, refl)
starts_primary x.this h = token (refl, tt, refl, refl, refl, refl, refl, refl, refl, refl) (refl, refl, refl, refl, refl, refl)
starts_primary (x.group p) h = token (refl, tt, refl, refl, refl, refl, refl, refl, refl, refl) (refl, refl, refl, refl, refl, refl)
starts_primary {ts} (x.name p plain) h = from_operand (name_first ts (id_path_first p plain)) plain_name (plain_heads p h.0)
starts_primary {ts} (x.name p function) h = from_operand (name_first ts (id_path_first p function)) function_name (function_heads p h.1)
starts_primary {ts} (x.name_of p (g.listed q)) h = from_operand (name_first ts (id_path_first p function)) function_name (function_heads p refl)
starts_primary (x.static_member p j) h = from_operand (core_first p) operand_type (operand_heads p (refl, refl, refl) refl)
starts_primary (x.construct p q) h = from_operand (core_first p) operand_type (operand_heads p (refl, refl, refl) refl)
starts_primary (x.new p j k) h = token (refl, tt, refl, refl, refl, refl, refl, refl, refl, refl) (refl, refl, refl, refl, refl, refl)
starts_primary (x.new_with p q j) h = token (refl, tt, refl, refl, refl, refl, refl, refl, refl, refl) (refl, refl, refl, refl, refl, refl)
starts_primary (x.new_of p q) h = token (refl, tt, refl, refl, refl, refl, refl, refl, refl, refl) (refl, refl, refl, refl, refl, refl)
starts_primary (x.new_with_of p q r) h = token (refl, tt, refl, refl, refl, refl, refl, refl, refl, refl) (refl, refl, refl, refl, refl, refl)
starts_primary (x.named_cast {word} {casts} e p q) h = starts_cast word casts _ _ e

ends_selector : (sign : Sign) (selects : Selector) (k : Token) (rest : List Classified) → selector sign ≡ Some selects → PrimaryEnds (at (t.Sign sign) k ∷ rest)
ends_selector s.Dot selects k rest h = (refl, refl, refl)
ends_selector s.Arrow selects k rest h = (refl, refl, refl)
ends_selector _ selects k rest h = absurd (not_some h)

ends_step : (sign : Sign) (operator : PostfixOperator) (k : Token) (rest : List Classified) → postfix_operator sign ≡ Some operator → PrimaryEnds (at (t.Sign sign) k ∷ rest)
ends_step s.Increment operator k rest h = (refl, refl, refl)
ends_step s.Decrement operator k rest h = (refl, refl, refl)
ends_step _ operator k rest h = absurd (not_some h)

pub starts_postfix : {one : Expression} {span : Span} {ts rest : List Classified} → ReadsPostfix one span ts rest → PrimaryEnds rest → Starts ts
starts_postfix (x.primary p) h = starts_primary p h
starts_postfix (x.index p q) h = starts_postfix p (refl, refl, refl)
starts_postfix (x.call p q) h = starts_postfix p (refl, refl, refl)
starts_postfix (x.member {sign} {selects} {dot} p e j) h = starts_postfix p (ends_selector sign selects dot [] e)
starts_postfix (x.member_of {sign} {selects} {dot} p e q) h = starts_postfix p (ends_selector sign selects dot [] e)
starts_postfix (x.finaliser {sign} {selects} {dot} p e) h = starts_postfix p (ends_selector sign selects dot [] e)
starts_postfix (x.step {sign} {operator} {k} p e) h = starts_postfix p (ends_step sign operator k [] e)

pub starts_unary : {one : Expression} {span : Span} {ts rest : List Classified} → ReadsUnary one span ts rest → PrimaryEnds rest → Starts ts
starts_unary (x.prefix {sign} {operator} {k} e p) h = starts_prefix sign operator k _ e
starts_unary (x.cast p q) h = token (refl, tt, refl, refl, refl, refl, refl, refl, refl, refl) (refl, refl, refl, refl, refl, refl)
starts_unary (x.postfix p) h = starts_postfix p h

-- what may follow an operand, so that it ends there
abbrev pub UnaryEnds : List Classified → Type 0
UnaryEnds rest = PrimaryEnds rest × Passes o.SuffixRest rest

pub ends_assignment : (sign : Sign) (operator : AssignmentOperator) (k : Token) (rest : List Classified) → assignment_operator sign ≡ Some operator → UnaryEnds (at (t.Sign sign) k ∷ rest)
ends_assignment s.OpenBracket operator k rest h = absurd (not_some h)
ends_assignment s.OpenParenthesis operator k rest h = absurd (not_some h)
ends_assignment s.Dot operator k rest h = absurd (not_some h)
ends_assignment s.Arrow operator k rest h = absurd (not_some h)
ends_assignment s.Increment operator k rest h = absurd (not_some h)
ends_assignment s.Decrement operator k rest h = absurd (not_some h)
ends_assignment s.Scope operator k rest h = absurd (not_some h)
ends_assignment _ operator k rest h = ((refl, refl, refl), refl)

-- what may follow an operand on the left of an operator that does not assign
abbrev pub OperandEnds : List Classified → Type 0
OperandEnds rest = UnaryEnds rest × Passes o.AfterUnary rest

ends_sign : (sign : Sign) (operator : BinaryOperator) (k : Token) (rest : List Classified) → binary_operator sign ≡ Some operator → OperandEnds (at (t.Sign sign) k ∷ rest)
ends_sign s.OpenBracket operator k rest h = absurd (not_some h)
ends_sign s.OpenParenthesis operator k rest h = absurd (not_some h)
ends_sign s.Dot operator k rest h = absurd (not_some h)
ends_sign s.Arrow operator k rest h = absurd (not_some h)
ends_sign s.Increment operator k rest h = absurd (not_some h)
ends_sign s.Decrement operator k rest h = absurd (not_some h)
ends_sign s.Scope operator k rest h = absurd (not_some h)
ends_sign s.Assign operator k rest h = absurd (not_some h)
ends_sign s.AssignSum operator k rest h = absurd (not_some h)
ends_sign s.AssignDifference operator k rest h = absurd (not_some h)
ends_sign s.AssignProduct operator k rest h = absurd (not_some h)
ends_sign s.AssignQuotient operator k rest h = absurd (not_some h)
ends_sign s.AssignRemainder operator k rest h = absurd (not_some h)
ends_sign s.AssignExclusiveOr operator k rest h = absurd (not_some h)
ends_sign s.AssignAnd operator k rest h = absurd (not_some h)
ends_sign s.AssignOr operator k rest h = absurd (not_some h)
ends_sign s.AssignShiftLeft operator k rest h = absurd (not_some h)
ends_sign s.AssignShiftRight operator k rest h = absurd (not_some h)
ends_sign _ operator k rest h = (((refl, refl, refl), refl), refl)

pub ends_operator : {operator : BinaryOperator} {us vs : List Classified} → ReadsOperator operator us vs → OperandEnds us
ends_operator (op.sign {sign} {operator} {k} {rest} h) = ends_sign sign operator k rest h
ends_operator (op.shift_right h) = (((refl, refl, refl), refl), refl)

pub starts_binary : {m : ℕ} {one : Expression} {span : Span} {ts rest : List Classified} → ReadsBinary m one span ts rest → PrimaryEnds rest → Starts ts
starts_binary (x.joined l p q r) h = starts_binary p (ends_operator q).0.0
starts_binary (x.unary p) h = starts_unary p h

pub starts_conditional : {one : Expression} {span : Span} {ts rest : List Classified} → ReadsConditional one span ts rest → PrimaryEnds rest → Starts ts
starts_conditional (x.choice p q r) h = starts_binary p (refl, refl, refl)
starts_conditional (x.binary p) h = starts_binary p h

pub starts_expression : {one : Expression} {span : Span} {ts rest : List Classified} → ReadsExpression one span ts rest → PrimaryEnds rest → Starts ts
starts_expression (x.assign {sign} {operator} {k} p e q) h = starts_unary p (ends_assignment sign operator k [] e).0
starts_expression (x.conditional p) h = starts_conditional p h
