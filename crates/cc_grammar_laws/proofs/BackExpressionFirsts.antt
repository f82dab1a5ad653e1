-- How an operand begins, and what was put back.
use Rattle.std.proofs.Common.{◌≡◌, ◌∙◌, sym, subst, List, [], ◌∷◌, ℕ, ◌≤◌, ◌+◌, arith}
use Rattle.std.specs.Prelude.{Option, Some}
use Rattle.cc_base.specs.declared.text.Span.{Span}
use Rattle.cc_tree.specs.declared.token.Token.{Token}
use Rattle.cc_tree.specs.declared.identifier.Identifier.{Identifier}
use Rattle.cc_tree.specs.declared.terminal.Terminal.{Terminal}
use Rattle.cc_tree.specs.declared.terminal.Terminal.TheVariants as t
use Rattle.cc_tree.specs.declared.terminal.NameKind.{NameKind}
use Rattle.cc_tree.specs.declared.terminal.ContextualWord.{ContextualWord}
use Rattle.cc_tree.specs.declared.terminal.Sign.{Sign}
use Rattle.cc_tree.specs.declared.terminal.Sign.TheVariants as s
use Rattle.cc_tree.specs.declared.type_name.TypeName.{TypeName}
use Rattle.cc_tree.specs.declared.expression.Expression.{Expression}
use Rattle.cc_tree.specs.declared.expression.BinaryOperator.{BinaryOperator}
use Rattle.cc_tree.specs.declared.expression.BinaryOperator.TheVariants as b
use Rattle.cc_tree.specs.declared.expression.PrefixOperator.{PrefixOperator}
use Rattle.cc_tree.specs.Terminals.{Classified, at, Id, plain, function}
use Rattle.cc_tree.specs.Operators as op
use Rattle.cc_tree.specs.Operators.{binary_operator, level, prefix_operator, ReadsOperator}
use Rattle.cc_tree.specs.GrammarTypes as g
use Rattle.cc_tree.specs.GrammarTypes.{ReadsPath, ReadsCore}
use Rattle.cc_tree.specs.GrammarExpressions as x
use Rattle.cc_tree.specs.GrammarExpressions.{ReadsStrings, ReadsUnary, ReadsPostfix, ReadsPrimary}
use Rattle.cc_pushdown.specs.declared.value.Value.{Value}
use Rattle.cc_grammar_laws.proofs.CompleteTypes.{StartsFundamental, starts_fundamental, StartsName, named_starts}
use Rattle.cc_grammar_laws.proofs.Starts.{NotGreater, core_first, not_some}
use Rattle.cc_grammar_laws.proofs.BetweenOperands.{some_same}
use Rattle.cc_grammar_laws.proofs.Stands.{StandsCore, StandsQualified, StandsProperty, StandsDeclared, core, qualified, property, declared}
use Rattle.cc_grammar_laws.proofs.ExpressionParts.{Stops}

prefix_first : (sign : Sign) (operator : PrefixOperator) (k : Token) (rest : List Classified) → prefix_operator sign ≡ Some operator → NotGreater (at (t.Sign sign) k ∷ rest)
prefix_first s.Greater operator k rest h = absurd (not_some h)
prefix_first _ operator k rest h = tt

path_first : {path : List Identifier} {id : Terminal} {k : Token} {ts rest : List Classified} → ReadsPath path ts (at id k ∷ rest) → Id id → NotGreater ts
path_first g.none plain = tt
path_first g.none function = tt
path_first (g.next plain p) i = tt
path_first (g.next function p) i = tt

strings_first : {texts : List (List ℕ)} {span : Span} {ts rest : List Classified} → ReadsStrings texts span ts rest → NotGreater ts
strings_first x.last = tt
strings_first (x.more p) = tt

primary_first : {one : Expression} {span : Span} {ts rest : List Classified} → ReadsPrimary one span ts rest → NotGreater ts
primary_first (x.number x.number) = tt
primary_first (x.number x.zero_number) = tt
primary_first (x.strings p) = strings_first p
primary_first (x.name p i) = path_first p i
primary_first (x.name_of p q) = path_first p function
primary_first (x.static_member p i) = (core_first p).0.1
primary_first (x.construct p q) = (core_first p).0.1
primary_first _ = tt

postfix_first : {one : Expression} {span : Span} {ts rest : List Classified} → ReadsPostfix one span ts rest → NotGreater ts
postfix_first (x.primary p) = primary_first p
postfix_first (x.index p q) = postfix_first p
postfix_first (x.call p q) = postfix_first p
postfix_first (x.member p e i) = postfix_first p
postfix_first (x.member_of p e q) = postfix_first p
postfix_first (x.finaliser p e) = postfix_first p
postfix_first (x.step p e) = postfix_first p

-- No operand begins with `>`.
pub unary_first : {one : Expression} {span : Span} {ts rest : List Classified} → ReadsUnary one span ts rest → NotGreater ts
unary_first (x.prefix {sign} {operator} {k} e p) = prefix_first sign operator k _ e
unary_first (x.cast p q) = tt
unary_first (x.postfix p) = postfix_first p

-- a name or a reserved word is first
abbrev pub Worded : List Classified → Type 0
Worded (at (t.Name kind word) k ∷ rest) = Unit {0}
Worded (at (t.Word word) k ∷ rest) = Unit {0}
Worded _ = ⊥

fundamental_worded : (ts : List Classified) → StartsFundamental ts → Worded ts
fundamental_worded [] h = absurd h
fundamental_worded (at (t.Word word) k ∷ rest) h = tt
fundamental_worded (at _ k ∷ rest) h = absurd h

name_worded : (ts : List Classified) → StartsName ts → Worded ts
name_worded [] h = absurd h
name_worded (at (t.Name kind word) k ∷ rest) h = tt
name_worded (at _ k ∷ rest) h = absurd h

core_worded : {of : TypeName} {span : Span} {ts rest : List Classified} → ReadsCore of span ts rest → Worded ts
core_worded {ts} (g.fundamental p q) = fundamental_worded ts (starts_fundamental p q)
core_worded {ts} (g.named p) = name_worded ts (named_starts p)

path_worded : {path : List Identifier} {kind : NameKind} {word : ContextualWord} {k : Token} {ts rest : List Classified} → ReadsPath path ts (at (t.Name kind word) k ∷ rest) → Worded ts
path_worded g.none = tt
path_worded (g.next plain p) = tt
path_worded (g.next function p) = tt

pub worded_core : {value : Value} {ts rest : List Classified} → StandsCore value ts rest → Worded ts
worded_core (core p) = core_worded p

pub worded_qualified : {kind : NameKind} {value : Value} {ts rest : List Classified} → StandsQualified kind value ts rest → Worded ts
worded_qualified (qualified p) = path_worded p

pub worded_property : {value : Value} {ts rest : List Classified} → StandsProperty value ts rest → Worded ts
worded_property (property p) = tt

pub worded_declared : {value : Value} {ts rest : List Classified} → StandsDeclared value ts rest → Worded ts
worded_declared (declared i) = tt

worded_operator : {operator : BinaryOperator} {ts us : List Classified} → ReadsOperator operator ts us → Worded ts → ⊥
worded_operator (op.sign e) h = h
worded_operator (op.shift_right e) h = h

pub worded_stops : (n : ℕ) (ts : List Classified) → Worded ts → Stops n ts
worded_stops n ts h = λ operator us p. absurd (worded_operator p h)

-- where a sign or two are an operator, which others they may be
pub sign_only : (sign : Sign) (k : Token) (rest : List Classified) → NotGreater (at (t.Sign sign) k ∷ rest) → (operator : BinaryOperator) (us : List Classified) → ReadsOperator operator (at (t.Sign sign) k ∷ rest) us → binary_operator sign ≡ Some operator
sign_only sign k rest h operator us (op.sign e) = e
sign_only sign k rest h operator us (op.shift_right e) = absurd h

abbrev NotShift : Option BinaryOperator → Type 0
NotShift (Some b.ShiftRight) = ⊥
NotShift _ = Unit {0}

no_shift : (sign : Sign) → NotShift (binary_operator sign)
no_shift s.Greater = tt
no_shift _ = tt

greater_tight : {ts us : List Classified} {first second : Token} {operator : BinaryOperator} → ReadsOperator operator (at (t.Sign s.Greater) first ∷ at (t.Sign s.Greater) second ∷ ts) us → level operator ≤ 8
greater_tight (op.sign e) = subst (λ q. level q ≤ 8) (some_same e) (omega arith)
greater_tight (op.shift_right e) = omega arith

pub shift_tight : {ts rest us : List Classified} {operator : BinaryOperator} → ReadsOperator b.ShiftRight ts rest → ReadsOperator operator ts us → level operator ≤ 8
shift_tight (op.sign {sign} e) p = absurd (subst NotShift e (no_shift sign))
shift_tight (op.shift_right e) p = greater_tight p

-- the second token is no `>`
abbrev pub SecondNotGreater : List Classified → Type 0
SecondNotGreater [] = Unit {0}
SecondNotGreater (one ∷ rest) = NotGreater rest

greater_only : (sign : Sign) (k : Token) (rest us : List Classified) (operator : BinaryOperator) → NotGreater rest → ReadsOperator operator (at (t.Sign sign) k ∷ rest) us → binary_operator sign ≡ Some b.Greater → level operator ≤ 7
greater_only sign k rest us operator h (op.sign e) f = subst (λ q. level q ≤ 7) (some_same (sym f ∙ e)) (omega arith)
greater_only sign k rest us operator h (op.shift_right e) f = absurd h

pub greater_loose : {ts rest us : List Classified} {operator : BinaryOperator} → ReadsOperator b.Greater ts rest → SecondNotGreater ts → ReadsOperator operator ts us → level operator ≤ 7
greater_loose {us} {operator} (op.sign {sign} {k} {rest} e) h p = greater_only sign k rest us operator h p e

pub behind_greater : {ts rest : List Classified} → ReadsOperator b.Greater ts rest → NotGreater rest → SecondNotGreater ts
behind_greater (op.sign e) h = h

pub levels : (operator : BinaryOperator) → level operator ≤ 10
levels b.LogicalOr = omega arith
levels _ = omega arith

pub always : (ts : List Classified) → Stops (11 + 1) ts
always ts = λ operator us p. omega (levels operator, arith)

abbrev Signed : List Classified → Type 0
Signed (at (t.Sign sign) k ∷ rest) = Unit {0}
Signed _ = ⊥

operator_signed : {operator : BinaryOperator} {ts us : List Classified} → ReadsOperator operator ts us → Signed ts
operator_signed (op.sign e) = tt
operator_signed (op.shift_right e) = tt

-- No operator stands where no sign is first.
pub unsigned_stops : (n : ℕ) (ts : List Classified) → (Signed ts → ⊥) → Stops n ts
unsigned_stops n ts h = λ operator us p. absurd (h (operator_signed p))
