-- What the machine reads, and what the grammar spells.
use Rattle.std.specs.Prelude.{◌≡◌, List, [], ◌∷◌, ◌++◌}
use Rattle.cc_base.specs.declared.text.Span.{Span}
use Rattle.cc_tree.specs.declared.type_name.TypeName.{TypeName}
use Rattle.cc_tree.specs.declared.expression.Expression.{Expression}
use Rattle.cc_tree.specs.declared.statement.Statement.{Statement}
use Rattle.cc_tree.specs.declared.token.Token.{Token}
use Rattle.cc_tree.specs.declared.unit.Unit as unit
use Rattle.cc_tree.specs.Terminals.{Classified, Names, classify}
use Rattle.cc_tree.specs.GrammarUnit.{Spells, Front}
use Rattle.cc_tree.specs.GrammarTypes.{ReadsType}
use Rattle.cc_tree.specs.GrammarExpressions.{ReadsExpression}
use Rattle.cc_tree.specs.GrammarStatements.{ReadsStatement}
use Rattle.cc_table.specs.declared.symbols.Sort.TheVariants as o
use Rattle.cc_table.specs.declared.symbols.Symbol.TheVariants.{Non}
use Rattle.cc_pushdown.specs.declared.value.Value.{Value}
use Rattle.cc_pushdown.specs.declared.value.Value.TheVariants as v
use Rattle.cc_pushdown.specs.Machine.{Fed, Config, At, Bad, Comes, Done, start}
use Rattle.cc_grammar_laws.specs.Read.{read}

-- A run of the machine ends with at most one list of values.
abbrev pub OneEnd : Type 0
OneEnd = (c : Config) (vs ws : List Value) → Comes c (Done vs) → Comes c (Done ws) → vs ≡ ws

-- The tokens of a type alone are read as that type.
abbrev pub TypesAreRead : Type 0
TypesAreRead = (of : TypeName) (span : Span) (ts : List Classified) → ReadsType of span ts []
    → Comes (At (Non o.Type ∷ []) [] (read ts)) (Done (v.Type (record { tree = of; span = span }) ∷ []))

-- Tokens that are read as a type and no more are a spelling of it.
abbrev pub OnlyTypesAreRead : Type 0
OnlyTypesAreRead = (vs : List Value) (ts : List Classified) → Comes (At (Non o.Type ∷ []) [] (read ts)) (Done vs)
    → (of : TypeName) × (span : Span) × ReadsType of span ts [] × (v.Type (record { tree = of; span = span }) ∷ [] ≡ vs)

-- The tokens of an expression alone are read as that expression.
abbrev pub ExpressionsAreRead : Type 0
ExpressionsAreRead = (one : Expression) (span : Span) (ts : List Classified) → ReadsExpression one span ts []
    → Comes (At (Non o.Expression ∷ []) [] (read ts)) (Done (v.Expression (record { tree = one; span = span }) ∷ []))

-- The tokens of a statement alone are read as that statement.
abbrev pub StatementsAreRead : Type 0
StatementsAreRead = (one : Statement) (span : Span) (ts : List Classified) → ReadsStatement one span ts []
    → Comes (At (Non o.Statement ∷ []) [] (read ts)) (Done (v.Statement (record { tree = one; span = span }) ∷ []))

-- Tokens spell at most one type, at most one expression and at most one statement.
abbrev pub OneType : Type 0
OneType = (a b : TypeName) (first second : Span) (ts : List Classified) → ReadsType a first ts [] → ReadsType b second ts [] → a ≡ b

abbrev pub OneExpression : Type 0
OneExpression = (a b : Expression) (first second : Span) (ts : List Classified) → ReadsExpression a first ts [] → ReadsExpression b second ts [] → a ≡ b

abbrev pub OneStatement : Type 0
OneStatement = (a b : Statement) (first second : Span) (ts : List Classified) → ReadsStatement a first ts [] → ReadsStatement b second ts [] → a ≡ b

-- A source that spells a unit is read as that unit.
abbrev pub UnitsAreRead : Type 0
UnitsAreRead = (names : Names) (tokens : List Token) (tree : unit.Unit) → Spells names tokens tree → Comes (start (classify names tokens)) (Done (v.Unit tree ∷ []))

-- A source that is read as a unit spells it.
abbrev pub OnlyUnitsAreRead : Type 0
OnlyUnitsAreRead = (names : Names) (tokens : List Token) (tree : unit.Unit) → Comes (start (classify names tokens)) (Done (v.Unit tree ∷ [])) → Spells names tokens tree

-- A source spells at most one unit.
abbrev pub OneUnit : Type 0
OneUnit = (names : Names) (tokens : List Token) (a b : unit.Unit) → Spells names tokens a → Spells names tokens b → a ≡ b

-- Tokens that are refused whatever follows them are no front.
abbrev pub RefusesNoFront : Type 0
RefusesNoFront = (names : Names) (tokens : List Token) → ((more : List Token) → (fs : List Fed) × Comes (start (classify names (tokens ++ more))) (Bad fs)) → Front names tokens → ⊥

-- Tokens that are refused spell no unit.
abbrev pub RefusesNoUnit : Type 0
RefusesNoUnit = (names : Names) (tokens : List Token) (tree : unit.Unit) (fs : List Fed) → Comes (start (classify names tokens)) (Bad fs) → Spells names tokens tree → ⊥
