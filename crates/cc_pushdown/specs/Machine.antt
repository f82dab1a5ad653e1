-- The parser as a machine: what is still expected, the values so far and the input left.
use Rattle.std.specs.Prelude.{◌+◌, ℕ, List, [], ◌∷◌, ◌++◌, map, Option, Some, None, Bool, true, false, cond, nat_eq, leb}
use Rattle.std.specs.Str.{bytes_eq}
use Rattle.cc_tree.specs.declared.token.TokenKind.{TokenKind}
use Rattle.cc_tree.specs.declared.token.TokenKind.TheVariants as k
use Rattle.cc_base.specs.declared.text.Span.{Span}
use Rattle.cc_tree.specs.declared.terminal.Terminal.{Terminal}
use Rattle.cc_tree.specs.declared.terminal.Terminal.TheVariants as t
use Rattle.cc_tree.specs.declared.terminal.NameKind.{NameKind}
use Rattle.cc_tree.specs.declared.terminal.ContextualWord.{ContextualWord}
use Rattle.cc_tree.specs.declared.terminal.Sign.TheVariants as s
use Rattle.cc_tree.specs.declared.expression.BinaryOperator.{BinaryOperator}
use Rattle.cc_tree.specs.declared.expression.BinaryOperator.TheVariants as b
use Rattle.cc_tree.specs.Terminals.{Classified, at}
use Rattle.cc_tree.specs.Operators.{binary_operator, level}
use Rattle.cc_table.specs.declared.symbols.Sort.{Sort}
use Rattle.cc_table.specs.declared.symbols.Sort.TheVariants as o
use Rattle.cc_table.specs.declared.symbols.Action.TheVariants as a
use Rattle.cc_table.specs.declared.symbols.Input.{Input}
use Rattle.cc_table.specs.declared.symbols.Input.TheVariants as i
use Rattle.cc_table.specs.declared.symbols.Symbol.{Symbol}
use Rattle.cc_table.specs.declared.symbols.Symbol.TheVariants.{Non, Act, Back}
use Rattle.cc_table.specs.declared.symbols.Take.{Take}
use Rattle.cc_table.specs.declared.symbols.Take.TheVariants as take
use Rattle.cc_table.specs.Choice.{choose}
use Rattle.cc_table.specs.Table.{rows, otherwise}
use Rattle.cc_pushdown.specs.declared.value.Value.{Value}
use Rattle.cc_pushdown.specs.declared.value.Value.TheVariants as v
use Rattle.cc_pushdown.specs.Values.{below, top, top_head, top_mark}
use Rattle.cc_pushdown.specs.Build.{build}

-- what the parser looks at, with its value
pub data Fed : Type 0 where
  fed : Input → Value → Fed

-- the value of a token
abbrev pub value_of : Terminal → TokenKind → Span → Value
value_of (t.Name kind word) (k.Word name) span = v.Name (record { kind = kind; word = word; identifier = record { name = name; span = span } })
value_of terminal (k.Word name) span = v.Mark (record { terminal = terminal; span = span })
value_of terminal (k.Number value suffix radix) span = v.Number (record { value = value; suffix = suffix; radix = radix; span = span })
value_of terminal (k.Character unit) span = v.Character (record { tree = unit; span = span })
value_of terminal (k.Literal text) span = v.Literal (record { tree = text; span = span })
value_of terminal (k.Sign number) span = v.Mark (record { terminal = terminal; span = span })

abbrev pub feed : Classified → Fed
feed (at terminal token) = fed (i.Token terminal) (value_of terminal token.kind token.span)

-- What a token is at a part: the class's own name, and a `>` that touches the one before it, are told apart there.
abbrev pub is_own : List Value → Value → Bool
is_own vs (v.Name name) = bytes_eq name.identifier.name (top_head vs).name.name
is_own vs _ = false

abbrev pub own_or : Bool → NameKind → ContextualWord → Input
own_or true kind word = i.Own kind word
own_or false kind word = i.Token (t.Name kind word)

abbrev pub own_seen : List Value → Input → Value → Input
own_seen vs (i.Token (t.Name kind word)) value = own_or (is_own vs value) kind word
own_seen vs input value = input

abbrev pub touches : List Value → Value → Bool
touches vs (v.Mark mark) = nat_eq (top_mark vs).span.past mark.span.first
touches vs _ = false

abbrev pub touching_seen : List Value → Input → Value → Input
touching_seen vs (i.Token (t.Sign s.Greater)) value = cond (touches vs value) i.TouchingGreater (i.Token (t.Sign s.Greater))
touching_seen vs input value = input

abbrev pub seen : Sort → List Value → Input → Value → Input
seen o.MemberStart vs input value = own_seen (below (below vs)) input value
seen o.OwnName vs input value = own_seen (below (below (below vs))) input value
seen o.GreaterEnd vs input value = touching_seen vs input value
seen _ vs input value = input

-- what a part makes of an input: it looks at it, takes it, keeps its value, or takes it for an operator
pub data Taken : Type 0 where
  looks : List Symbol → Taken
  drops : List Symbol → Taken
  keeps : List Symbol → Taken
  joins : BinaryOperator → List Symbol → Taken

abbrev pub taken : Take × List Symbol → Taken
taken (take.Look, part) = looks part
taken (take.Drop, part) = drops part
taken (take.Keep, part) = keeps part

-- the operator between two operands that an input is; a `>` is one once it is known not to begin a shift
abbrev pub operator : Input → Option BinaryOperator
operator i.ShiftRight = Some b.ShiftRight
operator i.RelationalGreater = Some b.Greater
operator (i.Token (t.Sign s.Greater)) = None
operator (i.Token (t.Sign sign)) = binary_operator sign
operator _ = None

abbrev pub operator_part : ℕ → BinaryOperator → Option Taken
operator_part n operator = cond (leb n (level operator)) (Some (joins operator (Non o.Unary ∷ Non (o.BinaryRest (level operator + 1)) ∷ Act a.MakeBinary ∷ Non (o.BinaryRest n) ∷ []))) None

abbrev pub operator_or_none : ℕ → Option BinaryOperator → Option Taken
operator_or_none n None = None
operator_or_none n (Some operator) = operator_part n operator

-- the rest of a binary expression whose operators are at least as tight as the level
abbrev pub binary : ℕ → Input → Option Taken
binary n (i.Token (t.Sign s.Greater)) = Some (keeps (Non o.GreaterEnd ∷ Non (o.BinaryRest n) ∷ []))
binary n input = operator_or_none n (operator input)

abbrev pub chosen : Option (Take × List Symbol) → Option Taken
chosen None = None
chosen (Some choice) = Some (taken choice)

abbrev pub begins : Sort → Input → Option Taken
begins (o.BinaryRest n) input = binary n input
begins sort input = chosen (choose (rows sort) input)

pub data Config : Type 0 where
  At : List Symbol → List Value → List Fed → Config
  Bad : List Fed → Config
  Done : List Value → Config

abbrev pub lack : Option (List Symbol) → List Symbol → List Value → List Fed → Config
lack None more vs ts = Bad ts
lack (Some part) more vs ts = At (part ++ more) vs ts

abbrev pub put : Option Taken → Sort → List Symbol → List Value → Input → Value → List Fed → Config
put None sort more vs input value ts = lack (otherwise sort) more vs (fed input value ∷ ts)
put (Some (looks part)) sort more vs input value ts = At (part ++ more) vs (fed input value ∷ ts)
put (Some (drops part)) sort more vs input value ts = At (part ++ more) vs ts
put (Some (keeps part)) sort more vs input value ts = At (part ++ more) (value ∷ vs) ts
put (Some (joins operator part)) sort more vs input value ts = At (part ++ more) (v.Operator operator ∷ vs) ts

abbrev pub step : Config → Config
step (At [] vs []) = Done vs
step (At [] vs (one ∷ ts)) = Bad (one ∷ ts)
step (At (Act action ∷ more) vs ts) = At more (build action vs) ts
step (At (Back input ∷ more) vs ts) = At more (below vs) (fed input (top vs) ∷ ts)
step (At (Non sort ∷ more) vs []) = lack (otherwise sort) more vs []
step (At (Non sort ∷ more) vs (fed input value ∷ ts)) = put (begins sort (seen sort vs input value)) sort more vs input value ts
step (Bad ts) = Bad ts
step (Done vs) = Done vs

-- some number of steps lead from one to the other
pub data Comes : Config → Config → Type 0 where
  here : {c : Config} → Comes c c
  on : {c d : Config} → Comes (step c) d → Comes c d

abbrev pub start : List Classified → Config
start ts = At (Act a.StartOuters ∷ Non o.UnitRest ∷ Act a.MakeUnit ∷ []) [] (map feed ts)
