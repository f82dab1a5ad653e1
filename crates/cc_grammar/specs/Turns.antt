-- What the parser's code does, in the words of the machine.
use Rattle.std.specs.Prelude.{◌≡◌, ◌+◌, ◌<◌, ◌≤◌, ℕ, List, [], ◌∷◌, ◌++◌, Option, Some, None, Bool, true, false}
use Rattle.cc_tree.specs.Operators.{level}
use Rattle.cc_table.specs.Choice.{choose}
use Rattle.cc_table.specs.Table.{rows, otherwise}
use Rattle.cc_table.specs.declared.symbols.Sort.{Sort}
use Rattle.cc_table.specs.declared.symbols.Sort.TheVariants as o
use Rattle.cc_table.specs.declared.symbols.Action.TheVariants as a
use Rattle.cc_table.specs.declared.symbols.Input.{Input}
use Rattle.cc_table.specs.declared.symbols.Symbol.{Symbol}
use Rattle.cc_table.specs.declared.symbols.Symbol.TheVariants.{Non, Act}
use Rattle.cc_pushdown.specs.declared.value.Value.{Value}
use Rattle.cc_pushdown.specs.declared.value.Value.TheVariants as v
use Rattle.cc_pushdown.specs.Machine.{Fed, fed, Taken, looks, drops, keeps, joins, chosen, At, Bad, Done, step, Comes}
use Rattle.cc_grammar.specs.declared.choice.Taking.{Taking}
use Rattle.cc_grammar.specs.declared.choice.Taking.TheVariants as g
use Rattle.cc_grammar.specs.declared.choice.Choice.{Choice}
use Rattle.cc_grammar.specs.declared.choice.Choice.TheVariants as c
use Rattle.cc_grammar.specs.declared.choice.Met.{Met}
use Rattle.cc_grammar.specs.declared.choice.Met.TheVariants as m
use Rattle.cc_grammar.specs.declared.feeding.Ending.{Ending}
use Rattle.cc_grammar.specs.declared.feeding.Ending.TheVariants as e
use Rattle.cc_grammar.specs.declared.pending.Pending.{Pending}
use Rattle.cc_grammar.specs.Weight.{nearer, owes, owed, credit_of, worth, due}

abbrev pub one_fed : Pending → Fed
one_fed one = fed one.input one.value

-- the inputs that are looked at next
abbrev pub feds : List Pending → List Fed
feds [] = []
feds (one ∷ pending) = one_fed one ∷ feds pending

-- what is expected after an operator
abbrev pub operand_part : ℕ → ℕ → List Symbol
operand_part least tighter = Non o.Unary ∷ Non (o.BinaryRest tighter) ∷ Act a.MakeBinary ∷ Non (o.BinaryRest least) ∷ []

abbrev pub part_of : Taking → List Symbol
part_of (g.Drop part) = part.now
part_of (g.Keep part) = part.now
part_of (g.Greater least) = Non o.GreaterEnd ∷ Non (o.BinaryRest least) ∷ []
part_of (g.Join operator least) = operand_part least (level operator + 1)

abbrev pub kept : Taking → Value → List Value → List Value
kept (g.Drop part) value vs = vs
kept (g.Keep part) value vs = value ∷ vs
kept (g.Greater least) value vs = value ∷ vs
kept (g.Join operator least) value vs = v.Operator operator ∷ vs

abbrev pub taking_of : Taking → Taken
taking_of (g.Drop part) = drops part.now
taking_of (g.Keep part) = keeps part.now
taking_of (g.Greater least) = keeps (Non o.GreaterEnd ∷ Non (o.BinaryRest least) ∷ [])
taking_of (g.Join operator least) = joins operator (operand_part least (level operator + 1))

abbrev pub taken_of : Choice → Taken
taken_of (c.Look part) = looks part.now
taken_of (c.Take taking) = taking_of taking

abbrev pub met_by : Choice → Met
met_by (c.Look part) = m.Expect part
met_by (c.Take taking) = m.Take taking

abbrev pub Passes : Met → Sort → Type 0
Passes (m.Expect part) sort = otherwise sort ≡ Some part.now
Passes (m.Take taking) sort = ⊥
Passes m.Refuse sort = otherwise sort ≡ None

abbrev pub row_at : Sort → Input → Option Taken
row_at sort input = chosen (choose (rows sort) input)

-- the step of a part at an input: it expects others in its place, takes the input, or refuses it
abbrev pub Meets : Met → Sort → List Value → Pending → Type 0
Meets (m.Expect part) sort vs one = ((more : List Symbol) (ts : List Fed) → step (At (Non sort ∷ more) vs (one_fed one ∷ ts)) ≡ At (part.now ++ more) vs (one_fed one ∷ ts)) × (nearer sort part.now ≡ true)
Meets (m.Take taking) sort vs one = ((more : List Symbol) (ts : List Fed) → step (At (Non sort ∷ more) vs (one_fed one ∷ ts)) ≡ At (part_of taking ++ more) (kept taking one.value vs) ts) × (owed (part_of taking) + credit_of sort < owes sort + worth one.input)
Meets m.Refuse sort vs one = (more : List Symbol) (ts : List Fed) → step (At (Non sort ∷ more) vs (one_fed one ∷ ts)) ≡ Bad (one_fed one ∷ ts)

-- An input is refused, whatever follows it.
abbrev pub Refuses : List Symbol → List Value → List Fed → Type 0
Refuses more vs fs = (ts : List Fed) → (us : List Fed) × Comes (At more vs (fs ++ ts)) (Bad us)

-- An input is taken or another put before it, whatever follows it, or it is refused.
abbrev pub Settles : Bool → List Symbol → List Value → Fed → List Fed → List Symbol → List Value → List Fed → Type 0
Settles true more vs one fs left ws gs = ((ts : List Fed) → Comes (At more vs (one ∷ fs ++ ts)) (At left ws (gs ++ ts))) × (owed left + due gs < owed more + due (one ∷ fs))
Settles false more vs one fs left ws gs = Refuses more vs (one ∷ fs)

-- An input is taken, whatever follows it, or it is refused.
abbrev pub Feeds : Bool → List Symbol → List Value → Fed → List Symbol → List Value → Type 0
Feeds true more vs one left ws = ((ts : List Fed) → Comes (At more vs (one ∷ ts)) (At left ws ts)) × (owed left ≤ owed more + due (one ∷ []))
Feeds false more vs one left ws = Refuses more vs (one ∷ [])

-- After the last token nothing is expected any more, or an input is put back, or the end is refused.
abbrev pub Ends : Ending → List Symbol → List Value → List Symbol → List Value → Type 0
Ends e.Done more vs left ws = Comes (At more vs []) (Done ws)
Ends (e.Back one) more vs left ws = Comes (At more vs []) (At left ws (one_fed one ∷ [])) × (owed left + worth one.input < owed more)
Ends e.Refused more vs left ws = Comes (At more vs []) (Bad [])

abbrev pub Finishes : Bool → List Symbol → List Value → List Value → Type 0
Finishes true more vs ws = Comes (At more vs []) (Done ws)
Finishes false more vs ws = (us : List Fed) × Comes (At more vs []) (Bad us)
