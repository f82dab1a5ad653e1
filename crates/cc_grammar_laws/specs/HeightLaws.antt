-- What the kinds and the heights of the parser's values say of the trees to come.
use Rattle.std.specs.Prelude.{◌≡◌, ℕ, ◌+◌, ◌<◌, ◌≤◌, List, [], ◌∷◌, ◌++◌, map, drop}
use Rattle.cc_base.specs.declared.text.Span.{Span}
use Rattle.cc_tree.specs.declared.token.Token.{Token}
use Rattle.cc_tree.specs.declared.token.TokenKind.{TokenKind}
use Rattle.cc_tree.specs.declared.terminal.Terminal.{Terminal}
use Rattle.cc_tree.specs.declared.unit.Unit as unit
use Rattle.cc_tree.specs.Terminals.{Names, classify}
use Rattle.cc_tree.specs.GrammarUnit.{Spells}
use Rattle.cc_tree.specs.Depth.{unit_depth}
use Rattle.cc_table.specs.declared.symbols.Action.{Action}
use Rattle.cc_table.specs.declared.symbols.Symbol.{Symbol}
use Rattle.cc_table.specs.declared.symbols.Symbol.TheVariants.{Act}
use Rattle.cc_table.specs.Sizes.{uses, nests}
use Rattle.cc_pushdown.specs.declared.value.Value.{Value}
use Rattle.cc_pushdown.specs.declared.value.Value.TheVariants as v
use Rattle.cc_pushdown.specs.Build.{Ready, build}
use Rattle.cc_pushdown.specs.Machine.{Fed, feed, value_of, At, Done, Comes, start}
use Rattle.cc_grammar_laws.specs.Kinds.{AllFed, Fits}
use Rattle.cc_grammar_laws.specs.Heights.{height, heights, heights_of, tallest, least_to_come}

-- The values fit what is expected, wherever the automaton comes to from a source's tokens.
abbrev pub StackFits : Type 0
StackFits = (names : Names) (tokens : List Token) (more : List Symbol) (vs : List Value) (fs : List Fed) → Comes (start (classify names tokens)) (At more vs fs) → Fits more vs × AllFed fs

-- Where the values fit, those that the next action uses are there.
abbrev pub ActionIsReady : Type 0
ActionIsReady = (action : Action) (more : List Symbol) (vs : List Value) → Fits (Act action ∷ more) vs → Ready action vs

-- Nothing that comes is less deep than the least depth.
abbrev pub LeastIsLeast : Type 0
LeastIsLeast = (names : Names) (tokens : List Token) (more : List Symbol) (vs : List Value) (fs : List Fed) (tree : unit.Unit)
    → Comes (start (classify names tokens)) (At more vs fs) → Comes (start (classify names tokens)) (Done (v.Unit tree ∷ [])) → least_to_come more (heights_of vs fs) ≤ unit_depth tree

-- Where the least depth after some tokens is over a limit, each unit that begins with them is deeper than the limit.
abbrev pub DeepAreDeep : Type 0
DeepAreDeep = (names : Names) (tokens rest : List Token) (more : List Symbol) (vs : List Value) (tree : unit.Unit) (limit : ℕ)
    → Comes (start (classify names (tokens ++ rest))) (At more vs (map feed (classify names rest))) → limit < least_to_come more (heights 0 (map height vs)) → Spells names (tokens ++ rest) tree → limit < unit_depth tree

-- An action makes the heights from those of the values that it uses.
abbrev pub HeightsAreKept : Type 0
HeightsAreKept = (action : Action) (vs : List Value) → Ready action vs → map height (build action vs) ≡ (tallest (uses action) (map height vs) + nests action) ∷ drop (uses action) (map height vs)

-- A token has no height.
abbrev pub TokensAreFlat : Type 0
TokensAreFlat = (terminal : Terminal) (kind : TokenKind) (span : Span) → height (value_of terminal kind span) ≡ 0

-- The height that is left at the end is the depth of the unit.
abbrev pub DepthIsHeight : Type 0
DepthIsHeight = (tree : unit.Unit) → map height (v.Unit tree ∷ []) ≡ unit_depth tree ∷ []
