-- What the parser answers for a list of tokens.
use Rattle.std.specs.Prelude.{◌≡◌, ◌+◌, ◌<◌, ◌≤◌, ℕ, List, [], ◌∷◌, ◌++◌, map, take, length}
use Rattle.cc_tree.specs.Terminals.{Classified, at}
use Rattle.cc_table.specs.declared.symbols.Sort.TheVariants as o
use Rattle.cc_table.specs.declared.symbols.Action.TheVariants as a
use Rattle.cc_table.specs.declared.symbols.Symbol.{Symbol}
use Rattle.cc_table.specs.declared.symbols.Symbol.TheVariants.{Non, Act}
use Rattle.cc_pushdown.specs.declared.value.Value.{Value}
use Rattle.cc_pushdown.specs.Machine.{Fed, feed, At, Bad, Done, Comes, start}
use Rattle.cc_grammar_laws.specs.Heights.{height, heights, tallest, least_to_come}
use Rattle.cc_grammar.specs.declared.reading.Reading.{Reading}
use Rattle.cc_grammar.specs.declared.reading.Reading.TheVariants as r
use Rattle.cc_grammar.specs.declared.reading.Sorted.{Sorted}
use Rattle.cc_grammar.specs.Depths.{depth_limit}

abbrev pub unit_part : List Symbol
unit_part = Act a.StartOuters ∷ Non o.UnitRest ∷ Act a.MakeUnit ∷ []

abbrev pub classified : List Sorted → List Classified
classified tokens = map (λ one. at one.terminal one.token.now) tokens

abbrev pub read : List Sorted → List Fed
read tokens = map feed (classified tokens)

-- Before the place the parser has taken all tokens, whatever follows them. The token at the place, or the end, is refused.
pub record Refused (tokens : List Sorted) (place : ℕ) : Type 0 where
  pub within : place ≤ length tokens
  pub symbols : List Symbol
  pub values : List Value
  pub before : (fs : List Fed) → Comes (At unit_part [] (read (take place tokens) ++ fs)) (At symbols values fs)
  pub token : place < length tokens → (fs : List Fed) → (us : List Fed) × Comes (At unit_part [] (read (take (place + 1) tokens) ++ fs)) (Bad us)
  pub end : place ≡ length tokens → (us : List Fed) × Comes (start (classified tokens)) (Bad us)

-- The parser has taken all tokens up to the place, whatever follows them, and each tree that can still come is deeper than the limit.
pub record TooDeep (tokens : List Sorted) (place : ℕ) : Type 0 where
  pub within : place < length tokens
  pub symbols : List Symbol
  pub values : List Value
  pub taken : (fs : List Fed) → Comes (At unit_part [] (read (take (place + 1) tokens) ++ fs)) (At symbols values fs)
  pub deep : depth_limit < least_to_come symbols (heights 0 (map height values))

-- how high the topmost value is
abbrev pub top_height : List Value → ℕ
top_height values = tallest 1 (map height values)

abbrev pub Reads : List Sorted → Reading → Type 0
Reads tokens (r.Whole values) = Comes (start (classified tokens)) (Done values) × (top_height values ≤ depth_limit)
Reads tokens (r.Refused place) = Refused tokens place
Reads tokens (r.TooDeep place) = TooDeep tokens place
Reads tokens r.TooDeepAtEnd = (values : List Value) × Comes (start (classified tokens)) (Done values) × (depth_limit < top_height values)
