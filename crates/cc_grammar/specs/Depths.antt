-- Heights up to the limit of depth: what is deeper than the limit counts as one more than it.
use Rattle.std.specs.Prelude.{◌≡◌, ◌+◌, ℕ, min, List, [], ◌∷◌, map, drop, take, reverse}
use Rattle.cc_table.specs.Sizes.{uses, nests, leaves, takes}
use Rattle.cc_table.specs.declared.symbols.Action.{Action}
use Rattle.cc_table.specs.declared.symbols.Symbol.{Symbol}
use Rattle.cc_table.specs.declared.symbols.Symbol.TheVariants.{Non, Act, Back}
use Rattle.cc_pushdown.specs.declared.value.Value.{Value}
use Rattle.cc_pushdown.specs.Machine.{Fed}
use Rattle.cc_grammar_laws.specs.Kinds.{AllFed, Fits}
use Rattle.cc_grammar_laws.specs.Heights.{Heights, height, heights, tallest, part_height, left_over, raised}
use Rattle.cc_grammar.specs.declared.choice.Taking.{Taking}
use Rattle.cc_grammar.specs.declared.choice.Taking.TheVariants as g
use Rattle.cc_grammar.specs.declared.feeding.Ending.{Ending}
use Rattle.cc_grammar.specs.declared.feeding.Ending.TheVariants as e
use Rattle.cc_grammar.specs.declared.pending.Pending.{Pending}

-- how deep a tree may be
abbrev pub depth_limit : ℕ
depth_limit = 256

abbrev pub capped : ℕ → ℕ
capped n = min n 257

abbrev pub all_capped : List ℕ → List ℕ
all_capped hs = map capped hs

-- the heights of values
abbrev pub measures : List Value → List ℕ
measures vs = all_capped (map height vs)

-- Inputs that are put back carry their heights.
abbrev pub Carry : List Pending → Type 0
Carry [] = Unit {0}
Carry (one ∷ pending) = (one.height ≡ capped (height one.value)) × Carry pending

abbrev pub Carries : Ending → Type 0
Carries (e.Back one) = Carry (one ∷ [])
Carries _ = Unit {0}

-- the heights after an action
abbrev pub acted : Action → List ℕ → List ℕ
acted action hs = capped (tallest (uses action) hs + nests action) ∷ drop (uses action) hs

-- the heights after an input is taken
abbrev pub kept_height : Taking → ℕ → List ℕ → List ℕ
kept_height (g.Drop part) one hs = hs
kept_height (g.Keep part) one hs = one ∷ hs
kept_height (g.Greater least) one hs = one ∷ hs
kept_height (g.Join operator least) one hs = 0 ∷ hs

-- the least heights after a symbol
abbrev pub passes : Symbol → Heights → Heights
passes (Non sort) h = left_over (leaves sort) (capped (part_height sort h)) (drop (takes sort) h.stack)
passes (Act action) h = heights h.pending (acted action h.stack)
passes (Back input) h = raised (Back input) h

-- the lowest symbols, so many, from the topmost of them; the list has them from the bottom
abbrev pub from_top : ℕ → List Symbol → List Symbol
from_top count items = reverse (take count items)

-- The values, and those of the inputs, are of the kinds that are expected.
abbrev pub Typed : List Symbol → List Value → List Fed → Type 0
Typed more vs fs = Fits more vs × AllFed fs
