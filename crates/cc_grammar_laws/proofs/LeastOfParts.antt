-- Each row of the table leaves at least what its part is said to leave, whatever the heights of what it takes.
use Rattle.std.proofs.Common.{◌≡◌, ℕ, zero, suc, ◌+◌, refl, List, [], ◌∷◌, ◌++◌, map, Option, Some, None, Bool, true, false, cond, ◌||◌, ◌&&◌, nat_eq, leb}
use Rattle.cc_table.specs.declared.symbols.Sort.{Sort}
use Rattle.cc_table.specs.declared.symbols.Sort.TheVariants as o
use Rattle.cc_table.specs.declared.symbols.Pattern.{Pattern}
use Rattle.cc_table.specs.declared.symbols.Pattern.TheVariants as p
use Rattle.cc_table.specs.declared.symbols.Symbol.{Symbol}
use Rattle.cc_table.specs.declared.symbols.Symbol.TheVariants.{Non, Act, Back}
use Rattle.cc_table.specs.declared.symbols.Take.{Take}
use Rattle.cc_table.specs.declared.symbols.Take.TheVariants as take
use Rattle.cc_table.specs.Choice.{Row}
use Rattle.cc_table.specs.Table.{rows, otherwise}
use Rattle.cc_table.specs.Sizes.{uses, nests, leaves, takes, receives, adds, least}
use Rattle.cc_grammar_laws.specs.Kinds.{Kind, taken_kinds}
use Rattle.cc_grammar_laws.specs.Heights.{is_tree}
use Rattle.cc_table.specs.declared.sizes.Remains.{Remains}
use Rattle.cc_table.specs.declared.sizes.Remains.TheVariants.{Nothing, OneValue, OneInput}

-- A height that is not known is the greatest of some terms: a number, the height that waits, or the one at a place of the stack, each with what is added to it.
pub data Term : Type 0 where
  constant : ℕ → Term
  waits : ℕ → Term
  place : ℕ → ℕ → Term

abbrev pub lifted_term : ℕ → Term → Term
lifted_term k (constant n) = constant (n + k)
lifted_term k (waits n) = waits (n + k)
lifted_term k (place at n) = place at (n + k)

abbrev pub lifted : ℕ → List Term → List Term
lifted k terms = constant k ∷ map (lifted_term k) terms

abbrev pub covers_term : Term → Term → Bool
covers_term (constant n) (constant m) = leb n m
covers_term (constant n) (waits m) = leb n m
covers_term (constant n) (place at m) = leb n m
covers_term (waits n) (waits m) = leb n m
covers_term (place at n) (place other m) = nat_eq at other && leb n m
covers_term _ _ = false

abbrev pub covered_term : Term → List Term → Bool
covered_term (constant zero) others = true
covered_term term [] = false
covered_term term (other ∷ others) = covers_term term other || covered_term term others

-- Each of the first terms is at most one of the second.
abbrev pub covered : List Term → List Term → Bool
covered [] others = true
covered (term ∷ terms) others = covered_term term others && covered terms others

abbrev pub covered_all : List (List Term) → List (List Term) → Bool
covered_all [] [] = true
covered_all (one ∷ ones) (other ∷ others) = covered one other && covered_all ones others
covered_all _ _ = false

pub record Sketch : Type 0 where
  pub pending : List Term
  pub stack : List (List Term)

abbrev pub sketch : List Term → List (List Term) → Sketch
sketch pending stack = record { pending = pending; stack = stack }

abbrev pub with_term : List Term → Option (List Term × List (List Term)) → Option (List Term × List (List Term))
with_term one None = None
with_term one (Some (terms, low)) = Some (one ++ terms, low)

-- the greatest of the topmost, and what is below them
abbrev pub lifted_off : ℕ → List (List Term) → Option (List Term × List (List Term))
lifted_off zero stack = Some ([], stack)
lifted_off (suc n) [] = None
lifted_off (suc n) (one ∷ stack) = with_term one (lifted_off n stack)

abbrev pub sketch_left : Remains → List Term → List (List Term) → Sketch
sketch_left Nothing terms stack = sketch [] stack
sketch_left OneValue terms stack = sketch [] (terms ∷ stack)
sketch_left OneInput terms stack = sketch terms stack

abbrev pub sketch_part : Sort → List Term → Option (List Term × List (List Term)) → Option Sketch
sketch_part sort pending None = None
sketch_part sort pending (Some (terms, low)) = Some (sketch_left (leaves sort) (constant (least sort) ∷ lifted (adds sort) (cond (receives sort) pending [] ++ terms)) low)

abbrev pub sketch_act : ℕ → List Term → Option (List Term × List (List Term)) → Option Sketch
sketch_act k pending None = None
sketch_act k pending (Some (terms, low)) = Some (sketch pending (lifted k terms ∷ low))

abbrev pub sketch_back : Bool → Option (List Term × List (List Term)) → Option Sketch
sketch_back brings None = None
sketch_back brings (Some (terms, low)) = Some (sketch (cond brings terms []) low)

-- what a symbol makes of a sketch
abbrev pub sketched : Symbol → Sketch → Option Sketch
sketched (Non sort) s = sketch_part sort s.pending (lifted_off (takes sort) s.stack)
sketched (Act action) s = sketch_act (nests action) s.pending (lifted_off (uses action) s.stack)
sketched (Back input) s = sketch_back (is_tree input) (lifted_off 1 s.stack)

abbrev pub sketched_some : Symbol → Option Sketch → Option Sketch
sketched_some symbol None = None
sketched_some symbol (Some s) = sketched symbol s

abbrev pub sketched_all : List Symbol → Option Sketch → Option Sketch
sketched_all [] s = s
sketched_all (symbol ∷ more) s = sketched_all more (sketched_some symbol s)

abbrev pub at_least : Option Sketch → Option Sketch → Bool
at_least (Some one) (Some other) = covered one.pending other.pending && covered_all one.stack other.stack
at_least _ _ = false

-- Values of these kinds have no height.
abbrev pub is_flat : Kind → Bool
is_flat Kind.mark = true
is_flat Kind.name = true
is_flat Kind.number = true
is_flat Kind.character = true
is_flat Kind.literal = true
is_flat Kind.path = true
is_flat Kind.qualified = true
is_flat Kind.texts = true
is_flat Kind.modifiers = true
is_flat Kind.names = true
is_flat Kind.no_storage = true
is_flat Kind.storage = true
is_flat Kind.modifier_word = true
is_flat Kind.operator = true
is_flat Kind.class_modifiers = true
is_flat _ = false

abbrev pub shifted_term : Term → Term
shifted_term (constant n) = constant n
shifted_term (waits n) = waits n
shifted_term (place at n) = place (suc at) n

abbrev pub shifted : List Term → List Term
shifted terms = map shifted_term terms

abbrev pub first_place : Bool → List Term
first_place true = []
first_place false = place 0 0 ∷ []

-- the heights of values of these kinds
abbrev pub places : List Kind → List (List Term)
places [] = []
places (kind ∷ kinds) = first_place (is_flat kind) ∷ map shifted (places kinds)

-- whether a pattern is for inputs that bring a tree
abbrev pub is_tree_pattern : Pattern → Bool
is_tree_pattern p.CoreType = true
is_tree_pattern p.OperandType = true
is_tree_pattern p.PropertyType = true
is_tree_pattern _ = false

abbrev pub pending_term : Bool → List Term
pending_term true = waits 0 ∷ []
pending_term false = []

abbrev pub taken_sketch : Take → Bool → List (List Term) → Sketch
taken_sketch take.Keep brings stack = sketch [] (pending_term brings ∷ stack)
taken_sketch take.Look brings stack = sketch (pending_term brings) stack
taken_sketch take.Drop brings stack = sketch [] stack

abbrev pub pattern_leaves : Sort → Take → List Symbol → Bool → Bool
pattern_leaves sort take part brings = at_least (sketched (Non sort) (sketch (pending_term brings) (places (taken_kinds sort)))) (sketched_all part (Some (taken_sketch take brings (places (taken_kinds sort)))))

abbrev pub patterns_leave : Sort → Take → List Symbol → List Pattern → Bool
patterns_leave sort take part [] = true
patterns_leave sort take part (one ∷ patterns) = pattern_leaves sort take part (is_tree_pattern one) && patterns_leave sort take part patterns

abbrev pub rows_leave : Sort → List Row → Bool
rows_leave sort [] = true
rows_leave sort (one ∷ rows) = patterns_leave sort one.take one.part one.on && rows_leave sort rows

abbrev pub otherwise_leaves : Sort → Option (List Symbol) → Bool
otherwise_leaves sort None = true
otherwise_leaves sort (Some part) = pattern_leaves sort take.Look part true

abbrev pub sort_leaves : Sort → Bool
sort_leaves sort = rows_leave sort (rows sort) && otherwise_leaves sort (otherwise sort)

-- Each row of the table passes.
pub all_leave : (sort : Sort) → sort_leaves sort ≡ true
all_leave o.OpenParenthesis = refl
all_leave _ = refl
