-- No step of the automaton lowers the least depth of the trees to come.
use Rattle.std.proofs.Common.{◌≡◌, ℕ, ◌+◌, ◌≤◌, max, refl, sym, ap, ◌∙◌, subst, List, [], ◌∷◌, ◌++◌, map, length, drop, Option, Some, None, Bool, true, false, cond, ◌||◌, leb, true≢false, arith, zero-le, le_refl, le_trans}
use Rattle.cc_tree.specs.declared.terminal.Terminal.TheVariants as t
use Rattle.cc_tree.specs.declared.terminal.Sign.TheVariants as s
use Rattle.cc_tree.specs.declared.expression.BinaryOperator.{BinaryOperator}
use Rattle.cc_tree.specs.Operators.{level}
use Rattle.cc_table.specs.declared.symbols.Sort.{Sort}
use Rattle.cc_table.specs.declared.symbols.Sort.TheVariants as o
use Rattle.cc_table.specs.declared.symbols.Action.TheVariants as a
use Rattle.cc_table.specs.declared.symbols.Input.{Input}
use Rattle.cc_table.specs.declared.symbols.Input.TheVariants as i
use Rattle.cc_table.specs.declared.symbols.Pattern.{Pattern}
use Rattle.cc_table.specs.declared.symbols.Symbol.{Symbol}
use Rattle.cc_table.specs.declared.symbols.Symbol.TheVariants.{Non, Act, Back}
use Rattle.cc_table.specs.declared.symbols.Take.{Take}
use Rattle.cc_table.specs.declared.symbols.Take.TheVariants as take
use Rattle.cc_table.specs.Choice.{Row, accepts, accepts_one, choose}
use Rattle.cc_table.specs.Table.{rows, otherwise}
use Rattle.cc_pushdown.specs.declared.value.Value.{Value}
use Rattle.cc_pushdown.specs.declared.value.Value.TheVariants as v
use Rattle.cc_pushdown.specs.Values.{below, top}
use Rattle.cc_pushdown.specs.Build.{build}
use Rattle.cc_pushdown.specs.Machine.{Fed, fed, Config, At, Bad, Done, Taken, looks, drops, keeps, joins, chosen, binary, operator, operator_or_none, begins, seen, lack, put, step, Comes, here, on}
use Rattle.cc_grammar_laws.specs.Kinds.{Kind, Has, Holds, taken_kinds, given_kinds, input_kind}
use Rattle.cc_grammar_laws.specs.Heights.{height, is_tree, waiting, Heights, heights, heights_of, tallest, raised, raised_all, least_depth}
use Rattle.cc_grammar_laws.proofs.KindsKept.{both, Typed, Opened, sort_opened, step_typed, is_ready}
use Rattle.cc_grammar_laws.proofs.LeastOfParts.{Term, constant, waits, place, is_flat, shifted_term, shifted, first_place, places, is_tree_pattern, pending_term, sketch, taken_sketch, pattern_leaves, patterns_leave, rows_leave, otherwise_leaves, all_leave}
use Rattle.cc_grammar_laws.proofs.LeastSketched.{AllNoHigher, no_higher_same, through, same_heights, all_grow, depth_grows, raised-append, measured, measure, real_stack, real, leaves_less}
use Rattle.cc_grammar_laws.proofs.HeightsOfInputs.{flat_height, has_some, flat_input, same_tree, seen_tree}
use Rattle.cc_grammar_laws.proofs.HeightsOfActions.{heights_kept}

-- A place is one further down where a value stands above.
shifted_once : (p x : ℕ) (xs : List ℕ) (term : Term) → measured p (x ∷ xs) (shifted_term term) ≡ measured p xs term
shifted_once p x xs (constant n) = refl
shifted_once p x xs (waits n) = refl
shifted_once p x xs (place at n) = refl

shifted_all : (p x : ℕ) (xs : List ℕ) (terms : List Term) → measure p (x ∷ xs) (shifted terms) ≡ measure p xs terms
shifted_all p x xs [] = refl
shifted_all p x xs (term ∷ terms) = ap (λ n. max n (measure p (x ∷ xs) (shifted terms))) (shifted_once p x xs term) ∙ ap (max (measured p xs term)) (shifted_all p x xs terms)

shifted_stack : (p x : ℕ) (xs : List ℕ) (stack : List (List Term)) → map (measure p (x ∷ xs)) (map shifted stack) ≡ map (measure p xs) stack
shifted_stack p x xs [] = refl
shifted_stack p x xs (terms ∷ stack) = ap (λ n. n ∷ map (measure p (x ∷ xs)) (map shifted stack)) (shifted_all p x xs terms) ∙ ap (λ ns. measure p xs terms ∷ ns) (shifted_stack p x xs stack)

first_is : (p : ℕ) (kind : Kind) (value : Value) (vs : List Value) (flat : Bool) → is_flat kind ≡ flat → Has kind (value ∷ vs) → measure p (map height (value ∷ vs)) (first_place flat) ≡ height value
first_is p kind value vs true f h = sym (flat_height kind (value ∷ vs) f h)
first_is p kind value vs false f h = omega arith

-- The heights of values of these kinds are those of the places, above others.
pub placed : (p : ℕ) (kinds low : List Kind) (vs : List Value) → Holds (kinds ++ low) vs → map height vs ≡ real_stack p (map height vs) (drop (length kinds) (map height vs)) (places kinds)
placed p [] low vs h = refl
placed p (kind ∷ kinds) low [] h = absurd (has_some kind h.0)
placed p (kind ∷ kinds) low (value ∷ vs) h =
    let x : ℕ = height value in
    let xs : List ℕ = map height vs in
    let rest : List ℕ = drop (length kinds) xs in
    ap (λ n. n ∷ xs) (sym (first_is p kind value vs (is_flat kind) refl h.0))
    ∙ ap (λ ns. measure p (x ∷ xs) (first_place (is_flat kind)) ∷ ns) (placed p kinds low vs h.1 ∙ ap (λ ns. ns ++ rest) (sym (shifted_stack p x xs (places kinds))))

-- A part in the place of its sort leaves no less.
part_higher : (sort : Sort) (what : Take) (part : List Symbol) (brings : Bool) → pattern_leaves sort what part brings ≡ true → (p : ℕ) (xs rest : List ℕ) → xs ≡ real_stack p xs rest (places (taken_kinds sort))
    → (h : Heights) → AllNoHigher (real p xs rest (taken_sketch what brings (places (taken_kinds sort)))) h
    → AllNoHigher (raised (Non sort) (heights (measure p xs (pending_term brings)) xs)) (raised_all part h)
part_higher sort what part brings ok p xs rest e h g =
    let stack : List (List Term) = places (taken_kinds sort) in
    let one = sketch (pending_term brings) stack in
    let other = taken_sketch what brings stack in
    let less : AllNoHigher (raised (Non sort) (real p xs rest one)) (raised_all part (real p xs rest other)) = leaves_less p xs rest (Non sort) part one other ok in
    let begin : raised (Non sort) (heights (measure p xs (pending_term brings)) xs) ≡ raised (Non sort) (real p xs rest one) = ap (λ ns. raised (Non sort) (heights (measure p xs (pending_term brings)) ns)) e in
    subst (λ k. AllNoHigher k (raised_all part h)) (sym begin)
    (through (raised (Non sort) (real p xs rest one)) (raised_all part (real p xs rest other)) (raised_all part h) less (all_grow part (real p xs rest other) h g))

-- What a row leaves.
patterns_one : (sort : Sort) (what : Take) (part : List Symbol) (patterns : List Pattern) (input : Input) → patterns_leave sort what part patterns ≡ true → accepts_one patterns input ≡ true → pattern_leaves sort what part (is_tree input) ≡ true
patterns_one sort what part [] input h accepted = absurd (true≢false (sym accepted))
patterns_one sort what part (one ∷ patterns) input h accepted =
    let two = both (pattern_leaves sort what part (is_tree_pattern one)) (patterns_leave sort what part patterns) h in
    go two.0 (accepts one input) refl accepted (λ b. patterns_one sort what part patterns input two.1 b)
  where
    go : pattern_leaves sort what part (is_tree_pattern one) ≡ true → (test : Bool) → accepts one input ≡ test → (test || accepts_one patterns input) ≡ true
        → (accepts_one patterns input ≡ true → pattern_leaves sort what part (is_tree input) ≡ true) → pattern_leaves sort what part (is_tree input) ≡ true
    go k true b c deeper = subst (λ brings. pattern_leaves sort what part brings ≡ true) (same_tree one input b) k
    go k false b c deeper = deeper c

abbrev ChosenLeaves : Sort → Bool → Option (Take × List Symbol) → Type 0
ChosenLeaves sort brings None = Unit {0}
ChosenLeaves sort brings (Some (what, part)) = pattern_leaves sort what part brings ≡ true

chosen_leaves : (sort : Sort) (table : List Row) (input : Input) → rows_leave sort table ≡ true → ChosenLeaves sort (is_tree input) (choose table input)
chosen_leaves sort [] input h = tt
chosen_leaves sort (one ∷ table) input h =
    let two = both (patterns_leave sort one.take one.part one.on) (rows_leave sort table) h in
    go two.0 (accepts_one one.on input) refl (chosen_leaves sort table input two.1)
  where
    go : patterns_leave sort one.take one.part one.on ≡ true → (test : Bool) → accepts_one one.on input ≡ test → ChosenLeaves sort (is_tree input) (choose table input)
        → ChosenLeaves sort (is_tree input) (cond test (Some (one.take, one.part)) (choose table input))
    go f true b deeper = patterns_one sort one.take one.part one.on input f b
    go f false b deeper = deeper

abbrev TakenLeaves : Sort → Bool → Option Taken → Type 0
TakenLeaves sort brings None = Unit {0}
TakenLeaves sort brings (Some (looks part)) = pattern_leaves sort take.Look part brings ≡ true
TakenLeaves sort brings (Some (drops part)) = pattern_leaves sort take.Drop part brings ≡ true
TakenLeaves sort brings (Some (keeps part)) = pattern_leaves sort take.Keep part brings ≡ true
TakenLeaves sort brings (Some (joins operator part)) = (pattern_leaves sort take.Keep part false ≡ true) × (brings ≡ false)

chosen_taken : (sort : Sort) (brings : Bool) (choice : Option (Take × List Symbol)) → ChosenLeaves sort brings choice → TakenLeaves sort brings (chosen choice)
chosen_taken sort brings None h = tt
chosen_taken sort brings (Some (take.Look, part)) h = h
chosen_taken sort brings (Some (take.Drop, part)) h = h
chosen_taken sort brings (Some (take.Keep, part)) h = h

operator_leaves : (n : ℕ) (of : Option BinaryOperator) → TakenLeaves (o.BinaryRest n) false (operator_or_none n of)
operator_leaves n None = tt
operator_leaves n (Some one) = go (leb n (level one))
  where
    go : (test : Bool) → TakenLeaves (o.BinaryRest n) false (cond test (Some (joins one (Non o.Unary ∷ Non (o.BinaryRest (level one + 1)) ∷ Act a.MakeBinary ∷ Non (o.BinaryRest n) ∷ []))) None)
    go true = (refl, refl)
    go false = tt

binary_leaves : (n : ℕ) (input : Input) → TakenLeaves (o.BinaryRest n) (is_tree input) (binary n input)
binary_leaves n (i.Token (t.Sign s.Greater)) = refl
binary_leaves n i.CoreType = tt
binary_leaves n i.OperandType = tt
binary_leaves n i.PropertyType = tt
binary_leaves n input = operator_leaves n (operator input)

begins_leave : (sort : Sort) (input : Input) → TakenLeaves sort (is_tree input) (begins sort input)
begins_leave (o.BinaryRest n) input = binary_leaves n input
begins_leave sort input = chosen_taken sort (is_tree input) (choose (rows sort) input) (chosen_leaves sort (rows sort) input (both (rows_leave sort (rows sort)) (otherwise_leaves sort (otherwise sort)) (all_leave sort)).0)

-- the least depth of the trees that can come from a configuration
abbrev pub least_of : Config → ℕ
least_of (At more vs fs) = least_depth more (heights_of vs fs)
least_of (Bad fs) = 0
least_of (Done vs) = tallest 1 (map height vs)

-- The one is no deeper than the other, unless that refuses.
abbrev pub NoLess : ℕ → Config → Type 0
NoLess n (At more vs fs) = n ≤ least_of (At more vs fs)
NoLess n (Bad fs) = Unit {0}
NoLess n (Done vs) = n ≤ tallest 1 (map height vs)

-- What a symbol makes of the heights is no higher than what its step leaves, above the other symbols, unless that refuses.
abbrev pub Goes : Heights → List Symbol → Config → Type 0
Goes low more (At now vs fs) = (part : List Symbol) × (now ≡ part ++ more) × AllNoHigher low (raised_all part (heights_of vs fs))
Goes low more (Bad fs) = Unit {0}
Goes low more (Done vs) = ⊥

pending_is : (p : ℕ) (xs : List ℕ) (brings : Bool) (n : ℕ) → p ≡ cond brings n 0 → p ≡ measure p xs (pending_term brings)
pending_is p xs true n e = omega arith
pending_is p xs false n e = e

lack_goes : (part : Option (List Symbol)) (sort : Sort) (more : List Symbol) (vs : List Value) (fs : List Fed) → otherwise_leaves sort part ≡ true → Opened (taken_kinds sort) (given_kinds sort) more vs
    → Goes (raised (Non sort) (heights_of vs fs)) more (lack part more vs fs)
lack_goes None sort more vs fs ok found = tt
lack_goes (Some part) sort more vs fs ok found =
    let p : ℕ = waiting fs in
    let xs : List ℕ = map height vs in
    let rest : List ℕ = drop (length (taken_kinds sort)) xs in
    let e : xs ≡ real_stack p xs rest (places (taken_kinds sort)) = placed p (taken_kinds sort) found.0 vs found.1 in
    let q : p ≡ max (p + 0) 0 = omega arith in (
      part,
      refl,
      subst (λ n. AllNoHigher (raised (Non sort) (heights n xs)) (raised_all part (heights p xs))) (sym q)
          (part_higher sort take.Look part true ok p xs rest e (heights p xs)
          (subst (λ ns. AllNoHigher (heights (max (p + 0) 0) ns) (heights p xs)) e (omega arith, no_higher_same xs))),
    )

value_height : (input : Input) (value : Value) (vs : List Value) (brings : Bool) → is_tree input ≡ brings → Has (input_kind input) (value ∷ vs) → cond brings (height value) 0 ≡ height value
value_height input value vs true e h = refl
value_height input value vs false e h = sym (flat_height (input_kind input) (value ∷ vs) (flat_input input e) h)

put_goes : (of : Option Taken) (sort : Sort) (more : List Symbol) (vs : List Value) (input : Input) (value : Value) (fs : List Fed)
    → TakenLeaves sort (is_tree input) of → Opened (taken_kinds sort) (given_kinds sort) more vs → Has (input_kind input) (value ∷ vs)
    → Goes (raised (Non sort) (heights_of vs (fed input value ∷ fs))) more (put of sort more vs input value fs)
put_goes None sort more vs input value fs ok found has = lack_goes (otherwise sort) sort more vs (fed input value ∷ fs) (both (rows_leave sort (rows sort)) (otherwise_leaves sort (otherwise sort)) (all_leave sort)).1 found
put_goes (Some (looks part)) sort more vs input value fs ok found has =
    let p : ℕ = cond (is_tree input) (height value) 0 in
    let xs : List ℕ = map height vs in
    let rest : List ℕ = drop (length (taken_kinds sort)) xs in
    let e : xs ≡ real_stack p xs rest (places (taken_kinds sort)) = placed p (taken_kinds sort) found.0 vs found.1 in
    let q : p ≡ measure p xs (pending_term (is_tree input)) = pending_is p xs (is_tree input) (height value) refl in (
      part,
      refl,
      subst (λ n. AllNoHigher (raised (Non sort) (heights n xs)) (raised_all part (heights p xs))) (sym q)
          (part_higher sort take.Look part (is_tree input) ok p xs rest e (heights p xs)
          (subst (λ n. AllNoHigher (heights n (real_stack p xs rest (places (taken_kinds sort)))) (heights p xs)) q
          (subst (λ ns. AllNoHigher (heights p ns) (heights p xs)) e (le_refl p, no_higher_same xs)))),
    )
put_goes (Some (drops part)) sort more vs input value fs ok found has =
    let p : ℕ = cond (is_tree input) (height value) 0 in
    let xs : List ℕ = map height vs in
    let rest : List ℕ = drop (length (taken_kinds sort)) xs in
    let e : xs ≡ real_stack p xs rest (places (taken_kinds sort)) = placed p (taken_kinds sort) found.0 vs found.1 in
    let q : p ≡ measure p xs (pending_term (is_tree input)) = pending_is p xs (is_tree input) (height value) refl in (
      part,
      refl,
      subst (λ n. AllNoHigher (raised (Non sort) (heights n xs)) (raised_all part (heights_of vs fs))) (sym q)
          (part_higher sort take.Drop part (is_tree input) ok p xs rest e (heights_of vs fs)
          (subst (λ ns. AllNoHigher (heights 0 ns) (heights_of vs fs)) e (zero-le, no_higher_same xs))),
    )
put_goes (Some (keeps part)) sort more vs input value fs ok found has =
    let p : ℕ = cond (is_tree input) (height value) 0 in
    let xs : List ℕ = map height vs in
    let rest : List ℕ = drop (length (taken_kinds sort)) xs in
    let e : xs ≡ real_stack p xs rest (places (taken_kinds sort)) = placed p (taken_kinds sort) found.0 vs found.1 in
    let q : p ≡ measure p xs (pending_term (is_tree input)) = pending_is p xs (is_tree input) (height value) refl in
    let r : p ≡ height value = value_height input value vs (is_tree input) refl has in
    let m : measure p xs (pending_term (is_tree input)) ≤ height value = omega (arith, q, r) in (
      part,
      refl,
      subst (λ n. AllNoHigher (raised (Non sort) (heights n xs)) (raised_all part (heights_of (value ∷ vs) fs))) (sym q)
          (part_higher sort take.Keep part (is_tree input) ok p xs rest e (heights_of (value ∷ vs) fs)
          (subst (λ ns. AllNoHigher (heights 0 (measure p xs (pending_term (is_tree input)) ∷ ns)) (heights_of (value ∷ vs) fs)) e (zero-le, (m, no_higher_same xs)))),
    )
put_goes (Some (joins operator part)) sort more vs input value fs ok found has =
    let p : ℕ = cond (is_tree input) (height value) 0 in
    let xs : List ℕ = map height vs in
    let rest : List ℕ = drop (length (taken_kinds sort)) xs in
    let e : xs ≡ real_stack p xs rest (places (taken_kinds sort)) = placed p (taken_kinds sort) found.0 vs found.1 in
    let q : p ≡ 0 = ap (λ b. cond b (height value) 0) ok.1 in (
      part,
      refl,
      subst (λ n. AllNoHigher (raised (Non sort) (heights n xs)) (raised_all part (heights_of (v.Operator operator ∷ vs) fs))) (sym q)
          (part_higher sort take.Keep part false ok.0 p xs rest e (heights_of (v.Operator operator ∷ vs) fs)
          (subst (λ ns. AllNoHigher (heights 0 (0 ∷ ns)) (heights_of (v.Operator operator ∷ vs) fs)) e (zero-le, (le_refl 0, no_higher_same xs)))),
    )

back_heights : (input : Input) (vs : List Value) (fs : List Fed) → raised (Back input) (heights_of vs fs) ≡ heights_of (below vs) (fed input (top vs) ∷ fs)
back_heights input [] fs = refl
back_heights input (value ∷ vs) fs = ap (λ n. heights (cond (is_tree input) n 0) (map height vs)) (let e : max (height value) 0 ≡ height value = omega arith in e)

pub step_goes : (symbol : Symbol) (more : List Symbol) (vs : List Value) (fs : List Fed) → Typed (At (symbol ∷ more) vs fs) → Goes (raised symbol (heights_of vs fs)) more (step (At (symbol ∷ more) vs fs))
step_goes (Act action) more vs fs h =
    ([], refl, subst (λ stack. AllNoHigher (heights (waiting fs) stack) (heights_of (build action vs) fs)) (heights_kept action vs (is_ready action more vs h.0)) (same_heights (heights_of (build action vs) fs)))
step_goes (Back input) more vs fs h =
    ([], refl, subst (λ k. AllNoHigher k (heights_of (below vs) (fed input (top vs) ∷ fs))) (sym (back_heights input vs fs)) (same_heights (heights_of (below vs) (fed input (top vs) ∷ fs))))
step_goes (Non sort) more vs [] h = lack_goes (otherwise sort) sort more vs [] (both (rows_leave sort (rows sort)) (otherwise_leaves sort (otherwise sort)) (all_leave sort)).1 (sort_opened sort more vs h.0)
step_goes (Non sort) more vs (fed input value ∷ fs) h =
    put_goes (begins sort (seen sort vs input value)) sort more vs input value fs
    (subst (λ brings. TakenLeaves sort brings (begins sort (seen sort vs input value))) (seen_tree sort vs input value) (begins_leave sort (seen sort vs input value)))
    (sort_opened sort more vs h.0) (h.1.0 vs)

goes_no_less : (low : Heights) (more : List Symbol) (c : Config) → Goes low more c → NoLess (least_depth more low) c
goes_no_less low more (At now vs fs) g =
    let grown : least_depth more low ≤ least_depth more (raised_all g.0 (heights_of vs fs)) = depth_grows more low (raised_all g.0 (heights_of vs fs)) g.2 in
    let same : least_depth (g.0 ++ more) (heights_of vs fs) ≡ least_depth more (raised_all g.0 (heights_of vs fs)) = ap (λ k. tallest 1 k.stack) (raised-append g.0 more (heights_of vs fs)) in
    subst (λ n. least_depth more low ≤ least_depth n (heights_of vs fs)) (sym g.1) (omega (arith, grown, same))
goes_no_less low more (Bad fs) g = tt
goes_no_less low more (Done vs) g = absurd g

pub step_no_less : (c : Config) → Typed c → NoLess (least_of c) (step c)
step_no_less (At [] vs []) h = le_refl (tallest 1 (map height vs))
step_no_less (At [] vs (one ∷ fs)) h = tt
step_no_less (At (symbol ∷ more) vs fs) h = goes_no_less (raised symbol (heights_of vs fs)) more (step (At (symbol ∷ more) vs fs)) (step_goes symbol more vs fs h)
step_no_less (Bad fs) h = tt
step_no_less (Done vs) h = le_refl (tallest 1 (map height vs))

-- A refusal stays.
pub refused : {c d : Config} → Comes c d → (fs : List Fed) → c ≡ Bad fs → (vs : List Value) → d ≡ Done vs → ⊥
refused here fs e vs f = true≢false (sym (ap is_bad e) ∙ ap is_bad f)
  where
    is_bad : Config → Bool
    is_bad (Bad fs) = true
    is_bad _ = false
refused {c} (on p) fs e vs f = refused p fs (ap step e) vs f

no_less_through : (n m : ℕ) (d : Config) → NoLess n d → ((fs : List Fed) → d ≡ Bad fs → ⊥) → least_of d ≤ m → n ≤ m
no_less_through n m (At more vs fs) h never g = le_trans h g
no_less_through n m (Bad fs) h never g = absurd (never fs refl)
no_less_through n m (Done vs) h never g = le_trans h g

-- What a run ends with is no less deep than what could come.
pub least_to_end : {c d : Config} → Comes c d → Typed c → (vs : List Value) → d ≡ Done vs → least_of c ≤ tallest 1 (map height vs)
least_to_end {c} here h vs e = subst (λ d. least_of d ≤ tallest 1 (map height vs)) (sym e) (le_refl (tallest 1 (map height vs)))
least_to_end {c} (on p) h vs e =
    no_less_through (least_of c) (tallest 1 (map height vs)) (step c) (step_no_less c h) (λ fs d. refused p fs d vs e) (least_to_end p (step_typed c h) vs e)
