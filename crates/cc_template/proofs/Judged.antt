-- What is left once nodes are counted says exactly whether a node of the walk passes a limit, and which is the first.
use Rattle.std.proofs.Common.{◌≡◌, ℕ, ◌+◌, ◌-◌, ◌≤◌, ◌<◌, refl, sym, ap, ◌∙◌, List, [], ◌∷◌, ◌++◌, map, Option, Some, None, Bool, true, false, ◌&&◌, ◌||◌, not, nat_le, nat_lt, cond, Result, Ok, Err, arith}
use Rattle.std.proofs.lemmas.Bool.Decides.{nat_tests}
use Rattle.cc_base.specs.declared.text.Span.{Span}
use Rattle.cc_tree.specs.declared.unit.Outer.{Outer}
use Rattle.cc_tree.specs.declared.unit.Unit as unit
use Rattle.cc_template.specs.declared.room.Room.{Room}
use Rattle.cc_template.specs.Nodes.{Nodes, none, node, both, function, joined, each_behind, outer_nodes, unit_nodes}
use Rattle.cc_template.specs.Walk.{Visited, in_function, walk, total, is_any_over, first_past, verdict, counted}
use Rattle.cc_template.specs.Counting.{counting, next, ends, run}

next_cond : {A B : Type 0} (b : Bool) (one : Result A Span) (span : Span) (step : A → Result B Span) → next (cond b one (Err span)) step ≡ cond b (next one step) (Err span)
next_cond true one span step = refl
next_cond false one span step = refl

-- Visited nodes, counted one after another in a function in which so much may still be counted.
abbrev inside : List Visited → ℕ → ℕ → Result Room Span
inside [] left inner = Ok (record { in_all = left; in_function = Some inner })
inside (one ∷ nodes) left inner = cond (nat_le one.counts left && nat_le one.counts inner) (inside nodes (left - one.counts) (inner - one.counts)) (Err one.span)

joins_inside : (xs ys : List Visited) (step : Room → Result Room Span) → ((left inner : ℕ) → step (record { in_all = left; in_function = Some inner }) ≡ inside ys left inner)
    → (left inner : ℕ) → next (inside xs left inner) step ≡ inside (xs ++ ys) left inner
joins_inside [] ys step goes left inner = goes left inner
joins_inside (x ∷ xs) ys step goes left inner =
    next_cond (nat_le x.counts left && nat_le x.counts inner) (inside xs (left - x.counts) (inner - x.counts)) x.span step
    ∙ ap (λ (r : Result Room Span). cond (nat_le x.counts left && nat_le x.counts inner) r (Err x.span)) (joins_inside xs ys step goes (left - x.counts) (inner - x.counts))

ignores_functions : (xs : List Visited) (before left inner : ℕ) → inside (in_function before xs) left inner ≡ inside xs left inner
ignores_functions [] before left inner = refl
ignores_functions (x ∷ xs) before left inner =
    ap (λ (r : Result Room Span). cond (nat_le x.counts left && nat_le x.counts inner) r (Err x.span)) (ignores_functions xs (before + x.counts) (left - x.counts) (inner - x.counts))

ends_inside : (inner : ℕ) (one : Result Room Span) → ends (Some inner) one ≡ one
ends_inside inner (Ok room) = refl
ends_inside inner (Err span) = refl

run_inside : (nodes : Nodes) (left inner : ℕ) → run nodes (record { in_all = left; in_function = Some inner }) ≡ inside (walk nodes) left inner
run_inside none left inner = refl
run_inside (node span more parts) left inner =
    next_cond (nat_le (1 + more) left && nat_le (1 + more) inner) (Ok (record { in_all = left - (1 + more); in_function = Some (inner - (1 + more)) })) span (run parts)
    ∙ ap (λ (r : Result Room Span). cond (nat_le (1 + more) left && nat_le (1 + more) inner) r (Err span)) (run_inside parts (left - (1 + more)) (inner - (1 + more)))
run_inside (both first second) left inner =
    ap (λ (r : Result Room Span). next r (run second)) (run_inside first left inner) ∙ joins_inside (walk first) (walk second) (run second) (run_inside second) left inner
run_inside (function nodes) left inner =
    ends_inside inner (run nodes (record { in_all = left; in_function = Some inner })) ∙ run_inside nodes left inner ∙ sym (ignores_functions (walk nodes) 0 left inner)

-- Visited nodes, counted one after another outside functions, where each knows what was counted in its functions.
abbrev outside : List Visited → ℕ → Result Room Span
outside [] left = Ok (record { in_all = left; in_function = None })
outside (one ∷ nodes) left = cond (nat_le one.counts left && not (is_any_over 20_000 one.in_functions)) (outside nodes (left - one.counts)) (Err one.span)

joins_outside : (xs ys : List Visited) (step : Room → Result Room Span) → ((left : ℕ) → step (record { in_all = left; in_function = None }) ≡ outside ys left)
    → (left : ℕ) → next (outside xs left) step ≡ outside (xs ++ ys) left
joins_outside [] ys step goes left = goes left
joins_outside (x ∷ xs) ys step goes left =
    next_cond (nat_le x.counts left && not (is_any_over 20_000 x.in_functions)) (outside xs (left - x.counts)) x.span step
    ∙ ap (λ (r : Result Room Span). cond (nat_le x.counts left && not (is_any_over 20_000 x.in_functions)) r (Err x.span)) (joins_outside xs ys step goes (left - x.counts))

-- Where too much was counted in a function within these nodes, too much was counted in all of them.
abbrev Nested : ℕ → List Visited → Type 0
Nested before [] = Unit {0}
Nested before (one ∷ nodes) = (is_any_over 20_000 one.in_functions ≡ true → 20_000 < before + one.counts) × Nested (before + one.counts) nodes

nested_append : (xs ys : List Visited) → ((before : ℕ) → Nested before ys) → (before : ℕ) → Nested before xs → Nested before (xs ++ ys)
nested_append [] ys behind before h = behind before
nested_append (x ∷ xs) ys behind before h = (h.0, nested_append xs ys behind (before + x.counts) h.1)

over_outer : (inner before count : ℕ) (over : Bool) → inner ≤ before → (over ≡ true → 20_000 < before + count) → (nat_lt 20_000 (inner + count) || over) ≡ true → 20_000 < before + count
over_outer inner before count true h f e = f refl
over_outer inner before count false h f e = grind (arith, nat_tests)

nested_function : (xs : List Visited) (inner before : ℕ) → inner ≤ before → Nested before xs → Nested before (in_function inner xs)
nested_function [] inner before h nested = tt
nested_function (x ∷ xs) inner before h nested =
    (over_outer inner before x.counts (is_any_over 20_000 x.in_functions) h nested.0, nested_function xs (inner + x.counts) (before + x.counts) (omega arith) nested.1)

no_function : (before count : ℕ) → false ≡ true → 20_000 < before + count
no_function before count e = cc

nested_walk : (nodes : Nodes) (before : ℕ) → Nested before (walk nodes)
nested_walk none before = tt
nested_walk (node span more parts) before = (no_function before (1 + more), nested_walk parts (before + (1 + more)))
nested_walk (both first second) before = nested_append (walk first) (walk second) (nested_walk second) before (nested_walk first before)
nested_walk (function nodes) before = nested_function (walk nodes) 0 before (omega arith) (nested_walk nodes before)

same_test : (before count : ℕ) (over : Bool) → before ≤ 20_000 → (over ≡ true → 20_000 < before + count) → nat_le count (20_000 - before) ≡ not (nat_lt 20_000 (before + count) || over)
same_test before count true h f =
    let past : 20_000 < before + count = f refl in
    grind (arith, nat_tests)
same_test before count false h f = grind (arith, nat_tests)

still_fits : (before count : ℕ) → before ≤ 20_000 → nat_le count (20_000 - before) ≡ true → before + count ≤ 20_000
still_fits before count h e = grind (arith, nat_tests)

one_step : (fits test : Bool) (inner outer : Result Room Span) (span : Span) → (test ≡ true → ends None inner ≡ outer) → ends None (cond (fits && test) inner (Err span)) ≡ cond (fits && test) outer (Err span)
one_step true true inner outer span h = h refl
one_step true false inner outer span h = refl
one_step false test inner outer span h = refl

function_outside : (xs : List Visited) (before left : ℕ) → before ≤ 20_000 → Nested before xs → ends None (inside xs left (20_000 - before)) ≡ outside (in_function before xs) left
function_outside [] before left h nested = refl
function_outside (x ∷ xs) before left h nested =
    one_step (nat_le x.counts left) (nat_le x.counts (20_000 - before)) (inside xs (left - x.counts) ((20_000 - before) - x.counts)) (outside (in_function (before + x.counts) xs) (left - x.counts)) x.span
    (λ fits.
    let less : (20_000 - before) - x.counts ≡ 20_000 - (before + x.counts) = omega arith in
    ap (λ (inner : ℕ). ends None (inside xs (left - x.counts) inner)) less
    ∙ function_outside xs (before + x.counts) (left - x.counts) (still_fits before x.counts h fits) nested.1)
    ∙ ap (λ (test : Bool). cond (nat_le x.counts left && test) (outside (in_function (before + x.counts) xs) (left - x.counts)) (Err x.span))
    (same_test before x.counts (is_any_over 20_000 x.in_functions) h nested.0)

run_outside : (nodes : Nodes) (left : ℕ) → run nodes (record { in_all = left; in_function = None }) ≡ outside (walk nodes) left
run_outside none left = refl
run_outside (node span more parts) left =
    next_cond (nat_le (1 + more) left && true) (Ok (record { in_all = left - (1 + more); in_function = None })) span (run parts)
    ∙ ap (λ (r : Result Room Span). cond (nat_le (1 + more) left && true) r (Err span)) (run_outside parts (left - (1 + more)))
run_outside (both first second) left =
    ap (λ (r : Result Room Span). next r (run second)) (run_outside first left) ∙ joins_outside (walk first) (walk second) (run second) (run_outside second) left
run_outside (function nodes) left =
    ap (ends None) (run_inside nodes left 20_000) ∙ function_outside (walk nodes) 0 left (omega arith) (nested_walk nodes 0)

-- what is left outside functions, by the first node that passes a limit
abbrev Settled : Option Span → List Visited → ℕ → Type 0
Settled None xs left = (outside xs left ≡ Ok (record { in_all = left - total xs; in_function = None })) × (total xs ≤ left)
Settled (Some span) xs left = outside xs left ≡ Err span

passed_on : (first : Option Span) (x : Visited) (xs : List Visited) (left : ℕ) → x.counts ≤ left → outside (x ∷ xs) left ≡ outside xs (left - x.counts) → Settled first xs (left - x.counts) → Settled first (x ∷ xs) left
passed_on None x xs left h step known =
    let rest : total xs ≤ left - x.counts = known.1 in
    let less : (left - x.counts) - total xs ≡ left - (x.counts + total xs) = omega arith in
    let fits : x.counts + total xs ≤ left = omega arith in
    (step ∙ known.0 ∙ ap (λ (n : ℕ). Ok (record { in_all = n; in_function = None })) less, fits)
passed_on (Some span) x xs left h step known = step ∙ known

stops : (test over : Bool) (rest : Result Room Span) (span : Span) → (test && not over) ≡ false → cond (test && not over) rest (Err span) ≡ Err span
stops test over rest span e = ap (λ (b : Bool). cond b rest (Err span)) e

goes_on : (test over : Bool) (rest : Result Room Span) (span : Span) → (test && not over) ≡ true → cond (test && not over) rest (Err span) ≡ rest
goes_on test over rest span e = ap (λ (b : Bool). cond b rest (Err span)) e

one_settled : (past over : Bool) (x : Visited) (xs : List Visited) (left : ℕ) (rest : Option Span) → nat_le x.counts left ≡ not past → is_any_over 20_000 x.in_functions ≡ over
    → (x.counts ≤ left → Settled rest xs (left - x.counts)) → Settled (cond (past || over) (Some x.span) rest) (x ∷ xs) left
one_settled true over x xs left rest e f behind = stops (nat_le x.counts left) (is_any_over 20_000 x.in_functions) (outside xs (left - x.counts)) x.span (ap (λ (b : Bool). b && not (is_any_over 20_000 x.in_functions)) e)
one_settled false true x xs left rest e f behind =
    stops (nat_le x.counts left) (is_any_over 20_000 x.in_functions) (outside xs (left - x.counts)) x.span (ap (λ (b : Bool). b && not (is_any_over 20_000 x.in_functions)) e ∙ ap not f)
one_settled false false x xs left rest e f behind =
    let fits : x.counts ≤ left = grind (arith, nat_tests) in
    passed_on rest x xs left fits
    (goes_on (nat_le x.counts left) (is_any_over 20_000 x.in_functions) (outside xs (left - x.counts)) x.span (ap (λ (b : Bool). b && not (is_any_over 20_000 x.in_functions)) e ∙ ap not f))
    (behind fits)

same_limit : (before left count : ℕ) → before + left ≡ 200_000 → nat_le count left ≡ not (nat_lt 200_000 (before + count))
same_limit before left count e = grind (arith, nat_tests)

settled : (xs : List Visited) (before left : ℕ) → before + left ≡ 200_000 → Settled (first_past before xs) xs left
settled [] before left e =
    let same : left ≡ left - 0 = omega arith in
    let fits : 0 ≤ left = omega arith in
    (ap (λ (n : ℕ). Ok (record { in_all = n; in_function = None })) same, fits)
settled (x ∷ xs) before left e =
    one_settled (nat_lt 200_000 (before + x.counts)) (is_any_over 20_000 x.in_functions) x xs left (first_past (before + x.counts) xs) (same_limit before left x.counts e) refl
    (λ fits. settled xs (before + x.counts) (left - x.counts) (omega arith))

-- from what is left to the verdict
not_both : (one : Result Room Span) (room : Room) (span : Span) → one ≡ Ok room → one ≡ Err span → ⊥
not_both one room span e f = cc

same_room : (one : Result Room Span) (room other : Room) → one ≡ Ok room → one ≡ Ok other → room ≡ other
same_room one room other e f = cc

same_span : (one : Result Room Span) (span other : Span) → one ≡ Err span → one ≡ Err other → span ≡ other
same_span one span other e f = cc

ok_verdict : (first : Option Span) (xs : List Visited) (room : Room) → Settled first xs 200_000 → outside xs 200_000 ≡ Ok room → (room.in_all ≤ 200_000) × (Ok (200_000 - room.in_all) ≡ verdict first (total xs))
ok_verdict None xs room known e =
    let left : room.in_all ≡ 200_000 - total xs = ap (λ (r : Room). r.in_all) (same_room (outside xs 200_000) room (record { in_all = 200_000 - total xs; in_function = None }) e known.0) in
    let fits : total xs ≤ 200_000 = known.1 in
    let same : 200_000 - room.in_all ≡ total xs = omega arith in
    (omega arith, ap Ok same)
ok_verdict (Some span) xs room known e = absurd (not_both (outside xs 200_000) room span e known)

err_verdict : (first : Option Span) (xs : List Visited) (span : Span) → Settled first xs 200_000 → outside xs 200_000 ≡ Err span → Err span ≡ verdict first (total xs)
err_verdict None xs span known e = absurd (not_both (outside xs 200_000) (record { in_all = 200_000 - total xs; in_function = None }) span known.0 e)
err_verdict (Some other) xs span known e = ap Err (same_span (outside xs 200_000) span other e known)

abbrev pub whole : Room
whole = record { in_all = 200_000; in_function = None }

-- a unit's node and then its declarations
pub run_unit : (tree : unit.Unit) (outers : List Outer) (start first : Room) (one two : Result Room Span) → outers ≡ tree.outers → start ≡ whole → one ≡ counting tree.span 1 start → one ≡ Ok first
    → two ≡ run (joined (each_behind 0 (map outer_nodes outers))) first → run (unit_nodes tree) whole ≡ two
run_unit tree outers start first one two same from e f g =
    ap (λ (r : Result Room Span). next r (run (joined (each_behind 0 (map outer_nodes tree.outers))))) (ap (counting tree.span 1) (sym from) ∙ sym e ∙ f)
    ∙ ap (λ (os : List Outer). run (joined (each_behind 0 (map outer_nodes os))) first) (sym same)
    ∙ sym g

pub counted_ok : (tree : unit.Unit) (room : Room) → run (unit_nodes tree) whole ≡ Ok room → (room.in_all ≤ 200_000) × (Ok (200_000 - room.in_all) ≡ counted tree)
counted_ok tree room e =
    ok_verdict (first_past 0 (walk (unit_nodes tree))) (walk (unit_nodes tree)) room (settled (walk (unit_nodes tree)) 0 200_000 refl) (sym (run_outside (unit_nodes tree) 200_000) ∙ e)

pub counted_err : (tree : unit.Unit) (span : Span) → run (unit_nodes tree) whole ≡ Err span → Err span ≡ counted tree
counted_err tree span e =
    err_verdict (first_past 0 (walk (unit_nodes tree))) (walk (unit_nodes tree)) span (settled (walk (unit_nodes tree)) 0 200_000 refl) (sym (run_outside (unit_nodes tree) 200_000) ∙ e)
