-- What a run ends with where an operator comes after the topmost value.
use Rattle.std.proofs.Common.{◌≡◌, ℕ, ◌+◌, ◌≤◌, max, refl, sym, ap, ◌∙◌, subst, List, [], ◌∷◌, ◌++◌, append_assoc, map, drop, Some, None, Bool, true, false, cond, leb, true≢false, arith, zero-le, le_refl, le_trans}
use Rattle.cc_tree.specs.declared.terminal.Terminal.TheVariants as t
use Rattle.cc_tree.specs.declared.terminal.Sign.TheVariants as s
use Rattle.cc_tree.specs.declared.expression.BinaryOperator.{BinaryOperator}
use Rattle.cc_tree.specs.declared.expression.BinaryOperator.TheVariants as b
use Rattle.cc_tree.specs.Operators.{level}
use Rattle.cc_table.specs.declared.symbols.Sort.TheVariants as o
use Rattle.cc_table.specs.declared.symbols.Action.TheVariants as a
use Rattle.cc_table.specs.declared.symbols.Input.{Input}
use Rattle.cc_table.specs.declared.symbols.Input.TheVariants as i
use Rattle.cc_table.specs.declared.symbols.Symbol.{Symbol}
use Rattle.cc_table.specs.declared.symbols.Symbol.TheVariants.{Non, Act}
use Rattle.cc_pushdown.specs.declared.value.Value.{Value}
use Rattle.cc_pushdown.specs.declared.value.Value.TheVariants as v
use Rattle.cc_pushdown.specs.Build.{build}
use Rattle.cc_pushdown.specs.Machine.{Fed, fed, Config, At, Bad, Done, joins, binary, operator_part, begins, put, step, Comes, here, on}
use Rattle.cc_grammar_laws.specs.Heights.{height, is_tree, waiting, Heights, heights, heights_of, tallest, raised, raised_all, least_depth, operator_taken, joined}
use Rattle.cc_grammar_laws.proofs.KindsKept.{Typed, step_typed, is_ready}
use Rattle.cc_grammar_laws.proofs.LeastSketched.{AllNoHigher, no_higher_same, tallest_grows, drop_grows, raised_grows, all_grow, depth_grows, raised-append}
use Rattle.cc_grammar_laws.proofs.LeastKept.{least_of, Goes, step_goes, refused, least_to_end}
use Rattle.cc_grammar_laws.proofs.HeightsOfActions.{heights_kept}

-- What each run from a configuration ends with is no less deep.
abbrev pub AtMost : ℕ → Config → Type 0
AtMost n c = Typed c → (ws : List Value) → Comes c (Done ws) → n ≤ tallest 1 (map height ws)

pub least_ends : (c : Config) → AtMost (least_of c) c
least_ends c t ws p = least_to_end p t ws refl

pub lower_ends : (n m : ℕ) (c : Config) → n ≤ m → AtMost m c → AtMost n c
lower_ends n m c le f t ws p = le_trans le (f t ws p)

pub bad_ends : (n : ℕ) (fs : List Fed) → AtMost n (Bad fs)
bad_ends n fs t ws p = absurd (refused p fs refl ws refl)

abbrev is_done : Config → Bool
is_done (Done vs) = true
is_done _ = false

stepped : {c d : Config} → Comes c d → (more : List Symbol) (vs : List Value) (fs : List Fed) → c ≡ At more vs fs → (ws : List Value) → d ≡ Done ws → Comes (step (At more vs fs)) d
stepped here more vs fs e ws f = absurd (true≢false (sym (ap is_done f) ∙ ap is_done e))
stepped {c} {d} (on p) more vs fs e ws f = subst (λ x. Comes (step x) d) e p

pub step_ends : (n : ℕ) (more : List Symbol) (vs : List Value) (fs : List Fed) → AtMost n (step (At more vs fs)) → AtMost n (At more vs fs)
step_ends n more vs fs f t ws p = f (step_typed (At more vs fs) t) ws (stepped p more vs fs refl ws refl)

-- What holds of the runs from some symbols holds, from the heights that the symbols above them leave, of the runs from all of them.
pub above_ends : (F : Heights → ℕ) → ((h k : Heights) → AllNoHigher h k → F h ≤ F k) → (rest : List Symbol) → ((vs : List Value) (fs : List Fed) → AtMost (F (heights_of vs fs)) (At rest vs fs))
    → {c d : Config} → Comes c d → (q : List Symbol) (vs : List Value) (fs : List Fed) → c ≡ At (q ++ rest) vs fs → Typed c → (ws : List Value) → d ≡ Done ws → F (raised_all q (heights_of vs fs)) ≤ tallest 1 (map height ws)
above_ends F grows rest base {c} {d} p [] vs fs e t ws f = base vs fs (subst Typed e t) ws (subst (λ x. Comes x (Done ws)) e (subst (λ x. Comes c x) f p))
above_ends F grows rest base here (symbol ∷ q) vs fs e t ws f = absurd (true≢false (sym (ap is_done f) ∙ ap is_done e))
above_ends F grows rest base {c} {d} (on p) (symbol ∷ q) vs fs e t ws f =
    go (step c) refl (subst (λ x. Goes (raised symbol (heights_of vs fs)) (q ++ rest) (step x)) (sym e) (step_goes symbol (q ++ rest) vs fs (subst Typed e t)))
    (λ r us gs s. above_ends F grows rest base p r us gs s (step_typed c t) ws f)
  where
    go : (next : Config) → step c ≡ next → Goes (raised symbol (heights_of vs fs)) (q ++ rest) next
        → ((r : List Symbol) (us : List Value) (gs : List Fed) → step c ≡ At (r ++ rest) us gs → F (raised_all r (heights_of us gs)) ≤ tallest 1 (map height ws)) → F (raised_all (symbol ∷ q) (heights_of vs fs)) ≤ tallest 1 (map height ws)
    go (At now us gs) s g deeper =
        let inner : F (raised_all (g.0 ++ q) (heights_of us gs)) ≤ tallest 1 (map height ws) = deeper (g.0 ++ q) us gs (s ∙ ap (λ n. At n us gs) (g.1 ∙ sym (append_assoc g.0 q rest))) in
        let same : F (raised_all (g.0 ++ q) (heights_of us gs)) ≡ F (raised_all q (raised_all g.0 (heights_of us gs))) = ap F (raised-append g.0 q (heights_of us gs)) in
        let low : F (raised_all q (raised symbol (heights_of vs fs))) ≤ F (raised_all q (raised_all g.0 (heights_of us gs))) =
        grows (raised_all q (raised symbol (heights_of vs fs))) (raised_all q (raised_all g.0 (heights_of us gs))) (all_grow q (raised symbol (heights_of vs fs)) (raised_all g.0 (heights_of us gs)) g.2) in
        omega (arith, inner, same, low)
    go (Bad us) s g deeper = absurd (refused p us s ws f)
    go (Done us) s g deeper = absurd g

-- Higher values leave no less where an operator comes.
taken_grows : (more : List Symbol) (h k : Heights) → AllNoHigher h k → operator_taken more h ≤ operator_taken more k
taken_grows more h k g =
    let top : tallest 1 h.stack ≤ tallest 1 k.stack = tallest_grows 1 h.stack k.stack g.1 in
    let wait : h.pending ≤ k.pending = g.0 in
    depth_grows more (heights 0 ((max (tallest 1 h.stack) (h.pending + 1) + 1) ∷ drop 1 h.stack)) (heights 0 ((max (tallest 1 k.stack) (k.pending + 1) + 1) ∷ drop 1 k.stack))
    (le_refl 0, (omega (arith, top, wait), drop_grows 1 h.stack k.stack g.1))

pub joined_grows : (n : ℕ) (more : List Symbol) (h k : Heights) → AllNoHigher h k → joined n more h ≤ joined n more k
joined_grows n (Act action ∷ more) h k g = joined_grows n more (raised (Act action) h) (raised (Act action) k) (raised_grows (Act action) h k g)
joined_grows n (Non o.SuffixRest ∷ more) h k g = joined_grows n more h k g
joined_grows n (Non o.AfterUnary ∷ more) h k g = taken_grows more h k g
joined_grows n (Non (o.BinaryRest m) ∷ more) h k g = go (leb m n) (joined_grows n more h k g)
  where
    go : (test : Bool) → joined n more h ≤ joined n more k → cond test (operator_taken more h) (joined n more h) ≤ cond test (operator_taken more k) (joined n more k)
    go true deeper = taken_grows more h k g
    go false deeper = deeper
joined_grows n more h k g = depth_grows more (heights 0 h.stack) (heights 0 k.stack) (le_refl 0, g.1)

-- An input is an operator between two operands, and nothing else after an operand.
pub record Joins (input : Input) (one : BinaryOperator) : Type 0 where
  pub operates : (n : ℕ) → binary n input ≡ operator_part n one
  pub is_no_suffix : begins o.SuffixRest input ≡ None
  pub assigns_nothing : begins o.AfterUnary input ≡ None
  pub is_tight : leb 1 (level one) ≡ true
  pub flat : is_tree input ≡ false

pub less_joins : Joins (i.Token (t.Sign s.Less)) b.Less
less_joins = record { operates = λ n. refl; is_no_suffix = refl; assigns_nothing = refl; is_tight = refl; flat = refl }

pub greater_joins : Joins i.RelationalGreater b.Greater
greater_joins = record { operates = λ n. refl; is_no_suffix = refl; assigns_nothing = refl; is_tight = refl; flat = refl }

pub shift_joins : Joins i.ShiftRight b.ShiftRight
shift_joins = record { operates = λ n. refl; is_no_suffix = refl; assigns_nothing = refl; is_tight = refl; flat = refl }

abbrev operand_part : ℕ → BinaryOperator → List Symbol
operand_part n one = Non o.Unary ∷ Non (o.BinaryRest (level one + 1)) ∷ Act a.MakeBinary ∷ Non (o.BinaryRest n) ∷ []

-- An operator that is taken makes a node of the topmost value and the operand.
taken_no_less : (one : BinaryOperator) (n : ℕ) (more : List Symbol) (w : ℕ) (hs : List ℕ) → operator_taken more (heights w hs) ≤ least_depth (operand_part n one ++ more) (heights w (0 ∷ hs))
taken_no_less one n more w hs = depth_grows more (heights 0 ((max (tallest 1 hs) (w + 1) + 1) ∷ drop 1 hs)) (raised_all (operand_part n one) (heights w (0 ∷ hs))) (zero-le, (omega arith, no_higher_same (drop 1 hs)))

taken_ends : (one : BinaryOperator) (n : ℕ) (more : List Symbol) (vs : List Value) (fs : List Fed) → AtMost (operator_taken more (heights (waiting fs) (map height vs))) (At (operand_part n one ++ more) (v.Operator one ∷ vs) fs)
taken_ends one n more vs fs =
    lower_ends (operator_taken more (heights (waiting fs) (map height vs))) (least_depth (operand_part n one ++ more) (heights_of (v.Operator one ∷ vs) fs)) (At (operand_part n one ++ more) (v.Operator one ∷ vs) fs)
    (taken_no_less one n more (waiting fs) (map height vs)) (least_ends (At (operand_part n one ++ more) (v.Operator one ∷ vs) fs))

module _ (input : Input) (one : BinaryOperator) (joins_here : Joins input one) (value : Value) where
  begun_ends : (more : List Symbol) (vs : List Value) (fs : List Fed) → AtMost (operator_taken more (heights (waiting fs) (map height vs))) (At (Non (o.BinaryRest 1) ∷ Non o.ConditionalRest ∷ more) vs (fed input value ∷ fs))
  begun_ends more vs fs =
      let h : Heights = heights (waiting fs) (map height vs) in
      let low : operator_taken more h ≤ operator_taken (Non o.ConditionalRest ∷ more) h =
      depth_grows more (heights 0 ((max (tallest 1 h.stack) (h.pending + 1) + 1) ∷ drop 1 h.stack)) (raised (Non o.ConditionalRest) (heights 0 ((max (tallest 1 h.stack) (h.pending + 1) + 1) ∷ drop 1 h.stack)))
      (le_refl 0, (omega arith, no_higher_same (drop 1 h.stack))) in
      step_ends (operator_taken more h) (Non (o.BinaryRest 1) ∷ Non o.ConditionalRest ∷ more) vs (fed input value ∷ fs)
      (subst (λ of. AtMost (operator_taken more h) (put of (o.BinaryRest 1) (Non o.ConditionalRest ∷ more) vs input value fs)) (sym (joins_here.operates 1))
      (subst (λ test. AtMost (operator_taken more h) (put (cond test (Some (joins one (operand_part 1 one))) None) (o.BinaryRest 1) (Non o.ConditionalRest ∷ more) vs input value fs)) (sym joins_here.is_tight)
      (lower_ends (operator_taken more h) (operator_taken (Non o.ConditionalRest ∷ more) h) (At (operand_part 1 one ++ Non o.ConditionalRest ∷ more) (v.Operator one ∷ vs) fs) low (taken_ends one 1 (Non o.ConditionalRest ∷ more) vs fs))))

  pub joined_ends : (more : List Symbol) (vs : List Value) (fs : List Fed) → AtMost (joined (level one) more (heights (waiting fs) (map height vs))) (At more vs (fed input value ∷ fs))
  joined_ends (Act action ∷ more) vs fs = λ t.
      step_ends (joined (level one) (Act action ∷ more) (heights (waiting fs) (map height vs))) (Act action ∷ more) vs (fed input value ∷ fs)
      (subst (λ stack. AtMost (joined (level one) more (heights (waiting fs) stack)) (At more (build action vs) (fed input value ∷ fs))) (heights_kept action vs (is_ready action more vs t.0)) (joined_ends more (build action vs) fs)) t
  joined_ends (Non o.SuffixRest ∷ more) vs fs =
      step_ends (joined (level one) more (heights (waiting fs) (map height vs))) (Non o.SuffixRest ∷ more) vs (fed input value ∷ fs)
      (subst (λ of. AtMost (joined (level one) more (heights (waiting fs) (map height vs))) (put of o.SuffixRest more vs input value fs)) (sym joins_here.is_no_suffix) (joined_ends more vs fs))
  joined_ends (Non o.AfterUnary ∷ more) vs fs =
      step_ends (operator_taken more (heights (waiting fs) (map height vs))) (Non o.AfterUnary ∷ more) vs (fed input value ∷ fs)
      (subst (λ of. AtMost (operator_taken more (heights (waiting fs) (map height vs))) (put of o.AfterUnary more vs input value fs)) (sym joins_here.assigns_nothing) (begun_ends more vs fs))
  joined_ends (Non (o.BinaryRest n) ∷ more) vs fs =
      step_ends (joined (level one) (Non (o.BinaryRest n) ∷ more) (heights (waiting fs) (map height vs))) (Non (o.BinaryRest n) ∷ more) vs (fed input value ∷ fs)
      (subst (λ of. AtMost (joined (level one) (Non (o.BinaryRest n) ∷ more) (heights (waiting fs) (map height vs))) (put of (o.BinaryRest n) more vs input value fs)) (sym (joins_here.operates n)) (go (leb n (level one)) (joined_ends more vs fs)))
    where
      go : (test : Bool) → AtMost (joined (level one) more (heights (waiting fs) (map height vs))) (At more vs (fed input value ∷ fs))
          → AtMost (cond test (operator_taken more (heights (waiting fs) (map height vs))) (joined (level one) more (heights (waiting fs) (map height vs)))) (put (cond test (Some (joins one (operand_part n one))) None) (o.BinaryRest n) more vs input value fs)
      go true deeper = taken_ends one n more vs fs
      go false deeper = deeper
  joined_ends more vs fs =
      subst (λ brings. AtMost (least_depth more (heights (cond brings (height value) 0) (map height vs))) (At more vs (fed input value ∷ fs))) joins_here.flat (least_ends (At more vs (fed input value ∷ fs)))
