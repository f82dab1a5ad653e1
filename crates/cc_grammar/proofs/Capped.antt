-- Heights up to the limit of depth: they are raised as the heights themselves are.
use Rattle.std.proofs.Common.{◌≡◌, ◌∙◌, sym, ap, refl, ◌+◌, ◌-◌, ◌<◌, ℕ, zero, suc, max, min, cond, leb, List, [], ◌∷◌, drop, Bool, true, false, arith}
use Rattle.std.proofs.lemmas.List.{drop-map}
use Rattle.cc_tree.specs.declared.expression.BinaryOperator.TheVariants as b
use Rattle.cc_tree.specs.Operators.{level}
use Rattle.cc_table.specs.Sizes.{uses, nests, leaves, takes, receives, adds, least}
use Rattle.cc_table.specs.declared.sizes.Remains.{Remains}
use Rattle.cc_table.specs.declared.sizes.Remains.TheVariants.{Nothing, OneValue, OneInput}
use Rattle.cc_table.specs.declared.symbols.Sort.{Sort}
use Rattle.cc_table.specs.declared.symbols.Sort.TheVariants as o
use Rattle.cc_table.specs.declared.symbols.Action.{Action}
use Rattle.cc_table.specs.declared.symbols.Symbol.{Symbol}
use Rattle.cc_table.specs.declared.symbols.Symbol.TheVariants.{Non, Act, Back}
use Rattle.cc_grammar_laws.specs.Heights.{Heights, heights, is_tree, tallest, part_height, left_over, raised, least_depth, operator_taken, joined, after_less, name_less, member_less, new_less, after_greater, least_to_come}
use Rattle.cc_grammar.specs.Depths.{capped, all_capped, acted, passes}

abbrev both_capped : Heights → Heights
both_capped h = heights (capped h.pending) (all_capped h.stack)

pub tallest_capped : (n : ℕ) (hs : List ℕ) → tallest n (all_capped hs) ≡ capped (tallest n hs)
tallest_capped zero hs = refl
tallest_capped (suc n) [] = refl
tallest_capped (suc n) (one ∷ hs) =
    let e : tallest n (all_capped hs) ≡ min (tallest n hs) 257 = tallest_capped n hs in
    omega (arith, e)

capped_more : (t k : ℕ) → capped (capped t + k) ≡ capped (t + k)
capped_more t k = omega arith

pub acted_capped : (action : Action) (hs : List ℕ) → acted action (all_capped hs) ≡ all_capped ((tallest (uses action) hs + nests action) ∷ drop (uses action) hs)
acted_capped action hs =
    ap (λ t. capped (t + nests action) ∷ drop (uses action) (all_capped hs)) (tallest_capped (uses action) hs)
    ∙ (ap (λ t. t ∷ drop (uses action) (all_capped hs)) (capped_more (tallest (uses action) hs) (nests action))
    ∙ ap (λ q. capped (tallest (uses action) hs + nests action) ∷ q) (drop-map capped (uses action) hs))

-- the height of a part
raised_part : (b : Bool) (l p t u k : ℕ) → u ≡ capped t → capped (max l (max (cond b (capped p) 0) u + k)) ≡ capped (max l (max (cond b p 0) t + k))
raised_part true l p t u k e = omega (arith, e)
raised_part false l p t u k e = omega (arith, e)

part_capped : (sort : Sort) (h : Heights) → capped (part_height sort (both_capped h)) ≡ capped (part_height sort h)
part_capped sort h = raised_part (receives sort) (least sort) h.pending (tallest (takes sort) h.stack) (tallest (takes sort) (all_capped h.stack)) (adds sort) (tallest_capped (takes sort) h.stack)

left_capped : (what : Remains) (height : ℕ) (hs : List ℕ) → left_over what (capped height) (all_capped hs) ≡ both_capped (left_over what height hs)
left_capped Nothing height hs = refl
left_capped OneValue height hs = refl
left_capped OneInput height hs = refl

back_capped : (b : Bool) (t u : ℕ) → u ≡ capped t → cond b u 0 ≡ capped (cond b t 0)
back_capped true t u e = e
back_capped false t u e = refl

passes_capped : (symbol : Symbol) (h : Heights) → passes symbol (both_capped h) ≡ both_capped (raised symbol h)
passes_capped (Non sort) h =
    ap (λ q. left_over (leaves sort) q (drop (takes sort) (all_capped h.stack))) (part_capped sort h)
    ∙ (ap (λ q. left_over (leaves sort) (capped (part_height sort h)) q) (drop-map capped (takes sort) h.stack)
    ∙ left_capped (leaves sort) (part_height sort h) (drop (takes sort) h.stack))
passes_capped (Act action) h = ap (λ q. heights (capped h.pending) q) (acted_capped action h.stack)
passes_capped (Back input) h =
    ap (λ q. heights q (drop 1 (all_capped h.stack))) (back_capped (is_tree input) (tallest 1 h.stack) (tallest 1 (all_capped h.stack)) (tallest_capped 1 h.stack))
    ∙ ap (λ q. heights (capped (cond (is_tree input) (tallest 1 h.stack) 0)) q) (drop-map capped 1 h.stack)

-- Heights that are the same up to the limit.
abbrev pub Like : Heights → Heights → Type 0
Like h k = both_capped h ≡ both_capped k

capped_twice : (n : ℕ) → capped (capped n) ≡ capped n
capped_twice n = omega arith

all_twice : (hs : List ℕ) → all_capped (all_capped hs) ≡ all_capped hs
all_twice [] = refl
all_twice (one ∷ hs) = ap (λ n. n ∷ all_capped (all_capped hs)) (capped_twice one) ∙ ap (λ ns. capped one ∷ ns) (all_twice hs)

pub capped_like : (h : Heights) → Like (both_capped h) h
capped_like h = ap (λ n. heights n (all_capped (all_capped h.stack))) (capped_twice h.pending) ∙ ap (heights (capped h.pending)) (all_twice h.stack)

left_like : (what : Remains) (height : ℕ) (hs : List ℕ) → Like (left_over what (capped height) hs) (left_over what height hs)
left_like Nothing height hs = refl
left_like OneValue height hs = ap (λ n. heights 0 (n ∷ all_capped hs)) (capped_twice height)
left_like OneInput height hs = ap (λ n. heights n (all_capped hs)) (capped_twice height)

pub passes_like : (symbol : Symbol) (h : Heights) → Like (passes symbol h) (raised symbol h)
passes_like (Non sort) h = left_like (leaves sort) (part_height sort h) (drop (takes sort) h.stack)
passes_like (Act action) h = ap (λ n. heights (capped h.pending) (n ∷ all_capped (drop (uses action) h.stack))) (capped_twice (tallest (uses action) h.stack + nests action))
passes_like (Back input) h = refl

raised_like : (symbol : Symbol) (h k : Heights) → Like h k → Like (raised symbol h) (raised symbol k)
raised_like symbol h k e = sym (passes_capped symbol h) ∙ (ap (passes symbol) e ∙ passes_capped symbol k)

pending_like : (h k : Heights) → Like h k → capped h.pending ≡ capped k.pending
pending_like h k e = ap (λ q. q.pending) e

stack_like : (h k : Heights) → Like h k → all_capped h.stack ≡ all_capped k.stack
stack_like h k e = ap (λ q. q.stack) e

pub tallest_like : (n : ℕ) (xs ys : List ℕ) → all_capped xs ≡ all_capped ys → capped (tallest n xs) ≡ capped (tallest n ys)
tallest_like n xs ys e = sym (tallest_capped n xs) ∙ (ap (tallest n) e ∙ tallest_capped n ys)

drop_like : (n : ℕ) (xs ys : List ℕ) → all_capped xs ≡ all_capped ys → all_capped (drop n xs) ≡ all_capped (drop n ys)
drop_like n xs ys e = sym (drop-map capped n xs) ∙ (ap (drop n) e ∙ drop-map capped n ys)

pub flat_like : (xs ys : List ℕ) → all_capped xs ≡ all_capped ys → Like (heights 0 xs) (heights 0 ys)
flat_like xs ys e = ap (heights 0) e

pub top_like : (p q x y : ℕ) (xs ys : List ℕ) → capped p ≡ capped q → capped x ≡ capped y → all_capped xs ≡ all_capped ys → Like (heights p (x ∷ xs)) (heights q (y ∷ ys))
top_like p q x y xs ys d e f = ap (λ n. heights n (capped x ∷ all_capped xs)) d ∙ (ap (λ n. heights (capped q) (n ∷ all_capped xs)) e ∙ ap (λ ns. heights (capped q) (capped y ∷ ns)) f)

-- Heights that are the same up to the limit give least depths that are.
pub least_like : (more : List Symbol) (h k : Heights) → Like h k → capped (least_depth more h) ≡ capped (least_depth more k)
least_like [] h k e = tallest_like 1 h.stack k.stack (stack_like h k e)
least_like (symbol ∷ more) h k e = least_like more (raised symbol h) (raised symbol k) (raised_like symbol h k e)

operator_like : (more : List Symbol) (h k : Heights) → Like h k → capped (operator_taken more h) ≡ capped (operator_taken more k)
operator_like more h k e =
    let t : min (tallest 1 h.stack) 257 ≡ min (tallest 1 k.stack) 257 = tallest_like 1 h.stack k.stack (stack_like h k e) in
    let p : min h.pending 257 ≡ min k.pending 257 = pending_like h k e in
    least_like more (heights 0 ((max (tallest 1 h.stack) (h.pending + 1) + 1) ∷ drop 1 h.stack)) (heights 0 ((max (tallest 1 k.stack) (k.pending + 1) + 1) ∷ drop 1 k.stack))
    (top_like 0 0 (max (tallest 1 h.stack) (h.pending + 1) + 1) (max (tallest 1 k.stack) (k.pending + 1) + 1) (drop 1 h.stack) (drop 1 k.stack) refl (omega (arith, t, p)) (drop_like 1 h.stack k.stack (stack_like h k e)))

pub joined_like : (n : ℕ) (more : List Symbol) (h k : Heights) → Like h k → capped (joined n more h) ≡ capped (joined n more k)
joined_like n (Act action ∷ more) h k e = joined_like n more (raised (Act action) h) (raised (Act action) k) (raised_like (Act action) h k e)
joined_like n (Non o.SuffixRest ∷ more) h k e = joined_like n more h k e
joined_like n (Non o.AfterUnary ∷ more) h k e = operator_like more h k e
joined_like n (Non (o.BinaryRest m) ∷ more) h k e = go (leb m n) (joined_like n more h k e)
  where
    go : (test : Bool) → capped (joined n more h) ≡ capped (joined n more k) → capped (cond test (operator_taken more h) (joined n more h)) ≡ capped (cond test (operator_taken more k) (joined n more k))
    go true deeper = operator_like more h k e
    go false deeper = deeper
joined_like n more h k e = least_like more (heights 0 h.stack) (heights 0 k.stack) (flat_like h.stack k.stack (stack_like h k e))

pub less_like : (low bare taken : ℕ) (more : List Symbol) (h k : Heights) → capped low ≡ capped bare → Like h k → capped (after_less low taken more h) ≡ capped (after_less bare taken more k)
less_like low bare taken more h k f e =
    let p : min h.pending 257 ≡ min k.pending 257 = pending_like h k e in
    let l : min low 257 ≡ min bare 257 = f in
    let drops : all_capped (drop taken h.stack) ≡ all_capped (drop taken k.stack) = drop_like taken h.stack k.stack (stack_like h k e) in
    let one : min (least_depth more (heights 0 (max low (max 1 h.pending + 2) ∷ drop taken h.stack))) 257 ≡ min (least_depth more (heights 0 (max bare (max 1 k.pending + 2) ∷ drop taken k.stack))) 257 =
    least_like more (heights 0 (max low (max 1 h.pending + 2) ∷ drop taken h.stack)) (heights 0 (max bare (max 1 k.pending + 2) ∷ drop taken k.stack))
    (top_like 0 0 (max low (max 1 h.pending + 2)) (max bare (max 1 k.pending + 2)) (drop taken h.stack) (drop taken k.stack) refl (omega (arith, p, l)) drops) in
    let other : min (joined (level b.Less) more (heights h.pending (low ∷ drop taken h.stack))) 257 ≡ min (joined (level b.Less) more (heights k.pending (bare ∷ drop taken k.stack))) 257 =
    joined_like (level b.Less) more (heights h.pending (low ∷ drop taken h.stack)) (heights k.pending (bare ∷ drop taken k.stack)) (top_like h.pending k.pending low bare (drop taken h.stack) (drop taken k.stack) p f drops) in
    omega (arith, one, other)

member_like : (more : List Symbol) (h k : Heights) → Like h k → capped (member_less more h) ≡ capped (member_less more k)
member_like more h k e =
    let t : min (tallest 3 (drop 1 h.stack)) 257 ≡ min (tallest 3 (drop 1 k.stack)) 257 = tallest_like 3 (drop 1 h.stack) (drop 1 k.stack) (drop_like 1 h.stack k.stack (stack_like h k e)) in
    less_like (tallest 3 (drop 1 h.stack) + 1) (tallest 3 (drop 1 k.stack) + 1) 4 more h k (omega (arith, t)) e

greater_like : (more : List Symbol) (xs ys : List ℕ) → all_capped xs ≡ all_capped ys → capped (after_greater more xs) ≡ capped (after_greater more ys)
greater_like more xs ys e =
    let one : min (joined (level b.Greater) more (heights 0 xs)) 257 ≡ min (joined (level b.Greater) more (heights 0 ys)) 257 = joined_like (level b.Greater) more (heights 0 xs) (heights 0 ys) (flat_like xs ys e) in
    let other : min (joined (level b.ShiftRight) more (heights 0 xs)) 257 ≡ min (joined (level b.ShiftRight) more (heights 0 ys)) 257 = joined_like (level b.ShiftRight) more (heights 0 xs) (heights 0 ys) (flat_like xs ys e) in
    omega (arith, one, other)

pub come_like : (more : List Symbol) (h k : Heights) → Like h k → capped (least_to_come more h) ≡ capped (least_to_come more k)
come_like [] h k e = tallest_like 1 h.stack k.stack (stack_like h k e)
come_like (Non o.GreaterEnd ∷ more) h k e = greater_like more (drop 1 h.stack) (drop 1 k.stack) (drop_like 1 h.stack k.stack (stack_like h k e))
come_like (Non o.AfterNameLess ∷ more) h k e = less_like 1 1 2 more (heights 0 h.stack) (heights 0 k.stack) refl (flat_like h.stack k.stack (stack_like h k e))
come_like (Non o.NameTypes ∷ more) h k e = less_like 1 1 2 more h k refl e
come_like (Non o.AfterMemberLess ∷ more) h k e = member_like more (heights 0 h.stack) (heights 0 k.stack) (flat_like h.stack k.stack (stack_like h k e))
come_like (Non o.MemberTypes ∷ more) h k e = member_like more h k e
come_like (Non o.AfterNewLess ∷ more) h k e = less_like 2 2 3 more (heights 0 h.stack) (heights 0 k.stack) refl (flat_like h.stack k.stack (stack_like h k e))
come_like (Non o.NewTypes ∷ more) h k e = less_like 2 2 3 more h k refl e
come_like (symbol ∷ more) h k e = come_like more (raised symbol h) (raised symbol k) (raised_like symbol h k e)

-- Heights are taken off one by one.
pub taken_tallest : (left h : ℕ) (hs new : List ℕ) → 0 < left → hs ≡ h ∷ new → tallest left hs ≡ max h (tallest (left - 1) new)
taken_tallest zero h hs new lt e = absurd (omega (arith, lt))
taken_tallest (suc n) h hs new lt e =
    let k : suc n - 1 ≡ n = omega arith in
    ap (tallest (suc n)) e ∙ sym (ap (λ q. max h (tallest q new)) k)

pub taken_rest : (left h : ℕ) (hs new : List ℕ) → 0 < left → hs ≡ h ∷ new → drop (left - 1) new ≡ drop left hs
taken_rest zero h hs new lt e = absurd (omega (arith, lt))
taken_rest (suc n) h hs new lt e =
    let k : suc n - 1 ≡ n = omega arith in
    ap (λ q. drop q new) k ∙ sym (ap (drop (suc n)) e)
