-- Stacks that are gone through from the top by their slices from the bottom.
use Rattle.std.proofs.Common.{◌≡◌, refl, subst, max, min, drop, cond, leb, Bool, true, false, Option, Some, None, ◌∙◌, sym, ap, ◌+◌, ◌-◌, ◌<◌, ◌≤◌, ℕ, List, [], ◌∷◌, length, take, get_or, reverse, arith}
use Rattle.std.proofs.lemmas.List.{take_all, take_more, reverse-append, reverse-reverse}
use Rattle.cc_tree.specs.declared.expression.BinaryOperator.TheVariants as b
use Rattle.cc_tree.specs.Operators.{level}
use Rattle.cc_table.specs.declared.symbols.Symbol.{Symbol}
use Rattle.cc_table.specs.declared.symbols.Sort.TheVariants as o
use Rattle.cc_table.specs.declared.symbols.Action.{Action}
use Rattle.cc_table.specs.declared.symbols.Symbol.TheVariants.{Non, Act}
use Rattle.cc_grammar_laws.specs.Heights.{Heights, heights, tallest, raised, least_depth, operator_taken, joined, after_less, member_less, least_to_come}
use Rattle.cc_grammar.specs.declared.coming.Meeting.{Meeting}
use Rattle.cc_grammar.specs.declared.coming.Meeting.TheVariants as m
use Rattle.cc_grammar.specs.declared.coming.Sign.{Sign}
use Rattle.cc_grammar.specs.Depths.{capped, all_capped, acted, passes, from_top}
use Rattle.cc_grammar.specs.Coming.{meeting_at, sign_of, after_sign}
use Rattle.cc_grammar.proofs.Capped.{passes_like, top_like, least_like, joined_like, less_like, come_like}

one_more : {A : Type 0} (xs : List A) (i : ℕ) (d : A) → i < length xs → reverse (take (i + 1) xs) ≡ get_or xs i d ∷ reverse (take i xs)
one_more xs i d lt = ap reverse (take_more xs i d lt) ∙ reverse-append (take i xs) (get_or xs i d ∷ [])

all_of : {A : Type 0} (xs ys : List A) (i : ℕ) → length xs ≤ i → xs ≡ reverse ys → reverse (take i xs) ≡ ys
all_of xs ys i le e = ap reverse (take_all i xs le ∙ e) ∙ reverse-reverse ys

pub copied_on : {A : Type 0} (xs : List A) (i : ℕ) (d : A) (copy new : List A) → i < length xs → copy ≡ reverse (take i xs) → new ≡ get_or xs i d ∷ copy → new ≡ reverse (take (i + 1) xs)
copied_on xs i d copy new lt e p = p ∙ (ap (λ q. get_or xs i d ∷ q) e ∙ sym (one_more xs i d lt))

pub copied_all : {A : Type 0} (xs ys copy : List A) (i : ℕ) → length xs ≤ i → copy ≡ reverse (take i xs) → xs ≡ reverse ys → copy ≡ ys
copied_all xs ys copy i le e f = e ∙ all_of xs ys i le f

-- The next symbol, and those below it.
pub next : (xs : List Symbol) (left : ℕ) (d : Symbol) → 0 < left → left ≤ length xs → from_top left xs ≡ get_or xs (left - 1) d ∷ from_top (left - 1) xs
next xs left d lt le =
    let s : left - 1 + 1 ≡ left = omega (arith, lt) in
    subst (λ n. reverse (take n xs) ≡ get_or xs (left - 1) d ∷ reverse (take (left - 1) xs)) s (one_more xs (left - 1) d (omega (arith, lt, le)))

pub none_left : (xs : List Symbol) (left : ℕ) → left ≤ 0 → from_top left xs ≡ []
none_left xs left le =
    let z : 0 ≡ left = omega (arith, le) in
    subst (λ n. from_top n xs ≡ []) z refl

pub whole : (xs ys : List Symbol) → xs ≡ reverse ys → from_top (length xs) xs ≡ ys
whole xs ys e = all_of xs ys (length xs) (omega arith) e

-- The least depth, symbol by symbol.
pub depth_on : (xs : List Symbol) (left : ℕ) (d : Symbol) (h k : Heights) (to : ℕ) → 0 < left → left ≤ length xs → k ≡ passes (get_or xs (left - 1) d) h → capped (least_depth (from_top left xs) h) ≡ to → capped (least_depth (from_top (left - 1) xs) k) ≡ to
depth_on xs left d h k to lt le e p =
    ap (λ q. capped (least_depth (from_top (left - 1) xs) q)) e
    ∙ (least_like (from_top (left - 1) xs) (passes (get_or xs (left - 1) d) h) (raised (get_or xs (left - 1) d) h) (passes_like (get_or xs (left - 1) d) h)
    ∙ (ap (λ q. capped (least_depth q h)) (sym (next xs left d lt le)) ∙ p))

pub depth_ended : (xs : List Symbol) (left : ℕ) (h : Heights) (to top last : ℕ) → left ≤ 0 → capped (least_depth (from_top left xs) h) ≡ to → top ≡ tallest 1 h.stack → last ≡ capped top → last ≡ to
depth_ended xs left h to top last le p e f = f ∙ (ap capped e ∙ (ap (λ q. capped (least_depth q h)) (sym (none_left xs left le)) ∙ p))

-- what a symbol is to an operator
abbrev met : ℕ → Meeting → Symbol → List Symbol → Heights → ℕ
met n (m.Act action) symbol more h = joined n more (raised (Act action) h)
met n m.Pass symbol more h = joined n more h
met n m.Take symbol more h = operator_taken more h
met n m.End symbol more h = least_depth (symbol ∷ more) (heights 0 h.stack)

met_so : (n : ℕ) (symbol : Symbol) (more : List Symbol) (h : Heights) → joined n (symbol ∷ more) h ≡ met n (meeting_at n symbol) symbol more h
met_so n (Act action) more h = refl
met_so n (Non o.SuffixRest) more h = refl
met_so n (Non o.AfterUnary) more h = refl
met_so n (Non (o.BinaryRest k)) more h = go (leb k n)
  where
    go : (test : Bool) → cond test (operator_taken more h) (joined n more h) ≡ met n (cond test m.Take m.Pass) (Non (o.BinaryRest k)) more h
    go true = refl
    go false = refl
met_so n _ more h = refl

joined_met : (n : ℕ) (xs : List Symbol) (left : ℕ) (d : Symbol) (h : Heights) (of : Meeting) → 0 < left → left ≤ length xs → of ≡ meeting_at n (get_or xs (left - 1) d)
    → joined n (from_top left xs) h ≡ met n of (get_or xs (left - 1) d) (from_top (left - 1) xs) h
joined_met n xs left d h of lt le e =
    ap (λ q. joined n q h) (next xs left d lt le)
    ∙ (met_so n (get_or xs (left - 1) d) (from_top (left - 1) xs) h ∙ ap (λ q. met n q (get_or xs (left - 1) d) (from_top (left - 1) xs) h) (sym e))

pub joined_acts : (n : ℕ) (xs : List Symbol) (left : ℕ) (d : Symbol) (w : ℕ) (hs ks : List ℕ) (action : Action) (to : ℕ) → 0 < left → left ≤ length xs → m.Act action ≡ meeting_at n (get_or xs (left - 1) d) → ks ≡ acted action hs
    → capped (joined n (from_top left xs) (heights w hs)) ≡ to → capped (joined n (from_top (left - 1) xs) (heights w ks)) ≡ to
joined_acts n xs left d w hs ks action to lt le e f p =
    ap (λ q. capped (joined n (from_top (left - 1) xs) (heights w q))) f
    ∙ (joined_like n (from_top (left - 1) xs) (passes (Act action) (heights w hs)) (raised (Act action) (heights w hs)) (passes_like (Act action) (heights w hs))
    ∙ (ap capped (sym (joined_met n xs left d (heights w hs) (m.Act action) lt le e)) ∙ p))

pub joined_passes : (n : ℕ) (xs : List Symbol) (left : ℕ) (d : Symbol) (h : Heights) (to : ℕ) → 0 < left → left ≤ length xs → m.Pass ≡ meeting_at n (get_or xs (left - 1) d)
    → capped (joined n (from_top left xs) h) ≡ to → capped (joined n (from_top (left - 1) xs) h) ≡ to
joined_passes n xs left d h to lt le e p = ap capped (sym (joined_met n xs left d h m.Pass lt le e)) ∙ p

pub joined_takes : (n : ℕ) (xs : List Symbol) (left : ℕ) (d : Symbol) (h : Heights) (to : ℕ) → 0 < left → left ≤ length xs → m.Take ≡ meeting_at n (get_or xs (left - 1) d)
    → capped (joined n (from_top left xs) h) ≡ to → capped (operator_taken (from_top (left - 1) xs) h) ≡ to
joined_takes n xs left d h to lt le e p = ap capped (sym (joined_met n xs left d h m.Take lt le e)) ∙ p

pub joined_stops : (n : ℕ) (xs : List Symbol) (left : ℕ) (d : Symbol) (h : Heights) (to : ℕ) → 0 < left → left ≤ length xs → m.End ≡ meeting_at n (get_or xs (left - 1) d)
    → capped (joined n (from_top left xs) h) ≡ to → capped (least_depth (from_top left xs) (heights 0 h.stack)) ≡ to
joined_stops n xs left d h to lt le e p =
    ap (λ q. capped (least_depth q (heights 0 h.stack))) (next xs left d lt le) ∙ (ap capped (sym (joined_met n xs left d h m.End lt le e)) ∙ p)

pub joined_ended : (n : ℕ) (xs : List Symbol) (left : ℕ) (h : Heights) (to top last : ℕ) → left ≤ 0 → capped (joined n (from_top left xs) h) ≡ to → top ≡ tallest 1 h.stack → last ≡ capped top → last ≡ to
joined_ended n xs left h to top last le p e f = f ∙ (ap capped e ∙ (ap (λ q. capped (joined n q h)) (sym (none_left xs left le)) ∙ p))

-- what a symbol is to what can come
abbrev after : Option Sign → Symbol → List Symbol → Heights → ℕ
after None symbol more h = least_to_come more (raised symbol h)
after (Some one) symbol more h = after_sign one more h

after_so : (symbol : Symbol) (more : List Symbol) (h : Heights) → least_to_come (symbol ∷ more) h ≡ after (sign_of symbol) symbol more h
after_so (Non o.GreaterEnd) more h = refl
after_so (Non o.AfterNameLess) more h = refl
after_so (Non o.NameTypes) more h = refl
after_so (Non o.AfterMemberLess) more h = refl
after_so (Non o.MemberTypes) more h = refl
after_so (Non o.AfterNewLess) more h = refl
after_so (Non o.NewTypes) more h = refl
after_so _ more h = refl

come_after : (xs : List Symbol) (left : ℕ) (d : Symbol) (h : Heights) (of : Option Sign) → 0 < left → left ≤ length xs → of ≡ sign_of (get_or xs (left - 1) d)
    → least_to_come (from_top left xs) h ≡ after of (get_or xs (left - 1) d) (from_top (left - 1) xs) h
come_after xs left d h of lt le e =
    ap (λ q. least_to_come q h) (next xs left d lt le)
    ∙ (after_so (get_or xs (left - 1) d) (from_top (left - 1) xs) h ∙ ap (λ q. after q (get_or xs (left - 1) d) (from_top (left - 1) xs) h) (sym e))

pub come_on : (xs : List Symbol) (left : ℕ) (d : Symbol) (h k : Heights) (to : ℕ) → 0 < left → left ≤ length xs → None ≡ sign_of (get_or xs (left - 1) d) → k ≡ passes (get_or xs (left - 1) d) h
    → capped (least_to_come (from_top left xs) h) ≡ to → capped (least_to_come (from_top (left - 1) xs) k) ≡ to
come_on xs left d h k to lt le e f p =
    ap (λ q. capped (least_to_come (from_top (left - 1) xs) q)) f
    ∙ (come_like (from_top (left - 1) xs) (passes (get_or xs (left - 1) d) h) (raised (get_or xs (left - 1) d) h) (passes_like (get_or xs (left - 1) d) h)
    ∙ (ap capped (sym (come_after xs left d h None lt le e)) ∙ p))

pub come_signed : (xs : List Symbol) (left : ℕ) (d : Symbol) (h : Heights) (one : Sign) (to : ℕ) → 0 < left → left ≤ length xs → Some one ≡ sign_of (get_or xs (left - 1) d)
    → capped (least_to_come (from_top left xs) h) ≡ to → capped (after_sign one (from_top (left - 1) xs) h) ≡ to
come_signed xs left d h one to lt le e p = ap capped (sym (come_after xs left d h (Some one) lt le e)) ∙ p

pub come_ended : (xs : List Symbol) (left : ℕ) (h : Heights) (to top last : ℕ) → left ≤ 0 → capped (least_to_come (from_top left xs) h) ≡ to → top ≡ tallest 1 h.stack → last ≡ capped top → last ≡ to
come_ended xs left h to top last le p e f = f ∙ (ap capped e ∙ (ap (λ q. capped (least_to_come q h)) (sym (none_left xs left le)) ∙ p))

-- An operator takes the topmost height.
pub operator_so : (more : List Symbol) (w : ℕ) (hs rest ks : List ℕ) (first second one top : ℕ) → first ≡ tallest 1 hs → rest ≡ drop 1 hs → second ≡ capped (w + 1) → one ≡ max first second → top ≡ capped (one + 1) → ks ≡ top ∷ rest
    → capped (least_depth more (heights 0 ks)) ≡ capped (operator_taken more (heights w hs))
operator_so more w hs rest ks first second one top a b c d e f =
    let t : min top 257 ≡ min (max (tallest 1 hs) (w + 1) + 1) 257 = omega (arith, a, c, d, e) in
    ap (λ q. capped (least_depth more (heights 0 q))) f
    ∙ least_like more (heights 0 (top ∷ rest)) (heights 0 ((max (tallest 1 hs) (w + 1) + 1) ∷ drop 1 hs)) (top_like 0 0 top (max (tallest 1 hs) (w + 1) + 1) rest (drop 1 hs) refl t (ap all_capped b))

-- After a `<`.
pub less_so : (more : List Symbol) (w bare n : ℕ) (hs copies ks ls : List ℕ) (one two typed there without last : ℕ) → copies ≡ hs → one ≡ max 1 w → two ≡ capped (one + 2) → typed ≡ max bare two → ks ≡ typed ∷ hs → ls ≡ bare ∷ copies
    → n ≡ level b.Less → there ≡ capped (least_depth more (heights 0 ks)) → without ≡ capped (joined n more (heights w ls)) → last ≡ min there without → last ≡ capped (after_less bare 0 more (heights w hs))
less_so more w bare n hs copies ks ls one two typed there without last a c d e f g i j k l =
    let t : min typed 257 ≡ min (max bare (max 1 w + 2)) 257 = omega (arith, c, d, e) in
    let x : there ≡ min (least_depth more (heights 0 (max bare (max 1 w + 2) ∷ hs))) 257 =
    j ∙ (ap (λ q. capped (least_depth more (heights 0 q))) f ∙ least_like more (heights 0 (typed ∷ hs)) (heights 0 (max bare (max 1 w + 2) ∷ hs)) (top_like 0 0 typed (max bare (max 1 w + 2)) hs hs refl t refl)) in
    let y : without ≡ min (joined (level b.Less) more (heights w (bare ∷ hs))) 257 =
    k ∙ (ap (λ q. capped (joined q more (heights w ls))) i ∙ ap (λ q. capped (joined (level b.Less) more (heights w q))) (g ∙ ap (λ q. bare ∷ q) a)) in
    omega (arith, x, y, l)

below_four : (hs : List ℕ) → drop 3 (drop 1 hs) ≡ drop 4 hs
below_four [] = refl
below_four (one ∷ hs) = refl

-- After the `<` of a member's name.
pub member_so : (more : List Symbol) (w : ℕ) (hs rest low : List ℕ) (selected bare : ℕ) → rest ≡ drop 1 hs → selected ≡ tallest 3 rest → low ≡ drop 3 rest → bare ≡ capped (selected + 1) → capped (after_less bare 0 more (heights w low)) ≡ capped (member_less more (heights w hs))
member_so more w hs rest low selected bare a c d e =
    let t : selected ≡ tallest 3 (drop 1 hs) = c ∙ ap (tallest 3) a in
    let f : low ≡ drop 4 hs = d ∙ (ap (drop 3) a ∙ below_four hs) in
    ap (λ q. capped (after_less bare 0 more (heights w q))) f ∙ less_like bare (tallest 3 (drop 1 hs) + 1) 0 more (heights w (drop 4 hs)) (heights w (drop 4 hs)) (omega (arith, e, t)) refl
