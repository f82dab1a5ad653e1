-- Runs of the parser over tokens.
use Rattle.std.proofs.Common.{◌≡◌, ◌∙◌, sym, ap, subst, refl, ◌+◌, ◌<◌, ◌≤◌, ℕ, List, [], ◌∷◌, ◌++◌, length, map, min, take, drop, get_or, arith, append-nil, Bool, true, false}
use Rattle.std.proofs.lemmas.List.{take_all, take_more, take-append-drop}
use Rattle.cc_tree.specs.Terminals.{at}
use Rattle.cc_table.specs.declared.symbols.Symbol.{Symbol}
use Rattle.cc_pushdown.specs.declared.value.Value.{Value}
use Rattle.cc_table.specs.declared.symbols.Input.TheVariants as input
use Rattle.cc_pushdown.specs.Machine.{Fed, fed, value_of, feed, Config, At, Bad, Done, Comes, start, here}
use Rattle.cc_grammar_laws.specs.Kinds.{AllFed, Fits}
use Rattle.cc_grammar_laws.specs.Heights.{height, heights, tallest, least_to_come}
use Rattle.cc_grammar_laws.proofs.KindsKept.{comes_typed}
use Rattle.cc_grammar_laws.proofs.HeightLaws.{tokens_are_flat}
use Rattle.cc_grammar.specs.declared.reading.Sorted.{Sorted}
use Rattle.cc_grammar.specs.Turns.{Feeds, Finishes}
use Rattle.cc_grammar.specs.Depths.{depth_limit, capped, measures, Typed}
use Rattle.cc_grammar.specs.Reading.{unit_part, classified, read, Refused, TooDeep, top_height}
use Rattle.cc_grammar.proofs.Capped.{tallest_capped, capped_like, come_like}
use Rattle.cc_grammar.proofs.Going.{then}

-- what holds between tokens, whatever follows
abbrev pub Reached : List Sorted → List Symbol → List Value → ℕ → Type 0
Reached tokens more vs i = (fs : List Fed) → Comes (At unit_part [] (read (take i tokens) ++ fs)) (At more vs fs)

abbrev pub fed_of : Sorted → Fed
fed_of one = feed (at one.terminal one.token.now)

last_read : (xs : List Sorted) (x : Sorted) (fs : List Fed) → read (xs ++ x ∷ []) ++ fs ≡ read xs ++ (fed_of x ∷ fs)
last_read [] x fs = refl
last_read (y ∷ xs) x fs = ap (λ q. fed_of y ∷ q) (last_read xs x fs)

one_more : (tokens : List Sorted) (i : ℕ) (d : Sorted) (fs : List Fed) → i < length tokens → read (take (i + 1) tokens) ++ fs ≡ read (take i tokens) ++ (fed_of (get_or tokens i d) ∷ fs)
one_more tokens i d fs lt = ap (λ q. read q ++ fs) (take_more tokens i d lt) ∙ last_read (take i tokens) (get_or tokens i d) fs

pub begun : (tokens : List Sorted) (more : List Symbol) (vs : List Value) → more ≡ unit_part → vs ≡ [] → Reached tokens more vs 0
begun tokens more vs e f = λ fs. subst (λ q. Comes (At unit_part [] fs) (At q vs fs)) (sym e) (subst (λ q. Comes (At unit_part [] fs) (At unit_part q fs)) (sym f) here)

-- the input that the loop gives is the one that the token is
pub as_read : (tokens : List Sorted) (i : ℕ) (x : Sorted) (kept : Value) (goes : Bool) (st left : List Symbol) (vs ws : List Value) → x ≡ get_or tokens i x → kept ≡ value_of x.terminal x.token.now.kind x.token.now.span
    → Feeds goes st vs (fed (input.Token x.terminal) kept) left ws → Feeds goes st vs (fed_of (get_or tokens i x)) left ws
as_read tokens i x kept goes st left vs ws is e h = subst (λ q. Feeds goes st vs q left ws) (ap (λ q. fed (input.Token x.terminal) q) e ∙ ap fed_of is) h

pub reached : (tokens : List Sorted) (i : ℕ) (d : Sorted) (st left : List Symbol) (vs ws : List Value) (goes : Bool) → goes ≡ true → i < length tokens → Feeds goes st vs (fed_of (get_or tokens i d)) left ws → Reached tokens st vs i → Reached tokens left ws (i + 1)
reached tokens i d st left vs ws goes is lt h g =
    let k : Feeds true st vs (fed_of (get_or tokens i d)) left ws = subst (λ q. Feeds q st vs (fed_of (get_or tokens i d)) left ws) is h in
    λ fs. subst (λ q. Comes (At unit_part [] q) (At left ws fs)) (sym (one_more tokens i d fs lt)) (then (g (fed_of (get_or tokens i d) ∷ fs)) (k.0 fs))

pub refused : (tokens : List Sorted) (i : ℕ) (d : Sorted) (st left : List Symbol) (vs ws : List Value) (goes : Bool) → goes ≡ false → i < length tokens → Feeds goes st vs (fed_of (get_or tokens i d)) left ws → Reached tokens st vs i → Refused tokens i
refused tokens i d st left vs ws goes is lt h g =
    let k : Feeds false st vs (fed_of (get_or tokens i d)) left ws = subst (λ q. Feeds q st vs (fed_of (get_or tokens i d)) left ws) is h in
    record {
      within = omega arith;
      symbols = st;
      values = vs;
      before = g;
      token = λ _ fs. ((k fs).0, subst (λ q. Comes (At unit_part [] q) (Bad (k fs).0)) (sym (one_more tokens i d fs lt)) (then (g (fed_of (get_or tokens i d) ∷ fs)) (k fs).1));
      end = λ same. absurd (omega arith);
    }

whole : (tokens : List Sorted) (i : ℕ) (c : Config) → length tokens ≤ i → Comes (At unit_part [] (read (take i tokens) ++ [])) c → Comes (start (classified tokens)) c
whole tokens i c le p = subst (λ q. Comes (At unit_part [] q) c) (append-nil (read (take i tokens)) ∙ ap read (take_all i tokens le)) p

pub end_refused : (tokens : List Sorted) (i : ℕ) (st : List Symbol) (vs ws : List Value) (goes : Bool) → goes ≡ false → length tokens ≤ i → Finishes goes st vs ws → Reached tokens st vs i → Refused tokens (length tokens)
end_refused tokens i st vs ws goes is le h g =
    let k : Finishes false st vs ws = subst (λ q. Finishes q st vs ws) is h in
    record {
      within = omega arith;
      symbols = st;
      values = vs;
      before = subst (λ q. (fs : List Fed) → Comes (At unit_part [] (read q ++ fs)) (At st vs fs)) (take_all i tokens le ∙ sym (take_all (length tokens) tokens (omega arith))) g;
      token = λ lt. absurd (omega arith);
      end = λ _. (k.0, whole tokens i (Bad k.0) le (then (g []) k.1));
    }

pub ended : (tokens : List Sorted) (i : ℕ) (st : List Symbol) (vs ws : List Value) (goes : Bool) → goes ≡ true → length tokens ≤ i → Finishes goes st vs ws → Reached tokens st vs i → Comes (start (classified tokens)) (Done ws)
ended tokens i st vs ws goes is le h g =
    let k : Finishes true st vs ws = subst (λ q. Finishes q st vs ws) is h in
    whole tokens i (Done ws) le (then (g []) k)

-- The token at a place stands between those before it and those behind it.
read-append : (xs ys : List Sorted) → read (xs ++ ys) ≡ read xs ++ read ys
read-append [] ys = refl
read-append (x ∷ xs) ys = ap (λ q. fed_of x ∷ q) (read-append xs ys)

parted : (tokens : List Sorted) (i : ℕ) (d : Sorted) → i < length tokens → read tokens ≡ read (take i tokens) ++ (fed_of (get_or tokens i d) ∷ read (drop (i + 1) tokens))
parted tokens i d lt =
    sym (ap read (take-append-drop (i + 1) tokens)) ∙ (read-append (take (i + 1) tokens) (drop (i + 1) tokens) ∙ one_more tokens i d (read (drop (i + 1) tokens)) lt)

begun_fits : Fits unit_part []
begun_fits = ([], refl, refl)

-- The parser's values are of the kinds that are expected, wherever it has come to.
pub token_typed : (tokens : List Sorted) (i : ℕ) (x : Sorted) (kept : Value) (st : List Symbol) (vs : List Value) → x ≡ get_or tokens i x → kept ≡ value_of x.terminal x.token.now.kind x.token.now.span → i < length tokens
    → AllFed (read tokens) → Reached tokens st vs i → Typed st vs (fed (input.Token x.terminal) kept ∷ [])
token_typed tokens i x kept st vs is e lt all g =
    let h : AllFed (read (take i tokens) ++ (fed_of (get_or tokens i x) ∷ read (drop (i + 1) tokens))) = subst AllFed (parted tokens i x lt) all in
    let k : Typed st vs (fed_of (get_or tokens i x) ∷ read (drop (i + 1) tokens)) = comes_typed (g (fed_of (get_or tokens i x) ∷ read (drop (i + 1) tokens))) (begun_fits, h) in
    let same : fed_of (get_or tokens i x) ≡ fed (input.Token x.terminal) kept = ap fed_of (sym is) ∙ ap (λ q. fed (input.Token x.terminal) q) (sym e) in
    subst (λ q. Typed st vs (q ∷ [])) same (k.0, (k.1.0, tt))

pub last_typed : (tokens : List Sorted) (i : ℕ) (st : List Symbol) (vs : List Value) → length tokens ≤ i → AllFed (read tokens) → Reached tokens st vs i → Typed st vs []
last_typed tokens i st vs le all g =
    let h : AllFed (read (take i tokens) ++ []) = subst AllFed (sym (append-nil (read (take i tokens)) ∙ ap read (take_all i tokens le))) all in
    comes_typed (g []) (begun_fits, h)

-- A token has no height.
pub token_carries : (x : Sorted) (kept : Value) → kept ≡ value_of x.terminal x.token.now.kind x.token.now.span → (0 ≡ capped (height kept)) × Unit {0}
token_carries x kept e = (sym (ap (λ q. capped (height q)) e ∙ ap capped (tokens_are_flat x.terminal x.token.now.kind x.token.now.span)), tt)

pub begun_measured : (vs : List Value) (hs : List ℕ) → vs ≡ [] → hs ≡ [] → hs ≡ measures vs
begun_measured vs hs e f = f ∙ sym (ap measures e)

pub too_deep : (tokens : List Sorted) (i : ℕ) (st : List Symbol) (vs : List Value) (hs : List ℕ) (least : ℕ) → i < length tokens → Reached tokens st vs (i + 1) → hs ≡ measures vs → least ≡ capped (least_to_come st (heights 0 hs)) → depth_limit < least → TooDeep tokens i
too_deep tokens i st vs hs least lt g m e over =
    let k : least ≡ min (least_to_come st (heights 0 (map height vs))) 257 =
    e ∙ (ap (λ ns. capped (least_to_come st (heights 0 ns))) m ∙ come_like st (heights 0 (measures vs)) (heights 0 (map height vs)) (capped_like (heights 0 (map height vs)))) in
    record { within = lt; symbols = st; values = vs; taken = g; deep = omega (arith, k, over) }

topmost : (vs : List Value) (hs : List ℕ) (top : ℕ) → hs ≡ measures vs → top ≡ tallest 1 hs → top ≡ min (top_height vs) 257
topmost vs hs top m e = e ∙ (ap (tallest 1) m ∙ tallest_capped 1 (map height vs))

pub top_within : (vs : List Value) (hs : List ℕ) (top : ℕ) → hs ≡ measures vs → top ≡ tallest 1 hs → top ≤ depth_limit → top_height vs ≤ depth_limit
top_within vs hs top m e le =
    let k = topmost vs hs top m e in
    omega (arith, k, le)

pub top_deep : (vs : List Value) (hs : List ℕ) (top : ℕ) → hs ≡ measures vs → top ≡ tallest 1 hs → depth_limit < top → depth_limit < top_height vs
top_deep vs hs top m e over =
    let k = topmost vs hs top m e in
    omega (arith, k, over)
