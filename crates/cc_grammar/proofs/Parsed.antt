-- From the runs of the parser to sources: what a place that is refused, and what the values at the end, say of the tokens.
use Rattle.std.proofs.Common.{◌≡◌, ◌∙◌, sym, ap, subst, refl, ◌+◌, ◌<◌, ◌≤◌, ℕ, zero, suc, List, [], ◌∷◌, ◌++◌, length, take, map, get_or, arith, append_assoc, append-nil}
use Rattle.std.proofs.lemmas.List.{take-map, take_all, take_more, map-append, length-map}
use Rattle.std.specs.Prelude.{Bool, true, false, None}
use Rattle.cc_base.specs.declared.text.Span.{Span}
use Rattle.cc_tree.specs.declared.token.Token.{Token}
use Rattle.cc_tree.specs.declared.unit.Unit as unit
use Rattle.cc_tree.specs.Terminals.{Names, Classified, classify, terminal}
use Rattle.cc_tree.specs.CollectedNames.{collected}
use Rattle.cc_tree.specs.GrammarUnit.{Spells, Front}
use Rattle.cc_table.specs.declared.symbols.Symbol.{Symbol}
use Rattle.cc_pushdown.specs.declared.value.Value.{Value}
use Rattle.cc_pushdown.specs.declared.value.Value.TheVariants as v
use Rattle.cc_pushdown.specs.Machine.{Fed, feed, At, Bad, Done, Comes, start}
use Rattle.cc_grammar_laws.proofs.Able.{front_of_source}
use Rattle.cc_grammar_laws.proofs.HeightLaws.{deep_are_deep}
use Rattle.cc_grammar_laws.proofs.CompleteUnit.{one_unit, refuses_no_front, refuses_no_unit}
use Rattle.cc_tree.specs.Depth.{unit_depth}
use Rattle.cc_terminals.specs.Scan.{first_fault}
use Rattle.cc_pushdown.specs.Values.{top_unit}
use Rattle.cc_grammar_laws.proofs.BackRun.{back_run, start_means}
use Rattle.cc_grammar.specs.declared.reading.Sorted.{Sorted}
use Rattle.cc_grammar.specs.Depths.{depth_limit}
use Rattle.cc_grammar.specs.Reading.{unit_part, classified, read, Refused, TooDeep, top_height}
use Rattle.cc_grammar.specs.Parse.{IsPlace, FirstWrong, RefusedAt, WantsMore, TooDeepAt, TooDeepAtEnd, Accepts, is_pointer_sign, end_of}

-- the tokens with their terminal symbols over the names
abbrev pub AreSorted : Names → List Token → List Sorted → Type 0
AreSorted names tokens sorted = classified sorted ≡ classify names tokens

-- the first tokens, and then more
read_more : (names : Names) (tokens : List Token) (sorted : List Sorted) → AreSorted names tokens sorted → (place : ℕ) (more : List Token)
    → read (take place sorted) ++ map feed (classify names more) ≡ map feed (classify names (take place tokens ++ more))
read_more names tokens sorted same place more =
    ap (λ q. map feed q ++ map feed (classify names more)) (sym (take-map _ place sorted) ∙ ap (take place) same ∙ take-map _ place tokens)
    ∙ sym (map-append feed (classify names (take place tokens)) (classify names more))
    ∙ ap (map feed) (sym (map-append _ (take place tokens) more))

-- a run over the first tokens, whatever follows them, is one over all lists of tokens that begin with them
reaches : (names : Names) (tokens : List Token) (sorted : List Sorted) → AreSorted names tokens sorted → (place : ℕ) (symbols : List Symbol) (values : List Value)
    → ((fs : List Fed) → Comes (At unit_part [] (read (take place sorted) ++ fs)) (At symbols values fs))
    → (more : List Token) → Comes (start (classify names (take place tokens ++ more))) (At symbols values (map feed (classify names more)))
reaches names tokens sorted same place symbols values run more =
    subst (λ q. Comes (At unit_part [] q) (At symbols values (map feed (classify names more)))) (read_more names tokens sorted same place more) (run (map feed (classify names more)))

refuses : (names : Names) (tokens : List Token) (sorted : List Sorted) → AreSorted names tokens sorted → (place : ℕ)
    → ((fs : List Fed) → (us : List Fed) × Comes (At unit_part [] (read (take place sorted) ++ fs)) (Bad us))
    → (more : List Token) → (us : List Fed) × Comes (start (classify names (take place tokens ++ more))) (Bad us)
refuses names tokens sorted same place run more =
    (_, subst (λ q. Comes (At unit_part [] q) (Bad (run (map feed (classify names more))).0)) (read_more names tokens sorted same place more) (run (map feed (classify names more))).1)

pub same_length : (names : Names) (tokens : List Token) (sorted : List Sorted) → AreSorted names tokens sorted → length sorted ≡ length tokens
same_length names tokens sorted same = sym (length-map sorted _) ∙ ap length same ∙ length-map tokens _

-- the token at a place, those before it, and those after it
cut : (tokens : List Token) (place : ℕ) (d : Token) → place < length tokens → (after : List Token) × (tokens ≡ take place tokens ++ get_or tokens place d ∷ after)
cut [] place d lt = elim lt [ ]
cut (token ∷ tokens) zero d lt = (tokens, refl)
cut (token ∷ tokens) (suc place) d lt = (_, ap (λ q. token ∷ q) (cut tokens place d (omega (arith, lt))).1)

-- what the places of the tokens and the end are refused for
pub refused_token : (tokens : List Token) (sorted : List Sorted) (place : ℕ) (token : Token) (pointer : Bool) → AreSorted (collected tokens) tokens sorted → Refused sorted place → place < length tokens
    → token ≡ get_or tokens place token → is_pointer_sign (terminal (collected tokens) token.kind) ≡ pointer → RefusedAt tokens token.span pointer
refused_token tokens sorted place token pointer same refused lt is sign =
    let names : Names = collected tokens in
    let whole : length sorted ≡ length tokens = same_length names tokens sorted same in (
      take place tokens,
      token,
      record { behind = (cut tokens place token lt).0; parts = (cut tokens place token lt).1 ∙ ap (λ q. take place tokens ++ q ∷ (cut tokens place token lt).0) (sym is); stands = refl },
      record {
        front = front_of_source tokens (take place tokens) refused.symbols refused.values (reaches names tokens sorted same place refused.symbols refused.values refused.before);
        wrong = subst (λ q. Front names q → ⊥) (take_more tokens place token lt ∙ ap (λ q. take place tokens ++ q ∷ []) (sym is))
            (refuses_no_front names (take (place + 1) tokens) (refuses names tokens sorted same (place + 1) (refused.token (subst (λ n. place < n) (sym whole) lt))));
        sign = sign;
      },
    )

pub refused_end : (tokens : List Token) (sorted : List Sorted) (place : ℕ) → AreSorted (collected tokens) tokens sorted → Refused sorted place → place ≡ length tokens
    → WantsMore tokens (end_of tokens)
refused_end tokens sorted place same refused at =
    let names : Names = collected tokens in
    let whole : length sorted ≡ length tokens = same_length names tokens sorted same in
    let all : take place tokens ≡ tokens = take_all place tokens (omega (arith, at)) in
    record {
      front = subst (λ q. Front names q) all (front_of_source tokens (take place tokens) refused.symbols refused.values (reaches names tokens sorted same place refused.symbols refused.values refused.before));
      none = λ tree p. refuses_no_unit names tokens tree (refused.end (at ∙ sym whole)).0
          (subst (λ q. Comes (start q) (Bad (refused.end (at ∙ sym whole)).0)) same (refused.end (at ∙ sym whole)).1) p;
      stands = refl;
    }

-- The values at the end are the unit that the tokens spell.
pub whole_unit : (names : Names) (tokens : List Token) (sorted : List Sorted) (values : List Value) → AreSorted names tokens sorted → Comes (start (classified sorted)) (Done values)
    → (tree : unit.Unit) × Spells names tokens tree × (v.Unit tree ∷ [] ≡ values)
whole_unit names tokens sorted values same run =
    start_means values names tokens (back_run values (subst (λ q. Comes (start q) (Done values)) same run) tt refl).1

-- the first tokens with the one at a place, and more behind them
with_token : (tokens : List Token) (place : ℕ) (token : Token) → place < length tokens → token ≡ get_or tokens place token → (more : List Token)
    → take (place + 1) tokens ++ more ≡ take place tokens ++ token ∷ more
with_token tokens place token lt is more =
    ap (λ q. q ++ more) (take_more tokens place token lt ∙ ap (λ q. take place tokens ++ q ∷ []) (sym is)) ∙ append_assoc (take place tokens) (token ∷ []) more

pub too_deep_token : (tokens : List Token) (sorted : List Sorted) (place : ℕ) (token : Token) → AreSorted (collected tokens) tokens sorted → TooDeep sorted place → place < length tokens
    → token ≡ get_or tokens place token → TooDeepAt tokens token.span (take place tokens) token
too_deep_token tokens sorted place token same deep lt is =
    let names : Names = collected tokens in
    let runs : (more : List Token) → Comes (start (classify names (take (place + 1) tokens ++ more))) (At deep.symbols deep.values (map feed (classify names more)))
    = reaches names tokens sorted same (place + 1) deep.symbols deep.values deep.taken in
    record {
      place = record { behind = (cut tokens place token lt).0; parts = (cut tokens place token lt).1 ∙ ap (λ q. take place tokens ++ q ∷ (cut tokens place token lt).0) (sym is); stands = refl };
      front = subst (λ q. Front names q) (take_more tokens place token lt ∙ ap (λ q. take place tokens ++ q ∷ []) (sym is)) (front_of_source tokens (take (place + 1) tokens) deep.symbols deep.values runs);
      deep = λ more tree p. deep_are_deep names (take (place + 1) tokens) more deep.symbols deep.values tree depth_limit (runs more) deep.deep
          (subst (λ q. Spells names q tree) (sym (with_token tokens place token lt is more)) p);
    }

-- the height of the last value is the depth of the unit
unit_height : (tree : unit.Unit) (values : List Value) → v.Unit tree ∷ [] ≡ values → top_height values ≡ unit_depth tree
unit_height tree values same = subst (λ q. top_height q ≡ unit_depth tree) same (omega arith)

pub too_deep_end : (tokens : List Token) (sorted : List Sorted) (values : List Value) → AreSorted (collected tokens) tokens sorted → Comes (start (classified sorted)) (Done values)
    → depth_limit < top_height values → TooDeepAtEnd tokens (end_of tokens)
too_deep_end tokens sorted values same run deep = ended (whole_unit (collected tokens) tokens sorted values same run)
  where
    ended : (tree : unit.Unit) × Spells (collected tokens) tokens tree × (v.Unit tree ∷ [] ≡ values) → TooDeepAtEnd tokens (end_of tokens)
    ended (tree, p, is) = record {
      front = ([], tree, subst (λ q. Spells (collected tokens) q tree) (sym (append-nil tokens)) p);
      deep = λ other q. subst (λ t. depth_limit < unit_depth t) (one_unit (collected tokens) tokens tree other p q) (subst (λ n. depth_limit < n) (unit_height tree values is) deep);
      stands = refl;
    }

pub accepted : (tokens : List Token) (sorted : List Sorted) (values : List Value) (tree : unit.Unit) → first_fault false false None tokens ≡ None → AreSorted (collected tokens) tokens sorted
    → Comes (start (classified sorted)) (Done values) → top_height values ≤ depth_limit → tree ≡ top_unit values → Accepts tokens tree
accepted tokens sorted values tree scanned same run within is = whole (whole_unit (collected tokens) tokens sorted values same run)
  where
    whole : (one : unit.Unit) × Spells (collected tokens) tokens one × (v.Unit one ∷ [] ≡ values) → Accepts tokens tree
    whole (one, p, here) = let e : one ≡ tree = ap top_unit here ∙ sym is in record {
      scanned = scanned;
      spells = subst (λ q. Spells (collected tokens) tokens q) e p;
      within = subst (λ q. unit_depth q ≤ depth_limit) e (subst (λ n. n ≤ depth_limit) (unit_height one values here) within);
    }
