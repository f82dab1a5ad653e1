-- The kinds and heights of values along the runs over a source.
use Rattle.std.proofs.Common.{◌≡◌, ℕ, zero, ◌≤◌, max, refl, sym, ap, ◌∙◌, subst, List, [], ◌∷◌, ◌++◌, map, Option, Some, None, Bool, true, false, cond, arith}
use Rattle.cc_base.specs.declared.text.Span.{Span}
use Rattle.cc_tree.specs.declared.token.Token.{Token}
use Rattle.cc_tree.specs.declared.token.TokenKind.{TokenKind}
use Rattle.cc_tree.specs.declared.token.TokenKind.TheVariants as k
use Rattle.cc_tree.specs.declared.token.Suffix.{Suffix}
use Rattle.cc_tree.specs.declared.token.Suffix.TheVariants as suffix
use Rattle.cc_tree.specs.declared.token.Radix.{Radix}
use Rattle.cc_tree.specs.declared.token.Radix.TheVariants as radix
use Rattle.cc_tree.specs.declared.terminal.Terminal.TheVariants as t
use Rattle.cc_tree.specs.declared.terminal.ReservedWord.{ReservedWord}
use Rattle.cc_tree.specs.declared.terminal.Sign.{Sign}
use Rattle.cc_tree.specs.declared.word.TheConstants.{GRAMMAR_SIGNS}
use Rattle.std.specs.Prelude.{slice_get}
use Rattle.cc_tree.specs.Terminals.{Names, classify, terminal, reserved_word, is_outside, name_kind, contextual_word, word_or, number_terminal, sign_or_other}
use Rattle.cc_tree.specs.Depth.{unit_depth}
use Rattle.cc_table.specs.declared.symbols.Input.TheVariants as i
use Rattle.cc_pushdown.specs.declared.value.Value.{Value}
use Rattle.cc_pushdown.specs.declared.value.Value.TheVariants as v
use Rattle.cc_pushdown.specs.Machine.{feed, value_of, Config, Done, step, Comes, here, on, start}
use Rattle.cc_grammar_laws.specs.Kinds.{Has, AllFed, input_kind}
use Rattle.cc_grammar_laws.specs.Heights.{height, waiting, heights, heights_of, least_to_come}
use Rattle.cc_grammar_laws.specs.HeightLaws.{StackFits, ActionIsReady, LeastIsLeast, DeepAreDeep, HeightsAreKept, TokensAreFlat, DepthIsHeight}
use Rattle.cc_grammar_laws.proofs.KindsKept.{Typed, comes_typed, is_ready}
use Rattle.cc_grammar_laws.proofs.HeightsOfActions.{heights_kept}
use Rattle.cc_grammar_laws.proofs.LeastToCome.{least_comes}
use Rattle.cc_grammar_laws.proofs.CompleteUnit.{units_are_read}

-- The value of a token is of its terminal symbol's kind.
word_has : (names : Names) (word : List ℕ) (span : Span) (vs : List Value) (reserved : Option ReservedWord) (outside : Bool)
    → Has (input_kind (i.Token (word_or reserved (cond outside t.Other (t.Name (name_kind names word) (contextual_word word))))))
    (value_of (word_or reserved (cond outside t.Other (t.Name (name_kind names word) (contextual_word word)))) (k.Word word) span ∷ vs)
word_has names word span vs None true = tt
word_has names word span vs None false = tt
word_has names word span vs (Some reserved) outside = tt

number_has : (value : ℕ) (ending : Suffix) (base : Radix) (span : Span) (vs : List Value)
    → Has (input_kind (i.Token (number_terminal value ending base))) (value_of (number_terminal value ending base) (k.Number value ending base) span ∷ vs)
number_has zero suffix.Plain radix.Octal span vs = tt
number_has _ _ _ span vs = tt

sign_has : (number : ℕ) (span : Span) (vs : List Value) (sign : Option Sign) → Has (input_kind (i.Token (sign_or_other sign))) (value_of (sign_or_other sign) (k.Sign number) span ∷ vs)
sign_has number span vs None = tt
sign_has number span vs (Some sign) = tt

token_has : (names : Names) (kind : TokenKind) (span : Span) (vs : List Value) → Has (input_kind (i.Token (terminal names kind))) (value_of (terminal names kind) kind span ∷ vs)
token_has names (k.Word word) span vs = word_has names word span vs (reserved_word word) (is_outside word)
token_has names (k.Number value ending base) span vs = number_has value ending base span vs
token_has names (k.Character code) span vs = tt
token_has names (k.Literal text) span vs = tt
token_has names (k.Sign number) span vs = sign_has number span vs (slice_get GRAMMAR_SIGNS number)

pub all_fed : (names : Names) (tokens : List Token) → AllFed (map feed (classify names tokens))
all_fed names [] = tt
all_fed names (token ∷ tokens) = ((λ vs. token_has names token.kind token.span vs), all_fed names tokens)

pub start_typed : (names : Names) (tokens : List Token) → Typed (start (classify names tokens))
start_typed names tokens = (([], refl, refl), all_fed names tokens)

pub stack_fits : StackFits
stack_fits names tokens more vs fs p = comes_typed p (start_typed names tokens)

pub action_is_ready : ActionIsReady
action_is_ready = is_ready

-- Two runs from one configuration, of which one ends: the other goes on to that end.
goes_on : {c d e : Config} → Comes c d → Comes c e → (vs : List Value) → e ≡ Done vs → Comes d e
goes_on here q vs h = q
goes_on (on p) (on q) vs h = goes_on p q vs h
goes_on {c} {d} (on p) here vs h = goes_on p (subst (λ x. Comes (step c) x) (ap step h ∙ sym h) here) vs h

pub least_is_least : LeastIsLeast
least_is_least names tokens more vs fs tree p q =
    let l : least_to_come more (heights_of vs fs) ≤ max (unit_depth tree) 0 = least_comes more vs fs (stack_fits names tokens more vs fs p) (v.Unit tree ∷ []) (goes_on p q (v.Unit tree ∷ []) refl) in
    omega (arith, l)

nothing_waits : (names : Names) (tokens : List Token) → waiting (map feed (classify names tokens)) ≡ 0
nothing_waits names [] = refl
nothing_waits names (token ∷ tokens) = refl

pub deep_are_deep : DeepAreDeep
deep_are_deep names tokens rest more vs tree limit p deep spelled =
    let l : least_to_come more (heights_of vs (map feed (classify names rest))) ≤ unit_depth tree =
    least_is_least names (tokens ++ rest) more vs (map feed (classify names rest)) tree p (units_are_read names (tokens ++ rest) tree spelled) in
    let e : least_to_come more (heights_of vs (map feed (classify names rest))) ≡ least_to_come more (heights 0 (map height vs)) = ap (λ n. least_to_come more (heights n (map height vs))) (nothing_waits names rest) in
    omega (arith, l, e, deep)

pub heights_are_kept : HeightsAreKept
heights_are_kept = heights_kept

pub tokens_are_flat : TokensAreFlat
tokens_are_flat (t.Name kind word) (k.Word name) span = refl
tokens_are_flat (t.Name kind word) _ span = refl
tokens_are_flat _ (k.Word name) span = refl
tokens_are_flat _ _ span = refl

pub depth_is_height : DepthIsHeight
depth_is_height tree = refl
