-- A run backwards: what its end means, its start means, so that the automaton reads only what the grammar spells.
use Rattle.std.proofs.Common.{◌≡◌, refl, sym, ap, subst, zero, List, [], ◌∷◌, map, Option, Some, None, Bool, true, false}
use Rattle.std.specs.Prelude.{ℕ, cond, slice_get}
use Rattle.cc_tree.specs.declared.token.Token.{Token}
use Rattle.cc_tree.specs.declared.token.TokenKind.{TokenKind}
use Rattle.cc_tree.specs.declared.token.TokenKind.TheVariants as k
use Rattle.cc_tree.specs.declared.token.Suffix.{Suffix}
use Rattle.cc_tree.specs.declared.token.Suffix.TheVariants as suffix
use Rattle.cc_tree.specs.declared.token.Radix.{Radix}
use Rattle.cc_tree.specs.declared.token.Radix.TheVariants as radix
use Rattle.cc_tree.specs.declared.terminal.Terminal.TheVariants as t
use Rattle.cc_tree.specs.declared.terminal.ContextualWord.{ContextualWord}
use Rattle.cc_tree.specs.declared.terminal.NameKind.{NameKind}
use Rattle.cc_tree.specs.declared.terminal.ReservedWord.{ReservedWord}
use Rattle.cc_tree.specs.declared.terminal.Sign.{Sign}
use Rattle.cc_tree.specs.declared.unit.Unit as unit
use Rattle.cc_tree.specs.declared.word.TheConstants.{GRAMMAR_SIGNS}
use Rattle.cc_tree.specs.Terminals.{Names, classify, terminal, word_or, number_terminal, sign_or_other, reserved_word, is_outside, name_kind, contextual_word}
use Rattle.cc_tree.specs.GrammarUnit as u
use Rattle.cc_tree.specs.GrammarUnit.{ReadsOuters, Spells}
use Rattle.cc_table.specs.declared.symbols.Action.{Action}
use Rattle.cc_table.specs.declared.symbols.Action.TheVariants as a
use Rattle.cc_table.specs.declared.symbols.Input.{Input}
use Rattle.cc_table.specs.declared.symbols.Input.TheVariants as i
use Rattle.cc_table.specs.declared.symbols.Sort.TheVariants as o
use Rattle.cc_table.specs.declared.symbols.Symbol.{Symbol}
use Rattle.cc_table.specs.declared.symbols.Symbol.TheVariants.{Non, Act, Back}
use Rattle.cc_pushdown.specs.declared.value.Value.{Value}
use Rattle.cc_pushdown.specs.declared.value.Value.TheVariants as v
use Rattle.cc_pushdown.specs.Values.{below, top, top_unit}
use Rattle.cc_pushdown.specs.Build.{build}
use Rattle.cc_pushdown.specs.Machine.{Fed, fed, feed, Config, At, Bad, Done, step, Comes, here, on, start}
use Rattle.cc_grammar_laws.specs.Laws.{OnlyUnitsAreRead}
use Rattle.cc_grammar_laws.proofs.Stands.{Fitting, AllFitting, Ahead, ahead_of}
use Rattle.cc_grammar_laws.proofs.Means.{Means, Meaning, after}
use Rattle.cc_grammar_laws.proofs.BackSteps.{back_sort, end_sort}
use Rattle.cc_grammar_laws.proofs.BackExpressionOperators.{Claim, claim}
use Rattle.cc_grammar_laws.proofs.CompleteUnit.{fed_as_read}

-- tokens fit the terminal symbols that they are
word_fits : (q : Option ReservedWord) (b : Bool) (kind : NameKind) (word : ContextualWord) (name : List ℕ) → Fitting (word_or q (cond b t.Other (t.Name kind word))) (k.Word name)
word_fits None true kind word name = tt
word_fits None false kind word name = tt
word_fits (Some one) b kind word name = tt

number_fits : (value : ℕ) (s : Suffix) (r : Radix) → Fitting (number_terminal value s r) (k.Number value s r)
number_fits zero suffix.Plain radix.Octal = tt
number_fits _ _ _ = tt

sign_fits : (q : Option Sign) (n : ℕ) → Fitting (sign_or_other q) (k.Sign n)
sign_fits None n = tt
sign_fits (Some sign) n = tt

token_fits : (names : Names) (kind : TokenKind) → Fitting (terminal names kind) kind
token_fits names (k.Word word) = word_fits (reserved_word word) (is_outside word) (name_kind names word) (contextual_word word) word
token_fits names (k.Number value s r) = number_fits value s r
token_fits names (k.Character c) = tt
token_fits names (k.Literal text) = tt
token_fits names (k.Sign n) = sign_fits (slice_get GRAMMAR_SIGNS n) n

pub classified_fit : (names : Names) (tokens : List Token) → AllFitting (classify names tokens)
classified_fit names [] = tt
classified_fit names (one ∷ tokens) = (token_fits names one.kind, classified_fit names tokens)

ahead_classified : (names : Names) (tokens : List Token) → Ahead (map feed (classify names tokens)) (classify names tokens)
ahead_classified names tokens = subst (λ fs. Ahead fs (classify names tokens)) (sym (fed_as_read names tokens)) (ahead_of (classify names tokens) (classified_fit names tokens))

module _ (last : List Value) where
  back_action : (action : Action) (more : List Symbol) (vs : List Value) (fs : List Fed) → Meaning last (At more (build action vs) fs) → Meaning last (At (Act action ∷ more) vs fs)
  back_action action more vs [] e ts h = e ts h
  back_action action more vs (fed i.ConstructorName value ∷ fs) e ts h = tt
  back_action action more vs (fed _ value ∷ fs) e ts h = e ts h

  back_return : (input : Input) (more : List Symbol) (vs : List Value) (fs : List Fed) → Meaning last (At more (below vs) (fed input (top vs) ∷ fs)) → Meaning last (At (Back input ∷ more) vs fs)
  back_return input more vs [] e ts h = λ us s. e us (ts, s, h)
  back_return input more vs (fed i.ConstructorName value ∷ fs) e ts h = tt
  back_return input more vs (fed _ value ∷ fs) e ts h = λ us s. e us (ts, s, h)

  pub back_step : (c : Config) → Claim (step c) → Meaning last (step c) → Meaning last c
  back_step (At [] vs []) claims e = λ ts h. (h, e)
  back_step (At [] vs (one ∷ fs)) claims e = absurd e
  back_step (At (Act action ∷ more) vs fs) claims e = back_action action more vs fs e
  back_step (At (Back input ∷ more) vs fs) claims e = back_return input more vs fs e
  back_step (At (Non sort ∷ more) vs []) claims e = end_sort last sort more vs e
  back_step (At (Non sort ∷ more) vs (fed input value ∷ fs)) claims e = back_sort last sort more vs input value fs claims e
  back_step (Bad fs) claims e = absurd e
  back_step (Done vs) claims e = e

  pub back_run : {c d : Config} → Comes c d → Claim d → Meaning last d → Claim c × Meaning last c
  back_run here claims m = (claims, m)
  back_run {c} (on p) claims m = let (before, means) = back_run p claims m in (claim last c before means, back_step c before means)

-- What the start means: the tokens spell the unit that the last values are.
pub start_means : (last : List Value) (names : Names) (tokens : List Token) → Meaning last (start (classify names tokens)) → (tree : unit.Unit) × Spells names tokens tree × (v.Unit tree ∷ [] ≡ last)
start_means last names tokens m = spelled (after last (Act a.StartOuters ∷ Non o.UnitRest ∷ Act a.MakeUnit ∷ []) [] (map feed (classify names tokens)) (classify names tokens) (ahead_classified names tokens) m)
  where
    spelled : Means last (Act a.StartOuters ∷ Non o.UnitRest ∷ Act a.MakeUnit ∷ []) [] (classify names tokens) → (tree : unit.Unit) × Spells names tokens tree × (v.Unit tree ∷ [] ≡ last)
    spelled (all, rest, p, (ends, same)) = (record { outers = all.tree; span = all.span }, subst (λ r. ReadsOuters all.tree all.span (classify names tokens) r) ends (p (classify names tokens) u.none), same)

pub only_units_are_read : OnlyUnitsAreRead
only_units_are_read names tokens tree p = whole (start_means (v.Unit tree ∷ []) names tokens (back_run (v.Unit tree ∷ []) p tt refl).1)
  where
    whole : (read_tree : unit.Unit) × Spells names tokens read_tree × (v.Unit read_tree ∷ [] ≡ v.Unit tree ∷ []) → Spells names tokens tree
    whole (read_tree, p, same) = subst (λ q. Spells names tokens q) (ap top_unit same) p
