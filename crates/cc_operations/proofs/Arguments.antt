-- Arguments that are converted one after another.
use Rattle.std.proofs.Common.{◌≡◌, ℕ, ◌+◌, ◌<◌, ◌≤◌, refl, sym, ap, ◌∙◌, List, [], ◌∷◌, ◌++◌, reverse, length, get_or, drop}
use Rattle.std.proofs.lemmas.List.{reverse-append, drop_all, drop_more, length-map}
use Rattle.cc_tree.specs.declared.type_name.FundamentalType.{FundamentalType}
use Rattle.cc_core.specs.declared.tree.Expression.{Expression}
use Rattle.cc_core.specs.Term.{Term, Terms, no_terms, next_term}
use Rattle.cc_core.specs.Bare.{term_of}
use Rattle.cc_core.specs.Lists.{terms_of}
use Rattle.cc_operations.specs.declared.judged.Given.{Given}
use Rattle.cc_operations.specs.Choosing.{Types}
use Rattle.cc_operations.specs.Judgements.{value_of, values_of}
use Rattle.cc_operations.specs.Operations.{convert, passed}

-- some terms, and behind them others
abbrev pub behind : Terms → Terms → Terms
behind no_terms more = more
behind (next_term one rest) more = next_term one (behind rest more)

pub behind_none : (terms : Terms) → behind terms no_terms ≡ terms
behind_none no_terms = refl
behind_none (next_term one rest) = ap (next_term one) (behind_none rest)

pub terms_push : (terms : List Expression) (one : Expression) (more : Terms) → behind (terms_of (terms ++ one ∷ [])) more ≡ behind (terms_of terms) (next_term (term_of one) more)
terms_push [] one more = refl
terms_push (first ∷ terms) one more = ap (next_term (term_of first)) (terms_push terms one more)

pub passed_more : (types : Types) (place : ℕ) (d : FundamentalType) (rest : List Given) (value : Given) → place < length types
    → passed (drop place types) (values_of (reverse (rest ++ value ∷ []))) ≡ next_term (convert (get_or types place d) (value_of value)).term (passed (drop (place + 1) types) (values_of (reverse rest)))
passed_more types place d rest value within =
    ap (λ (l : List Given). passed (drop place types) (values_of l)) (reverse-append rest (value ∷ []))
    ∙ ap (λ (l : Types). passed l (value_of value ∷ values_of (reverse rest))) (drop_more types place d within)

pub passed_none : (types : Types) → passed types [] ≡ no_terms
passed_none [] = refl
passed_none (of ∷ types) = refl

-- one argument more
pub passed_step : (types : Types) (place : ℕ) (d : FundamentalType) (made after : List Expression) (one : Expression) (before rest : List Given) (value : Given) (all : Terms)
    → place < length types → term_of one ≡ (convert (get_or types place d) (value_of value)).term → before ≡ rest ++ value ∷ [] → after ≡ made ++ one ∷ []
    → behind (terms_of made) (passed (drop place types) (values_of (reverse before))) ≡ all
    → behind (terms_of after) (passed (drop (place + 1) types) (values_of (reverse rest))) ≡ all
passed_step types place d made after one before rest value all within is split pushed so_far =
    let more : Terms = passed (drop (place + 1) types) (values_of (reverse rest)) in
    ap (λ (l : List Expression). behind (terms_of l) more) pushed ∙ terms_push made one more ∙ ap (λ (t : Term). behind (terms_of made) (next_term t more)) is
    ∙ ap (λ (t : Terms). behind (terms_of made) t) (sym (passed_more types place d rest value within))
    ∙ ap (λ (l : List Given). behind (terms_of made) (passed (drop place types) (values_of (reverse l)))) (sym split) ∙ so_far

-- all arguments
pub passed_all : (types : Types) (place : ℕ) (made : List Expression) (rest : List Given) (all : Terms) → length types ≤ place → behind (terms_of made) (passed (drop place types) (values_of (reverse rest))) ≡ all → terms_of made ≡ all
passed_all types place made rest all past so_far =
    let none : drop place types ≡ [] = drop_all place types past in
    sym (behind_none (terms_of made)) ∙ ap (λ (l : Types). behind (terms_of made) (passed l (values_of (reverse rest)))) (sym none) ∙ so_far

pub ruleset passed_ends = (behind_none, passed_none)

pub ruleset counted = (length-map)
