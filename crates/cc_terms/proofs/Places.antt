-- The places of the functions that pass a test, one function after another.
use Rattle.std.proofs.Common.{◌≡◌, ℕ, ◌+◌, ◌<◌, suc, List, [], ◌∷◌, ◌++◌, Bool, true, false, cond, length, take, get_or, refl, sym, ap, ◌∙◌, arith, length-take}
use Rattle.cc_operations.specs.declared.source.Known.{Known}
use Rattle.cc_terms.specs.Resolving.{those_from, those}
use Rattle.cc_terms.proofs.Longer.{taken}

cond_append : (b : Bool) (at : ℕ) (places more : List ℕ) → cond b (at ∷ (places ++ more)) (places ++ more) ≡ cond b (at ∷ places) places ++ more
cond_append true at places more = refl
cond_append false at places more = refl

those_append : (at place : ℕ) (test : Known → Bool) (functions : List Known) (one : Known) → place ≡ at + length functions
    → those_from at test (functions ++ one ∷ []) ≡ those_from at test functions ++ cond (test one) (place ∷ []) []
those_append at place test [] one e =
    let same : at ≡ place = omega arith in
    ap (λ n. cond (test one) (n ∷ []) []) same
those_append at place test (first ∷ functions) one e =
    let next : place ≡ suc at + length functions = omega arith in
    ap (λ places. cond (test first) (at ∷ places) places) (those_append (suc at) place test functions one next)
    ∙ cond_append (test first) at (those_from (suc at) test functions) (cond (test one) (place ∷ []) [])

pub those_more : (test : Known → Bool) (functions : List Known) (at : ℕ) (one : Known) (passes : Bool) (before after : List ℕ) → at < length functions → one ≡ get_or functions at one
    → passes ≡ test one → before ≡ those test (take at functions) → after ≡ before ++ cond passes (at ∷ []) [] → after ≡ those test (take (at + 1) functions)
those_more test functions at one passes before after within is decides so_far added =
    let place : at ≡ 0 + length (take at functions) = omega (arith, length-take at functions) in
    added ∙ ap (λ places. places ++ cond passes (at ∷ []) []) so_far ∙ ap (λ b. those test (take at functions) ++ cond b (at ∷ []) []) decides
    ∙ sym (ap (those test) (taken (λ (x : Known). x) functions at one within is) ∙ those_append 0 at test (take at functions) one place)
