-- The places of bodies, method by method.
use Rattle.std.proofs.Common.{◌≡◌, ℕ, ◌+◌, ◌<◌, Bool, true, false, cond, not, List, [], ◌∷◌, ◌++◌, Some, None, length, take, get_or, arith, refl, sym, ap, ◌∙◌, below_more, length-append}
use Rattle.std.specs.Prelude.{Option, slice_get}
use Rattle.std.proofs.Math.ListN.{get_or-append}
use Rattle.std.proofs.Math.Seq.{get_or-append_seam}
use Rattle.std.proofs.lemmas.List.Sums.{sum_by_more}
use Rattle.std.proofs.lemmas.Option.{slice_get_read, slice_get-get_or}
use mir.Val.{bool_byte}
use Rattle.cc_module.specs.declared.rows.MethodDefRow.{MethodDefRow}
use Rattle.cc_module.specs.Methods.{body_count, body_place, has_rva}
use Rattle.cc_listing.specs.Listing.{place_of}

one_or_none : (b : Bool) → bool_byte b ≡ cond b 1 0
one_or_none true = refl
one_or_none false = refl

pub counted : (methods : List MethodDefRow) (i before : ℕ) (method : MethodDefRow) → i < length methods → method ≡ get_or methods i method → before ≡ body_count (take i methods)
    → before + bool_byte (has_rva method) ≡ body_count (take (i + 1) methods)
counted methods i before method within is count =
    ap (λ (n : ℕ). n + bool_byte (has_rva method)) count ∙ ap (λ (n : ℕ). body_count (take i methods) + n) (one_or_none (has_rva method))
    ∙ ap (λ (m : MethodDefRow). body_count (take i methods) + cond (has_rva m) 1 0) is
    ∙ sym (sum_by_more (λ (m : MethodDefRow). cond (has_rva m) 1 0) methods i method within)

before_last : (xs ys : List (Option ℕ)) (i : ℕ) → i < length xs → slice_get (xs ++ ys) i ≡ slice_get xs i
before_last xs ys i within =
    slice_get-get_or (xs ++ ys) i None (omega (arith, length-append xs ys)) ∙ ap (λ (o : Option ℕ). Some o) (get_or-append xs ys None i within) ∙ sym (slice_get-get_or xs i None within)

at_last : (xs : List (Option ℕ)) (y : Option ℕ) (i : ℕ) → length xs ≡ i → slice_get (xs ++ y ∷ []) i ≡ Some y
at_last xs y i size =
    ap (λ (n : ℕ). slice_get (xs ++ y ∷ []) n) (sym size) ∙ slice_get-get_or (xs ++ y ∷ []) (length xs) None (omega (arith, length-append xs (y ∷ [])))
    ∙ ap (λ (o : Option ℕ). Some o) (get_or-append_seam xs y [] None)

pub placed : (methods : List MethodDefRow) (bodies i before : ℕ) (method : MethodDefRow) (place : Option ℕ) (places new : List (Option ℕ)) → length places ≡ i
    → ((at : ℕ) → at < i → slice_get places at ≡ Some (place_of methods bodies at)) → i < length methods → method ≡ get_or methods i method → before ≡ body_count (take i methods)
    → place ≡ body_place (Some method) before bodies → new ≡ places ++ place ∷ [] → (at : ℕ) → at < i + 1 → slice_get new at ≡ Some (place_of methods bodies at)
placed methods bodies i before method place places new size each within is count placing added =
    let found = slice_get_read methods (length methods) i method refl within is in
    let there : place ≡ place_of methods bodies i = placing ∙ ap (λ (o : Option MethodDefRow). body_place o before bodies) (sym found) ∙ ap (λ (n : ℕ). body_place (slice_get methods i) n bodies) count in
    below_more (λ (at : ℕ). slice_get new at ≡ Some (place_of methods bodies at)) i
    (λ at below. ap (λ (l : List (Option ℕ)). slice_get l at) added ∙ before_last places (place ∷ []) at (omega (arith, size, below)) ∙ each at below)
    (ap (λ (l : List (Option ℕ)). slice_get l i) added ∙ at_last places place i size ∙ ap (λ (o : Option ℕ). Some o) there)
