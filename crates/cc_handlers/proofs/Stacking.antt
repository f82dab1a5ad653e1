-- What handlers run for, as lists.
use Rattle.std.proofs.Common.{◌≡◌, ℕ, zero, suc, ◌-◌, ◌≤◌, List, [], ◌∷◌, ◌++◌, length, take, drop, refl, sym, ap, ◌∙◌, arith, length-drop}
use Rattle.std.specs.Prelude.{map, reverse, Vec}
use Rattle.std.proofs.lemmas.List.{take-append-drop, map-append, length-map, length-reverse, reverse-append}
use Rattle.std.specs.declared.alloc.Global.{Global}
use Rattle.cc_execution.specs.State as execution
use Rattle.cc_handlers.specs.declared.reasons.Pending.{Pending}
use Rattle.cc_handlers.specs.Pendings.{pending_of, pendings, waiting, without}

-- one more
pub entered : (items : List Pending) (p : Pending) → pendings (items ++ p ∷ []) ≡ pending_of p ∷ pendings items
entered items p = ap reverse (map-append pending_of items (p ∷ [])) ∙ reverse-append (map pending_of items) (pending_of p ∷ [])

pub frame_entered : (frames : List (Vec Pending Global)) (v : Vec Pending Global) → reverse (map waiting (frames ++ v ∷ [])) ≡ waiting v ∷ reverse (map waiting frames)
frame_entered frames v = ap reverse (map-append waiting frames (v ∷ [])) ∙ reverse-append (map waiting frames) (waiting v ∷ [])

without_front : (rs ss : List execution.Pending) → without (length rs) (rs ++ ss) ≡ ss
without_front [] ss = refl
without_front (r ∷ rs) ss = without_front rs ss

pub without_all : (n : ℕ) (ps : List execution.Pending) → length ps ≤ n → without n ps ≡ []
without_all zero [] h = refl
without_all zero (p ∷ ps) h = absurd (omega (arith, h))
without_all (suc n) [] h = refl
without_all (suc n) (p ∷ ps) h = without_all n ps (omega (arith, h))

pub pendings_count : (items : List Pending) → length (pendings items) ≡ length items
pendings_count items = length-reverse (map pending_of items) ∙ length-map items pending_of

-- the innermost are those at the end
pub without_last : (n k : ℕ) (items : List Pending) → n ≤ length items → k ≡ length items - n → pendings (take k items) ≡ without n (pendings items)
without_last n k items h e =
    let a = map pending_of (take k items) in let b = map pending_of (drop k items) in
    let parts : pendings items ≡ reverse b ++ reverse a = ap pendings (sym (take-append-drop k items)) ∙ ap reverse (map-append pending_of (take k items) (drop k items)) ∙ reverse-append a b in
    let count : n ≡ length (reverse b) = omega (arith, h, e, length-reverse b, length-map (drop k items) pending_of, length-drop k items) in
    sym (ap (without n) parts ∙ ap (λ j. without j (reverse b ++ reverse a)) count ∙ without_front (reverse b) (reverse a))
