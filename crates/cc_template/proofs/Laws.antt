-- The nodes of the items of a list are counted one item after another.
use Rattle.std.proofs.Common.{◌≡◌, ℕ, ◌+◌, ◌<◌, suc, sym, ap, ◌∙◌, List, ◌∷◌, map, length, get_or, drop, Result, Ok, Err, drop-cons, add-one}
use Rattle.cc_base.specs.declared.text.Span.{Span}
use Rattle.cc_template.specs.declared.room.Room.{Room}
use Rattle.cc_template.specs.Nodes.{Nodes, both}
use Rattle.cc_template.specs.Counting.{next, run}

-- the items from one on are that one and those behind it
pub split_at : {A : Type 0} (items : List A) (place : ℕ) (x : A) → place < length items → x ≡ get_or items place x → drop place items ≡ x ∷ drop (place + 1) items
split_at items place x h e = rw (add-one, drop-cons items place x) (ap (λ y. y ∷ drop (suc place) items) (sym e))

-- `whole` gives the nodes of items in a row, as those of the first and then of the others.
abbrev pub Splits : {A : Type 0} → (List A → Nodes) → (A → Nodes) → Type 0
Splits {A} whole nodes = (x : A) (xs : List A) → whole (x ∷ xs) ≡ both (nodes x) (whole xs)

pub run_items : {A : Type 0} (whole : List A → Nodes) (nodes : A → Nodes) (splits : Splits whole nodes) (items : List A) (place : ℕ) (x : A) (room : Room)
    → place < length items → x ≡ get_or items place x → run (whole (drop place items)) room ≡ next (run (nodes x) room) (run (whole (drop (place + 1) items)))
run_items whole nodes splits items place x room h e =
    ap (λ xs. run (whole xs) room) (split_at items place x h e) ∙ ap (λ ns. run ns room) (splits x (drop (place + 1) items))

-- an item more is counted, or refused
pub run_more : {A : Type 0} (whole : List A → Nodes) (nodes : A → Nodes) (splits : Splits whole nodes) (items : List A) (place : ℕ) (x : A) (room left : Room)
    → place < length items → x ≡ get_or items place x → (one : Result Room Span) → one ≡ run (nodes x) room → one ≡ Ok left
    → (total : Result Room Span) → run (whole (drop place items)) room ≡ total → run (whole (drop (place + 1) items)) left ≡ total
run_more whole nodes splits items place x room left h e one f g total so_far =
    ap (λ r. next r (run (whole (drop (place + 1) items)))) (sym g ∙ f) ∙ sym (run_items whole nodes splits items place x room h e) ∙ so_far

pub run_refused : {A : Type 0} (whole : List A → Nodes) (nodes : A → Nodes) (splits : Splits whole nodes) (items : List A) (place : ℕ) (x : A) (room : Room) (span : Span)
    → place < length items → x ≡ get_or items place x → (one : Result Room Span) → one ≡ run (nodes x) room → one ≡ Err span
    → (total : Result Room Span) → run (whole (drop place items)) room ≡ total → Err span ≡ total
run_refused whole nodes splits items place x room span h e one f g total so_far =
    ap (λ r. next r (run (whole (drop (place + 1) items)))) (sym g ∙ f) ∙ sym (run_items whole nodes splits items place x room h e) ∙ so_far
