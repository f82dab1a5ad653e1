-- Writes into the cells, seen through the frames.
use Rattle.std.proofs.Common.{◌≡◌, ℕ, suc, ◌+◌, ◌-◌, ◌<◌, ◌≤◌, List, [], ◌∷◌, ◌++◌, length, refl, sym, ap, ◌∙◌, arith, take, drop, get_or, length-drop, length-take, get_or-drop}
use Rattle.std.specs.Prelude.{set, map, reverse, slice_range, slice_get, option_map, Some}
use Rattle.std.proofs.lemmas.List.{get_or-take, take_more_set, take_more, take-set-le, drop-set-add, drop-set-lt, take-take, drop-drop, drop-take, length-map, length-reverse, map-append, map-set, length-set, reverse-append}
use Rattle.std.proofs.lemmas.Option.{slice_get-map, slice_get-get_or}
use Rattle.std.proofs.Math.Seq.{take-set-lt, take-add, take-append_seam, drop-append_seam}
use Rattle.cc_core.specs.declared.world.Value.{Value}
use Rattle.cc_machine_next.specs.declared.cell.Cell.{Cell}
use Rattle.cc_machine_next.specs.declared.frames.Saved.{Saved}
use Rattle.cc_machine_next.specs.Cells.{value_of}
use Rattle.cc_machine_next.specs.Frames.{HeldFrame, Frames, values, held, below_of, frames_from, AreStacked, pushed, with_variable, entered, dropped, with_stack}
use Rattle.cc_execution.specs.declared.operation.FundamentalType.{FundamentalType}
use Rattle.cc_execution.specs.Step.{zeros_of}

module _ {A : Type 0} (xs : List A) where
  range_pushed : (y : A) (a b k : ℕ) → b ≡ a + k → b < length xs → slice_range (set xs b y) a (b + 1) ≡ slice_range xs a b ++ y ∷ []
  range_pushed y a b k e h =
      let n : b + 1 - a ≡ k + 1 = omega (arith, e) in
      let n2 : b - a ≡ k = omega (arith, e) in
      let w : k < length (drop a xs) = omega (arith, length-drop a xs) in
      ap (λ i. take (b + 1 - a) (drop a (set xs i y))) e ∙ ap (λ z. take (b + 1 - a) z) (drop-set-add a xs k y) ∙ ap (λ i. take i (set (drop a xs) k y)) n ∙ take_more_set (drop a xs) k y w ∙ ap (λ i. take i (drop a xs) ++ y ∷ []) (sym n2)

  range_before : (y : A) (a b i : ℕ) → a ≤ b → b ≤ i → slice_range (set xs i y) a b ≡ slice_range xs a b
  range_before y a b i h g =
      let e : i ≡ a + (i - a) = omega (arith, h, g) in
      ap (λ z. take (b - a) (drop a (set xs z y))) e ∙ ap (λ z. take (b - a) z) (drop-set-add a xs (i - a) y) ∙ take-set-le (b - a) (drop a xs) (i - a) y (omega (arith, h, g))

  range_inside : (y : A) (a b k : ℕ) → a + k < b → slice_range (set xs (a + k) y) a b ≡ set (slice_range xs a b) k y
  range_inside y a b k h = ap (λ z. take (b - a) z) (drop-set-add a xs k y) ∙ take-set-lt (b - a) (drop a xs) k y (omega (arith, h))

  range_after : (y : A) (a b i : ℕ) → i < a → slice_range (set xs i y) a b ≡ slice_range xs a b
  range_after y a b i h = ap (λ z. take (b - a) z) (drop-set-lt a xs i y h)

  pub range_popped : (d : A) (a b : ℕ) → a < b → b ≤ length xs → slice_range xs a b ≡ slice_range xs a (b - 1) ++ get_or xs (b - 1) d ∷ []
  range_popped d a b h g =
      let n : b - a ≡ (b - 1 - a) + 1 = omega (arith, h) in
      let w : b - 1 - a < length (drop a xs) = omega (arith, length-drop a xs, h, g) in
      let i : a + (b - 1 - a) ≡ b - 1 = omega (arith, h) in
      ap (λ z. take z (drop a xs)) n ∙ take_more (drop a xs) (b - 1 - a) d w ∙ ap (λ z. take (b - 1 - a) (drop a xs) ++ z ∷ []) (get_or-drop a xs (b - 1 - a) d ∙ ap (λ z. get_or xs z d) i)

pub range_length : {A : Type 0} (xs : List A) (a b : ℕ) → a ≤ b → b ≤ length xs → length (slice_range xs a b) ≡ b - a
range_length xs a b h g = simp (length-take, length-drop) (omega (arith, h, g))

-- a cell more at the end is a value more on top
pub turned : (xs : List Cell) (c : Cell) → reverse (map value_of (xs ++ c ∷ [])) ≡ value_of c ∷ reverse (map value_of xs)
turned xs c = ap reverse (map-append value_of xs (c ∷ [])) ∙ reverse-append (map value_of xs) (value_of c ∷ [])

-- what lies below stays
below_same : (xs : List Cell) (c : Cell) (saved : List Saved) (end i : ℕ) → AreStacked saved end → end ≤ i → below_of (set xs i c) saved end ≡ below_of xs saved end
below_same xs c [] end i h g = refl
below_same xs c (s ∷ saved) end i h g =
    let variables = ap (map value_of) (range_before xs c s.base s.floor i h.0 (omega (arith, h.1, g))) in
    let stack = ap (λ l. reverse (map value_of l)) (range_before xs c s.floor end i h.1 g) in
    let rest = below_same xs c saved s.base i h.2 (omega (arith, h.0, h.1, g)) in
    cc

made : (method at floor size size2 : ℕ) (v v2 st st2 : List Value) (b b2 : List HeldFrame) → size ≡ size2 → v ≡ v2 → st ≡ st2 → b ≡ b2
    → ◌≡◌ {A = Frames} (record { now = record { method = method; at = at; variables = v; stack = st; floor = floor }; below = b; size = size }) (record { now = record { method = method; at = at; variables = v2; stack = st2; floor = floor }; below = b2; size = size2 })
made method at floor size size2 v v2 st st2 b b2 e f g k = cc

module _ (xs : List Cell) (saved : List Saved) (method at base floor top : ℕ) where
  pub push_shows : (c : Cell) → base ≤ floor → floor ≤ top → top < length xs → AreStacked saved base → frames_from (set xs top c) saved method at base floor (top + 1) ≡ pushed (value_of c) (frames_from xs saved method at base floor top)
  push_shows c h g l w =
      made method at floor _ _ _ _ _ _ _ _ (length-set xs top c) (ap (map value_of) (range_before xs c base floor top h g))
      (ap (λ l. reverse (map value_of l)) (range_pushed xs c floor top (top - floor) (omega (arith, g)) l) ∙ turned (slice_range xs floor top) c)
      (below_same xs c saved base top w (omega (arith, h, g)))

  pub pop_shows : (d c : Cell) → floor < top → top ≤ length xs → c ≡ get_or xs (top - 1) d → frames_from xs saved method at base floor top ≡ pushed (value_of c) (frames_from xs saved method at base floor (top - 1))
  pop_shows d c g l e =
      made method at floor _ _ _ _ _ _ _ _ refl refl
      (ap (λ l. reverse (map value_of l)) (range_popped xs d floor top g l ∙ ap (λ z. slice_range xs floor (top - 1) ++ z ∷ []) (sym e)) ∙ turned (slice_range xs floor (top - 1)) c) refl

  pub store_shows : (place : ℕ) (c : Cell) → base + place < floor → AreStacked saved base → frames_from (set xs (base + place) c) saved method at base floor top ≡ with_variable place (value_of c) (frames_from xs saved method at base floor top)
  store_shows place c h w =
      made method at floor _ _ _ _ _ _ _ _ (length-set xs (base + place) c) (ap (map value_of) (range_inside xs c base floor place h) ∙ map-set value_of (slice_range xs base floor) place c)
      (ap (λ l. reverse (map value_of l)) (range_after xs c floor top (base + place) h))
      (below_same xs c saved base (base + place) w (omega arith))

-- the stack has as many values as it has cells
pub stack_length : (xs : List Cell) (floor top : ℕ) → floor ≤ top → top ≤ length xs → length (reverse (values xs floor top)) ≡ top - floor
stack_length xs floor top h g = length-reverse (values xs floor top) ∙ length-map (slice_range xs floor top) value_of ∙ range_length xs floor top h g

pub values_length : (xs : List Cell) (from to : ℕ) → from ≤ to → to ≤ length xs → length (values xs from to) ≡ to - from
values_length xs from to h g = length-map (slice_range xs from to) value_of ∙ range_length xs from to h g

-- where there is a value the stack has a cell
pub has_cell : (xs : List Cell) (floor top : ℕ) (v : Value) (rest : List Value) → floor ≤ top → top ≤ length xs → reverse (values xs floor top) ≡ v ∷ rest → floor < top
has_cell xs floor top v rest h g e = let n : suc (length rest) ≡ top - floor = sym (ap length e) ∙ stack_length xs floor top h g in omega (arith, n)

-- the value of a cell is that of the variable
pub variable_is : (xs : List Cell) (base floor place : ℕ) (d c : Cell) → base + place < floor → floor ≤ length xs → c ≡ get_or xs (base + place) d → slice_get (values xs base floor) place ≡ Some (value_of c)
variable_is xs base floor place d c h g e =
    let r = slice_range xs base floor in
    let within : place < length r = omega (arith, range_length xs base floor (omega (arith, h)) g) in
    let inner : place < floor - base = omega (arith, h) in
    let cell : get_or r place d ≡ c = get_or-take (floor - base) (drop base xs) place d inner ∙ get_or-drop base xs place d ∙ sym e in
    slice_get-map value_of r place ∙ ap (option_map value_of) (slice_get-get_or r place d within ∙ ap Some cell)

-- ---- lists turned round

pub reverse_cons : {A : Type 0} (x : A) (xs : List A) → reverse (x ∷ xs) ≡ reverse xs ++ x ∷ []
reverse_cons x xs = reverse-append (x ∷ []) xs

pub reverse_twice : {A : Type 0} (xs : List A) → reverse (reverse xs) ≡ xs
reverse_twice [] = refl
reverse_twice (x ∷ xs) = ap reverse (reverse_cons x xs) ∙ reverse-append (reverse xs) (x ∷ []) ∙ ap (λ l. x ∷ l) (reverse_twice xs)

-- two ways to part a list behind so many elements
parted : {A : Type 0} (xs ys us vs : List A) → length xs ≡ length us → xs ++ ys ≡ us ++ vs → (xs ≡ us) × (ys ≡ vs)
parted xs ys us vs n e = (
  sym (take-append_seam xs ys) ∙ ap (λ k. take k (xs ++ ys)) n ∙ ap (take (length us)) e ∙ take-append_seam us vs,
  sym (drop-append_seam xs ys) ∙ ap (λ k. drop k (xs ++ ys)) n ∙ ap (drop (length us)) e ∙ drop-append_seam us vs,
)

-- ---- frames that are entered and left

range_same : {A : Type 0} (xs ys : List A) (n a b : ℕ) → take n xs ≡ take n ys → a ≤ b → b ≤ n → slice_range xs a b ≡ slice_range ys a b
range_same {A = A} xs ys n a b e h g =
    let m : b ≡ a + (b - a) = omega (arith, h) in
    let cut = λ (zs : List A). (sym (drop-take a (b - a) zs)) ∙ ap (λ i. drop a (take i zs)) (sym m) ∙ ap (drop a) (sym (take-take b n zs g)) in
    cut xs ∙ ap (λ z. drop a (take b z)) e ∙ sym (cut ys)

range_split : {A : Type 0} (xs : List A) (a b c : ℕ) → a ≤ b → b ≤ c → slice_range xs a c ≡ slice_range xs a b ++ slice_range xs b c
range_split xs a b c h g =
    let n : c - a ≡ (b - a) + (c - b) = omega (arith, h, g) in
    let m : a + (b - a) ≡ b = omega (arith, h) in
    ap (λ i. take i (drop a xs)) n ∙ take-add (b - a) (c - b) (drop a xs) ∙ ap (λ z. slice_range xs a b ++ take (c - b) z) (drop-drop (b - a) a xs ∙ ap (λ i. drop i xs) m)

values_same : (xs ys : List Cell) (n a b : ℕ) → take n xs ≡ take n ys → a ≤ b → b ≤ n → values xs a b ≡ values ys a b
values_same xs ys n a b e h g = ap (map value_of) (range_same xs ys n a b e h g)

pub values_split : (xs : List Cell) (a b c : ℕ) → a ≤ b → b ≤ c → values xs a c ≡ values xs a b ++ values xs b c
values_split xs a b c h g = ap (map value_of) (range_split xs a b c h g) ∙ map-append value_of (slice_range xs a b) (slice_range xs b c)

below_agrees : (xs ys : List Cell) (n : ℕ) → take n xs ≡ take n ys → (saved : List Saved) (end : ℕ) → AreStacked saved end → end ≤ n → below_of xs saved end ≡ below_of ys saved end
below_agrees xs ys n e [] end h g = refl
below_agrees xs ys n e (s ∷ saved) end h g =
    let variables = values_same xs ys n s.base s.floor e h.0 (omega (arith, h.1, g)) in
    let stack = ap reverse (values_same xs ys n s.floor end e h.1 g) in
    let rest = below_agrees xs ys n e saved s.base h.2 (omega (arith, h.0, h.1, g)) in
    cc

-- the values of the arguments, and the stack below them
pub arguments_are : (xs : List Cell) (floor top n : ℕ) (vs rest : List Value) → floor + n ≤ top → top ≤ length xs → length vs ≡ n → reverse (values xs floor top) ≡ reverse vs ++ rest
    → (values xs (top - n) top ≡ vs) × (reverse (values xs floor (top - n)) ≡ rest)
arguments_are xs floor top n vs rest h g size e =
    let low = values xs floor (top - n) in
    let high = values xs (top - n) top in
    let split : values xs floor top ≡ low ++ high = values_split xs floor (top - n) top (omega (arith, h)) (omega (arith, h)) in
    let turned_e : reverse high ++ reverse low ≡ reverse vs ++ rest = sym (reverse-append low high) ∙ ap reverse (sym split) ∙ e in
    let count : length (reverse high) ≡ length (reverse vs) =
    let a : length (reverse high) ≡ top - (top - n) = length-reverse high ∙ values_length xs (top - n) top (omega (arith, h)) g in
    let b : length (reverse vs) ≡ n = length-reverse vs ∙ size in omega (arith, a, b, h) in
    let parts = parted (reverse high) (reverse low) (reverse vs) rest count turned_e in
    (sym (reverse_twice high) ∙ ap reverse parts.0 ∙ reverse_twice vs, parts.1)

head_or : {A : Type 0} → A → List A → A
head_or d [] = d
head_or d (x ∷ xs) = x

rest_of : {A : Type 0} → List A → List A
rest_of [] = []
rest_of (x ∷ xs) = xs

heads_one : {A : Type 0} (x y : A) (xs ys : List A) → x ∷ xs ≡ y ∷ ys → (x ≡ y) × (xs ≡ ys)
unfolding head_or rest_of
heads_one x y xs ys e = (ap (head_or x) e, ap rest_of e)

entered_made : (callee zero_at floor2 : ℕ) (v v2 st st2 : List Value) (size size2 : ℕ) (method at floor : ℕ) (u u2 r r2 : List Value) (b b2 : List HeldFrame) → v ≡ v2 → st ≡ st2 → u ≡ u2 → r ≡ r2 → b ≡ b2 → size ≡ size2
    → ◌≡◌ {A = Frames} (record { now = record { method = callee; at = zero_at; variables = v; stack = st; floor = floor2 }; below = record { method = method; at = at; variables = u; stack = r; floor = floor } ∷ b; size = size })
    (record { now = record { method = callee; at = zero_at; variables = v2; stack = st2; floor = floor2 }; below = record { method = method; at = at; variables = u2; stack = r2; floor = floor } ∷ b2; size = size2 })
entered_made callee zero_at floor2 v v2 st st2 size size2 method at floor u u2 r r2 b b2 e f g h i j = cc

dropped_made : (size : ℕ) (n n2 : HeldFrame) (b b2 : List HeldFrame) → n ≡ n2 → b ≡ b2 → ◌≡◌ {A = Frames} (record { now = n; below = b; size = size }) (record { now = n2; below = b2; size = size })
dropped_made size n n2 b b2 e f = cc

module _ (xs zs : List Cell) (saved : List Saved) (method at base floor top n : ℕ) (types : List FundamentalType) (callee : ℕ) where
  -- the arguments become the first variables of the frame that is entered, and the local variables are zero
  pub enter_shows : (vs rest : List Value) (size : ℕ) → base ≤ floor → floor + n ≤ top → top ≤ length xs → length zs ≡ size → AreStacked saved base → take top zs ≡ take top xs
      → values zs top (top + length types) ≡ zeros_of types → length vs ≡ n → reverse (values xs floor top) ≡ reverse vs ++ rest
      → frames_from zs (record { method = method; at = at; base = base; floor = floor } ∷ saved) callee 0 (top - n) (top + length types) (top + length types)
      ≡ entered callee (vs ++ zeros_of types) rest (top + length types) size (frames_from xs saved method at base floor top)
  enter_shows vs rest size h g l s w same empty count e =
      let k = length types in
      let parts = arguments_are xs floor top n vs rest g l count e in
      let arguments : values zs (top - n) top ≡ vs = values_same zs xs top (top - n) top same (omega arith) (omega arith) ∙ parts.0 in
      let variables : values zs (top - n) (top + k) ≡ vs ++ zeros_of types =
      values_split zs (top - n) top (top + k) (omega arith) (omega arith) ∙ ap (λ l. l ++ values zs top (top + k)) arguments ∙ ap (λ l. vs ++ l) empty in
      let none : top + k - (top + k) ≡ 0 = omega arith in
      let stack : reverse (values zs (top + k) (top + k)) ≡ [] = ap (λ i. reverse (map value_of (take i (drop (top + k) zs)))) none in
      let outer : reverse (values zs floor (top - n)) ≡ rest = ap reverse (values_same zs xs top floor (top - n) same (omega (arith, g)) (omega arith)) ∙ parts.1 in
      let here : values zs base floor ≡ values xs base floor = values_same zs xs top base floor same h (omega (arith, g)) in
      let below : below_of zs saved base ≡ below_of xs saved base = below_agrees zs xs top same saved base w (omega (arith, h, g)) in
      entered_made callee 0 (top + k) _ _ _ _ _ _ method at floor _ _ _ _ _ _ variables stack here outer below s

-- the frame below comes up as it was
module _ (xs : List Cell) (f : Saved) (saved before : List Saved) (method at base floor top : ℕ) where
  pub leave_shows : (now : HeldFrame) (below : List HeldFrame) → before ≡ f ∷ saved → (frames_from xs before method at base floor top).below ≡ now ∷ below
      → frames_from xs saved f.method f.at f.base f.floor base ≡ dropped now below (frames_from xs before method at base floor top)
  leave_shows now below e g =
      let one = heads_one (held xs f.method f.at f.base f.floor base) now (below_of xs saved f.base) below (ap (λ l. below_of xs l base) (sym e) ∙ g) in
      dropped_made (length xs) _ _ _ _ one.0 one.1

-- as many frames wait as are saved
pub below_length : (xs : List Cell) (saved : List Saved) (end : ℕ) → length (below_of xs saved end) ≡ length saved
below_length xs [] end = refl
below_length xs (s ∷ saved) end = ap suc (below_length xs saved s.base)

pub values_more : (xs : List Cell) (from i : ℕ) (c : Cell) → from + i < length xs → values (set xs (from + i) c) from (from + (i + 1)) ≡ values xs from (from + i) ++ value_of c ∷ []
values_more xs from i c h =
    let n : from + (i + 1) ≡ from + i + 1 = omega arith in
    ap (λ k. values (set xs (from + i) c) from k) n ∙ ap (map value_of) (range_pushed xs c from (from + i) i refl h) ∙ map-append value_of (slice_range xs from (from + i)) (c ∷ [])

pub values_set : (xs : List Cell) (from n i : ℕ) (c : Cell) → i < n → values (set xs (from + i) c) from (from + n) ≡ set (values xs from (from + n)) i (value_of c)
values_set xs from n i c h = ap (map value_of) (range_inside xs c from (from + n) i (omega (arith, h))) ∙ map-set value_of (slice_range xs from (from + n)) i c

-- the value on top is another one
pub replace_shows : (xs : List Cell) (saved : List Saved) (method at base floor top : ℕ) (c : Cell) (v : Value) (rest : List Value) → base ≤ floor → floor ≤ top → top ≤ length xs → AreStacked saved base
    → (frames_from xs saved method at base floor top).now.stack ≡ v ∷ rest → frames_from (set xs (top - 1) c) saved method at base floor top ≡ with_stack (value_of c ∷ rest) (frames_from xs saved method at base floor top)
replace_shows xs saved method at base floor top c v rest h g l w e =
    let some : floor < top = has_cell xs floor top v rest g l e in
    let n : top ≡ top - 1 + 1 = omega (arith, some) in
    let d = get_or xs (top - 1) c in
    let low = frames_from xs saved method at base floor (top - 1) in
    let old : frames_from xs saved method at base floor top ≡ pushed (value_of d) low = pop_shows xs saved method at base floor top c d some l refl in
    let stack : low.now.stack ≡ rest = (heads_one (value_of d) v low.now.stack rest (ap (λ (f : Frames). f.now.stack) (sym old) ∙ e)).1 in
    ap (λ k. frames_from (set xs (top - 1) c) saved method at base floor k) n
    ∙ push_shows xs saved method at base floor (top - 1) c h (omega (arith, some)) (omega (arith, some, l)) w
    ∙ ap (λ s. with_stack (value_of c ∷ s) low) stack ∙ ap (with_stack (value_of c ∷ rest)) (sym old)

-- the values on top are others, one by one
pub stored_shows : (xs ys : List Cell) (saved : List Saved) (method at base floor top n : ℕ) (vs ws rest : List Value) → base ≤ floor → floor + n ≤ top → top ≤ length xs → AreStacked saved base → length ys ≡ length xs
    → take (top - n) ys ≡ take (top - n) xs → values ys (top - n) top ≡ ws → length vs ≡ n → reverse (values xs floor top) ≡ reverse vs ++ rest
    → frames_from ys saved method at base floor top ≡ with_stack (reverse ws ++ rest) (frames_from xs saved method at base floor top)
stored_shows xs ys saved method at base floor top n vs ws rest h g l w size same new count e =
    let parts = arguments_are xs floor top n vs rest g l count e in
    let low : reverse (values ys floor (top - n)) ≡ rest = ap reverse (values_same ys xs (top - n) floor (top - n) same (omega (arith, g)) (omega arith)) ∙ parts.1 in
    let stack : reverse (values ys floor top) ≡ reverse ws ++ rest =
    ap reverse (values_split ys floor (top - n) top (omega (arith, g)) (omega (arith, g))) ∙ reverse-append (values ys floor (top - n)) (values ys (top - n) top)
    ∙ ap (λ l. reverse l ++ reverse (values ys floor (top - n))) new ∙ ap (λ l. reverse ws ++ l) low in
    made method at floor _ _ _ _ _ _ _ _ size (values_same ys xs (top - n) base floor same h (omega (arith, g))) stack (below_agrees ys xs (top - n) same saved base w (omega (arith, h, g)))
