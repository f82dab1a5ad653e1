-- The texts of rows, row by row.
use Rattle.std.proofs.Common.{◌≡◌, ℕ, ◌+◌, ◌<◌, ◌≤◌, List, [], ◌++◌, sym, subst, append_assoc, append-nil}
use Rattle.std.specs.Prelude.{Result, Ok, Err, OnOk}
use Rattle.cc_listing.specs.Rows.{Rows, none, row, GoesTo}

pub rows_begin : (R : ℕ → List ℕ → Type 0) (first past : ℕ) → GoesTo R first first past []
rows_begin R first past more rows = rows

pub rows_more : (R : ℕ → List ℕ → Type 0) (first at past : ℕ) (front text : List ℕ) → GoesTo R first at past front → at < past → R at text → GoesTo R first (at + 1) past (front ++ text)
rows_more R first at past front text before within here more rows =
    subst (λ (l : List ℕ). Rows R first past l) (sym (append_assoc front text more)) (before (text ++ more) (row within here rows))

pub rows_end : (R : ℕ → List ℕ → Type 0) (first at past : ℕ) (front : List ℕ) → GoesTo R first at past front → past ≤ at → Rows R first past front
rows_end R first at past front before end = subst (λ (l : List ℕ). Rows R first past l) (append-nil front) (before [] (none end))

-- what follows from what holds on success
pub on_ok : {T E : Type 0} {P Q : Type 0} (result : Result T E) → OnOk result P → (P → Q) → OnOk result Q
on_ok (Ok value) holds step = step holds
on_ok (Err error) holds step = holds
