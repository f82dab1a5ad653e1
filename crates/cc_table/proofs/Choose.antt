-- The choice among rows, one row after another.
use Rattle.std.proofs.Common.{◌≡◌, ◌∙◌, sym, ap, drop, ◌+◌, ◌<◌, length, get_or, true, false, cond, List, ℕ, Bool}
use Rattle.std.specs.Prelude.{Some}
use Rattle.std.proofs.lemmas.List.{at_drop_more}
use Rattle.cc_table.specs.declared.choice.Row as table
use Rattle.cc_table.specs.declared.symbols.Input.{Input}
use Rattle.cc_table.specs.Choice.{accepts_one, choose, seen}

one_more : (rows : List table.Row) (input : Input) (i : ℕ) (d : table.Row) (found : Bool) → i < length rows → found ≡ accepts_one (get_or rows i d).on.now input → choose (seen rows) input ≡ choose (seen (drop i rows)) input → choose (seen rows) input ≡ cond found (Some ((get_or rows i d).take, (get_or rows i d).part.now)) (choose (seen (drop (i + 1) rows)) input)
one_more rows input i d found lt same so_far =
    so_far ∙ at_drop_more (λ rest. choose (seen rest) input) rows i d lt
    ∙ ap (λ b. cond b (Some ((get_or rows i d).take, (get_or rows i d).part.now)) (choose (seen (drop (i + 1) rows)) input)) (sym same)

pub chosen : (rows : List table.Row) (input : Input) (i : ℕ) (d : table.Row) (found : Bool) → i < length rows → found ≡ accepts_one (get_or rows i d).on.now input → found ≡ true → choose (seen rows) input ≡ choose (seen (drop i rows)) input → choose (seen rows) input ≡ Some ((get_or rows i d).take, (get_or rows i d).part.now)
chosen rows input i d found lt same is so_far = one_more rows input i d true lt (sym is ∙ same) so_far

pub passed : (rows : List table.Row) (input : Input) (i : ℕ) (d : table.Row) (found : Bool) → i < length rows → found ≡ accepts_one (get_or rows i d).on.now input → found ≡ false → choose (seen rows) input ≡ choose (seen (drop i rows)) input → choose (seen rows) input ≡ choose (seen (drop (i + 1) rows)) input
passed rows input i d found lt same is so_far = one_more rows input i d false lt (sym is ∙ same) so_far
