-- The lines of clauses, one by one.
use Rattle.std.proofs.Common.{◌≡◌, ℕ, ◌+◌, ◌<◌, List, [], ◌∷◌, ◌++◌, length, take, get_or, ap, append-nil, ◌∙◌}
use Rattle.std.proofs.lemmas.List.{take_more}
use Rattle.std.proofs.lemmas.List.Concat.{flat_map-append}
use Rattle.cc_cil.specs.declared.body.Clause.{Clause}
use Rattle.cc_listing.specs.Bodies.{clause_line, clause_lines}

pub clause_lines_more : (clauses : List Clause) (i : ℕ) (d : Clause) → i < length clauses → clause_lines (take (i + 1) clauses) ≡ clause_lines (take i clauses) ++ clause_line (get_or clauses i d)
clause_lines_more clauses i d within =
    let clause = get_or clauses i d in
    ap clause_lines (take_more clauses i d within) ∙ flat_map-append clause_line (take i clauses) (clause ∷ [])
    ∙ ap (λ (l : List ℕ). clause_lines (take i clauses) ++ l) (append-nil (clause_line clause))
