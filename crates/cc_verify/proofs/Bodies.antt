-- What the verdict on a body's clauses says for its code.
use Rattle.std.proofs.Common.{◌≡◌, ◌<◌, ◌≤◌, ◌+◌, ℕ, List, [], ◌∷◌, ◌++◌, length, take, drop, refl, sym, ap, subst, ◌∙◌, arith}
use Rattle.std.specs.Prelude.{Bool, true, false, Option, Some, None, ◌&&◌}
use Rattle.std.specs.List.{AllByRecursion}
use Rattle.std.proofs.lemmas.Bool.{false≢true}
use Rattle.std.proofs.lemmas.List.{drop_all}
use Rattle.cc_cil.specs.declared.body.Clause.{Clause}
use Rattle.cc_cil.specs.declared.body.Body.{Body}
use Rattle.cc_verify.specs.declared.environment.Environment.{Environment}
use Rattle.cc_verify.specs.declared.environment.Frame.{Frame}
use Rattle.cc_verify.specs.declared.method.Method.{Method}
use Rattle.cc_verify.specs.declared.places.Place.{Place}
use Rattle.cc_verify.specs.declared.places.Broken.{Broken}
use Rattle.cc_verify.specs.Regions.{try_past, handler_past}
use Rattle.cc_verify.specs.Places.{Decodes}
use Rattle.cc_verify.specs.Rules.{Verdict, MethodVerdict, is_start, is_end, has_edges, is_nested, ClauseVerdict, all_nest, no_edge, not_nested, nested}
use Rattle.cc_verify.specs.Passes.{AreStarts}
use Rattle.cc_verify.proofs.Passing.{start_within}

and_first : (a b : Bool) → (a && b) ≡ true → a ≡ true
and_first true b e = refl
and_first false b e = absurd (false≢true e)

and_second : (a b : Bool) → (a && b) ≡ true → b ≡ true
and_second true b e = e
and_second false b e = absurd (false≢true e)

-- each handler begins within the code
pub handlers_within : {m : Method} {before left : List Clause} (starts : List Bool) → AreStarts starts m.places → length starts ≡ m.size → ClauseVerdict m before left None → AllByRecursion (λ (c : Clause). c.handler_first < m.size) left
handlers_within starts are size all_nest = tt
handlers_within {m} starts are size (nested {c = c} edges nests more) =
    let second = and_second (is_start m c.try_first && is_end m (try_past c)) (is_start m c.handler_first && is_end m (handler_past c)) edges in
    let start = and_first (is_start m c.handler_first) (is_end m (handler_past c)) second in
    let l = start_within starts m.places c.handler_first are start in
    (omega (arith, l, size), handlers_within starts are size more)

-- ---- clauses, one after another

pub edge_broken : (m : Method) (clauses : List Clause) (at : ℕ) (c : Clause) → drop at clauses ≡ c ∷ drop (at + 1) clauses → has_edges m c ≡ false → ((verdict : Option Broken) → ClauseVerdict m (take at clauses) (drop at clauses) verdict → ClauseVerdict m [] clauses verdict)
    → ClauseVerdict m [] clauses (Some (record { at = c.try_first; rule = 1 }))
edge_broken m clauses at c d h leads = leads _ (subst (λ l. ClauseVerdict m (take at clauses) l (Some (record { at = c.try_first; rule = 1 }))) (sym d) (no_edge h))

pub nest_broken : (m : Method) (clauses : List Clause) (at : ℕ) (c : Clause) → drop at clauses ≡ c ∷ drop (at + 1) clauses → has_edges m c ≡ true → is_nested (take at clauses) c ≡ false
    → ((verdict : Option Broken) → ClauseVerdict m (take at clauses) (drop at clauses) verdict → ClauseVerdict m [] clauses verdict)
    → ClauseVerdict m [] clauses (Some (record { at = c.try_first; rule = 6 }))
nest_broken m clauses at c d e h leads = leads _ (subst (λ l. ClauseVerdict m (take at clauses) l (Some (record { at = c.try_first; rule = 6 }))) (sym d) (not_nested e h))

pub nested_on : (m : Method) (clauses : List Clause) (at : ℕ) (c : Clause) → drop at clauses ≡ c ∷ drop (at + 1) clauses → take (at + 1) clauses ≡ take at clauses ++ c ∷ [] → has_edges m c ≡ true → is_nested (take at clauses) c ≡ true
    → ((verdict : Option Broken) → ClauseVerdict m (take at clauses) (drop at clauses) verdict → ClauseVerdict m [] clauses verdict)
    → (verdict : Option Broken) → ClauseVerdict m (take (at + 1) clauses) (drop (at + 1) clauses) verdict → ClauseVerdict m [] clauses verdict
nested_on m clauses at c d t e h leads verdict more =
    leads verdict (subst (λ l. ClauseVerdict m (take at clauses) l verdict) (sym d) (nested e h (subst (λ l. ClauseVerdict m l (drop (at + 1) clauses) verdict) t more)))

pub all_nested : (m : Method) (clauses : List Clause) (at : ℕ) → length clauses ≤ at → ((verdict : Option Broken) → ClauseVerdict m (take at clauses) (drop at clauses) verdict → ClauseVerdict m [] clauses verdict)
    → ClauseVerdict m [] clauses None
all_nested m clauses at past leads = leads None (subst (λ l. ClauseVerdict m (take at clauses) l None) (sym (drop_all at clauses past)) all_nest)

-- ---- the body whole

pub whole_verdict : (e : Environment) (f : Frame) (body : Body) (code : List ℕ) (places : List Place) (end : ℕ) (clauses : List Clause) (size : ℕ) (found : Option Broken) → code ≡ body.code → clauses ≡ body.clauses → size ≡ length code → Decodes code 0 places end
    → Verdict (record { environment = e; frame = f; clauses = clauses; places = places; most = body.max_stack; size = size }) end found → MethodVerdict e f body found
whole_verdict e f body code places end clauses size found a b n d v =
    let made : List Clause → ℕ → Method = λ l k. record { environment = e; frame = f; clauses = l; places = places; most = body.max_stack; size = k } in
    (places, end, subst (λ l. Decodes l 0 places end) a d, subst (λ l. Verdict (made l (length body.code)) end found) b (subst (λ k. Verdict (made clauses k) end found) (n ∙ ap length a) v))
