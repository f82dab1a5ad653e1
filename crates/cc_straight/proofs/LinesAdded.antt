-- How the lines of a block are added one by one.
use Rattle.std.proofs.Common.{◌≡◌, List, [], ◌∷◌, ◌++◌, refl, sym, ap, subst, ◌∙◌, append_assoc}
use Rattle.std.specs.Prelude.{Ok, Err}
use Rattle.std.specs.List.{flat_map}
use Rattle.std.proofs.lemmas.List.{append-nil}
use Rattle.std.proofs.lemmas.Grind.{flat_map-append}
use Rattle.cc_core.specs.declared.straight.StraightOperation.{StraightOperation}
use Rattle.cc_core.specs.StraightSource.{Term, operations_of, line_operations, Source, source_operations}
use Rattle.cc_core.specs.declared.straight.StraightOperation.TheVariants as operation
use Rattle.cc_base.specs.declared.text.Span.{Span}
use Rattle.cc_tree.specs.declared.expression.Expression.{Expression}
use Rattle.cc_tree.specs.declared.statement.Statement.{Statement}
use Rattle.cc_tree.specs.declared.statement.Statement.TheVariants as z
use Rattle.cc_tree.specs.declared.unit.Outer.{Outer}
use Rattle.cc_straight.specs.Form.{Judged, then_terms, line_layer, line_term, printed_term, source, alone}
use Rattle.cc_straight.specs.Added.{IsFault, AreAdded}
use Rattle.cc_straight.specs.declared.fault.CompileFault.{CompileFault}
use Rattle.cc_straight.specs.declared.fault.CompileFault.TheVariants.{Refused, Memory}

-- lines behind others
abbrev pub behind : List Term → Judged (List Term) → Judged (List Term)
behind terms (Ok more) = Ok (terms ++ more)
behind terms (Err span) = Err span

-- some lines were added, and others are left of the whole
pub record Leads (old now : List StraightOperation) (whole rest : Judged (List Term)) : Type 0 where
  pub terms : List Term
  pub added : now ≡ old ++ flat_map line_operations terms
  pub left : whole ≡ behind terms rest

behind_none : (j : Judged (List Term)) → j ≡ behind [] j
behind_none (Ok more) = refl
behind_none (Err span) = refl

pub leads_here : (old : List StraightOperation) (whole : Judged (List Term)) → Leads old old whole whole
leads_here old whole = record { terms = []; added = sym (append-nil old); left = behind_none whole }

behind_more : (terms : List Term) (t : Term) (rest : Judged (List Term)) → behind terms (then_terms (Ok t) rest) ≡ behind (terms ++ t ∷ []) rest
behind_more terms t (Ok more) = ap (λ ts. Ok ts) (sym (append_assoc terms (t ∷ []) more))
behind_more terms t (Err span) = refl

pub leads_on : (line : Judged Term) (rest whole : Judged (List Term)) (old now new : List StraightOperation) → Leads old now whole (then_terms line rest) → AreAdded line_operations line now new → Leads old new whole rest
leads_on (Err span) rest whole old now new h a = absurd a
leads_on (Ok t) rest whole old now new h a = record {
  terms = h.terms ++ t ∷ [];
  added = a ∙ ap (λ x. x ++ line_operations t) h.added ∙ append_assoc old (flat_map line_operations h.terms) (line_operations t) ∙ ap (λ x. old ++ x)
      (ap (λ x. flat_map line_operations h.terms ++ x) (sym (append-nil (line_operations t))) ∙ sym (flat_map-append line_operations h.terms (t ∷ [])));
  left = h.left ∙ behind_more h.terms t rest;
}

fails_behind : (terms : List Term) (line : Judged Term) (rest : Judged (List Term)) (fault : CompileFault) → IsFault fault line → IsFault fault (behind terms (then_terms line rest))
fails_behind terms line rest Memory h = tt
fails_behind terms (Ok t) rest (Refused why place) h = absurd h
fails_behind terms (Err span) rest (Refused why place) h = h

pub leads_fail : (line : Judged Term) (rest whole : Judged (List Term)) (old now : List StraightOperation) (fault : CompileFault) → Leads old now whole (then_terms line rest) → IsFault fault line → IsFault fault whole
leads_fail line rest whole old now fault h k = subst (λ j. IsFault fault j) (sym h.left) (fails_behind h.terms line rest fault k)

pub leads_end : (whole : Judged (List Term)) (old now : List StraightOperation) → Leads old now whole (Ok []) → AreAdded (λ terms. flat_map line_operations terms) whole old now
leads_end whole old now h = subst (λ j. AreAdded (λ terms. flat_map line_operations terms) j old now) (sym h.left) (h.added ∙ ap (λ ts. old ++ flat_map line_operations ts) (sym (append-nil h.terms)))

-- a line that prints a term
printed_added : (j : Judged Term) (old mid new : List StraightOperation) → AreAdded operations_of j old mid → new ≡ mid ++ operation.WriteLine ∷ [] → AreAdded line_operations j old new
printed_added (Err span) old mid new h p = absurd h
printed_added (Ok t) old mid new h p = rw (p, h) (simp append_assoc refl)

pub line_added : (statement : Statement) (x : Expression) (span : Span) (old mid new : List StraightOperation) → statement ≡ z.Expression x span → AreAdded operations_of (printed_term x) old mid → new ≡ mid ++ operation.WriteLine ∷ []
    → AreAdded line_operations (line_term statement) old new
line_added statement x span old mid new is h p =
    subst (λ j. AreAdded line_operations j old new) (sym (ap line_term is ∙ ap line_layer (z.outs-Expression x span))) (printed_added (printed_term x) old mid new h p)

-- lines and the value that is returned
pub source_added : (lines : Judged (List Term)) (value : Judged Term) (old mid more new : List StraightOperation) → AreAdded (λ terms. flat_map line_operations terms) lines old mid → AreAdded operations_of value mid more
    → new ≡ more ++ operation.Return ∷ [] → AreAdded source_operations (source lines value) old new
source_added (Err span) value old mid more new h k p = absurd h
source_added (Ok terms) (Err span) old mid more new h k p = absurd k
source_added (Ok terms) (Ok t) old mid more new h k p = rw (p, k, h) (simp append_assoc refl)

pub lines_fail : (lines : Judged (List Term)) (value : Judged Term) (fault : CompileFault) → IsFault fault lines → IsFault fault (source lines value)
lines_fail lines value Memory h = tt
lines_fail (Ok terms) value (Refused why place) h = absurd h
lines_fail (Err span) value (Refused why place) h = h

pub value_fails : (lines : Judged (List Term)) (value : Judged Term) (fault : CompileFault) (old mid : List StraightOperation) → AreAdded (λ terms. flat_map line_operations terms) lines old mid → IsFault fault value → IsFault fault (source lines value)
value_fails lines value Memory old mid h k = tt
value_fails (Err span) value (Refused why place) old mid h k = absurd h
value_fails (Ok terms) (Ok t) (Refused why place) old mid h k = absurd k
value_fails (Ok terms) (Err span) (Refused why place) old mid h k = k

pub alone_fails : (j : Judged Source) (outers : List Outer) (fault : CompileFault) → IsFault fault j → IsFault fault (alone j outers)
alone_fails j outers Memory h = tt
alone_fails (Ok source) outers (Refused why place) h = absurd h
alone_fails (Err span) [] (Refused why place) h = h
alone_fails (Err span) (outer ∷ outers) (Refused why place) h = h
