use Rattle.std.proofs.Common.{◌≡◌, ◌∙◌, ◌+◌, ◌<◌, ◌≤◌, ◌⊎◌, inl, ℕ, List, [], ◌∷◌, ◌++◌, Bool, true, length, sym, ap, refl, arith, set}
use Rattle.std.specs.Prelude.{slice_get}
use Rattle.std.proofs.lemmas.List.{length-set}
use Rattle.cc_names.specs.Reaching.{In, has_number, unused}
use Rattle.cc_names.proofs.Marking.{reached_before, free_before, marked_on, counted_on, kept_on, last_in, only_on}
use Rattle.cc_names.proofs.reaching.Reached.add_one.Goals.{then-at-len-via-then-at-len, then-at-len-via-else-at-len+then-index}
use Rattle.cc_names.proofs.reaching.Reached.add_one.Goals as goal

pub returns-then-at-len-clause-kept : goal.returns-then-at-len-clause-kept
returns-then-at-len-clause-kept c = λ at pair e. e

pub returns-then-at-len-clause-added : goal.returns-then-at-len-clause-added
returns-then-at-len-clause-added c = λ less.
    let past = c.args.self.now.is_used.ok.0 in
    elim c.then-at-len.branch [ then-at-len-via-then-at-len w ↦ absurd (omega (arith, less, w.if-at-len.true, c.len.ensures, past)) | then-at-len-via-else-at-len+then-index w ↦ reached_before c.args.self.now.order.items c.args.self.now.is_used.items c.args.number w.index.result.now less w.index.ensures w.if-index.true c.args.self.now.marks ]

pub returns-then-at-len-clause-only : goal.returns-then-at-len-clause-only
returns-then-at-len-clause-only c = λ at pair e. inl e

pub invariant_of-self : goal.invariant_of-self
invariant_of-self c = record {
  marks = λ pair e. ap (λ (l : List ℕ). has_number l pair) c.in_err-push.ensures.items ∙ c.args.self.now.marks pair e;
  total = ap (λ (l : List ℕ). length l + unused c.args.self.now.is_used.items) c.in_err-push.ensures.items ∙ c.args.self.now.total;
}

pub invariant_of-self-2 : goal.invariant_of-self-2
invariant_of-self-2 c =
    let used = c.args.self.now.is_used.items in
    let order = c.args.self.now.order.items in
    let less : c.args.number < length used = omega (arith, c.if-at-len.false, c.len.ensures, c.args.self.now.is_used.ok.0) in
    let free = free_before used c.args.number c.index.result.now less c.index.ensures c.if-index.false in
    record {
      marks = λ pair e. ap (λ (l : List ℕ). has_number l pair) c.in_ok-push.ensures.items ∙ marked_on order used c.args.number c.args.self.now.marks pair e;
      total =
          ap (λ (l : List ℕ). length l + unused (set used c.args.number true)) c.in_ok-push.ensures.items
          ∙ counted_on order used c.args.number free c.args.self.now.total
          ∙ sym (length-set used c.args.number true);
    }

pub returns-clause-length : goal.returns-clause-length
returns-clause-length c = length-set c.args.self.now.is_used.items c.args.number true

pub returns-clause-kept : goal.returns-clause-kept
returns-clause-kept c = λ at pair e. ap (λ (l : List ℕ). slice_get l at) c.in_ok-push.ensures.items ∙ kept_on c.args.self.now.order.items c.args.number at pair e

pub returns-clause-added : goal.returns-clause-added
returns-clause-added c = λ less.
    let last : In (c.args.self.now.order.items ++ c.args.number ∷ []) c.args.number = last_in c.args.self.now.order.items c.args.number in
    (last.0, ap (λ (l : List ℕ). slice_get l last.0) c.in_ok-push.ensures.items ∙ last.1)

pub returns-clause-only : goal.returns-clause-only
returns-clause-only c = λ at pair e. only_on c.args.self.now.order.items c.args.number at pair (sym (ap (λ (l : List ℕ). slice_get l at) c.in_ok-push.ensures.items) ∙ e)
