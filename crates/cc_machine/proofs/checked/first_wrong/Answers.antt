use Rattle.std.proofs.Common.{rules, ◌≡◌, ◌+◌, ℕ, List, subst, sym, ap, ◌∙◌, length, arith}
use Rattle.std.specs.Prelude.{Some, None}
use Rattle.cc_cil.specs.Instructions.{spelling}
use Rattle.cc_cil.specs.Steps.{Stands, Checks, height_at, action_of, unread, wrong}
use Rattle.cc_machine.proofs.OneWay.{stands_within, spelling_some, end_none, last_here, on_from_here}
use Rattle.cc_machine.proofs.checked.first_wrong.Goals as goal

pub returns-in_default : goal.returns-in_default
returns-in_default c =
    let l = c.loop-at.invariant in
    l.leads _ (unread (λ i s. c.in_default.not-Ok _ (c.decode_one.ensures.spelled i s.0 s.2 (rw l.code s.1))))

pub returns-in_default-height_at : goal.returns-in_default-height_at
returns-in_default-height_at c =
    let l = c.loop-at.invariant in
    let stands = subst (λ code. Stands code c.loop-at.at c.in-Ok.instruction) l.code (c.in-Ok.ensures.found.0, c.in-Ok.ensures.found.1, c.in-Ok.ensures.in_range) in
    l.leads _ (wrong c.in-Ok.instruction stands (rw (← l.most, ← c.of-action.ensures, ← c.height_at.ensures) c.in_default-height_at.is))

pub returns-then-is_last : goal.returns-then-is_last
returns-then-is_last c =
    let l = c.loop-at.invariant in
    let stands = subst (λ code. Stands code c.loop-at.at c.in-Ok.instruction) l.code (c.in-Ok.ensures.found.0, c.in-Ok.ensures.found.1, c.in-Ok.ensures.in_range) in
    let fits : Some c.in-Some.behind ≡ height_at c.args.body.now.max_stack c.of-action.result c.loop-at.height = sym c.in-Some.is ∙ c.height_at.ensures ∙ ap (λ most. height_at most c.of-action.result c.loop-at.height) l.most in
    l.leads _ (last_here c.args.body.now.code c.args.body.now.max_stack c.loop-at.at c.loop-at.height c.in-Ok.next c.in-Ok.instruction c.of-action.result (length c.as_slice-code.result.now) c.in-Some.behind c.is_last.result
    stands c.of-action.ensures c.in-Ok.ensures.found.2 fits (ap length l.code) c.is_last.ensures c.if-is_last.true)

pub loop-at-preserved : goal.loop-at-preserved
loop-at-preserved c =
    let l = c.loop-at.invariant in
    let stands = subst (λ code. Stands code c.loop-at.at c.in-Ok.instruction) l.code (c.in-Ok.ensures.found.0, c.in-Ok.ensures.found.1, c.in-Ok.ensures.in_range) in
    let fits : Some c.in-Some.behind ≡ height_at c.args.body.now.max_stack c.of-action.result c.loop-at.height = sym c.in-Some.is ∙ c.height_at.ensures ∙ ap (λ most. height_at most c.of-action.result c.loop-at.height) l.most in
    record {
      within = rw (c.in-Ok.ensures.found.2, l.code) (stands_within c.args.body.now.code c.loop-at.at c.in-Ok.instruction stands (rw (← l.code) l.within));
      code = l.code;
      most = l.most;
      leads = λ answer more. l.leads answer (on_from_here c.args.body.now.code c.args.body.now.max_stack c.loop-at.at c.loop-at.height c.in-Ok.next c.in-Ok.instruction c.of-action.result (length c.as_slice-code.result.now) c.in-Some.behind c.is_last.result
          stands c.of-action.ensures c.in-Ok.ensures.found.2 fits (ap length l.code) c.is_last.ensures c.if-is_last.false answer more);
    }

pub returns : goal.returns
returns c =
    let l = c.loop-at.invariant in
    l.leads _ (unread (end_none c.args.body.now.code c.loop-at.at (rw (← l.code) c.loop-at-test.false)))
