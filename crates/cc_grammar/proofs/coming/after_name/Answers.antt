use Rattle.std.proofs.Common.{◌≡◌, IfOk, subst, sym}
use Rattle.cc_grammar_laws.specs.Heights.{heights}
use Rattle.cc_grammar.specs.Depths.{capped, from_top}
use Rattle.cc_grammar.specs.Coming.{after_name}
use Rattle.cc_grammar.proofs.Walked.{member_so}
use Rattle.cc_grammar.proofs.coming.after_name.Goals as goal

pub returns-in-Member : goal.returns-in-Member
returns-in-Member c =
    subst (λ named. IfOk c.after_less-in-Member.result (λ least. least ≡ capped (after_name named (from_top c.args.count c.args.items.now) (heights c.args.waiting c.args.heights.now)))) (sym c.in-Member.is)
    (subst (λ n. IfOk c.after_less-in-Member.result (λ least. least ≡ n))
    (member_so (from_top c.args.count c.args.items.now) c.args.waiting c.args.heights.now _ _ _ _ c.take_tallest-in-Member.ensures.rest c.take_tallest-in-Member-2.ensures.tallest c.take_tallest-in-Member-2.ensures.rest c.raised-bare.ensures)
    c.after_less-in-Member.ensures)
