use Rattle.std.proofs.Common.{◌≡◌, ◌∙◌, sym, ap}
use Rattle.cc_tree.specs.declared.type_name.TypeName.{TypeName}
use Rattle.cc_names.specs.declared.forming.Judged.{Judged}
use Rattle.cc_names.specs.Forming.{Judgement, told, marked, judged}
use Rattle.cc_names.specs.Spaces.{space}
use Rattle.cc_names.proofs.Marks.{marked_told, marked_judgement}
use Rattle.cc_names.proofs.find_type.Here.+judging.Goals as goal

pub judged-returns-in-Marked : goal.judged-returns-in-Marked
judged-returns-in-Marked t c =
    let spaces = space c.args.self.now.space.now in
    let path = c.args.self.now.path.now in
    c.marked.ensures
    ∙ ap (λ (one : Judged). marked c.in-Marked.span c.in-Marked.is_handle c.in-Marked.tracks one) c.judged.ensures
    ∙ ap (λ (of : TypeName). marked c.in-Marked.span c.in-Marked.is_handle c.in-Marked.tracks (told (judged spaces path of) c.args.so_far)) c.get.ensures
    ∙ sym (marked_told c.in-Marked.span c.in-Marked.is_handle c.in-Marked.tracks (judged spaces path c.in-Marked.core) c.args.so_far)
    ∙ ap (λ (one : Judgement). told one c.args.so_far) (sym (marked_judgement spaces path c.in-Marked.core c.in-Marked.is_handle c.in-Marked.tracks c.in-Marked.span))
    ∙ ap (λ (of : TypeName). told (judged spaces path of) c.args.so_far) (sym c.in-Marked.is)
