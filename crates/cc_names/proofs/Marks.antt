-- What is told of a type with marks, from what is told of the type that it marks.
use Rattle.std.proofs.Common.{◌≡◌, Bool, true, false, Option, refl, sym, ap, ◌∙◌}
use Rattle.cc_base.specs.declared.text.Span.{Span}
use Rattle.cc_tree.specs.declared.type_name.TypeName.{TypeName, fold-roll-TypeName}
use Rattle.cc_tree.specs.declared.type_name.TypeName.TheVariants as tv
use Rattle.cc_tree.specs.declared.type_name.TypeName.TheOpen as to
use Rattle.cc_names.specs.declared.refusal.Refusal.{Refusal}
use Rattle.cc_names.specs.Outermost.{Path}
use Rattle.cc_names.specs.Spaces.{Space}
use Rattle.cc_names.specs.Forming.{Judgement, told, marked, marked_judged, judge_layer, judged}

pub marked_told : (span : Span) (is_handle tracks : Bool) (judgement : Judgement) (so_far : Option Refusal) → told (marked_judged span is_handle tracks judgement) so_far ≡ marked span is_handle tracks (told judgement so_far)
marked_told span true true judgement so_far = refl
marked_told span true false judgement so_far = refl
marked_told span false true judgement so_far = refl
marked_told span false false judgement so_far = refl

pub marked_judgement : (space : Space) (path : Path) (core : TypeName) (is_handle tracks : Bool) (span : Span) → judged space path (tv.Marked core is_handle tracks span) ≡ marked_judged span is_handle tracks (judged space path core)
marked_judgement space path core is_handle tracks span =
    ap (judged space path) (sym (tv.rolls-Marked core is_handle tracks span)) ∙ fold-roll-TypeName Judgement (judge_layer space path) (to.Marked core is_handle tracks span)

pub ruleset marks = (marked_told, marked_judgement)
