use Rattle.std.proofs.Common.{Some, length, sym, ap, ◌∙◌, subst}
use Rattle.cc_convert.specs.declared.overload.Signature.{Signature}
use Rattle.cc_convert.specs.Overloads.{Beats}
use Rattle.cc_convert.proofs.Chosen.{read_is}
use Rattle.cc_convert.proofs.overload.beats_at.Goals as goal

pub beats-requires-clause-first_count : goal.beats-requires-clause-first_count
beats-requires-clause-first_count c =
    let same = read_is c.args.candidates.now c.args.one _ c.requires.first.signature c.requires.first.is c.index-candidates-one.is in
    ap (λ (s : Signature). length s.parameters) same ∙ c.requires.first.viable.same_count

pub beats-requires-clause-second_count : goal.beats-requires-clause-second_count
beats-requires-clause-second_count c =
    let same = read_is c.args.candidates.now c.args.other _ c.requires.second.signature c.requires.second.is c.index-candidates-other.is in
    ap (λ (s : Signature). length s.parameters) same ∙ c.requires.second.viable.same_count

pub returns : goal.returns
returns c =
    let one = read_is c.args.candidates.now c.args.one _ c.requires.first.signature c.requires.first.is c.index-candidates-one.is in
    let other = read_is c.args.candidates.now c.args.other _ c.requires.second.signature c.requires.second.is c.index-candidates-other.is in (
      λ t. record {
        first = c.index-candidates-one.result;
        second = c.index-candidates-other.result;
        first_is = c.requires.first.is ∙ ap (λ s. Some s) (sym one);
        second_is = c.requires.second.is ∙ ap (λ s. Some s) (sym other);
        beats = c.beats.ensures.0 t;
      },
      λ b.
          let first = read_is c.args.candidates.now c.args.one _ b.first b.first_is c.index-candidates-one.is in
          let second = read_is c.args.candidates.now c.args.other _ b.second b.second_is c.index-candidates-other.is in
          let given = c.args.given.now in
          c.beats.ensures.1 (subst (λ s. Beats c.args.classes.now given s c.index-candidates-other.result) (sym first) (subst (λ s. Beats c.args.classes.now given b.first s) (sym second) b.beats)),
    )
