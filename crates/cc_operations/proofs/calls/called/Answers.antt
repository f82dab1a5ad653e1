use Rattle.std.proofs.Common.{◌≡◌, ℕ, ap, ◌∙◌, List, map, slice_get}
use Rattle.std.specs.Prelude.{Option}
use Rattle.std.proofs.lemmas.Result.{IfOk-weaker}
use Rattle.cc_operations.specs.declared.judged.Given.{Given}
use Rattle.cc_operations.specs.declared.source.Known.{Known}
use Rattle.cc_operations.specs.Judgements.{judged_by, meaning_of, values_of}
use Rattle.cc_operations.specs.Choosing.{taken, given_types, signatures_of}
use Rattle.cc_operations.specs.Operations.{call_at, parameters_at, types_of}
use Rattle.cc_operations.proofs.Picking.{took}
use Rattle.cc_operations.proofs.calls.called.Goals as goal

pub returns-in-Ok : goal.returns-in-Ok
returns-in-Ok c =
    let functions = c.args.source.now.functions in
    let places = c.args.candidates.now in
    let values = values_of c.args.values in
    let parameters = map (parameters_at functions) places in
    let types = types_of values in
    let offered : c.as_slice-2.result.now ≡ signatures_of parameters =
    c.as_slice-2.ensures ∙ c.in_ok-signatures.ensures ∙ ap (λ (l : List Known). signatures_of (map (parameters_at l) places)) c.as_slice-functions.ensures in
    let given : c.as_slice-3.result.now ≡ given_types types =
    c.as_slice-3.ensures ∙ c.in_ok-given.ensures ∙ ap (λ (l : List Given). given_types (types_of (values_of l))) c.as_slice.ensures in
    IfOk-weaker c.call_at.result (λ judged. judged_by meaning_of judged ≡ call_at c.args.span c.as_slice-functions.result.now values c.copied-at.result) _
    (λ judged e choice chooses. took (taken (choice parameters types) c.args.span) c.in-Ok.best (judged_by meaning_of judged) (λ (best : ℕ). call_at c.args.span functions values (slice_get places best))
    (c.in-Ok.ensures choice chooses parameters types offered given)
    (e ∙ ap (λ (l : List Known). call_at c.args.span l values c.copied-at.result) c.as_slice-functions.ensures
    ∙ ap (λ (o : Option ℕ). call_at c.args.span functions values o) (c.copied-at.ensures ∙ c.at.ensures))) c.call_at.ensures
