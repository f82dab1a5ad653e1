use Rattle.std.proofs.Common.{◌≡◌, ◌+◌, ◌<◌, suc, [], ◌∷◌, ◌++◌, length, sym, ap, ◌∙◌, arith, take}
use Rattle.std.proofs.lemmas.List.{length-set, take-set-le}
use Rattle.cc_machine_next.specs.Cells.{value_of}
use Rattle.std.proofs.lemmas.Option.{slice_get-get_or}
use Rattle.cc_execution.specs.Step.{zeros_of}
use Rattle.cc_machine_next.proofs.Slices.{values_more}
use Rattle.cc_machine_next.proofs.Storing.{zeros_more}
use Rattle.cc_machine_next.proofs.frames.clear.Goals as goal

pub loop-i-preserved : goal.loop-i-preserved
loop-i-preserved c =
    let xs = c.loop-i.cells.items in let inv = c.loop-i.invariant in let i = c.loop-i.i in let from = c.args.from in let types = c.args.types.now in
    let r = c.zero_of.result in
    let low : i < length types = omega arith in
    let within : from + i < length xs = omega (arith, inv.size, low) in
    let n : suc i ≡ i + 1 = omega arith in
    record {
      kept = take-set-le from xs (from + i) r (omega arith) ∙ inv.kept;
      zero = values_more xs from i r within ∙ ap (λ l. l ++ value_of r ∷ []) inv.zero ∙ ap (λ v. zeros_of (take i types) ++ v ∷ []) c.zero_of.ensures
          ∙ sym (zeros_more types i _ (slice_get-get_or types i _ low)) ∙ ap (λ k. zeros_of (take k types)) n;
      size = length-set xs (from + i) r ∙ inv.size;
    }
