use Rattle.std.proofs.Common.{◌∙◌, sym}
use Rattle.cc_module.proofs.Heads.{one_signature}
use Rattle.cc_module.proofs.Blobs.{ok_weaker, memory_alone}
use Rattle.cc_module.proofs.read.read_signature.Goals as goal

pub returns-clause-spelled : goal.returns-clause-spelled
returns-clause-spelled c s h e = (
  ok_weaker _ _ c.signature_of.result (λ r p. one_signature r s p.0 h (sym p.1 ∙ e)) c.signature_of.ensures.ok,
  memory_alone c.signature_of.result (λ n is. (c.signature_of.ensures.err n is).none (s, h, e)),
)
