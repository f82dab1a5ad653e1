use Rattle.std.proofs.Common.{arith}
use Rattle.cc_layout.proofs.Numbers.{AreBytes-each}
use Rattle.cc_cil.proofs.Recovered.{read_found, read_spelled, read_told, memory_alone, both_ok, no_fault_found}
use Rattle.cc_cil.proofs.read.read_body.Goals as goal

pub returns-then-peek_number-eq2-clause-found : goal.returns-then-peek_number-eq2-clause-found
returns-then-peek_number-eq2-clause-found c =
    both_ok _ _ _ c.read_tiny.result (λ r value fine. read_found c.args.at c.min-at.result c.args.bytes.now c.split_at.result.1.now c.min-at.ensures c.split_at.ensures.back (AreBytes-each c.args.bytes.now (λ i. omega (arith, c.type_inv.bytes i))) c.requires r value fine)
    c.read_tiny.ensures.values c.read_tiny.ensures.found

pub returns-then-peek_number-eq2-clause-spelled : goal.returns-then-peek_number-eq2-clause-spelled
returns-then-peek_number-eq2-clause-spelled c b rest h g e = (
  both_ok _ _ _ c.read_tiny.result (λ r value fine. read_spelled c.args.at c.min-at.result c.args.bytes.now c.split_at.result.1.now c.min-at.ensures c.split_at.ensures.back (AreBytes-each c.args.bytes.now (λ i. omega (arith, c.type_inv.bytes i))) c.requires b rest h g e r value fine)
      c.read_tiny.ensures.values c.read_tiny.ensures.found,
  memory_alone c.read_tiny.result (λ f is other.
      let fault = c.read_tiny.ensures.fault f is other in
      let none = read_told c.args.at c.min-at.result c.args.bytes.now c.split_at.result.1.now c.min-at.ensures c.split_at.ensures.back (AreBytes-each c.args.bytes.now (λ i. omega (arith, c.type_inv.bytes i))) c.requires b rest h g e in
      no_fault_found _ f none fault),
)

pub returns-else-peek_number-eq2-clause-found : goal.returns-else-peek_number-eq2-clause-found
returns-else-peek_number-eq2-clause-found c =
    both_ok _ _ _ c.read_fat.result (λ r value fine. read_found c.args.at c.min-at.result c.args.bytes.now c.split_at.result.1.now c.min-at.ensures c.split_at.ensures.back (AreBytes-each c.args.bytes.now (λ i. omega (arith, c.type_inv.bytes i))) c.requires r value fine)
    c.read_fat.ensures.values c.read_fat.ensures.found

pub returns-else-peek_number-eq2-clause-spelled : goal.returns-else-peek_number-eq2-clause-spelled
returns-else-peek_number-eq2-clause-spelled c b rest h g e = (
  both_ok _ _ _ c.read_fat.result (λ r value fine. read_spelled c.args.at c.min-at.result c.args.bytes.now c.split_at.result.1.now c.min-at.ensures c.split_at.ensures.back (AreBytes-each c.args.bytes.now (λ i. omega (arith, c.type_inv.bytes i))) c.requires b rest h g e r value fine)
      c.read_fat.ensures.values c.read_fat.ensures.found,
  memory_alone c.read_fat.result (λ f is other.
      let fault = c.read_fat.ensures.fault f is other in
      let none = read_told c.args.at c.min-at.result c.args.bytes.now c.split_at.result.1.now c.min-at.ensures c.split_at.ensures.back (AreBytes-each c.args.bytes.now (λ i. omega (arith, c.type_inv.bytes i))) c.requires b rest h g e in
      no_fault_found _ f none fault),
)
