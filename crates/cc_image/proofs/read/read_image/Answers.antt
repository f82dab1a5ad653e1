use Rattle.std.proofs.Common.{rules, ◌≡◌, ◌∙◌, Err, Some, None, sym, ap, arith}
use Rattle.std.proofs.lemmas.Result.{err_from_is_err_and}
use Rattle.cc_layout.proofs.Numbers.{AreBytes-each}
use Rattle.cc_module.specs.declared.module.Module.{Module}
use Rattle.cc_image.specs.declared.fault.ImageFault.TheVariants.{Memory}
use Rattle.cc_image.proofs.Outcomes.{memory_alone, none_some, roomy, few_rows, bare, told_headers, bare_tables, told_contents, told_module, found_image, first_of_tables}
use Rattle.cc_image.proofs.read.read_image.Goals as goal

pub returns-in_err-sizes-clause-read : goal.returns-in_err-sizes-clause-read
returns-in_err-sizes-clause-read c m h g image =
    let bytes = c.args.bytes.now in
    let each = AreBytes-each bytes (λ i. omega (arith, c.type_inv.bytes i)) in
    let is = err_from_is_err_and c.from_residual.result c.from_residual.ensures.1 in
    memory_alone (λ (r : Module). r ≡ m) c.from_residual.result is.0 is.1 (λ f e n.
    let same : c.in_err-sizes.field-0.0 ≡ f = search rules in
    none_some _ f (told_headers m bytes each h g image) (c.in_err-sizes.ensures.fault f (ap Err same) n))

pub read_tables-requires : goal.read_tables-requires
read_tables-requires c =
    let bytes = c.args.bytes.now in
    let each = AreBytes-each bytes (λ i. omega (arith, c.type_inv.bytes i)) in
    (roomy c.in_ok-sizes.sizes bytes each c.in_ok-sizes.ensures.sizes c.in_ok-sizes.ensures.found).room

pub returns-in_err-module-clause-read : goal.returns-in_err-module-clause-read
returns-in_err-module-clause-read c m h g image =
    let bytes = c.args.bytes.now in
    let each = AreBytes-each bytes (λ i. omega (arith, c.type_inv.bytes i)) in
    let is = err_from_is_err_and c.from_residual-in_err-module.result c.from_residual-in_err-module.ensures.1 in
    let answer = c.in_err-module.ensures.read (bare m) (bare_tables m bytes each h g image c.in_ok-sizes.sizes c.in_ok-sizes.ensures.sizes) in
    let memory : c.in_err-module.field-0.0 ≡ Memory = answer.1 in
    memory_alone (λ (r : Module). r ≡ m) c.from_residual-in_err-module.result is.0 is.1 (λ f e n.
    let same : c.in_err-module.field-0.0 ≡ f = search rules in
    n (sym same ∙ memory))

pub returns-in_err-module-clause-fault : goal.returns-in_err-module-clause-fault
returns-in_err-module-clause-fault c f e n =
    let same : c.in_err-module.field-0.0 ≡ f = search rules in
    first_of_tables c.args.bytes.now c.in_ok-sizes.sizes f c.in_ok-sizes.ensures.sizes c.in_ok-sizes.ensures.found (c.in_err-module.ensures.fault f (ap Err same) n)

pub read_contents-requires-clause-rows : goal.read_contents-requires-clause-rows
read_contents-requires-clause-rows c =
    let bytes = c.args.bytes.now in
    let each = AreBytes-each bytes (λ i. omega (arith, c.type_inv.bytes i)) in
    let room = (roomy c.in_ok-sizes.sizes bytes each c.in_ok-sizes.ensures.sizes c.in_ok-sizes.ensures.found).room in
    rw c.as_slice-2.ensures (few_rows c.in_ok-sizes.sizes bytes c.in_ok-module.module room c.in_ok-module.ensures.found)

pub read_contents-requires-clause-least : goal.read_contents-requires-clause-least
read_contents-requires-clause-least c =
    let bytes = c.args.bytes.now in
    let each = AreBytes-each bytes (λ i. omega (arith, c.type_inv.bytes i)) in
    (roomy c.in_ok-sizes.sizes bytes each c.in_ok-sizes.ensures.sizes c.in_ok-sizes.ensures.found).least

pub read_contents-requires-clause-room : goal.read_contents-requires-clause-room
read_contents-requires-clause-room c =
    let bytes = c.args.bytes.now in
    let each = AreBytes-each bytes (λ i. omega (arith, c.type_inv.bytes i)) in
    (roomy c.in_ok-sizes.sizes bytes each c.in_ok-sizes.ensures.sizes c.in_ok-sizes.ensures.found).room

pub read_contents-requires-clause-whole : goal.read_contents-requires-clause-whole
read_contents-requires-clause-whole c =
    let bytes = c.args.bytes.now in
    let each = AreBytes-each bytes (λ i. omega (arith, c.type_inv.bytes i)) in
    (roomy c.in_ok-sizes.sizes bytes each c.in_ok-sizes.ensures.sizes c.in_ok-sizes.ensures.found).whole

pub read_contents-requires-clause-used : goal.read_contents-requires-clause-used
read_contents-requires-clause-used c =
    let bytes = c.args.bytes.now in
    let each = AreBytes-each bytes (λ i. omega (arith, c.type_inv.bytes i)) in
    (roomy c.in_ok-sizes.sizes bytes each c.in_ok-sizes.ensures.sizes c.in_ok-sizes.ensures.found).used

pub returns-in_err-module-2-clause-read : goal.returns-in_err-module-2-clause-read
returns-in_err-module-2-clause-read c m h g image =
    let bytes = c.args.bytes.now in
    let each = AreBytes-each bytes (λ i. omega (arith, c.type_inv.bytes i)) in
    let s = c.in_ok-sizes.sizes in
    let is = err_from_is_err_and c.from_residual-in_err-module-2.result c.from_residual-in_err-module-2.ensures.1 in
    let tables = c.in_ok-module.ensures.read (bare m) (bare_tables m bytes each h g image s c.in_ok-sizes.ensures.sizes) in
    let none = told_contents m bytes each h g image s c.in_ok-module.module c.in_ok-sizes.ensures.sizes tables.0 in
    memory_alone (λ (r : Module). r ≡ m) c.from_residual-in_err-module-2.result is.0 is.1 (λ f e n.
    let same : c.in_err-module-2.field-0.0 ≡ f = search rules in
    none_some _ f none (rw c.as_slice-2.ensures at (c.in_err-module-2.ensures.fault f (ap Err same) n)))

pub returns-clause-found : goal.returns-clause-found
returns-clause-found c =
    let bytes = c.args.bytes.now in
    let each = AreBytes-each bytes (λ i. omega (arith, c.type_inv.bytes i)) in
    found_image bytes c.in_ok-sizes.sizes c.in_ok-module.module c.in_ok-module-2.field-0 each c.in_ok-sizes.ensures.sizes c.in_ok-sizes.ensures.found c.in_ok-module.ensures.found
    (rw c.as_slice-2.ensures at c.in_ok-module-2.ensures.values) (rw c.as_slice-2.ensures at c.in_ok-module-2.ensures.found)

pub returns-clause-read : goal.returns-clause-read
returns-clause-read c m h g image =
    let bytes = c.args.bytes.now in
    let each = AreBytes-each bytes (λ i. omega (arith, c.type_inv.bytes i)) in
    let s = c.in_ok-sizes.sizes in
    let tables = c.in_ok-module.ensures.read (bare m) (bare_tables m bytes each h g image s c.in_ok-sizes.ensures.sizes) in
    (told_module m bytes each h g image s c.in_ok-module.module c.in_ok-module-2.field-0 c.in_ok-sizes.ensures.sizes tables.0 (rw c.as_slice-2.ensures at c.in_ok-module-2.ensures.values), tt)
