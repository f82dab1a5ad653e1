use Rattle.std.proofs.Common.{refl}
use Rattle.cc_module.proofs.Elements.{at_front, instance_empty, instance_kind, instance_token, instance_count}
use Rattle.cc_module.proofs.read.split_instance.Goals as goal

pub returns-in_default-clause-err : goal.returns-in_default-clause-err
returns-in_default-clause-err c = instance_empty _ c.in_default.len_below

pub returns-then-kind-ne18-clause-err : goal.returns-then-kind-ne18-clause-err
returns-then-kind-ne18-clause-err c = instance_kind _ _ _ (at_front c.args.bytes.now _ c.in-len1-up.len_at_least refl) c.if-kind-ne17.true c.if-kind-ne18.true

pub returns-in-Err-clause-err : goal.returns-in-Err-clause-err
returns-in-Err-clause-err c = instance_token _ _ _ _ (at_front c.args.bytes.now _ c.in-len1-up.len_at_least refl) c.else-kind-ne17.either c.in-Err.ensures.err

pub returns-in-Err-split_compressed-clause-err : goal.returns-in-Err-split_compressed-clause-err
returns-in-Err-split_compressed-clause-err c =
    instance_count _ _ _ _ c.in-Ok.split.0 _ _ (at_front c.args.bytes.now _ c.in-len1-up.len_at_least refl) c.else-kind-ne17.either c.in-Ok.ensures.fits c.in-Ok.ensures.ok refl c.in-Err-split_compressed.ensures.err
