use Rattle.std.proofs.Common.{refl}
use Rattle.cppcli.proofs.StepLemmas.{image_stopped}
use Rattle.cppcli.proofs.steps.read_module.Goals as goal

pub returns-in-Ok : goal.returns-in-Ok
returns-in-Ok c = record {
  storable = c.in-Ok.ensures.found.0;
  is_image = c.in-Ok.ensures.found.1;
  only = λ other storable range is. (c.in-Ok.ensures.read other storable range is).0;
}

pub returns-in-Err : goal.returns-in-Err
returns-in-Err c =
    image_stopped c.args.bytes.now c.args.file.now c.in-Err.fault c.image_stop.result (λ other. c.in-Err.ensures.fault c.in-Err.fault refl other) (λ m storable range is. (c.in-Err.ensures.read m storable range is).1) c.image_stop.ensures
