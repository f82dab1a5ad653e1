use Rattle.cc_emit.proofs.Sizes.{image_within}
use Rattle.cc_emit.proofs.Storable.{storable}
use Rattle.cc_emit.proofs.laws.each_fits.Goals as goal

pub returns : goal.returns
returns c code within = (storable code within, image_within code within)
