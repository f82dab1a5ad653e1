use Rattle.cc_image.proofs.Sections.{written_image}
use Rattle.cc_image.proofs.laws.written_images.Goals as goal

pub returns : goal.returns
returns c m h r = written_image m h r.entry
