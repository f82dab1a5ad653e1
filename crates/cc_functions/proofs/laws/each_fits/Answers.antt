use Rattle.cc_functions.proofs.Files.{fits_file}
use Rattle.cc_functions.proofs.laws.each_fits.Goals as goal

pub returns : goal.returns
returns c functions main fits = fits_file functions main fits
