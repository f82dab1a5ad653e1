use Rattle.cc_library.proofs.Decoding.{decodes_to_text, text_is}
use Rattle.cc_library.proofs.laws.one_decoding.Goals as goal

pub returns : goal.returns
returns c = λ bytes text. (decodes_to_text bytes text, text_is bytes text)
