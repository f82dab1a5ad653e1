use Rattle.cc_typing_laws.proofs.SoundClasses as sound
use Rattle.cc_typing_laws.proofs.laws.classes_are_sound.Goals as goal

pub returns : goal.returns
returns c = sound.classes_are_sound
