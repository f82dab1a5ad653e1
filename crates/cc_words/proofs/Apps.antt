-- The commands that read the words are simple, and no rule of theirs is on another.
use Rattle.std.proofs.Common.{◌≡◌, true, refl}
use Rattle.clap.specs.Words.{is_simple, is_simple_and_free}
use Rattle.cc_words.specs.Options.{with_option}
use Rattle.cc_words.specs.Words.{option_named}
use Rattle.cc_words.specs.declared.command.Command.{Command}
use Rattle.cc_words.specs.declared.command.Command.TheVariants.{Run, Check, Build, Dump, Verify, Mean}

pub app_is_simple : (command : Command) → is_simple (with_option (option_named command)) ≡ true
app_is_simple Run = refl
app_is_simple Check = refl
app_is_simple Build = refl
app_is_simple Dump = refl
app_is_simple Verify = refl
app_is_simple Mean = refl

pub app_is_free : (command : Command) → is_simple_and_free (with_option (option_named command)) ≡ true
app_is_free Run = refl
app_is_free Check = refl
app_is_free Build = refl
app_is_free Dump = refl
app_is_free Verify = refl
app_is_free Mean = refl
