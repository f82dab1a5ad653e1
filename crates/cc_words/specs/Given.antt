-- What was read of the words behind a command.
use Rattle.std.specs.Prelude.{◌≡◌, ◌≢◌, ℕ, List, [], Option, Some, None, option_map, codes}
use Rattle.clap.specs.Simple.{App}
use Rattle.clap.specs.Faults.{fault_of}
use Rattle.cc_words.specs.Options.{value_in, option_in, with_option}
use Rattle.cc_words.specs.declared.options.Given.{Given}

-- the words are read without a fault, and these are their values; or they are not
abbrev pub Gives : App → Option (List ℕ) → List (List ℕ) → Option Given → Type 0
Gives app option words None = fault_of app words ≢ []
Gives app option words (Some given) =
    (fault_of app words ≡ [])
    × (option_map (λ word. word.now) given.file ≡ value_in app (codes "file") words)
    × (option_map (λ word. word.now) given.number ≡ option_in app option words)

-- by the option that is wanted
abbrev pub IsGiven : Option (List ℕ) → List (List ℕ) → Option Given → Type 0
IsGiven option words given = Gives (with_option option) option words given
