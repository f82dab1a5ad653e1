-- The words behind a command, as the crate that reads them is told: one FILE, and where the command has it an option with a number; no words for help and version.
use Rattle.std.specs.Prelude.{Bool, true, Option, Some, None, codes, List, ℕ}
use Rattle.clap.specs.Walk.{Rule, Row, first_of, is_empty}
use Rattle.clap.specs.Simple.{App, new_app, new_rule, on_top, with_rule, matches_of}
use Rattle.clap.specs.Faults.{fault_of}

abbrev pub file_rule : Rule
file_rule = record (new_rule (codes "file")) { required = true }

abbrev pub option_rule : List ℕ → Rule
option_rule name = record (new_rule name) { long = Some name }

abbrev pub without_name : App → App
without_name = on_top (λ shape. record shape { no_binary_name = true })

abbrev pub without_help : App → App
without_help = on_top (λ shape. record shape { disable_help_flag = true })

abbrev pub without_version : App → App
without_version = on_top (λ shape. record shape { disable_version_flag = true })

abbrev pub file_app : App
file_app = with_rule (without_version (without_help (without_name (new_app (codes "cppcli"))))) file_rule

abbrev pub with_option : Option (List ℕ) → App
with_option None = file_app
with_option (Some name) = with_rule file_app (option_rule name)

-- the words are read without a fault
abbrev pub are_read : App → List (List ℕ) → Bool
are_read app words = is_empty (fault_of app words)

-- the value that the words give an argument
abbrev pub value_in : App → List ℕ → List (List ℕ) → Option (List ℕ)
value_in app id words = first_of id (matches_of app words)

-- the value of the option, where there is one
abbrev pub told : Option (List ℕ) → List Row → Option (List ℕ)
told None rows = None
told (Some name) rows = first_of name rows

abbrev pub option_in : App → Option (List ℕ) → List (List ℕ) → Option (List ℕ)
option_in app option words = told option (matches_of app words)
