-- The line that the parts of the words make.
use Rattle.std.proofs.Common.{◌≡◌, ◌∙◌, ℕ, Bool, true, false, cond, List, [], ◌∷◌, ap, ap₂, sym, arith, refl}
use Rattle.std.specs.Prelude.{Option, None, codes}
use Rattle.std.proofs.lemmas.Bool.Decides.{nat_tests}
use Rattle.clap.specs.Kinds.{Kinds}
use Rattle.clap.specs.Words.{fault_of}
use Rattle.clap.specs.Walk.{is_empty}
use Rattle.cc_words.specs.Options.{value_in, option_in}
use Rattle.cc_words.specs.Words.{CommandLine, app_for, option_named, file_given, bound_given, joined, is_stray, line_between, line_divided, words_before, words_behind}
use Rattle.cc_words.specs.declared.command.Command.{Command}

some_fault : (kinds : Kinds) → (kinds ≡ [] → ⊥) → is_empty kinds ≡ false
some_fault [] other = absurd (other refl)
some_fault (k ∷ kinds) other = grind (arith, nat_tests)

module _ (command : Command) (words arguments : List (List ℕ)) where
  abbrev between : Bool → Option CommandLine
  between t = cond t (joined command arguments (file_given (value_in (app_for command) (codes "file") words)) (bound_given command (option_in (app_for command) (option_named command) words))) None

  pub read_line : (line : Option CommandLine) (file : Option (List ℕ)) (bound : Option ℕ) → fault_of (app_for command) words ≡ [] → file ≡ file_given (value_in (app_for command) (codes "file") words)
      → bound ≡ bound_given command (option_in (app_for command) (option_named command) words) → line ≡ joined command arguments file bound → line ≡ line_between command words arguments
  read_line line file bound none file_is bound_is is =
      is ∙ ap₂ (λ f b. joined command arguments f b) file_is bound_is ∙ sym (ap between (ap is_empty none))

  pub no_line : (fault_of (app_for command) words ≡ [] → ⊥) → None ≡ line_between command words arguments
  no_line other = sym (ap between (some_fault (fault_of (app_for command) words) other))

-- behind a command, from where `--` stands
abbrev divided : Command → Option ℕ → List (List ℕ) → Bool → Option CommandLine
divided command divider words t = cond t None (line_between command (words_before divider words) (words_behind divider words))

pub refused_line : (command : Command) (divider : Option ℕ) (words : List (List ℕ)) → is_stray command divider ≡ true → None ≡ line_divided command divider words
refused_line command divider words test = sym (ap (divided command divider words) test)

pub divided_line : (command : Command) (divider : Option ℕ) (words : List (List ℕ)) → is_stray command divider ≡ false
    → line_between command (words_before divider words) (words_behind divider words) ≡ line_divided command divider words
divided_line command divider words test = sym (ap (divided command divider words) test)
