-- What the words of the command line ask for.
--   command_line words    the command, its file, its bound and its arguments; none where the words are no command
--   first_command words   the command that the first word names
use Rattle.std.specs.Prelude.{ℕ, ◌^◌, ◌&&◌, ◌+◌, not, Bool, List, [], ◌∷◌, Option, Some, None, is_some, take, drop, length, position, nat_lt, codes, if◌then◌else◌}
use Rattle.std.specs.Char.{is_ascii_digit}
use Rattle.std.specs.List.{list_all}
use Rattle.std.specs.Str.{bytes_eq}
use Rattle.std.specs.Str.Parse.{starts_with_minus, digits_value}
use Rattle.clap.specs.Simple.{App}
use Rattle.cc_words.specs.Options.{with_option, are_read, value_in, option_in}
use Rattle.cc_words.specs.declared.command.Command.{Command}
use Rattle.cc_words.specs.declared.command.Command.TheVariants.{Run, Check, Build, Dump, Verify, Mean}

-- A command, the name of its file, the instructions that a program may execute or the turns that each run of a loop may make, and the arguments of the program.
pub record CommandLine : Type 0 where
  pub command : Command
  pub file : List ℕ
  pub bound : ℕ
  pub arguments : List (List ℕ)

-- the instructions that a program may execute where the words don't say
abbrev pub default_steps : ℕ
default_steps = 50000000

abbrev pub command_named : List ℕ → Option Command
command_named word =
    if bytes_eq word (codes "run") then Some Run
    else if bytes_eq word (codes "check") then Some Check
    else if bytes_eq word (codes "build") then Some Build
    else if bytes_eq word (codes "dump") then Some Dump
    else if bytes_eq word (codes "verify") then Some Verify
    else if bytes_eq word (codes "mean") then Some Mean
    else None

abbrev pub first_command : List (List ℕ) → Option Command
first_command [] = None
first_command (word ∷ words) = command_named word

-- the option with a number that a command has
abbrev pub option_named : Command → Option (List ℕ)
option_named Run = Some (codes "steps")
option_named Check = None
option_named Build = None
option_named Dump = None
option_named Verify = None
option_named Mean = Some (codes "turns")

-- a command that executes has such an option, and arguments
abbrev pub executes : Command → Bool
executes command = is_some (option_named command)

-- ---- `--`: the words behind the first one are the arguments of what is executed

abbrev pub is_divider : List ℕ → Bool
is_divider word = bytes_eq word (codes "--")

abbrev pub divider_in : List (List ℕ) → Option ℕ
divider_in words = position is_divider words

abbrev pub words_before : Option ℕ → List (List ℕ) → List (List ℕ)
words_before None words = words
words_before (Some at) words = take at words

abbrev pub words_behind : Option ℕ → List (List ℕ) → List (List ℕ)
words_behind None words = []
words_behind (Some at) words = drop (at + 1) words

-- ---- FILE and N

-- a name doesn't begin with '-'
abbrev pub file_named : List ℕ → Option (List ℕ)
file_named word = if starts_with_minus word then None else Some word

abbrev pub file_given : Option (List ℕ) → Option (List ℕ)
file_given None = None
file_given (Some word) = file_named word

-- one to ten digits
abbrev pub is_count : List ℕ → Bool
is_count word = nat_lt 0 (length word) && nat_lt (length word) 11 && list_all is_ascii_digit word

-- the number that they write, where 32 bits hold it
abbrev pub count_of : List ℕ → Option ℕ
count_of word = if is_count word && nat_lt (digits_value 10 word) (2 ^ 32) then Some (digits_value 10 word) else None

-- where the words don't say: the turns must be told
abbrev pub bound_untold : Command → Option ℕ
bound_untold Run = Some default_steps
bound_untold Check = Some default_steps
bound_untold Build = Some default_steps
bound_untold Dump = Some default_steps
bound_untold Verify = Some default_steps
bound_untold Mean = None

abbrev pub bound_given : Command → Option (List ℕ) → Option ℕ
bound_given command None = bound_untold command
bound_given command (Some word) = count_of word

-- ---- the words behind the command

abbrev pub app_for : Command → App
app_for command = with_option (option_named command)

abbrev pub joined : Command → List (List ℕ) → Option (List ℕ) → Option ℕ → Option CommandLine
joined command arguments None bound = None
joined command arguments (Some file) None = None
joined command arguments (Some file) (Some bound) = Some (record { command = command; file = file; bound = bound; arguments = arguments })

-- the words between the command and `--`
abbrev pub line_between : Command → List (List ℕ) → List (List ℕ) → Option CommandLine
line_between command words arguments =
    if are_read (app_for command) words
    then joined command arguments (file_given (value_in (app_for command) (codes "file") words)) (bound_given command (option_in (app_for command) (option_named command) words))
    else None

-- no program has the arguments
abbrev pub is_stray : Command → Option ℕ → Bool
is_stray command divider = is_some divider && not (executes command)

abbrev pub line_divided : Command → Option ℕ → List (List ℕ) → Option CommandLine
line_divided command divider words =
    if is_stray command divider then None
    else line_between command (words_before divider words) (words_behind divider words)

abbrev pub line_behind : Option Command → List (List ℕ) → Option CommandLine
line_behind None words = None
line_behind (Some command) words = line_divided command (divider_in words) words

abbrev pub command_line : List (List ℕ) → Option CommandLine
command_line [] = None
command_line (word ∷ words) = line_behind (command_named word) words
