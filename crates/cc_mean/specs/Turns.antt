-- How the end of a part decides what comes behind it.
use Rattle.std.specs.Prelude.{Bool, true, false, Result, Ok, Err}
use Rattle.cc_core.specs.declared.state.Exit.{Exit}
use Rattle.cc_core.specs.declared.state.Exit.TheVariants.{Normal, Break, Continue, Return}
use Rattle.cc_core.specs.declared.state.Stop.{Stop}

-- the statement behind is reached
abbrev pub is_normal : Result Exit Stop → Bool
is_normal (Ok Normal) = true
is_normal (Ok Break) = false
is_normal (Ok Continue) = false
is_normal (Ok (Return v)) = false
is_normal (Err e) = false

-- the loop goes on after such an end of its body
abbrev pub goes_on : Result Exit Stop → Bool
goes_on (Ok Normal) = true
goes_on (Ok Break) = false
goes_on (Ok Continue) = true
goes_on (Ok (Return v)) = false
goes_on (Err e) = false

-- the end of a statement at which a break is aimed
abbrev pub past_break : Result Exit Stop → Result Exit Stop
past_break (Ok Normal) = Ok Normal
past_break (Ok Break) = Ok Normal
past_break (Ok Continue) = Ok Continue
past_break (Ok (Return v)) = Ok (Return v)
past_break (Err e) = Err e
