-- What a run has done and how it ends, as an answer tells it.
use Rattle.std.specs.Prelude.{Option, Some, None, min, ◌^◌, ◌-◌}
use Rattle.cc_base.specs.declared.running.Ending.{Ending}
use Rattle.cc_core.specs.SourceRun.{Meaning, Finish, ended, going, wrong}
use Rattle.cc_mean.specs.declared.run.Meant.{Meant}

-- the ending, where there is one
abbrev pub end_of : Finish → Option Ending
end_of (ended e) = Some e
end_of going = None
end_of wrong = None

-- the work is at most the greatest number of 64 bits
abbrev pub meant_of : Meaning → Meant
meant_of run = record { output = run.output; events = run.events; work = min run.work (2 ^ 64 - 1); end = end_of run.finish }
