-- How the steps of a command end.
use Rattle.std.specs.Prelude.{⊤, Result, Ok, Err}
use Rattle.std.specs.declared.alloc.AllocError.{AllocError}
use Rattle.cppcli.specs.declared.outcome.Outcome.{Outcome}
use Rattle.cppcli.specs.declared.outcome.Stop.{Stop}
use Rattle.cppcli.specs.declared.outcome.Stop.TheVariants.{OutOfMemory, With}
use Rattle.cppcli.specs.declared.status.Status.{Status}
use Rattle.cppcli.specs.declared.status.Status.TheVariants.{Memory}

-- the outcome has P, or memory has run out
abbrev pub IsStop : Stop → (Outcome → Type 0) → Type 0
IsStop OutOfMemory P = ⊤
IsStop (With outcome) P = P outcome

abbrev pub IsEnd : Result Outcome Stop → (Outcome → Type 0) → Type 0
IsEnd (Ok outcome) P = P outcome
IsEnd (Err stop) P = IsStop stop P

-- the status with which the steps end
abbrev pub ended_status : Result Outcome Stop → Status
ended_status (Ok outcome) = outcome.status
ended_status (Err OutOfMemory) = Memory
ended_status (Err (With outcome)) = outcome.status

-- the status of a command that was performed
abbrev pub answered_status : Result Outcome AllocError → Status
answered_status (Ok outcome) = outcome.status
answered_status (Err out) = Memory
