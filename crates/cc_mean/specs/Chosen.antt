-- Which sections of a switch a value chooses, as a list of them and the state in which they are found.
use Rattle.std.specs.Prelude.{Bool, true, false, if◌then◌else◌}
use Rattle.cc_core.specs.declared.state.State.{State}
use Rattle.cc_core.specs.declared.world.Value.{Value}
use Rattle.cc_core.specs.Step.{Sections, no_sections, next_section}
use Rattle.cc_core.specs.Leave.{find_case, has_default}

-- the sections from the one on that has the label `default`
abbrev pub from_default : Sections → Sections
from_default no_sections = no_sections
from_default (next_section labels body rest) = if has_default labels then next_section labels body rest else from_default rest

-- these sections where a search has found its value, and else what is found in the state that it leaves
abbrev pub found_or : Bool × State → Sections → (State → Sections × State) → Sections × State
found_or (true, s) here more = (here, s)
found_or (false, s) here more = more s

-- the sections from the one on, of the last ones, that has the value's label; without one those of all from the label `default` on
abbrev pub chosen_from : Sections → Value → Sections → State → Sections × State
chosen_from all v no_sections s = (from_default all, s)
chosen_from all v (next_section labels body rest) s = found_or (find_case v labels s) (next_section labels body rest) (chosen_from all v rest)
