-- What the machine's cells stand for.
use Rattle.cc_core.specs.declared.world.Value.{Value}
use Rattle.cc_core.specs.declared.world.Value.TheVariants as value
use Rattle.cc_core.specs.declared.state.Computed.{Computed}
use Rattle.cc_core.specs.declared.state.Computed.TheVariants as computing
use Rattle.cc_machine_next.specs.declared.cell.Cell.{Cell}
use Rattle.cc_machine_next.specs.declared.cell.Cell.TheVariants.{Int32, Int64, Null, Object}
use Rattle.cc_machine_next.specs.declared.numbers.Computation.{Computation}
use Rattle.cc_machine_next.specs.declared.numbers.Computation.TheVariants.{Gives, Throws}

abbrev pub value_of : Cell → Value
value_of (Int32 n) = value.Int32 n
value_of (Int64 n) = value.Int64 n
value_of Null = value.Null
value_of (Object e) = value.Object e

abbrev pub computed_of : Computation → Computed
computed_of (Gives c) = computing.Gives (value_of c)
computed_of (Throws class) = computing.Throws class
