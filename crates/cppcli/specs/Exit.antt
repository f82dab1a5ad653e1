-- The number with which the program ends.
use Rattle.std.specs.Prelude.{ℕ, ◌%◌}
use Rattle.std.specs.Int.{cast_unsigned, w32}
use Rattle.cppcli.specs.declared.status.Status.{Status}
use Rattle.cppcli.specs.declared.status.Status.TheVariants.{Done, Ended, Usage, Absent, ReadFault, WriteFault, TooLong, Refused, NotImage, Unverified, Aborted, HeapLimit, DepthLimit, StepLimit, Going, Memory}

-- of a program's own result the low 8 bits
abbrev pub exit_of : Status → ℕ
exit_of Done = 0
exit_of (Ended n) = cast_unsigned w32 n % 256
exit_of Usage = 240
exit_of Absent = 241
exit_of ReadFault = 242
exit_of WriteFault = 243
exit_of TooLong = 244
exit_of (Refused kind span) = 245
exit_of (NotImage fault) = 246
exit_of (Unverified fault) = 247
exit_of (Aborted type message) = 248
exit_of HeapLimit = 249
exit_of DepthLimit = 250
exit_of StepLimit = 251
exit_of Memory = 252
exit_of Going = 253
