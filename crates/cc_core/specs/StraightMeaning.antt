-- What a straight source means: the value of a term, and the run of a whole program under its limits.
use Rattle.std.specs.Prelude.{ℕ, ◌+◌, ◌-◌, ◌*◌, ◌%◌, ◌^◌, List, [], ◌∷◌, ◌++◌, nat_lt, if◌then◌else◌}
use Rattle.std.specs.List.{flat_map}
use Rattle.std.specs.Fmt.{signed_decimal}
use Rattle.std.specs.Int.{w32, cast_signed}
use Rattle.cc_base.specs.Cells.{arguments_pass}
use Rattle.cc_base.specs.declared.running.Limits.{Limits}
use Rattle.cc_base.specs.declared.running.Ending.{Ending}
use Rattle.cc_base.specs.declared.running.Ending.TheVariants.{Returned, HeapLimit, DepthLimit}
use Rattle.cc_core.specs.declared.straight.StraightOperator.{StraightOperator}
use Rattle.cc_core.specs.declared.straight.StraightOperator.TheVariants.{Add, Subtract, Multiply}
use Rattle.cc_core.specs.StraightSource.{Term, number, apply, Source}

-- the result of an operator on two int, which are 32 bits in two's complement: it wraps
abbrev pub applied : StraightOperator → ℕ → ℕ → ℕ
applied Add left right = (left + right) % 2 ^ 32
applied Subtract left right = (left + (2 ^ 32 - right)) % 2 ^ 32
applied Multiply left right = left * right % 2 ^ 32

-- the value of a term, the left operand first
abbrev pub value_of : Term → ℕ
value_of (number n) = n
value_of (apply operator left right) = applied operator (value_of left) (value_of right)

-- an int in decimal and a line feed
abbrev pub line_of : ℕ → List ℕ
line_of value = signed_decimal (cast_signed w32 value) ++ 10 ∷ []

-- A run that has ended: the bytes that it printed and how it ended.
pub record Ran : Type 0 where
  pub output : List ℕ
  pub ending : Ending

-- Where a run ends before `main` begins: the arguments are made first, then the entry and `main` take a frame each.
abbrev pub begins_under : Limits → List (List ℕ) → Ran → Ran
begins_under limits arguments ran =
    if arguments_pass limits.cells arguments then record { output = []; ending = HeapLimit }
    else if nat_lt limits.frames 2 then record { output = []; ending = DepthLimit }
    else ran

-- the run of a whole program: each line in order, and then the value of `main`
abbrev pub run_of : Source → List (List ℕ) → Limits → Ran
run_of source arguments limits =
    begins_under limits arguments (record {
      output = flat_map (λ term. line_of (value_of term)) source.lines;
      ending = Returned (cast_signed w32 (value_of source.result));
    })
