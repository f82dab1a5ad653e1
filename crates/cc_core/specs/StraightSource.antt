-- A straight source as a tree: the terms that it prints, each as a line, and the term that `main` returns.
use Rattle.std.specs.Prelude.{ℕ, List, [], ◌∷◌, ◌++◌}
use Rattle.std.specs.List.{flat_map}
use Rattle.cc_core.specs.declared.straight.StraightOperator.{StraightOperator}
use Rattle.cc_core.specs.declared.straight.StraightOperation.{StraightOperation}
use Rattle.cc_core.specs.declared.straight.StraightOperation.TheVariants as operation

-- A term over int; a number is its 32 bits.
pub data Term : Type 0 where
  number : ℕ → Term
  apply : StraightOperator → Term → Term → Term

pub record Source : Type 0 where
  pub lines : List Term
  pub result : Term

-- the operations of a term: those of its left operand, those of its right operand, and its operator
abbrev pub operations_of : Term → List StraightOperation
operations_of (number n) = operation.Number n ∷ []
operations_of (apply operator left right) = operations_of left ++ operations_of right ++ operation.Apply operator ∷ []

abbrev pub line_operations : Term → List StraightOperation
line_operations term = operations_of term ++ operation.WriteLine ∷ []

abbrev pub source_operations : Source → List StraightOperation
source_operations source = flat_map line_operations source.lines ++ operations_of source.result ++ operation.Return ∷ []
