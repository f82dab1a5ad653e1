-- Where nothing is owed of the input that is put back.
use Rattle.std.proofs.Common.{List, ◌∷◌}
use Rattle.cc_tree.specs.Terminals.{Classified}
use Rattle.cc_table.specs.declared.symbols.Sort.TheVariants as o
use Rattle.cc_table.specs.declared.symbols.Input.{Input}
use Rattle.cc_table.specs.declared.symbols.Input.TheVariants as i
use Rattle.cc_table.specs.declared.symbols.Symbol.{Symbol}
use Rattle.cc_table.specs.declared.symbols.Symbol.TheVariants.{Non}
use Rattle.cc_pushdown.specs.declared.value.Value.{Value}
use Rattle.cc_grammar_laws.proofs.Means.{AtName, AtInput}

-- What is spelled from where an input was put back is spelled whatever the input.
named : (more : List Symbol) (K : List Value → List Classified → Type 0) (vs : List Value) (ts : List Classified) → K vs ts → AtName more K vs ts
named (Non o.MemberRest ∷ more) K vs ts m = λ own. m
named _ K vs ts m = tt

pub at_input : (input : Input) (more : List Symbol) (K : List Value → List Classified → Type 0) (vs : List Value) (ts : List Classified) → K vs ts → AtInput input more K vs ts
at_input i.ConstructorName more K vs ts m = named more K vs ts m
at_input _ more K vs ts m = m
