-- Which statements end by their form, so that nothing directly behind them is reached (ECMA-372, 16; ISO/IEC 14882:2003, 6.6.3): `return`, `throw`, a block one of whose statements ends, an `if` with
-- `else` where both end, `while (true)`, `do` with `while (true)` and `for` without condition at which no `break` is aimed, a switch with `default` whose last section ends and at which no `break` is aimed,
-- and a `try` whose block and all catches end or whose `finally` ends.
use Rattle.std.specs.Prelude.{List, [], ◌∷◌, Bool, true, false, ◌&&◌, ◌||◌, not, Option, Some, None}
use Rattle.std.specs.List.{list_any, list_all}
use Rattle.cc_tree.specs.declared.expression.Expression.{Expression, Expression-F, out-Expression}
use Rattle.cc_tree.specs.declared.expression.Expression.TheOpen as e
use Rattle.cc_tree.specs.declared.expression.Arguments.{Arguments}
use Rattle.cc_tree.specs.declared.statement.Statement.{Statement, Statement-F, fold-Statement}
use Rattle.cc_tree.specs.declared.statement.Statement.TheOpen as s
use Rattle.cc_tree.specs.declared.statement.Block.{Block, fold-Block}
use Rattle.cc_tree.specs.declared.statement.Catch.{Catch, fold-Catch}
use Rattle.cc_tree.specs.declared.statement.Section.{Section, fold-Section}
use Rattle.cc_tree.specs.declared.statement.Label.{Label}
use Rattle.cc_tree.specs.declared.statement.Label.TheVariants as label
use Rattle.cc_terms.specs.declared.ends.Branch.{Branch}
use Rattle.cc_terms.specs.declared.ends.Way.{Way}

-- whether a statement ends, and whether a `break` in it is aimed at something around it
abbrev pub told : Bool → Bool → Way
told ends breaks = record { ends = ends; breaks = breaks }

-- control goes on behind it
abbrev pub goes_on : Way
goes_on = told false false

abbrev pub any_ends : List Way → Bool
any_ends ways = list_any (λ way. way.ends) ways

abbrev pub any_breaks : List Way → Bool
any_breaks ways = list_any (λ way. way.breaks) ways

-- statements in a row
abbrev pub row : List Way → Way
row ways = told (any_ends ways) (any_breaks ways)

-- a part that may be absent
abbrev pub or_goes_on : Option Way → Way
or_goes_on None = goes_on
or_goes_on (Some way) = way

-- either of two statements is executed
abbrev pub either : Way → Way → Way
either first second = told (first.ends && second.ends) (first.breaks || second.breaks)

-- a loop is the aim of each `break` in its body that has none there
abbrev pub looped : Bool → Way → Way
looped always body = told (always && not body.breaks) false

-- the literal `true` itself
abbrev pub true_layer : Expression-F Expression Arguments → Bool
true_layer (e.True span) = true
true_layer _ = false

abbrev pub is_true : Expression → Bool
is_true x = true_layer (out-Expression x)

abbrev pub is_absent : Option Expression → Bool
is_absent None = true
is_absent (Some x) = false

abbrev pub is_default : Label → Bool
is_default (label.Case x span) = false
is_default (label.Default span) = true

-- whether the last of some sections ends, where there is one
abbrev pub last_ends : List Branch → Bool
last_ends [] = false
last_ends (branch ∷ []) = branch.way.ends
last_ends (branch ∷ second ∷ more) = last_ends (second ∷ more)

abbrev pub switched : List Branch → Way
switched branches = told (list_any (λ branch. branch.has_default) branches && not (list_any (λ branch. branch.way.breaks) branches) && last_ends branches) false

-- one of several statements is executed
abbrev pub one_of : List Way → Way
one_of ways = told (list_all (λ way. way.ends) ways) (any_breaks ways)

-- what follows a `try` is reached from the guarded block or from a catch, through the block of its `finally`
abbrev pub guarded : Way → Way → Way → Way
guarded body catches at_last = told (body.ends && catches.ends || at_last.ends) (body.breaks || catches.breaks || at_last.breaks)

-- ---- all forms

abbrev pub statement_layer : Statement-F Way Way Way Branch → Way
statement_layer (s.Block block) = block
statement_layer (s.Empty span) = goes_on
statement_layer (s.Local one span) = goes_on
statement_layer (s.Expression x span) = goes_on
statement_layer (s.Delete x span) = goes_on
statement_layer (s.If x first second span) = either first (or_goes_on second)
statement_layer (s.While x body span) = looped (is_true x) body
statement_layer (s.Do body x span) = looped (is_true x) body
statement_layer (s.For start condition advance body span) = looped (is_absent condition) body
statement_layer (s.ForEach of name x body span) = looped false body
statement_layer (s.Switch x branches span) = switched branches
statement_layer (s.Break span) = told false true
statement_layer (s.Continue span) = goes_on
statement_layer (s.Return x span) = told true false
statement_layer (s.Throw x span) = told true false
statement_layer (s.Try body catches at_last span) = guarded body (one_of catches) (or_goes_on at_last)

abbrev pub block_layer : s.Block-F Way Way Way Branch → Way
block_layer layer = row layer.statements

abbrev pub catch_layer : s.Catch-F Way Way Way Branch → Way
catch_layer layer = layer.block

abbrev pub section_layer : s.Section-F Way Way Way Branch → Branch
section_layer layer = record { has_default = list_any is_default layer.labels; way = row layer.statements }

abbrev pub statement_way : Statement → Way
statement_way = fold-Statement Way Way Way Branch statement_layer block_layer catch_layer section_layer

abbrev pub block_way : Block → Way
block_way = fold-Block Way Way Way Branch statement_layer block_layer catch_layer section_layer

abbrev pub catch_way : Catch → Way
catch_way = fold-Catch Way Way Way Branch statement_layer block_layer catch_layer section_layer

abbrev pub branch_of : Section → Branch
branch_of = fold-Section Way Way Way Branch statement_layer block_layer catch_layer section_layer
