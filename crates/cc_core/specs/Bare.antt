-- The typed trees without the places where their parts stand in memory.
use Rattle.std.specs.Prelude.{option_map}
use Rattle.cc_core.specs.declared.tree.Expression as e
use Rattle.cc_core.specs.declared.tree.Statement as s
use Rattle.cc_core.specs.Types.{bare}
use Rattle.cc_core.specs.Term as t
use Rattle.cc_core.specs.Step as step

abbrev mutual
  pub term_of : e.Expression → t.Term
  term_of (e.Number type n) = t.Number (bare type) n
  term_of (e.Literal type text) = t.Literal (bare type) text
  term_of (e.Null type) = t.Null (bare type)
  term_of (e.This type) = t.This (bare type)
  term_of (e.Local type local) = t.Local (bare type) local
  term_of (e.Field' type field p object) = t.Field (bare type) field (term_of object)
  term_of (e.StaticField type field) = t.StaticField (bare type) field
  term_of (e.Element' type p array q index) = t.Element (bare type) (term_of array) (term_of index)
  term_of (e.Convert' type p operand) = t.Convert (bare type) (term_of operand)
  term_of (e.Unary' type operator p operand) = t.Unary (bare type) operator (term_of operand)
  term_of (e.Binary' type operator p left q right) = t.Binary (bare type) operator (term_of left) (term_of right)
  term_of (e.And' type p first q second) = t.And (bare type) (term_of first) (term_of second)
  term_of (e.Or' type p first q second) = t.Or (bare type) (term_of first) (term_of second)
  term_of (e.Choose' type p condition q first r second) = t.Choose (bare type) (term_of condition) (term_of first) (term_of second)
  term_of (e.Assign' type p place q value) = t.Assign (bare type) (term_of place) (term_of value)
  term_of (e.Update' type operator common result p place q operand) = t.Update (bare type) operator (bare common) result (term_of place) (term_of operand)
  term_of (e.Call' type method dispatch shape row) = t.Call (bare type) method dispatch (row_terms row)
  term_of (e.New' type of constructor shape row) = t.New (bare type) of constructor (row_terms row)
  term_of (e.NewArray' type element p count) = t.NewArray (bare type) (bare element) (term_of count)
  term_of (e.ArrayOf' type element shape row) = t.ArrayOf (bare type) (bare element) (row_terms row)
  term_of (e.Cast' type kind p operand) = t.Cast (bare type) kind (term_of operand)
  term_of (e.Library' type call shape row) = t.Library (bare type) call (row_terms row)
  term_of (e.PlaceOf' type p operand) = t.PlaceOf (bare type) (term_of operand)
  term_of (e.HandleOf' type p operand) = t.HandleOf (bare type) (term_of operand)
  term_of (e.Let' type local p first q second) = t.Let (bare type) local (term_of first) (term_of second)
  term_of (e.Then' type p first q second) = t.Then (bare type) (term_of first) (term_of second)

  pub row_terms : {m : _} → e.Row_of-Expression m → t.Terms
  row_terms e.end_of-Expression = t.no_terms
  row_terms (e.more_of-Expression a rest) = t.next_term (term_of a) (row_terms rest)

abbrev mutual
  pub step_of : s.Statement → step.Step
  step_of (s.Block' shape row) = step.Block (row_steps row)
  step_of (s.Do e) = step.Do (term_of e)
  step_of (s.Declare local type e) = step.Declare local (bare type) (option_map term_of e)
  step_of (s.DeclareStack local e) = step.DeclareStack local (term_of e)
  step_of (s.If' condition p first q second) = step.If (term_of condition) (step_of first) (step_of second)
  step_of (s.Loop' kind condition after p body) = step.Loop kind (term_of condition) (option_map term_of after) (step_of body)
  step_of (s.ForEach' local e p body) = step.ForEach local (term_of e) (step_of body)
  step_of (s.Switch' local e shape row) = step.Switch local (term_of e) (row_sections row)
  step_of s.Break = step.Break
  step_of s.Continue = step.Continue
  step_of (s.Return e) = step.Return (option_map term_of e)
  step_of (s.Throw e) = step.Throw (term_of e)
  step_of s.Rethrow = step.Rethrow
  step_of (s.Try' p body shape row last) = step.Try (step_of body) (row_handlers row) (at_last_of last)
  step_of (s.Delete e) = step.Delete (term_of e)

  pub row_steps : {m : _} → s.Row_of-Statement m → step.Steps
  row_steps s.end_of-Statement = step.no_steps
  row_steps (s.more_of-Statement a rest) = step.next_step (step_of a) (row_steps rest)

  pub row_sections : {m : _} → s.Row_of-Section m → step.Sections
  row_sections s.end_of-Section = step.no_sections
  row_sections (s.more_of-Section labels shape row rest) = step.next_section labels (row_steps row) (row_sections rest)

  pub row_handlers : {m : _} → s.Row_of-Handler m → step.Handlers
  row_handlers s.end_of-Handler = step.no_handlers
  row_handlers (s.more_of-Handler of local body rest) = step.next_handler of local (step_of body) (row_handlers rest)

  pub at_last_of : s.Held-Statement-Try-2 → step.AtLast
  at_last_of s.None' = step.nothing
  at_last_of (s.Some' p a) = step.something (step_of a)
