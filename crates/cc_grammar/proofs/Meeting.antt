-- The step of a part at an input.
use Rattle.std.proofs.Common.{◌≡◌, ◌∙◌, sym, ap, subst, ◌+◌, ◌<◌, List, ◌∷◌, ◌++◌}
use Rattle.std.specs.Prelude.{Option, Some, None, true}
use Rattle.cc_table.specs.declared.symbols.Sort.{Sort}
use Rattle.cc_table.specs.declared.symbols.Symbol.{Symbol}
use Rattle.cc_table.specs.declared.symbols.Symbol.TheVariants.{Non}
use Rattle.cc_table.specs.declared.symbols.Input.{Input}
use Rattle.cc_table.specs.Table.{otherwise}
use Rattle.cc_pushdown.specs.declared.value.Value.{Value}
use Rattle.cc_pushdown.specs.Machine.{Fed, Taken, looks, begins, seen, put, lack, step, At}
use Rattle.cc_grammar.specs.declared.choice.Taking.{Taking}
use Rattle.cc_grammar.specs.declared.choice.Taking.TheVariants as g
use Rattle.cc_grammar.specs.declared.choice.Choice.{Choice}
use Rattle.cc_grammar.specs.declared.choice.Choice.TheVariants as c
use Rattle.cc_grammar.specs.declared.choice.Met.{Met}
use Rattle.cc_grammar.specs.declared.choice.Met.TheVariants as m
use Rattle.cc_grammar.specs.declared.pending.Pending.{Pending}
use Rattle.cc_grammar.specs.Turns.{one_fed, part_of, taking_of, taken_of, met_by, Passes, Meets}
use Rattle.cc_grammar.specs.Weight.{worth, owes, owed, credit_of, nearer}
use Rattle.cc_grammar.proofs.Falls.{begins_falls, other_nearer, seen_worth}

-- the step at what is seen
stepped : (sort : Sort) (vs : List Value) (one : Pending) (input : Input) (choice : Option Taken) → input ≡ seen sort vs one.input one.value → begins sort input ≡ choice
    → (more : List Symbol) (ts : List Fed) → step (At (Non sort ∷ more) vs (one_fed one ∷ ts)) ≡ put choice sort more vs one.input one.value ts
stepped sort vs one input choice same b more ts =
    ap (λ q. put (begins sort q) sort more vs one.input one.value ts) (sym same) ∙ ap (λ q. put q sort more vs one.input one.value ts) b

looked : (sort : Sort) (vs : List Value) (one : Pending) (input : Input) (part : List Symbol) → input ≡ seen sort vs one.input one.value → begins sort input ≡ Some (looks part)
    → ((more : List Symbol) (ts : List Fed) → step (At (Non sort ∷ more) vs (one_fed one ∷ ts)) ≡ At (part ++ more) vs (one_fed one ∷ ts)) × (nearer sort part ≡ true)
looked sort vs one input part same b = (stepped sort vs one input (Some (looks part)) same b, begins_falls sort input (looks part) b)

passed : (sort : Sort) (vs : List Value) (one : Pending) (input : Input) (part : List Symbol) → input ≡ seen sort vs one.input one.value → begins sort input ≡ None → otherwise sort ≡ Some part
    → ((more : List Symbol) (ts : List Fed) → step (At (Non sort ∷ more) vs (one_fed one ∷ ts)) ≡ At (part ++ more) vs (one_fed one ∷ ts)) × (nearer sort part ≡ true)
passed sort vs one input part same b e =
    (λ more ts. stepped sort vs one input None same b more ts ∙ ap (λ q. lack q more vs (one_fed one ∷ ts)) e, other_nearer sort part e)

refused : (sort : Sort) (vs : List Value) (one : Pending) (input : Input) → input ≡ seen sort vs one.input one.value → begins sort input ≡ None → otherwise sort ≡ None → Meets m.Refuse sort vs one
refused sort vs one input same b e = λ more ts. stepped sort vs one input None same b more ts ∙ ap (λ q. lack q more vs (one_fed one ∷ ts)) e

same_worth : (sort : Sort) (vs : List Value) (one : Pending) (input : Input) → input ≡ seen sort vs one.input one.value → worth input ≡ worth one.input
same_worth sort vs one input same = ap worth same ∙ seen_worth sort vs one.input one.value

taken : (sort : Sort) (vs : List Value) (one : Pending) (input : Input) (taking : Taking) → input ≡ seen sort vs one.input one.value → begins sort input ≡ Some (taking_of taking) → Meets (m.Take taking) sort vs one
taken sort vs one input (g.Drop part) same b =
    (stepped sort vs one input (Some (taking_of (g.Drop part))) same b, subst (λ n. owed (part_of (g.Drop part)) + credit_of sort < owes sort + n) (same_worth sort vs one input same) (begins_falls sort input (taking_of (g.Drop part)) b))
taken sort vs one input (g.Keep part) same b =
    (stepped sort vs one input (Some (taking_of (g.Keep part))) same b, subst (λ n. owed (part_of (g.Keep part)) + credit_of sort < owes sort + n) (same_worth sort vs one input same) (begins_falls sort input (taking_of (g.Keep part)) b))
taken sort vs one input (g.Greater least) same b =
    (stepped sort vs one input (Some (taking_of (g.Greater least))) same b, subst (λ n. owed (part_of (g.Greater least)) + credit_of sort < owes sort + n) (same_worth sort vs one input same) (begins_falls sort input (taking_of (g.Greater least)) b))
taken sort vs one input (g.Join operator least) same b =
    (stepped sort vs one input (Some (taking_of (g.Join operator least))) same b, subst (λ n. owed (part_of (g.Join operator least)) + credit_of sort < owes sort + n) (same_worth sort vs one input same) (begins_falls sort input (taking_of (g.Join operator least)) b))

pub chosen_meets : (sort : Sort) (vs : List Value) (one : Pending) (input : Input) (choice : Choice) (found : Met) → input ≡ seen sort vs one.input one.value → begins sort input ≡ Some (taken_of choice) → found ≡ met_by choice → Meets found sort vs one
chosen_meets sort vs one input (c.Look part) found same b e = subst (λ q. Meets q sort vs one) (sym e) (looked sort vs one input part.now same b)
chosen_meets sort vs one input (c.Take taking) found same b e = subst (λ q. Meets q sort vs one) (sym e) (taken sort vs one input taking same b)

pub passing_meets : (sort : Sort) (vs : List Value) (one : Pending) (input : Input) (found : Met) → input ≡ seen sort vs one.input one.value → begins sort input ≡ None → Passes found sort → Meets found sort vs one
passing_meets sort vs one input (m.Expect part) same b e = passed sort vs one input part.now same b e
passing_meets sort vs one input (m.Take taking) same b e = absurd e
passing_meets sort vs one input m.Refuse same b e = refused sort vs one input same b e
