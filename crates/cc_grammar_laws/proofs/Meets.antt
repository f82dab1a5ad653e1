-- Runs of the machine that meet.
use Rattle.std.proofs.Common.{◌≡◌, sym, subst, List, [], ◌∷◌, ◌++◌}
use Rattle.std.specs.Prelude.{Some, None}
use Rattle.cc_tree.specs.Terminals.{Classified, at}
use Rattle.cc_table.specs.declared.symbols.Sort.{Sort}
use Rattle.cc_table.specs.declared.symbols.Input.{Input}
use Rattle.cc_table.specs.declared.symbols.Input.TheVariants as i
use Rattle.cc_table.specs.declared.symbols.Symbol.{Symbol}
use Rattle.cc_table.specs.declared.symbols.Symbol.TheVariants.{Non}
use Rattle.cc_table.specs.Table.{otherwise}
use Rattle.cc_pushdown.specs.declared.value.Value.{Value}
use Rattle.cc_pushdown.specs.Machine.{Fed, fed, Config, At, Done, begins, Taken, looks, lack, put, seen, step, Comes, here, on}
use Rattle.cc_grammar_laws.specs.Read.{read, read_value, Passes}

-- Some steps from the one and some steps from the other lead to the same.
pub data Meets : Config → Config → Type 0 where
  same : {c : Config} → Meets c c
  ahead : {c d : Config} → Meets (step c) d → Meets c d
  behind : {c d : Config} → Meets c (step d) → Meets c d

pub next : {c d : Config} → Meets c d → Meets (step c) d
next same = behind same
next (ahead p) = p
next (behind p) = behind (next p)

pub then : {b c d : Config} → Meets b c → Meets c d → Meets b d
then same q = q
then (ahead p) q = ahead (then p q)
then (behind p) q = then p (next q)

pub turn : {c d : Config} → Meets c d → Meets d c
turn same = same
turn (ahead p) = behind (turn p)
turn (behind p) = ahead (turn p)

-- A run that meets an end comes to it.
pub comes : {c : Config} {vs : List Value} → Meets c (Done vs) → Comes c (Done vs)
comes same = here
comes (ahead p) = on (comes p)
comes (behind p) = comes p

pub with_values : {c : Config} {more : List Symbol} {vs ws : List Value} {ts : List Fed} → vs ≡ ws → Meets c (At more vs ts) → Meets c (At more ws ts)
with_values {c} {more} {vs} {ws} {ts} e p = subst (λ v. Meets c (At more v ts)) e p

-- A part that takes nothing is what it is otherwise.
pub pass : (sort : Sort) (part : List Symbol) → ((vs : List Value) (input : Input) (value : Value) → seen sort vs input value ≡ input) → otherwise sort ≡ Some part
    → (rest : List Classified) → Passes sort rest → (more : List Symbol) (vs : List Value) → Meets (At (Non sort ∷ more) vs (read rest)) (At (part ++ more) vs (read rest))
pass sort part plain o [] h more vs = ahead (subst (λ q. Meets (lack q more vs []) (At (part ++ more) vs [])) (sym o) same)
pass sort part plain o (at terminal k ∷ rest) h more vs =
    let value : Value = read_value terminal k.kind k.span in
    let fs : List Fed = fed (i.Token terminal) value ∷ read rest in
    ahead (subst (λ q. Meets (put (begins sort q) sort more vs (i.Token terminal) value (read rest)) (At (part ++ more) vs fs)) (sym (plain vs (i.Token terminal) value))
    (subst (λ q. Meets (put q sort more vs (i.Token terminal) value (read rest)) (At (part ++ more) vs fs)) (sym h)
    (subst (λ q. Meets (lack q more vs fs) (At (part ++ more) vs fs)) (sym o) same)))

-- A part takes nothing at this input.
abbrev pub FedPasses : Sort → List Fed → Type 0
FedPasses sort [] = Unit {0}
FedPasses sort (fed input value ∷ fs) = begins sort input ≡ None

pub fed_passes : (sort : Sort) (ts : List Classified) → Passes sort ts → FedPasses sort (read ts)
fed_passes sort [] h = tt
fed_passes sort (at terminal k ∷ ts) h = h

abbrev pub Plain : Sort → Type 0
Plain sort = (vs : List Value) (input : Input) (value : Value) → seen sort vs input value ≡ input

pub pass_fed : (sort : Sort) (part : List Symbol) → Plain sort → otherwise sort ≡ Some part
    → (fs : List Fed) → FedPasses sort fs → (more : List Symbol) (vs : List Value) → Meets (At (Non sort ∷ more) vs fs) (At (part ++ more) vs fs)
pass_fed sort part plain o [] h more vs = ahead (subst (λ q. Meets (lack q more vs []) (At (part ++ more) vs [])) (sym o) same)
pass_fed sort part plain o (fed input value ∷ rest) h more vs =
    let fs : List Fed = fed input value ∷ rest in
    ahead (subst (λ q. Meets (put (begins sort q) sort more vs input value rest) (At (part ++ more) vs fs)) (sym (plain vs input value))
    (subst (λ q. Meets (put q sort more vs input value rest) (At (part ++ more) vs fs)) (sym h)
    (subst (λ q. Meets (lack q more vs fs) (At (part ++ more) vs fs)) (sym o) same)))

-- What a part is at an input.
pub put_fed : (sort : Sort) (taken : Taken) → Plain sort → (input : Input) (value : Value) (fs : List Fed) → begins sort input ≡ Some taken
    → (more : List Symbol) (vs : List Value) → Meets (At (Non sort ∷ more) vs (fed input value ∷ fs)) (put (Some taken) sort more vs input value fs)
put_fed sort taken plain input value fs h more vs =
    ahead (subst (λ q. Meets (put (begins sort q) sort more vs input value fs) (put (Some taken) sort more vs input value fs)) (sym (plain vs input value))
    (subst (λ q. Meets (put q sort more vs input value fs) (put (Some taken) sort more vs input value fs)) (sym h) same))

-- A part looks at these tokens and is this.
abbrev pub LooksAt : Sort → List Symbol → List Classified → Type 0
LooksAt sort part [] = ⊥
LooksAt sort part (at terminal k ∷ rest) = begins sort (i.Token terminal) ≡ Some (looks part)

pub look : (sort : Sort) (part : List Symbol) → Plain sort → (ts : List Classified) → LooksAt sort part ts
    → (more : List Symbol) (vs : List Value) → Meets (At (Non sort ∷ more) vs (read ts)) (At (part ++ more) vs (read ts))
look sort part plain [] h more vs = absurd h
look sort part plain (at terminal k ∷ rest) h more vs = put_fed sort (looks part) plain (i.Token terminal) (read_value terminal k.kind k.span) (read rest) h more vs
