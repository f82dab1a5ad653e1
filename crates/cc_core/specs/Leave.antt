-- How statements follow one another, and how scopes, loops and switches are left (ECMA-372, 16; C++, 6).
use Rattle.std.specs.Prelude.{ℕ, zero, suc, List, [], ◌∷◌, Bool, true, false, Result, Ok, Err, nat_eq, if◌then◌else◌}
use Rattle.cc_core.specs.declared.state.Exit.{Exit}
use Rattle.cc_core.specs.declared.state.Exit.TheVariants.{Normal, Break, Continue, Return}
use Rattle.cc_core.specs.declared.state.Held.{Held}
use Rattle.cc_core.specs.declared.state.State.{State}
use Rattle.cc_core.specs.declared.state.Stop.{Stop}
use Rattle.cc_core.specs.declared.state.Stop.TheVariants.{Throws, HeapLimit, DepthLimit, Going, Wrong}
use Rattle.cc_core.specs.declared.tree.SwitchLabel.{SwitchLabel}
use Rattle.cc_core.specs.declared.tree.SwitchLabel.TheVariants.{Case, Default}
use Rattle.cc_core.specs.declared.world.Value.{Value, Int32, Int64}
use Rattle.cc_core.specs.Run.{Ran, Does, gives, stops, bind, tick, by_truth}

-- a statement, and then the next where it ended normally
abbrev pub then_step : Ran Exit → Does Exit → Ran Exit
then_step (Ok Normal, s) next = next s
then_step (Ok Break, s) next = (Ok Break, s)
then_step (Ok Continue, s) next = (Ok Continue, s)
then_step (Ok (Return v), s) next = (Ok (Return v), s)
then_step (Err e, s) next = (Err e, s)

-- an end by which scopes are left: a limit leaves none
abbrev pub leaves : Result Exit Stop → Bool
leaves (Ok exit) = true
leaves (Err (Throws at)) = true
leaves (Err HeapLimit) = false
leaves (Err DepthLimit) = false
leaves (Err Going) = false
leaves (Err Wrong) = false

-- Leaves a scope, whose completed constructions are listed, the newest first.
abbrev pub leave : List Held → Ran Exit → Ran Exit
leave [] ran = ran
leave (held ∷ more) ran = if leaves ran.0 then (Err Wrong, ran.1) else ran

-- a statement of a scope: where it ends normally the scope goes on, and else the scope is left
abbrev pub then_in_scope : List Held → Ran Exit → Does Exit → Ran Exit
then_in_scope held (Ok Normal, s) next = next s
then_in_scope held (Ok Break, s) next = leave held (Ok Break, s)
then_in_scope held (Ok Continue, s) next = leave held (Ok Continue, s)
then_in_scope held (Ok (Return v), s) next = leave held (Ok (Return v), s)
then_in_scope held (Err e, s) next = leave held (Err e, s)

-- ---- loops

-- what a loop does with the end of its body
abbrev pub after_body : Ran Exit → Does Exit → Ran Exit
after_body (Ok Normal, s) next = next s
after_body (Ok Continue, s) next = next s
after_body (Ok Break, s) next = (Ok Normal, s)
after_body (Ok (Return v), s) next = (Ok (Return v), s)
after_body (Err e, s) next = (Err e, s)

-- At most n turns: the test, the body, and what is done after each turn.
abbrev pub turns : ℕ → Does Value → Does Exit → Does Exit → Does Exit
turns zero test body after s = bind (test s) (λ v. by_truth v (stops Going) (gives Normal))
turns (suc n) test body after s =
    bind (test s) (λ v. by_truth v (λ s1. after_body (body (tick s1)) (λ s2. then_step (after s2) (turns n test body after))) (gives Normal))

-- At most n turns of which each has its test behind the body.
abbrev pub turns_after : ℕ → Does Value → Does Exit → Does Exit
turns_after zero test body s = (Err Going, s)
turns_after (suc n) test body s =
    after_body (body (tick s)) (λ s1. bind (test s1) (λ v. by_truth v (turns_after n test body) (gives Normal)))

-- ---- switches

-- a break is aimed at this statement
abbrev pub broken : Ran Exit → Ran Exit
broken (Ok Break, s) = (Ok Normal, s)
broken (Ok Normal, s) = (Ok Normal, s)
broken (Ok Continue, s) = (Ok Continue, s)
broken (Ok (Return v), s) = (Ok (Return v), s)
broken (Err e, s) = (Err e, s)

abbrev pub is_case : Value → ℕ → Bool
is_case (Int32 m) n = nat_eq m n
is_case (Int64 m) n = nat_eq m n
is_case _ n = false

-- Whether one of the labels is the value's, and the state in which each label up to it is tested.
abbrev pub find_case : Value → List SwitchLabel → State → Bool × State
find_case v [] s = (false, s)
find_case v (Default ∷ labels) s = find_case v labels s
find_case v (Case n ∷ labels) s = if is_case v n then (true, tick s) else find_case v labels (tick s)

abbrev pub has_default : List SwitchLabel → Bool
has_default [] = false
has_default (Default ∷ labels) = true
has_default (Case n ∷ labels) = has_default labels

-- goes one way or the other after a search
abbrev pub by_case : Bool × State → Does Exit → Does Exit → Ran Exit
by_case (true, s) found other = found s
by_case (false, s) found other = other s
