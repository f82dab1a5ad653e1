-- How regions are left, and how they follow one another (ECMA-372, 16; C++, 6).
use Rattle.std.specs.Prelude.{ℕ, zero, suc, Bool, true, false, Result, Ok, Err}
use Rattle.cc_core.specs.declared.state.State.{State}
use Rattle.cc_core.specs.declared.state.Stop.TheVariants.{Throws, HeapLimit, DepthLimit, Going, Wrong}
use Rattle.cc_core.specs.declared.world.Value.{Value}
use Rattle.cc_core.specs.Run.{Ran, Does, gives, stops, bind, tick, by_truth}

-- How a region ends that does not stop. The number of a Break or a Continue counts the Blocks, Switches and Loops that are still to be left before the one that it is aimed at.
pub data Way : Type 0 where
  Next : Way
  Break Continue : ℕ → Way
  Return : Value → Way

-- a region, and then the next where it ended normally
abbrev pub then_next : Ran Way → Does Way → Ran Way
then_next (Ok Next, s) next = next s
then_next (Ok (Break number), s) next = (Ok (Break number), s)
then_next (Ok (Continue number), s) next = (Ok (Continue number), s)
then_next (Ok (Return v), s) next = (Ok (Return v), s)
then_next (Err e, s) next = (Err e, s)

-- the end of a Block's or a Switch's body as the end of the whole
abbrev pub left_block : Ran Way → Ran Way
left_block (Ok Next, s) = (Ok Next, s)
left_block (Ok (Break zero), s) = (Ok Next, s)
left_block (Ok (Break (suc number)), s) = (Ok (Break number), s)
left_block (Ok (Continue zero), s) = (Err Wrong, s)
left_block (Ok (Continue (suc number)), s) = (Ok (Continue number), s)
left_block (Ok (Return v), s) = (Ok (Return v), s)
left_block (Err e, s) = (Err e, s)

-- ---- loops

-- what a Loop does with the end of its body
abbrev pub after_body : Ran Way → Does Way → Ran Way
after_body (Ok Next, s) next = next s
after_body (Ok (Break zero), s) next = (Ok Next, s)
after_body (Ok (Break (suc number)), s) next = (Ok (Break number), s)
after_body (Ok (Continue zero), s) next = next s
after_body (Ok (Continue (suc number)), s) next = (Ok (Continue number), s)
after_body (Ok (Return v), s) next = (Ok (Return v), s)
after_body (Err e, s) next = (Err e, s)

-- At most n turns: the test, the body, and what is done after each turn.
abbrev pub turns : ℕ → Does Value → Does Way → Does Way → Does Way
turns zero test body after s = bind (test s) (λ v. by_truth v (stops Going) (gives Next))
turns (suc n) test body after s =
    bind (test s) (λ v. by_truth v (λ s1. after_body (body (tick s1)) (λ s2. then_next (after s2) (turns n test body after))) (gives Next))

-- At most n turns of which each has its test behind the body.
abbrev pub turns_after : ℕ → Does Value → Does Way → Does Way
turns_after zero test body s = (Err Going, s)
turns_after (suc n) test body s =
    after_body (body (tick s)) (λ s1. bind (test s1) (λ v. by_truth v (turns_after n test body) (gives Next)))

-- ---- cleanups

-- what the end of a cleanup makes of the way on which it was done
abbrev pub resumed : Way → Ran Way → Ran Way
resumed way (Ok Next, s) = (Ok way, s)
resumed way (Ok (Break number), s) = (Err Wrong, s)
resumed way (Ok (Continue number), s) = (Err Wrong, s)
resumed way (Ok (Return v), s) = (Err Wrong, s)
resumed way (Err e, s) = (Err e, s)

-- what the end of a cleanup makes of the exception for which it was done
abbrev pub rethrown : ℕ → Ran Way → Ran Way
rethrown at (Ok Next, s) = (Err (Throws at), s)
rethrown at (Ok (Break number), s) = (Err Wrong, s)
rethrown at (Ok (Continue number), s) = (Err Wrong, s)
rethrown at (Ok (Return v), s) = (Err Wrong, s)
rethrown at (Err e, s) = (Err e, s)

-- A cleanup is done whichever way its body was left: a limit leaves none.
abbrev pub guarded : Ran Way → Does Way → Ran Way
guarded (Ok way, s) cleanup = resumed way (cleanup s)
guarded (Err (Throws at), s) cleanup = rethrown at (cleanup s)
guarded (Err HeapLimit, s) cleanup = (Err HeapLimit, s)
guarded (Err DepthLimit, s) cleanup = (Err DepthLimit, s)
guarded (Err Going, s) cleanup = (Err Going, s)
guarded (Err Wrong, s) cleanup = (Err Wrong, s)

-- A cleanup is done where its body was left by an exception.
abbrev pub guarded_from_throws : Ran Way → Does Way → Ran Way
guarded_from_throws (Ok way, s) cleanup = (Ok way, s)
guarded_from_throws (Err (Throws at), s) cleanup = rethrown at (cleanup s)
guarded_from_throws (Err HeapLimit, s) cleanup = (Err HeapLimit, s)
guarded_from_throws (Err DepthLimit, s) cleanup = (Err DepthLimit, s)
guarded_from_throws (Err Going, s) cleanup = (Err Going, s)
guarded_from_throws (Err Wrong, s) cleanup = (Err Wrong, s)

-- ---- switches

-- goes one way or the other after a search
abbrev pub by_case : Bool × State → Does Way → Does Way → Ran Way
by_case (true, s) found other = found s
by_case (false, s) found other = other s
