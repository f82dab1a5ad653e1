-- Runs in pieces.
use Rattle.std.proofs.Common.{◌≡◌, ◌+◌, ℕ, zero, suc, refl, ap, ◌∙◌, arith}
use Rattle.cc_execution.specs.declared.executable.Executable.{Executable}
use Rattle.cc_execution.specs.State.{State, Next, Goes, Ends, Stuck, then_go}
use Rattle.cc_execution.specs.Step.{step}
use Rattle.cc_execution.specs.Run.{runs}

module _ (x : Executable) (frames : ℕ) where
  behind : (a b : ℕ) → ((t : State) → runs x frames (a + b) t ≡ then_go (runs x frames a t) (runs x frames b)) → (o : Next)
      → then_go o (runs x frames (a + b)) ≡ then_go (then_go o (runs x frames a)) (runs x frames b)
  behind a b known (Goes t) = known t
  behind a b known (Ends ending w) = refl
  behind a b known Stuck = refl

  pub pieces : (a b : ℕ) (s : State) → runs x frames (a + b) s ≡ then_go (runs x frames a s) (runs x frames b)
  pieces zero b s = let e : zero + b ≡ b = omega arith in ap (λ n. runs x frames n s) e
  pieces (suc a) b s = let e : suc a + b ≡ suc (a + b) = omega arith in ap (λ n. runs x frames n s) e ∙ behind a b (pieces a b) (step x frames s)
