-- How stretches of a run of the machine join.
use Rattle.std.proofs.Common.{◌≡◌, ℕ, suc, ◌+◌, ◌≤◌, List, Some, refl, sym, ap, ◌∙◌, subst, arith}
use Rattle.std.specs.Prelude.{Ok, Err}
use Rattle.cc_core.specs.declared.state.State.{State}
use Rattle.cc_core.specs.declared.state.Stop.{Stop}
use Rattle.cc_core.specs.declared.state.Stop.TheVariants.{Throws, HeapLimit, DepthLimit, Going, Wrong}
use Rattle.cc_core.specs.declared.types.ClassInfo.{ClassInfo}
use Rattle.cc_core.specs.declared.world.World.{World}
use Rattle.cc_core.specs.Run.{Ran, Does, bind}
use Rattle.cc_execution.specs.declared.executable.Executable.{Executable}
use Rattle.cc_execution.specs.declared.executable.PlacedOperation.{PlacedOperation}
use Rattle.cc_execution.specs.Run.{runs, Seen, seen}
use Rattle.cc_execution.specs.State as machine
use Rattle.cc_execution.specs.State.{Next, Goes, then_go}
use Rattle.cc_execution.specs.Step.{given, act, step, placed_in}
use Rattle.cc_simulation.specs.Stretches.{Comes, Shows, least, Got, Stands}

module _ (x : Executable) (frames : ℕ) where
  pub arrives : {from to : Next} (b before : ℕ) → from ≡ to → Comes x frames b before before from to
  arrives b before e = record { by = λ k. (k, omega arith, omega arith, ap (λ (o : Next). then_go o (runs x frames k)) e) }

  pub trans : {from mid to : Next} {b b1 w0 w1 w2 : ℕ} (c : ℕ) → Comes x frames b w0 w1 from mid → Comes x frames b1 w1 w2 mid to → b + b1 ≤ c → Comes x frames c w0 w2 from to
  trans c l m le = record { by = λ k. let y = m.by k in let z = l.by y.0 in (z.0, omega (arith, z.1, y.1), omega (arith, z.2, y.2), z.3 ∙ y.3) }

  pub shows_after : {from mid : Next} {to : Seen} {n b b1 w0 w1 w2 : ℕ} (c : ℕ) → Comes x frames b w0 w1 from mid → Shows x frames n b1 w1 w2 mid to → b + b1 ≤ c → Shows x frames n c w0 w2 from to
  shows_after c l m le = let z = l.by m.steps in record { steps = z.0; least = omega (arith, z.1, m.least); most = omega (arith, z.2, m.most); same = ap seen z.3 ∙ m.same }

  pub shows_more : {from : Next} {to : Seen} {n b w0 w1 : ℕ} (n1 c : ℕ) → Shows x frames n b w0 w1 from to → n1 ≤ n → b ≤ c → Shows x frames n1 c w0 w1 from to
  shows_more n1 c m ln le = record { steps = m.steps; least = omega (arith, m.least); most = omega (arith, m.most); same = m.same }

least_less : (n1 n : ℕ) (e : Stop) → n1 ≤ n → least n1 e ≤ least n e
least_less n1 n (Throws at) le = omega arith
least_less n1 n HeapLimit le = omega arith
least_less n1 n DepthLimit le = omega arith
least_less n1 n Going le = le
least_less n1 n Wrong le = omega arith

least_next : (n : ℕ) (e : Stop) → least (suc n) e ≤ suc (least n e)
least_next n (Throws at) = omega arith
least_next n HeapLimit = omega arith
least_next n DepthLimit = omega arith
least_next n Going = omega arith
least_next n Wrong = omega arith

module _ (x : Executable) (classes : List ClassInfo) (frames : ℕ) where
  after_r : {A : Type 0} (from mid : Next) (ends : A → World → Next) (good : A → World → Type 0) (n b b1 w0 w1 c : ℕ) (ran : Ran A)
      → Comes x frames b w0 w1 from mid → Got x classes frames n b1 mid ends good w1 ran → b + b1 ≤ c → Got x classes frames n c from ends good w0 ran
  after_r from mid ends good n b b1 w0 w1 c (Ok a, s) l m le = (m.0, trans x frames c l m.1 le)
  after_r from mid ends good n b b1 w0 w1 c (Err e, s) l m le = (m.0, shows_after x frames c l m.1 le)

  pub after : {A : Type 0} {from mid : Next} {ends : A → World → Next} {good : A → World → Type 0} {n b b1 w0 w1 : ℕ} {ran : Ran A} (c : ℕ)
      → Comes x frames b w0 w1 from mid → Stands x classes frames n b1 mid ends good w1 ran → b + b1 ≤ c → Stands x classes frames n c from ends good w0 ran
  after {ran = ran} c l m le = record { got = after_r _ _ _ _ _ _ _ _ _ c ran l m.got le }

  more_r : {A : Type 0} (from : Next) (ends : A → World → Next) (good : A → World → Type 0) (n b w0 n1 c : ℕ) (ran : Ran A)
      → Got x classes frames n b from ends good w0 ran → n1 ≤ n → b ≤ c → Got x classes frames n1 c from ends good w0 ran
  more_r from ends good n b w0 n1 c (Ok a, s) m ln le = (m.0, trans x frames c m.1 (arrives x frames 0 s.work refl) (omega arith))
  more_r from ends good n b w0 n1 c (Err e, s) m ln le = (m.0, shows_more x frames (least n1 e) c m.1 (least_less n1 n e ln) le)

  pub more : {A : Type 0} {from : Next} {ends : A → World → Next} {good : A → World → Type 0} {n b w0 : ℕ} {ran : Ran A} (n1 c : ℕ)
      → Stands x classes frames n b from ends good w0 ran → n1 ≤ n → b ≤ c → Stands x classes frames n1 c from ends good w0 ran
  more {ran = ran} n1 c m ln le = record { got = more_r _ _ _ _ _ _ n1 c ran m.got ln le }

  ticks_r : {A : Type 0} (from : Next) (ends : A → World → Next) (good : A → World → Type 0) (n b w0 : ℕ) (ran : Ran A)
      → Got x classes frames n (b + 64) from ends good (w0 + 1) ran → Got x classes frames n b from ends good w0 ran
  ticks_r from ends good n b w0 (Ok a, s) m = (m.0, record { by = λ k. let z = m.1.by k in (z.0, z.1, omega (arith, z.2), z.3) })
  ticks_r from ends good n b w0 (Err e, s) m = (m.0, record { steps = m.1.steps; least = m.1.least; most = omega (arith, m.1.most); same = m.1.same })

  -- one more thing was counted
  pub ticks : {A : Type 0} {from : Next} {ends : A → World → Next} {good : A → World → Type 0} {n w0 : ℕ} {ran : Ran A} (b : ℕ)
      → Stands x classes frames n (b + 64) from ends good (w0 + 1) ran → Stands x classes frames n b from ends good w0 ran
  ticks {ran = ran} b m = record { got = ticks_r _ _ _ _ b _ ran m.got }

  onward_r : {A B : Type 0} (f : Ran A → Ran B) (same : (e : Stop) (s : State) → f (Err e, s) ≡ (Err e, s)) (from : Next) (ends1 : A → World → Next) (ends2 : B → World → Next)
      (good1 : A → World → Type 0) (good2 : B → World → Type 0) (n b b1 w0 : ℕ) (ran : Ran A) → Got x classes frames n b from ends1 good1 w0 ran
      → ((a : A) (s : State) → good1 a s.world → Stands x classes frames n b1 (ends1 a s.world) ends2 good2 s.work (f (Ok a, s))) → Got x classes frames n (b + b1) from ends2 good2 w0 (f ran)
  onward_r f same from ends1 ends2 good1 good2 n b b1 w0 (Ok a, s) m go = after_r _ _ _ _ _ _ _ _ _ (b + b1) (f (Ok a, s)) m.1 (go a s m.0).got (omega arith)
  onward_r f same from ends1 ends2 good1 good2 n b b1 w0 (Err e, s) m go =
      subst (λ ran. Got x classes frames n (b + b1) from ends2 good2 w0 ran) (sym (same e s)) (m.0, shows_more x frames (least n e) (b + b1) m.1 (omega arith) (omega arith))

  -- what is made of a part that ended, where one that stopped stays as it is
  pub onward : {A B : Type 0} {from : Next} {ends1 : A → World → Next} {ends2 : B → World → Next} {good1 : A → World → Type 0} {good2 : B → World → Type 0} {n w0 : ℕ} {ran : Ran A}
      (f : Ran A → Ran B) → ((e : Stop) (s : State) → f (Err e, s) ≡ (Err e, s)) → (b b1 : ℕ) → Stands x classes frames n b from ends1 good1 w0 ran
      → ((a : A) (s : State) → good1 a s.world → Stands x classes frames n b1 (ends1 a s.world) ends2 good2 s.work (f (Ok a, s))) → Stands x classes frames n (b + b1) from ends2 good2 w0 (f ran)
  onward {ran = ran} f same b b1 m go = record { got = onward_r f same _ _ _ _ _ _ b b1 _ ran m.got go }

  -- one part, and then the next
  pub binds : {A B : Type 0} {from : Next} {ends1 : A → World → Next} {ends2 : B → World → Next} {good1 : A → World → Type 0} {good2 : B → World → Type 0} {n w0 : ℕ} {ran : Ran A}
      {next : A → Does B} (b b1 : ℕ) → Stands x classes frames n b from ends1 good1 w0 ran
      → ((a : A) (s : State) → good1 a s.world → Stands x classes frames n b1 (ends1 a s.world) ends2 good2 s.work (next a s)) → Stands x classes frames n (b + b1) from ends2 good2 w0 (bind ran next)
  binds {next = next} b b1 m go = onward (λ ran. bind ran next) (λ e s. refl) b b1 m go

  -- a value, where the machine stands already
  pub stays : {A : Type 0} {from : Next} {ends : A → World → Next} {good : A → World → Type 0} {n b : ℕ} (a : A) (s : State)
      → good a s.world → from ≡ ends a s.world → Stands x classes frames n b from ends good s.work (Ok a, s)
  stays {b = b} a s g e = record { got = (g, arrives x frames b s.work e) }

  one_r : {A : Type 0} (ends : A → World → Next) (good : A → World → Type 0) (n b w0 : ℕ) (s : machine.State) (ran : Ran A)
      → Got x classes frames n b (step x frames s) ends good w0 ran → Got x classes frames (suc n) (suc b) (Goes s) ends good w0 ran
  one_r ends good n b w0 s (Ok a, t) m = (m.0, record { by = λ k. let z = m.1.by k in (suc z.0, omega (arith, z.1), omega (arith, z.2), z.3) })
  one_r ends good n b w0 s (Err e, t) m =
      let l = least_next n e in
      (m.0, record { steps = suc m.1.steps; least = omega (arith, m.1.least); most = omega (arith, m.1.most); same = m.1.same })

  -- one instruction, which is a turn
  pub did_more : {A : Type 0} {ends : A → World → Next} {good : A → World → Type 0} {n b w0 : ℕ} {ran : Ran A} (s : machine.State) (p : PlacedOperation)
      → placed_in x s.now.method s.now.at ≡ Some p → Stands x classes frames n b (act x frames p.operation p.next s) ends good w0 ran → Stands x classes frames (suc n) (suc b) (Goes s) ends good w0 ran
  did_more {ends = ends} {good = good} {n = n} {b = b} {w0 = w0} {ran = ran} s p h m =
      record { got = one_r _ _ _ _ _ s ran (subst (λ o. Got x classes frames n b (given o (λ p. act x frames p.operation p.next s)) ends good w0 ran) (sym h) m.got) }

  -- one instruction
  pub did : {A : Type 0} {ends : A → World → Next} {good : A → World → Type 0} {n b w0 : ℕ} {ran : Ran A} (s : machine.State) (p : PlacedOperation)
      → placed_in x s.now.method s.now.at ≡ Some p → Stands x classes frames n b (act x frames p.operation p.next s) ends good w0 ran → Stands x classes frames n (suc b) (Goes s) ends good w0 ran
  did {n = n} {b = b} s p h m = more n (suc b) (did_more s p h m) (omega arith) (omega arith)

  -- the same place, written otherwise
  pub at_same : {A : Type 0} {from from' : Next} {ends : A → World → Next} {good : A → World → Type 0} {n b w0 : ℕ} {ran : Ran A}
      → from ≡ from' → Stands x classes frames n b from' ends good w0 ran → Stands x classes frames n b from ends good w0 ran
  at_same {ends = ends} {good = good} {n = n} {b = b} {w0 = w0} {ran = ran} e m = subst (λ (o : Next). Stands x classes frames n b o ends good w0 ran) (sym e) m

  -- the same meaning, written otherwise
  pub meant_same : {A : Type 0} {from : Next} {ends : A → World → Next} {good : A → World → Type 0} {n b w0 : ℕ} {ran ran' : Ran A}
      → ran ≡ ran' → Stands x classes frames n b from ends good w0 ran' → Stands x classes frames n b from ends good w0 ran
  meant_same {from = from} {ends = ends} {good = good} {n = n} {b = b} {w0 = w0} e m = subst (λ ran. Stands x classes frames n b from ends good w0 ran) (sym e) m
