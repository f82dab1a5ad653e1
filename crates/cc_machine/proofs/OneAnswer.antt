-- A check has one answer.
use Rattle.std.proofs.Common.{◌≡◌, ◌+◌, ℕ, List, length, refl, sym, ap, subst, ◌∙◌}
use Rattle.std.specs.Prelude.{Bool, true, false, Option, Some, None, ◌&&◌, ◌==◌}
use Rattle.std.proofs.lemmas.Bool.{false≢true, eq-eqb}
use Rattle.cc_cil.specs.declared.instruction.Instruction.{Instruction}
use Rattle.cc_cil.specs.declared.action.Action.{Action}
use Rattle.cc_cil.specs.Instructions.{spelling}
use Rattle.cc_cil.specs.Steps.{Stands, Checks, action_of, height_at, is_return, ends, goes, wrong, unread}
use Rattle.cc_machine.proofs.OneWay.{stands_one, none_some, some_is}

module _ (code : List ℕ) (most at height : ℕ) where
  -- the height behind an instruction is one
  heights : (i j : Instruction) → i ≡ j → (a b : Option ℕ) → height_at most (action_of i) height ≡ a → height_at most (action_of j) height ≡ b → a ≡ b
  heights i j same a b e f = sym e ∙ ap (λ x. height_at most (action_of x) height) same ∙ f

  not_last : (i j : Instruction) → i ≡ j → is_return (action_of i) ≡ true → at + length (spelling i) ≡ length code → (is_return (action_of j) && (at + length (spelling j) == length code)) ≡ false → ⊥
  not_last i j same r e f =
      let g : (is_return (action_of i) && (at + length (spelling i) == length code)) ≡ false = subst (λ x. (is_return (action_of x) && (at + length (spelling x) == length code)) ≡ false) (sym same) f in
      false≢true (sym g ∙ rw r (eq-eqb (at + length (spelling i)) (length code) e))

pub one_answer : {code : List ℕ} {most at height : ℕ} {a b : Option ℕ} → Checks code most at height a → Checks code most at height b → a ≡ b
one_answer (ends i s r h e) (ends j t q g f) = refl
one_answer {code = code} {most = most} {at = at} {height = height} (ends i s r h e) (goes j t g l more) = absurd (not_last code most at height i j (stands_one code at i j s t) r e l)
one_answer {code = code} {most = most} {at = at} {height = height} (ends i s r h e) (wrong j t g) = absurd (none_some None 0 refl (sym (heights code most at height i j (stands_one code at i j s t) (Some 0) None h g)))
one_answer (ends i s r h e) (unread none) = absurd (none i s)
one_answer {code = code} {most = most} {at = at} {height = height} (goes i s h l more) (ends j t q g f) = absurd (not_last code most at height j i (stands_one code at j i t s) q f l)
one_answer {code = code} {most = most} {at = at} {height = height} {b = b} (goes {next = n} i s h l more) (goes {next = m} j t g k rest) =
    let same = stands_one code at i j s t in
    let heights_same : n ≡ m = some_is n m (heights code most at height i j same (Some n) (Some m) h g) in
    one_answer more (subst (λ x. Checks code most (at + length (spelling x)) n b) (sym same) (subst (λ x. Checks code most (at + length (spelling j)) x b) (sym heights_same) rest))
one_answer {code = code} {most = most} {at = at} {height = height} (goes {next = n} i s h l more) (wrong j t g) = absurd (none_some None n refl (sym (heights code most at height i j (stands_one code at i j s t) (Some n) None h g)))
one_answer (goes i s h l more) (unread none) = absurd (none i s)
one_answer {code = code} {most = most} {at = at} {height = height} (wrong i s h) (ends j t q g f) = absurd (none_some None 0 refl (heights code most at height i j (stands_one code at i j s t) None (Some 0) h g))
one_answer {code = code} {most = most} {at = at} {height = height} (wrong i s h) (goes {next = n} j t g k rest) = absurd (none_some None n refl (heights code most at height i j (stands_one code at i j s t) None (Some n) h g))
one_answer (wrong i s h) (wrong j t g) = refl
one_answer (wrong i s h) (unread none) = refl
one_answer (unread none) (ends j t q g f) = absurd (none j t)
one_answer (unread none) (goes j t g k rest) = absurd (none j t)
one_answer (unread none) (wrong j t g) = refl
one_answer (unread none) (unread other) = refl
