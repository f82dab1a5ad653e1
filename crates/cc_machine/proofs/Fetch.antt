-- What stands at an offset of checked code.
use Rattle.std.proofs.Common.{◌≡◌, ◌≢◌, ◌+◌, ℕ, List, length, refl, sym, ap, subst, ◌∙◌}
use Rattle.std.specs.Prelude.{Bool, true, false, Option, Some, None}
use Rattle.std.proofs.lemmas.Bool.{false≢true}
use Rattle.cc_cil.specs.declared.body.Body.{Body}
use Rattle.cc_cil.specs.declared.instruction.Instruction.{Instruction}
use Rattle.cc_cil.specs.declared.action.Action.{Action}
use Rattle.cc_cil.specs.declared.action.Action.TheVariants.{Return}
use Rattle.cc_cil.specs.Instructions.{spelling}
use Rattle.cc_cil.specs.Steps.{Stands, Checks, action_of, height_at, height_behind, is_return, ends, goes, wrong, unread}
use Rattle.cc_machine.specs.Machine.{IsFetched}
use Rattle.cc_machine.proofs.OneWay.{stands_one, none_some, some_is}

-- some instruction stands where no offset is wrong
pub some_stands : {code : List ℕ} {most at height : ℕ} → Checks code most at height None → (i : Instruction) × Stands code at i
some_stands (ends i s r h e) = (i, s)
some_stands (goes i s h l more) = (i, s)

Has : List ℕ → ℕ → ℕ → ℕ → Option Action → ℕ → Type 0
Has code most height next a behind = (action : Action) × (a ≡ Some action) × (height_behind most action height ≡ Some behind) × (action ≢ Return → Checks code most next behind None)

returning : (code : List ℕ) (most height next : ℕ) (a : Option Action) → is_return a ≡ true → height_at most a height ≡ Some 0 → Has code most height next a 0
unfolding Has
returning code most height next (Some Return) r h = (Return, refl, h, λ n. absurd (n refl))
returning code most height next None r h = absurd (false≢true r)
returning code most height next (Some _) r h = absurd (false≢true r)

going : (code : List ℕ) (most height next behind : ℕ) (a : Option Action) → height_at most a height ≡ Some behind → Checks code most next behind None → Has code most height next a behind
unfolding Has
going code most height next behind None h more = absurd (none_some None behind refl h)
going code most height next behind (Some action) h more = (action, refl, h, λ n. more)

pub has : {code : List ℕ} {most at height : ℕ} → Checks code most at height None → (i : Instruction) → Stands code at i
    → (behind : ℕ) × (action : Action) × (action_of i ≡ Some action) × (height_behind most action height ≡ Some behind) × (action ≢ Return → Checks code most (at + length (spelling i)) behind None)
unfolding Has
has {code} {most} {at} {height} (ends j s r h e) i p =
    let same = stands_one code at i j p s in
    let found = returning code most height (at + length (spelling j)) (action_of j) r h in
    (0, found.0, ap action_of same ∙ found.1, found.2, λ n. subst (λ x. Checks code most (at + length (spelling x)) 0 None) (sym same) (found.3 n))
has {code} {most} {at} {height} (goes {next = behind} j s h l more) i p =
    let same = stands_one code at i j p s in
    let found = going code most height (at + length (spelling j)) behind (action_of j) h more in
    (behind, found.0, ap action_of same ∙ found.1, found.2, λ n. subst (λ x. Checks code most (at + length (spelling x)) behind None) (sym same) (found.3 n))

pub fetched : (body : Body) (at height next : ℕ) (i : Instruction) (action : Action) → Checks body.code body.max_stack at height None → Stands body.code at i → action_of i ≡ Some action → next ≡ at + length (spelling i)
    → IsFetched body at height action next
fetched body at height next i action c p a n =
    let all = has c i p in
    let one : all.1 ≡ action = some_is all.1 action (sym all.2 ∙ a) in
    (i, all.0, p, a, n, subst (λ x. height_behind body.max_stack x height ≡ Some all.0) one all.3, λ r. subst (λ m. Checks body.code body.max_stack m all.0 None) (sym n) (all.4 (subst (λ x. x ≢ Return) (sym one) r)))
