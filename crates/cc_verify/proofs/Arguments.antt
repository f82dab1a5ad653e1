-- Arguments taken from a stack, from the last one on.
use Rattle.std.proofs.Common.{◌≡◌, ℕ, ◌+◌, ◌<◌, List, [], ◌∷◌, length, take, sym, ap, ◌∙◌}
use Rattle.std.specs.Prelude.{true, false, Option, Some, None, get_or, reverse, if◌then◌else◌}
use Rattle.std.proofs.lemmas.List.{take_more, reverse-append}
use Rattle.cc_verify.specs.declared.stack_type.StackType.{StackType}
use Rattle.cc_verify.specs.Transitions.{Stack, fits, pop_arguments}

module _ (parameters : List (Option StackType)) (n left : ℕ) (d : Option StackType) (stack : Stack) (all : Option Stack) (is : left ≡ n + 1) (lt : n < length parameters) (rest : pop_arguments (reverse (take left parameters)) stack ≡ all) where
  last : reverse (take left parameters) ≡ get_or parameters n d ∷ reverse (take n parameters)
  last = ap (λ k. reverse (take k parameters)) is ∙ ap reverse (take_more parameters n d lt) ∙ reverse-append (take n parameters) (get_or parameters n d ∷ [])

  from : pop_arguments (get_or parameters n d ∷ reverse (take n parameters)) stack ≡ all
  from = sym (ap (λ l. pop_arguments l stack) last) ∙ rest

  pub popped_none : stack ≡ [] → all ≡ None
  popped_none e = sym from ∙ ap (λ s. pop_arguments (get_or parameters n d ∷ reverse (take n parameters)) s) e

  step : (top : StackType) (under : Stack) → stack ≡ top ∷ under → (if fits top (get_or parameters n d) then pop_arguments (reverse (take n parameters)) under else None) ≡ all
  step top under e = sym (ap (λ s. pop_arguments (get_or parameters n d ∷ reverse (take n parameters)) s) e) ∙ from

  pub popped_off : (top : StackType) (under : Stack) → stack ≡ top ∷ under → fits top (get_or parameters n d) ≡ false → all ≡ None
  popped_off top under e f = sym (step top under e) ∙ ap (λ b. if b then pop_arguments (reverse (take n parameters)) under else None) f

  pub popped_on : (top : StackType) (under : Stack) → stack ≡ top ∷ under → fits top (get_or parameters n d) ≡ true → pop_arguments (reverse (take n parameters)) under ≡ all
  popped_on top under e f = sym (ap (λ b. if b then pop_arguments (reverse (take n parameters)) under else None) f) ∙ step top under e

pub popped_all : (parameters : List (Option StackType)) (left : ℕ) (stack : Stack) (all : Option Stack) → left ≡ 0 → pop_arguments (reverse (take left parameters)) stack ≡ all → all ≡ Some stack
popped_all parameters left stack all z rest = sym rest ∙ ap (λ k. pop_arguments (reverse (take k parameters)) stack) z
