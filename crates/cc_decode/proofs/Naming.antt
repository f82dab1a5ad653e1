-- What tokens name.
use Rattle.std.proofs.Common.{◌≡◌, ℕ, suc, List, sym, ap, subst, ◌∙◌}
use Rattle.std.specs.Prelude.{Bool, true, false, Option, Some, None, slice_get, option_map, if◌then◌else◌}
use Rattle.std.proofs.lemmas.Option.{slice_get-map, same_Some, none-some}
use Rattle.cc_execution.specs.declared.operation.FundamentalType.{FundamentalType}
use Rattle.cc_execution.specs.declared.operation.Operation.{Operation}
use Rattle.cc_execution.specs.declared.operation.Operation.TheVariants as does
use Rattle.cc_execution.specs.Operations.{Names, are_loaded, call_method, call_defined}
use Rattle.cc_decode.specs.declared.members.Members.{Members}
use Rattle.cc_decode.specs.Scope.{AreMembers}

-- the call of a method of which is known whether it may be called
abbrev call_if : Bool → ℕ → Option Operation
call_if b n = if b then Some (does.Call n) else None

by_method : (method : Option (List (Option FundamentalType))) (n : ℕ) (b : Bool) → Some b ≡ option_map are_loaded method → call_if b n ≡ call_method method n
by_method None n b e = absurd (none-some b (sym e))
by_method (Some parameters) n b e = ap (λ t. call_if t n) (same_Some b (are_loaded parameters) e)

by_row : (names : Names) (members : Members) (row n : ℕ) (b : Bool) → AreMembers names members → row ≡ suc n → Some b ≡ slice_get members.callable n → call_if b n ≡ call_defined names row
by_row names members row n b h is e =
    let known : Some b ≡ option_map are_loaded (slice_get names.methods n) = e ∙ ap (λ l. slice_get l n) h.callable ∙ slice_get-map are_loaded names.methods n in
    subst (λ k. call_if b n ≡ call_defined names k) (sym is) (by_method (slice_get names.methods n) n b known)

pub may_call : (names : Names) (members : Members) (row n : ℕ) (b : Bool) → AreMembers names members → row ≡ suc n → Some b ≡ slice_get members.callable n → b ≡ true → Some (does.Call n) ≡ call_defined names row
may_call names members row n b h is e t = ap (λ x. call_if x n) (sym t) ∙ by_row names members row n b h is e

pub may_not_call : (names : Names) (members : Members) (row n : ℕ) (b : Bool) → AreMembers names members → row ≡ suc n → Some b ≡ slice_get members.callable n → b ≡ false → None ≡ call_defined names row
may_not_call names members row n b h is e t = ap (λ x. call_if x n) (sym t) ∙ by_row names members row n b h is e
