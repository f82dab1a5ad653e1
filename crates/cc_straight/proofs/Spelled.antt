-- A text has no more tokens than the longest text has bytes.
use Rattle.std.proofs.Common.{◌≤◌, ◌^◌, inl, inr, ℕ, List, length, subst, arith}
use Rattle.std.specs.Prelude.{Ok, Err}
use Rattle.cc_tree.specs.declared.token.Token.{Token}
use Rattle.cc_tree.specs.Spelling.{Reading, Spelled}

abbrev IsTokens : Reading → Type 0
IsTokens (Ok tokens) = Unit {0}
IsTokens (Err refusal) = ⊥

pub few_tokens : (text : List ℕ) (tokens : List Token) → Spelled text (Ok tokens) → length tokens ≤ length text → length tokens ≤ 2 ^ 20
few_tokens text tokens (inl (long, e)) few = absurd (subst IsTokens e tt)
few_tokens text tokens (inr (short, spells)) few = omega (arith, short, few)
