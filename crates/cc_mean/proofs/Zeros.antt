-- The variables of a frame, one after another.
use Rattle.std.proofs.Common.{◌≡◌, ◌∙◌, ℕ, ◌+◌, ◌<◌, length, drop, get_or, List, [], ◌∷◌, ◌++◌, Option, Some, None, refl, sym, ap, append_assoc, append-nil}
use Rattle.std.proofs.lemmas.List.{at_drop_more}
use Rattle.std.specs.Option.{option_map}
use Rattle.cc_core.specs.declared.types.CoreType.{CoreType}
use Rattle.cc_core.specs.declared.world.Value.{Value}
use Rattle.cc_core.specs.Types.{bare}
use Rattle.cc_core.specs.Numbers.{zero_of}
use Rattle.cc_core.specs.Frames.{both, zeros_of}

behind : (vs : List Value) (v : Value) (zeros : Option (List Value)) → option_map (λ z. vs ++ z) (both (Some v) zeros) ≡ option_map (λ z. (vs ++ v ∷ []) ++ z) zeros
behind vs v None = refl
behind vs v (Some zeros) = ap Some (sym (append_assoc vs (v ∷ []) zeros))

pub zero_more : (vs : List Value) (v : Value) (type : CoreType) (types : List CoreType) → zero_of (bare type) ≡ Some v
    → option_map (λ z. vs ++ z) (zeros_of (type ∷ types)) ≡ option_map (λ z. (vs ++ v ∷ []) ++ z) (zeros_of types)
zero_more vs v type types e = rw e (behind vs v (zeros_of types))

pub zero_none : (vs : List Value) (type : CoreType) (types : List CoreType) → zero_of (bare type) ≡ None → option_map (λ z. vs ++ z) (zeros_of (type ∷ types)) ≡ None
zero_none vs type types e = rw e refl

pub zero_end : (vs : List Value) → option_map (λ z. vs ++ z) (zeros_of []) ≡ Some vs
zero_end vs = ap Some (append-nil vs)

pub ruleset zero_laws = (zero_more, zero_none, zero_end)

-- one more variable in a loop over the types of the further ones
pub zero_turn : (vs : List Value) (v : Value) (types : List CoreType) (at : ℕ) (type : CoreType) → at < length types → type ≡ get_or types at type → Some v ≡ zero_of (bare type)
    → option_map (λ z. (vs ++ v ∷ []) ++ z) (zeros_of (drop (at + 1) types)) ≡ option_map (λ z. vs ++ z) (zeros_of (drop at types))
zero_turn vs v types at type h is e =
    sym (at_drop_more (λ (rest : List CoreType). option_map (λ z. vs ++ z) (zeros_of rest)) types at type h
    ∙ ap (λ (first : CoreType). option_map (λ z. vs ++ z) (zeros_of (first ∷ drop (at + 1) types))) (sym is)
    ∙ zero_more vs v type (drop (at + 1) types) (sym e))
