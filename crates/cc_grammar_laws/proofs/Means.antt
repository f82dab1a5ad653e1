-- What a configuration of the automaton means: the tokens that are left are spelled as what is expected, and give the last values.
use Rattle.std.proofs.Common.{◌≡◌, List, [], ◌∷◌, ◌≤◌}
use Rattle.std.specs.Prelude.{◌⊎◌}
use Rattle.cc_tree.specs.Terminals.{Classified, at, letters}
use Rattle.cc_table.specs.declared.symbols.Sort.TheVariants as o
use Rattle.cc_table.specs.declared.symbols.Action.TheVariants as a
use Rattle.cc_table.specs.declared.symbols.Input.{Input}
use Rattle.cc_table.specs.declared.symbols.Input.TheVariants as i
use Rattle.cc_table.specs.declared.symbols.Symbol.{Symbol}
use Rattle.cc_table.specs.declared.symbols.Symbol.TheVariants.{Non, Act, Back}
use Rattle.cc_pushdown.specs.declared.value.Value.{Value}
use Rattle.cc_pushdown.specs.Values.{below, top, top_head}
use Rattle.cc_pushdown.specs.Build.{build}
use Rattle.cc_pushdown.specs.Machine.{Fed, fed, Config, At, Bad, Done}
use Rattle.cc_grammar_laws.proofs.Stands.{StandsOne, Ahead, Stands}
use Rattle.cc_grammar_laws.proofs.TypeParts.{Part}

-- the first token has the name of the class whose members are read
abbrev pub IsOwn : List Value → List Classified → Type 0
IsOwn vs [] = ⊥
IsOwn vs (at terminal k ∷ ts) = letters k.kind ≡ (top_head (below (below vs))).name.name

-- A constructor's name is put back only where it is the class's own and a member goes on with it.
abbrev pub AtName : List Symbol → (List Value → List Classified → Type 0) → List Value → List Classified → Type 0
AtName (Non o.MemberRest ∷ more) K vs ts = IsOwn vs ts → K vs ts
AtName _ K vs ts = Unit {0}

abbrev pub AtInput : Input → List Symbol → (List Value → List Classified → Type 0) → List Value → List Classified → Type 0
AtInput i.ConstructorName more K vs ts = AtName more K vs ts
AtInput _ more K vs ts = K vs ts

-- what follows the class's own name at the beginning of a member
abbrev pub AtOwn : List Symbol → (List Value → List Classified → Type 0) → List Value → List Classified → Type 0
AtOwn (Non o.MemberRest ∷ more) K vs ts = K vs ts
AtOwn _ K vs ts = Unit {0}

-- Behind the rest of a binary expression of a tight level stands the rest of a looser one, which takes any operator from `<` on.
abbrev pub Settled : List Symbol → Type 0
Settled (Act a.MakeBinary ∷ more) = Settled more
Settled (Non (o.BinaryRest n) ∷ more) = (n ≤ 7) ⊎ Settled more
Settled _ = ⊥

module _ (last : List Value) where
  -- The tokens are spelled as what is expected, and give the last values.
  abbrev pub Means : List Symbol → List Value → List Classified → Type 0
  Means [] vs ts = (ts ≡ []) × (vs ≡ last)
  Means (Act action ∷ more) vs ts = Means more (build action vs) ts
  Means (Back input ∷ more) vs ts = (us : List Classified) → StandsOne input (top vs) us ts → AtInput input more (Means more) (below vs) us
  Means (Non o.OwnTypeEnd ∷ more) vs ts = Part o.OwnTypeEnd vs ts (AtOwn more (Means more))
  Means (Non o.OwnNamespaceEnd ∷ more) vs ts = Part o.OwnNamespaceEnd vs ts (AtOwn more (Means more))
  Means (Non o.OwnPropertyTypeEnd ∷ more) vs ts = Part o.OwnPropertyTypeEnd vs ts (AtOwn more (Means more))
  Means (Non o.OwnPropertyNamespaceEnd ∷ more) vs ts = Part o.OwnPropertyNamespaceEnd vs ts (AtOwn more (Means more))
  Means (Non (o.BinaryRest n) ∷ more) vs ts = Settled (Non (o.BinaryRest n) ∷ more) → Part (o.BinaryRest n) vs ts (Means more)
  Means (Non sort ∷ more) vs ts = Part sort vs ts (Means more)

  abbrev pub MeansFed : List Symbol → List Value → List Fed → List Classified → Type 0
  MeansFed more vs [] ts = Means more vs ts
  MeansFed more vs (fed input value ∷ fs) ts = AtInput input more (Means more) vs ts

  abbrev pub Meaning : Config → Type 0
  Meaning (At more vs fs) = (ts : List Classified) → Stands fs ts → MeansFed more vs fs ts
  Meaning (Bad fs) = ⊥
  Meaning (Done vs) = vs ≡ last

  -- Where no constructor's name is first, it is what is expected that is spelled.
  pub plain : (more : List Symbol) (vs : List Value) (fs : List Fed) (ts : List Classified) → Ahead fs ts → MeansFed more vs fs ts → Means more vs ts
  plain more vs [] ts h m = m
  plain more vs (fed i.ConstructorName value ∷ fs) ts h m = absurd h
  plain more vs (fed _ value ∷ fs) ts h m = m

  pub ahead_stands : (fs : List Fed) (ts : List Classified) → Ahead fs ts → Stands fs ts
  ahead_stands [] ts h = h
  ahead_stands (fed i.ConstructorName value ∷ fs) ts h = absurd h
  ahead_stands (fed _ value ∷ fs) ts h = h

  -- What follows an input that is taken.
  pub after : (more : List Symbol) (vs : List Value) (fs : List Fed) (ts : List Classified) → Ahead fs ts → Meaning (At more vs fs) → Means more vs ts
  after more vs fs ts h m = plain more vs fs ts h (m ts (ahead_stands fs ts h))
