-- What a run ends with is no less deep than what can come after a token.
use Rattle.std.proofs.Common.{◌≡◌, ℕ, ◌+◌, ◌≤◌, max, refl, sym, ap, ◌∙◌, subst, List, [], ◌∷◌, ◌++◌, append_assoc, append-nil, map, drop, Some, None, Bool, true, false, cond, ◌||◌, true≢false, arith, zero-le, le_refl}
use Rattle.cc_tree.specs.declared.type_name.TypeName.{TypeName, TypeName-F, fold_out-TypeName}
use Rattle.cc_tree.specs.declared.type_name.TypeName.TheOpen as to
use Rattle.cc_tree.specs.Depth.{type_layer, type_depth}
use Rattle.cc_tree.specs.declared.terminal.Terminal.TheVariants as t
use Rattle.cc_tree.specs.declared.terminal.Sign.TheVariants as s
use Rattle.cc_tree.specs.declared.expression.BinaryOperator.TheVariants as b
use Rattle.cc_tree.specs.Operators.{level}
use Rattle.cc_table.specs.declared.symbols.Sort.{Sort}
use Rattle.cc_table.specs.declared.symbols.Sort.TheVariants as o
use Rattle.cc_table.specs.declared.symbols.Action.TheVariants as a
use Rattle.cc_table.specs.declared.symbols.Input.{Input}
use Rattle.cc_table.specs.declared.symbols.Input.TheVariants as i
use Rattle.cc_table.specs.declared.symbols.Pattern.TheVariants as p
use Rattle.cc_table.specs.declared.symbols.Symbol.{Symbol}
use Rattle.cc_table.specs.declared.symbols.Symbol.TheVariants.{Non, Act, Back}
use Rattle.cc_table.specs.declared.symbols.Take.TheVariants as take
use Rattle.cc_table.specs.Choice.{accepts, accepts_one}
use Rattle.cc_pushdown.specs.declared.value.Value.{Value}
use Rattle.cc_pushdown.specs.declared.value.Value.TheVariants as v
use Rattle.cc_pushdown.specs.Values.{below, top, HasType, HasPropertyType}
use Rattle.cc_pushdown.specs.Build.{build}
use Rattle.cc_pushdown.specs.Machine.{Fed, fed, Config, At, Done, chosen, touching_seen, put, Comes}
use Rattle.cc_grammar_laws.specs.Kinds.{Has, input_kind}
use Rattle.cc_grammar_laws.specs.Heights.{height, is_tree, waiting, Heights, heights, heights_of, tallest, raised, raised_all, least_depth, joined, after_less, name_less, member_less, new_less, after_greater, least_to_come}
use Rattle.cc_grammar_laws.proofs.KindsKept.{Typed, is_ready}
use Rattle.cc_grammar_laws.proofs.LeastSketched.{NoHigher, AllNoHigher, no_higher_same, tallest_grows, drop_grows, depth_grows, raised-append}
use Rattle.cc_grammar_laws.proofs.LeastJoined.{AtMost, least_ends, lower_ends, step_ends, above_ends, joined_grows, less_joins, greater_joins, shift_joins, joined_ends}
use Rattle.cc_grammar_laws.proofs.HeightsOfInputs.{same_tree}
use Rattle.cc_grammar_laws.proofs.HeightsOfActions.{heights_kept}

-- A type is a node.
layer_some : (layer : TypeName-F ℕ) → 1 ≤ type_layer layer
layer_some (to.Fundamental of span) = omega arith
layer_some (to.Named path name arguments span) = omega arith
layer_some (to.Marked core is_handle is_tracking span) = omega arith

type_some : (tree : TypeName) → 1 ≤ type_depth tree
type_some tree = subst (λ n. 1 ≤ n) (sym (fold_out-TypeName ℕ type_layer tree)) (layer_some _)

has_type : (value : Value) (vs : List Value) → HasType (value ∷ vs) → 1 ≤ height value
has_type (v.Type value) vs h = type_some value.tree
has_type _ vs h = absurd h

has_property_type : (value : Value) (vs : List Value) → HasPropertyType (value ∷ vs) → 1 ≤ height value
has_property_type (v.PropertyType value) vs h = type_some value.tree
has_property_type _ vs h = absurd h

tree_some : (input : Input) (value : Value) (vs : List Value) → is_tree input ≡ true → Has (input_kind input) (value ∷ vs) → 1 ≤ height value
tree_some i.CoreType value vs e h = has_type value vs h
tree_some i.OperandType value vs e h = has_type value vs h
tree_some i.PropertyType value vs e h = has_property_type value vs h
tree_some _ value vs e h = absurd (true≢false (sym e))

one_of : (test : Bool) → (test || false) ≡ true → test ≡ true
one_of true h = refl
one_of false h = h

core_is_tree : (input : Input) → accepts_one (p.CoreType ∷ []) input ≡ true → is_tree input ≡ true
core_is_tree input h = sym (same_tree p.CoreType input (one_of (accepts p.CoreType input) h))

heights_below : (vs : List Value) → map height (below vs) ≡ drop 1 (map height vs)
heights_below [] = refl
heights_below (value ∷ vs) = refl

-- Higher values leave no less after a `<`.
less_grows : (low bare taken : ℕ) (more : List Symbol) (h k : Heights) → low ≤ bare → AllNoHigher h k → after_less low taken more h ≤ after_less bare taken more k
less_grows low bare taken more h k le g =
    let wait : h.pending ≤ k.pending = g.0 in
    let drops : NoHigher (drop taken h.stack) (drop taken k.stack) = drop_grows taken h.stack k.stack g.1 in
    let one : least_depth more (heights 0 (max low (max 1 h.pending + 2) ∷ drop taken h.stack)) ≤ least_depth more (heights 0 (max bare (max 1 k.pending + 2) ∷ drop taken k.stack)) =
    depth_grows more (heights 0 (max low (max 1 h.pending + 2) ∷ drop taken h.stack)) (heights 0 (max bare (max 1 k.pending + 2) ∷ drop taken k.stack)) (le_refl 0, (omega (arith, le, wait), drops)) in
    let other : joined (level b.Less) more (heights h.pending (low ∷ drop taken h.stack)) ≤ joined (level b.Less) more (heights k.pending (bare ∷ drop taken k.stack)) =
    joined_grows (level b.Less) more (heights h.pending (low ∷ drop taken h.stack)) (heights k.pending (bare ∷ drop taken k.stack)) (wait, (le, drops)) in
    omega (arith, one, other)

name_grows : (more : List Symbol) (h k : Heights) → AllNoHigher h k → name_less more h ≤ name_less more k
name_grows more h k g = less_grows 1 1 2 more h k (le_refl 1) g

member_grows : (more : List Symbol) (h k : Heights) → AllNoHigher h k → member_less more h ≤ member_less more k
member_grows more h k g =
    let l : tallest 3 (drop 1 h.stack) ≤ tallest 3 (drop 1 k.stack) = tallest_grows 3 (drop 1 h.stack) (drop 1 k.stack) (drop_grows 1 h.stack k.stack g.1) in
    less_grows (tallest 3 (drop 1 h.stack) + 1) (tallest 3 (drop 1 k.stack) + 1) 4 more h k (omega (arith, l)) g

new_grows : (more : List Symbol) (h k : Heights) → AllNoHigher h k → new_less more h ≤ new_less more k
new_grows more h k g = less_grows 2 2 3 more h k (le_refl 2) g

-- what is expected where the types are there, and where they are not
abbrev types_part : List Symbol → List Symbol
types_part tail = Non o.TypeMarks ∷ Act a.FirstType ∷ Non o.MoreTypes ∷ Non o.KeptGreater ∷ tail

abbrev name_tail : List Symbol
name_tail = Act a.MakeTypeArguments ∷ Act a.MakeNameOf ∷ []

abbrev member_tail : List Symbol
member_tail = Act a.MakeTypeArguments ∷ Act a.MakeMemberOf ∷ []

abbrev new_tail : List Symbol
new_tail = Act a.MakeApplied ∷ Non o.NewArguments ∷ []

abbrev name_acts : List Symbol
name_acts = Act a.MakeName ∷ []

abbrev member_acts : List Symbol
member_acts = Act a.MakeMember ∷ []

abbrev new_acts : List Symbol
new_acts = Act a.MakeNamed ∷ Act a.MakeNew ∷ []

-- The types, of which the first is a node, stand in a node in a node.
name_typed : (x w : ℕ) (hs : List ℕ) → 1 ≤ x → AllNoHigher (heights 0 (max 1 (max 1 x + 2) ∷ drop 2 hs)) (raised_all (types_part name_tail) (heights w (x ∷ hs)))
name_typed x w [] l = (zero-le, (omega (arith, l), tt))
name_typed x w (one ∷ []) l = (zero-le, (omega (arith, l), tt))
name_typed x w (one ∷ two ∷ hs) l = (zero-le, (omega (arith, l), no_higher_same hs))

member_typed : (x w : ℕ) (hs : List ℕ) → 1 ≤ x → AllNoHigher (heights 0 (max (tallest 3 (drop 1 hs) + 1) (max 1 x + 2) ∷ drop 4 hs)) (raised_all (types_part member_tail) (heights w (x ∷ hs)))
member_typed x w [] l = (zero-le, (omega (arith, l), tt))
member_typed x w (one ∷ []) l = (zero-le, (omega (arith, l), tt))
member_typed x w (one ∷ two ∷ []) l = (zero-le, (omega (arith, l), tt))
member_typed x w (one ∷ two ∷ three ∷ []) l = (zero-le, (omega (arith, l), tt))
member_typed x w (one ∷ two ∷ three ∷ four ∷ hs) l = (zero-le, (omega (arith, l), no_higher_same hs))

new_typed : (x w : ℕ) (hs : List ℕ) → 1 ≤ x → AllNoHigher (heights 0 (max 2 (max 1 x + 2) ∷ drop 3 hs)) (raised_all (types_part new_tail) (heights w (x ∷ hs)))
new_typed x w [] l = (zero-le, (omega (arith, l), tt))
new_typed x w (one ∷ []) l = (zero-le, (omega (arith, l), tt))
new_typed x w (one ∷ two ∷ []) l = (zero-le, (omega (arith, l), tt))
new_typed x w (one ∷ two ∷ three ∷ hs) l = (zero-le, (omega (arith, l), no_higher_same hs))

name_bare : (w : ℕ) (hs : List ℕ) → AllNoHigher (heights w (1 ∷ drop 2 hs)) (raised_all name_acts (heights w (drop 1 hs)))
name_bare w [] = (le_refl w, (omega arith, tt))
name_bare w (one ∷ []) = (le_refl w, (omega arith, tt))
name_bare w (one ∷ two ∷ hs) = (le_refl w, (omega arith, no_higher_same hs))

member_bare : (w : ℕ) (hs : List ℕ) → AllNoHigher (heights w ((tallest 3 (drop 1 hs) + 1) ∷ drop 4 hs)) (raised_all member_acts (heights w (drop 1 hs)))
member_bare w [] = (le_refl w, (omega arith, tt))
member_bare w (one ∷ []) = (le_refl w, (omega arith, tt))
member_bare w (one ∷ two ∷ []) = (le_refl w, (omega arith, tt))
member_bare w (one ∷ two ∷ three ∷ []) = (le_refl w, (omega arith, tt))
member_bare w (one ∷ two ∷ three ∷ four ∷ hs) = (le_refl w, (omega arith, no_higher_same hs))

new_bare : (w : ℕ) (hs : List ℕ) → AllNoHigher (heights w (2 ∷ drop 3 hs)) (raised_all new_acts (heights w (drop 1 hs)))
new_bare w [] = (le_refl w, (omega arith, tt))
new_bare w (one ∷ []) = (le_refl w, (omega arith, tt))
new_bare w (one ∷ two ∷ []) = (le_refl w, (omega arith, tt))
new_bare w (one ∷ two ∷ three ∷ hs) = (le_refl w, (omega arith, no_higher_same hs))

abbrev less_sign : Symbol
less_sign = Back (i.Token (t.Sign s.Less))

-- Where the types are not there the `<` is an operator.
without_ends : (bare taken : ℕ) (acts more : List Symbol) (vs : List Value) (fs : List Fed) → AllNoHigher (heights (waiting fs) (bare ∷ drop taken (map height vs))) (raised_all acts (heights (waiting fs) (drop 1 (map height vs))))
    → ((h : Heights) → joined (level b.Less) (acts ++ more) h ≡ joined (level b.Less) more (raised_all acts h)) → AtMost (after_less bare taken more (heights_of vs fs)) (At (less_sign ∷ (acts ++ more)) vs fs)
without_ends bare taken acts more vs fs g same =
    let w : ℕ = waiting fs in
    let hs : List ℕ = map height vs in
    let low : joined (level b.Less) more (heights w (bare ∷ drop taken hs)) ≤ joined (level b.Less) more (raised_all acts (heights w (drop 1 hs))) =
    joined_grows (level b.Less) more (heights w (bare ∷ drop taken hs)) (raised_all acts (heights w (drop 1 hs))) g in
    let e : joined (level b.Less) (acts ++ more) (heights w (map height (below vs))) ≡ joined (level b.Less) more (raised_all acts (heights w (drop 1 hs))) =
    ap (λ ns. joined (level b.Less) (acts ++ more) (heights w ns)) (heights_below vs) ∙ same (heights w (drop 1 hs)) in
    step_ends (after_less bare taken more (heights_of vs fs)) (less_sign ∷ (acts ++ more)) vs fs
    (lower_ends (after_less bare taken more (heights_of vs fs)) (joined (level b.Less) (acts ++ more) (heights w (map height (below vs)))) (At (acts ++ more) (below vs) (fed (i.Token (t.Sign s.Less)) (top vs) ∷ fs)) (omega (arith, low, e))
    (joined_ends (i.Token (t.Sign s.Less)) b.Less less_joins (top vs) (acts ++ more) (below vs) fs))

-- Where the types are there the node has them.
with_ends : (bare taken : ℕ) (part more : List Symbol) (vs : List Value) (input : Input) (value : Value) (fs : List Fed) → accepts_one (p.CoreType ∷ []) input ≡ true → Has (input_kind input) (value ∷ vs)
    → ((x w : ℕ) → 1 ≤ x → AllNoHigher (heights 0 (max bare (max 1 x + 2) ∷ drop taken (map height vs))) (raised_all part (heights w (x ∷ map height vs))))
    → AtMost (after_less bare taken more (heights_of vs (fed input value ∷ fs))) (At (part ++ more) (value ∷ vs) fs)
with_ends bare taken part more vs input value fs accepted has g =
    let hs : List ℕ = map height vs in
    let x : ℕ = height value in
    let w : ℕ = waiting fs in
    let some : 1 ≤ x = tree_some input value vs (core_is_tree input accepted) has in
    let waits : cond (is_tree input) x 0 ≡ x = ap (λ test. cond test x 0) (core_is_tree input accepted) in
    let low : least_depth more (heights 0 (max bare (max 1 x + 2) ∷ drop taken hs)) ≤ least_depth more (raised_all part (heights w (x ∷ hs))) =
    depth_grows more (heights 0 (max bare (max 1 x + 2) ∷ drop taken hs)) (raised_all part (heights w (x ∷ hs))) (g x w some) in
    let same : least_depth (part ++ more) (heights w (x ∷ hs)) ≡ least_depth more (raised_all part (heights w (x ∷ hs))) = ap (λ k. tallest 1 k.stack) (raised-append part more (heights w (x ∷ hs))) in
    lower_ends (after_less bare taken more (heights_of vs (fed input value ∷ fs))) (least_depth (part ++ more) (heights w (x ∷ hs))) (At (part ++ more) (value ∷ vs) fs)
    (subst (λ n. after_less bare taken more (heights n hs) ≤ least_depth (part ++ more) (heights w (x ∷ hs))) (sym waits) (omega (arith, low, same)))
    (least_ends (At (part ++ more) (value ∷ vs) fs))

name_ends : (more : List Symbol) (vs : List Value) (fs : List Fed) → AtMost (name_less more (heights_of vs fs)) (At (Non o.NameTypes ∷ more) vs fs)
name_ends more vs [] = step_ends (name_less more (heights_of vs [])) (Non o.NameTypes ∷ more) vs [] (without_ends 1 2 name_acts more vs [] (name_bare 0 (map height vs)) (λ h. refl))
name_ends more vs (fed input value ∷ fs) = λ typed.
    step_ends (name_less more (heights_of vs (fed input value ∷ fs))) (Non o.NameTypes ∷ more) vs (fed input value ∷ fs) (go (accepts_one (p.CoreType ∷ []) input) refl (typed.1.0 vs)) typed
  where
    go : (test : Bool) → accepts_one (p.CoreType ∷ []) input ≡ test → Has (input_kind input) (value ∷ vs)
        → AtMost (name_less more (heights_of vs (fed input value ∷ fs))) (put (chosen (cond test (Some (take.Keep, types_part name_tail)) None)) o.NameTypes more vs input value fs)
    go true e has = with_ends 1 2 (types_part name_tail) more vs input value fs e has (λ x w l. name_typed x w (map height vs) l)
    go false e has = without_ends 1 2 name_acts more vs (fed input value ∷ fs) (name_bare (waiting (fed input value ∷ fs)) (map height vs)) (λ h. refl)

member_ends : (more : List Symbol) (vs : List Value) (fs : List Fed) → AtMost (member_less more (heights_of vs fs)) (At (Non o.MemberTypes ∷ more) vs fs)
member_ends more vs [] = step_ends (member_less more (heights_of vs [])) (Non o.MemberTypes ∷ more) vs [] (without_ends (tallest 3 (drop 1 (map height vs)) + 1) 4 member_acts more vs [] (member_bare 0 (map height vs)) (λ h. refl))
member_ends more vs (fed input value ∷ fs) = λ typed.
    step_ends (member_less more (heights_of vs (fed input value ∷ fs))) (Non o.MemberTypes ∷ more) vs (fed input value ∷ fs) (go (accepts_one (p.CoreType ∷ []) input) refl (typed.1.0 vs)) typed
  where
    go : (test : Bool) → accepts_one (p.CoreType ∷ []) input ≡ test → Has (input_kind input) (value ∷ vs)
        → AtMost (member_less more (heights_of vs (fed input value ∷ fs))) (put (chosen (cond test (Some (take.Keep, types_part member_tail)) None)) o.MemberTypes more vs input value fs)
    go true e has = with_ends (tallest 3 (drop 1 (map height vs)) + 1) 4 (types_part member_tail) more vs input value fs e has (λ x w l. member_typed x w (map height vs) l)
    go false e has = without_ends (tallest 3 (drop 1 (map height vs)) + 1) 4 member_acts more vs (fed input value ∷ fs) (member_bare (waiting (fed input value ∷ fs)) (map height vs)) (λ h. refl)

new_ends : (more : List Symbol) (vs : List Value) (fs : List Fed) → AtMost (new_less more (heights_of vs fs)) (At (Non o.NewTypes ∷ more) vs fs)
new_ends more vs [] = step_ends (new_less more (heights_of vs [])) (Non o.NewTypes ∷ more) vs [] (without_ends 2 3 new_acts more vs [] (new_bare 0 (map height vs)) (λ h. refl))
new_ends more vs (fed input value ∷ fs) = λ typed.
    step_ends (new_less more (heights_of vs (fed input value ∷ fs))) (Non o.NewTypes ∷ more) vs (fed input value ∷ fs) (go (accepts_one (p.CoreType ∷ []) input) refl (typed.1.0 vs)) typed
  where
    go : (test : Bool) → accepts_one (p.CoreType ∷ []) input ≡ test → Has (input_kind input) (value ∷ vs)
        → AtMost (new_less more (heights_of vs (fed input value ∷ fs))) (put (chosen (cond test (Some (take.Keep, types_part new_tail)) None)) o.NewTypes more vs input value fs)
    go true e has = with_ends 2 3 (types_part new_tail) more vs input value fs e has (λ x w l. new_typed x w (map height vs) l)
    go false e has = without_ends 2 3 new_acts more vs (fed input value ∷ fs) (new_bare (waiting (fed input value ∷ fs)) (map height vs)) (λ h. refl)

-- After the `<` types begin, or it is an operator.
less_low : (vs : List Value) (fs : List Fed) → AllNoHigher (heights 0 (map height vs)) (heights_of vs fs)
less_low vs fs = (zero-le, no_higher_same (map height vs))

begins_types : (vs : List Value) (fs : List Fed) → AllNoHigher (heights 0 (map height vs)) (raised (Non o.TypeOrName) (heights_of vs fs))
begins_types vs fs = (zero-le, no_higher_same (map height vs))

module _ (sort : Sort) (more : List Symbol) (F : Heights → ℕ) (grows : (h k : Heights) → AllNoHigher h k → F h ≤ F k) (base : (vs : List Value) (fs : List Fed) → AtMost (F (heights_of vs fs)) (At (Non sort ∷ more) vs fs)) where
  types_end : (vs : List Value) (fs : List Fed) → AtMost (F (heights 0 (map height vs))) (At (Non o.TypeOrName ∷ Non sort ∷ more) vs fs)
  types_end vs fs typed ws q =
      let inner : F (raised (Non o.TypeOrName) (heights_of vs fs)) ≤ tallest 1 (map height ws) = above_ends F grows (Non sort ∷ more) base q (Non o.TypeOrName ∷ []) vs fs refl typed ws refl in
      let low : F (heights 0 (map height vs)) ≤ F (raised (Non o.TypeOrName) (heights_of vs fs)) = grows (heights 0 (map height vs)) (raised (Non o.TypeOrName) (heights_of vs fs)) (begins_types vs fs) in
      omega (arith, inner, low)

  lower_less : (vs : List Value) (fs : List Fed) (c : Config) → AtMost (F (heights_of vs fs)) c → AtMost (F (heights 0 (map height vs))) c
  lower_less vs fs c f = lower_ends (F (heights 0 (map height vs))) (F (heights_of vs fs)) c (grows (heights 0 (map height vs)) (heights_of vs fs) (less_low vs fs)) f

after_name_ends : (more : List Symbol) (vs : List Value) (fs : List Fed) → AtMost (name_less more (heights 0 (map height vs))) (At (Non o.AfterNameLess ∷ more) vs fs)
after_name_ends more vs [] = step_ends (name_less more (heights_of vs [])) (Non o.AfterNameLess ∷ more) vs [] (without_ends 1 2 name_acts more vs [] (name_bare 0 (map height vs)) (λ h. refl))
after_name_ends more vs (fed input value ∷ fs) =
    step_ends (name_less more (heights 0 (map height vs))) (Non o.AfterNameLess ∷ more) vs (fed input value ∷ fs) (go (accepts_one (p.TypeOrName ∷ []) input))
  where
    go : (test : Bool) → AtMost (name_less more (heights 0 (map height vs))) (put (chosen (cond test (Some (take.Look, Non o.TypeOrName ∷ Non o.NameTypes ∷ [])) None)) o.AfterNameLess more vs input value fs)
    go true = types_end o.NameTypes more (name_less more) (name_grows more) (name_ends more) vs (fed input value ∷ fs)
    go false = lower_less o.NameTypes more (name_less more) (name_grows more) (name_ends more) vs (fed input value ∷ fs) (At (less_sign ∷ (name_acts ++ more)) vs (fed input value ∷ fs))
        (without_ends 1 2 name_acts more vs (fed input value ∷ fs) (name_bare (waiting (fed input value ∷ fs)) (map height vs)) (λ h. refl))

after_member_ends : (more : List Symbol) (vs : List Value) (fs : List Fed) → AtMost (member_less more (heights 0 (map height vs))) (At (Non o.AfterMemberLess ∷ more) vs fs)
after_member_ends more vs [] = step_ends (member_less more (heights_of vs [])) (Non o.AfterMemberLess ∷ more) vs [] (without_ends (tallest 3 (drop 1 (map height vs)) + 1) 4 member_acts more vs [] (member_bare 0 (map height vs)) (λ h. refl))
after_member_ends more vs (fed input value ∷ fs) =
    step_ends (member_less more (heights 0 (map height vs))) (Non o.AfterMemberLess ∷ more) vs (fed input value ∷ fs) (go (accepts_one (p.TypeOrName ∷ []) input))
  where
    go : (test : Bool) → AtMost (member_less more (heights 0 (map height vs))) (put (chosen (cond test (Some (take.Look, Non o.TypeOrName ∷ Non o.MemberTypes ∷ [])) None)) o.AfterMemberLess more vs input value fs)
    go true = types_end o.MemberTypes more (member_less more) (member_grows more) (member_ends more) vs (fed input value ∷ fs)
    go false = lower_less o.MemberTypes more (member_less more) (member_grows more) (member_ends more) vs (fed input value ∷ fs) (At (less_sign ∷ (member_acts ++ more)) vs (fed input value ∷ fs))
        (without_ends (tallest 3 (drop 1 (map height vs)) + 1) 4 member_acts more vs (fed input value ∷ fs) (member_bare (waiting (fed input value ∷ fs)) (map height vs)) (λ h. refl))

after_new_ends : (more : List Symbol) (vs : List Value) (fs : List Fed) → AtMost (new_less more (heights 0 (map height vs))) (At (Non o.AfterNewLess ∷ more) vs fs)
after_new_ends more vs [] = step_ends (new_less more (heights_of vs [])) (Non o.AfterNewLess ∷ more) vs [] (without_ends 2 3 new_acts more vs [] (new_bare 0 (map height vs)) (λ h. refl))
after_new_ends more vs (fed input value ∷ fs) =
    step_ends (new_less more (heights 0 (map height vs))) (Non o.AfterNewLess ∷ more) vs (fed input value ∷ fs) (go (accepts_one (p.TypeOrName ∷ []) input))
  where
    go : (test : Bool) → AtMost (new_less more (heights 0 (map height vs))) (put (chosen (cond test (Some (take.Look, Non o.TypeOrName ∷ Non o.NewTypes ∷ [])) None)) o.AfterNewLess more vs input value fs)
    go true = types_end o.NewTypes more (new_less more) (new_grows more) (new_ends more) vs (fed input value ∷ fs)
    go false = lower_less o.NewTypes more (new_less more) (new_grows more) (new_ends more) vs (fed input value ∷ fs) (At (less_sign ∷ (new_acts ++ more)) vs (fed input value ∷ fs))
        (without_ends 2 3 new_acts more vs (fed input value ∷ fs) (new_bare (waiting (fed input value ∷ fs)) (map height vs)) (λ h. refl))

-- A `>` between operands is an operator, or the first sign of one.
relational_ends : (more : List Symbol) (vs : List Value) (fs : List Fed) → AtMost (after_greater more (drop 1 (map height vs))) (At (Back i.RelationalGreater ∷ more) vs fs)
relational_ends more vs fs =
    let hs : List ℕ = map height vs in
    let low : joined (level b.Greater) more (heights 0 (drop 1 hs)) ≤ joined (level b.Greater) more (heights (waiting fs) (map height (below vs))) =
    subst (λ ns. joined (level b.Greater) more (heights 0 (drop 1 hs)) ≤ joined (level b.Greater) more (heights (waiting fs) ns)) (sym (heights_below vs))
    (joined_grows (level b.Greater) more (heights 0 (drop 1 hs)) (heights (waiting fs) (drop 1 hs)) (zero-le, no_higher_same (drop 1 hs))) in
    step_ends (after_greater more (drop 1 hs)) (Back i.RelationalGreater ∷ more) vs fs
    (lower_ends (after_greater more (drop 1 hs)) (joined (level b.Greater) more (heights (waiting fs) (map height (below vs)))) (At more (below vs) (fed i.RelationalGreater (top vs) ∷ fs)) (omega (arith, low))
    (joined_ends i.RelationalGreater b.Greater greater_joins (top vs) more (below vs) fs))

shift_ends : (more : List Symbol) (us : List Value) (hs : List ℕ) (fs : List Fed) → drop 1 (map height us) ≡ hs → AtMost (after_greater more hs) (At (Back i.ShiftRight ∷ more) us fs)
shift_ends more us hs fs e =
    let low : joined (level b.ShiftRight) more (heights 0 hs) ≤ joined (level b.ShiftRight) more (heights (waiting fs) (map height (below us))) =
    subst (λ ns. joined (level b.ShiftRight) more (heights 0 hs) ≤ joined (level b.ShiftRight) more (heights (waiting fs) ns)) (sym (heights_below us ∙ e))
    (joined_grows (level b.ShiftRight) more (heights 0 hs) (heights (waiting fs) hs) (zero-le, no_higher_same hs)) in
    step_ends (after_greater more hs) (Back i.ShiftRight ∷ more) us fs
    (lower_ends (after_greater more hs) (joined (level b.ShiftRight) more (heights (waiting fs) (map height (below us)))) (At more (below us) (fed i.ShiftRight (top us) ∷ fs)) (omega (arith, low))
    (joined_ends i.ShiftRight b.ShiftRight shift_joins (top us) more (below us) fs))

touched_ends : (more : List Symbol) (value : Value) (vs : List Value) (fs : List Fed) → AtMost (after_greater more (drop 1 (map height vs))) (At (Act a.JoinMarks ∷ Back i.ShiftRight ∷ more) (value ∷ vs) fs)
touched_ends more value vs fs typed =
    step_ends (after_greater more (drop 1 (map height vs))) (Act a.JoinMarks ∷ Back i.ShiftRight ∷ more) (value ∷ vs) fs
    (shift_ends more (build a.JoinMarks (value ∷ vs)) (drop 1 (map height vs)) fs (ap (drop 1) (heights_kept a.JoinMarks (value ∷ vs) (is_ready a.JoinMarks (Back i.ShiftRight ∷ more) (value ∷ vs) typed.0)))) typed

greater_ends : (more : List Symbol) (vs : List Value) (fs : List Fed) → AtMost (after_greater more (drop 1 (map height vs))) (At (Non o.GreaterEnd ∷ more) vs fs)
greater_ends more vs [] = step_ends (after_greater more (drop 1 (map height vs))) (Non o.GreaterEnd ∷ more) vs [] (relational_ends more vs [])
greater_ends more vs (fed input value ∷ fs) =
    step_ends (after_greater more (drop 1 (map height vs))) (Non o.GreaterEnd ∷ more) vs (fed input value ∷ fs) (go (accepts_one (p.TouchingGreater ∷ []) (touching_seen vs input value)))
  where
    go : (test : Bool) → AtMost (after_greater more (drop 1 (map height vs))) (put (chosen (cond test (Some (take.Keep, Act a.JoinMarks ∷ Back i.ShiftRight ∷ [])) None)) o.GreaterEnd more vs input value fs)
    go true = touched_ends more value vs fs
    go false = relational_ends more vs (fed input value ∷ fs)

greater_grows : (more : List Symbol) (h k : Heights) → AllNoHigher h k → after_greater more (drop 1 h.stack) ≤ after_greater more (drop 1 k.stack)
greater_grows more h k g =
    let drops : NoHigher (drop 1 h.stack) (drop 1 k.stack) = drop_grows 1 h.stack k.stack g.1 in
    let one : joined (level b.Greater) more (heights 0 (drop 1 h.stack)) ≤ joined (level b.Greater) more (heights 0 (drop 1 k.stack)) = joined_grows (level b.Greater) more (heights 0 (drop 1 h.stack)) (heights 0 (drop 1 k.stack)) (le_refl 0, drops) in
    let other : joined (level b.ShiftRight) more (heights 0 (drop 1 h.stack)) ≤ joined (level b.ShiftRight) more (heights 0 (drop 1 k.stack)) = joined_grows (level b.ShiftRight) more (heights 0 (drop 1 h.stack)) (heights 0 (drop 1 k.stack)) (le_refl 0, drops) in
    omega (arith, one, other)

flat_low : (h k : Heights) → AllNoHigher h k → AllNoHigher (heights 0 h.stack) (heights 0 k.stack)
flat_low h k g = (le_refl 0, g.1)

-- What comes is no less deep than what can come from the heights that the symbols above leave.
come : (q more : List Symbol) (vs : List Value) (fs : List Fed) → Typed (At (q ++ more) vs fs) → (ws : List Value) → Comes (At (q ++ more) vs fs) (Done ws) → least_to_come more (raised_all q (heights_of vs fs)) ≤ tallest 1 (map height ws)
come q [] vs fs typed ws r = subst (λ symbols. tallest 1 (raised_all symbols (heights_of vs fs)).stack ≤ tallest 1 (map height ws)) (append-nil q) (least_ends (At (q ++ []) vs fs) typed ws r)
come q (Non o.GreaterEnd ∷ more) vs fs typed ws r = above_ends (λ h. after_greater more (drop 1 h.stack)) (greater_grows more) (Non o.GreaterEnd ∷ more) (greater_ends more) r q vs fs refl typed ws refl
come q (Non o.AfterNameLess ∷ more) vs fs typed ws r = above_ends (λ h. name_less more (heights 0 h.stack)) (λ h k g. name_grows more (heights 0 h.stack) (heights 0 k.stack) (flat_low h k g)) (Non o.AfterNameLess ∷ more) (after_name_ends more) r q vs fs refl typed ws refl
come q (Non o.NameTypes ∷ more) vs fs typed ws r = above_ends (name_less more) (name_grows more) (Non o.NameTypes ∷ more) (name_ends more) r q vs fs refl typed ws refl
come q (Non o.AfterMemberLess ∷ more) vs fs typed ws r = above_ends (λ h. member_less more (heights 0 h.stack)) (λ h k g. member_grows more (heights 0 h.stack) (heights 0 k.stack) (flat_low h k g)) (Non o.AfterMemberLess ∷ more) (after_member_ends more) r q vs fs refl typed ws refl
come q (Non o.MemberTypes ∷ more) vs fs typed ws r = above_ends (member_less more) (member_grows more) (Non o.MemberTypes ∷ more) (member_ends more) r q vs fs refl typed ws refl
come q (Non o.AfterNewLess ∷ more) vs fs typed ws r = above_ends (λ h. new_less more (heights 0 h.stack)) (λ h k g. new_grows more (heights 0 h.stack) (heights 0 k.stack) (flat_low h k g)) (Non o.AfterNewLess ∷ more) (after_new_ends more) r q vs fs refl typed ws refl
come q (Non o.NewTypes ∷ more) vs fs typed ws r = above_ends (new_less more) (new_grows more) (Non o.NewTypes ∷ more) (new_ends more) r q vs fs refl typed ws refl
come q (symbol ∷ more) vs fs typed ws r =
    let same : (q ++ symbol ∷ []) ++ more ≡ q ++ symbol ∷ more = append_assoc q (symbol ∷ []) more in
    subst (λ h. least_to_come more h ≤ tallest 1 (map height ws)) (raised-append q (symbol ∷ []) (heights_of vs fs))
    (come (q ++ symbol ∷ []) more vs fs (subst (λ symbols. Typed (At symbols vs fs)) (sym same) typed) ws (subst (λ symbols. Comes (At symbols vs fs) (Done ws)) (sym same) r))

pub least_comes : (more : List Symbol) (vs : List Value) (fs : List Fed) → Typed (At more vs fs) → (ws : List Value) → Comes (At more vs fs) (Done ws) → least_to_come more (heights_of vs fs) ≤ tallest 1 (map height ws)
least_comes more vs fs typed ws r = come [] more vs fs typed ws r
