-- The heights that are kept beside the values.
use Rattle.std.proofs.Common.{◌≡◌, ◌∙◌, sym, ap, subst, refl, ℕ, List, [], ◌∷◌, ◌++◌, map, drop, append-nil, arith}
use Rattle.cc_table.specs.declared.symbols.Action.{Action}
use Rattle.cc_table.specs.declared.symbols.Symbol.{Symbol}
use Rattle.cc_table.specs.declared.symbols.Symbol.TheVariants.{Act}
use Rattle.cc_pushdown.specs.Values.{below, top}
use Rattle.cc_pushdown.specs.Build.{build}
use Rattle.cc_pushdown.specs.declared.value.Value.{Value}
use Rattle.cc_pushdown.specs.Machine.{Fed, At, Comes}
use Rattle.cc_grammar_laws.specs.Kinds.{Fits}
use Rattle.cc_grammar_laws.specs.Heights.{height, tallest}
use Rattle.cc_grammar_laws.proofs.KindsKept.{comes_typed, is_ready}
use Rattle.cc_grammar_laws.proofs.HeightsOfActions.{heights_kept}
use Rattle.cc_grammar.specs.declared.choice.Taking.{Taking}
use Rattle.cc_grammar.specs.declared.choice.Taking.TheVariants as g
use Rattle.cc_grammar.specs.declared.feeding.Ending as End
use Rattle.cc_grammar.specs.declared.feeding.Ending.TheVariants as ends
use Rattle.cc_grammar.specs.declared.pending.Pending.{Pending}
use Rattle.cc_grammar.specs.Turns.{one_fed, feds, kept, Ends}
use Rattle.cc_grammar.specs.Depths.{capped, all_capped, measures, Carry, Carries, acted, kept_height, Typed}
use Rattle.cc_grammar.proofs.Capped.{acted_capped}
use Rattle.cc_grammar.proofs.Going.{Going, Feeding, Ending, top_of}

-- An action's value is as high as the action says.
measured_act : (action : Action) (more : List Symbol) (vs : List Value) (hs : List ℕ) → Fits (Act action ∷ more) vs → hs ≡ measures vs → acted action hs ≡ measures (build action vs)
measured_act action more vs hs f e =
    ap (acted action) e ∙ (acted_capped action (map height vs) ∙ sym (ap all_capped (heights_kept action vs (is_ready action more vs f))))

acted_on : (st more : List Symbol) (s : Symbol) (x : Action) (vs ws : List Value) (hs ks : List ℕ) → s ≡ Act x → st ≡ s ∷ more → ws ≡ build x vs → ks ≡ acted x hs → Fits st vs → hs ≡ measures vs → ks ≡ measures ws
acted_on st more s x vs ws hs ks is same e e' f m =
    e' ∙ (measured_act x more vs hs (subst (λ q. Fits q vs) (top_of st more s (Act x) is same) f) m ∙ sym (ap measures e))

pub going_measured : (a : List Symbol) (b : List Value) (one : Fed) (st more : List Symbol) (s : Symbol) (x : Action) (vs ws : List Value) (hs ks : List ℕ) → s ≡ Act x → st ≡ s ∷ more → ws ≡ build x vs → ks ≡ acted x hs
    → Going a b one st vs → Typed a b (one ∷ []) → hs ≡ measures vs → ks ≡ measures ws
going_measured a b one st more s x vs ws hs ks is same e e' g t m =
    let k : Typed st vs (one ∷ []) = comes_typed (g.0 []) t in
    acted_on st more s x vs ws hs ks is same e e' k.0 m

pub ending_measured : (a : List Symbol) (b : List Value) (st more : List Symbol) (s : Symbol) (x : Action) (vs ws : List Value) (hs ks : List ℕ) → s ≡ Act x → st ≡ s ∷ more → ws ≡ build x vs → ks ≡ acted x hs
    → Ending a b st vs → Typed a b [] → hs ≡ measures vs → ks ≡ measures ws
ending_measured a b st more s x vs ws hs ks is same e e' g t m =
    let k : Typed st vs [] = comes_typed g.0 t in
    acted_on st more s x vs ws hs ks is same e e' k.0 m

-- An input that is kept brings its height.
measured_take : (taking : Taking) (value : Value) (one : ℕ) (vs : List Value) (hs : List ℕ) → one ≡ capped (height value) → hs ≡ measures vs → kept_height taking one hs ≡ measures (kept taking value vs)
measured_take (g.Drop part) value one vs hs e m = m
measured_take (g.Keep part) value one vs hs e m = ap (λ q. q ∷ hs) e ∙ ap (λ q. capped (height value) ∷ q) m
measured_take (g.Greater least) value one vs hs e m = ap (λ q. q ∷ hs) e ∙ ap (λ q. capped (height value) ∷ q) m
measured_take (g.Join operator least) value one vs hs e m = ap (λ q. 0 ∷ q) m

pub taken_measured : (taking : Taking) (one : Pending) (ps : List Pending) (vs us ws : List Value) (hs ks : List ℕ) → us ≡ vs → ws ≡ kept taking one.value us → ks ≡ kept_height taking one.height hs → Carry (one ∷ ps) → hs ≡ measures vs → ks ≡ measures ws
taken_measured taking one ps vs us ws hs ks u e e' c m =
    e' ∙ (measured_take taking one.value one.height vs hs c.0 m ∙ sym (ap measures (e ∙ ap (λ q. kept taking one.value q) u)))

-- A value that is put back takes its height along.
below_measured : (vs : List Value) → drop 1 (measures vs) ≡ measures (below vs)
below_measured [] = refl
below_measured (value ∷ vs) = refl

top_measured : (vs : List Value) → tallest 1 (measures vs) ≡ capped (height (top vs))
top_measured [] = refl
top_measured (value ∷ vs) = omega arith

pub back_measured : (vs ws : List Value) (hs ks : List ℕ) → ws ≡ below vs → ks ≡ drop 1 hs → hs ≡ measures vs → ks ≡ measures ws
back_measured vs ws hs ks e e' m = e' ∙ (ap (drop 1) m ∙ (below_measured vs ∙ sym (ap measures e)))

pub back_carries : (two : Pending) (vs : List Value) (hs : List ℕ) → two.value ≡ top vs → two.height ≡ tallest 1 hs → hs ≡ measures vs → two.height ≡ capped (height two.value)
back_carries two vs hs e e' m = e' ∙ (ap (tallest 1) m ∙ (top_measured vs ∙ sym (ap (λ q. capped (height q)) e)))

pub put_carries : (one two : Pending) (ps qs rs gs : List Pending) → qs ≡ ps → rs ≡ one ∷ qs → gs ≡ two ∷ rs → two.height ≡ capped (height two.value) → Carry (one ∷ ps) → Carry gs
put_carries one two ps qs rs gs r r' r'' e c = subst Carry (sym (r'' ∙ ap (λ q. two ∷ q) (r' ∙ ap (λ q. one ∷ q) r))) (e, c)

pub same_carries : (one : Pending) (ps qs : List Pending) → qs ≡ ps → Carry (one ∷ ps) → Carry qs
same_carries one ps qs r c = subst Carry (sym r) c.1

-- While inputs are left that were put back, the next one is of its kind.
feeding_typed : (a : List Symbol) (b : List Value) (fs : List Fed) (st : List Symbol) (vs : List Value) (gs : List Fed) → Feeding a b fs st vs gs → Typed a b fs → Typed st vs gs
feeding_typed a b fs st vs gs g t =
    let p : Comes (At a b fs) (At st vs (gs ++ [])) = subst (λ q. Comes (At a b q) (At st vs (gs ++ []))) (append-nil fs) (g.0 []) in
    comes_typed (subst (λ q. Comes (At a b fs) (At st vs q)) (append-nil gs) p) t

first_alone : (first : Pending) (zs us : List Pending) → us ≡ first ∷ zs → zs ≡ [] → us ≡ first ∷ []
first_alone first zs us e f = e ∙ ap (λ q. first ∷ q) f

pub next_typed : (a : List Symbol) (b : List Value) (first one : Pending) (zs us : List Pending) (st : List Symbol) (vs : List Value) (ps rest : List Pending) → ps ≡ one ∷ rest → us ≡ first ∷ zs → zs ≡ []
    → Typed a b (one_fed first ∷ []) → Feeding a b (feds us) st vs (feds ps) → Typed st vs (one_fed one ∷ [])
next_typed a b first one zs us st vs ps rest same e f t g =
    let i : Feeding a b (feds us) st vs (one_fed one ∷ feds rest) = subst (λ q. Feeding a b (feds us) st vs (feds q)) same g in
    let j : Feeding a b (one_fed first ∷ []) st vs (one_fed one ∷ feds rest) = subst (λ q. Feeding a b (feds q) st vs (one_fed one ∷ feds rest)) (first_alone first zs us e f) i in
    let k : Typed st vs (one_fed one ∷ feds rest) = feeding_typed a b (one_fed first ∷ []) st vs (one_fed one ∷ feds rest) j t in
    (k.0, (k.1.0, tt))

pub first_carries : (first : Pending) (zs us : List Pending) → us ≡ first ∷ zs → zs ≡ [] → Carry (first ∷ []) → Carry us
first_carries first zs us e f c = subst Carry (sym (first_alone first zs us e f)) c

-- After the last token.
pub end_typed : (a : List Symbol) (b : List Value) (st : List Symbol) (vs : List Value) → Typed a b [] → Comes (At a b []) (At st vs []) → Typed st vs []
end_typed a b st vs t p = comes_typed p t

pub end_back_typed : (a : List Symbol) (b : List Value) (st mid : List Symbol) (vs us : List Value) (one : Pending) (how : End.Ending) → how ≡ ends.Back one → Ends how st vs mid us → Typed a b [] → Comes (At a b []) (At st vs []) → Typed mid us (one_fed one ∷ [])
end_back_typed a b st mid vs us one how is h t p =
    let k : Ends (ends.Back one) st vs mid us = subst (λ q. Ends q st vs mid us) is h in
    comes_typed k.0 (end_typed a b st vs t p)

pub end_back_carries : (one : Pending) (how : End.Ending) → how ≡ ends.Back one → Carries how → Carry (one ∷ [])
end_back_carries one how is c = subst Carries is c
