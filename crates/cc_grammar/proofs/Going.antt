-- Runs of the machine while an input is looked at, and after the last.
use Rattle.std.proofs.Common.{◌≡◌, ◌∙◌, sym, ap, subst, refl, ◌+◌, ◌<◌, ◌≤◌, List, [], ◌∷◌, ◌++◌, arith, Bool, true, false, Bor}
use Rattle.std.specs.Prelude.{Some, None}
use Rattle.cc_table.specs.declared.symbols.Sort.{Sort}
use Rattle.cc_table.specs.declared.symbols.Action.{Action}
use Rattle.cc_table.specs.declared.symbols.Symbol.{Symbol}
use Rattle.cc_table.specs.declared.symbols.Symbol.TheVariants.{Non, Act, Back}
use Rattle.cc_table.specs.declared.symbols.Input.{Input}
use Rattle.cc_table.specs.Table.{otherwise}
use Rattle.cc_pushdown.specs.Values.{below, top}
use Rattle.cc_pushdown.specs.Build.{build}
use Rattle.cc_pushdown.specs.declared.value.Value.{Value}
use Rattle.cc_pushdown.specs.Machine.{Fed, fed, Config, At, Bad, Done, step, lack, Comes, here, on}
use Rattle.cc_grammar.specs.declared.choice.Taking.{Taking}
use Rattle.cc_grammar.specs.declared.choice.Met.{Met}
use Rattle.cc_grammar.specs.declared.choice.Met.TheVariants as m
use Rattle.cc_grammar.specs.declared.feeding.Ending as End
use Rattle.cc_grammar.specs.declared.feeding.Ending.TheVariants as ends
use Rattle.cc_grammar.specs.declared.pending.Pending.{Pending}
use Rattle.cc_grammar.specs.Turns.{one_fed, feds, part_of, kept, Meets, Refuses, Settles, Feeds, Ends}
use Rattle.cc_grammar.specs.Weight.{visible, worth, owed, credit_of, credit, due, nearer}
use Rattle.cc_grammar.proofs.Falls.{falls, owes_no_more, owes_less, other_nearer}

pub then : {b c d : Config} → Comes b c → Comes c d → Comes b d
then here q = q
then (on p) q = on (then p q)

pub then_step : {c d e : Config} → Comes c d → step d ≡ e → Comes c e
then_step {c} {d} {e} p q = then p (subst (λ x. Comes d x) q (on here))

-- what holds while an input is looked at
abbrev pub Going : List Symbol → List Value → Fed → List Symbol → List Value → Type 0
Going a b one st vs = ((ts : List Fed) → Comes (At a b (one ∷ ts)) (At st vs (one ∷ ts))) × (owed st ≤ owed a + credit st)

pub top_of : (st more : List Symbol) (s x : Symbol) → s ≡ x → st ≡ s ∷ more → st ≡ x ∷ more
top_of st more s x is same = same ∙ ap (λ q. q ∷ more) is

pub falls_act : (st more : List Symbol) (s : Symbol) (x : Action) → s ≡ Act x → st ≡ s ∷ more → visible more < visible st
falls_act st more s x is same = subst (λ q. visible more < visible q) (sym (top_of st more s (Act x) is same)) (omega arith)

pub falls_expect : (st more left part : List Symbol) (s : Symbol) (n : Sort) → s ≡ Non n → st ≡ s ∷ more → nearer n part ≡ true → left ≡ part ++ more → visible left < visible st
falls_expect st more left part s n is same near e =
    subst (λ q. visible left < visible q) (sym (top_of st more s (Non n) is same)) (subst (λ q. visible q < visible (Non n ∷ more)) (sym e) (falls n part more near))

pub going_act : (a : List Symbol) (b : List Value) (one : Fed) (st more : List Symbol) (s : Symbol) (x : Action) (vs ws : List Value) → s ≡ Act x → st ≡ s ∷ more → ws ≡ build x vs → Going a b one st vs → Going a b one more ws
going_act a b one st more s x vs ws is same e inv =
    let i : Going a b one (Act x ∷ more) vs = subst (λ q. Going a b one q vs) (top_of st more s (Act x) is same) inv in
    let h : owed (Act x ∷ more) ≤ owed a + credit (Act x ∷ more) = i.1 in
    (λ ts. then_step (i.0 ts) (ap (λ q. At more q (one ∷ ts)) (sym e)), omega (arith, h))

pub falls_met : (st more left : List Symbol) (s : Symbol) (n : Sort) (vs : List Value) (one : Pending) (met : Met) (p : Bor (List Symbol)) → s ≡ Non n → st ≡ s ∷ more → met ≡ m.Expect p → Meets met n vs one → left ≡ p.now ++ more → visible left < visible st
falls_met st more left s n vs one met p is same met_is meets e =
    let k : Meets (m.Expect p) n vs one = subst (λ q. Meets q n vs one) met_is meets in
    falls_expect st more left p.now s n is same k.1 e

pub going_expect : (a : List Symbol) (b : List Value) (one : Pending) (st more left : List Symbol) (s : Symbol) (n : Sort) (vs ws : List Value) (met : Met) (p : Bor (List Symbol)) → s ≡ Non n → st ≡ s ∷ more → met ≡ m.Expect p
    → Meets met n vs one → left ≡ p.now ++ more → ws ≡ vs → Going a b (one_fed one) st vs → Going a b (one_fed one) left ws
going_expect a b one st more left s n vs ws met p is same met_is meets e f inv =
    let k : Meets (m.Expect p) n vs one = subst (λ q. Meets q n vs one) met_is meets in
    let i : Going a b (one_fed one) (Non n ∷ more) vs = subst (λ q. Going a b (one_fed one) q vs) (top_of st more s (Non n) is same) inv in
    let h : owed (Non n ∷ more) ≤ owed a + credit_of n = i.1 in
    let d = owes_no_more n p.now more k.1 in
    let g : Going a b (one_fed one) (p.now ++ more) vs = (λ ts. then_step (i.0 ts) (k.0 more ts), omega (arith, h, d)) in
    subst (λ q. Going a b (one_fed one) q ws) (sym e) (subst (λ q. Going a b (one_fed one) (p.now ++ more) q) (sym f) g)

pub going_take : (a : List Symbol) (b : List Value) (one : Pending) (ps qs : List Pending) (st more left : List Symbol) (s : Symbol) (n : Sort) (vs us ws : List Value) (met : Met) (taking : Taking) → s ≡ Non n → st ≡ s ∷ more → met ≡ m.Take taking
    → Meets met n vs one → us ≡ vs → left ≡ part_of taking ++ more → ws ≡ kept taking one.value us → qs ≡ ps → Going a b (one_fed one) st vs → Settles true a b (one_fed one) (feds ps) left ws (feds qs)
going_take a b one ps qs st more left s n vs us ws met taking is same met_is meets u e f r inv =
    let k : Meets (m.Take taking) n vs one = subst (λ q. Meets q n vs one) met_is meets in
    let i : Going a b (one_fed one) (Non n ∷ more) vs = subst (λ q. Going a b (one_fed one) q vs) (top_of st more s (Non n) is same) inv in
    let h : owed (Non n ∷ more) ≤ owed a + credit_of n = i.1 in
    let d = owes_less n (part_of taking) more (worth one.input) k.1 in
    let w : owed left ≡ owed (part_of taking ++ more) = ap owed e in
    let x : due (feds qs) ≡ due (feds ps) = ap (λ q. due (feds q)) r in
    (λ ts. then_step (i.0 (feds ps ++ ts)) (k.0 more (feds ps ++ ts) ∙ ap (λ q. At q (kept taking one.value vs) (feds ps ++ ts)) (sym e) ∙ ap (λ q. At left q (feds ps ++ ts)) (sym (f ∙ ap (λ q. kept taking one.value q) u)) ∙ ap (λ q. At left ws (feds q ++ ts)) (sym r)), omega (arith, h, d, w, x))

pub going_back : (a : List Symbol) (b : List Value) (one two : Pending) (ps qs rs gs : List Pending) (st more : List Symbol) (s : Symbol) (input : Input) (vs ws : List Value) → s ≡ Back input → st ≡ s ∷ more
    → two.input ≡ input → two.value ≡ top vs → ws ≡ below vs → qs ≡ ps → rs ≡ one ∷ qs → gs ≡ two ∷ rs → Going a b (one_fed one) st vs → Settles true a b (one_fed one) (feds ps) more ws (feds gs)
going_back a b one two ps qs rs gs st more s input vs ws is same x y e r r' r'' inv =
    let i : Going a b (one_fed one) (Back input ∷ more) vs = subst (λ q. Going a b (one_fed one) q vs) (top_of st more s (Back input) is same) inv in
    let h : owed (Back input ∷ more) ≤ owed a + 0 = i.1 in
    let v : worth two.input ≡ worth input = ap worth x in
    let f : feds gs ≡ one_fed two ∷ one_fed one ∷ feds ps = ap feds (r'' ∙ ap (λ q. two ∷ q) (r' ∙ ap (λ q. one ∷ q) r)) in
    let w : due (feds gs) ≡ due (one_fed two ∷ one_fed one ∷ feds ps) = ap due f in
    let g : fed input (top vs) ∷ one_fed one ∷ feds ps ≡ feds gs = ap (λ q. fed q (top vs) ∷ one_fed one ∷ feds ps) (sym x) ∙ ap (λ q. fed two.input q ∷ one_fed one ∷ feds ps) (sym y) ∙ sym f in
    (λ ts. then_step (i.0 (feds ps ++ ts)) (ap (λ q. At more q (fed input (top vs) ∷ one_fed one ∷ feds ps ++ ts)) (sym e) ∙ ap (λ q. At more ws (q ++ ts)) g), omega (arith, h, v, w))

pub going_refuse : (a : List Symbol) (b : List Value) (one : Pending) (ps : List Pending) (st more : List Symbol) (s : Symbol) (n : Sort) (vs : List Value) (met : Met) → s ≡ Non n → st ≡ s ∷ more → met ≡ m.Refuse
    → Meets met n vs one → Going a b (one_fed one) st vs → Refuses a b (one_fed one ∷ feds ps)
going_refuse a b one ps st more s n vs met is same met_is meets inv =
    let k : Meets m.Refuse n vs one = subst (λ q. Meets q n vs one) met_is meets in
    let i : Going a b (one_fed one) (Non n ∷ more) vs = subst (λ q. Going a b (one_fed one) q vs) (top_of st more s (Non n) is same) inv in
    λ ts. (one_fed one ∷ feds ps ++ ts, then_step (i.0 (feds ps ++ ts)) (k more (feds ps ++ ts)))

pub going_nothing : (a : List Symbol) (b : List Value) (one : Fed) (fs : List Fed) (st : List Symbol) (vs : List Value) → st ≡ [] → Going a b one st vs → Refuses a b (one ∷ fs)
going_nothing a b one fs st vs same inv =
    let i : Going a b one [] vs = subst (λ q. Going a b one q vs) same inv in
    λ ts. (one ∷ fs ++ ts, then_step (i.0 (fs ++ ts)) refl)

-- what holds while inputs are left that were put back
abbrev pub Feeding : List Symbol → List Value → List Fed → List Symbol → List Value → List Fed → Type 0
Feeding a b fs st vs gs = ((ts : List Fed) → Comes (At a b (fs ++ ts)) (At st vs (gs ++ ts))) × (owed st + due gs ≤ owed a + due fs)

pub feeding_on : (a : List Symbol) (b : List Value) (fs : List Fed) (st left : List Symbol) (vs ws : List Value) (one : Pending) (ps qs rest : List Pending) (goes : Bool) → goes ≡ true → ps ≡ one ∷ rest
    → Settles goes st vs (one_fed one) (feds rest) left ws (feds qs) → Feeding a b fs st vs (feds ps) → Feeding a b fs left ws (feds qs)
feeding_on a b fs st left vs ws one ps qs rest goes is same h inv =
    let k : Settles true st vs (one_fed one) (feds rest) left ws (feds qs) = subst (λ q. Settles q st vs (one_fed one) (feds rest) left ws (feds qs)) is h in
    let i : Feeding a b fs st vs (one_fed one ∷ feds rest) = subst (λ q. Feeding a b fs st vs (feds q)) same inv in
    let d : owed left + due (feds qs) < owed st + due (one_fed one ∷ feds rest) = k.1 in
    let e : owed st + due (one_fed one ∷ feds rest) ≤ owed a + due fs = i.1 in
    (λ ts. then (i.0 ts) (k.0 ts), omega (arith, d, e))

pub feeding_falls : (st left : List Symbol) (vs ws : List Value) (one : Pending) (ps qs rest : List Pending) (goes : Bool) → goes ≡ true → ps ≡ one ∷ rest
    → Settles goes st vs (one_fed one) (feds rest) left ws (feds qs) → owed left + due (feds qs) < owed st + due (feds ps)
feeding_falls st left vs ws one ps qs rest goes is same h =
    let k : Settles true st vs (one_fed one) (feds rest) left ws (feds qs) = subst (λ q. Settles q st vs (one_fed one) (feds rest) left ws (feds qs)) is h in
    subst (λ q. owed left + due (feds qs) < owed st + due (feds q)) (sym same) k.1

pub feeding_refused : (a : List Symbol) (b : List Value) (fs : List Fed) (st left : List Symbol) (vs ws : List Value) (one : Pending) (ps qs rest : List Pending) (goes : Bool) → goes ≡ false → ps ≡ one ∷ rest
    → Settles goes st vs (one_fed one) (feds rest) left ws (feds qs) → Feeding a b fs st vs (feds ps) → Refuses a b fs
feeding_refused a b fs st left vs ws one ps qs rest goes is same h inv =
    let k : Settles false st vs (one_fed one) (feds rest) left ws (feds qs) = subst (λ q. Settles q st vs (one_fed one) (feds rest) left ws (feds qs)) is h in
    let i : Feeding a b fs st vs (one_fed one ∷ feds rest) = subst (λ q. Feeding a b fs st vs (feds q)) same inv in
    λ ts. ((k ts).0, then (i.0 ts) (k ts).1)

-- the first input is the only one
alone : (one : Pending) (ps qs : List Pending) → ps ≡ one ∷ qs → qs ≡ [] → feds ps ≡ one_fed one ∷ []
alone one ps qs e f = ap feds (e ∙ ap (λ q. one ∷ q) f)

pub fed_refused : (a : List Symbol) (b : List Value) (first one : Pending) (zs us : List Pending) (st left : List Symbol) (vs ws : List Value) (ps qs rest : List Pending) (goes : Bool) → goes ≡ false → ps ≡ one ∷ rest → us ≡ first ∷ zs → zs ≡ []
    → Settles goes st vs (one_fed one) (feds rest) left ws (feds qs) → Feeding a b (feds us) st vs (feds ps) → Refuses a b (one_fed first ∷ [])
fed_refused a b first one zs us st left vs ws ps qs rest goes is same e f h inv =
    subst (λ q. Refuses a b q) (alone first us zs e f) (feeding_refused a b (feds us) st left vs ws one ps qs rest goes is same h inv)

pub fed_done : (a : List Symbol) (b : List Value) (first : Pending) (zs us : List Pending) (st : List Symbol) (vs : List Value) (ps : List Pending) → ps ≡ [] → us ≡ first ∷ zs → zs ≡ [] → Feeding a b (feds us) st vs (feds ps) → Feeds true a b (one_fed first) st vs
fed_done a b first zs us st vs ps same e f inv =
    let i : Feeding a b (feds us) st vs [] = subst (λ q. Feeding a b (feds us) st vs (feds q)) same inv in
    let k : Feeding a b (one_fed first ∷ []) st vs [] = subst (λ q. Feeding a b q st vs []) (alone first us zs e f) i in
    let d : owed st + 0 ≤ owed a + due (one_fed first ∷ []) = k.1 in
    (k.0, omega (arith, d))

-- what holds after the last token
abbrev pub Ending : List Symbol → List Value → List Symbol → List Value → Type 0
Ending a b st vs = Comes (At a b []) (At st vs []) × (owed st ≤ owed a + credit st)

pub ending_act : (a : List Symbol) (b : List Value) (st more : List Symbol) (s : Symbol) (x : Action) (vs ws : List Value) → s ≡ Act x → st ≡ s ∷ more → ws ≡ build x vs → Ending a b st vs → Ending a b more ws
ending_act a b st more s x vs ws is same e inv =
    let i : Ending a b (Act x ∷ more) vs = subst (λ q. Ending a b q vs) (top_of st more s (Act x) is same) inv in
    let h : owed (Act x ∷ more) ≤ owed a + credit (Act x ∷ more) = i.1 in
    (then_step i.0 (ap (λ q. At more q []) (sym e)), omega (arith, h))

pub ending_expect : (a : List Symbol) (b : List Value) (st more left part : List Symbol) (s : Symbol) (n : Sort) (vs : List Value) → s ≡ Non n → st ≡ s ∷ more → otherwise n ≡ Some part → left ≡ part ++ more → Ending a b st vs → Ending a b left vs
ending_expect a b st more left part s n vs is same o e inv =
    let i : Ending a b (Non n ∷ more) vs = subst (λ q. Ending a b q vs) (top_of st more s (Non n) is same) inv in
    let h : owed (Non n ∷ more) ≤ owed a + credit_of n = i.1 in
    let d = owes_no_more n part more (other_nearer n part o) in
    let k : Ending a b (part ++ more) vs = (then_step i.0 (ap (λ q. lack q more vs []) o), omega (arith, h, d)) in
    subst (λ q. Ending a b q vs) (sym e) k

pub ending_falls : (st more left part : List Symbol) (s : Symbol) (n : Sort) → s ≡ Non n → st ≡ s ∷ more → otherwise n ≡ Some part → left ≡ part ++ more → visible left < visible st
ending_falls st more left part s n is same o e = falls_expect st more left part s n is same (other_nearer n part o) e

pub ending_back : (a : List Symbol) (b : List Value) (one : Pending) (st more : List Symbol) (s : Symbol) (input : Input) (vs ws : List Value) → s ≡ Back input → st ≡ s ∷ more
    → one.input ≡ input → one.value ≡ top vs → ws ≡ below vs → Ending a b st vs → Comes (At a b []) (At more ws (one_fed one ∷ [])) × (owed more + worth one.input < owed a)
ending_back a b one st more s input vs ws is same x y e inv =
    let i : Ending a b (Back input ∷ more) vs = subst (λ q. Ending a b q vs) (top_of st more s (Back input) is same) inv in
    let h : owed (Back input ∷ more) ≤ owed a + 0 = i.1 in
    let v : worth one.input ≡ worth input = ap worth x in
    let g : fed input (top vs) ∷ [] ≡ one_fed one ∷ [] = ap (λ q. fed q (top vs) ∷ []) (sym x) ∙ ap (λ q. fed one.input q ∷ []) (sym y) in
    (then_step i.0 (ap (λ q. At more q (fed input (top vs) ∷ [])) (sym e) ∙ ap (λ q. At more ws q) g), omega (arith, h, v))

pub ending_refused : (a : List Symbol) (b : List Value) (st more : List Symbol) (s : Symbol) (n : Sort) (vs : List Value) → s ≡ Non n → st ≡ s ∷ more → otherwise n ≡ None → Ending a b st vs → Comes (At a b []) (Bad [])
ending_refused a b st more s n vs is same o inv =
    let i : Ending a b (Non n ∷ more) vs = subst (λ q. Ending a b q vs) (top_of st more s (Non n) is same) inv in
    then_step i.0 (ap (λ q. lack q more vs []) o)

pub ending_done : (a : List Symbol) (b : List Value) (st : List Symbol) (vs : List Value) → st ≡ [] → Ending a b st vs → Comes (At a b []) (Done vs)
ending_done a b st vs same inv =
    let i : Ending a b [] vs = subst (λ q. Ending a b q vs) same inv in
    then_step i.0 refl

-- one more turn after the last token
pub end_done : (a : List Symbol) (b : List Value) (st left : List Symbol) (vs ws : List Value) (how : End.Ending) → how ≡ ends.Done → Ends how st vs left ws → Comes (At a b []) (At st vs []) → Comes (At a b []) (Done ws)
end_done a b st left vs ws how is h inv = then inv (subst (λ q. Ends q st vs left ws) is h)

pub end_refused : (a : List Symbol) (b : List Value) (st left : List Symbol) (vs ws : List Value) (how : End.Ending) → how ≡ ends.Refused → Ends how st vs left ws → Comes (At a b []) (At st vs []) → (us : List Fed) × Comes (At a b []) (Bad us)
end_refused a b st left vs ws how is h inv = ([], then inv (subst (λ q. Ends q st vs left ws) is h))

pub end_back_refused : (a : List Symbol) (b : List Value) (st mid left : List Symbol) (vs us ws : List Value) (one : Pending) (how : End.Ending) (goes : Bool) → how ≡ ends.Back one → Ends how st vs mid us → goes ≡ false → Feeds goes mid us (one_fed one) left ws
    → Comes (At a b []) (At st vs []) → (fs : List Fed) × Comes (At a b []) (Bad fs)
end_back_refused a b st mid left vs us ws one how goes is h isnt f inv =
    let k : Ends (ends.Back one) st vs mid us = subst (λ q. Ends q st vs mid us) is h in
    let g : Feeds false mid us (one_fed one) left ws = subst (λ q. Feeds q mid us (one_fed one) left ws) isnt f in
    ((g []).0, then inv (then k.0 (g []).1))

pub end_back : (a : List Symbol) (b : List Value) (st mid left : List Symbol) (vs us ws : List Value) (one : Pending) (how : End.Ending) (goes : Bool) → how ≡ ends.Back one → Ends how st vs mid us → goes ≡ true → Feeds goes mid us (one_fed one) left ws
    → Comes (At a b []) (At st vs []) → Comes (At a b []) (At left ws [])
end_back a b st mid left vs us ws one how goes is h ok f inv =
    let k : Ends (ends.Back one) st vs mid us = subst (λ q. Ends q st vs mid us) is h in
    let g : Feeds true mid us (one_fed one) left ws = subst (λ q. Feeds q mid us (one_fed one) left ws) ok f in
    then inv (then k.0 (g.0 []))

pub end_falls : (st mid left : List Symbol) (vs us ws : List Value) (one : Pending) (how : End.Ending) (goes : Bool) → how ≡ ends.Back one → Ends how st vs mid us → goes ≡ true → Feeds goes mid us (one_fed one) left ws → owed left < owed st
end_falls st mid left vs us ws one how goes is h ok f =
    let k : Ends (ends.Back one) st vs mid us = subst (λ q. Ends q st vs mid us) is h in
    let g : Feeds true mid us (one_fed one) left ws = subst (λ q. Feeds q mid us (one_fed one) left ws) ok f in
    let x : owed mid + worth one.input < owed st = k.1 in
    let y : owed left ≤ owed mid + (worth one.input + 0) = g.1 in
    omega (arith, x, y)
