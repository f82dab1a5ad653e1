-- The machine does what switches mean: the tests of labels in order, and then the sections.
use Rattle.std.proofs.Common.{◌≡◌, ℕ, zero, suc, ◌+◌, ◌%◌, ◌<◌, ◌≤◌, ◌^◌, List, [], ◌∷◌, ◌++◌, length, Bool, true, false, Option, Some, refl, sym, ap, ◌∙◌, subst, arith, slice_get, slice_set, nat_eq, nat_lt, lt-ltb, le-ltb, true≢false, ◌⊎◌, inl, inr}
use Rattle.std.specs.Prelude.{Ok, Err, ⊤, option_map, if◌then◌else◌, ◌||◌}
use Rattle.std.specs.Int.{w32, w64, cast_signed}
use Rattle.std.proofs.lemmas.Bool.{cases_lt, ne_eqb, ltb-false}
use Rattle.std.proofs.lemmas.Int.{of_z-to_z}
use Rattle.cc_base.specs.declared.identifiers.LocalId.{LocalId}
use Rattle.cc_cil.specs.declared.instruction.Instruction.{Instruction}
use Rattle.cc_cil.specs.declared.instruction.Instruction.TheVariants as the
use Rattle.cc_core.specs.declared.state.Computed.{Computed}
use Rattle.cc_core.specs.declared.state.State.{State}
use Rattle.cc_core.specs.declared.state.Stop.TheVariants.{Wrong}
use Rattle.cc_core.specs.declared.tree.SwitchLabel.{SwitchLabel}
use Rattle.cc_core.specs.declared.tree.SwitchLabel.TheVariants.{Case, Default}
use Rattle.cc_core.specs.declared.types.Operator.TheVariants as op
use Rattle.cc_core.specs.declared.world.Value.{Value, Int32}
use Rattle.cc_core.specs.declared.world.World.{World}
use Rattle.cc_core.specs.Leave.{is_case, find_case, has_default}
use Rattle.cc_core.specs.Numbers.{is_wide, number, truth, is_true, gives_truth}
use Rattle.cc_core.specs.Run.{Ran, Does, Calls, tick, in_world, with_variable, write_local}
use Rattle.cc_core.specs.Typed.{is_number}
use Rattle.cc_core.specs.Types.{BareType}
use Rattle.cc_code.specs.declared.targets.Target.{Target}
use Rattle.cc_code.specs.declared.tokens.Tokens.{Tokens}
use Rattle.cc_code.specs.Instructions.{width, ahead}
use Rattle.cc_code.specs.Operators as code
use Rattle.cc_code.specs.Operators.{load, store}
use Rattle.cc_code.specs.Regions.{default_place, labels_code, tests_code, regions_code, sections_code}
use Rattle.cc_code.specs.Sizes.{constant_size, is_tested, labels_size, tests_size, regions_size, sections_size}
use Rattle.cc_simulation.proofs.Targets.{ahead_lands}
use Rattle.cc_code.proofs.RegionSums.{labels_are, regions_are}
use Rattle.cc_code.proofs.Sums.{constant_is, load_is}
use Rattle.cc_execution.specs.declared.operation.Operation.TheVariants as does
use Rattle.cc_execution.specs.Numbers.{operated}
use Rattle.cc_execution.specs.Operations.{natural}
use Rattle.cc_execution.specs.State.{Next}
use Rattle.cc_execution.specs.State as machine
use Rattle.cc_execution.specs.Step.{given, on_computed, branch_on, placed_in}
use Rattle.cc_execution.specs.Step as step
use Rattle.cc_region.specs.Leave as way
use Rattle.cc_region.specs.Leave.{Way, then_next, by_case}
use Rattle.cc_region.specs.Outcome.{in_order, matching, defaulting, following}
use Rattle.cc_region.specs.Region.{Regions, Sections, no_sections, next_section}
use Rattle.cc_region.specs.Typed.{Aim}
use Rattle.cc_simulation.specs.Known.{Knows}
use Rattle.cc_simulation.specs.Sites.{Site, StandsAt, HasAt, Fine, go, state_at, placed}
use Rattle.cc_simulation.specs.Values.{IsOf}
use Rattle.cc_simulation.specs.Ways.{Low, AreSmallLabels, AreSmallSections}
use Rattle.cc_simulation.proofs.Exits.{WaysAt, nexts}
use Rattle.cc_simulation.proofs.Parts.{has_front, has_back, are_set, are_within}
use Rattle.cc_simulation.proofs.Ranges.{number_of, stored_is}
use Rattle.cc_simulation.proofs.Steps.{did, stays, more, at_same, meant_same, ticks}

-- ---- labels

case_of : (wide : Bool) (m n : ℕ) → is_case (number wide m) n ≡ nat_eq m n
case_of true m n = refl
case_of false m n = refl

operated_case : (wide : Bool) (m n : ℕ) → operated op.Equal true (number wide m) (number wide n) ≡ Some (gives_truth (nat_eq m n))
operated_case true m n = refl
operated_case false m n = refl

true_truth : (t : Bool) → is_true (Int32 (truth t)) ≡ t
true_truth true = refl
true_truth false = refl

-- a label that is not tested is no value's
untested : (wide : Bool) (m n : ℕ) → (wide ≡ false → m < 2 ^ 32) → (wide || nat_lt n (2 ^ 32)) ≡ false → nat_eq m n ≡ false
untested true m n below e = absurd (true≢false e)
untested false m n below e = let l = ltb-false n (2 ^ 32) e in let l2 = below refl in ne_eqb m n (λ q. absurd (omega (arith, l, l2, q)))

tested_below : (wide : Bool) (n : ℕ) → (wide || nat_lt n (2 ^ 32)) ≡ true → wide ≡ false → n < 2 ^ 32
tested_below true n e w = absurd (true≢false w)
tested_below false n e w = by (cases_lt n (2 ^ 32))
  where
    by : (n < 2 ^ 32) ⊎ (2 ^ 32 ≤ n) → n < 2 ^ 32
    by (inl less) = less
    by (inr more) = absurd (true≢false (sym e ∙ le-ltb n (2 ^ 32) more))

set_get : {A : Type 0} (vs : List A) (y : ℕ) (v : A) → y < length vs → slice_get (slice_set vs y v) y ≡ Some v
set_get [] y v l = absurd (omega (arith, l))
set_get (u ∷ vs) zero v l = refl
set_get (u ∷ vs) (suc y) v l = set_get vs y v (omega (arith, l))

module _ (h : Site) (tokens : Tokens) (parameters : ℕ) (k : Calls) (known : Knows h tokens parameters k) (result : BareType) (returns : Value → World → Next) where
  -- what regions in order do
  abbrev pub RegionsStand : List Aim → Regions → Type 0
  RegionsStand aims regions = (at end : ℕ) (around : List Target) (s : State) → HasAt h at (regions_code tokens parameters regions at around) → at + regions_size regions ≡ end → end < 2 ^ 31 → Low around → Fine h s.world
      → WaysAt h result returns 0 (go h at [] s.world) end around aims s.work (in_order h.set.classes k h.set.turns regions s)

  abbrev pub SectionsStand : List Aim → Sections → Type 0
  SectionsStand aims no_sections = ⊤
  SectionsStand aims (next_section labels body rest) = RegionsStand aims body × SectionsStand aims rest

  -- ---- sections

  pub following_stands : (aims : List Aim) (sections : Sections) → SectionsStand aims sections → (at end : ℕ) (around : List Target) (s : State) → HasAt h at (sections_code tokens parameters sections at around) → at + sections_size sections ≡ end → end < 2 ^ 31 → Low around → Fine h s.world
      → WaysAt h result returns 0 (go h at [] s.world) end around aims s.work (following h.set.classes k h.set.turns sections s)
  following_stands aims no_sections hold at end around s has size small low fine = let f : at ≡ end = omega (arith, size) in stays h.set.x h.set.classes h.set.frames way.Next s fine (ap (λ (n : ℕ). go h n [] s.world) f)
  following_stands aims (next_section labels body rest) hold at end around s has size small low fine =
      let mid = at + regions_size body in
      let b = regions_are tokens parameters body at around in
      nexts h result returns h.set.turns 0 0 mid end around aims
      (hold.0 at mid around s (has_front h at (regions_code tokens parameters body at around) (sections_code tokens parameters rest mid around) has) refl (omega (arith, size, small)) low fine)
      (λ s1 g. following_stands aims rest hold.1 mid end around s1 (has_back h at mid (regions_code tokens parameters body at around) (sections_code tokens parameters rest mid around) (ap (λ (n : ℕ). at + n) b) has) (omega (arith, size)) small low g)

  pub default_stands : (aims : List Aim) (sections : Sections) → SectionsStand aims sections → (at end : ℕ) (around : List Target) (s : State) → HasAt h at (sections_code tokens parameters sections at around) → at + sections_size sections ≡ end → end < 2 ^ 31 → Low around → Fine h s.world
      → WaysAt h result returns 0 (go h (at + default_place sections) [] s.world) end around aims s.work (defaulting h.set.classes k h.set.turns sections s)
  default_stands aims no_sections hold at end around s has size small low fine = let f : at + 0 ≡ end = omega (arith, size) in stays h.set.x h.set.classes h.set.frames way.Next s fine (ap (λ (n : ℕ). go h n [] s.world) f)
  default_stands aims (next_section labels body rest) hold at end around s has size small low fine =
      let b = regions_are tokens parameters body at around in
      by (has_default labels)
      (default_stands aims rest hold.1 (at + regions_size body) end around s
      (has_back h at (at + regions_size body) (regions_code tokens parameters body at around) (sections_code tokens parameters rest (at + regions_size body) around) (ap (λ (n : ℕ). at + n) b) has) (omega (arith, size)) small low fine)
    where
      here : at + 0 ≡ at
      here = omega arith

      there : at + (regions_size body + default_place rest) ≡ at + regions_size body + default_place rest
      there = omega arith

      by : (d : Bool) → WaysAt h result returns 0 (go h (at + regions_size body + default_place rest) [] s.world) end around aims s.work (defaulting h.set.classes k h.set.turns rest s)
          → WaysAt h result returns 0 (go h (at + (if d then 0 else regions_size body + default_place rest)) [] s.world) end around aims s.work
          (if d then then_next (in_order h.set.classes k h.set.turns body s) (following h.set.classes k h.set.turns rest) else defaulting h.set.classes k h.set.turns rest s)
      by true ih = at_same h.set.x h.set.classes h.set.frames (ap (λ (n : ℕ). go h n [] s.world) here) (following_stands aims (next_section labels body rest) hold at end around s has size small low fine)
      by false ih = at_same h.set.x h.set.classes h.set.frames (ap (λ (n : ℕ). go h n [] s.world) there) ih

  -- ---- tests

  -- a constant is pushed
  constant_by : (wide : Bool) {A : Type 0} {ends : A → World → Next} {good : A → World → Type 0} {b w0 : ℕ} {ran : Ran A} (at n : ℕ) (rest : List Instruction) (stack : List Value) (w : World) → (wide ≡ true → n < 2 ^ 64) → (wide ≡ false → n < 2 ^ 32)
      → HasAt h at ((if wide then the.LoadLong (cast_signed w64 n) else the.LoadInt (cast_signed w32 (n % 2 ^ 32))) ∷ rest)
      → StandsAt h.set b (go h (at + width (if wide then the.LoadLong (cast_signed w64 n) else the.LoadInt (cast_signed w32 (n % 2 ^ 32)))) (number wide n ∷ stack) w) ends good w0 ran → StandsAt h.set (suc b) (go h at stack w) ends good w0 ran
  constant_by true at n rest stack w small below has m =
      did h.set.x h.set.classes h.set.frames (state_at h at stack w) (record { at = at; operation = does.PushInt64 n; next = at + 9 }) (has.0 ∙ ap (λ (n : ℕ). Some (record { at = at; operation = does.PushInt64 n; next = at + 9 })) (of_z-to_z w64 n (small refl))) m
  constant_by false at n rest stack w small below has m =
      let l = below refl in
      let e : n % 2 ^ 32 ≡ n = omega (arith, l) in
      did h.set.x h.set.classes h.set.frames (state_at h at stack w) (record { at = at; operation = does.PushInt32 n; next = at + 5 })
      (has.0 ∙ ap (λ (n : ℕ). Some (record { at = at; operation = does.PushInt32 n; next = at + 5 })) (of_z-to_z w32 (n % 2 ^ 32) (omega arith) ∙ e)) m

  module _ (x : LocalId) (of : BareType) (num : is_number of ≡ true) (is : slice_get h.locals x.0 ≡ Some of) (v : Value) (vi : IsOf of v) where
    -- the variable has the operand's value
    abbrev pub Ready : World → Type 0
    Ready w = Fine h w × (slice_get w.variables x.0 ≡ Some v)

    abbrev m : ℕ
    m = (number_of of v num vi).bits

    v_is : v ≡ number (is_wide of) m
    v_is = (number_of of v num vi).is

    below : is_wide of ≡ false → m < 2 ^ 32
    below = (number_of of v num vi).below

    case_is : (n : ℕ) → is_case v n ≡ nat_eq m n
    case_is n = ap (λ (v : Value). is_case v n) v_is ∙ case_of (is_wide of) m n

    -- the variable, the constant and the branch
    one_test : {A : Type 0} {ends : A → World → Next} {good : A → World → Type 0} {w0 : ℕ} {ran : Ran A} (b at n past next sec : ℕ) (w : World) → n < 2 ^ 64 → (is_wide of ≡ false → n < 2 ^ 32) → Ready w
        → HasAt h at (load parameters x.0 ∷ code.constant of n ∷ the.BranchEqual (ahead past) ∷ []) → at + (constant_size of + 9) ≡ next → next + past ≡ sec
        → StandsAt h.set b (go h (if is_case v n then sec else next) [] w) ends good w0 ran → StandsAt h.set (suc (suc (suc b))) (go h at [] w) ends good w0 ran
    one_test {A} {ends} {good} {w0} {ran} b at n past next sec w small tested ready has size e go_on =
        let k1 = at + width (load parameters x.0) in
        let k2 = k1 + width (code.constant of n) in
        let lw = load_is parameters x.0 in
        let cw = constant_is of n in
        let f : k2 + 5 ≡ next = omega (arith, lw, cw, size) in
        did h.set.x h.set.classes h.set.frames (state_at h at [] w) (record { at = at; operation = does.LoadVariable x.0; next = k1 }) (has.0 ∙ ap (placed at k1) (known.loads x.0 of is k1))
        (at_same h.set.x h.set.classes h.set.frames (ap (λ (o : Option Value). given o (λ (v : Value). go h k1 (v ∷ []) w)) (ready.1 ∙ ap Some v_is))
        (constant_by (is_wide of) k1 n (the.BranchEqual (ahead past) ∷ []) (number (is_wide of) m ∷ []) w (λ q. small) tested has.1
        (did h.set.x h.set.classes h.set.frames (state_at h k2 (number (is_wide of) n ∷ number (is_wide of) m ∷ []) w) (record { at = k2; operation = does.BranchCompare op.Equal true sec; next = k2 + 5 })
        (has.1.1.0 ∙ ap (λ z. placed k2 (k2 + 5) (option_map (does.BranchCompare op.Equal true) (natural z))) (ahead_lands (k2 + 5) past sec (omega (arith, f, e))))
        (at_same h.set.x h.set.classes h.set.frames
        (ap (λ (o : Option Computed). given o (λ (c : Computed). on_computed h.set.x (state_at h k2 (number (is_wide of) n ∷ number (is_wide of) m ∷ []) w) c
        (λ (r : Value). branch_on (state_at h k2 (number (is_wide of) n ∷ number (is_wide of) m ∷ []) w) sec (k2 + 5) [] (is_true r)))) (operated_case (is_wide of) m n)
        ∙ ap (λ (t : Bool). go h (if t then sec else (k2 + 5)) [] w) (true_truth (nat_eq m n) ∙ sym (case_is n))
        ∙ ap (λ (next : ℕ). go h (if is_case v n then sec else next) [] w) f)
        go_on))))

    module _ (end : ℕ) (around : List Target) (aims : List Aim) where
      labels_stand : (labels : List SwitchLabel) (at past next sec : ℕ) (found other : Does Way) → AreSmallLabels labels → HasAt h at (labels_code parameters x of labels past) → at + labels_size of labels ≡ next → next + past ≡ sec
          → ((s : State) → Ready s.world → WaysAt h result returns 4 (go h sec [] s.world) end around aims s.work (found s))
          → ((s : State) → Ready s.world → WaysAt h result returns 4 (go h next [] s.world) end around aims s.work (other s))
          → (s : State) → Ready s.world → WaysAt h result returns 4 (go h at [] s.world) end around aims s.work (by_case (find_case v labels s) found other)
      labels_stand [] at past next sec found other small has size e f g s ready = let q : at ≡ next = omega (arith, size) in at_same h.set.x h.set.classes h.set.frames (ap (λ (n : ℕ). go h n [] s.world) q) (g s ready)
      labels_stand (Default ∷ labels) at past next sec found other small has size e f g s ready = labels_stand labels at past next sec found other small has (omega (arith, size)) e f g s ready
      labels_stand (Case n ∷ labels) at past next sec found other small has size e f g s ready =
          by (is_tested of (Case n)) refl has size (λ mid has' size' s' ready'. labels_stand labels mid past next sec found other small.1 has' size' e f g s' ready')
        where
          by : (t : Bool) → is_tested of (Case n) ≡ t
              → HasAt h at ((if t then load parameters x.0 ∷ code.constant of n ∷ the.BranchEqual (ahead (labels_size of labels + past)) ∷ [] else []) ++ labels_code parameters x of labels past)
              → at + ((if t then constant_size of + 9 else 0) + labels_size of labels) ≡ next
              → ((mid : ℕ) → HasAt h mid (labels_code parameters x of labels past) → mid + labels_size of labels ≡ next → (s : State) → Ready s.world → WaysAt h result returns 4 (go h mid [] s.world) end around aims s.work (by_case (find_case v labels s) found other))
              → WaysAt h result returns 4 (go h at [] s.world) end around aims s.work (by_case (find_case v (Case n ∷ labels) s) found other)
          by true t has size ih =
              let mid = at + (constant_size of + 9) in
              let lw = load_is parameters x.0 in
              let cw = constant_is of n in
              let test = load parameters x.0 ∷ code.constant of n ∷ the.BranchEqual (ahead (labels_size of labels + past)) ∷ [] in
              let rest = has_back h at mid test (labels_code parameters x of labels past) (omega (arith, lw, cw)) has in
              ticks h.set.x h.set.classes h.set.frames 4 (one_test 65 at n (labels_size of labels + past) mid sec s.world small.0 (tested_below (is_wide of) n t) ready (has_front h at test (labels_code parameters x of labels past) has) refl (omega (arith, size, e))
              (on (is_case v n) mid (ih mid rest (omega (arith, size)) (tick s) ready)))
            where
              on : (b : Bool) (mid : ℕ) → WaysAt h result returns 4 (go h mid [] s.world) end around aims (s.work + 1) (by_case (find_case v labels (tick s)) found other)
                  → WaysAt h result returns 65 (go h (if b then sec else mid) [] s.world) end around aims (s.work + 1) (by_case (if b then (true, tick s) else find_case v labels (tick s)) found other)
              on true mid m = more h.set.x h.set.classes h.set.frames h.set.turns 65 (f (tick s) ready) (omega arith) (omega arith)
              on false mid m = more h.set.x h.set.classes h.set.frames h.set.turns 65 m (omega arith) (omega arith)
          by false t has size ih =
              let no : is_case v n ≡ false = case_is n ∙ untested (is_wide of) m n below t in
              ticks h.set.x h.set.classes h.set.frames 4 (meant_same h.set.x h.set.classes h.set.frames (ap (λ (b : Bool). by_case (if b then (true, tick s) else find_case v labels (tick s)) found other) no)
              (more h.set.x h.set.classes h.set.frames h.set.turns 68 (ih at has (omega (arith, size)) (tick s) ready) (omega arith) (omega arith)))

      pub matching_stands : (sections : Sections) → SectionsStand aims sections → AreSmallSections sections → (at past next sec : ℕ) (other : Does Way) → HasAt h at (tests_code parameters x of sections past) → at + tests_size of sections ≡ next → next + past ≡ sec
          → HasAt h sec (sections_code tokens parameters sections sec around) → sec + sections_size sections ≡ end → end < 2 ^ 31 → Low around
          → ((s : State) → Ready s.world → WaysAt h result returns 4 (go h next [] s.world) end around aims s.work (other s))
          → (s : State) → Ready s.world → WaysAt h result returns 4 (go h at [] s.world) end around aims s.work (matching h.set.classes k h.set.turns sections v other s)
      matching_stands no_sections hold small at past next sec other has size e code_has code_size bound low g s ready = let q : at ≡ next = omega (arith, size) in at_same h.set.x h.set.classes h.set.frames (ap (λ (n : ℕ). go h n [] s.world) q) (g s ready)
      matching_stands (next_section labels body rest) hold small at past next sec other has size e code_has code_size bound low g s ready =
          let mid = at + labels_size of labels in
          let la = labels_are parameters x of labels (tests_size of rest + past) in
          let rb = regions_are tokens parameters body sec around in
          let sec2 = sec + regions_size body in
          labels_stand labels at (tests_size of rest + past) mid sec (λ s1. then_next (in_order h.set.classes k h.set.turns body s1) (following h.set.classes k h.set.turns rest)) (λ s1. matching h.set.classes k h.set.turns rest v other s1)
          small.0 (has_front h at (labels_code parameters x of labels (tests_size of rest + past)) (tests_code parameters x of rest (past + regions_size body)) has) refl (omega (arith, size, e))
          (λ s1 r. more h.set.x h.set.classes h.set.frames h.set.turns 4 (following_stands aims (next_section labels body rest) hold sec end around s1 code_has code_size bound low r.0) (omega arith) (omega arith))
          (λ s1 r. matching_stands rest hold.1 small.2 mid (past + regions_size body) next sec2 other
          (has_back h at mid (labels_code parameters x of labels (tests_size of rest + past)) (tests_code parameters x of rest (past + regions_size body)) (ap (λ (n : ℕ). at + n) la) has)
          (omega (arith, size)) (omega (arith, e))
          (has_back h sec sec2 (regions_code tokens parameters body sec around) (sections_code tokens parameters rest sec2 around) (ap (λ (n : ℕ). sec + n) rb) code_has) (omega (arith, code_size)) bound low g s1 r)
          s ready

  -- a value that is stored, and what the variable holds then
  pub store_told : (at end : ℕ) (rest : List Instruction) (x : LocalId) (of : BareType) (v : Value) (s : State) → slice_get h.locals x.0 ≡ Some of → IsOf of v → HasAt h at (store parameters x.0 ∷ rest)
      → at + width (store parameters x.0) ≡ end → Fine h s.world
      → StandsAt h.set 1 (go h at (v ∷ []) s.world) (λ (v : Value) (w : World). go h end [] w) (λ (v : Value) (w : World). IsOf of v × Fine h w × (slice_get w.variables x.0 ≡ Some v)) s.work (write_local x v s)
  store_told at end rest x of v s is vi has size fine =
      let st = known.stores x.0 of is in
      let next = at + width (store parameters x.0) in
      let within = are_within h.locals s.world.variables x.0 of fine.0 is in
      let inside = lt-ltb x.0 (length s.world.variables) within in
      meant_same h.set.x h.set.classes h.set.frames (ap (λ (b : Bool). if b then (Ok v, in_world (with_variable x.0 v) s) else (Err Wrong, s)) inside)
      (did h.set.x h.set.classes h.set.frames (state_at h at (v ∷ []) s.world) (record { at = at; operation = does.StoreVariable x.0 st.0; next = next }) (has.0 ∙ ap (placed at next) (st.2 next))
      (at_same h.set.x h.set.classes h.set.frames
      (ap (λ (o : Option Value). given o (λ (held : Value). step.store x.0 held s.world (go h next []))) (stored_is st.0 v (subst (λ (t : BareType). IsOf t v) (sym st.1) vi))
      ∙ ap (λ (b : Bool). if b then go h next [] (with_variable x.0 v s.world) else machine.Stuck) inside
      ∙ ap (λ (n : ℕ). go h n [] (with_variable x.0 v s.world)) size)
      (stays h.set.x h.set.classes h.set.frames v (in_world (with_variable x.0 v) s) (vi, (are_set h.locals s.world.variables x.0 of v fine.0 is vi, fine.1), set_get s.world.variables x.0 v within) refl)))
