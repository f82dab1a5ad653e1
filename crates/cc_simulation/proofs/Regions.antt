-- The machine does what regions mean.
use Rattle.std.proofs.Common.{◌≡◌, ℕ, ◌+◌, ◌<◌, ◌^◌, List, [], ◌∷◌, ◌++◌, true, Option, Some, None, refl, sym, ap, ◌∙◌, subst, arith, slice_get}
use Rattle.std.specs.Prelude.{option_map}
use Rattle.cc_base.specs.declared.identifiers.LocalId.{LocalId}
use Rattle.cc_cil.specs.declared.instruction.Instruction.{Instruction}
use Rattle.cc_cil.specs.declared.instruction.Instruction.TheVariants as the
use Rattle.cc_core.specs.declared.state.State.{State}
use Rattle.cc_core.specs.declared.tree.LoopKind.{LoopKind}
use Rattle.cc_core.specs.declared.tree.LoopKind.TheVariants.{TestFirst, BodyFirst}
use Rattle.cc_core.specs.declared.world.Value.{Value, Nothing}
use Rattle.cc_core.specs.declared.world.World.{World}
use Rattle.cc_core.specs.Numbers.{is_wide, number}
use Rattle.cc_core.specs.Outcome.{initial_value}
use Rattle.cc_core.specs.Run as run
use Rattle.cc_core.specs.Run.{Ran, Does, Calls, bind, gives, tick, write_local, by_truth}
use Rattle.cc_core.specs.Term.{Term, type_of}
use Rattle.cc_core.specs.Typed.{is_number, IsTyped, IsTypedIf, FitsVariable, FitsResult}
use Rattle.cc_core.specs.Types.{BareType}
use Rattle.cc_core.specs.Value.{value_of}
use Rattle.cc_code.specs.declared.targets.Target.{Target}
use Rattle.cc_code.specs.declared.tokens.Tokens.{Tokens}
use Rattle.cc_code.specs.Instructions.{width, bytes, ahead, back, branches}
use Rattle.cc_code.specs.Operators as code
use Rattle.cc_code.specs.Operators.{drop_value, store}
use Rattle.cc_code.specs.Regions.{break_at, continue_at, target, default_place, sections_at, do_if_code, initial_code, declare_code, return_code, tests_code, region_code, regions_code, sections_code}
use Rattle.cc_code.specs.Sizes.{term_size, do_if_size, initial_size, tests_size, region_size, sections_size}
use Rattle.cc_code.specs.Terms.{term_code}
use Rattle.cc_simulation.proofs.Targets.{ahead_lands, back_lands}
use Rattle.cc_code.proofs.RegionSums.{do_if_is, tests_are, region_is, sections_are}
use Rattle.cc_code.proofs.Sums.{zero_is as zero_width_is, store_is, term_is, branches_is}
use Rattle.cc_execution.specs.declared.operation.Operation.TheVariants as does
use Rattle.cc_execution.specs.Operations.{natural}
use Rattle.cc_execution.specs.State.{Next}
use Rattle.cc_execution.specs.Step.{act, placed_in}
use Rattle.cc_region.specs.Leave as way
use Rattle.cc_region.specs.Leave.{Way, left_block}
use Rattle.cc_region.specs.Outcome.{outcome_of, matching, defaulting, loop, return_if, do_if}
use Rattle.cc_region.specs.Region as region
use Rattle.cc_region.specs.Region.{Region, Regions, Sections, no_regions, next_region, no_sections, next_section}
use Rattle.cc_region.specs.Typed.{Aim, a_block, a_loop, IsFit, AreFit, AreFitSections}
use Rattle.cc_simulation.specs.Known.{IsSmall, IsSmallIf, Knows}
use Rattle.cc_simulation.specs.Sites.{Site, StandsAt, HasAt, Fine, Good, go, state_at, placed}
use Rattle.cc_simulation.specs.Values.{IsOf, pushed}
use Rattle.cc_simulation.specs.Ways.{leads, WayGood, Low, Returns, IsSmallRegion, AreSmallRegions, AreSmallSections}
use Rattle.cc_simulation.proofs.Exits.{WaysAt, nexts, then_nop, then_jump, block_left, leave_stands, low_more}
use Rattle.cc_simulation.proofs.Conversions.{zero_did}
use Rattle.cc_simulation.proofs.Loops.{RegionStands, do_if_stands, turns_stand, after_stand}
use Rattle.cc_simulation.proofs.Operators.{promoted_number}
use Rattle.cc_simulation.proofs.Parts.{has_front, has_back, branches_stand, drops, store_stands}
use Rattle.cc_simulation.proofs.Ranges.{zero_is, zero_fits}
use Rattle.cc_simulation.proofs.Steps.{did, stays, more, at_same, meant_same, ticks, binds}
use Rattle.cc_simulation.proofs.Switches.{RegionsStand, SectionsStand, matching_stands, default_stands, store_told}
use Rattle.cc_simulation.proofs.Terms.{numbered, term_stands}

module _ (h : Site) (tokens : Tokens) (parameters : ℕ) (k : Calls) (known : Knows h tokens parameters k) (result : BareType) (returns : Value → World → Next) (returning : Returns h result returns) where
  -- a variable is set to its first value
  initial_stands : (x : LocalId) (of : BareType) (e : Option Term) → slice_get h.locals x.0 ≡ Some of → is_number of ≡ true → FitsVariable h.set.classes h.locals of e → IsSmallIf e → (at end : ℕ) (rest : List Instruction) (s : State)
      → HasAt h at (initial_code tokens parameters of e ++ rest) → at + initial_size of e ≡ end → Fine h s.world
      → StandsAt h.set 1 (go h at [] s.world) (λ (v : Value) (w : World). go h end (v ∷ []) w) (Good h of) s.work (initial_value h.set.classes k of e s)
  initial_stands x of None is num t small at end rest s has size fine =
      let z = zero_width_is of in
      meant_same h.set.x h.set.classes h.set.frames (ap (λ (o : Option Value). run.given o s) (zero_is of num))
      (zero_did h of at rest [] s.world has (stays h.set.x h.set.classes h.set.frames {b = 0} (number (is_wide of) 0) s (zero_fits of num, fine) (let f : at + width (code.zero of) ≡ end = omega (arith, z, size) in ap (λ (n : ℕ). go h n (number (is_wide of) 0 ∷ []) s.world) f)))
  initial_stands x of (Some e) is num t small at end rest s has size fine =
      subst (λ (of : BareType). StandsAt h.set 1 (go h at [] s.world) (λ (v : Value) (w : World). go h end (v ∷ []) w) (Good h of) s.work (value_of h.set.classes k e s)) t.1
      (more h.set.x h.set.classes h.set.frames h.set.turns 1 (numbered h tokens parameters k known e (subst (λ (o : BareType). is_number o ≡ true) (sym t.1) num) (term_stands h tokens parameters k known e t.0 small) at end [] s (has_front h at (term_code tokens parameters e) rest has) size fine) (omega arith) (omega arith))

  declare_stands : (x : LocalId) (of : BareType) (e : Option Term) → slice_get h.locals x.0 ≡ Some of → is_number of ≡ true → FitsVariable h.set.classes h.locals of e → IsSmallIf e → (at end : ℕ) (around : List Target) (aims : List Aim) (s : State)
      → HasAt h at (declare_code tokens parameters x of e) → at + (initial_size of e + 4) ≡ end → Fine h s.world
      → WaysAt h result returns 2 (go h at [] s.world) end around aims s.work (bind (initial_value h.set.classes k of e s) (λ v s1. bind (write_local x v s1) (λ done. gives way.Next)))
  declare_stands x of e is num t small at end around aims s has size fine =
      let mid = at + initial_size of e in
      let sw = store_is parameters x.0 in
      let ii = initial_width of e in
      binds h.set.x h.set.classes h.set.frames 1 1 (initial_stands x of e is num t small at mid (store parameters x.0 ∷ []) s has refl fine)
      (λ v s1 g. binds h.set.x h.set.classes h.set.frames 1 0 (store_stands h tokens parameters k known mid end [] x of v (λ (r : Value). []) s1 is g.0 (has_back h at mid (initial_code tokens parameters of e) (store parameters x.0 ∷ []) (ap (λ (n : ℕ). at + n) ii) has) (omega (arith, sw, size)) g.1)
      (λ done s2 g2. stays h.set.x h.set.classes h.set.frames way.Next s2 g2.1 refl))
    where
      initial_width : (of : BareType) (e : Option Term) → bytes (initial_code tokens parameters of e) ≡ initial_size of e
      initial_width of None = let z = zero_width_is of in omega (arith, z)
      initial_width of (Some e) = term_is tokens parameters e

  return_stands : (e : Option Term) → FitsResult h.set.classes h.locals result e → IsSmallIf e → (at end : ℕ) (around : List Target) (aims : List Aim) (s : State) → HasAt h at (return_code tokens parameters e) → Fine h s.world
      → WaysAt h result returns 1 (go h at [] s.world) end around aims s.work (return_if h.set.classes k e s)
  return_stands None t small at end around aims s has fine =
      let vi : IsOf result Nothing = subst (λ (of : BareType). IsOf of Nothing) (sym t) tt in
      let e : pushed result Nothing [] ≡ [] = ap (λ (of : BareType). pushed of Nothing []) t in
      did h.set.x h.set.classes h.set.frames (state_at h at [] s.world) (record { at = at; operation = does.Return; next = at + 1 }) has.0
      (at_same h.set.x h.set.classes h.set.frames (ap (λ (stack : List Value). act h.set.x h.set.frames does.Return (at + 1) (state_at h at stack s.world)) (sym e) ∙ returning.returned at (at + 1) Nothing s.world vi)
      (stays h.set.x h.set.classes h.set.frames {b = 0} (way.Return Nothing) s (vi, fine) refl))
  return_stands (Some e) t small at end around aims s has fine =
      let mid = at + term_size e in
      let te = term_is tokens parameters e in
      let num : is_number (type_of e) ≡ true = subst (λ (o : BareType). is_number o ≡ true) (sym t.2) t.1 in
      let ret = has_back h at mid (term_code tokens parameters e) (the.Return ∷ []) (ap (λ (n : ℕ). at + n) te) has in
      binds h.set.x h.set.classes h.set.frames 0 1 (term_stands h tokens parameters k known e t.0 small at mid [] s (has_front h at (term_code tokens parameters e) (the.Return ∷ []) has) refl fine)
      (λ v s1 g.
      let vi : IsOf result v = subst (λ (o : BareType). IsOf o v) t.2 g.0 in
      at_same h.set.x h.set.classes h.set.frames (ap (λ (of : BareType). go h mid (pushed of v []) s1.world) t.2)
      (did h.set.x h.set.classes h.set.frames (state_at h mid (pushed result v []) s1.world) (record { at = mid; operation = does.Return; next = mid + 1 }) ret.0
      (at_same h.set.x h.set.classes h.set.frames (returning.returned mid (mid + 1) v s1.world vi) (stays h.set.x h.set.classes h.set.frames {b = 0} (way.Return v) s1 (vi, g.1) refl))))

  -- ---- loops

  loop_stands : (kind : LoopKind) (c : Term) (after : Option Term) (body : Region) (aims : List Aim) → IsTyped h.set.classes h.locals c → is_number (type_of c) ≡ true → IsSmall c → IsTypedIf h.set.classes h.locals after → IsSmallIf after
      → RegionStands h tokens parameters k known result returns (a_loop ∷ aims) body → (at end : ℕ) (around : List Target) (s : State) → HasAt h at (region_code tokens parameters (region.Loop kind c after body) at around)
      → at + region_size (region.Loop kind c after body) ≡ end → end < 2 ^ 31 → Low around → Fine h s.world
      → WaysAt h result returns 5 (go h at [] s.world) end around aims s.work (loop h.set.turns kind (value_of h.set.classes k c) (outcome_of h.set.classes k h.set.turns body) (do_if h.set.classes k after) s)
  loop_stands TestFirst c after body aims t num small ta smalla ih at end around s has size bound low fine =
      let body_at = at + 5 in
      let step_at = body_at + region_size body in
      let turn = region_size body + do_if_size after in
      let test_at = body_at + turn in
      let br = test_at + term_size c in
      let past = body_at + turn + term_size c + 5 in
      let inner = target past step_at ∷ around in
      let tail = the.BranchTrue (back (turn + term_size c + 5)) ∷ the.Nop ∷ [] in
      let rb = region_is tokens parameters body body_at inner in
      let rd = do_if_is tokens parameters after in
      let rt = term_is tokens parameters c in
      let behind = has_back h body_at step_at (region_code tokens parameters body body_at inner) (do_if_code tokens parameters after ++ (term_code tokens parameters c ++ tail)) (ap (λ (n : ℕ). body_at + n) rb) has.1 in
      let test_has = has_back h step_at test_at (do_if_code tokens parameters after) (term_code tokens parameters c ++ tail) (omega (arith, rd)) behind in
      let tail_has = has_back h test_at br (term_code tokens parameters c) tail (ap (λ (n : ℕ). test_at + n) rt) test_has in
      let low' = low_more past step_at around (omega (arith, size, bound)) (omega (arith, size, bound)) low in
      did h.set.x h.set.classes h.set.frames (state_at h at [] s.world) (record { at = at; operation = does.Branch test_at; next = at + 5 })
      (has.0 ∙ ap (λ z. placed at (at + 5) (option_map does.Branch (natural z))) (ahead_lands (at + 5) turn test_at refl))
      (turns_stand h tokens parameters k known result returns c (numbered h tokens parameters k known c num (term_stands h tokens parameters k known c t small)) after body aims around body_at step_at test_at br past end
      (has_front h test_at (term_code tokens parameters c) tail test_has) refl
      (tail_has.0 ∙ ap (λ z. placed br (br + 5) (option_map (does.BranchIf true) (natural z))) (back_lands (br + 5) (turn + term_size c + 5) body_at (omega arith)))
      (tail_has.1.0 ∙ ap (λ (n : ℕ). Some (record { at = past; operation = does.Nothing; next = n })) (omega (arith, size)))
      (λ s1 g. ih body_at step_at inner s1 (has_front h body_at (region_code tokens parameters body body_at inner) (do_if_code tokens parameters after ++ (term_code tokens parameters c ++ tail)) has.1) refl (omega (arith, size, bound)) low' g)
      (λ s1 g. do_if_stands h tokens parameters k known result returns after ta smalla step_at test_at around aims s1 (has_front h step_at (do_if_code tokens parameters after) (term_code tokens parameters c ++ tail) behind) (omega arith) g)
      h.set.turns (omega arith) s fine)
  loop_stands BodyFirst c after body aims t num small ta smalla ih at end around s has size bound low fine =
      let body_at = at + 0 in
      let step_at = body_at + region_size body in
      let turn = region_size body + 0 in
      let test_at = body_at + turn in
      let br = test_at + term_size c in
      let past = body_at + turn + term_size c + 5 in
      let inner = target past step_at ∷ around in
      let tail = the.BranchTrue (back (turn + term_size c + 5)) ∷ the.Nop ∷ [] in
      let rb = region_is tokens parameters body body_at inner in
      let rt = term_is tokens parameters c in
      let at_is : at ≡ body_at = omega arith in
      let has0 : HasAt h body_at (region_code tokens parameters body body_at inner ++ (term_code tokens parameters c ++ tail)) = subst (λ (n : ℕ). HasAt h n (region_code tokens parameters body body_at inner ++ (term_code tokens parameters c ++ tail))) at_is has in
      let test_has = has_back h body_at test_at (region_code tokens parameters body body_at inner) (term_code tokens parameters c ++ tail) (omega (arith, rb)) has0 in
      let tail_has = has_back h test_at br (term_code tokens parameters c) tail (ap (λ (n : ℕ). test_at + n) rt) test_has in
      let low' = low_more past step_at around (omega (arith, size, bound)) (omega (arith, size, bound)) low in
      at_same h.set.x h.set.classes h.set.frames (ap (λ (n : ℕ). go h n [] s.world) at_is)
      (more h.set.x h.set.classes h.set.frames h.set.turns 5
      (after_stand h tokens parameters k known result returns c (numbered h tokens parameters k known c num (term_stands h tokens parameters k known c t small)) after body aims around body_at step_at test_at br past end
      (has_front h test_at (term_code tokens parameters c) tail test_has) refl
      (tail_has.0 ∙ ap (λ z. placed br (br + 5) (option_map (does.BranchIf true) (natural z))) (back_lands (br + 5) (turn + term_size c + 5) body_at (omega arith)))
      (tail_has.1.0 ∙ ap (λ (n : ℕ). Some (record { at = past; operation = does.Nothing; next = n })) (omega (arith, size)))
      (λ s1 g. ih body_at step_at inner s1 (has_front h body_at (region_code tokens parameters body body_at inner) (term_code tokens parameters c ++ tail) has0) refl (omega (arith, size, bound)) low' g)
      (omega arith) h.set.turns (omega arith) s fine)
      (omega arith) (omega arith))

  -- ---- switches

  switch_stands : (x : LocalId) (e : Term) (sections : Sections) (aims : List Aim) → IsTyped h.set.classes h.locals e → is_number (type_of e) ≡ true → IsSmall e → slice_get h.locals x.0 ≡ Some (type_of e) → SectionsStand h tokens parameters k known result returns (a_block ∷ aims) sections → AreSmallSections sections
      → (at end : ℕ) (around : List Target) (s : State) → HasAt h at (region_code tokens parameters (region.Switch x e sections) at around) → at + region_size (region.Switch x e sections) ≡ end → end < 2 ^ 31 → Low around → Fine h s.world
      → WaysAt h result returns 64 (go h at [] s.world) end around aims s.work
      (bind (value_of h.set.classes k e s) (λ v s1. bind (write_local x v s1) (λ u s2. left_block (matching h.set.classes k h.set.turns sections u (defaulting h.set.classes k h.set.turns sections) s2))))
  switch_stands x e sections aims t num small is hold smalls at end around s has size bound low fine =
      let m1 = at + term_size e in
      let m2 = m1 + width (store parameters x.0) in
      let m3 = m2 + tests_size (type_of e) sections in
      let sec = sections_at e sections at in
      let last = sec + sections_size sections in
      let inner = target last last ∷ around in
      let te = term_is tokens parameters e in
      let sw = store_is parameters x.0 in
      let tt' = tests_are parameters x (type_of e) sections 5 in
      let ss = sections_are tokens parameters sections sec inner in
      let tests = tests_code parameters x (type_of e) sections 5 in
      let body = sections_code tokens parameters sections sec inner ++ the.Nop ∷ [] in
      let r1 = has_back h at m1 (term_code tokens parameters e) (store parameters x.0 ∷ (tests ++ (the.Branch (ahead (default_place sections)) ∷ body))) (ap (λ (n : ℕ). at + n) te) has in
      let r3 = has_back h m2 m3 tests (the.Branch (ahead (default_place sections)) ∷ body) (ap (λ (n : ℕ). m2 + n) tt') r1.1 in
      let sec_is : m3 + 5 ≡ sec = omega (arith, sw) in
      let r4 = subst (λ (n : ℕ). HasAt h n body) sec_is r3.1 in
      let r5 = has_back h sec last (sections_code tokens parameters sections sec inner) (the.Nop ∷ []) (ap (λ (n : ℕ). sec + n) ss) r4 in
      let low' = low_more last last around (omega (arith, size, bound)) (omega (arith, size, bound)) low in
      let code_has = has_front h sec (sections_code tokens parameters sections sec inner) (the.Nop ∷ []) r4 in
      binds h.set.x h.set.classes h.set.frames 0 64 (numbered h tokens parameters k known e num (term_stands h tokens parameters k known e t small) at m1 [] s (has_front h at (term_code tokens parameters e) (store parameters x.0 ∷ (tests ++ (the.Branch (ahead (default_place sections)) ∷ body))) has) refl fine)
      (λ v s1 g. binds h.set.x h.set.classes h.set.frames 1 63 (store_told h tokens parameters k known result returns m1 m2 (tests ++ (the.Branch (ahead (default_place sections)) ∷ body)) x (type_of e) v s1 is g.0 r1 refl g.1)
      (λ u s2 g2. more h.set.x h.set.classes h.set.frames h.set.turns 63
      (block_left h result returns 4 last end last around aims
      (matching_stands h tokens parameters k known result returns x (type_of e) num is u g2.0 last inner (a_block ∷ aims) sections hold smalls m2 5 m3 sec (defaulting h.set.classes k h.set.turns sections)
      (has_front h m2 tests (the.Branch (ahead (default_place sections)) ∷ body) r1.1) refl sec_is code_has refl (omega (arith, size, bound)) low'
      (λ s3 ready. more h.set.x h.set.classes h.set.frames h.set.turns 4
      (did h.set.x h.set.classes h.set.frames (state_at h m3 [] s3.world) (record { at = m3; operation = does.Branch (sec + default_place sections); next = m3 + 5 })
      (r3.0 ∙ ap (λ z. placed m3 (m3 + 5) (option_map does.Branch (natural z))) (ahead_lands (m3 + 5) (default_place sections) (sec + default_place sections) (omega (arith, sec_is))))
      (default_stands h tokens parameters k known result returns (a_block ∷ aims) sections hold sec last inner s3 code_has refl (omega (arith, size, bound)) low' ready.0))
      (omega arith) (omega arith))
      s2 (g2.1, g2.2))
      (r5.0 ∙ ap (λ (n : ℕ). Some (record { at = last; operation = does.Nothing; next = n })) (omega (arith, size))))
      (omega arith) (omega arith)))

  -- ---- all regions

  mutual
    pub region_stands : (r : Region) (aims : List Aim) → IsFit h.set.classes h.locals result aims r → IsSmallRegion r → RegionStands h tokens parameters k known result returns aims r
    region_stands (region.Sequence regions) aims t small at end around s has size bound low fine =
        ticks h.set.x h.set.classes h.set.frames 0 (more h.set.x h.set.classes h.set.frames h.set.turns 64 (regions_stand regions aims t small at end around (tick s) has size bound low fine) (omega arith) (omega arith))
    region_stands (region.Do e) aims t small at end around s has size bound low fine =
        let mid = at + term_size e in
        let te = term_is tokens parameters e in
        ticks h.set.x h.set.classes h.set.frames 0 (binds h.set.x h.set.classes h.set.frames 0 64 (term_stands h tokens parameters k known e t small at mid [] (tick s) (has_front h at (term_code tokens parameters e) (drop_value (type_of e)) has) refl fine)
        (λ v s1 g. drops h 63 mid end (type_of e) v [] s1.world (has_back h at mid (term_code tokens parameters e) (drop_value (type_of e)) (ap (λ (n : ℕ). at + n) te) has) (omega (arith, size))
        (stays h.set.x h.set.classes h.set.frames way.Next s1 g.1 refl)))
    region_stands (region.Declare x of e) aims t small at end around s has size bound low fine =
        ticks h.set.x h.set.classes h.set.frames 0 (more h.set.x h.set.classes h.set.frames h.set.turns 64 (declare_stands x of e t.0 t.1 t.2 small at end around aims (tick s) has size fine) (omega arith) (omega arith))
    region_stands (region.If c a b) aims t small at end around s has size bound low fine =
        let mid = at + term_size c in
        let n = region_size a in
        let m = region_size b in
        let j = mid + n + m + 10 in
        let ca = region_code tokens parameters a (at + term_size c + region_size b + 10) around in
        let cb = region_code tokens parameters b (at + term_size c + 5) around in
        let tc = term_is tokens parameters c in
        let rb = region_is tokens parameters b (at + term_size c + 5) around in
        let ra = region_is tokens parameters a (at + term_size c + region_size b + 10) around in
        let whole = branches n ca m cb in
        let hw = has_back h at mid (term_code tokens parameters c) (whole ++ the.Nop ∷ []) (ap (λ (n : ℕ). at + n) tc) has in
        let bw = branches_is n m ca cb in
        let hn = has_back h mid j whole (the.Nop ∷ []) (omega (arith, bw, ra, rb)) hw in
        let nop : placed_in h.set.x h.method j ≡ Some (record { at = j; operation = does.Nothing; next = end }) = hn.0 ∙ ap (λ (n : ℕ). Some (record { at = j; operation = does.Nothing; next = n })) (omega (arith, size)) in
        ticks h.set.x h.set.classes h.set.frames 0 (binds h.set.x h.set.classes h.set.frames 0 64 (numbered h tokens parameters k known c t.0.1 (term_stands h tokens parameters k known c t.0.0 small.0) at mid [] (tick s) (has_front h at (term_code tokens parameters c) (whole ++ the.Nop ∷ []) has) refl fine)
        (λ v s1 g. more h.set.x h.set.classes h.set.frames h.set.turns 64
        (branches_stand h {ends = leads h end around returns} {good = WayGood h result aims} 2 mid n m j ca cb v [] s1 (outcome_of h.set.classes k h.set.turns a) (outcome_of h.set.classes k h.set.turns b) rb refl (has_front h mid whole (the.Nop ∷ []) hw)
        (λ hf. more h.set.x h.set.classes h.set.frames h.set.turns 2 (then_nop h result returns 0 j end around aims (region_stands a aims t.1 small.1 (mid + m + 10) j around s1 hf (omega arith) (omega (arith, size, bound)) low g.1) nop) (omega arith) (omega arith))
        (λ hs jump. then_nop h result returns 1 j end around aims (then_jump h result returns 0 (mid + 5 + m) (mid + 5 + m + 5) j around aims (region_stands b aims t.2 small.2 (mid + 5) (mid + 5 + m) around s1 hs refl (omega (arith, size, bound)) low g.1) jump) nop))
        (omega arith) (omega arith)))
    region_stands (region.Block body) aims t small at end around s has size bound low fine =
        let j = at + region_size body in
        let inner = target j j ∷ around in
        let rb = region_is tokens parameters body at inner in
        let hn = has_back h at j (region_code tokens parameters body at inner) (the.Nop ∷ []) (ap (λ (n : ℕ). at + n) rb) has in
        ticks h.set.x h.set.classes h.set.frames 0 (more h.set.x h.set.classes h.set.frames h.set.turns 64
        (block_left h result returns 0 j end j around aims
        (region_stands body (a_block ∷ aims) t small at j inner (tick s) (has_front h at (region_code tokens parameters body at inner) (the.Nop ∷ []) has) refl (omega (arith, size, bound)) (low_more j j around (omega (arith, size, bound)) (omega (arith, size, bound)) low) fine)
        (hn.0 ∙ ap (λ (n : ℕ). Some (record { at = j; operation = does.Nothing; next = n })) (omega (arith, size))))
        (omega arith) (omega arith))
    region_stands (region.Switch x e sections) aims t small at end around s has size bound low fine =
        ticks h.set.x h.set.classes h.set.frames 0 (switch_stands x e sections aims t.0 (promoted_number (type_of e) t.1) small.0 t.2 (sections_stand sections (a_block ∷ aims) (type_of e) t.3 small.1) small.1 at end around (tick s) has size bound low fine)
    region_stands (region.Loop kind c after body) aims t small at end around s has size bound low fine =
        ticks h.set.x h.set.classes h.set.frames 0 (more h.set.x h.set.classes h.set.frames h.set.turns 64
        (loop_stands kind c after body aims t.0.0 t.0.1 small.0 t.1 small.1 (region_stands body (a_loop ∷ aims) t.2 small.2) at end around (tick s) has size bound low fine)
        (omega arith) (omega arith))
    region_stands (region.Break number) aims t small at end around s has size bound low fine =
        ticks h.set.x h.set.classes h.set.frames 0 (more h.set.x h.set.classes h.set.frames h.set.turns 64 (leave_stands h result returns known.quiet at (break_at around number) end around aims (way.Break number) (tick s) has (omega (arith, size, bound)) (low number).0 (t, fine) refl) (omega arith) (omega arith))
    region_stands (region.Continue number) aims t small at end around s has size bound low fine =
        ticks h.set.x h.set.classes h.set.frames 0 (more h.set.x h.set.classes h.set.frames h.set.turns 64 (leave_stands h result returns known.quiet at (continue_at around number) end around aims (way.Continue number) (tick s) has (omega (arith, size, bound)) (low number).1 (t, fine) refl) (omega arith) (omega arith))
    region_stands (region.Return e) aims t small at end around s has size bound low fine =
        ticks h.set.x h.set.classes h.set.frames 0 (more h.set.x h.set.classes h.set.frames h.set.turns 64 (return_stands e t small at end around aims (tick s) has fine) (omega arith) (omega arith))
    region_stands _ aims t small at end around s has size bound low fine = absurd t

    pub regions_stand : (regions : Regions) (aims : List Aim) → AreFit h.set.classes h.locals result aims regions → AreSmallRegions regions → RegionsStand h tokens parameters k known result returns aims regions
    regions_stand no_regions aims t small at end around s has size bound low fine = let f : at ≡ end = omega (arith, size) in stays h.set.x h.set.classes h.set.frames way.Next s fine (ap (λ (n : ℕ). go h n [] s.world) f)
    regions_stand (next_region a rest) aims t small at end around s has size bound low fine =
        let mid = at + region_size a in
        let ra = region_is tokens parameters a at around in
        nexts h result returns h.set.turns 0 0 mid end around aims
        (region_stands a aims t.0 small.0 at mid around s (has_front h at (region_code tokens parameters a at around) (regions_code tokens parameters rest mid around) has) refl (omega (arith, size, bound)) low fine)
        (λ s1 g. regions_stand rest aims t.1 small.1 mid end around s1 (has_back h at mid (region_code tokens parameters a at around) (regions_code tokens parameters rest mid around) (ap (λ (n : ℕ). at + n) ra) has) (omega (arith, size)) bound low g)

    sections_stand : (sections : Sections) (aims : List Aim) (of : BareType) → AreFitSections h.set.classes h.locals result aims of sections → AreSmallSections sections → SectionsStand h tokens parameters k known result returns aims sections
    sections_stand no_sections aims of t small = tt
    sections_stand (next_section labels body rest) aims of t small = (regions_stand body aims t.1 small.1, sections_stand rest aims of t.2 small.2)
