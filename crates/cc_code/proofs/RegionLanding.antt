-- Where the branches and exits of regions lead.
use Rattle.std.proofs.Common.{◌≡◌, ℕ, zero, suc, ◌+◌, ◌^◌, ◌<◌, ◌≤◌, ℤ, pos, ◌+ℤ◌, List, [], ◌∷◌, ◌++◌, Bool, true, false, Option, Some, None, refl, sym, ap, ◌∙◌, subst, arith, inl, inr, length, map}
use Rattle.std.specs.Prelude.{◌⊎◌, ⊤, ◌||◌, nat_lt, slice_get, if◌then◌else◌}
use Rattle.cc_base.specs.declared.identifiers.LocalId.{LocalId}
use Rattle.cc_cil.specs.declared.instruction.Instruction.{Instruction}
use Rattle.cc_cil.specs.declared.instruction.Instruction.TheVariants as the
use Rattle.cc_core.specs.declared.tree.LoopKind.{LoopKind}
use Rattle.cc_core.specs.declared.tree.LoopKind.TheVariants.{TestFirst, BodyFirst}
use Rattle.cc_core.specs.declared.tree.SwitchLabel.{SwitchLabel}
use Rattle.cc_core.specs.declared.tree.SwitchLabel.TheVariants.{Case, Default}
use Rattle.cc_core.specs.declared.types.ClassInfo.{ClassInfo}
use Rattle.cc_core.specs.Leave.{has_default}
use Rattle.cc_core.specs.Numbers.{is_wide}
use Rattle.cc_core.specs.Term.{Term, type_of}
use Rattle.cc_core.specs.Types as type
use Rattle.cc_core.specs.Types.{BareType, bare}
use Rattle.cc_region.specs.declared.tree.RegionFunction.{RegionFunction}
use Rattle.cc_region.specs.Bare.{region_of}
use Rattle.cc_region.specs.Region as region
use Rattle.cc_region.specs.Region.{Region, Regions, Sections}
use Rattle.cc_region.specs.Typed.{Aim, a_block, a_loop, IsFit, AreFit, AreFitSections, IsFunction}
use Rattle.cc_code.specs.declared.targets.Target.{Target}
use Rattle.cc_code.specs.declared.tokens.Tokens.{Tokens}
use Rattle.cc_code.specs.Functions.{end_code, function_instructions, function_size}
use Rattle.cc_code.specs.Instructions.{bytes, branches, ahead, back, distance, width}
use Rattle.cc_code.specs.Landing.{offset_of, BeginsAt, Lands, AllLand, BranchesLand}
use Rattle.cc_code.specs.Operators.{constant, load, store, drop_value}
use Rattle.cc_code.specs.Operators as operators
use Rattle.cc_code.specs.Regions.{default_place, entry_code, target, test_code, labels_code, tests_code, do_code, do_if_code, initial_code, declare_code, return_code, sections_at, region_code, regions_code, sections_code, break_at, continue_at, leave}
use Rattle.cc_code.specs.Sizes.{term_size, do_if_size, step_of, entry_size, is_tested, test_size, labels_size, tests_size, constant_size, region_size, regions_size, sections_size}
use Rattle.cc_code.specs.Terms.{term_code}
use Rattle.cc_code.proofs.Sums.{bytes-append, constant_is, load_is, store_is, term_is}
use Rattle.cc_code.proofs.RegionSums.{test_is, labels_are, tests_are, do_if_is, entry_is, region_is, regions_are, sections_are}
use Rattle.cc_code.proofs.Landing.{ahead_lands, back_lands, leave_lands, AllPlaces, own_places, places_at, land_at, place_at, places_front, places_back, first_place, land_append, IsStraight, nowhere, straight_lands, constant_none, zero_none, load_none, store_none, drop_straight, ClosedAt, Closed, straight, both_at, both, one_then, choice_at, term_closed}

-- ---- exits

-- the targets are those of these constructs: places, near enough to be led to
pub record Aimed (P : ℕ → Type 0) (aims : List Aim) (around : List Target) : Type 0 where
  pub breaks : (n : ℕ) → n < length aims → P (break_at around n) × (break_at around n < 2 ^ 31)
  pub continues : (n : ℕ) → slice_get aims n ≡ Some a_loop → P (continue_at around n) × (continue_at around n < 2 ^ 31)

no_loop : None ≡ Some a_loop → ⊥
no_loop h = cc

block_is_no_loop : Some a_block ≡ Some a_loop → ⊥
block_is_no_loop h = cc

none_at : (n : ℕ) → slice_get [] n ≡ Some a_loop → ⊥
none_at zero h = no_loop h
none_at (suc n) h = no_loop h

none_aimed : (P : ℕ → Type 0) → Aimed P [] []
none_aimed P = record {
  breaks = λ n h. let none : n < 0 = h in absurd (omega arith);
  continues = λ n h. absurd (none_at n h);
}

module _ (P : ℕ → Type 0) (aims : List Aim) (around : List Target) (aimed : Aimed P aims around) (past next : ℕ) (ends : P past) (near : past < 2 ^ 31) where
  break_in : (aim : Aim) (n : ℕ) → n < length (aim ∷ aims) → P (break_at (target past next ∷ around) n) × (break_at (target past next ∷ around) n < 2 ^ 31)
  break_in aim zero h = (ends, near)
  break_in aim (suc n) h = let k : n < length aims = omega arith in aimed.breaks n k

  continue_in_block : (n : ℕ) → slice_get (a_block ∷ aims) n ≡ Some a_loop → P (continue_at (target past next ∷ around) n) × (continue_at (target past next ∷ around) n < 2 ^ 31)
  continue_in_block zero h = absurd (block_is_no_loop h)
  continue_in_block (suc n) h = aimed.continues n h

  pub in_block : Aimed P (a_block ∷ aims) (target past next ∷ around)
  in_block = record { breaks = break_in a_block; continues = continue_in_block }

  module _ (goes : P next) (next_near : next < 2 ^ 31) where
    continue_in_loop : (n : ℕ) → slice_get (a_loop ∷ aims) n ≡ Some a_loop → P (continue_at (target past next ∷ around) n) × (continue_at (target past next ∷ around) n < 2 ^ 31)
    continue_in_loop zero h = (goes, next_near)
    continue_in_loop (suc n) h = aimed.continues n h

    pub in_loop : Aimed P (a_loop ∷ aims) (target past next ∷ around)
    in_loop = record { breaks = break_in a_loop; continues = continue_in_loop }

leave_land : (P : ℕ → Type 0) (at to : ℕ) → at + 5 < 2 ^ 31 → P to × (to < 2 ^ 31) → AllLand P (leave at to ∷ []) at
leave_land P at to h t = ((to, leave_lands (at + 5) to h t.1, t.0), tt)

-- ---- switches

module _ (P : ℕ → Type 0) (parameters : ℕ) (x : LocalId) (of : BareType) where
  tested_land : (tested : Bool) (n past at place : ℕ) → at + (if tested then constant_size of + 9 else 0) + past ≡ place → P place
      → AllLand P (if tested then load parameters x.0 ∷ constant of n ∷ the.BranchEqual (ahead past) ∷ [] else []) at
  tested_land true n past at place e p =
      let a = load_is parameters x.0 in
      let b = constant_is of n in (
        nowhere P (at + width (load parameters x.0)) (offset_of (load parameters x.0)) (load_none parameters x.0),
        (
          nowhere P (at + width (load parameters x.0) + width (constant of n)) (offset_of (constant of n)) (constant_none of n),
          ((place, ahead_lands (at + width (load parameters x.0) + width (constant of n) + 5) past place (omega arith), p), tt),
        ),
      )
  tested_land false n past at place e p = tt

  test_land : (label : SwitchLabel) (past at place : ℕ) → at + test_size of label + past ≡ place → P place → AllLand P (test_code parameters x of label past) at
  test_land Default past at place e p = tt
  test_land (Case n) past at place e p = tested_land (is_wide of || nat_lt n (2 ^ 32)) n past at place e p

  labels_land : (labels : List SwitchLabel) (past at place : ℕ) → at + labels_size of labels + past ≡ place → P place → AllLand P (labels_code parameters x of labels past) at
  labels_land [] past at place e p = tt
  labels_land (label ∷ labels) past at place e p =
      let a = test_is parameters x of label (labels_size of labels + past) in
      land_append P (test_code parameters x of label (labels_size of labels + past)) (labels_code parameters x of labels past) at (at + test_size of label) (omega arith)
      (test_land label (labels_size of labels + past) at place (omega arith) p) (labels_land labels past (at + test_size of label) place (omega arith) p)

  module _ (tokens : Tokens) (around : List Target) where
    -- each test leads to its section
    tests_land : (sections : Sections) (past at place end : ℕ) → at + tests_size of sections + past ≡ place → place + sections_size sections ≡ end
        → AllPlaces P (sections_code tokens parameters sections place around) place → P end → AllLand P (tests_code parameters x of sections past) at
    tests_land region.no_sections past at place end e f p q = tt
    tests_land (region.next_section labels body rest) past at place end e f p q =
        let a = labels_are parameters x of labels (tests_size of rest + past) in
        let b = sections_are tokens parameters (region.next_section labels body rest) place around in
        let c = regions_are tokens parameters body place around in
        let here = first_place P (sections_code tokens parameters (region.next_section labels body rest) place around) place end (omega arith) p q in
        let others = places_back P (regions_code tokens parameters body place around) (sections_code tokens parameters rest (place + regions_size body) around) place (place + regions_size body) (omega arith) p in
        land_append P (labels_code parameters x of labels (tests_size of rest + past)) (tests_code parameters x of rest (past + regions_size body)) at (at + labels_size of labels) (omega arith)
        (labels_land labels (tests_size of rest + past) at place (omega arith) here)
        (tests_land rest (past + regions_size body) (at + labels_size of labels) (place + regions_size body) end (omega arith) (omega arith) others q)

-- the section with the label `default`, or the end
module _ (P : ℕ → Type 0) (tokens : Tokens) (parameters : ℕ) (around : List Target) where
  default_in : (b : Bool) (place size rest : ℕ) → P place → P (place + size + rest) → P (place + (if b then 0 else size + rest))
  default_in true place size rest p q = place_at P place (place + 0) (omega arith) p
  default_in false place size rest p q = place_at P (place + size + rest) (place + (size + rest)) (omega arith) q

  default_is : (sections : Sections) (place end : ℕ) → place + sections_size sections ≡ end
      → AllPlaces P (sections_code tokens parameters sections place around) place → P end → P (place + default_place sections)
  default_is region.no_sections place end e p q = place_at P end (place + 0) (omega arith) q
  default_is (region.next_section labels body rest) place end e p q =
      let b = sections_are tokens parameters (region.next_section labels body rest) place around in
      let c = regions_are tokens parameters body place around in
      let here = first_place P (sections_code tokens parameters (region.next_section labels body rest) place around) place end (omega arith) p q in
      let others = places_back P (regions_code tokens parameters body place around) (sections_code tokens parameters rest (place + regions_size body) around) place (place + regions_size body) (omega arith) p in
      default_in (has_default labels) place (regions_size body) (default_place rest) here (default_is rest (place + regions_size body) end (omega arith) others q)

-- ---- regions

module _ (P : ℕ → Type 0) (classes : List ClassInfo) (locals : List BareType) (result : BareType) (tokens : Tokens) (parameters : ℕ) where
  expression : (e : Term) → Closed P (term_code tokens parameters e)
  expression e = term_closed P tokens parameters e

  do_closed : (e : Term) → Closed P (do_code tokens parameters e)
  do_closed e = both P (term_code tokens parameters e) (drop_value (type_of e)) (expression e) (straight P (drop_value (type_of e)) (drop_straight (type_of e)))

  do_if_closed : (e : Option Term) → Closed P (do_if_code tokens parameters e)
  do_if_closed None = straight P [] tt
  do_if_closed (Some e) = do_closed e

  initial_closed : (of : BareType) (e : Option Term) → Closed P (initial_code tokens parameters of e)
  initial_closed of None = straight P (operators.zero of ∷ []) (zero_none of, tt)
  initial_closed of (Some e) = expression e

  return_closed : (e : Option Term) → Closed P (return_code tokens parameters e)
  return_closed None = straight P (the.Return ∷ []) (refl, tt)
  return_closed (Some e) = both P (term_code tokens parameters e) (the.Return ∷ []) (expression e) (straight P (the.Return ∷ []) (refl, tt))

  entry_land : (kind : LoopKind) (n at place : ℕ) → at + entry_size kind + n ≡ place → P place → AllLand P (entry_code kind n) at
  entry_land TestFirst n at place e p = ((place, ahead_lands (at + 5) n place e, p), tt)
  entry_land BodyFirst n at place e p = tt

  -- one part, and then a `nop` to which its exits lead
  ended : (code : List Instruction) (at size : ℕ) → bytes code ≡ size → (P (at + size) → ClosedAt P code at) → ClosedAt P (code ++ the.Nop ∷ []) at
  ended code at size s c end e p q =
      let w = bytes-append code (the.Nop ∷ []) in
      let last = places_back P code (the.Nop ∷ []) at (at + size) (omega arith) p in
      let f : at + bytes code ≡ at + size = omega arith in
      land_append P code (the.Nop ∷ []) at (at + size) f (c last.0 (at + size) f (places_front P code (the.Nop ∷ []) at p) last.0) (tt, tt)

  switch_lands : (x : LocalId) (e : Term) (sections : Sections) (aims : List Aim) (at : ℕ) (around : List Target) → Aimed P aims around → at + region_size (region.Switch x e sections) < 2 ^ 31
      → ((place : ℕ) (inner : List Target) → Aimed P (a_block ∷ aims) inner → place + sections_size sections < 2 ^ 31 → ClosedAt P (sections_code tokens parameters sections place inner) place)
      → ClosedAt P (region_code tokens parameters (region.Switch x e sections) at around) at
  switch_lands x e sections aims at around aimed near sections_land end size p q =
      let tests_at = at + term_size e + width (store parameters x.0) in
      let branch_at = at + term_size e + 4 + tests_size (type_of e) sections in
      let place = sections_at e sections at in
      let past = place + sections_size sections in
      let inner = target past past ∷ around in
      let tests = tests_code parameters x (type_of e) sections 5 in
      let sections_list = sections_code tokens parameters sections place inner in
      let rest = the.Branch (ahead (default_place sections)) ∷ (sections_list ++ the.Nop ∷ []) in
      let d = term_is tokens parameters e in
      let f = store_is parameters x.0 in
      let g = tests_are parameters x (type_of e) sections 5 in
      let h = sections_are tokens parameters sections place inner in
      let first = places_back P (term_code tokens parameters e) (store parameters x.0 ∷ (tests ++ rest)) at (at + term_size e) (omega arith) p in
      let second = places_back P tests rest tests_at branch_at (omega arith) first.1 in
      let places = places_front P sections_list (the.Nop ∷ []) place second.1 in
      let last = places_back P sections_list (the.Nop ∷ []) place past (omega arith) second.1 in
      let sections_part = sections_land place inner (in_block P aims around aimed past past last.0 (omega arith)) (omega arith) past (omega arith) places last.0 in
      let tests_part = tests_land P parameters x (type_of e) tokens inner sections 5 tests_at place past (omega arith) refl places last.0 in
      land_append P (term_code tokens parameters e) (store parameters x.0 ∷ (tests ++ rest)) at (at + term_size e) (omega arith)
      (expression e at (at + term_size e) (omega arith) (places_front P (term_code tokens parameters e) (store parameters x.0 ∷ (tests ++ rest)) at p) first.0) (
        nowhere P tests_at (offset_of (store parameters x.0)) (store_none parameters x.0),
        land_append P tests rest tests_at branch_at (omega arith) tests_part (
          (place + default_place sections, ahead_lands place (default_place sections) (place + default_place sections) refl, default_is P tokens parameters inner sections place past refl places last.0),
          land_append P sections_list (the.Nop ∷ []) place past (omega arith) sections_part (tt, tt),
        ),
      )

  loop_lands : (kind : LoopKind) (condition : Term) (after : Option Term) (body : Region) (aims : List Aim) (at : ℕ) (around : List Target) → Aimed P aims around
      → at + region_size (region.Loop kind condition after body) < 2 ^ 31
      → ((body_at : ℕ) (inner : List Target) → Aimed P (a_loop ∷ aims) inner → body_at + region_size body < 2 ^ 31 → ClosedAt P (region_code tokens parameters body body_at inner) body_at)
      → ClosedAt P (region_code tokens parameters (region.Loop kind condition after body) at around) at
  loop_lands kind condition after body aims at around aimed near body_lands end size p q =
      let body_at = at + entry_size kind in
      let step_at = body_at + region_size body in
      let turn_size = region_size body + do_if_size (step_of kind after) in
      let test_at = body_at + turn_size in
      let past = body_at + turn_size + term_size condition + 5 in
      let inner = target past step_at ∷ around in
      let entry = entry_code kind turn_size in
      let body_code = region_code tokens parameters body body_at inner in
      let step = do_if_code tokens parameters (step_of kind after) in
      let last = the.BranchTrue (back (turn_size + term_size condition + 5)) ∷ the.Nop ∷ [] in
      let test = term_code tokens parameters condition ++ last in
      let a = bytes-append entry (body_code ++ (step ++ test)) in
      let b = bytes-append body_code (step ++ test) in
      let c = bytes-append step test in
      let d = bytes-append (term_code tokens parameters condition) last in
      let f = entry_is kind turn_size in
      let g = region_is tokens parameters body body_at inner in
      let h = do_if_is tokens parameters (step_of kind after) in
      let i = term_is tokens parameters condition in
      let first = places_back P entry (body_code ++ (step ++ test)) at body_at (omega arith) p in
      let second = places_back P body_code (step ++ test) body_at step_at (omega arith) first in
      let third = places_back P step test step_at test_at (omega arith) second in
      let fourth = places_back P (term_code tokens parameters condition) last test_at (test_at + term_size condition) (omega arith) third in
      let test_place = first_place P test test_at end (omega arith) third q in
      let step_place = first_place P (step ++ test) step_at end (omega arith) second q in
      let body_place = first_place P (body_code ++ (step ++ test)) body_at end (omega arith) first q in
      let body_part = body_lands body_at inner (in_loop P aims around aimed past step_at fourth.1.0 (omega arith) step_place (omega arith)) (omega arith) step_at (omega arith) (places_front P body_code (step ++ test) body_at first) step_place in
      let step_part = do_if_closed (step_of kind after) step_at test_at (omega arith) (places_front P step test step_at second) test_place in
      let condition_part = expression condition test_at (test_at + term_size condition) (omega arith) (places_front P (term_code tokens parameters condition) last test_at third) fourth.0 in
      land_append P entry (body_code ++ (step ++ test)) at body_at (omega arith) (entry_land kind turn_size at test_at (omega arith) test_place)
      (land_append P body_code (step ++ test) body_at step_at (omega arith) body_part
      (land_append P step test step_at test_at (omega arith) step_part
      (land_append P (term_code tokens parameters condition) last test_at (test_at + term_size condition) (omega arith) condition_part
      ((body_at, back_lands (test_at + term_size condition + 5) (turn_size + term_size condition + 5) body_at (omega arith), body_place), (tt, tt)))))

  mutual
    pub region_lands : (r : Region) (aims : List Aim) (at : ℕ) (around : List Target) → IsFit classes locals result aims r → Aimed P aims around → at + region_size r < 2 ^ 31
        → ClosedAt P (region_code tokens parameters r at around) at
    region_lands (region.Sequence regions) aims at around fit aimed near = regions_land regions aims at around fit aimed near
    region_lands (region.Do e) aims at around fit aimed near = do_closed e at
    region_lands (region.Declare x of e) aims at around fit aimed near =
        both P (initial_code tokens parameters of e) (store parameters x.0 ∷ []) (initial_closed of e) (straight P (store parameters x.0 ∷ []) (store_none parameters x.0, tt)) at
    region_lands (region.If condition first second) aims at around fit aimed near =
        let first_at = at + term_size condition + region_size second + 10 in
        let second_at = at + term_size condition + 5 in
        let first_code = region_code tokens parameters first first_at around in
        let second_code = region_code tokens parameters second second_at around in
        let parts = branches (region_size first) first_code (region_size second) second_code in
        let w = term_is tokens parameters condition in
        both_at P (term_code tokens parameters condition) (parts ++ the.Nop ∷ []) at (at + term_size condition) (omega arith) (expression condition at)
        (both_at P parts (the.Nop ∷ []) (at + term_size condition) (at + term_size condition + bytes parts) refl
        (choice_at P (region_size first) (region_size second) first_code second_code (at + term_size condition) (region_is tokens parameters first first_at around) (region_is tokens parameters second second_at around)
        (region_lands first aims first_at around fit.1 aimed (omega arith)) (region_lands second aims second_at around fit.2 aimed (omega arith)))
        (straight P (the.Nop ∷ []) (refl, tt) (at + term_size condition + bytes parts)))
    region_lands (region.Block body) aims at around fit aimed near =
        let past = at + region_size body in
        let inner = target past past ∷ around in
        ended (region_code tokens parameters body at inner) at (region_size body) (region_is tokens parameters body at inner)
        (λ ends. region_lands body (a_block ∷ aims) at inner fit (in_block P aims around aimed past past ends (omega arith)) (omega arith))
    region_lands (region.Switch x e sections) aims at around fit aimed near = switch_lands x e sections aims at around aimed near (λ place inner aimed_in small. sections_land sections (type_of e) (a_block ∷ aims) place inner fit.3 aimed_in small)
    region_lands (region.Loop kind condition after body) aims at around fit aimed near =
        loop_lands kind condition after body aims at around aimed near (λ body_at inner aimed_in small. region_lands body (a_loop ∷ aims) body_at inner fit.2 aimed_in small)
    region_lands (region.Break number) aims at around fit aimed near = λ end e p q. leave_land P at (break_at around number) near (aimed.breaks number fit)
    region_lands (region.Continue number) aims at around fit aimed near = λ end e p q. leave_land P at (continue_at around number) near (aimed.continues number fit)
    region_lands (region.Return e) aims at around fit aimed near = return_closed e at
    region_lands (region.Throw e) aims at around fit aimed near = absurd fit
    region_lands (region.Guard body cleanup) aims at around fit aimed near = absurd fit
    region_lands (region.OnThrow body cleanup) aims at around fit aimed near = absurd fit
    region_lands (region.Finally body last) aims at around fit aimed near = absurd fit
    region_lands (region.Catch body _) aims at around fit aimed near = absurd fit
    region_lands region.Rethrow aims at around fit aimed near = absurd fit

    pub regions_land : (regions : Regions) (aims : List Aim) (at : ℕ) (around : List Target) → AreFit classes locals result aims regions → Aimed P aims around → at + regions_size regions < 2 ^ 31
        → ClosedAt P (regions_code tokens parameters regions at around) at
    regions_land region.no_regions aims at around fit aimed near = straight P [] tt at
    regions_land (region.next_region first rest) aims at around fit aimed near =
        let w = region_is tokens parameters first at around in
        both_at P (region_code tokens parameters first at around) (regions_code tokens parameters rest (at + region_size first) around) at (at + region_size first) (omega arith)
        (region_lands first aims at around fit.0 aimed (omega arith)) (regions_land rest aims (at + region_size first) around fit.1 aimed (omega arith))

    pub sections_land : (sections : Sections) (of : BareType) (aims : List Aim) (at : ℕ) (around : List Target) → AreFitSections classes locals result aims of sections → Aimed P aims around
        → at + sections_size sections < 2 ^ 31 → ClosedAt P (sections_code tokens parameters sections at around) at
    sections_land region.no_sections of aims at around fit aimed near = straight P [] tt at
    sections_land (region.next_section labels body rest) of aims at around fit aimed near =
        let w = regions_are tokens parameters body at around in
        both_at P (regions_code tokens parameters body at around) (sections_code tokens parameters rest (at + regions_size body) around) at (at + regions_size body) (omega arith)
        (regions_land body aims at around fit.1 aimed (omega arith)) (sections_land rest of aims (at + regions_size body) around fit.2 aimed (omega arith))

-- ---- functions

end_straight : (of : BareType) → IsStraight (end_code of)
end_straight type.Void = (refl, tt)
end_straight type.Bool = (zero_none type.Bool, (refl, tt))
end_straight type.Char = (zero_none type.Char, (refl, tt))
end_straight type.I8 = (zero_none type.I8, (refl, tt))
end_straight type.U8 = (zero_none type.U8, (refl, tt))
end_straight type.I16 = (zero_none type.I16, (refl, tt))
end_straight type.U16 = (zero_none type.U16, (refl, tt))
end_straight type.I32 = (zero_none type.I32, (refl, tt))
end_straight type.U32 = (zero_none type.U32, (refl, tt))
end_straight type.I64 = (zero_none type.I64, (refl, tt))
end_straight type.U64 = (zero_none type.U64, (refl, tt))
end_straight type.Null = (zero_none type.Null, (refl, tt))
end_straight (type.Enum of) = (zero_none (type.Enum of), (refl, tt))
end_straight (type.Value of) = (zero_none (type.Value of), (refl, tt))
end_straight (type.Handle of) = (zero_none (type.Handle of), (refl, tt))
end_straight (type.Array of) = (zero_none (type.Array of), (refl, tt))
end_straight (type.Track of) = (zero_none (type.Track of), (refl, tt))

end_begins : (P : ℕ → Type 0) (of : BareType) (at : ℕ) → AllPlaces P (end_code of) at → P at
end_begins P type.Void at p = p.0
end_begins P type.Bool at p = p.0
end_begins P type.Char at p = p.0
end_begins P type.I8 at p = p.0
end_begins P type.U8 at p = p.0
end_begins P type.I16 at p = p.0
end_begins P type.U16 at p = p.0
end_begins P type.I32 at p = p.0
end_begins P type.U32 at p = p.0
end_begins P type.I64 at p = p.0
end_begins P type.U64 at p = p.0
end_begins P type.Null at p = p.0
end_begins P (type.Enum of) at p = p.0
end_begins P (type.Value of) at p = p.0
end_begins P (type.Handle of) at p = p.0
end_begins P (type.Array of) at p = p.0
end_begins P (type.Track of) at p = p.0

pub function_lands : BranchesLand
function_lands classes tokens parameters f fit near =
    let whole = function_instructions tokens parameters f in
    let P = BeginsAt whole 0 in
    let body = region_code tokens parameters (region_of f.body) 0 [] in
    let last = end_code (bare f.result) in
    let size = region_size (region_of f.body) in
    let w = region_is tokens parameters (region_of f.body) 0 [] in
    let e : 0 + bytes body ≡ size = omega arith in
    let p = own_places whole 0 in
    let behind = places_back P body last 0 size e p in
    land_append P body last 0 size e
    (region_lands P classes (map bare f.locals) (bare f.result) tokens parameters (region_of f.body) [] 0 [] fit.fit (none_aimed P) (omega arith) size e (places_front P body last 0 p) (end_begins P (bare f.result) size behind))
    (straight_lands P last size (end_straight (bare f.result)))
