-- The code of regions keeps the rules.
use Rattle.std.proofs.Common.{◌≡◌, ℕ, ◌+◌, ◌^◌, ◌<◌, ◌≤◌, List, [], ◌∷◌, ◌++◌, Bool, true, false, ◌||◌, length, max, Option, Some, None, refl, sym, ap, ◌∙◌, subst, arith, if◌then◌else◌, nat_lt, slice_get}
use Rattle.std.specs.Prelude.{⊤}
use Rattle.cc_base.specs.declared.identifiers.LocalId.{LocalId}
use Rattle.cc_cil.specs.declared.instruction.Instruction.{Instruction}
use Rattle.cc_cil.specs.declared.instruction.Instruction.TheVariants as the
use Rattle.cc_core.specs.declared.tree.LoopKind.{LoopKind}
use Rattle.cc_core.specs.declared.tree.LoopKind.TheVariants.{TestFirst, BodyFirst}
use Rattle.cc_core.specs.declared.tree.SwitchLabel.{SwitchLabel}
use Rattle.cc_core.specs.declared.tree.SwitchLabel.TheVariants.{Case, Default}
use Rattle.cc_core.specs.declared.types.ClassInfo.{ClassInfo}
use Rattle.cc_core.specs.Leave.{has_default}
use Rattle.cc_core.specs.Numbers.{is_wide}
use Rattle.cc_core.specs.Term.{Term, type_of}
use Rattle.cc_core.specs.Typed.{IsNumber, IsTyped, IsTypedIf, FitsVariable, FitsResult}
use Rattle.cc_core.specs.Types as type
use Rattle.cc_core.specs.Types.{BareType}
use Rattle.cc_region.specs.Region as region
use Rattle.cc_region.specs.Region.{Region, Regions, Sections}
use Rattle.cc_region.specs.Typed.{Aim, a_block, a_loop, IsFit, AreFit, AreFitSections}
use Rattle.cc_code.specs.declared.targets.Target.{Target}
use Rattle.cc_code.specs.declared.tokens.Tokens.{Tokens}
use Rattle.cc_code.specs.Heights.{term_height, height_if, region_height, regions_height, sections_height}
use Rattle.cc_code.specs.Instructions.{bytes, branches, ahead, back, distance}
use Rattle.cc_code.specs.Operators.{constant, load, store, drop_value}
use Rattle.cc_code.specs.Regions.{default_place, entry_code, target, test_code, labels_code, tests_code, do_code, do_if_code, initial_code, declare_code, return_code, sections_at, region_code, regions_code, sections_code, break_at, continue_at, leave}
use Rattle.cc_code.specs.Sizes.{term_size, do_if_size, step_of, entry_size, test_size, labels_size, tests_size, constant_size, region_size, regions_size, sections_size}
use Rattle.cc_code.specs.Terms.{term_code}
use Rattle.cc_code.proofs.Sums.{bytes-append, constant_is, load_is, store_is, term_is}
use Rattle.cc_code.proofs.RegionSums.{test_is, labels_are, tests_are, do_if_is, entry_is, region_is, regions_are, sections_are}
use Rattle.cc_code.proofs.Landing.{ahead_lands, back_lands, leave_lands}
use Rattle.cc_code.proofs.RegionLanding.{Aimed, in_block, in_loop}
use Rattle.cc_verify.specs.declared.environment.Environment.{Environment}
use Rattle.cc_verify.specs.declared.environment.Frame.{Frame}
use Rattle.cc_verify.specs.declared.stack_type.StackType.{StackType}
use Rattle.cc_verify.specs.declared.transition.Transition.{Transition}
use Rattle.cc_verify.specs.declared.transition.Transition.TheVariants as to
use Rattle.cc_verify.specs.Transitions as transitions
use Rattle.cc_verify.specs.Transitions.{Stack, transition_of, same_integer, result_count, jump, natural}
use Rattle.cc_verified_code.specs.Kinds.{kind, behind, result_kind, HasMethods, HasVariables}
use Rattle.cc_verified_code.specs.Rows.{Table, HasRows, Expects, Takes}
use Rattle.cc_verified_code.specs.Flows.{Flows}
use Rattle.cc_verified_code.proofs.Pieces.{rows_size, has_front, has_back, expects_at, nothing, both, plain, branching, leading, ending, at_same, chosen, discharged}
use Rattle.cc_verified_code.proofs.Operators.{promoted_number, same_kind, let_through, nothing_takes, branch_takes, branch_if_takes, branch_equal_takes, leave_takes, constant_flows, zero_flows, load_flows, store_flows, chain, drop_flows}
use Rattle.cc_verified_code.proofs.Terms.{behind_length, height_least, value_height, as_number, term_flows}

-- ---- where branches lead

pub ahead_jump : (t : Transition) (next n place : ℕ) → transitions.branch_offset t ≡ Some (ahead n) → next + n ≡ place → jump t next ≡ Some place
ahead_jump t next n place t_is e = ap (λ o. transitions.target next o) t_is ∙ ap natural (ahead_lands next n place e)

back_jump : (t : Transition) (next n place : ℕ) → transitions.branch_offset t ≡ Some (back n) → place + n ≡ next → jump t next ≡ Some place
back_jump t next n place t_is e = ap (λ o. transitions.target next o) t_is ∙ ap natural (back_lands next n place e)

leave_jump : (lo place : ℕ) → lo + 5 < 2 ^ 31 → place < 2 ^ 31 → jump (to.Leave (distance (lo + 5) place)) (lo + 5) ≡ Some place
leave_jump lo place h k = ap natural (leave_lands (lo + 5) place h k)

-- each section begins with an empty stack, and so does what follows the last one
abbrev pub Starts : Table → Sections → ℕ → Type 0
Starts at region.no_sections place = Expects at place []
Starts at (region.next_section labels body rest) place = Expects at place [] × Starts at rest (place + regions_size body)

first_start : (at : Table) (sections : Sections) (place : ℕ) → Starts at sections place → Expects at place []
first_start at region.no_sections place h = h
first_start at (region.next_section labels body rest) place h = h.0

last_start : (at : Table) (sections : Sections) (place : ℕ) → Starts at sections place → Expects at (place + sections_size sections) []
last_start at region.no_sections place h = expects_at at place (place + 0) [] (omega arith) h
last_start at (region.next_section labels body rest) place h = expects_at at (place + regions_size body + sections_size rest) (place + (regions_size body + sections_size rest)) [] (omega arith) (last_start at rest (place + regions_size body) h.1)

default_start : (at : Table) (sections : Sections) (place : ℕ) → Starts at sections place → Expects at (place + default_place sections) []
default_start at region.no_sections place h = expects_at at place (place + 0) [] (omega arith) h
default_start at (region.next_section labels body rest) place h = by_test (has_default labels) (default_start at rest (place + regions_size body) h.1)
  where
    by_test : (b : Bool) → Expects at (place + regions_size body + default_place rest) [] → Expects at (place + (if b then 0 else regions_size body + default_place rest)) []
    by_test true later = expects_at at place (place + 0) [] (omega arith) h.0
    by_test false later = expects_at at (place + regions_size body + default_place rest) (place + (regions_size body + default_place rest)) [] (omega arith) later

regions_is_long : (tokens : Tokens) (parameters : ℕ) (regions : Regions) (lo : ℕ) (around : List Target) → lo + bytes (regions_code tokens parameters regions lo around) ≡ lo + regions_size regions
regions_is_long tokens parameters regions lo around = let w = regions_are tokens parameters regions lo around in omega arith

module _ (e : Environment) (f : Frame) (most : ℕ) (classes : List ClassInfo) (tokens : Tokens) (locals : List BareType) (parameters : ℕ) (result : BareType)
    (variables : HasVariables f locals parameters) (methods : HasMethods e classes tokens) (result_is : f.result ≡ result_kind result) where
  -- the targets of exits expect an empty stack
  abbrev pub Targets : List Aim → List Target → Table → Type 0
  Targets aims around at = Aimed (λ n. Expects at n []) aims around

  module _ (Given : Table → Type 0) where
    abbrev F : List Instruction → ℕ → Stack → Stack → Type 0
    F code lo s out = Flows e f most Given code lo s out

    flows : (a : Term) (lo : ℕ) (s : Stack) → IsTyped classes locals a → length s + term_height a ≤ most → F (term_code tokens parameters a) lo s (behind (type_of a) s)
    flows a lo s t h = term_flows e f most Given classes tokens locals parameters variables methods a t lo s h

    number_flows : (a : Term) (lo : ℕ) → IsTyped classes locals a → IsNumber (type_of a) → term_height a ≤ most → F (term_code tokens parameters a) lo [] (kind (type_of a) ∷ [])
    number_flows a lo t n h = as_number e f most Given classes tokens locals parameters variables methods a (term_code tokens parameters a) lo [] n (flows a lo [] t (omega (arith, h)))

    nop : (lo : ℕ) → F (the.Nop ∷ []) lo [] []
    nop lo = plain e f most Given the.Nop lo [] [] refl refl (nothing_takes e f most [] (omega arith))

    do_flows : (a : Term) (lo : ℕ) → IsTyped classes locals a → term_height a ≤ most → F (do_code tokens parameters a) lo [] []
    do_flows a lo t h =
        let low = value_height classes locals a t in
        let long = behind_length (type_of a) [] in
        chain e f most Given (term_code tokens parameters a) (drop_value (type_of a)) lo [] (behind (type_of a) []) [] (flows a lo [] t (omega (arith, h)))
        (drop_flows e f most Given (type_of a) (lo + bytes (term_code tokens parameters a)) [] (omega (arith, h, low, long)))

    do_if_flows : (a : Option Term) (lo : ℕ) → IsTypedIf classes locals a → height_if a ≤ most → F (do_if_code tokens parameters a) lo [] []
    do_if_flows None lo t h = nothing e f most Given lo []
    do_if_flows (Some a) lo t h = do_flows a lo t h

    initial_flows : (of : BareType) (a : Option Term) (lo : ℕ) → IsNumber of → FitsVariable classes locals of a → max 1 (height_if a) ≤ most → F (initial_code tokens parameters of a) lo [] (kind of ∷ [])
    initial_flows of None lo n t h = zero_flows e f most Given of lo [] (omega (arith, h))
    initial_flows of (Some a) lo n t h =
        subst (λ (k : BareType). F (term_code tokens parameters a) lo [] (kind k ∷ [])) t.1 (number_flows a lo t.0 (subst IsNumber (sym t.1) n) (omega (arith, h)))

    declare_flows : (x : LocalId) (of : BareType) (a : Option Term) (lo : ℕ) → slice_get locals x.0 ≡ Some of → IsNumber of → FitsVariable classes locals of a → max 1 (height_if a) ≤ most → F (declare_code tokens parameters x of a) lo [] []
    declare_flows x of a lo v n t h =
        chain e f most Given (initial_code tokens parameters of a) (store parameters x.0 ∷ []) lo [] (kind of ∷ []) [] (initial_flows of a lo n t h)
        (store_flows e f most Given locals parameters variables x.0 of (lo + bytes (initial_code tokens parameters of a)) [] v (omega (arith, h)))

    -- ---- returns

    pub nothing_returned : result ≡ type.Void → Takes e f most to.Return [] []
    nothing_returned h =
        let none : f.result ≡ None = result_is ∙ ap result_kind h in
        let zero_count : result_count f.result ≡ 0 = ap result_count none in
        record { does = ap (λ o. transitions.return o []) none; built = refl; stores = refl; outside = refl; under = 0; taken = omega (arith, zero_count); given = refl; high = omega arith; high_behind = omega arith }

    some_result : (of : BareType) → IsNumber of → result_kind of ≡ Some (kind of)
    some_result type.Void n = let bad : false ≡ true = n in cc
    some_result type.Bool n = refl
    some_result type.Char n = refl
    some_result type.I8 n = refl
    some_result type.U8 n = refl
    some_result type.I16 n = refl
    some_result type.U16 n = refl
    some_result type.I32 n = refl
    some_result type.U32 n = refl
    some_result type.I64 n = refl
    some_result type.U64 n = refl
    some_result type.Null n = let bad : false ≡ true = n in cc
    some_result (type.Enum of) n = let bad : false ≡ true = n in cc
    some_result (type.Value of) n = let bad : false ≡ true = n in cc
    some_result (type.Handle of) n = let bad : false ≡ true = n in cc
    some_result (type.Array of) n = let bad : false ≡ true = n in cc
    some_result (type.Track of) n = let bad : false ≡ true = n in cc

    pub value_returned : IsNumber result → 1 ≤ most → Takes e f most to.Return (kind result ∷ []) []
    value_returned n h =
        let some : f.result ≡ Some (kind result) = result_is ∙ some_result result n in
        let one : result_count f.result ≡ 1 = ap result_count some in
        record {
          does = ap (λ o. transitions.return o (kind result ∷ [])) some ∙ let_through (same_integer (kind result) (kind result)) [] (same_kind _);
          built = refl;
          stores = refl;
          outside = refl;
          under = 0;
          taken = omega (arith, one);
          given = refl;
          high = h;
          high_behind = omega arith;
        }

    return_flows : (a : Option Term) (lo : ℕ) → FitsResult classes locals result a → height_if a ≤ most → F (return_code tokens parameters a) lo [] []
    return_flows None lo t h = ending e f most Given the.Return lo [] [] refl refl (nothing_returned t)
    return_flows (Some a) lo t h =
        let n : IsNumber (type_of a) = subst IsNumber (sym t.2) t.1 in
        let least = height_least classes locals a t.0 n in
        chain e f most Given (term_code tokens parameters a) (the.Return ∷ []) lo [] (kind result ∷ []) []
        (subst (λ (k : BareType). F (term_code tokens parameters a) lo [] (kind k ∷ [])) t.2 (number_flows a lo t.0 n h))
        (ending e f most Given the.Return (lo + bytes (term_code tokens parameters a)) (kind result ∷ []) [] refl refl (value_returned t.1 (omega (arith, h, least))))

    -- ---- switches

    module _ (x : LocalId) (of : BareType) (variable : slice_get locals x.0 ≡ Some of) (room : 2 ≤ most) where
      tested_flows : (tested : Bool) (n past lo place : ℕ) → lo + (if tested then constant_size of + 9 else 0) + past ≡ place → ((at : Table) → Given at → Expects at place [])
          → F (if tested then load parameters x.0 ∷ constant of n ∷ the.BranchEqual (ahead past) ∷ [] else []) lo [] []
      tested_flows true n past lo place e2 g =
          let a = load_is parameters x.0 in
          let b = constant_is of n in
          let at1 = lo + bytes (load parameters x.0 ∷ []) in
          let at2 = at1 + bytes (constant of n ∷ []) in
          chain e f most Given (load parameters x.0 ∷ []) (constant of n ∷ the.BranchEqual (ahead past) ∷ []) lo [] (kind of ∷ []) [] (load_flows e f most Given locals parameters variables x.0 of lo [] variable (omega (arith, room)))
          (chain e f most Given (constant of n ∷ []) (the.BranchEqual (ahead past) ∷ []) at1 (kind of ∷ []) (kind of ∷ kind of ∷ []) [] (constant_flows e f most Given of n at1 (kind of ∷ []) room)
          (branching e f most Given (the.BranchEqual (ahead past)) (to.BranchEqual (ahead past)) place at2 (kind of ∷ kind of ∷ []) [] refl refl (ahead_jump (to.BranchEqual (ahead past)) (at2 + 5) past place refl (omega (arith, a, b, e2))) (branch_equal_takes e f most (ahead past) (is_wide of) [] room) g))
      tested_flows false n past lo place e2 g = nothing e f most Given lo []

      test_flows : (label : SwitchLabel) (past lo place : ℕ) → lo + test_size of label + past ≡ place → ((at : Table) → Given at → Expects at place []) → F (test_code parameters x of label past) lo [] []
      test_flows Default past lo place q g = nothing e f most Given lo []
      test_flows (Case n) past lo place q g = tested_flows (is_wide of || nat_lt n (2 ^ 32)) n past lo place q g

      labels_flow : (labels : List SwitchLabel) (past lo place : ℕ) → lo + labels_size of labels + past ≡ place → ((at : Table) → Given at → Expects at place []) → F (labels_code parameters x of labels past) lo [] []
      labels_flow [] past lo place q g = nothing e f most Given lo []
      labels_flow (label ∷ labels) past lo place q g =
          let a = test_is parameters x of label (labels_size of labels + past) in
          both e f most Given (test_code parameters x of label (labels_size of labels + past)) (labels_code parameters x of labels past) lo (lo + test_size of label) [] [] [] (omega (arith, a))
          (test_flows label (labels_size of labels + past) lo place (omega (arith, q)) g) (labels_flow labels past (lo + test_size of label) place (omega (arith, q)) g)

      tests_flow : (sections : Sections) (past lo place : ℕ) → lo + tests_size of sections + past ≡ place → ((at : Table) → Given at → Starts at sections place) → F (tests_code parameters x of sections past) lo [] []
      tests_flow region.no_sections past lo place q g = nothing e f most Given lo []
      tests_flow (region.next_section labels body rest) past lo place q g =
          let a = labels_are parameters x of labels (tests_size of rest + past) in
          both e f most Given (labels_code parameters x of labels (tests_size of rest + past)) (tests_code parameters x of rest (past + regions_size body)) lo (lo + labels_size of labels) [] [] [] (omega (arith, a))
          (labels_flow labels (tests_size of rest + past) lo place (omega (arith, q)) (λ at h. (g at h).0))
          (tests_flow rest (past + regions_size body) (lo + labels_size of labels) (place + regions_size body) (omega (arith, q)) (λ at h. (g at h).1))

    entry_flows : (loop : LoopKind) (n lo place : ℕ) → lo + entry_size loop + n ≡ place → ((at : Table) → Given at → Expects at place []) → F (entry_code loop n) lo [] []
    entry_flows TestFirst n lo place q g = leading e f most Given (the.Branch (ahead n)) (to.Branch (ahead n)) place lo [] [] refl refl (ahead_jump (to.Branch (ahead n)) (lo + 5) n place refl q) (branch_takes e f most (ahead n) [] (omega arith)) g
    entry_flows BodyFirst n lo place q g = nothing e f most Given lo []

    leave_flows : (lo place : ℕ) → lo + 5 < 2 ^ 31 → place < 2 ^ 31 → ((at : Table) → Given at → Expects at place []) → F (leave lo place ∷ []) lo [] []
    leave_flows lo place h k g = leading e f most Given (leave lo place) (to.Leave (distance (lo + 5) place)) place lo [] [] refl refl (leave_jump lo place h k) (leave_takes e f most (distance (lo + 5) place)) g

  -- they are near enough to be led to
  abbrev pub Near : List Aim → List Target → Type 0
  Near aims around = Aimed (λ n. ⊤) aims around

  -- sections in a row, each of which begins with an empty stack
  pub record SectionFlows (aims : List Aim) (around : List Target) (sections : Sections) (place : ℕ) : Type 0 where
    pub flows : Flows e f most (Targets aims around) (sections_code tokens parameters sections place around) place [] []
    pub starts : (at : Table) (hi : ℕ) → place + bytes (sections_code tokens parameters sections place around) ≡ hi → HasRows at place flows.rows → Expects at hi [] → Starts at sections place

  module _ (x : LocalId) (a : Term) (sections : Sections) (aims : List Aim) (lo : ℕ) (around : List Target) (typed : IsTyped classes locals a) (number : IsNumber (type_of a)) (variable : slice_get locals x.0 ≡ Some (type_of a))
      (height : max (term_height a) 2 ≤ most) (near : lo + region_size (region.Switch x a sections) < 2 ^ 31)
      (aimed : Near aims around) (inside : (place : ℕ) (inner : List Target) → Near (a_block ∷ aims) inner → place + sections_size sections < 2 ^ 31 → SectionFlows (a_block ∷ aims) inner sections place) where
    abbrev place : ℕ
    place = sections_at a sections lo

    abbrev past : ℕ
    past = place + sections_size sections

    abbrev inner : List Target
    inner = target past past ∷ around

    abbrev Within : Table → Type 0
    Within at = Targets aims around at × Starts at sections place

    abbrev sections_part : SectionFlows (a_block ∷ aims) inner sections place
    sections_part = inside place inner (in_block (λ n. ⊤) aims around aimed past past tt (omega (arith, near))) (omega (arith, near))

    abbrev sections_list : List Instruction
    sections_list = sections_code tokens parameters sections place inner

    abbrev tests : List Instruction
    tests = tests_code parameters x (type_of a) sections 5

    abbrev jump_code : List Instruction
    jump_code = the.Branch (ahead (default_place sections)) ∷ []

    abbrev operand : List Instruction
    operand = term_code tokens parameters a

    abbrev put : List Instruction
    put = store parameters x.0 ∷ []

    abbrev put_at : ℕ
    put_at = lo + term_size a

    abbrev tests_at : ℕ
    tests_at = lo + term_size a + 4

    abbrev jump_at : ℕ
    jump_at = lo + term_size a + 4 + tests_size (type_of a) sections

    operand_size : lo + bytes operand ≡ put_at
    operand_size = let w = term_is tokens parameters a in omega arith

    put_size : put_at + bytes put ≡ tests_at
    put_size = let w = store_is parameters x.0 in omega arith

    tests_length : tests_at + bytes tests ≡ jump_at
    tests_length = let w = tests_are parameters x (type_of a) sections 5 in omega arith

    jump_size : jump_at + bytes jump_code ≡ place
    jump_size = omega arith

    sections_length : place + bytes sections_list ≡ past
    sections_length = let w = sections_are tokens parameters sections place inner in omega arith

    operand_flows : Flows e f most Within operand lo [] (kind (type_of a) ∷ [])
    operand_flows = number_flows Within a lo typed number (omega (arith, height))

    put_flows : Flows e f most Within put put_at (kind (type_of a) ∷ []) []
    put_flows = store_flows e f most Within locals parameters variables x.0 (type_of a) put_at [] variable (omega (arith, height))

    tests_flows : Flows e f most Within tests tests_at [] []
    tests_flows = tests_flow Within x (type_of a) variable (omega (arith, height)) sections 5 tests_at place (omega arith) (λ at g. g.1)

    jump_flows : Flows e f most Within jump_code jump_at [] []
    jump_flows =
        leading e f most Within (the.Branch (ahead (default_place sections))) (to.Branch (ahead (default_place sections))) (place + default_place sections) jump_at [] [] refl refl
        (ahead_jump (to.Branch (ahead (default_place sections))) (jump_at + 5) (default_place sections) (place + default_place sections) refl refl) (branch_takes e f most (ahead (default_place sections)) [] (omega arith))
        (λ at g. default_start at sections place g.1)

    abbrev sections_flows : Flows e f most Within sections_list place [] []
    sections_flows =
        discharged e f most (Targets (a_block ∷ aims) inner) Within sections_list place [] [] sections_part.flows
        (λ at g hi q h z. in_block (λ n. Expects at n []) aims around g.0 past past (last_start at sections place g.1) (omega (arith, near)))

    abbrev rest4 : Flows e f most Within (sections_list ++ the.Nop ∷ []) place [] []
    rest4 = both e f most Within sections_list (the.Nop ∷ []) place past [] [] [] sections_length sections_flows (nop Within past)

    abbrev rest3 : Flows e f most Within (jump_code ++ (sections_list ++ the.Nop ∷ [])) jump_at [] []
    rest3 = both e f most Within jump_code (sections_list ++ the.Nop ∷ []) jump_at place [] [] [] jump_size jump_flows rest4

    abbrev rest2 : Flows e f most Within (tests ++ (jump_code ++ (sections_list ++ the.Nop ∷ []))) tests_at [] []
    rest2 = both e f most Within tests (jump_code ++ (sections_list ++ the.Nop ∷ [])) tests_at jump_at [] [] [] tests_length tests_flows rest3

    abbrev rest1 : Flows e f most Within (put ++ (tests ++ (jump_code ++ (sections_list ++ the.Nop ∷ [])))) put_at (kind (type_of a) ∷ []) []
    rest1 = both e f most Within put (tests ++ (jump_code ++ (sections_list ++ the.Nop ∷ []))) put_at tests_at (kind (type_of a) ∷ []) [] [] put_size put_flows rest2

    abbrev all : Flows e f most Within (operand ++ (put ++ (tests ++ (jump_code ++ (sections_list ++ the.Nop ∷ []))))) lo [] []
    all = both e f most Within operand (put ++ (tests ++ (jump_code ++ (sections_list ++ the.Nop ∷ [])))) lo put_at [] (kind (type_of a) ∷ []) [] operand_size operand_flows rest1

    starts_within : (at : Table) (hi : ℕ) → lo + bytes (operand ++ (put ++ (tests ++ (jump_code ++ (sections_list ++ the.Nop ∷ []))))) ≡ hi → HasRows at lo all.rows → Expects at hi [] → Starts at sections place
    starts_within at hi q h z =
        let h1 = has_back at lo put_at operand_flows.rows rest1.rows (rows_size operand_flows.rows operand lo put_at operand_flows.is operand_size) h in
        let h2 = has_back at put_at tests_at put_flows.rows rest2.rows (rows_size put_flows.rows put put_at tests_at put_flows.is put_size) h1 in
        let h3 = has_back at tests_at jump_at tests_flows.rows rest3.rows (rows_size tests_flows.rows tests tests_at jump_at tests_flows.is tests_length) h2 in
        let h4 = has_back at jump_at place jump_flows.rows rest4.rows (rows_size jump_flows.rows jump_code jump_at place jump_flows.is jump_size) h3 in
        let hs = has_front at place sections_part.flows.rows (nop Within past).rows h4 in
        let hn = has_back at place past sections_part.flows.rows (nop Within past).rows (rows_size sections_part.flows.rows sections_list place past sections_part.flows.is sections_length) h4 in
        let w = whole_size in
        let end : past + bytes (the.Nop ∷ []) ≡ hi = omega (arith, q, w) in
        sections_part.starts at past sections_length hs ((nop Within past).begins at hi end hn z)
      where
        whole_size : lo + bytes (operand ++ (put ++ (tests ++ (jump_code ++ (sections_list ++ the.Nop ∷ []))))) ≡ past + bytes (the.Nop ∷ [])
        whole_size =
            let a1 = bytes-append operand (put ++ (tests ++ (jump_code ++ (sections_list ++ the.Nop ∷ [])))) in
            let a2 = bytes-append put (tests ++ (jump_code ++ (sections_list ++ the.Nop ∷ []))) in
            let a3 = bytes-append tests (jump_code ++ (sections_list ++ the.Nop ∷ [])) in
            let a4 = bytes-append jump_code (sections_list ++ the.Nop ∷ []) in
            let a5 = bytes-append sections_list (the.Nop ∷ []) in
            omega (arith, a1, a2, a3, a4, a5, operand_size, put_size, tests_length, jump_size, sections_length)

    switch_flows : Flows e f most (Targets aims around) (region_code tokens parameters (region.Switch x a sections) lo around) lo [] []
    switch_flows =
        discharged e f most Within (Targets aims around) (operand ++ (put ++ (tests ++ (jump_code ++ (sections_list ++ the.Nop ∷ []))))) lo [] [] all
        (λ at g hi q h z. (g, starts_within at hi q h z))

  module _ (loop : LoopKind) (condition : Term) (after : Option Term) (body : Region) (aims : List Aim) (lo : ℕ) (around : List Target) (typed : IsTyped classes locals condition) (number : IsNumber (type_of condition))
      (step_typed : IsTypedIf classes locals (step_of loop after)) (condition_height : term_height condition ≤ most) (step_height : height_if (step_of loop after) ≤ most)
      (near : lo + region_size (region.Loop loop condition after body) < 2 ^ 31)
      (aimed : Near aims around) (inside : (body_at : ℕ) (inner : List Target) → Near (a_loop ∷ aims) inner → body_at + region_size body < 2 ^ 31 → Flows e f most (Targets (a_loop ∷ aims) inner) (region_code tokens parameters body body_at inner) body_at [] []) where
    abbrev body_at : ℕ
    body_at = lo + entry_size loop

    abbrev step_at : ℕ
    step_at = body_at + region_size body

    abbrev turn_size : ℕ
    turn_size = region_size body + do_if_size (step_of loop after)

    abbrev test_at : ℕ
    test_at = body_at + turn_size

    abbrev branch_at : ℕ
    branch_at = body_at + turn_size + term_size condition

    abbrev end_at : ℕ
    end_at = body_at + turn_size + term_size condition + 5

    abbrev inner_targets : List Target
    inner_targets = target end_at step_at ∷ around

    record Turns (at : Table) : Type 0 where
      outer : Targets aims around at
      body_expects : Expects at body_at []
      test_expects : Expects at test_at []
      end_expects : Expects at end_at []

    abbrev entry : List Instruction
    entry = entry_code loop turn_size

    abbrev body_list : List Instruction
    body_list = region_code tokens parameters body body_at inner_targets

    abbrev steps : List Instruction
    steps = do_if_code tokens parameters (step_of loop after)

    abbrev test : List Instruction
    test = term_code tokens parameters condition

    abbrev again : Instruction
    again = the.BranchTrue (back (turn_size + term_size condition + 5))

    abbrev k : StackType
    k = kind (type_of condition)

    entry_length : lo + bytes entry ≡ body_at
    entry_length = let w = entry_is loop turn_size in omega arith

    body_length : body_at + bytes body_list ≡ step_at
    body_length = let w = region_is tokens parameters body body_at inner_targets in omega arith

    steps_length : step_at + bytes steps ≡ test_at
    steps_length = let w = do_if_is tokens parameters (step_of loop after) in omega arith

    test_length : test_at + bytes test ≡ branch_at
    test_length = let w = term_is tokens parameters condition in omega arith

    again_length : branch_at + bytes (again ∷ []) ≡ end_at
    again_length = omega arith

    entry_part : Flows e f most Turns entry lo [] []
    entry_part = entry_flows Turns loop turn_size lo test_at refl (λ at g. g.test_expects)

    body_part : Flows e f most Turns body_list body_at [] []
    body_part =
        discharged e f most (Targets (a_loop ∷ aims) inner_targets) Turns body_list body_at [] [] (inside body_at inner_targets (in_loop (λ n. ⊤) aims around aimed end_at step_at tt (omega (arith, near)) tt (omega (arith, near))) (omega (arith, near)))
        (λ at g hi q h z.
        let w = body_length in
        let same : hi ≡ step_at = omega (arith, q, w) in
        in_loop (λ n. Expects at n []) aims around g.outer end_at step_at g.end_expects (omega (arith, near)) (expects_at at hi step_at [] same z) (omega (arith, near)))

    steps_part : Flows e f most Turns steps step_at [] []
    steps_part = do_if_flows Turns (step_of loop after) step_at step_typed step_height

    test_part : Flows e f most Turns test test_at [] (k ∷ [])
    test_part = number_flows Turns condition test_at typed number condition_height

    least : 1 ≤ most
    least = let a = height_least classes locals condition typed number in omega (arith, a, condition_height)

    again_part : Flows e f most Turns (again ∷ []) branch_at (k ∷ []) []
    again_part =
        branching e f most Turns again (to.BranchIf (back (turn_size + term_size condition + 5))) body_at branch_at (k ∷ []) [] refl refl
        (back_jump (to.BranchIf (back (turn_size + term_size condition + 5))) (branch_at + 5) (turn_size + term_size condition + 5) body_at refl (omega arith)) (branch_if_takes e f most (back (turn_size + term_size condition + 5)) k [] least) (λ at g. g.body_expects)

    abbrev turn4 : Flows e f most Turns (again ∷ the.Nop ∷ []) branch_at (k ∷ []) []
    turn4 = both e f most Turns (again ∷ []) (the.Nop ∷ []) branch_at end_at (k ∷ []) [] [] again_length again_part (nop Turns end_at)

    abbrev turn3 : Flows e f most Turns (test ++ (again ∷ the.Nop ∷ [])) test_at [] []
    turn3 = both e f most Turns test (again ∷ the.Nop ∷ []) test_at branch_at [] (k ∷ []) [] test_length test_part turn4

    abbrev turn2 : Flows e f most Turns (steps ++ (test ++ (again ∷ the.Nop ∷ []))) step_at [] []
    turn2 = both e f most Turns steps (test ++ (again ∷ the.Nop ∷ [])) step_at test_at [] [] [] steps_length steps_part turn3

    abbrev turn1 : Flows e f most Turns (body_list ++ (steps ++ (test ++ (again ∷ the.Nop ∷ [])))) body_at [] []
    turn1 = both e f most Turns body_list (steps ++ (test ++ (again ∷ the.Nop ∷ []))) body_at step_at [] [] [] body_length body_part turn2

    abbrev whole_loop : List Instruction
    whole_loop = entry ++ (body_list ++ (steps ++ (test ++ (again ∷ the.Nop ∷ []))))

    abbrev turns : Flows e f most Turns whole_loop lo [] []
    turns = both e f most Turns entry (body_list ++ (steps ++ (test ++ (again ∷ the.Nop ∷ [])))) lo body_at [] [] [] entry_length entry_part turn1

    loop_size : lo + bytes whole_loop ≡ end_at + 1
    loop_size =
        let a1 = bytes-append entry (body_list ++ (steps ++ (test ++ (again ∷ the.Nop ∷ [])))) in
        let a2 = bytes-append body_list (steps ++ (test ++ (again ∷ the.Nop ∷ []))) in
        let a3 = bytes-append steps (test ++ (again ∷ the.Nop ∷ [])) in
        let a4 = bytes-append test (again ∷ the.Nop ∷ []) in
        omega (arith, a1, a2, a3, a4, entry_length, body_length, steps_length, test_length)

    expected : (at : Table) → Targets aims around at → (hi : ℕ) → lo + bytes whole_loop ≡ hi → HasRows at lo turns.rows → Expects at hi [] → Turns at
    expected at g hi q h z =
        let w = loop_size in
        let h1 = has_back at lo body_at entry_part.rows turn1.rows (rows_size entry_part.rows entry lo body_at entry_part.is entry_length) h in
        let h2 = has_back at body_at step_at body_part.rows turn2.rows (rows_size body_part.rows body_list body_at step_at body_part.is body_length) h1 in
        let h3 = has_back at step_at test_at steps_part.rows turn3.rows (rows_size steps_part.rows steps step_at test_at steps_part.is steps_length) h2 in
        let h4 = has_back at test_at branch_at test_part.rows turn4.rows (rows_size test_part.rows test test_at branch_at test_part.is test_length) h3 in
        let h5 = has_back at branch_at end_at again_part.rows (nop Turns end_at).rows (rows_size again_part.rows (again ∷ []) branch_at end_at again_part.is again_length) h4 in
        let end : end_at + bytes (the.Nop ∷ []) ≡ hi = omega (arith, q, w) in
        let end_expects = (nop Turns end_at).begins at hi end h5 z in
        let again_expects = again_part.begins at end_at again_length (has_front at branch_at again_part.rows (nop Turns end_at).rows h4) end_expects in
        let test_expects = test_part.begins at branch_at test_length (has_front at test_at test_part.rows turn4.rows h3) again_expects in
        let steps_expects = steps_part.begins at test_at steps_length (has_front at step_at steps_part.rows turn3.rows h2) test_expects in
        let body_expects = body_part.begins at step_at body_length (has_front at body_at body_part.rows turn2.rows h1) steps_expects in
        record { outer = g; body_expects = body_expects; test_expects = test_expects; end_expects = end_expects }

    loop_flows : Flows e f most (Targets aims around) (region_code tokens parameters (region.Loop loop condition after body) lo around) lo [] []
    loop_flows = discharged e f most Turns (Targets aims around) whole_loop lo [] [] turns expected

  -- what a loop does after each turn is typed where it has a step
  step_is_typed : (loop : LoopKind) (after : Option Term) → IsTypedIf classes locals after → IsTypedIf classes locals (step_of loop after)
  step_is_typed TestFirst after t = t
  step_is_typed BodyFirst after t = tt

  mutual
    pub region_flows : (r : Region) (aims : List Aim) (lo : ℕ) (around : List Target) → IsFit classes locals result aims r → Near aims around → region_height r ≤ most → lo + region_size r < 2 ^ 31
        → Flows e f most (Targets aims around) (region_code tokens parameters r lo around) lo [] []
    region_flows (region.Sequence regions) aims lo around fit aimed height near = regions_flow regions aims lo around fit aimed height near
    region_flows (region.Do a) aims lo around fit aimed height near = do_flows (Targets aims around) a lo fit height
    region_flows (region.Declare x of a) aims lo around fit aimed height near = declare_flows (Targets aims around) x of a lo fit.0 fit.1 fit.2 height
    region_flows (region.If condition first second) aims lo around fit aimed height near =
        let G = Targets aims around in
        let first_at = lo + term_size condition + region_size second + 10 in
        let second_at = lo + term_size condition + 5 in
        let at = lo + term_size condition in
        let first_code = region_code tokens parameters first first_at around in
        let second_code = region_code tokens parameters second second_at around in
        let n = region_size first in
        let m = region_size second in
        let parts = branches n first_code m second_code in
        let w = term_is tokens parameters condition in
        let least = height_least classes locals condition fit.0.0 fit.0.1 in
        both e f most G (term_code tokens parameters condition) (parts ++ the.Nop ∷ []) lo at [] (kind (type_of condition) ∷ []) [] (omega (arith, w)) (number_flows G condition lo fit.0.0 fit.0.1 (omega (arith, height)))
        (both e f most G parts (the.Nop ∷ []) at (at + bytes parts) (kind (type_of condition) ∷ []) [] [] refl
        (chosen e f most G n m first_code second_code at (kind (type_of condition)) [] [] (region_is tokens parameters first first_at around) (region_is tokens parameters second second_at around)
        (branch_if_takes e f most (ahead (m + 5)) (kind (type_of condition)) [] (omega (arith, height, least))) (branch_takes e f most (ahead n) [] (omega arith))
        (at_same e f most G first_code first_at (at + 10 + m) [] [] (omega arith) (region_flows first aims first_at around fit.1 aimed (omega (arith, height)) (omega (arith, near))))
        (region_flows second aims second_at around fit.2 aimed (omega (arith, height)) (omega (arith, near))))
        (nop G (at + bytes parts)))
    region_flows (region.Block body) aims lo around fit aimed height near =
        let G = Targets aims around in
        let past = lo + region_size body in
        let inner = target past past ∷ around in
        let w = region_is tokens parameters body lo inner in
        both e f most G (region_code tokens parameters body lo inner) (the.Nop ∷ []) lo past [] [] [] (omega (arith, w))
        (discharged e f most (Targets (a_block ∷ aims) inner) G (region_code tokens parameters body lo inner) lo [] [] (region_flows body (a_block ∷ aims) lo inner fit (in_block (λ n. ⊤) aims around aimed past past tt (omega (arith, near))) height (omega (arith, near)))
        (λ at g hi q h z. let same : hi ≡ past = omega (arith, q, w) in in_block (λ n. Expects at n []) aims around g past past (expects_at at hi past [] same z) (omega (arith, near))))
        (nop G past)
    region_flows (region.Switch x a sections) aims lo around fit aimed height near =
        switch_flows x a sections aims lo around fit.0 (promoted_number (type_of a) fit.1) fit.2 (omega (arith, height)) near aimed (λ place inner there small. sections_flow sections (type_of a) (a_block ∷ aims) place inner fit.3 there (omega (arith, height)) small)
    region_flows (region.Loop loop condition after body) aims lo around fit aimed height near =
        loop_flows loop condition after body aims lo around fit.0.0 fit.0.1 (step_is_typed loop after fit.1) (omega (arith, height)) (omega (arith, height)) near aimed
        (λ body_at inner there small. region_flows body (a_loop ∷ aims) body_at inner fit.2 there (omega (arith, height)) small)
    region_flows (region.Break number) aims lo around fit aimed height near = leave_flows (Targets aims around) lo (break_at around number) near (aimed.breaks number fit).1 (λ at g. (g.breaks number fit).0)
    region_flows (region.Continue number) aims lo around fit aimed height near = leave_flows (Targets aims around) lo (continue_at around number) near (aimed.continues number fit).1 (λ at g. (g.continues number fit).0)
    region_flows (region.Return a) aims lo around fit aimed height near = return_flows (Targets aims around) a lo fit height
    region_flows (region.Throw a) aims lo around fit aimed height near = absurd fit
    region_flows (region.Guard body cleanup) aims lo around fit aimed height near = absurd fit
    region_flows (region.OnThrow body cleanup) aims lo around fit aimed height near = absurd fit
    region_flows (region.Finally body last) aims lo around fit aimed height near = absurd fit
    region_flows (region.Catch body _) aims lo around fit aimed height near = absurd fit
    region_flows region.Rethrow aims lo around fit aimed height near = absurd fit

    pub regions_flow : (regions : Regions) (aims : List Aim) (lo : ℕ) (around : List Target) → AreFit classes locals result aims regions → Near aims around → regions_height regions ≤ most → lo + regions_size regions < 2 ^ 31
        → Flows e f most (Targets aims around) (regions_code tokens parameters regions lo around) lo [] []
    regions_flow region.no_regions aims lo around fit aimed height near = nothing e f most (Targets aims around) lo []
    regions_flow (region.next_region first rest) aims lo around fit aimed height near =
        let w = region_is tokens parameters first lo around in
        both e f most (Targets aims around) (region_code tokens parameters first lo around) (regions_code tokens parameters rest (lo + region_size first) around) lo (lo + region_size first) [] [] [] (omega (arith, w))
        (region_flows first aims lo around fit.0 aimed (omega (arith, height)) (omega (arith, near))) (regions_flow rest aims (lo + region_size first) around fit.1 aimed (omega (arith, height)) (omega (arith, near)))

    pub sections_flow : (sections : Sections) (of : BareType) (aims : List Aim) (lo : ℕ) (around : List Target) → AreFitSections classes locals result aims of sections → Near aims around → sections_height sections ≤ most → lo + sections_size sections < 2 ^ 31
        → SectionFlows aims around sections lo
    sections_flow region.no_sections of aims lo around fit aimed height near = record {
      flows = nothing e f most (Targets aims around) lo [];
      starts = λ at hi q h z. let same : hi ≡ lo = omega arith in expects_at at hi lo [] same z;
    }
    sections_flow (region.next_section labels body rest) of aims lo around fit aimed height near =
        let w = regions_is_long tokens parameters body lo around in
        let first = regions_flow body aims lo around fit.1 aimed (omega (arith, height)) (omega (arith, near)) in
        let others = sections_flow rest of aims (lo + regions_size body) around fit.2 aimed (omega (arith, height)) (omega (arith, near)) in
        let first_code = regions_code tokens parameters body lo around in
        let others_code = sections_code tokens parameters rest (lo + regions_size body) around in
        let joined = both e f most (Targets aims around) first_code others_code lo (lo + regions_size body) [] [] [] w first others.flows in
        let long = bytes-append first_code others_code in
        record {
          flows = joined;
          starts = λ at hi q h z.
              let later : lo + regions_size body + bytes others_code ≡ hi = omega (arith, q, w, long) in
              (joined.begins at hi q h z, others.starts at hi later (has_back at lo (lo + regions_size body) first.rows others.flows.rows (rows_size first.rows first_code lo (lo + regions_size body) first.is w) h) z);
        }
