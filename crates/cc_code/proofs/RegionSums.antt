-- The size of a region is the sum of the sizes of its instructions.
use Rattle.std.proofs.Common.{◌≡◌, ℕ, ◌+◌, List, [], ◌∷◌, ◌++◌, Bool, true, false, Option, Some, None, refl, arith}
use Rattle.std.specs.Prelude.{◌^◌, ◌||◌, nat_lt, if◌then◌else◌}
use Rattle.cc_base.specs.declared.identifiers.LocalId.{LocalId}
use Rattle.cc_cil.specs.declared.instruction.Instruction.TheVariants as the
use Rattle.cc_core.specs.declared.tree.LoopKind.{LoopKind}
use Rattle.cc_core.specs.declared.tree.LoopKind.TheVariants.{TestFirst, BodyFirst}
use Rattle.cc_core.specs.declared.tree.SwitchLabel.{SwitchLabel}
use Rattle.cc_core.specs.declared.tree.SwitchLabel.TheVariants.{Case, Default}
use Rattle.cc_core.specs.Numbers.{is_wide}
use Rattle.cc_core.specs.Term.{Term, type_of}
use Rattle.cc_core.specs.Types as type
use Rattle.cc_core.specs.Types.{BareType, bare}
use Rattle.cc_region.specs.declared.tree.RegionFunction.{RegionFunction}
use Rattle.cc_region.specs.Bare.{region_of}
use Rattle.cc_region.specs.Region as region
use Rattle.cc_region.specs.Region.{Region, Regions, Sections}
use Rattle.cc_code.specs.declared.targets.Target.{Target}
use Rattle.cc_code.specs.declared.tokens.Tokens.{Tokens}
use Rattle.cc_code.specs.Instructions.{bytes, branches, ahead, back}
use Rattle.cc_code.specs.Operators.{constant, load, store, drop_value}
use Rattle.cc_code.specs.Terms.{term_code}
use Rattle.cc_code.specs.Sizes.{term_size, do_size, do_if_size, initial_size, return_size, step_of, entry_size, test_size, labels_size, tests_size, constant_size, region_size, regions_size, sections_size}
use Rattle.cc_code.specs.Regions.{default_place, entry_code, target, test_code, labels_code, tests_code, do_code, do_if_code, initial_code, return_code, sections_at, region_code, regions_code, sections_code}
use Rattle.cc_code.specs.Functions.{end_code, end_size, function_instructions, function_size}
use Rattle.cc_code.proofs.Sums.{bytes-append, constant_is, zero_is, load_is, store_is, drop_is, branches_is, term_is}

pub entry_is : (kind : LoopKind) (n : ℕ) → bytes (entry_code kind n) ≡ entry_size kind
entry_is TestFirst n = refl
entry_is BodyFirst n = refl

tested_is : (tested : Bool) (parameters : ℕ) (x : LocalId) (of : BareType) (n past : ℕ)
    → bytes (if tested then load parameters x.0 ∷ constant of n ∷ the.BranchEqual (ahead past) ∷ [] else []) ≡ (if tested then constant_size of + 9 else 0)
tested_is true parameters x of n past = let a = load_is parameters x.0 in let b = constant_is of n in omega arith
tested_is false parameters x of n past = refl

pub test_is : (parameters : ℕ) (x : LocalId) (of : BareType) (label : SwitchLabel) (past : ℕ) → bytes (test_code parameters x of label past) ≡ test_size of label
test_is parameters x of Default past = refl
test_is parameters x of (Case n) past = tested_is (is_wide of || nat_lt n (2 ^ 32)) parameters x of n past

pub labels_are : (parameters : ℕ) (x : LocalId) (of : BareType) (labels : List SwitchLabel) (past : ℕ) → bytes (labels_code parameters x of labels past) ≡ labels_size of labels
labels_are parameters x of [] past = refl
labels_are parameters x of (label ∷ labels) past =
    let a = bytes-append (test_code parameters x of label (labels_size of labels + past)) (labels_code parameters x of labels past) in
    let b = test_is parameters x of label (labels_size of labels + past) in
    let c = labels_are parameters x of labels past in
    omega arith

pub tests_are : (parameters : ℕ) (x : LocalId) (of : BareType) (sections : Sections) (past : ℕ) → bytes (tests_code parameters x of sections past) ≡ tests_size of sections
tests_are parameters x of region.no_sections past = refl
tests_are parameters x of (region.next_section labels body rest) past =
    let a = bytes-append (labels_code parameters x of labels (tests_size of rest + past)) (tests_code parameters x of rest (past + regions_size body)) in
    let b = labels_are parameters x of labels (tests_size of rest + past) in
    let c = tests_are parameters x of rest (past + regions_size body) in
    omega arith

module _ (tokens : Tokens) (parameters : ℕ) where
  do_is : (e : Term) → bytes (do_code tokens parameters e) ≡ do_size e
  do_is e =
      let a = bytes-append (term_code tokens parameters e) (drop_value (type_of e)) in
      let b = term_is tokens parameters e in
      let c = drop_is (type_of e) in
      omega arith

  pub do_if_is : (e : Option Term) → bytes (do_if_code tokens parameters e) ≡ do_if_size e
  do_if_is None = refl
  do_if_is (Some e) = do_is e

  initial_is : (of : BareType) (e : Option Term) → bytes (initial_code tokens parameters of e) ≡ initial_size of e
  initial_is of None = let a = zero_is of in omega arith
  initial_is of (Some e) = term_is tokens parameters e

  return_is : (e : Option Term) → bytes (return_code tokens parameters e) ≡ return_size e
  return_is None = refl
  return_is (Some e) =
      let a = bytes-append (term_code tokens parameters e) (the.Return ∷ []) in
      let b = term_is tokens parameters e in
      omega arith

  mutual
    pub region_is : (r : Region) (at : ℕ) (around : List Target) → bytes (region_code tokens parameters r at around) ≡ region_size r
    region_is (region.Sequence regions) at around = regions_are regions at around
    region_is (region.Do e) at around = do_is e
    region_is (region.Declare x of e) at around =
        let a = bytes-append (initial_code tokens parameters of e) (store parameters x.0 ∷ []) in
        let b = initial_is of e in
        let c = store_is parameters x.0 in
        omega arith
    region_is (region.If condition first second) at around =
        let first_at = at + term_size condition + region_size second + 10 in
        let second_at = at + term_size condition + 5 in
        let parts = branches (region_size first) (region_code tokens parameters first first_at around) (region_size second) (region_code tokens parameters second second_at around) in
        let a = bytes-append (term_code tokens parameters condition) (parts ++ the.Nop ∷ []) in
        let b = bytes-append parts (the.Nop ∷ []) in
        let c = branches_is (region_size first) (region_size second) (region_code tokens parameters first first_at around) (region_code tokens parameters second second_at around) in
        let d = term_is tokens parameters condition in
        let f = region_is first first_at around in
        let g = region_is second second_at around in
        omega arith
    region_is (region.Block body) at around =
        let inner = target (at + region_size body) (at + region_size body) ∷ around in
        let a = bytes-append (region_code tokens parameters body at inner) (the.Nop ∷ []) in
        let b = region_is body at inner in
        omega arith
    region_is (region.Switch x e sections) at around =
        let place = sections_at e sections at in
        let inner = target (place + sections_size sections) (place + sections_size sections) ∷ around in
        let tests = tests_code parameters x (type_of e) sections 5 in
        let rest = the.Branch (ahead (default_place sections)) ∷ (sections_code tokens parameters sections place inner ++ the.Nop ∷ []) in
        let a = bytes-append (term_code tokens parameters e) (store parameters x.0 ∷ (tests ++ rest)) in
        let b = bytes-append tests rest in
        let c = bytes-append (sections_code tokens parameters sections place inner) (the.Nop ∷ []) in
        let d = term_is tokens parameters e in
        let f = store_is parameters x.0 in
        let g = tests_are parameters x (type_of e) sections 5 in
        let h = sections_are sections place inner in
        omega arith
    region_is (region.Loop kind condition after body) at around =
        let body_at = at + entry_size kind in
        let turn_size = region_size body + do_if_size (step_of kind after) in
        let inner = target (body_at + turn_size + term_size condition + 5) (body_at + region_size body) ∷ around in
        let test = term_code tokens parameters condition ++ (the.BranchTrue (back (turn_size + term_size condition + 5)) ∷ the.Nop ∷ []) in
        let a = bytes-append (entry_code kind turn_size) (region_code tokens parameters body body_at inner ++ (do_if_code tokens parameters (step_of kind after) ++ test)) in
        let b = bytes-append (region_code tokens parameters body body_at inner) (do_if_code tokens parameters (step_of kind after) ++ test) in
        let c = bytes-append (do_if_code tokens parameters (step_of kind after)) test in
        let d = bytes-append (term_code tokens parameters condition) (the.BranchTrue (back (turn_size + term_size condition + 5)) ∷ the.Nop ∷ []) in
        let f = entry_is kind turn_size in
        let g = region_is body body_at inner in
        let h = do_if_is (step_of kind after) in
        let i = term_is tokens parameters condition in
        omega arith
    region_is (region.Break number) at around = refl
    region_is (region.Continue number) at around = refl
    region_is (region.Return e) at around = return_is e
    region_is (region.Throw e) at around = refl
    region_is (region.Guard body cleanup) at around = refl
    region_is (region.OnThrow body cleanup) at around = refl
    region_is (region.Finally body last) at around = refl
    region_is (region.Catch body _) at around = refl
    region_is region.Rethrow at around = refl

    pub regions_are : (regions : Regions) (at : ℕ) (around : List Target) → bytes (regions_code tokens parameters regions at around) ≡ regions_size regions
    regions_are region.no_regions at around = refl
    regions_are (region.next_region first rest) at around =
        let a = bytes-append (region_code tokens parameters first at around) (regions_code tokens parameters rest (at + region_size first) around) in
        let b = region_is first at around in
        let c = regions_are rest (at + region_size first) around in
        omega arith

    pub sections_are : (sections : Sections) (at : ℕ) (around : List Target) → bytes (sections_code tokens parameters sections at around) ≡ sections_size sections
    sections_are region.no_sections at around = refl
    sections_are (region.next_section labels body rest) at around =
        let a = bytes-append (regions_code tokens parameters body at around) (sections_code tokens parameters rest (at + regions_size body) around) in
        let b = regions_are body at around in
        let c = sections_are rest (at + regions_size body) around in
        omega arith

end_is : (of : BareType) → bytes (end_code of) ≡ end_size of
end_is type.Void = refl
end_is type.Bool = refl
end_is type.Char = refl
end_is type.I8 = refl
end_is type.U8 = refl
end_is type.I16 = refl
end_is type.U16 = refl
end_is type.I32 = refl
end_is type.U32 = refl
end_is type.I64 = refl
end_is type.U64 = refl
end_is type.Null = refl
end_is (type.Enum of) = refl
end_is (type.Value of) = refl
end_is (type.Handle of) = refl
end_is (type.Array of) = refl
end_is (type.Track of) = refl

pub function_is : (tokens : Tokens) (parameters : ℕ) (f : RegionFunction) → bytes (function_instructions tokens parameters f) ≡ function_size f
function_is tokens parameters f =
    let a = bytes-append (region_code tokens parameters (region_of f.body) 0 []) (end_code (bare f.result)) in
    let b = region_is tokens parameters (region_of f.body) 0 [] in
    let c = end_is (bare f.result) in
    omega arith
