-- The code of regions (ECMA-372, 16; ECMA-335, III.3): the evaluation stack is empty where a region begins and where it ends normally. What isn't built has no code.
--   region_code r at around   the code of a region that begins at an offset, inside constructs whose exits lead to these targets, the innermost first
-- Each branch leads to an instruction of the construct's own, or to where a part of it begins; so a construct ends with a `nop`.
-- An exit is a `leave`, which may lead out of protected code (III.3.46).
use Rattle.std.specs.Prelude.{ℕ, ◌+◌, slice_index_or, List, [], ◌∷◌, ◌++◌, Option, Some, None, if◌then◌else◌}
use Rattle.cc_base.specs.declared.identifiers.LocalId.{LocalId}
use Rattle.cc_cil.specs.declared.instruction.Instruction.{Instruction}
use Rattle.cc_cil.specs.declared.instruction.Instruction.TheVariants as the
use Rattle.cc_core.specs.declared.tree.LoopKind.{LoopKind}
use Rattle.cc_core.specs.declared.tree.LoopKind.TheVariants.{TestFirst, BodyFirst}
use Rattle.cc_core.specs.declared.tree.SwitchLabel.{SwitchLabel}
use Rattle.cc_core.specs.declared.tree.SwitchLabel.TheVariants.{Case, Default}
use Rattle.cc_core.specs.Leave.{has_default}
use Rattle.cc_core.specs.Term.{Term, type_of}
use Rattle.cc_core.specs.Types.{BareType}
use Rattle.cc_region.specs.Region.{Region, Regions, Sections, Sequence, Do, Declare, If, Block, Switch, Loop, Break, Continue, Return, no_regions, next_region, no_sections, next_section}
use Rattle.cc_code.specs.declared.targets.Target.{Target}
use Rattle.cc_code.specs.declared.tokens.Tokens.{Tokens}
use Rattle.cc_code.specs.Instructions.{ahead, back, distance, branches}
use Rattle.cc_code.specs.Operators as operators
use Rattle.cc_code.specs.Operators.{constant, load, store, drop_value}
use Rattle.cc_code.specs.Sizes.{term_size, do_if_size, step_of, entry_size, is_tested, labels_size, tests_size, region_size, regions_size, sections_size}
use Rattle.cc_code.specs.Terms.{term_code}

-- ---- exits

abbrev pub target : ℕ → ℕ → Target
target breaks continues = record { breaks = breaks; continues = continues }

-- where a Break and a Continue of a number lead; every one that is fit has its target
abbrev pub break_at : List Target → ℕ → ℕ
break_at around number = (slice_index_or around number (target 0 0)).breaks

abbrev pub continue_at : List Target → ℕ → ℕ
continue_at around number = (slice_index_or around number (target 0 0)).continues

-- a `leave` at an offset, to another one
abbrev pub leave : ℕ → ℕ → Instruction
leave at to = the.Leave (distance (at + 5) to)

-- ---- parts of switches and loops

-- where the section with the label `default` begins, counted from where the first section does, or else where the last one ends
abbrev pub default_place : Sections → ℕ
default_place no_sections = 0
default_place (next_section labels body rest) = if has_default labels then 0 else regions_size body + default_place rest

-- where the first section of a switch begins
abbrev pub sections_at : Term → Sections → ℕ → ℕ
sections_at e sections at = at + term_size e + 4 + tests_size (type_of e) sections + 5

-- a loop that tests first begins with a branch over so many bytes to its test
abbrev pub entry_code : LoopKind → ℕ → List Instruction
entry_code TestFirst n = the.Branch (ahead n) ∷ []
entry_code BodyFirst n = []

-- In a function with so many parameters.
module _ (parameters : ℕ) where
  -- a test of a label against the variable; the section begins so many bytes behind the test
  abbrev pub test_code : LocalId → BareType → SwitchLabel → ℕ → List Instruction
  test_code x of Default past = []
  test_code x of (Case n) past = if is_tested of (Case n) then load parameters x.0 ∷ constant of n ∷ the.BranchEqual (ahead past) ∷ [] else []

  -- tests of labels in order; their section begins so many bytes behind the tests
  abbrev pub labels_code : LocalId → BareType → List SwitchLabel → ℕ → List Instruction
  labels_code x of [] past = []
  labels_code x of (label ∷ labels) past = test_code x of label (labels_size of labels + past) ++ labels_code x of labels past

  -- tests of the labels of sections in order; the first of these sections begins so many bytes behind the tests
  abbrev pub tests_code : LocalId → BareType → Sections → ℕ → List Instruction
  tests_code x of no_sections past = []
  tests_code x of (next_section labels body rest) past = labels_code x of labels (tests_size of rest + past) ++ tests_code x of rest (past + regions_size body)

-- In a program whose members have these tokens, in a function with so many parameters.
module _ (tokens : Tokens) (parameters : ℕ) where
  -- an expression whose value is dropped
  abbrev pub do_code : Term → List Instruction
  do_code e = term_code tokens parameters e ++ drop_value (type_of e)

  abbrev pub do_if_code : Option Term → List Instruction
  do_if_code None = []
  do_if_code (Some e) = do_code e

  -- what a variable of a type is set to
  abbrev pub initial_code : BareType → Option Term → List Instruction
  initial_code of None = operators.zero of ∷ []
  initial_code of (Some e) = term_code tokens parameters e

  abbrev pub return_code : Option Term → List Instruction
  return_code None = the.Return ∷ []
  return_code (Some e) = term_code tokens parameters e ++ the.Return ∷ []

  abbrev pub declare_code : LocalId → BareType → Option Term → List Instruction
  declare_code x of e = initial_code of e ++ store parameters x.0 ∷ []

  abbrev mutual
    pub region_code : Region → ℕ → List Target → List Instruction
    region_code (Sequence regions) at around = regions_code regions at around
    region_code (Do e) at around = do_code e
    region_code (Declare x of e) at around = declare_code x of e
    region_code (If condition first second) at around =
        term_code tokens parameters condition ++ (branches
        (region_size first) (region_code first (at + term_size condition + region_size second + 10) around)
        (region_size second) (region_code second (at + term_size condition + 5) around)
        ++ the.Nop ∷ [])
    region_code (Block body) at around =
        region_code body at (target (at + region_size body) (at + region_size body) ∷ around) ++ the.Nop ∷ []
    -- the operand goes to the variable; then come the tests, the branch to the default section or the end, and the sections
    region_code (Switch x e sections) at around =
        term_code tokens parameters e ++ (store parameters x.0 ∷ (tests_code parameters x (type_of e) sections 5 ++ (the.Branch (ahead (default_place sections))
        ∷ (sections_code sections (sections_at e sections at) (target (sections_at e sections at + sections_size sections) (sections_at e sections at + sections_size sections) ∷ around)
        ++ the.Nop ∷ []))))
    -- the body, what is done after each turn, and the test, which leads back to the body
    region_code (Loop kind condition after body) at around =
        let body_at = at + entry_size kind in
        let step_at = body_at + region_size body in
        let turn_size = region_size body + do_if_size (step_of kind after) in
        let past = body_at + turn_size + term_size condition + 5 in
        entry_code kind turn_size ++ (region_code body body_at (target past step_at ∷ around) ++ (do_if_code (step_of kind after)
        ++ (term_code tokens parameters condition ++ (the.BranchTrue (back (turn_size + term_size condition + 5)) ∷ the.Nop ∷ []))))
    region_code (Break number) at around = leave at (break_at around number) ∷ []
    region_code (Continue number) at around = leave at (continue_at around number) ∷ []
    region_code (Return e) at around = return_code e
    region_code _ at around = []

    pub regions_code : Regions → ℕ → List Target → List Instruction
    regions_code no_regions at around = []
    regions_code (next_region first rest) at around = region_code first at around ++ regions_code rest (at + region_size first) around

    pub sections_code : Sections → ℕ → List Target → List Instruction
    sections_code no_sections at around = []
    sections_code (next_section labels body rest) at around = regions_code body at around ++ sections_code rest (at + regions_size body) around

  -- the sections of a switch, the first of which begins at the offset, and its end
  abbrev pub switched_code : Sections → ℕ → List Target → List Instruction
  switched_code sections at around =
      sections_code sections at (target (at + sections_size sections) (at + sections_size sections) ∷ around) ++ the.Nop ∷ []
