-- How a method's body is spelled (ECMA-335, II.25.4): a header, the code, and after zeros up to a multiple of four the
-- exception section, where there are clauses. The header is tiny exactly where it may be, and the section is small
-- exactly where it may be.
--   body_bytes b     the bytes of the body
--   HasSpelling b    its counts can be written, and only a catch has a class
--   IsInRange b      its numbers are of their types
use Rattle.std.specs.Prelude.{◌≡◌, ℕ, ◌+◌, ◌-◌, ◌*◌, ◌%◌, ◌<◌, ◌^◌, ◌==◌, Bool, true, false, ◌&&◌, List, [], ◌∷◌, ◌++◌, length, replicate, nat_lt, nat_le, if◌then◌else◌}
use Rattle.std.specs.List.{flat_map, AllByRecursion}
use Rattle.cc_layout.specs.declared.field.Field.{Field}
use Rattle.cc_layout.specs.Numbers.{AreBytes}
use Rattle.cc_layout.specs.Layout.{number, bytes_of}
use Rattle.cc_cil.specs.declared.body.ClauseKind.{ClauseKind}
use Rattle.cc_cil.specs.declared.body.ClauseKind.TheVariants.{Catch, Finally, Fault}
use Rattle.cc_cil.specs.declared.body.Clause.{Clause}
use Rattle.cc_cil.specs.declared.body.Body.{Body}

-- ---- clauses (II.25.4.6)

abbrev pub kind_flags : ClauseKind → ℕ
kind_flags Catch = 0
kind_flags Finally = 2
kind_flags Fault = 4

-- the class of a catch, else 0
abbrev pub class_of : ClauseKind → ℕ → ℕ
class_of Catch class = class
class_of Finally class = 0
class_of Fault class = 0

abbrev pub clause_layout : Bool → Clause → List Field
clause_layout true c = number 2 (kind_flags c.kind) ∷ number 2 c.try_first ∷ number 1 c.try_length ∷ number 2 c.handler_first ∷ number 1 c.handler_length ∷ number 4 (class_of c.kind c.class) ∷ []
clause_layout false c = number 4 (kind_flags c.kind) ∷ number 4 c.try_first ∷ number 4 c.try_length ∷ number 4 c.handler_first ∷ number 4 c.handler_length ∷ number 4 (class_of c.kind c.class) ∷ []

abbrev pub clause_width : Bool → ℕ
clause_width true = 12
clause_width false = 24

abbrev pub clause_is_small : Clause → Bool
clause_is_small c = nat_lt c.try_first 0x10000 && nat_lt c.try_length 0x100 && nat_lt c.handler_first 0x10000 && nat_lt c.handler_length 0x100

abbrev pub each_is_small : List Clause → Bool
each_is_small [] = true
each_is_small (c ∷ clauses) = clause_is_small c && each_is_small clauses

-- ---- the exception section (II.25.4.5)

abbrev pub is_small : List Clause → Bool
is_small clauses = nat_le (length clauses) 20 && each_is_small clauses

-- the kind of the section and its size in bytes; a section has a width of 4 before its clauses
abbrev pub section_head : Bool → ℕ → List Field
section_head true count = number 1 0x01 ∷ number 1 (12 * count + 4) ∷ number 2 0 ∷ []
section_head false count = number 1 0x41 ∷ number 3 (24 * count + 4) ∷ []

abbrev pub section_layout : Bool → List Clause → List Field
section_layout small clauses = section_head small (length clauses) ++ flat_map (clause_layout small) clauses

-- how many zeros follow code of this size
abbrev pub padding : ℕ → ℕ
padding size = (4 - size % 4) % 4

abbrev pub zeros : ℕ → List Field
zeros count = replicate count (number 1 0)

-- ---- the header (II.25.4.2 and II.25.4.3)

-- fat, twelve bytes, local variables zeroed; without and with an exception section
abbrev pub FAT : ℕ
FAT = 0x3013

abbrev pub FAT_WITH_SECTION : ℕ
FAT_WITH_SECTION = 0x301B

abbrev pub fat_header : ℕ → ℕ → ℕ → ℕ → List Field
fat_header flags max_stack size locals = number 2 flags ∷ number 2 max_stack ∷ number 4 size ∷ number 4 locals ∷ []

abbrev pub tiny_header : ℕ → List Field
tiny_header size = number 1 (size * 4 + 2) ∷ []

-- a body without clauses is tiny
abbrev pub is_tiny : ℕ → ℕ → ℕ → Bool
is_tiny max_stack size locals = nat_lt size 64 && (locals == 0) && (max_stack == 8)

-- ---- the body

abbrev pub bytes_by : Body → List Clause → List ℕ
bytes_by b [] =
    if is_tiny b.max_stack (length b.code) b.locals then bytes_of (tiny_header (length b.code)) ++ b.code
    else bytes_of (fat_header FAT b.max_stack (length b.code) b.locals) ++ b.code
bytes_by b (c ∷ clauses) =
    (bytes_of (fat_header FAT_WITH_SECTION b.max_stack (length b.code) b.locals) ++ b.code)
    ++ bytes_of (zeros (padding (length b.code)) ++ section_layout (is_small (c ∷ clauses)) (c ∷ clauses))

abbrev pub body_bytes : Body → List ℕ
body_bytes b = bytes_by b b.clauses

abbrev pub HasClass : Clause → Type 0
HasClass c = class_of c.kind c.class ≡ c.class

pub record HasSpelling (b : Body) : Type 0 where
  pub code : length b.code < 2 ^ 32
  pub clauses : length b.clauses < 699051
  pub classes : AllByRecursion HasClass b.clauses

pub record IsClauseInRange (c : Clause) : Type 0 where
  pub try_first : c.try_first < 2 ^ 32
  pub try_length : c.try_length < 2 ^ 32
  pub handler_first : c.handler_first < 2 ^ 32
  pub handler_length : c.handler_length < 2 ^ 32
  pub class : c.class < 2 ^ 32

pub record IsInRange (b : Body) : Type 0 where
  pub max_stack : b.max_stack < 2 ^ 16
  pub locals : b.locals < 2 ^ 32
  pub code : AreBytes b.code
  pub clauses : AllByRecursion IsClauseInRange b.clauses
