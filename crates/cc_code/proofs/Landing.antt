-- Where the branches of expressions lead.
use Rattle.std.proofs.Common.{◌≡◌, ℕ, suc, ◌+◌, ◌-◌, ◌%◌, ◌^◌, ◌<◌, ◌≤◌, ℤ, pos, ◌+ℤ◌, ◌-ℤ◌, List, [], ◌∷◌, ◌++◌, Bool, true, false, Option, Some, None, refl, sym, ap, ◌∙◌, subst, arith, inl, inr}
use Rattle.std.specs.Prelude.{◌⊎◌, ⊤, nat_lt, if◌then◌else◌, ◌&&◌}
use Rattle.std.specs.Int.{w32, w64, cast_signed}
use Rattle.std.proofs.lemmas.Bool.{cases_lt}
use Rattle.std.proofs.lemmas.Int.{ints}
use Rattle.cc_cil.specs.declared.instruction.Instruction.{Instruction}
use Rattle.cc_cil.specs.declared.instruction.Instruction.TheVariants as the
use Rattle.cc_core.specs.declared.tree.Dispatch.{Dispatch}
use Rattle.cc_core.specs.declared.tree.Dispatch.TheVariants.{Direct, Virtual}
use Rattle.cc_core.specs.declared.tree.UpdateResult.{UpdateResult}
use Rattle.cc_core.specs.declared.tree.UpdateResult.TheVariants.{New, Old}
use Rattle.cc_core.specs.declared.types.Operator.{Operator}
use Rattle.cc_core.specs.declared.types.Operator.TheVariants as op
use Rattle.cc_core.specs.declared.types.UnaryOperator.{UnaryOperator}
use Rattle.cc_core.specs.declared.types.UnaryOperator.TheVariants as unary
use Rattle.cc_core.specs.Numbers.{is_wide, is_signed, is_shift}
use Rattle.cc_core.specs.Term as term
use Rattle.cc_core.specs.Term.{Term, Terms, type_of}
use Rattle.cc_core.specs.Types as type
use Rattle.cc_core.specs.Types.{BareType}
use Rattle.cc_code.specs.declared.tokens.Tokens.{Tokens}
use Rattle.cc_code.specs.Instructions.{width, bytes, branches, ahead, back, distance}
use Rattle.cc_code.specs.Landing.{offset_of, BeginsAt, Lands, AllLand}
use Rattle.cc_code.specs.Operators.{constant, zero, load, store, drop_value, keep_old, keep_new, widening, conversion, operation, operator_code, denies, denial, count_code, unary_code, operated, changed}
use Rattle.cc_code.specs.Sizes.{term_size, terms_size, truth_size}
use Rattle.cc_code.specs.Terms.{variable_of, load_variable, store_variable, call, library_token, term_code, terms_code}
use Rattle.cc_code.proofs.Sums.{bytes-append, conversion_is, term_is}

-- ---- numbers

pub ahead_lands : (a b c : ℕ) → a + b ≡ c → pos a +ℤ pos b ≡ pos c
ahead_lands a b c e = omega (arith, ints)

pub back_lands : (a b c : ℕ) → c + b ≡ a → pos a +ℤ back b ≡ pos c
back_lands a b c e = omega (arith, ints)

below : (from to : ℕ) → to < from → from < 2 ^ 31 → to < 2 ^ 31 → distance from to ≡ cast_signed w32 (to + 2 ^ 32 - from) → pos from +ℤ distance from to ≡ pos to
below from to less p q e = rw e (grind (arith, ints))

above : (from to : ℕ) → from ≤ to → from < 2 ^ 31 → to < 2 ^ 31 → distance from to ≡ cast_signed w32 (to - from) → pos from +ℤ distance from to ≡ pos to
above from to more p q e = rw e (omega (arith, ints))

pub leave_lands : (from to : ℕ) → from < 2 ^ 31 → to < 2 ^ 31 → pos from +ℤ distance from to ≡ pos to
leave_lands from to p q = elim (cases_lt to from) [
  | inl less ↦ let e : (to + (2 ^ 32 - from)) % 2 ^ 32 ≡ to + 2 ^ 32 - from = omega arith in below from to less p q (ap (cast_signed w32) e)
  | inr more ↦ let e : (to + (2 ^ 32 - from)) % 2 ^ 32 ≡ to - from = omega arith in above from to more p q (ap (cast_signed w32) e)
]

-- ---- places

-- each instruction of a list begins at a place of which P holds
abbrev pub AllPlaces : (ℕ → Type 0) → List Instruction → ℕ → Type 0
AllPlaces P [] at = ⊤
AllPlaces P (i ∷ code) at = P at × AllPlaces P code (at + width i)

pub places_weaker : (P Q : ℕ → Type 0) → ((n : ℕ) → P n → Q n) → (code : List Instruction) (at : ℕ) → AllPlaces P code at → AllPlaces Q code at
places_weaker P Q h [] at p = tt
places_weaker P Q h (i ∷ code) at p = (h at p.0, places_weaker P Q h code (at + width i) p.1)

-- each instruction begins where it begins
pub own_places : (code : List Instruction) (at : ℕ) → AllPlaces (BeginsAt code at) code at
own_places [] at = tt
own_places (i ∷ code) at = (inl refl, places_weaker (BeginsAt code (at + width i)) (BeginsAt (i ∷ code) at) (λ n p. inr p) code (at + width i) (own_places code (at + width i)))

module _ (P : ℕ → Type 0) where
  pub places_at : (code : List Instruction) (a b : ℕ) → a ≡ b → AllPlaces P code a → AllPlaces P code b
  places_at code a b e p = subst (λ (n : ℕ). AllPlaces P code n) e p

  pub land_at : (code : List Instruction) (a b : ℕ) → a ≡ b → AllLand P code a → AllLand P code b
  land_at code a b e p = subst (λ (n : ℕ). AllLand P code n) e p

  pub place_at : (a b : ℕ) → a ≡ b → P a → P b
  place_at a b e p = subst (λ (n : ℕ). P n) e p

  pub places_front : (a b : List Instruction) (at : ℕ) → AllPlaces P (a ++ b) at → AllPlaces P a at
  places_front [] b at p = tt
  places_front (i ∷ a) b at p = (p.0, places_front a b (at + width i) p.1)

  pub places_back : (a b : List Instruction) (at next : ℕ) → at + bytes a ≡ next → AllPlaces P (a ++ b) at → AllPlaces P b next
  places_back [] b at next e p = let f : at ≡ next = omega arith in places_at b at next f p
  places_back (i ∷ a) b at next e p = let f : at + width i + bytes a ≡ next = omega arith in places_back a b (at + width i) next f p.1

  -- where a part begins is a place, if what follows it is
  pub first_place : (code : List Instruction) (at next : ℕ) → at + bytes code ≡ next → AllPlaces P code at → P next → P at
  first_place [] at next e p q = let f : next ≡ at = omega arith in place_at next at f q
  first_place (i ∷ code) at next e p q = p.0

  pub land_append : (a b : List Instruction) (at next : ℕ) → at + bytes a ≡ next → AllLand P a at → AllLand P b next → AllLand P (a ++ b) at
  land_append [] b at next e p q = let f : next ≡ at = omega arith in land_at b next at f q
  land_append (i ∷ a) b at next e p q = let f : at + width i + bytes a ≡ next = omega arith in (p.0, land_append a b (at + width i) next f p.1 q)

-- ---- code that leads to the next instruction alone

abbrev pub IsStraight : List Instruction → Type 0
IsStraight [] = ⊤
IsStraight (i ∷ code) = (offset_of i ≡ None) × IsStraight code

pub nowhere : (P : ℕ → Type 0) (next : ℕ) (to : Option ℤ) → to ≡ None → Lands P next to
nowhere P next to e = subst (λ (o : Option ℤ). Lands P next o) (sym e) tt

pub straight_lands : (P : ℕ → Type 0) (code : List Instruction) (at : ℕ) → IsStraight code → AllLand P code at
straight_lands P [] at s = tt
straight_lands P (i ∷ code) at s = (nowhere P (at + width i) (offset_of i) s.0, straight_lands P code (at + width i) s.1)

pub straight_append : (a b : List Instruction) → IsStraight a → IsStraight b → IsStraight (a ++ b)
straight_append [] b p q = q
straight_append (i ∷ a) b p q = (p.0, straight_append a b p.1 q)

constant_offset : (wide : Bool) (n m : ℤ) → offset_of (if wide then the.LoadLong n else the.LoadInt m) ≡ None
constant_offset true n m = refl
constant_offset false n m = refl

pub constant_none : (of : BareType) (n : ℕ) → offset_of (constant of n) ≡ None
constant_none of n = constant_offset (is_wide of) (cast_signed w64 n) (cast_signed w32 (n % 2 ^ 32))

zero_offset : (wide : Bool) → offset_of (if wide then the.LoadLong (pos 0) else the.LoadInt0) ≡ None
zero_offset true = refl
zero_offset false = refl

pub zero_none : (of : BareType) → offset_of (zero of) ≡ None
zero_none of = zero_offset (is_wide of)

load_offset : (first : Bool) (n m : ℕ) → offset_of (if first then the.LoadArgument n else the.LoadLocal m) ≡ None
load_offset true n m = refl
load_offset false n m = refl

pub load_none : (parameters x : ℕ) → offset_of (load parameters x) ≡ None
load_none parameters x = load_offset (nat_lt x parameters) (x % 2 ^ 16) ((x - parameters) % 2 ^ 16)

store_offset : (first : Bool) (n m : ℕ) → offset_of (if first then the.StoreArgument n else the.StoreLocal m) ≡ None
store_offset true n m = refl
store_offset false n m = refl

pub store_none : (parameters x : ℕ) → offset_of (store parameters x) ≡ None
store_none parameters x = store_offset (nat_lt x parameters) (x % 2 ^ 16) ((x - parameters) % 2 ^ 16)

pub drop_straight : (of : BareType) → IsStraight (drop_value of)
drop_straight type.Void = tt
drop_straight type.Bool = (refl, tt)
drop_straight type.Char = (refl, tt)
drop_straight type.I8 = (refl, tt)
drop_straight type.U8 = (refl, tt)
drop_straight type.I16 = (refl, tt)
drop_straight type.U16 = (refl, tt)
drop_straight type.I32 = (refl, tt)
drop_straight type.U32 = (refl, tt)
drop_straight type.I64 = (refl, tt)
drop_straight type.U64 = (refl, tt)
drop_straight type.Null = (refl, tt)
drop_straight (type.Enum of) = (refl, tt)
drop_straight (type.Value of) = (refl, tt)
drop_straight (type.Handle of) = (refl, tt)
drop_straight (type.Array of) = (refl, tt)
drop_straight (type.Track of) = (refl, tt)

widening_offset : (signed : Bool) → offset_of (if signed then the.ConvertI8 else the.ConvertU8) ≡ None
widening_offset true = refl
widening_offset false = refl

pub conversion_straight : (from to : BareType) → IsStraight (conversion from to)
conversion_straight from type.Void = tt
conversion_straight from type.Bool = (zero_none from, (refl, tt))
conversion_straight from type.Char = (refl, tt)
conversion_straight from type.I8 = (refl, tt)
conversion_straight from type.U8 = (refl, tt)
conversion_straight from type.I16 = (refl, tt)
conversion_straight from type.U16 = (refl, tt)
conversion_straight from type.I32 = (refl, tt)
conversion_straight from type.U32 = (refl, tt)
conversion_straight from type.I64 = (widening_offset (is_signed from), tt)
conversion_straight from type.U64 = (widening_offset (is_signed from), tt)
conversion_straight from type.Null = tt
conversion_straight from (type.Enum of) = (refl, tt)
conversion_straight from (type.Value of) = tt
conversion_straight from (type.Handle of) = tt
conversion_straight from (type.Array of) = tt
conversion_straight from (type.Track of) = tt

operation_offset : (signed : Bool) (operator : Operator) → offset_of (operation signed operator) ≡ None
operation_offset signed op.Add = refl
operation_offset signed op.Subtract = refl
operation_offset signed op.Multiply = refl
operation_offset true op.Divide = refl
operation_offset false op.Divide = refl
operation_offset true op.Remainder = refl
operation_offset false op.Remainder = refl
operation_offset signed op.And = refl
operation_offset signed op.Or = refl
operation_offset signed op.ExclusiveOr = refl
operation_offset signed op.ShiftLeft = refl
operation_offset true op.ShiftRight = refl
operation_offset false op.ShiftRight = refl
operation_offset signed op.Equal = refl
operation_offset signed op.NotEqual = refl
operation_offset true op.Less = refl
operation_offset false op.Less = refl
operation_offset true op.GreaterOrEqual = refl
operation_offset false op.GreaterOrEqual = refl
operation_offset true op.Greater = refl
operation_offset false op.Greater = refl
operation_offset true op.LessOrEqual = refl
operation_offset false op.LessOrEqual = refl

either_straight : (b : Bool) (first second : List Instruction) → IsStraight first → IsStraight second → IsStraight (if b then first else second)
either_straight true first second p q = p
either_straight false first second p q = q

operator_straight : (of : BareType) (operator : Operator) → IsStraight (operator_code of operator)
operator_straight of operator = (operation_offset (is_signed of) operator, either_straight (denies operator) denial [] (refl, (refl, tt)) tt)

count_straight : (operator : Operator) (right : BareType) → IsStraight (count_code operator right)
count_straight operator right = either_straight (is_shift operator && is_wide right) (the.ConvertI4 ∷ []) [] (refl, tt) tt

pub unary_straight : (operator : UnaryOperator) (of : BareType) → IsStraight (unary_code operator of)
unary_straight unary.Negate of = (refl, tt)
unary_straight unary.Complement of = (refl, tt)
unary_straight unary.Not of = (zero_none of, (refl, tt))

keep_old_straight : (of : UpdateResult) → IsStraight (keep_old of)
keep_old_straight New = tt
keep_old_straight Old = (refl, tt)

keep_new_straight : (of : UpdateResult) → IsStraight (keep_new of)
keep_new_straight New = (refl, tt)
keep_new_straight Old = tt

load_variable_straight : (parameters : ℕ) (place : Term) → IsStraight (load_variable parameters (variable_of place))
load_variable_straight parameters (term.Local of x) = (load_none parameters x.0, tt)
load_variable_straight parameters _ = tt

store_variable_straight : (parameters : ℕ) (place : Term) → IsStraight (store_variable parameters (variable_of place))
store_variable_straight parameters (term.Local of x) = (store_none parameters x.0, tt)
store_variable_straight parameters _ = tt

call_none : (tokens : Tokens) (dispatch : Dispatch) (method : ℕ) → offset_of (call tokens dispatch method) ≡ None
call_none tokens Direct method = refl
call_none tokens Virtual method = refl

-- ---- parts of code, wherever they stand

-- The branches of a list that begins at an offset lead to places of which P holds, where it holds of the list's own places and of its end.
abbrev pub ClosedAt : (ℕ → Type 0) → List Instruction → ℕ → Type 0
ClosedAt P code at = (end : ℕ) → at + bytes code ≡ end → AllPlaces P code at → P end → AllLand P code at

abbrev pub Closed : (ℕ → Type 0) → List Instruction → Type 0
Closed P code = (at : ℕ) → ClosedAt P code at

module _ (P : ℕ → Type 0) where
  pub straight : (code : List Instruction) → IsStraight code → Closed P code
  straight code s at end e p q = straight_lands P code at s

  pub both_at : (a b : List Instruction) (at next : ℕ) → at + bytes a ≡ next → ClosedAt P a at → ClosedAt P b next → ClosedAt P (a ++ b) at
  both_at a b at next f ca cb end e p q =
      let w = bytes-append a b in
      let g : next + bytes b ≡ end = omega arith in
      let rest = places_back P a b at next f p in
      land_append P a b at next f (ca next f (places_front P a b at p) (first_place P b next end g rest q)) (cb end g rest q)

  pub both : (a b : List Instruction) → Closed P a → Closed P b → Closed P (a ++ b)
  both a b ca cb at = both_at a b at (at + bytes a) refl (ca at) (cb (at + bytes a))

  pub one_then : (i : Instruction) (code : List Instruction) → offset_of i ≡ None → Closed P code → Closed P (i ∷ code)
  one_then i code n c at end e p q = (nowhere P (at + width i) (offset_of i) n, c (at + width i) end (omega arith) p.1 q)

  -- the first list begins behind the second and the branch over it; the second ends where the whole does
  pub choice_at : (n m : ℕ) (first second : List Instruction) (at : ℕ) → bytes first ≡ n → bytes second ≡ m
      → ClosedAt P first (at + m + 10) → ClosedAt P second (at + 5) → ClosedAt P (branches n first m second) at
  choice_at n m first second at f s cf cs end e p q =
      let jump = the.Branch (ahead n) in
      let w = bytes-append second (jump ∷ first) in
      let behind = places_back P second (jump ∷ first) (at + 5) (at + 5 + m) (omega arith) p.1 in
      let first_places = places_at P first (at + 5 + m + 5) (at + m + 10) (omega arith) behind.1 in
      let size : at + m + 10 + bytes first ≡ end = omega arith in
      let first_at = first_place P first (at + m + 10) end size first_places q in
      let last = land_at P first (at + m + 10) (at + 5 + m + 5) (omega arith) (cf end size first_places q) in
      let second_size : at + 5 + bytes second ≡ at + 5 + m = omega arith in (
        (at + m + 10, ahead_lands (at + 5) (m + 5) (at + m + 10) (omega arith), first_at),
        land_append P second (jump ∷ first) (at + 5) (at + 5 + m) second_size (cs (at + 5 + m) second_size (places_front P second (jump ∷ first) (at + 5) p.1) behind.0)
            ((end, ahead_lands (at + 5 + m + 5) n end (omega arith), q), last),
      )

  pub choice : (n m : ℕ) (first second : List Instruction) → bytes first ≡ n → bytes second ≡ m → Closed P first → Closed P second → Closed P (branches n first m second)
  choice n m first second f s cf cs at = choice_at n m first second at f s (cf (at + m + 10)) (cs (at + 5))

  pub operated_closed : (operator : Operator) (left right : BareType) (operand : List Instruction) → Closed P operand → Closed P (operated operator left right operand)
  operated_closed operator left right operand c =
      both operand (count_code operator right ++ operator_code left operator) c
      (both (count_code operator right) (operator_code left operator) (straight (count_code operator right) (count_straight operator right)) (straight (operator_code left operator) (operator_straight left operator)))

  pub changed_closed : (of : BareType) (operator : Operator) (common : BareType) (kept : UpdateResult) (right : BareType) (operand : List Instruction)
      → Closed P operand → Closed P (changed of operator common kept right operand)
  changed_closed of operator common kept right operand c =
      both (keep_old kept) (conversion of common ++ (operated operator common right operand ++ (conversion common of ++ keep_new kept))) (straight (keep_old kept) (keep_old_straight kept))
      (both (conversion of common) (operated operator common right operand ++ (conversion common of ++ keep_new kept)) (straight (conversion of common) (conversion_straight of common))
      (both (operated operator common right operand) (conversion common of ++ keep_new kept) (operated_closed operator common right operand c)
      (both (conversion common of) (keep_new kept) (straight (conversion common of) (conversion_straight common of)) (straight (keep_new kept) (keep_new_straight kept)))))

-- ---- expressions

-- the size of an expression's truth
truth_is : (tokens : Tokens) (parameters : ℕ) (e : Term) → bytes (term_code tokens parameters e ++ conversion (type_of e) type.Bool) ≡ term_size e + truth_size (type_of e)
truth_is tokens parameters e =
    let a = bytes-append (term_code tokens parameters e) (conversion (type_of e) type.Bool) in
    let b = term_is tokens parameters e in
    let c = conversion_is (type_of e) type.Bool in
    omega arith

module _ (P : ℕ → Type 0) (tokens : Tokens) (parameters : ℕ) where
  -- an expression and straight code behind it
  then_straight : (e : Term) (behind : List Instruction) → IsStraight behind → Closed P (term_code tokens parameters e) → Closed P (term_code tokens parameters e ++ behind)
  then_straight e behind s c = both P (term_code tokens parameters e) behind c (straight P behind s)

  mutual
    pub term_closed : (e : Term) → Closed P (term_code tokens parameters e)
    term_closed (term.Number of n) = straight P (constant of n ∷ []) (constant_none of n, tt)
    term_closed (term.Local of x) = straight P (load parameters x.0 ∷ []) (load_none parameters x.0, tt)
    term_closed (term.Convert of operand) = then_straight operand (conversion (type_of operand) of) (conversion_straight (type_of operand) of) (term_closed operand)
    term_closed (term.Unary of operator operand) = then_straight operand (unary_code operator (type_of operand)) (unary_straight operator (type_of operand)) (term_closed operand)
    term_closed (term.Binary of operator left right) =
        both P (term_code tokens parameters left) (operated operator (type_of left) (type_of right) (term_code tokens parameters right)) (term_closed left)
        (operated_closed P operator (type_of left) (type_of right) (term_code tokens parameters right) (term_closed right))
    term_closed (term.And of first second) =
        let truth = term_code tokens parameters second ++ conversion (type_of second) type.Bool in
        let n = term_size second + truth_size (type_of second) in
        both P (term_code tokens parameters first) (branches n truth 1 (the.LoadInt0 ∷ [])) (term_closed first)
        (choice P n 1 truth (the.LoadInt0 ∷ []) (truth_is tokens parameters second) refl
        (then_straight second (conversion (type_of second) type.Bool) (conversion_straight (type_of second) type.Bool) (term_closed second)) (straight P (the.LoadInt0 ∷ []) (refl, tt)))
    term_closed (term.Or of first second) =
        let truth = term_code tokens parameters second ++ conversion (type_of second) type.Bool in
        let n = term_size second + truth_size (type_of second) in
        both P (term_code tokens parameters first) (branches 1 (the.LoadInt1 ∷ []) n truth) (term_closed first)
        (choice P 1 n (the.LoadInt1 ∷ []) truth refl (truth_is tokens parameters second) (straight P (the.LoadInt1 ∷ []) (refl, tt))
        (then_straight second (conversion (type_of second) type.Bool) (conversion_straight (type_of second) type.Bool) (term_closed second)))
    term_closed (term.Choose of condition first second) =
        both P (term_code tokens parameters condition) (branches (term_size first) (term_code tokens parameters first) (term_size second) (term_code tokens parameters second)) (term_closed condition)
        (choice P (term_size first) (term_size second) (term_code tokens parameters first) (term_code tokens parameters second) (term_is tokens parameters first) (term_is tokens parameters second)
        (term_closed first) (term_closed second))
    term_closed (term.Assign of place value) =
        then_straight value (the.Duplicate ∷ store_variable parameters (variable_of place)) (refl, store_variable_straight parameters place) (term_closed value)
    term_closed (term.Update of operator common result place operand) =
        let put = store_variable parameters (variable_of place) in
        let change = changed of operator common result (type_of operand) (term_code tokens parameters operand) in
        both P (load_variable parameters (variable_of place)) (change ++ put) (straight P (load_variable parameters (variable_of place)) (load_variable_straight parameters place))
        (both P change put (changed_closed P of operator common result (type_of operand) (term_code tokens parameters operand) (term_closed operand)) (straight P put (store_variable_straight parameters place)))
    term_closed (term.Call of method dispatch arguments) =
        both P (terms_code tokens parameters arguments) (call tokens dispatch method.0 ∷ []) (terms_closed arguments) (straight P (call tokens dispatch method.0 ∷ []) (call_none tokens dispatch method.0, tt))
    term_closed (term.Library of member arguments) =
        both P (terms_code tokens parameters arguments) (the.Call (library_token tokens member) ∷ []) (terms_closed arguments) (straight P (the.Call (library_token tokens member) ∷ []) (refl, tt))
    term_closed (term.Let of x first second) =
        both P (term_code tokens parameters first) (store parameters x.0 ∷ term_code tokens parameters second) (term_closed first)
        (one_then P (store parameters x.0) (term_code tokens parameters second) (store_none parameters x.0) (term_closed second))
    term_closed (term.Then of first second) =
        both P (term_code tokens parameters first) (drop_value (type_of first) ++ term_code tokens parameters second) (term_closed first)
        (both P (drop_value (type_of first)) (term_code tokens parameters second) (straight P (drop_value (type_of first)) (drop_straight (type_of first))) (term_closed second))
    term_closed (term.Literal of text) = straight P [] tt
    term_closed (term.Null of) = straight P [] tt
    term_closed (term.This of) = straight P [] tt
    term_closed (term.Field of field object) = straight P [] tt
    term_closed (term.StaticField of field) = straight P [] tt
    term_closed (term.Element of array index) = straight P [] tt
    term_closed (term.New of made constructor arguments) = straight P [] tt
    term_closed (term.NewArray of element count) = straight P [] tt
    term_closed (term.ArrayOf of element elements) = straight P [] tt
    term_closed (term.Cast of kind operand) = straight P [] tt
    term_closed (term.PlaceOf of operand) = straight P [] tt
    term_closed (term.HandleOf of operand) = straight P [] tt

    pub terms_closed : (arguments : Terms) → Closed P (terms_code tokens parameters arguments)
    terms_closed term.no_terms = straight P [] tt
    terms_closed (term.next_term first rest) = both P (term_code tokens parameters first) (terms_code tokens parameters rest) (term_closed first) (terms_closed rest)
