-- The variables of a function: which instructions load and store them, and what they hold at first.
use Rattle.std.proofs.Common.{◌≡◌, ℕ, zero, suc, ◌+◌, ◌-◌, ◌%◌, ◌<◌, ◌≤◌, ◌^◌, ◌⊎◌, inl, inr, List, [], ◌∷◌, ◌++◌, map, length, drop, Bool, true, false, Option, Some, refl, sym, ap, ◌∙◌, subst, arith, slice_get, lt-ltb, le-ltb}
use Rattle.std.specs.Prelude.{if◌then◌else◌, option_map, ⊤}
use Rattle.std.proofs.lemmas.Bool.{cases_lt}
use Rattle.std.proofs.lemmas.Option.{same_Some}
use Rattle.cc_cil.specs.declared.instruction.Instruction.TheVariants as the
use Rattle.cc_core.specs.declared.types.CoreType.{CoreType}
use Rattle.cc_core.specs.declared.world.Value.{Value, Int32, Int64}
use Rattle.cc_core.specs.Frames as source
use Rattle.cc_core.specs.Numbers as narrow
use Rattle.cc_core.specs.Numbers.{is_wide, number}
use Rattle.cc_core.specs.Typed.{is_number, AreNumbers}
use Rattle.cc_core.specs.Types.{BareType, bare}
use Rattle.cc_code.specs.declared.tokens.Tokens.{Tokens}
use Rattle.cc_code.specs.Operators.{index, load, store}
use Rattle.cc_execution.specs.declared.operation.FundamentalType.{FundamentalType}
use Rattle.cc_execution.specs.declared.operation.FundamentalType.TheVariants as to
use Rattle.cc_execution.specs.declared.operation.Operation.TheVariants as does
use Rattle.cc_execution.specs.Fundamental.{core_type, stored_each, zero_of, both}
use Rattle.cc_execution.specs.Operations.{names_in, loaded, argument, argument_from, local, resolve}
use Rattle.cc_execution.specs.Step.{zeros_of}
use Rattle.cc_region.specs.declared.tree.RegionFunction.{RegionFunction}
use Rattle.cc_simulation.specs.Compiled.{Compiled}
use Rattle.cc_simulation.specs.Sites.{Setting}
use Rattle.cc_simulation.specs.Values.{IsOf, AreOf}
use Rattle.cc_simulation.proofs.Parts.{none_some}
use Rattle.cc_simulation.proofs.Ranges.{stored_is, zero_is, zero_fits}

-- ---- lists

pub map_append : {A B : Type 0} (g : A → B) (xs ys : List A) → map g (xs ++ ys) ≡ map g xs ++ map g ys
map_append g [] ys = refl
map_append g (x ∷ xs) ys = ap (λ l. g x ∷ l) (map_append g xs ys)

pub map_length : {A B : Type 0} (g : A → B) (xs : List A) → length (map g xs) ≡ length xs
map_length g [] = refl
map_length g (x ∷ xs) = ap suc (map_length g xs)

get_front : {A : Type 0} (xs ys : List A) (y : ℕ) → y < length xs → slice_get (xs ++ ys) y ≡ slice_get xs y
get_front [] ys y l = absurd (omega (arith, l))
get_front (x ∷ xs) ys zero l = refl
get_front (x ∷ xs) ys (suc y) l = get_front xs ys y (omega (arith, l))

get_back : {A : Type 0} (xs ys : List A) (y n : ℕ) → y ≡ length xs + n → slice_get (xs ++ ys) y ≡ slice_get ys n
get_back [] ys y n e = let f : y ≡ n = omega (arith, e) in ap (slice_get ys) f
get_back (x ∷ xs) ys zero n e = absurd (omega (arith, e))
get_back (x ∷ xs) ys (suc y) n e = get_back xs ys y n (omega (arith, e))

pub drop_front : {A : Type 0} (xs ys : List A) (n : ℕ) → n ≡ length xs → drop n (xs ++ ys) ≡ ys
drop_front [] ys zero e = refl
drop_front [] ys (suc n) e = absurd (omega (arith, e))
drop_front (x ∷ xs) ys zero e = absurd (omega (arith, e))
drop_front (x ∷ xs) ys (suc n) e = drop_front xs ys n (omega (arith, e))

-- ---- types

pub core_number : (t : FundamentalType) → is_number (core_type t) ≡ true
core_number to.Boolean = refl
core_number to.Char = refl
core_number to.I1 = refl
core_number to.U1 = refl
core_number to.I2 = refl
core_number to.U2 = refl
core_number to.I4 = refl
core_number to.U4 = refl
core_number to.I8 = refl
core_number to.U8 = refl

pub are_numbers : (types : List FundamentalType) → AreNumbers (map core_type types)
are_numbers [] = tt
are_numbers (t ∷ types) = (core_number t, are_numbers types)

record Typed (types : List FundamentalType) (y : ℕ) (of : BareType) : Type 0 where
  t : FundamentalType
  is : slice_get types y ≡ Some t
  core : core_type t ≡ of

types_get : (types : List FundamentalType) (y : ℕ) (of : BareType) → slice_get (map core_type types) y ≡ Some of → Typed types y of
types_get [] y of e = none_some of e
types_get (t ∷ types) zero of e = record { t = t; is = refl; core = same_Some (core_type t) of e }
types_get (t ∷ types) (suc y) of e = let r = types_get types y of e in record { t = r.t; is = r.is; core = r.core }

-- ---- places of variables

pub all_loaded : (types : List FundamentalType) → loaded (map Some types) ≡ types
all_loaded [] = refl
all_loaded (t ∷ types) = ap (λ (l : List FundamentalType). t ∷ l) (all_loaded types)

argument_is : (base : ℕ) (types : List FundamentalType) (n : ℕ) (t : FundamentalType) → slice_get types n ≡ Some t → argument_from base (map Some types) n ≡ Some (base + n, t)
argument_is base [] n t e = none_some t e
argument_is base (u ∷ types) zero t e = let f : base ≡ base + 0 = omega arith in ap (λ (t : FundamentalType). Some (base, t)) (same_Some u t e) ∙ ap (λ (n : ℕ). Some (n, t)) f
argument_is base (u ∷ types) (suc n) t e = let f : suc base + n ≡ base + suc n = omega arith in argument_is (suc base) types n t e ∙ ap (λ (n : ℕ). Some (n, t)) f

module _ (set : Setting) (tokens : Tokens) (f : RegionFunction) (place : ℕ) (c : Compiled set tokens f place) where
  front_length : length c.front_types ≡ length c.front
  front_length = sym (map_length core_type c.front_types) ∙ ap length c.front_typed ∙ map_length bare c.front

  back_length : length c.back_types ≡ length c.back
  back_length = sym (map_length core_type c.back_types) ∙ ap length c.back_typed ∙ map_length bare c.back

  all_typed : map core_type (c.front_types ++ c.back_types) ≡ map bare f.locals
  all_typed =
      map_append core_type c.front_types c.back_types ∙ ap (λ (l : List BareType). l ++ map core_type c.back_types) c.front_typed ∙ ap (λ (l : List BareType). map bare c.front ++ l) c.back_typed
      ∙ sym (map_append bare c.front c.back) ∙ ap (map bare) (sym c.parts)

  -- a variable by its number
  record Variable (y : ℕ) (of : BareType) : Type 0 where
    t : FundamentalType
    core : core_type t ≡ of
    is : slice_get (c.front_types ++ c.back_types) y ≡ Some t
    few : y < 2 ^ 16

  get_within : {A : Type 0} (xs : List A) (y : ℕ) (a : A) → slice_get xs y ≡ Some a → y < length xs
  get_within [] y a e = none_some a e
  get_within (x ∷ xs) zero a e = omega arith
  get_within (x ∷ xs) (suc y) a e = let l = get_within xs y a e in omega (arith, l)

  variable : (y : ℕ) (of : BareType) → slice_get (map bare f.locals) y ≡ Some of → Variable y of
  variable y of e =
      let r = types_get (c.front_types ++ c.back_types) y of (ap (λ (l : List BareType). slice_get l y) all_typed ∙ e) in
      let l = get_within (map bare f.locals) y of e in
      let m = map_length bare f.locals in
      record { t = r.t; core = r.core; is = r.is; few = omega (arith, l, m, c.few) }

  -- the argument, or the local variable
  argument_at : (y : ℕ) (t : FundamentalType) → slice_get (c.front_types ++ c.back_types) y ≡ Some t → y < length c.front → y < 2 ^ 16 → argument (names_in set.x c.method) (index y) ≡ Some (y, t)
  argument_at y t is less few =
      let i : y % 2 ^ 16 ≡ y = omega (arith, few) in
      let z : 0 + y ≡ y = omega arith in
      let fl = front_length in
      ap (λ (n : ℕ). argument_from 0 c.method.parameters n) i ∙ ap (λ (l : List (Option FundamentalType)). argument_from 0 l y) c.parameters
      ∙ argument_is 0 c.front_types y t (sym (get_front c.front_types c.back_types y (omega (arith, fl, less))) ∙ is) ∙ ap (λ (n : ℕ). Some (n, t)) z

  local_at : (y : ℕ) (t : FundamentalType) → slice_get (c.front_types ++ c.back_types) y ≡ Some t → length c.front ≤ y → y < 2 ^ 16 → local (names_in set.x c.method) (index (y - length c.front)) ≡ Some (y, t)
  local_at y t is more few =
      let n = y - length c.front in
      let i : n % 2 ^ 16 ≡ n = omega (arith, few) in
      let fl = front_length in
      let at : length c.front_types + n ≡ y = omega (arith, fl, more) in
      let ld : length (loaded c.method.parameters) ≡ length c.front_types = ap (λ (l : List (Option FundamentalType)). length (loaded l)) c.parameters ∙ ap length (all_loaded c.front_types) in
      let got : slice_get c.method.locals n ≡ Some t = ap (λ (l : List FundamentalType). slice_get l n) c.locals ∙ sym (get_back c.front_types c.back_types y n (sym at)) ∙ is in
      let last : option_map (λ (t : FundamentalType). (length (loaded c.method.parameters) + n, t)) (slice_get c.method.locals n) ≡ Some (y, t) =
      ap (λ (o : Option FundamentalType). option_map (λ (t : FundamentalType). (length (loaded c.method.parameters) + n, t)) o) got ∙ ap (λ (k : ℕ). Some (k, t)) (ap (λ (k : ℕ). k + n) ld ∙ at) in
      ap (local (names_in set.x c.method)) i ∙ last

  pub loads : (y : ℕ) (of : BareType) → slice_get (map bare f.locals) y ≡ Some of → (next : ℕ) → resolve (names_in set.x c.method) next (load (length c.front) y) ≡ Some (does.LoadVariable y)
  loads y of e next = by (cases_lt y (length c.front))
    where
      by : (y < length c.front) ⊎ (length c.front ≤ y) → resolve (names_in set.x c.method) next (load (length c.front) y) ≡ Some (does.LoadVariable y)
      by (inl less) =
          let v = variable y of e in
          ap (λ (b : Bool). resolve (names_in set.x c.method) next (if b then the.LoadArgument (index y) else the.LoadLocal (index (y - length c.front)))) (lt-ltb y (length c.front) less)
          ∙ ap (λ (o : Option (ℕ × FundamentalType)). option_map (λ v. does.LoadVariable v.0) o) (argument_at y v.t v.is less v.few)
      by (inr more) =
          let v = variable y of e in
          ap (λ (b : Bool). resolve (names_in set.x c.method) next (if b then the.LoadArgument (index y) else the.LoadLocal (index (y - length c.front)))) (le-ltb y (length c.front) more)
          ∙ ap (λ (o : Option (ℕ × FundamentalType)). option_map (λ v. does.LoadVariable v.0) o) (local_at y v.t v.is more v.few)

  pub stores : (y : ℕ) (of : BareType) → slice_get (map bare f.locals) y ≡ Some of → (t : FundamentalType) × (core_type t ≡ of) × ((next : ℕ) → resolve (names_in set.x c.method) next (store (length c.front) y) ≡ Some (does.StoreVariable y t))
  stores y of e = let v = variable y of e in (v.t, v.core, λ next. by v.t v.is v.few next (cases_lt y (length c.front)))
    where
      by : (t : FundamentalType) → slice_get (c.front_types ++ c.back_types) y ≡ Some t → y < 2 ^ 16 → (next : ℕ) → (y < length c.front) ⊎ (length c.front ≤ y) → resolve (names_in set.x c.method) next (store (length c.front) y) ≡ Some (does.StoreVariable y t)
      by t is few next (inl less) =
          ap (λ (b : Bool). resolve (names_in set.x c.method) next (if b then the.StoreArgument (index y) else the.StoreLocal (index (y - length c.front)))) (lt-ltb y (length c.front) less)
          ∙ ap (λ (o : Option (ℕ × FundamentalType)). option_map (λ v. does.StoreVariable v.0 v.1) o) (argument_at y t is less few)
      by t is few next (inr more) =
          ap (λ (b : Bool). resolve (names_in set.x c.method) next (if b then the.StoreArgument (index y) else the.StoreLocal (index (y - length c.front)))) (le-ltb y (length c.front) more)
          ∙ ap (λ (o : Option (ℕ × FundamentalType)). option_map (λ v. does.StoreVariable v.0 v.1) o) (local_at y t is more few)

  pub numbers : (y : ℕ) (of : BareType) → slice_get (map bare f.locals) y ≡ Some of → is_number of ≡ true
  numbers y of e = let v = variable y of e in subst (λ (o : BareType). is_number o ≡ true) v.core (core_number v.t)

-- ---- what variables hold at first

-- arguments are stored as they are
pub stored_all : (types : List FundamentalType) (vs : List Value) → AreOf (map core_type types) vs → stored_each types vs ≡ Some vs
stored_all [] [] p = refl
stored_all [] (v ∷ vs) p = absurd p
stored_all (t ∷ types) [] p = absurd p
stored_all (t ∷ types) (v ∷ vs) p = ap (λ (o : Option Value). both o (stored_each types vs)) (stored_is t v p.0) ∙ ap (λ (o : Option (List Value)). both (Some v) o) (stored_all types vs p.1)

number_zero : (wide : Bool) → (if wide then Int64 0 else Int32 0) ≡ number wide 0
number_zero true = refl
number_zero false = refl

abbrev first : BareType → List BareType → BareType
first d [] = d
first d (t ∷ types) = t

abbrev others : List BareType → List BareType
others [] = []
others (t ∷ types) = types

-- the zeros of the meaning are those of the machine
pub zeros_are : (types : List FundamentalType) (core : List CoreType) → map core_type types ≡ map bare core → source.zeros_of core ≡ Some (zeros_of types)
zeros_are [] [] e = refl
zeros_are [] (c ∷ core) e = absurd (subst (λ (l : List BareType). elim l as (λ (l : List BareType). Type 0) [ [] ↦ ⊤ | t ∷ l ↦ ⊥ ]) e tt)
zeros_are (t ∷ types) [] e = absurd (subst (λ (l : List BareType). elim l as (λ (l : List BareType). Type 0) [ [] ↦ ⊥ | t ∷ l ↦ ⊤ ]) e tt)
zeros_are (t ∷ types) (c ∷ core) e =
    let h : core_type t ≡ bare c = ap (first (core_type t)) e in
    let r = zeros_are types core (ap others e) in
    let z : narrow.zero_of (bare c) ≡ Some (zero_of t) = ap narrow.zero_of (sym h) ∙ zero_is (core_type t) (core_number t) ∙ ap Some (sym (number_zero (is_wide (core_type t)))) in
    ap (λ (o : Option Value). source.both o (source.zeros_of core)) z ∙ ap (λ (o : Option (List Value)). source.both (Some (zero_of t)) o) r

pub zeros_fit : (types : List FundamentalType) → AreOf (map core_type types) (zeros_of types)
zeros_fit [] = tt
zeros_fit (t ∷ types) = (subst (λ (v : Value). IsOf (core_type t) v) (sym (number_zero (is_wide (core_type t)))) (zero_fits (core_type t) (core_number t)), zeros_fit types)

pub are_both : (types others : List BareType) (vs us : List Value) → AreOf types vs → AreOf others us → AreOf (types ++ others) (vs ++ us)
are_both [] others [] us p q = q
are_both [] others (v ∷ vs) us p q = absurd p
are_both (t ∷ types) others [] us p q = absurd p
are_both (t ∷ types) others (v ∷ vs) us p q = (p.0, are_both types others vs us p.1 q)

pub are_length : (types : List BareType) (vs : List Value) → AreOf types vs → length vs ≡ length types
are_length [] [] p = refl
are_length [] (v ∷ vs) p = absurd p
are_length (t ∷ types) [] p = absurd p
are_length (t ∷ types) (v ∷ vs) p = ap suc (are_length types vs p.1)
