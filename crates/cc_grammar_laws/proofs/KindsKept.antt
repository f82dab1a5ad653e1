-- Each step of the automaton keeps the kinds of values that are expected.
use Rattle.std.proofs.Common.{◌≡◌, ℕ, ◌+◌, refl, sym, ap, ◌∙◌, subst, List, [], ◌∷◌, ◌++◌, append_assoc, Option, Some, None, Bool, true, false, cond, ◌||◌, ◌&&◌, leb, true≢false}
use Rattle.cc_tree.specs.declared.terminal.Terminal.TheVariants as t
use Rattle.cc_tree.specs.declared.terminal.Sign.TheVariants as s
use Rattle.cc_tree.specs.declared.expression.BinaryOperator.{BinaryOperator}
use Rattle.cc_tree.specs.Operators.{level}
use Rattle.cc_table.specs.declared.symbols.Sort.{Sort}
use Rattle.cc_table.specs.declared.symbols.Sort.TheVariants as o
use Rattle.cc_table.specs.declared.symbols.Action.{Action}
use Rattle.cc_table.specs.declared.symbols.Action.TheVariants as a
use Rattle.cc_table.specs.declared.symbols.Input.{Input}
use Rattle.cc_table.specs.declared.symbols.Input.TheVariants as i
use Rattle.cc_table.specs.declared.symbols.Pattern.{Pattern}
use Rattle.cc_table.specs.declared.symbols.Symbol.{Symbol}
use Rattle.cc_table.specs.declared.symbols.Symbol.TheVariants.{Non, Act, Back}
use Rattle.cc_table.specs.declared.symbols.Take.{Take}
use Rattle.cc_table.specs.declared.symbols.Take.TheVariants as take
use Rattle.cc_table.specs.Choice.{Row, accepts, accepts_one, choose}
use Rattle.cc_table.specs.Table.{rows, otherwise}
use Rattle.cc_pushdown.specs.declared.value.Value.{Value}
use Rattle.cc_pushdown.specs.declared.value.Value.TheVariants as v
use Rattle.cc_pushdown.specs.Values.{below, HasMark, HasName, HasStorage, HasModifierWord}
use Rattle.cc_pushdown.specs.Build.{Ready}
use Rattle.cc_pushdown.specs.Machine.{Fed, fed, Config, At, Bad, Done, Taken, looks, drops, keeps, joins, chosen, binary, operator, operator_or_none, begins, seen, lack, put, step, Comes, here, on}
use Rattle.cc_grammar_laws.specs.Kinds.{Kind, Has, HasNoStorage, Holds, AllFed, Fits, needs, made, taken_kinds, given_kinds, input_kind, is_same, widens, meets, taken_off, put_on, exchanged, exchanged_some, passed}
use Rattle.cc_grammar_laws.proofs.KindsOfParts.{same_kind, are_same, comes_out, kept, kept_fits, patterns_fit, row_fits, rows_fit, otherwise_fits, all_fit}
use Rattle.cc_grammar_laws.proofs.KindsOfActions.{finds}
use Rattle.cc_grammar_laws.proofs.KindsOfInputs.{KeptIs, kept_input, seen_kind, moves}

pub both : (a b : Bool) → (a && b) ≡ true → (a ≡ true) × (b ≡ true)
both true b h = (refl, h)
both false b h = absurd (true≢false (sym h))

pub not_none : {A : Type 0} {one : A} → None ≡ Some one → ⊥
not_none h = true≢false (ap (elim [ None ↦ true | Some a ↦ false ]) h)

abbrev pub or_else : {A : Type 0} → A → Option A → A
or_else a None = a
or_else a (Some b) = b

pub some_same : {A : Type 0} {a b : A} → Some a ≡ Some b → a ≡ b
some_same {a = a} h = ap (or_else a) h

-- Lists of kinds that pass the test are the same.
same_kinds : (ones others : List Kind) → are_same ones others ≡ true → ones ≡ others
same_kinds [] [] h = refl
same_kinds [] (other ∷ others) h = absurd (true≢false (sym h))
same_kinds (one ∷ ones) [] h = absurd (true≢false (sym h))
same_kinds (one ∷ ones) (other ∷ others) h =
    let two = both (is_same one other) (are_same ones others) h in
    subst (λ k. one ∷ ones ≡ k ∷ others) (same_kind one other two.0) (ap (λ ks. one ∷ ks) (same_kinds ones others two.1))

pub came_out : (have : Option (List Kind)) (kinds : List Kind) → comes_out have kinds ≡ true → have ≡ Some kinds
came_out None kinds h = absurd (true≢false (sym h))
came_out (Some have) kinds h = ap Some (same_kinds have kinds h)

-- A value of a kind that meets what is needed is of the needed kind.
mark_stores : (vs : List Value) → HasMark vs → HasStorage vs
mark_stores (v.Mark value ∷ vs) h = tt
mark_stores _ h = absurd h

none_stores : (vs : List Value) → HasNoStorage vs → HasStorage vs
none_stores (v.NoStorage ∷ vs) h = tt
none_stores _ h = absurd h

mark_modifies : (vs : List Value) → HasMark vs → HasModifierWord vs
mark_modifies (v.Mark value ∷ vs) h = tt
mark_modifies _ h = absurd h

name_modifies : (vs : List Value) → HasName vs → HasModifierWord vs
name_modifies (v.Name value ∷ vs) h = tt
name_modifies _ h = absurd h

widened : (needed one : Kind) (vs : List Value) → widens needed one ≡ true → Has one vs → Has needed vs
widened Kind.storage Kind.mark vs w h = mark_stores vs h
widened Kind.storage Kind.no_storage vs w h = none_stores vs h
widened Kind.modifier_word Kind.mark vs w h = mark_modifies vs h
widened Kind.modifier_word Kind.name vs w h = name_modifies vs h
widened _ _ vs w h = absurd (true≢false (sym w))

met : (needed one : Kind) (vs : List Value) → meets needed one ≡ true → Has one vs → Has needed vs
met needed one vs m h = go (is_same needed one) refl m
  where
    go : (test : Bool) → is_same needed one ≡ test → (test || widens needed one) ≡ true → Has needed vs
    go true e m' = subst (λ k. Has k vs) (sym (same_kind needed one e)) h
    go false e m' = widened needed one vs m' h

-- What is taken off stands on top.
pub stands : (needed have rest : List Kind) (vs : List Value) → taken_off needed have ≡ Some rest → Holds have vs → Holds (needed ++ rest) vs
stands [] have rest vs e h = subst (λ ks. Holds ks vs) (some_same e) h
stands (one ∷ needed) [] rest vs e h = absurd (not_none e)
stands (one ∷ needed) (other ∷ have) rest vs e h = go (meets one other) refl e (λ e'. stands needed have rest (below vs) e' h.1)
  where
    go : (test : Bool) → meets one other ≡ test → cond test (taken_off needed have) None ≡ Some rest → (taken_off needed have ≡ Some rest → Holds (needed ++ rest) (below vs)) → Holds (one ∷ (needed ++ rest)) vs
    go true m e' deeper = (met one other vs m h.0, deeper e')
    go false m e' deeper = absurd (not_none e')

-- What is done to some kinds is done above any others too.
off_above : (needed have rest low : List Kind) → taken_off needed have ≡ Some rest → taken_off needed (have ++ low) ≡ Some (rest ++ low)
off_above [] have rest low e = ap (λ ks. Some (ks ++ low)) (some_same e)
off_above (one ∷ needed) [] rest low e = absurd (not_none e)
off_above (one ∷ needed) (other ∷ have) rest low e = go (meets one other) e (off_above needed have rest low)
  where
    go : (test : Bool) → cond test (taken_off needed have) None ≡ Some rest → (taken_off needed have ≡ Some rest → taken_off needed (have ++ low) ≡ Some (rest ++ low)) → cond test (taken_off needed (have ++ low)) None ≡ Some (rest ++ low)
    go true e' deeper = deeper e'
    go false e' deeper = absurd (not_none e')

on_above : (given : List Kind) (have above : Option (List Kind)) (rest low : List Kind) → ((ks : List Kind) → have ≡ Some ks → above ≡ Some (ks ++ low)) → put_on given have ≡ Some rest → put_on given above ≡ Some (rest ++ low)
on_above given None above rest low f e = absurd (not_none e)
on_above given (Some ks) above rest low f e =
    subst (λ o. put_on given o ≡ Some (rest ++ low)) (sym (f ks refl)) (ap Some (sym (append_assoc given ks low) ∙ ap (λ ws. ws ++ low) (some_same e)))

exchanged_above : (symbol : Symbol) (have rest low : List Kind) → exchanged symbol have ≡ Some rest → exchanged symbol (have ++ low) ≡ Some (rest ++ low)
exchanged_above (Non sort) have rest low e = on_above (given_kinds sort) (taken_off (taken_kinds sort) have) (taken_off (taken_kinds sort) (have ++ low)) rest low (λ ks d. off_above (taken_kinds sort) have ks low d) e
exchanged_above (Act action) have rest low e = on_above (made action ∷ []) (taken_off (needs action) have) (taken_off (needs action) (have ++ low)) rest low (λ ks d. off_above (needs action) have ks low d) e
exchanged_above (Back input) have rest low e = off_above (input_kind input ∷ []) have rest low e

passed_none : (more : List Symbol) → passed more None ≡ None
passed_none [] = refl
passed_none (symbol ∷ more) = passed_none more

none_passed : (more : List Symbol) (kinds : List Kind) → passed more None ≡ Some kinds → ⊥
none_passed more kinds e = not_none (sym (passed_none more) ∙ e)

passed_above : (part : List Symbol) (have rest low : List Kind) → passed part (Some have) ≡ Some rest → passed part (Some (have ++ low)) ≡ Some (rest ++ low)
passed_above [] have rest low e = ap (λ ks. Some (ks ++ low)) (some_same e)
passed_above (symbol ∷ part) have rest low e = go (exchanged symbol have) refl e (λ ks. passed_above part ks rest low)
  where
    go : (between : Option (List Kind)) → exchanged symbol have ≡ between → passed part between ≡ Some rest → ((ks : List Kind) → passed part (Some ks) ≡ Some rest → passed part (Some (ks ++ low)) ≡ Some (rest ++ low))
        → passed part (exchanged symbol (have ++ low)) ≡ Some (rest ++ low)
    go None d e' deeper = absurd (none_passed part rest e')
    go (Some ks) d e' deeper = subst (λ o. passed part o ≡ Some (rest ++ low)) (sym (exchanged_above symbol have ks low d)) (deeper ks e')

pub passed-append : (part more : List Symbol) (have : Option (List Kind)) → passed (part ++ more) have ≡ passed more (passed part have)
passed-append [] more have = refl
passed-append (symbol ∷ part) more have = passed-append part more (exchanged_some symbol have)

-- A part in the place of its sort fits where the sort did.
pub replaced : (part more : List Symbol) (before after low last : List Kind) (vs : List Value) → passed part (Some before) ≡ Some after → Holds (before ++ low) vs → passed more (Some (after ++ low)) ≡ Some last
    → (kinds : List Kind) × Holds kinds vs × (passed (part ++ more) (Some kinds) ≡ Some last)
replaced part more before after low last vs p h e =
    (before ++ low, h, passed-append part more (Some (before ++ low)) ∙ (ap (λ o. passed more o) (passed_above part before after low p) ∙ e))

-- What stands below the values that a symbol takes, and what is expected after it.
abbrev pub Opened : List Kind → List Kind → List Symbol → List Value → Type 0
Opened before after more vs = (low : List Kind) × Holds (before ++ low) vs × (passed more (Some (after ++ low)) ≡ Some (Kind.whole ∷ []))

opened : (before after : List Kind) (more : List Symbol) (vs : List Value) (have : List Kind) → Holds have vs → passed more (put_on after (taken_off before have)) ≡ Some (Kind.whole ∷ []) → Opened before after more vs
opened before after more vs have h e = go (taken_off before have) refl e
  where
    go : (off : Option (List Kind)) → taken_off before have ≡ off → passed more (put_on after off) ≡ Some (Kind.whole ∷ []) → Opened before after more vs
    go None d e' = absurd (none_passed more (Kind.whole ∷ []) e')
    go (Some low) d e' = (low, stands before have low vs d h, e')

pub sort_opened : (sort : Sort) (more : List Symbol) (vs : List Value) → Fits (Non sort ∷ more) vs → Opened (taken_kinds sort) (given_kinds sort) more vs
sort_opened sort more vs f = opened (taken_kinds sort) (given_kinds sort) more vs f.0 f.1 f.2

pub act_opened : (action : Action) (more : List Symbol) (vs : List Value) → Fits (Act action ∷ more) vs → Opened (needs action) (made action ∷ []) more vs
act_opened action more vs f = opened (needs action) (made action ∷ []) more vs f.0 f.1 f.2

pub back_opened : (input : Input) (more : List Symbol) (vs : List Value) → Fits (Back input ∷ more) vs → Opened (input_kind input ∷ []) [] more vs
back_opened input more vs f = go (taken_off (input_kind input ∷ []) f.0) refl f.2
  where
    go : (off : Option (List Kind)) → taken_off (input_kind input ∷ []) f.0 ≡ off → passed more off ≡ Some (Kind.whole ∷ []) → Opened (input_kind input ∷ []) [] more vs
    go None d e = absurd (none_passed more (Kind.whole ∷ []) e)
    go (Some low) d e = (low, stands (input_kind input ∷ []) f.0 low vs d f.1, e)

-- What a row makes of the kinds.
abbrev pub PartFits : Take → Kind → List Kind → List Kind → List Symbol → Type 0
PartFits take.Keep kind before after part = passed part (Some (kind ∷ before)) ≡ Some after
PartFits _ kind before after part = passed part (Some before) ≡ Some after

kept_part : (keeps : Option Kind) (kind : Kind) (before after : List Kind) (part : List Symbol) → KeptIs keeps kind → kept_fits keeps before after part ≡ true → passed part (Some (kind ∷ before)) ≡ Some after
kept_part None kind before after part k h = absurd (true≢false (sym h))
kept_part (Some one) kind before after part k h = subst (λ n. passed part (Some (n ∷ before)) ≡ Some after) k (came_out (passed part (Some (one ∷ before))) after h)

kept_parts : (patterns : List Pattern) (input : Input) (before after : List Kind) (part : List Symbol) → patterns_fit patterns before after part ≡ true → accepts_one patterns input ≡ true
    → passed part (Some (input_kind input ∷ before)) ≡ Some after
kept_parts [] input before after part h a = absurd (true≢false (sym a))
kept_parts (one ∷ patterns) input before after part h a =
    let two = both (kept_fits (kept one) before after part) (patterns_fit patterns before after part) h in
    go two.0 (accepts one input) refl a (λ b. kept_parts patterns input before after part two.1 b)
  where
    go : kept_fits (kept one) before after part ≡ true → (test : Bool) → accepts one input ≡ test → (test || accepts_one patterns input) ≡ true
        → (accepts_one patterns input ≡ true → passed part (Some (input_kind input ∷ before)) ≡ Some after) → passed part (Some (input_kind input ∷ before)) ≡ Some after
    go k true b a' deeper = kept_part (kept one) (input_kind input) before after part (kept_input one input b) k
    go k false b a' deeper = deeper a'

row_part : (take : Take) (patterns : List Pattern) (input : Input) (before after : List Kind) (part : List Symbol) → row_fits take patterns before after part ≡ true → accepts_one patterns input ≡ true
    → PartFits take (input_kind input) before after part
row_part take.Keep patterns input before after part h a = kept_parts patterns input before after part h a
row_part take.Look patterns input before after part h a = came_out (passed part (Some before)) after h
row_part take.Drop patterns input before after part h a = came_out (passed part (Some before)) after h

abbrev pub ChosenFits : Kind → List Kind → List Kind → Option (Take × List Symbol) → Type 0
ChosenFits kind before after None = Unit {0}
ChosenFits kind before after (Some (take, part)) = PartFits take kind before after part

pub chosen_fits : (table : List Row) (input : Input) (before after : List Kind) → rows_fit table before after ≡ true → ChosenFits (input_kind input) before after (choose table input)
chosen_fits [] input before after h = tt
chosen_fits (one ∷ table) input before after h =
    let two = both (row_fits one.take one.on before after one.part) (rows_fit table before after) h in
    go two.0 (accepts_one one.on input) refl (chosen_fits table input before after two.1)
  where
    go : row_fits one.take one.on before after one.part ≡ true → (test : Bool) → accepts_one one.on input ≡ test → ChosenFits (input_kind input) before after (choose table input)
        → ChosenFits (input_kind input) before after (cond test (Some (one.take, one.part)) (choose table input))
    go f true a deeper = row_part one.take one.on input before after one.part f a
    go f false a deeper = deeper

-- What a part makes of the kinds at an input.
abbrev pub TakenFits : Kind → List Kind → List Kind → Option Taken → Type 0
TakenFits kind before after None = Unit {0}
TakenFits kind before after (Some (looks part)) = passed part (Some before) ≡ Some after
TakenFits kind before after (Some (drops part)) = passed part (Some before) ≡ Some after
TakenFits kind before after (Some (keeps part)) = passed part (Some (kind ∷ before)) ≡ Some after
TakenFits kind before after (Some (joins operator part)) = passed part (Some (Kind.operator ∷ before)) ≡ Some after

chosen_taken : (kind : Kind) (before after : List Kind) (choice : Option (Take × List Symbol)) → ChosenFits kind before after choice → TakenFits kind before after (chosen choice)
chosen_taken kind before after None h = tt
chosen_taken kind before after (Some (take.Look, part)) h = h
chosen_taken kind before after (Some (take.Drop, part)) h = h
chosen_taken kind before after (Some (take.Keep, part)) h = h

operator_fits : (kind : Kind) (n : ℕ) (of : Option BinaryOperator) → TakenFits kind (taken_kinds (o.BinaryRest n)) (given_kinds (o.BinaryRest n)) (operator_or_none n of)
operator_fits kind n None = tt
operator_fits kind n (Some one) = go (leb n (level one))
  where
    go : (test : Bool) → TakenFits kind (taken_kinds (o.BinaryRest n)) (given_kinds (o.BinaryRest n)) (cond test (Some (joins one (Non o.Unary ∷ Non (o.BinaryRest (level one + 1)) ∷ Act a.MakeBinary ∷ Non (o.BinaryRest n) ∷ []))) None)
    go true = refl
    go false = tt

binary_fits : (n : ℕ) (input : Input) → TakenFits (input_kind input) (taken_kinds (o.BinaryRest n)) (given_kinds (o.BinaryRest n)) (binary n input)
binary_fits n (i.Token (t.Sign s.Greater)) = refl
binary_fits n input = operator_fits (input_kind input) n (operator input)

pub begins_fit : (sort : Sort) (input : Input) → TakenFits (input_kind input) (taken_kinds sort) (given_kinds sort) (begins sort input)
begins_fit (o.BinaryRest n) input = binary_fits n input
begins_fit sort input =
    chosen_taken (input_kind input) (taken_kinds sort) (given_kinds sort) (choose (rows sort) input)
    (chosen_fits (rows sort) input (taken_kinds sort) (given_kinds sort) (both (rows_fit (rows sort) (taken_kinds sort) (given_kinds sort)) (otherwise_fits (otherwise sort) (taken_kinds sort) (given_kinds sort)) (all_fit sort)).0)

-- A configuration whose values are of the kinds that are expected.
abbrev pub Typed : Config → Type 0
Typed (At more vs fs) = Fits more vs × AllFed fs
Typed (Bad fs) = Unit {0}
Typed (Done vs) = Holds (Kind.whole ∷ []) vs

lack_typed : (part : Option (List Symbol)) (before after : List Kind) (more : List Symbol) (vs : List Value) (fs : List Fed) → otherwise_fits part before after ≡ true → Opened before after more vs → AllFed fs → Typed (lack part more vs fs)
lack_typed None before after more vs fs h found all = tt
lack_typed (Some part) before after more vs fs h found all = (replaced part more before after found.0 (Kind.whole ∷ []) vs (came_out (passed part (Some before)) after h) found.1 found.2, all)

put_typed : (of : Option Taken) (sort : Sort) (more : List Symbol) (vs : List Value) (input : Input) (value : Value) (fs : List Fed)
    → TakenFits (input_kind input) (taken_kinds sort) (given_kinds sort) of → Opened (taken_kinds sort) (given_kinds sort) more vs → AllFed (fed input value ∷ fs) → Typed (put of sort more vs input value fs)
put_typed None sort more vs input value fs h found all = lack_typed (otherwise sort) (taken_kinds sort) (given_kinds sort) more vs (fed input value ∷ fs)
    (both (rows_fit (rows sort) (taken_kinds sort) (given_kinds sort)) (otherwise_fits (otherwise sort) (taken_kinds sort) (given_kinds sort)) (all_fit sort)).1 found all
put_typed (Some (looks part)) sort more vs input value fs h found all = (replaced part more (taken_kinds sort) (given_kinds sort) found.0 (Kind.whole ∷ []) vs h found.1 found.2, all)
put_typed (Some (drops part)) sort more vs input value fs h found all = (replaced part more (taken_kinds sort) (given_kinds sort) found.0 (Kind.whole ∷ []) vs h found.1 found.2, all.1)
put_typed (Some (keeps part)) sort more vs input value fs h found all = (replaced part more (input_kind input ∷ taken_kinds sort) (given_kinds sort) found.0 (Kind.whole ∷ []) (value ∷ vs) h (all.0 vs, found.1) found.2, all.1)
put_typed (Some (joins operator part)) sort more vs input value fs h found all = (replaced part more (Kind.operator ∷ taken_kinds sort) (given_kinds sort) found.0 (Kind.whole ∷ []) (v.Operator operator ∷ vs) h (tt, found.1) found.2, all.1)

pub step_typed : (c : Config) → Typed c → Typed (step c)
step_typed (At [] vs []) h = subst (λ ks. Holds ks vs) (some_same h.0.2) h.0.1
step_typed (At [] vs (one ∷ fs)) h = tt
step_typed (At (Act action ∷ more) vs fs) h =
    let found = act_opened action more vs h.0 in
    ((made action ∷ found.0, (finds action found.0 vs found.1).1, found.2), h.1)
step_typed (At (Back input ∷ more) vs fs) h =
    let found = back_opened input more vs h.0 in
    ((found.0, found.1.1, found.2), ((λ ws. moves input vs ws found.1.0), h.1))
step_typed (At (Non sort ∷ more) vs []) h = lack_typed (otherwise sort) (taken_kinds sort) (given_kinds sort) more vs []
    (both (rows_fit (rows sort) (taken_kinds sort) (given_kinds sort)) (otherwise_fits (otherwise sort) (taken_kinds sort) (given_kinds sort)) (all_fit sort)).1 (sort_opened sort more vs h.0) tt
step_typed (At (Non sort ∷ more) vs (fed input value ∷ fs)) h =
    put_typed (begins sort (seen sort vs input value)) sort more vs input value fs
    (subst (λ k. TakenFits k (taken_kinds sort) (given_kinds sort) (begins sort (seen sort vs input value))) (seen_kind sort vs input value) (begins_fit sort (seen sort vs input value)))
    (sort_opened sort more vs h.0) h.1
step_typed (Bad fs) h = tt
step_typed (Done vs) h = h

pub comes_typed : {c d : Config} → Comes c d → Typed c → Typed d
comes_typed here h = h
comes_typed {c = c} (on p) h = comes_typed p (step_typed c h)

-- The values that the next action uses are there.
pub is_ready : (action : Action) (more : List Symbol) (vs : List Value) → Fits (Act action ∷ more) vs → Ready action vs
is_ready action more vs f =
    let found = act_opened action more vs f in
    (finds action found.0 vs found.1).0
