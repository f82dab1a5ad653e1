-- A part that only looks at an input comes nearer to one that takes it, and no part puts back more than it takes.
use Rattle.std.proofs.Common.{◌≡◌, sym, subst, refl, ◌+◌, ◌<◌, ◌≤◌, ℕ, List, [], ◌∷◌, ◌++◌, arith, zero-add, min}
use Rattle.std.specs.Prelude.{Option, Some, None, Bool, true, false, ◌&&◌, ◌||◌, not, cond, leb, nat_lt}
use Rattle.std.proofs.lemmas.Bool.{false≢true, ltb-true, leb-true}
use Rattle.cc_tree.specs.declared.terminal.Terminal.TheVariants as t
use Rattle.cc_tree.specs.declared.terminal.NameKind.{NameKind}
use Rattle.cc_tree.specs.declared.terminal.ContextualWord.{ContextualWord}
use Rattle.cc_tree.specs.declared.terminal.Sign.TheVariants as s
use Rattle.cc_tree.specs.declared.expression.BinaryOperator.{BinaryOperator}
use Rattle.cc_tree.specs.Operators.{level}
use Rattle.cc_table.specs.declared.symbols.Sort.{Sort}
use Rattle.cc_table.specs.declared.symbols.Sort.TheVariants as o
use Rattle.cc_table.specs.declared.symbols.Action.TheVariants as a
use Rattle.cc_table.specs.declared.symbols.Symbol.{Symbol}
use Rattle.cc_table.specs.declared.symbols.Symbol.TheVariants.{Non, Act, Back}
use Rattle.cc_table.specs.declared.symbols.Input.{Input}
use Rattle.cc_table.specs.declared.symbols.Input.TheVariants as i
use Rattle.cc_table.specs.declared.symbols.Pattern.{Pattern}
use Rattle.cc_table.specs.declared.symbols.Pattern.TheVariants as p
use Rattle.cc_table.specs.declared.symbols.Take.{Take}
use Rattle.cc_table.specs.declared.symbols.Take.TheVariants as take
use Rattle.cc_table.specs.Choice.{Row, accepts, accepts_one, accepts_returned, choose}
use Rattle.cc_table.specs.Table.{rows, otherwise}
use Rattle.cc_pushdown.specs.declared.value.Value.{Value}
use Rattle.cc_pushdown.specs.Values.{below}
use Rattle.cc_pushdown.specs.Machine.{Taken, looks, drops, keeps, joins, chosen, operator, operator_or_none, binary, begins, is_own, own_or, own_seen, touches, touching_seen, seen}
use Rattle.cc_grammar.specs.Weight.{passes, weight, visible, through, worth, worth_row, worth_rows, owes, owed, credit_of, credit, nearer, pays, row_falls, rows_fall, otherwise_falls}

both : (a b : Bool) → (a && b) ≡ true → (a ≡ true) × (b ≡ true)
both true true e = (refl, refl)
both true false e = absurd (false≢true e)
both false true e = absurd (false≢true e)
both false false e = absurd (false≢true e)

-- The weight of some symbols before others.
non_append : (b t : Bool) (w v v' m : ℕ) → v' ≡ v + cond t m 0 → w + cond b v' 0 ≡ w + cond b v 0 + cond (b && t) m 0
non_append true true w v v' m e = omega (arith, e)
non_append true false w v v' m e = omega (arith, e)
non_append false true w v v' m e = omega arith
non_append false false w v v' m e = omega arith

visible_append : (part more : List Symbol) → visible (part ++ more) ≡ visible part + cond (through part) (visible more) 0
visible_append [] more = sym (zero-add (visible more))
visible_append (Act action ∷ part) more = let e = visible_append part more in omega (arith, e)
visible_append (Back input ∷ part) more = refl
visible_append (Non sort ∷ part) more = non_append (passes sort) (through part) (weight sort) (visible part) (visible (part ++ more)) (visible more) (visible_append part more)

owed_append : (part more : List Symbol) → owed (part ++ more) ≡ owed part + owed more
owed_append [] more = sym (zero-add (owed more))
owed_append (Act action ∷ part) more = owed_append part more
owed_append (Back input ∷ part) more = let e = owed_append part more in omega (arith, e)
owed_append (Non sort ∷ part) more = let e = owed_append part more in omega (arith, e)

credit_append : (part more : List Symbol) → credit part ≤ credit (part ++ more)
credit_append [] more = omega arith
credit_append (Act action ∷ part) more = omega arith
credit_append (Back input ∷ part) more = omega arith
credit_append (Non sort ∷ part) more = omega arith

light : (t b : Bool) (v w m : ℕ) → v < w → (not t || b) ≡ true → v + cond t m 0 < w + cond b m 0
light true true v w m h e = omega arith
light true false v w m h e = absurd (false≢true e)
light false true v w m h e = omega arith
light false false v w m h e = omega arith

pub falls : (sort : Sort) (part more : List Symbol) → nearer sort part ≡ true → visible (part ++ more) < visible (Non sort ∷ more)
falls sort part more e =
    let p = both _ _ (both _ _ e).0 in
    subst (λ n. n < visible (Non sort ∷ more)) (sym (visible_append part more)) (light (through part) (passes sort) (visible part) (weight sort) (visible more) (ltb-true _ _ p.0) p.1)

pub owes_no_more : (sort : Sort) (part more : List Symbol) → nearer sort part ≡ true → owed (part ++ more) + credit_of sort ≤ owed (Non sort ∷ more) + credit (part ++ more)
owes_no_more sort part more e =
    let p : ((nat_lt (visible part) (weight sort) && (not (through part) || passes sort)) ≡ true) × (leb (owed part + credit_of sort) (owes sort + credit part) ≡ true) = both _ _ e in
    let h : owed part + credit_of sort ≤ owes sort + credit part = leb-true _ _ p.1 in
    let f = owed_append part more in
    let g = credit_append part more in
    omega (arith, h, f, g)

pub owes_less : (sort : Sort) (part more : List Symbol) (n : ℕ) → owed part + credit_of sort < owes sort + n → owed (part ++ more) + credit_of sort < owed (Non sort ∷ more) + n
owes_less sort part more n h = let f = owed_append part more in omega (arith, h, f)

-- What the table's inputs are worth.
pub worth_some : (input : Input) → 3 ≤ worth input
worth_some (i.Token terminal) = omega arith
worth_some (i.Own kind word) = omega arith
worth_some i.TouchingGreater = omega arith
worth_some _ = omega arith

worth_top : (pattern : Pattern) → worth_row pattern ≤ 10
worth_top p.CoreType = omega arith
worth_top _ = omega arith

worth_returned : (pattern : Pattern) (input : Input) → accepts_returned pattern input ≡ true → worth_row pattern ≤ worth input
worth_returned p.CoreType input e = worth_some input
worth_returned p.OperandType input e = worth_some input
worth_returned p.QualifiedPlain input e = worth_some input
worth_returned p.QualifiedFunction input e = worth_some input
worth_returned p.PropertyType input e = worth_some input
worth_returned p.ConstructorName input e = worth_some input
worth_returned p.DeclaredName input e = worth_some input
worth_returned pattern i.TouchingGreater e = worth_top pattern
worth_returned _ _ e = absurd (false≢true e)

worth_accepted : (pattern : Pattern) (input : Input) → accepts pattern input ≡ true → worth_row pattern ≤ worth input
worth_accepted pattern (i.Token terminal) e = worth_top pattern
worth_accepted pattern (i.Own kind word) e = worth_top pattern
worth_accepted pattern input e = worth_returned pattern input e

least_or : (a b : Bool) (m n w : ℕ) → (a ≡ true → m ≤ w) → (b ≡ true → n ≤ w) → (a || b) ≡ true → min m n ≤ w
least_or true b m n w f g e = let h = f refl in omega (arith, h)
least_or false true m n w f g e = let h = g refl in omega (arith, h)
least_or false false m n w f g e = absurd (false≢true e)

worth_least : (on : List Pattern) (input : Input) → accepts_one on input ≡ true → worth_rows on ≤ worth input
worth_least [] input e = absurd (false≢true e)
worth_least (pattern ∷ on) input e = least_or (accepts pattern input) (accepts_one on input) (worth_row pattern) (worth_rows on) (worth input) (worth_accepted pattern input) (worth_least on input) e

own_or_worth : (own : Bool) (kind : NameKind) (word : ContextualWord) → worth (own_or own kind word) ≡ 10
own_or_worth true kind word = refl
own_or_worth false kind word = refl

own_worth : (vs : List Value) (input : Input) (value : Value) → worth (own_seen vs input value) ≡ worth input
own_worth vs (i.Token (t.Name kind word)) value = own_or_worth (is_own vs value) kind word
own_worth vs input value = refl

cond_worth : (found : Bool) → worth (cond found i.TouchingGreater (i.Token (t.Sign s.Greater))) ≡ 10
cond_worth true = refl
cond_worth false = refl

touching_worth : (vs : List Value) (input : Input) (value : Value) → worth (touching_seen vs input value) ≡ worth input
touching_worth vs (i.Token (t.Sign s.Greater)) value = cond_worth (touches vs value)
touching_worth vs input value = refl

pub seen_worth : (sort : Sort) (vs : List Value) (input : Input) (value : Value) → worth (seen sort vs input value) ≡ worth input
seen_worth o.MemberStart vs input value = own_worth (below (below vs)) input value
seen_worth o.OwnName vs input value = own_worth (below (below (below vs))) input value
seen_worth o.GreaterEnd vs input value = touching_worth vs input value
seen_worth _ vs input value = refl

-- Each row of the table.
all_fall : (sort : Sort) → rows_fall sort (rows sort) ≡ true
all_fall o.OpenParenthesis = refl
all_fall _ = refl

others_fall : (sort : Sort) → otherwise_falls sort (otherwise sort) ≡ true
others_fall o.OpenParenthesis = refl
others_fall _ = refl

pub other_nearer : (sort : Sort) (part : List Symbol) → otherwise sort ≡ Some part → nearer sort part ≡ true
other_nearer sort part e = subst (λ q. otherwise_falls sort q ≡ true) e (others_fall sort)

abbrev RowFalls : Sort → Input → Take → List Symbol → Type 0
RowFalls sort input take.Look part = nearer sort part ≡ true
RowFalls sort input take.Drop part = owed part + credit_of sort < owes sort + worth input
RowFalls sort input take.Keep part = owed part + credit_of sort < owes sort + worth input

paid : (sort : Sort) (on : List Pattern) (input : Input) (part : List Symbol) → accepts_one on input ≡ true → pays sort part (worth_rows on) ≡ true → owed part + credit_of sort < owes sort + worth input
paid sort on input part found e =
    let h = ltb-true _ _ e in
    let w = worth_least on input found in
    omega (arith, h, w)

row_means : (sort : Sort) (on : List Pattern) (input : Input) (how : Take) (part : List Symbol) → accepts_one on input ≡ true → row_falls sort on how part ≡ true → RowFalls sort input how part
row_means sort on input take.Look part found e = e
row_means sort on input take.Drop part found e = paid sort on input part found e
row_means sort on input take.Keep part found e = paid sort on input part found e

picked : (sort : Sort) (one : Row) (all : List Row) (input : Input) (how : Take) (part : List Symbol) (found : Bool) → accepts_one one.on input ≡ found → row_falls sort one.on one.take one.part ≡ true
    → (choose all input ≡ Some (how, part) → RowFalls sort input how part) → cond found (Some (one.take, one.part)) (choose all input) ≡ Some (how, part) → RowFalls sort input how part
picked sort one all input how part true is ok rest e =
    let here : Take × List Symbol = (one.take, one.part) in
    let there : Take × List Symbol = (how, part) in
    let same : here ≡ there = cc e in
    subst (λ q. RowFalls sort input q.0 q.1) same (row_means sort one.on input one.take one.part is ok)
picked sort one all input how part false is ok rest e = rest e

row_falls_at : (sort : Sort) (all : List Row) (input : Input) (how : Take) (part : List Symbol) → rows_fall sort all ≡ true → choose all input ≡ Some (how, part) → RowFalls sort input how part
row_falls_at sort [] input how part ok e = absurd (cc e)
row_falls_at sort (one ∷ all) input how part ok e =
    let p = both _ _ ok in
    picked sort one all input how part (accepts_one one.on input) refl p.0 (row_falls_at sort all input how part p.1) e

abbrev pub TakenFalls : Sort → Input → Taken → Type 0
TakenFalls sort input (looks part) = nearer sort part ≡ true
TakenFalls sort input (drops part) = owed part + credit_of sort < owes sort + worth input
TakenFalls sort input (keeps part) = owed part + credit_of sort < owes sort + worth input
TakenFalls sort input (joins operator part) = owed part + credit_of sort < owes sort + worth input

of_chosen : (sort : Sort) (input : Input) (choice : Option (Take × List Symbol)) (taken : Taken) → ((how : Take) (part : List Symbol) → choice ≡ Some (how, part) → RowFalls sort input how part) → chosen choice ≡ Some taken → TakenFalls sort input taken
of_chosen sort input None taken f e = absurd (cc e)
of_chosen sort input (Some (take.Look, part)) taken f e = let same : looks part ≡ taken = cc e in subst (TakenFalls sort input) same (f take.Look part refl)
of_chosen sort input (Some (take.Drop, part)) taken f e = let same : drops part ≡ taken = cc e in subst (TakenFalls sort input) same (f take.Drop part refl)
of_chosen sort input (Some (take.Keep, part)) taken f e = let same : keeps part ≡ taken = cc e in subst (TakenFalls sort input) same (f take.Keep part refl)

row_taken : (sort : Sort) (input : Input) (taken : Taken) → chosen (choose (rows sort) input) ≡ Some taken → TakenFalls sort input taken
row_taken sort input taken e = of_chosen sort input (choose (rows sort) input) taken (λ how part. row_falls_at sort (rows sort) input how part (all_fall sort)) e

joined : (n : ℕ) (operator : BinaryOperator) (input : Input) (taken : Taken) (found : Bool)
    → cond found (Some (joins operator (Non o.Unary ∷ Non (o.BinaryRest (level operator + 1)) ∷ Act a.MakeBinary ∷ Non (o.BinaryRest n) ∷ []))) None ≡ Some taken → TakenFalls (o.BinaryRest n) input taken
joined n operator input taken true e =
    let part : List Symbol = Non o.Unary ∷ Non (o.BinaryRest (level operator + 1)) ∷ Act a.MakeBinary ∷ Non (o.BinaryRest n) ∷ [] in
    let same : joins operator part ≡ taken = cc e in
    subst (TakenFalls (o.BinaryRest n) input) same (let h = worth_some input in omega (arith, h))
joined n operator input taken false e = absurd (cc e)

operator_falls : (n : ℕ) (found : Option BinaryOperator) (input : Input) (taken : Taken) → operator_or_none n found ≡ Some taken → TakenFalls (o.BinaryRest n) input taken
operator_falls n None input taken e = absurd (cc e)
operator_falls n (Some operator) input taken e = joined n operator input taken (leb n (level operator)) e

binary_falls : (n : ℕ) (input : Input) (taken : Taken) → binary n input ≡ Some taken → TakenFalls (o.BinaryRest n) input taken
binary_falls n (i.Token (t.Sign s.Greater)) taken e =
    let part : List Symbol = Non o.GreaterEnd ∷ Non (o.BinaryRest n) ∷ [] in
    let same : keeps part ≡ taken = cc e in
    subst (TakenFalls (o.BinaryRest n) (i.Token (t.Sign s.Greater))) same (omega arith)
binary_falls n input taken e = operator_falls n (operator input) input taken e

pub begins_falls : (sort : Sort) (input : Input) (taken : Taken) → begins sort input ≡ Some taken → TakenFalls sort input taken
begins_falls (o.BinaryRest n) input taken e = binary_falls n input taken e
begins_falls sort input taken e = row_taken sort input taken e
