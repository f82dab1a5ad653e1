-- What the symbols that are expected keep true of each other: what is put back is taken, an operand is followed by operators.
use Rattle.std.proofs.Common.{◌≡◌, refl, sym, ap, subst, true≢false, ℕ, ◌+◌, List, [], ◌∷◌, ◌++◌, Option, Some, None, Bool, true, false, cond, ◌||◌, ◌&&◌, leb}
use Rattle.std.specs.Prelude.{not}
use Rattle.cc_tree.specs.declared.terminal.Terminal.TheVariants as t
use Rattle.cc_tree.specs.declared.terminal.Sign.TheVariants as s
use Rattle.cc_tree.specs.declared.expression.BinaryOperator.{BinaryOperator}
use Rattle.cc_tree.specs.Operators.{level}
use Rattle.cc_table.specs.declared.symbols.Sort.{Sort}
use Rattle.cc_table.specs.declared.symbols.Sort.TheVariants as o
use Rattle.cc_table.specs.declared.symbols.Action.TheVariants as a
use Rattle.cc_table.specs.declared.symbols.Input.{Input}
use Rattle.cc_table.specs.declared.symbols.Input.TheVariants as i
use Rattle.cc_table.specs.declared.symbols.Symbol.{Symbol}
use Rattle.cc_table.specs.declared.symbols.Symbol.TheVariants.{Non, Act, Back}
use Rattle.cc_table.specs.declared.symbols.Take.{Take}
use Rattle.cc_table.specs.declared.symbols.Take.TheVariants as take
use Rattle.cc_table.specs.Choice.{Row, accepts_one, choose}
use Rattle.cc_table.specs.Table.{rows, otherwise}
use Rattle.cc_pushdown.specs.declared.value.Value.{Value}
use Rattle.cc_pushdown.specs.Machine.{Fed, fed, Config, At, Bad, Done, Taken, looks, drops, keeps, joins, chosen, binary, operator, operator_or_none, begins, seen, lack, put, step, Comes, here, on}

-- How the least tokens of a part begin: with an operator or a label, with something else, or perhaps with what follows the part.
pub data Start : Type 0 where
  rough : Start
  calm : Start
  thin : Start

abbrev pub starts : Sort → Start
starts o.OpenParenthesis = calm
starts o.CloseParenthesis = calm
starts o.OpenBrace = calm
starts o.OpenBracket = calm
starts o.CloseBracket = calm
starts o.CloseBrace = calm
starts o.Less = rough
starts o.Greater = rough
starts o.Colon = calm
starts o.Semicolon = calm
starts o.Scope = calm
starts o.NamespaceWord = calm
starts o.WhileWord = calm
starts o.InWord = calm
starts o.KeptOpenParenthesis = calm
starts o.KeptCloseParenthesis = calm
starts o.KeptCloseBrace = calm
starts o.KeptCloseBracket = calm
starts o.KeptSemicolon = calm
starts o.KeptColon = calm
starts o.KeptGreater = rough
starts o.KeptLess = rough
starts o.OwnName = rough
starts o.TypeOrName = rough
starts o.NameEnd = rough
starts o.FunctionNameEnd = rough
starts o.PathRest = rough
starts o.CoreEnd = rough
starts o.GreaterEnd = rough
starts o.Operand = rough
starts o.NameTypes = rough
starts o.CastOrGroup = rough
starts o.MemberTypes = rough
starts o.NewTypes = rough
starts o.LocalOrExpression = rough
starts o.LocalOrExpressionStart = rough
starts o.Label = rough
starts o.OwnTypeEnd = rough
starts o.OwnNamespaceEnd = rough
starts o.OwnPropertyTypeEnd = rough
starts o.OwnPropertyNamespaceEnd = rough
starts o.TypeOrProperty = rough
starts o.PropertyOrType = rough
starts o.PropertyTypeOrName = rough
starts o.PropertyOrNamespace = rough
starts o.MemberRest = rough
starts o.StaticMember = rough
starts o.VirtualMember = rough
starts _ = thin

abbrev pub begun : Start → Bool → Bool
begun rough behind = false
begun calm behind = true
begun thin behind = behind

-- The least tokens begin with no operator and no label.
abbrev pub mild_one : Symbol → Bool → Bool
mild_one (Non sort) behind = begun (starts sort) behind
mild_one (Act action) behind = behind
mild_one (Back input) behind = false

abbrev pub mild_ok : Symbol → Bool → Bool
mild_ok (Non o.Expression) behind = behind
mild_ok (Non o.AfterUnary) behind = behind
mild_ok (Non o.ConditionalRest) behind = behind
mild_ok (Non (o.BinaryRest n)) behind = behind
mild_ok (Non o.Arguments) behind = behind
mild_ok (Non o.MoreExpressions) behind = behind
mild_ok (Non o.Sections) behind = behind
mild_ok (Non o.MoreLabels) behind = behind
mild_ok (Non o.Declarator) behind = behind
mild_ok (Non o.DeclaratorRest) behind = behind
mild_ok (Non o.DeclaratorValue) behind = behind
mild_ok (Non o.MoreDeclarators) behind = behind
mild_ok _ behind = true

-- An operator that compares may go on.
abbrev pub goes_one : Symbol → Bool → Bool
goes_one (Non o.SuffixRest) behind = behind
goes_one (Non o.AfterUnary) behind = true
goes_one (Non (o.BinaryRest n)) behind = leb n 7 || behind
goes_one (Act action) behind = behind
goes_one _ behind = false

abbrev pub goes_ok : Symbol → Bool → Bool
goes_ok (Non o.GreaterEnd) behind = behind
goes_ok (Non o.Unary) behind = behind
goes_ok (Non o.Operand) behind = behind
goes_ok (Non o.FunctionNameRest) behind = behind
goes_ok (Non o.AfterNameLess) behind = behind
goes_ok (Non o.NameTypes) behind = behind
goes_ok (Non o.AfterParenthesis) behind = behind
goes_ok (Non o.CastOrGroup) behind = behind
goes_ok (Non o.SuffixRest) behind = behind
goes_ok (Non o.Selected) behind = behind
goes_ok (Non o.FunctionMemberRest) behind = behind
goes_ok (Non o.AfterMemberLess) behind = behind
goes_ok (Non o.MemberTypes) behind = behind
goes_ok (Non o.NewName) behind = behind
goes_ok (Non o.NewPath) behind = behind
goes_ok (Non o.NewTypeRest) behind = behind
goes_ok (Non o.AfterNewLess) behind = behind
goes_ok (Non o.NewTypes) behind = behind
goes_ok (Non (o.BinaryRest n)) behind = leb n 7 || behind
goes_ok (Back i.ShiftRight) behind = behind
goes_ok (Back i.RelationalGreater) behind = behind
goes_ok (Back (i.Token (t.Sign s.Less))) behind = behind
goes_ok (Back (i.Token _)) behind = false
goes_ok (Back (i.Own kind word)) behind = false
goes_ok (Back i.TouchingGreater) behind = false
goes_ok _ behind = true

-- What takes an input that was put back.
pub data Head : Type 0 where
  other : Head
  takes : Head
  member : Head
  own : Head
  core : Head
  named : Head
  declared : Head
  first : Head

abbrev pub after_core : Head → Head
after_core member = core
after_core own = core
after_core _ = other

abbrev pub after_named : Head → Head
after_named core = named
after_named _ = other

abbrev pub after_path : Head → Head
after_path named = declared
after_path _ = other

abbrev pub head_one : Symbol → Head → Head
head_one (Non o.Operand) behind = takes
head_one (Non o.NameTypes) behind = takes
head_one (Non o.CastOrGroup) behind = takes
head_one (Non o.MemberTypes) behind = takes
head_one (Non o.NewTypes) behind = takes
head_one (Non o.LocalOrExpression) behind = takes
head_one (Non o.LocalOrExpressionStart) behind = takes
head_one (Non o.StaticMember) behind = member
head_one (Non o.VirtualMember) behind = member
head_one (Non o.MemberRest) behind = own
head_one (Non o.OwnName) behind = first
head_one (Back i.CoreType) behind = after_core behind
head_one (Act a.MakeNamed) behind = after_named behind
head_one (Act a.StartPath) behind = after_path behind
head_one _ behind = other

abbrev pub is_takes : Head → Bool
is_takes takes = true
is_takes _ = false

abbrev pub is_member : Head → Bool
is_member member = true
is_member own = true
is_member _ = false

abbrev pub is_own : Head → Bool
is_own own = true
is_own _ = false

abbrev pub is_declared : Head → Bool
is_declared declared = true
is_declared _ = false

abbrev pub not_first : Head → Bool
not_first first = false
not_first _ = true

abbrev pub head_ok : Symbol → Head → Bool
head_ok (Non o.TypeOrName) behind = is_takes behind
head_ok (Non o.NameEnd) behind = is_takes behind
head_ok (Non o.FunctionNameEnd) behind = is_takes behind
head_ok (Non o.PathRest) behind = is_takes behind
head_ok (Non o.CoreEnd) behind = is_takes behind
head_ok (Non o.TypeOrProperty) behind = is_member behind
head_ok (Non o.PropertyOrType) behind = is_member behind
head_ok (Non o.PropertyTypeOrName) behind = is_member behind
head_ok (Non o.PropertyOrNamespace) behind = is_member behind
head_ok (Non o.OwnTypeEnd) behind = is_own behind
head_ok (Non o.OwnNamespaceEnd) behind = is_own behind
head_ok (Non o.OwnPropertyTypeEnd) behind = is_own behind
head_ok (Non o.OwnPropertyNamespaceEnd) behind = is_own behind
head_ok (Back i.CoreType) behind = is_takes behind || is_member behind
head_ok (Back i.OperandType) behind = is_takes behind
head_ok (Back i.QualifiedPlain) behind = is_takes behind
head_ok (Back i.QualifiedFunction) behind = is_takes behind
head_ok (Back i.PropertyType) behind = is_member behind
head_ok (Back i.ConstructorName) behind = is_own behind
head_ok (Back i.DeclaredName) behind = is_declared behind
head_ok _ behind = not_first behind

abbrev pub Both : Bool → Bool → Type 0
Both p q = (p ≡ true) × (q ≡ true)

pub both : (p q : Bool) → (p && q) ≡ true → Both p q
both true q h = (refl, h)
both false q h = absurd (true≢false (sym h))

pub and_true : (p q : Bool) → p ≡ true → q ≡ true → (p && q) ≡ true
and_true true q h k = k
and_true false q h k = absurd (true≢false (sym h))

implied : (p q : Bool) → (not p || q) ≡ true → p ≡ true → q ≡ true
implied true q h k = h
implied false q h k = absurd (true≢false (sym k))

-- A property of lists of symbols that the table keeps.
module _ {State : Type 0} (one : Symbol → State → State) (ok : Symbol → State → Bool) where
  abbrev pub ahead : List Symbol → State → State
  ahead [] behind = behind
  ahead (symbol ∷ part) behind = one symbol (ahead part behind)

  abbrev pub well : List Symbol → State → Bool
  well [] behind = true
  well (symbol ∷ part) behind = ok symbol (ahead part behind) && well part behind

  ahead_append : (part more : List Symbol) (behind : State) → ahead (part ++ more) behind ≡ ahead part (ahead more behind)
  ahead_append [] more behind = refl
  ahead_append (symbol ∷ part) more behind = ap (λ q. one symbol q) (ahead_append part more behind)

  well_append : (part more : List Symbol) (behind : State) → well part (ahead more behind) ≡ true → well more behind ≡ true → well (part ++ more) behind ≡ true
  well_append [] more behind h k = k
  well_append (symbol ∷ part) more behind h k =
      let two = both (ok symbol (ahead part (ahead more behind))) (well part (ahead more behind)) h in
      and_true _ _ (subst (λ q. ok symbol q ≡ true) (sym (ahead_append part more behind)) two.0) (well_append part more behind two.1 k)

  abbrev pub every : List Row → State → Bool
  every [] behind = true
  every (row ∷ table) behind = well row.part behind && every table behind

  abbrev pub otherwise_well : Option (List Symbol) → State → Bool
  otherwise_well None behind = true
  otherwise_well (Some part) behind = well part behind

  -- each part of a sort is well where the sort was
  abbrev pub fits : Sort → State → Bool
  fits sort behind = not (ok (Non sort) behind) || (every (rows sort) behind && otherwise_well (otherwise sort) behind)

  abbrev pub TakenWell : Option Taken → State → Type 0
  TakenWell None behind = Unit {0}
  TakenWell (Some (looks part)) behind = well part behind ≡ true
  TakenWell (Some (drops part)) behind = well part behind ≡ true
  TakenWell (Some (keeps part)) behind = well part behind ≡ true
  TakenWell (Some (joins operator part)) behind = well part behind ≡ true

  taken_well : (how : Take) (part : List Symbol) (behind : State) → well part behind ≡ true → TakenWell (chosen (Some (how, part))) behind
  taken_well take.Look part behind h = h
  taken_well take.Drop part behind h = h
  taken_well take.Keep part behind h = h

  chosen_well : (table : List Row) (input : Input) (behind : State) → every table behind ≡ true → TakenWell (chosen (choose table input)) behind
  chosen_well [] input behind h = tt
  chosen_well (row ∷ table) input behind h =
      let two = both (well row.part behind) (every table behind) h in
      go (accepts_one row.on input) two.0 (chosen_well table input behind two.1)
    where
      go : (test : Bool) → well row.part behind ≡ true → TakenWell (chosen (choose table input)) behind → TakenWell (chosen (cond test (Some (row.take, row.part)) (choose table input))) behind
      go true h deeper = taken_well row.take row.part behind h
      go false h deeper = deeper

  module _ (checked : (sort : Sort) (behind : State) → fits sort behind ≡ true)
      (greater_checked : (n : ℕ) (behind : State) → ok (Non (o.BinaryRest n)) behind ≡ true → well (Non o.GreaterEnd ∷ Non (o.BinaryRest n) ∷ []) behind ≡ true)
      (joined_checked : (n level : ℕ) (behind : State) → ok (Non (o.BinaryRest n)) behind ≡ true → well (Non o.Unary ∷ Non (o.BinaryRest level) ∷ Act a.MakeBinary ∷ Non (o.BinaryRest n) ∷ []) behind ≡ true) where
    operator_well : (n : ℕ) (of : Option BinaryOperator) (behind : State) → ok (Non (o.BinaryRest n)) behind ≡ true → TakenWell (operator_or_none n of) behind
    operator_well n None behind h = tt
    operator_well n (Some of) behind h = go (leb n (level of))
      where
        go : (test : Bool) → TakenWell (cond test (Some (joins of (Non o.Unary ∷ Non (o.BinaryRest (level of + 1)) ∷ Act a.MakeBinary ∷ Non (o.BinaryRest n) ∷ []))) None) behind
        go true = joined_checked n (level of + 1) behind h
        go false = tt

    binary_well : (n : ℕ) (input : Input) (behind : State) → ok (Non (o.BinaryRest n)) behind ≡ true → TakenWell (binary n input) behind
    binary_well n (i.Token (t.Sign s.Greater)) behind h = greater_checked n behind h
    binary_well n input behind h = operator_well n (operator input) behind h

    begins_well : (sort : Sort) (input : Input) (behind : State) → ok (Non sort) behind ≡ true → TakenWell (begins sort input) behind
    begins_well (o.BinaryRest n) input behind h = binary_well n input behind h
    begins_well sort input behind h = chosen_well (rows sort) input behind
        (both (every (rows sort) behind) (otherwise_well (otherwise sort) behind) (implied (ok (Non sort) behind) (every (rows sort) behind && otherwise_well (otherwise sort) behind) (checked sort behind) h)).0

    module _ (end : State) where
      abbrev pub Kept : Config → Type 0
      Kept (At more vs fs) = well more end ≡ true
      Kept (Bad fs) = Unit {0}
      Kept (Done vs) = Unit {0}

      lack_kept : (part : Option (List Symbol)) (more : List Symbol) (vs : List Value) (fs : List Fed) → otherwise_well part (ahead more end) ≡ true → well more end ≡ true → Kept (lack part more vs fs)
      lack_kept None more vs fs h k = tt
      lack_kept (Some part) more vs fs h k = well_append part more end h k

      put_kept : (of : Option Taken) (sort : Sort) (more : List Symbol) (vs : List Value) (input : Input) (value : Value) (fs : List Fed)
          → TakenWell of (ahead more end) → otherwise_well (otherwise sort) (ahead more end) ≡ true → well more end ≡ true → Kept (put of sort more vs input value fs)
      put_kept None sort more vs input value fs h u k = lack_kept (otherwise sort) more vs (fed input value ∷ fs) u k
      put_kept (Some (looks part)) sort more vs input value fs h u k = well_append part more end h k
      put_kept (Some (drops part)) sort more vs input value fs h u k = well_append part more end h k
      put_kept (Some (keeps part)) sort more vs input value fs h u k = well_append part more end h k
      put_kept (Some (joins operator part)) sort more vs input value fs h u k = well_append part more end h k

      otherwise_fits : (sort : Sort) (behind : State) → ok (Non sort) behind ≡ true → otherwise_well (otherwise sort) behind ≡ true
      otherwise_fits sort behind h = (both (every (rows sort) behind) (otherwise_well (otherwise sort) behind) (implied (ok (Non sort) behind) (every (rows sort) behind && otherwise_well (otherwise sort) behind) (checked sort behind) h)).1

      step_kept : (c : Config) → Kept c → Kept (step c)
      step_kept (At [] vs []) h = tt
      step_kept (At [] vs (one ∷ fs)) h = tt
      step_kept (At (Act action ∷ more) vs fs) h = (both (ok (Act action) (ahead more end)) (well more end) h).1
      step_kept (At (Back input ∷ more) vs fs) h = (both (ok (Back input) (ahead more end)) (well more end) h).1
      step_kept (At (Non sort ∷ more) vs []) h =
          let two = both (ok (Non sort) (ahead more end)) (well more end) h in lack_kept (otherwise sort) more vs [] (otherwise_fits sort (ahead more end) two.0) two.1
      step_kept (At (Non sort ∷ more) vs (fed input value ∷ fs)) h =
          let two = both (ok (Non sort) (ahead more end)) (well more end) h in
          put_kept (begins sort (seen sort vs input value)) sort more vs input value fs (begins_well sort (seen sort vs input value) (ahead more end) two.0) (otherwise_fits sort (ahead more end) two.0) two.1
      step_kept (Bad fs) h = tt
      step_kept (Done vs) h = tt

      pub comes_kept : {c d : Config} → Comes c d → Kept c → Kept d
      comes_kept here h = h
      comes_kept {c = c} (on p) h = comes_kept p (step_kept c h)

-- The table keeps all three.
mild_fits : (sort : Sort) (behind : Bool) → fits mild_one mild_ok sort behind ≡ true
mild_fits o.OpenParenthesis true = refl
mild_fits o.OpenParenthesis false = refl
mild_fits _ true = refl
mild_fits _ false = refl

goes_fits : (sort : Sort) (behind : Bool) → fits goes_one goes_ok sort behind ≡ true
goes_fits (o.BinaryRest n) behind = binary (leb n 7) behind
  where
    binary : (p q : Bool) → (not (p || q) || true) ≡ true
    binary true q = refl
    binary false true = refl
    binary false false = refl
goes_fits o.OpenParenthesis true = refl
goes_fits o.OpenParenthesis false = refl
goes_fits _ true = refl
goes_fits _ false = refl

abbrev fits_each : Sort → Bool
fits_each sort = fits head_one head_ok sort other && (fits head_one head_ok sort takes && (fits head_one head_ok sort member && (fits head_one head_ok sort own
    && (fits head_one head_ok sort core && (fits head_one head_ok sort named && (fits head_one head_ok sort declared && fits head_one head_ok sort first))))))

each_fits : (sort : Sort) → fits_each sort ≡ true
each_fits o.OpenParenthesis = refl
each_fits _ = refl

one_of : (a b c d e f g h : Bool) → (a && (b && (c && (d && (e && (f && (g && h))))))) ≡ true → Both a b × Both c d × Both e f × Both g h
one_of a b c d e f g h p =
    let p1 = both a (b && (c && (d && (e && (f && (g && h)))))) p in
    let p2 = both b (c && (d && (e && (f && (g && h))))) p1.1 in
    let p3 = both c (d && (e && (f && (g && h)))) p2.1 in
    let p4 = both d (e && (f && (g && h))) p3.1 in
    let p5 = both e (f && (g && h)) p4.1 in
    let p6 = both f (g && h) p5.1 in
    let p7 = both g h p6.1 in
    ((p1.0, p2.0), (p3.0, p4.0), (p5.0, p6.0), (p7.0, p7.1))

head_fits : (sort : Sort) (behind : Head) → fits head_one head_ok sort behind ≡ true
head_fits sort behind = go behind (one_of (fits head_one head_ok sort other) (fits head_one head_ok sort takes) (fits head_one head_ok sort member) (fits head_one head_ok sort own)
    (fits head_one head_ok sort core) (fits head_one head_ok sort named) (fits head_one head_ok sort declared) (fits head_one head_ok sort first) (each_fits sort))
  where
    go : (behind : Head) → Both (fits head_one head_ok sort other) (fits head_one head_ok sort takes) × Both (fits head_one head_ok sort member) (fits head_one head_ok sort own)
        × Both (fits head_one head_ok sort core) (fits head_one head_ok sort named) × Both (fits head_one head_ok sort declared) (fits head_one head_ok sort first) → fits head_one head_ok sort behind ≡ true
    go other p = p.0.0
    go takes p = p.0.1
    go member p = p.1.0
    go own p = p.1.1
    go core p = p.2.0
    go named p = p.2.1
    go declared p = p.3.0
    go first p = p.3.1

or_true : (p q : Bool) → q ≡ true → (p || q) ≡ true
or_true true q h = refl
or_true false q h = h

mild_greater : (n : ℕ) (behind : Bool) → mild_ok (Non (o.BinaryRest n)) behind ≡ true → well mild_one mild_ok (Non o.GreaterEnd ∷ Non (o.BinaryRest n) ∷ []) behind ≡ true
mild_greater n behind h = and_true _ _ h refl

mild_joined : (n other_level : ℕ) (behind : Bool) → mild_ok (Non (o.BinaryRest n)) behind ≡ true → well mild_one mild_ok (Non o.Unary ∷ Non (o.BinaryRest other_level) ∷ Act a.MakeBinary ∷ Non (o.BinaryRest n) ∷ []) behind ≡ true
mild_joined n other_level behind h = and_true _ _ h (and_true _ _ h refl)

goes_greater : (n : ℕ) (behind : Bool) → goes_ok (Non (o.BinaryRest n)) behind ≡ true → well goes_one goes_ok (Non o.GreaterEnd ∷ Non (o.BinaryRest n) ∷ []) behind ≡ true
goes_greater n behind h = and_true _ _ h (and_true _ _ h refl)

goes_joined : (n other_level : ℕ) (behind : Bool) → goes_ok (Non (o.BinaryRest n)) behind ≡ true → well goes_one goes_ok (Non o.Unary ∷ Non (o.BinaryRest other_level) ∷ Act a.MakeBinary ∷ Non (o.BinaryRest n) ∷ []) behind ≡ true
goes_joined n other_level behind h = and_true _ _ (or_true (leb other_level 7) (leb n 7 || behind) h) (and_true _ _ (or_true (leb other_level 7) (leb n 7 || behind) h) (and_true _ _ h refl))

head_greater : (n : ℕ) (behind : Head) → head_ok (Non (o.BinaryRest n)) behind ≡ true → well head_one head_ok (Non o.GreaterEnd ∷ Non (o.BinaryRest n) ∷ []) behind ≡ true
head_greater n behind h = and_true _ _ h refl

head_joined : (n other_level : ℕ) (behind : Head) → head_ok (Non (o.BinaryRest n)) behind ≡ true → well head_one head_ok (Non o.Unary ∷ Non (o.BinaryRest other_level) ∷ Act a.MakeBinary ∷ Non (o.BinaryRest n) ∷ []) behind ≡ true
head_joined n other_level behind h = and_true _ _ h refl

abbrev pub mild : List Symbol → Bool
mild more = ahead mild_one mild_ok more true

abbrev pub goes : List Symbol → Bool
goes more = ahead goes_one goes_ok more false

abbrev pub head : List Symbol → Head
head more = ahead head_one head_ok more other

-- All three hold of what is expected.
abbrev pub Formed : List Symbol → Type 0
Formed more = (well mild_one mild_ok more true ≡ true) × (well goes_one goes_ok more false ≡ true) × (well head_one head_ok more other ≡ true)

pub stays_formed : {more others : List Symbol} {vs ws : List Value} {fs gs : List Fed} → Comes (At more vs fs) (At others ws gs) → Formed more → Formed others
stays_formed p (m, g, h) = (
  comes_kept mild_one mild_ok mild_fits mild_greater mild_joined true p m,
  comes_kept goes_one goes_ok goes_fits goes_greater goes_joined false p g,
  comes_kept head_one head_ok head_fits head_greater head_joined other p h,
)

-- What holds of what is behind the first symbol.
pub behind_formed : (symbol : Symbol) (more : List Symbol) → Formed (symbol ∷ more) → Formed more
behind_formed symbol more (m, g, h) = (
  (both (mild_ok symbol (mild more)) (well mild_one mild_ok more true) m).1,
  (both (goes_ok symbol (goes more)) (well goes_one goes_ok more false) g).1,
  (both (head_ok symbol (head more)) (well head_one head_ok more other) h).1,
)

pub formed_ok : (symbol : Symbol) (more : List Symbol) → Formed (symbol ∷ more) → (mild_ok symbol (mild more) ≡ true) × (goes_ok symbol (goes more) ≡ true) × (head_ok symbol (head more) ≡ true)
formed_ok symbol more (m, g, h) = (
  (both (mild_ok symbol (mild more)) (well mild_one mild_ok more true) m).0,
  (both (goes_ok symbol (goes more)) (well goes_one goes_ok more false) g).0,
  (both (head_ok symbol (head more)) (well head_one head_ok more other) h).0,
)

pub start_formed : Formed (Act a.StartOuters ∷ Non o.UnitRest ∷ Act a.MakeUnit ∷ [])
start_formed = (refl, refl, refl)
