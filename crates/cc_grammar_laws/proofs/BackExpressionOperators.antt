-- Backwards over what the automaton does at the operators of an expression.
use Rattle.std.proofs.Common.{◌≡◌, ap, ◌∙◌, sym, subst, refl, List, [], ◌∷◌, ◌⊎◌, inl, inr, ℕ, ◌≤◌, ◌<◌, ◌+◌, arith}
use Rattle.std.specs.Prelude.{Option, Some, None, Bool, true, false, cond, leb, nat_eq}
use Rattle.std.proofs.lemmas.Bool.Decides.{leb_tells}
use Rattle.cc_base.specs.declared.text.Span.{Span}
use Rattle.cc_tree.specs.declared.token.Token.{Token}
use Rattle.cc_tree.specs.declared.terminal.Terminal.TheVariants as t
use Rattle.cc_tree.specs.declared.terminal.Sign.{Sign}
use Rattle.cc_tree.specs.declared.terminal.Sign.TheVariants as s
use Rattle.cc_tree.specs.declared.expression.Expression.{Expression}
use Rattle.cc_tree.specs.declared.expression.BinaryOperator.{BinaryOperator}
use Rattle.cc_tree.specs.declared.expression.BinaryOperator.TheVariants as b
use Rattle.cc_tree.specs.Terminals.{Classified, at}
use Rattle.cc_tree.specs.Operators as op
use Rattle.cc_tree.specs.Operators.{assignment_operator, binary_operator, level, ReadsOperator}
use Rattle.cc_tree.specs.GrammarExpressions as x
use Rattle.cc_tree.specs.GrammarExpressions.{ReadsBinary}
use Rattle.cc_table.specs.declared.symbols.Sort.TheVariants as o
use Rattle.cc_table.specs.declared.symbols.Action.TheVariants as a
use Rattle.cc_table.specs.declared.symbols.Input.{Input}
use Rattle.cc_table.specs.declared.symbols.Input.TheVariants as i
use Rattle.cc_table.specs.declared.symbols.Symbol.{Symbol}
use Rattle.cc_table.specs.declared.symbols.Symbol.TheVariants.{Non, Act, Back}
use Rattle.cc_table.specs.Table.{otherwise}
use Rattle.cc_pushdown.specs.declared.value.Node.{Node}
use Rattle.cc_pushdown.specs.declared.value.Value.{Value}
use Rattle.cc_pushdown.specs.declared.value.Value.TheVariants as v
use Rattle.cc_pushdown.specs.Values.{top_mark}
use Rattle.cc_pushdown.specs.Words.{assignment_of}
use Rattle.cc_pushdown.specs.Machine.{Fed, fed, Config, At, Taken, joins, put, lack, step, begins, operator_or_none}
use Rattle.cc_grammar_laws.proofs.Starts.{NotGreater, not_some}
use Rattle.cc_grammar_laws.proofs.BetweenOperands.{some_same}
use Rattle.cc_grammar_laws.proofs.Stands.{Fitting, Stands, Ahead, token}
use Rattle.cc_grammar_laws.proofs.TypeParts.{takes, mark}
use Rattle.cc_grammar_laws.proofs.ExpressionParts.{Stops}
use Rattle.cc_grammar_laws.proofs.Means.{Settled, Means, Meaning, after}
use Rattle.cc_grammar_laws.proofs.Owed.{at_input}
use Rattle.cc_grammar_laws.proofs.BackExpressionFirsts.{unary_first, worded_core, worded_qualified, worded_property, worded_declared, worded_stops, sign_only, shift_tight, SecondNotGreater, greater_loose, behind_greater, levels, always, unsigned_stops}

-- An operator that takes a looser operand on its left takes a tighter one.
lower : {n m : ℕ} {one : Expression} {span : Span} {ts rest : List Classified} → n ≤ m → ReadsBinary m one span ts rest → ReadsBinary n one span ts rest
lower h (x.joined l p q r) = x.joined (omega (h, l, arith)) p q r
lower h (x.unary p) = x.unary p

-- What is known of a `>` that begins no shift, where the rest of an expression is expected: no second `>` follows.
abbrev pub Claim : Config → Type 0
Claim (At more vs (fed i.RelationalGreater value ∷ fs)) = Settled more → (ts : List Classified) → Stands (fed i.RelationalGreater value ∷ fs) ts → SecondNotGreater ts
Claim _ = Unit {0}

abbrev Joined : ℕ → BinaryOperator → Taken
Joined n operator = joins operator (Non o.Unary ∷ Non (o.BinaryRest (level operator + 1)) ∷ Act a.MakeBinary ∷ Non (o.BinaryRest n) ∷ [])

abbrev Chosen : Bool → ℕ → BinaryOperator → List Symbol → List Value → Input → Value → List Fed → Config
Chosen taken n operator more vs input value fs = put (cond taken (Some (Joined n operator)) None) (o.BinaryRest n) more vs input value fs

-- whether an operator is as tight as the level
abbrev Tells : ℕ → ℕ → Type 0
Tells n l = ((leb n l ≡ true) × (n ≤ l)) ⊎ ((leb n l ≡ false) × (l < n))

abbrev Operators : ℕ → List Symbol → Node Expression → List Value → Input → Value → List Fed → Option BinaryOperator → Config
Operators n more left vs input value fs found = put (operator_or_none n found) (o.BinaryRest n) more (v.Expression left ∷ vs) input value fs

module _ (last : List Value) where
  expression_row : (more : List Symbol) (vs : List Value) (ts : List Classified) → Means last (Non o.Unary ∷ Non o.AfterUnary ∷ more) vs ts → Means last (Non o.Expression ∷ more) vs ts
  expression_row more vs ts (one, span, us, p, (all, whole, rest, q, m)) = (all, whole, rest, q ts p, m)

  pub back_Expression : (more : List Symbol) (vs : List Value) (input : Input) (value : Value) (fs : List Fed) → Meaning last (step (At (Non o.Expression ∷ more) vs (fed input value ∷ fs))) → Meaning last (At (Non o.Expression ∷ more) vs (fed input value ∷ fs))
  back_Expression more vs i.ConstructorName value fs e ts h = tt
  back_Expression more vs input value fs e ts h = expression_row more vs ts (e ts h)

  pub end_Expression : (more : List Symbol) (vs : List Value) → Meaning last (lack (otherwise o.Expression) more vs []) → Meaning last (At (Non o.Expression ∷ more) vs [])
  end_Expression more vs e ts h = expression_row more vs ts (e ts h)

  assign_row : (more : List Symbol) (left : Node Expression) (vs : List Value) (sign : Sign) (k : Token) (ts : List Classified) → assignment_operator sign ≡ Some (assignment_of (t.Sign sign))
      → Means last (Non o.Expression ∷ Act a.MakeAssignment ∷ more) (mark (t.Sign sign) k.span ∷ v.Expression left ∷ vs) ts → Means last (Non o.AfterUnary ∷ more) (v.Expression left ∷ vs) (at (t.Sign sign) k ∷ ts)
  assign_row more left vs sign k ts same (right, second, rest, p, m) = (_, _, rest, (λ us q. x.assign q same p), m)

  operators_row : (more : List Symbol) (left : Node Expression) (vs : List Value) (ts : List Classified) → Means last (Non (o.BinaryRest 1) ∷ Non o.ConditionalRest ∷ more) (v.Expression left ∷ vs) ts → Means last (Non o.AfterUnary ∷ more) (v.Expression left ∷ vs) ts
  operators_row more left vs ts m =
      let (one, span, us, p, stops, (all, whole, rest, q, done)) = m (inl (omega arith)) in (all, whole, rest, (λ ws r. q ws (p ws 11 (omega arith) (always ts) (x.unary r))), done)

  choice_row : (more : List Symbol) (left : Node Expression) (vs : List Value) (k : Token) (ts : List Classified) → Means last (Non o.Expression ∷ Non o.Colon ∷ Non o.Expression ∷ Act a.MakeConditional ∷ more) (v.Expression left ∷ vs) ts
      → Means last (Non o.ConditionalRest ∷ more) (v.Expression left ∷ vs) (at (t.Sign s.Question) k ∷ ts)
  choice_row more left vs k ts (chosen, second, us, p, (colon, ws, takes, (other, third, rest, q, m))) = (_, _, rest, (λ xs r. x.conditional (x.choice r p q)), m)

  operator_row : (n : ℕ) (operator : BinaryOperator) (more : List Symbol) (left : Node Expression) (vs : List Value) (us ts : List Classified) → n ≤ level operator → ReadsOperator operator us ts
      → Means last (Non o.Unary ∷ Non (o.BinaryRest (level operator + 1)) ∷ Act a.MakeBinary ∷ Non (o.BinaryRest n) ∷ more) (v.Operator operator ∷ v.Expression left ∷ vs) ts → Means last (Non (o.BinaryRest n) ∷ more) (v.Expression left ∷ vs) us
  operator_row n operator more left vs us ts low p (first, span, ws, q, m) = λ settled.
      let (right, second, xs, r, stops, behind) = m (inr settled) in
      let (all, whole, rest, join, ends, done) = behind settled in (
        all,
        whole,
        rest,
        (λ begin b bound tight before. join begin (level operator) low stops
            (x.joined (omega arith) (lower (omega (tight operator ts p, arith)) before) p (r ts 11 (omega (levels operator, arith)) (always ws) (x.unary q)))),
        ends,
        done,
      )

  no_operator : (n : ℕ) (more : List Symbol) (left : Node Expression) (vs : List Value) (ts : List Classified) → Stops n ts → Means last more (v.Expression left ∷ vs) ts → Means last (Non (o.BinaryRest n) ∷ more) (v.Expression left ∷ vs) ts
  no_operator n more left vs ts stops m = λ settled. (left.tree, left.span, ts, (λ us b bound tight p. lower bound p), stops, m)

  -- at an operator, which is taken if it is tight enough
  choose_row : (n : ℕ) (operator : BinaryOperator) (more : List Symbol) (left : Node Expression) (vs : List Value) (input : Input) (value : Value) (fs : List Fed) (ts rest : List Classified) → Tells n (level operator)
      → ReadsOperator operator ts rest → Ahead fs rest → (level operator < n → Claim (At more (v.Expression left ∷ vs) (fed input value ∷ fs)) → Stops n ts)
      → (Meaning last (At more (v.Expression left ∷ vs) (fed input value ∷ fs)) → Means last more (v.Expression left ∷ vs) ts)
      → Claim (Chosen (leb n (level operator)) n operator more (v.Expression left ∷ vs) input value fs) → Meaning last (Chosen (leb n (level operator)) n operator more (v.Expression left ∷ vs) input value fs)
      → Means last (Non (o.BinaryRest n) ∷ more) (v.Expression left ∷ vs) ts
  choose_row n operator more left vs input value fs ts rest (inl (same, low)) p h stops pass c e =
      operator_row n operator more left vs ts rest low p
      (after last (Non o.Unary ∷ Non (o.BinaryRest (level operator + 1)) ∷ Act a.MakeBinary ∷ Non (o.BinaryRest n) ∷ more) (v.Operator operator ∷ v.Expression left ∷ vs) fs rest h
      (subst (λ q. Meaning last (Chosen q n operator more (v.Expression left ∷ vs) input value fs)) same e))
  choose_row n operator more left vs input value fs ts rest (inr (same, high)) p h stops pass c e =
      no_operator n more left vs ts (stops high (subst (λ q. Claim (Chosen q n operator more (v.Expression left ∷ vs) input value fs)) same c))
      (pass (subst (λ q. Meaning last (Chosen q n operator more (v.Expression left ∷ vs) input value fs)) same e))

  -- at a sign that is no `>`
  sign_row : (n : ℕ) (more : List Symbol) (left : Node Expression) (vs : List Value) (sign : Sign) (k : Token) (value : Value) (fs : List Fed) (rest : List Classified) → NotGreater (at (t.Sign sign) k ∷ rest) → Ahead fs rest
      → (found : Option BinaryOperator) → binary_operator sign ≡ found
      → (Meaning last (At more (v.Expression left ∷ vs) (fed (i.Token (t.Sign sign)) value ∷ fs)) → Means last more (v.Expression left ∷ vs) (at (t.Sign sign) k ∷ rest))
      → Claim (Operators n more left vs (i.Token (t.Sign sign)) value fs found) → Meaning last (Operators n more left vs (i.Token (t.Sign sign)) value fs found)
      → Means last (Non (o.BinaryRest n) ∷ more) (v.Expression left ∷ vs) (at (t.Sign sign) k ∷ rest)
  sign_row n more left vs sign k value fs rest other h None e pass c m = no_operator n more left vs _ (λ operator us p. absurd (not_some (sym e ∙ sign_only sign k rest other operator us p))) (pass m)
  sign_row n more left vs sign k value fs rest other h (Some found) e pass c m =
      choose_row n found more left vs (i.Token (t.Sign sign)) value fs (at (t.Sign sign) k ∷ rest) rest (leb_tells n (level found)) (op.sign e) h
      (λ high claim operator us p. subst (λ q. level q < n) (some_same (sym e ∙ sign_only sign k rest other operator us p)) high) pass c m

  after_unary : (more : List Symbol) (left : Node Expression) (vs : List Value) (input : Input) (value : Value) (fs : List Fed) → Meaning last (step (At (Non o.AfterUnary ∷ more) (v.Expression left ∷ vs) (fed input value ∷ fs))) → Meaning last (At (Non o.AfterUnary ∷ more) (v.Expression left ∷ vs) (fed input value ∷ fs))
  after_unary more left vs (i.Token (t.Sign s.Assign)) value fs e ts (rest, token {k} fits, h) = assign_row more left vs s.Assign k rest refl (after last (Non o.Expression ∷ Act a.MakeAssignment ∷ more) (mark (t.Sign s.Assign) k.span ∷ v.Expression left ∷ vs) fs rest h e)
  after_unary more left vs (i.Token (t.Sign s.AssignSum)) value fs e ts (rest, token {k} fits, h) = assign_row more left vs s.AssignSum k rest refl (after last (Non o.Expression ∷ Act a.MakeAssignment ∷ more) (mark (t.Sign s.AssignSum) k.span ∷ v.Expression left ∷ vs) fs rest h e)
  after_unary more left vs (i.Token (t.Sign s.AssignDifference)) value fs e ts (rest, token {k} fits, h) = assign_row more left vs s.AssignDifference k rest refl (after last (Non o.Expression ∷ Act a.MakeAssignment ∷ more) (mark (t.Sign s.AssignDifference) k.span ∷ v.Expression left ∷ vs) fs rest h e)
  after_unary more left vs (i.Token (t.Sign s.AssignProduct)) value fs e ts (rest, token {k} fits, h) = assign_row more left vs s.AssignProduct k rest refl (after last (Non o.Expression ∷ Act a.MakeAssignment ∷ more) (mark (t.Sign s.AssignProduct) k.span ∷ v.Expression left ∷ vs) fs rest h e)
  after_unary more left vs (i.Token (t.Sign s.AssignQuotient)) value fs e ts (rest, token {k} fits, h) = assign_row more left vs s.AssignQuotient k rest refl (after last (Non o.Expression ∷ Act a.MakeAssignment ∷ more) (mark (t.Sign s.AssignQuotient) k.span ∷ v.Expression left ∷ vs) fs rest h e)
  after_unary more left vs (i.Token (t.Sign s.AssignRemainder)) value fs e ts (rest, token {k} fits, h) = assign_row more left vs s.AssignRemainder k rest refl (after last (Non o.Expression ∷ Act a.MakeAssignment ∷ more) (mark (t.Sign s.AssignRemainder) k.span ∷ v.Expression left ∷ vs) fs rest h e)
  after_unary more left vs (i.Token (t.Sign s.AssignExclusiveOr)) value fs e ts (rest, token {k} fits, h) = assign_row more left vs s.AssignExclusiveOr k rest refl (after last (Non o.Expression ∷ Act a.MakeAssignment ∷ more) (mark (t.Sign s.AssignExclusiveOr) k.span ∷ v.Expression left ∷ vs) fs rest h e)
  after_unary more left vs (i.Token (t.Sign s.AssignAnd)) value fs e ts (rest, token {k} fits, h) = assign_row more left vs s.AssignAnd k rest refl (after last (Non o.Expression ∷ Act a.MakeAssignment ∷ more) (mark (t.Sign s.AssignAnd) k.span ∷ v.Expression left ∷ vs) fs rest h e)
  after_unary more left vs (i.Token (t.Sign s.AssignOr)) value fs e ts (rest, token {k} fits, h) = assign_row more left vs s.AssignOr k rest refl (after last (Non o.Expression ∷ Act a.MakeAssignment ∷ more) (mark (t.Sign s.AssignOr) k.span ∷ v.Expression left ∷ vs) fs rest h e)
  after_unary more left vs (i.Token (t.Sign s.AssignShiftLeft)) value fs e ts (rest, token {k} fits, h) = assign_row more left vs s.AssignShiftLeft k rest refl (after last (Non o.Expression ∷ Act a.MakeAssignment ∷ more) (mark (t.Sign s.AssignShiftLeft) k.span ∷ v.Expression left ∷ vs) fs rest h e)
  after_unary more left vs (i.Token (t.Sign s.AssignShiftRight)) value fs e ts (rest, token {k} fits, h) = assign_row more left vs s.AssignShiftRight k rest refl (after last (Non o.Expression ∷ Act a.MakeAssignment ∷ more) (mark (t.Sign s.AssignShiftRight) k.span ∷ v.Expression left ∷ vs) fs rest h e)
  after_unary more left vs i.ConstructorName value fs e ts h = tt
  after_unary more left vs input value fs e ts h = operators_row more left vs ts (e ts h)

  pub back_AfterUnary : (more : List Symbol) (vs : List Value) (input : Input) (value : Value) (fs : List Fed) → Meaning last (step (At (Non o.AfterUnary ∷ more) vs (fed input value ∷ fs))) → Meaning last (At (Non o.AfterUnary ∷ more) vs (fed input value ∷ fs))
  back_AfterUnary more (v.Expression left ∷ vs) input value fs e = after_unary more left vs input value fs e
  back_AfterUnary more vs input value fs e = λ ts h. at_input input (Non o.AfterUnary ∷ more) (Means last (Non o.AfterUnary ∷ more)) vs ts tt

  pub end_AfterUnary : (more : List Symbol) (vs : List Value) → Meaning last (lack (otherwise o.AfterUnary) more vs []) → Meaning last (At (Non o.AfterUnary ∷ more) vs [])
  end_AfterUnary more (v.Expression left ∷ vs) e ts h = operators_row more left vs ts (e ts h)
  end_AfterUnary more vs e ts h = tt

  conditional_rest : (more : List Symbol) (left : Node Expression) (vs : List Value) (input : Input) (value : Value) (fs : List Fed) → Meaning last (step (At (Non o.ConditionalRest ∷ more) (v.Expression left ∷ vs) (fed input value ∷ fs))) → Meaning last (At (Non o.ConditionalRest ∷ more) (v.Expression left ∷ vs) (fed input value ∷ fs))
  conditional_rest more left vs (i.Token (t.Sign s.Question)) value fs e ts (rest, token {k} fits, h) = choice_row more left vs k rest (after last (Non o.Expression ∷ Non o.Colon ∷ Non o.Expression ∷ Act a.MakeConditional ∷ more) (v.Expression left ∷ vs) fs rest h e)
  conditional_rest more left vs i.ConstructorName value fs e ts h = tt
  conditional_rest more left vs input value fs e ts h = (left.tree, left.span, ts, (λ us p. x.conditional (x.binary p)), e ts h)

  pub back_ConditionalRest : (more : List Symbol) (vs : List Value) (input : Input) (value : Value) (fs : List Fed) → Meaning last (step (At (Non o.ConditionalRest ∷ more) vs (fed input value ∷ fs))) → Meaning last (At (Non o.ConditionalRest ∷ more) vs (fed input value ∷ fs))
  back_ConditionalRest more (v.Expression left ∷ vs) input value fs e = conditional_rest more left vs input value fs e
  back_ConditionalRest more vs input value fs e = λ ts h. at_input input (Non o.ConditionalRest ∷ more) (Means last (Non o.ConditionalRest ∷ more)) vs ts tt

  pub end_ConditionalRest : (more : List Symbol) (vs : List Value) → Meaning last (lack (otherwise o.ConditionalRest) more vs []) → Meaning last (At (Non o.ConditionalRest ∷ more) vs [])
  end_ConditionalRest more (v.Expression left ∷ vs) e ts h = (left.tree, left.span, ts, (λ us p. x.conditional (x.binary p)), e ts h)
  end_ConditionalRest more vs e ts h = tt

  more_settled : (n : ℕ) (more : List Symbol) → (n ≤ 7) ⊎ Settled more → 7 < n → Settled more
  more_settled n more (inl low) h = absurd (omega (low, h, arith))
  more_settled n more (inr settled) h = settled

  binary_rest : (n : ℕ) (more : List Symbol) (left : Node Expression) (vs : List Value) (input : Input) (value : Value) (fs : List Fed) → Claim (step (At (Non (o.BinaryRest n) ∷ more) (v.Expression left ∷ vs) (fed input value ∷ fs)))
      → Meaning last (step (At (Non (o.BinaryRest n) ∷ more) (v.Expression left ∷ vs) (fed input value ∷ fs))) → Meaning last (At (Non (o.BinaryRest n) ∷ more) (v.Expression left ∷ vs) (fed input value ∷ fs))
  binary_rest n more left vs (i.Token (t.Sign s.Greater)) value fs c e ts (rest, token {k} fits, h) =
      after last (Non o.GreaterEnd ∷ Non (o.BinaryRest n) ∷ more) (mark (t.Sign s.Greater) k.span ∷ v.Expression left ∷ vs) fs rest h e k refl
  binary_rest n more left vs (i.Token (t.Sign sign)) value fs c e ts (rest, token {k} fits, h) =
      sign_row n more left vs sign k (mark (t.Sign sign) k.span) fs rest tt h (binary_operator sign) refl (λ m. m (at (t.Sign sign) k ∷ rest) (rest, token fits, h)) c e
  binary_rest n more left vs (i.Token terminal) value fs c e ts (rest, token {k} fits, h) = no_operator n more left vs _ (unsigned_stops n (at terminal k ∷ rest) (λ signed. signed)) (e _ (rest, token fits, h))
  binary_rest n more left vs i.ShiftRight value fs c e ts (rest, p, h) =
      choose_row n b.ShiftRight more left vs i.ShiftRight value fs ts rest (leb_tells n 8) p h (λ high claim operator us q. omega (shift_tight p q, high, arith)) (λ m. m ts (rest, p, h)) c e
  binary_rest n more left vs i.RelationalGreater value fs c e ts (rest, p, h) = λ settled.
      choose_row n b.Greater more left vs i.RelationalGreater value fs ts rest (leb_tells n 7) p h
      (λ high claim operator us q. omega (greater_loose p (claim (more_settled n more settled high) ts (rest, p, h)) q, high, arith)) (λ m. m ts (rest, p, h)) c e settled
  binary_rest n more left vs i.CoreType value fs c e ts h = no_operator n more left vs ts (worded_stops n ts (worded_core h.1)) (e ts h)
  binary_rest n more left vs i.OperandType value fs c e ts h = no_operator n more left vs ts (worded_stops n ts (worded_core h.1)) (e ts h)
  binary_rest n more left vs i.QualifiedPlain value fs c e ts h = no_operator n more left vs ts (worded_stops n ts (worded_qualified h.1)) (e ts h)
  binary_rest n more left vs i.QualifiedFunction value fs c e ts h = no_operator n more left vs ts (worded_stops n ts (worded_qualified h.1)) (e ts h)
  binary_rest n more left vs i.PropertyType value fs c e ts h = no_operator n more left vs ts (worded_stops n ts (worded_property h.1)) (e ts h)
  binary_rest n more left vs i.DeclaredName value fs c e ts h = no_operator n more left vs ts (worded_stops n ts (worded_declared h.1)) (e ts h)
  binary_rest n more left vs i.ConstructorName value fs c e ts h = tt
  binary_rest n more left vs (i.Own kind word) value fs c e ts h = absurd h.1
  binary_rest n more left vs i.TouchingGreater value fs c e ts h = absurd h.1

  pub back_BinaryRest : (n : ℕ) (more : List Symbol) (vs : List Value) (input : Input) (value : Value) (fs : List Fed) → Claim (step (At (Non (o.BinaryRest n) ∷ more) vs (fed input value ∷ fs)))
      → Meaning last (step (At (Non (o.BinaryRest n) ∷ more) vs (fed input value ∷ fs))) → Meaning last (At (Non (o.BinaryRest n) ∷ more) vs (fed input value ∷ fs))
  back_BinaryRest n more (v.Expression left ∷ vs) input value fs c e = binary_rest n more left vs input value fs c e
  back_BinaryRest n more vs input value fs c e = λ ts h. at_input input (Non (o.BinaryRest n) ∷ more) (Means last (Non (o.BinaryRest n) ∷ more)) vs ts (λ settled. tt)

  pub end_BinaryRest : (n : ℕ) (more : List Symbol) (vs : List Value) → Meaning last (lack (otherwise (o.BinaryRest n)) more vs []) → Meaning last (At (Non (o.BinaryRest n) ∷ more) vs [])
  end_BinaryRest n more (v.Expression left ∷ vs) e ts h = no_operator n more left vs ts (subst (λ q. Stops n q) (sym h) (unsigned_stops n [] (λ signed. signed))) (e ts h)
  end_BinaryRest n more vs e ts h = λ settled. tt

  -- Two `>` that touch are a shift.
  greater_row : (more : List Symbol) (vs : List Value) (k : Token) (fs : List Fed) (rest : List Classified) → Fitting (t.Sign s.Greater) k.kind → Ahead fs rest → (touching : Bool) → nat_eq (top_mark vs).span.past k.span.first ≡ touching
      → Meaning last (put (begins o.GreaterEnd (cond touching i.TouchingGreater (i.Token (t.Sign s.Greater)))) o.GreaterEnd more vs (i.Token (t.Sign s.Greater)) (mark (t.Sign s.Greater) k.span) fs)
      → Means last (Non o.GreaterEnd ∷ more) vs (at (t.Sign s.Greater) k ∷ rest)
  greater_row more vs k fs rest fits h true touch e = λ first same.
      after last (Act a.JoinMarks ∷ Back i.ShiftRight ∷ more) (mark (t.Sign s.Greater) k.span ∷ vs) fs rest h e (at (t.Sign s.Greater) first ∷ at (t.Sign s.Greater) k ∷ rest)
      (op.shift_right (ap (λ q. q.past) same ∙ grind (touch, arith)))
  greater_row more vs k fs rest fits h false touch e = λ first same. e (at (t.Sign s.Greater) k ∷ rest) (rest, token fits, h) (at (t.Sign s.Greater) first ∷ at (t.Sign s.Greater) k ∷ rest) (op.sign refl)

  pub back_GreaterEnd : (more : List Symbol) (vs : List Value) (input : Input) (value : Value) (fs : List Fed) → Meaning last (step (At (Non o.GreaterEnd ∷ more) vs (fed input value ∷ fs))) → Meaning last (At (Non o.GreaterEnd ∷ more) vs (fed input value ∷ fs))
  back_GreaterEnd more vs (i.Token (t.Sign s.Greater)) value fs e ts (rest, token {k} fits, h) = greater_row more vs k fs rest fits h (nat_eq (top_mark vs).span.past k.span.first) refl e
  back_GreaterEnd more vs i.TouchingGreater value fs e ts h = absurd h.1
  back_GreaterEnd more vs i.ConstructorName value fs e ts h = tt
  back_GreaterEnd more vs input value fs e ts h = λ first same. e ts h (at (t.Sign s.Greater) first ∷ ts) (op.sign refl)

  pub end_GreaterEnd : (more : List Symbol) (vs : List Value) → Meaning last (lack (otherwise o.GreaterEnd) more vs []) → Meaning last (At (Non o.GreaterEnd ∷ more) vs [])
  end_GreaterEnd more vs e ts h = λ first same. e ts h (at (t.Sign s.Greater) first ∷ ts) (op.sign refl)

  -- A `>` that is taken for an operator is followed by an operand.
  claim_row : (n : ℕ) (more : List Symbol) (vs : List Value) (value : Value) (fs : List Fed) → Tells n 7 → Claim (Chosen (leb n 7) n b.Greater more vs i.RelationalGreater value fs) → Meaning last (Chosen (leb n 7) n b.Greater more vs i.RelationalGreater value fs)
      → Claim (At (Non (o.BinaryRest n) ∷ more) vs (fed i.RelationalGreater value ∷ fs))
  claim_row n more vs value fs (inl (same, low)) c e = λ settled ts (rest, p, h).
      let (one, span, us, q, m) = after last (Non o.Unary ∷ Non (o.BinaryRest 8) ∷ Act a.MakeBinary ∷ Non (o.BinaryRest n) ∷ more) (v.Operator b.Greater ∷ vs) fs rest h (subst (λ q. Meaning last (Chosen q n b.Greater more vs i.RelationalGreater value fs)) same e) in
      behind_greater p (unary_first q)
  claim_row n more vs value fs (inr (same, high)) c e = λ settled. subst (λ q. Claim (Chosen q n b.Greater more vs i.RelationalGreater value fs)) same c (more_settled n more settled high)

  claim_greater : (more : List Symbol) (vs : List Value) (value : Value) (fs : List Fed) → Claim (step (At more vs (fed i.RelationalGreater value ∷ fs))) → Meaning last (step (At more vs (fed i.RelationalGreater value ∷ fs)))
      → Claim (At more vs (fed i.RelationalGreater value ∷ fs))
  claim_greater (Act a.MakeBinary ∷ more) vs value fs c e = c
  claim_greater (Non (o.BinaryRest n) ∷ more) vs value fs c e = claim_row n more vs value fs (leb_tells n 7) c e
  claim_greater _ vs value fs c e = λ settled. absurd settled

  pub claim : (c : Config) → Claim (step c) → Meaning last (step c) → Claim c
  claim (At more vs (fed i.RelationalGreater value ∷ fs)) c e = claim_greater more vs value fs c e
  claim _ c e = tt
