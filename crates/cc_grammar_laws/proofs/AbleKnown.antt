-- What is known of the tokens that complete what is expected.
use Rattle.std.proofs.Common.{◌≡◌, ◌≤◌, arith, refl, sym, subst, true≢false, ℕ, List, [], ◌∷◌, Bool, true, false, ◌||◌}
use Rattle.cc_base.specs.declared.text.Span.{Span}
use Rattle.cc_tree.specs.declared.token.Token.{Token}
use Rattle.cc_tree.specs.declared.token.TokenKind.{TokenKind}
use Rattle.cc_tree.specs.declared.identifier.Identifier.{Identifier}
use Rattle.cc_tree.specs.declared.terminal.Terminal.{Terminal}
use Rattle.cc_tree.specs.declared.terminal.Terminal.TheVariants as t
use Rattle.cc_tree.specs.declared.terminal.NameKind.{NameKind}
use Rattle.cc_tree.specs.declared.terminal.ContextualWord.{ContextualWord}
use Rattle.cc_tree.specs.declared.terminal.ContextualWord.TheVariants as c
use Rattle.cc_tree.specs.declared.type_name.TypeName.{TypeName}
use Rattle.cc_tree.specs.declared.expression.Expression.{Expression}
use Rattle.cc_tree.specs.declared.expression.BinaryOperator.{BinaryOperator}
use Rattle.cc_tree.specs.Terminals.{Classified, at, Id, letters}
use Rattle.cc_tree.specs.Spans.{identifier}
use Rattle.cc_tree.specs.Operators.{level, ReadsOperator}
use Rattle.cc_tree.specs.GrammarTypes.{ReadsPath, ReadsType, ReadsCore}
use Rattle.cc_tree.specs.GrammarExpressions as x
use Rattle.cc_tree.specs.GrammarExpressions.{ReadsUnary, ReadsBinary}
use Rattle.cc_table.specs.declared.symbols.Sort.TheVariants as o
use Rattle.cc_table.specs.declared.symbols.Input.TheVariants as i
use Rattle.cc_table.specs.declared.symbols.Symbol.{Symbol}
use Rattle.cc_table.specs.declared.symbols.Symbol.TheVariants.{Non, Back}
use Rattle.cc_pushdown.specs.declared.value.Node.{Node}
use Rattle.cc_pushdown.specs.declared.value.QualifiedName.{QualifiedName}
use Rattle.cc_pushdown.specs.declared.value.Value.{Value}
use Rattle.cc_pushdown.specs.Values.{below}
use Rattle.cc_grammar_laws.proofs.MemberParts.{class_letters}
use Rattle.cc_grammar_laws.proofs.Means.{Means}
use Rattle.cc_grammar_laws.proofs.AbleSymbols.{Head, other, takes, member, own, core, named, declared, first, after_core, after_named, after_path, head_ok, is_takes, is_member, is_own, is_declared, not_first, mild, goes, head}
use Rattle.cc_grammar_laws.proofs.Tokens.{Piece, Given, before, Mild}

-- what stands behind a declared name: its type
abbrev pub is_late : Head → Bool
is_late core = true
is_late named = true
is_late declared = true
is_late _ = false

-- No operator that the tokens begin with is tighter.
abbrev pub Tightest : BinaryOperator → List Classified → Type 0
Tightest operator us = (one : BinaryOperator) (ws : List Classified) → ReadsOperator one us ws → level one ≤ level operator

module _ (given : Given) where
  -- the tokens of some pieces, of these kinds
  abbrev pub whole : (ℕ → TokenKind) → List Piece → List Classified
  whole kinds pieces = before given kinds pieces []

  -- Some pieces complete it.
  abbrev pub Ends : List Symbol → List Value → Type 0
  Ends more vs = (pieces : List Piece) × (last : List Value) × ((kinds : ℕ → TokenKind) → Means last more vs (whole kinds pieces)) × (mild more ≡ true → (kinds : ℕ → TokenKind) → Mild (whole kinds pieces))

  -- Some pieces complete it behind an operator and an operand.
  abbrev pub Goes : List Symbol → List Value → BinaryOperator → Expression → Span → Type 0
  Goes more vs operator y span = (pieces : List Piece) × (last : List Value)
      × ((kinds : ℕ → TokenKind) (us ws : List Classified) → Tightest operator us → ReadsOperator operator us ws → ReadsUnary y span ws (whole kinds pieces) → Means last more vs us)

  -- Some pieces complete it behind the core of a type.
  abbrev pub TakesCore : List Symbol → List Value → Node TypeName → Type 0
  TakesCore more vs node = (pieces : List Piece) × (last : List Value) × ((kinds : ℕ → TokenKind) (us : List Classified) → ReadsCore node.tree node.span us (whole kinds pieces) → Means last more vs us)

  -- behind a qualified name of this kind
  abbrev pub TakesName : NameKind → List Symbol → List Value → QualifiedName → Type 0
  TakesName kind more vs name = (pieces : List Piece) × (last : List Value)
      × ((kinds : ℕ → TokenKind) (us : List Classified) (word : ContextualWord) (k : Token) → identifier k ≡ name.name → ReadsPath name.path us (at (t.Name kind word) k ∷ whole kinds pieces) → Means last more vs us)

  -- behind `property` and a type
  abbrev pub TakesProperty : List Symbol → List Value → Node TypeName → Type 0
  TakesProperty more vs node = (pieces : List Piece) × (last : List Value)
      × ((kinds : ℕ → TokenKind) (us : List Classified) (kind : NameKind) (k : Token) (span : Span) → k.span ≡ node.span → ReadsType node.tree span us (whole kinds pieces) → Means last more vs (at (t.Name kind c.Property) k ∷ us))

  -- behind a type and the name that is declared
  abbrev pub TakesDeclared : List Symbol → List Value → Node TypeName → Identifier → Type 0
  TakesDeclared more vs node name = (pieces : List Piece) × (last : List Value)
      × ((kinds : ℕ → TokenKind) (us : List Classified) (id : Terminal) (k : Token) → Id id → identifier k ≡ name → ReadsCore node.tree node.span us (at id k ∷ whole kinds pieces) → Means last more vs us)

  -- behind the class's own name
  abbrev pub TakesOwn : List Symbol → List Value → Identifier → Type 0
  TakesOwn more vs name = (pieces : List Piece) × (last : List Value)
      × ((kinds : ℕ → TokenKind) (kind : NameKind) (word : ContextualWord) (k : Token) → identifier k ≡ name → letters k.kind ≡ class_letters (below (below vs)) → Means last more vs (at (t.Name kind word) k ∷ whole kinds pieces))

  -- behind a name alone whose type is on the stack
  abbrev pub Declared : List Symbol → List Value → Identifier → Type 0
  Declared more vs name = (pieces : List Piece) × (last : List Value) × ((kinds : ℕ → TokenKind) (id : Terminal) (k : Token) → Id id → identifier k ≡ name → Means last more vs (at id k ∷ whole kinds pieces))

  abbrev pub CanEnd : List Symbol → Type 0
  CanEnd more = (vs : List Value) → not_first (head more) ≡ true → Ends more vs

  abbrev pub CanGo : List Symbol → Type 0
  CanGo more = goes more ≡ true → (vs : List Value) (operator : BinaryOperator) → 7 ≤ level operator → (y : Expression) (span : Span) → Goes more vs operator y span

  abbrev pub CanTakeCore : List Symbol → Type 0
  CanTakeCore more = (is_takes (head more) || is_member (head more)) ≡ true → (vs : List Value) (node : Node TypeName) → TakesCore more vs node

  abbrev pub CanTakeName : List Symbol → Type 0
  CanTakeName more = is_takes (head more) ≡ true → (kind : NameKind) → ((word : ContextualWord) → Id (t.Name kind word)) → (vs : List Value) (name : QualifiedName) → TakesName kind more vs name

  abbrev pub CanTakeProperty : List Symbol → Type 0
  CanTakeProperty more = is_member (head more) ≡ true → (vs : List Value) (node : Node TypeName) → TakesProperty more vs node

  abbrev pub CanTakeDeclared : List Symbol → Type 0
  CanTakeDeclared more = is_member (head more) ≡ true → (vs : List Value) (node : Node TypeName) (name : Identifier) → TakesDeclared more vs node name

  abbrev pub CanTakeOwn : List Symbol → Type 0
  CanTakeOwn more = is_own (head more) ≡ true → (vs : List Value) (name : Identifier) → TakesOwn more vs name

  abbrev pub CanDeclare : List Symbol → Type 0
  CanDeclare more = is_late (head more) ≡ true → (vs : List Value) (name : Identifier) → Declared more vs name

  pub record Known (more : List Symbol) : Type 0 where
    pub ends : CanEnd more
    pub goes_on : CanGo more
    pub core_taken : CanTakeCore more
    pub name_taken : CanTakeName more
    pub property_taken : CanTakeProperty more
    pub declared_taken : CanTakeDeclared more
    pub own_taken : CanTakeOwn more
    pub late : CanDeclare more

-- What the three symbols that depend on what is behind them are not.
pub after_core_not : (P : Head → Bool) → P other ≡ false → P core ≡ false → (behind : Head) → P (after_core behind) ≡ true → ⊥
after_core_not P p q member h = true≢false (subst (λ b. true ≡ b) q (sym h))
after_core_not P p q own h = true≢false (subst (λ b. true ≡ b) q (sym h))
after_core_not P p q _ h = true≢false (subst (λ b. true ≡ b) p (sym h))

pub after_named_not : (P : Head → Bool) → P other ≡ false → P named ≡ false → (behind : Head) → P (after_named behind) ≡ true → ⊥
after_named_not P p q core h = true≢false (subst (λ b. true ≡ b) q (sym h))
after_named_not P p q _ h = true≢false (subst (λ b. true ≡ b) p (sym h))

pub after_path_not : (P : Head → Bool) → P other ≡ false → P declared ≡ false → (behind : Head) → P (after_path behind) ≡ true → ⊥
after_path_not P p q named h = true≢false (subst (λ b. true ≡ b) q (sym h))
after_path_not P p q _ h = true≢false (subst (λ b. true ≡ b) p (sym h))

pub late_core : (behind : Head) → is_late (after_core behind) ≡ true → is_member behind ≡ true
late_core member h = refl
late_core own h = refl
late_core _ h = absurd (true≢false (sym h))

pub late_named : (behind : Head) → is_late (after_named behind) ≡ true → is_late behind ≡ true
late_named core h = refl
late_named _ h = absurd (true≢false (sym h))

pub late_path : (behind : Head) → is_late (after_path behind) ≡ true → is_late behind ≡ true
late_path named h = refl
late_path _ h = absurd (true≢false (sym h))

pub declared_late : (behind : Head) → is_declared behind ≡ true → is_late behind ≡ true
declared_late declared h = refl
declared_late _ h = absurd (true≢false (sym h))

pub own_member : (behind : Head) → is_own behind ≡ true → is_member behind ≡ true
own_member own h = refl
own_member _ h = absurd (true≢false (sym h))

pub takes_either : (behind : Head) → is_takes behind ≡ true → (is_takes behind || is_member behind) ≡ true
takes_either takes h = refl
takes_either _ h = absurd (true≢false (sym h))

pub member_either : (behind : Head) → is_member behind ≡ true → (is_takes behind || is_member behind) ≡ true
member_either member h = refl
member_either own h = refl
member_either _ h = absurd (true≢false (sym h))

none_behind_first : (symbol : Symbol) → head_ok symbol first ≡ true → ⊥
none_behind_first (Non o.TypeOrName) h = true≢false (sym h)
none_behind_first (Back i.CoreType) h = true≢false (sym h)
none_behind_first _ h = true≢false (sym h)

-- The name of a destructor's class is expected nowhere but first.
pub behind_not_first : (symbol : Symbol) (behind : Head) → head_ok symbol behind ≡ true → not_first behind ≡ true
behind_not_first symbol first h = absurd (none_behind_first symbol h)
behind_not_first symbol _ h = refl

-- A looser level reads what a tighter one does.
pub weaken : {n m : ℕ} {y : Expression} {span : Span} {ts rest : List Classified} → n ≤ m → ReadsBinary m y span ts rest → ReadsBinary n y span ts rest
weaken low (x.joined h p q r) = x.joined (omega (low, h, arith)) p q r
weaken low (x.unary p) = x.unary p
