-- Tokens that complete what is expected, by its first symbol.
use Rattle.std.proofs.Common.{◌≡◌, ◌≤◌, arith, refl, sym, ap, subst, true≢false, suc, List, [], ◌∷◌, ◌++◌, true, false}
use Rattle.cc_base.specs.declared.text.Span.{Span}
use Rattle.cc_tree.specs.declared.token.Token.{Token}
use Rattle.cc_tree.specs.declared.identifier.Identifier.{Identifier}
use Rattle.cc_tree.specs.declared.terminal.Terminal.TheVariants as t
use Rattle.cc_tree.specs.declared.terminal.NameKind.{NameKind}
use Rattle.cc_tree.specs.declared.terminal.NameKind.TheVariants as n
use Rattle.cc_tree.specs.declared.terminal.ContextualWord.{ContextualWord}
use Rattle.cc_tree.specs.declared.terminal.ContextualWord.TheVariants as c
use Rattle.cc_tree.specs.declared.terminal.Sign.TheVariants as s
use Rattle.cc_tree.specs.declared.type_name.TypeName.{TypeName}
use Rattle.cc_tree.specs.declared.type_name.TypeName.TheVariants as type
use Rattle.cc_tree.specs.declared.expression.BinaryOperator.TheVariants as b
use Rattle.cc_tree.specs.declared.token.TokenKind.TheVariants as k
use Rattle.cc_tree.specs.declared.token.Suffix.TheVariants as suffix
use Rattle.cc_tree.specs.declared.token.Radix.TheVariants as radix
use Rattle.cc_tree.specs.declared.expression.Expression.{Expression}
use Rattle.cc_tree.specs.declared.expression.Expression.TheVariants as e
use Rattle.cc_grammar_laws.proofs.Starts.{NotGreater}
use Rattle.cc_grammar_laws.proofs.BetweenOperands.{some_same}
use Rattle.cc_grammar_laws.proofs.BackExpressionFirsts.{sign_only, shift_tight, greater_loose, behind_greater}
use Rattle.cc_tree.specs.Terminals.{Classified, at, Id, plain, function}
use Rattle.cc_tree.specs.Spans.{identifier}
use Rattle.cc_tree.specs.Operators as op
use Rattle.cc_tree.specs.Operators.{ReadsOperator, level}
use Rattle.cc_tree.specs.GrammarTypes as g
use Rattle.cc_tree.specs.GrammarTypes.{ReadsType, ReadsCore, ReadsPath}
use Rattle.cc_tree.specs.GrammarExpressions as x
use Rattle.cc_tree.specs.GrammarExpressions.{ReadsUnary}
use Rattle.cc_tree.specs.GrammarStatements as z
use Rattle.cc_table.specs.declared.symbols.Sort.{Sort}
use Rattle.cc_table.specs.declared.symbols.Sort.TheVariants as o
use Rattle.cc_table.specs.declared.symbols.Input.{Input}
use Rattle.cc_table.specs.declared.symbols.Input.TheVariants as i
use Rattle.cc_table.specs.declared.symbols.Symbol.{Symbol}
use Rattle.cc_table.specs.declared.symbols.Symbol.TheVariants.{Non, Act, Back}
use Rattle.cc_pushdown.specs.declared.value.Node.{Node}
use Rattle.cc_pushdown.specs.declared.value.QualifiedName.{QualifiedName}
use Rattle.cc_pushdown.specs.declared.value.Value.{Value}
use Rattle.cc_pushdown.specs.declared.value.Value.TheVariants as v
use Rattle.cc_pushdown.specs.Values.{below, nowhere, top, top_name, top_path, top_property_type, top_qualified, top_type_name}
use Rattle.cc_pushdown.specs.Build.{build}
use Rattle.cc_grammar_laws.proofs.Stands as stands
use Rattle.cc_grammar_laws.proofs.Stands.{StandsCore, StandsQualified, StandsProperty, StandsName, StandsDeclared}
use Rattle.cc_grammar_laws.proofs.TypeParts.{Part}
use Rattle.cc_grammar_laws.proofs.Means.{Means, IsOwn, AtName, AtOwn}
use Rattle.cc_grammar_laws.proofs.AbleSymbols.{starts, not_first, mild, head, Formed, formed_ok}
use Rattle.cc_grammar_laws.proofs.Tokens.{int, number, id, Given, before, past, before_both, Mild, mild_stops, mild_label, mild_before}
use Rattle.cc_grammar_laws.proofs.AbleTypes.{Fill}
use Rattle.cc_grammar_laws.proofs.AbleExpressions.{less_top}
use Rattle.cc_grammar_laws.proofs.AbleMembers.{int_type}
use Rattle.cc_grammar_laws.proofs.AbleSorts.{IsFilled, fill}
use Rattle.cc_grammar_laws.proofs.AbleKnown.{Tightest, whole, CanEnd, Ends, Known, takes_either, declared_late, behind_not_first, weaken}

-- What a value that was put back stands for.
abbrev CoreOf : Value → List Classified → List Classified → Type 0
CoreOf (v.Type node) us ts = ReadsCore node.tree node.span us ts
CoreOf _ us ts = ⊥

core_value : {value : Value} {us ts : List Classified} → StandsCore value us ts → CoreOf value us ts
core_value (stands.core p) = p

pub core_top : (vs : List Value) {us ts : List Classified} → StandsCore (top vs) us ts → ReadsCore (top_type_name vs).tree (top_type_name vs).span us ts
core_top [] h = absurd (core_value h)
core_top (v.Type node ∷ vs) h = core_value h
core_top (_ ∷ vs) h = absurd (core_value h)

-- a name with its path before other tokens
abbrev Named : NameKind → QualifiedName → List Classified → List Classified → Type 0
Named kind name us ts = (word : ContextualWord) × (k : Token) × (identifier k ≡ name.name) × ReadsPath name.path us (at (t.Name kind word) k ∷ ts)

abbrev NamedOf : NameKind → Value → List Classified → List Classified → Type 0
NamedOf kind (v.Qualified name) us ts = Named kind name us ts
NamedOf kind _ us ts = ⊥

named_value : {kind : NameKind} {value : Value} {us ts : List Classified} → StandsQualified kind value us ts → NamedOf kind value us ts
named_value (stands.qualified {word} {k} p) = (word, k, refl, p)

pub named_top : (kind : NameKind) (vs : List Value) {us ts : List Classified} → StandsQualified kind (top vs) us ts → Named kind (top_qualified vs) us ts
named_top kind [] h = absurd (named_value h)
named_top kind (v.Qualified one ∷ vs) h = named_value h
named_top kind (_ ∷ vs) h = absurd (named_value h)

abbrev PropertyFrom : Node TypeName → List Classified → List Classified → Type 0
PropertyFrom node us ts = (kind : NameKind) × (k : Token) × (span : Span) × (ws : List Classified) × (us ≡ at (t.Name kind c.Property) k ∷ ws) × (k.span ≡ node.span) × ReadsType node.tree span ws ts

abbrev PropertyOf : Value → List Classified → List Classified → Type 0
PropertyOf (v.PropertyType node) us ts = PropertyFrom node us ts
PropertyOf _ us ts = ⊥

property_value : {value : Value} {us ts : List Classified} → StandsProperty value us ts → PropertyOf value us ts
property_value (stands.property {kind} {span} {k} {ts} p) = (kind, k, span, ts, refl, refl, p)

property_top : (vs : List Value) {us ts : List Classified} → StandsProperty (top vs) us ts → PropertyFrom (top_property_type vs) us ts
property_top [] h = absurd (property_value h)
property_top (v.PropertyType node ∷ vs) h = property_value h
property_top (_ ∷ vs) h = absurd (property_value h)

abbrev NameFrom : Identifier → List Classified → List Classified → Type 0
NameFrom one us ts = (kind : NameKind) × (word : ContextualWord) × (k : Token) × (us ≡ at (t.Name kind word) k ∷ ts) × (identifier k ≡ one)

abbrev NameOf : Value → List Classified → List Classified → Type 0
NameOf (v.Name one) us ts = NameFrom one.identifier us ts
NameOf _ us ts = ⊥

name_value : {value : Value} {us ts : List Classified} → StandsName value us ts → NameOf value us ts
name_value (stands.name {kind} {word} {k}) = (kind, word, k, refl, refl)

name_top : (vs : List Value) {us ts : List Classified} → StandsName (top vs) us ts → NameFrom (top_name vs).identifier us ts
name_top [] h = absurd (name_value h)
name_top (v.Name one ∷ vs) h = name_value h
name_top (_ ∷ vs) h = absurd (name_value h)

abbrev DeclaredFrom : Identifier → List Classified → List Classified → Type 0
DeclaredFrom one us ts = (kind : NameKind) × (word : ContextualWord) × (k : Token) × (us ≡ at (t.Name kind word) k ∷ ts) × Id (t.Name kind word) × (identifier k ≡ one)

abbrev DeclaredOf : Value → List Classified → List Classified → Type 0
DeclaredOf (v.Name one) us ts = DeclaredFrom one.identifier us ts
DeclaredOf _ us ts = ⊥

declared_value : {value : Value} {us ts : List Classified} → StandsDeclared value us ts → DeclaredOf value us ts
declared_value (stands.declared {kind} {word} {k} j) = (kind, word, k, refl, j, refl)

declared_top : (vs : List Value) {us ts : List Classified} → StandsDeclared (top vs) us ts → DeclaredFrom (top_name vs).identifier us ts
declared_top [] h = absurd (declared_value h)
declared_top (v.Name one ∷ vs) h = declared_value h
declared_top (_ ∷ vs) h = absurd (declared_value h)

-- No operator that begins these tokens is tighter.
pub tight_less : (k : Token) (ts : List Classified) → Tightest b.Less (at (t.Sign s.Less) k ∷ ts)
tight_less k ts one ws p = subst (λ q. level q ≤ 7) (some_same (sign_only s.Less k ts tt one ws p)) (omega arith)

tight_greater : {us ts : List Classified} → ReadsOperator b.Greater us ts → NotGreater ts → Tightest b.Greater us
tight_greater p h one ws q = greater_loose p (behind_greater p h) q

tight_shift : {us ts : List Classified} → ReadsOperator b.ShiftRight us ts → Tightest b.ShiftRight us
tight_shift p one ws q = shift_tight p q

at_name : (more : List Symbol) (K : List Value → List Classified → Type 0) (vs : List Value) (us : List Classified) → (IsOwn vs us → K vs us) → AtName more K vs us
at_name [] K vs us f = tt
at_name (Non o.MemberRest ∷ more) K vs us f = f
at_name (_ ∷ more) K vs us f = tt

at_own : (more : List Symbol) (K : List Value → List Classified → Type 0) (vs : List Value) (us : List Classified) → K vs us → AtOwn more K vs us
at_own [] K vs us m = tt
at_own (Non o.MemberRest ∷ more) K vs us m = m
at_own (_ ∷ more) K vs us m = tt

-- What a part that its least tokens spell means.
part_means : (last : List Value) (sort : Sort) (more : List Symbol) (vs : List Value) (ts : List Classified) → IsFilled sort → Part sort vs ts (Means last more) → Means last (Non sort ∷ more) vs ts
part_means last o.OwnTypeEnd more vs ts h p = absurd h
part_means last o.OwnNamespaceEnd more vs ts h p = absurd h
part_means last o.OwnPropertyTypeEnd more vs ts h p = absurd h
part_means last o.OwnPropertyNamespaceEnd more vs ts h p = absurd h
part_means last (o.BinaryRest n) more vs ts h p = absurd h
part_means last _ more vs ts h p = p

never : {A : Type 0} → false ≡ true → A
never e = absurd (true≢false (sym e))

abbrev pub zero_value : Expression
zero_value = e.Number 0 suffix.Plain radix.Octal nowhere

pub zero_read : {ts : List Classified} → ReadsUnary zero_value nowhere (at t.Zero (record { kind = k.Number 0 suffix.Plain radix.Octal; span = nowhere }) ∷ ts) ts
zero_read = x.postfix (x.primary (x.number x.zero_number))

module _ (given : Given) where
  filled : (sort : Sort) (more : List Symbol) (vs : List Value) → IsFilled sort → Known given more → not_first (head more) ≡ true → Ends given (Non sort ∷ more) vs
  filled sort more vs h r behind = from (fill given sort h vs)
    where
      from : Fill given sort vs → Ends given (Non sort ∷ more) vs
      from (pieces, out, begins, f) =
          let (others, last, m, gentle) = r.ends out behind in (
            pieces ++ others,
            last,
            (λ kinds. subst (λ q. Means last (Non sort ∷ more) vs q) (sym (before_both given kinds pieces others []))
                (part_means last sort more vs (before given kinds pieces (whole given (past pieces kinds) others)) h (f kinds (whole given (past pieces kinds) others) (Means last more) (m (past pieces kinds))))),
            (λ e kinds. subst Mild (sym (before_both given kinds pieces others [])) (mild_before given kinds (starts sort) pieces (whole given (past pieces kinds) others) (mild more) begins e (λ calm. gentle calm (past pieces kinds)))),
          )

  back_ends : (input : Input) (more : List Symbol) → Formed (Back input ∷ more) → Known given more → (vs : List Value) → Ends given (Back input ∷ more) vs
  back_ends i.CoreType more f r vs =
      let (pieces, last, m) = r.core_taken (formed_ok (Back i.CoreType) more f).2 (below vs) (top_type_name vs) in
      (pieces, last, (λ kinds us h. m kinds us (core_top vs h)), (λ e. never e))
  back_ends i.OperandType more f r vs =
      let (pieces, last, m) = r.core_taken (takes_either (head more) (formed_ok (Back i.OperandType) more f).2) (below vs) (top_type_name vs) in
      (pieces, last, (λ kinds us h. m kinds us (core_top vs h)), (λ e. never e))
  back_ends i.QualifiedPlain more f r vs =
      let (pieces, last, m) = r.name_taken (formed_ok (Back i.QualifiedPlain) more f).2 n.Plain (λ word. plain) (below vs) (top_qualified vs) in
      (pieces, last, (λ kinds us h. let (word, k, same, p) = named_top n.Plain vs h in m kinds us word k same p), (λ e. never e))
  back_ends i.QualifiedFunction more f r vs =
      let (pieces, last, m) = r.name_taken (formed_ok (Back i.QualifiedFunction) more f).2 n.Function (λ word. function) (below vs) (top_qualified vs) in
      (pieces, last, (λ kinds us h. let (word, k, same, p) = named_top n.Function vs h in m kinds us word k same p), (λ e. never e))
  back_ends i.PropertyType more f r vs =
      let (pieces, last, m) = r.property_taken (formed_ok (Back i.PropertyType) more f).2 (below vs) (top_property_type vs) in
      (pieces, last, (λ kinds us h. let (kind, k, span, ws, e, same, p) = property_top vs h in subst (λ q. Means last more (below vs) q) (sym e) (m kinds ws kind k span same p)), (λ e. never e))
  back_ends i.ConstructorName more f r vs =
      let (pieces, last, m) = r.own_taken (formed_ok (Back i.ConstructorName) more f).2 (below vs) (top_name vs).identifier in (
        pieces,
        last,
        (λ kinds us h. let (kind, word, k, e, same) = name_top vs h in
            subst (λ q. AtName more (Means last more) (below vs) q) (sym e) (at_name more (Means last more) (below vs) (at (t.Name kind word) k ∷ whole given kinds pieces) (λ own. m kinds kind word k same own))),
        (λ e. never e),
      )
  back_ends i.DeclaredName more f r vs =
      let (pieces, last, m) = r.late (declared_late (head more) (formed_ok (Back i.DeclaredName) more f).2) (below vs) (top_name vs).identifier in
      (pieces, last, (λ kinds us h. let (kind, word, k, e, j, same) = declared_top vs h in subst (λ q. Means last more (below vs) q) (sym e) (m kinds (t.Name kind word) k j same)), (λ e. never e))
  back_ends i.ShiftRight more f r vs =
      let (pieces, last, m) = r.goes_on (formed_ok (Back i.ShiftRight) more f).1 (below vs) b.ShiftRight (omega arith) zero_value nowhere in
      (number ∷ pieces, last, (λ kinds us p. m (λ n. kinds (suc n)) us (whole given kinds (number ∷ pieces)) (tight_shift p) p zero_read), (λ e. never e))
  back_ends i.RelationalGreater more f r vs =
      let (pieces, last, m) = r.goes_on (formed_ok (Back i.RelationalGreater) more f).1 (below vs) b.Greater (omega arith) zero_value nowhere in
      (number ∷ pieces, last, (λ kinds us p. m (λ n. kinds (suc n)) us (whole given kinds (number ∷ pieces)) (tight_greater p tt) p zero_read), (λ e. never e))
  back_ends (i.Token (t.Sign s.Less)) more f r vs =
      let (pieces, last, m) = r.goes_on (formed_ok (Back (i.Token (t.Sign s.Less))) more f).1 (below vs) b.Less (omega arith) zero_value nowhere in (
        number ∷ pieces,
        last,
        (λ kinds us h. less_top vs h (λ from span. Means last more (below vs) from) (λ k. m (λ n. kinds (suc n)) (at (t.Sign s.Less) k ∷ whole given kinds (number ∷ pieces)) (whole given kinds (number ∷ pieces)) (tight_less k (whole given kinds (number ∷ pieces))) (op.sign refl) zero_read)),
        (λ e. never e),
      )
  back_ends (i.Token terminal) more f r vs = never (formed_ok (Back (i.Token terminal)) more f).1
  back_ends (i.Own kind word) more f r vs = never (formed_ok (Back (i.Own kind word)) more f).1
  back_ends i.TouchingGreater more f r vs = never (formed_ok (Back i.TouchingGreater) more f).1

  sort_ends : (sort : Sort) (more : List Symbol) → Formed (Non sort ∷ more) → Known given more → (vs : List Value) → not_first (head (Non sort ∷ more)) ≡ true → Ends given (Non sort ∷ more) vs
  sort_ends o.OwnName more f r vs h = never h
  sort_ends o.TypeOrName more f r vs h =
      let (pieces, last, m, gentle) = r.ends vs (behind_not_first (Non o.TypeOrName) (head more) (formed_ok (Non o.TypeOrName) more f).2) in (pieces, last, m, (λ e. never e))
  sort_ends o.TypeOrProperty more f r vs h =
      let (pieces, last, m, gentle) = r.ends vs (behind_not_first (Non o.TypeOrProperty) (head more) (formed_ok (Non o.TypeOrProperty) more f).2) in (pieces, last, m, (λ e. never e))
  sort_ends o.NameEnd more f r vs h =
      let (pieces, last, m) = r.name_taken (formed_ok (Non o.NameEnd) more f).2 n.Plain (λ word. plain) (below vs) (top_qualified vs) in
      (pieces, last, (λ kinds us h. let (word, k, same, p) = named_top n.Plain vs h in m kinds us word k same p), (λ e. never e))
  sort_ends o.FunctionNameEnd more f r vs h =
      let (pieces, last, m) = r.name_taken (formed_ok (Non o.FunctionNameEnd) more f).2 n.Function (λ word. function) (below vs) (top_qualified vs) in
      (pieces, last, (λ kinds us h. let (word, k, same, p) = named_top n.Function vs h in m kinds us word k same p), (λ e. never e))
  sort_ends o.PathRest more f r vs h =
      let (pieces, last, m) = r.name_taken (formed_ok (Non o.PathRest) more f).2 n.Plain (λ word. plain) (below vs) (record { path = top_path vs ++ []; name = identifier given.name }) in
      (id ∷ pieces, last, (λ kinds us goes_so. m (λ n. kinds (suc n)) us given.word given.name refl (goes_so [] (whole given kinds (id ∷ pieces)) g.none)), (λ e. never e))
  sort_ends o.CoreEnd more f r vs h =
      let (pieces, last, m) = r.core_taken (takes_either (head more) (formed_ok (Non o.CoreEnd) more f).2) (below vs) (top_type_name vs) in
      (pieces, last, (λ kinds us h. m kinds us (core_top vs h)), (λ e. never e))
  sort_ends o.GreaterEnd more f r vs h =
      let (pieces, last, m) = r.goes_on (formed_ok (Non o.GreaterEnd) more f).1 (below vs) b.Greater (omega arith) zero_value nowhere in (
        number ∷ pieces,
        last,
        (λ kinds k same. m (λ n. kinds (suc n)) (at (t.Sign s.Greater) k ∷ whole given kinds (number ∷ pieces)) (whole given kinds (number ∷ pieces)) (tight_greater (op.sign refl) tt) (op.sign refl) zero_read),
        (λ e. never e),
      )
  sort_ends (o.BinaryRest n) more f r (v.Expression left ∷ vs) h =
      let (ok, goes_so, behind) = formed_ok (Non (o.BinaryRest n)) more f in
      let (pieces, last, m, gentle) = r.ends (v.Expression left ∷ vs) (behind_not_first (Non (o.BinaryRest n)) (head more) behind) in
      (pieces, last, (λ kinds settled. (left.tree, left.span, _, (λ us bound low stops p. weaken low p), mild_stops n (whole given kinds pieces) (gentle ok kinds), m kinds)), gentle)
  sort_ends (o.BinaryRest n) more f r vs h = ([], [], (λ kinds settled. tt), (λ e kinds. tt))
  sort_ends o.MoreLabels more f r (v.Labels first ∷ vs) h =
      let (ok, goes_so, behind) = formed_ok (Non o.MoreLabels) more f in
      let (pieces, last, m, gentle) = r.ends (v.Labels (first ++ []) ∷ vs) (behind_not_first (Non o.MoreLabels) (head more) behind) in
      (pieces, last, (λ kinds. ([], _, (λ one us p. z.last p (mild_label (whole given kinds pieces) (gentle ok kinds))), m kinds)), gentle)
  sort_ends o.MoreLabels more f r vs h = ([], [], (λ kinds. tt), (λ e kinds. tt))
  sort_ends o.OwnTypeEnd more f r (v.Name one ∷ vs) h =
      let (pieces, last, m) = r.own_taken (formed_ok (Non o.OwnTypeEnd) more f).2 vs one.identifier in
      (pieces, last, (λ kinds word k e own. at_own more (Means last more) vs (at (t.Name n.Type word) k ∷ whole given kinds pieces) (m kinds n.Type word k (ap (λ q. q.identifier) (sym e)) own)), (λ e. never e))
  sort_ends o.OwnTypeEnd more f r vs h = ([], [], (λ kinds. tt), (λ e. never e))
  sort_ends o.OwnNamespaceEnd more f r (v.Name one ∷ vs) h =
      let (pieces, last, m) = r.own_taken (formed_ok (Non o.OwnNamespaceEnd) more f).2 vs one.identifier in
      (pieces, last, (λ kinds kind word k j e own. at_own more (Means last more) vs (at (t.Name kind word) k ∷ whole given kinds pieces) (m kinds kind word k (ap (λ q. q.identifier) (sym e)) own)), (λ e. never e))
  sort_ends o.OwnNamespaceEnd more f r vs h = ([], [], (λ kinds. tt), (λ e. never e))
  sort_ends o.OwnPropertyTypeEnd more f r (v.Name one ∷ vs) h =
      let (pieces, last, m) = r.own_taken (formed_ok (Non o.OwnPropertyTypeEnd) more f).2 vs one.identifier in
      (pieces, last, (λ kinds k e own. at_own more (Means last more) vs (at (t.Name n.Type c.Property) k ∷ whole given kinds pieces) (m kinds n.Type c.Property k (ap (λ q. q.identifier) (sym e)) own)), (λ e. never e))
  sort_ends o.OwnPropertyTypeEnd more f r vs h = ([], [], (λ kinds. tt), (λ e. never e))
  sort_ends o.OwnPropertyNamespaceEnd more f r (v.Name one ∷ vs) h =
      let (pieces, last, m) = r.own_taken (formed_ok (Non o.OwnPropertyNamespaceEnd) more f).2 vs one.identifier in
      (pieces, last, (λ kinds kind k j e own. at_own more (Means last more) vs (at (t.Name kind c.Property) k ∷ whole given kinds pieces) (m kinds kind c.Property k (ap (λ q. q.identifier) (sym e)) own)), (λ e. never e))
  sort_ends o.OwnPropertyNamespaceEnd more f r vs h = ([], [], (λ kinds. tt), (λ e. never e))
  sort_ends o.PropertyOrType more f r (v.Name one ∷ vs) h =
      let (pieces, last, m) = r.property_taken (formed_ok (Non o.PropertyOrType) more f).2 vs (record { tree = int_type; span = one.identifier.span }) in
      (int ∷ pieces, last, (λ kinds k e. m (λ n. kinds (suc n)) (whole given kinds (int ∷ pieces)) n.Type k nowhere (ap (λ q. q.identifier.span) (sym e)) (g.core (g.fundamental g.int g.last))), (λ e. never e))
  sort_ends o.PropertyOrType more f r vs h = ([], [], (λ kinds. tt), (λ e. never e))
  sort_ends o.PropertyOrNamespace more f r (v.Name one ∷ vs) h =
      let (pieces, last, m) = r.property_taken (formed_ok (Non o.PropertyOrNamespace) more f).2 vs (record { tree = int_type; span = one.identifier.span }) in
      (int ∷ pieces, last, (λ kinds kind k j e. m (λ n. kinds (suc n)) (whole given kinds (int ∷ pieces)) kind k nowhere (ap (λ q. q.identifier.span) (sym e)) (g.core (g.fundamental g.int g.last))), (λ e. never e))
  sort_ends o.PropertyOrNamespace more f r vs h = ([], [], (λ kinds. tt), (λ e. never e))
  sort_ends o.PropertyTypeOrName more f r (v.Name one ∷ v.Name kept ∷ vs) h =
      let (pieces, last, m) = r.declared_taken (formed_ok (Non o.PropertyTypeOrName) more f).2 vs (record { tree = type.Named [] kept.identifier [] kept.identifier.span; span = kept.identifier.span }) one.identifier in (
        pieces,
        last,
        (λ kinds kind word k l j e same. m kinds (at (t.Name n.Type c.Property) k ∷ at (t.Name kind word) l ∷ whole given kinds pieces) (t.Name kind word) l j (ap (λ q. q.identifier) (sym e))
            (subst (λ q. ReadsCore (type.Named [] q [] q.span) q.span (at (t.Name n.Type c.Property) k ∷ at (t.Name kind word) l ∷ whole given kinds pieces) (at (t.Name kind word) l ∷ whole given kinds pieces)) (ap (λ q. q.identifier) (sym same)) (g.named (g.alone g.none)))),
        (λ e. never e),
      )
  sort_ends o.PropertyTypeOrName more f r vs h = ([], [], (λ kinds. tt), (λ e. never e))
  sort_ends sort more f r vs h = filled sort more vs tt r (behind_not_first (Non sort) (head more) (formed_ok (Non sort) more f).2)

  pub ends_step : (symbol : Symbol) (more : List Symbol) → Formed (symbol ∷ more) → Known given more → CanEnd given (symbol ∷ more)
  ends_step (Act action) more f r vs h =
      let (pieces, last, m, gentle) = r.ends (build action vs) (behind_not_first (Act action) (head more) (formed_ok (Act action) more f).2) in (pieces, last, m, gentle)
  ends_step (Back input) more f r vs h = back_ends input more f r vs
  ends_step (Non sort) more f r vs h = sort_ends sort more f r vs h
