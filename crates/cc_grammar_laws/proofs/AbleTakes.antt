-- Tokens that complete what is expected behind a type or a name that was put back.
use Rattle.std.proofs.Common.{◌≡◌, arith, refl, sym, subst, true≢false, suc, List, [], ◌∷◌, Bool, true, false, ◌||◌}
use Rattle.std.specs.Prelude.{Some, None}
use Rattle.cc_base.specs.declared.text.Span.{Span}
use Rattle.cc_tree.specs.declared.token.Token.{Token}
use Rattle.cc_tree.specs.declared.terminal.Terminal.TheVariants as t
use Rattle.cc_tree.specs.declared.terminal.NameKind.{NameKind}
use Rattle.cc_tree.specs.declared.terminal.NameKind.TheVariants as n
use Rattle.cc_tree.specs.declared.terminal.ContextualWord.{ContextualWord}
use Rattle.cc_tree.specs.declared.terminal.ReservedWord.TheVariants as w
use Rattle.cc_tree.specs.declared.terminal.Sign.TheVariants as s
use Rattle.cc_tree.specs.declared.type_name.TypeName.TheVariants as type
use Rattle.cc_tree.specs.declared.expression.Expression.{Expression}
use Rattle.cc_tree.specs.declared.expression.Expression.TheVariants as e
use Rattle.cc_tree.specs.declared.expression.BinaryOperator.TheVariants as b
use Rattle.cc_tree.specs.declared.member.Member.TheVariants as made
use Rattle.cc_tree.specs.declared.member.Storage.TheVariants as storage
use Rattle.cc_tree.specs.declared.statement.Initializer.TheVariants as initial
use Rattle.cc_tree.specs.declared.statement.Statement.TheVariants as statement
use Rattle.cc_tree.specs.declared.statement.ForStart.TheVariants as start
use Rattle.cc_tree.specs.Terminals.{Classified, at, Id, plain, function}
use Rattle.cc_tree.specs.Spans.{across, after, identifier, qualified_span}
use Rattle.cc_tree.specs.Operators as op
use Rattle.cc_tree.specs.GrammarTypes as g
use Rattle.cc_tree.specs.GrammarTypes.{ReadsPath, ReadsNamed}
use Rattle.cc_tree.specs.GrammarExpressions as x
use Rattle.cc_tree.specs.GrammarExpressions.{NoBrace, NoParenthesis, ReadsExpression, ReadsUnary, ReadsPostfix, ReadsPrimary}
use Rattle.cc_tree.specs.GrammarStatements as z
use Rattle.cc_tree.specs.GrammarMembers as y
use Rattle.cc_tree.specs.GrammarMembers.{ReadsMember}
use Rattle.cc_table.specs.declared.symbols.Sort.TheVariants as o
use Rattle.cc_table.specs.declared.symbols.Action.TheVariants as a
use Rattle.cc_table.specs.declared.symbols.Input.TheVariants as i
use Rattle.cc_table.specs.declared.symbols.Symbol.{Symbol}
use Rattle.cc_table.specs.declared.symbols.Symbol.TheVariants.{Non, Act, Back}
use Rattle.cc_pushdown.specs.declared.value.QualifiedName.{QualifiedName}
use Rattle.cc_pushdown.specs.declared.value.Value.TheVariants as v
use Rattle.cc_pushdown.specs.Build.{first_span}
use Rattle.cc_pushdown.specs.Words.{selector_of}
use Rattle.cc_pushdown.specs.Values.{below, nowhere, top_expression, top_mark, top_name, top_qualified, top_storage}
use Rattle.cc_grammar_laws.proofs.ExpressionParts.{expressed}
use Rattle.cc_grammar_laws.proofs.MemberParts.{static_mark, virtual_mark, class_letters}
use Rattle.cc_grammar_laws.proofs.MemberParts as parts
use Rattle.cc_grammar_laws.proofs.Means.{Means}
use Rattle.cc_grammar_laws.proofs.AbleMembers.{field_of, storage_held}
use Rattle.cc_grammar_laws.proofs.AbleSymbols.{Head, is_takes, is_member, head, Formed, formed_ok}
use Rattle.cc_grammar_laws.proofs.Tokens.{a_sign, number, id, Given}
use Rattle.cc_grammar_laws.proofs.AbleExpressions.{less_top}
use Rattle.cc_grammar_laws.proofs.AbleEnds.{tight_less, zero_value, zero_read}
use Rattle.cc_grammar_laws.proofs.AbleKnown.{whole, CanTakeCore, CanTakeName, Known, behind_not_first, after_core_not, after_named_not, after_path_not}

abbrev takes_either_way : Head → Bool
takes_either_way behind = is_takes behind || is_member behind

-- a name alone as an expression
abbrev name_value : QualifiedName → Expression
name_value name = e.Name name.path name.name None (qualified_span name.path name.name)

abbrev name_span : QualifiedName → Span
name_span name = qualified_span name.path name.name

name_read : (name : QualifiedName) {kind : NameKind} {word : ContextualWord} {us ts : List Classified} (k : Token) → Id (t.Name kind word) → identifier k ≡ name.name → ReadsPath name.path us (at (t.Name kind word) k ∷ ts)
    → ReadsPrimary (name_value name) (name_span name) us ts
name_read name {us} {ts} k j same p = subst (λ q. ReadsPrimary (e.Name name.path q None (qualified_span name.path q)) (qualified_span name.path q) us ts) same (x.name p j)

primary_expression : {one : Expression} {span : Span} {us ts : List Classified} → ReadsPrimary one span us ts → ReadsExpression one span us ts
primary_expression p = x.conditional (x.binary (x.unary (x.postfix (x.primary p))))

module _ (given : Given) where
  pub core_step : (symbol : Symbol) (more : List Symbol) → Formed (symbol ∷ more) → Known given more → CanTakeCore given (symbol ∷ more)
  core_step (Non o.Operand) more f r h vs node =
      let (others, last, m, gentle) = r.ends (expressed (e.Construct node.tree (x.arguments [] (after nowhere)) (across node.span nowhere)) (across node.span nowhere) ∷ vs) (behind_not_first (Non o.Operand) (head more) (formed_ok (Non o.Operand) more f).2) in
      (a_sign s.OpenParenthesis ∷ a_sign s.CloseParenthesis ∷ others, last, (λ kinds us p. (_, _, _, x.construct p x.none, m (λ n. kinds (suc (suc n))))))
  core_step (Non o.NameTypes) more f r h vs node =
      let (others, last, m, gentle) = r.ends (expressed (e.Name (top_qualified (below vs)).path (top_qualified (below vs)).name (Some (record { types = node.tree ∷ []; span = across (top_mark vs).span nowhere })) (across (qualified_span (top_qualified (below vs)).path (top_qualified (below vs)).name) (across (top_mark vs).span nowhere))) (across (qualified_span (top_qualified (below vs)).path (top_qualified (below vs)).name) (across (top_mark vs).span nowhere)) ∷ below (below vs)) (behind_not_first (Non o.NameTypes) (head more) (formed_ok (Non o.NameTypes) more f).2) in (
        a_sign s.Greater ∷ others,
        last,
        (λ kinds us p first l. (
          _,
          _,
          _,
          (λ xs word k same q.
              subst (λ c. ReadsPrimary (e.Name (top_qualified (below vs)).path c (Some (record { types = node.tree ∷ []; span = across (top_mark vs).span nowhere })) (across (qualified_span (top_qualified (below vs)).path c) (across (top_mark vs).span nowhere))) (across (qualified_span (top_qualified (below vs)).path c) (across (top_mark vs).span nowhere)) xs (whole given (λ n. kinds (suc n)) others)) same
              (less_top vs l (λ from span. ReadsPath (top_qualified (below vs)).path xs (at (t.Name n.Function word) k ∷ from) → ReadsPrimary (e.Name (top_qualified (below vs)).path (identifier k) (Some (record { types = node.tree ∷ []; span = across span nowhere })) (across (qualified_span (top_qualified (below vs)).path (identifier k)) (across span nowhere))) (across (qualified_span (top_qualified (below vs)).path (identifier k)) (across span nowhere)) xs (whole given (λ n. kinds (suc n)) others))
              (λ less d. x.name_of d (g.listed (g.last (g.core p)))) q)),
          m (λ n. kinds (suc n)),
        )),
      )
  core_step (Non o.MemberTypes) more f r h vs node =
      let (others, last, m, gentle) = r.ends (expressed (e.Member (top_expression (below (below (below vs)))).tree (selector_of (top_mark (below (below vs))).terminal) (top_name (below vs)).identifier (Some (record { types = node.tree ∷ []; span = across (top_mark vs).span nowhere })) (across (top_expression (below (below (below vs)))).span (across (top_mark vs).span nowhere))) (across (top_expression (below (below (below vs)))).span (across (top_mark vs).span nowhere)) ∷ below (below (below (below vs)))) (behind_not_first (Non o.MemberTypes) (head more) (formed_ok (Non o.MemberTypes) more f).2) in (
        a_sign s.Greater ∷ others,
        last,
        (λ kinds us p first l. (
          _,
          _,
          _,
          (λ xs one dot word k same equal q.
              subst (λ c. ReadsPostfix (e.Member (top_expression (below (below (below vs)))).tree (selector_of (top_mark (below (below vs))).terminal) c (Some (record { types = node.tree ∷ []; span = across (top_mark vs).span nowhere })) (across (top_expression (below (below (below vs)))).span (across (top_mark vs).span nowhere))) (across (top_expression (below (below (below vs)))).span (across (top_mark vs).span nowhere)) xs (whole given (λ n. kinds (suc n)) others)) equal
              (less_top vs l (λ from span. ReadsPostfix (top_expression (below (below (below vs)))).tree (top_expression (below (below (below vs)))).span xs (at (t.Sign one) dot ∷ at (t.Name n.Function word) k ∷ from) → ReadsPostfix (e.Member (top_expression (below (below (below vs)))).tree (selector_of (top_mark (below (below vs))).terminal) (identifier k) (Some (record { types = node.tree ∷ []; span = across span nowhere })) (across (top_expression (below (below (below vs)))).span (across span nowhere))) (across (top_expression (below (below (below vs)))).span (across span nowhere)) xs (whole given (λ n. kinds (suc n)) others))
              (λ less d. x.member_of d same (g.listed (g.last (g.core p)))) q)),
          m (λ n. kinds (suc n)),
        )),
      )
  core_step (Non o.NewTypes) more f r h vs node =
      let (others, last, m, gentle) = r.ends (expressed (e.New (type.Named (top_qualified (below vs)).path (top_qualified (below vs)).name (node.tree ∷ []) (across (qualified_span (top_qualified (below vs)).path (top_qualified (below vs)).name) nowhere)) (Some (x.arguments [] (after nowhere))) (Some (x.arguments [] (after nowhere))) (across (top_mark (below (below vs))).span nowhere)) (across (top_mark (below (below vs))).span nowhere) ∷ below (below (below vs))) (behind_not_first (Non o.NewTypes) (head more) (formed_ok (Non o.NewTypes) more f).2) in (
        a_sign s.Greater ∷ a_sign s.OpenParenthesis ∷ a_sign s.CloseParenthesis ∷ a_sign s.OpenBrace ∷ a_sign s.CloseBrace ∷ others,
        last,
        (λ kinds us p first l. (
          _,
          _,
          _,
          (λ xs kind word k same q. x.new_with_of
              (subst (λ c. ReadsNamed (type.Named (top_qualified (below vs)).path c (node.tree ∷ []) (across (qualified_span (top_qualified (below vs)).path c) nowhere)) (across (qualified_span (top_qualified (below vs)).path c) nowhere) xs (whole given (λ n. kinds (suc n)) (a_sign s.OpenParenthesis ∷ a_sign s.CloseParenthesis ∷ a_sign s.OpenBrace ∷ a_sign s.CloseBrace ∷ others))) same
              (less_top vs l (λ from span. ReadsPath (top_qualified (below vs)).path xs (at (t.Name n.Type word) k ∷ from) → ReadsNamed (type.Named (top_qualified (below vs)).path (identifier k) (node.tree ∷ []) (across (qualified_span (top_qualified (below vs)).path (identifier k)) nowhere)) (across (qualified_span (top_qualified (below vs)).path (identifier k)) nowhere) xs (whole given (λ n. kinds (suc n)) (a_sign s.OpenParenthesis ∷ a_sign s.CloseParenthesis ∷ a_sign s.OpenBrace ∷ a_sign s.CloseBrace ∷ others)))
              (λ less d. g.applied d (g.last (g.core p))) q)) x.none x.none),
          m (λ n. kinds (suc (suc (suc (suc (suc n)))))),
        )),
      )
  core_step (Non o.CastOrGroup) more f r h vs node =
      let (others, last, m, gentle) = r.ends (expressed (e.Cast node.tree zero_value (across (top_mark vs).span nowhere)) (across (top_mark vs).span nowhere) ∷ below vs) (behind_not_first (Non o.CastOrGroup) (head more) (formed_ok (Non o.CastOrGroup) more f).2) in
      (a_sign s.CloseParenthesis ∷ number ∷ others, last, (λ kinds us p. (_, _, _, (λ kind. x.cast (g.core p) zero_read), m (λ n. kinds (suc (suc n))))))
  core_step (Non o.LocalOrExpression) more f r h vs node =
      let (others, last, m, gentle) = r.ends (v.Statement (record { tree = statement.Local (record { of = node.tree; declarators = record { name = identifier given.name; initializer = initial.Nothing; span = given.name.span } ∷ []; span = across node.span given.name.span }) (across (across node.span given.name.span) nowhere); span = across (across node.span given.name.span) nowhere }) ∷ vs) (behind_not_first (Non o.LocalOrExpression) (head more) (formed_ok (Non o.LocalOrExpression) more f).2) in
      (id ∷ a_sign s.Semicolon ∷ others, last, (λ kinds us p. (_, _, _, z.local (z.local (g.core p) (z.last (z.alone plain))), m (λ n. kinds (suc (suc n))))))
  core_step (Non o.LocalOrExpressionStart) more f r h vs node =
      let (others, last, m, gentle) = r.ends (v.ForStart (start.Local (record { of = node.tree; declarators = record { name = identifier given.name; initializer = initial.Nothing; span = given.name.span } ∷ []; span = across node.span given.name.span })) ∷ vs) (behind_not_first (Non o.LocalOrExpressionStart) (head more) (formed_ok (Non o.LocalOrExpressionStart) more f).2) in
      (id ∷ a_sign s.Semicolon ∷ others, last, (λ kinds us p. (_, _, z.local (z.local (g.core p) (z.last (z.alone plain))), m (λ n. kinds (suc (suc n))))))
  core_step (Non o.MemberRest) more f r h vs node =
      let (others, last, m, gentle) = r.ends (v.Member (made.Fields false node.tree (identifier given.name ∷ []) (across (first_span None node.span) nowhere)) ∷ below vs) (behind_not_first (Non o.MemberRest) (head more) (formed_ok (Non o.MemberRest) more f).2) in
      (id ∷ a_sign s.Semicolon ∷ others, last, (λ kinds us p. (_, _, (λ same. field_of parts.nothing (g.core p) (y.last plain)), m (λ n. kinds (suc (suc n))))))
  core_step (Non o.StaticMember) more f r h vs node =
      let (others, last, m, gentle) = r.ends (v.Member (made.Fields true node.tree (identifier given.name ∷ []) (across (first_span (top_storage vs) node.span) nowhere)) ∷ below vs) (behind_not_first (Non o.StaticMember) (head more) (formed_ok (Non o.StaticMember) more f).2) in (
        id ∷ a_sign s.Semicolon ∷ others,
        last,
        (λ kinds us p. (
          _,
          _,
          (λ k same. subst (λ q. ReadsMember (class_letters (below (below vs))) (made.Fields true node.tree (identifier given.name ∷ []) (across (first_span q node.span) nowhere)) (at (t.Word w.Static) k ∷ us) (whole given (λ n. kinds (suc (suc n))) others)) (sym same)
              (field_of {kept = Some (static_mark k)} parts.static (g.core p) (y.last plain))),
          m (λ n. kinds (suc (suc n))),
        )),
      )
  core_step (Non o.VirtualMember) more f r h vs node =
      let (others, last, m, gentle) = r.ends (v.Member (made.Function storage.Virtual node.tree (identifier given.name) (record { items = []; span = after nowhere }) [] None None (across (first_span (top_storage vs) node.span) nowhere)) ∷ below vs) (behind_not_first (Non o.VirtualMember) (head more) (formed_ok (Non o.VirtualMember) more f).2) in (
        id ∷ a_sign s.OpenParenthesis ∷ a_sign s.CloseParenthesis ∷ a_sign s.Semicolon ∷ others,
        last,
        (λ kinds us p. (
          _,
          _,
          (λ k same. subst (λ q. ReadsMember (class_letters (below (below vs))) (made.Function storage.Virtual node.tree (identifier given.name) (record { items = []; span = after nowhere }) [] None None (across (first_span q node.span) nowhere)) (at (t.Word w.Virtual) k ∷ us) (whole given (λ n. kinds (suc (suc (suc (suc n))))) others)) (sym same)
              (y.function (storage_held {kept = Some (virtual_mark k)} parts.virtual node.span) (g.core p) plain y.none y.none y.none y.none)),
          m (λ n. kinds (suc (suc (suc (suc n))))),
        )),
      )
  core_step (Back i.CoreType) more f r h vs node = absurd (after_core_not (λ s. takes_either_way s) refl refl (head more) h)
  core_step (Act a.MakeNamed) more f r h vs node = absurd (after_named_not (λ s. takes_either_way s) refl refl (head more) h)
  core_step (Act a.StartPath) more f r h vs node = absurd (after_path_not (λ s. takes_either_way s) refl refl (head more) h)
  core_step (Non _) more f r h vs node = absurd (true≢false (sym h))
  core_step (Act _) more f r h vs node = absurd (true≢false (sym h))
  core_step (Back _) more f r h vs node = absurd (true≢false (sym h))

  pub name_step : (symbol : Symbol) (more : List Symbol) → Formed (symbol ∷ more) → Known given more → CanTakeName given (symbol ∷ more)
  name_step (Non o.Operand) more f r h kind named vs name =
      let (others, last, m, gentle) = r.ends (expressed (name_value name) (name_span name) ∷ vs) (behind_not_first (Non o.Operand) (head more) (formed_ok (Non o.Operand) more f).2) in
      (others, last, (λ kinds us word k same p. (_, _, _, name_read name k (named word) same p, m kinds)))
  name_step (Non o.NameTypes) more f r h kind named vs name =
      let (pieces, last, m) = r.goes_on (formed_ok (Non o.NameTypes) more f).1 (expressed (name_value (top_qualified (below vs))) (name_span (top_qualified (below vs))) ∷ below (below vs)) b.Less (omega arith) (name_value name) (name_span name) in (
        pieces,
        last,
        (λ kinds us word k same p first l. (
          _,
          _,
          first,
          (λ xs second l equal q. name_read (top_qualified (below vs)) l function equal q),
          less_top vs l (λ from span. Means last more (expressed (name_value (top_qualified (below vs))) (name_span (top_qualified (below vs))) ∷ below (below vs)) from) (λ less. m kinds (at (t.Sign s.Less) less ∷ us) us (tight_less less us) (op.sign refl) (x.postfix (x.primary (name_read name k (named word) same p)))),
        )),
      )
  name_step (Non o.MemberTypes) more f r h kind named vs name =
      let (pieces, last, m) = r.goes_on (formed_ok (Non o.MemberTypes) more f).1 (expressed (e.Member (top_expression (below (below (below vs)))).tree (selector_of (top_mark (below (below vs))).terminal) (top_name (below vs)).identifier None (across (top_expression (below (below (below vs)))).span (top_name (below vs)).identifier.span)) (across (top_expression (below (below (below vs)))).span (top_name (below vs)).identifier.span) ∷ below (below (below (below vs)))) b.Less (omega arith) (name_value name) (name_span name) in (
        pieces,
        last,
        (λ kinds us word k same p first l. (
          _,
          _,
          first,
          (λ xs one dot second l equal alike q.
              subst (λ c. ReadsPostfix (e.Member (top_expression (below (below (below vs)))).tree (selector_of (top_mark (below (below vs))).terminal) c None (across (top_expression (below (below (below vs)))).span c.span)) (across (top_expression (below (below (below vs)))).span c.span) xs first) alike (x.member q equal function)),
          less_top vs l (λ from span. Means last more (expressed (e.Member (top_expression (below (below (below vs)))).tree (selector_of (top_mark (below (below vs))).terminal) (top_name (below vs)).identifier None (across (top_expression (below (below (below vs)))).span (top_name (below vs)).identifier.span)) (across (top_expression (below (below (below vs)))).span (top_name (below vs)).identifier.span) ∷ below (below (below (below vs)))) from) (λ less. m kinds (at (t.Sign s.Less) less ∷ us) us (tight_less less us) (op.sign refl) (x.postfix (x.primary (name_read name k (named word) same p)))),
        )),
      )
  name_step (Non o.NewTypes) more f r h kind named vs name =
      let (pieces, last, m) = r.goes_on (formed_ok (Non o.NewTypes) more f).1 (expressed (e.New (type.Named (top_qualified (below vs)).path (top_qualified (below vs)).name [] (qualified_span (top_qualified (below vs)).path (top_qualified (below vs)).name)) None None (across (top_mark (below (below vs))).span (qualified_span (top_qualified (below vs)).path (top_qualified (below vs)).name))) (across (top_mark (below (below vs))).span (qualified_span (top_qualified (below vs)).path (top_qualified (below vs)).name)) ∷ below (below (below vs))) b.Less (omega arith) (name_value name) (name_span name) in (
        pieces,
        last,
        (λ kinds us word k same p first l. (
          _,
          _,
          first,
          (λ xs kind second l' equal q.
              let (no_parenthesis, no_brace) = less_top vs l (λ from span. NoParenthesis from × NoBrace from) (λ less. (tt, tt)) in
              x.new (subst (λ c. ReadsNamed (type.Named (top_qualified (below vs)).path c [] (qualified_span (top_qualified (below vs)).path c)) (qualified_span (top_qualified (below vs)).path c) xs first) equal (g.alone q)) no_parenthesis no_brace),
          less_top vs l (λ from span. Means last more (expressed (e.New (type.Named (top_qualified (below vs)).path (top_qualified (below vs)).name [] (qualified_span (top_qualified (below vs)).path (top_qualified (below vs)).name)) None None (across (top_mark (below (below vs))).span (qualified_span (top_qualified (below vs)).path (top_qualified (below vs)).name))) (across (top_mark (below (below vs))).span (qualified_span (top_qualified (below vs)).path (top_qualified (below vs)).name)) ∷ below (below (below vs))) from) (λ less. m kinds (at (t.Sign s.Less) less ∷ us) us (tight_less less us) (op.sign refl) (x.postfix (x.primary (name_read name k (named word) same p)))),
        )),
      )
  name_step (Non o.CastOrGroup) more f r h kind named vs name =
      let (others, last, m, gentle) = r.ends (expressed (e.Group (name_value name) (across (top_mark vs).span nowhere)) (across (top_mark vs).span nowhere) ∷ below vs) (behind_not_first (Non o.CastOrGroup) (head more) (formed_ok (Non o.CastOrGroup) more f).2) in
      (a_sign s.CloseParenthesis ∷ others, last, (λ kinds us word k same p. (_, _, _, (λ kind. x.postfix (x.primary (x.group (primary_expression (name_read name k (named word) same p))))), m (λ n. kinds (suc n)))))
  name_step (Non o.LocalOrExpression) more f r h kind named vs name =
      let (others, last, m, gentle) = r.ends (v.Statement (record { tree = statement.Expression (name_value name) (across (name_span name) nowhere); span = across (name_span name) nowhere }) ∷ vs) (behind_not_first (Non o.LocalOrExpression) (head more) (formed_ok (Non o.LocalOrExpression) more f).2) in
      (a_sign s.Semicolon ∷ others, last, (λ kinds us word k same p. (_, _, _, z.expression (primary_expression (name_read name k (named word) same p)), m (λ n. kinds (suc n)))))
  name_step (Non o.LocalOrExpressionStart) more f r h kind named vs name =
      let (others, last, m, gentle) = r.ends (v.ForStart (start.Expression (name_value name)) ∷ vs) (behind_not_first (Non o.LocalOrExpressionStart) (head more) (formed_ok (Non o.LocalOrExpressionStart) more f).2) in
      (a_sign s.Semicolon ∷ others, last, (λ kinds us word k same p. (_, _, z.expression (primary_expression (name_read name k (named word) same p)), m (λ n. kinds (suc n)))))
  name_step (Back i.CoreType) more f r h kind named vs name = absurd (after_core_not (λ s. is_takes s) refl refl (head more) h)
  name_step (Act a.MakeNamed) more f r h kind named vs name = absurd (after_named_not (λ s. is_takes s) refl refl (head more) h)
  name_step (Act a.StartPath) more f r h kind named vs name = absurd (after_path_not (λ s. is_takes s) refl refl (head more) h)
  name_step (Non _) more f r h kind named vs name = absurd (true≢false (sym h))
  name_step (Act _) more f r h kind named vs name = absurd (true≢false (sym h))
  name_step (Back _) more f r h kind named vs name = absurd (true≢false (sym h))
