-- Tokens that complete what is expected behind the beginning of a member.
use Rattle.std.proofs.Common.{refl, sym, subst, true≢false, suc, List, [], ◌∷◌, true, false}
use Rattle.std.specs.Prelude.{Some, None}
use Rattle.cc_tree.specs.declared.terminal.Terminal.TheVariants as t
use Rattle.cc_tree.specs.declared.terminal.ContextualWord.TheVariants as c
use Rattle.cc_tree.specs.declared.terminal.ReservedWord.TheVariants as w
use Rattle.cc_tree.specs.declared.terminal.Sign.TheVariants as s
use Rattle.cc_tree.specs.declared.member.Member.TheVariants as made
use Rattle.cc_tree.specs.declared.member.Storage.TheVariants as storage
use Rattle.cc_tree.specs.declared.member.PropertyName.TheVariants as property_name
use Rattle.cc_tree.specs.Terminals.{at, plain}
use Rattle.cc_tree.specs.Spans.{across, after, identifier}
use Rattle.cc_tree.specs.GrammarTypes as g
use Rattle.cc_tree.specs.GrammarTypes.{ReadsPath, ReadsNamed}
use Rattle.cc_tree.specs.GrammarStatements as z
use Rattle.cc_tree.specs.GrammarMembers as y
use Rattle.cc_tree.specs.GrammarMembers.{ReadsMember}
use Rattle.cc_table.specs.declared.symbols.Sort.TheVariants as o
use Rattle.cc_table.specs.declared.symbols.Action.TheVariants as a
use Rattle.cc_table.specs.declared.symbols.Input.TheVariants as i
use Rattle.cc_table.specs.declared.symbols.Symbol.{Symbol}
use Rattle.cc_table.specs.declared.symbols.Symbol.TheVariants.{Non, Act, Back}
use Rattle.cc_pushdown.specs.declared.value.Value.TheVariants as v
use Rattle.cc_pushdown.specs.Build.{first_span, build}
use Rattle.cc_pushdown.specs.Values.{below, nowhere, top_storage, top_type_name}
use Rattle.cc_grammar_laws.proofs.MemberParts.{static_mark, virtual_mark, class_letters}
use Rattle.cc_grammar_laws.proofs.MemberParts as parts
use Rattle.cc_grammar_laws.proofs.AbleMembers.{field_of, storage_held}
use Rattle.cc_grammar_laws.proofs.AbleSymbols.{is_member, is_own, head, Formed, formed_ok}
use Rattle.cc_grammar_laws.proofs.Tokens.{a_sign, id, Given}
use Rattle.cc_grammar_laws.proofs.AbleEnds.{core_top}
use Rattle.cc_grammar_laws.proofs.AbleKnown.{whole, CanTakeProperty, CanTakeDeclared, CanTakeOwn, CanDeclare, Known, behind_not_first, after_core_not, after_named_not, after_path_not, late_core, late_named, late_path}

module _ (given : Given) where
  pub property_step : (symbol : Symbol) (more : List Symbol) → Formed (symbol ∷ more) → Known given more → CanTakeProperty given (symbol ∷ more)
  property_step (Non o.MemberRest) more f r h vs node =
      let (others, last, m, gentle) = r.ends (v.Member (made.Property storage.Nothing node.tree (property_name.Named (identifier given.name)) [] (across node.span nowhere)) ∷ below vs) (behind_not_first (Non o.MemberRest) (head more) (formed_ok (Non o.MemberRest) more f).2) in (
        id ∷ a_sign s.Semicolon ∷ others,
        last,
        (λ kinds us kind k span same p. (
          _,
          _,
          (λ none_kept.
              subst (λ q. ReadsMember (class_letters (below (below vs))) (made.Property storage.Nothing node.tree (property_name.Named (identifier given.name)) [] (across q nowhere)) (at (t.Name kind c.Property) k ∷ us) (whole given (λ n. kinds (suc (suc n))) others)) same (y.property y.none p (y.named plain) y.trivial)),
          m (λ n. kinds (suc (suc n))),
        )),
      )
  property_step (Non o.StaticMember) more f r h vs node =
      let (others, last, m, gentle) = r.ends (v.Member (made.Property storage.Static node.tree (property_name.Named (identifier given.name)) [] (across (first_span (top_storage vs) node.span) nowhere)) ∷ below vs) (behind_not_first (Non o.StaticMember) (head more) (formed_ok (Non o.StaticMember) more f).2) in (
        id ∷ a_sign s.Semicolon ∷ others,
        last,
        (λ kinds us kind k span same p. (
          _,
          _,
          (λ l kept.
              subst (λ q. ReadsMember (class_letters (below (below vs))) (made.Property storage.Static node.tree (property_name.Named (identifier given.name)) [] (across (first_span q node.span) nowhere)) (at (t.Word w.Static) l ∷ at (t.Name kind c.Property) k ∷ us) (whole given (λ n. kinds (suc (suc n))) others)) (sym kept) (y.property y.static p (y.named plain) y.trivial)),
          m (λ n. kinds (suc (suc n))),
        )),
      )
  property_step (Non o.VirtualMember) more f r h vs node =
      let (others, last, m, gentle) = r.ends (v.Member (made.Property storage.Virtual node.tree (property_name.Named (identifier given.name)) [] (across (first_span (top_storage vs) node.span) nowhere)) ∷ below vs) (behind_not_first (Non o.VirtualMember) (head more) (formed_ok (Non o.VirtualMember) more f).2) in (
        id ∷ a_sign s.Semicolon ∷ others,
        last,
        (λ kinds us kind k span same p. (
          _,
          _,
          (λ l kept.
              subst (λ q. ReadsMember (class_letters (below (below vs))) (made.Property storage.Virtual node.tree (property_name.Named (identifier given.name)) [] (across (first_span q node.span) nowhere)) (at (t.Word w.Virtual) l ∷ at (t.Name kind c.Property) k ∷ us) (whole given (λ n. kinds (suc (suc n))) others)) (sym kept) (y.property y.virtual p (y.named plain) y.trivial)),
          m (λ n. kinds (suc (suc n))),
        )),
      )
  property_step (Back i.CoreType) more f r h vs node = absurd (after_core_not (λ s. is_member s) refl refl (head more) h)
  property_step (Act a.MakeNamed) more f r h vs node = absurd (after_named_not (λ s. is_member s) refl refl (head more) h)
  property_step (Act a.StartPath) more f r h vs node = absurd (after_path_not (λ s. is_member s) refl refl (head more) h)
  property_step (Non _) more f r h vs node = absurd (true≢false (sym h))
  property_step (Act _) more f r h vs node = absurd (true≢false (sym h))
  property_step (Back _) more f r h vs node = absurd (true≢false (sym h))

  pub declared_step : (symbol : Symbol) (more : List Symbol) → Formed (symbol ∷ more) → Known given more → CanTakeDeclared given (symbol ∷ more)
  declared_step (Non o.MemberRest) more f r h vs node name =
      let (others, last, m, gentle) = r.ends (v.Member (made.Fields false node.tree (name ∷ []) (across (first_span None node.span) nowhere)) ∷ below vs) (behind_not_first (Non o.MemberRest) (head more) (formed_ok (Non o.MemberRest) more f).2) in (
        a_sign s.Semicolon ∷ others,
        last,
        (λ kinds us named k j same p. (
          _,
          _,
          (λ none_kept.
              subst (λ q. ReadsMember (class_letters (below (below vs))) (made.Fields false node.tree (q ∷ []) (across (first_span None node.span) nowhere)) us (whole given (λ n. kinds (suc n)) others)) same (field_of parts.nothing (g.core p) (y.last j))),
          m (λ n. kinds (suc n)),
        )),
      )
  declared_step (Non o.StaticMember) more f r h vs node name =
      let (others, last, m, gentle) = r.ends (v.Member (made.Fields true node.tree (name ∷ []) (across (first_span (top_storage vs) node.span) nowhere)) ∷ below vs) (behind_not_first (Non o.StaticMember) (head more) (formed_ok (Non o.StaticMember) more f).2) in (
        a_sign s.Semicolon ∷ others,
        last,
        (λ kinds us named k j same p. (
          _,
          _,
          (λ l kept.
              subst (λ st. ReadsMember (class_letters (below (below vs))) (made.Fields true node.tree (name ∷ []) (across (first_span st node.span) nowhere)) (at (t.Word w.Static) l ∷ us) (whole given (λ n. kinds (suc n)) others)) (sym kept)
              (subst (λ q. ReadsMember (class_letters (below (below vs))) (made.Fields true node.tree (q ∷ []) (across (first_span (Some (static_mark l)) node.span) nowhere)) (at (t.Word w.Static) l ∷ us) (whole given (λ n. kinds (suc n)) others)) same (field_of {kept = Some (static_mark l)} parts.static (g.core p) (y.last j)))),
          m (λ n. kinds (suc n)),
        )),
      )
  declared_step (Non o.VirtualMember) more f r h vs node name =
      let (others, last, m, gentle) = r.ends (v.Member (made.Function storage.Virtual node.tree name (record { items = []; span = after nowhere }) [] None None (across (first_span (top_storage vs) node.span) nowhere)) ∷ below vs) (behind_not_first (Non o.VirtualMember) (head more) (formed_ok (Non o.VirtualMember) more f).2) in (
        a_sign s.OpenParenthesis ∷ a_sign s.CloseParenthesis ∷ a_sign s.Semicolon ∷ others,
        last,
        (λ kinds us named k j same p. (
          _,
          _,
          (λ l kept.
              subst (λ st. ReadsMember (class_letters (below (below vs))) (made.Function storage.Virtual node.tree name (record { items = []; span = after nowhere }) [] None None (across (first_span st node.span) nowhere)) (at (t.Word w.Virtual) l ∷ us) (whole given (λ n. kinds (suc (suc (suc n)))) others)) (sym kept)
              (subst (λ q. ReadsMember (class_letters (below (below vs))) (made.Function storage.Virtual node.tree q (record { items = []; span = after nowhere }) [] None None (across (first_span (Some (virtual_mark l)) node.span) nowhere)) (at (t.Word w.Virtual) l ∷ us) (whole given (λ n. kinds (suc (suc (suc n)))) others)) same
              (y.function (storage_held {kept = Some (virtual_mark l)} parts.virtual node.span) (g.core p) j y.none y.none y.none y.none))),
          m (λ n. kinds (suc (suc (suc n)))),
        )),
      )
  declared_step (Back i.CoreType) more f r h vs node name = absurd (after_core_not (λ s. is_member s) refl refl (head more) h)
  declared_step (Act a.MakeNamed) more f r h vs node name = absurd (after_named_not (λ s. is_member s) refl refl (head more) h)
  declared_step (Act a.StartPath) more f r h vs node name = absurd (after_path_not (λ s. is_member s) refl refl (head more) h)
  declared_step (Non _) more f r h vs node name = absurd (true≢false (sym h))
  declared_step (Act _) more f r h vs node name = absurd (true≢false (sym h))
  declared_step (Back _) more f r h vs node name = absurd (true≢false (sym h))

  pub own_step : (symbol : Symbol) (more : List Symbol) → Formed (symbol ∷ more) → Known given more → CanTakeOwn given (symbol ∷ more)
  own_step (Non o.MemberRest) more f r h vs name =
      let (others, last, m, gentle) = r.ends (v.Member (made.Constructor name (record { items = []; span = after nowhere }) [] (z.block [] nowhere) (across name.span nowhere)) ∷ below vs) (behind_not_first (Non o.MemberRest) (head more) (formed_ok (Non o.MemberRest) more f).2) in (
        a_sign s.OpenParenthesis ∷ a_sign s.CloseParenthesis ∷ a_sign s.OpenBrace ∷ a_sign s.CloseBrace ∷ others,
        last,
        (λ kinds kind word k same own. (
          _,
          _,
          (λ none_kept.
              subst (λ q. ReadsMember (class_letters (below (below vs))) (made.Constructor q (record { items = []; span = after nowhere }) [] (z.block [] nowhere) (across q.span nowhere)) (at (t.Name kind word) k ∷ whole given kinds (a_sign s.OpenParenthesis ∷ a_sign s.CloseParenthesis ∷ a_sign s.OpenBrace ∷ a_sign s.CloseBrace ∷ others)) (whole given (λ n. kinds (suc (suc (suc (suc n))))) others)) same (y.constructor own y.none y.none (z.block_ z.no_statement))),
          m (λ n. kinds (suc (suc (suc (suc n))))),
        )),
      )
  own_step (Back i.CoreType) more f r h vs name = absurd (after_core_not (λ s. is_own s) refl refl (head more) h)
  own_step (Act a.MakeNamed) more f r h vs name = absurd (after_named_not (λ s. is_own s) refl refl (head more) h)
  own_step (Act a.StartPath) more f r h vs name = absurd (after_path_not (λ s. is_own s) refl refl (head more) h)
  own_step (Non _) more f r h vs name = absurd (true≢false (sym h))
  own_step (Act _) more f r h vs name = absurd (true≢false (sym h))
  own_step (Back _) more f r h vs name = absurd (true≢false (sym h))

  pub late_step : (symbol : Symbol) (more : List Symbol) → Formed (symbol ∷ more) → Known given more → CanDeclare given (symbol ∷ more)
  late_step (Back i.CoreType) more f r h vs name =
      let (pieces, last, m) = r.declared_taken (late_core (head more) h) (below vs) (top_type_name vs) name in (pieces, last, (λ kinds named k j same us stood. m kinds us named k j same (core_top vs stood)))
  late_step (Act a.MakeNamed) more f r h vs name = let (pieces, last, m) = r.late (late_named (head more) h) (build a.MakeNamed vs) name in (pieces, last, m)
  late_step (Act a.StartPath) more f r h vs name = let (pieces, last, m) = r.late (late_path (head more) h) (build a.StartPath vs) name in (pieces, last, m)
  late_step (Non o.MemberRest) more f r h vs name = absurd (true≢false (sym h))
  late_step (Non _) more f r h vs name = absurd (true≢false (sym h))
  late_step (Act _) more f r h vs name = absurd (true≢false (sym h))
  late_step (Back _) more f r h vs name = absurd (true≢false (sym h))
