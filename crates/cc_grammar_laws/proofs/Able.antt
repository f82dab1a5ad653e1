-- Wherever the automaton still expects something, some tokens complete what was read.
use Rattle.std.proofs.Common.{◌≡◌, ◌∙◌, refl, sym, ap, subst, true≢false, ℕ, List, [], ◌∷◌, ◌++◌, map, true}
use Rattle.cc_tree.specs.declared.token.Token.{Token}
use Rattle.cc_tree.specs.declared.token.TokenKind.TheVariants as k
use Rattle.cc_tree.specs.declared.terminal.Terminal.TheVariants as t
use Rattle.cc_tree.specs.declared.terminal.NameKind.{NameKind}
use Rattle.cc_tree.specs.declared.terminal.ContextualWord.{ContextualWord}
use Rattle.cc_tree.specs.CollectedNames.{collected}
use Rattle.cc_tree.specs.Terminals.{Names, Classified, classify, terminal}
use Rattle.cc_tree.specs.GrammarUnit.{Front}
use Rattle.cc_table.specs.declared.symbols.Sort.TheVariants as o
use Rattle.cc_table.specs.declared.symbols.Action.TheVariants as a
use Rattle.cc_table.specs.declared.symbols.Input.TheVariants as i
use Rattle.cc_table.specs.declared.symbols.Symbol.{Symbol}
use Rattle.cc_table.specs.declared.symbols.Symbol.TheVariants.{Non, Act, Back}
use Rattle.cc_pushdown.specs.declared.value.Value.{Value}
use Rattle.cc_pushdown.specs.declared.value.Value.TheVariants as v
use Rattle.cc_pushdown.specs.Values.{below, nowhere}
use Rattle.cc_pushdown.specs.Machine.{feed, value_of, At}
use Rattle.cc_grammar_laws.specs.Fronts.{FrontBefore, FrontOfSource, StringIsCollected}
use Rattle.cc_grammar_laws.proofs.Stands.{StandsToken, Ahead, Stands}
use Rattle.cc_grammar_laws.proofs.MemberParts as parts
use Rattle.cc_grammar_laws.proofs.MemberParts.{TakesOwn, class_letters}
use Rattle.cc_grammar_laws.proofs.Means.{Means, MeansFed}
use Rattle.cc_grammar_laws.proofs.BackRun.{back_run, start_means}
use Rattle.cc_grammar_laws.proofs.BackExpressionOperators.{Claim}
use Rattle.cc_grammar_laws.proofs.AbleSymbols.{Head, after_core, after_named, after_path, member, own, core, named, Formed, behind_formed, formed_ok, start_formed, stays_formed, not_first, head}
use Rattle.cc_grammar_laws.proofs.Tokens.{Given, HasString, given_of, tokens_of, token_of}
use Rattle.cc_grammar_laws.proofs.GoodNames.{Good, good_below, good_head, comes_good, start_good}
use Rattle.cc_grammar_laws.proofs.AbleKnown.{Ends, Known, behind_not_first}
use Rattle.cc_grammar_laws.proofs.AbleEnds.{ends_step}
use Rattle.cc_grammar_laws.proofs.AbleGoes.{goes_step}
use Rattle.cc_grammar_laws.proofs.AbleTakes.{core_step, name_step}
use Rattle.cc_grammar_laws.proofs.AbleMemberTakes.{property_step, declared_step, own_step, late_step}
use Rattle.cc_grammar_laws.proofs.AblePieces.{NamedToken, name_stands, pieces_stand}

known : (given : Given) (more : List Symbol) → Formed more → Known given more
known given [] f = record {
  ends = λ vs h. ([], vs, (λ kinds. (refl, refl)), (λ e kinds. tt));
  goes_on = λ h. absurd (true≢false (sym h));
  core_taken = λ h. absurd (true≢false (sym h));
  name_taken = λ h. absurd (true≢false (sym h));
  property_taken = λ h. absurd (true≢false (sym h));
  declared_taken = λ h. absurd (true≢false (sym h));
  own_taken = λ h. absurd (true≢false (sym h));
  late = λ h. absurd (true≢false (sym h));
}
known given (symbol ∷ more) f =
    let r = known given more (behind_formed symbol more f) in
    record {
      ends = ends_step given symbol more f r;
      goes_on = goes_step given symbol more f r;
      core_taken = core_step given symbol more f r;
      name_taken = name_step given symbol more f r;
      property_taken = property_step given symbol more f r;
      declared_taken = declared_step given symbol more f r;
      own_taken = own_step given symbol more f r;
      late = late_step given symbol more f r;
    }

-- Some tokens, and all that are read as they are, complete what is expected.
abbrev Completed : Names → List Symbol → List Value → Type 0
Completed names more vs = (tokens : List Token) × (last : List Value) × ((ts : List Classified) → Ahead (map feed (classify names tokens)) ts → Means last more vs ts)

core_not_first : (behind : Head) → not_first (after_core behind) ≡ true
core_not_first member = refl
core_not_first own = refl
core_not_first _ = refl

named_not_first : (behind : Head) → not_first (after_named behind) ≡ true
named_not_first core = refl
named_not_first _ = refl

path_not_first : (behind : Head) → not_first (after_path behind) ≡ true
path_not_first named = refl
path_not_first _ = refl

module _ (names : Names) (has : HasString names) where
  ended : (more : List Symbol) (vs : List Value) → Ends (given_of names) more vs → Completed names more vs
  ended more vs (pieces, last, m, gentle) =
      (tokens_of names pieces, last, (λ ts h. let (kinds, e) = pieces_stand names has pieces ts h in subst (λ q. Means last more vs q) (sym e) (m kinds)))

  -- A destructor or a finaliser has the name of its class.
  own_ended : (more : List Symbol) (vs : List Value) (word : List ℕ) → word ≡ class_letters (below (below (below vs))) → (kind : NameKind) (contextual : ContextualWord) → terminal names (k.Word word) ≡ t.Name kind contextual
      → Completed names more (v.Name (record { kind = kind; word = contextual; identifier = record { name = word; span = nowhere } }) ∷ vs) → Completed names (Non o.OwnName ∷ more) vs
  own_ended more vs word letters_ kind contextual e (tokens, last, m) = (
    token_of (k.Word word) ∷ tokens,
    last,
    (λ ts h. let (rest, one, behind) = h in
        read (name_stands kind contextual word (subst (λ q. StandsToken q (value_of q (k.Word word) nowhere) ts rest) e one)) (m rest behind)),
  )
    where
      read : {ts rest : List Classified} → NamedToken kind contextual ts rest (record { name = word; span = nowhere }) → Means last more (v.Name (record { kind = kind; word = contextual; identifier = record { name = word; span = nowhere } }) ∷ vs) rest
          → Means last (Non o.OwnName ∷ more) vs ts
      read {ts} {rest} (one, same, e) behind =
          subst (λ q. Means last (Non o.OwnName ∷ more) vs q) (sym e) (
            kind,
            contextual,
            one,
            rest,
            parts.own (ap (λ q. q.name) same ∙ letters_),
            subst (λ q. Means last more (v.Name (record { kind = kind; word = contextual; identifier = q }) ∷ vs) rest) (sym same) behind,
          )

  completed : (more : List Symbol) (vs : List Value) → Formed more → Good names vs → Completed names more vs
  completed [] vs f g = ended [] vs ((known (given_of names) [] f).ends vs refl)
  completed (Non o.OwnName ∷ more) vs f g =
      let (kind, contextual, e) = good_head names (below (below (below vs))) (good_below names (below (below vs)) (good_below names (below vs) (good_below names vs g))) in
      own_ended more vs (class_letters (below (below (below vs)))) refl kind contextual e
      (ended more _ ((known (given_of names) more (behind_formed (Non o.OwnName) more f)).ends _ (behind_not_first (Non o.OwnName) (head more) (formed_ok (Non o.OwnName) more f).2)))
  completed (Non sort ∷ more) vs f g = ended (Non sort ∷ more) vs ((known (given_of names) (Non sort ∷ more) f).ends vs refl)
  completed (Act a.MakeNamed ∷ more) vs f g = ended (Act a.MakeNamed ∷ more) vs ((known (given_of names) (Act a.MakeNamed ∷ more) f).ends vs (named_not_first (head more)))
  completed (Act a.StartPath ∷ more) vs f g = ended (Act a.StartPath ∷ more) vs ((known (given_of names) (Act a.StartPath ∷ more) f).ends vs (path_not_first (head more)))
  completed (Act action ∷ more) vs f g = ended (Act action ∷ more) vs ((known (given_of names) (Act action ∷ more) f).ends vs refl)
  completed (Back i.CoreType ∷ more) vs f g = ended (Back i.CoreType ∷ more) vs ((known (given_of names) (Back i.CoreType ∷ more) f).ends vs (core_not_first (head more)))
  completed (Back input ∷ more) vs f g = ended (Back input ∷ more) vs ((known (given_of names) (Back input ∷ more) f).ends vs refl)

-- Tokens alone are no input that was put back.
no_claim : (names : Names) (more : List Symbol) (vs : List Value) (tokens : List Token) → Claim (At more vs (map feed (classify names tokens)))
no_claim names more vs [] = tt
no_claim names more vs (one ∷ tokens) = tt

ahead : (names : Names) (tokens : List Token) (ts : List Classified) → Stands (map feed (classify names tokens)) ts → Ahead (map feed (classify names tokens)) ts
ahead names [] ts h = h
ahead names (one ∷ tokens) ts h = h

meant : (names : Names) (last : List Value) (more : List Symbol) (vs : List Value) (tokens : List Token) (ts : List Classified) → Means last more vs ts → MeansFed last more vs (map feed (classify names tokens)) ts
meant names last more vs [] ts m = m
meant names last more vs (one ∷ tokens) ts m = m

pub front_before : FrontBefore
front_before names tokens more vs has runs =
    from (completed names has more vs (stays_formed (runs []) start_formed) (comes_good names (runs []) (start_good names (tokens ++ []))).0)
  where
    from : Completed names more vs → Front names tokens
    from (rest, last, m) =
        let (claims, meaning) = back_run last (runs rest) (no_claim names more vs rest) (λ ts h. meant names last more vs rest ts (m ts (ahead names rest ts h))) in
        let (tree, spells, ends) = start_means last names (tokens ++ rest) meaning in
        (rest, tree, spells)

pub string_is_collected : StringIsCollected
string_is_collected tokens = refl

pub front_of_source : FrontOfSource
front_of_source source tokens more vs runs = front_before (collected source) tokens more vs refl runs
