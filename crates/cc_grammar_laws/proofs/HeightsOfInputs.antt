-- Values without a tree have no height, and inputs bring a tree where their patterns do.
use Rattle.std.proofs.Common.{◌≡◌, refl, sym, List, [], ◌∷◌, Bool, true, false, cond, true≢false}
use Rattle.cc_tree.specs.declared.terminal.Terminal.{Terminal}
use Rattle.cc_tree.specs.declared.terminal.Terminal.TheVariants as t
use Rattle.cc_tree.specs.declared.terminal.NameKind.{NameKind}
use Rattle.cc_tree.specs.declared.terminal.ContextualWord.{ContextualWord}
use Rattle.cc_tree.specs.declared.terminal.Sign.TheVariants as s
use Rattle.cc_table.specs.declared.symbols.Sort.{Sort}
use Rattle.cc_table.specs.declared.symbols.Sort.TheVariants as o
use Rattle.cc_table.specs.declared.symbols.Input.{Input}
use Rattle.cc_table.specs.declared.symbols.Input.TheVariants as i
use Rattle.cc_table.specs.declared.symbols.Pattern.{Pattern}
use Rattle.cc_table.specs.declared.symbols.Pattern.TheVariants as p
use Rattle.cc_table.specs.Choice.{accepts, accepts_token, accepts_own, accepts_returned}
use Rattle.cc_pushdown.specs.declared.value.Value.{Value}
use Rattle.cc_pushdown.specs.declared.value.Value.TheVariants as v
use Rattle.cc_pushdown.specs.Values.{below, top, HasMark, HasName, HasNumber, HasCharacter, HasLiteral, HasPath, HasQualified, HasTexts, HasModifiers, HasNames, HasStorage, HasModifierWord, HasOperator, HasClassModifiers}
use Rattle.cc_pushdown.specs.Machine.{seen, own_seen, own_or, is_own, touching_seen, touches}
use Rattle.cc_grammar_laws.specs.Kinds.{Kind, Has, HasNoStorage, input_kind}
use Rattle.cc_grammar_laws.specs.Heights.{height, is_tree}
use Rattle.cc_grammar_laws.proofs.LeastOfParts.{is_flat, is_tree_pattern}

mark_flat : (vs : List Value) → HasMark vs → height (top vs) ≡ 0
mark_flat (v.Mark value ∷ vs) h = refl
mark_flat _ h = absurd h

name_flat : (vs : List Value) → HasName vs → height (top vs) ≡ 0
name_flat (v.Name value ∷ vs) h = refl
name_flat _ h = absurd h

number_flat : (vs : List Value) → HasNumber vs → height (top vs) ≡ 0
number_flat (v.Number value ∷ vs) h = refl
number_flat _ h = absurd h

character_flat : (vs : List Value) → HasCharacter vs → height (top vs) ≡ 0
character_flat (v.Character value ∷ vs) h = refl
character_flat _ h = absurd h

literal_flat : (vs : List Value) → HasLiteral vs → height (top vs) ≡ 0
literal_flat (v.Literal value ∷ vs) h = refl
literal_flat _ h = absurd h

path_flat : (vs : List Value) → HasPath vs → height (top vs) ≡ 0
path_flat (v.Path value ∷ vs) h = refl
path_flat _ h = absurd h

qualified_flat : (vs : List Value) → HasQualified vs → height (top vs) ≡ 0
qualified_flat (v.Qualified value ∷ vs) h = refl
qualified_flat _ h = absurd h

texts_flat : (vs : List Value) → HasTexts vs → height (top vs) ≡ 0
texts_flat (v.Texts value ∷ vs) h = refl
texts_flat _ h = absurd h

modifiers_flat : (vs : List Value) → HasModifiers vs → height (top vs) ≡ 0
modifiers_flat (v.Modifiers value ∷ vs) h = refl
modifiers_flat _ h = absurd h

names_flat : (vs : List Value) → HasNames vs → height (top vs) ≡ 0
names_flat (v.Names value ∷ vs) h = refl
names_flat _ h = absurd h

no_storage_flat : (vs : List Value) → HasNoStorage vs → height (top vs) ≡ 0
no_storage_flat (v.NoStorage ∷ vs) h = refl
no_storage_flat _ h = absurd h

storage_flat : (vs : List Value) → HasStorage vs → height (top vs) ≡ 0
storage_flat (v.Mark value ∷ vs) h = refl
storage_flat (v.NoStorage ∷ vs) h = refl
storage_flat _ h = absurd h

modifier_word_flat : (vs : List Value) → HasModifierWord vs → height (top vs) ≡ 0
modifier_word_flat (v.Mark value ∷ vs) h = refl
modifier_word_flat (v.Name value ∷ vs) h = refl
modifier_word_flat _ h = absurd h

operator_flat : (vs : List Value) → HasOperator vs → height (top vs) ≡ 0
operator_flat (v.Operator value ∷ vs) h = refl
operator_flat _ h = absurd h

class_modifiers_flat : (vs : List Value) → HasClassModifiers vs → height (top vs) ≡ 0
class_modifiers_flat (v.ClassModifiers value ∷ vs) h = refl
class_modifiers_flat _ h = absurd h

pub flat_height : (kind : Kind) (vs : List Value) → is_flat kind ≡ true → Has kind vs → height (top vs) ≡ 0
flat_height Kind.mark vs f h = mark_flat vs h
flat_height Kind.name vs f h = name_flat vs h
flat_height Kind.number vs f h = number_flat vs h
flat_height Kind.character vs f h = character_flat vs h
flat_height Kind.literal vs f h = literal_flat vs h
flat_height Kind.path vs f h = path_flat vs h
flat_height Kind.qualified vs f h = qualified_flat vs h
flat_height Kind.texts vs f h = texts_flat vs h
flat_height Kind.modifiers vs f h = modifiers_flat vs h
flat_height Kind.names vs f h = names_flat vs h
flat_height Kind.no_storage vs f h = no_storage_flat vs h
flat_height Kind.storage vs f h = storage_flat vs h
flat_height Kind.modifier_word vs f h = modifier_word_flat vs h
flat_height Kind.operator vs f h = operator_flat vs h
flat_height Kind.class_modifiers vs f h = class_modifiers_flat vs h
flat_height _ vs f h = absurd (true≢false (sym f))

-- Each kind is that of some value.
pub has_some : (kind : Kind) → Has kind [] → ⊥
has_some Kind.mark h = h
has_some _ h = h

pub flat_input : (input : Input) → is_tree input ≡ false → is_flat (input_kind input) ≡ true
flat_input (i.Token (t.Name kind word)) h = refl
flat_input (i.Token _) h = refl
flat_input i.CoreType h = absurd (true≢false h)
flat_input i.OperandType h = absurd (true≢false h)
flat_input i.PropertyType h = absurd (true≢false h)
flat_input _ h = refl

-- A pattern accepts inputs that bring a tree, or others.
token_other : (pattern : Pattern) (terminal : Terminal) → accepts_token pattern terminal ≡ true → is_tree_pattern pattern ≡ false
token_other p.CoreType (t.Name kind word) h = absurd (true≢false (sym h))
token_other p.CoreType _ h = absurd (true≢false (sym h))
token_other p.OperandType (t.Name kind word) h = absurd (true≢false (sym h))
token_other p.OperandType _ h = absurd (true≢false (sym h))
token_other p.PropertyType (t.Name kind word) h = absurd (true≢false (sym h))
token_other p.PropertyType _ h = absurd (true≢false (sym h))
token_other _ terminal h = refl

own_other : (pattern : Pattern) (kind : NameKind) (word : ContextualWord) → accepts_own pattern kind word ≡ true → is_tree_pattern pattern ≡ false
own_other p.CoreType kind word h = absurd (true≢false (sym h))
own_other p.OperandType kind word h = absurd (true≢false (sym h))
own_other p.PropertyType kind word h = absurd (true≢false (sym h))
own_other _ kind word h = refl

returned_same : (pattern : Pattern) (input : Input) → accepts_returned pattern input ≡ true → is_tree_pattern pattern ≡ is_tree input
returned_same p.TouchingGreater i.TouchingGreater h = refl
returned_same p.CoreType i.CoreType h = refl
returned_same p.OperandType i.OperandType h = refl
returned_same p.QualifiedPlain i.QualifiedPlain h = refl
returned_same p.QualifiedFunction i.QualifiedFunction h = refl
returned_same p.PropertyType i.PropertyType h = refl
returned_same p.ConstructorName i.ConstructorName h = refl
returned_same p.DeclaredName i.DeclaredName h = refl
returned_same _ _ h = absurd (true≢false (sym h))

pub same_tree : (pattern : Pattern) (input : Input) → accepts pattern input ≡ true → is_tree_pattern pattern ≡ is_tree input
same_tree pattern (i.Token terminal) h = token_other pattern terminal h
same_tree pattern (i.Own kind word) h = own_other pattern kind word h
same_tree pattern i.TouchingGreater h = returned_same pattern i.TouchingGreater h
same_tree pattern i.CoreType h = returned_same pattern i.CoreType h
same_tree pattern i.OperandType h = returned_same pattern i.OperandType h
same_tree pattern i.QualifiedPlain h = returned_same pattern i.QualifiedPlain h
same_tree pattern i.QualifiedFunction h = returned_same pattern i.QualifiedFunction h
same_tree pattern i.PropertyType h = returned_same pattern i.PropertyType h
same_tree pattern i.ConstructorName h = returned_same pattern i.ConstructorName h
same_tree pattern i.DeclaredName h = returned_same pattern i.DeclaredName h
same_tree pattern i.ShiftRight h = returned_same pattern i.ShiftRight h
same_tree pattern i.RelationalGreater h = returned_same pattern i.RelationalGreater h

own_tree : (test : Bool) (kind : NameKind) (word : ContextualWord) → is_tree (own_or test kind word) ≡ false
own_tree true kind word = refl
own_tree false kind word = refl

own_seen_tree : (vs : List Value) (input : Input) (value : Value) → is_tree (own_seen vs input value) ≡ is_tree input
own_seen_tree vs (i.Token (t.Name kind word)) value = own_tree (is_own vs value) kind word
own_seen_tree vs _ value = refl

touching_tree : (vs : List Value) (input : Input) (value : Value) → is_tree (touching_seen vs input value) ≡ is_tree input
touching_tree vs (i.Token (t.Sign s.Greater)) value = go (touches vs value)
  where
    go : (test : Bool) → is_tree (cond test i.TouchingGreater (i.Token (t.Sign s.Greater))) ≡ false
    go true = refl
    go false = refl
touching_tree vs _ value = refl

-- The class's own name and a `>` that touches bring no tree.
pub seen_tree : (sort : Sort) (vs : List Value) (input : Input) (value : Value) → is_tree (seen sort vs input value) ≡ is_tree input
seen_tree o.MemberStart vs input value = own_seen_tree (below (below vs)) input value
seen_tree o.OwnName vs input value = own_seen_tree (below (below (below vs))) input value
seen_tree o.GreaterEnd vs input value = touching_tree vs input value
seen_tree _ vs input value = refl
