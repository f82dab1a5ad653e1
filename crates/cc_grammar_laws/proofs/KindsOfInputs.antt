-- The values of inputs are of the kinds that patterns keep, also where they are put back.
use Rattle.std.proofs.Common.{◌≡◌, refl, sym, List, ◌∷◌, Option, Some, None, Bool, true, false, cond, true≢false}
use Rattle.cc_tree.specs.declared.terminal.Terminal.{Terminal}
use Rattle.cc_tree.specs.declared.terminal.Terminal.TheVariants as t
use Rattle.cc_tree.specs.declared.terminal.NameKind.{NameKind}
use Rattle.cc_tree.specs.declared.terminal.ContextualWord.{ContextualWord}
use Rattle.cc_tree.specs.declared.terminal.ReservedWord.{ReservedWord}
use Rattle.cc_tree.specs.declared.terminal.Sign.{Sign}
use Rattle.cc_tree.specs.declared.terminal.Sign.TheVariants as s
use Rattle.cc_table.specs.declared.symbols.Sort.{Sort}
use Rattle.cc_table.specs.declared.symbols.Sort.TheVariants as o
use Rattle.cc_table.specs.declared.symbols.Input.{Input}
use Rattle.cc_table.specs.declared.symbols.Input.TheVariants as i
use Rattle.cc_table.specs.declared.symbols.Pattern.{Pattern}
use Rattle.cc_table.specs.declared.symbols.Pattern.TheVariants as p
use Rattle.cc_table.specs.Choice.{accepts, accepts_name, accepts_own, accepts_word, accepts_sign, accepts_number, accepts_zero, accepts_character, accepts_literal, accepts_other, accepts_returned}
use Rattle.cc_pushdown.specs.declared.value.Value.{Value}
use Rattle.cc_pushdown.specs.declared.value.Value.TheVariants as v
use Rattle.cc_pushdown.specs.Values.{below, top, HasMark, HasName, HasNumber, HasCharacter, HasLiteral, HasType, HasQualified, HasPropertyType}
use Rattle.cc_pushdown.specs.Machine.{seen, own_seen, own_or, is_own, touching_seen, touches}
use Rattle.cc_grammar_laws.specs.Kinds.{Kind, Has, input_kind}
use Rattle.cc_grammar_laws.proofs.KindsOfParts.{kept}

-- Where a pattern keeps a kind of values, it is this.
abbrev pub KeptIs : Option Kind → Kind → Type 0
KeptIs None kind = Unit {0}
KeptIs (Some one) kind = one ≡ kind

named : (pattern : Pattern) (kind : NameKind) (word : ContextualWord) → accepts_name pattern kind word ≡ true → KeptIs (kept pattern) Kind.name
named (p.Name one) kind word h = refl
named (p.Contextual one) kind word h = refl
named (p.Id spelled) kind word h = refl
named (p.Type spelled) kind word h = refl
named p.AnyName kind word h = refl
named p.TypeOrName kind word h = tt
named p.Any kind word h = tt
named _ kind word h = absurd (true≢false (sym h))

own : (pattern : Pattern) (kind : NameKind) (word : ContextualWord) → accepts_own pattern kind word ≡ true → KeptIs (kept pattern) Kind.name
own p.Own kind word h = refl
own (p.OwnId spelled) kind word h = refl
own (p.OwnType spelled) kind word h = refl
own _ kind word h = absurd (true≢false (sym h))

worded : (pattern : Pattern) (word : ReservedWord) → accepts_word pattern word ≡ true → KeptIs (kept pattern) Kind.mark
worded (p.Word one) word h = refl
worded p.Fundamental word h = refl
worded p.TypeOrName word h = tt
worded p.Any word h = tt
worded _ word h = absurd (true≢false (sym h))

signed : (pattern : Pattern) (sign : Sign) → accepts_sign pattern sign ≡ true → KeptIs (kept pattern) Kind.mark
signed (p.Sign one) sign h = refl
signed p.Assignment sign h = refl
signed p.Prefix sign h = refl
signed p.Any sign h = tt
signed _ sign h = absurd (true≢false (sym h))

numbered : (pattern : Pattern) → accepts_number pattern ≡ true → KeptIs (kept pattern) Kind.number
numbered p.Number h = refl
numbered p.Any h = tt
numbered _ h = absurd (true≢false (sym h))

zeroed : (pattern : Pattern) → accepts_zero pattern ≡ true → KeptIs (kept pattern) Kind.number
zeroed p.Zero h = refl
zeroed p.Any h = tt
zeroed _ h = absurd (true≢false (sym h))

lettered : (pattern : Pattern) → accepts_character pattern ≡ true → KeptIs (kept pattern) Kind.character
lettered p.Character h = refl
lettered p.Any h = tt
lettered _ h = absurd (true≢false (sym h))

quoted : (pattern : Pattern) → accepts_literal pattern ≡ true → KeptIs (kept pattern) Kind.literal
quoted p.Literal h = refl
quoted p.Any h = tt
quoted _ h = absurd (true≢false (sym h))

other : (pattern : Pattern) → accepts_other pattern ≡ true → KeptIs (kept pattern) Kind.mark
other p.Any h = tt
other _ h = absurd (true≢false (sym h))

token : (pattern : Pattern) (terminal : Terminal) → accepts pattern (i.Token terminal) ≡ true → KeptIs (kept pattern) (input_kind (i.Token terminal))
token pattern (t.Name kind word) h = named pattern kind word h
token pattern (t.Word word) h = worded pattern word h
token pattern (t.Sign sign) h = signed pattern sign h
token pattern t.Number h = numbered pattern h
token pattern t.Zero h = zeroed pattern h
token pattern t.Character h = lettered pattern h
token pattern t.Literal h = quoted pattern h
token pattern t.Other h = other pattern h

-- No pattern accepts an operator that was put back.
not_shift : (pattern : Pattern) → accepts_returned pattern i.ShiftRight ≡ true → KeptIs (kept pattern) Kind.mark
not_shift p.TouchingGreater h = absurd (true≢false (sym h))
not_shift _ h = absurd (true≢false (sym h))

not_greater : (pattern : Pattern) → accepts_returned pattern i.RelationalGreater ≡ true → KeptIs (kept pattern) Kind.mark
not_greater p.TouchingGreater h = absurd (true≢false (sym h))
not_greater _ h = absurd (true≢false (sym h))

pub kept_input : (pattern : Pattern) (input : Input) → accepts pattern input ≡ true → KeptIs (kept pattern) (input_kind input)
kept_input pattern (i.Token terminal) h = token pattern terminal h
kept_input pattern (i.Own kind word) h = own pattern kind word h
kept_input pattern i.ShiftRight h = not_shift pattern h
kept_input pattern i.RelationalGreater h = not_greater pattern h
kept_input p.TouchingGreater i.TouchingGreater h = refl
kept_input p.CoreType i.CoreType h = refl
kept_input p.OperandType i.OperandType h = refl
kept_input p.QualifiedPlain i.QualifiedPlain h = refl
kept_input p.QualifiedFunction i.QualifiedFunction h = refl
kept_input p.PropertyType i.PropertyType h = refl
kept_input p.ConstructorName i.ConstructorName h = refl
kept_input p.DeclaredName i.DeclaredName h = refl
kept_input _ _ h = absurd (true≢false (sym h))

-- The class's own name and a `>` that touches are of the kinds of the tokens.
own_kind : (test : Bool) (kind : NameKind) (word : ContextualWord) → input_kind (own_or test kind word) ≡ Kind.name
own_kind true kind word = refl
own_kind false kind word = refl

own_seen_kind : (vs : List Value) (input : Input) (value : Value) → input_kind (own_seen vs input value) ≡ input_kind input
own_seen_kind vs (i.Token (t.Name kind word)) value = own_kind (is_own vs value) kind word
own_seen_kind vs _ value = refl

touching_kind : (vs : List Value) (input : Input) (value : Value) → input_kind (touching_seen vs input value) ≡ input_kind input
touching_kind vs (i.Token (t.Sign s.Greater)) value = go (touches vs value)
  where
    go : (test : Bool) → input_kind (cond test i.TouchingGreater (i.Token (t.Sign s.Greater))) ≡ Kind.mark
    go true = refl
    go false = refl
touching_kind vs _ value = refl

pub seen_kind : (sort : Sort) (vs : List Value) (input : Input) (value : Value) → input_kind (seen sort vs input value) ≡ input_kind input
seen_kind o.MemberStart vs input value = own_seen_kind (below (below vs)) input value
seen_kind o.OwnName vs input value = own_seen_kind (below (below (below vs))) input value
seen_kind o.GreaterEnd vs input value = touching_kind vs input value
seen_kind _ vs input value = refl

-- The topmost value is of its kind above any others.
mark_moves : (vs ws : List Value) → HasMark vs → HasMark (top vs ∷ ws)
mark_moves (v.Mark value ∷ vs) ws h = tt
mark_moves _ ws h = absurd h

name_moves : (vs ws : List Value) → HasName vs → HasName (top vs ∷ ws)
name_moves (v.Name value ∷ vs) ws h = tt
name_moves _ ws h = absurd h

number_moves : (vs ws : List Value) → HasNumber vs → HasNumber (top vs ∷ ws)
number_moves (v.Number value ∷ vs) ws h = tt
number_moves _ ws h = absurd h

character_moves : (vs ws : List Value) → HasCharacter vs → HasCharacter (top vs ∷ ws)
character_moves (v.Character value ∷ vs) ws h = tt
character_moves _ ws h = absurd h

literal_moves : (vs ws : List Value) → HasLiteral vs → HasLiteral (top vs ∷ ws)
literal_moves (v.Literal value ∷ vs) ws h = tt
literal_moves _ ws h = absurd h

type_moves : (vs ws : List Value) → HasType vs → HasType (top vs ∷ ws)
type_moves (v.Type value ∷ vs) ws h = tt
type_moves _ ws h = absurd h

qualified_moves : (vs ws : List Value) → HasQualified vs → HasQualified (top vs ∷ ws)
qualified_moves (v.Qualified value ∷ vs) ws h = tt
qualified_moves _ ws h = absurd h

property_moves : (vs ws : List Value) → HasPropertyType vs → HasPropertyType (top vs ∷ ws)
property_moves (v.PropertyType value ∷ vs) ws h = tt
property_moves _ ws h = absurd h

pub moves : (input : Input) (vs ws : List Value) → Has (input_kind input) vs → Has (input_kind input) (top vs ∷ ws)
moves (i.Token (t.Name kind word)) vs ws h = name_moves vs ws h
moves (i.Token t.Number) vs ws h = number_moves vs ws h
moves (i.Token t.Zero) vs ws h = number_moves vs ws h
moves (i.Token t.Character) vs ws h = character_moves vs ws h
moves (i.Token t.Literal) vs ws h = literal_moves vs ws h
moves (i.Own kind word) vs ws h = name_moves vs ws h
moves i.CoreType vs ws h = type_moves vs ws h
moves i.OperandType vs ws h = type_moves vs ws h
moves i.QualifiedPlain vs ws h = qualified_moves vs ws h
moves i.QualifiedFunction vs ws h = qualified_moves vs ws h
moves i.PropertyType vs ws h = property_moves vs ws h
moves i.ConstructorName vs ws h = name_moves vs ws h
moves i.DeclaredName vs ws h = name_moves vs ws h
moves _ vs ws h = mark_moves vs ws h
