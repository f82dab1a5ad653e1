-- The choice among the rows of a part.
use Rattle.std.specs.Prelude.{◌≡◌, List, [], ◌∷◌, map, Bool, true, false, ◌||◌, ◌&&◌, not, cond, Option, Some, None, MatchOption, is_some}
use Rattle.cc_tree.specs.declared.terminal.Terminal.{Terminal}
use Rattle.cc_tree.specs.declared.terminal.Terminal.TheVariants as t
use Rattle.cc_tree.specs.declared.terminal.NameKind.{NameKind}
use Rattle.cc_tree.specs.declared.terminal.NameKind.TheVariants as n
use Rattle.cc_tree.specs.declared.terminal.ContextualWord.{ContextualWord}
use Rattle.cc_tree.specs.declared.terminal.ContextualWord.TheVariants as c
use Rattle.cc_tree.specs.declared.terminal.ReservedWord.{ReservedWord}
use Rattle.cc_tree.specs.declared.terminal.ReservedWord.TheVariants as w
use Rattle.cc_tree.specs.declared.terminal.Sign.{Sign}
use Rattle.cc_tree.specs.declared.terminal.Sign.TheVariants as s
use Rattle.cc_tree.specs.Operators.{assignment_operator, prefix_operator}
use Rattle.cc_table.specs.declared.choice.Row as table
use Rattle.cc_table.specs.declared.choice.Chosen.{Chosen}
use Rattle.cc_table.specs.declared.symbols.Input.{Input}
use Rattle.cc_table.specs.declared.symbols.Input.TheVariants as i
use Rattle.cc_table.specs.declared.symbols.Pattern.{Pattern}
use Rattle.cc_table.specs.declared.symbols.Pattern.TheVariants as p
use Rattle.cc_table.specs.declared.symbols.Spelled.{Spelled}
use Rattle.cc_table.specs.declared.symbols.Spelled.TheVariants as h
use Rattle.cc_table.specs.declared.symbols.Symbol.{Symbol}
use Rattle.cc_table.specs.declared.symbols.Take.{Take}
use Rattle.cc_table.specs.Same.{same_word, same_sign, same_kind, same_contextual}

abbrev pub is_key : ContextualWord → Bool
is_key c.Ref = true
is_key c.Value = true
is_key c.Interface = true
is_key _ = false

abbrev pub is_spelled : ContextualWord → Spelled → Bool
is_spelled word h.Anyhow = true
is_spelled word h.Property = same_contextual word c.Property
is_spelled word h.NotProperty = not (same_contextual word c.Property)
is_spelled word h.Key = is_key word

abbrev pub begins_fundamental : ReservedWord → Bool
begins_fundamental w.Void = true
begins_fundamental w.Bool = true
begins_fundamental w.WideChar = true
begins_fundamental w.Signed = true
begins_fundamental w.Unsigned = true
begins_fundamental w.Short = true
begins_fundamental w.Int = true
begins_fundamental w.Long = true
begins_fundamental _ = false

abbrev pub assigns : Sign → Bool
assigns sign = is_some (assignment_operator sign)

abbrev pub is_prefix : Sign → Bool
is_prefix sign = is_some (prefix_operator sign)

abbrev pub accepts_name : Pattern → NameKind → ContextualWord → Bool
accepts_name (p.Name one) kind word = same_kind kind one
accepts_name (p.Contextual one) kind word = same_contextual word one
accepts_name (p.Id spelled) kind word = not (same_kind kind n.Type) && is_spelled word spelled
accepts_name (p.Type spelled) kind word = same_kind kind n.Type && is_spelled word spelled
accepts_name p.AnyName kind word = true
accepts_name p.TypeOrName kind word = true
accepts_name p.Any kind word = true
accepts_name _ kind word = false

abbrev pub accepts_own : Pattern → NameKind → ContextualWord → Bool
accepts_own p.Own kind word = true
accepts_own (p.OwnId spelled) kind word = not (same_kind kind n.Type) && is_spelled word spelled
accepts_own (p.OwnType spelled) kind word = same_kind kind n.Type && is_spelled word spelled
accepts_own _ kind word = false

abbrev pub accepts_word : Pattern → ReservedWord → Bool
accepts_word (p.Word one) word = same_word word one
accepts_word p.Fundamental word = begins_fundamental word
accepts_word p.TypeOrName word = begins_fundamental word
accepts_word p.Any word = true
accepts_word _ word = false

abbrev pub accepts_sign : Pattern → Sign → Bool
accepts_sign (p.Sign one) sign = same_sign sign one
accepts_sign p.Assignment sign = assigns sign
accepts_sign p.Prefix sign = is_prefix sign
accepts_sign p.Any sign = true
accepts_sign _ sign = false

abbrev pub accepts_number : Pattern → Bool
accepts_number p.Number = true
accepts_number p.Any = true
accepts_number _ = false

abbrev pub accepts_zero : Pattern → Bool
accepts_zero p.Zero = true
accepts_zero p.Any = true
accepts_zero _ = false

abbrev pub accepts_character : Pattern → Bool
accepts_character p.Character = true
accepts_character p.Any = true
accepts_character _ = false

abbrev pub accepts_literal : Pattern → Bool
accepts_literal p.Literal = true
accepts_literal p.Any = true
accepts_literal _ = false

abbrev pub accepts_other : Pattern → Bool
accepts_other p.Any = true
accepts_other _ = false

abbrev pub accepts_token : Pattern → Terminal → Bool
accepts_token pattern (t.Name kind word) = accepts_name pattern kind word
accepts_token pattern (t.Word word) = accepts_word pattern word
accepts_token pattern (t.Sign sign) = accepts_sign pattern sign
accepts_token pattern t.Number = accepts_number pattern
accepts_token pattern t.Zero = accepts_zero pattern
accepts_token pattern t.Character = accepts_character pattern
accepts_token pattern t.Literal = accepts_literal pattern
accepts_token pattern t.Other = accepts_other pattern

-- what was put back to the input
abbrev pub accepts_returned : Pattern → Input → Bool
accepts_returned p.TouchingGreater i.TouchingGreater = true
accepts_returned p.CoreType i.CoreType = true
accepts_returned p.OperandType i.OperandType = true
accepts_returned p.QualifiedPlain i.QualifiedPlain = true
accepts_returned p.QualifiedFunction i.QualifiedFunction = true
accepts_returned p.PropertyType i.PropertyType = true
accepts_returned p.ConstructorName i.ConstructorName = true
accepts_returned p.DeclaredName i.DeclaredName = true
accepts_returned _ _ = false

-- whether a pattern is for an input
abbrev pub accepts : Pattern → Input → Bool
accepts pattern (i.Token terminal) = accepts_token pattern terminal
accepts pattern (i.Own kind word) = accepts_own pattern kind word
accepts pattern input = accepts_returned pattern input

abbrev pub accepts_one : List Pattern → Input → Bool
accepts_one [] input = false
accepts_one (pattern ∷ patterns) input = accepts pattern input || accepts_one patterns input

-- what a part is at some inputs: what becomes of the input, and what is expected in the part's place
pub record Row : Type 0 where
  pub on : List Pattern
  pub take : Take
  pub part : List Symbol

abbrev pub row : List Pattern → Take → List Symbol → Row
row on take part = record { on = on; take = take; part = part }

-- the first row for an input
abbrev pub choose : List Row → Input → Option (Take × List Symbol)
choose [] input = None
choose (one ∷ rows) input = cond (accepts_one one.on input) (Some (one.take, one.part)) (choose rows input)

abbrev pub seen : List table.Row → List Row
seen rows = map (λ one. row one.on.now one.take one.part.now) rows

abbrev pub Chooses : List Row → Input → Option Chosen → Type 0
Chooses rows input result = MatchOption result (choose rows input ≡ None) (λ chosen. choose rows input ≡ Some (chosen.take, chosen.part.now))
