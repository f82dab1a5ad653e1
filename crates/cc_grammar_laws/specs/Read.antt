-- What the machine is given for a token, by the token's terminal symbol alone.
use Rattle.std.specs.Prelude.{◌≡◌, List, [], ◌∷◌, None}
use Rattle.cc_base.specs.declared.text.Span.{Span}
use Rattle.cc_tree.specs.declared.token.TokenKind.{TokenKind}
use Rattle.cc_tree.specs.declared.token.TokenKind.TheVariants as k
use Rattle.cc_tree.specs.declared.token.Suffix.TheVariants as suffix
use Rattle.cc_tree.specs.declared.token.Radix.TheVariants as radix
use Rattle.cc_tree.specs.declared.terminal.Terminal.{Terminal}
use Rattle.cc_tree.specs.declared.terminal.Terminal.TheVariants as t
use Rattle.cc_tree.specs.Terminals.{Classified, at, letters}
use Rattle.cc_table.specs.declared.symbols.Sort.{Sort}
use Rattle.cc_table.specs.declared.symbols.Input.TheVariants as i
use Rattle.cc_pushdown.specs.declared.value.Value.{Value}
use Rattle.cc_pushdown.specs.declared.value.Value.TheVariants as v
use Rattle.cc_pushdown.specs.Machine.{Fed, fed, begins}

abbrev pub number_value : TokenKind → Span → Value
number_value (k.Number value suffix radix) span = v.Number (record { value = value; suffix = suffix; radix = radix; span = span })
number_value _ span = v.Number (record { value = 0; suffix = suffix.Plain; radix = radix.Octal; span = span })

abbrev pub character_value : TokenKind → Span → Value
character_value (k.Character unit) span = v.Character (record { tree = unit; span = span })
character_value _ span = v.Mark (record { terminal = t.Character; span = span })

abbrev pub literal_value : TokenKind → Span → Value
literal_value (k.Literal text) span = v.Literal (record { tree = text; span = span })
literal_value _ span = v.Mark (record { terminal = t.Literal; span = span })

abbrev pub read_value : Terminal → TokenKind → Span → Value
read_value (t.Name kind word) token span = v.Name (record { kind = kind; word = word; identifier = record { name = letters token; span = span } })
read_value t.Number token span = number_value token span
read_value t.Zero token span = number_value token span
read_value t.Character token span = character_value token span
read_value t.Literal token span = literal_value token span
read_value terminal token span = v.Mark (record { terminal = terminal; span = span })

abbrev pub read_one : Classified → Fed
read_one (at terminal token) = fed (i.Token terminal) (read_value terminal token.kind token.span)

abbrev pub read : List Classified → List Fed
read [] = []
read (one ∷ ts) = read_one one ∷ read ts

-- A part takes nothing at these tokens.
abbrev pub Passes : Sort → List Classified → Type 0
Passes sort [] = Unit {0}
Passes sort (at terminal k ∷ rest) = begins sort (i.Token terminal) ≡ None
