-- The table keeps the kinds of values.
use Rattle.std.proofs.Common.{◌≡◌, refl, sym, ap, ◌∙◌, List, [], ◌∷◌, Option, Some, None, Bool, true, false, ◌&&◌, get_or}
use Rattle.std.proofs.lemmas.Bool.{eqb-true}
use Rattle.cc_table.specs.declared.symbols.Sort.{Sort}
use Rattle.cc_table.specs.declared.symbols.Sort.TheVariants as o
use Rattle.cc_table.specs.declared.symbols.Pattern.{Pattern}
use Rattle.cc_table.specs.declared.symbols.Pattern.TheVariants as p
use Rattle.cc_table.specs.declared.symbols.Symbol.{Symbol}
use Rattle.cc_table.specs.declared.symbols.Take.{Take}
use Rattle.cc_table.specs.declared.symbols.Take.TheVariants as take
use Rattle.cc_table.specs.Choice.{Row}
use Rattle.cc_table.specs.Table.{rows, otherwise}
use Rattle.cc_grammar_laws.specs.Kinds.{Kind, number_of, all_kinds, is_same, passed, taken_kinds, given_kinds}

-- Kinds with one number are one.
numbered : (kind : Kind) → get_or all_kinds (number_of kind) Kind.mark ≡ kind
numbered Kind.mark = refl
numbered _ = refl

pub same_kind : (one other : Kind) → is_same one other ≡ true → one ≡ other
same_kind one other h = sym (numbered one) ∙ ap (λ n. get_or all_kinds n Kind.mark) (eqb-true (number_of one) (number_of other) h) ∙ numbered other

abbrev pub are_same : List Kind → List Kind → Bool
are_same [] [] = true
are_same (one ∷ ones) (other ∷ others) = is_same one other && are_same ones others
are_same _ _ = false

abbrev pub comes_out : Option (List Kind) → List Kind → Bool
comes_out None kinds = false
comes_out (Some have) kinds = are_same have kinds

-- the kind of the values that a pattern keeps
abbrev pub kept : Pattern → Option Kind
kept (p.Word word) = Some Kind.mark
kept (p.Sign sign) = Some Kind.mark
kept (p.Name kind) = Some Kind.name
kept (p.Contextual word) = Some Kind.name
kept (p.Id spelled) = Some Kind.name
kept (p.Type spelled) = Some Kind.name
kept p.AnyName = Some Kind.name
kept p.Own = Some Kind.name
kept (p.OwnId spelled) = Some Kind.name
kept (p.OwnType spelled) = Some Kind.name
kept p.Fundamental = Some Kind.mark
kept p.Assignment = Some Kind.mark
kept p.Prefix = Some Kind.mark
kept p.TouchingGreater = Some Kind.mark
kept p.Number = Some Kind.number
kept p.Zero = Some Kind.number
kept p.Character = Some Kind.character
kept p.Literal = Some Kind.literal
kept p.CoreType = Some Kind.type_name
kept p.OperandType = Some Kind.type_name
kept p.QualifiedPlain = Some Kind.qualified
kept p.QualifiedFunction = Some Kind.qualified
kept p.PropertyType = Some Kind.property_type
kept p.ConstructorName = Some Kind.name
kept p.DeclaredName = Some Kind.name
kept _ = None

abbrev pub kept_fits : Option Kind → List Kind → List Kind → List Symbol → Bool
kept_fits None before after part = false
kept_fits (Some kind) before after part = comes_out (passed part (Some (kind ∷ before))) after

abbrev pub patterns_fit : List Pattern → List Kind → List Kind → List Symbol → Bool
patterns_fit [] before after part = true
patterns_fit (one ∷ patterns) before after part = kept_fits (kept one) before after part && patterns_fit patterns before after part

abbrev pub row_fits : Take → List Pattern → List Kind → List Kind → List Symbol → Bool
row_fits take.Keep patterns before after part = patterns_fit patterns before after part
row_fits _ patterns before after part = comes_out (passed part (Some before)) after

abbrev pub rows_fit : List Row → List Kind → List Kind → Bool
rows_fit [] before after = true
rows_fit (one ∷ rows) before after = row_fits one.take one.on before after one.part && rows_fit rows before after

abbrev pub otherwise_fits : Option (List Symbol) → List Kind → List Kind → Bool
otherwise_fits None before after = true
otherwise_fits (Some part) before after = comes_out (passed part (Some before)) after

abbrev pub sort_fits : Sort → Bool
sort_fits sort = rows_fit (rows sort) (taken_kinds sort) (given_kinds sort) && otherwise_fits (otherwise sort) (taken_kinds sort) (given_kinds sort)

-- Each row of the table takes and gives what its part does.
pub all_fit : (sort : Sort) → sort_fits sort ≡ true
all_fit o.OpenParenthesis = refl
all_fit _ = refl
