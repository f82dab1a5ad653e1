-- Second declarations (ECMA-372, 10.3): of a name in one scope, unless the two are parts of one namespace or functions with different parameter types; of the name of a class, an enum or a template, whatever
-- the namespaces; and of a class's name by a parameter of a template.
use Rattle.std.specs.Prelude.{ℕ, List, [], ◌∷◌, map, codes, Bool, true, false, ◌&&◌, ◌||◌, not, nat_lt, Option, Some, None, slice_get}
use Rattle.std.specs.List.{list_any, enumerate_from}
use Rattle.std.specs.Str.{bytes_eq}
use Rattle.cc_names.specs.declared.refusal.NameKind.TheVariants as refused
use Rattle.cc_names.specs.declared.scope.ItemKind.{ItemKind}
use Rattle.cc_names.specs.declared.scope.ItemKind.TheVariants as kind
use Rattle.cc_names.specs.declared.scope.Scope.{Scope}
use Rattle.cc_names.specs.declared.scope.Item.{Item}
use Rattle.cc_names.specs.Checks.{Checks, refused_if, joined}
use Rattle.cc_names.specs.Lookup.{named, is_item, is_same_scope, is_function, same_types}
use Rattle.cc_names.specs.Directives.{is_part}

-- a class, an enum or a template, whose name is declared once in the source
abbrev pub is_unique_name : ItemKind → Bool
is_unique_name (kind.Namespace scope) = false
is_unique_name (kind.Class word scope bases) = true
is_unique_name (kind.Enumeration scope) = true
is_unique_name kind.Enumerator = false
is_unique_name (kind.ClassTemplate word) = true
is_unique_name kind.FunctionTemplate = true
is_unique_name kind.TemplateParameter = false
is_unique_name (kind.Function types) = false
is_unique_name kind.Property = false
is_unique_name kind.Field = false
is_unique_name kind.Parameter = false
is_unique_name kind.Variable = false

abbrev pub is_template_parameter : ItemKind → Bool
is_template_parameter kind.TemplateParameter = true
is_template_parameter _ = false

-- two parts of one namespace, or functions with different parameter types
abbrev pub go_together : ItemKind → ItemKind → Bool
go_together one other = (is_part one && is_part other) || (is_function one && is_function other && not (same_types one other))

-- whether two declarations of a name are one too many
abbrev pub clash : List Scope → Item → Item → Bool
clash scopes earlier one = (is_same_scope scopes earlier.scope one.scope && not (go_together earlier.kind one.kind)) || (is_unique_name earlier.kind && is_unique_name one.kind)

-- `array` names a type too, which nothing declares
abbrev pub is_array_name : Item → Bool
is_array_name one = (is_unique_name one.kind || is_template_parameter one.kind) && bytes_eq one.name (codes "array")

module _ (scopes : List Scope) (items : List Item) where
  -- whether a declaration repeats the one of a number, which has its name
  abbrev pub repeats : ℕ → Item → ℕ → Bool
  repeats number one other = nat_lt other number && is_item (λ earlier. clash scopes earlier one) (slice_get items other)

  -- whether a parameter of a template bears the name of the declaration of a number, which is a class, an enum or a template
  abbrev pub takes_name : Item → ℕ → Bool
  takes_name one other = is_template_parameter one.kind && is_item (λ item. is_unique_name item.kind) (slice_get items other)

  abbrev pub is_duplicate : ℕ → Item → Bool
  is_duplicate number one = is_array_name one || list_any (λ other. repeats number one other || takes_name one other) (named items one.name)

  abbrev pub duplicate_checks : Checks
  duplicate_checks = joined (map (λ one. refused_if (is_duplicate one.0 one.1) refused.Duplicate one.1.span) (enumerate_from 0 items))
