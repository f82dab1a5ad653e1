-- What a class, an enum and a function declare (ECMA-372, 18, 19, 20 to 25): a class a scope with its members, a function a scope with its parameters around its body, and a property its accessors,
-- which are functions too. A prototype declares nothing.
use Rattle.std.specs.Prelude.{ℕ, List, [], ◌∷◌, ◌++◌, map, codes, Option, Some, None}
use Rattle.cc_base.specs.declared.text.Span.{Span}
use Rattle.cc_tree.specs.declared.identifier.Identifier.{Identifier}
use Rattle.cc_tree.specs.declared.type_name.TypeName.{TypeName}
use Rattle.cc_tree.specs.declared.statement.Block.{Block}
use Rattle.cc_tree.specs.declared.member.Member.{Member}
use Rattle.cc_tree.specs.declared.member.Member.TheVariants as m
use Rattle.cc_tree.specs.declared.member.PropertyName.{PropertyName}
use Rattle.cc_tree.specs.declared.member.PropertyName.TheVariants as property_name
use Rattle.cc_tree.specs.declared.member.Accessor.{Accessor}
use Rattle.cc_tree.specs.declared.member.AccessorWord.{AccessorWord}
use Rattle.cc_tree.specs.declared.member.AccessorWord.TheVariants as word
use Rattle.cc_tree.specs.declared.member.Parameters.{Parameters}
use Rattle.cc_tree.specs.declared.member.Parameter.{Parameter}
use Rattle.cc_tree.specs.declared.class.Base.{Base}
use Rattle.cc_tree.specs.declared.class.Class.{Class}
use Rattle.cc_tree.specs.declared.class.Enumeration.{Enumeration}
use Rattle.cc_tree.specs.declared.class.Enumerator.{Enumerator}
use Rattle.cc_tree.specs.declared.unit.Function.{Function}
use Rattle.cc_names.specs.declared.scope.ItemKind.TheVariants as kind
use Rattle.cc_names.specs.declared.scope.ScopeKind.TheVariants as scope
use Rattle.cc_names.specs.declared.scope.Declared.{Declared}
use Rattle.cc_names.specs.Collected.{with_scope, with_item}
use Rattle.cc_names.specs.Parts.{Declares, nothing, named, both, inside, opening, in_order}
use Rattle.cc_names.specs.Statements.{optional, body_declares}
use Rattle.cc_names.specs.Spelling.{spelling, with_commas, signature}

-- a parameter, which may have no name
abbrev pub named_parameter : Option Identifier → Declares
named_parameter None = nothing
named_parameter (Some name) = named kind.Parameter name.name name.span

abbrev pub parameter_declares : Parameter → Declares
parameter_declares parameter = named_parameter parameter.name

abbrev pub parameters_declare : Parameters → Declares
parameters_declare parameters = in_order (map parameter_declares parameters.items)

-- a function of a name that stands at a place, with a signature; its own span is the one of its scope
abbrev pub function_part : List ℕ → Span → List ℕ → Span → Declares → Declares
function_part name place types span part = both (named (kind.Function types) name place) (inside scope.Parameters span part)

-- a function and its scope, after the scopes and declarations so far
abbrev pub with_function : List ℕ → Span → List ℕ → Span → ℕ → Declared → Declared
with_function name place types span around so_far = with_scope scope.Parameters (Some around) span (with_item (kind.Function types) name place around so_far)

-- a function with its parameters and its body
abbrev pub function_declares : List ℕ → Span → Span → Parameters → Option Block → Declares
function_declares name place span parameters body =
    function_part name place (signature parameters) span (both (parameters_declare parameters) (optional body_declares body))

abbrev pub enumerator_declares : Enumerator → Declares
enumerator_declares one = named kind.Enumerator one.name.name one.name.span

abbrev pub enumeration_declares : Enumeration → Declares
enumeration_declares enum = opening kind.Enumeration enum.name scope.Enumeration enum.span (in_order (map enumerator_declares enum.items))

abbrev pub field_declares : Identifier → Declares
field_declares name = named kind.Field name.name name.span

-- an indexer is named `Item`
abbrev pub property_word : PropertyName → List ℕ
property_word (property_name.Named name) = name.name
property_word (property_name.Indexed span of) = codes "Item"

abbrev pub property_place : PropertyName → Span
property_place (property_name.Named name) = name.span
property_place (property_name.Indexed span of) = span

abbrev pub index_signature : PropertyName → List ℕ
index_signature (property_name.Named name) = []
index_signature (property_name.Indexed span of) = with_commas (spelling of ∷ [])

abbrev pub accessor_prefix : AccessorWord → List ℕ
accessor_prefix word.Get = codes "get_"
accessor_prefix word.Set = codes "set_"

abbrev pub accessor_declares : List ℕ → Accessor → Declares
accessor_declares property accessor =
    function_declares (accessor_prefix accessor.word ++ property) accessor.word_span accessor.span accessor.parameters accessor.body

-- A property without accessors has both, without bodies.
abbrev pub accessors_declare : TypeName → PropertyName → List Accessor → Declares
accessors_declare of name [] =
    both (named (kind.Function (index_signature name)) (accessor_prefix word.Get ++ property_word name) (property_place name))
    (named (kind.Function (index_signature name ++ with_commas (spelling of ∷ []))) (accessor_prefix word.Set ++ property_word name) (property_place name))
accessors_declare of name (one ∷ accessors) = in_order (map (accessor_declares (property_word name)) (one ∷ accessors))

abbrev pub property_declares : TypeName → PropertyName → List Accessor → Declares
property_declares of name accessors = both (named kind.Property (property_word name) (property_place name)) (accessors_declare of name accessors)

abbrev pub member_declares : Member → Declares
member_declares (m.Access access span) = nothing
member_declares (m.Fields is_static of names span) = in_order (map field_declares names)
member_declares (m.Function storage of name parameters modifiers overridden body span) = function_declares name.name name.span span parameters body
member_declares (m.Constructor name parameters initializers body span) = function_declares (codes ".ctor") span span parameters (Some body)
member_declares (m.Destructor is_virtual name body span) = function_part (codes "~") span [] span (body_declares body)
member_declares (m.Finaliser name body span) = function_part (codes "!") span [] span (body_declares body)
member_declares (m.Property storage of name accessors span) = property_declares of name accessors

abbrev pub base_spellings : List Base → List (List ℕ)
base_spellings bases = map (λ base. spelling base.of) bases

abbrev pub class_declares : Class → Declares
class_declares class = opening (λ number. kind.Class class.key.word number (base_spellings class.bases)) class.name (scope.Class class.name.name) class.span (in_order (map member_declares class.members))

-- A prototype has no effect.
abbrev pub free_function_declares : Function → Declares
free_function_declares function = optional (λ body. function_declares function.name.name function.name.span function.span function.parameters (Some body)) function.body
