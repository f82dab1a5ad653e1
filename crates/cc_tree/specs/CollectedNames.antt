-- The names that a source collects before it is read: those of types and those of function templates.
use Rattle.std.specs.Prelude.{ℕ, List, [], ◌∷◌, ◌++◌, map, Bool, true, false, ◌||◌, ◌&&◌, cond, codes, nat_eq}
use Rattle.std.specs.Str.{bytes_eq}
use Rattle.cc_tree.specs.declared.token.Token.{Token}
use Rattle.cc_tree.specs.declared.token.TokenKind.{TokenKind}
use Rattle.cc_tree.specs.declared.token.TokenKind.TheVariants as k
use Rattle.cc_tree.specs.declared.word.TheConstants.{LIBRARY_TYPES}
use Rattle.cc_tree.specs.Terminals.{Names}

abbrev pub is_word : List ℕ → TokenKind → Bool
is_word word (k.Word letters) = bytes_eq letters word
is_word word _ = false

abbrev pub is_sign : ℕ → TokenKind → Bool
is_sign number (k.Sign at) = nat_eq at number
is_sign number _ = false

abbrev pub word_in : TokenKind → List (List ℕ)
word_in (k.Word letters) = letters ∷ []
word_in _ = []

-- the word at the head, if one stands there
abbrev pub first_word : List Token → List (List ℕ)
first_word [] = []
first_word (token ∷ tokens) = word_in token.kind

abbrev pub introduces_type : TokenKind → Bool
introduces_type kind = is_word (codes "class") kind || is_word (codes "struct") kind || is_word (codes "typename") kind

-- each word directly after `class`, `struct` or `typename`
abbrev pub declared_types : List Token → List (List ℕ)
declared_types [] = []
declared_types (token ∷ tokens) = cond (introduces_type token.kind) (first_word tokens) [] ++ declared_types tokens

-- what follows the first `>`
abbrev pub after_greater : List Token → List Token
after_greater [] = []
after_greater (token ∷ tokens) = cond (is_sign 7 token.kind) tokens (after_greater tokens)

abbrev pub begins_key : TokenKind → Bool
begins_key kind = is_word (codes "ref") kind || is_word (codes "value") kind || is_word (codes "interface") kind

abbrev pub is_class_or_struct : List Token → Bool
is_class_or_struct [] = false
is_class_or_struct (token ∷ tokens) = is_word (codes "class") token.kind || is_word (codes "struct") token.kind

abbrev pub has_class_key : List Token → Bool
has_class_key [] = false
has_class_key (token ∷ tokens) = begins_key token.kind && is_class_or_struct tokens

-- the word directly before the first `(`
abbrev pub before_parenthesis : List (List ℕ) → List Token → List (List ℕ)
before_parenthesis before [] = []
before_parenthesis before (token ∷ tokens) = cond (is_sign 2 token.kind) before (before_parenthesis (word_in token.kind) tokens)

-- the name of the function after a template's header, unless a class follows it
abbrev pub templated : List Token → List (List ℕ)
templated tokens = cond (has_class_key tokens) [] (before_parenthesis [] tokens)

abbrev pub function_templates : List Token → List (List ℕ)
function_templates [] = []
function_templates (token ∷ tokens) = cond (is_word (codes "template") token.kind) (templated (after_greater tokens)) [] ++ function_templates tokens

abbrev pub collected : List Token → Names
collected tokens = record { types = map (λ name. name.now) LIBRARY_TYPES ++ declared_types tokens; functions = function_templates tokens }
