-- The first token that stands in no source, whatever the others are (ECMA-372, 9.4.1): a word that is left out of the
-- language, a floating-point type, or what begins a native class or an `extern` declaration.
use Rattle.std.specs.Prelude.{List, [], ◌∷◌, Option, Some, None, Bool, false, ◌||◌, ◌&&◌, not, cond, codes}
use Rattle.cc_tree.specs.declared.token.Token.{Token}
use Rattle.cc_tree.specs.declared.token.TokenKind.{TokenKind}
use Rattle.cc_tree.specs.declared.token.TokenKind.TheVariants as k
use Rattle.cc_tree.specs.CollectedNames.{is_word, is_sign}
use Rattle.cc_tree.specs.Terminals.{is_outside}
use Rattle.cc_terminals.specs.declared.fault.ParseFault.{ParseFault}
use Rattle.cc_terminals.specs.declared.fault.ParseFault.TheVariants as fault

-- a `class` or `struct` may follow
abbrev pub lets_class : TokenKind → Bool
lets_class kind = is_word (codes "ref") kind || is_word (codes "value") kind || is_word (codes "interface") kind || is_word (codes "enum") kind || is_sign 6 kind || is_sign 11 kind

-- a `char` may follow
abbrev pub lets_char : TokenKind → Bool
lets_char kind = is_word (codes "signed") kind || is_word (codes "unsigned") kind

abbrev pub is_aggregate : TokenKind → Bool
is_aggregate kind = is_word (codes "class") kind || is_word (codes "struct") kind

-- a word that is left out of the language
abbrev pub is_outside_word : TokenKind → Bool
is_outside_word (k.Word word) = is_outside word
is_outside_word _ = false

-- the fault of a token other than `long`, where a class may stand or not, and a `char`
abbrev pub fault_of : Token → Bool → Bool → Option ParseFault
fault_of token class_may_stand char_may_stand =
    cond (is_word (codes "float") token.kind || is_word (codes "double") token.kind) (Some (fault.FloatType token.span))
    (cond (is_word (codes "extern") token.kind || (is_aggregate token.kind && not class_may_stand)) (Some (fault.MixedMode token.span))
    (cond (is_outside_word token.kind || (is_word (codes "char") token.kind && not char_may_stand)) (Some (fault.OutsideProfile token.span)) None))

-- the one, or else the other
abbrev pub or_else : Option ParseFault → Option ParseFault → Option ParseFault
or_else None later = later
or_else (Some one) later = Some one

-- the fault of the first token that has one; where a `long` was read alone, a second must follow
abbrev pub first_fault : Bool → Bool → Option Token → List Token → Option ParseFault
first_fault class_may_stand char_may_stand None [] = None
first_fault class_may_stand char_may_stand (Some long) [] = Some (fault.OutsideProfile long.span)
first_fault class_may_stand char_may_stand None (token ∷ tokens) = cond (is_word (codes "long") token.kind) (first_fault false false (Some token) tokens) (or_else (fault_of token class_may_stand char_may_stand) (first_fault (lets_class token.kind) (lets_char token.kind) None tokens))
first_fault class_may_stand char_may_stand (Some long) (token ∷ tokens) = cond (is_word (codes "long") token.kind) (first_fault false false None tokens) (Some (fault.OutsideProfile long.span))
