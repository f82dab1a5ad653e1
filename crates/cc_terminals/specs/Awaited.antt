-- What the reading of templates from the first token on waits for.
use Rattle.std.specs.Prelude.{ℕ, List, [], false, ◌||◌, ◌&&◌, not, cond, codes}
use Rattle.cc_tree.specs.declared.token.Token.{Token}
use Rattle.cc_tree.specs.declared.token.TokenKind.{TokenKind}
use Rattle.cc_tree.specs.CollectedNames.{is_word, is_sign, has_class_key}
use Rattle.cc_terminals.specs.declared.names.Awaited.{Awaited}

-- the word before a `(` that was waited for
abbrev pub ended : Awaited → List (List ℕ) → TokenKind → List (List ℕ)
ended awaited before kind = cond (awaited.parenthesis && is_sign 2 kind) before []

-- a `(` was met, a `>`, or another token
abbrev pub after_parenthesis : Awaited → Awaited
after_parenthesis awaited = record { greater = awaited.greater; parenthesis = false }

abbrev pub after_greater : Awaited → List Token → Awaited
after_greater awaited tokens = record { greater = false; parenthesis = awaited.parenthesis || (awaited.greater && not (has_class_key tokens)) }

abbrev pub after_other : Awaited → TokenKind → Awaited
after_other awaited kind = record { greater = awaited.greater || is_word (codes "template") kind; parenthesis = awaited.parenthesis }

-- what is waited for behind a token
abbrev pub awaited_after : Awaited → TokenKind → List Token → Awaited
awaited_after awaited kind tokens = cond (is_sign 2 kind) (after_parenthesis awaited) (cond (is_sign 7 kind) (after_greater awaited tokens) (after_other awaited kind))
