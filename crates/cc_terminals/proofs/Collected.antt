-- How the names are collected from the first token on.
use Rattle.std.proofs.Common.{◌≡◌, ℕ, Bool, true, false, ◌||◌, ◌&&◌, not, cond, nat_eq, Option, Some, List, [], ◌∷◌, ◌++◌, refl, sym, ap, ◌∙◌, Bor, arith}
use Rattle.std.proofs.lemmas.Bool.Decides.{nat_tests}
use Rattle.cc_base.specs.declared.text.Span.{Span}
use Rattle.std.specs.Prelude.{codes}
use Rattle.std.specs.Str.{bytes_eq}
use Rattle.cc_tree.specs.declared.token.Token.{Token}
use Rattle.cc_tree.specs.declared.token.TokenKind.{TokenKind}
use Rattle.cc_tree.specs.declared.token.TokenKind.TheVariants as k
use Rattle.cc_tree.specs.CollectedNames as collected
use Rattle.cc_tree.specs.Terminals.{is_among}
use Rattle.cc_terminals.specs.Awaited.{ended, awaited_after, after_parenthesis, after_greater}
use Rattle.cc_terminals.specs.Words.{words_of}
use Rattle.cc_terminals.specs.declared.names.Awaited.{Awaited}

pub or_assoc : (a b c : Bool) → ((a || b) || c) ≡ (a || (b || c))
or_assoc true b c = refl
or_assoc false b c = refl

pub is_among-append : (xs ys : List (List ℕ)) (word : List ℕ) → is_among (xs ++ ys) word ≡ (is_among xs word || is_among ys word)
is_among-append [] ys word = refl
is_among-append (x ∷ xs) ys word = ap (λ b. bytes_eq x word || b) (is_among-append xs ys word) ∙ sym (or_assoc (bytes_eq x word) (is_among xs word) (is_among ys word))

-- a set that a word was put into holds that word and what it held
pub put_one : (found : Option (Bor (List ℕ))) (name : Bor (List ℕ)) → found ≡ Some name → (word : List ℕ) (old new : Bool) → new ≡ cond (bytes_eq name.now word) true old → new ≡ (is_among (words_of found) word || old)
put_one found name e word old new h = h ∙ by_case (bytes_eq name.now word) ∙ sym (ap (λ f. is_among (words_of f) word || old) e) where
  by_case : (b : Bool) → cond b true old ≡ ((b || false) || old)
  by_case true = refl
  by_case false = refl

-- the first names of a list are put into a set before the names that are left
pub taken : (first left held : Bool) → (left || (first || held)) ≡ ((first || left) || held)
taken true true held = refl
taken true false held = refl
taken false true held = refl
taken false false held = refl

-- a token's names are put into a set
pub put_token : (rest : List Token) (token : Token) (more : List Token) → rest ≡ token ∷ more → (found : List (List ℕ)) → found ≡ cond (collected.introduces_type token.kind) (collected.first_word more) [] → (word : List ℕ) (old new total : Bool) → new ≡ (is_among found word || old)
    → (is_among (collected.declared_types rest) word || old) ≡ total → (is_among (collected.declared_types more) word || new) ≡ total
put_token rest token more split found f word old new total put so_far =
    ap (λ b. is_among (collected.declared_types more) word || b) put
    ∙ taken (is_among found word) (is_among (collected.declared_types more) word) old
    ∙ ap (λ b. b || old) (sym (is_among-append found (collected.declared_types more) word))
    ∙ ap (λ names. is_among (names ++ collected.declared_types more) word || old) f
    ∙ ap (λ tokens. is_among (collected.declared_types tokens) word || old) (sym split)
    ∙ so_far

-- cases of tokens: a `template` among words, and the signs
other_fits : (greater parenthesis template : Bool) (header name left : Bool) → ((greater && header) || ((parenthesis && name) || ((template && header) || left))) ≡ (((greater || template) && header) || ((parenthesis && name) || left))
other_fits true true true true name left = refl
other_fits true true true false name left = refl
other_fits true true false header name left = refl
other_fits true false true true name left = refl
other_fits true false true false name left = refl
other_fits true false false header name left = refl
other_fits false true true true true left = refl
other_fits false true true true false left = refl
other_fits false true true false name left = refl
other_fits false true false header name left = refl
other_fits false false true header name left = refl
other_fits false false false header name left = refl

greater_fits : (greater parenthesis key : Bool) (name left : Bool) → ((greater && (not key && name)) || ((parenthesis && name) || left)) ≡ (((parenthesis || (greater && not key)) && name) || left)
greater_fits true true true name left = refl
greater_fits true true false true left = refl
greater_fits true true false false left = refl
greater_fits true false true name left = refl
greater_fits true false false true left = refl
greater_fits true false false false left = refl
greater_fits false true key true left = refl
greater_fits false true key false left = refl
greater_fits false false key name left = refl

parenthesis_fits : (greater parenthesis : Bool) (header name left : Bool) → ((greater && header) || ((parenthesis && name) || left)) ≡ ((parenthesis && name) || ((greater && header) || left))
parenthesis_fits true true true true left = refl
parenthesis_fits true true true false left = refl
parenthesis_fits true true false name left = refl
parenthesis_fits true false true name left = refl
parenthesis_fits true false false name left = refl
parenthesis_fits false parenthesis header name left = refl

or-false : (b : Bool) → (b || false) ≡ b
or-false true = refl
or-false false = refl

-- a set that was empty takes the declared names and then the library's
pub both_put : (library declared : List (List ℕ)) (word : List ℕ) (none one two : Bool) → none ≡ false → one ≡ (is_among declared word || none) → two ≡ (is_among library word || one) → two ≡ is_among (library ++ declared) word
both_put library declared word none one two e f g =
    g ∙ ap (λ b. is_among library word || b) (f ∙ ap (λ b. is_among declared word || b) e ∙ or-false (is_among declared word)) ∙ sym (is_among-append library declared word)

among_if : (b : Bool) (names : List (List ℕ)) (word : List ℕ) → is_among (cond b names []) word ≡ (b && is_among names word)
among_if true names word = refl
among_if false names word = refl

among_unless : (b : Bool) (names : List (List ℕ)) (word : List ℕ) → is_among (cond b [] names) word ≡ (not b && is_among names word)
among_unless true names word = refl
among_unless false names word = refl

-- the names of functions that tokens still give
abbrev pub awaits : Awaited → List (List ℕ) → List Token → List ℕ → Bool
awaits awaited before tokens word =
    (awaited.greater && is_among (collected.templated (collected.after_greater tokens)) word)
    || ((awaited.parenthesis && is_among (collected.before_parenthesis before tokens) word) || is_among (collected.function_templates tokens) word)

-- no `(` is met
not_ended : (parenthesis : Bool) (before : List (List ℕ)) (word : List ℕ) → is_among (cond (parenthesis && false) before []) word ≡ false
not_ended true before word = refl
not_ended false before word = refl

met : (parenthesis : Bool) (before : List (List ℕ)) (word : List ℕ) → is_among (cond (parenthesis && true) before []) word ≡ (parenthesis && is_among before word)
met true before word = refl
met false before word = refl

-- what a token that is neither `(` nor `>` does
abbrev Other : Awaited → List (List ℕ) → List (List ℕ) → List Token → List ℕ → Bool → Type 0
Other awaited before next tokens word template =
    let header = collected.templated (collected.after_greater tokens) in
    let name = collected.before_parenthesis next tokens in
    ((awaited.greater && is_among header word) || ((awaited.parenthesis && is_among name word) || is_among (cond template header [] ++ collected.function_templates tokens) word))
    ≡ (is_among (cond (awaited.parenthesis && false) before []) word || awaits (record { greater = awaited.greater || template; parenthesis = awaited.parenthesis }) next tokens word)

other : (awaited : Awaited) (before next : List (List ℕ)) (tokens : List Token) (word : List ℕ) (template : Bool) → Other awaited before next tokens word template
other awaited before next tokens word template =
    let header = collected.templated (collected.after_greater tokens) in
    let name = collected.before_parenthesis next tokens in
    let left = collected.function_templates tokens in
    ap (λ b. (awaited.greater && is_among header word) || ((awaited.parenthesis && is_among name word) || b)) (is_among-append (cond template header []) left word ∙ ap (λ b. b || is_among left word) (among_if template header word))
    ∙ other_fits awaited.greater awaited.parenthesis template (is_among header word) (is_among name word) (is_among left word)
    ∙ ap (λ b. b || awaits (record { greater = awaited.greater || template; parenthesis = awaited.parenthesis }) next tokens word) (sym (not_ended awaited.parenthesis before word))

-- what a sign does, where it may be `(` or `>`
abbrev Met : Awaited → List (List ℕ) → List Token → List ℕ → Bool → Bool → Type 0
Met awaited before tokens word parenthesis greater =
    ((awaited.greater && is_among (collected.templated (cond greater tokens (collected.after_greater tokens))) word) || ((awaited.parenthesis && is_among (cond parenthesis before (collected.before_parenthesis [] tokens)) word) || is_among (collected.function_templates tokens) word))
    ≡ (is_among (cond (awaited.parenthesis && parenthesis) before []) word || awaits (cond parenthesis (after_parenthesis awaited) (cond greater (after_greater awaited tokens) (record { greater = awaited.greater || false; parenthesis = awaited.parenthesis }))) [] tokens word)

sign_met : (awaited : Awaited) (before : List (List ℕ)) (tokens : List Token) (word : List ℕ) (parenthesis greater : Bool) → (parenthesis && greater) ≡ false → Met awaited before tokens word parenthesis greater
sign_met awaited before tokens word true true e = cc
sign_met awaited before tokens word true false e =
    let header = collected.templated (collected.after_greater tokens) in
    let left = collected.function_templates tokens in
    parenthesis_fits awaited.greater awaited.parenthesis (is_among header word) (is_among before word) (is_among left word)
    ∙ ap (λ b. b || ((awaited.greater && is_among header word) || is_among left word)) (sym (met awaited.parenthesis before word))
sign_met awaited before tokens word false true e =
    let name = collected.before_parenthesis [] tokens in
    let left = collected.function_templates tokens in
    let key = collected.has_class_key tokens in
    ap (λ b. (awaited.greater && b) || ((awaited.parenthesis && is_among name word) || is_among left word)) (among_unless key name word)
    ∙ greater_fits awaited.greater awaited.parenthesis key (is_among name word) (is_among left word)
    ∙ ap (λ b. b || (((awaited.parenthesis || (awaited.greater && not key)) && is_among name word) || is_among left word)) (sym (not_ended awaited.parenthesis before word))
sign_met awaited before tokens word false false e = other awaited before [] tokens word false

not_both : (number : ℕ) → (nat_eq number 2 && nat_eq number 7) ≡ false
not_both number = grind (arith, nat_tests)

by_kind : (awaited : Awaited) (before : List (List ℕ)) (kind : TokenKind) (span : Span) (tokens : List Token) (word : List ℕ)
    → awaits awaited before (record { kind = kind; span = span } ∷ tokens) word ≡ (is_among (ended awaited before kind) word || awaits (awaited_after awaited kind tokens) (collected.word_in kind) tokens word)
by_kind awaited before (k.Word letters) span tokens word = other awaited before (letters ∷ []) tokens word (bytes_eq letters (codes "template"))
by_kind awaited before (k.Number value suffix radix) span tokens word = other awaited before [] tokens word false
by_kind awaited before (k.Character unit) span tokens word = other awaited before [] tokens word false
by_kind awaited before (k.Literal text) span tokens word = other awaited before [] tokens word false
by_kind awaited before (k.Sign number) span tokens word = sign_met awaited before tokens word (nat_eq number 2) (nat_eq number 7) (not_both number)

-- a function's name is put into a set
pub put_ended : (awaited : Awaited) (before : List (List ℕ)) (rest : List Token) (token : Token) (more : List Token) → rest ≡ token ∷ more
    → (found : List (List ℕ)) → found ≡ ended awaited before token.kind → (after : Awaited) → after ≡ awaited_after awaited token.kind more → (next : List (List ℕ)) → next ≡ collected.word_in token.kind
    → (word : List ℕ) (old new total : Bool) → new ≡ (is_among found word || old)
    → (awaits awaited before rest word || old) ≡ total → (awaits after next more word || new) ≡ total
put_ended awaited before rest token more split found f after a next n word old new total put so_far =
    let steps : awaits awaited before rest word ≡ (is_among found word || awaits after next more word) =
    ap (λ tokens. awaits awaited before tokens word) split ∙ by_kind awaited before token.kind token.span more word
    ∙ cc in
    ap (λ b. awaits after next more word || b) put
    ∙ taken (is_among found word) (awaits after next more word) old
    ∙ ap (λ b. b || old) (sym steps)
    ∙ so_far
