-- What the parser answers: the one tree of the tokens, or the first token that no source goes on with (ECMA-372, 9.4 and 30).
use Rattle.std.specs.Prelude.{◌≡◌, ◌≤◌, ◌<◌, ◌⊎◌, ℕ, List, [], ◌∷◌, ◌++◌, None, Some, Bool, true, false, Result, Ok, Err}
use Rattle.cc_base.specs.declared.text.Span.{Span}
use Rattle.cc_tree.specs.declared.token.Token.{Token}
use Rattle.cc_tree.specs.declared.terminal.Terminal.{Terminal}
use Rattle.cc_tree.specs.declared.terminal.Terminal.TheVariants as t
use Rattle.cc_tree.specs.declared.terminal.Sign.TheVariants as s
use Rattle.cc_tree.specs.declared.unit.Unit as unit
use Rattle.cc_tree.specs.Terminals.{Names, terminal}
use Rattle.cc_tree.specs.CollectedNames.{collected}
use Rattle.cc_tree.specs.Spans.{after}
use Rattle.cc_tree.specs.GrammarUnit.{Spells, Front}
use Rattle.cc_tree.specs.Depth.{unit_depth}
use Rattle.cc_terminals.specs.Scan.{first_fault}
use Rattle.cc_grammar.specs.Depths.{depth_limit}
use Rattle.cc_terminals.specs.declared.fault.ParseFault.{ParseFault}
use Rattle.cc_terminals.specs.declared.fault.ParseFault.TheVariants as fault

-- no token stands in no source whatever the others are
abbrev pub Scanned : List Token → Type 0
Scanned tokens = first_fault false false None tokens ≡ None

-- the token is a `*`, `&`, `&&` or `[`, which native pointers and arrays are declared by
abbrev pub is_pointer_sign : Terminal → Bool
is_pointer_sign (t.Sign s.Star) = true
is_pointer_sign (t.Sign s.Ampersand) = true
is_pointer_sign (t.Sign s.LogicalAnd) = true
is_pointer_sign (t.Sign s.OpenBracket) = true
is_pointer_sign _ = false

-- The place of one of the tokens: those before it, and it.
pub record IsPlace (tokens : List Token) (span : Span) (before : List Token) (token : Token) : Type 0 where
  pub behind : List Token
  pub parts : tokens ≡ before ++ token ∷ behind
  pub stands : token.span ≡ span

-- the empty span where the last of the tokens ends, or this one where there is none
abbrev pub end_after : Span → List Token → Span
end_after span [] = span
end_after span (token ∷ tokens) = end_after (after token.span) tokens

abbrev pub end_of : List Token → Span
end_of tokens = end_after (record { first = 0; past = 0 }) tokens

-- The tokens before the place begin a source, and with the token at the place no more.
pub record FirstWrong (names : Names) (before : List Token) (token : Token) (pointer : Bool) : Type 0 where
  pub front : Front names before
  pub wrong : Front names (before ++ token ∷ []) → ⊥
  pub sign : is_pointer_sign (terminal names token.kind) ≡ pointer

abbrev pub RefusedAt : List Token → Span → Bool → Type 0
RefusedAt tokens span pointer = (before : List Token) × (token : Token) × IsPlace tokens span before token × FirstWrong (collected tokens) before token pointer

-- The tokens begin a source, and more are wanted.
pub record WantsMore (tokens : List Token) (span : Span) : Type 0 where
  pub front : Front (collected tokens) tokens
  pub none : (tree : unit.Unit) → Spells (collected tokens) tokens tree → ⊥
  pub stands : end_of tokens ≡ span

-- The tokens up to the place begin a source, and each source that they begin has a node deeper than the limit.
pub record TooDeepAt (tokens : List Token) (span : Span) (before : List Token) (token : Token) : Type 0 where
  pub place : IsPlace tokens span before token
  pub front : Front (collected tokens) (before ++ token ∷ [])
  pub deep : (more : List Token) (tree : unit.Unit) → Spells (collected tokens) (before ++ token ∷ more) tree → depth_limit < unit_depth tree

-- The tokens are a source, and it has a node deeper than the limit.
pub record TooDeepAtEnd (tokens : List Token) (span : Span) : Type 0 where
  pub front : Front (collected tokens) tokens
  pub deep : (tree : unit.Unit) → Spells (collected tokens) tokens tree → depth_limit < unit_depth tree
  pub stands : end_of tokens ≡ span

-- Want of memory is free of a cause.
abbrev pub Refuses : List Token → ParseFault → Type 0
Refuses tokens (fault.Syntax span) = Scanned tokens × (RefusedAt tokens span false ⊎ WantsMore tokens span)
Refuses tokens (fault.NativePointer span) = Scanned tokens × RefusedAt tokens span true
Refuses tokens (fault.TooDeep span) = Scanned tokens × (((before : List Token) × (token : Token) × TooDeepAt tokens span before token) ⊎ TooDeepAtEnd tokens span)
Refuses tokens fault.Memory = Unit {0}
Refuses tokens scanned = first_fault false false None tokens ≡ Some scanned

-- The tree of the tokens, within the limit of depth.
pub record Accepts (tokens : List Token) (tree : unit.Unit) : Type 0 where
  pub scanned : Scanned tokens
  pub spells : Spells (collected tokens) tokens tree
  pub within : unit_depth tree ≤ depth_limit

-- what the parser may answer
abbrev pub Parses : List Token → Result unit.Unit ParseFault → Type 0
Parses tokens (Ok tree) = Accepts tokens tree
Parses tokens (Err refused) = Refuses tokens refused
