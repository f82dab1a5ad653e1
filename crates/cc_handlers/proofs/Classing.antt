-- What a class tells of a token.
use Rattle.std.proofs.Common.{◌≡◌, ℕ, ◌+◌, ◌-◌, ◌<◌, suc, List, length, drop, refl, sym, ap, ◌∙◌, arith}
use Rattle.std.proofs.lemmas.Bool.{eqb-true, eqb-false}
use Rattle.std.specs.Prelude.{Bool, true, false, ◌==◌, ◌||◌, Option, Some, None, slice_get, if◌then◌else◌}
use Rattle.cc_base.specs.declared.identifiers.ClassId.{ClassId}
use Rattle.cc_execution.specs.declared.executable.ClassRow.{ClassRow}
use Rattle.cc_execution.specs.Handlers.{names, base_reaches, row_reaches, reaches}
use Rattle.cc_handlers.specs.declared.classes.Look.{Look}
use Rattle.cc_handlers.specs.declared.classes.Look.TheVariants.{Named, Base, Neither}
use Rattle.cc_handlers.specs.Classes.{look_base, look_at}
use Rattle.cc_handlers.proofs.Walking.{drop_at, drop_all}

-- the answer by what the row tells, and else by its base
abbrev pub by_look : Look → (ClassId → Bool) → Bool
by_look Named further = true
by_look (Base base) further = further base
by_look Neither further = false

by_base : (b : Bool) (o : Option ClassId) (further : ClassId → Bool) → (b || base_reaches further o) ≡ by_look (if b then Named else look_base o) further
by_base true o further = refl
by_base false None further = refl
by_base false (Some base) further = refl

by_row : (o : Option ClassRow) (token : ℕ) (further : ClassId → Bool) → row_reaches further o token ≡ by_look (look_at o token) further
by_row None token further = refl
by_row (Some row) token further = by_base (names row.tokens token) row.base further

module _ (classes : List ClassRow) (class : ClassId) (token n i : ℕ) (look : Look) (low : i < n) (is : look ≡ look_at (slice_get classes class.0) token) where
  -- one class more
  pub reaches_more : reaches classes (n - i) class token ≡ by_look look (λ base. reaches classes (n - (i + 1)) base token)
  reaches_more =
      let k : n - i ≡ suc (n - (i + 1)) = omega (arith, low) in
      ap (λ j. reaches classes j class token) k ∙ by_row (slice_get classes class.0) token (λ base. reaches classes (n - (i + 1)) base token)
      ∙ ap (λ l. by_look l (λ base. reaches classes (n - (i + 1)) base token)) (sym is)

-- ---- the tokens of a class

test_so : (b : Bool) (p : Type 0) → (b ≡ false → p → ⊥) → p → b ≡ true
test_so true p f h = refl
test_so false p f h = absurd (f refl h)

test_not : (b : Bool) (p : Type 0) → (b ≡ true → p) → (p → ⊥) → b ≡ false
test_not true p t h = absurd (h (t refl))
test_not false p t h = refl

module _ (tokens : List ℕ) (i t token : ℕ) (is : slice_get tokens i ≡ Some t) where
  at : names (drop i tokens) token ≡ ((t == token) || names (drop (i + 1) tokens) token)
  at = ap (λ l. names l token) (drop_at tokens i t is)

  pub names_found : t ≡ token → names (drop i tokens) token ≡ true
  names_found e = at ∙ ap (λ b. b || names (drop (i + 1) tokens) token) (test_so (t == token) (t ≡ token) (eqb-false t token) e)

  pub names_next : (t ≡ token → ⊥) → names (drop i tokens) token ≡ names (drop (i + 1) tokens) token
  names_next e = at ∙ ap (λ b. b || names (drop (i + 1) tokens) token) (test_not (t == token) (t ≡ token) (eqb-true t token) e)

pub names_none : (tokens : List ℕ) (token : ℕ) → names (drop (length tokens) tokens) token ≡ false
names_none tokens token = ap (λ l. names l token) (drop_all tokens)
