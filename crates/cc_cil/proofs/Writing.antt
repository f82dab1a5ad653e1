-- Bodies written part by part.
use Rattle.std.proofs.Common.{◌≡◌, ℕ, ◌+◌, ◌<◌, Bool, List, [], ◌∷◌, ◌++◌, length, get_or, take, drop, refl, sym, ap, ◌∙◌, append_assoc, arith}
use Rattle.std.specs.List.{flat_map}
use Rattle.std.proofs.lemmas.List.{append-nil, take_more, drop_more, take-append-drop}
use Rattle.std.proofs.lemmas.List.Concat.{flat_map-cons}
use Rattle.std.proofs.lemmas.Grind.{flat_map-append}
use Rattle.cc_layout.specs.declared.field.Field.{Field}
use Rattle.cc_layout.specs.Numbers.{Extends}
use Rattle.cc_layout.specs.Layout.{bytes_of}
use Rattle.cc_layout.proofs.Numbers.{extends_first, extends_second}
use Rattle.cc_layout.proofs.Laws.{bytes_of-append}
use Rattle.cc_cil.specs.declared.body.Clause.{Clause}
use Rattle.cc_cil.specs.declared.body.Body.{Body}
use Rattle.cc_cil.specs.Bodies.{clause_layout, section_layout, is_small, padding, zeros, fat_header, FAT_WITH_SECTION, body_bytes, bytes_by}

pub joined : (old middle new first second : List ℕ) → middle ≡ old ++ first → new ≡ middle ++ second → new ≡ old ++ (first ++ second)
joined old middle new first second e f = f ∙ ap (λ (x : List ℕ). x ++ second) e ∙ append_assoc old first second

-- ---- two layouts

pub both_written : (a b : List Field) (old middle new : List ℕ) → middle ≡ old ++ bytes_of a → new ≡ middle ++ bytes_of b → new ≡ old ++ bytes_of (a ++ b)
both_written a b old middle new e f = joined old middle new (bytes_of a) (bytes_of b) e f ∙ ap (λ (x : List ℕ). old ++ x) (sym (bytes_of-append a b))

pub first_stops : (a b : List Field) (old new : List ℕ) → Extends old new (bytes_of a) → Extends old new (bytes_of (a ++ b))
first_stops a b old new e = rw (bytes_of-append a b) (extends_first old new (bytes_of a) (bytes_of b) e)

pub second_stops : (a b : List Field) (old middle new : List ℕ) → middle ≡ old ++ bytes_of a → Extends middle new (bytes_of b) → Extends old new (bytes_of (a ++ b))
second_stops a b old middle new e f = rw (bytes_of-append a b) (extends_second old middle new (bytes_of a) (bytes_of b) e f)

-- ---- clauses

module _ (small : Bool) (clauses : List Clause) (i : ℕ) (d : Clause) (lt : i < length clauses) where
  abbrev before : List Field
  before = flat_map (clause_layout small) (take i clauses)

  abbrev one : List Field
  one = clause_layout small (get_or clauses i d)

  abbrev after : List Field
  after = flat_map (clause_layout small) (drop (i + 1) clauses)

  next : flat_map (clause_layout small) (take (i + 1) clauses) ≡ before ++ one
  next = ap (flat_map (clause_layout small)) (take_more clauses i d lt) ∙ flat_map-append (clause_layout small) (take i clauses) (get_or clauses i d ∷ [])
      ∙ ap (λ (x : List Field). before ++ x) (flat_map-cons (clause_layout small) (get_or clauses i d) [] ∙ append-nil one)

  all : flat_map (clause_layout small) clauses ≡ before ++ (one ++ after)
  all = ap (flat_map (clause_layout small)) (sym (take-append-drop i clauses)) ∙ flat_map-append (clause_layout small) (take i clauses) (drop i clauses)
      ∙ ap (λ (x : List Field). before ++ x) (ap (flat_map (clause_layout small)) (drop_more clauses i d lt) ∙ flat_map-cons (clause_layout small) (get_or clauses i d) (drop (i + 1) clauses))

  pub clause_written : (fields : List Field) (old middle new : List ℕ) → fields ≡ one → middle ≡ old ++ bytes_of before → new ≡ middle ++ bytes_of fields → new ≡ old ++ bytes_of (flat_map (clause_layout small) (take (i + 1) clauses))
  clause_written fields old middle new is e f = rw next (both_written before one old middle new e (rw is at f))

  pub clause_stops : (fields : List Field) (old middle new : List ℕ) → fields ≡ one → middle ≡ old ++ bytes_of before → Extends middle new (bytes_of fields) → Extends old new (bytes_of (flat_map (clause_layout small) clauses))
  clause_stops fields old middle new is e f = rw all (second_stops before (one ++ after) old middle new e (first_stops one after middle new (rw is at f)))

-- ---- bodies

module _ (b : Body) where
  abbrev front : List ℕ
  front = bytes_of (fat_header FAT_WITH_SECTION b.max_stack (length b.code) b.locals) ++ b.code

  abbrev tail : List Field
  tail = zeros (padding (length b.code)) ++ section_layout (is_small b.clauses) b.clauses

  pub some_clauses : (clauses : List Clause) → 0 < length clauses → bytes_by b clauses ≡ front ++ bytes_of (zeros (padding (length b.code)) ++ section_layout (is_small clauses) clauses)
  some_clauses [] h = absurd (omega arith)
  some_clauses (c ∷ clauses) h = refl

  pub body_written : (old middle new : List ℕ) → 0 < length b.clauses → middle ≡ old ++ front → new ≡ middle ++ bytes_of tail → new ≡ old ++ body_bytes b
  body_written old middle new h e f = rw (some_clauses b.clauses h) (joined old middle new front (bytes_of tail) e f)

  pub front_stops : (old new : List ℕ) → 0 < length b.clauses → Extends old new front → Extends old new (body_bytes b)
  front_stops old new h e = rw (some_clauses b.clauses h) (extends_first old new front (bytes_of tail) e)

  pub tail_stops : (old middle new : List ℕ) → 0 < length b.clauses → middle ≡ old ++ front → Extends middle new (bytes_of tail) → Extends old new (body_bytes b)
  tail_stops old middle new h e f = rw (some_clauses b.clauses h) (extends_second old middle new front (bytes_of tail) e f)
