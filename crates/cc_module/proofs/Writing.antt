-- Signatures written part by part.
use Rattle.std.proofs.Common.{◌≡◌, ℕ, ◌+◌, ◌<◌, Bool, Option, Some, List, [], ◌∷◌, ◌++◌, length, get_or, take, drop, refl, sym, ap, subst, ◌∙◌, append_assoc}
use Rattle.std.specs.List.{flat_map}
use Rattle.std.proofs.lemmas.List.{append-nil, take_more, drop_more, take-append-drop}
use Rattle.std.proofs.lemmas.List.Concat.{flat_map-cons}
use Rattle.std.proofs.lemmas.Grind.{flat_map-append}
use Rattle.cc_layout.specs.Compressed.{compressed}
use Rattle.cc_module.specs.declared.signature.TypeSignature.{TypeSignature}
use Rattle.cc_module.specs.declared.signature.Signature.{Signature}
use Rattle.cc_module.specs.declared.signature.Signature.TheVariants.{Method}
use Rattle.cc_module.specs.Signatures.{this_mark, generic_mark, generic_bytes, typed_bytes, signature_bytes}
use Rattle.cc_layout.specs.Numbers.{Extends}
use Rattle.cc_layout.proofs.Numbers.{extends_first, extends_second}

pub joined : (old middle new first second : List ℕ) → middle ≡ old ++ first → new ≡ middle ++ second → new ≡ old ++ (first ++ second)
joined old middle new first second e f = f ∙ ap (λ (x : List ℕ). x ++ second) e ∙ append_assoc old first second

pub joined_three : (old one two new a b c : List ℕ) → one ≡ old ++ a → two ≡ one ++ b → new ≡ two ++ c → new ≡ old ++ (a ++ (b ++ c))
joined_three old one two new a b c e f g = joined old one new a (b ++ c) e (joined one two new b c f g)

-- a list of texts, written one by one
module _ {X : Type 0} (f : X → List ℕ) (xs : List X) (i : ℕ) (d : X) (lt : i < length xs) where
  abbrev before : List ℕ
  before = flat_map f (take i xs)

  abbrev after : List ℕ
  after = flat_map f (drop (i + 1) xs)

  next : flat_map f (take (i + 1) xs) ≡ before ++ f (get_or xs i d)
  next = ap (flat_map f) (take_more xs i d lt) ∙ flat_map-append f (take i xs) (get_or xs i d ∷ []) ∙ ap (λ (x : List ℕ). before ++ x) (flat_map-cons f (get_or xs i d) [] ∙ append-nil (f (get_or xs i d)))

  all : flat_map f xs ≡ before ++ (f (get_or xs i d) ++ after)
  all = ap (flat_map f) (sym (take-append-drop i xs)) ∙ flat_map-append f (take i xs) (drop i xs)
      ∙ ap (λ (x : List ℕ). before ++ x) (ap (flat_map f) (drop_more xs i d lt) ∙ flat_map-cons f (get_or xs i d) (drop (i + 1) xs))

  pub one_written : (old middle new : List ℕ) → middle ≡ old ++ before → new ≡ middle ++ f (get_or xs i d) → new ≡ old ++ flat_map f (take (i + 1) xs)
  one_written old middle new e g = rw next (joined old middle new before (f (get_or xs i d)) e g)

  pub one_stops : (old middle new : List ℕ) → middle ≡ old ++ before → Extends middle new (f (get_or xs i d)) → Extends old new (flat_map f xs)
  one_stops old middle new e g = rw all (extends_second old middle new before (f (get_or xs i d) ++ after) e (extends_first middle new (f (get_or xs i d)) after g))

pub item_stops : {X : Type 0} (f : X → List ℕ) (xs : List X) (i : ℕ) (x : X) (old middle new : List ℕ) → i < length xs → x ≡ get_or xs i x → middle ≡ old ++ flat_map f (take i xs) → Extends middle new (f x) → Extends old new (flat_map f xs)
item_stops f xs i x old middle new lt is e g = one_stops f xs i x lt old middle new e (subst (λ y. Extends middle new (f y)) is g)

-- ---- what memory stops

pub mark_stands : (old middle new : List ℕ) (pushed code : ℕ) (rest : List ℕ) → middle ≡ old ++ pushed ∷ [] → new ≡ middle → pushed ≡ code → Extends old new (code ∷ rest)
mark_stands old middle new pushed code rest e f is = (code ∷ [], rest, f ∙ e ∙ ap (λ (x : ℕ). old ++ x ∷ []) is, refl)

pub generic_stands : (this : Bool) (number : Option ℕ) (count mark : ℕ) (old middle new : List ℕ) → number ≡ Some count → mark ≡ this_mark this → middle ≡ old ++ (mark + 0x10) ∷ [] → new ≡ middle
    → Extends old new ((this_mark this + generic_mark number) ∷ generic_bytes number)
generic_stands this number count mark old middle new is m e f = rw is (mark_stands old middle new (mark + 0x10) (this_mark this + 0x10) (compressed count) e f (ap (λ (x : ℕ). x + 0x10) m))

pub first_stops : (old middle new a b c : List ℕ) → middle ≡ old ++ a → Extends middle new b → Extends old new (a ++ (b ++ c))
first_stops old middle new a b c e f = extends_second old middle new a (b ++ c) e (extends_first middle new b c f)

pub method_stops : (s : Signature) (this : Bool) (number : Option ℕ) (one : TypeSignature) (types : List TypeSignature) (old new : List ℕ) → s ≡ Method this number one types
    → Extends old new ((this_mark this + generic_mark number) ∷ generic_bytes number) → Extends old new (signature_bytes s)
method_stops s this number one types old new is e = rw is (extends_first old new ((this_mark this + generic_mark number) ∷ generic_bytes number) (typed_bytes one types) e)

pub typed_stops : (s : Signature) (this : Bool) (number : Option ℕ) (one : TypeSignature) (types : List TypeSignature) (old middle new : List ℕ) → s ≡ Method this number one types
    → middle ≡ old ++ (this_mark this + generic_mark number) ∷ generic_bytes number → Extends middle new (typed_bytes one types) → Extends old new (signature_bytes s)
typed_stops s this number one types old middle new is e f = rw is (extends_second old middle new ((this_mark this + generic_mark number) ∷ generic_bytes number) (typed_bytes one types) e f)
