-- A map from names to numbers after a change at one name.
use Rattle.std.proofs.Common.{◌≡◌, ℕ, suc, ◌+◌, ◌<◌, List, [], ◌∷◌, ◌++◌, length, take, get_or, Bool, true, false, cond, Option, Some, None, refl, sym, ap, subst, ◌∙◌, arith, append_assoc, add-zero, add-suc}
use Rattle.std.proofs.lemmas.List.{append-nil, take_more, length-take-le}
use Rattle.std.proofs.lemmas.Bool.{cases_Bool, cond-true, cond-false}
use mathlib.Core.Logic.{⊎_elim}
use Rattle.std.specs.Bool.{nat_eq}
use Rattle.std.specs.Str.{bytes_eq}
use Rattle.std.specs.Cmp.Lexicographic.{bytes_decides, nat_list_eq_equiv}
use Rattle.std.specs.HashMap.{HashMap, get_by, UpdatesBy, Updates}
use Rattle.std.specs.Map.{lookup, IsKeyTest, AreApart, KeepsOthers}
use Rattle.std.specs.declared.vec.Vec.{Vec}
use Rattle.cc_names.specs.Index.{numbers_under, numbers_or_none}
use Rattle.cc_names.specs.declared.scope.Item.{Item}
use Rattle.cc_names.specs.Lookup.{named, named_from}

apart : (bs cs ks : List ℕ) → bytes_eq bs cs ≡ false → bytes_eq bs ks ≡ true → bytes_eq cs ks ≡ false
apart bs cs ks n y = nat_list_eq_equiv.symm cs ks ∙ sym (nat_list_eq_equiv.congr bs ks cs y) ∙ n

module _ {K : Type 0} (eq : K → K → Bool) (test : K → Bool) where
  other_entries : {X : Type 0} (old new : List (K × X)) → KeepsOthers eq test old new → (other : K → Bool) → IsKeyTest eq other → AreApart test other → lookup other new ≡ lookup other old
  unfolding KeepsOthers
  other_entries old new h = h

by_bytes : {W : Type 0} (f g : List ℕ → W) (bs : List ℕ) (w : W) → g bs ≡ w → ((cs : List ℕ) → bytes_eq bs cs ≡ false → g cs ≡ f cs) → (cs : List ℕ) → g cs ≡ cond (bytes_eq bs cs) w (f cs)
by_bytes f g bs w here other cs =
    ⊎_elim
    (λ y. subst (λ l. g l ≡ w) ((bytes_decides bs cs).0 y) here ∙ sym (cond-true (bytes_eq bs cs) w (f cs) y))
    (λ n. other cs n ∙ sym (cond-false (bytes_eq bs cs) w (f cs) n))
    (cases_Bool (bytes_eq bs cs))

-- what a map has at a name after a change at another one, or at the same
changed : {A X S : Type 0} (name : List ℕ) (m n : HashMap (Vec ℕ A) X S) (w : Option X) → UpdatesBy (λ x y. bytes_eq x.items y.items) (λ key. bytes_eq name key.items) m n w
    → (other : List ℕ) → get_by (λ key. bytes_eq other key.items) n ≡ cond (bytes_eq name other) w (get_by (λ key. bytes_eq other key.items) m)
changed name m n w h =
    by_bytes (λ cs. get_by (λ key. bytes_eq cs key.items) m) (λ cs. get_by (λ key. bytes_eq cs key.items) n) name w h.1
    (λ cs e. other_entries _ _ _ _ h.3 _ (λ x y. nat_list_eq_equiv.congr cs x.items y.items) (λ key. apart name cs key.items e))

-- the list at a name, taken out and put back with one number more
grown : (b : Bool) (one : Option (List ℕ)) (number : ℕ) (here there : List ℕ) → (b ≡ true → here ≡ there)
    → numbers_or_none (cond b (Some (here ++ number ∷ [])) (cond b None one)) ≡ cond b (there ++ number ∷ []) (numbers_or_none one)
grown true one number here there same = ap (λ l. l ++ number ∷ []) (same refl)
grown false one number here there same = refl

spread : (b : Bool) (list : List ℕ) (number : ℕ) → cond b (list ++ number ∷ []) list ≡ list ++ cond b (number ∷ []) []
spread true list number = refl
spread false list number = sym (append-nil list)

pub added_number : {A S : Type 0} (name : List ℕ) (key : Vec ℕ A) (number : ℕ) (list : List ℕ) (old removed new : HashMap (Vec ℕ A) (List ℕ) S)
    → key.items ≡ name → list ≡ numbers_under old name ++ number ∷ []
    → UpdatesBy (λ x y. bytes_eq x.items y.items) (λ key. bytes_eq name key.items) old removed None
    → Updates (λ x y. bytes_eq x.items y.items) removed new key (Some list)
    → (other : List ℕ) → numbers_under new other ≡ numbers_under old other ++ cond (bytes_eq name other) (number ∷ []) []
added_number {A} {S} name key number list old removed new e is gone put other =
    let put_at : UpdatesBy (λ x y. bytes_eq x.items y.items) (λ key. bytes_eq name key.items) removed new (Some (numbers_under old name ++ number ∷ [])) =
    subst (λ all. UpdatesBy (λ x y. bytes_eq x.items y.items) (λ k. bytes_eq name k.items) removed new (Some all)) is
    (subst (λ l. UpdatesBy (λ x y. bytes_eq x.items y.items) (λ k. bytes_eq l k.items) removed new (Some list)) e put) in
    let after : get_by (λ key. bytes_eq other key.items) new ≡ cond (bytes_eq name other) (Some (numbers_under old name ++ number ∷ [])) (cond (bytes_eq name other) None (get_by (λ key. bytes_eq other key.items) old)) =
    changed name removed new _ put_at other ∙ ap (λ found. cond (bytes_eq name other) (Some (numbers_under old name ++ number ∷ [])) found) (changed name old removed None gone other) in
    ap numbers_or_none after
    ∙ grown (bytes_eq name other) (get_by (λ key. bytes_eq other key.items) old) number (numbers_under old name) (numbers_under old other) (λ y. ap (numbers_under old) ((bytes_decides name other).0 y))
    ∙ spread (bytes_eq name other) (numbers_under old other) number

joined : (b : Bool) (n : ℕ) (all first last : List ℕ) → all ≡ first ++ last → cond b (n ∷ all) all ≡ cond b (n ∷ first) first ++ last
joined true n all first last e = ap (λ l. n ∷ l) e
joined false n all first last e = e

-- the numbers of a name among some declarations and one more
named_snoc_from : (n : ℕ) (items : List Item) (item : Item) (name : List ℕ) → named_from n (items ++ item ∷ []) name ≡ named_from n items name ++ cond (bytes_eq item.name name) ((n + length items) ∷ []) []
named_snoc_from n [] item name = ap (λ k. cond (bytes_eq item.name name) (k ∷ []) []) (sym (add-zero n))
named_snoc_from n (first ∷ items) item name =
    joined (bytes_eq first.name name) n _ _ _ (named_snoc_from (suc n) items item name ∙ ap (λ k. named_from (suc n) items name ++ cond (bytes_eq item.name name) (k ∷ []) []) (omega arith))

pub named_snoc : (items : List Item) (item : Item) (name : List ℕ) → named (items ++ item ∷ []) name ≡ named items name ++ cond (bytes_eq item.name name) (length items ∷ []) []
named_snoc items item name = named_snoc_from 0 items item name ∙ ap (λ k. named items name ++ cond (bytes_eq item.name name) (k ∷ []) []) (omega arith)

-- a loop over declarations: the numbers of a name, after one declaration more
pub next_named : (items : List Item) (i : ℕ) (item : Item) (word name all more : List ℕ) → i < length items → item ≡ get_or items i item → word ≡ item.name
    → all ≡ named (take i items) name → more ≡ all ++ cond (bytes_eq word name) (i ∷ []) [] → more ≡ named (take (i + 1) items) name
next_named items i item word name all more h is spelled before e =
    e ∙ ap (λ l. l ++ cond (bytes_eq word name) (i ∷ []) []) before
    ∙ ap (λ w. named (take i items) name ++ cond (bytes_eq w name) (i ∷ []) []) spelled
    ∙ ap (λ k. named (take i items) name ++ cond (bytes_eq item.name name) (k ∷ []) []) (sym (length-take-le i items (omega arith)))
    ∙ sym (named_snoc (take i items) item name)
    ∙ ap (λ all. named all name) (ap (λ one. take i items ++ one ∷ []) is ∙ sym (take_more items i item h))
