-- Methods appended one by one: what stands and what is still to come make up the whole.
use Rattle.std.proofs.Common.{◌≡◌, ℕ, zero, suc, ◌+◌, ◌*◌, ◌^◌, ◌<◌, ◌≤◌, List, [], ◌∷◌, ◌++◌, length, get_or, drop, refl, sym, ap, subst, ◌∙◌, append_assoc, arith, length-append}
use Rattle.std.specs.List.{AllByRecursion}
use Rattle.std.proofs.lemmas.List.{append-nil, drop_all, drop_more}
use Rattle.cc_cil.specs.declared.body.Body.{Body}
use Rattle.cc_cil.specs.Bodies.{body_bytes}
use Rattle.cc_module.specs.declared.rows.MethodDefRow.{MethodDefRow}
use Rattle.cc_module.specs.declared.rows.StandAloneSigRow.{StandAloneSigRow}
use Rattle.cc_module.specs.Storable.{FIRST_BODY, aligned, body_places}
use Rattle.cc_functions.specs.declared.function.Function.{Function}
use Rattle.cc_functions.specs.Fits.{size_of, total_size}
use Rattle.cc_functions.specs.Program.{bodies, local_row, local_rows, method_row, method_rows, rows_at}
use Rattle.cc_functions.specs.Program as spec
use Rattle.cc_functions.proofs.Bodies.{next_low}
use Rattle.cc_functions.proofs.Ranges.{few_methods, row_low}

pub record Part (all rest : List Function) (rows : List MethodDefRow) (locals : List StandAloneSigRow) (made : List Body) (place : ℕ) : Type 0 where
  pub rows_are : rows ++ rows_at (body_places place (bodies (length locals + 1) rest)) rest ≡ method_rows all
  pub locals_are : locals ++ local_rows rest ≡ local_rows all
  pub bodies_are : made ++ bodies (length locals + 1) rest ≡ bodies 1 all
  pub few : place + total_size rest ≤ 2 ^ 29
  pub count : 64 * (length locals + length rest) ≤ 2 ^ 29

pub begins : (all : List Function) → FIRST_BODY + total_size all ≤ 2 ^ 29 → Part all all [] [] [] FIRST_BODY
begins all few =
    let count = few_methods all in
    record { rows_are = refl; locals_are = refl; bodies_are = refl; few = few; count = omega (arith, count) }

-- ---- one more

module _ (all rest : List Function) (f : Function) (rows : List MethodDefRow) (locals : List StandAloneSigRow) (made : List Body) (place : ℕ) (part : Part all (f ∷ rest) rows locals made place) where
  abbrev body : Body
  body = spec.body (length locals + 1) f

  abbrev next : ℕ
  next = aligned (place + length (body_bytes body))

  row_is : length (local_row f.locals) + (length locals + 1) ≡ length (locals ++ local_row f.locals) + 1
  row_is = omega (arith, length-append locals (local_row f.locals))

  appended : Part all rest (rows ++ method_row place f ∷ []) (locals ++ local_row f.locals) (made ++ body ∷ []) next
  appended =
      let near = next_low place (length locals + 1) f in
      let both = length-append locals (local_row f.locals) in
      let one = row_low f.locals in
      let few = part.few in
      let count = part.count in
      record {
        rows_are = append_assoc rows (method_row place f ∷ []) (rows_at (body_places next (bodies (length (locals ++ local_row f.locals) + 1) rest)) rest)
            ∙ ap (λ (n : ℕ). rows ++ method_row place f ∷ rows_at (body_places next (bodies n rest)) rest) (sym row_is) ∙ part.rows_are;
        locals_are = append_assoc locals (local_row f.locals) (local_rows rest) ∙ part.locals_are;
        bodies_are = append_assoc made (body ∷ []) (bodies (length (locals ++ local_row f.locals) + 1) rest) ∙ ap (λ (n : ℕ). made ++ body ∷ bodies n rest) (sym row_is) ∙ part.bodies_are;
        few = omega (arith, near, few);
        count = omega (arith, both, one, count);
      }

  pub goes_on : (rows_new : List MethodDefRow) (locals_new : List StandAloneSigRow) (made_new : List Body) (place_new : ℕ) → rows_new ≡ rows ++ method_row place f ∷ [] → locals_new ≡ locals ++ local_row f.locals → made_new ≡ made ++ body ∷ [] → place_new ≡ next
      → Part all rest rows_new locals_new made_new place_new
  goes_on rows_new locals_new made_new place_new r l m p =
      subst (λ (x : List MethodDefRow). Part all rest x locals_new made_new place_new) (sym r)
      (subst (λ (x : List StandAloneSigRow). Part all rest (rows ++ method_row place f ∷ []) x made_new place_new) (sym l)
      (subst (λ (x : List Body). Part all rest (rows ++ method_row place f ∷ []) (locals ++ local_row f.locals) x place_new) (sym m)
      (subst (λ (x : ℕ). Part all rest (rows ++ method_row place f ∷ []) (locals ++ local_row f.locals) (made ++ body ∷ []) x) (sym p) appended)))

  -- what an append asks for
  pub room : place + size_of f ≤ 2 ^ 29
  room = let few = part.few in omega (arith, few)

  pub counted : length locals + 1 < 2 ^ 24
  counted = let count = part.count in omega (arith, count)

-- ---- one of a list, with one more behind

of_item : (P : Function → Type 0) (xs : List Function) (i : ℕ) (d : Function) → AllByRecursion P xs → i < length xs → P (get_or xs i d)
of_item P [] i d h within = absurd (omega arith)
of_item P (x ∷ xs) zero d h within = h.0
of_item P (x ∷ xs) (suc i) d h within = of_item P xs i d h.1 (omega arith)

pub item_has : (P : Function → Type 0) (xs : List Function) (i : ℕ) (f : Function) → i < length xs → f ≡ get_or xs i f → AllByRecursion P xs → P f
item_has P xs i f within is h = subst (λ (x : Function). P x) (sym is) (of_item P xs i f h within)

pub at_item : (all functions : List Function) (start f : Function) (i : ℕ) (rows : List MethodDefRow) (locals : List StandAloneSigRow) (made : List Body) (place : ℕ) → i < length functions → f ≡ get_or functions i f
    → Part all (drop i functions ++ start ∷ []) rows locals made place → Part all (f ∷ (drop (i + 1) functions ++ start ∷ [])) rows locals made place
at_item all functions start f i rows locals made place within is part =
    subst (λ (x : List Function). Part all (x ++ start ∷ []) rows locals made place) (drop_more functions i f within ∙ ap (λ (g : Function). g ∷ drop (i + 1) functions) (sym is)) part

pub at_end : (all functions : List Function) (start : Function) (i : ℕ) (rows : List MethodDefRow) (locals : List StandAloneSigRow) (made : List Body) (place : ℕ) → length functions ≤ i
    → Part all (drop i functions ++ start ∷ []) rows locals made place → Part all (start ∷ []) rows locals made place
at_end all functions start i rows locals made place past part = subst (λ (x : List Function). Part all (x ++ start ∷ []) rows locals made place) (drop_all i functions past) part

-- ---- the whole

pub rows_whole : (all : List Function) (rows : List MethodDefRow) (locals : List StandAloneSigRow) (made : List Body) (place : ℕ) → Part all [] rows locals made place → rows ≡ method_rows all
rows_whole all rows locals made place part = sym (append-nil rows) ∙ part.rows_are

pub locals_whole : (all : List Function) (rows : List MethodDefRow) (locals : List StandAloneSigRow) (made : List Body) (place : ℕ) → Part all [] rows locals made place → locals ≡ local_rows all
locals_whole all rows locals made place part = sym (append-nil locals) ∙ part.locals_are

pub bodies_whole : (all : List Function) (rows : List MethodDefRow) (locals : List StandAloneSigRow) (made : List Body) (place : ℕ) → Part all [] rows locals made place → made ≡ bodies 1 all
bodies_whole all rows locals made place part = sym (append-nil made) ∙ part.bodies_are
