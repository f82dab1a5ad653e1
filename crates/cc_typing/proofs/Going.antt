-- Functions that are typed one after another, and the program that is made of them.
use Rattle.std.proofs.Common.{◌≡◌, ℕ, suc, ◌+◌, ◌<◌, Bool, false, cond, List, [], ◌∷◌, ◌++◌, length, get_or, drop, Ok, Err, refl, sym, ap, ◌∙◌, subst, slice_get, add-one, drop-cons}
use Rattle.cc_base.specs.declared.identifiers.MethodId.{MethodId}
use Rattle.cc_tree.specs.declared.unit.Unit.{Unit}
use Rattle.cc_core.specs.declared.types.ClassInfo.{ClassInfo}
use Rattle.cc_names.specs.declared.lookup.Directive.{Directive}
use Rattle.cc_names.specs.declared.scope.Item.{Item}
use Rattle.cc_names.specs.declared.scope.Scope.{Scope}
use Rattle.cc_names.specs.Directives.{directives}
use Rattle.cc_names.specs.Library as names
use Rattle.cc_operations.specs.declared.judged.Refusal.{Refusal}
use Rattle.cc_operations.specs.declared.source.Source.{Source}
use Rattle.cc_operations.specs.declared.source.Frame.{Frame}
use Rattle.cc_operations.specs.Choosing.{Pick, Chooses}
use Rattle.cc_operations.specs.Judgements.{Judged, next, judged_by}
use Rattle.cc_statements.specs.Steps.{Typed, with_frame}
use Rattle.cc_terms.specs.Resolving.{Finds}
use Rattle.cc_typing.specs.declared.contents.Placed as held
use Rattle.cc_typing.specs.Told.{told, told_all}
use Rattle.cc_typing_laws.specs.Contents.{Placed, functions}
use Rattle.cc_typing_laws.specs.Finding.{finds_in}
use Rattle.cc_typing_laws.specs.Functions.{TypedBody, or_zero, scope_of, numbers_from, function_typed, bodies_from}
use Rattle.cc_typing_laws.specs.Programs.{TypedProgram, library_classes, classes_with, start_from, started_at, source_of, typed_with, typed_program}

-- a part that is refused refuses the whole, and one that is made leads on
pub ended : {A B : Type 0} (part : Judged A) (refusal : Refusal) (step : A → Judged B) → Err refusal ≡ part → Err refusal ≡ next part step
ended part refusal step e = ap (λ m. next m step) e

pub went : {A B : Type 0} (part : Judged A) (a : A) (step : A → Judged B) (made : Judged B) → Ok a ≡ part → made ≡ step a → made ≡ next part step
went part a step made e f = f ∙ ap (λ m. next m step) e

-- what a function answered, which is said of its result without the places in memory
pub gone : {A B : Type 0} (bare : A → B) (judged : Judged A) (refusal : Refusal) (part : Judged B) → judged ≡ Err refusal → judged_by bare judged ≡ part → Err refusal ≡ part
gone bare judged refusal part is says = sym (ap (judged_by bare) is) ∙ says

pub gave : {A B : Type 0} (bare : A → B) (judged : Judged A) (a : A) (part : Judged B) → judged ≡ Ok a → judged_by bare judged ≡ part → Ok (bare a) ≡ part
gave bare judged a part is says = sym (ap (judged_by bare) is) ∙ says

pub gave_with : {A B : Type 0} (bare : A → B) (judged : Judged A) (a : A) (after : Frame) (part : Typed B) → judged ≡ Ok a → with_frame bare judged after ≡ part → Ok (bare a, after) ≡ part
gave_with bare judged a after part is says = sym (ap (λ (j : Judged _). with_frame bare j after) is) ∙ says

-- what is judged where a test fails
pub otherwise : {A : Type 0} (test : Bool) (first second made : Judged A) → test ≡ false → made ≡ second → made ≡ cond test first second
otherwise test first second made e f = f ∙ ap (λ b. cond b first second) (sym e)

-- ---- functions in order

-- those behind a place, with the one that stands there
split_at : (functions : List held.Placed) (at : ℕ) (one : held.Placed) → at < length functions → one ≡ get_or functions at one → one ∷ drop (suc at) functions ≡ drop at functions
split_at functions at one within is = ap (λ x. x ∷ drop (suc at) functions) is ∙ sym (drop-cons functions at one within)

module _ (pick : Pick) (finds : Finds) (source : Source) (items : List Item) (numbers : List ℕ) where
  abbrev typed_at : Placed → ℕ → Judged TypedBody
  typed_at one at = function_typed pick finds source one at (scope_of (slice_get items (or_zero (slice_get numbers at))))

  abbrev rest : ℕ → List Placed → List TypedBody → Judged (List TypedBody)
  rest at more done = bodies_from pick finds source items numbers at more done

  pub refused_at : (functions : List held.Placed) (at : ℕ) (one : held.Placed) (done : List TypedBody) (refusal : Refusal) → at < length functions → one ≡ get_or functions at one
      → Err refusal ≡ typed_at (told one) at → Err refusal ≡ rest at (told_all (drop at functions)) done
  refused_at functions at one done refusal within is e =
      ended (typed_at (told one) at) refusal (λ made. rest (suc at) (told_all (drop (suc at) functions)) (done ++ made ∷ [])) e
      ∙ ap (λ l. rest at (told_all l) done) (split_at functions at one within is)

  pub typed_on : (functions : List held.Placed) (at : ℕ) (one : held.Placed) (done : List TypedBody) (made : TypedBody) → at < length functions → one ≡ get_or functions at one
      → Ok made ≡ typed_at (told one) at → rest (at + 1) (told_all (drop (at + 1) functions)) (done ++ made ∷ []) ≡ rest at (told_all (drop at functions)) done
  typed_on functions at one done made within is e =
      ap (λ n. rest n (told_all (drop n functions)) (done ++ made ∷ [])) (add-one at)
      ∙ ap (λ m. next m (λ made. rest (suc at) (told_all (drop (suc at) functions)) (done ++ made ∷ []))) e
      ∙ ap (λ l. rest at (told_all l) done) (split_at functions at one within is)

-- ---- programs

module _ (pick : Pick) (library : List ClassInfo) (finds : Finds) (items : List Item) (unit : Unit) where
  abbrev all_bodies : Judged (List TypedBody)
  all_bodies = bodies_from pick finds (source_of library unit (numbers_from 0 items)) items (numbers_from 0 items) 0 (functions unit) []

  abbrev start : Judged MethodId
  start = started_at unit.span (start_from 0 (functions unit))

  abbrev made_of : List TypedBody → MethodId → TypedProgram
  made_of bodies main = record { classes = classes_with library (functions unit); bodies = bodies; main = main }

  abbrev whole : List TypedBody → Judged TypedProgram
  whole bodies = next start (λ main. Ok (made_of bodies main))

  pub bodies_refused : (refusal : Refusal) → Err refusal ≡ all_bodies → Err refusal ≡ typed_with pick library finds items unit
  bodies_refused refusal e = ended all_bodies refusal whole e

  pub start_refused : (bodies : List TypedBody) (refusal : Refusal) → Ok bodies ≡ all_bodies → Err refusal ≡ start → Err refusal ≡ typed_with pick library finds items unit
  start_refused bodies refusal e s = went all_bodies bodies whole (Err refusal) e (ended start refusal (λ main. Ok (made_of bodies main)) s)

  pub made_program : (bodies : List TypedBody) (main : MethodId) → Ok bodies ≡ all_bodies → Ok main ≡ start → Ok (made_of bodies main) ≡ typed_with pick library finds items unit
  made_program bodies main e s = went all_bodies bodies whole (Ok (made_of bodies main)) e (went start main (λ main. Ok (made_of bodies main)) (Ok (made_of bodies main)) s refl)

-- what is typed with what is known of a source
pub all_typed : (library : List ClassInfo) (finds : Finds) (items : List Item) (unit : Unit) (source : Source) (here : List Item) (numbers other : List ℕ) (all : List Placed) (judged : Judged (List TypedBody))
    → source ≡ source_of library unit other → here ≡ items → numbers ≡ numbers_from 0 items → other ≡ numbers_from 0 items → all ≡ functions unit
    → ((choice : Pick) → Chooses source.classes choice → judged ≡ bodies_from choice finds source here numbers 0 all [])
    → (choice : Pick) → Chooses (classes_with library (functions unit)) choice → judged ≡ all_bodies choice library finds items unit
all_typed library finds items unit source here numbers other all judged s h n o a says choice chooses =
    says choice (subst (λ l. Chooses l choice) (sym (ap (λ (x : Source). x.classes) s)) chooses)
    ∙ ap (λ x. bodies_from choice finds x here numbers 0 all []) (s ∙ ap (source_of library unit) o)
    ∙ ap (λ x. bodies_from choice finds (source_of library unit (numbers_from 0 items)) x numbers 0 all []) h
    ∙ ap (λ x. bodies_from choice finds (source_of library unit (numbers_from 0 items)) items x 0 all []) n
    ∙ ap (λ x. bodies_from choice finds (source_of library unit (numbers_from 0 items)) items (numbers_from 0 items) 0 x []) a

-- what the declarations of a source have is what its declarations are
pub by_declared : (pick : Pick) (unit : Unit) (scopes : List Scope) (items : List Item) (directed : List Directive)
    → scopes ≡ (names.declared unit).scopes → items ≡ (names.declared unit).items → directed ≡ directives (names.declared unit).scopes (names.declared unit).items unit
    → typed_with pick library_classes (finds_in scopes items directed) items unit ≡ typed_program pick unit
by_declared pick unit scopes items directed s i d =
    ap (λ x. typed_with pick library_classes (finds_in x items directed) items unit) s
    ∙ ap (λ x. typed_with pick library_classes (finds_in (names.declared unit).scopes x directed) x unit) i
    ∙ ap (λ x. typed_with pick library_classes (finds_in (names.declared unit).scopes (names.declared unit).items x) (names.declared unit).items unit) d
