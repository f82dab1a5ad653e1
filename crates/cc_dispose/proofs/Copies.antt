-- Lists of terms and of regions whose elements are the same without their places.
use Rattle.std.proofs.Common.{◌≡◌, List, [], ◌∷◌, refl, sym, ap, ◌∙◌, map}
use Rattle.std.specs.declared.boxed.Box.{Box}
use Rattle.std.specs.declared.alloc.Global.{Global}
use Rattle.cc_base.specs.declared.identifiers.ClassId.{ClassId}
use Rattle.cc_base.specs.declared.identifiers.LocalId.{LocalId}
use Rattle.cc_base.specs.declared.identifiers.MethodId.{MethodId}
use Rattle.cc_core.specs.declared.library_call.LibraryCall.{LibraryCall}
use Rattle.cc_core.specs.declared.tree.Dispatch.{Dispatch}
use Rattle.cc_core.specs.declared.tree.Expression.{Expression}
use Rattle.cc_core.specs.declared.tree.Expression.TheVariants as e
use Rattle.cc_core.specs.declared.types.CoreType.{CoreType}
use Rattle.cc_core.specs.Types.{bare}
use Rattle.cc_core.specs.declared.tree.Expression.TheBlock.{hidden-the_row-Expression-0}
use Rattle.cc_core.specs.Bare.{term_of, row_terms}
use Rattle.cc_core.specs.Lists.{terms_of, row_terms-hidden}
use Rattle.cc_core.specs.Term as t
use Rattle.cc_core.specs.Term.{Term, Terms}

abbrev terms : List Term → Terms
terms [] = t.no_terms
terms (e ∷ rest) = t.next_term e (terms rest)

terms_are : (l : List Expression) → terms_of l ≡ terms (map term_of l)
terms_are [] = refl
terms_are (e ∷ l) = ap (t.next_term (term_of e)) (terms_are l)

pub same_row : (a b : List Expression) → map term_of a ≡ map term_of b → row_terms (hidden-the_row-Expression-0 a) ≡ row_terms (hidden-the_row-Expression-0 b)
same_row a b p = row_terms-hidden a ∙ terms_are a ∙ ap terms p ∙ sym (terms_are b) ∙ sym (row_terms-hidden b)

pub call_copied : (x : Expression) (of of' : CoreType) (m : MethodId) (d : Dispatch) (l l' : List Expression) → x ≡ e.Call of m d l → bare of' ≡ bare of → map term_of l' ≡ map term_of l
    → term_of (e.Call of' m d l') ≡ term_of x
call_copied x of of' m d l l' p q r =
    ap (λ y. t.Call y m d (row_terms (hidden-the_row-Expression-0 l'))) q ∙ ap (t.Call (bare of) m d) (same_row l' l r) ∙ sym (ap term_of p)

pub new_copied : (x : Expression) (of of' : CoreType) (c : ClassId) (m : MethodId) (l l' : List Expression) → x ≡ e.New of c m l → bare of' ≡ bare of → map term_of l' ≡ map term_of l
    → term_of (e.New of' c m l') ≡ term_of x
new_copied x of of' c m l l' p q r =
    ap (λ y. t.New y c m (row_terms (hidden-the_row-Expression-0 l'))) q ∙ ap (t.New (bare of) c m) (same_row l' l r) ∙ sym (ap term_of p)

pub library_copied : (x : Expression) (of of' : CoreType) (call : LibraryCall) (l l' : List Expression) → x ≡ e.Library of call l → bare of' ≡ bare of → map term_of l' ≡ map term_of l
    → term_of (e.Library of' call l') ≡ term_of x
library_copied x of of' call l l' p q r =
    ap (λ y. t.Library y call (row_terms (hidden-the_row-Expression-0 l'))) q ∙ ap (t.Library (bare of) call) (same_row l' l r) ∙ sym (ap term_of p)

pub array_copied : (x : Expression) (of of' element element' : CoreType) (l l' : List Expression) → x ≡ e.ArrayOf of element l → bare of' ≡ bare of → bare element' ≡ bare element → map term_of l' ≡ map term_of l
    → term_of (e.ArrayOf of' element' l') ≡ term_of x
array_copied x of of' element element' l l' p q s r =
    ap (λ y. t.ArrayOf y (bare element') (row_terms (hidden-the_row-Expression-0 l'))) q
    ∙ ap (λ y. t.ArrayOf (bare of) y (row_terms (hidden-the_row-Expression-0 l'))) s ∙ ap (t.ArrayOf (bare of) (bare element)) (same_row l' l r) ∙ sym (ap term_of p)

pub let_copied : (x : Expression) (of of' : CoreType) (local : LocalId) (a b a' b' : Box Expression Global) → x ≡ e.Let of local a b → bare of' ≡ bare of → term_of a'.value ≡ term_of a.value → term_of b'.value ≡ term_of b.value
    → term_of (e.Let of' local a' b') ≡ term_of x
let_copied x of of' local a b a' b' p q r s =
    ap (λ y. t.Let y local (term_of a'.value) (term_of b'.value)) q
    ∙ ap (λ y. t.Let (bare of) local y (term_of b'.value)) r ∙ ap (t.Let (bare of) local (term_of a.value)) s ∙ sym (ap term_of p)
