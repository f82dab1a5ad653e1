-- What is added by a part is added by its parts, one after another.
use Rattle.std.proofs.Common.{◌≡◌, ℕ, ◌+◌, sym, ap, refl, ◌∙◌, List, [], ◌∷◌, ◌++◌, length, Some, arith, append_assoc, length-append, length-drop, add-one, suc, ◌<◌, ◌≤◌, map, drop, get_or, drop-cons}
use Rattle.std.proofs.Math.ListN.{drop_of_length-le}
use Rattle.std.proofs.lemmas.List.{append-nil}
use Rattle.cc_base.specs.declared.text.Span.{Span}
use Rattle.cc_tree.specs.declared.identifier.Identifier.{Identifier}
use Rattle.cc_names.specs.declared.scope.ScopeKind.{ScopeKind}
use Rattle.cc_names.specs.declared.scope.ItemKind.{ItemKind}
use Rattle.cc_names.specs.declared.scope.Declared.{Declared}
use Rattle.cc_names.specs.Parts.{Declares, nothing, named, both, inside, opening, in_order, added}
use Rattle.cc_names.specs.Collected.{with_scope, with_item}

pub added_nothing : (around : ℕ) (so_far : Declared) → added nothing around so_far ≡ so_far
unfolding added nothing
added_nothing around so_far = simp append-nil refl

pub added_named : (kind : ItemKind) (name : List ℕ) (span : Span) (around : ℕ) (so_far : Declared) → added (named kind name span) around so_far ≡ with_item kind name span around so_far
unfolding added named with_item
added_named kind name span around so_far = simp append-nil refl

pub added_inside : (kind : ScopeKind) (span : Span) (part : Declares) (around : ℕ) (so_far : Declared) → added (inside kind span part) around so_far ≡ added part (length so_far.scopes) (with_scope kind (Some around) span so_far)
unfolding added inside with_scope
added_inside kind span part around so_far =
    let longer = length-append so_far.scopes (record { kind = kind; parent = Some around; span = span } ∷ []) in
    rw (longer, append_assoc) refl

pub added_both : (first second : Declares) (around : ℕ) (so_far : Declared) → added (both first second) around so_far ≡ added second around (added first around so_far)
unfolding added both
added_both first second around so_far =
    let one = first around (length so_far.scopes) in
    let longer = length-append so_far.scopes one.scopes in
    rw (longer, append_assoc, append_assoc) refl

pub same_scopes : (kind : ItemKind) (name : List ℕ) (span : Span) (around : ℕ) (so_far : Declared) → length (with_item kind name span around so_far).scopes ≡ length so_far.scopes
unfolding with_item
same_scopes kind name span around so_far = refl

added_opened : (kind : ℕ → ItemKind) (identifier : Identifier) (scope_kind : ScopeKind) (span : Span) (part : Declares) (around : ℕ) (so_far : Declared)
    → added (opening kind identifier scope_kind span part) around so_far ≡ added (both (named (kind (length so_far.scopes)) identifier.name identifier.span) (inside scope_kind span part)) around so_far
unfolding added opening
added_opened kind identifier scope_kind span part around so_far = refl

pub added_opening : (kind : ℕ → ItemKind) (identifier : Identifier) (scope_kind : ScopeKind) (span : Span) (part : Declares) (around : ℕ) (so_far : Declared)
    → added (opening kind identifier scope_kind span part) around so_far
    ≡ added part (length so_far.scopes) (with_scope scope_kind (Some around) span (with_item (kind (length so_far.scopes)) identifier.name identifier.span around so_far))
added_opening kind identifier scope_kind span part around so_far =
    added_opened kind identifier scope_kind span part around so_far
    ∙ added_both (named (kind (length so_far.scopes)) identifier.name identifier.span) (inside scope_kind span part) around so_far
    ∙ added_inside scope_kind span part around (added (named (kind (length so_far.scopes)) identifier.name identifier.span) around so_far)
    ∙ ap (λ c. added part (length c.scopes) (with_scope scope_kind (Some around) span c)) (added_named (kind (length so_far.scopes)) identifier.name identifier.span around so_far)
    ∙ ap (λ n. added part n (with_scope scope_kind (Some around) span (with_item (kind (length so_far.scopes)) identifier.name identifier.span around so_far))) (same_scopes (kind (length so_far.scopes)) identifier.name identifier.span around so_far)

-- A loop over parts: what the parts from a place on add, when one more of them is added.
pub next_part : {A : Type 0} (declares : A → Declares) (xs : List A) (i : ℕ) (x : A) (around : ℕ) (so_far with_one : Declared)
    → i < length xs → x ≡ get_or xs i x → with_one ≡ added (declares x) around so_far
    → added (in_order (map declares (drop (i + 1) xs))) around with_one ≡ added (in_order (map declares (drop i xs))) around so_far
next_part declares xs i x around so_far with_one h is e =
    let opened = drop-cons xs i x h in
    let here = sym is in
    rw (e, add-one, opened, here) (sym (added_both (declares x) (in_order (map declares (drop (suc i) xs))) around so_far))

pub no_more_parts : {A : Type 0} (declares : A → Declares) (xs : List A) (i : ℕ) (around : ℕ) (so_far : Declared) → length xs ≤ i → added (in_order (map declares (drop i xs))) around so_far ≡ so_far
no_more_parts declares xs i around so_far h =
    let none = drop_of_length-le xs h in
    rw none (added_nothing around so_far)

pub ruleset adding = (same_scopes, added_nothing, added_named, added_inside, added_both, added_opening)
