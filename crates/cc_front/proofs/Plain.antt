-- A unit of built forms has no template.
use Rattle.std.proofs.Common.{◌≡◌, ◌∙◌, List, [], ◌∷◌, map, refl, sym, ap₂, subst}
use Rattle.std.specs.Prelude.{None, Some, Bool, false, ◌||◌}
use Rattle.std.specs.List.{list_any}
use Rattle.cc_tree.specs.declared.unit.Unit as unit
use Rattle.cc_tree.specs.declared.unit.Outer.{Outer, Outer-F, roll-Outer, fold-roll-Outer, map-Outer, ind-Outer}
use Rattle.cc_tree.specs.declared.unit.Outer.TheOpen as o
use Rattle.cc_forms.specs.Forms.{Unbuilt, earlier, first_of, outer_form, outer_layer, first_not_built}
use Rattle.cc_template.specs.Expansion.{has_template, template_layer, IsWithoutTemplates}

-- where the forms of a declaration are built, it is no template and holds none
abbrev IsPlain : Outer → Type 0
IsPlain one = outer_form one ≡ None → has_template one ≡ false

abbrev PlainOuter : Type 0
PlainOuter = (one : Outer) × IsPlain one

abbrev bare_layer : Outer-F PlainOuter → Outer-F Outer
bare_layer = map-Outer PlainOuter Outer (λ k. k.0)

-- where both are built, each is
both_built : (one more : Unbuilt) → earlier one more ≡ None → (one ≡ None) × (more ≡ None)
both_built None more h = (refl, h)
both_built (Some span) more h = absurd (let other : Some span ≡ None = h in cc)

plain_all : (all : List PlainOuter) → first_of (map outer_form (map (λ k. k.0) all)) ≡ None → list_any (λ has. has) (map has_template (map (λ k. k.0) all)) ≡ false
plain_all [] h = refl
plain_all (k ∷ all) h =
    let both = both_built (outer_form k.0) (first_of (map outer_form (map (λ k. k.0) all))) h in
    ap₂ (λ (a b : Bool). a || b) (k.1 both.0) (plain_all all both.1)

plain_layer : (y : Outer-F PlainOuter) → outer_layer (map-Outer Outer Unbuilt outer_form (bare_layer y)) ≡ None → template_layer (map-Outer Outer Bool has_template (bare_layer y)) ≡ false
plain_layer (o.Using path span) h = refl
plain_layer (o.Namespace name outers span) h = plain_all outers h
plain_layer (o.Class one) h = refl
plain_layer (o.Enumeration one) h = refl
plain_layer (o.VisibleClass visible one span) h = refl
plain_layer (o.VisibleEnumeration visible one span) h = refl
plain_layer (o.Forward key name span) h = refl
plain_layer (o.Template one) h = absurd cc
plain_layer (o.Function one) h = refl

plain_step : (x : Outer-F Outer) (y : Outer-F PlainOuter) → bare_layer y ≡ x → IsPlain (roll-Outer x)
plain_step x y is =
    subst (λ z. IsPlain (roll-Outer z)) is
    (λ h. fold-roll-Outer Bool template_layer (bare_layer y) ∙ plain_layer y (sym (fold-roll-Outer Unbuilt outer_layer (bare_layer y)) ∙ h))

plain : (one : Outer) → IsPlain one
plain = ind-Outer IsPlain plain_step

plain_outers : (all : List Outer) → first_of (map outer_form all) ≡ None → list_any has_template all ≡ false
plain_outers [] h = refl
plain_outers (one ∷ all) h =
    let both = both_built (outer_form one) (first_of (map outer_form all)) h in
    ap₂ (λ (a b : Bool). a || b) (plain one both.0) (plain_outers all both.1)

pub built_plain : (tree : unit.Unit) → first_not_built tree ≡ None → IsWithoutTemplates tree
built_plain tree built = plain_outers tree.outers built
