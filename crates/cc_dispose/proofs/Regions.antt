-- Lists of statements and sections, and of the regions that they become.
use Rattle.std.proofs.Common.{◌≡◌, ℕ, suc, List, [], ◌∷◌, refl, sym, ap, ◌∙◌, map}
use Rattle.cc_base.specs.declared.identifiers.LocalId.{LocalId}
use Rattle.cc_core.specs.declared.tree.Expression.{Expression}
use Rattle.cc_core.specs.declared.tree.Section.{Section}
use Rattle.cc_core.specs.declared.tree.Statement.{Statement}
use Rattle.cc_core.specs.declared.tree.Statement.TheVariants as s
use Rattle.cc_core.specs.declared.tree.SwitchLabel.{SwitchLabel}
use Rattle.cc_core.specs.Bare.{term_of, step_of}
use Rattle.cc_core.specs.Lists.{steps_of, sections_of, row_steps-hidden, row_sections-hidden}
use Rattle.cc_core.specs.Step as step
use Rattle.cc_region.specs.declared.tree.RegionSection.{RegionSection}
use Rattle.cc_region.specs.declared.tree.RegionStatement.{RegionStatement}
use Rattle.cc_region.specs.declared.tree.RegionStatement.TheVariants as r
use Rattle.cc_region.specs.declared.tree.RegionStatement.TheBlock.{hidden-the_row-RegionSection-1}
use Rattle.cc_region.specs.Bare.{region_of, row_sections}
use Rattle.cc_region.specs.Lists as made
use Rattle.cc_region.specs.Lists.{regions_of, row_regions-hidden}
use Rattle.cc_region.specs.Region as region
use Rattle.cc_region.specs.Region.{Region, Regions}
use Rattle.cc_dispose.specs.Lower.{lowered, lowered_all, lowered_sections, bare_section, lowered_section}

abbrev regions : List Region → Regions
regions [] = region.no_regions
regions (a ∷ rest) = region.next_region a (regions rest)

regions_are : (l : List RegionStatement) → regions_of l ≡ regions (map region_of l)
regions_are [] = refl
regions_are (a ∷ l) = ap (region.next_region (region_of a)) (regions_are l)

lowered_are : (inner : ℕ) (l : List Statement) → lowered_all inner (steps_of l) ≡ regions (map (λ a. lowered inner (step_of a)) l)
lowered_are inner [] = refl
lowered_are inner (a ∷ l) = ap (region.next_region (lowered inner (step_of a))) (lowered_are inner l)

pub block_lowered : (inner : ℕ) (x : Statement) (l : List Statement) (l' : List RegionStatement) → x ≡ s.Block l → map region_of l' ≡ map (λ a. lowered inner (step_of a)) l
    → region_of (r.Sequence l') ≡ lowered inner (step_of x)
block_lowered inner x l l' p q =
    ap region.Sequence (row_regions-hidden l' ∙ regions_are l' ∙ ap regions q ∙ sym (lowered_are inner l))
    ∙ sym (ap (λ y. lowered inner (step_of y)) p ∙ ap (λ y. lowered inner (step.Block y)) (row_steps-hidden l))

abbrev sections : List (List SwitchLabel × List Region) → region.Sections
sections [] = region.no_sections
sections (a ∷ rest) = region.next_section a.0 (regions a.1) (sections rest)

sections_are : (l : List RegionSection) → made.sections_of l ≡ sections (map bare_section l)
sections_are [] = refl
sections_are (a ∷ l) =
    ap (λ b. region.next_section a.labels b (made.sections_of l)) (regions_are a.body) ∙ ap (region.next_section a.labels (regions (map region_of a.body))) (sections_are l)

lowered_sections_are : (inner : ℕ) (l : List Section) → lowered_sections inner (sections_of l) ≡ sections (map (lowered_section inner) l)
lowered_sections_are inner [] = refl
lowered_sections_are inner (a ∷ l) =
    ap (λ b. region.next_section a.labels b (lowered_sections inner (sections_of l))) (lowered_are inner a.body)
    ∙ ap (region.next_section a.labels (regions (map (λ b. lowered inner (step_of b)) a.body))) (lowered_sections_are inner l)

pub switch_lowered : (inner more : ℕ) (x : Statement) (local : LocalId) (e e' : Expression) (l : List Section) (l' : List RegionSection) → x ≡ s.Switch local e l → more ≡ suc inner
    → term_of e' ≡ term_of e → map bare_section l' ≡ map (lowered_section more) l → region_of (r.Switch local e' l') ≡ lowered inner (step_of x)
switch_lowered inner more x local e e' l l' p m t q =
    ap (λ y. region.Switch local y (row_sections (hidden-the_row-RegionSection-1 l'))) t
    ∙ ap (region.Switch local (term_of e)) (made.row_sections-hidden l' ∙ sections_are l' ∙ ap sections (q ∙ ap (λ n. map (lowered_section n) l) m) ∙ sym (lowered_sections_are (suc inner) l))
    ∙ sym (ap (λ y. lowered inner (step_of y)) p ∙ ap (λ y. lowered inner (step.Switch local (term_of e) y)) (row_sections-hidden l))
