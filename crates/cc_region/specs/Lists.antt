-- Lists of regions as parts of a tree.
use Rattle.std.specs.Prelude.{◌≡◌, refl, List, [], ◌∷◌}
use Rattle.std.proofs.Common.{ap, sym, ◌∙◌}
use Rattle.cc_core.specs.declared.tree.SwitchLabel.{SwitchLabel}
use Rattle.cc_region.specs.declared.tree.RegionStatement.{RegionStatement, Row_of-RegionStatement, end_of-RegionStatement, more_of-RegionStatement, items-the_row-RegionStatement, items_hidden-the_row-RegionStatement-0, items_shown-the_row-RegionStatement-0, items_hidden-the_row-RegionSection-1, Row_of-RegionSection, end_of-RegionSection, more_of-RegionSection, items-the_row-RegionSection}
use Rattle.cc_region.specs.declared.tree.RegionStatement.TheBlock.{hidden-the_row-RegionStatement-0, hidden-the_row-RegionSection-1}
use Rattle.cc_region.specs.declared.tree.RegionSection.{RegionSection}
use Rattle.cc_region.specs.Region as region
use Rattle.cc_region.specs.Bare.{region_of, row_regions, row_sections}

abbrev pub regions_of : List RegionStatement → region.Regions
regions_of [] = region.no_regions
regions_of (a ∷ rest) = region.next_region (region_of a) (regions_of rest)

row_regions_is : (m : _) (r : Row_of-RegionStatement m) → row_regions r ≡ regions_of (items-the_row-RegionStatement m r)
row_regions_is m end_of-RegionStatement = refl
row_regions_is m (more_of-RegionStatement a rest) = ap (λ l. region.next_region (region_of a) l) (row_regions_is _ rest)

-- the statements in a tree are those of its list
pub row_regions-hidden : (items : List RegionStatement) → row_regions (hidden-the_row-RegionStatement-0 items) ≡ regions_of items
row_regions-hidden items = row_regions_is _ (hidden-the_row-RegionStatement-0 items) ∙ ap regions_of (items_hidden-the_row-RegionStatement-0 items)

abbrev pub sections_of : List RegionSection → region.Sections
sections_of [] = region.no_sections
sections_of (section ∷ rest) = region.next_section section.labels (regions_of section.body) (sections_of rest)

same_section : (labels : List SwitchLabel) (a b : region.Regions) (c d : region.Sections) → a ≡ b → c ≡ d → region.next_section labels a c ≡ region.next_section labels b d
same_section labels a b c d p q = ap (λ x. region.next_section labels x c) p ∙ ap (λ y. region.next_section labels b y) q

row_sections_is : (m : _) (r : Row_of-RegionSection m) → row_sections r ≡ sections_of (items-the_row-RegionSection m r)
row_sections_is m end_of-RegionSection = refl
row_sections_is m (more_of-RegionSection labels shape row rest) =
    same_section labels _ _ _ _ (row_regions_is _ row ∙ ap regions_of (sym (items_shown-the_row-RegionStatement-0 shape row))) (row_sections_is _ rest)

-- the sections in a tree are those of its list
pub row_sections-hidden : (items : List RegionSection) → row_sections (hidden-the_row-RegionSection-1 items) ≡ sections_of items
row_sections-hidden items = row_sections_is _ (hidden-the_row-RegionSection-1 items) ∙ ap sections_of (items_hidden-the_row-RegionSection-1 items)
