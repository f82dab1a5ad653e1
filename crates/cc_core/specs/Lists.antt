-- Lists of trees as parts of a tree.
use Rattle.std.specs.Prelude.{◌≡◌, refl, List, [], ◌∷◌}
use Rattle.std.proofs.Common.{ap, sym, ◌∙◌}
use Rattle.cc_core.specs.declared.tree.Expression.{Expression, Row_of-Expression, end_of-Expression, more_of-Expression, items-the_row-Expression, items_hidden-the_row-Expression-0}
use Rattle.cc_core.specs.declared.tree.Expression.TheBlock.{hidden-the_row-Expression-0}
use Rattle.cc_core.specs.declared.tree.Statement.{Statement, Row_of-Statement, end_of-Statement, more_of-Statement, items-the_row-Statement, items_hidden-the_row-Statement-0, items_shown-the_row-Statement-0, items_hidden-the_row-Section-1, Row_of-Section, end_of-Section, more_of-Section, items-the_row-Section}
use Rattle.cc_core.specs.declared.tree.Statement.TheBlock.{hidden-the_row-Statement-0, hidden-the_row-Section-1}
use Rattle.cc_core.specs.declared.tree.Section.{Section}
use Rattle.cc_core.specs.declared.tree.SwitchLabel.{SwitchLabel}
use Rattle.cc_core.specs.Term as t
use Rattle.cc_core.specs.Step as s
use Rattle.cc_core.specs.Bare.{term_of, row_terms, step_of, row_steps, row_sections}

abbrev pub terms_of : List Expression → t.Terms
terms_of [] = t.no_terms
terms_of (e ∷ es) = t.next_term (term_of e) (terms_of es)

abbrev pub steps_of : List Statement → s.Steps
steps_of [] = s.no_steps
steps_of (a ∷ rest) = s.next_step (step_of a) (steps_of rest)

row_terms_is : (m : _) (r : Row_of-Expression m) → row_terms r ≡ terms_of (items-the_row-Expression m r)
row_terms_is m end_of-Expression = refl
row_terms_is m (more_of-Expression e rest) = ap (λ l. t.next_term (term_of e) l) (row_terms_is _ rest)

-- the terms in a tree are those of its list
pub row_terms-hidden : (items : List Expression) → row_terms (hidden-the_row-Expression-0 items) ≡ terms_of items
row_terms-hidden items = row_terms_is _ (hidden-the_row-Expression-0 items) ∙ ap terms_of (items_hidden-the_row-Expression-0 items)

row_steps_is : (m : _) (r : Row_of-Statement m) → row_steps r ≡ steps_of (items-the_row-Statement m r)
row_steps_is m end_of-Statement = refl
row_steps_is m (more_of-Statement e rest) = ap (λ l. s.next_step (step_of e) l) (row_steps_is _ rest)

-- the statements in a tree are those of its list
pub row_steps-hidden : (items : List Statement) → row_steps (hidden-the_row-Statement-0 items) ≡ steps_of items
row_steps-hidden items = row_steps_is _ (hidden-the_row-Statement-0 items) ∙ ap steps_of (items_hidden-the_row-Statement-0 items)

abbrev pub sections_of : List Section → s.Sections
sections_of [] = s.no_sections
sections_of (section ∷ rest) = s.next_section section.labels (steps_of section.body) (sections_of rest)

same_section : (labels : List SwitchLabel) (a b : s.Steps) (c d : s.Sections) → a ≡ b → c ≡ d → s.next_section labels a c ≡ s.next_section labels b d
same_section labels a b c d p q = ap (λ x. s.next_section labels x c) p ∙ ap (λ y. s.next_section labels b y) q

row_sections_is : (m : _) (r : Row_of-Section m) → row_sections r ≡ sections_of (items-the_row-Section m r)
row_sections_is m end_of-Section = refl
row_sections_is m (more_of-Section labels shape row rest) =
    same_section labels _ _ _ _ (row_steps_is _ row ∙ ap steps_of (sym (items_shown-the_row-Statement-0 shape row))) (row_sections_is _ rest)

-- the sections in a tree are those of its list
pub row_sections-hidden : (items : List Section) → row_sections (hidden-the_row-Section-1 items) ≡ sections_of items
row_sections-hidden items = row_sections_is _ (hidden-the_row-Section-1 items) ∙ ap sections_of (items_hidden-the_row-Section-1 items)
