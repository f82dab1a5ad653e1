-- Calls, sequences and switches, whose parts are lists.
use Rattle.std.proofs.Common.{◌≡◌, ℕ, ◌+◌, List, [], ◌∷◌, ◌++◌, ap, ◌∙◌}
use Rattle.std.specs.Prelude.{max}
use Rattle.cc_base.specs.declared.identifiers.LocalId.{LocalId}
use Rattle.cc_base.specs.declared.identifiers.MethodId.{MethodId}
use Rattle.cc_cil.specs.declared.instruction.Instruction.TheVariants as the
use Rattle.cc_core.specs.declared.library_call.LibraryCall.{LibraryCall}
use Rattle.cc_core.specs.declared.tree.Dispatch.{Dispatch}
use Rattle.cc_core.specs.declared.tree.Expression.{Expression}
use Rattle.cc_core.specs.declared.tree.Expression.TheVariants as e
use Rattle.cc_core.specs.declared.types.CoreType.{CoreType}
use Rattle.cc_core.specs.Types.{bare}
use Rattle.cc_core.specs.Term as t
use Rattle.cc_core.specs.Term.{type_of}
use Rattle.cc_core.specs.Bare.{term_of}
use Rattle.cc_core.specs.Lists.{terms_of, row_terms-hidden}
use Rattle.cc_region.specs.declared.tree.RegionSection.{RegionSection}
use Rattle.cc_region.specs.declared.tree.RegionStatement.{RegionStatement}
use Rattle.cc_region.specs.declared.tree.RegionStatement.TheVariants as s
use Rattle.cc_region.specs.Region as region
use Rattle.cc_region.specs.Bare.{region_of}
use Rattle.cc_region.specs.Lists.{regions_of, sections_of, row_regions-hidden, row_sections-hidden}
use Rattle.cc_code.specs.declared.targets.Target.{Target}
use Rattle.cc_code.specs.declared.tokens.Tokens.{Tokens}
use Rattle.cc_code.specs.Heights.{term_height, terms_height, values_of, region_height, regions_height, sections_height}
use Rattle.cc_code.specs.Regions.{region_code, regions_code}
use Rattle.cc_code.specs.Sizes.{term_size, terms_size, region_size, regions_size, sections_size, tests_size}
use Rattle.cc_code.specs.Terms.{term_code, terms_code, call, library_token}

call_of : (x : Expression) (u : CoreType) (m : MethodId) (d : Dispatch) (l : List Expression) → x ≡ e.Call u m d l → term_of x ≡ t.Call (bare u) m d (terms_of l)
call_of x u m d l p = ap term_of p ∙ ap (t.Call (bare u) m d) (row_terms-hidden l)

library_of : (x : Expression) (u : CoreType) (c : LibraryCall) (l : List Expression) → x ≡ e.Library u c l → term_of x ≡ t.Library (bare u) c (terms_of l)
library_of x u c l p = ap term_of p ∙ ap (t.Library (bare u) c) (row_terms-hidden l)

sequence_of : (x : RegionStatement) (l : List RegionStatement) → x ≡ s.Sequence l → region_of x ≡ region.Sequence (regions_of l)
sequence_of x l p = ap region_of p ∙ ap region.Sequence (row_regions-hidden l)

switch_of : (x : RegionStatement) (local : LocalId) (a : Expression) (l : List RegionSection) → x ≡ s.Switch local a l → region_of x ≡ region.Switch local (term_of a) (sections_of l)
switch_of x local a l p = ap region_of p ∙ ap (region.Switch local (term_of a)) (row_sections-hidden l)

-- ---- sizes

pub size_call : (x : Expression) (u : CoreType) (m : MethodId) (d : Dispatch) (l : List Expression) → x ≡ e.Call u m d l → term_size (term_of x) ≡ terms_size (terms_of l) + 5
size_call x u m d l p = ap term_size (call_of x u m d l p)

pub size_library : (x : Expression) (u : CoreType) (c : LibraryCall) (l : List Expression) → x ≡ e.Library u c l → term_size (term_of x) ≡ terms_size (terms_of l) + 5
size_library x u c l p = ap term_size (library_of x u c l p)

pub size_sequence : (x : RegionStatement) (l : List RegionStatement) → x ≡ s.Sequence l → region_size (region_of x) ≡ regions_size (regions_of l)
size_sequence x l p = ap region_size (sequence_of x l p)

pub size_switch : (x : RegionStatement) (local : LocalId) (a : Expression) (l : List RegionSection) → x ≡ s.Switch local a l
    → region_size (region_of x) ≡ term_size (term_of a) + tests_size (type_of (term_of a)) (sections_of l) + sections_size (sections_of l) + 10
size_switch x local a l p = ap region_size (switch_of x local a l p)

pub switch_size : (x : RegionStatement) (local : LocalId) (a : Expression) (l : List RegionSection) → x ≡ s.Switch local a l → region_size (region_of x) ≡ region_size (region.Switch local (term_of a) (sections_of l))
switch_size x local a l p = ap region_size (switch_of x local a l p)

-- ---- heights

pub height_call : (x : Expression) (u : CoreType) (m : MethodId) (d : Dispatch) (l : List Expression) → x ≡ e.Call u m d l → term_height (term_of x) ≡ max (terms_height (terms_of l)) (values_of (bare u))
height_call x u m d l p = ap term_height (call_of x u m d l p)

pub height_library : (x : Expression) (u : CoreType) (c : LibraryCall) (l : List Expression) → x ≡ e.Library u c l → term_height (term_of x) ≡ max (terms_height (terms_of l)) (values_of (bare u))
height_library x u c l p = ap term_height (library_of x u c l p)

pub height_sequence : (x : RegionStatement) (l : List RegionStatement) → x ≡ s.Sequence l → region_height (region_of x) ≡ regions_height (regions_of l)
height_sequence x l p = ap region_height (sequence_of x l p)

pub height_switch : (x : RegionStatement) (local : LocalId) (a : Expression) (l : List RegionSection) → x ≡ s.Switch local a l
    → region_height (region_of x) ≡ max (max (term_height (term_of a)) 2) (sections_height (sections_of l))
height_switch x local a l p = ap region_height (switch_of x local a l p)

-- ---- code

module _ (tokens : Tokens) (parameters : ℕ) where
  pub code_call : (x : Expression) (u : CoreType) (m : MethodId) (d : Dispatch) (l : List Expression) → x ≡ e.Call u m d l
      → term_code tokens parameters (term_of x) ≡ terms_code tokens parameters (terms_of l) ++ call tokens d m.0 ∷ []
  code_call x u m d l p = ap (term_code tokens parameters) (call_of x u m d l p)

  pub code_library : (x : Expression) (u : CoreType) (c : LibraryCall) (l : List Expression) → x ≡ e.Library u c l
      → term_code tokens parameters (term_of x) ≡ terms_code tokens parameters (terms_of l) ++ the.Call (library_token tokens c) ∷ []
  code_library x u c l p = ap (term_code tokens parameters) (library_of x u c l p)

  pub code_sequence : (x : RegionStatement) (l : List RegionStatement) (at : ℕ) (around : List Target) → x ≡ s.Sequence l
      → region_code tokens parameters (region_of x) at around ≡ regions_code tokens parameters (regions_of l) at around
  code_sequence x l at around p = ap (λ r. region_code tokens parameters r at around) (sequence_of x l p)

  pub code_switch : (x : RegionStatement) (local : LocalId) (a : Expression) (l : List RegionSection) (at : ℕ) (around : List Target) → x ≡ s.Switch local a l
      → region_code tokens parameters (region_of x) at around ≡ region_code tokens parameters (region.Switch local (term_of a) (sections_of l)) at around
  code_switch x local a l at around p = ap (λ r. region_code tokens parameters r at around) (switch_of x local a l p)
