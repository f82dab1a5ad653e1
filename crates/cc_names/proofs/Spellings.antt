-- The spelling of a type, by its form.
use Rattle.std.proofs.Common.{◌≡◌, ℕ, sym, ap, ◌∙◌, List, [], ◌∷◌, ◌++◌, map, Bool, cond}
use Rattle.std.specs.Prelude.{codes}
use Rattle.cc_base.specs.declared.text.Span.{Span}
use Rattle.cc_tree.specs.declared.identifier.Identifier.{Identifier}
use Rattle.cc_tree.specs.declared.type_name.FundamentalType.{FundamentalType}
use Rattle.cc_tree.specs.declared.type_name.TypeName.{TypeName, fold-roll-TypeName}
use Rattle.cc_tree.specs.declared.type_name.TypeName.TheVariants as tv
use Rattle.cc_tree.specs.declared.type_name.TypeName.TheOpen as to
use Rattle.cc_names.specs.Spelling.{spelling, spelling_layer, fundamental_spelling, first_spelling, library_spellings, arguments_spelling}

pub fundamental_spelled : (of : FundamentalType) (span : Span) → spelling (tv.Fundamental of span) ≡ fundamental_spelling of
fundamental_spelled of span = ap spelling (sym (tv.rolls-Fundamental of span)) ∙ fold-roll-TypeName (List ℕ) spelling_layer (to.Fundamental of span)

pub named_spelled : (path : List Identifier) (name : Identifier) (arguments : List TypeName) (span : Span) → spelling (tv.Named path name arguments span) ≡ first_spelling library_spellings name.name ++ arguments_spelling (map spelling arguments)
named_spelled path name arguments span = ap spelling (sym (tv.rolls-Named path name arguments span)) ∙ fold-roll-TypeName (List ℕ) spelling_layer (to.Named path name arguments span)

pub marked_spelled : (core : TypeName) (is_handle is_tracking : Bool) (span : Span) → spelling (tv.Marked core is_handle is_tracking span) ≡ spelling core ++ (cond is_handle (codes "^") []) ++ (cond is_tracking (codes "%") [])
marked_spelled core is_handle is_tracking span = ap spelling (sym (tv.rolls-Marked core is_handle is_tracking span)) ∙ fold-roll-TypeName (List ℕ) spelling_layer (to.Marked core is_handle is_tracking span)

pub ruleset spellings = (fundamental_spelled, named_spelled, marked_spelled)
