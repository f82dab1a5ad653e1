-- How a search goes through the classes of a chain.
use Rattle.std.specs.Prelude.{ℕ, List, [], ◌∷◌, Bool, true, false, cond, slice_get}
use Rattle.std.specs.List.{filter_map}
use Rattle.cc_names.specs.declared.scope.Scope.{Scope}
use Rattle.cc_names.specs.declared.scope.Item.{Item}
use Rattle.cc_names.specs.declared.chain.Onward.{Onward}
use Rattle.cc_names.specs.declared.chain.Onward.TheVariants as onward
use Rattle.cc_names.specs.declared.chain.Step.{Step}
use Rattle.cc_names.specs.declared.chain.Step.TheVariants as step
use Rattle.cc_names.specs.Lookup.{class_named, is_member, hides}

abbrev pub is_reached : Step → Bool
is_reached step.Reached = true
is_reached step.Hidden = false
is_reached step.Passed = false

module _ (scopes : List Scope) (items : List Item) where
  -- the classes in which a search goes on
  abbrev pub classes_of : Onward → List ℕ
  classes_of onward.Nothing = []
  classes_of (onward.Class class) = class ∷ []
  classes_of (onward.Interfaces names) = filter_map (class_named scopes items) names.now

  -- what comes first in a chain: the class of which a function is a member, or one that hides it
  abbrev pub walk : List ℕ → ℕ → List ℕ → Step
  walk numbers number [] = step.Passed
  walk numbers number (class ∷ more) =
      cond (is_member scopes items class number) step.Reached (cond (hides scopes items numbers class number) step.Hidden (walk numbers number more))
