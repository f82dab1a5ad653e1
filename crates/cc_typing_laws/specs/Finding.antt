-- What look-ups among the declarations of a source find: functions of a name (ECMA-372, 10.4).
use Rattle.std.specs.Prelude.{ℕ, List, Option, Some, None}
use Rattle.cc_names.specs.declared.scope.Scope.{Scope}
use Rattle.cc_names.specs.declared.scope.Item.{Item}
use Rattle.cc_names.specs.declared.lookup.Directive.{Directive}
use Rattle.cc_names.specs.declared.lookup.Found.{Found}
use Rattle.cc_names.specs.declared.lookup.Found.TheVariants as found
use Rattle.cc_names.specs.Lookup.{looked_up}
use Rattle.cc_terms.specs.Resolving.{Finds}

abbrev pub function_found : Option Found → Option ℕ
function_found None = None
function_found (Some (found.TypeNamed number)) = None
function_found (Some (found.Functions number)) = Some number
function_found (Some (found.Namespace number)) = None
function_found (Some (found.Item number)) = None

abbrev pub finds_in : List Scope → List Item → List Directive → Finds
finds_in scopes items directives scope at name = function_found (looked_up scopes items directives (record { scope = scope; at = at }) name)
