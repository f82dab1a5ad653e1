-- Which classes a token names.
use Rattle.std.specs.Prelude.{ℕ, List, Bool, false, Option, Some, None, if◌then◌else◌}
use Rattle.cc_base.specs.declared.identifiers.ClassId.{ClassId}
use Rattle.cc_execution.specs.declared.executable.ClassRow.{ClassRow}
use Rattle.cc_execution.specs.Handlers.{names, derives}
use Rattle.cc_handlers.specs.declared.classes.Look.{Look}
use Rattle.cc_handlers.specs.declared.classes.Look.TheVariants.{Named, Base, Neither}

abbrev pub look_base : Option ClassId → Look
look_base None = Neither
look_base (Some base) = Base base

-- what a row of a class tells of a token
abbrev pub look_at : Option ClassRow → ℕ → Look
look_at None token = Neither
look_at (Some row) token = if names row.tokens token then Named else look_base row.base

-- the class of an exception, where it is one, is named by the token, or reaches one that is
abbrev pub is_of : List ClassRow → Option ClassId → ℕ → Bool
is_of classes None token = false
is_of classes (Some class) token = derives classes class token
