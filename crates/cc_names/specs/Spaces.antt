-- What the names in a source may mean.
use Rattle.std.specs.Prelude.{ℕ, List, [], ◌∷◌, ◌++◌, map}
use Rattle.cc_names.specs.declared.known.Known.{Known}
use Rattle.cc_names.specs.declared.known.Directed.{Directed}
use Rattle.cc_names.specs.declared.known.Keys.{Keys}
use Rattle.cc_names.specs.declared.known.Ways as held_ways
use Rattle.cc_names.specs.declared.known.Space as held_space
use Rattle.cc_names.specs.Keys.{Ways}
use Rattle.cc_names.specs.declared.space.Types.{Types}
use Rattle.cc_names.specs.declared.ways.Pairs.{Pairs}
use Rattle.cc_names.specs.Outermost.{Path}
use Rattle.cc_names.specs.Types.{Named}

pub record Space : Type 0 where
  pub types : List Known
  -- the names of the types, in the same order
  pub names : List (List ℕ)
  pub directives : List Directed
  pub paths : List Path
  pub classes : List (List ℕ)
  pub functions : List (List ℕ)
  pub bases : Ways
  pub held : Ways

abbrev pub ways : held_ways.Ways → Ways
ways one = record { firsts = one.firsts.keys; seconds = one.seconds }

abbrev pub space : held_space.Space → Space
space one = record {
  types = one.types;
  names = one.names.keys;
  directives = one.directives;
  paths = one.paths;
  classes = one.classes.keys;
  functions = one.functions.keys;
  bases = ways one.bases;
  held = ways one.held;
}

-- a space with the classes that lead to their bases, and to the types of what they hold
abbrev pub with_ways : Space → Ways → Ways → Space
with_ways space bases held = record {
  types = space.types;
  names = space.names;
  directives = space.directives;
  paths = space.paths;
  classes = space.classes;
  functions = space.functions;
  bases = bases;
  held = held;
}

-- types with their names, after those that are there
abbrev pub with_types : Types → List Named → Types
with_types types more = record { types = types.types ++ map (λ one. one.type_) more; names = types.names ++ map (λ one. one.name) more }

-- pairs of a name with names to which it leads, after those that are there
abbrev pub with_pairs : Pairs → List ℕ → List (List ℕ) → Pairs
with_pairs pairs name seconds = record { firsts = pairs.firsts ++ map (λ second. name) seconds; seconds = pairs.seconds ++ seconds }

-- pairs, and after them further ones
abbrev pub after_pairs : Pairs → Ways → Ways
after_pairs pairs more = record { firsts = pairs.firsts ++ more.firsts; seconds = pairs.seconds ++ more.seconds }
