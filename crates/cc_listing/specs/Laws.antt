-- What holds of listings.
use Rattle.std.specs.Prelude.{◌≡◌, ℕ, List}
use Rattle.cc_module.specs.declared.module.Module.{Module}
use Rattle.cc_listing.specs.Listing.{ListsModule}

-- a module has one listing
abbrev pub OneListing : Type 0
OneListing = (m : Module) (text other : List ℕ) → ListsModule m text → ListsModule m other → text ≡ other
