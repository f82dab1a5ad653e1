use Rattle.std.proofs.Common.{◌≡◌, ◌<◌, ℕ, Some, length, take}
use Rattle.std.specs.Prelude.{slice_get}
use Rattle.cc_module.specs.Methods.{body_count}
use Rattle.cc_listing.specs.Listing.{place_of}
use Rattle.cc_listing.proofs.listing.body_places.Given as goal

abbrev pub invariant-loop-method : goal.invariant-loop-method
invariant-loop-method l = record {
  before : l.before ≡ body_count (take l.method-index l.methods);
  count : length l.places.items ≡ l.method-index;
  each : (at : ℕ) → at < l.method-index → slice_get l.places.items at ≡ Some (place_of l.methods l.bodies at);
}
