-- What is written of a module without bodies is its metadata.
use Rattle.std.proofs.Common.{◌≡◌, ℕ, ◌+◌, ◌-◌, ◌^◌, ◌<◌, List, [], length, replicate, refl, subst}
use Rattle.std.proofs.lemmas.List.{length-replicate}
use Rattle.cc_cil.specs.declared.body.Body.{Body}
use Rattle.cc_module.specs.declared.module.Module.{Module}
use Rattle.cc_module.specs.Metadata.{metadata_bytes, GUID_SIZE}
use Rattle.cc_module.specs.Storable.{SECTION, FIRST_BODY, bodies_end, file_size, image_size, IsStorable, IsInRange}
use Rattle.cc_tables.specs.Reading.{IsTables}

small : (m : Module) → IsStorable m → m.bodies ≡ [] → file_size (FIRST_BODY + length (metadata_bytes m) - SECTION) < 2 ^ 28
unfolding image_size
small m h e = subst (λ (bodies : List Body). file_size (bodies_end FIRST_BODY bodies + length (metadata_bytes m) - SECTION) < 2 ^ 28) e h.size

pub written_is : (m : Module) → IsStorable m → IsInRange m → m.bodies ≡ [] → m.entry ≡ 0 → IsTables m (metadata_bytes m)
written_is m h r e f = record {
  is = (replicate GUID_SIZE 0, length-replicate {A = ℕ} GUID_SIZE 0, refl);
  columns = h.columns;
  range = r.columns;
  units = r.texts;
  sorted = h.sorted;
  user_strings = h.user_strings;
  size = small m h e;
  no_bodies = e;
  no_entry = f;
}
