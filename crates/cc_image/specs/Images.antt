-- The file of a module (ECMA-335, II.25): the headers, and a section with the CLI header, the bodies, the metadata and zeros.
--   image_bytes m      the file, as it is written
--   IsImage m bytes    the bytes are a file of the module: fields that are ignored and the GUID may be any
use Rattle.std.specs.Prelude.{◌≡◌, ℕ, ◌+◌, ◌-◌, List, ◌++◌, length, replicate}
use Rattle.std.specs.List.{flat_map}
use Rattle.cc_layout.specs.Layout.{Spells}
use Rattle.cc_cil.specs.declared.body.Body.{Body}
use Rattle.cc_cil.specs.Bodies.{body_bytes}
use Rattle.cc_module.specs.declared.module.Module.{Module}
use Rattle.cc_module.specs.Heaps.{padded}
use Rattle.cc_module.specs.Metadata.{metadata_bytes, IsMetadata}
use Rattle.cc_module.specs.Storable.{FIRST_BODY, file_aligned, IsStorable, IsInRange}
use Rattle.cc_image.specs.declared.sizes.Sizes.{Sizes}
use Rattle.cc_image.specs.Headers.{header_layout, cli_layout, fields_bytes, cli_bytes}

-- the CLI header (II.25.3.3)
abbrev pub CLI_SIZE : ℕ
CLI_SIZE = 72

-- each body, with zeros up to a multiple of four
abbrev pub bodies_bytes : List Body → List ℕ
bodies_bytes bodies = flat_map (λ b. padded (body_bytes b)) bodies

-- of an image whose bodies and metadata have so many bytes
abbrev pub sizes_for : ℕ → ℕ → ℕ → Sizes
sizes_for bodies metadata entry = record {
  section = file_aligned (CLI_SIZE + bodies + metadata);
  used = CLI_SIZE + bodies + metadata;
  metadata_place = FIRST_BODY + bodies;
  metadata_size = metadata;
  entry = entry;
}

unfoldable pub sizes_of : Module → Sizes
sizes_of m = sizes_for (length (bodies_bytes m.bodies)) (length (metadata_bytes m)) m.entry

-- the section behind the CLI header: with these metadata, and zeros up to its end
abbrev pub contents : Sizes → List Body → List ℕ → List ℕ
contents s bodies metadata = bodies_bytes bodies ++ (metadata ++ replicate (s.section - s.used) 0)

unfoldable pub image_bytes : Module → List ℕ
image_bytes m = (fields_bytes (sizes_of m) ++ cli_bytes (sizes_of m)) ++ contents (sizes_of m) m.bodies (metadata_bytes m)

pub record IsImage (m : Module) (bytes : List ℕ) : Type 0 where
  pub metadata : List ℕ
  pub is_metadata : IsMetadata m metadata
  pub fields : Spells (header_layout (sizes_of m) ++ cli_layout (sizes_of m)) bytes (contents (sizes_of m) m.bodies metadata)

-- what is written is an image
abbrev pub WrittenImages : Type 0
WrittenImages = (m : Module) → IsStorable m → IsInRange m → IsImage m (image_bytes m)
