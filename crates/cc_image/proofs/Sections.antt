-- The bodies of an image one after the other, and where they end.
use Rattle.std.proofs.Common.{◌≡◌, ℕ, ◌+◌, ◌-◌, ◌*◌, ◌/◌, ◌%◌, ◌<◌, ◌≤◌, ◌^◌, List, [], ◌∷◌, ◌++◌, length, replicate, refl, sym, ap, ◌∙◌, append_assoc, arith}
use Rattle.std.proofs.lemmas.List.{length-append, length-replicate}
use Rattle.cc_cil.specs.declared.body.Body.{Body}
use Rattle.cc_cil.specs.Bodies.{padding, body_bytes}
use Rattle.cc_module.specs.declared.module.Module.{Module}
use Rattle.cc_module.specs.Heaps.{padded}
use Rattle.cc_module.specs.Metadata.{metadata_bytes, GUID_SIZE, metadata_with}
use Rattle.cc_module.specs.Storable.{SECTION, FIRST_BODY, aligned, bodies_end, metadata_place, file_aligned, file_size, image_size, IsStorable, IsInRange}
use Rattle.cc_image.specs.declared.sizes.Sizes.{Sizes}
use Rattle.cc_image.specs.Headers.{HEADERS, fields_bytes, cli_bytes}
use Rattle.cc_image.specs.Images.{bodies_bytes, sizes_for, sizes_of, contents, image_bytes, IsImage}
use Rattle.cc_image.proofs.Joined.{joined_two, new_two}
use Rattle.cc_image.proofs.Fields.{IsProper, Stands, headers_stand}

pub length-padded : (bytes : List ℕ) → length (padded bytes) ≡ length bytes + padding (length bytes)
length-padded bytes = length-append bytes (replicate (padding (length bytes)) 0) ∙ ap (λ (n : ℕ). length bytes + n) (length-replicate (padding (length bytes)) 0)

-- the bodies end where the metadata begin
pub bodies_length : (at : ℕ) (bodies : List Body) → at % 4 ≡ 0 → bodies_end at bodies ≡ at + length (bodies_bytes bodies)
bodies_length at [] h = omega arith
bodies_length at (b ∷ bodies) h =
    let size = length (body_bytes b) in
    let next = aligned (at + size) in
    let ih : bodies_end next bodies ≡ next + length (bodies_bytes bodies) = bodies_length next bodies (omega (arith, h)) in
    omega (arith, ih, h, length-append (padded (body_bytes b)) (bodies_bytes bodies), length-padded (body_bytes b))

pub metadata_place_is : (m : Module) → metadata_place m ≡ FIRST_BODY + length (bodies_bytes m.bodies)
metadata_place_is m = bodies_length FIRST_BODY m.bodies refl

pub storable_size : (m : Module) → IsStorable m → HEADERS + file_aligned (72 + length (bodies_bytes m.bodies) + length (metadata_bytes m)) < 2 ^ 28
unfolding image_size
storable_size m h =
    let used : metadata_place m + length (metadata_bytes m) - SECTION ≡ 72 + length (bodies_bytes m.bodies) + length (metadata_bytes m) = omega (arith, metadata_place_is m) in
    rw used at h.size

pub storable_room : (m : Module) → IsStorable m → 72 + length (bodies_bytes m.bodies) + length (metadata_bytes m) < 2 ^ 28
storable_room m h = omega (arith, storable_size m h)

pub storable_proper : (m : Module) → IsStorable m → m.entry < 2 ^ 32 → IsProper (sizes_of m)
unfolding sizes_of
storable_proper m h entry =
    let size = storable_size m h in
    record {
      section = size;
      rounded = refl;
      used = omega (arith, size);
      metadata_place = omega (arith, size);
      metadata_size = omega (arith, size);
      entry = entry;
    }

-- what is written is an image
pub written_image : (m : Module) → IsStorable m → m.entry < 2 ^ 32 → IsImage m (image_bytes m)
unfolding image_bytes
written_image m h entry =
    let stands = headers_stand (sizes_of m) (storable_proper m h entry) in
    record {
      metadata = metadata_bytes m;
      is_metadata = (replicate GUID_SIZE 0, length-replicate {A = ℕ} GUID_SIZE 0, refl);
      fields = stands.spells (contents (sizes_of m) m.bodies (metadata_bytes m));
    }

-- ---- an image written part by part

pub bodies_made : (x0 x1 : List ℕ) (a b : List Body) → x0 ≡ [] → x1 ≡ x0 ++ bodies_bytes a → a ≡ b → x1 ≡ bodies_bytes b
bodies_made x0 x1 a b e f g = f ∙ ap (λ (x : List ℕ). x ++ bodies_bytes a) e ∙ ap bodies_bytes g

pub sizes_made : (m : Module) (s : Sizes) (bodies metadata : ℕ) → s ≡ sizes_for bodies metadata m.entry → bodies ≡ length (bodies_bytes m.bodies) → metadata ≡ length (metadata_bytes m) → s ≡ sizes_of m
unfolding sizes_of
sizes_made m s bodies metadata e f g = e ∙ (λ i. sizes_for (f i) (g i) m.entry)

pub image_made : (m : Module) (s : Sizes) (x0 x1 x2 x3 x4 x5 bodies metadata : List ℕ) → s ≡ sizes_of m → x0 ≡ [] → x1 ≡ x0 ++ fields_bytes s → x2 ≡ x1 ++ cli_bytes s → x3 ≡ x2 ++ bodies → x4 ≡ x3 ++ metadata
    → x5 ≡ x4 ++ replicate (s.section - s.used) 0 → bodies ≡ bodies_bytes m.bodies → metadata ≡ metadata_bytes m → x5 ≡ image_bytes m
unfolding image_bytes
image_made m s x0 x1 x2 x3 x4 x5 bodies metadata is e0 e1 e2 e3 e4 e5 b d =
    let head : x2 ≡ fields_bytes s ++ cli_bytes s = new_two x0 x1 x2 (fields_bytes s) (cli_bytes s) e0 e1 e2 in
    let whole : x5 ≡ x2 ++ (bodies ++ (metadata ++ replicate (s.section - s.used) 0)) =
    joined_two x2 x3 x5 bodies (metadata ++ replicate (s.section - s.used) 0) e3 (joined_two x3 x4 x5 metadata (replicate (s.section - s.used) 0) e4 e5) in
    whole ∙ rw (head, b, d, is) refl
