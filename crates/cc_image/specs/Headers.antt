-- The headers of an image (ECMA-335, II.25.2 and II.25.3.3) as layouts, and as bytes.
--   header_layout s   the headers before the section, 512 bytes
--   cli_layout s      the CLI header, with which the section begins, 72 bytes
--   fields_bytes s    the headers before the section, as they are written
--   cli_bytes s       the CLI header, as it is written
--   sizes_in bytes    what the headers tell by place, 0 where the bytes end before
use Rattle.std.specs.Prelude.{◌≡◌, ℕ, ◌+◌, ◌*◌, ◌/◌, ◌^◌, ◌==◌, List, ◌++◌, map, Option, Some, None, unwrap_or, nat_lt, if◌then◌else◌}
use Rattle.std.specs.List.{flat_map}
use Rattle.cc_layout.specs.declared.field.Field.{Field}
use Rattle.cc_layout.specs.Numbers.{little_endian}
use Rattle.cc_layout.specs.Layout.{run, peeked}
use Rattle.cc_module.specs.Storable.{file_aligned}
use Rattle.cc_image.specs.declared.sizes.Sizes.{Sizes}
use Rattle.cc_image.specs.declared.layout.Item.{Item}
use Rattle.cc_image.specs.declared.layout.Width.{Width}
use Rattle.cc_image.specs.declared.layout.Width.TheVariants.{U8, U16, U32}
use Rattle.cc_image.specs.declared.layout.Value.{Value}
use Rattle.cc_image.specs.declared.layout.Value.TheVariants.{Is, Ignored, SectionSize, SectionSizeAgain, UsedSize, ImageSize, MetadataPlace, MetadataSize, Entry}
use Rattle.cc_image.specs.declared.layout.TheConstants.{DOS, COFF, OPTIONAL, DIRECTORIES, CLI_DIRECTORY, SECTION_NAME, SECTION_HEADER, ZEROS, CLI, CLI_DIRECTORIES}

-- where the section begins in the file
abbrev pub HEADERS : ℕ
HEADERS = 0x200

-- no field of four bytes has it
abbrev pub NO_NUMBER : ℕ
NO_NUMBER = 0x100000000

-- where the size of the section first stands, it is any with which the file has fewer than 2^28 bytes
abbrev pub first_size : ℕ → ℕ
first_size section = if nat_lt (HEADERS + section) 0x10000000 then section else NO_NUMBER

-- where it stands again, it is the used size rounded up too
abbrev pub size_again : ℕ → ℕ → ℕ
size_again section used = if section == file_aligned used then section else NO_NUMBER

-- the section is loaded at 2000, and takes a multiple of that
abbrev pub loaded_size : ℕ → ℕ
loaded_size section = 0x2000 + (section + 0x1FFF) / 0x2000 * 0x2000

-- what stands in a field, where it isn't ignored
abbrev pub value_in : Sizes → Value → Option ℕ
value_in s (Is value) = Some value
value_in s (Ignored value) = None
value_in s SectionSize = Some (first_size s.section)
value_in s SectionSizeAgain = Some (size_again s.section s.used)
value_in s UsedSize = Some s.used
value_in s ImageSize = Some (loaded_size s.section)
value_in s MetadataPlace = Some s.metadata_place
value_in s MetadataSize = Some s.metadata_size
value_in s Entry = Some s.entry

-- what is written where any number will do
abbrev pub written_for : Value → ℕ
written_for (Is value) = 0
written_for (Ignored value) = value
written_for SectionSize = 0
written_for SectionSizeAgain = 0
written_for UsedSize = 0
written_for ImageSize = 0
written_for MetadataPlace = 0
written_for MetadataSize = 0
written_for Entry = 0

abbrev pub bytes_in : Width → ℕ
bytes_in U8 = 1
bytes_in U16 = 2
bytes_in U32 = 4

abbrev pub field_of : Sizes → Item → Field
field_of s item = record { width = bytes_in item.0; value = value_in s item.1 }

abbrev pub item_bytes : Sizes → Item → List ℕ
item_bytes s item = little_endian (bytes_in item.0) (unwrap_or (value_in s item.1) (written_for item.1))

unfoldable pub header_layout : Sizes → List Field
header_layout s =
    run DOS
    ++ (map (field_of s) COFF
    ++ (map (field_of s) OPTIONAL
    ++ (map (field_of s) DIRECTORIES
    ++ (map (field_of s) CLI_DIRECTORY
    ++ (run SECTION_NAME
    ++ (map (field_of s) SECTION_HEADER
    ++ run ZEROS))))))

unfoldable pub cli_layout : Sizes → List Field
cli_layout s = map (field_of s) CLI ++ map (field_of s) CLI_DIRECTORIES

unfoldable pub fields_bytes : Sizes → List ℕ
fields_bytes s =
    DOS
    ++ (flat_map (item_bytes s) COFF
    ++ (flat_map (item_bytes s) OPTIONAL
    ++ (flat_map (item_bytes s) DIRECTORIES
    ++ (flat_map (item_bytes s) CLI_DIRECTORY
    ++ (SECTION_NAME
    ++ (flat_map (item_bytes s) SECTION_HEADER
    ++ ZEROS))))))

unfoldable pub cli_bytes : Sizes → List ℕ
cli_bytes s = flat_map (item_bytes s) CLI ++ flat_map (item_bytes s) CLI_DIRECTORIES

-- the sizes where they first stand
unfoldable pub sizes_in : List ℕ → Sizes
sizes_in bytes = record {
  section = peeked 4 156 bytes;
  used = peeked 4 384 bytes;
  metadata_place = peeked 4 520 bytes;
  metadata_size = peeked 4 524 bytes;
  entry = peeked 4 532 bytes;
}
