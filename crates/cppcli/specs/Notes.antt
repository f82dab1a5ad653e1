-- The line on notes for a status.
use Rattle.std.specs.Prelude.{ℕ, ◌+◌, List, [], ◌∷◌, ◌++◌, take, decimal, codes, if◌then◌else◌, ◌==◌}
use Rattle.std.specs.Str.{encode_utf8_all}
use Rattle.std.specs.Char.Utf16.{utf16_lossy_chars}
use Rattle.cc_base.specs.Kinds.{kind_number, kind_name}
use Rattle.cc_image.specs.declared.fault.ImageFault.{ImageFault}
use Rattle.cc_image.specs.declared.fault.ImageFault.TheVariants as image
use Rattle.cc_verify.specs.declared.fault.VerifyFault.{VerifyFault}
use Rattle.cc_verify.specs.declared.fault.VerifyFault.TheVariants as verify
use Rattle.cppcli.specs.declared.note.Place.{Place}
use Rattle.cppcli.specs.declared.status.Status.{Status}
use Rattle.cppcli.specs.declared.status.Status.TheVariants.{Usage, Absent, ReadFault, TooLong, Refused, NotImage, Unverified, Aborted, HeapLimit, DepthLimit, StepLimit, Going}

-- the place behind these bytes, where they begin at this one
abbrev pub place_behind : Place → List ℕ → Place
place_behind place [] = place
place_behind place (byte ∷ bytes) =
    place_behind (if byte == 10 then record { line = place.line + 1; column = 1 } else record { line = place.line; column = place.column + 1 }) bytes

-- the place of the byte of this number, from 0
abbrev pub place_of : List ℕ → ℕ → Place
place_of bytes at = place_behind (record { line = 1; column = 1 }) (take at bytes)

-- a text in UTF-8, with U+FFFD for each surrogate without a partner
abbrev pub utf8_of : List ℕ → List ℕ
utf8_of units = encode_utf8_all (utf16_lossy_chars units)

abbrev pub refusal_line : List ℕ → Place → ℕ → List ℕ → List ℕ
refusal_line file place number kind =
    file ++ codes ":" ++ decimal place.line ++ codes ":" ++ decimal place.column ++ codes ": error " ++ decimal number ++ codes " " ++ kind ++ codes "\n"

abbrev pub unhandled_line : List ℕ → List ℕ → List ℕ
unhandled_line type message = codes "unhandled " ++ type ++ codes ": " ++ message ++ codes "\n"

-- the number of the reason for which bytes are no image
abbrev pub image_number : ImageFault → ℕ
image_number (image.Short place) = 90
image_number (image.BadField place) = 91
image_number (image.Metadata fault) = 92
image_number (image.Code row fault) = 93
image_number image.Memory = 0

abbrev pub image_line : List ℕ → ℕ → List ℕ
image_line file number = file ++ codes ": bad image " ++ decimal number ++ codes "\n"

abbrev pub class_rule_line : List ℕ → ℕ → ℕ → List ℕ
class_rule_line file rule row = file ++ codes ": class rule " ++ decimal rule ++ codes " at row " ++ decimal row ++ codes "\n"

abbrev pub code_rule_line : List ℕ → ℕ → ℕ → ℕ → List ℕ
code_rule_line file rule row at = file ++ codes ": code rule " ++ decimal rule ++ codes " at " ++ decimal row ++ codes ":" ++ decimal at ++ codes "\n"

-- the rule that a module breaks, with its row, or with the method's row and the offset in its code
abbrev pub rule_line : List ℕ → VerifyFault → List ℕ
rule_line file (verify.BadClass rule row) = class_rule_line file rule row
rule_line file (verify.BadCode row at rule) = code_rule_line file rule row at
rule_line file verify.Memory = []

-- by the name whose load decided and, for a refusal, the bytes that it gave
abbrev pub note_of : Status → List ℕ → List ℕ → List ℕ
note_of Usage file bytes = codes "usage: cppcli COMMAND FILE\n"
note_of Absent file bytes = file ++ codes ": absent\n"
note_of ReadFault file bytes = codes "read fault\n"
note_of TooLong file bytes = file ++ codes ": too long\n"
note_of (Refused kind span) file bytes = refusal_line file (place_of bytes span.first) (kind_number kind) (kind_name kind)
note_of (Aborted type message) file bytes = unhandled_line (utf8_of type) (utf8_of message)
note_of (NotImage fault) file bytes = image_line file (image_number fault)
note_of (Unverified fault) file bytes = rule_line file fault
note_of HeapLimit file bytes = codes "limit: heap\n"
note_of DepthLimit file bytes = codes "limit: depth\n"
note_of StepLimit file bytes = codes "limit: steps\n"
note_of Going file bytes = codes "limit: turns\n"
note_of status file bytes = []
