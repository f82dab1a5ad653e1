-- What `line_of` answers of an input.
use Rattle.std.specs.Prelude.{◌≡◌, ◌≢◌, [], ◌++◌, List, ℕ, drop}
use Rattle.cc_library.specs.Texts.{Decodes, decoded_text, first_line, first_line_length}
use Rattle.cc_library.specs.declared.lines.Line.{Line}
use Rattle.cc_library.specs.declared.lines.Line.TheVariants.{End, Read}

-- the input is empty; or the text of its first line, and how many bytes that line takes
abbrev pub IsLine : Line → List ℕ → Type 0
IsLine End input = input ≡ []
IsLine (Read text used) input = (input ≢ []) × (text ≡ decoded_text (first_line input)) × (used ≡ first_line_length input)

-- the units that were added are what the first bytes decode to, however many, whatever the bytes behind them decode to
abbrev pub BeginsWith : List ℕ → ℕ → List ℕ → List ℕ → Type 0
BeginsWith bytes count old new = (text : List ℕ) × (new ≡ old ++ text) × ((more : List ℕ) → Decodes (drop count bytes) more → Decodes bytes (text ++ more))
