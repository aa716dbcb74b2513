-- A whole source (the project's own): lines that end with LF, the addresses of their items from 20000000 on, the first fault, and the
-- image of its bytes, whose parts are cut at 256 bytes.
use Rattle.std.specs.Prelude.{◌≡◌, ℕ, ◌+◌, ◌*◌, ◌/◌, Bool, false, not, ◌==◌, nat_lt, if◌then◌else◌, List, [], ◌∷◌, ◌++◌, length, take, drop, map, Option, None, Some, is_none, Result, Ok, Err}
use Rattle.std.specs.Option.{option_map_or}
use Rattle.std.specs.List.{range_with_len}
use Rattle.std.specs.Str.Lines.{lines}
use Rattle.uf2_image.specs.declared.parts.Part.{Part}
use Rattle.uf2_image.specs.declared.parts.Image.{Image}
use Rattle.thumb_parse.specs.declared.token.Span.{Span}
use Rattle.thumb_parse.specs.declared.item.Item.{Item}
use Rattle.thumb_parse.specs.declared.statement.Statement.{Statement}
use Rattle.thumb_asm.specs.declared.fault.ThumbFault.{ThumbFault}
use Rattle.thumb_asm.specs.declared.fault.ThumbFault.TheVariants.{Char, Syntax, Unknown, Twice, Range, Register, Align, TooLong, Nothing}
use Rattle.thumb_parse.specs.Tokens.{code_part}
use Rattle.thumb_parse.specs.Forms.{name_text}
use Rattle.thumb_asm.specs.Lines.{has_other_char, is_misfit, statement_at}
use Rattle.source_text.specs.Lines.{first_that}
use Rattle.source_text.specs.Symbols.{Symbols, defined, found}
use Rattle.thumb_asm.specs.Placed.{bytes_at, is_misaligned, is_out_of_range, is_wrong_register, name_of, size_at}

-- ---- names

-- names with the line and the address at which they are defined first
abbrev pub Names : Type 0
Names = Symbols (ℕ × ℕ)

-- the names with the label of line n, if it has one
abbrev pub with_label : ℕ → ℕ → List ℕ → Option Span → Names → Names
with_label n address code (Some label) names = defined (name_text code label) (n, address) names
with_label n address code None names = names

-- the address after a line
unfoldable pub address_after : ℕ → List ℕ → ℕ
address_after address code = address + size_at address (statement_at code).item

-- the names with those of the lines from line n on, which begins at this address
unfoldable pub names_from : ℕ → ℕ → Names → List (List ℕ) → Names
names_from n address names [] = names
names_from n address names (line ∷ rest) =
    names_from (n + 1) (address_after address (code_part line))
    (with_label n address (code_part line) (statement_at (code_part line)).label names) rest

-- ---- faults of a line, in the order of their numbers

abbrev pub place_in : Names → List ℕ → Option Span → Option (ℕ × ℕ)
place_in names code (Some name) = found (name_text code name) names
place_in names code None = None

-- a name is written and not defined
abbrev pub is_unknown : Names → List ℕ → Option Span → Bool
is_unknown names code (Some name) = is_none (found (name_text code name) names)
is_unknown names code None = false

-- the address of what a line names
abbrev pub target_of : Names → List ℕ → Item → ℕ
target_of names code item = option_map_or (λ place. place.1) (place_in names code (name_of item)) 0

-- the label of line n is defined before
abbrev pub is_twice : Names → ℕ → List ℕ → Option Span → Bool
is_twice names n code label = option_map_or (λ place. not (place.0 == n)) (place_in names code label) false

abbrev pub item_fault : ℕ → ℕ → ℕ → Item → Option ThumbFault
item_fault n address target item =
    if is_out_of_range address target item then Some (Range n)
    else if is_wrong_register address target item then Some (Register n)
    else if is_misaligned address target item then Some (Align n)
    else if nat_lt 0x2004_2000 (address + size_at address item) then Some (TooLong n)
    else None

-- the fault of line n at an address
unfoldable pub fault_at : Names → ℕ → ℕ → List ℕ → Statement → Option ThumbFault
fault_at names n address code statement =
    if is_unknown names code (name_of statement.item) then Some (Unknown n)
    else if is_twice names n code statement.label then Some (Twice n)
    else item_fault n address (target_of names code statement.item) statement.item

-- ---- bytes

abbrev pub or_fault : Option ThumbFault → Result (List ℕ) ThumbFault → Result (List ℕ) ThumbFault
or_fault (Some fault) answer = Err fault
or_fault None answer = answer

-- the bytes of a line at an address
unfoldable pub line_bytes : Names → ℕ → List ℕ → List ℕ
line_bytes names address code =
    bytes_at address (target_of names code (statement_at code).item) (statement_at code).item

-- the bytes with those of the lines from line n on, which begins at this address, or the first fault of these lines
unfoldable pub bytes_from : Names → ℕ → ℕ → List ℕ → List (List ℕ) → Result (List ℕ) ThumbFault
bytes_from names n address bytes [] = Ok bytes
bytes_from names n address bytes (line ∷ rest) =
    or_fault (fault_at names n address (code_part line) (statement_at (code_part line)))
    (bytes_from names (n + 1) (address_after address (code_part line)) (bytes ++ line_bytes names address (code_part line)) rest)

-- ---- the image

abbrev pub part_bytes : List ℕ → ℕ → List ℕ
part_bytes bytes k = take 256 (drop (256 * k) bytes)

abbrev pub part_at : List ℕ → ℕ → Part
part_at bytes k = record { address = 0x2000_0000 + 256 * k; bytes = part_bytes bytes k }

unfoldable pub parts_of : List ℕ → List Part
parts_of bytes = map (part_at bytes) (range_with_len 0 ((length bytes + 255) / 256))

abbrev pub image_with : List ℕ → Image
image_with bytes = record { parts = parts_of bytes; entry = 0x2000_0000 }

abbrev pub image_or_nothing : List ℕ → Result Image ThumbFault
image_or_nothing bytes = if length bytes == 0 then Err (Nothing 0) else Ok (image_with bytes)

abbrev pub image_of_bytes : Result (List ℕ) ThumbFault → Result Image ThumbFault
image_of_bytes (Err fault) = Err fault
image_of_bytes (Ok bytes) = image_or_nothing bytes

-- the names of a source
abbrev pub names_of : List ℕ → Names
names_of text = names_from 1 0x2000_0000 [] (lines text)

-- the bytes of a source whose lines have forms, or its first fault
abbrev pub bytes_of : List ℕ → Result (List ℕ) ThumbFault
bytes_of text = bytes_from (names_of text) 1 0x2000_0000 [] (lines text)

abbrev pub unless_misfit : Option ℕ → Result Image ThumbFault → Result Image ThumbFault
unless_misfit (Some n) answer = Err (Syntax n)
unless_misfit None answer = answer

-- a fault is that of such a line
abbrev pub IsMisfitAt : ThumbFault → Option ℕ → Type 0
IsMisfitAt fault (Some n) = fault ≡ Syntax n
IsMisfitAt fault None = ⊥

abbrev pub unless_other_char : Option ℕ → Result Image ThumbFault → Result Image ThumbFault
unless_other_char (Some n) answer = Err (Char n)
unless_other_char None answer = answer

-- the image of a source, or its first fault: the first other character, or else the first line without a form, or else the first line
-- with another fault, or else that there are no bytes
unfoldable pub image_of_source : List ℕ → Result Image ThumbFault
image_of_source text =
    unless_other_char (first_that has_other_char 1 (lines text))
    (unless_misfit (first_that is_misfit 1 (lines text)) (image_of_bytes (bytes_of text)))
