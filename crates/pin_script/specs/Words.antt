-- The words of a line of a script, and the numbers and bytes that they stand for (the project's own).
use Rattle.std.specs.Prelude.{ℕ, ◌*◌, ◌%◌, Bool, ◌&&◌, ◌==◌, nat_le, if◌then◌else◌, List, [], ◌∷◌, length, take, drop, Option, Some, None, unwrap_or}
use Rattle.std.specs.List.{slice_split, list_all}
use Rattle.std.specs.Char.{is_ascii_hexdigit}
use Rattle.source_text.specs.Numbers.{number_of}
use Rattle.pin_script.specs.declared.entry.Level.{Level}
use Rattle.pin_script.specs.declared.entry.Level.TheVariants.{Low, High, Free}

-- the parts of a line between spaces
abbrev pub fields : List ℕ → List (List ℕ)
fields line = slice_split (λ byte. byte == 32) line

abbrev pub is_empty : List ℕ → Bool
is_empty word = length word == 0

-- the level that a word names: `0`, `1` or `z`
abbrev pub level_named : List ℕ → Option Level
level_named (byte ∷ []) =
    if byte == 48 then Some Low else if byte == 49 then Some High else if byte == 122 then Some Free else None
level_named _ = None

-- ---- bytes, each as two hexadecimal digits of either case

-- at most 256 bytes
abbrev pub are_bytes : List ℕ → Bool
are_bytes word = length word % 2 == 0 && nat_le (length word) 512 && list_all is_ascii_hexdigit word

abbrev pub byte_at : List ℕ → ℕ → ℕ
byte_at word i = unwrap_or (number_of 16 2 (take 2 (drop (2 * i) word))) 0
