-- The bytes of a name as it is kept: the first of a few cells, or a block of memory. It is the body's, and stands in no definition.
use Rattle.std.specs.Prelude.{ℕ, List, take, ◌≤◌, ⊤}
use Rattle.pio_program.specs.declared.name.Bytes.{Bytes}
use Rattle.pio_program.specs.declared.name.Bytes.TheVariants.{Short, Long}

abbrev pub bytes_of : Bytes → List ℕ
bytes_of (Short count cells) = take count cells
bytes_of (Long bytes) = bytes.value.items

-- a short name has no more bytes than cells
abbrev pub IsWithin : Bytes → Type 0
IsWithin (Short count cells) = count ≤ 7
IsWithin (Long bytes) = ⊤
