-- How far a file was read.
use Rattle.std.specs.Prelude.{ℕ, ◌<◌, ◌≤◌, List, length}
use Rattle.pico_main.specs.declared.file_shelf.Content.{Content}
use Rattle.pico_main.specs.declared.file_shelf.Content.TheVariants.{Whole, Longer, NoMemory}

-- the whole file has at most limit bytes, and a longer one more
abbrev pub IsWithin : ℕ → Content → List ℕ → Type 0
IsWithin limit Whole bytes = length bytes ≤ limit
IsWithin limit (Longer long) bytes = limit < long
IsWithin limit NoMemory bytes = Unit {0}
