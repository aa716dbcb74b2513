use Rattle.std.proofs.Common.{◌≡◌, ◌++◌, drop}
use Rattle.pio_asm.proofs.Shared.{flat_map, word_line, program_text}
use Rattle.pio_asm.proofs.listing.put_program.Given as goal

-- what is there with the lines of the words that are left is the whole text
abbrev pub invariant-loop-word : goal.invariant-loop-word
invariant-loop-word l = l.fn.out.items ++ program_text l.program ≡ l.out.items ++ flat_map word_line (drop l.word-index l.program.words.items)
