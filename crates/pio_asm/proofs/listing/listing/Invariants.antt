use Rattle.std.proofs.Common.{◌≡◌, ◌++◌, drop}
use Rattle.pio_asm.proofs.Shared.{flat_map, program_text, listing}
use Rattle.pio_asm.proofs.listing.listing.Given as goal

-- what is there with the texts of the programs that are left is the listing
abbrev pub invariant-loop-program : goal.invariant-loop-program
invariant-loop-program l = listing l.programs ≡ l.text.items ++ flat_map program_text (drop l.program-index l.programs)
