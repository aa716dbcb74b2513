-- SRAM with words that were written into it since. The project's own.
use Rattle.std.specs.Prelude.{ℕ, List, [], ◌∷◌, slice_set}
use Rattle.rp_base.specs.Map.{place_of}
use Rattle.lane_look.specs.declared.lane.Want.{Want}
use Rattle.lane_look.specs.declared.lane.Want.TheVariants as want
use Rattle.rp_machine.specs.Cycle.{stored}
use Rattle.rp_machine.specs.Deeds.{stored_at}

-- words by their index, each written in turn
unfoldable pub patched : List (ℕ × ℕ) → List ℕ → List ℕ
patched [] sram = sram
patched (word ∷ words) sram = patched words (slice_set sram word.0 word.1)

-- what an access leaves of SRAM
abbrev pub sram_after : Want → List ℕ → List ℕ
sram_after (want.Ram request) sram = stored (stored_at request request.write (place_of request.address)) sram
sram_after _ sram = sram
