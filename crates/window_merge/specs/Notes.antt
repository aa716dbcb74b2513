-- What a window writes to SRAM: each word as it was before the window, and the words that each lane wrote. The project's own.
use Rattle.std.specs.Prelude.{ℕ, ◌+◌, ◌≤◌, ◌==◌, ◌||◌, ◌&&◌, Bool, true, false, if◌then◌else◌, List, [], ◌∷◌, ◌++◌, length, Option, Some, None, slice_index}
use Rattle.rp_base.specs.Map.{place_of}
use Rattle.lane_look.specs.declared.lane.Want.{Want}
use Rattle.lane_look.specs.declared.lane.Want.TheVariants as want
use Rattle.ram_banks.specs.Lanes.{with_lanes}
use Rattle.rp_machine.specs.declared.deed.Deed.{Deed}
use Rattle.rp_machine.specs.declared.deed.Deed.TheVariants as deed
use Rattle.rp_machine.specs.declared.wanted.Wanted.{Wanted}
use Rattle.rp_machine.specs.Deeds.{stored_at}
use Rattle.window_merge.specs.declared.notes.Notes.{Notes}

-- ---- words by their index, in the order in which they were noted

-- the first word of an index; else this word
abbrev pub first_of : List (ℕ × ℕ) → ℕ → ℕ → ℕ
first_of [] index word = word
first_of (n ∷ ns) index word = if n.0 == index then n.1 else first_of ns index word

-- the last word of an index; else this word
abbrev pub last_of : List (ℕ × ℕ) → ℕ → ℕ → ℕ
last_of [] index word = word
last_of (n ∷ ns) index word = last_of ns index (if n.0 == index then n.1 else word)

abbrev pub is_none : List (ℕ × ℕ) → Bool
is_none [] = true
is_none (n ∷ ns) = false

-- ---- SRAM as a lane sees it

-- it is the machine's where no other lane wrote; else the words that were written are as they were before, but for the lane's own
abbrev pub seen_word : Bool → List (ℕ × ℕ) → List (ℕ × ℕ) → List ℕ → ℕ → ℕ
seen_word clean own originals sram index =
    if clean then slice_index sram index else last_of own index (first_of originals index (slice_index sram index))

-- what a lane of that number wrote
abbrev pub own_of : ℕ → Notes → List (ℕ × ℕ)
own_of lane n = if lane == 0 then n.core0 else if lane == 1 then n.core1 else if lane == 2 then n.dma else []

-- no other lane wrote
abbrev pub is_clean : ℕ → Notes → Bool
is_clean lane n =
    (lane == 0 || is_none n.core0) && ((lane == 1 || is_none n.core1) && (lane == 2 || is_none n.dma))

abbrev pub seen_of : ℕ → Notes → List ℕ → ℕ → ℕ
seen_of lane n sram = seen_word (is_clean lane n) (own_of lane n) n.originals sram

-- ---- what is noted of a cycle

-- the write to SRAM of a want, if it is one
abbrev pub write_of : Want → Deed
write_of (want.Ram request) = stored_at request request.write (place_of request.address)
write_of _ = deed.Nothing

-- the word that is written, as it is now
abbrev pub original_word : List ℕ → Deed → Option (ℕ × ℕ)
original_word sram (deed.Store index lanes value) = Some (index, slice_index sram index)
original_word sram _ = None

-- the word as the lane leaves it
abbrev pub own_word : (ℕ → ℕ) → Deed → Option (ℕ × ℕ)
own_word seen (deed.Store index lanes value) = Some (index, with_lanes lanes value (seen index))
own_word seen _ = None

abbrev pub with_word : Option (ℕ × ℕ) → List (ℕ × ℕ) → List (ℕ × ℕ)
with_word None words = words
with_word (Some word) words = words ++ word ∷ []

abbrev pub no_notes : Notes
no_notes = record { originals = []; core0 = []; core1 = []; dma = [] }

-- by the wants of the cores and of the writes of the DMA engine, and by SRAM at the start of the cycle
abbrev pub noted : Want → Want → Want → List ℕ → Notes → Notes
noted v0 v1 v sram n = record {
  originals = with_word (original_word sram (write_of v))
      (with_word (original_word sram (write_of v1)) (with_word (original_word sram (write_of v0)) n.originals));
  core0 = with_word (own_word (seen_of 0 n sram) (write_of v0)) n.core0;
  core1 = with_word (own_word (seen_of 1 n sram) (write_of v1)) n.core1;
  dma = with_word (own_word (seen_of 2 n sram) (write_of v)) n.dma;
}

-- by the wants of the masters; a read of the DMA engine writes nothing
abbrev pub noted_by : List Wanted → List ℕ → Notes → Notes
noted_by (x ∷ y ∷ read ∷ write ∷ []) sram n = noted x.want y.want write.want sram n
noted_by _ sram n = n

-- there is room for more
pub record HasRoom (n : Notes) (more : ℕ) : Type 0 where
  pub originals : length n.originals + more ≤ 1024
  pub core0 : length n.core0 + more ≤ 1024
  pub core1 : length n.core1 + more ≤ 1024
  pub dma : length n.dma + more ≤ 1024
