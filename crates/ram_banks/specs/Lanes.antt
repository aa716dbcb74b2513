-- The byte lanes of a word on the bus: lane k carries byte k, the least significant being lane 0 (AMBA 3 AHB-Lite Protocol
-- Specification, chapter 6 "Data Buses", active byte lanes of a 32-bit little-endian data bus).
use Rattle.std.specs.Prelude.{ℕ, if◌then◌else◌}
use Rattle.rp_base.specs.Word.{has_bit}
use Rattle.rp_base.specs.Word.{byte_of, joined}

-- the byte that a write leaves in a lane: that of the value where the lane's bit is set, else that of the word
abbrev pub lane_byte : ℕ → ℕ → ℕ → ℕ → ℕ
lane_byte lanes value word lane = if has_bit lanes lane then byte_of value lane else byte_of word lane

-- the word that a write of some byte lanes leaves; bit k of `lanes` chooses lane k
unfoldable pub with_lanes : ℕ → ℕ → ℕ → ℕ
with_lanes lanes value word =
    joined (lane_byte lanes value word 3) (lane_byte lanes value word 2) (lane_byte lanes value word 1)
    (lane_byte lanes value word 0)
