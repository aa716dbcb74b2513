-- What a write of some byte lanes means byte by byte: it changes the chosen bytes and no other.
use Rattle.std.specs.Prelude.{◌≡◌, ◌<◌, ◌^◌, ℕ, true, false}
use Rattle.rp_base.specs.Word.{has_bit}
use Rattle.rp_base.specs.Word.{byte_of}
use Rattle.ram_banks.specs.Lanes.{with_lanes}

pub record WritesLanes (lanes value word : ℕ) : Type 0 where
  pub chosen : (k : ℕ) → k < 4 → has_bit lanes k ≡ true → byte_of (with_lanes lanes value word) k ≡ byte_of value k
  pub kept : (k : ℕ) → k < 4 → has_bit lanes k ≡ false → byte_of (with_lanes lanes value word) k ≡ byte_of word k
  pub small : with_lanes lanes value word < 2 ^ 32

-- of any three numbers
abbrev pub LanesLaw : Type 0
LanesLaw = (lanes value word : ℕ) → WritesLanes lanes value word
