-- Bits 12:8 of an instruction: the side-set value and the delay (RP2040 Datasheet, 3.4.1 and 3.5.1).
use Rattle.std.specs.Prelude.{◌≡◌, ◌==◌, nat_lt, nat_le, if◌then◌else◌, ℕ, ◌/◌, ◌%◌, ◌+◌, ◌-◌, ◌*◌, ◌^◌, ◌<◌, ◌≤◌, Option, None, Some, MatchBool, IsSomeAnd}
use Rattle.pio_words.specs.declared.side.SideConfig.{SideConfig}
use Rattle.pio_words.specs.declared.side.SideDelay.{SideDelay}

-- with `opt`, the top one of the five bits says whether there is a side-set value; the value's bits follow, then the delay's
-- (RP2040 Datasheet, 3.4.1 and 3.5.1)
abbrev pub IsOptionalSide : ℕ → Option ℕ → ℕ → ℕ → Type 0
IsOptionalSide count None delay field = (count ≤ 4) × (delay < 2 ^ (4 - count)) × (field ≡ delay)
IsOptionalSide count (Some value) delay field =
    (count ≤ 4) × (delay < 2 ^ (4 - count)) × (value < 2 ^ count) × (field ≡ 16 + value * 2 ^ (4 - count) + delay)

-- without `opt`, every instruction has a side-set value, unless there are no bits for one
abbrev pub IsPlainSide : ℕ → Option ℕ → ℕ → ℕ → Type 0
IsPlainSide count None delay field = (count ≡ 0) × (delay < 32) × (field ≡ delay)
IsPlainSide count (Some value) delay field =
    (0 < count) × (count ≤ 5) × (delay < 2 ^ (5 - count)) × (value < 2 ^ count) × (field ≡ value * 2 ^ (5 - count) + delay)

-- bits 12:8 of an instruction with this side-set value, or none, and this delay
abbrev pub IsSideField : SideConfig → Option ℕ → ℕ → ℕ → Type 0
IsSideField side value delay field = MatchBool side.opt (IsOptionalSide side.count value delay field) (IsPlainSide side.count value delay field)

-- a value of `count` bits above a delay, in `width` bits
abbrev pub scaled_side : ℕ → ℕ → ℕ → SideDelay
scaled_side field count width = record { value = Some (field / 2 ^ (width - count)); delay = field % 2 ^ (width - count) }

-- what five bits say where the top one is an enable bit
abbrev pub optional_side_at : ℕ → ℕ → Option SideDelay
optional_side_at count field =
    if nat_le count 4
    then if nat_le 16 field
    then Some (scaled_side (field - 16) count 4)
    else if nat_lt field (2 ^ (4 - count)) then Some (record { value = None; delay = field }) else None
    else None

-- what five bits say without an enable bit
abbrev pub plain_side_at : ℕ → ℕ → Option SideDelay
plain_side_at count field =
    if nat_le count 5
    then if count == 0 then Some (record { value = None; delay = field }) else Some (scaled_side field count 5)
    else None

-- what bits 12:8 say
abbrev pub side_at : SideConfig → ℕ → Option SideDelay
side_at side field = if side.opt then optional_side_at side.count field else plain_side_at side.count field

-- the two parts of `scaled_side` fit their bits and make the field
abbrev pub IsScaledSide : SideDelay → ℕ → ℕ → ℕ → Type 0
IsScaledSide side field count width =
    IsSomeAnd side.value (λ value. (value < 2 ^ count) × (field ≡ value * 2 ^ (width - count) + side.delay)) × (side.delay < 2 ^ (width - count))
