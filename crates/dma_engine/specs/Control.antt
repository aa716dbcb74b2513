-- The bits of a channel's control word (RP2040 Datasheet, 2.5.7, CH0_CTRL_TRIG).
use Rattle.std.specs.Prelude.{ℕ, ◌/◌, ◌%◌, ◌^◌, Bool, ◌==◌, if◌then◌else◌}
use Rattle.rp_base.specs.declared.Size.{Size}
use Rattle.rp_base.specs.declared.Size.TheVariants.{Byte, Half, Word}
use Rattle.rp_base.specs.Word.{has_bit}
use Rattle.dma_engine.specs.declared.channel.Channel.{Channel}

-- EN
abbrev pub is_enabled : Channel → Bool
is_enabled c = has_bit c.ctrl 0

-- HIGH_PRIORITY
abbrev pub is_high : Channel → Bool
is_high c = has_bit c.ctrl 1

-- DATA_SIZE, where 3, which the manual leaves open, acts as 2
abbrev pub size_by : ℕ → Size
size_by code = if code == 0 then Byte else if code == 1 then Half else Word

abbrev pub size_of : Channel → Size
size_of c = size_by (c.ctrl / 2 ^ 2 % 2 ^ 2)

-- INCR_READ and INCR_WRITE
abbrev pub increments_read : Channel → Bool
increments_read c = has_bit c.ctrl 4

abbrev pub increments_write : Channel → Bool
increments_write c = has_bit c.ctrl 5

-- RING_SIZE: how many low bits of an address change, 0 where all do; RING_SEL: it is the write address
abbrev pub ring_of : Channel → ℕ
ring_of c = c.ctrl / 2 ^ 6 % 2 ^ 4

abbrev pub rings_write : Channel → Bool
rings_write c = has_bit c.ctrl 10

-- CHAIN_TO
abbrev pub chain_of : Channel → ℕ
chain_of c = c.ctrl / 2 ^ 11 % 2 ^ 4

-- TREQ_SEL
abbrev pub treq_of : Channel → ℕ
treq_of c = c.ctrl / 2 ^ 15 % 2 ^ 6

-- IRQ_QUIET
abbrev pub irq_quiet : Channel → Bool
irq_quiet c = has_bit c.ctrl 21

-- BSWAP
abbrev pub swaps : Channel → Bool
swaps c = has_bit c.ctrl 22
