-- Sets of pins, fields of words and overrides (RP2040 Datasheet, 1.4.3, GPIO functions, and 2.19.6.1, GPIO0_CTRL). There
-- are 30 pins, and bit p of a set tells whether pin p is in it.
use Rattle.std.specs.Prelude.{ℕ, zero, suc, ◌+◌, ◌*◌, ◌/◌, ◌%◌, ◌^◌, Bool, not, ◌==◌, if◌then◌else◌}
use Rattle.rp_base.specs.Word.{bit_number}

-- the number whose bits below a count are what a test says of them
unfoldable pub bits_below : (ℕ → Bool) → ℕ → ℕ
bits_below f zero = 0
bits_below f (suc n) = bits_below f n + bit_number (f n) * 2 ^ n

-- the pins of which a test holds
abbrev pub pins_where : (ℕ → Bool) → ℕ
pins_where f = bits_below f 30

-- so many bits of a word from a lowest one on
abbrev pub field : ℕ → ℕ → ℕ → ℕ
field word low count = word / 2 ^ low % 2 ^ count

-- a signal under an override: 0 as it is, 1 inverted, 2 low or off, 3 high or on
abbrev pub overridden : ℕ → Bool → Bool
overridden way signal = if way == 0 then signal else if way == 1 then not signal else (way == 3)
