-- The frame of a byte on the line (PrimeCell UART PL011 Technical Reference Manual, DDI 0183, 2.4.5, UART character frame,
-- and 3.3.7, UARTLCR_H): a start bit, which is low, 5 to 8 data bits from the lowest, a parity bit where PEN is set, and one
-- or two stop bits, which are high.
use Rattle.std.specs.Prelude.{ℕ, ◌+◌, ◌%◌, ◌==◌, Bool, true, false, not, if◌then◌else◌, List, [], ◌∷◌, ◌++◌, map, length, slice_index_or}
use Rattle.std.specs.List.{range_with_len, sum_by}
use Rattle.rp_base.specs.Word.{has_bit, bit_number}
use Rattle.rp_uart.specs.declared.frame.LineControl.{LineControl}
use Rattle.rp_uart.specs.declared.frame.WordLength.{WordLength}
use Rattle.rp_uart.specs.declared.frame.WordLength.TheVariants.{Five, Six, Seven, Eight}

-- how many data bits there are
abbrev pub width_of : WordLength → ℕ
width_of Five = 5
width_of Six = 6
width_of Seven = 7
width_of Eight = 8

-- so many bits of a byte from the lowest
abbrev pub low_bits : ℕ → ℕ → List Bool
low_bits byte count = map (has_bit byte) (range_with_len 0 count)

abbrev pub data_bits : LineControl → ℕ → List Bool
data_bits line byte = low_bits byte (width_of line.width)

abbrev pub ones_of : List Bool → ℕ
ones_of bits = sum_by bit_number bits

abbrev pub is_odd : ℕ → Bool
is_odd n = n % 2 == 1

-- with EPS the data bits and the parity bit together have an even number of ones, else an odd one
unfoldable pub parity_bit : LineControl → ℕ → Bool
parity_bit line byte =
    if line.even then is_odd (ones_of (data_bits line byte)) else not (is_odd (ones_of (data_bits line byte)))

abbrev pub parity_bits : LineControl → ℕ → List Bool
parity_bits line byte = if line.parity then parity_bit line byte ∷ [] else []

abbrev pub stop_bits : LineControl → List Bool
stop_bits line = if line.two_stops then true ∷ true ∷ [] else true ∷ []

unfoldable pub frame_of : LineControl → ℕ → List Bool
frame_of line byte = false ∷ (data_bits line byte ++ (parity_bits line byte ++ stop_bits line))

-- the level of the line in a bit of the frame; it is high after the frame
unfoldable pub level_at : LineControl → ℕ → ℕ → Bool
level_at line byte bit = slice_index_or (frame_of line byte) bit true

unfoldable pub frame_length : LineControl → ℕ → ℕ
frame_length line byte = length (frame_of line byte)

-- the numbers of the parity bit, where there is one, and of the first stop bit
abbrev pub parity_at : LineControl → ℕ
parity_at line = 1 + width_of line.width

abbrev pub stop_at : LineControl → ℕ
stop_at line = parity_at line + bit_number line.parity
