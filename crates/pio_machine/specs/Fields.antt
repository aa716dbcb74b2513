-- The fields of a machine's registers (RP2040 Datasheet, 3.7: CLKDIV, EXECCTRL, SHIFTCTRL and PINCTRL), and what they make of
-- its FIFOs and its divider.
use Rattle.std.specs.Prelude.{ℕ, ◌+◌, ◌*◌, ◌/◌, ◌%◌, ◌^◌, Bool, ◌==◌, nat_le, if◌then◌else◌, length, min}
use Rattle.rp_base.specs.Word.{has_bit}
use Rattle.pio_machine.specs.declared.machine.Machine1.{Machine1}

-- ---- CLKDIV: INT in bits 31:16, FRAC in bits 15:8

-- a machine ticks once in this many 256ths of a cycle (3.5.5); an integer part of 0 stands for 65536
abbrev pub divider : Machine1 → ℕ
divider m = if m.clkdiv / 2 ^ 16 == 0 then 2 ^ 24 else m.clkdiv / 2 ^ 16 * 256 + m.clkdiv / 2 ^ 8 % 2 ^ 8

-- ---- EXECCTRL

-- bit 12 of an instruction says whether it has a side-set value
abbrev pub side_enable : Machine1 → Bool
side_enable m = has_bit m.execctrl 30

-- side-set drives enables in place of levels
abbrev pub side_pindir : Machine1 → Bool
side_pindir m = has_bit m.execctrl 29

abbrev pub jmp_pin : Machine1 → ℕ
jmp_pin m = m.execctrl / 2 ^ 24 % 2 ^ 5

abbrev pub wrap_top : Machine1 → ℕ
wrap_top m = m.execctrl / 2 ^ 12 % 2 ^ 5

abbrev pub wrap_bottom : Machine1 → ℕ
wrap_bottom m = m.execctrl / 2 ^ 7 % 2 ^ 5

-- STATUS is that of the RX FIFO, else of the TX FIFO
abbrev pub status_of_rx : Machine1 → Bool
status_of_rx m = has_bit m.execctrl 4

abbrev pub status_level : Machine1 → ℕ
status_level m = m.execctrl % 2 ^ 4

-- ---- SHIFTCTRL

abbrev pub join_rx : Machine1 → Bool
join_rx m = has_bit m.shiftctrl 31

abbrev pub join_tx : Machine1 → Bool
join_tx m = has_bit m.shiftctrl 30

-- a threshold of 0 stands for 32
abbrev pub threshold : ℕ → ℕ
threshold field = if field == 0 then 32 else field

abbrev pub pull_threshold : Machine1 → ℕ
pull_threshold m = threshold (m.shiftctrl / 2 ^ 25 % 2 ^ 5)

abbrev pub push_threshold : Machine1 → ℕ
push_threshold m = threshold (m.shiftctrl / 2 ^ 20 % 2 ^ 5)

-- OUT takes the low bits of the OSR, else the high bits
abbrev pub out_right : Machine1 → Bool
out_right m = has_bit m.shiftctrl 19

-- IN fills the ISR from the top, else from the bottom
abbrev pub in_right : Machine1 → Bool
in_right m = has_bit m.shiftctrl 18

abbrev pub autopull : Machine1 → Bool
autopull m = has_bit m.shiftctrl 17

abbrev pub autopush : Machine1 → Bool
autopush m = has_bit m.shiftctrl 16

-- ---- PINCTRL: a count of more pins or bits than there are stands for all of them (the project's own)

abbrev pub side_count : Machine1 → ℕ
side_count m = min (m.pinctrl / 2 ^ 29 % 2 ^ 3) 5

abbrev pub set_count : Machine1 → ℕ
set_count m = min (m.pinctrl / 2 ^ 26 % 2 ^ 3) 5

abbrev pub out_count : Machine1 → ℕ
out_count m = min (m.pinctrl / 2 ^ 20 % 2 ^ 6) 32

abbrev pub in_base : Machine1 → ℕ
in_base m = m.pinctrl / 2 ^ 15 % 2 ^ 5

abbrev pub side_base : Machine1 → ℕ
side_base m = m.pinctrl / 2 ^ 10 % 2 ^ 5

abbrev pub set_base : Machine1 → ℕ
set_base m = m.pinctrl / 2 ^ 5 % 2 ^ 5

abbrev pub out_base : Machine1 → ℕ
out_base m = m.pinctrl % 2 ^ 5

-- ---- the FIFOs (3.5.3)

-- how many words a FIFO holds: four, or eight where it has taken the other's room, which then has none. With both joins
-- neither holds a word (the project's own)
abbrev pub depth : Bool → Bool → ℕ
depth joined lent = if lent then 0 else if joined then 8 else 4

abbrev pub tx_depth : Machine1 → ℕ
tx_depth m = depth (join_tx m) (join_rx m)

abbrev pub rx_depth : Machine1 → ℕ
rx_depth m = depth (join_rx m) (join_tx m)

abbrev pub is_tx_full : Machine1 → Bool
is_tx_full m = nat_le (tx_depth m) (length m.tx)

abbrev pub is_rx_full : Machine1 → Bool
is_rx_full m = nat_le (rx_depth m) (length m.rx)
