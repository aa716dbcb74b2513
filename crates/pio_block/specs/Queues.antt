-- The FIFOs as the system sees them: FSTAT, FDEBUG, FLEVEL, TXF and RXF (RP2040 Datasheet, 3.7).
use Rattle.std.specs.Prelude.{ℕ, ◌+◌, ◌*◌, ◌/◌, ◌%◌, ◌^◌, Bool, not, ◌&&◌, ◌==◌, if◌then◌else◌, List, [], ◌∷◌, ◌++◌, length, bit_or, slice_index}
use Rattle.rp_base.specs.Word.{has_bit, bit_number}
use Rattle.pio_machine.specs.declared.machine.Machine1.{Machine1}
use Rattle.pio_machine.specs.Fields.{is_tx_full, is_rx_full}
use Rattle.pio_block.specs.State.{State, machine_of, changed, each, without}

-- ---- what is read

-- a bit of each machine, machine 0 in bit 0
abbrev pub bits_of : (Machine1 → Bool) → List Machine1 → ℕ
bits_of p ms =
    bit_number (p (machine_of 0 ms)) + bit_number (p (machine_of 1 ms)) * 2 + bit_number (p (machine_of 2 ms)) * 4
    + bit_number (p (machine_of 3 ms)) * 8

abbrev pub is_tx_empty : Machine1 → Bool
is_tx_empty m = length m.tx == 0

abbrev pub is_rx_empty : Machine1 → Bool
is_rx_empty m = length m.rx == 0

-- TXEMPTY, TXFULL, RXEMPTY, RXFULL
unfoldable pub fstat_of : List Machine1 → ℕ
fstat_of ms =
    bits_of is_tx_empty ms * 2 ^ 24 + bits_of is_tx_full ms * 2 ^ 16 + bits_of is_rx_empty ms * 2 ^ 8
    + bits_of is_rx_full ms

-- TXSTALL, TXOVER, RXUNDER, RXSTALL
unfoldable pub fdebug_of : State → ℕ
fdebug_of s =
    bits_of (λ m. m.tx_stall) s.machines * 2 ^ 24 + s.tx_over * 2 ^ 16 + s.rx_under * 2 ^ 8
    + bits_of (λ m. m.rx_stall) s.machines

-- the levels of both FIFOs, the RX FIFO's above the TX FIFO's
abbrev pub levels_of : Machine1 → ℕ
levels_of m = length m.tx + length m.rx * 16

unfoldable pub flevel_of : List Machine1 → ℕ
flevel_of ms =
    levels_of (machine_of 0 ms) + levels_of (machine_of 1 ms) * 2 ^ 8 + levels_of (machine_of 2 ms) * 2 ^ 16
    + levels_of (machine_of 3 ms) * 2 ^ 24

-- an empty FIFO reads as 0
abbrev pub first_of : List ℕ → ℕ
first_of words = slice_index words 0

-- ---- what is done

-- a 1 clears its bit of FDEBUG
abbrev pub with_stalls_cleared : ℕ → ℕ → Machine1 → Machine1
with_stalls_cleared w n m = record m {
  tx_stall = m.tx_stall && not (has_bit w (24 + n));
  rx_stall = m.rx_stall && not (has_bit w n);
}

unfoldable pub debug_written : ℕ → State → State
debug_written w s = record s {
  machines = each (with_stalls_cleared w) s.machines;
  tx_over = without s.tx_over (w / 2 ^ 16 % 2 ^ 4);
  rx_under = without s.rx_under (w / 2 ^ 8 % 2 ^ 4);
}

-- a word that is written to a full FIFO is lost, which TXOVER tells
abbrev pub with_sent : ℕ → Machine1 → Machine1
with_sent w m = if is_tx_full m then m else record m { tx = m.tx ++ w ∷ [] }

unfoldable pub sent : ℕ → ℕ → State → State
sent n w s = record s {
  machines = changed n (with_sent w) s.machines;
  tx_over = if is_tx_full (machine_of n s.machines) then bit_or s.tx_over (2 ^ n) else s.tx_over;
}

-- a read takes a word away; that there was none RXUNDER tells
abbrev pub with_rx : List ℕ → Machine1 → Machine1
with_rx [] m = m
with_rx (word ∷ rest) m = record m { rx = rest }

abbrev pub with_taken : Machine1 → Machine1
with_taken m = with_rx m.rx m

unfoldable pub taken : ℕ → State → State
taken n s = record s {
  machines = changed n with_taken s.machines;
  rx_under = if is_rx_empty (machine_of n s.machines) then bit_or s.rx_under (2 ^ n) else s.rx_under;
}
