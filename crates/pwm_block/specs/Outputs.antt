-- What the PWM block drives (RP2040 Datasheet, 4.5.2, Programmer's Model: each pin that has a PWM output, and 4.5.2.1).
use Rattle.std.specs.Prelude.{ℕ, ◌+◌, ◌*◌, ◌/◌, ◌%◌, ◌^◌, Bool, not, ◌==◌, nat_lt, if◌then◌else◌, List, [], ◌∷◌}
use Rattle.lane_look.specs.declared.device.Wires.{Wires}
use Rattle.rp_base.specs.Word.{has_bit, bit_number}
use Rattle.pwm_block.specs.State.{Slice, State, is_enabled, shown_of}
use Rattle.pwm_block.specs.Step.{set_of}

-- high where CTR is below its half of CC, and turned by A_INV or B_INV, whether or not the slice is enabled
abbrev pub turned : Bool → Bool → Bool
turned turns level = if turns then not level else level

abbrev pub output_a : Slice → Bool
output_a s = turned (has_bit s.csr 2) (nat_lt s.ctr (s.live_cc % 2 ^ 16))

abbrev pub output_b : Slice → Bool
output_b s = turned (has_bit s.csr 3) (nat_lt s.ctr (s.live_cc / 2 ^ 16 % 2 ^ 16))

-- the outputs of a list of slices: A and B of the first one in bits 0 and 1, and so on
abbrev pub outputs_of : List Slice → ℕ
outputs_of [] = 0
outputs_of (s ∷ ss) = (bit_number (output_a s) + bit_number (output_b s) * 2) + outputs_of ss * 4

-- pins 0 to 15 have the outputs of slices 0 to 7, and those from 16 on have them again
abbrev pub pins_of : State → ℕ
pins_of b = outputs_of b.slices * (2 ^ 16 + 1)

-- PWM_IRQ_WRAP, the interrupt line 4
abbrev pub line_of : State → ℕ
line_of b = bit_number (not (shown_of b == 0))

abbrev pub wires_of : State → Wires
wires_of b = record { mask = 0; level = 0; pwm = pins_of b; irq = line_of b * 2 ^ 4 }

-- the slices that are enabled
abbrev pub enabled_of : State → ℕ
enabled_of b = set_of (λ n s. is_enabled s) 0 b.slices
