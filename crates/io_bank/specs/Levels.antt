-- The levels of the pads, pin by pin, and what the parts of the chip see of them (RP2040 Datasheet, 1.4.3, GPIO
-- functions, 2.19.2, Function Select, 2.19.4, Pads, and 2.19.6.1, GPIO0_STATUS and GPIO0_CTRL).
use Rattle.std.specs.Prelude.{◌≡◌, ℕ, ◌+◌, ◌*◌, ◌^◌, Bool, true, not, ◌&&◌, ◌==◌, if◌then◌else◌, List, [], ◌∷◌, Option, Some, None, slice_index, slice_index_or}
use Rattle.rp_base.specs.Word.{has_bit, bit_number}
use Rattle.io_bank.specs.declared.outputs.Outs.{Outs}
use Rattle.io_bank.specs.Pins.{pins_where, field, overridden}
use Rattle.io_bank.specs.State.{State}

-- ---- a pin's control words

-- FUNCSEL, OUTOVER, OEOVER and INOVER of CTRL
abbrev pub function_of : ℕ → ℕ
function_of control = field control 0 5

abbrev pub out_override : ℕ → ℕ
out_override control = field control 8 2

abbrev pub enable_override : ℕ → ℕ
enable_override control = field control 12 2

abbrev pub in_override : ℕ → ℕ
in_override control = field control 16 2

-- OD, IE and PUE of a pad's register
abbrev pub is_output_disabled : ℕ → Bool
is_output_disabled pad = has_bit pad 7

abbrev pub is_input_enabled : ℕ → Bool
is_input_enabled pad = has_bit pad 6

abbrev pub is_pulled_up : ℕ → Bool
is_pulled_up pad = has_bit pad 3

abbrev pub control_of : State → ℕ → ℕ
control_of s pin = slice_index s.controls pin

abbrev pub pad_of : State → ℕ → ℕ
pad_of s pin = slice_index s.pads pin

-- ---- outputs

-- the levels and the enables that the part with a function gives; the other functions drive nothing
abbrev pub peripheral : Outs → ℕ → List ℕ
peripheral outs function =
    if function == 2 then outs.uart else
    if function == 4 then outs.pwm else
    if function == 5 then outs.sio else
    if function == 6 then outs.pio0 else
    if function == 7 then outs.pio1 else (0 ∷ 0 ∷ [])

-- OUTFROMPERI and OEFROMPERI, and OUTTOPAD and OETOPAD, which come after the overrides
abbrev pub level_from : Outs → ℕ → ℕ → Bool
level_from outs control pin = has_bit (slice_index (peripheral outs (function_of control)) 0) pin

abbrev pub enable_from : Outs → ℕ → ℕ → Bool
enable_from outs control pin = has_bit (slice_index (peripheral outs (function_of control)) 1) pin

abbrev pub level_to : Outs → ℕ → ℕ → Bool
level_to outs control pin = overridden (out_override control) (level_from outs control pin)

abbrev pub enable_to : Outs → ℕ → ℕ → Bool
enable_to outs control pin = overridden (enable_override control) (enable_from outs control pin)

-- ---- pads

-- what drives a pad from outside: the level of a script or of a device; without one the pull-up decides
abbrev pub level_outside : Option Bool → ℕ → Bool
level_outside None pad = is_pulled_up pad
level_outside (Some level) pad = level

-- a pad is driven where its enable is on and OD is off
abbrev pub pad_level : Outs → Option Bool → ℕ → ℕ → ℕ → Bool
pad_level outs outside control pad pin =
    if enable_to outs control pin && not (is_output_disabled pad) then level_to outs control pin
    else level_outside outside pad

-- the pads that are high
abbrev pub levels_of : Outs → (ℕ → Option Bool) → State → ℕ
levels_of outs outside s = pins_where (λ pin. pad_level outs (outside pin) (control_of s pin) (pad_of s pin) pin)

-- the level from outside by a list, and by the pins that are driven and those that are driven high
abbrev pub by_list : List (Option Bool) → ℕ → Option Bool
by_list levels pin = slice_index_or levels pin None

abbrev pub by_sets : ℕ → ℕ → ℕ → Option Bool
by_sets driven high pin = if has_bit driven pin then Some (has_bit high pin) else None

-- ---- inputs

-- a pad's level under IE, and then under INOVER
abbrev pub level_sensed : State → ℕ → ℕ → Bool
level_sensed s levels pin = is_input_enabled (pad_of s pin) && has_bit levels pin

abbrev pub input_of : State → ℕ → ℕ → Bool
input_of s levels pin = overridden (in_override (control_of s pin)) (level_sensed s levels pin)

abbrev pub inputs_of : State → ℕ → ℕ
inputs_of s levels = pins_where (input_of s levels)

-- ---- functions

-- the pins that have a function
abbrev pub pins_of : ℕ → State → ℕ
pins_of function s = pins_where (λ pin. function_of (control_of s pin) == function)

abbrev pub is_used : ℕ → State → Bool
is_used function s = not (pins_of function s == 0)

-- the first of some pins that is in a set
abbrev pub first_in : ℕ → List ℕ → Option ℕ
first_in set [] = None
first_in set (pin ∷ pins) = if has_bit set pin then Some pin else first_in set pins

-- the pins of TX for each UART, and the pin of RX after each
abbrev pub transmit_pins : ℕ → List ℕ
transmit_pins number = if number == 0 then (0 ∷ 12 ∷ 16 ∷ 28 ∷ []) else (4 ∷ 8 ∷ 20 ∷ 24 ∷ [])

abbrev pub receive_pins : ℕ → List ℕ
receive_pins number = if number == 0 then (1 ∷ 13 ∷ 17 ∷ 29 ∷ []) else (5 ∷ 9 ∷ 21 ∷ 25 ∷ [])

-- the set of some pins
abbrev pub set_of : List ℕ → ℕ
set_of [] = 0
set_of (pin ∷ pins) = 2 ^ pin + set_of pins

-- what both UARTs put out: the levels of TX at their pins, where alone their enables are on
abbrev pub uart_outputs : Bool → Bool → List ℕ
uart_outputs first second =
    (bit_number first * set_of (transmit_pins 0) + bit_number second * set_of (transmit_pins 1))
    ∷ (set_of (transmit_pins 0) + set_of (transmit_pins 1)) ∷ []

-- a UART receives from the lowest of its RX pins that has its function
abbrev pub receive_pin : ℕ → State → Option ℕ
receive_pin number s = first_in (pins_of 2 s) (receive_pins number)

-- it sees the second level there; without such a pin its line is high
abbrev pub level_at : State → Option ℕ → Bool
level_at s None = true
level_at s (Some pin) = has_bit (inputs_of s s.second) pin

abbrev pub receive_level : ℕ → State → Bool
receive_level number s = level_at s (receive_pin number s)

-- a signal to the pins, a bit each, is the same by two words at the pins of a set
abbrev pub IsSameAt : ℕ → ℕ → ℕ → Type 0
IsSameAt pins first second = (pin : ℕ) → has_bit pins pin ≡ true → has_bit first pin ≡ has_bit second pin
