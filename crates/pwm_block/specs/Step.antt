-- One cycle of the PWM block (RP2040 Datasheet, 4.5.2.1, Pulse Width Modulation, 4.5.2.2, 0% and 100% Duty Cycle, 4.5.2.3,
-- Double Buffering, 4.5.2.4, Clock Divider, 4.5.2.5, Level-sensitive and Edge-sensitive Triggers, and 4.5.2.6, Configuring PWM
-- Period).
use Rattle.std.specs.Prelude.{ℕ, ◌+◌, ◌-◌, ◌*◌, ◌%◌, ◌^◌, Bool, true, not, ◌&&◌, ◌==◌, nat_le, if◌then◌else◌, List, [], ◌∷◌, bit_or}
use Rattle.rp_base.specs.Word.{has_bit, bit_number}
use Rattle.pwm_block.specs.State.{Slice, State, is_enabled, is_phase_correct, mode_of, divisor_of}

-- ---- a count

-- a count is a wrap: where it goes from TOP to 0; with PH_CORRECT, where it turns at 0
abbrev pub wraps : Slice → Bool
wraps s = if is_phase_correct s then s.down && s.ctr == 0 else s.ctr == s.live_top

abbrev pub next_of : Slice → ℕ
next_of s =
    if is_phase_correct s
    then (if s.down then s.ctr - 1 else if s.ctr == s.live_top then s.ctr else (s.ctr + 1) % 2 ^ 16)
    else (if s.ctr == s.live_top then 0 else (s.ctr + 1) % 2 ^ 16)

-- with PH_CORRECT it turns down at TOP and up at 0, and stays there for that count
abbrev pub next_way : Slice → Bool
next_way s = if is_phase_correct s then (if s.down then not (s.ctr == 0) else s.ctr == s.live_top) else s.down

-- a wrap takes over CC and TOP as they were written
abbrev pub counted : Slice → Slice
counted s =
    record s {
      ctr = next_of s;
      down = next_way s;
      live_cc = if wraps s then s.cc else s.live_cc;
      live_top = if wraps s then s.top else s.live_top;
    }

-- ---- a cycle of a slice, by the level of its input pin and the one of the cycle before

-- DIVMODE: always; while the input is high; where it rises; where it falls
abbrev pub has_event : Bool → Bool → Slice → Bool
has_event input was s =
    if mode_of s == 0 then true else
    if mode_of s == 1 then input else
    if mode_of s == 2 then input && not was else not input && was

-- the divider has enough for a count
abbrev pub is_full : Slice → Bool
is_full s = nat_le (divisor_of s) (s.acc + 16)

-- an event is a cycle for the divider
abbrev pub after_event : Slice → Slice
after_event s = if is_full s then counted (record s { acc = s.acc + 16 - divisor_of s }) else record s { acc = s.acc + 16 }

abbrev pub acts : Bool → Bool → Slice → Bool
acts input was s = is_enabled s && has_event input was s

abbrev pub after_slice : Bool → Bool → Slice → Slice
after_slice input was s = if acts input was s then after_event s else s

-- it wraps in this cycle
abbrev pub has_wrap : Bool → Bool → Slice → Bool
has_wrap input was s = acts input was s && (is_full s && wraps s)

-- ---- a cycle of the block

-- each slice by its number, from a first one on
abbrev pub numbered : (ℕ → Slice → Slice) → ℕ → List Slice → List Slice
numbered f n [] = []
numbered f n (s ∷ ss) = f n s ∷ numbered f (n + 1) ss

-- the set of those of which something holds
abbrev pub set_of : (ℕ → Slice → Bool) → ℕ → List Slice → ℕ
set_of p n [] = 0
set_of p n (s ∷ ss) = bit_number (p n s) + set_of p (n + 1) ss * 2

-- the input of slice n is the level of pin 2n + 1
abbrev pub input_of : ℕ → ℕ → Bool
input_of pads n = has_bit pads (2 * n + 1)

abbrev pub after_step : ℕ → State → State
after_step pads b =
    record b {
      slices = numbered (λ n s. after_slice (input_of pads n) (input_of b.last n) s) 0 b.slices;
      raised = bit_or b.raised (set_of (λ n s. has_wrap (input_of pads n) (input_of b.last n) s) 0 b.slices);
      last = pads;
    }
