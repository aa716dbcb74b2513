-- What the control words of all pins say, as sets of pins. These sets are kept beside the words, so that a step treats all
-- pins at once; nothing of them is told outside.
use Rattle.std.specs.Prelude.{ℕ, ◌-◌, ◌^◌, ◌==◌, List, bit_and, bit_or, bit_xor, slice_index}
use Rattle.io_bank.specs.declared.outputs.Outs.{Outs}
use Rattle.io_bank.specs.declared.routes.Override.{Override}
use Rattle.io_bank.specs.declared.routes.Routes.{Routes}
use Rattle.io_bank.specs.Pins.{pins_where, field}

-- the pins whose word has a value in some of its bits
abbrev pub pins_with : List ℕ → ℕ → ℕ → ℕ → ℕ
pins_with words low count value = pins_where (λ pin. field (slice_index words pin) low count == value)

abbrev pub override_of : List ℕ → ℕ → Override
override_of controls low =
    record {
      passes = bit_or (pins_with controls low 2 0) (pins_with controls low 2 1);
      flips = pins_with controls low 2 1;
      sets = pins_with controls low 2 3;
    }

unfoldable pub routes_of : List ℕ → List ℕ → Routes
routes_of controls pads =
    record {
      uart = pins_with controls 0 5 2;
      pwm = pins_with controls 0 5 4;
      sio = pins_with controls 0 5 5;
      pio0 = pins_with controls 0 5 6;
      pio1 = pins_with controls 0 5 7;
      out = override_of controls 8;
      enable = override_of controls 12;
      input = override_of controls 16;
      drives = pins_with pads 7 1 0;
      senses = pins_with pads 6 1 1;
      pulls = pins_with pads 3 1 1;
    }

-- ---- signals of all pins by these sets

abbrev pub routed_override : Override → ℕ → ℕ
routed_override o signals = bit_or (bit_and (bit_xor signals o.flips) o.passes) o.sets

abbrev pub routed_mix : Routes → ℕ → ℕ → ℕ → ℕ → ℕ → ℕ
routed_mix r uart pwm sio pio0 pio1 =
    bit_or (bit_or (bit_or (bit_or (bit_and uart r.uart) (bit_and pwm r.pwm)) (bit_and sio r.sio)) (bit_and pio0 r.pio0))
    (bit_and pio1 r.pio1)

abbrev pub routed_part : Routes → Outs → ℕ → ℕ
routed_part r outs i =
    routed_mix r (slice_index outs.uart i) (slice_index outs.pwm i) (slice_index outs.sio i) (slice_index outs.pio0 i)
    (slice_index outs.pio1 i)

-- the members of the first set outside a third one, and those of the second one inside it
abbrev pub chosen : ℕ → ℕ → ℕ → ℕ
chosen outside inside set = bit_xor outside (bit_and (bit_xor outside inside) set)

abbrev pub routed_driven : Routes → Outs → ℕ
routed_driven r outs = bit_and (routed_override r.enable (routed_part r outs 1)) r.drives

abbrev pub routed_levels : Routes → Outs → ℕ → ℕ → ℕ
routed_levels r outs driven high =
    bit_and
    (chosen (chosen r.pulls high driven) (routed_override r.out (routed_part r outs 0))
    (bit_and (routed_override r.enable (routed_part r outs 1)) r.drives))
    (2 ^ 30 - 1)

abbrev pub routed_inputs : Routes → ℕ → ℕ
routed_inputs r levels = routed_override r.input (bit_and levels r.senses)
