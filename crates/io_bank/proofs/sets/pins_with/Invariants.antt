use Rattle.std.proofs.Common.{◌≡◌, ◌/◌, ◌%◌, ◌^◌, ◌==◌}
use Rattle.std.specs.Prelude.{slice_index}
use Rattle.io_bank.specs.Pins.{bits_below}
use Rattle.io_bank.proofs.sets.pins_with.Given as goal

abbrev pub invariant-loop-pin : goal.invariant-loop-pin
invariant-loop-pin l = l.pins ≡ bits_below (λ pin. slice_index l.words pin / 2 ^ l.low % l.size == l.value) l.pin
