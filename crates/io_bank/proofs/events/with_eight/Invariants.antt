use Rattle.std.proofs.Common.{◌≡◌, ◌/◌, ◌==◌}
use Rattle.std.specs.Prelude.{if◌then◌else◌}
use Rattle.rp_base.specs.Word.{has_bit}
use Rattle.io_bank.specs.Interrupts.{is_named}
use Rattle.io_bank.specs.Pins.{bits_below}
use Rattle.io_bank.proofs.events.with_eight.Given as goal

abbrev pub invariant-loop-pin : goal.invariant-loop-pin
invariant-loop-pin l = l.pins ≡ bits_below (λ pin. if pin / 8 == l.number then is_named l.word l.kind pin else has_bit l.set pin) l.pin
