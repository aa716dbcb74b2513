use Rattle.std.proofs.Common.{◌≡◌, ◌/◌, ◌==◌, ◌&&◌, ◌||◌, not}
use Rattle.rp_base.specs.Word.{has_bit}
use Rattle.io_bank.specs.Interrupts.{is_named}
use Rattle.io_bank.specs.Pins.{bits_below}
use Rattle.io_bank.proofs.events.left_of.Given as goal

abbrev pub invariant-loop-pin : goal.invariant-loop-pin
invariant-loop-pin l = l.pins ≡ bits_below (λ pin. has_bit l.latched pin && (has_bit l.fresh pin || not (pin / 8 == l.number && is_named l.word l.kind pin))) l.pin
