use Rattle.std.proofs.Common.{◌≡◌, ◌/◌, ◌%◌, ◌*◌, ◌+◌}
use Rattle.rp_base.specs.Word.{has_bit}
use Rattle.io_bank.specs.Interrupts.{kind_of}
use Rattle.io_bank.specs.Pins.{bits_below}
use Rattle.io_bank.proofs.events.Events.word.Given as goal

abbrev pub invariant-loop-bit : goal.invariant-loop-bit
invariant-loop-bit l = l.word ≡ bits_below (λ bit. has_bit (kind_of l.self (bit % 4)) (8 * l.number + bit / 4)) l.bit
