use Rattle.std.proofs.Common.{◌≡◌, ◌++◌}
use Rattle.pin_script.specs.Lines.{sent_entries}
use Rattle.pin_script.specs.Reading.{HasPins}
use Rattle.pin_script.proofs.send.push_bits.Given as goal

abbrev pub invariant-loop-k : goal.invariant-loop-k
invariant-loop-k l =
    (l.entries.items ≡ l.initial.entries.items ++ sent_entries l.sending.number l.sending.cycle l.sending.pin l.sending.divisor l.bytes l.k)
    × (HasPins l.initial.entries.items → HasPins l.entries.items)
