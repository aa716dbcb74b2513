use Rattle.std.proofs.Common.{◌≡◌, map, take}
use Rattle.pin_script.specs.Script.{without_line}
use Rattle.pin_script.proofs.order.without_lines.Given as goal

abbrev pub invariant-loop-entry : goal.invariant-loop-entry
invariant-loop-entry l = l.script.items ≡ map without_line (take l.entry-index l.entries)
