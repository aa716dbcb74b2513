use Rattle.std.proofs.Common.{take}
use Rattle.pin_script.specs.Reading.{IsTable, Shows}
use Rattle.pin_script.proofs.script.drive_table.Given as goal

abbrev pub invariant-loop-entry : goal.invariant-loop-entry
invariant-loop-entry l = IsTable l.entries l.table.items l.entry-index × Shows (take l.entry-index l.entries) l.drives
