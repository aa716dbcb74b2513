use Rattle.std.proofs.Common.{[]}
use Rattle.pin_script.proofs.Rows.{no_rows}
use Rattle.pin_script.proofs.script.Script.new.Goals as goal

pub invariant_of-result : goal.invariant_of-result
invariant_of-result c = rw (c.new.ensures.items, c.new-2.ensures.items) (record { script = tt; table = no_rows [] })
