use Rattle.std.proofs.Common.{refl}
use Rattle.pin_script.proofs.Rows.{no_rows, pin_at, row_more, shows_next, shows_none}
use Rattle.pin_script.proofs.script.drive_table.Goals as goal

pub loop-entry-init : goal.loop-entry-init
loop-entry-init c = (rw c.in_ok-table.ensures.items (no_rows _), shows_none _ refl)

pub after-drives-requires : goal.after-drives-requires
after-drives-requires c = pin_at c.args.entries.now c.loop-entry.entry-index _ c.requires c.loop-entry-test.true

pub loop-entry-preserved : goal.loop-entry-preserved
loop-entry-preserved c =
    let next = shows_next _ _ _ _ _ c.loop-entry-test.true c.loop-entry.invariant.1 c.after-drives.ensures in
    (rw c.in_ok-push.ensures.items (row_more _ _ _ _ c.loop-entry.invariant.0 next), next)
