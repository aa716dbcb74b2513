use Rattle.pin_script.proofs.Rows.{shows_due}
use Rattle.pin_script.proofs.cursor.Cursor.drives.Goals as goal

pub returns-clause-drives : goal.returns-clause-drives
returns-clause-drives c =
    let due = rw c.as_slice.ensures.entries at c.count_due-due.ensures.due in
    shows_due _ _ _ _ due c.drives_after.ensures
