use Rattle.std.proofs.Common.{refl, arith}
use Rattle.pin_script.proofs.Rows.{row_shows, row_within, shows_none}
use Rattle.pin_script.proofs.script.Script.drives_after.Goals as goal

pub index-requires : goal.index-requires
index-requires c =
    let within = rw (← c.self.view_is) at c.requires in
    let inside =
    row_within c.self.inside.entries.items c.self.inside.drives.items c.args.count c.self.invariant within c.if-count-eq0.false
    in
    omega (arith, inside, c.self.inside.drives.ok.0)

pub returns-then-count-eq0 : goal.returns-then-count-eq0
returns-then-count-eq0 c = rw c.if-count-eq0.true (shows_none _ refl)

pub returns-else-count-eq0 : goal.returns-else-count-eq0
returns-else-count-eq0 c =
    let within = rw (← c.self.view_is) at c.requires in
    rw (← c.self.view_is, c.index.ensures)
    (row_shows c.self.inside.entries.items c.self.inside.drives.items c.args.count _ c.self.invariant within c.if-count-eq0.false)
