use Rattle.std.proofs.Common.{arith}
use Rattle.pin_script.proofs.Rows.{after_entry}
use Rattle.pin_script.proofs.script.Drives.after.Goals as goal

pub returns : goal.returns
returns c pin lt =
    let number = c.from-pin.ensures in
    let driven = rw (number, c.is_some.ensures, c.drive-drive.ensures) at c.with_bit.ensures.same in
    let high = rw (number, c.unwrap_or.ensures, c.drive-drive.ensures) at c.with_bit-2.ensures.same in
    let others = rw number at (c.with_bit.ensures.others pin (omega arith)) in
    let other_highs = rw number at (c.with_bit-2.ensures.others pin (omega arith)) in
    after_entry c.args.self.driven c.args.self.high c.with_bit.result c.with_bit-2.result c.args.entry.now.pin pin _ driven high others other_highs
