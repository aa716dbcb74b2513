use Rattle.std.proofs.Common.{◌≤◌, length, arith}
use Rattle.window_merge.proofs.Shared.{not_from_Decides, slice_get_past}
use Rattle.window_merge.proofs.Walking.{still_other, one_more, now_other, not_next}
use Rattle.window_merge.proofs.walk.compare.Goals as goal

pub returns-then-not-same : goal.returns-then-not-same
returns-then-not-same c = still_other c.args.log.now (c.args.ask, c.args.answer) c.args.index c.args.same c.if-not-same.true

pub returns-then-is_entry : goal.returns-then-is_entry
returns-then-is_entry c =
    one_more c.args.log.now (c.args.ask, c.args.answer) c.entry.result c.args.index c.args.same c.if-not-same.false c.entry.ensures
    (c.is_entry.ensures.0 c.if-is_entry.true)

pub returns-else-is_entry : goal.returns-else-is_entry
returns-else-is_entry c = search (arith, now_other, not_next, not_from_Decides)

pub returns-else-index-count : goal.returns-else-index-count
returns-else-index-count c =
    let past : length c.args.log.now ≤ c.args.index = let n = c.count.ensures.value in let no_more = c.if-index-count.false in omega (arith, n, no_more) in
    now_other c.args.log.now (c.args.ask, c.args.answer) c.args.index c.args.same
    (λ e. let none = slice_get_past c.args.log.now c.args.index past in absurd (cc (none, e))) c.if-not-same.false
