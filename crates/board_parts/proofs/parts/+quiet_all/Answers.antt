use Rattle.std.proofs.Common.{arith, rules}
use Rattle.board_parts.specs.Parts.{placed_at}
use Rattle.board_parts.proofs.Quiet.{more_quiet}
use Rattle.board_parts.proofs.Viewing.{viewed}
use Rattle.board_parts.proofs.parts.+quiet_all.Goals as goal

pub returns-in-len1-up : goal.returns-in-len1-up
returns-in-len1-up g t c =
    let view = λ (p : g.row.P.Denot). placed_at (g.P.Part.attached p) (g.P.Part.meaning p) in
    let whole = viewed view c.args.list.now c.first-item.result c.in-len1-up.len_at_least c.first-item.is in
    let least = c.min.ensures in
    more_quiet _ _ _ c.args.state.now _ _ c.args.cycle c.args.pads _ _ _ whole (search rules) (search rules) c.quiet-quiet.ensures c.quiet_all.ensures (omega arith) (omega arith)
