use Rattle.std.proofs.Common.{rules}
use Rattle.board_parts.specs.Parts.{placed_at}
use Rattle.board_parts.proofs.Quiet.{more_after}
use Rattle.board_parts.proofs.Viewing.{viewed}
use Rattle.board_parts.proofs.parts.+pass_all.Goals as goal

pub returns-in-len1-up : goal.returns-in-len1-up
returns-in-len1-up g t c =
    let view = λ (p : g.row.P.Denot). placed_at (g.P.Part.attached p) (g.P.Part.meaning p) in
    let whole = viewed view c.args.list.now c.part-item.result c.in-len1-up.len_at_least c.part-item.is in
    more_after _ _ _ c.args.state.now _ _ _ _ c.args.pads c.args.first c.args.n whole (search rules) (search rules) c.pass.ensures.state c.pass.ensures.words c.pass_all.ensures
