use Rattle.board_parts.specs.Parts.{placed_at}
use Rattle.board_parts.proofs.Quiet.{one_quiet}
use Rattle.board_parts.proofs.Viewing.{viewed_alone}
use Rattle.board_parts.proofs.parts.RowDevice.quiet.Goals as goal

pub returns-in-len1 : goal.returns-in-len1
returns-in-len1 g c =
    let view = λ (p : g.row.P.Denot). placed_at (g.P.Part.attached p) (g.P.Part.meaning p) in
    let whole = rw c.as_slice.ensures.value at (viewed_alone view _ c.only-item.result c.in-len1.len_at_least c.in-len1.len_below c.only-item.is) in
    one_quiet (view c.only-item.result) _ c.args.state.now c.args.cycle c.args.pads _ whole c.requires c.quiet.ensures
