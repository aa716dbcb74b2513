use Rattle.board_parts.specs.Parts.{placed_at}
use Rattle.board_parts.proofs.Quiet.{one_after}
use Rattle.board_parts.proofs.Viewing.{viewed_alone}
use Rattle.board_parts.proofs.parts.RowDevice.pass.Goals as goal

pub returns-in-len1 : goal.returns-in-len1
returns-in-len1 g c =
    let view = λ (p : g.row.P.Denot). placed_at (g.P.Part.attached p) (g.P.Part.meaning p) in
    let whole = rw c.as_slice.ensures.value at (viewed_alone view _ c.only-item.result c.in-len1.len_at_least c.in-len1.len_below c.only-item.is) in
    one_after (view c.only-item.result) _ c.args.state.now _ c.args.pads c.args.first c.args.n whole c.requires.words c.pass.ensures.state c.pass.ensures.words
