use Rattle.pico_top.proofs.Shared.{err_from_is_err_and, sent_on, sent_part}
use Rattle.pico_top.proofs.tell.send_text.Goals as goal

pub returns-in_err-put_line : goal.returns-in_err-put_line
returns-in_err-put_line g c =
    let p = err_from_is_err_and c.from_residual.result c.from_residual.ensures.1 in
    rw (p.1, p.2) (sent_part _ _ _ _ _ _ _ _ _ _ c.loop-done.invariant c.piece_end-end.ensures.after c.piece_end-end.ensures.within c.in_err-put_line.ensures)

pub loop-done-preserved : goal.loop-done-preserved
loop-done-preserved g c =
    let piece = c.in_ok-put_line.ensures in
    sent_on _ _ _ _ _ _ _ _ _ c.loop-done.invariant c.piece_end-end.ensures.after c.piece_end-end.ensures.within piece.ok piece.steady
