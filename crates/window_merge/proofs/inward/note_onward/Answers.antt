use Rattle.window_merge.proofs.Shared.{arith, has_gone_none, has_gone_on, refl, ◌*◌, ◌+◌, ◌-◌}
use Rattle.window_merge.proofs.InwardCycles.{keeps_none, keeps_on, noted_none, noted_on, room_fewer, room_noted}
use Rattle.window_merge.proofs.inward.note_onward.Goals as goal

pub loop-done-init : goal.loop-done-init
loop-done-init g c = search (arith, has_gone_none, keeps_none, noted_none, room_fewer)

pub loop-done-preserved : goal.loop-done-preserved
loop-done-preserved g c =
    let i = c.loop-done.invariant in
    let on = c.if-keep_onward.true in
    let below = c.loop-done-test.true in
    record {
      gone = has_gone_on _ _ _ _ _ _ _ _ _ _ _ _ _ i.gone c.loop-done-test.true (c.keep_onward.ensures.inward on) (c.keep_onward.ensures.done on) refl c.tick.ensures c.keep_onward.ensures.marks;
      keeps = keeps_on c.args.machine.now c.loop-done.machine c.loop-done.done i.keeps i.gone.state (c.keep_onward.ensures.keeps on);
      notes = noted_on c.args.notes.now c.args.machine.now c.loop-done.machine c.loop-done.done c.loop-done.notes c.keep_onward.new.notes i.notes i.gone.state (c.keep_onward.ensures.notes on);
      room = room_noted _ c.loop-done.machine.sram c.loop-done.notes c.keep_onward.new.notes (3 * (c.args.most - c.loop-done.done)) (3 * (c.args.most - (c.loop-done.done + 1))) i.room (omega (arith, below)) (c.keep_onward.ensures.notes on);
    }
