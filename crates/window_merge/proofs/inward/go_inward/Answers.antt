use Rattle.window_merge.proofs.Shared.{GoneOver, List, Mark, Start, ap, arith, same_marks, setting, subst, sym, ◌++◌, ◌∙◌}
use Rattle.quiet_run.proofs.GoneOn.{number_fits, may_bring_up, brought_up}
use Rattle.window_merge.proofs.Passing.{gone_none}
use Rattle.window_merge.proofs.InwardCycles.{is_onward, goes_as_alone, notes_onward, marked_onward, mark_with}
use Rattle.window_merge.proofs.inward.go_inward.Goals as goal

pub returns-in_default-clause-gone : goal.returns-in_default-clause-gone
returns-in_default-clause-gone g c = gone_none _ _ _ _ _

pub returns-then-room-eq0-clause-gone : goal.returns-then-room-eq0-clause-gone
returns-then-room-eq0-clause-gone g c = gone_none _ _ _ _ _

pub bring_up-requires-clause-number : goal.bring_up-requires-clause-number
bring_up-requires-clause-number g c κs within =
    number_fits (setting g.X.Device.meaning c.args.world.now) c.args.machine.now c.in-Some.seen c.in-Some.room c.note_onward-done.result c.args.world.now.limit _ c.in-Some.ensures.0 c.note_onward-done.ensures.most c.in-Some.ensures.0.limit c.fact_limit_is_bounded.ensures

pub bring_up-requires-clause-quiet : goal.bring_up-requires-clause-quiet
bring_up-requires-clause-quiet g c κs within =
    may_bring_up (setting g.X.Device.meaning c.args.world.now) c.args.machine.now c.note_onward-done.new.machine c.in-Some.seen c.in-Some.room c.note_onward-done.result c.in-Some.ensures.0 c.note_onward-done.ensures.most c.note_onward-done.ensures.state

pub returns-clause-gone : goal.returns-clause-gone
returns-clause-gone g c =
    let w = setting g.X.Device.meaning c.args.world.now in
    let s = c.args.machine.now in
    let d = c.note_onward-done in
    let e = d.ensures in
    let alone = c.in-Some.ensures.0 in
    let same = c.is_same.ensures in
    let is = c.if-not-is_same.false in
    let on = is_onward w c.args.notes.now s c.in-Some.seen c.in-Some.room d.result (same.sees is) alone e.most e.inward
    e.keeps in
    let up = brought_up w s d.new.machine c.bring_up.new.machine c.in-Some.seen c.in-Some.room d.result alone e.most e.inward
    e.state
    c.bring_up.ensures in
    subst (λ (start : Start). GoneOver w start s c.args.notes.now c.args.marks.now d.result c.bring_up.new.machine d.new.notes
    c.mark_each.new.marks) (sym (same.start is))
    (record {
      state = up;
      goes = goes_as_alone w c.args.notes.now s d.result on;
      noted = e.notes ∙ sym (notes_onward w c.args.notes.now s d.result d.result on (omega arith));
      marked = marked_onward w c.args.notes.now s c.bring_up.new.machine d.result c.pads.result c.args.marks.now
          c.mark_each.new.marks on up
          c.pads.ensures (c.mark_each.ensures ∙ ap (λ (ms : List Mark). ms ++ same_marks d.result (mark_with c.pads.result))
          e.marks);
    })
