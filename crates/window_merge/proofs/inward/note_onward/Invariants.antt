use Rattle.window_merge.proofs.Shared.{HasGone, HasRoom, KeepsInward, noted_inward, ◌*◌, ◌-◌, ◌≡◌}
use Rattle.window_merge.proofs.inward.note_onward.Given as goal

abbrev pub invariant-loop-done : goal.invariant-loop-done
invariant-loop-done g l = record {
  gone : HasGone l.fn.machine l.machine l.fn.most l.done l.lines l.fn.steps l.steps l.fn.marks l.marks;
  keeps : KeepsInward l.fn.machine l.done;
  notes : l.notes ≡ noted_inward l.fn.notes l.done l.fn.machine;
  room : HasRoom l.notes (3 * (l.fn.most - l.done));
}

abbrev pub decreases-loop-done : goal.decreases-loop-done
decreases-loop-done g l = l.fn.most - l.done
