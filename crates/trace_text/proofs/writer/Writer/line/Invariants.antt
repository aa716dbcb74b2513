use Rattle.std.proofs.Common.{◌≡◌, length, ◌-◌}
use Rattle.trace_text.proofs.Sending.{SentTo}
use Rattle.trace_text.proofs.writer.Writer.line.Given as goal

abbrev pub invariant-loop-done : goal.invariant-loop-done
invariant-loop-done g l =
    SentTo (g.O.Sink.written l.initial.self.out.now) (g.O.Sink.written l.self.out.now) (g.O.Sink.faults l.initial.self.out.now) (g.O.Sink.faults l.self.out.now) l.bytes l.done
    × (l.self.out.ghost_name ≡ l.initial.self.out.ghost_name)

abbrev pub decreases-loop-done : goal.decreases-loop-done
decreases-loop-done g l = length l.bytes - l.done
