use Rattle.std.proofs.Common.{arith, ◌∙◌, length, ◌≤◌, ◌+◌, length-drop}
use Rattle.std.proofs.lemmas.List.{take_rest}
use Rattle.rp_ports.proofs.Pieces.{appends_on}
use Rattle.trace_text.proofs.writer.Writer.line.Goals as goal

pub loop-done-preserved : goal.loop-done-preserved
loop-done-preserved g c =
    let took = rw (take_rest c.args.bytes.now c.loop-done.done) at c.in-Took.ensures in
    let room : c.loop-done.done + c.in-Took.n ≤ length c.args.bytes.now = omega (arith, took.content.0, length-drop c.loop-done.done c.args.bytes.now, c.loop-done.invariant.0.within) in (
      record {
        within = room;
        appended = appends_on _ _ _ _ _ _ c.loop-done.invariant.0.appended took.content.2;
        steady = took.count ∙ c.loop-done.invariant.0.steady;
      },
      c.loop-done.invariant.1,
    )
