use Rattle.reverse_debug.proofs.NextLines.{read_first, read_more, passed_more}
use Rattle.reverse_debug.proofs.reader.LineReader.next.Goals as goal

pub returns-then-pass : goal.returns-then-pass
returns-then-pass g c = read_first c.args.limit c.args.self.now c.pass.new.self _ _ c.clear.new.self.items c.pass.new.line.items c.pass.result c.if-pass.true c.clear.ensures c.requires.within c.pass.ensures.taken c.pass.ensures.passes

pub returns-then-pass-2 : goal.returns-then-pass-2
returns-then-pass-2 g c =
    read_more c.args.limit c.args.self.now c.pieces.self c.fill.new.self c.pass-in-Took.new.self _ _ _ _ _ _ _ c.pass-in-Took.new.line.items _ c.pass-in-Took.result c.if-pass-2.true c.pieces.invariant c.in-Took.ensures c.pass-in-Took.ensures.taken c.pass-in-Took.ensures.passes

pub pieces-preserved : goal.pieces-preserved
pieces-preserved g c =
    passed_more c.args.limit c.args.self.now c.pieces.self c.fill.new.self c.pass-in-Took.new.self _ _ _ _ _ _ _ c.pass-in-Took.new.line.items _ c.pass-in-Took.result c.if-pass-2.false c.pieces.invariant c.in-Took.ensures c.pass-in-Took.ensures.taken c.pass-in-Took.ensures.passes
