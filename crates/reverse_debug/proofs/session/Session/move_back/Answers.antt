use Rattle.std.proofs.Common.{◌<◌, arith}
use Rattle.reverse_debug.proofs.Moves.{moved_back_to, moved_to_start, text_written}
use Rattle.reverse_debug.proofs.session.Session.move_back.Goals as goal

pub returns-then-now-cycles : goal.returns-then-now-cycles
returns-then-now-cycles g c =
    let lt : c.args.self.now.now.cycle < c.args.cycles = omega (arith, c.cycle-now.ensures, c.if-now-cycles.true) in
    moved_to_start _ _ _ _ _ _ (c.jump.ensures _ c.requires.stands) lt (text_written _ _ _ c.requires.empty c.push_text.ensures)

pub returns-else-now-cycles : goal.returns-else-now-cycles
returns-else-now-cycles g c = moved_back_to _ _ _ _ _ _ _ _ c.requires.stands c.cycle-now.ensures c.if-now-cycles.false c.move_to.ensures
