use Rattle.reverse_debug.proofs.Shared.{StandsFor, Taking, behind, first_of, setting_of, talk_of, ◌≡◌}
use Rattle.reverse_debug.proofs.hear.hear.Given as goal

-- the lines so far were answered, and the talk goes on
abbrev pub invariant-lines : goal.invariant-lines
invariant-lines g l =
    StandsFor (setting_of l.world.script.now (g.X.Device.meaning l.world.device.now) l.world.limit) l.session × (first_of l.session ≡ first_of l.initial.session) × (l.writer.out.ghost_name ≡ l.initial.writer.out.ghost_name)
    × Taking (talk_of (setting_of l.world.script.now (g.X.Device.meaning l.world.device.now) l.world.limit) (first_of l.initial.session)) l.initial.session.now.cycle l.limit (g.I.Source.left l.initial.input) (g.I.Source.left l.input) (g.I.Source.faults l.initial.input) (g.I.Source.faults l.input)
    (g.O.Sink.written l.initial.writer.out.now) (g.O.Sink.written l.writer.out.now) (g.O.Sink.faults l.initial.writer.out.now) (g.O.Sink.faults l.writer.out.now) l.initial.steps l.steps l.session.now.cycle l.reader

abbrev pub decreases-lines : goal.decreases-lines
decreases-lines g l = behind l.limit l.reader
