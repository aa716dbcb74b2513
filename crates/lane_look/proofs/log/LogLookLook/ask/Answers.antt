use Rattle.lane_look.proofs.Entries.{popped}
use Rattle.lane_look.proofs.log.LogLookLook.ask.Goals as goal

pub returns-then-self-count : goal.returns-then-self-count
returns-then-self-count c = popped c.self.inside.log.now c.args.self.now c.self.inside.index c.entry-answer.result c.self.view_is c.entry-answer.ensures
