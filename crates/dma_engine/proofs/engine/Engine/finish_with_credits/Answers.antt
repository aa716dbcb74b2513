use Rattle.dma_engine.proofs.Finishing.{finished}
use Rattle.dma_engine.proofs.engine.Engine.finish_with_credits.Goals as goal

pub returns : goal.returns
returns c =
    finished c.args.self.now c.transfer.new.self c.step_timers.new.self c.args.begun.now c.args.turns.now c.credited-credited.result
    c.credited-credited.ensures c.transfer.ensures.after c.step_timers.ensures
