use Rattle.std.proofs.Common.{arith}
use Rattle.dma_engine.proofs.Lasting.{none_all}
use Rattle.dma_engine.proofs.quiet.all_passed.Goals as goal

pub passed_by-requires : goal.passed_by-requires
passed_by-requires c = none_all c.args.timers.now c.args.n 0 _ c.requires (omega (arith, c.told-timers))

pub passed_by-requires-2 : goal.passed_by-requires-2
passed_by-requires-2 c = none_all c.args.timers.now c.args.n 1 _ c.requires (omega (arith, c.told-timers))

pub passed_by-requires-3 : goal.passed_by-requires-3
passed_by-requires-3 c = none_all c.args.timers.now c.args.n 2 _ c.requires (omega (arith, c.told-timers))

pub passed_by-requires-4 : goal.passed_by-requires-4
passed_by-requires-4 c = none_all c.args.timers.now c.args.n 3 _ c.requires (omega (arith, c.told-timers))
