use Rattle.outer_lane.specs.Setting.{setting_of}
use Rattle.reverse_debug.specs.Session.{StandsFor}
use Rattle.run_tests.proofs.reverse_debug_tests.end_of.Given as goal

abbrev pub invariant-rows : goal.invariant-rows
invariant-rows g l = StandsFor (setting_of l.world.script.now (g.X.Device.meaning l.world.device.now) l.world.limit) l.session
