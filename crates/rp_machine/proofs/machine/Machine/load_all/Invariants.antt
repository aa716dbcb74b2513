use Rattle.rp_machine.proofs.Shared.{AreLoads, drop, with_loads, ◌≡◌}
use Rattle.rp_machine.proofs.machine.Machine.load_all.Given as goal

-- what is still to be loaded leads to the same machine
abbrev pub invariant-loop-load : goal.invariant-loop-load
invariant-loop-load l =
    (with_loads (drop l.load-index l.loads) l.self ≡ with_loads l.loads l.initial.self)
    × AreLoads (drop l.load-index l.loads)
