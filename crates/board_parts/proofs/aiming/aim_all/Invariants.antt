use Rattle.std.proofs.Common.{◌≡◌, ◌+◌, ◌++◌, length, map}
use Rattle.std.specs.Vec.Iter.{into_iter_items, into_iter_len}
use Rattle.board_parts.specs.Aiming.{aims_from}
use Rattle.board_parts.specs.Hearing.{aim_of, seen}
use Rattle.board_parts.proofs.aiming.aim_all.Given as goal

-- the probes that were aimed, and those that are left from an index on, are all
abbrev pub invariant-loop-probe : goal.invariant-loop-probe
invariant-loop-probe g l =
    (seen l.aimed.items (λ a. aim_of a.index a.pin (goal.Probe-dyn g (a.probe.vtable, a.probe.value)) a.probe.value)
    ++ aims_from l.index (map (λ p. (goal.Probe-dyn g (p.vtable, p.value)).meaning p.value) (into_iter_items l.probe-iterator)) l.targets
    ≡ aims_from 0 (map (λ p. (goal.Probe-dyn g (p.vtable, p.value)).meaning p.value) (into_iter_items l.initial.probe-iterator)) l.targets)
    × (into_iter_len l.probe-iterator ≡ length (into_iter_items l.probe-iterator))
    × (l.index + length (into_iter_items l.probe-iterator) ≡ length (into_iter_items l.initial.probe-iterator))
