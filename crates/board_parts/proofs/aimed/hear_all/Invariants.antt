use Rattle.std.proofs.Common.{◌≡◌, ◌∷◌, ◌++◌, [], map, take, drop}
use Rattle.board_parts.specs.Hearing.{aim_of, after_hearing, seen}
use Rattle.board_parts.proofs.aimed.hear_all.Given as goal

abbrev pub invariant-loop-probe : goal.invariant-loop-probe
invariant-loop-probe g l =
    seen l.probes (λ a. aim_of a.index a.pin (goal.Probe-dyn g (a.probe.vtable, a.probe.value)) a.probe.value)
    ≡ map (after_hearing (l.change ∷ []))
    (take l.probe-index (seen l.initial.probes (λ a. aim_of a.index a.pin (goal.Probe-dyn g (a.probe.vtable, a.probe.value)) a.probe.value)))
    ++ drop l.probe-index (seen l.initial.probes (λ a. aim_of a.index a.pin (goal.Probe-dyn g (a.probe.vtable, a.probe.value)) a.probe.value))
