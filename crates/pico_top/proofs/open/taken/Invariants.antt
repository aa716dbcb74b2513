use Rattle.pico_top.proofs.Shared.{◌≡◌, drop, taken_by}
use Rattle.pico_top.proofs.open.taken.Given as goal

-- the loads that are left take the rest of the addresses
abbrev pub invariant-loop-load : goal.invariant-loop-load
invariant-loop-load l = taken_by l.used l.block (drop l.load-index l.loads) ≡ taken_by 0 l.block l.loads
