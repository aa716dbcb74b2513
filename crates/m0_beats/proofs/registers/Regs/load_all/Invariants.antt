use Rattle.std.proofs.Common.{◌≡◌, ◌≤◌}
use Rattle.m0_beats.specs.Beats.{registers_of}
use Rattle.m0_beats.specs.Effects.{with_all_loaded}
use Rattle.m0_beats.proofs.Lists.{rest_of}
use Rattle.m0_beats.proofs.registers.Regs.load_all.Given as goal

abbrev pub invariant-loop-k : goal.invariant-loop-k
invariant-loop-k l = record {
  room : l.index ≤ l.k;
  same : with_all_loaded l.initial.self (registers_of l.list) l.read 0 ≡ with_all_loaded l.self (rest_of l.list l.k) l.read l.index;
}
