use Rattle.std.proofs.Common.{◌≡◌, ◌≤◌, ◌+◌, ◌++◌, length}
use Rattle.std.specs.Prelude.{map}
use Rattle.m0_beats.specs.Beats.{registers_of, accesses}
use Rattle.m0_beats.proofs.Lists.{rest_of, no_write}
use Rattle.m0_beats.proofs.timing.push_reads.Given as goal

abbrev pub invariant-loop-k : goal.invariant-loop-k
invariant-loop-k l = record {
  room : length l.out.items ≤ l.k + 1;
  same : l.initial.out.items ++ accesses l.from (map no_write (registers_of l.list)) ≡ l.out.items ++ accesses l.address (map no_write (rest_of l.list l.k));
}
