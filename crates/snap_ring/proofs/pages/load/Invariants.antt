use Rattle.std.proofs.Common.{◌≡◌, ◌<◌, ◌*◌, ◌++◌, length, take, drop}
use Rattle.snap_ring.specs.Snapshot.{sram_of}
use Rattle.snap_ring.proofs.pages.load.Given as goal

abbrev pub invariant-loop-page : goal.invariant-loop-page
invariant-loop-page l = record {
  ram : l.ram ≡ take (l.page * 256) (sram_of l.pages l.numbers) ++ drop (l.page * 256) l.fn.ram;
  long : 0 < l.page → length l.ram ≡ 67584;
}
