use Rattle.std.proofs.Common.{◌≡◌, ◌≤◌, length, vec_capacity}
use Rattle.snap_ring.proofs.Storing.{Stores}
use Rattle.snap_ring.proofs.pages.store.Given as goal

abbrev pub invariant-loop-page : goal.invariant-loop-page
invariant-loop-page l = record {
  stores : Stores l.page l.in_force l.fn.pages.items l.pages.items l.ram l.numbers;
  long : length l.numbers ≡ 264;
  room : vec_capacity l.fn.pages ≤ vec_capacity l.pages;
}
