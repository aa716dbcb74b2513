use Rattle.std.proofs.Common.{◌≤◌, vec_len}
use Rattle.pico_main.proofs.file_shelf.read_within.Given as goal

abbrev pub invariant-loop : goal.invariant-loop
invariant-loop g l = vec_len l.into ≤ l.limit
