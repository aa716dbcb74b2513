use Rattle.std.proofs.Common.{◌≡◌}
use Rattle.std.specs.Prelude.{slice_get}
use Rattle.m0_beats.specs.Beats.{registers_of}
use Rattle.m0_beats.proofs.Lists.{rest_of}
use Rattle.m0_beats.proofs.one_beat.register_at.Given as goal

abbrev pub invariant-loop-k : goal.invariant-loop-k
invariant-loop-k l = slice_get (registers_of l.list) l.index ≡ slice_get (rest_of l.list l.k) l.left
