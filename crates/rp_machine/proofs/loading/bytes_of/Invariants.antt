use Rattle.std.proofs.Common.{◌≡◌, vec_len}
use Rattle.rp_machine.proofs.Placing.{Placed}
use Rattle.rp_machine.proofs.loading.bytes_of.Given as goal

abbrev pub invariant-loop-part : goal.invariant-loop-part
invariant-loop-part l = (vec_len l.bytes ≡ 270336) × Placed l.bytes.items l.parts l.part-index
