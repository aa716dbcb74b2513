use Rattle.std.proofs.Common.{ℕ, ap}
use Rattle.m0_alu.proofs.ShiftLemmas.{top_bit}
use Rattle.rp_base.specs.Word.{has_bit}
use Rattle.m0_alu.proofs.rotate_right.Goals as goal

pub returns : goal.returns
returns c =
    rw (top_bit c.rotate-word.result c.rotate-word.type_inv)
    (ap (λ (n : ℕ). (n, has_bit n 31)) c.rotate-word.ensures)
