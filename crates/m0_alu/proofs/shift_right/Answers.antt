use Rattle.std.proofs.Common.{arith}
use Rattle.m0_alu.proofs.ShiftLemmas.{right_far}
use Rattle.m0_alu.proofs.shift_right.Goals as goal

pub returns-else-amount-eq32 : goal.returns-else-amount-eq32
returns-else-amount-eq32 c = right_far c.args.x c.args.amount (omega arith) (omega arith)
