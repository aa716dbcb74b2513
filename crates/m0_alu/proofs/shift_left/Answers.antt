use Rattle.std.proofs.Common.{arith}
use Rattle.m0_alu.proofs.ShiftLemmas.{left_near, left_far}
use Rattle.m0_alu.proofs.shift_left.Goals as goal

pub returns-then-amount-lt32 : goal.returns-then-amount-lt32
returns-then-amount-lt32 c = left_near c.args.x c.args.amount c.if-amount-lt32.true

pub returns-else-amount-eq32 : goal.returns-else-amount-eq32
returns-else-amount-eq32 c = left_far c.args.x c.args.amount (omega arith)
