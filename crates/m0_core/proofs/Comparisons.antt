-- The comparisons of the parts of a core are true exactly where both are one.
use Rattle.std.proofs.Common.{refl}
use Rattle.rp_base.proofs.Exact.{IsExact, numbers, flags, lists, pairs, parts, none, one, two, three, enums}
use Rattle.rp_base.specs.contracts.op.OpPartialEq.TheImpl as op
use Rattle.m0_beats.specs.contracts.registers.RegsPartialEq.TheImpl as regs
use Rattle.m0_core.specs.contracts.doing.WorkPartialEq.TheImpl as work
use Rattle.rp_base.specs.contracts.op.Op as the_op
use Rattle.m0_core.specs.contracts.doing.Work as the_work

-- the fields of an operation, in pairs from the right
infixr 5 ◌&◌
◌&◌ : {A B : Type 0} → A → B → A × B
x & y = (x, y)

pub exact_op : IsExact op.eq-value.it
exact_op =
    let n1 = one numbers in
    let n2 = two numbers numbers in
    let n3 = three numbers numbers numbers in
    enums the_op.enum _
    (n3 & n3 & n3 & n3 & n3 & n3 & n3 & n2 & n2 & n2 & n2 & n2 & n2 & n2 & n2 & n2 & n2 & n2 & n2 & n2 & n2 & n2 & n2 &
    n2 & n2 & n2 & n2 & n2 & n2 & n2 & n1 & n1 & n2 & n3 & n3 & n3 & n3 & n3 & n3 & n3 & n3 & n3 & n3 & n3 & n3 & n3 &
    n3 & n2 & n2 & n2 & n2 & n1 & n1 & n2 & n2 & n2 & n2 & two flags numbers & two flags numbers & none & none & n2 &
    n2 & n2 & n1 & none & none & none & none & none & n2 & n2 & n2 & n1 & n1 & n1 & three flags numbers numbers & n2 &
    n2 & none & none & none & none & tt)

pub exact_work : IsExact work.eq-value.it
exact_work = enums the_work.enum _ (one exact_op, (one numbers, (one numbers, tt)))

pub exact_regs : IsExact regs.eq-value.it
exact_regs = parts (λ t. (t.r, (t.msp, (t.psp, (t.lr, (t.pc, (t.n, (t.z, (t.c, (t.v, (t.t, (t.ipsr, (t.primask, t.spsel)))))))))))))
    (λ p. record { r = p.0; msp = p.1.0; psp = p.1.1.0; lr = p.1.1.1.0; pc = p.1.1.1.1.0; n = p.1.1.1.1.1.0; z = p.1.1.1.1.1.1.0; c = p.1.1.1.1.1.1.1.0; v = p.1.1.1.1.1.1.1.1.0; t = p.1.1.1.1.1.1.1.1.1.0; ipsr = p.1.1.1.1.1.1.1.1.1.1.0; primask = p.1.1.1.1.1.1.1.1.1.1.1.0; spsel = p.1.1.1.1.1.1.1.1.1.1.1.1 }) (λ _. refl)
    (pairs (lists numbers) (pairs numbers (pairs numbers (pairs numbers (pairs numbers (pairs flags (pairs flags (pairs flags (pairs flags (pairs flags (pairs numbers (pairs flags flags))))))))))))
