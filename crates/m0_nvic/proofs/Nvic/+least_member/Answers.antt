use Rattle.std.proofs.Common.{◌≡◌, ◌<◌, ◌∙◌, ℕ, ap, sym, arith}
use Rattle.m0_nvic.specs.Numbers.{minus}
use Rattle.m0_nvic.specs.Priority.{nearer, least_of}
use Rattle.m0_nvic.proofs.Least.{least_of-empty, least_of-high, least_of-lowest, others-less}
use Rattle.m0_nvic.proofs.Nvic.+least_member.Goals as goal

some : (set : ℕ) → (set ≡ 0 → ⊥) → 0 < set
some set h = grind arith

pub returns-then-set-eq0 : goal.returns-then-set-eq0
returns-then-set-eq0 t c = least_of-empty c.args.self.now ∙ ap (least_of c.args.self.now) (sym c.if-set-eq0.true)

pub returns-then-lowest-ge-NUMBERS : goal.returns-then-lowest-ge-NUMBERS
returns-then-lowest-ge-NUMBERS t c =
    least_of-high c.args.self.now c.args.set (some c.args.set c.if-set-eq0.false) (c.ranges.set.fits) (omega (arith, c.if-lowest-ge-NUMBERS.true))

pub least_member-others-requires : goal.least_member-others-requires
least_member-others-requires t c =
    let set = c.args.set in
    let less = others-less set (some set c.if-set-eq0.false) (c.ranges.set.fits) c.if-lowest-ge-NUMBERS.false in
    let falls : minus set c.bit.result < set = rw c.bit.ensures less in
    (omega (arith, c.decreases, falls), tt)

pub returns : goal.returns
returns t c =
    let s = c.args.self.now in
    let set = c.args.set in
    c.nearer.ensures
    ∙ ap (nearer s _) (c.least_member-others.ensures ∙ ap (λ b. least_of s (minus set b)) c.bit.ensures)
    ∙ least_of-lowest s set (some set c.if-set-eq0.false) (c.ranges.set.fits) c.if-lowest-ge-NUMBERS.false
