use Rattle.std.proofs.Common.{ℕ, ◌+◌, ◌-◌, ◌/◌, ◌^◌, ap, ◌∙◌, arith}
use Rattle.std.specs.Prelude.{bit_and}
use Rattle.std.proofs.lemmas.Nat.{one_shl, and_mask}
use Rattle.thumb_rows.proofs.short.bits.Goals as goal

pub returns : goal.returns
returns c =
    let width : ℕ = c.args.high + 1 - c.args.low in
    let shifted : ℕ = c.args.halfword / 2 ^ c.args.low in
    ap (λ x. bit_and shifted (x - 1)) (one_shl width 16 (omega arith)) ∙ and_mask shifted width
