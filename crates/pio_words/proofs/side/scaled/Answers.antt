use Rattle.std.proofs.Common.{arith, ◌<◌}
use Rattle.pio_words.proofs.Scaled.{scaled_bounds}
use Rattle.pio_words.proofs.side.scaled.Goals as goal
use Rattle.std.proofs.Common.{◌^◌, ◌*◌, ◌+◌}

bounds : (c : goal.After-power_of_two) → (c.args.value * c.power_of_two.result + c.args.delay < 32) × (c.args.value * c.power_of_two.result + c.args.delay < 2 ^ c.args.width)
bounds c =
    let less : c.args.delay < c.power_of_two.result = omega (arith, c.requires.delay_small, c.power_of_two.ensures.value) in
    scaled_bounds c.args.width c.args.count c.args.value c.args.delay c.power_of_two.result c.requires.width_small c.requires.count_small c.requires.value_small less c.power_of_two.ensures.value

pub overflow_mul-result : goal.overflow_mul-result
overflow_mul-result c = omega (arith, (bounds c).0)

pub overflow_add-result : goal.overflow_add-result
overflow_add-result c = omega (arith, (bounds c).0)

pub returns-clause-small : goal.returns-clause-small
returns-clause-small c = (bounds c).1
