use Rattle.std.proofs.Common.{◌≡◌, arith, take, refl}
use Rattle.pwm_block.specs.Packing.{slices_in}
use Rattle.pwm_block.proofs.Slices.{slices_front}
use Rattle.pwm_block.proofs.packing.renew.Goals as goal

pub returns : goal.returns
returns c =
    let front : slices_in 8 (take 64 c.args.state.now) ≡ slices_in 8 c.args.state.now = slices_front 8 64 c.args.state.now refl in
    grind (arith, front)
