use Rattle.rp_machine.proofs.Shared.{Resettable, ap, refl}
use Rattle.dma_engine.specs.State.{State as Engine}
use Rattle.pio_block.specs.State.{State as Block}
use Rattle.rp_machine.proofs.Agreeing.{bits_agree, outer_agrees}
use Rattle.rp_machine.proofs.machine.Machine.access_part.Goals as goal

pub invariant_of-self-in-Dma : goal.invariant_of-self-in-Dma
invariant_of-self-in-Dma c = bits_agree (ap (λ (r : Resettable Engine). r.held) c.access-in-Dma.ensures) refl refl c.self-in-Dma.invariant

pub invariant_of-self-in-Pio0 : goal.invariant_of-self-in-Pio0
invariant_of-self-in-Pio0 c = bits_agree refl (ap (λ (r : Resettable Block). r.held) c.access-in-Pio0.ensures) refl c.self-in-Pio0.invariant

pub invariant_of-self-in-Pio1 : goal.invariant_of-self-in-Pio1
invariant_of-self-in-Pio1 c = bits_agree refl refl (ap (λ (r : Resettable Block). r.held) c.access-in-Pio1.ensures) c.self-in-Pio1.invariant

pub invariant_of-self-in-Outer : goal.invariant_of-self-in-Outer
invariant_of-self-in-Outer c = outer_agrees c.in-Outer.block c.args.offset c.args.write c.effect.ensures c.self-in-Outer.invariant
