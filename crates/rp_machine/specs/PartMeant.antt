-- The part of the machine that a block stands in, as the code has it.
use Rattle.rp_machine.specs.declared.part.Part.{Part as Written}
use Rattle.rp_machine.specs.declared.part.Part.TheVariants as written
use Rattle.rp_machine.specs.Registers.{Part}
use Rattle.rp_machine.specs.Registers.Part.{Resets, Fabric, Dma, Pio0, Pio1, Outer}

abbrev pub meant : Written → Part
meant written.Resets = Resets
meant written.Fabric = Fabric
meant written.Dma = Dma
meant written.Pio0 = Pio0
meant written.Pio1 = Pio1
meant (written.Outer block) = Outer block
