-- What paces a channel, as the code has it, in the words of the table.
use Rattle.dma_engine.specs.declared.pace.Pace.{Pace as Written}
use Rattle.dma_engine.specs.declared.pace.Pace.TheVariants as written
use Rattle.dma_engine.specs.Requests.{Pace}
use Rattle.dma_engine.specs.Requests.Pace.{Sender, Receiver, Timer, Always, Never}

abbrev pub meant : Written → Pace
meant (written.Sender index) = Sender index
meant (written.Receiver index) = Receiver index
meant (written.Timer number) = Timer number
meant written.Always = Always
meant written.Never = Never
