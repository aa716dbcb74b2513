-- A read of the DMA engine writes nothing.
use Rattle.std.proofs.Common.{◌≡◌, ℕ, Bool, if◌then◌else◌, Option, Some, None, arith}
use Rattle.window_merge.proofs.Shared.{Ask, BegunTransfer, DmaRead, Request, Spot, answered, write_of}
use Rattle.dma_engine.specs.State.{State as Engine}
use Rattle.dma_engine.specs.Transfer.{read_of}
use Rattle.dma_engine.specs.declared.channel.Channel.{Channel}
use Rattle.dma_engine.specs.declared.begun.Access.{Access}
use Rattle.dma_engine.specs.Asks as dma_asks
use Rattle.dma_engine.specs.Cycle as dma
use Rattle.rp_machine.specs.declared.deed.Deed.TheVariants as deed

abbrev Writes : Access → Type 0
Writes a = write_of (dma.want_of a) ≡ deed.Nothing

record WritesNothing (b : BegunTransfer) : Type 0 where
  met : Writes b.read

elsewhere_nothing : (request : Request) (spot : Spot) → Writes (dma_asks.elsewhere DmaRead request spot)
elsewhere_nothing request spot = grind arith

-- a request that is a read
abbrev IsRead : Option Request → Type 0
IsRead None = Unit {0}
IsRead (Some request) = request.write ≡ None

chosen_read : (c : Bool) (channel : Channel) → IsRead (if c then Some (read_of channel) else None)
unfolding read_of
chosen_read c channel = grind arith

read_nothing : (f : Ask → ℕ) (counts : ℕ) (s : Engine) → WritesNothing (answered f (dma_asks.asks_read counts s))
unfolding dma_asks.asks_read dma_asks.next_request
read_nothing f counts s = search (arith, elsewhere_nothing, chosen_read)

pub read_only : (f : Ask → ℕ) (s : Engine) → write_of (dma.want_of (answered f (dma_asks.asks s)).read) ≡ deed.Nothing
unfolding dma_asks.asks
read_only f s = search (arith, read_nothing)
