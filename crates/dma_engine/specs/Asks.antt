-- What the engine asks in a cycle, and what it has begun then: the read of the chosen channel, and the write that has waited
-- longest (RP2040 Datasheet, 2.5.1.1; the engine's view of the address map: 2.1.1 and 2.2).
use Rattle.std.specs.Prelude.{ℕ, ◌/◌, ◌%◌, ◌^◌, Bool, ◌==◌, ◌&&◌, nat_lt, if◌then◌else◌, List, [], ◌∷◌, length, Option, Some, None}
use Rattle.std.specs.List.{list_any}
use Rattle.rp_base.specs.declared.Master.{Master}
use Rattle.rp_base.specs.declared.Master.TheVariants.{DmaRead, DmaWrite}
use Rattle.rp_base.specs.declared.Request.{Request}
use Rattle.rp_base.specs.declared.Why.TheVariants as why
use Rattle.rp_base.specs.declared.map.Spot.{Spot}
use Rattle.rp_base.specs.declared.map.Spot.TheVariants as spot
use Rattle.rp_base.specs.Map.{place_of}
use Rattle.lane_look.specs.declared.lane.Ask.TheVariants.{Pacing, Word}
use Rattle.lane_look.specs.Asking.{Asking}
use Rattle.lane_look.specs.Asking.Asking.{Ready, Question}
use Rattle.dma_engine.specs.declared.channel.Channel.{Channel}
use Rattle.dma_engine.specs.declared.waiting.WaitingWrite.{WaitingWrite}
use Rattle.dma_engine.specs.declared.begun.Access.{Access}
use Rattle.dma_engine.specs.declared.begun.Access.TheVariants as access
use Rattle.dma_engine.specs.declared.begun.BegunTransfer.{BegunTransfer}
use Rattle.dma_engine.specs.Control.{treq_of}
use Rattle.dma_engine.specs.Transfer.{read_of, request_of}
use Rattle.dma_engine.specs.State.{State, channel_at}

-- ---- accesses

-- an address of a block that belongs to no part of the chip may be that of a device outside
abbrev pub may_be_device : ℕ → Bool
may_be_device address = address / 2 ^ 28 == 4

abbrev pub outside : Master → Request → Access
outside master request = access.Stopped (why.Outside master request.address)

-- an access that is not to SRAM: the engine reaches registers and devices, but neither SIO nor a core's private bus
abbrev pub elsewhere : Master → Request → Spot → Access
elsewhere master request (spot.Reg block offset alias) = access.Outward request
elsewhere master request spot.Outside =
    if may_be_device request.address then access.Outward request else outside master request
elsewhere master request _ = outside master request

-- ---- the write

abbrev pub first_write : List WaitingWrite → Option Request
first_write [] = None
first_write (w ∷ ws) = Some (request_of w)

abbrev pub write_at : Request → Spot → Access
write_at request (spot.Ram index bank) = access.Write request
write_at request other = elsewhere DmaWrite request other

abbrev pub write_for : Option Request → Access
write_for None = access.Nothing
write_for (Some request) = write_at request (place_of request.address)

unfoldable pub write_begun : State → Access
write_begun s = write_for (first_write s.waiting)

-- ---- the read

abbrev pub read_for : Option ℕ → State → Option Request
read_for None s = None
read_for (Some n) s = if nat_lt n 12 then Some (read_of (channel_at n s)) else None

-- the chosen channel reads where fewer than two writes wait
unfoldable pub next_request : State → Option Request
next_request s = if nat_lt (length s.waiting) 2 then read_for s.chosen s else None

abbrev pub begun_with : ℕ → Access → Access → BegunTransfer
begun_with counts read write = record { read = read; write = write; counts = counts }

-- a read of SRAM asks for the word as it is at the start of the cycle
abbrev pub asks_at : ℕ → Access → Request → Spot → Asking BegunTransfer
asks_at counts write request (spot.Ram index bank) =
    Question (Word request.address) (λ word. Ready (begun_with counts (access.Read request (word % 2 ^ 32)) write))
asks_at counts write request other = Ready (begun_with counts (elsewhere DmaRead request other) write)

abbrev pub asks_for : ℕ → Access → Option Request → Asking BegunTransfer
asks_for counts write None = Ready (begun_with counts access.Nothing write)
asks_for counts write (Some request) = asks_at counts write request (place_of request.address)

unfoldable pub asks_read : ℕ → State → Asking BegunTransfer
asks_read counts s = asks_for counts (write_begun s) (next_request s)

-- ---- the cycle

-- a busy channel is paced neither by a timer nor by nothing, so it may be paced by a FIFO
abbrev pub waits_for_counts : Channel → Bool
waits_for_counts c = c.busy && nat_lt (treq_of c) 0x3B

abbrev pub idle_begun : BegunTransfer
idle_begun = begun_with 0 access.Nothing access.Nothing

unfoldable pub asks : State → Asking BegunTransfer
asks s =
    if list_any waits_for_counts s.channels
    then Question Pacing (λ counts. asks_read counts s)
    else asks_read 0 s
