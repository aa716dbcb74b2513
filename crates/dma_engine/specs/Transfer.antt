-- One transfer: its addresses and its data (RP2040 Datasheet, 2.5.1, 2.5.1.1 and 2.5.7, CH0_CTRL_TRIG).
use Rattle.std.specs.Prelude.{ℕ, ◌+◌, ◌*◌, ◌/◌, ◌%◌, ◌^◌, Bool, ◌==◌, if◌then◌else◌, Some, None}
use Rattle.rp_base.specs.declared.Size.{Size}
use Rattle.rp_base.specs.declared.Size.TheVariants as sizes
use Rattle.rp_base.specs.declared.Request.{Request}
use Rattle.rp_base.specs.Access.{lanes_of}
use Rattle.m0_alu.specs.Extend.{extended}
use Rattle.m0_alu.specs.declared.ExtendKind.TheVariants.{Rev, Rev16}
use Rattle.dma_engine.specs.declared.channel.Channel.{Channel}
use Rattle.dma_engine.specs.declared.waiting.WaitingWrite.{WaitingWrite}
use Rattle.dma_engine.specs.Control.{size_of, increments_read, increments_write, ring_of, rings_write, swaps}

-- ---- addresses

abbrev pub bytes_of : Size → ℕ
bytes_of sizes.Byte = 1
bytes_of sizes.Half = 2
bytes_of sizes.Word = 4

-- an access is made at the address rounded down to its size
abbrev pub rounded : Size → ℕ → ℕ
rounded size address = address / bytes_of size * bytes_of size

-- the next address; in a ring of n bits the bits above stay
abbrev pub advanced : ℕ → ℕ → ℕ → ℕ
advanced n bytes address =
    if n == 0 then (address + bytes) % 2 ^ 32 else address / 2 ^ n * 2 ^ n + (address % 2 ^ n + bytes) % 2 ^ n

-- the ring is that of one of the two addresses
abbrev pub ring_of_read : Channel → ℕ
ring_of_read c = if rings_write c then 0 else ring_of c

abbrev pub ring_of_write : Channel → ℕ
ring_of_write c = if rings_write c then ring_of c else 0

abbrev pub next_read : Channel → ℕ
next_read c = if increments_read c then advanced (ring_of_read c) (bytes_of (size_of c)) c.read else c.read

abbrev pub next_write : Channel → ℕ
next_write c = if increments_write c then advanced (ring_of_write c) (bytes_of (size_of c)) c.write else c.write

unfoldable pub moved : Channel → Channel
moved c = record c { read = next_read c; write = next_write c }

-- ---- data

-- its bytes in reverse order
abbrev pub swapped : Size → ℕ → ℕ
swapped sizes.Byte value = value
swapped sizes.Half value = extended Rev16 value
swapped sizes.Word value = extended Rev value

abbrev pub data_by : Bool → Size → ℕ → ℕ
data_by swap size value = if swap then swapped size value else value

-- the data of a read of that word
unfoldable pub data_of : Channel → ℕ → ℕ
data_of c word = data_by (swaps c) (size_of c) (lanes_of (size_of c) c.read word)

-- ---- requests

-- the next read of a channel
unfoldable pub read_of : Channel → Request
read_of c = record { address = rounded (size_of c) c.read; size = size_of c; write = None }

-- the write of what was read
unfoldable pub write_after : ℕ → Channel → ℕ → WaitingWrite
write_after n c word =
    record { channel = n; address = rounded (size_of c) c.write; size = size_of c; value = data_of c word }

unfoldable pub request_of : WaitingWrite → Request
request_of w = record { address = w.address; size = w.size; write = Some w.value }
