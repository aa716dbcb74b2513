-- The address map of the RP2040 as one table of ranges (RP2040 Datasheet, 2.2 "Address Map" and 2.6.2 "SRAM"; the
-- register blocks of the APB and AHB-Lite buses with their atomic aliases: 2.1.2 "Atomic Register Access").
use Rattle.std.specs.Prelude.{ℕ, List, [], ◌∷◌, Option, Some, None, ◌+◌, ◌-◌, ◌*◌, ◌/◌, ◌%◌, ◌<◌, nat_le, ◌&&◌, if◌then◌else◌}
use Rattle.rp_base.specs.declared.map.Spot.{Spot}
use Rattle.rp_base.specs.declared.map.Spot.TheVariants.{Ram, Reg, Sio, Ppb, Outside}
use Rattle.rp_base.specs.declared.map.Block.{Block}
use Rattle.rp_base.specs.declared.map.Block.TheVariants.{Resets, IoBank0, PadsBank0, Busctrl, Uart0, Uart1, Timer, Dma, Pio0, Pio1}

-- a range of byte addresses, and the spot of the byte that stands so many bytes after its first one
pub record Range : Type 0 where
  pub first : ℕ
  pub last : ℕ
  pub at : ℕ → Spot

-- the striped view of SRAM: each next word is in the next of banks 0 to 3
abbrev pub striped : ℕ → Spot
striped distance = Ram (distance / 4) (distance / 4 % 4)

-- bank 4 and bank 5 of SRAM, of 1,024 words each, after the 65,536 words of the striped banks
abbrev pub small_bank : ℕ → ℕ → Spot
small_bank bank distance = Ram (0x10000 + 0x400 * (bank - 4) + distance / 4) bank

-- the flat view of SRAM: banks 0 to 3 one after another, each of 64 KiB
abbrev pub flat : ℕ → Spot
flat distance = let bank = distance / 0x10000 in Ram (4 * (distance % 0x10000 / 4) + bank) bank

-- a register block: four views of its 4 KiB, plain, XOR, set and clear
abbrev pub registers : Block → ℕ → Spot
registers block distance = Reg block (4 * (distance % 0x1000 / 4)) (distance / 0x1000)

abbrev pub sio : ℕ → Spot
sio distance = Sio (4 * (distance / 4))

abbrev pub private_bus : ℕ → Spot
private_bus distance = Ppb (4 * (distance / 4))

abbrev pub range : ℕ → ℕ → (ℕ → Spot) → Range
range first last at = record { first = first; last = last; at = at }

abbrev pub ranges : List Range
ranges =
    range 0x20000000 0x2003FFFF striped
    ∷ range 0x20040000 0x20040FFF (small_bank 4)
    ∷ range 0x20041000 0x20041FFF (small_bank 5)
    ∷ range 0x21000000 0x2103FFFF flat
    ∷ range 0x4000C000 0x4000FFFF (registers Resets)
    ∷ range 0x40014000 0x40017FFF (registers IoBank0)
    ∷ range 0x4001C000 0x4001FFFF (registers PadsBank0)
    ∷ range 0x40030000 0x40033FFF (registers Busctrl)
    ∷ range 0x40034000 0x40037FFF (registers Uart0)
    ∷ range 0x40038000 0x4003BFFF (registers Uart1)
    ∷ range 0x40054000 0x40057FFF (registers Timer)
    ∷ range 0x50000000 0x50003FFF (registers Dma)
    ∷ range 0x50200000 0x50203FFF (registers Pio0)
    ∷ range 0x50300000 0x50303FFF (registers Pio1)
    ∷ range 0xD0000000 0xD000017F sio
    ∷ range 0xE000E000 0xE000EFFF private_bus
    ∷ []

-- the spot of an address by a list of ranges; what is in none of them is outside
abbrev pub place_by : List Range → ℕ → Spot
place_by [] address = Outside
place_by (r ∷ rs) address =
    if nat_le r.first address && nat_le address r.last then r.at (address - r.first) else place_by rs address

-- the spot of an address
unfoldable pub place_of : ℕ → Spot
place_of address = place_by ranges address

-- the numbers of a spot lie in the part of the machine that it names
abbrev pub IsWithin : Spot → Type 0
IsWithin (Ram index bank) = (index < 67584) × (bank < 6)
IsWithin (Reg block offset alias) = (offset < 0x1000) × (alias < 4)
IsWithin (Sio offset) = offset < 0x180
IsWithin (Ppb offset) = offset < 0x1000
IsWithin Outside = Unit {0}

-- the port that a spot is reached through: 0 to 5 for the banks of SRAM, 6 for APB, 7 for AHB-Lite
-- (RP2040 Datasheet, 2.1 "Bus Fabric"); SIO and a core's private bus have none
abbrev pub block_port : Block → ℕ
block_port Dma = 7
block_port Pio0 = 7
block_port Pio1 = 7
block_port _ = 6

abbrev pub port_of : Spot → Option ℕ
port_of (Ram index bank) = Some bank
port_of (Reg block offset alias) = Some (block_port block)
port_of (Sio offset) = None
port_of (Ppb offset) = None
port_of Outside = None
