-- What the transfers of a copy are in bytes (RP2040 Datasheet, 2.5.1.1, addresses, 2.5.7, CH0_CTRL_TRIG, and 2.1.4; ARMv6-M Architecture
-- Reference Manual, A3.3, little-endian memory).
use Rattle.std.specs.Prelude.{◌≡◌, ℕ, zero, suc, ◌+◌, ◌*◌, ◌/◌, ◌%◌, ◌^◌, ◌<◌, ◌≤◌, List, [], ◌∷◌, Some, None}
use Rattle.rp_base.specs.declared.Size.{Size}
use Rattle.rp_base.specs.declared.Size.TheVariants as sizes
use Rattle.rp_base.specs.declared.Request.{Request}
use Rattle.dma_engine.specs.declared.channel.Channel.{Channel}
use Rattle.dma_laws.specs.Copies.{reads_from, writes_from}

-- a number of bytes
abbrev pub width : Size → ℕ
width sizes.Byte = 1
width sizes.Half = 2
width sizes.Word = 4

-- DATA_SIZE
abbrev pub code : Size → ℕ
code sizes.Byte = 0
code sizes.Half = 1
code sizes.Word = 2

-- CTRL of a channel that copies data of a size: EN (bit 0), DATA_SIZE (2 and 3), INCR_READ (4), INCR_WRITE (5), no ring, CHAIN_TO (11 to
-- 14), TREQ_SEL (15 to 20), and the bits from IRQ_QUIET on, of which BSWAP (22) is clear
abbrev pub copying : Size → ℕ → ℕ → ℕ → ℕ
copying size chain treq quiet = 1 + code size * 2 ^ 2 + 2 ^ 4 + 2 ^ 5 + chain * 2 ^ 11 + treq * 2 ^ 15 + quiet * 2 ^ 21

-- the fields of CTRL have four, six and one bits
pub record AreFields (chain treq quiet : ℕ) : Type 0 where
  pub chained : chain < 2 ^ 4
  pub paced : treq < 2 ^ 6
  pub quieted : quiet < 2

-- the bytes of memory at an address, as one number, the first one lowest
abbrev pub bytes_at : (ℕ → ℕ) → ℕ → ℕ → ℕ
bytes_at memory address zero = 0
bytes_at memory address (suc n) = memory address + 2 ^ 8 * bytes_at memory (address + 1) n

-- the word that holds the byte at an address
abbrev pub word_around : (ℕ → ℕ) → ℕ → ℕ
word_around memory address = bytes_at memory (address / 4 * 4) 4

-- so many data of a size from an address on are read
abbrev pub reads_of : Size → ℕ → ℕ → List Request
reads_of size address zero = []
reads_of size address (suc n) = record { address = address; size = size; write = None } ∷ reads_of size (address + width size) n

-- and their bytes are written to another address and those after it
abbrev pub writes_of : (ℕ → ℕ) → Size → ℕ → ℕ → ℕ → List Request
writes_of memory size read write zero = []
writes_of memory size read write (suc n) =
    record { address = write; size = size; write = Some (bytes_at memory read (width size)) }
    ∷ writes_of memory size (read + width size) (write + width size) n

-- the words that hold what is read
abbrev pub words_of : (ℕ → ℕ) → Size → ℕ → ℕ → List ℕ
words_of memory size address zero = []
words_of memory size address (suc n) = word_around memory address ∷ words_of memory size (address + width size) n

-- so many data of a size from an address on are aligned, and do not go past the last address
pub record Fit (size : Size) (n address : ℕ) : Type 0 where
  pub aligned : address % width size ≡ 0
  pub last : address + width size * n ≤ 2 ^ 32

-- n transfers of a channel that copies, with the words of memory, read n data one after another and write their bytes in this order
pub record CopyBytes (k : ℕ) (memory : ℕ → ℕ) (size : Size) (n : ℕ) (c : Channel) : Type 0 where
  pub reads : reads_from c n ≡ reads_of size c.read n
  pub writes : writes_from k c (words_of memory size c.read n) ≡ writes_of memory size c.read c.write n

abbrev pub TransfersCopyBytes : Type 0
TransfersCopyBytes =
    (k : ℕ) (memory : ℕ → ℕ) (size : Size) (n chain treq quiet : ℕ) (c : Channel) → ((a : ℕ) → memory a < 2 ^ 8)
    → AreFields chain treq quiet → c.ctrl ≡ copying size chain treq quiet → Fit size n c.read → Fit size n c.write → CopyBytes k memory size n c
