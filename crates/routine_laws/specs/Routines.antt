-- What the routines of the table leave that an image can be linked with (ISO C, 7.24.6.1, the memset function, and 7.24.2.1,
-- the memcpy function; the registers are the table's own).
use Rattle.std.specs.Prelude.{ℕ, zero, suc, ◌+◌, ◌-◌, ◌*◌, ◌%◌, ◌^◌, ◌<◌, ◌≤◌, ◌⊎◌, List, take, drop, replicate, slice_index, slice_set}
use Rattle.m0_beats.specs.declared.registers.Regs.{Regs}
use Rattle.core_runs.specs.Bytes.{put, Holds, IsSram}
use Rattle.core_runs.specs.Runs.{Steps}
use Rattle.core_runs.specs.Programs.{IsInside, place, IsCall, counted_out}
use Rattle.startup_blocks.specs.Table.{entries, table, table_bytes}

-- ---- lists of bytes

-- the n places from a on hold b
abbrev pub set : List ℕ → ℕ → ℕ → ℕ → List ℕ
set m a b n = put m a (replicate n b)

-- the n places from a on hold what the n places from q on held before
abbrev pub copy : List ℕ → ℕ → ℕ → ℕ → List ℕ
copy m a q n = put m a (take n (drop q m))

-- ---- a call

-- an address of SRAM outside the table
pub record IsFree (a : ℕ) : Type 0 where
  pub inside : IsInside a
  pub apart : (a < 0x20040000) ⊎ (0x20040020 ≤ a)

abbrev pub AreFree : ℕ → ℕ → Type 0
AreFree a n = (k : ℕ) → k < n → IsFree (a + k)

abbrev pub AreInside : ℕ → ℕ → Type 0
AreInside a n = (k : ℕ) → k < n → IsInside (a + k)

-- the core is at the routine of that number, over memory that holds the table
pub record IsCalled (number : ℕ) (r : Regs) (m : List ℕ) : Type 0 where
  pub sram : IsSram m
  pub linked : Holds m (place table.address) table_bytes
  pub call : IsCall (slice_index entries number - 1) r

-- ---- memset: R0 place, R1 byte, R2 count

abbrev pub MemsetSets : Type 0
MemsetSets =
    (r : Regs) (m : List ℕ)
    → IsCalled 0 r m
    → AreFree (slice_index r.r 0) (slice_index r.r 2)
    → Steps (6 * slice_index r.r 2 + 5) r m
    (counted_out r (slice_set r.r 2 (2 ^ 32 - 1)))
    (set m (place (slice_index r.r 0)) (slice_index r.r 1 % 2 ^ 8) (slice_index r.r 2))

-- ---- memcpy: R0 place, R1 source, R2 count; R3 has the byte that is copied last, that of the least place

abbrev pub byte_after : ℕ → ℕ → ℕ → ℕ
byte_after zero before byte = before
byte_after (suc n) before byte = byte

abbrev pub MemcpyCopies : Type 0
MemcpyCopies =
    (r : Regs) (m : List ℕ)
    → IsCalled 1 r m
    → AreFree (slice_index r.r 0) (slice_index r.r 2)
    → AreInside (slice_index r.r 1) (slice_index r.r 2)
    → (slice_index r.r 0 + slice_index r.r 2 ≤ slice_index r.r 1) ⊎ (slice_index r.r 1 + slice_index r.r 2 ≤ slice_index r.r 0)
    → Steps (8 * slice_index r.r 2 + 5) r m
    (counted_out r
    (slice_set (slice_set r.r 3 (byte_after (slice_index r.r 2) (slice_index r.r 3) (slice_index m (place (slice_index r.r 1)))))
    2 (2 ^ 32 - 1)))
    (copy m (place (slice_index r.r 0)) (place (slice_index r.r 1)) (slice_index r.r 2))
