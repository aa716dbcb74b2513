-- Memory that holds the table, and its code.
use Rattle.std.proofs.Common.{◌≡◌, ℕ, zero, suc, ◌+◌, ◌*◌, ◌%◌, ◌^◌, ◌<◌, ◌≤◌, ◌⊎◌, inl, inr, List, [], ◌∷◌, slice_index, ◌∙◌, arith}
use Rattle.m0_core.specs.Fetch.{is_ram}
use Rattle.core_runs.specs.Bytes.{put, Holds, IsSram}
use Rattle.core_runs.specs.Programs.{IsInside, place}
use Rattle.core_runs.proofs.Bytes.{inside_ram, code_is_fetched, a_put_elsewhere_keeps_code}
use Rattle.startup_blocks.specs.Table.{table_bytes}
use Rattle.routine_laws.specs.Routines.{IsFree}
use Rattle.core_runs.proofs.Opcodes.{IsCode}

pub record HasTable (m : List ℕ) : Type 0 where
  pub sram : IsSram m
  pub table : Holds m 0x40000 table_bytes

pub code_at : (m : List ℕ) (i h : ℕ) → HasTable m → i % 2 ≡ 0 → i + 1 < 32 → slice_index table_bytes i + 2 ^ 8 * slice_index table_bytes (i + 1) ≡ h → IsCode m (0x20000000 + (0x40000 + i)) h
unfolding is_ram table_bytes
code_at m i h coded even lt is =
    let a = 0x20000000 + (0x40000 + i) in
    let inside : IsInside a = record { first = omega arith; last = omega (arith, lt) } in
    let two : (0x40000 + i) % 2 ≡ 0 = omega (arith, even) in
    record {
      inside = inside_ram a inside;
      half = code_is_fetched m 0x40000 table_bytes i coded.sram coded.table two lt (omega (arith, lt)) ∙ is;
    }

one_small : (v i : ℕ) → v < 2 ^ 8 → slice_index (v ∷ []) i < 2 ^ 8
one_small v zero h = h
one_small v (suc i) h = omega arith

-- a byte that is stored outside the table leaves it
pub still_coded : (m : List ℕ) (a v : ℕ) → HasTable m → IsFree a → v < 2 ^ 8 → HasTable (put m (place a) (v ∷ []))
unfolding table_bytes
still_coded m a v coded free small =
    let first = free.inside.first in
    let last = free.inside.last in
    let keeps = a_put_elsewhere_keeps_code m (place a) (v ∷ []) 0x40000 table_bytes coded.sram (omega (arith, first, last)) (λ i. one_small v i small) coded.table (omega arith) (go free.apart first) in
    record { sram = keeps.sram; table = keeps.held }
  where
    go : (a < 0x20040000) ⊎ (0x20040020 ≤ a) → 0x20000000 ≤ a → (place a + 1 ≤ 0x40000) ⊎ (0x40000 + 32 ≤ place a)
    go (inl below) first = inl (omega (arith, below, first))
    go (inr above) first = inr (omega (arith, above))
