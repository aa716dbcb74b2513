-- A routine as an example of what these laws are for: the sum of words. It stands in no table (ARMv6-M Architecture Reference
-- Manual, A6.7, for its instructions).
use Rattle.std.specs.Prelude.{◌≡◌, ℕ, zero, suc, ◌+◌, ◌-◌, ◌*◌, ◌%◌, ◌^◌, ◌<◌, ◌≤◌, List, [], ◌∷◌, slice_index, slice_set}
use Rattle.m0_beats.specs.declared.registers.Regs.{Regs}
use Rattle.core_runs.specs.Bytes.{Holds, IsSram, word_from}
use Rattle.core_runs.specs.Runs.{Steps}
use Rattle.core_runs.specs.Programs.{IsInside, place, IsCall, counted_out}

-- subs r2, #1; bcc .+10 (to bx lr); lsls r1, r2, #2; ldr r1, [r0, r1]; adds r3, r3, r1; b .-10; bx lr
unfoldable pub checksum : List ℕ
checksum = 0x01 ∷ 0x3A ∷ 0x03 ∷ 0xD3 ∷ 0x91 ∷ 0x00 ∷ 0x41 ∷ 0x58 ∷ 0x5B ∷ 0x18 ∷ 0xF9 ∷ 0xE7 ∷ 0x70 ∷ 0x47 ∷ []

-- the sum of n words from a place on
abbrev pub sum_of_words : List ℕ → ℕ → ℕ → ℕ
sum_of_words m k zero = 0
sum_of_words m k (suc n) = sum_of_words m k n + word_from m (k + 4 * n)

-- R1 has the word that is added last, that of the least place
abbrev pub word_after : ℕ → ℕ → ℕ → ℕ
word_after zero before word = before
word_after (suc n) before word = word

-- the code stands at a place, and R0 is the address of so many words of SRAM as R2 says
pub record IsSumming (k : ℕ) (r : Regs) (m : List ℕ) : Type 0 where
  pub sram : IsSram m
  pub code : Holds m k checksum
  pub within : k + 14 ≤ 0x42000
  pub even : k % 2 ≡ 0
  pub call : IsCall (0x20000000 + k) r
  pub aligned : slice_index r.r 0 % 4 ≡ 0
  pub words : (i : ℕ) → i < slice_index r.r 2 → IsInside (slice_index r.r 0 + 4 * i)
  pub sum : slice_index r.r 3 < 2 ^ 32

-- it adds them to R3, modulo 2^32
abbrev pub AChecksumAdds : Type 0
AChecksumAdds =
    (k : ℕ) (r : Regs) (m : List ℕ)
    → IsSumming k r m
    → let a = place (slice_index r.r 0) in
    let n = slice_index r.r 2 in
    let sum = (slice_index r.r 3 + sum_of_words m a n) % 2 ^ 32 in
    Steps (8 * n + 5) r m
    (counted_out r
    (slice_set (slice_set (slice_set r.r 3 sum) 2 (2 ^ 32 - 1)) 1 (word_after n (slice_index r.r 1) (word_from m a))))
    m
