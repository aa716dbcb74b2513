-- What the proof of a program in SRAM needs: its instructions as they stand there, and its accesses to bytes and words (ARMv6-M
-- Architecture Reference Manual, A5.1, A3.3 and A6.7; RP2040 Datasheet, 2.6.2, SRAM).
use Rattle.std.specs.List.{list_any}
use Rattle.std.specs.Prelude.{◌≡◌, ℕ, ◌+◌, ◌-◌, ◌*◌, ◌/◌, ◌%◌, ◌^◌, ◌<◌, ◌≤◌, ◌⊎◌, true, false, List, [], ◌∷◌, length, slice_index, Some, None}
use Rattle.rp_base.specs.declared.Request.{Request}
use Rattle.rp_base.specs.declared.Size.{Size}
use Rattle.rp_base.specs.declared.Size.TheVariants as sizes
use Rattle.rp_base.specs.declared.op.Op.{Op}
use Rattle.rp_base.specs.Map.{place_of}
use Rattle.rp_base.specs.Word.{has_bit}
use Rattle.thumb_rows.specs.Rows.{begins_long, operation_of}
use Rattle.m0_beats.specs.declared.registers.Regs.{Regs}
use Rattle.m0_beats.specs.declared.timing.Beat.{Beat}
use Rattle.m0_beats.specs.Beats.{is_unaligned_beat}
use Rattle.m0_beats.specs.Instructions.{beats_of, effect_of, return_of}
use Rattle.m0_beats.specs.Conditions.{is_exception_return}
use Rattle.m0_core.specs.Fetch.{is_ram, is_ram_spot}
use Rattle.core_laws.specs.Laws.{half_at}
use Rattle.core_runs.specs.Bytes.{put, Holds, IsSram, word_from, answer, bytes_of, stored_by}
use Rattle.core_runs.specs.Runs.{Steps}
use Rattle.core_runs.specs.Instructions.{is_elsewhere, after_beats, value_at, values_of, is_ordinary}

-- ---- an instruction, by its halfword

-- the halfword h at PC is the operation op, of these beats, which are inside the core or go to SRAM; and it leaves these
-- registers and this memory
pub record IsStep (op : Op) (h : ℕ) (beats : List Beat) (r : Regs) (m : List ℕ) (r' : Regs) (m' : List ℕ) : Type 0 where
  pub code : is_ram r.pc ≡ true
  pub half : half_at (answer m) r.pc ≡ h
  pub short : begins_long h ≡ false
  pub decoded : operation_of h 0 ≡ op
  pub ordinary : is_ordinary op ≡ true
  pub thumb : r.t ≡ true
  pub beats_are : beats_of op r ≡ beats
  pub some : 0 < length beats
  pub aligned : list_any is_unaligned_beat beats ≡ false
  pub inside : list_any is_elsewhere beats ≡ false
  pub stays : return_of op r (values_of beats m) ≡ None
  pub effect : effect_of op r (values_of beats m) ≡ r'
  pub memory : after_beats beats m ≡ m'

-- it takes as many cycles as it has beats
abbrev pub AHalfwordSteps : Type 0
AHalfwordSteps =
    (op : Op) (h : ℕ) (beats : List Beat) (r : Regs) (m : List ℕ) (r' : Regs) (m' : List ℕ)
    → IsStep op h beats r m r' m'
    → Steps (length beats) r m r' m'

-- ---- places

-- banks 0 to 3, striped, and banks 4 and 5
pub record IsInside (a : ℕ) : Type 0 where
  pub first : 0x20000000 ≤ a
  pub last : a < 0x20042000

-- where its byte stands in the list
abbrev pub place : ℕ → ℕ
place a = a - 0x20000000

abbrev pub reading : Size → ℕ → Request
reading size a = record { address = a; size = size; write = None }

abbrev pub writing : Size → ℕ → ℕ → Request
writing size a value = record { address = a; size = size; write = Some value }

-- the byte of an address
pub record HasByte (m : List ℕ) (a value : ℕ) : Type 0 where
  pub inside : is_ram_spot (place_of a) ≡ true
  pub read : value_at (reading sizes.Byte a) None m ≡ Some (slice_index m (place a))
  pub written : stored_by (writing sizes.Byte a value) m ≡ put m (place a) (value % 2 ^ 8 ∷ [])

abbrev pub EachPlaceHasAByte : Type 0
EachPlaceHasAByte = (m : List ℕ) (a value : ℕ) → IsSram m → IsInside a → HasByte m a value

-- the word of an address that is a multiple of 4
pub record HasWord (m : List ℕ) (a value : ℕ) : Type 0 where
  pub inside : is_ram_spot (place_of a) ≡ true
  pub read : value_at (reading sizes.Word a) None m ≡ Some (word_from m (place a))
  pub written : stored_by (writing sizes.Word a value) m ≡ put m (place a) (bytes_of sizes.Word value)

abbrev pub EachFourthPlaceHasAWord : Type 0
EachFourthPlaceHasAWord = (m : List ℕ) (a value : ℕ) → IsSram m → IsInside a → a % 4 ≡ 0 → HasWord m a value

-- a halfword of code that the memory holds
abbrev pub CodeIsFetched : Type 0
CodeIsFetched =
    (m : List ℕ) (k : ℕ) (code : List ℕ) (i : ℕ)
    → IsSram m
    → Holds m k code
    → (k + i) % 2 ≡ 0
    → i + 1 < length code
    → k + i + 1 < 0x42000
    → half_at (answer m) (0x20000000 + (k + i)) ≡ slice_index code i + 2 ^ 8 * slice_index code (i + 1)

-- bytes that are put elsewhere leave it
pub record KeepsCode (m : List ℕ) (at : ℕ) (bytes : List ℕ) (k : ℕ) (code : List ℕ) : Type 0 where
  pub sram : IsSram (put m at bytes)
  pub held : Holds (put m at bytes) k code

abbrev pub APutElsewhereKeepsCode : Type 0
APutElsewhereKeepsCode =
    (m : List ℕ) (at : ℕ) (bytes : List ℕ) (k : ℕ) (code : List ℕ)
    → IsSram m
    → at + length bytes ≤ 0x42000
    → ((i : ℕ) → slice_index bytes i < 2 ^ 8)
    → Holds m k code
    → k + length code ≤ 0x42000
    → (at + length bytes ≤ k) ⊎ (k + length code ≤ at)
    → KeepsCode m at bytes k code

-- ---- a routine that is called

-- a core in Thumb state at an address, whose R14 has bit 0 set and begins no exception return
pub record IsCall (address : ℕ) (r : Regs) : Type 0 where
  pub entry : r.pc ≡ address
  pub thumb : r.t ≡ true
  pub odd : has_bit r.lr 0 ≡ true
  pub plain : is_exception_return r.ipsr r.lr ≡ false
  pub registers : length r.r ≡ 13

-- it is back at R14 without its bit 0, and these are R0 to R12; a count went from 0 to FFFFFFFF at last, which set N and
-- cleared Z, C and V
abbrev pub counted_out : Regs → List ℕ → Regs
counted_out r registers =
    record r { r = registers; pc = r.lr / 2 * 2; n = true; z = false; c = false; v = false }
