-- Laws of the block: what the definitions come to for the software that uses it.
use Rattle.std.specs.Prelude.{◌≡◌, ℕ, zero, suc, ◌+◌, ◌*◌, ◌^◌, ◌<◌, ◌≤◌, Bool, true, false, ◌||◌, ◌==◌, ℤ, ◌+ℤ◌, ◌*ℤ◌, unsigned_abs, List, [], ◌∷◌, ◌++◌, Option, Some, None, option_to_list}
use Rattle.rp_base.specs.Rows.{IsListed}
use Rattle.rp_base.specs.Word as word
use Rattle.rp_base.specs.Word.{has_bit}
use Rattle.sio_block.specs.Offsets.{SPINLOCK0}
use Rattle.sio_block.specs.declared.Launch.{Launch}
use Rattle.sio_block.specs.declared.divider.Divider.{Divider}
use Rattle.sio_block.specs.Divider.{number_of, quotient_of, remainder_of, csr_of, divider_rows, divider_written, divider_ended}
use Rattle.sio_block.specs.Launcher.{answer_to, taken_after, launch_after}
use Rattle.sio_block.specs.Locks.{lock_rows}
use Rattle.sio_block.specs.Pins.{pin_rows}
use Rattle.sio_block.specs.Side.{mailbox_rows}
use Rattle.sio_block.specs.State.{State}
use Rattle.sio_block.specs.Words.{core_rows, word_of}
use Rattle.sio_block.specs.Changes.{finds, effect_where}

-- ---- registers

-- the registers of a core, the pins, the mailboxes, the dividers and the spinlocks are each what stands at its offset
pub record AreListed : Type 0 where
  pub cores : (core : ℕ) → IsListed (core_rows core)
  pub pins : IsListed pin_rows
  pub mailboxes : (found : Bool) → IsListed (mailbox_rows found)
  pub dividers : IsListed divider_rows
  pub locks : (found : Bool) → IsListed (lock_rows found)

abbrev pub EachRegisterIsAtItsOffset : Type 0
EachRegisterIsAtItsOffset = AreListed

-- ---- spinlocks

abbrev pub lock_offset : ℕ → ℕ
lock_offset n = SPINLOCK0 + 4 * n

-- what a core's access does that found what the block at the start of the cycle has
abbrev pub does_by : State → ℕ → ℕ → Option ℕ → State → State
does_by start core offset write s = effect_where (finds core offset write start) core offset write s

-- both cores have read a lock in one cycle
abbrev pub both_read : ℕ → ℕ → ℕ → State → State
both_read n first second s =
    does_by s second (lock_offset n) None (does_by s first (lock_offset n) None s)

-- of two cores that read a free lock in one cycle the first gets its bit, and the second finds it taken until it is written
pub record HasOneOwner (s : State) (n inputs first second w : ℕ) : Type 0 where
  pub taken : word_of first (lock_offset n) inputs s ≡ Some (2 ^ n)
  pub refused : word_of second (lock_offset n) inputs (does_by s first (lock_offset n) None s) ≡ Some 0
  pub freed :
      let held = both_read n first second s in
      word_of second (lock_offset n) inputs (does_by held first (lock_offset n) (Some w) held) ≡ Some (2 ^ n)

abbrev pub ALockHasOneOwner : Type 0
ALockHasOneOwner =
    (s : State) (n inputs first second w : ℕ)
    → n < 32
    → has_bit s.locks.taken n ≡ false
    → HasOneOwner s n inputs first second w

-- ---- the divider

-- quotient times divisor plus remainder is the dividend; the remainder is below the divisor, and the product not beyond the
-- dividend, in magnitude
pub record IsTruncated (dividend divisor quotient remainder : ℤ) : Type 0 where
  pub exact : quotient *ℤ divisor +ℤ remainder ≡ dividend
  pub below : unsigned_abs remainder < unsigned_abs divisor
  pub within : unsigned_abs (quotient *ℤ divisor) ≤ unsigned_abs dividend

abbrev pub ResultsAreTruncated : Type 0
ResultsAreTruncated =
    (d : Divider)
    → 0 < d.divisor
    → (q : ℤ) × (r : ℤ) × (quotient_of d ≡ word.word_of q) × (remainder_of d ≡ word.word_of r)
    × IsTruncated (number_of d.signed d.dividend) (number_of d.signed d.divisor) q r

-- so many cycles end
abbrev pub after_cycles : ℕ → Divider → Divider
after_cycles zero d = d
after_cycles (suc n) d = after_cycles n (divider_ended d)

-- the offsets of DIV_UDIVIDEND, DIV_UDIVISOR, DIV_SDIVIDEND and DIV_SDIVISOR
abbrev pub is_operand : ℕ → Bool
is_operand offset = offset == 0x060 || (offset == 0x064 || (offset == 0x068 || offset == 0x06c))

-- what is read: the results, and READY and DIRTY
pub record Reads (d : Divider) (q r status : ℕ) : Type 0 where
  pub quotient : d.quotient ≡ q
  pub remainder : d.remainder ≡ r
  pub csr : csr_of d ≡ status

-- after a write of an operand the old results are read for 7 cycles, and those of the operands from the eighth on
pub record TakesEight (d begun : Divider) (n : ℕ) : Type 0 where
  pub before : n < 8 → Reads (after_cycles n begun) d.quotient d.remainder 2
  pub after : 8 ≤ n → Reads (after_cycles n begun) (quotient_of begun) (remainder_of begun) 3

abbrev pub ADivisionTakesEightCycles : Type 0
ADivisionTakesEightCycles =
    (d : Divider) (offset w n : ℕ) → is_operand offset ≡ true → TakesEight d (divider_written offset w d) n

-- ---- the launcher

-- the answers to words that are taken one after another, and what they start
abbrev pub answers : List ℕ → List ℕ → List ℕ
answers taken [] = []
answers taken (w ∷ ws) = answer_to taken w ∷ answers (taken_after taken w) ws

abbrev pub starts : List ℕ → List ℕ → List Launch
starts taken [] = []
starts taken (w ∷ ws) = option_to_list (launch_after taken w) ++ starts (taken_after taken w) ws

-- 0, 0, 1, a vector table, a stack pointer and an entry are echoed, and start core 1 there
abbrev pub SixWordsStartCore1 : Type 0
SixWordsStartCore1 =
    (vtor sp entry : ℕ)
    → let words = 0 ∷ 0 ∷ 1 ∷ vtor ∷ sp ∷ entry ∷ [] in
    (answers [] words ≡ words) × (starts [] words ≡ record { vtor = vtor; sp = sp; entry = entry } ∷ [])
