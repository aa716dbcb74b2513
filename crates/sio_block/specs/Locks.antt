-- The 32 spinlocks (RP2040 Datasheet, 2.3.1.3, Hardware Spinlocks, and 2.3.1.7): a set of the numbers of those that are taken,
-- as a word whose bit n is that of lock n.
use Rattle.std.specs.Prelude.{ℕ, ◌^◌, Bool, true, false, not, if◌then◌else◌, List, [], ◌∷◌, Option, None, Some, bit_or, ⊤}
use Rattle.rp_base.specs.Rows.{Row, register, repeated, at_row, word_at, effect_at}
use Rattle.sio_block.specs.declared.locks.Locks.{Locks}
use Rattle.rp_base.specs.Word.{has_bit, minus}

abbrev pub locks_at_reset : Locks
locks_at_reset = record { taken = 0 }

-- a lock that is free reads as its bit, one that is taken as 0; a read takes it, where `found` tells whether it was free, and a write
-- of any word frees it
abbrev pub lock_rows : Bool → List (Row ⊤ Locks)
lock_rows found =
    repeated 32 4 (λ n. register 0x100 "SPINLOCKn" (λ seen l. if has_bit l.taken n then 0 else 2 ^ n)
    (λ l. if found then record l { taken = bit_or l.taken (2 ^ n) } else l) (λ w l. record l { taken = minus l.taken (2 ^ n) }))
    ∷ []

abbrev pub lock_word : ℕ → Locks → Option ℕ
lock_word offset l = word_at (lock_rows true) tt offset l

abbrev pub is_free : ℕ → Locks → Bool
is_free offset l = at_row false (λ row n. not (has_bit l.taken n)) (lock_rows true) offset

abbrev pub lock_read : Bool → ℕ → Locks → Locks
lock_read found offset l = effect_at (lock_rows found) offset None l

abbrev pub lock_written : ℕ → ℕ → Locks → Locks
lock_written offset w l = effect_at (lock_rows true) offset (Some w) l
