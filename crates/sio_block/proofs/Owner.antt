-- A lock has one owner.
use Rattle.std.proofs.Common.{◌∙◌, ap, ◌≡◌, ℕ, ◌-◌, ◌*◌, ◌%◌, ◌^◌, ◌<◌, Bool, true, false, refl, arith, rules, Some, None}
use Rattle.std.specs.Prelude.{bit_or, bit_and, if◌then◌else◌}
use Rattle.std.specs.Int.{bit_at, w32}
use Rattle.std.proofs.lemmas.Grind.{common_steps}
use Rattle.std.proofs.lemmas.Nat.Bits.{bit_at_or, bit_at-pow_same, bit_at_clear_same, bit_at-lt}
use Rattle.std.proofs.lemmas.Bool.Decides.{nat_tests}
use Rattle.rp_base.specs.Word.{has_bit}
use Rattle.sio_block.specs.declared.locks.Locks.{Locks}
use Rattle.rp_base.specs.Word.{minus}
use Rattle.sio_block.specs.Locks.{is_free, lock_word, lock_read, lock_written}
use Rattle.rp_base.specs.Rows.{Each, is_at, number_at}
use Rattle.sio_block.specs.State.{State}
use Rattle.sio_block.specs.Words.{word_of}
use Rattle.sio_block.specs.Changes.{finds, effect_where}
use Rattle.sio_block.specs.Laws.{lock_offset, does_by, both_read, ALockHasOneOwner}

number_of_offset : (n : ℕ) → number_at (Each 0x100 32 4) (lock_offset n) ≡ n
number_of_offset n = omega arith

offset_is_lock : (n : ℕ) → n < 32 → is_at (Each 0x100 32 4) (lock_offset n) ≡ true
offset_is_lock n h = grind (arith, nat_tests, common_steps)

-- a lock's word, read and written
word-lock : (core n inputs : ℕ) (s : State) → n < 32 → word_of core (lock_offset n) inputs s ≡ lock_word (lock_offset n) s.locks
word-lock core n inputs s h = grind (arith, nat_tests, common_steps)

finds-lock : (core n : ℕ) (s : State) → n < 32 → finds core (lock_offset n) None s ≡ is_free (lock_offset n) s.locks
finds-lock core n s h = grind (arith, nat_tests, common_steps)

read-lock : (found : Bool) (core n : ℕ) (s : State) → n < 32 → (effect_where found core (lock_offset n) None s).locks ≡ lock_read found (lock_offset n) s.locks
read-lock found core n s h = grind (arith, nat_tests, common_steps)

write-lock : (found : Bool) (core n w : ℕ) (s : State) → n < 32 → (effect_where found core (lock_offset n) (Some w) s).locks ≡ lock_written (lock_offset n) w s.locks
write-lock found core n w s h = grind (arith, nat_tests, common_steps)

word-number : (n : ℕ) (l : Locks) → n < 32 → lock_word (lock_offset n) l ≡ Some (if has_bit l.taken n then 0 else 2 ^ n)
word-number n l h = rw (offset_is_lock n h, number_of_offset n) refl

free-number : (n : ℕ) (l : Locks) → n < 32 → has_bit l.taken n ≡ false → is_free (lock_offset n) l ≡ true
free-number n l h free = rw (offset_is_lock n h, number_of_offset n, free) refl

read-number : (n : ℕ) (l : Locks) → n < 32 → lock_read true (lock_offset n) l ≡ record l { taken = bit_or l.taken (2 ^ n) }
read-number n l h = rw (offset_is_lock n h, number_of_offset n) refl

write-number : (n w : ℕ) (l : Locks) → n < 32 → lock_written (lock_offset n) w l ≡ record l { taken = minus l.taken (2 ^ n) }
write-number n w l h = rw (offset_is_lock n h, number_of_offset n) refl

-- a bit that is set, and one that is cleared
set_bit : (x n : ℕ) → has_bit (bit_or x (2 ^ n)) n ≡ true
set_bit x n =
    let e : bit_at (bit_or x (2 ^ n)) n ≡ 1 = rw (bit_at_or x (2 ^ n) n, bit_at-pow_same n) (omega (arith, bit_at-lt x n)) in
    rw e refl

one_shifted : (n : ℕ) → n < 32 → 1 * 2 ^ n % 2 ^ 32 ≡ 2 ^ n
one_shifted n h = search rules

clear_bit : (x n : ℕ) → n < 32 → has_bit (minus x (2 ^ n)) n ≡ false
clear_bit x n h =
    let e : bit_at (bit_and x (2 ^ 32 - 1 - 1 * 2 ^ n % 2 ^ 32)) n ≡ 0 = bit_at_clear_same w32 x n h in
    let f : bit_at (minus x (2 ^ n)) n ≡ 0 = rw (one_shifted n h) at e in
    rw f refl

-- what a read of a free lock finds, and what it leaves
found_free : (core n : ℕ) (s : State) → n < 32 → has_bit s.locks.taken n ≡ false → finds core (lock_offset n) None s ≡ true
found_free core n s h free = finds-lock core n s h ∙ free-number n s.locks h free

read-free : (core n : ℕ) (s t : State) → n < 32 → has_bit s.locks.taken n ≡ false
    → (does_by s core (lock_offset n) None t).locks ≡ record t.locks { taken = bit_or t.locks.taken (2 ^ n) }
read-free core n s t h free =
    read-lock (finds core (lock_offset n) None s) core n t h
    ∙ ap (λ (b : Bool). lock_read b (lock_offset n) t.locks) (found_free core n s h free)
    ∙ read-number n t.locks h

pub a_lock_has_one_owner : ALockHasOneOwner
a_lock_has_one_owner = λ s n inputs first second w h free. record {
  taken = word-lock first n inputs s h ∙ word-number n s.locks h ∙ ap (λ (b : Bool). Some (if b then 0 else 2 ^ n)) free;
  refused =
      word-lock second n inputs (does_by s first (lock_offset n) None s) h
      ∙ ap (lock_word (lock_offset n)) (read-free first n s s h free)
      ∙ word-number n (record s.locks { taken = bit_or s.locks.taken (2 ^ n) }) h
      ∙ ap (λ (b : Bool). Some (if b then 0 else 2 ^ n)) (set_bit s.locks.taken n);
  freed =
      let held = both_read n first second s in
      word-lock second n inputs (does_by held first (lock_offset n) (Some w) held) h
      ∙ ap (lock_word (lock_offset n)) (write-lock (finds first (lock_offset n) (Some w) held) first n w held h ∙ write-number n w held.locks h)
      ∙ word-number n (record held.locks { taken = minus held.locks.taken (2 ^ n) }) h
      ∙ ap (λ (b : Bool). Some (if b then 0 else 2 ^ n)) (clear_bit held.locks.taken n h);
}
