-- The rows of a block in their six parts, and those of the machines by numbers and offsets.
use Rattle.std.proofs.Common.{◌≡◌, refl, sym, ap, ◌∙◌, ℕ, zero, suc, ◌+◌, ◌-◌, ◌/◌, ◌%◌, ◌<◌, Bool, true, false, ◌&&◌, cond, List, [], ◌∷◌, ◌++◌, Some, None, true≢false, arith, rules, lt-ltb, le-ltb}
use Rattle.std.specs.Prelude.{◌==◌, ◌≢◌, ◌≤◌, nat_eq, nat_lt, if◌then◌else◌, map, ⊤}
use Rattle.std.proofs.lemmas.Grind.{common_steps}
use Rattle.std.proofs.lemmas.Bool.{and_parts, cond-true, cond-false}
use Rattle.std.proofs.lemmas.Bool.Decides.{nat_tests}
use Rattle.rp_base.specs.Rows.{IsListed, Place, At, Each, first_of, is_at, number_at, Row, at_row, word_at, effect_at}
use Rattle.rp_base.proofs.Rows.{listed, cut, told, in_stride, strided, still, either-way}
use Rattle.pio_machine.specs.declared.machine.Machine1.{Machine1}
use Rattle.pio_block.specs.State.{State, machine_of, changed, with_machines}
use Rattle.pio_block.specs.Queues.{taken}
use Rattle.pio_block.specs.Registers.{machine_rows, register_of, register_written}
use Rattle.pio_block.specs.Words.{control_rows, fifo_rows, pin_rows, memory_rows, of_machines, interrupt_rows, pio_rows, is_word, word_of, after_any}

pub registers : IsListed pio_rows
registers = listed pio_rows refl

parts : {A : Type 0} (none : A) (found : Row ⊤ State → ℕ → A) (at : ℕ) → at_row none found pio_rows at
    ≡ (if nat_lt at 0x010 then at_row none found control_rows at else
    if nat_lt at 0x030 then at_row none found fifo_rows at else
    if nat_lt at 0x048 then at_row none found pin_rows at else
    if nat_lt at 0x0c8 then at_row none found memory_rows at else
    if nat_lt at 0x128 then at_row none found (map of_machines machine_rows) at else at_row none found interrupt_rows at)
parts none found at =
    cut none found 0x010 control_rows (fifo_rows ++ pin_rows ++ memory_rows ++ map of_machines machine_rows ++ interrupt_rows) at refl
    ∙ ap (λ x. if nat_lt at 0x010 then at_row none found control_rows at else x)
    (cut none found 0x030 fifo_rows (pin_rows ++ memory_rows ++ map of_machines machine_rows ++ interrupt_rows) at refl
    ∙ ap (λ x. if nat_lt at 0x030 then at_row none found fifo_rows at else x)
    (cut none found 0x048 pin_rows (memory_rows ++ map of_machines machine_rows ++ interrupt_rows) at refl
    ∙ ap (λ x. if nat_lt at 0x048 then at_row none found pin_rows at else x)
    (cut none found 0x0c8 memory_rows (map of_machines machine_rows ++ interrupt_rows) at refl
    ∙ ap (λ x. if nat_lt at 0x0c8 then at_row none found memory_rows at else x)
    (cut none found 0x128 (map of_machines machine_rows) interrupt_rows at refl))))

-- ---- the registers of the machines

unchanged : (n : ℕ) (ms : List Machine1) → changed n (λ m. m) ms ≡ ms
unchanged n [] = refl
unchanged zero (m ∷ ms) = refl
unchanged (suc n) (m ∷ ms) = ap (λ rest. m ∷ rest) (unchanged n ms)

abbrev is_single : Place → Bool
is_single (At offset) = true
is_single (Each first count stride) = false

abbrev are_single : List (Row (List ℕ) Machine1) → Bool
are_single [] = true
are_single (row ∷ rows) = is_single row.place && are_single rows

single : (p : Place) (at : ℕ) → is_single p ≡ true → (is_at p at ≡ (at == first_of p)) × (number_at p at ≡ 0)
single (At offset) at e = (refl, refl)
single (Each first count stride) at e = absurd (true≢false (sym e))

word-of_machine : (rows : List (Row (List ℕ) Machine1)) (index number : ℕ) (s : State) → are_single rows ≡ true
    → in_stride 0x0c8 None (λ row. Some (row.reads number tt s)) (map (of_machines {V = ⊤}) rows) index
    ≡ word_at rows s.memory (0x0c8 + index) (machine_of number s.machines)
word-of_machine [] index number s e = refl
word-of_machine (row ∷ rows) index number s e =
    let one = single row.place (0x0c8 + index) ((and_parts (is_single row.place) (are_single rows) e).0) in
    rw (one.0, one.1)
    (ap (λ x. cond (0x0c8 + index == first_of row.place) (Some (row.reads 0 s.memory (machine_of number s.machines))) x)
    (word-of_machine rows index number s ((and_parts (is_single row.place) (are_single rows) e).1)))

written-row : (b : Bool) (f g : Machine1 → Machine1) (number : ℕ) (s rest : State) → rest ≡ with_machines (changed number g s.machines) s
    → cond b (with_machines (changed number f s.machines) s) rest ≡ with_machines (changed number (λ m. cond b (f m) (g m)) s.machines) s
written-row true f g number s rest e = refl
written-row false f g number s rest e = e

written-of_machine : (rows : List (Row (List ℕ) Machine1)) (index number w : ℕ) (s : State) → are_single rows ≡ true
    → in_stride 0x0c8 s (λ row. row.write_does number w s) (map (of_machines {V = ⊤}) rows) index
    ≡ with_machines (changed number (λ m. effect_at rows (0x0c8 + index) (Some w) m) s.machines) s
written-of_machine [] index number w s e = ap (λ ms. with_machines ms s) (sym (unchanged number s.machines))
written-of_machine (row ∷ rows) index number w s e =
    let one = single row.place (0x0c8 + index) ((and_parts (is_single row.place) (are_single rows) e).0) in
    rw (one.0, one.1)
    (written-row (0x0c8 + index == first_of row.place) (row.write_does 0 w) (λ m. effect_at rows (0x0c8 + index) (Some w) m) number s _
    (written-of_machine rows index number w s ((and_parts (is_single row.place) (are_single rows) e).1)))

-- ---- by the part in which an offset is

at_machine : {A : Type 0} (none : A) (found : Row ⊤ State → ℕ → A) (at : ℕ) → 0x0c8 ≤ at → at < 0x128
    → at_row none found pio_rows at
    ≡ in_stride 0x0c8 none (λ row. found row ((at - 0x0c8) / 24)) (map of_machines machine_rows) ((at - 0x0c8) % 24)
at_machine none found at g h =
    parts none found at
    ∙ cond-false (nat_lt at 0x010) _ _ (le-ltb at 0x010 (omega (arith, g)))
    ∙ cond-false (nat_lt at 0x030) _ _ (le-ltb at 0x030 (omega (arith, g)))
    ∙ cond-false (nat_lt at 0x048) _ _ (le-ltb at 0x048 (omega (arith, g)))
    ∙ cond-false (nat_lt at 0x0c8) _ _ (le-ltb at 0x0c8 g)
    ∙ cond-true (nat_lt at 0x128) _ _ (lt-ltb at 0x128 h)
    ∙ strided none found 0x0c8 4 24 (map of_machines machine_rows) ((at - 0x0c8) / 24) ((at - 0x0c8) % 24) at refl
    (omega (arith, g, h)) (omega arith) (omega (arith, g))

at_interrupt : {A : Type 0} (none : A) (found : Row ⊤ State → ℕ → A) (at : ℕ) → 0x128 ≤ at
    → at_row none found pio_rows at ≡ at_row none found interrupt_rows at
at_interrupt none found at g =
    parts none found at
    ∙ rw (
      le-ltb at 0x010 (omega (arith, g)),
      le-ltb at 0x030 (omega (arith, g)),
      le-ltb at 0x048 (omega (arith, g)),
      le-ltb at 0x0c8 (omega (arith, g)),
      le-ltb at 0x128 g,
    ) refl

-- ---- reads and writes

pub control_word : (s : State) (at : ℕ) → at < 0x010 → word_of at s ≡ word_at (control_rows {V = ⊤}) tt at s
unfolding word_of
control_word s at h = parts None (λ row n. Some (row.reads n tt s)) at ∙ rw (lt-ltb at 0x010 h) refl

pub fifo_word : (s : State) (at : ℕ) → 0x010 ≤ at → at < 0x030 → word_of at s ≡ word_at (fifo_rows {V = ⊤}) tt at s
unfolding word_of
fifo_word s at g h = parts None (λ row n. Some (row.reads n tt s)) at ∙ rw (le-ltb at 0x010 g, lt-ltb at 0x030 h) refl

pub pin_word : (s : State) (at : ℕ) → 0x030 ≤ at → at < 0x048 → word_of at s ≡ word_at (pin_rows {V = ⊤}) tt at s
unfolding word_of
pin_word s at g h =
    parts None (λ row n. Some (row.reads n tt s)) at
    ∙ rw (le-ltb at 0x010 (omega (arith, g)), le-ltb at 0x030 g, lt-ltb at 0x048 h) refl

pub memory_word : (s : State) (at : ℕ) → 0x048 ≤ at → at < 0x0c8 → word_of at s ≡ word_at (memory_rows {V = ⊤}) tt at s
unfolding word_of
memory_word s at g h =
    parts None (λ row n. Some (row.reads n tt s)) at
    ∙ rw (le-ltb at 0x010 (omega (arith, g)), le-ltb at 0x030 (omega (arith, g)), le-ltb at 0x048 g, lt-ltb at 0x0c8 h) refl

pub machine_word : (s : State) (at : ℕ) → 0x0c8 ≤ at → at < 0x128
    → word_of at s ≡ register_of ((at - 0x0c8) % 24) s.memory (machine_of ((at - 0x0c8) / 24) s.machines)
unfolding word_of register_of
machine_word s at g h =
    at_machine None (λ row n. Some (row.reads n tt s)) at g h ∙ word-of_machine machine_rows ((at - 0x0c8) % 24) ((at - 0x0c8) / 24) s refl

pub interrupt_word : (s : State) (at : ℕ) → 0x128 ≤ at → word_of at s ≡ word_at (interrupt_rows {V = ⊤}) tt at s
unfolding word_of
interrupt_word s at g = at_interrupt None (λ row n. Some (row.reads n tt s)) at g

pub control_write : (at w : ℕ) (s : State) → at < 0x010 → after_any at (Some w) s ≡ effect_at (control_rows {V = ⊤}) at (Some w) s
unfolding after_any
control_write at w s h = parts s (λ row n. row.write_does n w s) at ∙ rw (lt-ltb at 0x010 h) refl

pub fifo_write : (at w : ℕ) (s : State) → 0x010 ≤ at → at < 0x030 → after_any at (Some w) s ≡ effect_at (fifo_rows {V = ⊤}) at (Some w) s
unfolding after_any
fifo_write at w s g h = parts s (λ row n. row.write_does n w s) at ∙ rw (le-ltb at 0x010 g, lt-ltb at 0x030 h) refl

pub pin_write : (at w : ℕ) (s : State) → 0x030 ≤ at → at < 0x048 → after_any at (Some w) s ≡ effect_at (pin_rows {V = ⊤}) at (Some w) s
unfolding after_any
pin_write at w s g h =
    parts s (λ row n. row.write_does n w s) at
    ∙ rw (le-ltb at 0x010 (omega (arith, g)), le-ltb at 0x030 g, lt-ltb at 0x048 h) refl

pub memory_write : (at w : ℕ) (s : State) → 0x048 ≤ at → at < 0x0c8 → after_any at (Some w) s ≡ effect_at (memory_rows {V = ⊤}) at (Some w) s
unfolding after_any
memory_write at w s g h =
    parts s (λ row n. row.write_does n w s) at
    ∙ rw (le-ltb at 0x010 (omega (arith, g)), le-ltb at 0x030 (omega (arith, g)), le-ltb at 0x048 g, lt-ltb at 0x0c8 h) refl

pub machine_write : (at w : ℕ) (s : State) → 0x0c8 ≤ at → at < 0x128
    → after_any at (Some w) s ≡ with_machines (changed ((at - 0x0c8) / 24) (register_written ((at - 0x0c8) % 24) w) s.machines) s
unfolding after_any register_written
machine_write at w s g h =
    at_machine s (λ row n. row.write_does n w s) at g h ∙ written-of_machine machine_rows ((at - 0x0c8) % 24) ((at - 0x0c8) / 24) w s refl

pub interrupt_write : (at w : ℕ) (s : State) → 0x128 ≤ at → after_any at (Some w) s ≡ effect_at (interrupt_rows {V = ⊤}) at (Some w) s
unfolding after_any
interrupt_write at w s g = at_interrupt s (λ row n. row.write_does n w s) at g

-- a read of an RXF alone does something
not_both : (at : ℕ) → is_at (Each 0x020 4 4) at ≡ true → is_at (Each 0x010 4 4) at ≡ false
not_both at h = grind (arith, nat_tests, common_steps)

pub rx_read : (at : ℕ) (s : State) → is_at (Each 0x020 4 4) at ≡ true → after_any at None s ≡ taken (number_at (Each 0x020 4 4) at) s
unfolding after_any
rx_read at s h =
    let from : nat_lt at 0x010 ≡ false = grind (arith, nat_tests, common_steps) in
    let to : nat_lt at 0x030 ≡ true = grind (arith, nat_tests, common_steps) in
    parts s (λ row n. row.read_does n s) at ∙ cond-false (nat_lt at 0x010) _ _ from ∙ cond-true (nat_lt at 0x030) _ _ to
    ∙ cond-false (is_at (Each 0x010 4 4) at) _ _ (not_both at h) ∙ cond-true (is_at (Each 0x020 4 4) at) _ _ h

pub no_read : (at : ℕ) (s : State) → is_at (Each 0x020 4 4) at ≡ false → after_any at None s ≡ s
unfolding after_any
no_read at s h =
    parts s (λ row n. row.read_does n s) at
    ∙ either-way (λ x. x ≡ s) (nat_lt at 0x010) (still (control_rows {V = ⊤}) at s (search rules))
    (either-way (λ x. x ≡ s) (nat_lt at 0x030)
    (either-way (λ x. x ≡ s) (is_at (Each 0x010 4 4) at) refl (cond-false (is_at (Each 0x020 4 4) at) (taken (number_at (Each 0x020 4 4) at) s) s h))
    (either-way (λ x. x ≡ s) (nat_lt at 0x048) (still (pin_rows {V = ⊤}) at s (search rules))
    (either-way (λ x. x ≡ s) (nat_lt at 0x0c8) (still (memory_rows {V = ⊤}) at s (search rules))
    (either-way (λ x. x ≡ s) (nat_lt at 0x128) (still (map (of_machines {V = ⊤}) machine_rows) at s (search rules))
    (still (interrupt_rows {V = ⊤}) at s (search rules))))))

-- the offsets of the words
abbrev test : ℕ → Bool
test at = at % 4 == 0 && nat_lt at 0x144

high : (at : ℕ) → nat_lt at 0x144 ≡ false → test at ≡ false
high at h = grind (arith, nat_tests, common_steps)

there : (at : ℕ) → test at ≡ is_word at
unfolding is_word
there at = told test 0x144 pio_rows at refl refl (high at)

pub below_end : (at : ℕ) → at % 4 ≡ 0 → nat_lt at 0x144 ≡ is_word at
below_end at h = sym (ap (λ b. b && nat_lt at 0x144) (ap (λ x. x == 0) h)) ∙ there at

pub not_whole : (at : ℕ) → at % 4 ≢ 0 → nat_eq (at % 4) 0 ≡ is_word at
not_whole at h =
    let no : (at % 4 == 0) ≡ false = grind (arith, nat_tests, common_steps) in
    no ∙ sym (ap (λ b. b && nat_lt at 0x144) no) ∙ there at
