-- No FIFO of a block holds more words than it has room for.
use Rattle.std.proofs.Common.{◌≡◌, ◌∙◌, ap, sym, subst, ℕ, zero, suc, ◌+◌, ◌*◌, ◌/◌, ◌%◌, ◌^◌, ◌≤◌, Bool, true, false, ◌==◌, nat_le, if◌then◌else◌, List, [], ◌∷◌, ◌++◌, length, length-append, Option, Some, None, refl, arith, bit_and}
use Rattle.std.specs.Prelude.{map, ⊤}
use Rattle.std.proofs.lemmas.Bool.Decides.{nat_tests}
use Rattle.rp_base.specs.Word.{has_bit}
use Rattle.pio_machine.specs.declared.machine.Machine1.{Machine1}
use Rattle.pio_machine.specs.Fields.{tx_depth, is_tx_full}
use Rattle.pio_machine.specs.Operation.{with_pc}
use Rattle.pio_machine.specs.Start as machine
use Rattle.pio_machine.specs.Clock.{IsWithin}
use Rattle.pio_machine.specs.Cycle as cycle
use Rattle.pio_machine.proofs.Clock.{a_cycle_keeps_the_fifos_within}
use Rattle.pio_block.specs.State.{State, at_reset, changed, each_from}
use Rattle.pio_block.specs.Control.{restarted_if, with_divider_restarted, with_enable, controlled, control_written}
use Rattle.pio_block.specs.Queues.{with_stalls_cleared, debug_written, with_sent, sent, with_rx, with_taken, taken}
use Rattle.pio_machine.specs.Progress.{forced}
use Rattle.pio_block.specs.Registers.{execctrl_bits, joined, with_shiftctrl, machine_rows}
use Rattle.pio_block.specs.Cycle.{seen_by, all_stepped, next, after_cycle}
use Rattle.pio_block.specs.Cycle as block
use Rattle.pio_block.specs.Words.{of_machines, interrupt_rows, pio_rows, is_allowed, after_any, effect_of}
use Rattle.rp_base.proofs.Rows.{Kept, keeps}
use Rattle.pio_block.specs.Laws.{AreWithin, Happening, after, after_all, NoFifoHoldsTooMuch}
use Rattle.pio_block.specs.Laws.Happening.{Cycle, Access, Reset, Counter}

-- ---- one machine

-- what leaves both FIFOs and SHIFTCTRL
alike : (m next : Machine1) → next.tx ≡ m.tx → next.rx ≡ m.rx → next.shiftctrl ≡ m.shiftctrl → IsWithin m → IsWithin next
alike m next t r s w =
    record {
      tx = rw (t, s) w.tx;
      rx = rw (r, s) w.rx;
    }

-- a change that keeps each FIFO within its room
abbrev Keeps : (Machine1 → Machine1) → Type 0
Keeps f = (m : Machine1) → IsWithin m → IsWithin (f m)

restarts : (asked : Bool) → Keeps (restarted_if asked)
restarts true m w = alike m _ refl refl refl w
restarts false m w = w

divider_restarts : (asked : Bool) → Keeps (with_divider_restarted asked)
divider_restarts true m w = alike m _ refl refl refl w
divider_restarts false m w = w

controls : (word n : ℕ) → Keeps (controlled word n)
unfolding controlled
controls word n m w =
    let enabled = with_enable (has_bit word n) m in
    divider_restarts (has_bit word (8 + n)) _ (restarts (has_bit word (4 + n)) enabled (alike m enabled refl refl refl w))

one_more : (d l : ℕ) → nat_le d l ≡ false → l + 1 ≤ d
one_more d l h = grind (arith, nat_tests)

longer : (words : List ℕ) (word d : ℕ) → nat_le d (length words) ≡ false → length (words ++ word ∷ []) ≤ d
longer words word d h = subst (λ (l : ℕ). l ≤ d) (sym (length-append words (word ∷ []))) (one_more d (length words) h)

sends-by : (full : Bool) (word : ℕ) (m : Machine1) → is_tx_full m ≡ full → IsWithin m → IsWithin (if full then m else record m { tx = m.tx ++ word ∷ [] })
sends-by true word m h w = w
sends-by false word m h w = record { tx = longer m.tx word (tx_depth m) h; rx = w.rx }

sends : (word : ℕ) → Keeps (with_sent word)
sends word m w = sends-by (is_tx_full m) word m refl w

takes-by : (words : List ℕ) (m : Machine1) → m.rx ≡ words → IsWithin m → IsWithin (with_rx words m)
takes-by [] m h w = w
takes-by (word ∷ rest) m h w = record { tx = w.tx; rx = omega (arith, ap (λ ws. length ws) h, w.rx) }

takes : Keeps with_taken
takes m w = takes-by m.rx m refl w

-- ---- SHIFTCTRL

-- the joins are in bits 31 and 30
same_top : (s word : ℕ) → (s / 2 ^ 30 == word / 2 ^ 30) ≡ true → word / 2 ^ 16 * 2 ^ 16 / 2 ^ 30 ≡ s / 2 ^ 30
same_top s word h = grind (arith, nat_tests)

top_bit : (s : ℕ) → s / 2 ^ 31 ≡ s / 2 ^ 30 / 2
top_bit s = omega arith

same_join_rx : (s t : ℕ) → t / 2 ^ 30 ≡ s / 2 ^ 30 → has_bit t 31 ≡ has_bit s 31
same_join_rx s t h = ap (λ n. n % 2 == 1) (top_bit t ∙ ap (λ n. n / 2) h ∙ sym (top_bit s))

same_join_tx : (s t : ℕ) → t / 2 ^ 30 ≡ s / 2 ^ 30 → has_bit t 30 ≡ has_bit s 30
same_join_tx s t h = ap (λ n. n % 2 == 1) h

shifts-by : (b : Bool) (word : ℕ) (m : Machine1) → (m.shiftctrl / 2 ^ 30 == word / 2 ^ 30) ≡ b → IsWithin m
    → IsWithin (with_shiftctrl word (if b then m else record m { tx = []; rx = [] }))
shifts-by true word m h w =
    let top : word / 2 ^ 16 * 2 ^ 16 / 2 ^ 30 ≡ m.shiftctrl / 2 ^ 30 = same_top m.shiftctrl word h in
    record {
      tx = rw (same_join_rx m.shiftctrl (word / 2 ^ 16 * 2 ^ 16) top, same_join_tx m.shiftctrl (word / 2 ^ 16 * 2 ^ 16) top) w.tx;
      rx = rw (same_join_rx m.shiftctrl (word / 2 ^ 16 * 2 ^ 16) top, same_join_tx m.shiftctrl (word / 2 ^ 16 * 2 ^ 16) top) w.rx;
    }
shifts-by false word m h w = record { tx = omega arith; rx = omega arith }

-- ---- four machines

changes : (n : ℕ) (f : Machine1 → Machine1) (ms : List Machine1) → Keeps f → AreWithin ms → AreWithin (changed n f ms)
changes n f [] k w = w
changes zero f (m ∷ ms) k w = (k m w.0, w.1)
changes (suc n) f (m ∷ ms) k w = (w.0, changes n f ms k w.1)

all-from : (n : ℕ) (f : ℕ → Machine1 → Machine1) (ms : List Machine1) → ((k : ℕ) → Keeps (f k)) → AreWithin ms → AreWithin (each_from n f ms)
all-from n f [] k w = w
all-from n f (m ∷ ms) k w = (k n m w.0, all-from (n + 1) f ms k w.1)

-- ---- a block

abbrev Within : State → Type 0
Within s = AreWithin s.machines

-- a choice of two blocks
either : (b : Bool) (x y : State) → Within x → Within y → Within (if b then x else y)
either true x y v w = v
either false x y v w = w

-- what a write of a register leaves of the machines
writes-within : (f : ℕ → Machine1 → Machine1) (s : State) → ((w : ℕ) → Keeps (f w)) → Within s
    → (n : ℕ) → Within s × ((w : ℕ) → Within (record s { machines = changed n (f w) s.machines }))
writes-within f s k w n = (w, λ word. changes n (f word) s.machines (k word) w)

all-kept : (s : State) → Within s → Kept Within s pio_rows
unfolding control_written debug_written sent taken
all-kept s w =
    let ctrl : (n : ℕ) → Within s × ((word : ℕ) → Within (control_written word s)) =
    λ n. (w, λ word. all-from 0 (controlled word) s.machines (controls word) w) in
    let debug : (n : ℕ) → Within s × ((word : ℕ) → Within (debug_written word s)) =
    λ n. (w, λ word. all-from 0 (with_stalls_cleared word) s.machines (λ k m v. alike m _ refl refl refl v) w) in
    let tx : (n : ℕ) → Within s × ((word : ℕ) → Within (sent n word s)) = λ n. (w, λ word. changes n (with_sent word) s.machines (sends word) w) in
    let rx : (n : ℕ) → Within (taken n s) × (ℕ → Within s) = λ n. (changes n with_taken s.machines takes w, λ word. w) in
    let div = writes-within (λ word m. record m { clkdiv = word / 2 ^ 8 * 2 ^ 8 }) s (λ word m v. alike m _ refl refl refl v) w in
    let exec = writes-within (λ word m. record m { execctrl = bit_and word execctrl_bits }) s (λ word m v. alike m _ refl refl refl v) w in
    let shift =
    writes-within (λ word m. with_shiftctrl word (joined word m)) s (λ word m v. shifts-by (m.shiftctrl / 2 ^ 30 == word / 2 ^ 30) word m refl v) w in
    let addr = writes-within (λ word m. m) s (λ word m v. v) w in
    let instr = writes-within (λ word m. record m { waiting = Some (forced (word % 2 ^ 16)) }) s (λ word m v. alike m _ refl refl refl v) w in
    let pin = writes-within (λ word m. record m { pinctrl = word }) s (λ word m v. alike m _ refl refl refl v) w in
    let k : (n : ℕ) → Within s × (ℕ → Within s) = λ n. (w, λ word. w) in
    let machines : Kept Within s (map (of_machines {V = ⊤}) machine_rows ++ interrupt_rows) =
    (div, (exec, (shift, (addr, (instr, (pin, (k, (k, (k, (k, (k, (k, (k, tt))))))))))))) in
    (ctrl, (k, (debug, (k, (tx, (rx, (k, (k, (k, (k, (k, (k, (k, machines)))))))))))))

effect-within : (offset : ℕ) (write : Option ℕ) (s : State) → Within s → Within (effect_of offset write s)
unfolding effect_of after_any
effect-within offset write s w =
    either (is_allowed offset write) _ _ (keeps Within pio_rows offset write s w (all-kept s w)) w

cycle-within : (now second : ℕ) (s : State) → Within s → Within (after_cycle now second s)
unfolding after_cycle all_stepped block.joined
cycle-within now second s w =
    all-from 0 (λ n m. cycle.after_cycle n (seen_by now second s) m) s.machines
    (λ n m v. a_cycle_keeps_the_fifos_within n (seen_by now second s) m v) w

reset-within : Within at_reset
reset-within =
    let one : IsWithin machine.at_reset = record { tx = omega arith; rx = omega arith } in
    (one, (one, (one, (one, tt))))

after-within : (h : Happening) (s : State) → Within s → Within (after h s)
unfolding next
after-within (Cycle None) s w = w
after-within (Cycle (Some inputs)) s w = cycle-within inputs.now inputs.second s w
after-within (Access offset write) s w = effect-within offset write s w
after-within Reset s w = reset-within
after-within (Counter machine address) s w =
    changes machine (with_pc address) s.machines (λ m v. alike m _ refl refl refl v) w

all-within : (hs : List Happening) (s : State) → Within s → Within (after_all hs s)
all-within [] s w = w
all-within (h ∷ hs) s w = all-within hs (after h s) (after-within h s w)

pub no_fifo_holds_too_much : NoFifoHoldsTooMuch
no_fifo_holds_too_much hs = all-within hs at_reset reset-within
