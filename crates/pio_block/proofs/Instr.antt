-- A word that is written to INSTR.
use Rattle.std.proofs.Common.{◌≡◌, ℕ, zero, suc, ◌+◌, ◌*◌, ◌%◌, ◌^◌, ◌<◌, List, [], ◌∷◌, length, Some, refl, ap, ◌∙◌, arith}
use Rattle.pio_machine.specs.declared.machine.Machine1.{Machine1}
use Rattle.pio_machine.specs.declared.machine.Seen.{Seen}
use Rattle.pio_machine.specs.Cycle.{word_tried}
use Rattle.pio_block.specs.Registers.{register_written}
use Rattle.pio_block.specs.State.{State, machine_of, changed}
use Rattle.pio_block.specs.Words.{after_any}
use Rattle.pio_block.specs.InstrLaws.{AWrittenWordComesNext}

changed_at : (n : ℕ) (f : Machine1 → Machine1) (ms : List Machine1) → n < length ms → machine_of n (changed n f ms) ≡ f (machine_of n ms)
changed_at n f [] low = absurd (omega (arith, low))
changed_at zero f (m ∷ ms) low = refl
changed_at (suc n) f (m ∷ ms) low = changed_at n f ms (omega (arith, low))

written_at : (s : State) (n w : ℕ) → n < 4 → (after_any (0xd8 + 0x18 * n) (Some w) s).machines ≡ changed n (register_written 0x10 w) s.machines
unfolding after_any register_written
written_at s zero w low = refl
written_at s (suc zero) w low = refl
written_at s (suc (suc zero)) w low = refl
written_at s (suc (suc (suc zero))) w low = refl
written_at s (suc (suc (suc (suc n)))) w low = absurd (omega (arith, low))

tries_it : (m : Machine1) (w : ℕ) (seen : Seen) → word_tried seen (register_written 0x10 w m) ≡ Some (w % 2 ^ 16)
unfolding word_tried register_written
tries_it m w seen = refl

pub comes_next : AWrittenWordComesNext
comes_next s n w seen low four =
    ap (λ ms. word_tried seen (machine_of n ms)) (written_at s n w low)
    ∙ ap (word_tried seen) (changed_at n (register_written 0x10 w) s.machines (omega (arith, low, four)))
    ∙ tries_it (machine_of n s.machines) w seen
