-- The rows of the private bus in their four parts.
use Rattle.std.proofs.Common.{◌≡◌, refl, sym, ap, ◌∙◌, ℕ, false, true, ◌++◌, ◌<◌, drop, Some, None, arith, rules}
use Rattle.std.specs.Prelude.{◌==◌, ◌≤◌, nat_lt, if◌then◌else◌, is_some, ⊤}
use Rattle.std.proofs.lemmas.Grind.{common_steps}
use Rattle.std.proofs.lemmas.Bool.Decides.{nat_tests}
use Rattle.rp_base.specs.Rows.{IsListed, Row, at_row, word_at, effect_at}
use Rattle.rp_base.proofs.Rows.{listed, cut, still}
use Rattle.m0_nvic.specs.State.{State}
use Rattle.m0_nvic.specs.Words.{timer_rows, interrupt_rows, priority_rows, control_rows, bus_rows, of_timer, word_of, is_word, after_access}

pub registers : IsListed bus_rows
registers = listed bus_rows refl

parts : {A : Type 0} (none : A) (found : Row ℕ State → ℕ → A) (at : ℕ)
    → at_row none found bus_rows at
    ≡ (if nat_lt at 0x100 then at_row none found timer_rows at else if nat_lt at 0x400 then at_row none found interrupt_rows at else
    if nat_lt at 0xd00 then at_row none found priority_rows at else at_row none found control_rows at)
parts none found at =
    cut none found 0x100 timer_rows (interrupt_rows ++ priority_rows ++ control_rows) at refl
    ∙ ap (λ x. if nat_lt at 0x100 then at_row none found timer_rows at else x)
    (cut none found 0x400 interrupt_rows (priority_rows ++ control_rows) at refl
    ∙ ap (λ x. if nat_lt at 0x400 then at_row none found interrupt_rows at else x) (cut none found 0xd00 priority_rows control_rows at refl))

below : (at bound : ℕ) → at < bound → nat_lt at bound ≡ true
below at bound h = grind (arith, nat_tests, common_steps)

above : (at bound : ℕ) → bound ≤ at → nat_lt at bound ≡ false
above at bound h = grind (arith, nat_tests, common_steps)

pub timer_word : (s : State) (at ipsr : ℕ) → at < 0x100 → word_of at ipsr s ≡ word_at (timer_rows {V = ⊤}) tt at s
unfolding word_of
timer_word s at ipsr h = parts None (λ row n. Some (row.reads n ipsr s)) at ∙ rw (below at 0x100 h) refl

pub interrupt_word : (s : State) (at ipsr : ℕ) → 0x100 ≤ at → at < 0x400 → word_of at ipsr s ≡ word_at (interrupt_rows {V = ⊤}) tt at s
unfolding word_of
interrupt_word s at ipsr g h = parts None (λ row n. Some (row.reads n ipsr s)) at ∙ rw (above at 0x100 g, below at 0x400 h) refl

pub priority_word : (s : State) (at ipsr : ℕ) → 0x400 ≤ at → at < 0xd00 → word_of at ipsr s ≡ word_at (priority_rows {V = ⊤}) tt at s
unfolding word_of
priority_word s at ipsr g h =
    parts None (λ row n. Some (row.reads n ipsr s)) at ∙ rw (above at 0x100 (omega (arith, g)), above at 0x400 g, below at 0xd00 h) refl

pub control_word : (s : State) (at ipsr : ℕ) → 0xd00 ≤ at → word_of at ipsr s ≡ word_at control_rows ipsr at s
unfolding word_of
control_word s at ipsr g =
    parts None (λ row n. Some (row.reads n ipsr s)) at
    ∙ rw (above at 0x100 (omega (arith, g)), above at 0x400 (omega (arith, g)), above at 0xd00 g) refl

pub timer_write : (at w : ℕ) (s : State) → at < 0x100 → after_access at (Some w) s ≡ effect_at (timer_rows {V = ⊤}) at (Some w) s
unfolding after_access
timer_write at w s h = parts s (λ row n. row.write_does n w s) at ∙ rw (below at 0x100 h) refl

pub interrupt_write : (at w : ℕ) (s : State) → 0x100 ≤ at → at < 0x400
    → after_access at (Some w) s ≡ effect_at (interrupt_rows {V = ⊤}) at (Some w) s
unfolding after_access
interrupt_write at w s g h = parts s (λ row n. row.write_does n w s) at ∙ rw (above at 0x100 g, below at 0x400 h) refl

pub priority_write : (at w : ℕ) (s : State) → 0x400 ≤ at → at < 0xd00
    → after_access at (Some w) s ≡ effect_at (priority_rows {V = ⊤}) at (Some w) s
unfolding after_access
priority_write at w s g h =
    parts s (λ row n. row.write_does n w s) at ∙ rw (above at 0x100 (omega (arith, g)), above at 0x400 g, below at 0xd00 h) refl

pub control_write : (at w : ℕ) (s : State) → 0xd00 ≤ at → after_access at (Some w) s ≡ effect_at control_rows at (Some w) s
unfolding after_access
control_write at w s g =
    parts s (λ row n. row.write_does n w s) at
    ∙ rw (above at 0x100 (omega (arith, g)), above at 0x400 (omega (arith, g)), above at 0xd00 g) refl

-- a read of SYST_CSR alone does something
pub reads : (at : ℕ) (s : State) → after_access at None s ≡ (if at == 0x010 then of_timer (λ t. record t { counted = false }) s else s)
unfolding after_access
reads at s = ap (λ x. if at == 0x010 then of_timer (λ t. record t { counted = false }) s else x) (still (drop 1 bus_rows) at s (search rules))

pub there : (s : State) (at ipsr : ℕ) → is_some (word_of at ipsr s) ≡ is_word at
unfolding word_of is_word
there s at ipsr = sym (registers.is_word at ipsr s)
