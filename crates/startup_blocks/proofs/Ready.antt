-- Nothing that start-up code waits for lasts.
use Rattle.std.proofs.Common.{◌≡◌, ℕ, ◌+◌, ◌*◌, ◌/◌, ◌%◌, ◌^◌, true, Some, refl, ap, ◌∙◌, arith}
use Rattle.std.specs.Prelude.{slice_index}
use Rattle.std.proofs.lemmas.Bool.{eq-eqb, eqb-true}
use Rattle.std.proofs.lemmas.List.{get_or-set_same}
use Rattle.rp_base.specs.Word.{has_bit}
use Rattle.startup_blocks.specs.Laws.{OscillatorAndPllsAreReady, ClocksAreSelectedAtOnce, TheTickRunsAtOnce}

locked : (x : ℕ) → has_bit (0x80000000 + x % 2 ^ 9) 31 ≡ true
locked x = eq-eqb ((0x80000000 + x % 512) / 2147483648 % 2) 1 (omega arith)

pub oscillator_and_plls_are_ready : OscillatorAndPllsAreReady
oscillator_and_plls_are_ready s = record { stable = refl; pll_sys = locked (slice_index s 37); pll_usb = locked (slice_index s 41) }

pub clocks_are_selected_at_once : ClocksAreSelectedAtOnce
clocks_are_selected_at_once s w long = record {
  reference = ap (λ x. Some (2 ^ (x % 4))) (get_or-set_same s 12 w 0 (omega (arith, long)));
  system = ap (λ x. Some (2 ^ (x % 2))) (get_or-set_same s 15 w 0 (omega (arith, long)));
}

running : (w : ℕ) → has_bit w 9 ≡ true → has_bit (w % 2 ^ 10 % 2 ^ 10 + w % 2 ^ 10 / 2 ^ 9 % 2 * 2 ^ 10) 10 ≡ true
running w h =
    let on : w / 512 % 2 ≡ 1 = eqb-true (w / 512 % 2) 1 h in
    eq-eqb ((w % 1024 % 1024 + w % 1024 / 512 % 2 * 1024) / 1024 % 2) 1 (omega (arith, on))

pub the_tick_runs_at_once : TheTickRunsAtOnce
the_tick_runs_at_once s w long h =
    ap (λ v. has_bit (v % 2 ^ 10 + v / 2 ^ 9 % 2 * 2 ^ 10) 10) (get_or-set_same s 45 (w % 2 ^ 10) 0 (omega (arith, long))) ∙ running w h
