-- Cycles in which no slice is enabled.
use Rattle.std.proofs.Common.{◌≡◌, ◌∙◌, ℕ, zero, suc, ◌%◌, ◌^◌, ◌<◌, true, Bool, cond, List, length, slice_index, slice_set, refl, sym, ap, arith}
use Rattle.std.specs.Prelude.{◌==◌, bit_and}
use Rattle.std.proofs.lemmas.List.{get_or-set_other, length-set, set-set}
use Rattle.std.proofs.lemmas.Nat.{and_mask}
use Rattle.lane_look.specs.Quiet.{device_step, device_after, IsDeviceQuiet}
use Rattle.lane_look.proofs.Times.{times_closed}
use Rattle.pwm_block.specs.Packing.{words_of, block_of}
use Rattle.pwm_block.specs.Step.{after_step}
use Rattle.pwm_block.specs.Device.{packed_wires, packed_step, pwm_device}

-- as the code tests it
is-off : (signs : ℕ) → bit_and signs 255 ≡ 0 → (signs % 2 ^ 8 == 0) ≡ true
is-off signs h = let e : signs % 2 ^ 8 ≡ 0 = sym (and_mask signs 8) ∙ h in ap (λ (x : ℕ). x == 0) e

-- the last levels of the pads are kept, and nothing else changes
abbrev pub off : ℕ → List ℕ → ℕ → List ℕ
off pads ws zero = ws
off pads ws (suc n) = slice_set ws 66 pads

off-one : (pads : ℕ) (ws : List ℕ) → (slice_index ws 65 % 2 ^ 8 == 0) ≡ true → packed_step pads ws ≡ slice_set ws 66 pads
off-one pads ws e = ap (λ (b : Bool). cond b (slice_set ws 66 pads) (words_of (after_step pads (block_of ws)))) e

off-step : (pads : ℕ) (ws : List ℕ) (k : ℕ) → (slice_index ws 65 % 2 ^ 8 == 0) ≡ true → packed_step pads (off pads ws k) ≡ slice_set ws 66 pads
off-step pads ws zero e = off-one pads ws e
off-step pads ws (suc k) e =
    let same : slice_index (slice_set ws 66 pads) 65 ≡ slice_index ws 65 = get_or-set_other ws 66 65 pads 0 (omega arith) in
    off-one pads (slice_set ws 66 pads) (ap (λ (x : ℕ). x % 2 ^ 8 == 0) same ∙ e) ∙ set-set ws 66 pads pads

pub off-after : (pads : ℕ) (ws : List ℕ) (first n : ℕ) → (slice_index ws 65 % 2 ^ 8 == 0) ≡ true → device_after pwm_device pads first n ws ≡ off pads ws n
off-after pads ws first n e =
    times_closed (device_step pwm_device pads) first ws n (off pads ws) refl (λ k lt. off-step pads ws k e) n (omega arith)

wires-off : (pads : ℕ) (ws : List ℕ) (k : ℕ) → packed_wires (off pads ws k) ≡ packed_wires ws
wires-off pads ws zero = refl
wires-off pads ws (suc k) =
    let pins : slice_index (slice_set ws 66 pads) 64 ≡ slice_index ws 64 = get_or-set_other ws 66 64 pads 0 (omega arith) in
    let signs : slice_index (slice_set ws 66 pads) 65 ≡ slice_index ws 65 = get_or-set_other ws 66 65 pads 0 (omega arith) in
    rw (pins, signs) refl

length-off : (pads : ℕ) (ws : List ℕ) (k : ℕ) → length (off pads ws k) ≡ length ws
length-off pads ws zero = refl
length-off pads ws (suc k) = length-set ws 66 pads

pub off_quiet : (ws : List ℕ) (cycle pads n : ℕ) → length ws ≡ 68 → bit_and (slice_index ws 65) 255 ≡ 0 → IsDeviceQuiet pwm_device ws cycle pads n
off_quiet ws cycle pads n fits e = record {
  drives = λ k lt. ap packed_wires (off-after pads ws cycle k (is-off _ e)) ∙ wires-off pads ws k;
  words = λ k le. ap length (off-after pads ws cycle k (is-off _ e)) ∙ (length-off pads ws k ∙ fits);
}

pub off_passed : (pads : ℕ) (ws : List ℕ) (first n : ℕ) → 0 < n → bit_and (slice_index ws 65) 255 ≡ 0 → slice_set ws 66 pads ≡ device_after pwm_device pads first n ws
off_passed pads ws first zero pos e = absurd (omega arith)
off_passed pads ws first (suc n) pos e = sym (off-after pads ws first (suc n) (is-off _ e))
