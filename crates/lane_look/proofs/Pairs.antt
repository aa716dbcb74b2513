-- Two devices side by side: whose level a pad has, and that one which is none adds nothing.
use Rattle.std.proofs.Common.{◌≡◌, ℕ, zero, suc, ◌-◌, ◌%◌, ◌^◌, ◌<◌, ◌==◌, min, max, if◌then◌else◌, refl, ◌∙◌, zero-add, arith, bit_and, bit_or}
use Rattle.std.specs.Int.{bit_at, bit_not, w32}
use Rattle.std.specs.Int.Bits.{or_zero_l}
use Rattle.std.proofs.lemmas.Nat.{and_mask}
use Rattle.std.proofs.lemmas.Nat.Bits.{bit_at_and, bit_at_or, bit_at_not, bit_at-lt}
use Rattle.lane_look.specs.declared.device.Wires.{Wires}
use Rattle.lane_look.specs.Device.{joined, no_wires}
use Rattle.lane_look.specs.DeviceLaws.{TheFirstDeviceDrives, NoneAddsNothing}

-- of two bits a third one chooses
chosen : (x y m : ℕ) → x < 2 → y < 2 → m < 2 → max (min x m) (min y (1 - m)) ≡ (if m == 1 then x else y)
chosen x y zero bx by bm = omega arith
chosen x y (suc zero) bx by bm = omega arith
chosen x y (suc (suc m)) bx by bm = absurd (omega arith)

pub the_first_device_drives : TheFirstDeviceDrives
the_first_device_drives a b pad word low =
    bit_at_or (bit_and a.level a.mask) (bit_and b.level (bit_not w32 a.mask)) pad
    ∙ rw (bit_at_and a.level a.mask pad, bit_at_and b.level (bit_not w32 a.mask) pad, bit_at_not w32 a.mask pad word low) (chosen (bit_at a.level pad) (bit_at b.level pad) (bit_at a.mask pad) (bit_at-lt a.level pad) (bit_at-lt b.level pad) (bit_at-lt a.mask pad))

-- all bits of a word are the word
all_bits : (n : ℕ) → n < 2 ^ 32 → bit_or 0 (bit_and n (2 ^ 32 - 1)) ≡ n
all_bits n low =
    let small : n % 2 ^ 32 ≡ n = omega arith in
    or_zero_l (bit_and n (2 ^ 32 - 1)) ∙ (and_mask n 32 ∙ small)

same_wires : (w : Wires) (mask level pwm irq : ℕ) → mask ≡ w.mask → level ≡ w.level → pwm ≡ w.pwm → irq ≡ w.irq → record { mask = mask; level = level; pwm = pwm; irq = irq } ≡ w
same_wires w mask level pwm irq m l p i = rw (m, l, p, i) refl

joined-none : (w : Wires) → w.level < 2 ^ 32 → joined no_wires w ≡ w
joined-none w low =
    same_wires w _ _ _ _ (or_zero_l w.mask) (all_bits w.level low) (or_zero_l w.pwm) (or_zero_l w.irq)

pub none_adds_nothing : NoneAddsNothing
none_adds_nothing d =
    record {
      count = zero-add d.count;
      first = λ state. refl;
      covers = λ address. refl;
      value = λ state address. refl;
      after_read = λ state address. refl;
      after_write = λ state address value. refl;
      wires = λ state cycle pads low. joined-none (d.wires state cycle pads) low;
      after_step = λ state cycle pads. refl;
    }
