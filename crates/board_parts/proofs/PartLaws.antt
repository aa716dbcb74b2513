-- The laws of what parts do.
use Rattle.std.proofs.Common.{◌≡◌, ℕ, zero, suc, ◌+◌, ◌*◌, ◌/◌, ◌%◌, ◌<◌, nat_le, true, false, List, [], ◌∷◌, drop, refl, ap, subst, ◌∙◌, arith}
use Rattle.std.proofs.lemmas.Bool.Decides.{nat_tests}
use Rattle.std.proofs.lemmas.Nat.Bits.{bit_at_or, bit_at-lt}
use Rattle.std.specs.Int.{bit_at}
use Rattle.lane_look.proofs.Pairs.{none_adds_nothing, the_first_device_drives}
use Rattle.board_parts.specs.Part.{at_level}
use Rattle.board_parts.specs.Parts.{wires_by, wires_of}
use Rattle.board_parts.specs.PartLaws.{NoPartsAddNothing, TheEarlierPartDrives, PressedInTheSecondHalf, EightClocksFillTheRegister, ALoopShowsItsFirstPin, Clocks, drive_alone, after_clocks}
use Rattle.board_parts.specs.Shift.{shift}
use Rattle.board_parts.proofs.Levels.{level_at, mask_at, either}

pub no_parts_add_nothing : NoPartsAddNothing
no_parts_add_nothing device =
    let none = none_adds_nothing device in
    record {
      count = none.count;
      first = λ state. refl;
      covers = λ address. refl;
      value = λ state address. refl;
      after_read = λ state address. refl;
      after_write = λ state address value. refl;
      wires = λ state cycle pads low. none.wires state cycle pads low;
      after_step = λ state cycle pads. refl;
    }

pub the_earlier_part_drives : TheEarlierPartDrives
the_earlier_part_drives p others state cycle pads pin word low =
    let drive = drive_alone p state cycle pads in
    let rest = wires_of others (drop p.part.words state) cycle pads in
    record {
      driven = bit_at_or drive.mask rest.mask pin ∙ either (bit_at drive.mask pin) (bit_at rest.mask pin) (bit_at-lt drive.mask pin) (bit_at-lt rest.mask pin);
      at = the_first_device_drives (wires_by drive) rest pin word low;
    }

pub pressed_in_the_second_half : PressedInTheSecondHalf
pressed_in_the_second_half pin turn k pads low =
    let first : (100000 * turn + k) % 100000 ≡ k = omega arith in
    let second : (100000 * turn + 50000 + k) % 100000 ≡ 50000 + k = omega arith in
    let early : nat_le 50000 k ≡ false = grind (arith, nat_tests) in
    let late : nat_le 50000 (50000 + k) ≡ true = grind (arith, nat_tests) in
    (rw (first, early) refl, rw (second, late) refl)

-- one clock moves the register by a bit
one_clock : (clock data_pin out register before low high bit : ℕ) → Clocks clock data_pin low high bit
    → shift.after_step (clock ∷ data_pin ∷ out ∷ []) (shift.after_step (clock ∷ data_pin ∷ out ∷ []) (register ∷ before ∷ []) 0 low) 0 high
    ≡ (2 * register + bit) % 256 ∷ 1 ∷ []
one_clock clock data_pin out register before low high bit h = rw (h.is_low, h.is_high, h.has) refl

-- the register after some shifts
abbrev shifts : ℕ → (ℕ → ℕ) → ℕ → ℕ
shifts register bits zero = register
shifts register bits (suc n) = (2 * shifts register bits n + bits n) % 256

-- eight clocks, one after another: the register by what it was
eight_clocks : (clock data_pin out register before : ℕ) (low high bits : ℕ → ℕ) → ((n : ℕ) → Clocks clock data_pin (low n) (high n) (bits n)) → (n : ℕ)
    → after_clocks (clock ∷ data_pin ∷ out ∷ []) low high (suc n) (register ∷ before ∷ []) ≡ shifts register bits (suc n) ∷ 1 ∷ []
eight_clocks clock data_pin out register before low high bits h zero = one_clock clock data_pin out register before (low 0) (high 0) (bits 0) (h 0)
eight_clocks clock data_pin out register before low high bits h (suc n) =
    let pins : List ℕ = clock ∷ data_pin ∷ out ∷ [] in
    ap (λ s. shift.after_step pins (shift.after_step pins s 0 (low (suc n))) 0 (high (suc n))) (eight_clocks clock data_pin out register before low high bits h n)
    ∙ one_clock clock data_pin out (shifts register bits (suc n)) 1 (low (suc n)) (high (suc n)) (bits (suc n)) (h (suc n))

-- eight shifts push out what was there
pushed : (r0 r1 r2 r3 r4 r5 r6 r7 r8 b0 b1 b2 b3 b4 b5 b6 b7 : ℕ)
    → r1 ≡ (2 * r0 + b0) % 256 → r2 ≡ (2 * r1 + b1) % 256 → r3 ≡ (2 * r2 + b2) % 256 → r4 ≡ (2 * r3 + b3) % 256
    → r5 ≡ (2 * r4 + b4) % 256 → r6 ≡ (2 * r5 + b5) % 256 → r7 ≡ (2 * r6 + b6) % 256 → r8 ≡ (2 * r7 + b7) % 256
    → b0 < 2 → b1 < 2 → b2 < 2 → b3 < 2 → b4 < 2 → b5 < 2 → b6 < 2 → b7 < 2
    → r8 ≡ 128 * b0 + 64 * b1 + 32 * b2 + 16 * b3 + 8 * b4 + 4 * b5 + 2 * b6 + b7
pushed r0 r1 r2 r3 r4 r5 r6 r7 r8 b0 b1 b2 b3 b4 b5 b6 b7 e1 e2 e3 e4 e5 e6 e7 e8 c0 c1 c2 c3 c4 c5 c6 c7 = omega arith

-- bit 7 of a byte
top : (b0 b1 b2 b3 b4 b5 b6 b7 : ℕ) → b0 < 2 → b1 < 2 → b2 < 2 → b3 < 2 → b4 < 2 → b5 < 2 → b6 < 2 → b7 < 2
    → (128 * b0 + 64 * b1 + 32 * b2 + 16 * b3 + 8 * b4 + 4 * b5 + 2 * b6 + b7) / 128 % 2 ≡ b0
top b0 b1 b2 b3 b4 b5 b6 b7 c0 c1 c2 c3 c4 c5 c6 c7 = omega arith

pub eight_clocks_fill_the_register : EightClocksFillTheRegister
eight_clocks_fill_the_register clock data_pin out register before cycle pads low high bits h =
    let small : (n : ℕ) → bits n < 2 = λ n. subst (λ b. b < 2) (h n).has (bit_at-lt (high n) data_pin) in
    let all = eight_clocks clock data_pin out register before low high bits h 7 in
    let whole =
    pushed register _ _ _ _ _ _ _ (shifts register bits 8) (bits 0) (bits 1) (bits 2) (bits 3) (bits 4) (bits 5) (bits 6) (bits 7)
    refl refl refl refl refl refl refl refl (small 0) (small 1) (small 2) (small 3) (small 4) (small 5) (small 6) (small 7) in
    let shows = top (bits 0) (bits 1) (bits 2) (bits 3) (bits 4) (bits 5) (bits 6) (bits 7) (small 0) (small 1) (small 2) (small 3) (small 4) (small 5) (small 6) (small 7) in
    let pins : List ℕ = clock ∷ data_pin ∷ out ∷ [] in
    let state = all ∙ ap (λ r. r ∷ 1 ∷ []) whole in
    (state, ap (λ s. shift.drives pins s cycle pads) state ∙ ap (at_level out) shows)

pub a_loop_shows_its_first_pin : ALoopShowsItsFirstPin
a_loop_shows_its_first_pin from to cycle pads pin =
    (mask_at to pin, level_at (bit_at pads from) to (bit_at-lt pads from))
