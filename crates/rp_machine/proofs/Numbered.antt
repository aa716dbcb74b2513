-- The interrupt lines bit by bit, and the reads of a spinlock.
use Rattle.std.proofs.Common.{◌≡◌, ℕ, zero, suc, ◌+◌, ◌*◌, ◌/◌, ◌%◌, ◌^◌, ◌<◌, ◌≤◌, ◌==◌, nat_le, Bool, true, false, not, ◌&&◌, ◌||◌, cond, Some, None, refl, sym, ap, ap₂, ◌∙◌, arith}
use Rattle.std.specs.Prelude.{bit_or, unwrap_or, is_none, if◌then◌else◌}
use Rattle.std.proofs.Math.Nat.{pow-le-pow_right, lt_of_lt_of_le, div-eq_of_lt}
use Rattle.std.proofs.lemmas.Bool.{eq-eqb}
use Rattle.rp_machine.proofs.Shared.{Request, SeenOutputs, Setting, Spot, State, Want, bit_number, block_lines, has_bit, input_of, is_done_at, lines_of, nat_tests, place_of, told_at, turn_at, turn_of, word_for}
use Rattle.std.proofs.lemmas.Grind.{common_steps}
use Rattle.rp_base.specs.declared.Master.TheVariants as master
use Rattle.rp_base.specs.declared.map.Spot.TheVariants as spot
use Rattle.lane_look.specs.declared.lane.Want.TheVariants as want
use Rattle.lane_look.specs.declared.lane.Turn.TheVariants as turn
use Rattle.io_bank.proofs.Bits.{has_or}
use Rattle.dma_engine.specs.Words as dma
use Rattle.pio_block.specs.Words as pio
use Rattle.rp_timer.specs.State as timer
use Rattle.rp_uart.specs.Interrupts.{is_line_high}
use Rattle.rp_base.specs.Rows.{Each, is_at, number_at}
use Rattle.sio_block.specs.Locks.{lock_word}
use Rattle.sio_block.specs.Side.{line_of}
use Rattle.sio_block.specs.State.{State as SioState}
use Rattle.sio_block.specs.Words as sio
use Rattle.outer_lane.specs.Lines.{bank_line, outer_lines}
use Rattle.outer_lane.specs.Lines as outer
use Rattle.rp_machine.specs.Deeds as deeds
use Rattle.rp_machine.specs.LineLaws.{has_line, with_device, line_at, AreNumbered, EachLineHasItsNumber, IsLockRead, OneCoreGetsALock}

-- ---- tables

abbrev same : Bool → Bool → Bool
same a b = cond a b (not b)

same-true : (a b : Bool) → same a b ≡ true → a ≡ b
same-true true b h = sym h
same-true false true h = h
same-true false false h = refl

abbrev for_both : (Bool → Bool) → Bool
for_both test = test true && test false

left_of : (a b : Bool) → (a && b) ≡ true → a ≡ true
left_of true b h = refl
left_of false b h = h

right_of : (a b : Bool) → (a && b) ≡ true → b ≡ true
right_of true b h = h
right_of false b h = absurd (cc)

for_both-at : (test : Bool → Bool) (b : Bool) → for_both test ≡ true → test b ≡ true
for_both-at test true h = left_of (test true) (test false) h
for_both-at test false h = right_of (test true) (test false) h

-- ---- the lines of IO_BANK0 and of the UARTs

abbrev outer_number : Bool → Bool → Bool → ℕ
outer_number a b c = bit_number a * 2 ^ 13 + bit_number b * 2 ^ 20 + bit_number c * 2 ^ 21

abbrev outer_line : ℕ → Bool → Bool → Bool → Bool
outer_line n a b c = if n == 13 then a else if n == 20 then b else if n == 21 then c else false

abbrev outer_test : ℕ → Bool → Bool → Bool → Bool
outer_test n a b c = same (has_bit (outer_number a b c) n) (outer_line n a b c)

abbrev outer_tests : ℕ → Bool
outer_tests n = for_both (λ a. for_both (λ b. for_both (outer_test n a b)))

outer_at : (n : ℕ) (a b c : Bool) → outer_tests n ≡ true → has_bit (outer_number a b c) n ≡ outer_line n a b c
outer_at n a b c h =
    same-true (has_bit (outer_number a b c) n) (outer_line n a b c)
    (for_both-at (outer_test n a b) c (for_both-at (λ b. for_both (outer_test n a b)) b (for_both-at (λ a. for_both (λ b. for_both (outer_test n a b))) a h)))

-- ---- those of PIO, the DMA engine and SIO

abbrev pair : Bool → Bool → ℕ
pair a b = bit_number a + bit_number b * 2

abbrev block_number : ℕ → Bool → Bool → Bool → Bool → Bool → Bool → Bool → ℕ
block_number sio a b c d e f g = (pair a b * 2 ^ 7 + pair c d * 2 ^ 9 + pair e f * 2 ^ 11) + bit_number g * 2 ^ sio

abbrev block_line : ℕ → ℕ → Bool → Bool → Bool → Bool → Bool → Bool → Bool → Bool
block_line sio n a b c d e f g =
    if n == 7 then a else if n == 8 then b else if n == 9 then c else if n == 10 then d else if n == 11 then e else if n == 12 then f else
    if n == sio then g else false

abbrev block_test : ℕ → ℕ → Bool → Bool → Bool → Bool → Bool → Bool → Bool → Bool
block_test sio n a b c d e f g = same (has_bit (block_number sio a b c d e f g) n) (block_line sio n a b c d e f g)

abbrev block_tests : ℕ → ℕ → Bool
block_tests sio n =
    for_both (λ a. for_both (λ b. for_both (λ c. for_both (λ d. for_both (λ e. for_both (λ f. for_both (block_test sio n a b c d e f)))))))

block_at : (sio n : ℕ) (a b c d e f g : Bool) → block_tests sio n ≡ true → has_bit (block_number sio a b c d e f g) n ≡ block_line sio n a b c d e f g
block_at sio n a b c d e f g h =
    same-true (has_bit (block_number sio a b c d e f g) n) (block_line sio n a b c d e f g)
    (for_both-at (block_test sio n a b c d e f) g (for_both-at (λ f. for_both (block_test sio n a b c d e f)) f
    (for_both-at (λ e. for_both (λ f. for_both (block_test sio n a b c d e f))) e
    (for_both-at (λ d. for_both (λ e. for_both (λ f. for_both (block_test sio n a b c d e f)))) d
    (for_both-at (λ c. for_both (λ d. for_both (λ e. for_both (λ f. for_both (block_test sio n a b c d e f))))) c
    (for_both-at (λ b. for_both (λ c. for_both (λ d. for_both (λ e. for_both (λ f. for_both (block_test sio n a b c d e f)))))) b
    (for_both-at (λ a. for_both (λ b. for_both (λ c. for_both (λ d. for_both (λ e. for_both (λ f. for_both (block_test sio n a b c d e f))))))) a h)))))))

-- ---- the lines of a core

abbrev parts : Bool → Bool → Bool → Bool → Bool
parts device tick outer block = (device || (tick || outer)) || block

-- those of PIO, the DMA engine and SIO, where the one of SIO stands at this number
abbrev own_block : ℕ → ℕ → Bool → State → Bool
own_block sio n line s =
    block_line sio n (line_at (pio.lines_of s.pio0.block) 0) (line_at (pio.lines_of s.pio0.block) 1) (line_at (pio.lines_of s.pio1.block) 0) (line_at (pio.lines_of s.pio1.block) 1)
    (line_at (dma.lines_of s.dma.block) 0) (line_at (dma.lines_of s.dma.block) 1) line

-- where the lines of SIO to a core stand, and which it has
abbrev sio_at : ℕ → ℕ
sio_at core = if core == 0 then 15 else 16

abbrev sio_line : ℕ → State → Bool
sio_line core s = if core == 0 then line_of s.sio.core0 else line_of s.sio.core1

abbrev own_outer : ℕ → ℕ → State → Bool
own_outer core n s = outer_line n (bank_line core s.outer.pads) (is_line_high s.outer.uart0.block) (is_line_high s.outer.uart1.block)

-- a line of core 0 or 1 is one of the device's, or of the timer's, or one of these
line_is : (core n : ℕ) (s : State) → core < 2 → outer_tests n ≡ true → block_tests (sio_at core) n ≡ true
    → has_line core s n ≡ parts (has_bit s.outer.irq n) (has_bit (timer.lines_of s.outer.timer.block) n) (own_outer core n s) (own_block (sio_at core) n (sio_line core s) s)
unfolding lines_of outer_lines outer.block_lines block_lines
line_is core n s low outers blocks =
    let o = outer_number (bank_line core s.outer.pads) (is_line_high s.outer.uart0.block) (is_line_high s.outer.uart1.block) in
    let t = timer.lines_of s.outer.timer.block in
    has_or (outer_lines core s.outer) (block_lines core s) n
    ∙ ap₂ (λ a b. a || b)
    (has_or s.outer.irq (bit_or t o) n ∙ ap (λ b. has_bit s.outer.irq n || b) (has_or t o n ∙ ap (λ b. has_bit t n || b) (outer_at n _ _ _ outers)))
    (block_bit core low blocks)
  where
    block_bit : (core : ℕ) → core < 2 → block_tests (sio_at core) n ≡ true → has_bit (block_lines core s) n ≡ own_block (sio_at core) n (sio_line core s) s
    block_bit zero low h = block_at 15 n _ _ _ _ _ _ _ h
    block_bit (suc zero) low h = block_at 16 n _ _ _ _ _ _ _ h
    block_bit (suc (suc core)) low h = absurd (omega (arith, low))

-- the timer has no line from 4 on
no_tick : (x n : ℕ) → x < 2 ^ 4 → 4 ≤ n → has_bit x n ≡ false
no_tick x n small high =
    let some : 0 < 2 = omega arith in
    let large : 2 ^ 4 ≤ 2 ^ n = pow-le-pow_right some high in
    let none : x / 2 ^ n ≡ 0 = div-eq_of_lt (lt_of_lt_of_le small large) in
    ap (λ y. (y % 2) == 1) none

-- one of these
only : (d t o b line : Bool) → t ≡ false → (o || b) ≡ line → parts d t o b ≡ (d || line)
only true t o b line none is = refl
only false t o b line none is = rw none is

-- or one of the timer's
ticks : (d t o b : Bool) → (o || b) ≡ false → parts d t o b ≡ (d || t)
ticks true t o b none = refl
ticks false true o b none = refl
ticks false false o b none = none

line_at_number : (core n : ℕ) (s : State) (line : Bool) → core < 2 → timer.lines_of s.outer.timer.block < 2 ^ 4 → nat_le 4 n ≡ true → outer_tests n ≡ true → block_tests (sio_at core) n ≡ true
    → (own_outer core n s || own_block (sio_at core) n (sio_line core s) s) ≡ line → has_line core s n ≡ with_device s n line
line_at_number core n s line low small high outers blocks is =
    line_is core n s low outers blocks ∙ only (has_bit s.outer.irq n) _ _ _ line (no_tick _ n small (grind (arith, nat_tests))) is

tick_at : (core n : ℕ) (s : State) → core < 2 → outer_tests n ≡ true → block_tests (sio_at core) n ≡ true → (own_outer core n s || own_block (sio_at core) n (sio_line core s) s) ≡ false
    → has_line core s n ≡ with_device s n (has_bit (timer.lines_of s.outer.timer.block) n)
tick_at core n s low outers blocks none = line_is core n s low outers blocks ∙ ticks (has_bit s.outer.irq n) (has_bit (timer.lines_of s.outer.timer.block) n) _ _ none

or_none : (b : Bool) → (b || false) ≡ b
or_none true = refl
or_none false = refl

numbered_0 : (s : State) → timer.lines_of s.outer.timer.block < 2 ^ 4 → AreNumbered 0 s
numbered_0 s small = record {
  timer = tick;
  pio0_0 = line_at_number 0 7 s _ low small refl refl refl refl;
  pio0_1 = line_at_number 0 8 s _ low small refl refl refl refl;
  pio1_0 = line_at_number 0 9 s _ low small refl refl refl refl;
  pio1_1 = line_at_number 0 10 s _ low small refl refl refl refl;
  dma_0 = line_at_number 0 11 s _ low small refl refl refl refl;
  dma_1 = line_at_number 0 12 s _ low small refl refl refl refl;
  io_bank = line_at_number 0 13 s _ low small refl refl refl (or_none _);
  sio_0 = line_at_number 0 15 s _ low small refl refl refl refl;
  sio_1 = line_at_number 0 16 s _ low small refl refl refl refl;
  uart0 = line_at_number 0 20 s _ low small refl refl refl (or_none _);
  uart1 = line_at_number 0 21 s _ low small refl refl refl (or_none _);
}
  where
    low : 0 < 2
    low = omega arith

    tick : (n : ℕ) → n < 4 → has_line 0 s n ≡ with_device s n (has_bit (timer.lines_of s.outer.timer.block) n)
    tick zero few = tick_at 0 0 s low refl refl refl
    tick (suc zero) few = tick_at 0 1 s low refl refl refl
    tick (suc (suc zero)) few = tick_at 0 2 s low refl refl refl
    tick (suc (suc (suc zero))) few = tick_at 0 3 s low refl refl refl
    tick (suc (suc (suc (suc n)))) few = absurd (omega (arith, few))

numbered_1 : (s : State) → timer.lines_of s.outer.timer.block < 2 ^ 4 → AreNumbered 1 s
numbered_1 s small = record {
  timer = tick;
  pio0_0 = line_at_number 1 7 s _ low small refl refl refl refl;
  pio0_1 = line_at_number 1 8 s _ low small refl refl refl refl;
  pio1_0 = line_at_number 1 9 s _ low small refl refl refl refl;
  pio1_1 = line_at_number 1 10 s _ low small refl refl refl refl;
  dma_0 = line_at_number 1 11 s _ low small refl refl refl refl;
  dma_1 = line_at_number 1 12 s _ low small refl refl refl refl;
  io_bank = line_at_number 1 13 s _ low small refl refl refl (or_none _);
  sio_0 = line_at_number 1 15 s _ low small refl refl refl refl;
  sio_1 = line_at_number 1 16 s _ low small refl refl refl refl;
  uart0 = line_at_number 1 20 s _ low small refl refl refl (or_none _);
  uart1 = line_at_number 1 21 s _ low small refl refl refl (or_none _);
}
  where
    low : 1 < 2
    low = omega arith

    tick : (n : ℕ) → n < 4 → has_line 1 s n ≡ with_device s n (has_bit (timer.lines_of s.outer.timer.block) n)
    tick zero few = tick_at 1 0 s low refl refl refl
    tick (suc zero) few = tick_at 1 1 s low refl refl refl
    tick (suc (suc zero)) few = tick_at 1 2 s low refl refl refl
    tick (suc (suc (suc zero))) few = tick_at 1 3 s low refl refl refl
    tick (suc (suc (suc (suc n)))) few = absurd (omega (arith, few))

pub numbered : EachLineHasItsNumber
numbered zero s low small = numbered_0 s small
numbered (suc zero) s low small = numbered_1 s small
numbered (suc (suc n)) s low small = absurd (omega (arith, low))

-- ---- spinlocks

lock_read : (core n inputs : ℕ) (s : SioState) → n < 32 → has_bit s.locks.taken n ≡ false → sio.word_of core (0x100 + 4 * n) inputs s ≡ Some (2 ^ n)
lock_read core n inputs s low free =
    let word : sio.word_of core (0x100 + 4 * n) inputs s ≡ lock_word (0x100 + 4 * n) s.locks = grind (arith, nat_tests, common_steps) in
    let there : is_at (Each 0x100 32 4) (0x100 + 4 * n) ≡ true = grind (arith, nat_tests, common_steps) in
    let number : number_at (Each 0x100 32 4) (0x100 + 4 * n) ≡ n = omega arith in
    word ∙ ap (λ b. cond b (Some (cond (has_bit s.locks.taken (number_at (Each 0x100 32 4) (0x100 + 4 * n))) 0 (2 ^ number_at (Each 0x100 32 4) (0x100 + 4 * n)))) None) there
    ∙ ap (λ k. Some (cond (has_bit s.locks.taken k) 0 (2 ^ k))) number ∙ ap (λ b. Some (cond b 0 (2 ^ n))) free

turn_for : (w : Setting) (seen : SeenOutputs) (rival : Want) (granted : Bool) (s : State) (request : Request) (p : Spot) (word : ℕ) → place_of request.address ≡ p →
    is_done_at p granted ≡ true → told_at w seen rival master.Core0 request.address p s ≡ word →
    turn_of w seen rival granted master.Core0 (want.Outward request) s ≡ turn.Done word
unfolding turn_of
turn_for w seen rival granted s request p word at done is =
    ap (λ q. turn_at (is_done_at q granted) (told_at w seen rival master.Core0 request.address q s)) at
    ∙ ap (λ b. turn_at b (told_at w seen rival master.Core0 request.address p s)) done ∙ ap turn.Done is

turn_for_1 : (w : Setting) (seen : SeenOutputs) (rival : Want) (granted : Bool) (s : State) (request : Request) (p : Spot) (word : ℕ) → place_of request.address ≡ p →
    is_done_at p granted ≡ true → told_at w seen rival master.Core1 request.address p s ≡ word →
    turn_of w seen rival granted master.Core1 (want.Outward request) s ≡ turn.Done word
unfolding turn_of
turn_for_1 w seen rival granted s request p word at done is =
    ap (λ q. turn_at (is_done_at q granted) (told_at w seen rival master.Core1 request.address q s)) at
    ∙ ap (λ b. turn_at b (told_at w seen rival master.Core1 request.address p s)) done ∙ ap turn.Done is

told_first : (w : Setting) (seen : SeenOutputs) (rival : Want) (s : State) (address n : ℕ) → n < 32 → has_bit s.sio.locks.taken n ≡ false →
    told_at w seen rival master.Core0 address (spot.Sio (0x100 + 4 * n)) s ≡ 2 ^ n
unfolding word_for
told_first w seen rival s address n low free = ap (λ o. unwrap_or o 0) (lock_read 0 n (input_of s) s.sio low free)

in_locks : (n : ℕ) → nat_le 0x100 (0x100 + 4 * n) ≡ true
in_locks n = grind (arith, nat_tests)

reads_it : (first : Request) (n : ℕ) → IsLockRead n first → deeds.reads_at (want.Outward first) (spot.Sio (0x100 + 4 * n)) ≡ true
reads_it first n h =
    ap₂ (λ o p. is_none o && deeds.is_same_word p (spot.Sio (0x100 + 4 * n))) h.1 h.0 ∙ eq-eqb (0x100 + 4 * n) (0x100 + 4 * n) refl

told_late : (w : Setting) (seen : SeenOutputs) (first : Request) (s : State) (address n : ℕ) → IsLockRead n first →
    told_at w seen (want.Outward first) master.Core1 address (spot.Sio (0x100 + 4 * n)) s ≡ 0
told_late w seen first s address n h =
    ap₂ (λ a b. cond (a && b) 0 (unwrap_or (word_for w seen master.Core1 address (spot.Sio (0x100 + 4 * n)) s) 0)) (in_locks n) (reads_it first n h)

told_alone : (w : Setting) (seen : SeenOutputs) (s : State) (address n : ℕ) → n < 32 → has_bit s.sio.locks.taken n ≡ false →
    told_at w seen want.Nothing master.Core1 address (spot.Sio (0x100 + 4 * n)) s ≡ 2 ^ n
unfolding word_for
told_alone w seen s address n low free =
    ap (λ a. cond (a && false) 0 (unwrap_or (word_for w seen master.Core1 address (spot.Sio (0x100 + 4 * n)) s) 0)) (in_locks n)
    ∙ ap (λ o. unwrap_or o 0) (lock_read 1 n (input_of s) s.sio low free)

pub one_gets_it : OneCoreGetsALock
one_gets_it w seen s n first second granted low free h g = record {
  core0 = turn_for w seen (want.Outward first) granted s first (spot.Sio (0x100 + 4 * n)) (2 ^ n) h.0 refl
      (told_first w seen (want.Outward first) s first.address n low free);
  core1 = turn_for_1 w seen (want.Outward first) granted s second (spot.Sio (0x100 + 4 * n)) 0 g.0 refl
      (told_late w seen first s second.address n h);
  alone = turn_for_1 w seen want.Nothing granted s second (spot.Sio (0x100 + 4 * n)) (2 ^ n) g.0 refl
      (told_alone w seen s second.address n low free);
}
