-- The transfers of a channel that copies are those of its bytes.
use Rattle.std.proofs.Common.{◌≡◌, ℕ, zero, suc, ◌+◌, ◌*◌, ◌/◌, ◌%◌, ◌^◌, ◌<◌, ◌≤◌, ◌==◌, Bool, true, false, cond, [], ◌∷◌, refl, sym, ap, ap₂, subst, ◌∙◌, arith, Some, None}
use Rattle.rp_base.specs.declared.Size.{Size}
use Rattle.rp_base.specs.declared.Size.TheVariants as sizes
use Rattle.rp_base.specs.Access.{lanes_of}
use Rattle.dma_engine.specs.declared.channel.Channel.{Channel}
use Rattle.dma_engine.specs.Control.{size_by, size_of, increments_read, increments_write, ring_of, rings_write, swaps}
use Rattle.dma_engine.specs.Transfer.{bytes_of, rounded, advanced, ring_of_read, ring_of_write, moved, data_by, data_of, read_of, write_after, request_of}
use Rattle.dma_laws.specs.Bytes.{width, copying, AreFields, bytes_at, word_around, reads_of, writes_of, words_of, Fit, TransfersCopyBytes}
use Rattle.dma_laws.specs.Copies.{reads_from, writes_from}

-- ---- the control word

record Copies (size : Size) (c : Channel) : Type 0 where
  sized : size_of c ≡ size
  reads : increments_read c ≡ true
  writes : increments_write c ≡ true
  ring : ring_of c ≡ 0
  plain : swaps c ≡ false

is_one : (n : ℕ) → n ≡ 1 → (n == 1) ≡ true
is_one n h = ap (λ (m : ℕ). m == 1) h

is_zero : (n : ℕ) → n ≡ 0 → (n == 1) ≡ false
is_zero n h = ap (λ (m : ℕ). m == 1) h

copies : (size : Size) (chain treq quiet : ℕ) (c : Channel) → AreFields chain treq quiet → c.ctrl ≡ copying size chain treq quiet → Copies size c
copies sizes.Byte chain treq quiet c f h = record {
  sized = let e : c.ctrl / 2 ^ 2 % 2 ^ 2 ≡ 0 = omega (arith, h, f.chained, f.paced, f.quieted) in ap size_by e;
  reads = is_one _ (omega (arith, h, f.chained, f.paced, f.quieted));
  writes = is_one _ (omega (arith, h, f.chained, f.paced, f.quieted));
  ring = omega (arith, h, f.chained, f.paced, f.quieted);
  plain = is_zero _ (omega (arith, h, f.chained, f.paced, f.quieted));
}
copies sizes.Half chain treq quiet c f h = record {
  sized = let e : c.ctrl / 2 ^ 2 % 2 ^ 2 ≡ 1 = omega (arith, h, f.chained, f.paced, f.quieted) in ap size_by e;
  reads = is_one _ (omega (arith, h, f.chained, f.paced, f.quieted));
  writes = is_one _ (omega (arith, h, f.chained, f.paced, f.quieted));
  ring = omega (arith, h, f.chained, f.paced, f.quieted);
  plain = is_zero _ (omega (arith, h, f.chained, f.paced, f.quieted));
}
copies sizes.Word chain treq quiet c f h = record {
  sized = let e : c.ctrl / 2 ^ 2 % 2 ^ 2 ≡ 2 = omega (arith, h, f.chained, f.paced, f.quieted) in ap size_by e;
  reads = is_one _ (omega (arith, h, f.chained, f.paced, f.quieted));
  writes = is_one _ (omega (arith, h, f.chained, f.paced, f.quieted));
  ring = omega (arith, h, f.chained, f.paced, f.quieted);
  plain = is_zero _ (omega (arith, h, f.chained, f.paced, f.quieted));
}

-- ---- one transfer

width_is : (size : Size) → bytes_of size ≡ width size
width_is sizes.Byte = refl
width_is _ = refl

whole : (size : Size) (address : ℕ) → address % width size ≡ 0 → rounded size address ≡ address
whole sizes.Byte address h = omega (arith, h)
whole _ address h = omega (arith, h)

reads_one : (size : Size) (c : Channel) → Copies size c → c.read % width size ≡ 0 → read_of c ≡ record { address = c.read; size = size; write = None }
unfolding read_of
reads_one size c is h =
    ap (λ (s : Size). record { address = rounded s c.read; size = s; write = None }) is.sized
    ∙ ap (λ a. record { address = a; size = size; write = None }) (whole size c.read h)

no_ring : (b : Bool) (n : ℕ) → n ≡ 0 → cond b 0 n ≡ 0
no_ring true n h = refl
no_ring false n h = h

no_ring_else : (b : Bool) (n : ℕ) → n ≡ 0 → cond b n 0 ≡ 0
no_ring_else true n h = h
no_ring_else false n h = refl

goes_on : (ring : ℕ) (size : Size) (s : Size) (address : ℕ) → ring ≡ 0 → s ≡ size → address + width size < 2 ^ 32 → advanced ring (bytes_of s) address ≡ address + width size
goes_on ring size s address none is fits =
    ap₂ (λ (r : ℕ) (z : Size). advanced r (bytes_of z) address) none is
    ∙ ap (λ n. (address + n) % 2 ^ 32) (width_is size) ∙ small (address + width size) fits
  where
    small : (n : ℕ) → n < 2 ^ 32 → n % 2 ^ 32 ≡ n
    small n h = omega (arith, h)

moves_read : (size : Size) (c : Channel) → Copies size c → c.read + width size < 2 ^ 32 → (moved c).read ≡ c.read + width size
unfolding moved
moves_read size c is fits =
    ap (λ b. cond b (advanced (ring_of_read c) (bytes_of (size_of c)) c.read) c.read) is.reads
    ∙ goes_on (ring_of_read c) size (size_of c) c.read (no_ring (rings_write c) (ring_of c) is.ring) is.sized fits

moves_write : (size : Size) (c : Channel) → Copies size c → c.write + width size < 2 ^ 32 → (moved c).write ≡ c.write + width size
unfolding moved
moves_write size c is fits =
    ap (λ b. cond b (advanced (ring_of_write c) (bytes_of (size_of c)) c.write) c.write) is.writes
    ∙ goes_on (ring_of_write c) size (size_of c) c.write (no_ring_else (rings_write c) (ring_of c) is.ring) is.sized fits

still_copies : (size : Size) (c : Channel) → Copies size c → Copies size (moved c)
unfolding moved
still_copies size c is = record { sized = is.sized; reads = is.reads; writes = is.writes; ring = is.ring; plain = is.plain }

-- ---- bytes

-- four bytes as a word
abbrev packed : ℕ → ℕ → ℕ → ℕ → ℕ
packed a b c d = a + 2 ^ 8 * (b + 2 ^ 8 * (c + 2 ^ 8 * (d + 2 ^ 8 * 0)))

byte_0 : (a b c d : ℕ) → a < 2 ^ 8 → packed a b c d / 2 ^ 0 % 2 ^ 8 ≡ a
byte_0 a b c d h = omega (arith, h)

byte_1 : (a b c d : ℕ) → a < 2 ^ 8 → b < 2 ^ 8 → packed a b c d / 2 ^ 8 % 2 ^ 8 ≡ b
byte_1 a b c d h i = omega (arith, h, i)

byte_2 : (a b c d : ℕ) → a < 2 ^ 8 → b < 2 ^ 8 → c < 2 ^ 8 → packed a b c d / 2 ^ 16 % 2 ^ 8 ≡ c
byte_2 a b c d h i j = omega (arith, h, i, j)

byte_3 : (a b c d : ℕ) → a < 2 ^ 8 → b < 2 ^ 8 → c < 2 ^ 8 → d < 2 ^ 8 → packed a b c d / 2 ^ 24 % 2 ^ 8 ≡ d
byte_3 a b c d h i j k = omega (arith, h, i, j, k)

half_0 : (a b c d : ℕ) → a < 2 ^ 8 → b < 2 ^ 8 → packed a b c d / 2 ^ 0 % 2 ^ 16 ≡ a + 2 ^ 8 * (b + 2 ^ 8 * 0)
half_0 a b c d h i = omega (arith, h, i)

half_1 : (a b c d : ℕ) → a < 2 ^ 8 → b < 2 ^ 8 → c < 2 ^ 8 → d < 2 ^ 8 → packed a b c d / 2 ^ 16 % 2 ^ 16 ≡ c + 2 ^ 8 * (d + 2 ^ 8 * 0)
half_1 a b c d h i j k = omega (arith, h, i, j, k)

abbrev Small : (ℕ → ℕ) → Type 0
Small memory = (a : ℕ) → memory a < 2 ^ 8

moved_to : (memory : ℕ → ℕ) (a b : ℕ) → a ≡ b → memory a ≡ memory b
moved_to memory a b e = ap memory e

byte_in : (memory : ℕ → ℕ) (q k : ℕ) → Small memory → k < 4 → bytes_at memory (4 * q) 4 / 2 ^ (8 * k) % 2 ^ 8 ≡ memory (4 * q + k)
byte_in memory q zero small less = byte_0 (memory (4 * q)) _ _ _ (small _) ∙ moved_to memory (4 * q) (4 * q + 0) (omega arith)
byte_in memory q (suc zero) small less = byte_1 _ (memory (4 * q + 1)) _ _ (small _) (small _)
byte_in memory q (suc (suc zero)) small less =
    byte_2 _ _ (memory (4 * q + 1 + 1)) _ (small _) (small _) (small _) ∙ moved_to memory (4 * q + 1 + 1) (4 * q + 2) (omega arith)
byte_in memory q (suc (suc (suc zero))) small less =
    byte_3 _ _ _ (memory (4 * q + 1 + 1 + 1)) (small _) (small _) (small _) (small _) ∙ moved_to memory (4 * q + 1 + 1 + 1) (4 * q + 3) (omega arith)
byte_in memory q (suc (suc (suc (suc k)))) small less = absurd (omega (arith, less))

byte_at : (memory : ℕ → ℕ) (q k : ℕ) → Small memory → k < 4 → word_around memory (4 * q + k) / 2 ^ (8 * k) % 2 ^ 8 ≡ memory (4 * q + k)
byte_at memory q k small less =
    let e : (4 * q + k) / 4 * 4 ≡ 4 * q = omega (arith, less) in ap (λ x. bytes_at memory x 4 / 2 ^ (8 * k) % 2 ^ 8) e ∙ byte_in memory q k small less

half_in : (memory : ℕ → ℕ) (q k : ℕ) → Small memory → k < 2 → bytes_at memory (4 * q) 4 / 2 ^ (16 * k) % 2 ^ 16 ≡ bytes_at memory (4 * q + 2 * k) 2
half_in memory q zero small less =
    half_0 (memory (4 * q)) (memory (4 * q + 1)) _ _ (small _) (small _) ∙ moved_to (λ x. bytes_at memory x 2) (4 * q) (4 * q + 2 * 0) (omega arith)
half_in memory q (suc zero) small less =
    half_1 _ _ (memory (4 * q + 1 + 1)) (memory (4 * q + 1 + 1 + 1)) (small _) (small _) (small _) (small _)
    ∙ moved_to (λ x. bytes_at memory x 2) (4 * q + 1 + 1) (4 * q + 2 * 1) (omega arith)
half_in memory q (suc (suc k)) small less = absurd (omega (arith, less))

half_at : (memory : ℕ → ℕ) (q k : ℕ) → Small memory → k < 2 → word_around memory (4 * q + 2 * k) / 2 ^ (16 * k) % 2 ^ 16 ≡ bytes_at memory (4 * q + 2 * k) 2
half_at memory q k small less =
    let e : (4 * q + 2 * k) / 4 * 4 ≡ 4 * q = omega (arith, less) in ap (λ x. bytes_at memory x 4 / 2 ^ (16 * k) % 2 ^ 16) e ∙ half_in memory q k small less

lane_is : (memory : ℕ → ℕ) (size : Size) (address : ℕ) → Small memory → address % width size ≡ 0
    → lanes_of size address (word_around memory address) ≡ bytes_at memory address (width size)
lane_is memory sizes.Byte address small h =
    let e : address ≡ 4 * (address / 4) + address % 4 = omega arith in
    let low : address % 4 < 4 = omega arith in
    let one : memory address ≡ memory address + 2 ^ 8 * 0 = omega arith in
    ap (λ x. word_around memory x / 2 ^ (8 * (address % 4)) % 2 ^ 8) e ∙ byte_at memory (address / 4) (address % 4) small low ∙ ap memory (sym e) ∙ one
lane_is memory sizes.Half address small h =
    let e : address ≡ 4 * (address / 4) + 2 * (address / 2 % 2) = omega (arith, h) in
    let low : address / 2 % 2 < 2 = omega arith in
    ap (λ x. word_around memory x / 2 ^ (16 * (address / 2 % 2)) % 2 ^ 16) e ∙ half_at memory (address / 4) (address / 2 % 2) small low ∙ ap (λ x. bytes_at memory x 2) (sym e)
lane_is memory sizes.Word address small h =
    let e : address / 4 * 4 ≡ address = omega (arith, h) in ap (λ x. bytes_at memory x 4) e

writes_one : (k : ℕ) (memory : ℕ → ℕ) (size : Size) (c : Channel) → Copies size c → Small memory → c.read % width size ≡ 0 → c.write % width size ≡ 0
    → request_of (write_after k c (word_around memory c.read)) ≡ record { address = c.write; size = size; write = Some (bytes_at memory c.read (width size)) }
unfolding request_of write_after data_of
writes_one k memory size c is small h i =
    ap₂ (λ b (s : Size). record { address = rounded s c.write; size = s; write = Some (data_by b s (lanes_of s c.read (word_around memory c.read))) }) is.plain is.sized
    ∙ ap₂ (λ a v. record { address = a; size = size; write = Some v }) (whole size c.write i) (lane_is memory size c.read small h)

-- ---- transfers one after another

-- where another one follows, the addresses go on
aligned_on : (size : Size) (address : ℕ) → address % width size ≡ 0 → (address + width size) % width size ≡ 0
aligned_on sizes.Byte address h = omega (arith, h)
aligned_on _ address h = omega (arith, h)

below_last : (size : Size) (n address : ℕ) → address + width size * suc (suc n) ≤ 2 ^ 32 → address + width size < 2 ^ 32
below_last sizes.Byte n address h = omega (arith, h)
below_last _ n address h = omega (arith, h)

last_on : (size : Size) (n address : ℕ) → address + width size * suc n ≤ 2 ^ 32 → address + width size + width size * n ≤ 2 ^ 32
last_on sizes.Byte n address h = omega (arith, h)
last_on _ n address h = omega (arith, h)

fit_on : (size : Size) (n address : ℕ) → Fit size (suc n) address → Fit size n (address + width size)
fit_on size n address f = record { aligned = aligned_on size address f.aligned; last = last_on size n address f.last }

all_reads : (size : Size) (n : ℕ) (c : Channel) → Copies size c → Fit size n c.read → reads_from c n ≡ reads_of size c.read n
all_reads size zero c is f = refl
all_reads size (suc zero) c is f = ap (λ r. r ∷ []) (reads_one size c is f.aligned)
all_reads size (suc (suc n)) c is f =
    let on : (moved c).read ≡ c.read + width size = moves_read size c is (below_last size n c.read f.last) in
    let next : Fit size (suc n) (moved c).read = subst (λ a. Fit size (suc n) a) (sym on) (fit_on size (suc n) c.read f) in
    ap₂ (λ r rs. r ∷ rs) (reads_one size c is f.aligned) (all_reads size (suc n) (moved c) (still_copies size c is) next ∙ ap (λ a. reads_of size a (suc n)) on)

all_writes : (k : ℕ) (memory : ℕ → ℕ) (size : Size) (n : ℕ) (c : Channel) → Copies size c → Small memory → Fit size n c.read → Fit size n c.write
    → writes_from k c (words_of memory size c.read n) ≡ writes_of memory size c.read c.write n
all_writes k memory size zero c is small f g = refl
all_writes k memory size (suc zero) c is small f g = ap (λ r. r ∷ []) (writes_one k memory size c is small f.aligned g.aligned)
all_writes k memory size (suc (suc n)) c is small f g =
    let on : (moved c).read ≡ c.read + width size = moves_read size c is (below_last size n c.read f.last) in
    let to : (moved c).write ≡ c.write + width size = moves_write size c is (below_last size n c.write g.last) in
    let next : Fit size (suc n) (moved c).read = subst (λ a. Fit size (suc n) a) (sym on) (fit_on size (suc n) c.read f) in
    let place : Fit size (suc n) (moved c).write = subst (λ a. Fit size (suc n) a) (sym to) (fit_on size (suc n) c.write g) in
    ap₂ (λ r rs. r ∷ rs) (writes_one k memory size c is small f.aligned g.aligned)
    (ap (λ a. writes_from k (moved c) (words_of memory size a (suc n))) (sym on) ∙ all_writes k memory size (suc n) (moved c) (still_copies size c is) small next place
    ∙ ap₂ (λ a b. writes_of memory size a b (suc n)) on to)

pub transfers_copy_bytes : TransfersCopyBytes
transfers_copy_bytes k memory size n chain treq quiet c small fields control reads writes =
    let is = copies size chain treq quiet c fields control in
    record { reads = all_reads size n c is reads; writes = all_writes k memory size n c is small reads writes }
