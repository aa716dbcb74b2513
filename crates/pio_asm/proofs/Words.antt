use Rattle.std.proofs.Common.{◌≡◌, ℕ, ◌+◌, ◌-◌, ◌*◌, ◌/◌, ◌%◌, ◌^◌, ◌<◌, ◌≤◌, Bool, true, false, Option, None, Some, MatchBool, refl, arith, lit<}
use Rattle.pio_asm.proofs.Shared.{WaitSource, Gpio, Pin, Flag as WaitIrq, PioOp, Jmp, Wait, In, Out, Push, Pull, Mov, Irq, Set, Reserved, SideConfig, entry, mov_operations, mov_sources, HasFields, bit, IsOptionalSide, IsPlainSide, IsSideField, scaled-lt, FitsOptionalSide, FitsPlainSide, FitsSide, IsInRange, IsWaitInRange}
use Rattle.pio_words.specs.Word.{IsWord}
use Rattle.std.proofs.Math.Pow.{pow_mono}
use Rattle.pio_asm.proofs.Codes.{conditions-code, in_sources-code, out_destinations-code, mov_destinations-code, mov_operations-code, mov_sources-code, set_destinations-code}

-- an operation has three fields of a word
record HasSmallFields (op : PioOp) : Type 0 where
  major : ℕ
  middle : ℕ
  low : ℕ
  fields : HasFields op major middle low
  major_small : major < 8
  middle_small : middle < 8
  low_small : low < 32

bit_small : (b : Bool) → bit b < 2
bit_small true = lit< tt
bit_small false = lit< tt

index_small : (b : Bool) (n : ℕ) → n < 8 → 16 * bit b + n < 32
index_small true n h = omega arith
index_small false n h = omega arith

pair_small : (a b : Bool) → 2 * bit a + bit b < 4
pair_small a b = omega (arith, bit_small a, bit_small b)

wait_fields : (p : Bool) (s : WaitSource) → IsWaitInRange s → HasSmallFields (Wait p s)
wait_fields false (Gpio n) h = record { major = 1; middle = 0; low = n; fields = (refl, refl, (refl, refl, h)); major_small = lit< tt; middle_small = lit< tt; low_small = h }
wait_fields true (Gpio n) h = record { major = 1; middle = 4; low = n; fields = (refl, refl, (refl, refl, h)); major_small = lit< tt; middle_small = lit< tt; low_small = h }
wait_fields false (Pin n) h = record { major = 1; middle = 1; low = n; fields = (refl, refl, (refl, refl, h)); major_small = lit< tt; middle_small = lit< tt; low_small = h }
wait_fields true (Pin n) h = record { major = 1; middle = 5; low = n; fields = (refl, refl, (refl, refl, h)); major_small = lit< tt; middle_small = lit< tt; low_small = h }
wait_fields false (WaitIrq i) h = record { major = 1; middle = 2; low = 16 * bit i.relative + i.number; fields = (refl, refl, (refl, (refl, h))); major_small = lit< tt; middle_small = lit< tt; low_small = index_small i.relative i.number h }
wait_fields true (WaitIrq i) h = record { major = 1; middle = 6; low = 16 * bit i.relative + i.number; fields = (refl, refl, (refl, (refl, h))); major_small = lit< tt; middle_small = lit< tt; low_small = index_small i.relative i.number h }

high_part : (o s : ℕ) → s < 8 → (8 * o + s) / 8 ≡ o
high_part o s h = omega arith

low_part : (o s : ℕ) → s < 8 → (8 * o + s) % 8 ≡ s
low_part o s h = omega arith

fields_of : (op : PioOp) → IsInRange op → HasSmallFields op
fields_of (Jmp c n) h = let k = conditions-code c in record { major = 0; middle = k.code; low = n; fields = (refl, k.stands, refl, h); major_small = lit< tt; middle_small = k.small; low_small = h }
fields_of (Wait p s) h = wait_fields p s h
fields_of (In s n) h = let k = in_sources-code s in record { major = 2; middle = k.code; low = n % 32; fields = (refl, k.stands, (refl, h.0, h.1)); major_small = lit< tt; middle_small = k.small; low_small = omega arith }
fields_of (Out d n) h = let k = out_destinations-code d in record { major = 3; middle = k.code; low = n % 32; fields = (refl, k.stands, (refl, h.0, h.1)); major_small = lit< tt; middle_small = k.small; low_small = omega arith }
fields_of (Push f b) h = record { major = 4; middle = 2 * bit f + bit b; low = 0; fields = (refl, refl, refl); major_small = lit< tt; middle_small = omega (arith, pair_small f b); low_small = lit< tt }
fields_of (Pull f b) h = record { major = 4; middle = 4 + 2 * bit f + bit b; low = 0; fields = (refl, refl, refl); major_small = lit< tt; middle_small = omega (arith, pair_small f b); low_small = lit< tt }
fields_of (Mov d o s) h =
    let k = mov_destinations-code d in
    let m = mov_operations-code o in
    let n = mov_sources-code s in
    let high : entry mov_operations ((8 * m.code + n.code) / 8) ≡ Some o = rw (high_part m.code n.code n.small) m.stands in
    let low : entry mov_sources ((8 * m.code + n.code) % 8) ≡ Some s = rw (low_part m.code n.code n.small) n.stands in
    record { major = 5; middle = k.code; low = 8 * m.code + n.code; fields = (refl, k.stands, high, low); major_small = lit< tt; middle_small = k.small; low_small = omega (arith, m.small, n.small) }
fields_of (Irq f g i) h = record { major = 6; middle = 2 * bit f + bit g; low = 16 * bit i.relative + i.number; fields = (refl, refl, (refl, h)); major_small = lit< tt; middle_small = omega (arith, pair_small f g); low_small = index_small i.relative i.number h }
fields_of (Set d v) h = let k = set_destinations-code d in record { major = 7; middle = k.code; low = v; fields = (refl, k.stands, refl, h); major_small = lit< tt; middle_small = k.small; low_small = h }
fields_of Reserved h = absurd h

abbrev HasSideField : Bool → ℕ → Option ℕ → ℕ → Type 0
HasSideField opt count value delay = (f : ℕ) × (f < 32) × MatchBool opt (IsOptionalSide count value delay f) (IsPlainSide count value delay f)

unit_small : (n : ℕ) → 2 ^ (4 - n) ≤ 16
unit_small n = let le : 4 - n ≤ 4 = omega arith in let h : 2 ^ (4 - n) ≤ 2 ^ 4 = pow_mono le in h

side_of : (opt : Bool) (n : ℕ) (v : Option ℕ) (d : ℕ) → MatchBool opt (FitsOptionalSide n v d) (FitsPlainSide n v d) → HasSideField opt n v d
side_of true n None d h = (d, omega (arith, h.1, unit_small n), (h.0, h.1, refl))
side_of true n (Some v) d h = (16 + v * 2 ^ (4 - n) + d, omega (arith, scaled-lt 4 n v d h.0 h.2 h.1), (h.0, h.1, h.2, refl))
side_of false n None d h = (d, h.1, (h.0, h.1, refl))
side_of false n (Some v) d h = (v * 2 ^ (5 - n) + d, scaled-lt 5 n v d h.1 h.3 h.2, (h.0, h.1, h.2, h.3, refl))

-- the word of three fields and a side-set field
word_of : (op : PioOp) (side : SideConfig) (value : Option ℕ) (delay a f b c : ℕ) → a < 8 → f < 32 → b < 8 → c < 32 → HasFields op a b c → IsSideField side value delay f → (w : ℕ) × IsWord op side value delay w
word_of op side value delay a f b c la lf lb lc has side_has =
    let half : 8192 * a + 256 * f + 32 * b + c < 65536 = omega arith in
    let ea : (8192 * a + 256 * f + 32 * b + c) / 8192 ≡ a = omega arith in
    let eb : (8192 * a + 256 * f + 32 * b + c) / 32 % 8 ≡ b = omega arith in
    let ec : (8192 * a + 256 * f + 32 * b + c) % 32 ≡ c = omega arith in
    let ef : (8192 * a + 256 * f + 32 * b + c) / 256 % 32 ≡ f = omega arith in
    (8192 * a + 256 * f + 32 * b + c, record { is_half = half; has_operation = rw (ea, eb, ec) has; has_side = rw ef side_has })

-- what fits has a word
pub word-exists : (op : PioOp) (side : SideConfig) (value : Option ℕ) (delay : ℕ) → IsInRange op → FitsSide side value delay → (w : ℕ) × IsWord op side value delay w
word-exists op side value delay in_range fits =
    let k = fields_of op in_range in
    let s = side_of side.opt side.count value delay fits in
    word_of op side value delay k.major s.0 k.middle k.low k.major_small s.1 k.middle_small k.low_small k.fields s.2
