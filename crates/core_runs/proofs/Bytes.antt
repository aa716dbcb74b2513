-- Bytes, words and halfwords of SRAM.
use Rattle.std.proofs.Common.{◌≡◌, ℕ, zero, suc, ◌+◌, ◌-◌, ◌*◌, ◌/◌, ◌%◌, ◌^◌, ◌<◌, ◌≤◌, ◌⊎◌, inl, inr, Bool, true, false, ◌==◌, List, [], ◌∷◌, ◌++◌, length, take, drop, get_or, slice_index, refl, sym, ap, ap₂, subst, ◌∙◌, arith, Some, le-leb, eqb-true, length-append, length-take-le, length-drop, get_or-take, get_or-drop, take_at, drop_at, drop-drop, take-take}
use lib.Seq.{get_or-append-add, take-append-le, drop-append-le, drop-append-add}
use Rattle.std.proofs.lemmas.List.{drop-take}
use Rattle.std.proofs.lemmas.Bool.{lt-leb, cases_lt, eqb-false}
use Rattle.rp_base.specs.declared.Size.TheVariants as sizes
use Rattle.rp_base.specs.declared.map.Spot.TheVariants as spot
use Rattle.rp_base.specs.Access.{lanes_of}
use Rattle.rp_base.specs.Map.{place_of}
use Rattle.m0_core.specs.Fetch.{is_ram_spot}
use Rattle.core_laws.specs.Laws.{half_at}
use Rattle.core_runs.specs.Bytes.{put, Holds, IsSram, word_from, word_at, half_of, answer, bytes_of, stored_at}
use Rattle.core_runs.specs.Programs.{IsInside, place, writing, EachPlaceHasAByte, EachFourthPlaceHasAWord, CodeIsFetched, APutElsewhereKeepsCode}

-- ---- places

pub record IsAt (a : ℕ) : Type 0 where
  pub bank : ℕ
  pub is : place_of a ≡ spot.Ram ((a - 0x20000000) / 4) bank

in_bank5 : (a : ℕ) → 0x20041000 ≤ a → a < 0x20042000 → IsAt a
unfolding place_of
in_bank5 a le lt =
    let e1 = le-leb 0x20000000 a (omega (arith, le)) in
    let e2 = lt-leb a 0x2003FFFF (omega (arith, le)) in
    let e3 = le-leb 0x20040000 a (omega (arith, le)) in
    let e4 = lt-leb a 0x20040FFF (omega (arith, le)) in
    let e5 = le-leb 0x20041000 a le in
    let e6 = le-leb a 0x20041FFF (omega (arith, lt)) in
    let index : 0x10400 + (a - 0x20041000) / 4 ≡ (a - 0x20000000) / 4 = omega (arith, le) in
    record { bank = 5; is = rw (e1, e2, e3, e4, e5, e6) (ap (λ i. spot.Ram i 5) index) }

in_bank4 : (a : ℕ) → 0x20040000 ≤ a → a < 0x20041000 → IsAt a
unfolding place_of
in_bank4 a le lt =
    let e1 = le-leb 0x20000000 a (omega (arith, le)) in
    let e2 = lt-leb a 0x2003FFFF (omega (arith, le)) in
    let e3 = le-leb 0x20040000 a le in
    let e4 = le-leb a 0x20040FFF (omega (arith, lt)) in
    let index : 0x10000 + (a - 0x20040000) / 4 ≡ (a - 0x20000000) / 4 = omega (arith, le) in
    record { bank = 4; is = rw (e1, e2, e3, e4) (ap (λ i. spot.Ram i 4) index) }

in_stripes : (a : ℕ) → 0x20000000 ≤ a → a < 0x20040000 → IsAt a
unfolding place_of
in_stripes a le lt =
    let e1 = le-leb 0x20000000 a le in
    let e2 = le-leb a 0x2003FFFF (omega (arith, lt)) in
    record { bank = (a - 0x20000000) / 4 % 4; is = rw (e1, e2) refl }

pub is_at : (a : ℕ) → IsInside a → IsAt a
is_at a inside = elim (cases_lt a 0x20040000) [
  | inl lt ↦ in_stripes a inside.first lt
  | inr le ↦ elim (cases_lt a 0x20041000) [
    | inl lt ↦ in_bank4 a le lt
    | inr le' ↦ in_bank5 a le' inside.last
  ]
]

pub inside_ram : (a : ℕ) → IsInside a → is_ram_spot (place_of a) ≡ true
inside_ram a inside = ap is_ram_spot (is_at a inside).is

-- ---- bytes

pub written_byte : (m : List ℕ) (a value : ℕ) → IsInside a → stored_at (writing sizes.Byte a value) (Some value) (place_of a) m ≡ put m (place a) (value % 2 ^ 8 ∷ [])
written_byte m a value inside =
    let le = inside.first in
    let at : 4 * ((a - 0x20000000) / 4) + a % 4 ≡ place a = omega (arith, le) in
    let byte : value / 1 % 2 ^ 8 ≡ value % 2 ^ 8 = omega arith in
    ap (λ p. stored_at (writing sizes.Byte a value) (Some value) p m) (is_at a inside).is
    ∙ ap₂ (λ k b. put m k (b ∷ [])) at byte

-- a byte of four
byte_lane : (m : List ℕ) (k lane : ℕ) → IsSram m → lane < 4 → (word_from m k % 2 ^ 32) / 2 ^ (8 * lane) % 2 ^ 8 ≡ slice_index m (k + lane)
byte_lane m k zero sram h =
    let b0 = sram.bytes k in
    let b1 = sram.bytes (k + 1) in
    let b2 = sram.bytes (k + 2) in
    let b3 = sram.bytes (k + 3) in
    let at : k ≡ k + 0 = omega arith in
    let is : (word_from m k % 2 ^ 32) / 1 % 2 ^ 8 ≡ slice_index m k = omega (arith, b0, b1, b2, b3) in
    is ∙ ap (slice_index m) at
byte_lane m k (suc zero) sram h = omega (arith, sram.bytes k, sram.bytes (k + 1), sram.bytes (k + 2), sram.bytes (k + 3))
byte_lane m k (suc (suc zero)) sram h = omega (arith, sram.bytes k, sram.bytes (k + 1), sram.bytes (k + 2), sram.bytes (k + 3))
byte_lane m k (suc (suc (suc zero))) sram h = omega (arith, sram.bytes k, sram.bytes (k + 1), sram.bytes (k + 2), sram.bytes (k + 3))
byte_lane m k (suc (suc (suc (suc lane)))) sram h = absurd (omega (arith, h))

pub read_byte : (m : List ℕ) (a : ℕ) → IsSram m → IsInside a → lanes_of sizes.Byte a (word_at m (place_of a) % 2 ^ 32) ≡ slice_index m (place a)
read_byte m a sram inside =
    let le = inside.first in
    let few : a % 4 < 4 = omega arith in
    let at : 4 * ((a - 0x20000000) / 4) + a % 4 ≡ place a = omega (arith, le) in
    ap (λ p. lanes_of sizes.Byte a (word_at m p % 2 ^ 32)) (is_at a inside).is
    ∙ byte_lane m (4 * ((a - 0x20000000) / 4)) (a % 4) sram few
    ∙ ap (slice_index m) at

pub each_place_has_a_byte : EachPlaceHasAByte
each_place_has_a_byte m a value sram inside = record {
  inside = inside_ram a inside;
  read = ap Some (read_byte m a sram inside);
  written = written_byte m a value inside;
}

-- ---- words

word_small : (m : List ℕ) (k : ℕ) → IsSram m → word_from m k % 2 ^ 32 ≡ word_from m k
word_small m k sram = omega (arith, sram.bytes k, sram.bytes (k + 1), sram.bytes (k + 2), sram.bytes (k + 3))

pub each_fourth_place_has_a_word : EachFourthPlaceHasAWord
each_fourth_place_has_a_word m a value sram inside aligned =
    let le = inside.first in
    let at : 4 * ((a - 0x20000000) / 4) ≡ place a = omega (arith, le, aligned) in
    let at' : 4 * ((a - 0x20000000) / 4) + 0 ≡ place a = omega (arith, at) in
    record {
      inside = inside_ram a inside;
      read = ap (λ p. Some (word_at m p % 2 ^ 32)) (is_at a inside).is ∙ ap (λ k. Some (word_from m k % 2 ^ 32)) at ∙ ap Some (word_small m (place a) sram);
      written = ap (λ p. stored_at (writing sizes.Word a value) (Some value) p m) (is_at a inside).is ∙ ap (λ k. put m k (bytes_of sizes.Word value)) at';
    }

-- ---- halfwords

low_half : (m : List ℕ) (k : ℕ) → IsSram m → word_from m k % 2 ^ 16 % 2 ^ 16 ≡ slice_index m k + 2 ^ 8 * slice_index m (k + 1)
low_half m k sram = omega (arith, sram.bytes k, sram.bytes (k + 1), sram.bytes (k + 2), sram.bytes (k + 3))

high_half : (m : List ℕ) (k : ℕ) → IsSram m → word_from m k / 2 ^ 16 % 2 ^ 16 ≡ slice_index m (k + 2) + 2 ^ 8 * slice_index m (k + 3)
high_half m k sram = omega (arith, sram.bytes k, sram.bytes (k + 1), sram.bytes (k + 2), sram.bytes (k + 3))

half_by : (m : List ℕ) (a : ℕ) (b : Bool) → IsSram m → IsInside a → a % 2 ≡ 0 → (a / 2 % 2 == 0) ≡ b
    → half_of (word_from m (4 * ((a - 0x20000000) / 4))) a % 2 ^ 16 ≡ slice_index m (place a) + 2 ^ 8 * slice_index m (place a + 1)
half_by m a true sram inside even e =
    let le = inside.first in
    let zero_is = eqb-true (a / 2 % 2) 0 e in
    let at : 4 * ((a - 0x20000000) / 4) ≡ place a = omega (arith, le, even, zero_is) in
    rw e (low_half m (4 * ((a - 0x20000000) / 4)) sram) ∙ ap (λ k. slice_index m k + 2 ^ 8 * slice_index m (k + 1)) at
half_by m a false sram inside even e =
    let le = inside.first in
    let ne = eqb-false (a / 2 % 2) 0 e in
    let at : 4 * ((a - 0x20000000) / 4) + 2 ≡ place a = omega (arith, le, even, ne) in
    let at' : 4 * ((a - 0x20000000) / 4) + 3 ≡ place a + 1 = omega (arith, at) in
    rw e (high_half m (4 * ((a - 0x20000000) / 4)) sram) ∙ ap₂ (λ k l. slice_index m k + 2 ^ 8 * slice_index m l) at at'

pub half_is : (m : List ℕ) (a : ℕ) → IsSram m → IsInside a → a % 2 ≡ 0 → half_at (answer m) a ≡ slice_index m (place a) + 2 ^ 8 * slice_index m (place a + 1)
half_is m a sram inside even =
    ap (λ p. half_of (word_at m p) a % 2 ^ 16) (is_at a inside).is
    ∙ half_by m a (a / 2 % 2 == 0) sram inside even refl

pub held_byte : (m : List ℕ) (k : ℕ) (code : List ℕ) (i : ℕ) → Holds m k code → i < length code → slice_index m (k + i) ≡ slice_index code i
held_byte m k code i holds lt =
    sym (get_or-drop k m i 0) ∙ sym (get_or-take (length code) (drop k m) i 0 lt) ∙ ap (λ xs. slice_index xs i) holds

pub code_is_fetched : CodeIsFetched
code_is_fetched m k code i sram holds even lt last =
    let a = 0x20000000 + (k + i) in
    let inside : IsInside a = record { first = omega arith; last = omega (arith, last) } in
    let two : a % 2 ≡ 0 = omega (arith, even) in
    let at : place a ≡ k + i = omega arith in
    let at' : place a + 1 ≡ k + (i + 1) = omega arith in
    half_is m a sram inside two
    ∙ ap₂ (λ x y. slice_index m x + 2 ^ 8 * slice_index m y) at at'
    ∙ ap₂ (λ x y. x + 2 ^ 8 * y) (held_byte m k code i holds (omega (arith, lt))) (held_byte m k code (i + 1) holds lt)

-- ---- bytes that are put

pub length-put : (m : List ℕ) (at : ℕ) (bytes : List ℕ) → at + length bytes ≤ length m → length (put m at bytes) ≡ length m
length-put m at bytes le =
    omega (arith, le, length-append (take at m) (bytes ++ drop (at + length bytes) m), length-append bytes (drop (at + length bytes) m), length-take-le at m (omega (arith, le)), length-drop (at + length bytes) m)

pub put_before : (m : List ℕ) (at : ℕ) (bytes : List ℕ) (i : ℕ) → at ≤ length m → i < at → slice_index (put m at bytes) i ≡ slice_index m i
put_before m at bytes i le lt =
    sym (get_or-take at (put m at bytes) i 0 lt)
    ∙ ap (λ xs. get_or xs i 0) (take_at (take at m) (bytes ++ drop (at + length bytes) m) at (length-take-le at m le))
    ∙ get_or-take at m i 0 lt

pub put_from : (m : List ℕ) (at : ℕ) (bytes : List ℕ) → at ≤ length m → drop at (put m at bytes) ≡ bytes ++ drop (at + length bytes) m
put_from m at bytes le = drop_at (take at m) (bytes ++ drop (at + length bytes) m) at (length-take-le at m le)

pub put_inside : (m : List ℕ) (at : ℕ) (bytes : List ℕ) (j : ℕ) → at ≤ length m → j < length bytes → slice_index (put m at bytes) (at + j) ≡ slice_index bytes j
put_inside m at bytes j le lt =
    sym (get_or-drop at (put m at bytes) j 0)
    ∙ ap (λ xs. get_or xs j 0) (put_from m at bytes le)
    ∙ sym (get_or-take (length bytes) (bytes ++ drop (at + length bytes) m) j 0 lt)
    ∙ ap (λ xs. get_or xs j 0) (take_at bytes (drop (at + length bytes) m) (length bytes) refl)

pub put_behind : (m : List ℕ) (at : ℕ) (bytes : List ℕ) (j : ℕ) → at ≤ length m → slice_index (put m at bytes) (at + (length bytes + j)) ≡ slice_index m (at + length bytes + j)
put_behind m at bytes j le =
    sym (get_or-drop at (put m at bytes) (length bytes + j) 0)
    ∙ ap (λ xs. get_or xs (length bytes + j) 0) (put_from m at bytes le)
    ∙ get_or-append-add bytes (drop (at + length bytes) m) j 0
    ∙ get_or-drop (at + length bytes) m j 0

put_bytes : (m : List ℕ) (at : ℕ) (bytes : List ℕ) (i : ℕ) → at ≤ length m → ((k : ℕ) → slice_index m k < 2 ^ 8) → ((k : ℕ) → slice_index bytes k < 2 ^ 8) → slice_index (put m at bytes) i < 2 ^ 8
put_bytes m at bytes i le old new = elim (cases_lt i at) [
  | inl lt ↦ subst (λ x. x < 2 ^ 8) (sym (put_before m at bytes i le lt)) (old i)
  | inr ge ↦ elim (cases_lt (i - at) (length bytes)) [
    | inl lt ↦ subst (λ x. x < 2 ^ 8) (sym (put_inside m at bytes (i - at) le lt) ∙ ap (slice_index (put m at bytes)) (back i at ge)) (new (i - at))
    | inr more ↦ subst (λ x. x < 2 ^ 8) (sym (put_behind m at bytes (i - at - length bytes) le) ∙ ap (slice_index (put m at bytes)) (far i at (length bytes) ge more)) (old (at + length bytes + (i - at - length bytes)))
  ]
]
  where
    back : (i at : ℕ) → at ≤ i → at + (i - at) ≡ i
    back i at h = omega (arith, h)

    far : (i at n : ℕ) → at ≤ i → n ≤ i - at → at + (n + (i - at - n)) ≡ i
    far i at n h k = omega (arith, h, k)

-- what stands elsewhere
pub put_below : (m : List ℕ) (at : ℕ) (bytes : List ℕ) (k n : ℕ) → at ≤ length m → k + n ≤ at → take n (drop k (put m at bytes)) ≡ take n (drop k m)
put_below m at bytes k n le below =
    let rest = bytes ++ drop (at + length bytes) m in
    let front = length-take-le at m le in
    let split : k + (at - k) ≡ at = omega (arith, below) in
    ap (take n) (drop-append-le k (take at m) rest (omega (arith, front, below)))
    ∙ take-append-le n (drop k (take at m)) rest (omega (arith, front, below, length-drop k (take at m)))
    ∙ ap (λ x. take n (drop k (take x m))) (sym split)
    ∙ ap (take n) (drop-take k (at - k) m)
    ∙ take-take n (at - k) (drop k m) (omega (arith, below))

pub put_above : (m : List ℕ) (at : ℕ) (bytes : List ℕ) (k : ℕ) → at ≤ length m → at + length bytes ≤ k → drop k (put m at bytes) ≡ drop k m
put_above m at bytes k le above =
    let e = k - at - length bytes in
    let split : k ≡ at + (length bytes + e) = omega (arith, above) in
    let split' : at + length bytes + e ≡ k = omega (arith, above) in
    ap (λ x. drop x (put m at bytes)) split
    ∙ sym (drop-drop (length bytes + e) at (put m at bytes))
    ∙ ap (drop (length bytes + e)) (put_from m at bytes le)
    ∙ drop-append-add bytes (drop (at + length bytes) m) e
    ∙ drop-drop e (at + length bytes) m
    ∙ ap (λ x. drop x m) split'

pub a_put_elsewhere_keeps_code : APutElsewhereKeepsCode
a_put_elsewhere_keeps_code m at bytes k code sram fits small holds within apart =
    let le : at ≤ length m = omega (arith, fits, sram.size) in
    record {
      sram = record {
        size = length-put m at bytes (omega (arith, fits, sram.size)) ∙ sram.size;
        bytes = λ i. put_bytes m at bytes i le sram.bytes small;
      };
      held = go apart le;
    }
  where
    go : (at + length bytes ≤ k) ⊎ (k + length code ≤ at) → at ≤ length m → Holds (put m at bytes) k code
    go (inl above) le = ap (take (length code)) (put_above m at bytes k le above) ∙ holds
    go (inr below) le = put_below m at bytes k (length code) le below ∙ holds
