-- What a write of some byte lanes leaves: byte by byte, and where all lanes or none are chosen.
use Rattle.std.proofs.Common.{◌≡◌, ℕ, zero, suc, ◌^◌, ◌<◌, true, false, cond, arith, ◌∙◌, ap}
use Rattle.rp_base.specs.Word.{has_bit}
use Rattle.rp_base.specs.Word.{byte_of, joined}
use Rattle.ram_banks.specs.Lanes.{lane_byte, with_lanes}
use Rattle.ram_banks.specs.Laws.{LanesLaw}

lane_byte_small : (lanes value word k : ℕ) → lane_byte lanes value word k < 2 ^ 8
lane_byte_small lanes value word k =
    elim (has_bit lanes k) as (λ b. cond b (byte_of value k) (byte_of word k) < 2 ^ 8) [ true ↦ omega arith | false ↦ omega arith ]

joined_small : (a b c d : ℕ) → a < 2 ^ 8 → b < 2 ^ 8 → c < 2 ^ 8 → d < 2 ^ 8 → joined a b c d < 2 ^ 32
joined_small a b c d la lb lc ld = omega arith

byte_0 : (a b c d : ℕ) → a < 2 ^ 8 → b < 2 ^ 8 → c < 2 ^ 8 → d < 2 ^ 8 → byte_of (joined a b c d) 0 ≡ d
byte_0 a b c d la lb lc ld = omega arith

byte_1 : (a b c d : ℕ) → a < 2 ^ 8 → b < 2 ^ 8 → c < 2 ^ 8 → d < 2 ^ 8 → byte_of (joined a b c d) 1 ≡ c
byte_1 a b c d la lb lc ld = omega arith

byte_2 : (a b c d : ℕ) → a < 2 ^ 8 → b < 2 ^ 8 → c < 2 ^ 8 → d < 2 ^ 8 → byte_of (joined a b c d) 2 ≡ b
byte_2 a b c d la lb lc ld = omega arith

byte_3 : (a b c d : ℕ) → a < 2 ^ 8 → b < 2 ^ 8 → c < 2 ^ 8 → d < 2 ^ 8 → byte_of (joined a b c d) 3 ≡ a
byte_3 a b c d la lb lc ld = omega arith

pub with_lanes_small : (lanes value word : ℕ) → with_lanes lanes value word < 2 ^ 32
unfolding with_lanes
with_lanes_small lanes value word =
    joined_small _ _ _ _ (lane_byte_small lanes value word 3) (lane_byte_small lanes value word 2) (lane_byte_small lanes value word 1)
    (lane_byte_small lanes value word 0)

pub byte_of-with_lanes : (lanes value word k : ℕ) → k < 4 → byte_of (with_lanes lanes value word) k ≡ lane_byte lanes value word k
unfolding with_lanes
byte_of-with_lanes lanes value word zero lt =
    byte_0 _ _ _ _ (lane_byte_small lanes value word 3) (lane_byte_small lanes value word 2) (lane_byte_small lanes value word 1)
    (lane_byte_small lanes value word 0)
byte_of-with_lanes lanes value word (suc zero) lt =
    byte_1 _ _ _ _ (lane_byte_small lanes value word 3) (lane_byte_small lanes value word 2) (lane_byte_small lanes value word 1)
    (lane_byte_small lanes value word 0)
byte_of-with_lanes lanes value word (suc (suc zero)) lt =
    byte_2 _ _ _ _ (lane_byte_small lanes value word 3) (lane_byte_small lanes value word 2) (lane_byte_small lanes value word 1)
    (lane_byte_small lanes value word 0)
byte_of-with_lanes lanes value word (suc (suc (suc zero))) lt =
    byte_3 _ _ _ _ (lane_byte_small lanes value word 3) (lane_byte_small lanes value word 2) (lane_byte_small lanes value word 1)
    (lane_byte_small lanes value word 0)
byte_of-with_lanes lanes value word (suc (suc (suc (suc k)))) lt = absurd (omega arith)

chosen_lane : (lanes value word k : ℕ) → has_bit lanes k ≡ true → lane_byte lanes value word k ≡ byte_of value k
chosen_lane lanes value word k is = ap (λ b. cond b (byte_of value k) (byte_of word k)) is

kept_lane : (lanes value word k : ℕ) → has_bit lanes k ≡ false → lane_byte lanes value word k ≡ byte_of word k
kept_lane lanes value word k is = ap (λ b. cond b (byte_of value k) (byte_of word k)) is

pub writes_lanes : LanesLaw
writes_lanes lanes value word = record {
  chosen = λ k lt is. byte_of-with_lanes lanes value word k lt ∙ chosen_lane lanes value word k is;
  kept = λ k lt is. byte_of-with_lanes lanes value word k lt ∙ kept_lane lanes value word k is;
  small = with_lanes_small lanes value word;
}
