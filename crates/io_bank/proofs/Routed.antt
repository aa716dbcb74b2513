-- Signals of all pins at once are the signals of each pin.
use Rattle.std.proofs.Common.{◌≡◌, ℕ, ◌-◌, ◌/◌, ◌%◌, ◌^◌, ◌<◌, Bool, true, false, not, ◌&&◌, ◌||◌, eqb, refl, ap, sym, subst, ◌∙◌, cond, ◌⊎◌, inl, inr, arith, List, [], ◌∷◌, Option, Some, None}
use Rattle.std.specs.Prelude.{bit_and, bit_xor, slice_index, is_some, unwrap_or}
use Rattle.std.proofs.Math.Bool.{and-true, and-false, or-false, and_comm}
use Rattle.std.proofs.lemmas.Grind.{common_steps}
use Rattle.std.proofs.lemmas.Bool.Decides.{nat_tests}
use Rattle.std.proofs.lemmas.Nat.{and_le_r, and_le_l, or_lt, xor_lt, pow_pos}
use Rattle.std.proofs.lemmas.Nat.Bits.{bit_at-zero}
use Rattle.rp_base.specs.Word.{has_bit}
use Rattle.io_bank.specs.declared.outputs.Outs.{Outs}
use Rattle.io_bank.specs.declared.events.Edges.{Edges}
use Rattle.io_bank.specs.Pins.{bits_below, pins_where, field, overridden}
use Rattle.io_bank.specs.State.{State, no_edges}
use Rattle.io_bank.specs.Levels.{peripheral, function_of, level_to, enable_to, level_outside, pad_level, levels_of, by_sets, level_sensed, input_of, inputs_of, by_list}
use Rattle.io_bank.specs.Edges.{falling, rising, edges_of}
use Rattle.io_bank.specs.Routes.{pins_with, override_of, routes_of, routed_override, routed_mix, routed_part, chosen, routed_levels, routed_inputs}
use Rattle.io_bank.proofs.Bits.{differ, has_and, has_or, has_xor, has_ones, bits_below-lt, bits_below-at, bits_below-is, bits_below-same}

-- ---- laws of Bool

over-is : (way : ℕ) (b : Bool) → ((differ b (eqb way 1) && (eqb way 0 || eqb way 1)) || eqb way 3) ≡ overridden way b
over-is way b = grind (arith, nat_tests)

chosen-is : (a b s : Bool) → differ a (differ a b && s) ≡ cond s b a
chosen-is a b s = grind (arith, nat_tests)

fall-is : (a b : Bool) → (a && differ a b) ≡ (a && not b)
fall-is a b = grind (arith, nat_tests)

rise-is : (a b : Bool) → (b && differ a b) ≡ (not a && b)
rise-is a b = grind (arith, nat_tests)

nor-self : (a : Bool) → (a && not a) ≡ false
nor-self a = grind (arith, nat_tests)

not-and_self : (a : Bool) → (not a && a) ≡ false
not-and_self a = grind (arith, nat_tests)

disabled-is : (n : ℕ) → eqb (n % 2) 0 ≡ not (eqb (n % 2) 1)
disabled-is n = grind (arith, nat_tests)

below_two : (k : ℕ) → k < 2 → (k ≡ 0) ⊎ (k ≡ 1)
below_two k h = grind arith

-- ---- the part of a pin's function

abbrev picked : ℕ → Bool → Bool → Bool → Bool → Bool → Bool
picked f a b c d e =
    cond (eqb f 2) a (cond (eqb f 4) b (cond (eqb f 5) c (cond (eqb f 6) d (cond (eqb f 7) e false))))

mix-is : (f : ℕ) (a b c d e : Bool) →
    (((((a && eqb f 2) || (b && eqb f 4)) || (c && eqb f 5)) || (d && eqb f 6)) || (e && eqb f 7)) ≡ picked f a b c d e
mix-is f a b c d e = grind (arith, nat_tests, and-true, and-false, or-false)

cond-of : {A B : Type 0} (g : A → B) (b : Bool) (x y : A) (z : B) → z ≡ g y → cond b (g x) z ≡ g (cond b x y)
cond-of g true x y z h = refl
cond-of g false x y z h = h

picked-is : (outs : Outs) (g : List ℕ → Bool) (f : ℕ) → g (0 ∷ 0 ∷ []) ≡ false →
    picked f (g outs.uart) (g outs.pwm) (g outs.sio) (g outs.pio0) (g outs.pio1) ≡ g (peripheral outs f)
picked-is outs g f none =
    cond-of g (eqb f 2) outs.uart _ _ (cond-of g (eqb f 4) outs.pwm _ _ (cond-of g (eqb f 5) outs.sio _ _
    (cond-of g (eqb f 6) outs.pio0 _ _ (cond-of g (eqb f 7) outs.pio1 (0 ∷ 0 ∷ []) false (sym none)))))

no-bit : (i : ℕ) → has_bit 0 i ≡ false
no-bit i = ap (λ n. eqb n 1) (bit_at-zero i)

none-of : (i k : ℕ) → k < 2 → has_bit (slice_index (0 ∷ 0 ∷ []) k) i ≡ false
none-of i k h =
    elim (below_two k h) [
      | inl zero_is ↦ subst (λ n. has_bit (slice_index (0 ∷ 0 ∷ []) n) i ≡ false) (sym zero_is) (no-bit i)
      | inr one_is ↦ subst (λ n. has_bit (slice_index (0 ∷ 0 ∷ []) n) i ≡ false) (sym one_is) (no-bit i)
    ]

-- ---- each operation at a pin

-- the bits of a set of pins with a value
with-at : (words : List ℕ) (low count value i : ℕ) → i < 30 →
    has_bit (pins_with words low count value) i ≡ eqb (field (slice_index words i) low count) value
with-at words low count value i h = bits_below-at (λ pin. eqb (field (slice_index words pin) low count) value) 30 i h

overridden-at : (controls : List ℕ) (low x i : ℕ) → i < 30 →
    has_bit (routed_override (override_of controls low) x) i ≡ overridden (field (slice_index controls i) low 2) (has_bit x i)
overridden-at controls low x i h =
    simp (has_or, has_and, has_xor, with-at controls low 2 0 i h, with-at controls low 2 1 i h, with-at controls low 2 3 i h)
    (over-is (field (slice_index controls i) low 2) (has_bit x i))

chosen-at : (outside inside set i : ℕ) → has_bit (chosen outside inside set) i ≡
    cond (has_bit set i) (has_bit inside i) (has_bit outside i)
chosen-at outside inside set i = simp (has_xor, has_and) (chosen-is (has_bit outside i) (has_bit inside i) (has_bit set i))

mix-at : (controls pads : List ℕ) (a b c d e i : ℕ) → i < 30 →
    has_bit (routed_mix (routes_of controls pads) a b c d e) i ≡
    picked (function_of (slice_index controls i)) (has_bit a i) (has_bit b i) (has_bit c i) (has_bit d i) (has_bit e i)
unfolding routes_of
mix-at controls pads a b c d e i h =
    simp (has_or, has_and, with-at controls 0 5 2 i h, with-at controls 0 5 4 i h, with-at controls 0 5 5 i h, with-at controls 0 5 6 i h, with-at controls 0 5 7 i h)
    (mix-is (function_of (slice_index controls i)) (has_bit a i) (has_bit b i) (has_bit c i) (has_bit d i) (has_bit e i))

routed_part-at : (controls pads : List ℕ) (outs : Outs) (k i : ℕ) → i < 30 → k < 2 →
    has_bit (routed_part (routes_of controls pads) outs k) i ≡
    has_bit (slice_index (peripheral outs (function_of (slice_index controls i))) k) i
routed_part-at controls pads outs k i h lt =
    mix-at controls pads (slice_index outs.uart k) (slice_index outs.pwm k) (slice_index outs.sio k) (slice_index outs.pio0 k)
    (slice_index outs.pio1 k) i h
    ∙ picked-is outs (λ pair. has_bit (slice_index pair k) i) (function_of (slice_index controls i)) (none-of i k lt)

level-at : (controls pads : List ℕ) (outs : Outs) (i : ℕ) → i < 30 →
    has_bit (routed_override (routes_of controls pads).out (routed_part (routes_of controls pads) outs 0)) i ≡
    level_to outs (slice_index controls i) i
unfolding routes_of
level-at controls pads outs i h =
    overridden-at controls 8 (routed_part (routes_of controls pads) outs 0) i h
    ∙ ap (overridden (field (slice_index controls i) 8 2)) (routed_part-at controls pads outs 0 i h (omega arith))

enable-at : (controls pads : List ℕ) (outs : Outs) (i : ℕ) → i < 30 →
    has_bit (routed_override (routes_of controls pads).enable (routed_part (routes_of controls pads) outs 1)) i ≡
    enable_to outs (slice_index controls i) i
unfolding routes_of
enable-at controls pads outs i h =
    overridden-at controls 12 (routed_part (routes_of controls pads) outs 1) i h
    ∙ ap (overridden (field (slice_index controls i) 12 2)) (routed_part-at controls pads outs 1 i h (omega arith))

drives-at : (controls pads : List ℕ) (i : ℕ) → i < 30 →
    has_bit (routes_of controls pads).drives i ≡ not (has_bit (slice_index pads i) 7)
unfolding routes_of
drives-at controls pads i h = with-at pads 7 1 0 i h ∙ disabled-is (slice_index pads i / 2 ^ 7)

pulls-at : (controls pads : List ℕ) (i : ℕ) → i < 30 → has_bit (routes_of controls pads).pulls i ≡ has_bit (slice_index pads i) 3
unfolding routes_of
pulls-at controls pads i h = with-at pads 3 1 1 i h

senses-at : (controls pads : List ℕ) (i : ℕ) → i < 30 → has_bit (routes_of controls pads).senses i ≡ has_bit (slice_index pads i) 6
unfolding routes_of
senses-at controls pads i h = with-at pads 6 1 1 i h

outside-is : (d h : Bool) (pad : ℕ) → cond d h (has_bit pad 3) ≡ level_outside (cond d (Some h) None) pad
outside-is true h pad = refl
outside-is false h pad = refl

outside-at : (controls pads : List ℕ) (driven high i : ℕ) → i < 30 →
    has_bit (chosen (routes_of controls pads).pulls high driven) i ≡ level_outside (by_sets driven high i) (slice_index pads i)
outside-at controls pads driven high i h =
    simp (chosen-at, pulls-at controls pads i h) (outside-is (has_bit driven i) (has_bit high i) (slice_index pads i))

driven-at : (controls pads : List ℕ) (outs : Outs) (i : ℕ) → i < 30 →
    has_bit (bit_and (routed_override (routes_of controls pads).enable (routed_part (routes_of controls pads) outs 1)) (routes_of controls pads).drives) i ≡
    (enable_to outs (slice_index controls i) i && not (has_bit (slice_index pads i) 7))
driven-at controls pads outs i h = simp (has_and, enable-at controls pads outs i h, drives-at controls pads i h)

-- ---- levels and inputs

masked-at : (x i : ℕ) → i < 30 → has_bit (bit_and x (2 ^ 30 - 1)) i ≡ has_bit x i
masked-at x i h = simp (has_and, has_ones 30 i h, and-true)

masked-lt : (x : ℕ) → bit_and x (2 ^ 30 - 1) < 2 ^ 30
masked-lt x = omega (arith, and_le_r x (2 ^ 30 - 1))

levels-at : (controls pads : List ℕ) (outs : Outs) (driven high i : ℕ) → i < 30 →
    has_bit (routed_levels (routes_of controls pads) outs driven high) i ≡
    pad_level outs (by_sets driven high i) (slice_index controls i) (slice_index pads i) i
levels-at controls pads outs driven high i h =
    let r = routes_of controls pads in
    masked-at _ i h
    ∙ chosen-at (chosen r.pulls high driven) (routed_override r.out (routed_part r outs 0)) _ i
    ∙ rw (driven-at controls pads outs i h, level-at controls pads outs i h, outside-at controls pads driven high i h) refl

pub routed_levels-is : (s : State) (outs : Outs) (driven high : ℕ) →
    routed_levels (routes_of s.controls s.pads) outs driven high ≡ levels_of outs (by_sets driven high) s
routed_levels-is s outs driven high =
    bits_below-is (λ pin. pad_level outs (by_sets driven high pin) (slice_index s.controls pin) (slice_index s.pads pin) pin) 30
    (routed_levels (routes_of s.controls s.pads) outs driven high)
    (masked-lt _)
    (λ i h. levels-at s.controls s.pads outs driven high i h)

sensed-at : (s : State) (levels i : ℕ) → i < 30 →
    has_bit (bit_and levels (routes_of s.controls s.pads).senses) i ≡ level_sensed s levels i
sensed-at s levels i h =
    has_and levels (routes_of s.controls s.pads).senses i
    ∙ rw (senses-at s.controls s.pads i h) (and_comm (has_bit levels i) (has_bit (slice_index s.pads i) 6))

inputs-at : (s : State) (levels i : ℕ) → i < 30 →
    has_bit (routed_inputs (routes_of s.controls s.pads) levels) i ≡ input_of s levels i
unfolding routes_of
inputs-at s levels i h =
    overridden-at s.controls 16 (bit_and levels (routes_of s.controls s.pads).senses) i h
    ∙ ap (overridden (field (slice_index s.controls i) 16 2)) (sensed-at s levels i h)

with-lt : (words : List ℕ) (low count value : ℕ) → pins_with words low count value < 2 ^ 30
with-lt words low count value = bits_below-lt (λ pin. eqb (field (slice_index words pin) low count) value) 30

override-lt : (controls : List ℕ) (low x : ℕ) → routed_override (override_of controls low) x < 2 ^ 30
override-lt controls low x =
    let passes : (override_of controls low).passes < 2 ^ 30 = or_lt 30 _ _ (with-lt controls low 2 0) (with-lt controls low 2 1) in
    let kept = and_le_r (bit_xor x (override_of controls low).flips) (override_of controls low).passes in
    or_lt 30 (bit_and (bit_xor x (override_of controls low).flips) (override_of controls low).passes)
    (override_of controls low).sets (omega (arith, kept, passes)) (with-lt controls low 2 3)

inputs-lt : (s : State) (levels : ℕ) → routed_inputs (routes_of s.controls s.pads) levels < 2 ^ 30
unfolding routes_of
inputs-lt s levels = override-lt s.controls 16 (bit_and levels (routes_of s.controls s.pads).senses)

pub routed_inputs-is : (s : State) (levels : ℕ) → routed_inputs (routes_of s.controls s.pads) levels ≡ inputs_of s levels
routed_inputs-is s levels =
    bits_below-is (input_of s levels) 30 (routed_inputs (routes_of s.controls s.pads) levels) (inputs-lt s levels)
    (λ i h. inputs-at s levels i h)

-- ---- sets of pins

pub others-is : (f : ℕ → Bool) → bit_xor (2 ^ 30 - 1) (pins_where f) ≡ pins_where (λ pin. not (f pin))
others-is f =
    bits_below-is (λ pin. not (f pin)) 30 (bit_xor (2 ^ 30 - 1) (pins_where f))
    (xor_lt 30 (2 ^ 30 - 1) (pins_where f) (omega arith) (bits_below-lt f 30))
    (λ i h. simp (has_xor, has_ones 30 i h, bits_below-at f 30 i h))

falls-is : (f g : ℕ → Bool) → bit_and (pins_where f) (bit_xor (pins_where f) (pins_where g)) ≡ pins_where (λ pin. f pin && not (g pin))
falls-is f g =
    bits_below-is (λ pin. f pin && not (g pin)) 30 (bit_and (pins_where f) (bit_xor (pins_where f) (pins_where g)))
    (omega (arith, and_le_l (pins_where f) (bit_xor (pins_where f) (pins_where g)), bits_below-lt f 30))
    (λ i h. simp (has_and, has_xor, bits_below-at f 30 i h, bits_below-at g 30 i h) (fall-is (f i) (g i)))

rises-is : (f g : ℕ → Bool) → bit_and (pins_where g) (bit_xor (pins_where f) (pins_where g)) ≡ pins_where (λ pin. not (f pin) && g pin)
rises-is f g =
    bits_below-is (λ pin. not (f pin) && g pin) 30 (bit_and (pins_where g) (bit_xor (pins_where f) (pins_where g)))
    (omega (arith, and_le_l (pins_where g) (bit_xor (pins_where f) (pins_where g)), bits_below-lt g 30))
    (λ i h. simp (has_and, has_xor, bits_below-at f 30 i h, bits_below-at g 30 i h) (rise-is (f i) (g i)))

no-pins : (n : ℕ) → bits_below (λ pin. false) n ≡ 0
no-pins n = sym (bits_below-is (λ pin. false) n 0 (omega (arith, pow_pos n)) (λ i h. no-bit i))

-- ---- edges

edges-from : (b : Bool) (low high : ℕ) (e : Edges) → b ≡ false → low ≡ e.low → high ≡ e.high →
    cond b no_edges e ≡ record { low = low; high = high }
edges-from true low high e h p q = absurd (grind (arith, common_steps))
edges-from false low high e h p q = rw (p, q) refl

-- the edges by the inputs before and after
pub edges_of-changed : (s : State) → s.bank_held ≡ false →
    edges_of s ≡ record {
      low = bit_and (inputs_of s s.second) (bit_xor (inputs_of s s.second) (inputs_of s s.first));
      high = bit_and (inputs_of s s.first) (bit_xor (inputs_of s s.second) (inputs_of s s.first));
    }
edges_of-changed s h =
    edges-from s.bank_held _ _ (record { low = falling s; high = rising s }) h
    (falls-is (input_of s s.second) (input_of s s.first)) (rises-is (input_of s s.second) (input_of s s.first))

cond-same : (b : Bool) (e : Edges) → e ≡ no_edges → cond b no_edges e ≡ no_edges
cond-same true e h = refl
cond-same false e h = h

at_rest-low : (s : State) → s.first ≡ s.second → falling s ≡ 0
at_rest-low s e =
    bits_below-same (λ pin. input_of s s.second pin && not (input_of s s.first pin)) (λ pin. false) 30
    (λ i h. ap (λ n. input_of s s.second i && not (input_of s n i)) e ∙ nor-self (input_of s s.second i))
    ∙ no-pins 30

at_rest-high : (s : State) → s.first ≡ s.second → rising s ≡ 0
at_rest-high s e =
    bits_below-same (λ pin. not (input_of s s.second pin) && input_of s s.first pin) (λ pin. false) 30
    (λ i h. ap (λ n. not (input_of s s.second i) && input_of s n i) e ∙ not-and_self (input_of s s.second i))
    ∙ no-pins 30

-- no edge without a change
pub edges_of-at_rest : (s : State) → s.first ≡ s.second → edges_of s ≡ no_edges
edges_of-at_rest s e =
    cond-same s.bank_held (record { low = falling s; high = rising s }) (rw (at_rest-low s e, at_rest-high s e) refl)

pub edges_of-held : (s : State) → s.bank_held ≡ true → edges_of s ≡ no_edges
edges_of-held s h = ap (λ b. cond b no_edges (record { low = falling s; high = rising s })) h

pub ruleset others = (others-is)

pub ruleset edges_laws = (edges_of-changed, edges_of-at_rest, edges_of-held)

-- ---- the level from outside, by a list and by sets

by-is : (o : Option Bool) → cond (is_some o) (Some (unwrap_or o false)) None ≡ o
by-is None = refl
by-is (Some b) = refl

pub by_sets-list : (levels : List (Option Bool)) (i : ℕ) → i < 30 →
    by_sets (pins_where (λ pin. is_some (by_list levels pin))) (pins_where (λ pin. unwrap_or (by_list levels pin) false)) i ≡
    by_list levels i
by_sets-list levels i h =
    ap (λ b. cond b (Some (has_bit (pins_where (λ pin. unwrap_or (by_list levels pin) false)) i)) None)
    (bits_below-at (λ pin. is_some (by_list levels pin)) 30 i h)
    ∙ ap (λ b. cond (is_some (by_list levels i)) (Some b) None)
    (bits_below-at (λ pin. unwrap_or (by_list levels pin) false) 30 i h)
    ∙ by-is (by_list levels i)

pub levels_same : (outs : Outs) (f g : ℕ → Option Bool) (s : State) → ((i : ℕ) → i < 30 → f i ≡ g i) →
    levels_of outs f s ≡ levels_of outs g s
levels_same outs f g s h =
    bits_below-same (λ pin. pad_level outs (f pin) (slice_index s.controls pin) (slice_index s.pads pin) pin)
    (λ pin. pad_level outs (g pin) (slice_index s.controls pin) (slice_index s.pads pin) pin) 30
    (λ i lt. ap (λ o. pad_level outs o (slice_index s.controls i) (slice_index s.pads i) i) (h i lt))

pub levels_of-list : (outs : Outs) (levels : List (Option Bool)) (driven high : ℕ) (s : State) →
    driven ≡ pins_where (λ pin. is_some (by_list levels pin)) → high ≡ pins_where (λ pin. unwrap_or (by_list levels pin) false) →
    levels_of outs (by_sets driven high) s ≡ levels_of outs (by_list levels) s
levels_of-list outs levels driven high s d e =
    rw (d, e) (levels_same outs _ (by_list levels) s (λ i h. by_sets-list levels i h))

pub ruleset listed = (levels_of-list)
