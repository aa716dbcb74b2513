-- The code that is generated, word by word, and its length.
use Rattle.std.proofs.Common.{◌≡◌, ℕ, zero, suc, ◌+◌, ◌*◌, ◌/◌, ◌%◌, ◌^◌, List, [], ◌∷◌, ◌++◌, length, refl, arith, ap, sym, ◌∙◌, append_assoc, append-nil, length-append}
use Rattle.std.proofs.Math.Nat.{mod-add-mod}
use Rattle.rand_pcg.specs.Lcg.{Lcg, next_state}
use Rattle.rand_pcg.specs.Pcg.{multiplier_64, output_xsh_rr, pcg32}
use Rattle.uf2_image.specs.Uf2.{FitsSram}
use Rattle.uf2_image.specs.Words.{step, first_state, word_of}
use Rattle.uf2_image.specs.Code.{instruction, halfword, code_from, program_of, image_of_number}

-- what is pushed so far, with what is still to come, is the whole
pub record Pushed (old : List ℕ) (count state : ℕ) (now : List ℕ) (left state' increment : ℕ) : Type 0 where
  pub stream : increment ≡ 3
  pub whole : now ++ code_from left state' ≡ old ++ code_from count state

pub code_none : (state : ℕ) → code_from 0 state ≡ []
unfolding code_from
code_none state = refl

pub code_at_end : (now whole : List ℕ) (left state : ℕ) → left ≡ 0 → now ++ code_from left state ≡ whole → now ≡ whole
code_at_end now whole left state e h =
    let none : code_from left state ≡ [] = ap (λ n. code_from n state) e ∙ code_none state in
    sym (append-nil now) ∙ (ap (λ c. now ++ c) (sym none) ∙ h)

pub code_more : (left less state : ℕ) → left ≡ suc less → code_from left state ≡ halfword (instruction (word_of state)) (code_from less (step state))
unfolding code_from
code_more zero less state e = absurd (omega arith)
code_more (suc left) less state e = let same : left ≡ less = omega arith in rw same refl

pub length-code_from : (count state : ℕ) → length (code_from count state) ≡ 2 * count
unfolding code_from
length-code_from zero state = refl
length-code_from (suc count) state = let rest : length (code_from count (step state)) ≡ 2 * count = length-code_from count (step state) in omega (arith, rest)

-- the kit's generator takes the written step
pub same_word : (state : ℕ) → output_xsh_rr state ≡ word_of state
unfolding word_of
same_word state = refl

pub same_step : (state : ℕ) → next_state 64 multiplier_64 3 state ≡ step state
same_step state = mod-add-mod (state * multiplier_64) (2 ^ 64) 3

-- one word more
pub pushes : (old : List ℕ) (count state : ℕ) (now : List ℕ) (left less state' increment h : ℕ) (g : Lcg) (w : ℕ)
    → Pushed old count state now left state' increment → left ≡ suc less
    → (w, g) ≡ pcg32 (record { state = state'; increment = increment })
    → h ≡ instruction w
    → Pushed old count state ((now ++ (h % 256) ∷ []) ++ (h / 256) ∷ []) less g.state g.increment
pushes old count state now left less state' increment h g w before e word code =
    let is : w ≡ word_of state' = ap (λ p. p.0) word ∙ same_word state' in
    let half : h ≡ instruction (word_of state') = code ∙ ap instruction is in
    let after : g ≡ record { state = next_state 64 multiplier_64 increment state'; increment = increment } = ap (λ p. p.1) word in
    let three : increment ≡ 3 = before.stream in
    let state_is : g.state ≡ step state' =
    ap (λ l. l.state) after ∙ (ap (λ n. next_state 64 multiplier_64 n state') three ∙ same_step state') in
    let more : code_from left state' ≡ h % 256 ∷ h / 256 ∷ code_from less g.state =
    rw (half, state_is) (code_more left less state' e) in
    record {
      stream = ap (λ l. l.increment) after ∙ three;
      whole = append_assoc (now ++ (h % 256) ∷ []) ((h / 256) ∷ []) (code_from less g.state)
          ∙ (append_assoc now ((h % 256) ∷ []) (h / 256 ∷ code_from less g.state) ∙ (ap (λ c. now ++ c) (sym more) ∙ before.whole));
    }

-- the image lies in SRAM
pub fits : (number : ℕ) → FitsSram (image_of_number number)
unfolding program_of
fits number =
    let long : length (code_from 16382 (first_state number)) ≡ 32764 = length-code_from 16382 (first_state number) in
    let all : length (program_of number) ≡ 32768 =
    length-append (code_from 16382 (first_state number)) (halfword 0xF7F8 (halfword 0xF800 [])) ∙ ap (λ n. n + 4) long in
    record { parts = (omega arith, omega (arith, all)); even = refl; from_start = omega arith; before_end = omega arith }
