-- The slices that words hold, and what is made of each of them.
use Rattle.std.proofs.Common.{◌∙◌, ap, sym, ◌≡◌, ℕ, zero, suc, ◌+◌, ◌-◌, ◌*◌, ◌^◌, ◌<◌, ◌≤◌, Bool, true, false, refl, arith, List, [], ◌∷◌, length, take, drop}
use Rattle.std.specs.Prelude.{replicate, bit_or}
use Rattle.std.specs.Int.Bits.{or_zero_r}
use Rattle.std.proofs.lemmas.List.{take-take, drop-take}
use Rattle.rp_base.specs.Word.{bit_number}
use Rattle.pwm_block.specs.State.{Slice, State, slice_at_reset, at_reset, is_enabled}
use Rattle.pwm_block.specs.Step.{numbered, set_of}
use Rattle.pwm_block.specs.Outputs.{outputs_of, output_a, output_b}
use Rattle.pwm_block.specs.Words.{with_slices}
use Rattle.pwm_block.specs.Packing.{slice_of, slices_in, words_of, block_of}

-- ---- the slices in words

pub no_slices : (ws : List ℕ) → slices_in 0 ws ≡ []
unfolding slices_in
no_slices ws = refl

pub one_more : (n : ℕ) (ws : List ℕ) → slices_in (suc n) ws ≡ slice_of (take 8 ws) ∷ slices_in n (drop 8 ws)
unfolding slices_in
one_more n ws = refl

pub first_slice : (left : ℕ) (ws : List ℕ) → 0 < left → slices_in left ws ≡ slice_of (take 8 ws) ∷ slices_in (left - 1) (drop 8 ws)
first_slice zero ws h = absurd (omega arith)
first_slice (suc n) ws h = one_more n ws ∙ ap (λ (k : ℕ). slice_of (take 8 ws) ∷ slices_in k (drop 8 ws)) (before n)
  where
    before : (n : ℕ) → n ≡ suc n - 1
    before n = omega arith

pub none_left : (left : ℕ) (ws : List ℕ) → left ≡ 0 → slices_in left ws ≡ []
none_left left ws e = ap (λ (n : ℕ). slices_in n ws) e ∙ no_slices ws

-- the words behind the slices are not looked at
pub slices_front : (n m : ℕ) (ws : List ℕ) → m ≡ 8 * n → slices_in n (take m ws) ≡ slices_in n ws
slices_front zero m ws e = no_slices (take m ws) ∙ sym (no_slices ws)
slices_front (suc n) m ws e =
    one_more n (take m ws)
    ∙ ap (λ (xs : List ℕ). slice_of xs ∷ slices_in n (drop 8 (take m ws))) (take-take 8 m ws (omega arith))
    ∙ ap (λ (xs : List ℕ). slice_of (take 8 ws) ∷ slices_in n xs) (ap (λ (k : ℕ). drop 8 (take k ws)) (sum n m e) ∙ drop-take 8 (8 * n) ws)
    ∙ ap (λ (ss : List Slice). slice_of (take 8 ws) ∷ ss) (slices_front n (8 * n) (drop 8 ws) refl)
    ∙ sym (one_more n ws)
  where
    sum : (n m : ℕ) → m ≡ 8 * suc n → m ≡ 8 + 8 * n
    sum n m e = omega arith

pub length-slices : (n : ℕ) (ws : List ℕ) → length (slices_in n ws) ≡ n
length-slices zero ws = ap length (no_slices ws)
length-slices (suc n) ws = omega (arith, ap length (one_more n ws), length-slices n (drop 8 ws))

-- ---- what is made of them

pub length-numbered : (f : ℕ → Slice → Slice) (n : ℕ) (ss : List Slice) → length (numbered f n ss) ≡ length ss
length-numbered f n [] = refl
length-numbered f n (s ∷ ss) = omega (arith, length-numbered f (n + 1) ss)

pub numbered_same : (n : ℕ) (ss : List Slice) → numbered (λ k s. s) n ss ≡ ss
numbered_same n [] = refl
numbered_same n (s ∷ ss) = ap (λ (rest : List Slice). s ∷ rest) (numbered_same (n + 1) ss)

pub numbered-alike : (r : Slice) (n : ℕ) (ss : List Slice) → numbered (λ k s. r) n ss ≡ replicate (length ss) r
numbered-alike r n [] = refl
numbered-alike r n (s ∷ ss) = ap (λ (rest : List Slice). r ∷ rest) (numbered-alike r (n + 1) ss)

pub set_of-none : (n : ℕ) (ss : List Slice) → set_of (λ k s. false) n ss ≡ 0
set_of-none n [] = refl
set_of-none n (s ∷ ss) = omega (arith, set_of-none (n + 1) ss)

-- ---- how large they are

plus-zero : (n : ℕ) → n + 0 ≡ n
plus-zero n = omega arith

plus-suc : (n m : ℕ) → n + suc m ≡ suc (n + m)
plus-suc n m = omega arith

pub bit_small : (b : Bool) → bit_number b < 2
bit_small true = omega arith
bit_small false = omega arith

-- so many times as many
times : ℕ → ℕ → ℕ
times k zero = 1
times k (suc n) = k * times k n

times-more : (k n : ℕ) → times k (suc n) ≡ k * times k n
unfolding times
times-more k n = refl

times-one : (k : ℕ) → times k 0 ≡ 1
unfolding times
times-one k = refl

set_of-times : (p : ℕ → Slice → Bool) (n : ℕ) (ss : List Slice) → set_of p n ss < times 2 (length ss)
set_of-times p n [] = omega (arith, times-one 2)
set_of-times p n (s ∷ ss) = omega (arith, times-more 2 (length ss), set_of-times p (n + 1) ss, bit_small (p n s))

outputs_of-times : (ss : List Slice) → outputs_of ss < times 4 (length ss)
outputs_of-times [] = omega (arith, times-one 4)
outputs_of-times (s ∷ ss) = omega (arith, times-more 4 (length ss), outputs_of-times ss, bit_small (output_a s), bit_small (output_b s))

rise-2 : (n m : ℕ) → times 2 n ≤ times 2 (n + m)
rise-2 n zero = omega (arith, ap (times 2) (plus-zero n))
rise-2 n (suc m) = omega (arith, ap (times 2) (plus-suc n m), times-more 2 (n + m), rise-2 n m)

rise-4 : (n m : ℕ) → times 4 n ≤ times 4 (n + m)
rise-4 n zero = omega (arith, ap (times 4) (plus-zero n))
rise-4 n (suc m) = omega (arith, ap (times 4) (plus-suc n m), times-more 4 (n + m), rise-4 n m)

eight-2 : times 2 8 ≡ 2 ^ 8
unfolding times
eight-2 = refl

eight-4 : times 4 8 ≡ 2 ^ 16
unfolding times
eight-4 = refl

within-8 : (n : ℕ) → n ≤ 8 → n + (8 - n) ≡ 8
within-8 n h = omega arith

at-most-2 : (n : ℕ) → n ≤ 8 → times 2 n ≤ 2 ^ 8
at-most-2 n h = omega (arith, rise-2 n (8 - n), ap (times 2) (within-8 n h), eight-2)

at-most-4 : (n : ℕ) → n ≤ 8 → times 4 n ≤ 2 ^ 16
at-most-4 n h = omega (arith, rise-4 n (8 - n), ap (times 4) (within-8 n h), eight-4)

pub set_of-lt : (p : ℕ → Slice → Bool) (n : ℕ) (ss : List Slice) → length ss ≤ 8 → set_of p n ss < 2 ^ 8
set_of-lt p n ss h = omega (arith, set_of-times p n ss, at-most-2 (length ss) h)

pub outputs_of-lt : (ss : List Slice) → length ss ≤ 8 → outputs_of ss < 2 ^ 16
outputs_of-lt ss h = omega (arith, outputs_of-times ss, at-most-4 (length ss) h)

-- ---- a change of the last so many slices

pub no_words : (ws : List ℕ) → length ws ≡ 0 → ws ≡ []
no_words [] h = refl
no_words (w ∷ ws) h = absurd (omega arith)

-- ---- how large what is found is

pub set_small : (p : ℕ → Slice → Bool) (n left : ℕ) (ws : List ℕ) → left ≤ 8 → set_of p n (slices_in left ws) < 2 ^ 8
set_small p n left ws h = set_of-lt p n (slices_in left ws) (omega (arith, length-slices left ws))

pub enabled_small : (f : ℕ → Slice → Slice) (n left : ℕ) (ws : List ℕ) → left ≤ 8 → set_of (λ n s. is_enabled s) n (numbered f n (slices_in left ws)) < 2 ^ 8
enabled_small f n left ws h = set_of-lt (λ n s. is_enabled s) n (numbered f n (slices_in left ws)) (omega (arith, length-numbered f n (slices_in left ws), length-slices left ws))

pub outputs_small : (f : ℕ → Slice → Slice) (n left : ℕ) (ws : List ℕ) → left ≤ 8 → outputs_of (numbered f n (slices_in left ws)) < 2 ^ 16
outputs_small f n left ws h = outputs_of-lt (numbered f n (slices_in left ws)) (omega (arith, length-numbered f n (slices_in left ws), length-slices left ws))

-- ---- the whole block

pub five : (ss ts : List Slice) (a b c d e f g h : ℕ) → ss ≡ ts → a ≡ b → c ≡ d → e ≡ f → g ≡ h
    → (let x : State = record { slices = ss; last = a; raised = c; enabled = e; forced = g } in x)
    ≡ record { slices = ts; last = b; raised = d; enabled = f; forced = h }
five ss ts a b c d e f g h i j k l m =
    ap (λ (x : List Slice). record { slices = x; last = a; raised = c; enabled = e; forced = g }) i
    ∙ ap (λ (x : ℕ). record { slices = ts; last = x; raised = c; enabled = e; forced = g }) j
    ∙ ap (λ (x : ℕ). record { slices = ts; last = b; raised = x; enabled = e; forced = g }) k
    ∙ ap (λ (x : ℕ). record { slices = ts; last = b; raised = d; enabled = x; forced = g }) l
    ∙ ap (λ (x : ℕ). record { slices = ts; last = b; raised = d; enabled = f; forced = x }) m

-- the block after a change, by the slices that were found
abbrev after : (ℕ → Slice → Slice) → (ℕ → Slice → Bool) → ℕ → ℕ → ℕ → ℕ → List Slice → State
after f p last r e fo ss = record { slices = numbered f 0 ss; last = last; raised = bit_or r (set_of p 0 ss); enabled = e; forced = fo }

pub started : (ws : List ℕ) → words_of (after (λ n s. slice_at_reset) (λ n s. false) 0 0 0 0 (slices_in 8 ws)) ≡ words_of at_reset
started ws =
    ap words_of (five _ _ 0 0 _ _ 0 0 0 0
    (numbered-alike slice_at_reset 0 (slices_in 8 ws) ∙ ap (λ (n : ℕ). replicate n slice_at_reset) (length-slices 8 ws))
    refl (ap (λ (x : ℕ). bit_or 0 x) (set_of-none 0 (slices_in 8 ws))) refl refl)

none-raised : (p : ℕ → Slice → Bool) (r : ℕ) (ss : List Slice) → p ≡ (λ n s. false) → bit_or r (set_of p 0 ss) ≡ r
none-raised p r ss h = ap (λ (q : ℕ → Slice → Bool). bit_or r (set_of q 0 ss)) h ∙ ap (bit_or r) (set_of-none 0 ss) ∙ or_zero_r r

pub changed : (f : ℕ → Slice → Slice) (p : ℕ → Slice → Bool) (last r e fo : ℕ) (ws : List ℕ)
    → p ≡ (λ n s. false) → last ≡ (block_of ws).last → r ≡ (block_of ws).raised → e ≡ (block_of ws).enabled → fo ≡ (block_of ws).forced
    → words_of (after f p last r e fo (slices_in 8 ws)) ≡ words_of (with_slices f (block_of ws))
changed f p last r e fo ws h i j k l =
    let same : after f p last r e fo (slices_in 8 ws) ≡ with_slices f (block_of ws) =
    five (numbered f 0 (slices_in 8 ws)) (numbered f 0 (slices_in 8 ws)) _ _ _ _ _ _ _ _ refl i (none-raised p r (slices_in 8 ws) h ∙ j) k l in
    ap words_of same

pub unchanged : (last r e fo : ℕ) (ws : List ℕ) → last ≡ (block_of ws).last
    → words_of (after (λ n s. s) (λ n s. false) last r e fo (slices_in 8 ws))
    ≡ words_of (record (block_of ws) { raised = r; enabled = e; forced = fo })
unchanged last r e fo ws i =
    let same : after (λ n s. s) (λ n s. false) last r e fo (slices_in 8 ws) ≡ record (block_of ws) { raised = r; enabled = e; forced = fo } =
    five _ _ _ _ _ _ e e fo fo (numbered_same 0 (slices_in 8 ws)) i (none-raised (λ n s. false) r (slices_in 8 ws) refl) refl refl in
    ap words_of same
