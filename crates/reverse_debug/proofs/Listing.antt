-- Lists that are written one after another.
use Rattle.std.proofs.Common.{◌≡◌, ℕ, suc, ◌+◌, ◌-◌, ◌<◌, List, [], ◌∷◌, ◌++◌, flat_map, drop, length, get_or, refl, sym, ap, arith, ◌∙◌, append_assoc, append-nil}
use Rattle.reverse_debug.proofs.Shared.{hex_word, pio_words, range_with_len, spaced_word}

-- one piece more, where the rest begins with its item
pub piece_more : (f : ℕ → List ℕ) (now after : List ℕ) (x : ℕ) (left rest : List ℕ) (whole : List ℕ) → left ≡ x ∷ rest → now ++ flat_map f left ≡ whole → after ≡ now ++ f x → after ++ flat_map f rest ≡ whole
piece_more f now after x left rest whole e so_far more =
    ap (λ t. t ++ flat_map f rest) more ∙ append_assoc now (f x) (flat_map f rest)
    ∙ ap (λ xs. now ++ flat_map f xs) (sym e) ∙ so_far

pub range_on : (pin : ℕ) → pin < 30 → range_with_len pin (30 - pin) ≡ pin ∷ range_with_len (pin + 1) (30 - (pin + 1))
range_on pin lt = let e : 30 - pin ≡ suc (30 - (pin + 1)) = omega arith in rw e refl

five_pieces : (a p q r s t : List ℕ) → ((((a ++ p) ++ q) ++ r) ++ s) ++ t ≡ a ++ (p ++ (q ++ (r ++ (s ++ (t ++ [])))))
five_pieces a p q r s t = simp (append_assoc, append-nil)

-- the five registers of a PIO machine, one after another
pub five_registers : (words a b c d e f : List ℕ) → length words ≡ 5 → b ≡ a ++ (32 ∷ drop 6 (hex_word (get_or words 0 0))) → c ≡ b ++ spaced_word (get_or words 1 0) → d ≡ c ++ spaced_word (get_or words 2 0) → e ≡ d ++ spaced_word (get_or words 3 0) → f ≡ e ++ spaced_word (get_or words 4 0) → f ≡ a ++ pio_words words
five_registers (v ∷ w ∷ x ∷ y ∷ z ∷ []) a b c d e f five h i j k l =
    l ∙ ap (λ t. t ++ spaced_word z) (k ∙ ap (λ t. t ++ spaced_word y) (j ∙ ap (λ t. t ++ spaced_word x) (i ∙ ap (λ t. t ++ spaced_word w) h)))
    ∙ five_pieces a (32 ∷ drop 6 (hex_word v)) (spaced_word w) (spaced_word x) (spaced_word y) (spaced_word z)
five_registers _ a b c d e f five h i j k l = absurd (omega arith)
