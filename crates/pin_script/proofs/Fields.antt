-- A line with more fields than its kind has.
use Rattle.std.proofs.Common.{◌≡◌, ℕ, List, ◌∷◌, None, refl, ap, ◌∙◌}
use Rattle.source_text.proofs.LinesOf.{past}
use Rattle.pin_script.specs.Words.{fields}
use Rattle.pin_script.specs.Lines.{level_words, send_words}

pub four_fields : (line first rest second third a b : List ℕ) → fields line ≡ first ∷ fields rest → fields rest ≡ second ∷ fields third → fields third ≡ a ∷ fields b → level_words (fields line) ≡ None
four_fields line first rest second third a b h i j =
    ap level_words (h ∙ ap (λ parts. first ∷ parts) (i ∙ ap (λ parts. second ∷ parts) j))
    ∙ past (λ parts. level_words (first ∷ second ∷ a ∷ parts)) None _ b (λ q qs. refl)

-- the first five fields, and what follows them
pub six_fields : (line a a' b b' c c' d e f g : List ℕ) → fields line ≡ a ∷ fields a' → fields a' ≡ b ∷ fields b' → fields b' ≡ c ∷ fields c' →
    fields c' ≡ d ∷ fields e → fields e ≡ f ∷ fields g → send_words (fields line) ≡ None
six_fields line a a' b b' c c' d e f g p q r s t =
    ap send_words (p ∙ ap (λ parts. a ∷ parts) (q ∙ ap (λ parts. b ∷ parts) (r ∙ ap (λ parts. c ∷ parts) (s ∙ ap (λ parts. d ∷ parts) t))))
    ∙ past (λ parts. send_words (a ∷ b ∷ c ∷ d ∷ f ∷ parts)) None _ g (λ q' qs. refl)
