use Rattle.std.proofs.Common.{◌≡◌, ◌==◌, ◌≤◌, ◌&&◌, ℕ, false, List, [], ◌∷◌, get_or, length, refl, sym, ◌∙◌, arith}
use Rattle.pio_parse.proofs.Shared.{number_of, number_to}
use Rattle.pio_parse.proofs.words.find_number.Goals as goal

by_ten : (word : List ℕ) → 3 ≤ length word → ((get_or word 0 0 == 48) && (get_or word 1 0 == 120)) ≡ false → ((get_or word 0 0 == 48) && (get_or word 1 0 == 98)) ≡ false
    → number_of word ≡ number_to 10 word
by_ten [] h e f = absurd (omega arith)
by_ten (a ∷ []) h e f = absurd (omega arith)
by_ten (a ∷ b ∷ []) h e f = absurd (omega arith)
by_ten (a ∷ b ∷ c ∷ cs) h e f = rw (e, f) refl

pub returns-else-first-second-2 : goal.returns-else-first-second-2
returns-else-first-second-2 c = c.value_of_digits-else-first-second-2.ensures ∙ sym (by_ten c.args.word.now c.in-len3-up.len_at_least c.if-first-second.false c.if-first-second-2.false)
