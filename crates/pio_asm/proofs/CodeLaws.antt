use Rattle.std.proofs.Common.{◌≡◌, ℕ, suc, List, [], ◌∷◌, ◌++◌, length, refl, ap}
use Rattle.pio_asm.proofs.Shared.{Member, AreWordsOf, AreKept, AreWordsIfKept, StandsIfKept}

-- one more member with its word
pub words-push : (members : List Member) (words : List ℕ) (member : Member) (word : ℕ) → AreWordsIfKept members words → StandsIfKept member word → AreWordsIfKept (members ++ member ∷ []) (words ++ word ∷ [])
words-push [] [] member word h s = (s, tt)
words-push [] (w ∷ ws) member word h s = absurd h
words-push (m ∷ ms) [] member word h s = absurd h
words-push (m ∷ ms) (w ∷ ws) member word h s = (h.0, words-push ms ws member word h.1 s)

-- there are as many words as members
pub words-length : (members : List Member) (words : List ℕ) → AreWordsIfKept members words → length members ≡ length words
words-length [] [] h = refl
words-length [] (w ∷ ws) h = absurd h
words-length (m ∷ ms) [] h = absurd h
words-length (m ∷ ms) (w ∷ ws) h = ap suc (words-length ms ws h.1)

-- the words of members that are all kept
pub words_kept : (members : List Member) (words : List ℕ) → AreKept members → AreWordsIfKept members words → AreWordsOf members words
words_kept [] [] k h = tt
words_kept [] (w ∷ ws) k h = absurd h
words_kept (m ∷ ms) [] k h = absurd h
words_kept (m ∷ ms) (w ∷ ws) k h = (h.0 k.0, words_kept ms ws k.1 h.1)
