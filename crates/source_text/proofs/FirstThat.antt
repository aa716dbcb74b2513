-- The first line that passes a test, one line after the other.
use Rattle.std.proofs.Common.{◌≡◌, ℕ, ◌+◌, Bool, true, false, List, [], ◌∷◌, length, Option, Some, None, refl, ap, ◌∙◌, arith}
use Rattle.std.specs.Str.Lines.{lines}
use Rattle.source_text.specs.Lines.{first_that}

pub test_more : (test : List ℕ → Bool) (n : ℕ) (answer : Option ℕ) (rest line after : List ℕ) → answer ≡ first_that test n (lines rest) →
    lines rest ≡ line ∷ lines after → test line ≡ false → answer ≡ first_that test (n + 1) (lines after)
unfolding first_that
test_more test n answer rest line after h i j = h ∙ ap (first_that test n) i ∙ rw j refl

pub test_here : (test : List ℕ → Bool) (n : ℕ) (answer : Option ℕ) (rest line after : List ℕ) → answer ≡ first_that test n (lines rest) →
    lines rest ≡ line ∷ lines after → test line ≡ true → answer ≡ Some n
unfolding first_that
test_here test n answer rest line after h i j = h ∙ ap (first_that test n) i ∙ rw j refl

pub test_end : (test : List ℕ → Bool) (n : ℕ) (answer : Option ℕ) (rest : List ℕ) → answer ≡ first_that test n (lines rest) →
    length rest ≡ 0 → answer ≡ None
unfolding first_that
test_end test n answer [] h none = h
test_end test n answer (x ∷ rest) h none = absurd (omega arith)
