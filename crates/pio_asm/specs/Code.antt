-- The words of a program, one for each instruction and each `.word` (RP2040 Datasheet, 3.4.1).
use Rattle.std.specs.Prelude.{ℕ, List, [], ◌∷◌, ⊤}
use Rattle.pio_asm.specs.declared.plan.Member.{Member}
use Rattle.pio_asm.specs.Plan.{StandsFor}

-- the words of members, one for each
abbrev pub AreWordsOf : List Member → List ℕ → Type 0
AreWordsOf [] [] = ⊤
AreWordsOf [] (word ∷ words) = ⊥
AreWordsOf (member ∷ members) [] = ⊥
AreWordsOf (member ∷ members) (word ∷ words) = StandsFor member word × AreWordsOf members words
