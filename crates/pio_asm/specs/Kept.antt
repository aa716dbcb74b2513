-- Which members stand in a program: each that has a word (RP2040 Datasheet, 3.4.1). The rest is the project's own.
use Rattle.std.specs.Prelude.{◌≡◌, ℕ, Bool, true, false, is_some, List, [], ◌∷◌, ⊤}
use Rattle.pio_asm.specs.declared.plan.Member.{Member}
use Rattle.pio_asm.specs.declared.plan.Member.TheVariants.{Lost}
use Rattle.pio_asm.specs.Symbols.{Names}
use Rattle.pio_asm.specs.Plan.{StandsFor}

-- no definition of these names has a fault
abbrev pub AllValued : Names → Type 0
AllValued [] = ⊤
AllValued (symbol ∷ symbols) = (is_some symbol.1 ≡ true) × AllValued symbols

abbrev pub is_kept : Member → Bool
is_kept Lost = false
is_kept member = true

-- no member uses a name whose definition has a fault
abbrev pub AreKept : List Member → Type 0
AreKept [] = ⊤
AreKept (member ∷ members) = (is_kept member ≡ true) × AreKept members

-- the word of a member that is kept
abbrev pub StandsIfKept : Member → ℕ → Type 0
StandsIfKept member word = is_kept member ≡ true → StandsFor member word

-- the words of members, those of members that are not kept left open
abbrev pub AreWordsIfKept : List Member → List ℕ → Type 0
AreWordsIfKept [] [] = ⊤
AreWordsIfKept [] (word ∷ words) = ⊥
AreWordsIfKept (member ∷ members) [] = ⊥
AreWordsIfKept (member ∷ members) (word ∷ words) = StandsIfKept member word × AreWordsIfKept members words
