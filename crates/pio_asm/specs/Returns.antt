-- A source that is written for words is read back as these words (RP2040 Datasheet, 3.3 and 3.4).
use Rattle.std.specs.Prelude.{◌≡◌, ◌==◌, ◌&&◌, not, ℕ, ◌-◌, ◌<◌, ◌≤◌, false, if◌then◌else◌, List, [], ◌∷◌, length, None, Ok, codes, All}
use Rattle.pio_words.specs.declared.side.SideConfig.{SideConfig}
use Rattle.pio_disasm.specs.Text.{source_text}
use Rattle.pio_parse.specs.declared.syntax.Source.{Source}
use Rattle.pio_parse.specs.Files.{IsSource}
use Rattle.pio_asm.specs.Plan.{IsConfig}
use Rattle.pio_asm.specs.Code.{AreWordsOf}
use Rattle.pio_asm.specs.Assembly.{Plan, assembled}

-- the side-set that a source names: without bits for one there is no directive, so it says nothing of pin directions
abbrev pub named_side : SideConfig → SideConfig
named_side side = if (side.count == 0) && not side.opt then record { count = 0; opt = false; pindirs = false } else side

-- the source of words is one program of these words and no others, named `code`, which wraps from its last instruction to its first
pub record ReadsBack (side : SideConfig) (words : List ℕ) : Type 0 where
  pub source : Source
  pub plan : Plan
  pub parses : IsSource (source_text side words) source
  pub assembles : assembled source ≡ Ok (plan ∷ [])
  pub same_words : AreWordsOf plan.members words
  pub no_others : (others : List ℕ) → AreWordsOf plan.members others → others ≡ words
  pub same_side : plan.side ≡ named_side side
  pub name : plan.name ≡ codes "code"
  pub origin : plan.origin ≡ None
  pub target : plan.target ≡ 0
  pub wrap : plan.wrap ≡ length words - 1

-- so it is for every side-set that fits its five bits and every program of halfwords that fits the instruction memory
abbrev pub SourcesReturn : Type 0
SourcesReturn = (side : SideConfig) (words : List ℕ) → IsConfig side → 0 < length words → length words ≤ 32 → All (λ word. word < 65536) words → ReadsBack side words
