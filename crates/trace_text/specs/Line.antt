-- The lines of a trace. Every line ends with LF. A word is eight lower-case hexadecimal digits, a cycle is decimal.
use Rattle.std.specs.Prelude.{ℕ, Bool, true, false, ◌/◌, ◌%◌, ◌^◌, List, [], ◌∷◌, ◌++◌, Option, Some, None, map, flat_map, codes, decimal}
use Rattle.std.specs.Char.{digit_char}
use Rattle.rp_base.specs.declared.Master.{Master}
use Rattle.rp_base.specs.declared.Master.TheVariants.{Core0, Core1, DmaRead, DmaWrite}
use Rattle.rp_base.specs.declared.Why.{Why}
use Rattle.rp_base.specs.declared.Why.TheVariants.{Limit, Bkpt, Lockup, Outside}
use Rattle.trace_text.specs.declared.event.Event.{Event}
use Rattle.trace_text.specs.declared.event.Event.TheVariants.{Uart, Pin}

-- the eight hexadecimal digits of a word, the highest first
unfoldable pub hex_word : ℕ → List ℕ
hex_word w = map (λ k. digit_char (w / 16 ^ k % 16)) (7 ∷ 6 ∷ 5 ∷ 4 ∷ 3 ∷ 2 ∷ 1 ∷ 0 ∷ [])

-- the two hexadecimal digits of a byte
unfoldable pub hex_byte : ℕ → List ℕ
hex_byte b = digit_char (b / 16) ∷ digit_char (b % 16) ∷ []

-- the name of a master; both ports of the DMA engine have one
abbrev pub master_name : Master → List ℕ
master_name Core0 = codes "core0"
master_name Core1 = codes "core1"
master_name DmaRead = codes "dma"
master_name DmaWrite = codes "dma"

-- the name of a core by its number
abbrev pub core_name : ℕ → List ℕ
core_name core = codes "core" ++ decimal core

-- a cause, without the cycle
abbrev pub cause_words : Why → List ℕ
cause_words Limit = codes "limit"
cause_words (Bkpt core) = codes "bkpt " ++ core_name core
cause_words (Lockup core) = codes "lockup " ++ core_name core
cause_words (Outside master address) = codes "outside " ++ master_name master ++ codes " " ++ hex_word address

-- the line of a stop at a cycle
unfoldable pub stop_text : Why → ℕ → List ℕ
stop_text why cycle = codes "stop " ++ cause_words why ++ codes " " ++ decimal cycle ++ codes "\n"

-- a word after a space
abbrev pub spaced_word : ℕ → List ℕ
spaced_word w = 32 ∷ hex_word w

-- the line of a core's registers, R0 to R12, SP, LR, PC and xPSR; a core that sleeps has none
unfoldable pub register_text : ℕ → Option (List ℕ) → List ℕ
register_text core None = core_name core ++ codes " asleep\n"
register_text core (Some words) = core_name core ++ flat_map spaced_word words ++ codes "\n"

-- the digit of a level, 1 where it is high
abbrev pub level_digit : Bool → List ℕ
level_digit true = codes "1"
level_digit false = codes "0"

-- the line of an event: the byte that a UART sent in a cycle, or the new level of a pin
unfoldable pub event_text : Event → List ℕ
event_text (Uart cycle number byte) =
    decimal cycle ++ codes " uart" ++ decimal number ++ codes " " ++ hex_byte byte ++ codes "\n"
event_text (Pin cycle pin level) =
    decimal cycle ++ codes " pin " ++ decimal pin ++ codes " " ++ level_digit level ++ codes "\n"
