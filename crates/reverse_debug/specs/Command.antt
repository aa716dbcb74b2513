-- The commands of the debugger, and the lines that ask for them (the project's own). A line is a name and its operands, with one
-- space between two words. A number is 1 to 10 decimal digits, an address 8 hexadecimal digits of either case.
use Rattle.std.specs.Prelude.{ℕ, zero, suc, ◌+◌, ◌%◌, Bool, true, false, ◌&&◌, ◌==◌, nat_le, if◌then◌else◌, List, [], ◌∷◌, length, Option, Some, None, codes}
use Rattle.std.specs.List.{slice_split, list_all}
use Rattle.std.specs.Str.{bytes_eq}
use Rattle.source_text.specs.Numbers.{digits_value, number_of as number_to}
use Rattle.rp_base.specs.declared.map.Spot.{Spot}
use Rattle.rp_base.specs.declared.map.Spot.TheVariants as spot
use Rattle.rp_base.specs.Map.{place_of}

-- what is watched on a run: a word of SRAM, the level of a pin, or what a core begins, at an address or at any one
pub data Watched : Type 0 where
  Word : (address : ℕ) → Watched
  Pin : (pin : ℕ) → Watched
  Begun : (core : ℕ) → (address : Option ℕ) → Watched

pub data Command : Type 0 where
  -- move so many cycles forward, or back
  Step : (cycles : ℕ) → Command
  Back : (cycles : ℕ) → Command
  -- move to a cycle, or to the last one
  Goto : (cycle : ℕ) → Command
  End : Command
  -- show the registers of both cores, words of SRAM, the pads, or a machine of a PIO block
  Regs : Command
  Mem : (address : ℕ) → (count : ℕ) → Command
  Pins : Command
  Pio : (block : ℕ) → (machine : ℕ) → Command
  -- show a word of a register block, of SIO or of the private bus
  Peek : (address : ℕ) → Command
  -- of what is watched: move forward to its n-th time, or back to it, or name the last time
  Until : (watched : Watched) → (count : ℕ) → Command
  Before : (watched : Watched) → (count : ℕ) → Command
  Last : (watched : Watched) → Command
  Quit : Command
  -- no command
  Bad : Command

-- the command that ends a session
abbrev pub is_quit : Command → Bool
is_quit Quit = true
is_quit _ = false

-- ---- numbers

-- a number is 1 to 10 decimal digits
abbrev pub number_of : List ℕ → Option ℕ
number_of word = number_to 10 10 word

-- an address is 8 hexadecimal digits
abbrev pub address_of : List ℕ → Option ℕ
address_of word = if length word == 8 then digits_value 16 word else None

-- ---- words of SRAM: an address is a multiple of 4, and all of 1 to 16 words are in SRAM

abbrev pub is_ram : Spot → Bool
is_ram (spot.Ram index bank) = true
is_ram _ = false

-- the addresses of so many words, one after another
abbrev pub addresses : ℕ → ℕ → List ℕ
addresses address zero = []
addresses address (suc count) = address ∷ addresses (address + 4) count

unfoldable pub are_words : ℕ → ℕ → Bool
are_words address count =
    nat_le 1 count && nat_le count 16 && address % 4 == 0
    && list_all (λ a. is_ram (place_of a)) (addresses address count)

-- ---- the commands by their words

abbrev pub words : List ℕ → List (List ℕ)
words line = slice_split (λ byte. byte == 32) line

-- a core has the number 0 or 1; what it begins is watched: the instruction at an address, or each one
abbrev pub begun_at : Option ℕ → Option ℕ → Option Watched
begun_at (Some address) (Some core) = if nat_le core 1 then Some (Begun core (Some address)) else None
begun_at _ _ = None

-- a move to the n-th instruction that a core begins, at whatever address
abbrev pub each_of : (Watched → ℕ → Command) → Option ℕ → Option ℕ → Command
each_of move (Some count) (Some core) = if nat_le core 1 then move (Begun core None) count else Bad
each_of move _ _ = Bad

abbrev pub bare_command : List ℕ → Command
bare_command name =
    if bytes_eq name (codes "step") then Step 1
    else if bytes_eq name (codes "back") then Back 1
    else if bytes_eq name (codes "end") then End
    else if bytes_eq name (codes "regs") then Regs
    else if bytes_eq name (codes "pins") then Pins
    else if bytes_eq name (codes "next") then each_of Until (Some 1) (Some 0)
    else if bytes_eq name (codes "prev") then each_of Before (Some 1) (Some 0)
    else if bytes_eq name (codes "quit") then Quit
    else Bad

-- a command with its operand; none where the operand is no such one
abbrev pub operand_asked : {A : Type 0} → (A → Command) → Option A → Command
operand_asked command None = Bad
operand_asked command (Some operand) = command operand

abbrev pub mem_of : Option ℕ → Option ℕ → Command
mem_of (Some address) (Some count) = if are_words address count then Mem address count else Bad
mem_of _ _ = Bad

-- what is watched: one word of SRAM, or one of the pins 0 to 29
abbrev pub word_of : Option ℕ → Option Watched
word_of None = None
word_of (Some address) = if are_words address 1 then Some (Word address) else None

abbrev pub pin_of : Option ℕ → Option Watched
pin_of None = None
pin_of (Some pin) = if nat_le pin 29 then Some (Pin pin) else None

-- a move to the next time of what is watched
abbrev pub next_time : Watched → Command
next_time watched = Until watched 1

-- a word that is looked at has an address that is a multiple of 4
abbrev pub peek_of : Option ℕ → Command
peek_of None = Bad
peek_of (Some address) = if address % 4 == 0 then Peek address else Bad

abbrev pub pio_of : Option ℕ → Option ℕ → Command
pio_of (Some block) (Some machine) = if nat_le block 1 && nat_le machine 3 then Pio block machine else Bad
pio_of _ _ = Bad

abbrev pub with_one : List ℕ → List ℕ → Command
with_one name word =
    if bytes_eq name (codes "step") then operand_asked Step (number_of word)
    else if bytes_eq name (codes "back") then operand_asked Back (number_of word)
    else if bytes_eq name (codes "goto") then operand_asked Goto (number_of word)
    else if bytes_eq name (codes "mem") then mem_of (address_of word) (Some 1)
    else if bytes_eq name (codes "peek") then peek_of (address_of word)
    else if bytes_eq name (codes "next") then each_of Until (number_of word) (Some 0)
    else if bytes_eq name (codes "prev") then each_of Before (number_of word) (Some 0)
    else if bytes_eq name (codes "until") then operand_asked next_time (begun_at (address_of word) (Some 0))
    else if bytes_eq name (codes "untilwrite") then operand_asked next_time (word_of (address_of word))
    else if bytes_eq name (codes "untilpin") then operand_asked next_time (pin_of (number_of word))
    else if bytes_eq name (codes "lastat") then operand_asked Last (begun_at (address_of word) (Some 0))
    else if bytes_eq name (codes "lastwrite") then operand_asked Last (word_of (address_of word))
    else if bytes_eq name (codes "lastpin") then operand_asked Last (pin_of (number_of word))
    else Bad

abbrev pub with_two : List ℕ → List ℕ → List ℕ → Command
with_two name first second =
    if bytes_eq name (codes "mem") then mem_of (address_of first) (number_of second)
    else if bytes_eq name (codes "pio") then pio_of (number_of first) (number_of second)
    else if bytes_eq name (codes "next") then each_of Until (number_of first) (number_of second)
    else if bytes_eq name (codes "prev") then each_of Before (number_of first) (number_of second)
    else if bytes_eq name (codes "until") then operand_asked next_time (begun_at (address_of first) (number_of second))
    else if bytes_eq name (codes "lastat") then operand_asked Last (begun_at (address_of first) (number_of second))
    else Bad

unfoldable pub command_by : List (List ℕ) → Command
command_by [] = Bad
command_by (name ∷ []) = bare_command name
command_by (name ∷ word ∷ []) = with_one name word
command_by (name ∷ first ∷ second ∷ []) = with_two name first second
command_by (name ∷ first ∷ second ∷ word ∷ more) = Bad

-- what a line asks for; one of more than 255 bytes is no command
unfoldable pub command_of : List ℕ → Command
command_of line = if nat_le (length line) 255 then command_by (words line) else Bad
