-- The lines of a script and the entries that they give (the project's own). A level line is `<cycle> <pin> <0|1|z>` and gives
-- one entry. A line of version 2 may also be `send <cycle> <pin> <divisor> <bytes>`, which sends the bytes to the pin as a serial
-- line does: each byte is ten bits, 0, its eight bits from the lowest, and 1. The divisor is the length of a bit in sixty-fourths
-- of 16 cycles, as 64 * IBRD + FBRD of a UART. Of a line's faults the first in the order Form, Number, Pin, Divisor, Bytes, Order,
-- TooMany counts.
use Rattle.std.specs.Prelude.{ℕ, ◌+◌, ◌-◌, ◌*◌, ◌/◌, ◌%◌, Bool, true, ◌||◌, ◌==◌, nat_lt, if◌then◌else◌, List, [], ◌∷◌, ◌++◌, length, map, Option, Some, None, Result, Ok, Err, codes}
use Rattle.std.specs.List.{range_with_len}
use Rattle.std.specs.Option.{option_map}
use Rattle.std.specs.Str.{bytes_eq}
use Rattle.rp_base.specs.Word.{has_bit}
use Rattle.pin_script.specs.declared.entry.Level.{Level}
use Rattle.pin_script.specs.declared.entry.Level.TheVariants.{Low, High}
use Rattle.pin_script.specs.declared.entry.LineEntry.{LineEntry}
use Rattle.pin_script.specs.declared.fault.ScriptFault.{ScriptFault}
use Rattle.pin_script.specs.declared.fault.ScriptFault.TheVariants.{Form, Number, Pin, Order, TooMany, Divisor, Bytes}
use Rattle.source_text.specs.Numbers.{number_of}
use Rattle.source_text.specs.Outcome.{map_ok}
use Rattle.pin_script.specs.Words.{fields, is_empty, level_named, are_bytes, byte_at}

-- what the lines so far gave: their entries, and the cycle of the last of these lines
pub record Earlier : Type 0 where
  pub entries : List LineEntry
  pub cycle : ℕ

-- empty lines and comments
abbrev pub is_skipped : List ℕ → Bool
is_skipped [] = true
is_skipped (byte ∷ bytes) = byte == 35

-- so many entries of a line of that cycle fit: the cycle is not below the last one, and there is room
abbrev pub fits : ℕ → Earlier → ℕ → ℕ → Result (Unit {0}) ScriptFault
fits n s cycle count =
    if nat_lt cycle s.cycle then Err (Order n)
    else if nat_lt 100000 (length s.entries + count) then Err (TooMany n) else Ok tt

-- the entries of a line of that cycle come after the earlier ones
abbrev pub added : ℕ → Earlier → ℕ → List LineEntry → Result Earlier ScriptFault
added n s cycle more = map_ok (λ _. record { entries = s.entries ++ more; cycle = cycle }) (fits n s cycle (length more))

-- ---- level lines

pub record LevelWords : Type 0 where
  pub cycle : List ℕ
  pub pin : List ℕ
  pub level : Level

abbrev pub level_words_of : List ℕ → List ℕ → Level → LevelWords
level_words_of cycle pin level = record { cycle = cycle; pin = pin; level = level }

-- three words of at least one byte, the third of which names a level
abbrev pub level_words : List (List ℕ) → Option LevelWords
level_words (cycle ∷ pin ∷ level ∷ []) =
    if is_empty cycle || is_empty pin then None else option_map (level_words_of cycle pin) (level_named level)
level_words _ = None

abbrev pub level_entry : ℕ → ℕ → ℕ → Level → LineEntry
level_entry n cycle pin level = record { cycle = cycle; line = n; pin = pin; level = level }

-- the cycle is 1 to 10 digits and the pin 1 or 2, and the pin is one of the 30
abbrev pub level_numbers : ℕ → Earlier → Level → Option ℕ → Option ℕ → Result Earlier ScriptFault
level_numbers n s level (Some cycle) (Some pin) =
    if nat_lt 29 pin then Err (Pin n) else added n s cycle (level_entry n cycle pin level ∷ [])
level_numbers n s level (Some cycle) None = Err (Number n)
level_numbers n s level None pin = Err (Number n)

abbrev pub after_level : ℕ → Earlier → Option LevelWords → Result Earlier ScriptFault
after_level n s None = Err (Form n)
after_level n s (Some words) = level_numbers n s words.level (number_of 10 10 words.cycle) (number_of 10 2 words.pin)

-- ---- send lines

pub record SendWords : Type 0 where
  pub cycle : List ℕ
  pub pin : List ℕ
  pub divisor : List ℕ
  pub bytes : List ℕ

abbrev pub send_words_of : List ℕ → List ℕ → List ℕ → List ℕ → SendWords
send_words_of cycle pin divisor bytes = record { cycle = cycle; pin = pin; divisor = divisor; bytes = bytes }

-- `send` and four words of at least one byte
abbrev pub send_words : List (List ℕ) → Option SendWords
send_words (first ∷ cycle ∷ pin ∷ divisor ∷ bytes ∷ []) =
    if bytes_eq first (codes "send") then
    (if is_empty cycle || is_empty pin || is_empty divisor || is_empty bytes then None
    else Some (send_words_of cycle pin divisor bytes))
    else None
send_words _ = None

-- the level of the bit of that number within a byte's ten
abbrev pub frame_level : ℕ → ℕ → Level
frame_level byte bit =
    if bit == 0 then Low else if bit == 9 then High else if has_bit byte (bit - 1) then High else Low

-- bit k of the whole line
abbrev pub sent_entry : ℕ → ℕ → ℕ → ℕ → List ℕ → ℕ → LineEntry
sent_entry n cycle pin divisor bytes k =
    record {
      cycle = cycle + (k * divisor + 3) / 4;
      line = n;
      pin = pin;
      level = frame_level (byte_at bytes (k / 10)) (k % 10);
    }

-- how many bits a line sends
abbrev pub sent_count : List ℕ → ℕ
sent_count bytes = 10 * (length bytes / 2)

unfoldable pub sent_entries : ℕ → ℕ → ℕ → ℕ → List ℕ → ℕ → List LineEntry
sent_entries n cycle pin divisor bytes count = map (sent_entry n cycle pin divisor bytes) (range_with_len 0 count)

-- the divisor is 64 to 4,194,303
abbrev pub sent : ℕ → Earlier → ℕ → ℕ → ℕ → List ℕ → Result Earlier ScriptFault
sent n s cycle pin divisor bytes =
    if nat_lt 29 pin then Err (Pin n)
    else if nat_lt divisor 64 || nat_lt 4194303 divisor then Err (Divisor n)
    else if are_bytes bytes then added n s cycle (sent_entries n cycle pin divisor bytes (sent_count bytes))
    else Err (Bytes n)

-- the cycle is 1 to 10 digits, the pin 1 or 2, and the divisor 1 to 7
abbrev pub send_numbers : ℕ → Earlier → List ℕ → Option ℕ → Option ℕ → Option ℕ → Result Earlier ScriptFault
send_numbers n s bytes (Some cycle) (Some pin) (Some divisor) = sent n s cycle pin divisor bytes
send_numbers n s bytes (Some cycle) (Some pin) None = Err (Number n)
send_numbers n s bytes (Some cycle) None divisor = Err (Number n)
send_numbers n s bytes None pin divisor = Err (Number n)

abbrev pub after_send : ℕ → Earlier → SendWords → Result Earlier ScriptFault
after_send n s words =
    send_numbers n s words.bytes (number_of 10 10 words.cycle) (number_of 10 2 words.pin) (number_of 10 7 words.divisor)

-- ---- a line of either kind

abbrev pub after_either : ℕ → Earlier → Option SendWords → List (List ℕ) → Result Earlier ScriptFault
after_either n s (Some send) words = after_send n s send
after_either n s None words = after_level n s (level_words words)

-- what is there after line n, in a file that may have send lines or not
unfoldable pub after_line : Bool → ℕ → Earlier → List ℕ → Result Earlier ScriptFault
after_line sends n s line =
    if is_skipped line then Ok s
    else if sends then after_either n s (send_words (fields line)) (fields line)
    else after_level n s (level_words (fields line))
