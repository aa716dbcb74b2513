-- What a call may refuse, and the line and status of each refusal: the project's own.
use Rattle.std.specs.Prelude.{ℕ, List, ◌++◌, codes, decimal}
use Rattle.std.specs.String.{string_bytes}
use Rattle.trace_text.specs.Line.{hex_word}
use Rattle.uf2_image.specs.declared.fault.ImageFault.{ImageFault}
use Rattle.uf2_image.specs.declared.fault.ImageFault.TheVariants.{Empty, Ragged, Magic, Payload, Count, Number, Repeat, Flash, Address, Overlap, Missing, Nothing, Memory}
use Rattle.pin_script.specs.declared.fault.ScriptFault.{ScriptFault}
use Rattle.pin_script.specs.declared.fault.ScriptFault.TheVariants as script
use Rattle.pio_parse.specs.declared.fault.PioFault.{PioFault}
use Rattle.pio_parse.specs.declared.fault.PioFault.TheVariants as pio
use Rattle.thumb_asm.specs.declared.fault.ThumbFault.{ThumbFault}
use Rattle.thumb_asm.specs.declared.fault.ThumbFault.TheVariants as thumb
use Rattle.startup_blocks.specs.declared.fault.StartFault.{StartFault}
use Rattle.startup_blocks.specs.declared.fault.StartFault.TheVariants as start
use Rattle.command_words.specs.declared.refusal.Refusal.{Refusal as Written}
use Rattle.command_words.specs.declared.refusal.Refusal.TheVariants as written

-- what is refused: the words, a file that could not be loaded, a file of this length, which is above its limit, an image, a
-- script, a PIO source and a Thumb source by their first fault (a program that finds no room is a fault of its source), and an image
-- that cannot be linked with the table of routines
pub data Refusal : Type 0 where
  BadWords : Refusal
  Lost : (name : List ℕ) → Refusal
  TooLarge : (name : List ℕ) → (long : ℕ) → Refusal
  BadImage : (fault : ImageFault) → Refusal
  BadScript : (fault : ScriptFault) → Refusal
  BadSource : (fault : PioFault) → Refusal
  BadThumb : (fault : ThumbFault) → Refusal
  BadStart : (fault : StartFault) → Refusal

-- the refusal that a value of the code stands for
abbrev pub meant : Written → Refusal
meant written.Words = BadWords
meant (written.File name) = Lost (string_bytes name)
meant (written.Large name long) = TooLarge (string_bytes name) long
meant (written.Image fault) = BadImage fault
meant (written.Script fault) = BadScript fault
meant (written.Source fault) = BadSource fault
meant (written.Thumb fault) = BadThumb fault
meant (written.Start fault) = BadStart fault

-- a number after a space, and an address
abbrev pub then_number : ℕ → List ℕ
then_number n = codes " " ++ decimal n

abbrev pub then_address : ℕ → List ℕ
then_address a = codes " " ++ hex_word a

-- an image's fault: its number, its name and its numbers
abbrev pub fault_words : ImageFault → List ℕ
fault_words Empty = codes "1 Empty"
fault_words (Ragged length) = codes "2 Ragged" ++ then_number length
fault_words (Magic block) = codes "3 Magic" ++ then_number block
fault_words (Payload block size) = codes "4 Payload" ++ then_number block ++ then_number size
fault_words (Count block) = codes "5 Count" ++ then_number block
fault_words (Number block) = codes "6 Number" ++ then_number block
fault_words (Repeat block) = codes "7 Repeat" ++ then_number block
fault_words (Flash block target) = codes "8 Flash" ++ then_number block ++ then_address target
fault_words (Address block target) = codes "9 Address" ++ then_number block ++ then_address target
fault_words (Overlap block) = codes "10 Overlap" ++ then_number block
fault_words (Missing number) = codes "11 Missing" ++ then_number number
fault_words Nothing = codes "12 Nothing"
fault_words Memory = codes "13 Memory"

-- a script's fault: its number, its name and its line
abbrev pub script_fault_words : ScriptFault → List ℕ
script_fault_words (script.Form line) = codes "1 Form" ++ then_number line
script_fault_words (script.Number line) = codes "2 Number" ++ then_number line
script_fault_words (script.Pin line) = codes "3 Pin" ++ then_number line
script_fault_words (script.Order line) = codes "4 Order" ++ then_number line
script_fault_words (script.TooMany line) = codes "5 TooMany" ++ then_number line
script_fault_words script.Memory = codes "6 Memory"
script_fault_words (script.Version line) = codes "7 Version" ++ then_number line
script_fault_words (script.Divisor line) = codes "8 Divisor" ++ then_number line
script_fault_words (script.Bytes line) = codes "9 Bytes" ++ then_number line

-- a PIO fault: its number, its name, then its line and column, or its line
abbrev pub pio_fault_words : PioFault → List ℕ
pio_fault_words (pio.Char line column) = codes "1 Char" ++ then_number line ++ then_number column
pio_fault_words (pio.Syntax line column) = codes "2 Syntax" ++ then_number line ++ then_number column
pio_fault_words pio.Memory = codes "3 Memory"
pio_fault_words (pio.Unknown line) = codes "4 Unknown" ++ then_number line
pio_fault_words (pio.Twice line) = codes "5 Twice" ++ then_number line
pio_fault_words (pio.Range line) = codes "6 Range" ++ then_number line
pio_fault_words (pio.Delay line) = codes "7 Delay" ++ then_number line
pio_fault_words (pio.Side line) = codes "8 Side" ++ then_number line
pio_fault_words (pio.TooLong line) = codes "9 TooLong" ++ then_number line
pio_fault_words (pio.Wrap line) = codes "10 Wrap" ++ then_number line
pio_fault_words (pio.Origin line) = codes "11 Origin" ++ then_number line
pio_fault_words (pio.NoRoom count) = codes "12 NoRoom" ++ then_number count

-- a Thumb source's fault: its number, its name and its line, which is 0 for a source without bytes
abbrev pub thumb_fault_words : ThumbFault → List ℕ
thumb_fault_words (thumb.Char line) = codes "1 Char" ++ then_number line
thumb_fault_words (thumb.Syntax line) = codes "2 Syntax" ++ then_number line
thumb_fault_words thumb.Memory = codes "3 Memory"
thumb_fault_words (thumb.Unknown line) = codes "4 Unknown" ++ then_number line
thumb_fault_words (thumb.Twice line) = codes "5 Twice" ++ then_number line
thumb_fault_words (thumb.Range line) = codes "6 Range" ++ then_number line
thumb_fault_words (thumb.Register line) = codes "7 Register" ++ then_number line
thumb_fault_words (thumb.Align line) = codes "8 Align" ++ then_number line
thumb_fault_words (thumb.TooLong line) = codes "9 TooLong" ++ then_number line
thumb_fault_words (thumb.Nothing line) = codes "10 Nothing" ++ then_number line

-- why an image cannot be linked: its number, its name and the address
abbrev pub start_fault_words : StartFault → List ℕ
start_fault_words (start.Taken address) = codes "1 Taken" ++ then_address address
start_fault_words start.Memory = codes "2 Memory"

-- the line of a refusal
unfoldable pub refused_line : Refusal → List ℕ
refused_line BadWords = codes "error words\n"
refused_line (Lost name) = codes "error file " ++ name ++ codes "\n"
refused_line (TooLarge name long) = codes "error large " ++ (name ++ then_number long) ++ codes "\n"
refused_line (BadImage fault) = codes "error image " ++ fault_words fault ++ codes "\n"
refused_line (BadScript fault) = codes "error script " ++ script_fault_words fault ++ codes "\n"
refused_line (BadSource fault) = codes "error pio " ++ pio_fault_words fault ++ codes "\n"
refused_line (BadThumb fault) = codes "error thumb " ++ thumb_fault_words fault ++ codes "\n"
refused_line (BadStart fault) = codes "error start " ++ start_fault_words fault ++ codes "\n"

-- its status
abbrev pub status_of : Refusal → ℕ
status_of BadWords = 2
status_of (Lost name) = 3
status_of (TooLarge name long) = 3
status_of (BadImage fault) = 4
status_of (BadSource fault) = 5
status_of (BadScript fault) = 6
status_of (BadThumb fault) = 11
status_of (BadStart fault) = 12
