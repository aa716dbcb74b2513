-- What the commands of the code, and what they look for, stand for.
use Rattle.std.specs.Prelude.{◌≡◌, true, ◌^◌, ◌<◌, ◌≤◌}
use Rattle.reverse_debug.specs.declared.command.Command.{Command as Asked}
use Rattle.reverse_debug.specs.declared.command.Command.TheVariants as code
use Rattle.reverse_debug.specs.declared.watch.Watched.{Watched as Written}
use Rattle.reverse_debug.specs.declared.watch.Watched.TheVariants as written
use Rattle.reverse_debug.specs.Command.{Command, Watched, are_words}
use Rattle.reverse_debug.specs.Command.Watched.{Word, Pin, Begun}
use Rattle.reverse_debug.specs.Command.Command.{Step, Back, Goto, End, Regs, Mem, Pins, Pio, Peek, Until, Before, Last, Quit, Bad}

abbrev pub sought : Written → Watched
sought (written.Word address) = Word address
sought (written.Pin pin) = Pin pin
sought (written.Begun core address) = Begun core address

abbrev pub meant : Asked → Command
meant (code.Step n) = Step n
meant (code.Back n) = Back n
meant (code.Goto cycle) = Goto cycle
meant code.End = End
meant code.Regs = Regs
meant (code.Mem address count) = Mem address count
meant code.Pins = Pins
meant (code.Pio block machine) = Pio block machine
meant (code.Peek address) = Peek address
meant (code.Until watched count) = Until (sought watched) count
meant (code.Before watched count) = Before (sought watched) count
meant (code.Last watched) = Last (sought watched)
meant code.Quit = Quit
meant code.Bad = Bad

-- what is watched is there
abbrev pub IsThere : Written → Type 0
IsThere (written.Word address) = are_words address 1 ≡ true
IsThere (written.Pin pin) = pin ≤ 29
IsThere (written.Begun core address) = core ≤ 1

-- numbers have at most 10 digits, and what is to be shown is there
abbrev pub Fits : Asked → Type 0
Fits (code.Step n) = n < 10 ^ 10
Fits (code.Back n) = n < 10 ^ 10
Fits (code.Goto cycle) = cycle < 10 ^ 10
Fits (code.Mem address count) = are_words address count ≡ true
Fits (code.Pio block machine) = (block ≤ 1) × (machine ≤ 3)
Fits (code.Until watched count) = IsThere watched
Fits (code.Before watched count) = IsThere watched
Fits (code.Last watched) = IsThere watched
Fits _ = Unit {0}
