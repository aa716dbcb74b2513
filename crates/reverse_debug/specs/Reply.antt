-- What the debugger answers (the project's own). A session stands at one cycle of a run. Each line moves it to a cycle and has a
-- reply, which shows a part of the run's state at the cycle reached.
use Rattle.std.specs.Prelude.{ℕ, zero, suc, ◌+◌, ◌-◌, ◌*◌, Bool, true, false, not, ◌==◌, ◌||◌, nat_le, nat_lt, if◌then◌else◌, List, [], ◌∷◌, ◌++◌, drop, flat_map, Option, Some, None, codes, decimal}
use Rattle.std.specs.List.{range_with_len}
use Rattle.rp_base.specs.Alias.{or_zero}
use Rattle.rp_base.specs.Word.{has_bit}
use Rattle.rp_base.specs.declared.Why.{Why}
use Rattle.rp_base.specs.Map.{place_of}
use Rattle.trace_text.specs.Line.{hex_word, level_digit, spaced_word, stop_text, register_text}
use Rattle.outer_lane.specs.Setting.{Setting}
use Rattle.rp_machine.specs.State.{State}
use Rattle.rp_machine.specs.Cycle.{stop, next}
use Rattle.rp_machine.specs.Sram.{ram_word}
use Rattle.rp_machine.specs.Readers.{registers_of, pio_registers}
use Rattle.rp_machine.specs.Reads.{begins_of, peeked}
use Rattle.rp_machine.specs.Run.{states, last_state}
use Rattle.reverse_debug.specs.Command.{Command, Watched, addresses, command_of}
use Rattle.reverse_debug.specs.Command.Watched.{Word, Pin, Begun}
use Rattle.reverse_debug.specs.Command.Command.{Step, Back, Goto, End, Regs, Mem, Pins, Pio, Peek, Until, Before, Last, Quit, Bad}

-- where the session stands after a line, the reply, and whether the line ends the session
pub record Said : Type 0 where
  pub cycle : ℕ
  pub reply : List ℕ
  pub quits : Bool

abbrev pub said : ℕ → List ℕ → Said
said cycle reply = record { cycle = cycle; reply = reply; quits = false }

-- ---- parts of a state

-- the line of the stop at a cycle
abbrev pub stop_line : Option Why → ℕ → List ℕ
stop_line None cycle = []
stop_line (Some why) cycle = stop_text why cycle

-- the word of SRAM at an address
abbrev pub word_at : State → ℕ → ℕ
word_at s address = or_zero (ram_word s.sram (place_of address))

unfoldable pub regs_reply : State → List ℕ
regs_reply s = register_text 0 (registers_of 0 s) ++ register_text 1 (registers_of 1 s)

unfoldable pub mem_reply : State → ℕ → ℕ → List ℕ
mem_reply s address count =
    codes "mem " ++ hex_word address ++ flat_map (λ a. spaced_word (word_at s a)) (addresses address count) ++ codes "\n"

-- a digit for each pad, pad 0 first
unfoldable pub pins_reply : State → List ℕ
pins_reply s =
    codes "pins " ++ flat_map (λ pin. level_digit (has_bit s.outer.pads.current pin)) (range_with_len 0 30) ++ codes "\n"

-- PC with the last two of its digits; X, Y, ISR and OSR with eight
abbrev pub pio_words : List ℕ → List ℕ
pio_words [] = []
pio_words (counter ∷ registers) = codes " " ++ drop 6 (hex_word counter) ++ flat_map spaced_word registers

unfoldable pub pio_reply : State → ℕ → ℕ → List ℕ
pio_reply s block machine =
    codes "pio " ++ decimal block ++ codes " " ++ decimal machine ++ pio_words (pio_registers block machine s) ++ codes "\n"

-- what a read of core 0 would give of a word that is not in SRAM
abbrev pub peek_text : ℕ → Option ℕ → List ℕ
peek_text address None = codes "bad command\n"
peek_text address (Some word) = codes "peek " ++ hex_word address ++ spaced_word word ++ codes "\n"

unfoldable pub peek_reply : Setting → State → ℕ → List ℕ
peek_reply w s address = peek_text address (peeked w address s)

-- ---- moves: no session stands beyond the last cycle, that of the first state with a stop

unfoldable pub at_reply : ℕ → List ℕ
at_reply cycle = codes "at " ++ decimal cycle ++ codes "\n"

abbrev pub last_cycle : Setting → State → ℕ
last_cycle w s = (last_state w s).cycle

-- at the last cycle, with the line of its stop
abbrev pub at_last : Setting → State → Said
at_last w s = said (last_cycle w s) (stop_line (stop w (last_state w s)) (last_cycle w s))

unfoldable pub moved_to : Setting → State → ℕ → Said
moved_to w s cycle = if nat_lt (last_cycle w s) cycle then at_last w s else said cycle (at_reply cycle)

unfoldable pub moved_back : Setting → State → ℕ → ℕ → Said
moved_back w s cycle back =
    if nat_lt cycle back then said 0 (codes "at start\n") else said (cycle - back) (at_reply (cycle - back))

-- ---- what is watched: the word of SRAM at an address or the level of a pin, which changes, or what a core begins

-- an instruction is begun, and it is the one at an address, where one is given
abbrev pub is_begun : Option ℕ → Option ℕ → Bool
is_begun address None = false
is_begun None (Some begun) = true
is_begun (Some address) (Some begun) = begun == address

abbrev pub seen : Watched → State → ℕ
seen (Word address) s = word_at s address
seen (Pin pin) s = if has_bit s.outer.pads.current pin then 1 else 0
seen (Begun core address) s = if is_begun address (begins_of core s) then 1 else 0

-- It happens in a cycle, by what is seen before and after its step: a word or a level changes, or in that cycle the core begins
-- the instruction.
abbrev pub happens_by : Watched → ℕ → ℕ → Bool
happens_by (Begun core address) before after = before == 1
happens_by _ before after = not (after == before)

unfoldable pub happens : Setting → State → Watched → ℕ → Bool
happens w s watched cycle = happens_by watched (seen watched (states w s cycle)) (seen watched (next w (states w s cycle)))

-- A move forward ends behind a cycle: the step has changed the word or the level, or the core begins the instruction next.
abbrev pub ends_by : Watched → ℕ → ℕ → Bool
ends_by (Begun core address) before after = after == 1
ends_by _ before after = not (after == before)

unfoldable pub ends : Setting → State → Watched → ℕ → Bool
ends w s watched cycle = ends_by watched (seen watched (states w s cycle)) (seen watched (next w (states w s cycle)))

-- the times that are left, where one of them was in this cycle or not
abbrev pub fewer : Bool → ℕ → ℕ
fewer is count = if is then count - 1 else count

-- the n-th greatest cycle below another one in which it happens, which itself is the 0-th
unfoldable pub before_nth : Setting → State → Watched → ℕ → ℕ → Option ℕ
before_nth w s watched zero cycle = Some cycle
before_nth w s watched (suc count) zero = None
before_nth w s watched (suc count) (suc cycle) =
    before_nth w s watched (if happens w s watched cycle then count else suc count) cycle

-- the cycle at which a move forward from a cycle ends the n-th time, at most so many cycles on
unfoldable pub behind_nth : Setting → State → Watched → ℕ → ℕ → ℕ → Option ℕ
behind_nth w s watched zero cycle more = Some cycle
behind_nth w s watched (suc count) cycle zero = None
behind_nth w s watched (suc count) cycle (suc more) =
    behind_nth w s watched (if ends w s watched cycle then count else suc count) (cycle + 1) more

-- that of the cycles up to the last one
abbrev pub behind_next : Setting → State → Watched → ℕ → ℕ → Option ℕ
behind_next w s watched count cycle = behind_nth w s watched count cycle (last_cycle w s - cycle)

abbrev pub at_or_last : Setting → State → Option ℕ → Said
at_or_last w s None = at_last w s
at_or_last w s (Some cycle) = said cycle (at_reply cycle)

abbrev pub at_or_start : Option ℕ → Said
at_or_start None = said 0 (codes "at start\n")
at_or_start (Some cycle) = said cycle (at_reply cycle)

abbrev pub watched_text : Watched → List ℕ
watched_text (Word address) = codes "lastwrite " ++ hex_word address
watched_text (Pin pin) = codes "lastpin " ++ decimal pin
watched_text (Begun core address) = codes "lastat " ++ hex_word (or_zero address)

abbrev pub last_text : Option ℕ → List ℕ
last_text None = codes "none"
last_text (Some cycle) = decimal cycle

unfoldable pub last_reply : Watched → Option ℕ → List ℕ
last_reply watched last = watched_text watched ++ codes " " ++ last_text last ++ codes "\n"

-- ---- a line

-- what is said to a command at a cycle of the run from a first state
abbrev pub answer : Setting → State → ℕ → Command → Said
answer w s cycle (Step n) = moved_to w s (cycle + n)
answer w s cycle (Back n) = moved_back w s cycle n
answer w s cycle (Goto target) = moved_to w s target
answer w s cycle End = at_last w s
answer w s cycle Regs = said cycle (regs_reply (states w s cycle))
answer w s cycle (Mem address count) = said cycle (mem_reply (states w s cycle) address count)
answer w s cycle Pins = said cycle (pins_reply (states w s cycle))
answer w s cycle (Pio block machine) = said cycle (pio_reply (states w s cycle) block machine)
answer w s cycle (Peek address) = said cycle (peek_reply w (states w s cycle) address)
answer w s cycle (Until watched count) = at_or_last w s (behind_next w s watched count cycle)
answer w s cycle (Before watched count) = at_or_start (before_nth w s watched count cycle)
answer w s cycle (Last watched) = said cycle (last_reply watched (before_nth w s watched 1 cycle))
answer w s cycle Quit = record { cycle = cycle; reply = []; quits = true }
answer w s cycle Bad = said cycle (codes "bad command\n")

unfoldable pub heard : Setting → State → ℕ → List ℕ → Said
heard w s cycle line = answer w s cycle (command_of line)

-- ---- the cycles that are stepped for a line, at most, where states are kept every so many cycles

-- for a move from one cycle to another
abbrev pub move_cost : ℕ → ℕ → ℕ → ℕ
move_cost spacing cycle target = if nat_lt target cycle then spacing - 1 else target - cycle

-- the stretch between two kept states on which the n-th cycle is found is gone over once, or a second time where n is not 1
abbrev pub passes : ℕ → ℕ
passes count = if nat_le count 1 then 1 else 2

-- for a search: back to the cycle that is found, or to the start, and less than a spacing more for each pass; none at cycle 0, or where
-- no time is asked for
abbrev pub search_cost : ℕ → ℕ → ℕ → Option ℕ → ℕ
search_cost spacing count cycle found =
    if count == 0 || cycle == 0 then 0 else cycle - or_zero found + passes count * spacing - 1

abbrev pub command_cost : Setting → State → ℕ → ℕ → Command → ℕ
command_cost w s spacing cycle (Last watched) = search_cost spacing 1 cycle (before_nth w s watched 1 cycle)
command_cost w s spacing cycle (Before watched count) =
    search_cost spacing count cycle (before_nth w s watched count cycle)
    + move_cost spacing cycle (at_or_start (before_nth w s watched count cycle)).cycle
command_cost w s spacing cycle command = move_cost spacing cycle (answer w s cycle command).cycle

unfoldable pub cost : Setting → State → ℕ → ℕ → List ℕ → ℕ
cost w s spacing cycle line = command_cost w s spacing cycle (command_of line)
