-- The end of a cycle: the system timer, then the interrupt lines (ARMv6-M Architecture Reference Manual, B3.3, SysTick,
-- and B3.4.1, level-sensitive and pulse interrupts; RP2040 Datasheet, 4.7.2, Tick Generation).
use Rattle.std.specs.Prelude.{ℕ, ◌+◌, ◌-◌, ◌%◌, Bool, true, false, ◌||◌, ◌&&◌, ◌==◌, if◌then◌else◌, bit_and}
use Rattle.rp_base.specs.Word.{has_bit}
use Rattle.m0_nvic.specs.Exceptions.{SYSTICK}
use Rattle.m0_nvic.specs.declared.systick.SysTick.{SysTick}
use Rattle.m0_nvic.specs.State.{State}
use Rattle.m0_nvic.specs.Numbers.{minus, of_interrupts}
use Rattle.m0_nvic.specs.Changes.{with_pending, pended}

-- the timer counts each cycle of the core's clock, or each microsecond, which ends with a cycle whose number plus 1 is a
-- multiple of 125
abbrev pub counts_in : ℕ → SysTick → Bool
counts_in cycle t = t.enable && (t.core_clock || (cycle + 1) % 125 == 0)

-- one count: 0 is followed by the reload value, and COUNTFLAG tells that 1 was followed by 0
abbrev pub count_of : SysTick → SysTick
count_of t =
    if t.current == 0 then record t { current = t.reload } else
    if t.current == 1 then record t { current = 0; counted = true } else record t { current = t.current - 1 }

abbrev pub timer_after : ℕ → SysTick → SysTick
timer_after cycle t = if counts_in cycle t then count_of t else t

-- the count asks for its exception
abbrev pub timer_pends : ℕ → SysTick → Bool
timer_pends cycle t = counts_in cycle t && (t.current == 1 && t.interrupt)

abbrev pub with_timer : SysTick → State → State
with_timer t s = record s { systick = t }

abbrev pub after_timer : ℕ → State → State
after_timer cycle s =
    let t = with_timer (timer_after cycle s.systick) s in
    if timer_pends cycle s.systick then pended SYSTICK t else t

-- an interrupt becomes pending where its line is high, unless it was high before and the interrupt is active
abbrev pub risen : ℕ → State → ℕ
risen lines s = minus (of_interrupts lines) (bit_and (of_interrupts s.lines) s.active)

abbrev pub with_lines : ℕ → State → State
with_lines lines s = record s { lines = lines }

abbrev pub after_lines : ℕ → State → State
after_lines lines s = with_pending (risen lines s) (with_lines lines s)

-- a new span begins, in which nothing has arrived yet
abbrev pub with_none_arrived : State → State
with_none_arrived s = record s { arrived = false }

abbrev pub after_cycle : ℕ → ℕ → State → State
after_cycle lines cycle s = with_none_arrived (after_lines lines (after_timer cycle s))

-- with SEVONPEND an exception that became pending is an event (B3.2.7)
abbrev pub is_event : ℕ → ℕ → State → Bool
is_event lines cycle s = has_bit s.scr 4 && (after_lines lines (after_timer cycle s)).arrived
