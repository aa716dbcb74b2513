-- The DMA engine between two cycles (RP2040 Datasheet, 2.5 "DMA").
use Rattle.std.specs.Prelude.{ℕ, false, List, [], replicate, Option, None, slice_index_or}
use Rattle.dma_engine.specs.declared.channel.Channel.{Channel}
use Rattle.dma_engine.specs.declared.waiting.WaitingWrite.{WaitingWrite}
use Rattle.dma_engine.specs.declared.timer.PacingTimer.{PacingTimer}
use Rattle.dma_engine.specs.declared.line.InterruptLine.{InterruptLine}

pub record State : Type 0 where
  -- the twelve channels
  pub channels : List Channel
  -- the channel that is chosen now, whose next read is not done yet
  pub chosen : Option ℕ
  -- the channel that was chosen last
  pub last_chosen : ℕ
  -- the writes that wait, the oldest first
  pub waiting : List WaitingWrite
  -- INTR: the channels that raised their interrupt, by bits
  pub raised : ℕ
  -- INTE and INTF of the two interrupt lines
  pub line_0 : InterruptLine
  pub line_1 : InterruptLine
  -- the four pacing timers
  pub timers : List PacingTimer

abbrev pub idle_channel : Channel
idle_channel =
    record { read = 0; write = 0; count = 0; reload = 0; ctrl = 0; busy = false; aborted = false; credits = 0 }

-- a channel by its number
abbrev pub channel_at : ℕ → State → Channel
channel_at n e = slice_index_or e.channels n idle_channel

abbrev pub stopped_timer : PacingTimer
stopped_timer = record { x = 0; y = 0; accumulator = 0 }

abbrev pub timer_at : ℕ → List PacingTimer → PacingTimer
timer_at k timers = slice_index_or timers k stopped_timer

abbrev pub low_line : InterruptLine
low_line = record { enable = 0; force = 0 }

-- after a reset nothing is in progress and every register is 0; the first channel to be looked at is channel 0, which
-- follows channel 11
abbrev pub at_reset : State
at_reset =
    record {
      channels = replicate 12 idle_channel;
      chosen = None;
      last_chosen = 11;
      waiting = [];
      raised = 0;
      line_0 = low_line;
      line_1 = low_line;
      timers = replicate 4 stopped_timer;
    }
