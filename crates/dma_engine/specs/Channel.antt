-- What changes a channel: a trigger, an abort, the end of its sequence (RP2040 Datasheet, 2.5.1, 2.5.2 and 2.5.5.3).
use Rattle.std.specs.Prelude.{ℕ, zero, suc, ◌^◌, Bool, true, false, not, ◌&&◌, ◌==◌, nat_lt, if◌then◌else◌, List, slice_set, bit_or}
use Rattle.dma_engine.specs.declared.channel.Channel.{Channel}
use Rattle.dma_engine.specs.Control.{is_enabled, chain_of, irq_quiet}
use Rattle.dma_engine.specs.State.{State, channel_at}

-- a trigger of an enabled channel that is idle loads the count and begins its sequence
abbrev pub triggered : Channel → Channel
triggered c = if is_enabled c && not c.busy then record c { count = c.reload; busy = true } else c

-- an abort leaves no transfer to choose; the sequence ends once its transfers in flight are finished
abbrev pub aborted : Channel → Channel
aborted c = record c { count = 0; aborted = c.busy }

abbrev pub idle : Channel → Channel
idle c = record c { busy = false; aborted = false }

-- one channel of the engine changes; where there is no channel of that number nothing does
abbrev pub with_channels : List Channel → State → State
with_channels channels e = record e { channels = channels }

abbrev pub changed : (Channel → Channel) → ℕ → State → State
changed f n e = if nat_lt n 12 then with_channels (slice_set e.channels n (f (channel_at n e))) e else e

unfoldable pub with_trigger : ℕ → State → State
with_trigger n e = changed triggered n e

unfoldable pub with_abort : ℕ → State → State
with_abort n e = changed aborted n e

-- a channel raises its interrupt
abbrev pub with_raised : ℕ → State → State
with_raised n e = record e { raised = bit_or e.raised (2 ^ n) }

-- with IRQ_QUIET the end of a sequence raises no interrupt
abbrev pub with_report : ℕ → Channel → State → State
with_report n c e = if irq_quiet c then e else with_raised n e

-- a channel that is not chained to itself triggers the one that it is chained to
abbrev pub with_chain : ℕ → Channel → State → State
with_chain n c e = if chain_of c == n then e else with_trigger (chain_of c) e

-- neither follows an abort
abbrev pub with_end_of : ℕ → Channel → State → State
with_end_of n c e = if c.aborted then e else with_chain n c (with_report n c e)

-- the sequence of a channel ends
unfoldable pub with_end : ℕ → State → State
with_end n e = with_end_of n (channel_at n e) (changed idle n e)

-- the channels below a number that pass a test have their turn, in order of number
unfoldable pub in_turn : (ℕ → Bool) → (ℕ → State → State) → ℕ → State → State
in_turn test act zero e = e
in_turn test act (suc n) e = if test n then act n (in_turn test act n e) else in_turn test act n e
