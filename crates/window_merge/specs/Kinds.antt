-- The kinds of the six lanes: 0 and 1 are the cores, 2 is the DMA engine, 3 and 4 are the PIO blocks, and 5 has the peripherals.
use Rattle.std.specs.Prelude.{ℕ, ◌==◌, ◌||◌, nat_le, Bool, false, Option, Some, None}
use Rattle.window_merge.specs.declared.lane_run.LaneRun.{LaneRun}
use Rattle.window_merge.specs.declared.lane_run.LaneRun.TheVariants as run

-- a report is of the kind of a lane
abbrev pub is_run_of : ℕ → LaneRun → Bool
is_run_of lane (run.Core report) = (lane == 0) || (lane == 1)
is_run_of lane (run.Dma report) = lane == 2
is_run_of lane (run.Pio report) = (lane == 3) || (lane == 4)
is_run_of lane (run.Outer report) = lane == 5

-- there is room for a report of a lane
abbrev pub has_room_for : ℕ → Option LaneRun → Bool
has_room_for lane None = false
has_room_for lane (Some run) = is_run_of lane run

-- the cores and the DMA engine ask for words of SRAM, the other lanes for none
abbrev pub asks_sram : ℕ → Bool
asks_sram lane = nat_le lane 2
