use Rattle.std.proofs.Common.{◌≤◌, ◌<◌, ◌-◌, length}
use Rattle.pin_script.specs.Reading.{cycle_at, IsDueBefore}
use Rattle.outer_lane.proofs.quiet.next_entry.Given as goal

abbrev pub invariant-loop-low : goal.invariant-loop-low
invariant-loop-low l =
    (l.low ≤ l.high) × (l.high ≤ length l.entries) × IsDueBefore l.entries l.cycle l.low
    × (l.high < length l.entries → l.cycle < cycle_at l.entries l.high)

abbrev pub decreases-loop-low : goal.decreases-loop-low
decreases-loop-low l = l.high - l.low
