-- Lemmas for the laws of the lane: how much the peripherals ask in a cycle.
use Rattle.std.specs.Prelude.{ℕ, suc, List}
use Rattle.lane_look.specs.declared.lane.Ask.TheVariants.{Outs}
use Rattle.lane_look.specs.Asking.{AsksAtMost}
use Rattle.lane_look.specs.Bounds.{Few, few_ready, few_ask, few_if}
use Rattle.outer_lane.specs.State.{State}
use Rattle.outer_lane.specs.Step.{pins_in, no_pins, asks_second, asks}

few_second : (n : ℕ) (s : State) (cycle : ℕ) (first : List ℕ) → Few (suc n) (asks_second s cycle first)
unfolding asks_second
few_second n s cycle first = few_if (suc n) _ _ _ (few_ask n (Outs 1) _ (λ answer. few_ready n _)) (few_ready _ _)

asks_few : (s : State) (cycle : ℕ) → Few 2 (asks s cycle)
unfolding asks
asks_few s cycle =
    few_if 2 _ _ _
    (few_ask 1 (Outs 0) (λ answer. asks_second s cycle (pins_in answer)) (λ answer. few_second 0 s cycle (pins_in answer)))
    (few_second 1 s cycle no_pins)

-- the outputs of the two PIO blocks
pub two_at_most : (s : State) (cycle : ℕ) → AsksAtMost 2 (asks s cycle)
two_at_most s cycle = (asks_few s cycle).few
