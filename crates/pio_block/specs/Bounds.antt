-- Lemmas for the laws of the lane: how much a block asks in a cycle.
use Rattle.lane_look.specs.declared.lane.Ask.TheVariants.{Inputs}
use Rattle.lane_look.specs.Asking.{AsksAtMost}
use Rattle.lane_look.specs.Bounds.{Few, few_ready, few_ask, few_if}
use Rattle.pio_block.specs.State.{State}
use Rattle.pio_block.specs.Cycle.{asks}

asks_few : (s : State) → Few 1 (asks s)
unfolding asks
asks_few s = few_if 1 _ _ _ (few_ask 0 Inputs _ (λ x. few_ready 0 _)) (few_ready 1 _)

pub one_at_most : (s : State) → AsksAtMost 1 (asks s)
one_at_most s = (asks_few s).few
