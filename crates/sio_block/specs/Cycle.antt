-- The end of a cycle: a division goes on (RP2040 Datasheet, 2.3.1.5, Integer Divider).
use Rattle.sio_block.specs.Side.{side_ended}
use Rattle.sio_block.specs.State.{State}

abbrev pub after_cycle : State → State
after_cycle s = record s { core0 = side_ended s.core0; core1 = side_ended s.core1 }
