use Rattle.rp_uart.proofs.Timing.{a_frame_takes_its_time}
use Rattle.rp_uart.proofs.laws.a_frame_takes_its_time.Goals as goal

pub returns : goal.returns
returns c = a_frame_takes_its_time
