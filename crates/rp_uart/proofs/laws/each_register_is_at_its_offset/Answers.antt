use Rattle.std.proofs.Common.{refl}
use Rattle.rp_base.proofs.Rows.{listed}
use Rattle.rp_uart.specs.Words.{uart_rows}
use Rattle.rp_uart.proofs.laws.each_register_is_at_its_offset.Goals as goal

pub returns : goal.returns
returns c = listed uart_rows refl
