use Rattle.std.proofs.Common.{refl}
use Rattle.rp_base.proofs.Rows.{listed}
use Rattle.rp_timer.specs.Words.{timer_rows}
use Rattle.rp_timer.proofs.laws.each_register_is_at_its_offset.Goals as goal

pub returns : goal.returns
returns c = listed timer_rows refl
