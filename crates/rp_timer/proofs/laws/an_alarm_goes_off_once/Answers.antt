use Rattle.rp_timer.proofs.Alarms.{an_alarm_goes_off_once}
use Rattle.rp_timer.proofs.laws.an_alarm_goes_off_once.Goals as goal

pub returns : goal.returns
returns c = an_alarm_goes_off_once
