use Rattle.io_bank.proofs.Latching.{shown_right}
use Rattle.io_bank.proofs.laws.what_is_enabled_or_forced_is_shown.Goals as goal

pub returns : goal.returns
returns c = shown_right
