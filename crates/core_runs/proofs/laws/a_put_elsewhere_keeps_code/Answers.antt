use Rattle.core_runs.proofs.Bytes.{a_put_elsewhere_keeps_code}
use Rattle.core_runs.proofs.laws.a_put_elsewhere_keeps_code.Goals as goal

pub returns : goal.returns
returns c = a_put_elsewhere_keeps_code
