use Rattle.window_merge.proofs.Passing.{gone_none}
use Rattle.window_merge.proofs.inward.go_paced.Goals as goal

pub returns-then-not-is_due-clause-gone : goal.returns-then-not-is_due-clause-gone
returns-then-not-is_due-clause-gone g c = gone_none _ _ _ _ _
