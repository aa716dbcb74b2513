use Rattle.pico_top.proofs.Shared.{board}
use Rattle.pico_top.proofs.Telling.{beside_none, beside_some, served}
use Rattle.pico_top.proofs.serve_by.Goals as goal

pub returns-in-empty : goal.returns-in-empty
returns-in-empty g c = served (board _ _ _) _ _ _ _ _ (beside_none _ _ _ _ c.in-empty.len_below c.wirings.ensures) c.serve_with_by.ensures

pub returns-in-Ok : goal.returns-in-Ok
returns-in-Ok g c = served (board _ _ _) _ _ _ _ _ (beside_some _ _ _ _ _ c.in_default.len_at_least c.wirings.ensures c.in-Ok.ensures.device) c.serve_with_by-in-Ok.ensures
