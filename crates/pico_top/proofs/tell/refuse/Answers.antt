use Rattle.pico_top.proofs.Shared.{◌∙◌}
use Rattle.pico_top.proofs.Walking.{refuses_by}
use Rattle.pico_top.proofs.tell.refuse.Goals as goal

pub returns-in-Ok : goal.returns-in-Ok
returns-in-Ok g c = refuses_by _ _ _ _ _ _ _ c.in-Refusing.is c.status.ensures (c.deref.ensures.value ∙ c.in-Ok.ensures) c.say.ensures
