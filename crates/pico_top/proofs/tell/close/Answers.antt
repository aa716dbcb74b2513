use Rattle.pico_top.proofs.Shared.{inl, inr}
use Rattle.pico_top.proofs.tell.close.Goals as goal

pub returns-in-Closed : goal.returns-in-Closed
returns-in-Closed g c = elim c.in-Closed.is [ inl e ↦ rw e c.say.ensures | inr e ↦ rw e c.say.ensures ]

pub returns-in-Broken : goal.returns-in-Broken
returns-in-Broken g c = rw c.in-Broken.is c.say-in-Broken.ensures

pub returns-in-Full : goal.returns-in-Full
returns-in-Full g c = rw c.in-Full.is c.say-in-Full.ensures
