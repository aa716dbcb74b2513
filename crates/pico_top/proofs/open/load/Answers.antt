use Rattle.pico_top.proofs.Shared.{[], Failed, Lost, Refused, refl}
use Rattle.pico_top.proofs.open.load.Goals as goal

pub returns-in-Failed-clause-answer : goal.returns-in-Failed-clause-answer
returns-in-Failed-clause-answer g c next = record { found = tt; ended = (Refused (Lost _), (Failed, [], tt, refl), c.in-Failed.ensures.failures, tt) }
