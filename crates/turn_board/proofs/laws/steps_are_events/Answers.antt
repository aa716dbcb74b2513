use Rattle.std.proofs.Common.{refl}
use Rattle.turn_board.proofs.Moves.{starts, sits, draw_event, see_event, finish_event, open_event, close_event, poll_event}
use Rattle.turn_board.proofs.laws.steps_are_events.Goals as goal

pub returns : goal.returns
returns g c = λ key. let j = g.J.Kept.made_for in let r = g.R.Kept.made_for in record {
  start = starts j r key _ _ refl refl;
  split = λ id v leads few. sits j r key id v leads few;
  draw = λ id m follows free. draw_event j r key 12 id m refl follows free;
  see_open = λ id m follows. see_event j r key 12 id m refl follows;
  finish = λ id m follows brings. finish_event j r key 12 id m refl follows brings;
  open_six = λ id m leads known unclosed room brings. open_event j r key 12 id m refl leads known unclosed room brings;
  close = λ id m leads. close_event j r key 12 id m refl leads;
  see_done = λ id m leads free bare. poll_event j r key 12 id m refl leads free bare;
}
