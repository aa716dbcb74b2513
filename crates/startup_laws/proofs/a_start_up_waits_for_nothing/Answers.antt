use Rattle.startup_laws.proofs.Released.{released}
use Rattle.startup_laws.proofs.a_start_up_waits_for_nothing.Goals as goal

pub returns : goal.returns
returns c = record {
  oscillator = c.oscillator_and_plls_are_ready.ensures;
  clocks = c.clocks_are_selected_at_once.ensures;
  tick = c.the_tick_runs_at_once.ensures;
  blocks = released;
}
