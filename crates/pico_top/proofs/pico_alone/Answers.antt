use Rattle.pico_top.proofs.Shared.{read_parts_fit}
use Rattle.pico_top.proofs.pico_alone.Goals as goal

pub serve-requires-clause-fit : goal.serve-requires-clause-fit
serve-requires-clause-fit g c κs within = read_parts_fit _ _ _ c.requires.read
