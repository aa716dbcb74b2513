use Rattle.pico_top.proofs.Shared.{◌∙◌, at_drop_all, entry_in, map, refl}
use Rattle.pico_top.proofs.Walking.{entry_next, places_as, places_end, places_next}
use Rattle.pico_top.proofs.open.open_programs.Goals as goal

pub returns-in_err-open_program-clause-answer : goal.returns-in_err-open_program-clause-answer
returns-in_err-open_program-clause-answer g c =
    let so_far = rw (entry_next c.args.entries.now c.loop-entry.entry-index c.entry-item.result c.loop-entry-test.true c.entry-item.is) at c.loop-entry.invariant.placed in
    places_end _ _ c.from_residual.ensures.1 (λ next. ((places_next so_far c.loop-entry.invariant.kept (c.in_err-open_program.ensures.answer so_far.after so_far.placed)).leads next).ended)

pub loop-entry-preserved : goal.loop-entry-preserved
loop-entry-preserved g c =
    let so_far = rw (entry_next c.args.entries.now c.loop-entry.entry-index c.entry-item.result c.loop-entry-test.true c.entry-item.is) at c.loop-entry.invariant.placed in
    record {
      kept = c.in_ok-open_program.ensures.kept ∙ c.loop-entry.invariant.kept;
      loads = c.in_ok-open_program.ensures.loads;
      placed = places_next so_far c.loop-entry.invariant.kept (c.in_ok-open_program.ensures.answer so_far.after so_far.placed);
    }

pub returns-clause-answer : goal.returns-clause-answer
returns-clause-answer g c = places_as (rw (at_drop_all (map entry_in) c.args.entries.now c.loop-entry.entry-index c.loop-entry-test.false) at c.loop-entry.invariant.placed) refl
