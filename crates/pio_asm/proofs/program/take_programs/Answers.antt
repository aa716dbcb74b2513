use Rattle.std.proofs.Common.{◌≡◌, ◌+◌, ◌∷◌, drop, None, ap, sym, ◌∙◌}
use Rattle.pio_asm.proofs.Shared.{put, programs_from}
use Rattle.pio_asm.proofs.ProgramLaws.{drop_next, goes_on}
use Rattle.pio_asm.proofs.program.take_programs.Goals as goal

pub loop-program-preserved : goal.loop-program-preserved
loop-program-preserved c =
    let globals = c.args.globals.now in
    let programs = c.args.programs.now in
    let index = c.loop-program.program-index in
    let item = c.program-item.result in
    let taken = c.loop-program.taken in
    let g = goes_on globals taken c.loop-program.invariant.plans c.loop-program.made.items item (drop (index + 1) programs) c.in_ok-next.next c.loop-program.invariant.are c.in_ok-next.ensures.ok in
    let here : drop index programs ≡ item ∷ drop (index + 1) programs =
    drop_next programs index item c.loop-program-test.true ∙ ap (λ x. x ∷ drop (index + 1) programs) (sym c.program-item.is) in
    let names : c.add_program.new.taken ≡ put item.name None taken = c.in-Ok.ensures.taken ∙ ap (λ n. put n None taken) c.as_slice.ensures in
    record {
      plans = g.after;
      are = rw c.in-Ok.ensures.made g.are;
      rest = c.loop-program.invariant.rest
          ∙ ap (λ ps. programs_from globals taken c.loop-program.invariant.plans ps) here
          ∙ g.goes
          ∙ ap (λ t. programs_from globals t g.after (drop (index + 1) programs)) (sym names);
    }
