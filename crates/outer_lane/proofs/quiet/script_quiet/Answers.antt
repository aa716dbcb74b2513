use Rattle.std.proofs.Common.{◌<◌, arith}
use Rattle.pin_script.specs.Reading.{cycle_at}
use Rattle.outer_lane.proofs.Cycles.{script_waits_by}
use Rattle.outer_lane.proofs.quiet.script_quiet.Goals as goal

pub returns-then-next-entries : goal.returns-then-next-entries
returns-then-next-entries c =
    let r = c.cycle_of.ensures in
    let first = c.next_entry-next.ensures in
    script_waits_by c.args.script.now c.as_slice-entries.result.now c.args.cycle c.next_entry-next.result _ c.as_slice-entries.ensures.entries c.as_slice-entries.ensures.script first.within first.before first.after
    (λ lt. let later : c.args.cycle < cycle_at c.as_slice-entries.result.now c.next_entry-next.result = first.after lt in omega (arith, r))

pub returns-else-next-entries : goal.returns-else-next-entries
returns-else-next-entries c =
    let past = c.if-next-entries.false in
    let first = c.next_entry-next.ensures in
    script_waits_by c.args.script.now c.as_slice-entries.result.now c.args.cycle c.next_entry-next.result _ c.as_slice-entries.ensures.entries c.as_slice-entries.ensures.script first.within first.before first.after
    (λ lt. absurd (omega (arith, past)))
