use Rattle.std.proofs.Common.{◌<◌, arith}
use Rattle.reverse_debug.proofs.Tallies.{counting_here, counting_on, never_stopped, few_counted}
use Rattle.reverse_debug.proofs.search.scan.Goals as goal

pub cycles-init : goal.cycles-init
cycles-init g c = counting_here _ _ _ _ _ _ c.requires.low c.requires.ahead

pub cycles-preserved : goal.cycles-preserved
cycles-preserved g c =
    counting_on _ _ _ _ _ _ _ _ _ _ _ _ _ _ _ _ c.cycles.invariant c.number-cycle.ensures c.in-None.ensures.way c.in-None.ensures.there (omega arith) c.seen.ensures
    c.seen-before.ensures c.happens_by-happened.ensures c.noted-tally.ensures

pub noted-tally-requires : goal.noted-tally-requires
noted-tally-requires g c =
    let lt : c.cycles.machine.cycle < c.args.to = omega arith in
    let few : c.cycles.tally.count < c.args.to = few_counted _ _ _ _ _ _ _ _ _ c.cycles.invariant lt in
    record { few = omega (arith, c.ranges.to.fits) }

pub returns-in-Some : goal.returns-in-Some
returns-in-Some g c =
    absurd (never_stopped _ _ _ _ _ _ _ _ _ _ _ _ _ c.cycles.invariant c.number-cycle.ensures c.in-Some.ensures.way (omega arith) c.requires.to)
