use Rattle.reverse_debug.proofs.Shared.{SeesAs, ap, arith, ends_by, setting_of, sought, sym, ◌+◌, ◌∙◌, ◌≡◌}
use Rattle.reverse_debug.proofs.Paths.{next_at, way_here}
use Rattle.reverse_debug.proofs.Ends.{Unended, sees_there, unended_none, unended_passed, unended_found, unended_cycle, unended_ended}
use Rattle.reverse_debug.proofs.advance.seek.Given.{Over}
use Rattle.reverse_debug.proofs.advance.seek.Goals.{After-is_due}
use Rattle.reverse_debug.proofs.advance.seek.Goals as goal

pub cycles-init : goal.cycles-init
cycles-init g c = unended_none _ _ _ _ _ (way_here _ _ _ _ c.requires.low (omega arith))

pub returns-then-ends_by : goal.returns-then-ends_by
returns-then-ends_by g c =
    unended_ended _ (sought c.args.watched) _ c.cycles.machine c.cycle.new.self c.args.to _ _ _ c.cycles.invariant (sym c.in-None.ensures.cause) c.in-None.ensures.state (omega arith) c.in-None.ensures.steps

-- one cycle more, behind which it has not ended
on : (g : Over) (c : After-is_due g) → Unended (setting_of c.args.world.now.script.now (g.X.Device.meaning c.args.world.now.device.now) c.args.world.now.limit) (sought c.args.watched) c.args.machine.now c.cycle.new.self c.args.to c.args.steps.now c.cycle.new.steps
on g c =
    let what = sought c.args.watched in
    let same = sees_there _ _ c.cycles.machine what _ c.seen-before.ensures c.cycles.invariant.way.path c.cycles.invariant.none in
    unended_cycle _ what _ c.cycles.machine c.cycle.new.self c.args.to _ _ _ _ c.cycles.invariant same (sym c.in-None.ensures.cause) c.in-None.ensures.state (omega arith) c.in-None.ensures.steps (sym (c.ends_by.ensures ∙ ap (ends_by what c.seen-before.result) c.seen.ensures) ∙ c.if-ends_by.false)

sees : (g : Over) (c : After-is_due g) → SeesAs (sought c.args.watched) c.seen-before.result c.cycle.new.self
sees g c = sees_there _ _ c.cycle.new.self (sought c.args.watched) _ c.seen-before.ensures (on g c).way.path (on g c).none

pub cycles-preserved : goal.cycles-preserved
cycles-preserved g c = on g (goal.at.cycles-preserved g c).After-is_due

pub returns-then-has_ended : goal.returns-then-has_ended
returns-then-has_ended g c =
    let at = (goal.at.returns-then-has_ended g c).After-is_due in
    let q = c.pass_seeking-passed.ensures in
    unended_found _ (sought c.args.watched) _ c.cycle.new.self c.pass_seeking-passed.new.machine c.args.to _ _ _ _ _ _ (on g at) (sees g at) q.state q.quiet q.within (omega (arith, c.passable-most.ensures.before)) c.passable-most.ensures.limit q.steps q.none (sym c.has_ended.ensures ∙ c.if-has_ended.true)

pub cycles-preserved-else-has_ended : goal.cycles-preserved-else-has_ended
cycles-preserved-else-has_ended g c =
    let at = (goal.at.cycles-preserved-else-has_ended g c).After-is_due in
    let q = c.pass_seeking-passed.ensures in
    unended_passed _ (sought c.args.watched) _ c.cycle.new.self c.pass_seeking-passed.new.machine c.args.to _ _ _ _ _ _ (on g at) (sees g at) q.state q.quiet q.within (omega (arith, c.passable-most.ensures.before)) c.passable-most.ensures.limit q.steps q.none (sym c.has_ended.ensures ∙ c.if-has_ended.false)

pub cycles-smaller-else-has_ended : goal.cycles-smaller-else-has_ended
cycles-smaller-else-has_ended g c =
    let one = next_at _ c.cycles.machine c.cycle.new.self c.in-None.ensures.state in
    let q = c.pass_seeking-passed.ensures in
    let number : c.pass_seeking-passed.new.machine.cycle ≡ c.cycle.new.self.cycle + c.pass_seeking-passed.result = ap (λ s. s.cycle) q.state ∙ q.quiet.cycle _ (omega arith) in
    omega (arith, one, number)

pub cycles-smaller : goal.cycles-smaller
cycles-smaller g c =
    let one = next_at _ c.cycles.machine c.cycle.new.self c.in-None.ensures.state in
    omega (arith, one)
