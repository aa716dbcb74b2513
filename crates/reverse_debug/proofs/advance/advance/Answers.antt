use Rattle.std.proofs.Common.{◌+◌, ◌≡◌, ◌≤◌, ◌∙◌, ap, sym, arith}
use Rattle.reverse_debug.proofs.Paths.{next_at, way_here, way_on, way_passed}
use Rattle.reverse_debug.proofs.advance.advance.Goals as goal

pub cycles-init : goal.cycles-init
cycles-init g c = way_here _ _ _ _ c.requires.low c.requires.ahead

pub cycles-smaller : goal.cycles-smaller
cycles-smaller g c =
    let one = next_at _ c.cycles.machine c.cycle.new.self c.in-None.ensures.state in
    omega (arith, one)

pub cycles-smaller-then-is_due : goal.cycles-smaller-then-is_due
cycles-smaller-then-is_due g c =
    let one = next_at _ c.cycles.machine c.cycle.new.self c.in-None.ensures.state in
    let q = c.pass_paced.ensures in
    let number : c.pass_paced.new.machine.cycle ≡ c.cycle.new.self.cycle + c.pass_paced.result = ap (λ s. s.cycle) q.state ∙ q.quiet.cycle _ (omega arith) in
    omega (arith, one, number)

pub cycles-preserved : goal.cycles-preserved
cycles-preserved g c =
    way_on _ _ c.cycles.machine c.cycle.new.self c.args.to _ _ _ c.cycles.invariant (sym c.in-None.ensures.cause) c.in-None.ensures.state (omega arith) c.in-None.ensures.steps

pub cycles-preserved-then-is_due : goal.cycles-preserved-then-is_due
cycles-preserved-then-is_due g c =
    let on = way_on _ _ c.cycles.machine c.cycle.new.self c.args.to _ _ _ c.cycles.invariant (sym c.in-None.ensures.cause) c.in-None.ensures.state (omega arith) c.in-None.ensures.steps in
    let q = c.pass_paced.ensures in
    let near : c.passable-most.result ≤ c.args.to = omega (arith, c.passable-most.ensures.before) in
    way_passed _ _ c.cycle.new.self c.pass_paced.new.machine c.args.to _ _ _ _ _ on q.state q.quiet q.within near c.passable-most.ensures.limit q.steps
