use Rattle.std.proofs.Common.{sym, subst, arith}
use Rattle.outer_lane.specs.Setting.{setting}
use Rattle.outer_lane.specs.Quiet.{IsSettled}
use Rattle.outer_lane.specs.contracts.outer.Outer.{the_view}
use Rattle.outer_lane.proofs.Cycles.{least_quiet}
use Rattle.outer_lane.proofs.outer.Outer.quiet.Goals as goal

pub returns : goal.returns
returns g c =
    let w = setting g.X.Device.meaning c.args.world.now in
    let seen = c.args.seen.now in
    let b = c.min-within.ensures in
    let e = c.min.ensures in
    rw (← c.self.view_is)
    (least_quiet w seen (the_view c.self.inside) _ _ c.quiet-inside.result c.script_quiet-script.result c.words_quiet-words.result
    c.min.result c.self.invariant.0 c.self.invariant.1.0 c.quiet-inside.ensures c.script_quiet-script.ensures
    (rw c.pads-levels.ensures at c.words_quiet-words.ensures) (omega (arith, b, e)) (omega (arith, b, e)) (omega (arith, b, e))
    (subst (IsSettled w seen) (sym c.self.view_is) (c.is_settled.ensures c.if-not-is_settled.false)))
