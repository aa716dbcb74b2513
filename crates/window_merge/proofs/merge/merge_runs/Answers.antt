use Rattle.window_merge.proofs.Shared.{arith, longest, setting_of, subst, sym, ◌<◌, ◌∙◌}
use Rattle.window_merge.proofs.Windows.{stands_at_first, tries_at, stands_next}
use Rattle.window_merge.proofs.merge.merge_runs.Goals as goal

pub loop-k-init : goal.loop-k-init
loop-k-init g c =
    let w = setting_of c.args.world.now.script.now (g.X.Device.meaning c.args.world.now.device.now) c.args.world.now.limit in
    record {
      stands = rw c.of-rests.ensures (stands_at_first w c.args.machine.now c.args.runs.now c.clear.new.self c.requires.free
          c.fact_copies_are_known.ensures.knows c.requires.runs c.clear.ensures);
      counted = omega arith;
    }

pub loop-k-preserved : goal.loop-k-preserved
loop-k-preserved g c =
    let w = setting_of c.args.world.now.script.now (g.X.Device.meaning c.args.world.now.device.now) c.args.world.now.limit in
    let below : c.loop-k.k < longest w c.args.machine.now = subst (λ n. c.loop-k.k < n) c.longest-longest.ensures.value c.loop-k-test.true in
    let tries = tries_at w c.args.machine.now c.args.runs.now c.loop-k.k c.loop-k.machine c.loop-k.rests
    c.loop-k.marks c.requires.runs c.loop-k.invariant.stands below (sym c.end_at.ensures ∙ c.if-end_at.false) in
    let b = c.begin_logged-left.ensures in
    record {
      stands = stands_next w c.args.machine.now c.loop-k.k c.loop-k.machine c.loop-k.rests
          c.loop-k.marks _ _ _ tries (sym b.fits ∙ c.if-not-fits.false) (rw b.begun at c.step.ensures.state) b.rests
          (rw b.begun at c.step.ensures.marks);
      counted = let before = c.loop-k.invariant.counted in let tick = c.tick.ensures in omega arith;
    }
