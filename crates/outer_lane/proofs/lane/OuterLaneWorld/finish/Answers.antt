use Rattle.std.proofs.Common.{◌≡◌, ◌==◌, true, false, [], ◌∷◌, ◌++◌, length, ap, ◌∙◌, refl, arith}
use Rattle.std.proofs.lemmas.Bool.Decides.{nat_tests}
use Rattle.outer_lane.specs.Setting.{setting}
use Rattle.outer_lane.specs.Step.{wires_by, words_by}
use Rattle.outer_lane.proofs.Stepped.{next-stepped, marked-stepped, refilled, no_wires_by}
use Rattle.outer_lane.proofs.lane.OuterLaneWorld.finish.Goals.{then-len-words, else-len-words}
use Rattle.outer_lane.proofs.lane.OuterLaneWorld.finish.Goals as goal

pub returns : goal.returns
unfolding wires_by words_by
returns g c =
    let d = g.X.Device.meaning c.args.env.now.device.now in
    let s = c.args.self.now in
    let cycle = c.args.begun.now.cycle in
    let words = words_by d s.device cycle s.pads.current in
    let a = c.len.ensures.value in
    let b = c.words.ensures.number in
    let now = c.if-len-words in
    let same : (now.wires ≡ wires_by d s.device cycle s.pads.current) × (now.self ≡ record s { device = words }) =
    elim c.if-len-words.branch [
      | then-len-words w ↦
          let t = w.if-len-words.true in
          let fits : (length c.self.inside.device.items == d.count) ≡ true = grind (arith, nat_tests, a, b, t) in
          let lent = w.as_mut_slice.ensures.value in
          let step = w.step-wires in
          let levels = c.pads-levels.ensures in (
            rw (w.wires-is, step.ensures.wires, lent, levels, ← c.self.view_is, fits) refl,
            rw (w.self-is, refilled _ step.new.state (step.auto.state ∙ ap length lent), step.ensures.state, lent, levels)
                (rw (← c.self.view_is, fits) refl),
          )
      | else-len-words w ↦
          let t = w.if-len-words.false in
          let unfit : (length c.self.inside.device.items == d.count) ≡ false = grind (arith, nat_tests, a, b, t) in (
            rw (← c.self.view_is, unfit) (w.wires-is ∙ no_wires_by _ w.default-wires.ensures),
            rw (w.self-is, ← c.self.view_is, unfit) refl,
          )
    ] in
    let w = setting g.X.Device.meaning c.args.env.now in
    let seen = c.args.begun.now in
    record {
      state = c.step_by.ensures.state ∙ rw (same.0, same.1) (next-stepped w seen s);
      marks =
          c.step_by.ensures.marks ∙ rw (same.0, same.1) (ap (λ m. c.args.marks.now ++ m ∷ []) (marked-stepped w seen s words));
    }
