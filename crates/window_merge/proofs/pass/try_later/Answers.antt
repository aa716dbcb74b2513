use Rattle.window_merge.proofs.Shared.{Begun, [], ap, noted_by, setting_of, sym, ◌++◌, ◌∙◌, ◌∷◌}
use Rattle.outer_lane.specs.Step.{marked}
use Rattle.rp_machine.specs.Cycle.{wanted, next_by}
use Rattle.window_merge.proofs.Later.{begun_all, goes_all}
use Rattle.window_merge.proofs.pass.try_later.Goals as goal

pub returns-then-not-goes_by-clause-goes : goal.returns-then-not-goes_by-clause-goes
returns-then-not-goes_by-clause-goes g c =
    sym c.if-not-goes_by.true
    ∙ goes_all c.args.start.now c.args.notes.now c.args.machine.now c.begin_later.new.lanes _ _ c.begin_later.ensures.same c.if-not-begin_later.false c.begin_later.ensures.begun c.goes_by.ensures

pub returns-clause-goes : goal.returns-clause-goes
returns-clause-goes g c =
    sym c.if-not-goes_by.false
    ∙ goes_all c.args.start.now c.args.notes.now c.args.machine.now c.begin_later.new.lanes _ _ c.begin_later.ensures.same c.if-not-begin_later.false c.begin_later.ensures.begun c.goes_by.ensures

pub returns-clause-state : goal.returns-clause-state
returns-clause-state g c =
    let w = setting_of c.args.world.now.script.now (g.X.Device.meaning c.args.world.now.device.now) c.args.world.now.limit in
    let here = begun_all c.args.start.now c.args.notes.now c.args.machine.now c.begin_later.new.lanes _ c.begin_later.ensures.same c.if-not-begin_later.false c.begin_later.ensures.begun in
    c.step_noted.ensures.state ∙ ap (λ (b : Begun). next_by w b (wanted b) c.args.machine.now) here

pub returns-clause-marks : goal.returns-clause-marks
returns-clause-marks g c =
    let w = setting_of c.args.world.now.script.now (g.X.Device.meaning c.args.world.now.device.now) c.args.world.now.limit in
    let here = begun_all c.args.start.now c.args.notes.now c.args.machine.now c.begin_later.new.lanes _ c.begin_later.ensures.same c.if-not-begin_later.false c.begin_later.ensures.begun in
    c.step_noted.ensures.marks ∙ ap (λ (b : Begun). c.args.marks.now ++ marked w c.args.machine.now.outer b.outer ∷ []) here

pub returns-clause-notes : goal.returns-clause-notes
returns-clause-notes g c =
    let here = begun_all c.args.start.now c.args.notes.now c.args.machine.now c.begin_later.new.lanes _ c.begin_later.ensures.same c.if-not-begin_later.false c.begin_later.ensures.begun in
    c.step_noted.ensures.notes ∙ ap (λ (b : Begun). noted_by (wanted b) c.args.machine.now.sram c.args.notes.now) here
