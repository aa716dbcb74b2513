use Rattle.rp_machine.proofs.Shared.{ap, arith, part_word, setting_of, ◌∙◌, ◌≡◌}
use Rattle.pio_block.specs.Words.{is_allowed}
use Rattle.rp_machine.proofs.Opening.{plainly_open, opens_outer}
use Rattle.rp_machine.proofs.machine.Machine.opens.Goals as goal

pub returns-in-Outer : goal.returns-in-Outer
unfolding part_word
returns-in-Outer g c =
    let w = setting_of c.args.world.now.script.now (g.X.Device.meaning c.args.world.now.device.now) c.args.world.now.limit in
    rw c.in-Outer.is
    (c.allows.ensures ∙ opens_outer w c.args.seen.now c.args.request.now c.in-Outer.block c.args.offset c.args.alias c.args.self.now.outer)

pub returns-in-Pio0 : goal.returns-in-Pio0
unfolding part_word
returns-in-Pio0 g c =
    let zero : c.args.alias ≡ 0 = let test = c.if-alias-eq0.true in omega (arith, test) in
    rw (c.in-Pio0.is, zero)
    (c.allows-in-Pio0.ensures ∙ ap (is_allowed c.args.offset) c.word_written.ensures ∙ (plainly_open c.args.request.now c.args.offset c.args.self.now.pio0).0)

pub returns-in-Pio1 : goal.returns-in-Pio1
unfolding part_word
returns-in-Pio1 g c =
    let zero : c.args.alias ≡ 0 = let test = c.if-alias-eq0-2.true in omega (arith, test) in
    rw (c.in-Pio1.is, zero)
    (c.allows-in-Pio1.ensures ∙ ap (is_allowed c.args.offset) c.word_written-in-Pio1.ensures ∙ (plainly_open c.args.request.now c.args.offset c.args.self.now.pio1).1)
