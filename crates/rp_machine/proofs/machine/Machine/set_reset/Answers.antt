use Rattle.rp_machine.proofs.Shared.{rules, slice_index, slice_set, ◌≡◌}
use Rattle.rp_machine.proofs.Agreeing.{reset_agrees}
use Rattle.rp_machine.proofs.machine.Machine.set_reset.Goals as goal

pub invariant_of-self : goal.invariant_of-self
invariant_of-self c =
    let word : slice_index (slice_set c.self.inside.resets 0 c.args.bits) 0 ≡ c.args.bits = search rules in
    rw word
    (rw (c.set_held.ensures, c.set_held-2.ensures, c.set_held-3.ensures, c.reset.ensures, c.has_bit.ensures, c.has_bit-2.ensures, c.has_bit-3.ensures)
    (reset_agrees c.args.bits _ _ _ c.requires c.self.invariant.pins c.self.invariant.offer))
