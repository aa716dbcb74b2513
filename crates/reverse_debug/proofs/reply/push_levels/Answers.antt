use Rattle.reverse_debug.proofs.Shared.{ap, arith, has_bit, level_digit, range_with_len, ◌++◌, ◌+◌, ◌-◌, ◌∙◌}
use Rattle.reverse_debug.proofs.Listing.{piece_more, range_on}
use Rattle.reverse_debug.proofs.reply.push_levels.Goals as goal

pub loop-pin-preserved : goal.loop-pin-preserved
loop-pin-preserved c = record {
  text =
      piece_more (λ pin. level_digit (has_bit c.args.pads pin)) c.loop-pin.reply.items c.push.new.self.items c.loop-pin.pin
      (range_with_len c.loop-pin.pin (30 - c.loop-pin.pin)) (range_with_len (c.loop-pin.pin + 1) (30 - (c.loop-pin.pin + 1))) _
      (range_on c.loop-pin.pin c.loop-pin-test.true) c.loop-pin.invariant.text
      (c.push.ensures.items ∙ ap (λ t. c.loop-pin.reply.items ++ t) (c.level_digit.ensures ∙ ap level_digit c.has_bit.ensures));
  room = omega arith;
}
