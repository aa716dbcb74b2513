use Rattle.std.proofs.Common.{◌<◌, ap, arith}
use Rattle.std.proofs.lemmas.List.Elements.{All-push}
use Rattle.pin_script.specs.declared.entry.LineEntry.{LineEntry}
use Rattle.pin_script.proofs.Sending.{sent_none, sent_more}
use Rattle.pin_script.proofs.send.push_bits.Goals as goal

pub loop-k-init : goal.loop-k-init
loop-k-init c = (sent_none _ _ _ _ _ _, λ pins. pins)

pub loop-k-preserved : goal.loop-k-preserved
loop-k-preserved c = (
  sent_more _ _ _ _ _ _ _ _ _ _ c.in_ok-push.ensures.items c.loop-k.invariant.0 c.sent_entry.ensures,
  λ pins.
      let pin = ap (λ (e : LineEntry). e.pin) c.sent_entry.ensures in
      rw c.in_ok-push.ensures.items
      (All-push (λ (e : LineEntry). e.pin < 30) _ _ (c.loop-k.invariant.1 pins) (omega (arith, pin, c.requires.pin))),
)
