use Rattle.std.proofs.Common.{sym, ◌∙◌}
use Rattle.pin_script.proofs.Rows.{is_set, is_clear, set_keeps, clear_keeps}
use Rattle.pin_script.proofs.script.with_bit.Goals as goal

pub returns-then-on-clause-same : goal.returns-then-on-clause-same
returns-then-on-clause-same c = is_set c.args.word c.args.bit c.requires ∙ sym c.if-on.true

pub returns-then-on-clause-others : goal.returns-then-on-clause-others
returns-then-on-clause-others c i lt other = set_keeps c.args.word c.args.bit i c.requires other

pub returns-else-on-clause-same : goal.returns-else-on-clause-same
returns-else-on-clause-same c = is_clear c.args.word c.args.bit c.requires ∙ sym c.if-on.false

pub returns-else-on-clause-others : goal.returns-else-on-clause-others
returns-else-on-clause-others c i lt other = clear_keeps c.args.word c.args.bit i c.requires lt other
