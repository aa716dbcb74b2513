use Rattle.std.proofs.Common.{refl, ◌∙◌}
use Rattle.reverse_debug.proofs.TalkSessions.{replied_last, replied_more}
use Rattle.reverse_debug.proofs.hear.answer.Goals as goal

pub returns-then-not-command-clause-replies : goal.returns-then-not-command-clause-replies
returns-then-not-command-clause-replies g c =
    replied_last _ c.args.session.now c.args.line.now _ _ _ _ _ _ c.command.ensures.quit c.if-not-command.true c.command.ensures.cycle c.command.ensures.forward c.command.ensures.steps

pub returns-in-Ok-clause-replies : goal.returns-in-Ok-clause-replies
returns-in-Ok-clause-replies g c =
    let s = c.in-Ok.ensures.sends in
    replied_more _ c.args.session.now c.args.line.now _ _ _ _ _ _ _ _ _ _ c.requires.stood c.command.ensures.quit c.if-not-command.false (c.deref.ensures.0 ∙ c.command.ensures.reply) c.command.ensures.cycle c.command.ensures.forward c.command.ensures.steps
    refl (record { ok = s.ok; err = tt; cause = tt; steady = s.steady; count = s.count })

pub returns-in-Err-clause-replies : goal.returns-in-Err-clause-replies
returns-in-Err-clause-replies g c =
    let s = c.in-Err.ensures.sends in
    replied_more _ c.args.session.now c.args.line.now _ _ _ _ _ _ _ _ _ _ c.requires.stood c.command.ensures.quit c.if-not-command.false (c.deref.ensures.0 ∙ c.command.ensures.reply) c.command.ensures.cycle c.command.ensures.forward c.command.ensures.steps
    tt (record { ok = tt; err = s.err; cause = s.cause; steady = tt; count = s.count })
