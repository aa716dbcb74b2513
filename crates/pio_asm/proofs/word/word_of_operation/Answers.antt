use Rattle.std.proofs.Common.{refl}
use Rattle.pio_asm.proofs.Words.{word-exists}
use Rattle.pio_asm.proofs.word.word_of_operation.Goals as goal

pub returns-in-None : goal.returns-in-None
returns-in-None c =
    let e = word-exists c.args.op.now c.args.side.now c.args.value c.args.delay c.requires.op c.requires.side in
    absurd (c.in-None.ensures.none refl e.0 e.1)
