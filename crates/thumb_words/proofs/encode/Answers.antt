use Rattle.thumb_words.proofs.Decode.{all_decode}
use Rattle.thumb_words.proofs.encode.Goals as goal

pub returns-clause-decodes : goal.returns-clause-decodes
returns-clause-decodes c = all_decode c.args.op.now c.code_of.result c.code_of.ensures
