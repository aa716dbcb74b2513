use Rattle.thumb_words.proofs.Decode.{codes_decode}
use Rattle.thumb_words.proofs.laws.codes_decode.Goals as goal

pub returns : goal.returns
returns c = codes_decode
