use Rattle.pio_words.proofs.SideBack.{word-side-back}
use Rattle.pio_words.proofs.Unique.{word-unique}
use Rattle.pio_words.proofs.encoding.encoded_decodes.Goals as goal

pub returns-clause-unique : goal.returns-clause-unique
returns-clause-unique c = word-unique

pub returns-clause-side_decodes : goal.returns-clause-side_decodes
returns-clause-side_decodes c = word-side-back
