-- The launcher's sequence.
use Rattle.std.proofs.Common.{refl}
use Rattle.sio_block.specs.Laws.{SixWordsStartCore1}

pub six_words_start_core_1 : SixWordsStartCore1
six_words_start_core_1 = λ vtor sp entry. (refl, refl)
