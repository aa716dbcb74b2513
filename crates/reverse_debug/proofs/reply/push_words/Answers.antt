use Rattle.reverse_debug.proofs.Shared.{addresses, ap, arith, spaced_word, word_at, ◌++◌, ◌+◌, ◌-◌, ◌∙◌}
use Rattle.reverse_debug.proofs.Reading.{addresses_on}
use Rattle.reverse_debug.proofs.Listing.{piece_more}
use Rattle.reverse_debug.proofs.reply.push_words.Goals as goal

pub words-preserved : goal.words-preserved
words-preserved c = record {
  text =
      piece_more (λ a. spaced_word (word_at c.args.machine.now a)) c.words.reply.items c.push_spaced_word.new.reply.items c.words.next
      (addresses c.words.next c.words.left) (addresses (c.words.next + 4) (c.words.left - 1)) _
      (addresses_on c.words.next c.words.left c.words-test.true) c.words.invariant.text
      (c.push_spaced_word.ensures.text ∙ ap (λ w. c.words.reply.items ++ spaced_word w) c.word_at.ensures);
  reach = omega arith;
  room = omega arith;
}
