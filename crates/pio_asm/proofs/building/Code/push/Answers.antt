use Rattle.std.proofs.Common.{◌≡◌, length, arith, ap, lit<}
use Rattle.pio_asm.proofs.CodeLaws.{words-length, words-push}
use Rattle.pio_asm.proofs.building.Code.push.Goals as goal

pub push-requires-2 : goal.push-requires-2
push-requires-2 c =
    let same : length c.self.inside.members.items ≡ length c.self.inside.words.items = words-length c.self.inside.members.items c.self.inside.words.items c.self.invariant in
    let seen : length c.self.inside.members.items ≡ length c.args.self.now = ap length c.self.view_is in
    (lit< tt, omega (arith, same, seen, c.requires.room))

pub invariant_of-self : goal.invariant_of-self
invariant_of-self c =
    rw (c.push.ensures.items, c.push-2.ensures.items) (words-push c.self.inside.members.items c.self.inside.words.items c.args.member c.word_of_member-word.result c.self.invariant c.word_of_member-word.ensures)
