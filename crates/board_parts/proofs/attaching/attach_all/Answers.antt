use Rattle.std.proofs.Common.{◌≡◌, map, true, sym, ap, subst, ◌∙◌, arith}
use Rattle.board_parts.specs.Parts.{all_placed, parts_device, words_of}
use Rattle.board_parts.specs.Wiring.{wired_in}
use Rattle.board_parts.proofs.Placing.{all_attached, placed_placed, placed_words}
use Rattle.board_parts.proofs.attaching.attach_all.Goals as goal

pub new-requires-clause-placed : goal.new-requires-clause-placed
new-requires-clause-placed g c =
    let at = c.loop-part in
    let wirings = map wired_in c.args.wirings.now in
    let parts = map g.P.Part.meaning c.args.parts.items in
    let same = all_attached _ at.index g.P.Part.meaning _ _ c.args.parts.items wirings (sym at.invariant.2 ∙ c.in-None.ensures.steps.0) at.invariant.0 c.into_iter-part-iterator.ensures.into_iter_gives.0 in
    λ _ _. subst (λ ps. all_placed ps ≡ true) (sym same) (placed_placed parts wirings c.requires.fit)

pub new-requires-clause-room : goal.new-requires-clause-room
new-requires-clause-room g c =
    let at = c.loop-part in
    let wirings = map wired_in c.args.wirings.now in
    let parts = map g.P.Part.meaning c.args.parts.items in
    let same = all_attached _ at.index g.P.Part.meaning _ _ c.args.parts.items wirings (sym at.invariant.2 ∙ c.in-None.ensures.steps.0) at.invariant.0 c.into_iter-part-iterator.ensures.into_iter_gives.0 in
    omega (arith, ap words_of same, placed_words parts wirings, c.requires.room)

pub returns-clause-device : goal.returns-clause-device
returns-clause-device g c =
    let at = c.loop-part in
    let wirings = map wired_in c.args.wirings.now in
    let same = all_attached _ at.index g.P.Part.meaning _ _ c.args.parts.items wirings (sym at.invariant.2 ∙ c.in-None.ensures.steps.0) at.invariant.0 c.into_iter-part-iterator.ensures.into_iter_gives.0 in
    c.new.ensures ∙ ap parts_device same

pub returns-clause-words : goal.returns-clause-words
returns-clause-words g c =
    let at = c.loop-part in
    let wirings = map wired_in c.args.wirings.now in
    let parts = map g.P.Part.meaning c.args.parts.items in
    let same = all_attached _ at.index g.P.Part.meaning _ _ c.args.parts.items wirings (sym at.invariant.2 ∙ c.in-None.ensures.steps.0) at.invariant.0 c.into_iter-part-iterator.ensures.into_iter_gives.0 in
    omega (arith, ap (λ device. device.count) c.new.ensures, ap words_of same, placed_words parts wirings)
