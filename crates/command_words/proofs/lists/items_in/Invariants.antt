use Rattle.std.proofs.Common.{◌≡◌, map, drop, Bor, List, ℕ}
use Rattle.std.specs.Option.{option_map}
use Rattle.command_words.specs.Lists.{items_from, items_of}
use Rattle.command_words.proofs.lists.items_in.Given as goal

-- what is left of the list, behind the items so far, gives what the whole list gives
abbrev pub invariant-loop-text : goal.invariant-loop-text
invariant-loop-text g l =
    let read = g.T.Item.item_of l.handed in
    items_from read g.T.Item.clash (map g.T.Item.meaning l.items.items) (map (λ (piece : Bor (List ℕ)). piece.now) (drop l.text-index l.text-items))
    ≡ items_of read g.T.Item.clash l.fn.mark (option_map (λ (text : Bor (List ℕ)). text.now) l.list)
