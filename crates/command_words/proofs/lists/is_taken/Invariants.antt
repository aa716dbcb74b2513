use Rattle.std.proofs.Common.{◌≡◌, map, drop}
use Rattle.std.specs.List.{list_any}
use Rattle.command_words.proofs.lists.is_taken.Given as goal

-- none of the items so far clashes
abbrev pub invariant-loop-other : goal.invariant-loop-other
invariant-loop-other g l =
    let clashes = list_any (g.T.Item.clash (g.T.Item.meaning l.item)) in
    clashes (map g.T.Item.meaning l.items) ≡ clashes (map g.T.Item.meaning (drop l.other-index l.items))
