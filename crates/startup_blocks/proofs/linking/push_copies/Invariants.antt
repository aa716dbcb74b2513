use Rattle.std.specs.Prelude.{◌≡◌, ◌++◌, take}
use Rattle.startup_blocks.proofs.linking.push_copies.Given as goal

abbrev pub invariant-loop-part : goal.invariant-loop-part
invariant-loop-part l = l.into.items ≡ l.fn.into.items ++ take l.part-index l.parts
