use Rattle.std.proofs.lemmas.Fn.{always_returns_same}
use Rattle.std.proofs.lemmas.List.Sorted.{IsNonDecreasingBy-from_sort_by_key}
use Rattle.std.proofs.Common.{◌≡◌, rules}
use Rattle.pin_script.specs.declared.entry.LineEntry.{LineEntry}
use Rattle.pin_script.proofs.Sorting.{sorted_is}
use Rattle.pin_script.proofs.order.sort.Goals as goal

pub returns-clause-order : goal.returns-clause-order
returns-clause-order c =
    sorted_is _ _
    (IsNonDecreasingBy-from_sort_by_key (λ (e : LineEntry). e.cycle) _ c.in_ok-sort_by_key.ensures.sorted (λ a r f' k. search rules))
    (c.sort_by_key.ensures.stable (λ (e : LineEntry). e.cycle) (always_returns_same _ (λ a r. r ≡ a.0.now.cycle) _ (λ a r f' k. search rules)))
