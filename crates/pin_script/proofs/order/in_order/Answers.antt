use Rattle.std.proofs.Common.{◌≡◌, map}
use Rattle.std.proofs.lemmas.Result.{IfOk-weaker}
use Rattle.pin_script.specs.Script.{without_line, IsScript}
use Rattle.pin_script.proofs.Sorting.{in_order_is_script}
use Rattle.pin_script.proofs.order.in_order.Goals as goal

pub returns-clause-script : goal.returns-clause-script
returns-clause-script c =
    let order = c.in_ok-sort.ensures.order in
    let pins = rw order at (c.in_ok-sort.ensures.pins c.requires) in
    IfOk-weaker c.without_lines.result (λ script. script.items ≡ map without_line c.deref.result.now) (λ script. IsScript script.items)
    (λ script e. rw (e, c.deref.ensures.value, order) (in_order_is_script c.args.entries.items pins)) c.without_lines.ensures
