use Rattle.std.proofs.Common.{◌∙◌}
use Rattle.std.proofs.lemmas.Result.{err_from_is_err_and}
use Rattle.pin_script.proofs.FileLines.{script_fault, script_ok}
use Rattle.pin_script.proofs.read_script.Goals as goal

pub returns-in_err-read_entries : goal.returns-in_err-read_entries
returns-in_err-read_entries c =
    let p = err_from_is_err_and c.from_residual.result c.from_residual.ensures.1 in
    record { script = rw (p.1, p.2) (λ other. script_fault c.args.bytes.now _ (c.in_err-read_entries.ensures.fault other)) }

pub returns : goal.returns
returns c = record {
  script = script_ok c.args.bytes.now _ _ c.in_ok-read_entries.ensures.ok (c.in_ok-from_entries.ensures ∙ c.in_ok-entries.ensures.value);
}
