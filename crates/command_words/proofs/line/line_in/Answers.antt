use Rattle.std.proofs.Common.{◌≡◌, map, Some, ap, sym, subst, inl, inr, ◌∙◌}
use Rattle.std.proofs.lemmas.Result.{IfOk-weaker}
use Rattle.std.specs.Option.{option_and_then}
use Rattle.std.specs.String.{string_bytes}
use Rattle.clap.specs.Matches.{first_value, found_of}
use Rattle.clap.specs.Walk.{rows_of}
use Rattle.clap.specs.Simple.{App, app_of, subcommand_rows_of}
use Rattle.clap.specs.Faults.{fault_of, is_simple_and_free}
use Rattle.clap.specs.Kinds.{IsAmong}
use Rattle.clap.specs.Words.{kind_of}
use Rattle.command_words.specs.Line.{line_in, line_found, normal_line, table}
use Rattle.command_words.proofs.Parsed.{at_ok, at_err, none_met, one_met, same_line, table_is_free}
use Rattle.command_words.proofs.line.line_in.Goals as goal

pub returns-in-None : goal.returns-in-None
returns-in-None c =
    sym (at_ok (map string_bytes c.args.words.now) (app_of c.in_ok-command.command) _ c.in_ok-command.ensures c.in-Ok.ensures.kinds (λ s. (c.in-Ok.ensures.matches s).1)
    ∙ ap (option_and_then line_found) (none_met (subcommand_rows_of c.in-Ok.matches) c.in-None.ensures.rows))

pub returns-in-Ok : goal.returns-in-Ok
returns-in-Ok c =
    let words = map string_bytes c.args.words.now in
    let found = found_of c.in-Some.found.now in
    let named : subcommand_rows_of c.in-Ok.matches ≡ Some (c.in-Some.name.now, rows_of found) = one_met _ _ _ _ c.in-Some.ensures.name c.in-Some.ensures.rows in
    let line : line_in words ≡ normal_line c.in-Some.name.now (first_value found) =
    at_ok words (app_of c.in_ok-command.command) _ c.in_ok-command.ensures c.in-Ok.ensures.kinds (λ s. (c.in-Ok.ensures.matches s).1)
    ∙ ap (option_and_then line_found) named ∙ sym (same_line found c.in-Some.name.now) in
    IfOk-weaker c.written.result _ _ (λ r h. h ∙ sym line) c.written.ensures

pub returns : goal.returns
returns c =
    let words = map string_bytes c.args.words.now in
    let is : app_of c.in_ok-command.command ≡ table = c.in_ok-command.ensures in
    elim (c.in-Err.ensures.kinds (ap is_simple_and_free is ∙ table_is_free)) [
      | inl memory ↦ absurd (c.in_default.not-OutOfMemory (c.kind.ensures ∙ memory))
      | inr among ↦ sym (at_err words (kind_of c.in-Err.error) (subst (λ (a : App). IsAmong (kind_of c.in-Err.error) (fault_of a words)) is among))
    ]
