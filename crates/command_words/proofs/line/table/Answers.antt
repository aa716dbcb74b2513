use Rattle.std.proofs.Common.{◌≡◌, ◌+◌, [], drop, true, ap, ap₂, sym, ◌∙◌, Bor}
use Rattle.std.specs.List.{fold}
use Rattle.clap.specs.Walk.{Text}
use Rattle.clap.specs.Simple.{app_of, app_of_fields, on_top}
use Rattle.command_words.specs.Line.{table, top, with_command}
use Rattle.command_words.proofs.Parsed.{command_added, next_word, texts_of}
use Rattle.command_words.proofs.line.table.Goals as goal

pub loop-word-init : goal.loop-word-init
unfolding table
loop-word-init c =
    let top_is : app_of c.no_binary_name-table.result ≡ top =
    ap app_of_fields c.no_binary_name-table.ensures ∙ ap (on_top (λ s. record s { no_binary_name = true })) c.new.ensures.app in
    ap₂ (fold with_command) top_is c.commands-word-items.ensures

pub loop-word-preserved : goal.loop-word-preserved
loop-word-preserved c =
    let items = c.commands-word-items.result.now in
    let i = c.loop-word.word-index in
    let none : Bor Text = record { ref_ptr = (0, 0); now = [] } in
    command_added _ (texts_of (drop (i + 1) items)) c.loop-word.table c.in_ok-command.field-0 c.in_ok-table.table table c.in_ok-command.ensures
    c.in_ok-table.ensures (sym (ap (fold with_command _) (next_word items i none c.loop-word-test.true)) ∙ c.loop-word.invariant)
