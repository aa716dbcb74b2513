use Rattle.std.proofs.Common.{ap, ◌∙◌}
use Rattle.source_text.specs.Symbols.{put}
use Rattle.source_text.proofs.SymbolLaws.{insert-put, named}
use Rattle.source_text.proofs.symbols.Symbols.put.Goals as goal

pub returns : goal.returns
returns g c =
    ap (λ entries. named entries) c.in_ok-insert.ensures.entries
    ∙ insert-put c.args.name c.args.value c.self.inside.table.entries
    ∙ ap (λ names. put c.args.name.now c.args.value names) c.self.view_is
