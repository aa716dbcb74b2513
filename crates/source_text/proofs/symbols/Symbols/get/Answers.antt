use Rattle.std.proofs.Common.{ap, ◌∙◌}
use Rattle.source_text.specs.Symbols.{found}
use Rattle.source_text.proofs.SymbolLaws.{lookup-found}
use Rattle.source_text.proofs.symbols.Symbols.get.Goals as goal

pub returns : goal.returns
returns g c = c.copied.ensures ∙ c.get.ensures.value ∙ lookup-found c.args.name.now c.self.inside.table.entries ∙ ap (λ names. found c.args.name.now names) c.self.view_is
