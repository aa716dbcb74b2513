use Rattle.std.proofs.Common.{◌≡◌, ℕ, ◌+◌, ◌<◌, List, [], ◌∷◌, length, drop, get_or, drop-cons, add-one, ap, refl, ◌∙◌}
use Rattle.pio_asm.proofs.Shared.{Ok, drop_all, Line, Building, Names, line_step, lines_from}
use Rattle.pio_asm.proofs.Keeping.{names_valued}
use Rattle.pio_asm.proofs.program.take_lines.Goals as goal

line_next : (whole globals : Names) (total index : ℕ) (lines : List Line) (line : Line) (building next : Building) → index < length lines → line ≡ get_or lines index line
    → line_step whole globals total line building ≡ Ok next
    → lines_from whole globals total (drop index lines) building ≡ lines_from whole globals total (drop (index + 1) lines) next
line_next whole globals total index lines line building next inside is step =
    let rest : drop index lines ≡ get_or lines index line ∷ drop (index + 1) lines = rw add-one (drop-cons lines index line inside) in
    rw (rest, ← is, step) refl

pub loop-line-preserved : goal.loop-line-preserved
loop-line-preserved c = record {
  side = c.in_ok-take_line.ensures.side;
  rest = c.loop-line.invariant.rest
      ∙ line_next c.args.context.now.whole.now c.args.context.now.globals.now c.args.context.now.total c.loop-line.line-index c.args.lines.now c.line-item.result c.loop-line.building c.take_line.new.building
      c.loop-line-test.true c.line-item.is c.in_ok-take_line.ensures.step;
}

pub returns-clause-valued : goal.returns-clause-valued
returns-clause-valued c =
    let whole : Names = c.args.context.now.whole.now in
    let globals : Names = c.args.context.now.globals.now in
    let total = c.args.context.now.total in
    let building = c.loop-line.building in
    let end : drop c.loop-line.line-index c.args.lines.now ≡ [] = drop_all c.loop-line.line-index c.args.lines.now c.loop-line-test.false in
    names_valued whole globals total c.args.lines.now building (c.loop-line.invariant.rest ∙ ap (λ lines. lines_from whole globals total lines building) end)
