use Rattle.reverse_debug.proofs.Shared.{Ahead, HasNoEnd, ap, drop, drop-drop, given_bytes, subst, sym, take, take_rest, ◌++◌, ◌+◌, ◌∙◌, ◌∷◌}
use Rattle.reverse_debug.proofs.NextLines.{first_end, no_end, drop_taken}
use Rattle.reverse_debug.proofs.reader.LineReader.pass.Goals as goal

pub returns-in-Some-clause-passes : goal.returns-in-Some-clause-passes
returns-in-Some-clause-passes c =
    let front = take c.self.inside.end c.self.inside.piece in
    let rest = drop c.self.inside.at front in
    let count = c.in-Some.count in
    let is = rw (take_rest front c.self.inside.at) at c.in-Some.ensures in
    let f = first_end rest count (sym is) in (
      take count rest,
      f.0,
      sym (ap (λ (a : Ahead). a.rest) c.self.view_is) ∙ f.1 ∙ ap (λ d. take count rest ++ 10 ∷ d) (drop-drop (count + 1) c.self.inside.at front),
      c.give.ensures ∙ ap (λ r. take given_bytes (c.args.line.now.items ++ take count r)) (take_rest front c.self.inside.at),
    )

pub returns-in-None-clause-passes : goal.returns-in-None-clause-passes
returns-in-None-clause-passes c =
    let front = take c.self.inside.end c.self.inside.piece in
    let rest = drop c.self.inside.at front in
    let view = ap (λ (a : Ahead). a.rest) c.self.view_is in
    let is = rw (take_rest front c.self.inside.at) at c.in-None.ensures in (
      subst HasNoEnd view (no_end rest (sym is)),
      drop_taken c.self.inside.end c.self.inside.piece,
      c.give-in-None.ensures ∙ ap (λ r. take given_bytes (c.args.line.now.items ++ r)) (take_rest front c.self.inside.at ∙ view),
    )
