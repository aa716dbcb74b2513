use Rattle.window_merge.proofs.Shared.{ap, arith, meaning, ℕ, ◌+◌, ◌<◌, ◌≡◌}
use Rattle.window_merge.proofs.Walking.{length_long, length_ends}
use Rattle.window_merge.proofs.walk.is_length.Goals as goal

pub returns-then-at_most-cycles : goal.returns-then-at_most-cycles
returns-then-at_most-cycles g c = search (arith, length_long)

pub returns : goal.returns
returns g c = λ before first h.
    let cycle : c.args.start + c.from.result ≡ c.args.start + c.args.cycles = ap (λ (k : ℕ). c.args.start + k) c.from.ensures in
    let lt : c.args.cycles < c.args.at_most = let a = c.if-at_most-cycles.false in let b = c.if-cycles-at_most.false in omega (arith, a, b) in
    length_ends (meaning g.S.Lane.asks g.S.Lane.wanted g.S.Lane.next g.S.Lane.marked) before c.args.start first c.args.cycles c.args.lane.now c.args.walker.now c.args.ended c.args.at_most (c.args.start + c.from.result) c.ends_here.result h
    c.if-ended.false lt cycle c.ends_here.ensures
