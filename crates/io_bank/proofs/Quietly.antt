-- A step of quiet pads changes nothing.
use Rattle.std.proofs.Common.{◌≡◌, ℕ, Bool, true, Option, refl, sym, ap, ◌∙◌, arith}
use Rattle.std.proofs.lemmas.Bool.Decides.{nat_tests}
use lib.Bits.{or_zero_r}
use Rattle.io_bank.specs.declared.events.Edges.{Edges}
use Rattle.io_bank.specs.declared.outputs.Outs.{Outs}
use Rattle.io_bank.specs.State.{State, no_edges}
use Rattle.io_bank.specs.Edges.{edges_of, joined}
use Rattle.io_bank.specs.Levels.{levels_of}
use Rattle.io_bank.specs.Step.{after_step, is_quiet}
use Rattle.io_bank.proofs.Routed.{edges_of-at_rest}

no_more : (e : Edges) → joined e no_edges ≡ e
no_more e = rw (or_zero_r e.low, or_zero_r e.high) refl

none_by : (e : Edges) → e.low ≡ 0 → e.high ≡ 0 → no_edges ≡ e
none_by e l h = sym (ap (λ (n : ℕ). record e { low = n }) l ∙ ap (λ (n : ℕ). record no_edges { high = n }) h)

same : (s : State) (edges : Edges) (levels : ℕ) → edges ≡ no_edges → no_edges ≡ s.fresh → levels ≡ s.current → s.first ≡ s.current → s.second ≡ s.first →
    record s { latched = joined s.latched edges; fresh = edges; current = levels; first = s.current; second = s.first } ≡ s
same s edges levels e fresh l first second =
    rw (e, no_more s.latched, fresh, l) (ap (λ n. record s { first = n; second = s.first }) (sym first) ∙ ap (λ n. record s { second = n }) (sym second))

pub rest_step : (outs : Outs) (f : ℕ → Option Bool) (s : State) → is_quiet s ≡ true → levels_of outs f s ≡ s.current → after_step outs f s ≡ s
rest_step outs f s at_rest levels =
    let first : s.first ≡ s.current = grind (arith, nat_tests) in
    let second : s.second ≡ s.first = grind (arith, nat_tests) in
    let low : s.fresh.low ≡ 0 = grind (arith, nat_tests) in
    let high : s.fresh.high ≡ 0 = grind (arith, nat_tests) in
    same s (edges_of s) (levels_of outs f s) (edges_of-at_rest s (sym second)) (none_by s.fresh low high) levels first second
