-- Probes that are aimed, up to the last.
use Rattle.std.proofs.Common.{◌≡◌, ℕ, List, [], ◌∷◌, ◌++◌, length, map, sym, ap, ◌∙◌, arith, append-nil}
use Rattle.board_parts.specs.Aiming.{aims_from, aims_of}
use Rattle.board_parts.specs.Hearing.{Aim}
use Rattle.board_parts.specs.Probe.{ProbeMeaning}
use Rattle.board_parts.specs.declared.target.Target.{Target}

-- where no probe is left, those that were aimed are all
pub all_aimed : {P : Type 0} (aims : List Aim) (index : ℕ) (view : P → ProbeMeaning) (left all probes : List P) (targets : List Target) → length left ≡ 0
    → aims ++ aims_from index (map view left) targets ≡ aims_from 0 (map view all) targets → all ≡ probes → aims ≡ aims_of (map view probes) targets
unfolding aims_of
all_aimed aims index view [] all probes targets none h same = sym (append-nil aims) ∙ (h ∙ ap (λ ps. aims_from 0 (map view ps) targets) same)
all_aimed aims index view (p ∷ left) all probes targets none h same = absurd (omega (arith, none))
