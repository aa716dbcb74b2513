-- Whatever true reports come: the reports that are taken are the six runs alone.
use Rattle.window_runner.proofs.Shared.{AreRunsAlone, AreTaken, IsAccepted, IsRunAlone, IsTaken, IsTrue, IsTrueOrNone, Meaning, None, OfCore0, OfCore1, OfDma, OfOuter, OfPio0, OfPio1, OneReport, Option, Report, Setting, SixReports, Some, State, bound_under, core0_in, core1_bound, core1_in, core_lane, dma_in, dma_lane, inl, inr, outer_in, peripheral_lane, pio0_in, pio1_in, pio_lane, subst, ℕ, ◌≡◌}
use Rattle.window_runner.proofs.Accepting.{accepted_alone}

-- what came for a lane is true, if anything came
abbrev TrueIn : {S B : Type 0} → Meaning (Unit {0}) S B → ℕ → Option (ℕ × Report S) → Type 0
TrueIn m limit None = Unit {0}
TrueIn m limit (Some x) = (x.0 ≡ limit) × IsTrue m tt x.1

-- of each lane
abbrev TrueInEach : Setting → Option OneReport → Type 0
TrueInEach w came =
    TrueIn core_lane w.limit (core0_in came) × TrueIn core_lane w.limit (core1_in came) × TrueIn dma_lane w.limit (dma_in came)
    × TrueIn pio_lane w.limit (pio0_in came) × TrueIn pio_lane w.limit (pio1_in came) × TrueIn (peripheral_lane w) w.limit (outer_in came)

each_true : (w : Setting) (came : Option OneReport) → IsTrueOrNone w came → TrueInEach w came
each_true w None h = (tt, tt, tt, tt, tt, tt)
each_true w (Some (OfCore0 limit report)) h = (h, tt, tt, tt, tt, tt)
each_true w (Some (OfCore1 limit report)) h = (tt, h, tt, tt, tt, tt)
each_true w (Some (OfDma limit report)) h = (tt, tt, h, tt, tt, tt)
each_true w (Some (OfPio0 limit report)) h = (tt, tt, tt, h, tt, tt)
each_true w (Some (OfPio1 limit report)) h = (tt, tt, tt, tt, h, tt)
each_true w (Some (OfOuter limit report)) h = (tt, tt, tt, tt, tt, (h.0, h.2))

-- ---- what is taken for a lane

taken_alone : {S B : Type 0} (m : Meaning (Unit {0}) S B) (lane : ℕ) (before : S) (s : State) (bound : ℕ → ℕ) (limit : ℕ)
    (came : Option (ℕ × Report S)) (report : Report S) → TrueIn m limit came → IsTaken m lane before s bound limit came report
    → IsRunAlone m lane before s (bound limit) report
taken_alone m lane before s bound limit came report truth (inl h) =
    let t = subst (TrueIn m limit) h.1 truth in
    accepted_alone m lane before s (bound limit) report t.1
    (subst (λ (l : ℕ). IsAccepted m lane before s (bound l) report) t.0 h.2)
taken_alone m lane before s bound limit came report truth (inr h) = h.1

pub all_alone : (w : Setting) (s : State) (came : ℕ → Option OneReport) (six : SixReports)
    → ((lane : ℕ) → IsTrueOrNone w (came lane)) → AreTaken w s came six → AreRunsAlone w s six
all_alone w s came six truth h = record {
  core0 = taken_alone core_lane 0 s.core0 s (bound_under w s) w.limit (core0_in (came 0)) six.core0 (each_true w (came 0) (truth 0)).0 h.core0;
  core1 = taken_alone core_lane 1 s.core1 s (λ limit. core1_bound s (bound_under w s limit)) w.limit (core1_in (came 1)) six.core1 (each_true w (came 1) (truth 1)).1 h.core1;
  dma = taken_alone dma_lane 2 s.dma.block s (bound_under w s) w.limit (dma_in (came 2)) six.dma (each_true w (came 2) (truth 2)).2 h.dma;
  pio0 = taken_alone pio_lane 3 s.pio0.block s (bound_under w s) w.limit (pio0_in (came 3)) six.pio0 (each_true w (came 3) (truth 3)).3 h.pio0;
  pio1 = taken_alone pio_lane 4 s.pio1.block s (bound_under w s) w.limit (pio1_in (came 4)) six.pio1 (each_true w (came 4) (truth 4)).4 h.pio1;
  outer = taken_alone (peripheral_lane w) 5 s.outer s (bound_under w s) w.limit (outer_in (came 5)) six.outer (each_true w (came 5) (truth 5)).5 h.outer;
}
