-- The run alone by what a job holds is that from the state which the job was taken from; and six reports in order.
use Rattle.window_merge.proofs.Shared.{IsAloneBy, IsJobOf, LaneRun, Ran, Setting, Some, ap, arith, eqb-true, le-leb, longest, longest_by, ℕ, ◌∙◌, ◌≡◌}
use Rattle.rp_machine.specs.State.{State}
use Rattle.window_merge.specs.declared.lane_job.LaneJob.{LaneJob}
use Rattle.window_merge.proofs.Copying.{with_sram, pio_copied, outer_copied, as_run_alone}

pub longest_same : (w : Setting) (s : State) (limit start : ℕ) → limit ≡ w.limit → start ≡ s.cycle → longest_by limit start ≡ longest w s
longest_same w s limit start e_limit e_start = ap (λ n. longest_by n start) e_limit ∙ ap (longest_by w.limit) e_start

-- a job that is of a state, and what came of it
pub job_alone : (w : Setting) (s : State) (job : LaneJob) (room report : LaneRun) (n : ℕ) → IsJobOf s job → job.limit ≡ w.limit → job.set.room ≡ Some room → n ≡ longest_by job.limit job.start → Ran w job.lane job.start job.set.copies n room report
    → IsAloneBy w s (longest w s) job.lane report
job_alone w s job room report n h e_limit e_room e_n ran = search (arith, longest_same, as_run_alone, with_sram, pio_copied, outer_copied, le-leb, eqb-true)
