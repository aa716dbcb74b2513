-- What a comparison of logs and lengths says of a report.
use Rattle.std.proofs.Common.{◌≡◌, ℕ, Bool, true, false, ◌&&◌, length, Option, subst, arith}
use Rattle.std.specs.Prelude.{Result, Ok, Err, is_ok, is_none, unwrap_or, IfErr}
use Rattle.window_merge.proofs.Shared.{Decides, IsFirstOther, IsRunAlone, IsStranger, IsUnlike, IsUnlikeBy, Judges, Meaning, Questions, Report, Setting, alone_length, and_from, and_parts, around, asking_lane, log_of, peripheral_lane, questions_of, talk_alone}
use Rattle.outer_lane.specs.State.{State as OuterState}
use Rattle.rp_machine.specs.State.{State}
use Rattle.window_merge.specs.declared.lane_job.LaneReport.{LaneReport}
use Rattle.window_merge.specs.declared.accepting.Stranger.{Stranger}
use Rattle.window_merge.specs.Jobs.{IsTrueIn, IsAloneBy, IsAlone, start_of, longest_by}
use Rattle.window_merge.proofs.AskingAlone.{talk_same, length_asking}
use Rattle.window_merge.proofs.Reported.{longest_same}
use Rattle.window_merge.proofs.Telling.{other_answer}

-- ---- a report that begins where the lane stands

unlike : {S B : Type 0} (m : Meaning (Unit {0}) S B) (lane : ℕ) (before : S) (s : State) (report : Report S) (other : Option ℕ)
    → report.before ≡ before → IsFirstOther report.log (talk_alone m lane before s report.length) other → IsUnlike m lane before s report other
unlike m lane before s report other h1 h2 = grind arith

-- ---- the peripherals

pub judged_asking : (w : Setting) (lane : ℕ) (before : OuterState) (q : Questions) (s : State) (bound : ℕ) (report : Report OuterState) (same_length : Bool) (other : Option ℕ) (result : Result (Unit {0}) (Option ℕ))
    → report.start ≡ s.cycle → report.before ≡ before → q ≡ questions_of before
    → Decides same_length (report.length ≡ alone_length asking_lane (around lane) tt q s.cycle s bound)
    → IsFirstOther report.log (talk_alone asking_lane lane q s report.length) other
    → is_ok result ≡ same_length && is_none other → IfErr result (λ entry. entry ≡ other)
    → Judges (IsRunAlone (peripheral_lane w) lane before s bound report) (IsUnlike (peripheral_lane w) lane before s report) result
judged_asking w lane before q s bound report same_length other result e_start e_before e_q e_length h e_ok e_err = search (arith, length_asking, talk_same, and_parts, and_from, unlike)

-- ---- any report

-- what is said under the report's limit
pub by_limit : (w : Setting) (s : State) (report : LaneReport) (n start : ℕ) (result : Result (Unit {0}) (Option ℕ)) → IsTrueIn w report → start ≡ s.cycle → n ≡ longest_by report.limit start
    → Judges (IsAloneBy w s n report.lane report.run) (IsUnlikeBy w s report.lane report.run) result → Judges (IsAlone w s report) (IsUnlikeBy w s report.lane report.run) result
by_limit w s report n start result h e_start e_n j = search (arith, longest_same)

pub is_stranger : (w : Setting) (s : State) (report : LaneReport) (entry : Option ℕ) (stranger : Stranger)
    → stranger ≡ record { lane = report.lane; entry = unwrap_or entry (length (log_of report.run)) }
    → IsTrueIn w report → start_of report.run ≡ s.cycle → IsUnlikeBy w s report.lane report.run entry → IsStranger w s report stranger
is_stranger w s report entry stranger e h e_start u = search (arith, other_answer)

-- ---- what comes of it

pub ok_alone : (alone : Type 0) (unlike : Option ℕ → Type 0) (result : Result (Unit {0}) (Option ℕ)) (x : Unit {0}) → result ≡ Ok x → Judges alone unlike result → Decides true alone
ok_alone alone unlike result x e j = subst (λ (r : Result (Unit {0}) (Option ℕ)). Decides (is_ok r) alone) e j.is_alone

pub err_alone : (alone : Type 0) (unlike : Option ℕ → Type 0) (result : Result (Unit {0}) (Option ℕ)) (entry : Option ℕ) → result ≡ Err entry → Judges alone unlike result → Decides false alone
err_alone alone unlike result entry e j = subst (λ (r : Result (Unit {0}) (Option ℕ)). Decides (is_ok r) alone) e j.is_alone

pub err_unlike : (alone : Type 0) (unlike : Option ℕ → Type 0) (result : Result (Unit {0}) (Option ℕ)) (entry : Option ℕ) → result ≡ Err entry → Judges alone unlike result → unlike entry
err_unlike alone unlike result entry e j = subst (λ (r : Result (Unit {0}) (Option ℕ)). IfErr r unlike) e j.is_unlike
