-- A replay that is cut to its first cycles.
use Rattle.std.proofs.Common.{◌≡◌, ℕ, zero, suc, ◌+◌, ◌-◌, ◌≤◌, List, [], ◌++◌, length, length-append, take, refl, ap, sym, ◌∙◌, append_assoc, append-nil, arith}
use Rattle.std.proofs.Math.Seq.{take-append_seam}
use Rattle.lane_look.specs.Replay.{Meaning, Entry, Replay, talk, replayed}
use Rattle.lane_look.specs.declared.marks.Mark.{Mark}
use Rattle.lane_look.specs.declared.replay.Report.{Report}
use Rattle.lane_look.specs.Truth.{IsTrue}
use Rattle.lane_look.proofs.Replays.{with_rest, replayed_again}

-- the questions of more cycles begin with those of fewer
pub talk_more : {E S B : Type 0} (m : Meaning E S B) (env : E) (before : S) (start : ℕ) (log : List Entry) (n more all : ℕ) → n + more ≡ all → (rest : List Entry) × ((replayed m env before start log all).talk ≡ (replayed m env before start log n).talk ++ rest)
unfolding replayed
talk_more m env before start log n zero all e =
    let same : n ≡ all = omega arith in
    ([], rw (← same, append-nil) refl)
talk_more m env before start log n (suc more) zero e = absurd (omega arith)
talk_more m env before start log n (suc more) (suc all) e =
    let so_far = talk_more m env before start log n more all (omega arith) in
    let r = replayed m env before start log all in
    let here = talk r.rest (m.asks env r.state (start + all)) in
    (so_far.0 ++ here, ap (λ (es : List Entry). es ++ here) so_far.1 ∙ append_assoc (replayed m env before start log n).talk so_far.0 here)

-- what the first n cycles of a log that all cycles use up leave, and the same of the log cut to the entries that they used
pub record Cut {E S B : Type 0} (m : Meaning E S B) (env : E) (before : S) (start : ℕ) (log cut : List Entry) (n : ℕ) : Type 0 where
  pub is_talk : cut ≡ (replayed m env before start log n).talk
  pub again : replayed m env before start cut n ≡ with_rest [] (replayed m env before start log n)

pub cut_to : {E S B : Type 0} (m : Meaning E S B) (env : E) (before : S) (start : ℕ) (log : List Entry) (n all used : ℕ) → (replayed m env before start log all).talk ≡ log → n ≤ all → length log ≡ used + length (replayed m env before start log n).rest → Cut m env before start log (take used log) n
cut_to {E} {S} m env before start log n all used whole le count =
    let r = replayed m env before start log n in
    let split = talk_more m env before start log n (all - n) all (omega arith) in
    let parts : log ≡ r.talk ++ split.0 = sym whole ∙ split.1 in
    let again : replayed m env before start (r.talk ++ split.0) n ≡ with_rest split.0 r = replayed_again m env before start log n split.0 in
    let rest : r.rest ≡ split.0 = ap (λ (es : List Entry). (replayed m env before start es n).rest) parts ∙ ap (λ (x : Replay S). x.rest) again in
    let sizes : length log ≡ length r.talk + length split.0 = ap length parts ∙ length-append r.talk split.0 in
    let size : used ≡ length r.talk = let e = ap length rest in omega arith in
    let is_talk : take used log ≡ r.talk = rw size (ap (take (length r.talk)) parts ∙ take-append_seam r.talk split.0) in
    let nothing_more : r.talk ≡ r.talk ++ [] = sym (append-nil r.talk) in
    record {
      is_talk = is_talk;
      again = ap (λ (es : List Entry). replayed m env before start es n) (is_talk ∙ nothing_more) ∙ replayed_again m env before start log n [];
    }

-- the report of so many of a report's cycles
abbrev pub shorter : {S : Type 0} → Report S → ℕ → S → List Entry → List Mark → Report S
shorter report n lane log marks = record report { length = n; after = lane; log = log; marks = marks }

pub rewound_true : {E S B : Type 0} (m : Meaning E S B) (env : E) (report : Report S) (n : ℕ) (before : S) (used : ℕ) (lane : S) (log : List Entry) (marks : List Mark) → IsTrue m env report → n ≤ report.length → before ≡ report.before → length report.log ≡ used + length (replayed m env before report.start report.log n).rest → lane ≡ (replayed m env before report.start report.log n).state → marks ≡ (replayed m env before report.start report.log n).marks → log ≡ take used report.log → IsTrue m env (shorter report n lane log marks)
rewound_true {E} {S} m env report n before used lane log marks true_before le e_before count e_lane e_marks e_log =
    let count_here = rw e_before at count in
    let cut = cut_to m env report.before report.start report.log n report.length used true_before.whole le count_here in
    let again = rw (← e_log) at cut.again in
    let whole = rw (← e_log) at cut.is_talk in
    record {
      short = let s = true_before.short in omega arith;
      number = let s = true_before.number in omega arith;
      whole = ap (λ (r : Replay S). r.talk) again ∙ sym whole;
      lane_after = rw (e_lane, e_before) (sym (ap (λ (r : Replay S). r.state) again));
      marks_left = rw (e_marks, e_before) (sym (ap (λ (r : Replay S). r.marks) again));
    }
