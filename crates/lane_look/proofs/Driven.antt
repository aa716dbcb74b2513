-- A lane that functions answer, and the replay of what they answered.
use Rattle.std.proofs.Common.{◌≡◌, ℕ, zero, suc, ◌+◌, List, ◌++◌, refl, ap, ◌∙◌, append_assoc}
use Rattle.lane_look.specs.Asking.{Asking}
use Rattle.lane_look.specs.declared.lane.Ask.{Ask}
use Rattle.lane_look.specs.Replay.{Meaning, Entry, Replay, asked, replay_by, replay_cycle, replayed}
use Rattle.lane_look.specs.Alone.{Driven, driven_by, driven}
use Rattle.lane_look.specs.Truth.{Follows}
use Rattle.lane_look.proofs.Trees.{told_asked, left_asked, talk_asked}

-- a replay that stands where a driven lane stands, with these entries left
abbrev pub as_replay : {S : Type 0} → List Entry → Driven S → Replay S
as_replay rest d = record { state = d.state; rest = rest; talk = d.talk; marks = d.marks }

drive_by : {E S B : Type 0} (m : Meaning E S B) (env : E) (f : Ask → ℕ) (tree : Asking B) (more : List Entry) (d : Driven S) → replay_by m env tree (as_replay (asked f tree ++ more) d) ≡ as_replay more (driven_by m env f tree d)
drive_by m env f tree more d = rw (told_asked f more tree, left_asked f more tree, talk_asked f more tree) refl

pub driven_replayed : {E S B : Type 0} (m : Meaning E S B) (env : E) (before : S) (start : ℕ) (f : ℕ → Ask → ℕ) (n : ℕ) (more : List Entry) → replayed m env before start ((driven m env before start f n).talk ++ more) n ≡ as_replay more (driven m env before start f n)
unfolding replayed driven
driven_replayed m env before start f zero more = refl
driven_replayed m env before start f (suc n) more =
    let d = driven m env before start f n in
    let tree = m.asks env d.state (start + n) in
    let here : replayed m env before start ((d.talk ++ asked (f n) tree) ++ more) n ≡ as_replay (asked (f n) tree ++ more) d =
    rw (append_assoc d.talk (asked (f n) tree) more) (driven_replayed m env before start f n (asked (f n) tree ++ more)) in
    ap (replay_cycle m env (start + n)) here ∙ drive_by m env (f n) tree more d

pub follows : {E S B : Type 0} (m : Meaning E S B) → Follows m
follows {E} {S} m env before start log n f more h = rw h (ap (λ (r : Replay S). r.state) (driven_replayed m env before start f n more))
