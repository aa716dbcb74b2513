-- What the start of a window answers a lane is what its run alone is answered.
use Rattle.window_merge.proofs.Shared.{Ask, Bool, List, Question, Ready, Want, [], and-true, answer_of, ap, around, block_lines, eqb_tells, lines_of, nat_eq, ne_eqb, not, refl, slice_index, sram_after, stored_by, subst, suc, zero, ℕ, ◌&&◌, ◌<◌, ◌||◌, ◌∙◌, ◌∷◌, ◌≡◌, arith}
use Rattle.lane_look.specs.Asking.{Asking, Runs}
use Rattle.lane_look.specs.Replay.{Meaning, asked}
use Rattle.lane_look.specs.Alone.{all_stored, alone, differs}
use Rattle.outer_lane.specs.Lines.{outer_lines}
use Rattle.rp_machine.specs.State.{State}
use Rattle.window_merge.specs.declared.start.Matcher.{Matcher}
use Rattle.window_merge.specs.Start.{start_of, guess, guessed, matched, IsBegun}
use Rattle.window_merge.proofs.Agree.{all_same, itself}
use Rattle.window_merge.proofs.Banks.{has_bank}
use Rattle.window_merge.proofs.Copying.{outs_same}
use Rattle.window_merge.proofs.Walking.{lines_over, pacing_over, inputs_over, outs_over}

-- ---- one question

pub guess_is : (lane : ℕ) (s : State) (seen : ℕ → ℕ) (sees : List ℕ) (question : Ask)
    → ((i : ℕ) → i < 67584 → seen i ≡ slice_index sees i)
    → guess lane (start_of s) seen question ≡ answer_of lane (record s { sram = sees }) question
unfolding lines_of block_lines outer_lines
guess_is lane s seen sees question h1 = search (arith, lines_over, has_bank, pacing_over, inputs_over, outs_same, outs_over, eqb_tells)

-- ---- what is around a lane that runs alone

-- it is the start but for SRAM
abbrev Over : State → State → Type 0
Over s t = t ≡ record s { sram = t.sram }

over_stored : (s t : State) (v : Want) → Over s t → Over s (stored_by v t)
over_stored s t v h1 = grind arith

over_all : (lane : ℕ) (s t : State) (wants : List Want) → Over s t → Over s (all_stored (around lane) t wants)
over_all lane s t [] h = h
over_all lane s t (v ∷ wants) h = over_all lane s (stored_by v t) wants (over_stored s t v h)

pub around_over : {S B : Type 0} (m : Meaning (Unit {0}) S B) (lane : ℕ) (before : S) (s : State) (k : ℕ) → Over s (alone m (around lane) tt before s.cycle s k).around
unfolding alone
around_over m lane before s zero = refl
around_over m lane before s (suc k) = search (arith, over_all, (around_over m lane before s k))

pub stored_sram : (v : Want) (t : State) → (stored_by v t).sram ≡ sram_after v t.sram
stored_sram v t = grind arith

-- ---- the look

-- as far as the answers are the same, so is what is asked
still_same : {B : Type 0} (same : Bool) (f g : Ask → ℕ) (question : Ask) (next : ℕ → Asking B)
    → (same && nat_eq (g question) (f question)) && not (differs f (asked g (next (f question)))) ≡ same && not (not (nat_eq (f question) (g question)) || differs f (asked g (next (g question))))
still_same {B} same f g question next = search (arith, eqb_tells, all_same, itself, ne_eqb)

-- what was begun, and whether the start answers the same
pub runs_match : {B : Type 0} (old : Matcher) (tree : Asking B) (result : B) (new : Matcher) → Runs matched old tree result new
    → IsBegun old.lane old.start.now old.notes.now old.machine.now tree old.same result new.same
runs_match old (Ready begun) result new r = search (arith, and-true)
runs_match old (Question question next) result new r =
    let f = answer_of old.lane old.machine.now in
    let g = guessed old in
    let mid : Matcher = record old { same = old.same && nat_eq (g question) (f question) } in
    let e_mid : r.1 ≡ mid = r.2.1 ∙ ap (λ (y : ℕ). record old { same = old.same && nat_eq (g question) y }) r.2.0 in
    let here : Runs matched mid (next r.0) result new = subst (λ (k : Matcher). Runs matched k (next r.0) result new) e_mid r.3 in
    let there : Runs matched mid (next (f question)) result new = subst (λ (y : ℕ). Runs matched mid (next y) result new) r.2.0 here in
    let rest = runs_match mid (next (f question)) result new there in
    record { begun = rest.begun; same = rest.same ∙ still_same old.same f g question next }
