-- What is watched, while core 0 is at work by itself.
use Rattle.reverse_debug.proofs.Shared.{Bool, Option, State, add-one, ap, arith, begins, cases_lt, ends_by, false, if◌then◌else◌, inl, inr, is_begun, not, refl, seen, sought, subst, sym, true, ℕ, ◌+◌, ◌<◌, ◌==◌, ◌∙◌, ◌≡◌, ◌≤◌}
use Rattle.rp_machine.specs.Inward.{inward_next, inward_after, StaysInward}
use Rattle.reverse_debug.specs.declared.watch.Watched.{Watched}
use Rattle.reverse_debug.specs.declared.watch.Watched.TheVariants as watched
use Rattle.reverse_debug.specs.declared.sight.Sight.{Sight}
use Rattle.reverse_debug.specs.declared.sight.Sight.TheVariants.{Word, Begun}
use Rattle.reverse_debug.specs.Sight.{stops_at}

-- ---- it stops where a move forward ends

flag : (b : Bool) → b ≡ ((if b then 1 else 0) == 1)
flag true = refl
flag false = refl

by_core : (first : Bool) (address : Option ℕ) (s : State) → stops_at (Begun (not first) address) s ≡ ((if is_begun address (if first then begins s.core0 else begins s.core1) then 1 else 0) == 1)
by_core true address s = flag (is_begun address (begins s.core0))
by_core false address s = flag (is_begun address (begins s.core1))

pub word_unended : (what : Watched) (address before : ℕ) (s : State) → what ≡ watched.Word address → stops_at (Word address before) s ≡ false → ends_by (sought what) before (seen (sought what) s) ≡ false
word_unended what address before s e none = subst (λ (x : Watched). ends_by (sought x) before (seen (sought x) s) ≡ false) (sym e) none

pub begun_unended : (what : Watched) (core before : ℕ) (address : Option ℕ) (s : State) → what ≡ watched.Begun core address → stops_at (Begun (not (core == 0)) address) s ≡ false → ends_by (sought what) before (seen (sought what) s) ≡ false
begun_unended what core before address s e none = subst (λ (x : Watched). ends_by (sought x) before (seen (sought x) s) ≡ false) (sym e) (sym (by_core (core == 0) address s) ∙ none)

-- ---- core 0 goes on cycle by cycle

-- it has gone on alone for so many cycles, at most so many, and nothing has stopped it behind one of them, but maybe behind the last one
pub record Gone (sight : Sight) (s t : State) (most done before now : ℕ) : Type 0 where
  pub within : done ≤ most
  pub state : t ≡ inward_after done s
  pub inward : StaysInward s done
  pub none : (k : ℕ) → k + 1 < done → stops_at sight (inward_after (k + 1) s) ≡ false
  pub counted : now ≡ before + done
  pub cycle : t.cycle ≡ s.cycle + done

-- nor behind that one
pub record Unstopped (sight : Sight) (s t : State) (most done before now : ℕ) : Type 0 where
  pub gone : Gone sight s t most done before now
  pub last : 0 < done → stops_at sight t ≡ false

pub unstopped_here : (sight : Sight) (s : State) (most steps : ℕ) → Unstopped sight s s most 0 steps steps
unfolding inward_after
unstopped_here sight s most steps = record {
  gone = record { within = omega arith; state = refl; inward = λ k lt. absurd (omega arith); none = λ k lt. absurd (omega arith); counted = omega arith; cycle = omega arith };
  last = λ lt. absurd (omega arith);
}

after_one : (s t u : State) (done : ℕ) → t ≡ inward_after done s → u ≡ inward_after 1 t → u ≡ inward_after (done + 1) s
unfolding inward_after
after_one s t u done h e = rw (add-one done) (e ∙ ap (λ (x : State). inward_after 1 x) h)

cycle_one : (t u : State) → u ≡ inward_after 1 t → u.cycle ≡ t.cycle + 1
unfolding inward_after inward_next
cycle_one t u e = ap (λ (x : State). x.cycle) e

inward_one : (s t : State) (done : ℕ) → t ≡ inward_after done s → StaysInward s done → StaysInward t 1 → StaysInward s (done + 1)
unfolding inward_after
inward_one s t done h so_far one k lt = elim (cases_lt k done) [
  | inl below ↦ so_far k below
  | inr le ↦
      let same : k ≡ done = omega arith in
      let last = one 0 (omega arith) in
      rw (same, ← h) last
]

-- one cycle more
pub one_more : (sight : Sight) (s t u : State) (most done r before now after : ℕ) → Unstopped sight s t most done before now → done < most → r ≡ 1
    → u ≡ inward_after r t → StaysInward t r → after ≡ now + r → Gone sight s u most (done + 1) before after
one_more sight s t u most done r before now after h lt one state inward count =
    let state1 : u ≡ inward_after 1 t = subst (λ n. u ≡ inward_after n t) one state in
    let cycle : u.cycle ≡ t.cycle + 1 = cycle_one t u state1 in
    let here : t.cycle ≡ s.cycle + done = h.gone.cycle in
    let counted : now ≡ before + done = h.gone.counted in
    record {
      within = omega arith;
      state = after_one s t u done h.gone.state state1;
      inward = inward_one s t done h.gone.state h.gone.inward (subst (StaysInward t) one inward);
      none = λ k lt. elim (cases_lt (k + 1) done) as (λ _. stops_at sight (inward_after (k + 1) s) ≡ false) [
        | inl below ↦ h.gone.none k below
        | inr le ↦ let same : k + 1 ≡ done = omega arith in ap (λ n. stops_at sight (inward_after n s)) same ∙ ap (stops_at sight) (sym h.gone.state) ∙ h.last (omega arith)
      ];
      counted = omega arith;
      cycle = omega arith;
    }

-- where it reaches for more than SRAM, nothing has changed
pub nothing_more : (s t u : State) (done r : ℕ) → t ≡ inward_after done s → r ≡ 0 → u ≡ inward_after r t → u ≡ inward_after done s
unfolding inward_after
nothing_more s t u done r h none state = subst (λ n. u ≡ inward_after n t) none state ∙ h
