-- The stretches between the states that are kept, from behind.
use Rattle.reverse_debug.proofs.Shared.{AreOf, Bool, IsIn, IsNearest, None, Option, Path, Setting, Snapshots, Some, Spends, State, Tally, all_kept, ap, arith, before_nth, cases_Bool, cases_lt, cond, false, happens, inl, inr, last_cycle, mod-lt, nat_le, nat_lt, nat_tests, or_zero, refl, restored, search_cost, state_at, states, subst, suc, sym, true, zero, ℕ, ◌%◌, ◌*◌, ◌+◌, ◌-◌, ◌<◌, ◌==◌, ◌||◌, ◌∙◌, ◌≡◌, ◌≤◌, ◌⊎◌}
use Rattle.reverse_debug.specs.Command.{Watched}
use Rattle.reverse_debug.specs.Search.{noted, tally}
use Rattle.reverse_debug.proofs.Paths.{joined, last_within, path_to_last}
use Rattle.reverse_debug.proofs.Rings.{restored_cycle, within_of, begun_within, low_within}
use Rattle.reverse_debug.proofs.Tallies.{tally_none, tally_one, few_of}

-- ---- a run up to a state on the way, and from there on

some_is : {x y : ℕ} → Some x ≡ Some y → x ≡ y
some_is e = ap or_zero e

happens_on : (w : Setting) (f m : State) (watched : Watched) (n : ℕ) → m ≡ states w f m.cycle → happens w f watched (m.cycle + n) ≡ happens w m watched n
unfolding happens
happens_on w f m watched n is =
    let there : states w f (m.cycle + n) ≡ states w m n = joined w f m.cycle n (m.cycle + n) refl ∙ ap (λ (x : State). states w x n) (sym is) in
    rw there refl

before_one : (w : Setting) (f : State) (watched : Watched) (k cycle : ℕ) (was : Bool) → happens w f watched cycle ≡ was → before_nth w f watched (suc k) (suc cycle) ≡ before_nth w f watched (cond was k (suc k)) cycle
unfolding before_nth
before_one w f watched k cycle was is = ap (λ b. before_nth w f watched (cond b k (suc k)) cycle) is

before_here : (w : Setting) (f : State) (watched : Watched) (cycle : ℕ) → before_nth w f watched 0 cycle ≡ Some cycle
unfolding before_nth
before_here w f watched cycle = refl

-- the stretch has fewer times than are asked for: the others are below it
pub passed_over : (w : Setting) (f m : State) (watched : Watched) (most n left : ℕ) → m ≡ states w f m.cycle → (tally w m watched most n).count < left →
    before_nth w f watched left (m.cycle + n) ≡ before_nth w f watched (left - (tally w m watched most n).count) m.cycle
passed_over w f m watched most n zero is lt = absurd (omega arith)
passed_over w f m watched most zero (suc k) is lt =
    let e : m.cycle + 0 ≡ m.cycle = omega arith in
    let none : (tally w m watched most 0).count ≡ 0 = ap (λ (t : Tally). t.count) (tally_none w m watched most) in
    let left : suc k ≡ suc k - (tally w m watched most 0).count = omega arith in
    ap (before_nth w f watched (suc k)) e ∙ ap (λ j. before_nth w f watched j m.cycle) left
passed_over w f m watched most (suc n) (suc k) is lt =
    let e : m.cycle + suc n ≡ suc (m.cycle + n) = omega arith in
    elim (cases_Bool (happens w m watched n)) [
      | inl was ↦
          let one : (tally w m watched most (suc n)).count ≡ (tally w m watched most n).count + 1 = ap (λ (t : Tally). t.count) (tally_one w m watched most n true was) in
          let left : k - (tally w m watched most n).count ≡ suc k - (tally w m watched most (suc n)).count = omega arith in
          ap (before_nth w f watched (suc k)) e ∙ before_one w f watched k (m.cycle + n) true (happens_on w f m watched n is ∙ was)
          ∙ passed_over w f m watched most n k is (omega arith) ∙ ap (λ j. before_nth w f watched j m.cycle) left
      | inr none ↦
          let same : (tally w m watched most (suc n)).count ≡ (tally w m watched most n).count = ap (λ (t : Tally). t.count) (tally_one w m watched most n false none) in
          ap (before_nth w f watched (suc k)) e ∙ before_one w f watched k (m.cycle + n) false (happens_on w f m watched n is ∙ none)
          ∙ passed_over w f m watched most n (suc k) is (omega arith) ∙ ap (λ j. before_nth w f watched (suc k - j) m.cycle) (sym same)
    ]

-- as many of a count are remembered as lie up to the one that is left-th from behind
abbrev pub Remembers : ℕ → ℕ → ℕ → Type 0
Remembers left most count = (most + left ≡ count + 1) ⊎ ((left ≡ 1) × (count ≤ most))

last_noted : (most cycle : ℕ) (t : Tally) (last : Bool) → nat_lt t.count most ≡ last → (noted most true cycle t).last ≡ cond last (Some cycle) t.last
last_noted most cycle t last is = rw is refl

-- the stretch has as many: the last one that is remembered is the one that is asked for
pub found_on : (w : Setting) (f m : State) (watched : Watched) (most n left : ℕ) → m ≡ states w f m.cycle → 0 < left → left ≤ (tally w m watched most n).count → Remembers left most (tally w m watched most n).count →
    before_nth w f watched left (m.cycle + n) ≡ (tally w m watched most n).last
found_on w f m watched most n zero is some le fits = absurd (omega arith)
found_on w f m watched most zero (suc k) is some le fits =
    absurd (let none : (tally w m watched most 0).count ≡ 0 = ap (λ (t : Tally). t.count) (tally_none w m watched most) in omega arith)
found_on w f m watched most (suc n) (suc k) is some le fits =
    let e : m.cycle + suc n ≡ suc (m.cycle + n) = omega arith in
    elim (cases_Bool (happens w m watched n)) [
      | inl was ↦
          let t = tally_one w m watched most n true was in
          let one : (tally w m watched most (suc n)).count ≡ (tally w m watched most n).count + 1 = ap (λ (x : Tally). x.count) t in
          let fit : Remembers (suc k) most ((tally w m watched most n).count + 1) = subst (Remembers (suc k) most) one fits in
          let noted_so = λ (last : Bool) (h : nat_lt (tally w m watched most n).count most ≡ last). ap (λ (x : Tally). x.last) t ∙ last_noted most (m.cycle + n) (tally w m watched most n) last h in
          ap (before_nth w f watched (suc k)) e ∙ before_one w f watched k (m.cycle + n) true (happens_on w f m watched n is ∙ was)
          ∙ elim k as (λ j. suc j ≤ (tally w m watched most n).count + 1 → Remembers (suc j) most ((tally w m watched most n).count + 1) → before_nth w f watched j (m.cycle + n) ≡ (tally w m watched most (suc n)).last) [
            | zero ↦ λ le fit. before_here w f watched (m.cycle + n) ∙ sym (noted_so true (elim fit [ inl rest ↦ grind (arith, nat_tests, rest) | inr all ↦ grind (arith, nat_tests, all.1) ]))
            | suc j ↦ λ le fit.
                let rest : most + suc (suc j) ≡ (tally w m watched most n).count + 1 + 1 = elim fit [ inl rest ↦ rest | inr all ↦ absurd (omega (arith, all.0)) ] in
                found_on w f m watched most n (suc j) is (omega arith) (omega (arith, le)) (inl (omega (arith, rest))) ∙ sym (noted_so false (grind (arith, nat_tests, rest)))
          ] (omega (arith, le, one)) fit
      | inr none ↦
          let t = tally_one w m watched most n false none in
          let same : (tally w m watched most (suc n)).count ≡ (tally w m watched most n).count = ap (λ (x : Tally). x.count) t in
          ap (before_nth w f watched (suc k)) e ∙ before_one w f watched k (m.cycle + n) false (happens_on w f m watched n is ∙ none)
          ∙ found_on w f m watched most n (suc k) is some (omega (arith, le, same)) (subst (Remembers (suc k) most) same fits) ∙ sym (ap (λ (x : Tally). x.last) t)
    ]

-- how many are counted doesn't depend on how many are remembered
count_noted : (most other : ℕ) (was : Bool) (cycle : ℕ) (t u : Tally) → t.count ≡ u.count → (noted most was cycle t).count ≡ (noted other was cycle u).count
count_noted most other true cycle t u e = omega arith
count_noted most other false cycle t u e = e

pub count_same : (w : Setting) (m : State) (watched : Watched) (most other n : ℕ) → (tally w m watched most n).count ≡ (tally w m watched other n).count
unfolding tally
count_same w m watched most other zero = refl
count_same w m watched most other (suc n) =
    count_noted most other (happens w m watched n) (m.cycle + n) (tally w m watched most n) (tally w m watched other n) (count_same w m watched most other n)

-- ---- a kept state

-- s is the state of this cycle that is kept
pub record IsStart (w : Setting) (f : State) (start : ℕ) (s : State) : Type 0 where
  pub at : s.cycle ≡ start
  pub is : s ≡ states w f s.cycle

pub start_of : (w : Setting) (f : State) (ring near : Snapshots) (to end start : ℕ) (own s : State) → AreOf w f ring near to → IsNearest end (all_kept ring near) (Some start) → s ≡ restored (state_at start (all_kept ring near)) own → IsStart w f start s
start_of w f ring near to end start own s k g e =
    let at : s.cycle ≡ start = ap (λ (x : State). x.cycle) e ∙ restored_cycle start (all_kept ring near) own g.is_one in
    record { at = at; is = e ∙ k.kept start own g.is_one ∙ ap (states w f) (sym at) }

path_start : (w : Setting) (f s : State) (start : ℕ) → f.cycle ≡ 0 → IsStart w f start s → Path w f s
path_start w f s start begins k =
    let far : s.cycle ≡ s.cycle - f.cycle = omega arith in
    record { is = k.is ∙ ap (states w f) far; forward = omega arith }

-- ---- stretch after stretch

-- so many of a count of times are left below `end`, and no cycle was stepped twice
pub record Searching (w : Setting) (f : State) (watched : Watched) (count to left end before now : ℕ) : Type 0 where
  pub found : before_nth w f watched count to ≡ before_nth w f watched left end
  pub some : 0 < left
  pub few : left ≤ count
  pub within : end ≤ to
  pub forward : before ≤ now
  pub steps : now + end ≤ before + to

-- a stretch that is searched: it begins at the kept state that is the nearest one below its end
pub record Stretch (w : Setting) (f : State) (ring near : Snapshots) (to start end : ℕ) (s : State) : Type 0 where
  pub begins : IsStart w f start s
  pub some : start < end
  pub low : s.cycle ≤ w.limit
  pub ahead : s.cycle ≤ end
  pub reach : end ≤ last_cycle w s
  pub short : end ≤ start + ring.spacing
  pub close : (c : ℕ) → c < end → IsIn near c → c < start + near.spacing

pub stretch_of : (w : Setting) (f : State) (ring near : Snapshots) (watched : Watched) (count to left end start below before now : ℕ) (own s : State) → AreOf w f ring near to → to ≤ last_cycle w f → Searching w f watched count to left end before now → 0 < end → below ≡ end - 1 →
    IsNearest below (all_kept ring near) (Some start) → s ≡ restored (state_at start (all_kept ring near)) own → Stretch w f ring near to start end s
stretch_of w f ring near watched count to left end start below before now own s k le so_far some eb g e =
    let at = start_of w f ring near to below start own s k g e in
    let cycle : s.cycle ≡ start = at.at in
    let reached : start ≤ below = g.reached in
    let within : end ≤ to = so_far.within in
    let begins : f.cycle ≡ 0 = k.begins in
    let limit : last_cycle w f ≤ w.limit = last_within w f (omega arith) in
    let low : s.cycle ≤ w.limit = omega arith in
    let same : last_cycle w f ≡ last_cycle w s = ap (λ (x : State). x.cycle) (path_to_last w f s (path_start w f s start k.begins at) low) in
    let rest : below % ring.spacing < ring.spacing = mod-lt below k.some in
    let kept : below - below % ring.spacing ≤ start = g.greatest (below - below % ring.spacing) (k.every below (omega arith)) (omega arith) in
    record {
      begins = at;
      some = omega arith;
      low = low;
      ahead = omega arith;
      reach = omega arith;
      short = omega arith;
      close = λ c lt inside. (
          let left_over : (c - near.origin) % near.spacing < near.spacing = mod-lt (c - near.origin) k.closer in
          let place : c - (c - near.origin) % near.spacing ≤ start =
          g.greatest (c - (c - near.origin) % near.spacing) (k.close c (omega arith) inside) (omega arith)
          in
          omega arith
          );
    }

at_end : (w : Setting) (f : State) (ring near : Snapshots) (watched : Watched) (to start end left : ℕ) (s : State) → Stretch w f ring near to start end s → before_nth w f watched left end ≡ before_nth w f watched left (s.cycle + (end - s.cycle))
at_end w f ring near watched to start end left s k =
    let ahead : s.cycle ≤ end = k.ahead in
    let sum : end ≡ s.cycle + (end - s.cycle) = omega arith in
    ap (before_nth w f watched left) sum

-- none of the stretch is the one
pub searching_on : (w : Setting) (f : State) (ring near : Snapshots) (watched : Watched) (count to left end start most before now after : ℕ) (all : Tally) (s : State) → Searching w f watched count to left end before now → Stretch w f ring near to start end s →
    all ≡ tally w s watched most (end - s.cycle) → all.count < left → after + s.cycle ≡ now + end → Searching w f watched count to (left - all.count) start before after
searching_on w f ring near watched count to left end start most before now after all s so_far k is lt counted =
    let at : s.cycle ≡ start = k.begins.at in
    let some : start < end = k.some in
    let within : end ≤ to = so_far.within in
    let few : left ≤ count = so_far.few in
    let forward : before ≤ now = so_far.forward in
    let steps : now + end ≤ before + to = so_far.steps in
    let same : all.count ≡ (tally w s watched most (end - s.cycle)).count = ap (λ (x : Tally). x.count) is in
    record {
      found =
          so_far.found ∙ at_end w f ring near watched to start end left s k
          ∙ passed_over w f s watched most (end - s.cycle) left k.begins.is (omega arith)
          ∙ ap (λ j. before_nth w f watched (left - j) s.cycle) (sym same) ∙ ap (before_nth w f watched (left - all.count)) at;
      some = omega arith;
      few = omega arith;
      within = omega arith;
      forward = omega arith;
      steps = omega arith;
    }

-- the stretch has it
pub found_there : (w : Setting) (f : State) (ring near : Snapshots) (watched : Watched) (count to left end start most before now : ℕ) (all : Tally) (s : State) → Searching w f watched count to left end before now → Stretch w f ring near to start end s →
    all ≡ tally w s watched most (end - s.cycle) → left ≤ all.count → Remembers left most all.count → all.last ≡ before_nth w f watched count to
found_there w f ring near watched count to left end start most before now all s so_far k is le fits =
    let same : all.count ≡ (tally w s watched most (end - s.cycle)).count = ap (λ (x : Tally). x.count) is in
    ap (λ (x : Tally). x.last) is
    ∙ sym (found_on w f s watched most (end - s.cycle) left k.begins.is so_far.some (omega arith) (subst (Remembers left most) same fits))
    ∙ sym (at_end w f ring near watched to start end left s k) ∙ sym so_far.found

-- ---- steps

-- what is found is below the end of what is searched
pub before_within : (w : Setting) (f : State) (watched : Watched) (left cycle found : ℕ) → Some found ≡ before_nth w f watched left cycle → found ≤ cycle
unfolding before_nth
before_within w f watched zero cycle found e = let same : found ≡ cycle = some_is e in omega arith
before_within w f watched (suc k) zero found e = absurd (cc)
before_within w f watched (suc k) (suc cycle) found e =
    let low = before_within w f watched (cond (happens w f watched cycle) k (suc k)) cycle found e in omega (arith, low)

before_low : (w : Setting) (f : State) (watched : Watched) (left cycle : ℕ) (found : Option ℕ) → 0 < left → 0 < cycle → found ≡ before_nth w f watched left cycle → or_zero found < cycle
unfolding before_nth
before_low w f watched left cycle None some more e = more
before_low w f watched zero cycle (Some x) some more e = absurd (omega arith)
before_low w f watched (suc k) zero (Some x) some more e = absurd (omega arith)
before_low w f watched (suc k) (suc cycle) (Some x) some more e =
    let low = before_within w f watched (cond (happens w f watched cycle) k (suc k)) cycle x e in omega (arith, low)

is_searched : (count to : ℕ) → 0 < count → 0 < to → (count == 0 || to == 0) ≡ false
is_searched count to some more =
    let one : (count == 0) ≡ false = grind (arith, nat_tests) in let other : (to == 0) ≡ false = grind (arith, nat_tests) in rw one (rw other refl)

near_by : (count to spacing before after : ℕ) (found : Option ℕ) → 0 < count → 0 < to → after + or_zero found < before + to + spacing → after ≤ before + search_cost spacing count to found
near_by count to spacing before after found some more lt = let is = is_searched count to some more in elim (cases_lt 1 count) [
  | inl many ↦ let no : nat_le count 1 ≡ false = grind (arith, nat_tests) in rw is (rw no (omega (arith, lt)))
  | inr le ↦ let yes : nat_le count 1 ≡ true = grind (arith, nat_tests) in rw is (rw yes (omega (arith, lt)))
]

near_twice : (count to spacing before after : ℕ) (found : Option ℕ) → 1 < count → 0 < to → after + or_zero found < before + to + 2 * spacing → after ≤ before + search_cost spacing count to found
near_twice count to spacing before after found many more lt =
    let is = is_searched count to (omega arith) more in
    let no : nat_le count 1 ≡ false = grind (arith, nat_tests) in rw is (rw no (omega (arith, lt)))

-- one pass over the stretch: what is found is nearer to its start than a spacing
pub spent_once : (w : Setting) (f : State) (ring near : Snapshots) (watched : Watched) (count to left end start before now after : ℕ) (s : State) (found : Option ℕ) → Searching w f watched count to left end before now → Stretch w f ring near to start end s →
    found ≡ before_nth w f watched count to → after + s.cycle ≡ now + end → Spends ring near count to before after found
spent_once w f ring near watched count to left end start before now after s found so_far k is counted =
    let begins : start < end = k.some in
    let low : or_zero found < end = before_low w f watched left end found so_far.some (omega arith) (is ∙ so_far.found) in
    let at : s.cycle ≡ start = k.begins.at in
    let short : end ≤ start + ring.spacing = k.short in
    let few : left ≤ count = so_far.few in
    let some : 0 < left = so_far.some in
    let within : end ≤ to = so_far.within in
    let forward : before ≤ now = so_far.forward in
    let by : (d : ℕ) → or_zero found < start + d → after ≤ before + search_cost d count to found = λ d lt.
    near_by count to d before after found (omega arith) (omega arith) (omega (arith, so_far.steps)) in
    record { forward = omega arith; steps = by ring.spacing (omega arith); close = λ h. by near.spacing (k.close (or_zero found) low h.ends) }

-- two passes, where it is not the last time
pub spent_twice : (w : Setting) (f : State) (ring near : Snapshots) (watched : Watched) (count to left end start before now mid after : ℕ) (s u : State) (found : Option ℕ) → 1 < left → Searching w f watched count to left end before now → Stretch w f ring near to start end s →
    Stretch w f ring near to start end u → found ≡ before_nth w f watched count to → mid + s.cycle ≡ now + end → after + u.cycle ≡ mid + end → Spends ring near count to before after found
spent_twice w f ring near watched count to left end start before now mid after s u found more so_far k j is first second =
    let begins : start < end = k.some in
    let low : or_zero found < end = before_low w f watched left end found so_far.some (omega arith) (is ∙ so_far.found) in
    let at : s.cycle ≡ start = k.begins.at in
    let too : u.cycle ≡ start = j.begins.at in
    let short : end ≤ start + ring.spacing = k.short in
    let few : left ≤ count = so_far.few in
    let within : end ≤ to = so_far.within in
    let forward : before ≤ now = so_far.forward in
    let by : (d : ℕ) → or_zero found < start + d → end ≤ start + d → after ≤ before + search_cost d count to found = λ d lt fits.
    near_twice count to d before after found (omega arith) (omega arith) (omega (arith, so_far.steps)) in
    record {
      forward = omega arith;
      steps = by ring.spacing (omega arith) short;
      close = λ h. (
          let begun : near.origin ≤ or_zero found = begun_within near (or_zero found) h.ends in
          let below : to - near.origin < 64 * near.spacing = low_within near to (h.begins (omega arith)) in
          let last : end - 1 < start + near.spacing = k.close (end - 1) (omega arith) (within_of near (end - 1) (omega arith) (omega arith)) in
          by near.spacing (k.close (or_zero found) low h.ends) (omega arith)
          );
    }

none_left : (w : Setting) (f : State) (watched : Watched) (left : ℕ) → 0 < left → None ≡ before_nth w f watched left 0
unfolding before_nth
none_left w f watched zero some = absurd (omega arith)
none_left w f watched (suc k) some = refl

pub searched : (w : Setting) (f : State) (watched : Watched) (count to left end before now : ℕ) → Searching w f watched count to left end before now → end ≤ 0 → None ≡ before_nth w f watched count to
searched w f watched count to left end before now k le =
    let e : end ≡ 0 = omega arith in
    none_left w f watched left k.some ∙ ap (before_nth w f watched left) (sym e) ∙ sym k.found

pub zero_th : (w : Setting) (f : State) (watched : Watched) (count to : ℕ) → count ≡ 0 → Some to ≡ before_nth w f watched count to
zero_th w f watched count to e = sym (ap (λ n. before_nth w f watched n to) e ∙ before_here w f watched to)

-- ---- how many are remembered

pub remembers_all : (w : Setting) (f : State) (ring near : Snapshots) (watched : Watched) (to left end start most : ℕ) (all : Tally) (s : State) → Stretch w f ring near to start end s → all ≡ tally w s watched most (end - s.cycle) → left ≡ 1 → end ≤ most → Remembers left most all.count
remembers_all w f ring near watched to left end start most all s k is one le =
    let few = few_of w s watched most (end - s.cycle) in
    let same : all.count ≡ (tally w s watched most (end - s.cycle)).count = ap (λ (x : Tally). x.count) is in
    inr (one, omega (arith, few))

-- the same stretch once more, up to the one that is asked for
pub found_again : (w : Setting) (f : State) (ring near : Snapshots) (watched : Watched) (count to left end start most before now : ℕ) (all again : Tally) (s u : State) → Searching w f watched count to left end before now → Stretch w f ring near to start end s →
    Stretch w f ring near to start end u → all ≡ tally w s watched most (end - s.cycle) → left ≤ all.count → again ≡ tally w u watched (all.count - left + 1) (end - u.cycle) → again.last ≡ before_nth w f watched count to
found_again w f ring near watched count to left end start most before now all again s u so_far k j is le isagain =
    let same_cycle : u.cycle ≡ s.cycle = j.begins.at ∙ sym k.begins.at in
    let same : u ≡ s = j.begins.is ∙ ap (states w f) same_cycle ∙ sym k.begins.is in
    let counts : again.count ≡ all.count =
    ap (λ (x : Tally). x.count) isagain ∙ ap (λ (x : State). (tally w x watched (all.count - left + 1) (end - x.cycle)).count) same
    ∙ count_same w s watched (all.count - left + 1) most (end - s.cycle) ∙ sym (ap (λ (x : Tally). x.count) is)
    in
    found_there w f ring near watched count to left end start (all.count - left + 1) before now again u so_far j isagain (omega arith)
    (subst (Remembers left (all.count - left + 1)) (sym counts) (inl (omega (arith, so_far.some))))
