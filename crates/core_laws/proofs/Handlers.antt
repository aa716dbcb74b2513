-- An entry takes its beats, and so does a return.
use Rattle.std.proofs.Common.{◌≡◌, ℕ, ◌+◌, ◌-◌, ◌*◌, ◌%◌, ◌^◌, ◌<◌, ◌==◌, ◌&&◌, Bool, true, false, cond, List, [], ◌∷◌, ◌++◌, length, refl, sym, ap, ap₂, subst, ◌∙◌, inl, inr, arith, lt-ltb, le-ltb}
use Rattle.core_laws.proofs.Shared.{Option, Some, None, map, nat_lt, slice_index, take, bit_or, ltb-true, ne_eqb, take_more, take_all, length-take-le, Regs, Beat, Inner, access, Exceptions, numbers_from, is_number, minus, entered, left, pended, after_cycles, Word, Want, answered, Work, vector_address, stacking, entry_beat, with_entry, entry_ended, taken_first, return_frame, unstacking, return_beat, is_bad, is_misfit, with_return, after_return, return_ended, is_locked, stopped, asks_awake, asks_next, asks_boundary, asks_taken, asks_return, asks_fault, asks_beat, in_beat, with_value, waiting, followed, with_read, passed, passed_entry, passed_return, closed, State, Given, lines_in, Served, after_served, after_all_served, left_of, lines_of, Stays, Takes, HasRoom, AnEntryTakesItsBeats, BeginsReturn, HasFrame, after_leaving, AReturnTakesItsBeats, cases_eq, cases_lt, and-false, cond_both}
use Rattle.rp_base.specs.declared.Size.TheVariants as sizes
use Rattle.m0_nvic.specs.Cycle as nvic
use Rattle.m0_core.specs.declared.doing.Work.TheVariants as works
use Rattle.core_laws.specs.Handlers.{IsBetween}
use Rattle.rp_base.specs.declared.Why.TheVariants as why
use Rattle.core_laws.proofs.Cycles.{BeginsBeat}
use Rattle.core_laws.proofs.Taken.{keeps_cycle}
use Rattle.core_laws.proofs.Walk.{IsInRam, value_in, serves_walk, closed_nvic, after_last, Plan, AllGiven, walk, counted}

-- ---- numbers

after_zero : (k : ℕ) → 0 < k → (k == 0) ≡ false
after_zero k h = ne_eqb k 0 (λ e. absurd (omega (arith, e, h)))

vtor_entered : (n : ℕ) (e : Exceptions) → (entered n e).vtor ≡ e.vtor
vtor_entered n e = cond_both (is_number n) (record e { pending = minus e.pending (2 ^ n); active = bit_or e.active (2 ^ n) }) e (λ f. f.vtor ≡ e.vtor) (λ h. refl) (λ h. refl)

after_last_none : (cycle : ℕ) (lines : List ℕ) (e : Exceptions) → after_last (λ x. x) cycle lines e ≡ after_cycles cycle lines e
after_last_none cycle [] e = refl
after_last_none cycle (l ∷ []) e = refl
after_last_none cycle (l ∷ m ∷ more) e = after_last_none (cycle + 1) (m ∷ more) (nvic.after_cycle l cycle e)

after_last_left : (n cycle : ℕ) (lines : List ℕ) (e : Exceptions) → after_last (left n) cycle lines e ≡ after_leaving n cycle lines e
after_last_left n cycle [] e = refl
after_last_left n cycle (l ∷ []) e = refl
after_last_left n cycle (l ∷ m ∷ more) e = after_last_left n (cycle + 1) (m ∷ more) (nvic.after_cycle l cycle e)

-- ---- entry: beats

abbrev entry_by : ℕ → ℕ → Regs → ℕ → Beat
entry_by n k r vtor =
    cond (k == 0) Inner (cond (nat_lt k 9) (stacking (k - 1) r) (cond (k == 9) (access ((vtor + 4 * n) % 2 ^ 32) sizes.Word None) Inner))

entry_is : (n : ℕ) (u : State) → entry_beat n u ≡ entry_by n u.beats_done u.regs u.nvic.vtor
unfolding entry_beat
entry_is n u = refl

abbrev entry_at : ℕ → State → ℕ → Beat
entry_at n s k = entry_beat n (record s { beats_done = k })

-- what was read before the beat at an index
abbrev vector_read : ℕ → ℕ → List ℕ
vector_read vector k = cond (nat_lt 9 k) (vector ∷ []) []

pub record EntryAt (n vector : ℕ) (s : State) (k : ℕ) (u : State) : Type 0 where
  pub awake : u.asleep ≡ false
  pub kept : u.regs ≡ s.regs
  pub doing : u.work ≡ Some (works.Entry n)
  pub so_far : u.beats_done ≡ k
  pub values : u.read ≡ cond (nat_lt 9 k) (vector ∷ []) []
  pub table : u.nvic.vtor ≡ s.nvic.vtor
  pub started : 0 < k

entry_same : (n vector : ℕ) (s : State) (k : ℕ) (u : State) → EntryAt n vector s k u → entry_beat n u ≡ entry_at n s k
entry_same n vector s k u p =
    entry_is n u
    ∙ ap (λ (i : ℕ). entry_by n i u.regs u.nvic.vtor) p.so_far
    ∙ ap₂ (λ (r : Regs) (v : ℕ). entry_by n k r v) p.kept p.table
    ∙ sym (entry_is n (record s { beats_done = k }))

entry_begins : (n vector : ℕ) (s : State) (g : Given) (k : ℕ) (u : State) → EntryAt n vector s k u → BeginsBeat (works.Entry n) (entry_at n s k) g u
unfolding asks_awake asks_beat
entry_begins n vector s g k u p =
    ap (λ w. answered g.answers (asks_next w u)) p.doing
    ∙ ap (λ b. answered g.answers (in_beat (works.Entry n) u b)) (entry_same n vector s k u p)

ram_by : (a b c : Bool) (one two : Beat) → (b ≡ true → IsInRam one) → (c ≡ true → IsInRam two) → IsInRam (cond a Inner (cond b one (cond c two Inner)))
ram_by true b c one two h i = tt
ram_by false true c one two h i = h refl
ram_by false false true one two h i = i refl
ram_by false false false one two h i = tt

entry_in_ram : (n vector : ℕ) (xs : List Served) (s : State) → HasRoom n vector xs s → (k : ℕ) → k < 15 → IsInRam (entry_at n s k)
unfolding entry_beat
entry_in_ram n vector xs s room k within =
    ram_by (k == 0) (nat_lt k 9) (k == 9) (stacking (k - 1) s.regs) (access (vector_address n s.nvic) sizes.Word None)
    (λ e. room.frame (k - 1) (omega (arith, ltb-true k 9 e))) (λ e. room.table)

abbrev HasVector : ℕ → ℕ → State → Given → Type 0
HasVector n vector s g = g.answers (Word (vector_address n s.nvic)) % 2 ^ 32 ≡ vector

entry_value_by : (n vector : ℕ) (s : State) (g : Given) → HasVector n vector s g → (a b c : Bool) (k : ℕ)
    → value_in (cond a Inner (cond b (stacking k s.regs) (cond c (access (vector_address n s.nvic) sizes.Word None) Inner))) g ≡ cond a None (cond b None (cond c (Some vector) None))
entry_value_by n vector s g h true b c k = refl
entry_value_by n vector s g h false true c k = refl
entry_value_by n vector s g h false false true k = ap Some h
entry_value_by n vector s g h false false false k = refl

entry_value : (n vector : ℕ) (s : State) (g : Given) → HasVector n vector s g → (k : ℕ)
    → value_in (entry_at n s k) g ≡ cond (k == 0) None (cond (nat_lt k 9) None (cond (k == 9) (Some vector) None))
unfolding entry_beat
entry_value n vector s g h k = entry_value_by n vector s g h (k == 0) (nat_lt k 9) (k == 9) (k - 1)

abbrev value_at_beat : ℕ → ℕ → Option ℕ
value_at_beat vector k = cond (k == 0) None (cond (nat_lt k 9) None (cond (k == 9) (Some vector) None))

read_on : (vector k : ℕ) → 0 < k → with_value (vector_read vector k) (value_at_beat vector k) ≡ vector_read vector (k + 1)
read_on vector k some = elim (cases_lt k 9) [
  | inl low ↦ ap₂ (λ a b. with_value (cond a (vector ∷ []) []) (cond b None (cond (nat_lt k 9) None (cond (k == 9) (Some vector) None)))) (le-ltb 9 k (omega (arith, low))) (after_zero k some)
      ∙ ap (λ b. with_value [] (cond b None (cond (k == 9) (Some vector) None))) (lt-ltb k 9 low)
      ∙ sym (ap (λ a. cond a (vector ∷ []) []) (le-ltb 9 (k + 1) (omega (arith, low))))
  | inr high ↦ elim (cases_eq k 9) [
    | inl nine ↦ ap (λ (i : ℕ). with_value (vector_read vector i) (value_at_beat vector i)) nine ∙ sym (ap (λ (i : ℕ). vector_read vector (i + 1)) nine)
    | inr other ↦ ap₂ (λ a b. with_value (cond a (vector ∷ []) []) (cond (k == 0) None (cond b None (cond (k == 9) (Some vector) None)))) (lt-ltb 9 k (omega (arith, high, other))) (le-ltb k 9 high)
        ∙ ap₂ (λ a b. with_value (vector ∷ []) (cond a None (cond b (Some vector) None))) (after_zero k some) (ne_eqb k 9 other)
        ∙ sym (ap (λ a. cond a (vector ∷ []) []) (lt-ltb 9 (k + 1) (omega (arith, high))))
  ]
]

-- ---- entry: what a beat leaves

taken_skips : (n : ℕ) (t : State) → (t.beats_done == 0) ≡ false → taken_first n t ≡ t
unfolding taken_first
taken_skips n t e = ap (λ b. cond b (record t { nvic = entered n t.nvic }) t) e

entry_passes : (n : ℕ) (v : Option ℕ) (u : State) → (u.beats_done == 0) ≡ false
    → passed (works.Entry n) v u ≡ cond (nat_lt (u.beats_done + 1) 15) (followed (works.Entry n) (with_read v u)) (entry_ended n (with_read v u))
unfolding passed passed_entry
entry_passes n v u e =
    ap (λ (t : State). cond (nat_lt (t.beats_done + 1) 15) (followed (works.Entry n) t) (entry_ended n t)) (taken_skips n (with_read v u) e)

entry_goes_on : (n vector : ℕ) (s : State) (g : Given) (k : ℕ) (u : State) → EntryAt n vector s k u → k + 1 < 15
    → passed (works.Entry n) (value_in (entry_at n s k) g) u ≡ followed (works.Entry n) (with_read (value_in (entry_at n s k) g) u)
entry_goes_on n vector s g k u p more =
    let v = value_in (entry_at n s k) g in
    entry_passes n v u (ap (λ (i : ℕ). i == 0) p.so_far ∙ after_zero k p.started)
    ∙ ap (λ b. cond b (followed (works.Entry n) (with_read v u)) (entry_ended n (with_read v u))) (lt-ltb (u.beats_done + 1) 15 (omega (arith, p.so_far, more)))

entry_ends : (n vector : ℕ) (s : State) (g : Given) (k : ℕ) (u : State) → EntryAt n vector s k u → k + 1 ≡ 15
    → passed (works.Entry n) (value_in (entry_at n s k) g) u ≡ entry_ended n (with_read (value_in (entry_at n s k) g) u)
entry_ends n vector s g k u p none =
    let v = value_in (entry_at n s k) g in
    entry_passes n v u (ap (λ (i : ℕ). i == 0) p.so_far ∙ after_zero k p.started)
    ∙ ap (λ b. cond b (followed (works.Entry n) (with_read v u)) (entry_ended n (with_read v u))) (le-ltb (u.beats_done + 1) 15 (omega (arith, p.so_far, none)))

entry_values : (n vector : ℕ) (s : State) (g : Given) (k : ℕ) (u : State) → HasVector n vector s g → EntryAt n vector s k u
    → with_value u.read (value_in (entry_at n s k) g) ≡ vector_read vector (k + 1)
entry_values n vector s g k u h p =
    ap₂ with_value p.values (entry_value n vector s g h k) ∙ read_on vector k p.started

entry_followed : (n vector : ℕ) (s : State) (g : Given) (lines cycle k : ℕ) (u : State) → HasVector n vector s g → EntryAt n vector s k u
    → EntryAt n vector s (k + 1) (closed lines cycle (followed (works.Entry n) (with_read (value_in (entry_at n s k) g) u)))
unfolding closed
entry_followed n vector s g lines cycle k u h p = record {
  awake = p.awake;
  kept = p.kept;
  doing = refl;
  so_far = ap (λ (i : ℕ). i + 1) p.so_far;
  values = entry_values n vector s g k u h p;
  table = (keeps_cycle lines cycle u.nvic).vtor ∙ p.table;
  started = omega arith;
}

entry_waits : (n vector : ℕ) (s : State) (lines cycle k : ℕ) (u : State) → EntryAt n vector s k u → EntryAt n vector s k (closed lines cycle (waiting (works.Entry n) u))
unfolding closed
entry_waits n vector s lines cycle k u p = record {
  awake = p.awake;
  kept = p.kept;
  doing = refl;
  so_far = p.so_far;
  values = p.values;
  table = (keeps_cycle lines cycle u.nvic).vtor ∙ p.table;
  started = p.started;
}

pub record EntryOver (n vector : ℕ) (s t : State) : Type 0 where
  pub at_boundary : IsBetween t
  pub registers : t.regs ≡ with_entry n vector s.regs

entry_over : (n vector : ℕ) (s : State) (g : Given) (lines cycle k : ℕ) (u : State) → HasVector n vector s g → EntryAt n vector s k u → k + 1 ≡ 15
    → EntryOver n vector s (closed lines cycle (entry_ended n (with_read (value_in (entry_at n s k) g) u)))
unfolding closed entry_ended
entry_over n vector s g lines cycle k u h p none =
    let values : with_value u.read (value_in (entry_at n s k) g) ≡ vector ∷ [] = entry_values n vector s g k u h p ∙ ap (vector_read vector) none in
    record {
      at_boundary = record { awake = p.awake; between = refl; first = refl; fresh = refl; event = refl };
      registers = ap₂ (λ (xs : List ℕ) (r : Regs). with_entry n (slice_index xs 0) r) values p.kept;
    }

followed_nvic : (work : Work) (v : Option ℕ) (u : State) → (followed work (with_read v u)).nvic ≡ u.nvic
followed_nvic work v u = refl

entry_ended_nvic : (n : ℕ) (v : Option ℕ) (u : State) → (entry_ended n (with_read v u)).nvic ≡ u.nvic
unfolding entry_ended
entry_ended_nvic n v u = refl

entry_plan : (n vector : ℕ) (xs : List Served) (s : State) → HasRoom n vector xs s
    → Plan (works.Entry n) (entry_at n s) 15 (λ e. e) (HasVector n vector s) (EntryAt n vector s) (EntryOver n vector s)
entry_plan n vector xs s room = record {
  in_ram = entry_in_ram n vector xs s room;
  unpaused = λ u. refl;
  silent = refl;
  awake = λ k u p. p.awake;
  begins = λ g k u p. entry_begins n vector s g k u p;
  waits = λ lines cycle k u p. entry_waits n vector s lines cycle k u p;
  goes = λ g lines cycle k u h p more. subst (λ t. EntryAt n vector s (k + 1) (closed lines cycle t)) (sym (entry_goes_on n vector s g k u p more)) (entry_followed n vector s g lines cycle k u h p);
  keeps = λ g k u p more. ap (λ (t : State). t.nvic) (entry_goes_on n vector s g k u p more) ∙ followed_nvic (works.Entry n) (value_in (entry_at n s k) g) u;
  ends = λ g lines cycle k u h p none. subst (λ t. EntryOver n vector s (closed lines cycle t)) (sym (entry_ends n vector s g k u p none)) (entry_over n vector s g lines cycle k u h p none);
  leaves = λ g k u p none. ap (λ (t : State). t.nvic) (entry_ends n vector s g k u p none) ∙ entry_ended_nvic n (value_in (entry_at n s k) g) u;
}

-- ---- entry: the first beat, then all

entry_first : (n : ℕ) (g : Given) (s : State) → Takes n s → BeginsBeat (works.Entry n) Inner g s
unfolding asks_awake asks_boundary asks_beat
entry_first n g s at =
    ap (λ w. answered g.answers (asks_next w s)) at.between
    ∙ ap (λ t. answered g.answers (asks_taken t s)) at.taken
    ∙ ap (λ b. answered g.answers (in_beat (works.Entry n) s b)) (entry_is n s ∙ ap (λ (i : ℕ). entry_by n i s.regs s.nvic.vtor) at.first)

entry_passes_first : (n : ℕ) (s : State) → s.beats_done ≡ 0 → passed (works.Entry n) None s ≡ followed (works.Entry n) (record s { nvic = entered n s.nvic })
unfolding passed passed_entry taken_first
entry_passes_first n s e =
    ap (λ (i : ℕ). let t = cond (i == 0) (record s { nvic = entered n s.nvic }) s in cond (nat_lt (t.beats_done + 1) 15) (followed (works.Entry n) t) (entry_ended n t)) e
    ∙ ap (λ (i : ℕ). cond (nat_lt (i + 1) 15) (followed (works.Entry n) (record s { nvic = entered n s.nvic })) (entry_ended n (record s { nvic = entered n s.nvic }))) e

entry_second : (n vector : ℕ) (cycle : ℕ) (x : Served) (s : State) → Takes n s → after_served cycle x s ≡ closed (lines_in x.given) cycle (followed (works.Entry n) (record s { nvic = entered n s.nvic }))
entry_second n vector cycle x s at =
    (serves_walk (works.Entry n) Inner cycle x s refl at.awake tt (entry_first n x.given s at)).passes refl refl
    ∙ ap (closed (lines_in x.given) cycle) (entry_passes_first n s at.first)

entry_stands : (n vector lines cycle : ℕ) (s : State) → Takes n s → EntryAt n vector s 1 (closed lines cycle (followed (works.Entry n) (record s { nvic = entered n s.nvic })))
unfolding closed
entry_stands n vector lines cycle s at = record {
  awake = at.awake;
  kept = refl;
  doing = refl;
  so_far = ap (λ (i : ℕ). i + 1) at.first;
  values = at.fresh;
  table = (keeps_cycle lines cycle (entered n s.nvic)).vtor ∙ vtor_entered n s.nvic;
  started = omega arith;
}

all_vectors : (n vector : ℕ) (s : State) (xs : List Served) → Stays (vector_address n s.nvic) vector xs → AllGiven (HasVector n vector s) xs
all_vectors n vector s [] h = tt
all_vectors n vector s (x ∷ xs) h = (h.0, all_vectors n vector s xs h.1)

pub an_entry_takes_its_beats : AnEntryTakesItsBeats
unfolding entry_beat
an_entry_takes_its_beats n vector s cycle x xs at room =
    let u = after_served cycle x s in
    let path = entry_second n vector cycle x s at in
    let stands : EntryAt n vector s 1 u = subst (λ t. EntryAt n vector s 1 t) (sym path) (entry_stands n vector (lines_in x.given) cycle s at) in
    let nv : u.nvic ≡ nvic.after_cycle (lines_in x.given) cycle (entered n s.nvic) =
    ap (λ (t : State). t.nvic) path ∙ closed_nvic (lines_in x.given) cycle (followed (works.Entry n) (record s { nvic = entered n s.nvic })) in
    let all = walk (works.Entry n) (entry_at n s) 15 (λ e. e) (HasVector n vector s) (EntryAt n vector s) (EntryOver n vector s) (entry_plan n vector (x ∷ xs) s room)
    xs 1 13 (cycle + 1) u refl stands (all_vectors n vector s xs room.stays.1) in
    record {
      in_progress = λ b bs q.
          let m = all.mid b bs q in
          let p = m.0.1 in
          record { awake = p.awake; kept = p.kept; in_progress = p.doing; exceptions = m.1 ∙ ap (after_cycles (cycle + 1) (lines_of xs)) nv };
      over = λ q.
          let m = all.over q in
          record {
            at_boundary = m.0.at_boundary;
            registers = m.0.registers;
            exceptions = m.1 ∙ after_last_none (cycle + 1) (lines_of xs) u.nvic ∙ ap (after_cycles (cycle + 1) (lines_of xs)) nv;
          };
      wants = λ bs q. ap₂ (λ (w : Want) (ws : List Want). w ∷ ws) ((serves_walk (works.Entry n) Inner cycle x s refl at.awake tt (entry_first n x.given s at)).wants) (all.wants bs q);
      count = λ done long. subst (λ (k : ℕ). left_of (map (entry_at n s) (numbers_from 0 k)) (x ∷ xs) ≡ Some []) long (counted (entry_at n s) (x ∷ xs) 0 done);
    }

-- ---- return: beats

abbrev return_by : ℕ → ℕ → Regs → Beat
return_by value k r = cond (k == 0) Inner (cond (nat_lt k 9) (unstacking value (k - 1) r) Inner)

return_is : (value : ℕ) (u : State) → return_beat value u ≡ return_by value u.beats_done u.regs
unfolding return_beat
return_is value u = refl

abbrev return_at : ℕ → State → ℕ → Beat
return_at value s k = return_beat value (record s { beats_done = k })

-- before the beat at an index
pub record ReturnAt (value : ℕ) (words : List ℕ) (s : State) (k : ℕ) (u : State) : Type 0 where
  pub awake : u.asleep ≡ false
  pub kept : u.regs ≡ s.regs
  pub doing : u.work ≡ Some (works.Return value)
  pub so_far : u.beats_done ≡ k
  pub values : u.read ≡ take (k - 1) words
  pub started : 0 < k

return_same : (value : ℕ) (words : List ℕ) (s : State) (k : ℕ) (u : State) → ReturnAt value words s k u → return_beat value u ≡ return_at value s k
return_same value words s k u p =
    return_is value u
    ∙ ap₂ (λ (i : ℕ) (r : Regs). return_by value i r) p.so_far p.kept
    ∙ sym (return_is value (record s { beats_done = k }))

-- the exception number fits the mode, so that the last beat does not lock the core up
unlocked_last : (value : ℕ) (words : List ℕ) (k : ℕ) (locked : Bool) → length words ≡ 8 → is_misfit value (slice_index words 7) ≡ false
    → ((k == 12) && (is_misfit value (slice_index (take (k - 1) words) 7) && locked)) ≡ false
unlocked_last value words k locked eight fits = elim (cases_eq k 12) [
  | inl e ↦ ap (λ (i : ℕ). (i == 12) && (is_misfit value (slice_index (take (i - 1) words) 7) && locked)) e
      ∙ ap (λ (ws : List ℕ). is_misfit value (slice_index ws 7) && locked) (take_all 11 words (omega (arith, eight)))
      ∙ ap (λ b. b && locked) fits
  | inr e ↦ ap (λ b. b && (is_misfit value (slice_index (take (k - 1) words) 7) && locked)) (ne_eqb k 12 e)
]

return_begins : (value : ℕ) (words : List ℕ) (s : State) → length words ≡ 8 → is_misfit value (slice_index words 7) ≡ false
    → (g : Given) (k : ℕ) (u : State) → ReturnAt value words s k u → BeginsBeat (works.Return value) (return_at value s k) g u
unfolding asks_awake asks_return asks_beat
return_begins value words s eight fits g k u p =
    let later : (u.beats_done == 0) ≡ false = ap (λ (i : ℕ). i == 0) p.so_far ∙ after_zero k p.started in
    let free : ((u.beats_done == 12) && (is_misfit value (slice_index u.read 7) && is_locked u)) ≡ false =
    ap₂ (λ (i : ℕ) (xs : List ℕ). (i == 12) && (is_misfit value (slice_index xs 7) && is_locked u)) p.so_far p.values ∙ unlocked_last value words k (is_locked u) eight fits in
    ap (λ w. answered g.answers (asks_next w u)) p.doing
    ∙ ap (λ b. answered g.answers (cond (b && is_bad value u) (asks_fault u) (cond ((u.beats_done == 12) && (is_misfit value (slice_index u.read 7) && is_locked u)) (stopped (why.Lockup u.number)) (asks_beat (works.Return value) u)))) later
    ∙ ap (λ b. answered g.answers (cond b (stopped (why.Lockup u.number)) (asks_beat (works.Return value) u))) free
    ∙ ap (λ b. answered g.answers (in_beat (works.Return value) u b)) (return_same value words s k u p)

return_ram_by : (a b : Bool) (one : Beat) → (b ≡ true → IsInRam one) → IsInRam (cond a Inner (cond b one Inner))
return_ram_by true b one h = tt
return_ram_by false true one h = h refl
return_ram_by false false one h = tt

return_in_ram : (value : ℕ) (words : List ℕ) (xs : List Served) (s : State) → HasFrame value words xs s → (k : ℕ) → k < 13 → IsInRam (return_at value s k)
unfolding return_beat
return_in_ram value words xs s room k within =
    return_ram_by (k == 0) (nat_lt k 9) (unstacking value (k - 1) s.regs) (λ e. room.frame (k - 1) (omega (arith, ltb-true k 9 e)))

-- SRAM has the words of the frame
abbrev HasWords : ℕ → List ℕ → State → Given → Type 0
HasWords value words s g = (k : ℕ) → k < 8 → g.answers (Word ((return_frame value s.regs + 4 * k) % 2 ^ 32)) % 2 ^ 32 ≡ slice_index words k

return_value_by : (value : ℕ) (words : List ℕ) (s : State) (g : Given) (k : ℕ) (a b : Bool) → (b ≡ true → g.answers (Word ((return_frame value s.regs + 4 * k) % 2 ^ 32)) % 2 ^ 32 ≡ slice_index words k)
    → value_in (cond a Inner (cond b (unstacking value k s.regs) Inner)) g ≡ cond a None (cond b (Some (slice_index words k)) None)
return_value_by value words s g k true b h = refl
return_value_by value words s g k false true h = ap Some (h refl)
return_value_by value words s g k false false h = refl

return_value : (value : ℕ) (words : List ℕ) (s : State) (g : Given) → HasWords value words s g → (k : ℕ)
    → value_in (return_at value s k) g ≡ cond (k == 0) None (cond (nat_lt k 9) (Some (slice_index words (k - 1))) None)
unfolding return_beat
return_value value words s g h k =
    return_value_by value words s g (k - 1) (k == 0) (nat_lt k 9) (λ e. h (k - 1) (omega (arith, ltb-true k 9 e)))

words_on : (words : List ℕ) (k : ℕ) → length words ≡ 8 → 0 < k
    → with_value (take (k - 1) words) (cond (k == 0) None (cond (nat_lt k 9) (Some (slice_index words (k - 1))) None)) ≡ take (k + 1 - 1) words
words_on words k eight some = elim (cases_lt k 9) [
  | inl low ↦
      let j = k - 1 in
      let next : j + 1 ≡ k + 1 - 1 = omega arith in
      let short : length (take j words) < 16 = omega (arith, length-take-le j words (omega (arith, eight, low))) in
      ap₂ (λ a b. with_value (take j words) (cond a None (cond b (Some (slice_index words j)) None))) (after_zero k some) (lt-ltb k 9 low)
      ∙ ap (λ b. cond b (take j words ++ slice_index words j ∷ []) (take j words)) (lt-ltb (length (take j words)) 16 short)
      ∙ sym (take_more words j 0 (omega (arith, eight, low, some)))
      ∙ ap (λ (i : ℕ). take i words) next
  | inr high ↦
      ap₂ (λ a b. with_value (take (k - 1) words) (cond a None (cond b (Some (slice_index words (k - 1))) None))) (after_zero k some) (le-ltb k 9 high)
      ∙ take_all (k - 1) words (omega (arith, eight, high))
      ∙ sym (take_all (k + 1 - 1) words (omega (arith, eight, high)))
]

-- ---- return: what a beat leaves

return_passes : (value : ℕ) (v : Option ℕ) (u : State)
    → passed (works.Return value) v u ≡ cond (nat_lt (u.beats_done + 1) 13) (followed (works.Return value) (with_read v u)) (return_ended value (with_read v u))
unfolding passed passed_return
return_passes value v u = refl

return_goes_on : (value : ℕ) (words : List ℕ) (s : State) (g : Given) (k : ℕ) (u : State) → ReturnAt value words s k u → k + 1 < 13
    → passed (works.Return value) (value_in (return_at value s k) g) u ≡ followed (works.Return value) (with_read (value_in (return_at value s k) g) u)
return_goes_on value words s g k u p more =
    let v = value_in (return_at value s k) g in
    return_passes value v u
    ∙ ap (λ b. cond b (followed (works.Return value) (with_read v u)) (return_ended value (with_read v u))) (lt-ltb (u.beats_done + 1) 13 (omega (arith, p.so_far, more)))

return_ends : (value : ℕ) (words : List ℕ) (s : State) (g : Given) (k : ℕ) (u : State) → ReturnAt value words s k u → k + 1 ≡ 13
    → passed (works.Return value) (value_in (return_at value s k) g) u ≡ return_ended value (with_read (value_in (return_at value s k) g) u)
return_ends value words s g k u p none =
    let v = value_in (return_at value s k) g in
    return_passes value v u
    ∙ ap (λ b. cond b (followed (works.Return value) (with_read v u)) (return_ended value (with_read v u))) (le-ltb (u.beats_done + 1) 13 (omega (arith, p.so_far, none)))

return_values : (value : ℕ) (words : List ℕ) (s : State) (g : Given) (k : ℕ) (u : State) → length words ≡ 8 → HasWords value words s g → ReturnAt value words s k u
    → with_value u.read (value_in (return_at value s k) g) ≡ take (k + 1 - 1) words
return_values value words s g k u eight h p =
    ap₂ with_value p.values (return_value value words s g h k) ∙ words_on words k eight p.started

return_followed : (value : ℕ) (words : List ℕ) (s : State) (g : Given) (lines cycle k : ℕ) (u : State) → length words ≡ 8 → HasWords value words s g → ReturnAt value words s k u
    → ReturnAt value words s (k + 1) (closed lines cycle (followed (works.Return value) (with_read (value_in (return_at value s k) g) u)))
unfolding closed
return_followed value words s g lines cycle k u eight h p = record {
  awake = p.awake;
  kept = p.kept;
  doing = refl;
  so_far = ap (λ (i : ℕ). i + 1) p.so_far;
  values = return_values value words s g k u eight h p;
  started = omega arith;
}

return_waits : (value : ℕ) (words : List ℕ) (s : State) (lines cycle k : ℕ) (u : State) → ReturnAt value words s k u → ReturnAt value words s k (closed lines cycle (waiting (works.Return value) u))
unfolding closed
return_waits value words s lines cycle k u p = record {
  awake = p.awake;
  kept = p.kept;
  doing = refl;
  so_far = p.so_far;
  values = p.values;
  started = p.started;
}

pub record ReturnOver (value : ℕ) (words : List ℕ) (s t : State) : Type 0 where
  pub at_boundary : IsBetween t
  pub registers : t.regs ≡ with_return value words s.regs

last_values : (value : ℕ) (words : List ℕ) (s : State) (g : Given) (k : ℕ) (u : State) → length words ≡ 8 → HasWords value words s g → ReturnAt value words s k u → k + 1 ≡ 13
    → with_value u.read (value_in (return_at value s k) g) ≡ words
last_values value words s g k u eight h p none =
    return_values value words s g k u eight h p ∙ take_all (k + 1 - 1) words (omega (arith, eight, none))

return_over : (value : ℕ) (words : List ℕ) (s : State) (g : Given) (lines cycle k : ℕ) (u : State) → length words ≡ 8 → HasWords value words s g → ReturnAt value words s k u → k + 1 ≡ 13
    → ReturnOver value words s (closed lines cycle (return_ended value (with_read (value_in (return_at value s k) g) u)))
unfolding closed return_ended
return_over value words s g lines cycle k u eight h p none = record {
  at_boundary = record { awake = p.awake; between = refl; first = refl; fresh = refl; event = refl };
  registers = ap₂ (λ (xs : List ℕ) (r : Regs). with_return value xs r) (last_values value words s g k u eight h p none) p.kept;
}

-- the last beat reads nothing
return_leaves : (value : ℕ) (words : List ℕ) (s : State) (g : Given) (k : ℕ) (u : State) → length words ≡ 8 → is_misfit value (slice_index words 7) ≡ false
    → ReturnAt value words s k u → k + 1 ≡ 13
    → (return_ended value (with_read (value_in (return_at value s k) g) u)).nvic ≡ left s.regs.ipsr u.nvic
unfolding return_ended after_return return_beat
return_leaves value words s g k u eight fits p none =
    let twelve : k ≡ 12 = omega (arith, none) in
    let same : u.read ≡ words = p.values ∙ take_all (k - 1) words (omega (arith, eight, none)) in
    ap₂ (λ (i n : ℕ). cond (is_misfit value (slice_index (with_value u.read (value_in (return_at value s i) g)) 7)) (pended 3 (left n u.nvic)) (left n u.nvic)) twelve (ap (λ (r : Regs). r.ipsr) p.kept)
    ∙ ap (λ (xs : List ℕ). cond (is_misfit value (slice_index xs 7)) (pended 3 (left s.regs.ipsr u.nvic)) (left s.regs.ipsr u.nvic)) same
    ∙ ap (λ b. cond b (pended 3 (left s.regs.ipsr u.nvic)) (left s.regs.ipsr u.nvic)) fits

return_plan : (value : ℕ) (words : List ℕ) (xs : List Served) (s : State) → HasFrame value words xs s
    → Plan (works.Return value) (return_at value s) 13 (left s.regs.ipsr) (HasWords value words s) (ReturnAt value words s) (ReturnOver value words s)
return_plan value words xs s room = record {
  in_ram = return_in_ram value words xs s room;
  unpaused = λ u. refl;
  silent = refl;
  awake = λ k u p. p.awake;
  begins = λ g k u p. return_begins value words s room.eight room.fits g k u p;
  waits = λ lines cycle k u p. return_waits value words s lines cycle k u p;
  goes = λ g lines cycle k u h p more. subst (λ t. ReturnAt value words s (k + 1) (closed lines cycle t)) (sym (return_goes_on value words s g k u p more)) (return_followed value words s g lines cycle k u room.eight h p);
  keeps = λ g k u p more. ap (λ (t : State). t.nvic) (return_goes_on value words s g k u p more) ∙ followed_nvic (works.Return value) (value_in (return_at value s k) g) u;
  ends = λ g lines cycle k u h p none. subst (λ t. ReturnOver value words s (closed lines cycle t)) (sym (return_ends value words s g k u p none)) (return_over value words s g lines cycle k u room.eight h p none);
  leaves = λ g k u p none. ap (λ (t : State). t.nvic) (return_ends value words s g k u p none) ∙ return_leaves value words s g k u room.eight room.fits p none;
}

-- ---- return: the first beat, then all

return_first : (value : ℕ) (g : Given) (s : State) → BeginsReturn value s → BeginsBeat (works.Return value) Inner g s
unfolding asks_awake asks_return asks_beat
return_first value g s at =
    let good : ((s.beats_done == 0) && is_bad value s) ≡ false = ap (λ b. (s.beats_done == 0) && b) at.good ∙ and-false (s.beats_done == 0) in
    ap (λ w. answered g.answers (asks_next w s)) at.returns
    ∙ ap (λ b. answered g.answers (cond b (asks_fault s) (cond ((s.beats_done == 12) && (is_misfit value (slice_index s.read 7) && is_locked s)) (stopped (why.Lockup s.number)) (asks_beat (works.Return value) s)))) good
    ∙ ap (λ (i : ℕ). answered g.answers (cond ((i == 12) && (is_misfit value (slice_index s.read 7) && is_locked s)) (stopped (why.Lockup s.number)) (asks_beat (works.Return value) s))) at.first
    ∙ ap (λ b. answered g.answers (in_beat (works.Return value) s b)) (return_is value s ∙ ap (λ (i : ℕ). return_by value i s.regs) at.first)

return_second : (value cycle : ℕ) (x : Served) (s : State) → BeginsReturn value s → after_served cycle x s ≡ closed (lines_in x.given) cycle (followed (works.Return value) s)
return_second value cycle x s at =
    (serves_walk (works.Return value) Inner cycle x s refl at.awake tt (return_first value x.given s at)).passes refl refl
    ∙ ap (closed (lines_in x.given) cycle) (return_passes value None s ∙ ap (λ (i : ℕ). cond (nat_lt (i + 1) 13) (followed (works.Return value) s) (return_ended value s)) at.first)

return_stands : (value : ℕ) (words : List ℕ) (lines cycle : ℕ) (s : State) → BeginsReturn value s → ReturnAt value words s 1 (closed lines cycle (followed (works.Return value) s))
unfolding closed
return_stands value words lines cycle s at = record {
  awake = at.awake;
  kept = refl;
  doing = refl;
  so_far = ap (λ (i : ℕ). i + 1) at.first;
  values = at.fresh;
  started = omega arith;
}

all_words : (value : ℕ) (words : List ℕ) (s : State) (xs : List Served) → ((k : ℕ) → k < 8 → Stays ((return_frame value s.regs + 4 * k) % 2 ^ 32) (slice_index words k) xs) → AllGiven (HasWords value words s) xs
all_words value words s [] h = tt
all_words value words s (x ∷ xs) h = (λ k within. (h k within).0, all_words value words s xs (λ k within. (h k within).1))

-- the last cycle is none of the first beat: there is a second one where no beat is left
later_last : (n line cycle : ℕ) (e f g : Exceptions) (b : Beat) (bs : List Beat) (xs : List Served) → left_of (b ∷ bs) xs ≡ Some [] → f ≡ nvic.after_cycle line cycle e
    → g ≡ after_last (left n) (cycle + 1) (lines_of xs) f → g ≡ after_leaving n cycle (line ∷ lines_of xs) e
later_last n line cycle e f g b bs [] q same h = absurd (cc)
later_last n line cycle e f g b bs (y ∷ ys) q same h =
    h ∙ after_last_left n (cycle + 1) (lines_of (y ∷ ys)) f ∙ ap (λ (z : Exceptions). after_leaving n (cycle + 1) (lines_of (y ∷ ys)) z) same

pub a_return_takes_its_beats : AReturnTakesItsBeats
unfolding return_beat
a_return_takes_its_beats value words s cycle x xs at room =
    let u = after_served cycle x s in
    let path = return_second value cycle x s at in
    let stands : ReturnAt value words s 1 u = subst (λ t. ReturnAt value words s 1 t) (sym path) (return_stands value words (lines_in x.given) cycle s at) in
    let nv : u.nvic ≡ nvic.after_cycle (lines_in x.given) cycle s.nvic =
    ap (λ (t : State). t.nvic) path ∙ closed_nvic (lines_in x.given) cycle (followed (works.Return value) s) in
    let all = walk (works.Return value) (return_at value s) 13 (left s.regs.ipsr) (HasWords value words s) (ReturnAt value words s) (ReturnOver value words s) (return_plan value words (x ∷ xs) s room)
    xs 1 11 (cycle + 1) u refl stands (all_words value words s xs (λ k within. (room.stays k within).1)) in
    record {
      in_progress = λ b bs q.
          let m = all.mid b bs q in
          let p = m.0.1 in
          record { awake = p.awake; kept = p.kept; in_progress = p.doing; exceptions = m.1 ∙ ap (after_cycles (cycle + 1) (lines_of xs)) nv };
      over = λ q.
          let m = all.over q in
          record {
            at_boundary = m.0.at_boundary;
            registers = m.0.registers;
            exceptions = later_last s.regs.ipsr (lines_in x.given) cycle s.nvic u.nvic (after_all_served (cycle + 1) xs u).nvic
                (return_at value s 1) (map (return_at value s) (numbers_from 2 11)) xs q nv m.1;
          };
      wants = λ bs q. ap₂ (λ (w : Want) (ws : List Want). w ∷ ws) ((serves_walk (works.Return value) Inner cycle x s refl at.awake tt (return_first value x.given s at)).wants) (all.wants bs q);
      count = λ done long. subst (λ (k : ℕ). left_of (map (return_at value s) (numbers_from 0 k)) (x ∷ xs) ≡ Some []) long (counted (return_at value s) (x ∷ xs) 0 done);
    }
