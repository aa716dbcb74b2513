-- Moves forward that do not end on the way.
use Rattle.reverse_debug.proofs.Shared.{Advances, Approaches, Bool, IsQuiet, List, None, NoneEnds, Option, Path, SeesAs, Setting, Some, State, Why, add-one, and_parts, ap, arith, begins, cases_lt, ends, ends_by, eq-eqb, false, has_bit, if◌then◌else◌, inl, inr, is_begun, lt-ltb, ltb-true, nat_lt, nat_tests, next, not, or_zero, place_of, refl, seen, sought, states, states_here, stop, subst, suc, sym, true, zero, ℕ, ◌&&◌, ◌+◌, ◌-◌, ◌<◌, ◌==◌, ◌∙◌, ◌≡◌, ◌≤◌}
use Rattle.io_bank.specs.State.{State as Bank}
use Rattle.rp_machine.specs.Reads.{begins_of}
use Rattle.rp_machine.specs.Sram.{ram_word}
use Rattle.quiet_run.specs.Parts.{HasNoWork}
use Rattle.reverse_debug.specs.declared.watch.Watched.{Watched as Written}
use Rattle.reverse_debug.specs.declared.watch.Watched.TheVariants as written
use Rattle.reverse_debug.specs.Command.{Watched}
use Rattle.reverse_debug.specs.Command.Watched.{Word, Pin, Begun}
use Rattle.reverse_debug.proofs.Paths.{joined, one_on, none_first, states_within, next_at, way_on, way_passed, quiet_there}

-- ---- what was seen before

no_change : (b y : ℕ) → not (y == b) ≡ false → b ≡ y
no_change b y h = grind (arith, nat_tests, h)

sees_same : (watched : Watched) (b y : ℕ) → ends_by watched b y ≡ false → (x : ℕ) → ends_by watched b x ≡ ends_by watched y x
sees_same (Word address) b y h x = ap (λ n. not (x == n)) (no_change b y h)
sees_same (Pin pin) b y h x = ap (λ n. not (x == n)) (no_change b y h)
sees_same (Begun core address) b y h x = refl

pub sees_here : (watched : Watched) (b : ℕ) (s : State) → b ≡ seen watched s → SeesAs watched b s
sees_here watched b s e x = ap (λ n. ends_by watched n x) e

same_level : (x y : ℕ) → x ≡ y → not (x == y) ≡ false
same_level x y e = ap not (eq-eqb x y e)

begins_neither : (core : ℕ) (t : State) → begins t.core0 ≡ None → begins t.core1 ≡ None → begins_of core t ≡ None
begins_neither core t h k = elim (core == 0) as (λ first. (if first then begins t.core0 else begins t.core1) ≡ None) [ true ↦ h | false ↦ k ]

-- a move forward does not end where the pads stay
pub pin_stays : (pin b : ℕ) (s t : State) → SeesAs (Pin pin) b s → t.outer.pads ≡ s.outer.pads → ends_by (Pin pin) b (seen (Pin pin) t) ≡ false
pin_stays pin b s t same pads =
    same (seen (Pin pin) t) ∙ same_level (seen (Pin pin) t) (seen (Pin pin) s) (ap (λ (p : Bank). if has_bit p.current pin then 1 else 0) pads)

pub pin_unended : (what : Written) (pin b : ℕ) (s t : State) → what ≡ written.Pin pin → SeesAs (sought what) b s → t.outer.pads ≡ s.outer.pads → ends_by (sought what) b (seen (sought what) t) ≡ false
pin_unended what pin b s t e same pads =
    subst (λ (x : Written). ends_by (sought x) b (seen (sought x) t) ≡ false) (sym e) (pin_stays pin b s t (subst (λ (x : Written). SeesAs (sought x) b s) e same) pads)

-- nor while the cores wait
pub waiting_stays : (watched : Watched) (b : ℕ) (s t : State) → SeesAs watched b s → HasNoWork s t → t.outer.pads ≡ s.outer.pads → ends_by watched b (seen watched t) ≡ false
waiting_stays (Word address) b s t same none pads =
    same (seen (Word address) t) ∙ same_level (seen (Word address) t) (seen (Word address) s) (ap (λ (sram : List ℕ). or_zero (ram_word sram (place_of address))) none.sram)
waiting_stays (Pin pin) b s t same none pads = pin_stays pin b s t same pads
waiting_stays (Begun core address) b s t same none pads =
    ap (λ begun. (if is_begun address begun then 1 else 0) == 1) (begins_neither core t none.core0 none.core1)

-- ---- the cycles on the way from one state to another have no stop

no_stop_by : (w : Setting) (s t : State) (k : ℕ) (cause : Option Why) → Path w s t → s.cycle + k < t.cycle → stop w (states w s k) ≡ cause → cause ≡ None
no_stop_by w s t k None p lt h = refl
no_stop_by w s t k (Some why) p lt h =
    let rest : k + (t.cycle - s.cycle - k) ≡ t.cycle - s.cycle = omega arith in
    let same : t ≡ states w s k = p.is ∙ joined w s k (t.cycle - s.cycle - k) (t.cycle - s.cycle) rest ∙ states_here w (states w s k) why (t.cycle - s.cycle - k) h in
    let cycle : t.cycle ≡ (states w s k).cycle = ap (λ (x : State). x.cycle) same in
    let most : (states w s k).cycle ≤ s.cycle + k = states_within w s k in
    absurd (omega arith)

no_stop : (w : Setting) (s t : State) (k : ℕ) → Path w s t → s.cycle + k < t.cycle → stop w (states w s k) ≡ None
no_stop w s t k p lt = no_stop_by w s t k (stop w (states w s k)) p lt refl

ends_next : (w : Setting) (s : State) (watched : Watched) (k : ℕ) → stop w (states w s k) ≡ None
    → ends w s watched k ≡ ends_by watched (seen watched (states w s k)) (seen watched (states w s (k + 1)))
unfolding ends
ends_next w s watched k none = ap (λ (x : State). ends_by watched (seen watched (states w s k)) (seen watched x)) (sym (one_on w s k none))

pub ends_on : (w : Setting) (s t : State) (watched : Watched) (k : ℕ) → Path w s t → s.cycle + k < t.cycle
    → ends w s watched k ≡ ends_by watched (seen watched (states w s k)) (seen watched (states w s (k + 1)))
ends_on w s t watched k p lt = ends_next w s watched k (no_stop w s t k p lt)

-- where it did not end, what was seen at first is as good as what is seen
pub sees_over : (w : Setting) (s t : State) (watched : Watched) (n : ℕ) → Path w s t → s.cycle + n ≤ t.cycle → NoneEnds w watched s n → SeesAs watched (seen watched s) (states w s n)
sees_over w s t watched zero p le none = sees_here watched (seen watched s) (states w s zero) (ap (seen watched) (sym (none_first w s)))
sees_over w s t watched (suc n) p le none =
    let so_far = sees_over w s t watched n p (omega arith) (λ k lt. none k (omega arith)) in
    let still : ends_by watched (seen watched s) (seen watched (states w s (n + 1))) ≡ false =
    so_far (seen watched (states w s (n + 1))) ∙ sym (ends_on w s t watched n p (omega arith)) ∙ none n (omega arith) in
    subst (λ m. SeesAs watched (seen watched s) (states w s m)) (add-one n) (sees_same watched (seen watched s) (seen watched (states w s (n + 1))) still)

pub sees_there : (w : Setting) (s t : State) (watched : Watched) (b : ℕ) → b ≡ seen watched s → Path w s t → NoneEnds w watched s (t.cycle - s.cycle) → SeesAs watched b t
sees_there w s t watched b e p none =
    let forward : s.cycle ≤ t.cycle = p.forward in
    subst (λ n. SeesAs watched n t) (sym e) (subst (λ (x : State). SeesAs watched (seen watched s) x) (sym p.is)
    (sees_over w s t watched (t.cycle - s.cycle) p (omega arith) none))

-- ---- cycles one behind another

-- the cycles behind a state on the way
pub ends_later : (w : Setting) (s t : State) (watched : Watched) (m j : ℕ) → t ≡ states w s m → ends w s watched (m + j) ≡ ends w t watched j
unfolding ends
ends_later w s t watched m j e =
    ap (λ (x : State). ends_by watched (seen watched x) (seen watched (next w x))) (joined w s m j (m + j) refl ∙ ap (λ (x : State). states w x j) (sym e))

none_join : (w : Setting) (s t : State) (watched : Watched) (m n : ℕ) → t ≡ states w s m → NoneEnds w watched s m → NoneEnds w watched t n → NoneEnds w watched s (m + n)
none_join w s t watched m n e a b k lt = elim (cases_lt k m) [
  | inl below ↦ a k below
  | inr le ↦
      let whole : k ≡ m + (k - m) = omega arith in
      ap (ends w s watched) whole ∙ ends_later w s t watched m (k - m) e ∙ b (k - m) (omega arith)
]

-- by what is seen behind each of them
none_by : (w : Setting) (t : State) (watched : Watched) (b m : ℕ) → SeesAs watched b t → ((k : ℕ) → k < m → stop w (states w t k) ≡ None)
    → ((k : ℕ) → k < m → ends_by watched b (seen watched (states w t (k + 1))) ≡ false) → NoneEnds w watched t m
none_by w t watched b m same goes none zero lt =
    ends_next w t watched 0 (goes 0 lt) ∙ ap (λ (x : State). ends_by watched (seen watched x) (seen watched (states w t 1))) (none_first w t)
    ∙ sym (same (seen watched (states w t 1))) ∙ none 0 lt
none_by w t watched b m same goes none (suc j) lt =
    let last : ends_by watched b (seen watched (states w t (j + 1))) ≡ false = none j (omega arith) in
    let there : SeesAs watched b (states w t (suc j)) = subst (λ i. SeesAs watched b (states w t i)) (add-one j) (sees_same watched b (seen watched (states w t (j + 1))) last) in
    ends_next w t watched (suc j) (goes (suc j) lt) ∙ sym (there (seen watched (states w t (suc j + 1)))) ∙ none (suc j) lt

-- ---- on the way to a cycle, or to the first end

pub record Unended (w : Setting) (watched : Watched) (s t : State) (to before now : ℕ) : Type 0 where
  pub way : Advances w s to t None before now
  pub none : NoneEnds w watched s (t.cycle - s.cycle)

pub unended_none : (w : Setting) (watched : Watched) (s : State) (to steps : ℕ) → Advances w s to s None steps steps → Unended w watched s s to steps steps
unended_none w watched s to steps way = record { way = way; none = λ k lt. absurd (omega arith) }

some_passed : (n : ℕ) (b : Bool) → (nat_lt 0 n && b) ≡ true → 0 < n
some_passed n b h = ltb-true 0 n (and_parts (nat_lt 0 n) b h).0

-- cycles that were passed at once, where the last of them is no end
pub unended_passed : (w : Setting) (watched : Watched) (s t u : State) (to before now after b n most : ℕ) → Unended w watched s t to before now → SeesAs watched b t
    → u ≡ states w t n → IsQuiet w t n → (0 < n → t.cycle + n ≤ most) → most ≤ to → most ≤ w.limit → after ≡ now + n
    → ((k : ℕ) → k + 1 < n → ends_by watched b (seen watched (states w t (k + 1))) ≡ false) → (nat_lt 0 n && ends_by watched b (seen watched u)) ≡ false
    → Unended w watched s u to before after
unended_passed w watched s t u to before now after b n most h same e quiet within near low count none last =
    let way = way_passed w s t u to before now after n most h.way e quiet within near low count in
    let cycle : u.cycle ≡ t.cycle + n = quiet_there w t u n e quiet in
    let from : s.cycle ≤ t.cycle = h.way.path.forward in
    let far : u.cycle - s.cycle ≡ (t.cycle - s.cycle) + n = omega arith in
    record {
      way = way;
      none = subst (NoneEnds w watched s) (sym far) (none_join w s t watched (t.cycle - s.cycle) n h.way.path.is h.none
          (none_by w t watched b n same (λ k lt. quiet.goes k lt) (λ k lt. elim (cases_lt (k + 1) n) [
            | inl below ↦ none k below
            | inr le ↦
                let end : n ≡ k + 1 = omega arith in
                let some : nat_lt 0 n ≡ true = lt-ltb 0 n (omega arith) in
                ap (λ (x : State). ends_by watched b (seen watched x)) (sym (e ∙ ap (states w t) end)) ∙ sym (ap (λ f. f && ends_by watched b (seen watched u)) some) ∙ last
          ])));
    }

-- and where it is one
pub unended_found : (w : Setting) (watched : Watched) (s t u : State) (to before now after b n most : ℕ) → Unended w watched s t to before now → SeesAs watched b t
    → u ≡ states w t n → IsQuiet w t n → (0 < n → t.cycle + n ≤ most) → most ≤ to → most ≤ w.limit → after ≡ now + n
    → ((k : ℕ) → k + 1 < n → ends_by watched b (seen watched (states w t (k + 1))) ≡ false) → (nat_lt 0 n && ends_by watched b (seen watched u)) ≡ true
    → Approaches w watched s to u None before after
unended_found w watched s t u to before now after b n most h same e quiet within near low count none is =
    let some = some_passed n (ends_by watched b (seen watched u)) is in
    let way = way_passed w s t u to before now after n most h.way e quiet within near low count in
    let cycle : u.cycle ≡ t.cycle + n = quiet_there w t u n e quiet in
    let from : s.cycle ≤ t.cycle = h.way.path.forward in
    record {
      way = way;
      none = λ k lt. none_join w s t watched (t.cycle - s.cycle) (n - 1) h.way.path.is h.none
          (none_by w t watched b (n - 1) same (λ i below. quiet.goes i (omega arith)) (λ i below. none i (omega arith))) k (omega arith);
      ahead = omega (arith, some);
    }

-- one cycle more
next_none : (w : Setting) (watched : Watched) (t u : State) (b : ℕ) → SeesAs watched b t → stop w t ≡ None → u ≡ next w t → ends_by watched b (seen watched u) ≡ false → NoneEnds w watched t 1
next_none w watched t u b same none e last =
    let none0 : stop w (states w t 0) ≡ None = ap (stop w) (none_first w t) ∙ none in
    let there : states w t (0 + 1) ≡ u = one_on w t 0 none0 ∙ ap (next w) (none_first w t) ∙ sym e in
    none_by w t watched b 1 same
    (λ k lt. let first : k ≡ 0 = omega arith in ap (λ i. stop w (states w t i)) first ∙ none0)
    (λ k lt. let first : k ≡ 0 = omega arith in
    ap (λ i. ends_by watched b (seen watched (states w t (i + 1)))) first ∙ ap (λ (x : State). ends_by watched b (seen watched x)) there ∙ last)

pub unended_cycle : (w : Setting) (watched : Watched) (s t u : State) (to before now after b : ℕ) → Unended w watched s t to before now → SeesAs watched b t
    → stop w t ≡ None → u ≡ next w t → t.cycle < to → after ≡ now + 1 → ends_by watched b (seen watched u) ≡ false → Unended w watched s u to before after
unended_cycle w watched s t u to before now after b h same none e lt count last =
    let one : u.cycle ≡ t.cycle + 1 = next_at w t u e in
    let from : s.cycle ≤ t.cycle = h.way.path.forward in
    let far : u.cycle - s.cycle ≡ (t.cycle - s.cycle) + 1 = omega arith in
    record {
      way = way_on w s t u to before now after h.way none e lt count;
      none = subst (NoneEnds w watched s) (sym far) (none_join w s t watched (t.cycle - s.cycle) 1 h.way.path.is h.none (next_none w watched t u b same none e last));
    }

pub unended_ended : (w : Setting) (watched : Watched) (s t u : State) (to before now after : ℕ) → Unended w watched s t to before now
    → stop w t ≡ None → u ≡ next w t → t.cycle < to → after ≡ now + 1 → Approaches w watched s to u None before after
unended_ended w watched s t u to before now after h none e lt count =
    let one : u.cycle ≡ t.cycle + 1 = next_at w t u e in
    let from : s.cycle ≤ t.cycle = h.way.path.forward in
    record { way = way_on w s t u to before now after h.way none e lt count; ahead = omega arith; none = λ k below. h.none k (omega arith) }
