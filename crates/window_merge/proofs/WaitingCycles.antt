-- Cycles of a window in which nobody has anything to do: the start answers each lane as the machine does.
use Rattle.std.proofs.Common.{◌≡◌, ℕ, zero, suc, ◌+◌, ◌-◌, ◌*◌, ◌<◌, ◌≤◌, ◌||◌, not, nat_le, if◌then◌else◌, Bool, true, false, List, [], ◌∷◌, ◌++◌, length, refl, sym, ap, subst, ◌∙◌, arith}
use Rattle.window_merge.proofs.Shared.{ArePartsQuiet, Begun, CopiesAgree, GoesAsAlone, GoneOver, Mark, Notes, SeenOutputs, Setting, Start, Wanted, and-false, begun, beside, clash, has_hold, inputs_of, is_clean, is_first_alone, is_launching, leb_tells, lines_of, longest, mark, marks_in, no_notes, noted_by, noted_in, offers_of, outs_on, packed_pair, passed, pins_of, runs_follow, same_marks, seen_number, states, wanted, wants_of, window_length}
use Rattle.lane_look.specs.declared.lane.Want.TheVariants as want
use Rattle.io_bank.specs.State.{State as Bank}
use Rattle.io_bank.specs.Levels.{inputs_of as inputs_of_pads}
use Rattle.outer_lane.specs.Step as outer
use Rattle.outer_lane.specs.Quiet.{seen_in}
use Rattle.rp_machine.specs.State.{State}
use Rattle.quiet_run.proofs.Passing.{fewer_parts, quiet_cycles, quiet_none, begun_outer, wants_core0, wants_core1, wants_read, wants_write, told, same_lines, same_pacing, states_passed}
use Rattle.window_merge.specs.Start.{start_of, begun_from, ends_wanted, goes_by, goes_on}
use Rattle.window_merge.specs.Quiet.{AreQuietWindows}
use Rattle.window_merge.proofs.Passing.{First, along_first, closed_full}
use Rattle.window_merge.proofs.Resting.{quiet_rests}
use Rattle.window_merge.proofs.InwardCycles.{AreAlike, alike_by, reads_none, goes_alike, begun_alike, starts_by, apart_alone, mark_with, marked_same}

-- for so many cycles from a state of a window on, before which this was noted, nobody has anything to do
pub record IsWaiting (w : Setting) (m : Notes) (s : State) (n : ℕ) : Type 0 where
  pub sees : is_clean 0 m ≡ true
  pub agree : CopiesAgree s
  pub parts : ArePartsQuiet w s n

at_passed : (w : Setting) (m : Notes) (s : State) (n k : ℕ) → IsWaiting w m s n → k ≤ n → states w s k ≡ passed w s k
at_passed w m s n k h le = states_passed w s n k h.agree h.parts le

-- so many cycles behind the first i of them
at_later : (w : Setting) (m : Notes) (s : State) (n i k : ℕ) → IsWaiting w m s n → i + k ≤ n → states w (states w s i) k ≡ passed w s (i + k)
at_later w m s n i k h le = sym (runs_follow w s i k).state ∙ at_passed w m s n (i + k) h le

-- ---- one of the cycles

starts : (w : Setting) (m : Notes) (s : State) (n k : ℕ) → IsWaiting w m s n → k ≤ n → start_of (passed w s k) ≡ start_of s
unfolding inputs_of
starts w m s n k h le =
    let q = h.parts in
    let u = passed w s k in
    let on = told w s n k q le in
    starts_by (start_of u) (start_of s) (same_lines w s n k 0 q le) (same_lines w s n k 1 q le) (same_pacing w s n k q le)
    (ap (λ (b : Bank). packed_pair (inputs_of_pads b b.current ∷ inputs_of_pads b b.second ∷ [])) (q.peripherals.pads k le))
    (outs_on s u 0 on) (outs_on s u 1 on)

alike_waiting : (w : Setting) (m : Notes) (s : State) (n k : ℕ) → IsWaiting w m s n → k < n
    → AreAlike w (start_of s) m (passed w s k)
alike_waiting w m s n k h lt =
    subst (λ (start : Start). AreAlike w start m (passed w s k)) (starts w m s n k h (omega arith))
    (alike_by w m (passed w s k) (lines_of 1 s) h.sees (quiet_rests (lines_of 1 s) s.cycle n k s.core1 h.parts.core1 lt) (reads_none (passed w s k) (wants_read w s n k h.parts lt)))

wants_none : (w : Setting) (s : State) (n k : ℕ) → ArePartsQuiet w s n → k < n → wanted (begun (passed w s k)) ≡ beside want.Nothing
unfolding wanted
wants_none w s n k q lt =
    rw (wants_core0 w s n k q lt, wants_core1 w s n k q lt, wants_read w s n k q lt, wants_write w s n k q lt) refl

goes_waiting : (w : Setting) (s : State) (n k : ℕ) → ArePartsQuiet w s n → k < n → goes_by (begun (passed w s k)) ≡ true
goes_waiting w s n k q lt =
    ap (λ (xs : List Wanted). not (ends_wanted xs || clash (wants_of (begun (passed w s k))))) (wants_none w s n k q lt)
    ∙ ap (λ (c : Bool). not (false || c)) (apart_alone (begun (passed w s k)) (ap is_first_alone (wants_none w s n k q lt)))

mark_waiting : (w : Setting) (s : State) (n k : ℕ) → ArePartsQuiet w s n → k < n → mark w (passed w s k) ≡ mark_with s.outer.pads.current
unfolding mark
mark_waiting w s n k q lt =
    let p = passed w s k in
    let seen : (begun p).outer ≡ seen_in (begun s).outer ((begun s).outer.cycle + k) =
    begun_outer w s n k q (omega arith) ∙ ap (λ (c : ℕ). seen_in (begun s).outer (c + k)) (sym (seen_number s)) in
    ap (λ (x : SeenOutputs). outer.marked w p.outer x) seen ∙ q.peripherals.mark k lt

-- ---- all of them

-- from behind the first i of them on
notes_waiting : (w : Setting) (m : Notes) (s : State) (n i k : ℕ) → IsWaiting w m s n → i + k ≤ n → noted_in w (start_of s) m (states w s i) k ≡ m
unfolding noted_in
notes_waiting w m s n i zero h le = refl
notes_waiting w m s n i (suc k) h le =
    let lt : i + k < n = omega (arith, le) in
    let t = states w (states w s i) k in
    ap (λ (x : Notes). noted_by (wanted (begun_from (start_of s) x t)) t.sram x) (notes_waiting w m s n i k h (omega (arith, le)))
    ∙ ap (λ (u : State). noted_by (wanted (begun_from (start_of s) m u)) u.sram m) (at_later w m s n i k h (omega (arith, le)))
    ∙ ap (λ (b : Begun). noted_by (wanted b) (passed w s (i + k)).sram m) (begun_alike w (start_of s) m (passed w s (i + k)) (alike_waiting w m s n (i + k) h lt))
    ∙ ap (λ (xs : List Wanted). noted_by xs (passed w s (i + k)).sram m) (wants_none w s n (i + k) h.parts lt)

waits_as_alone : (w : Setting) (m : Notes) (s : State) (n i j : ℕ) → IsWaiting w m s n → i + j ≤ n → GoesAsAlone w (start_of s) m (states w s i) j
waits_as_alone w m s n i j h le k lt =
    ap (λ (x : Notes). goes_on (start_of s) x (states w (states w s i) k)) (notes_waiting w m s n i k h (omega (arith, le, lt)))
    ∙ ap (goes_on (start_of s) m) (at_later w m s n i k h (omega (arith, le, lt)))
    ∙ goes_alike w (start_of s) m (passed w s (i + k)) (alike_waiting w m s n (i + k) h (omega (arith, le, lt)))
    ∙ goes_waiting w s n (i + k) h.parts (omega (arith, le, lt))

-- ---- what the call leaves

pub has_waited : (w : Setting) (m : Notes) (s t : State) (n pads : ℕ) (marks marks' : List Mark) → is_clean 0 m ≡ true
    → CopiesAgree s
    → (0 < n → ArePartsQuiet w s n) → t ≡ states w s n → pads ≡ t.outer.pads.current
    → marks' ≡ marks ++ same_marks n (mark_with pads)
    → GoneOver w (start_of s) s m marks n t m marks'
unfolding states noted_in marks_in same_marks
has_waited w m s t zero pads marks marks' sees agree parts e_state e_pads e = grind arith
has_waited w m s t (suc n) pads marks marks' sees agree parts e_state e_pads e =
    let h : IsWaiting w m s (suc n) = record { sees = sees; agree = agree; parts = parts (omega arith) } in
    record {
      state = e_state;
      goes = waits_as_alone w m s (suc n) zero (suc n) h (omega arith);
      noted = sym (notes_waiting w m s (suc n) zero (suc n) h (omega arith));
      marked = marked_same w s t (suc n) pads marks marks' (λ k lt. ap (mark w) (at_passed w m s (suc n) k h (omega arith))
          ∙ mark_waiting w s (suc n) k h.parts lt)
          (ap (λ (x : State). x.outer.pads.current) (e_state ∙ at_passed w m s (suc n) (suc n) h (omega arith)) ∙ ap (λ (b : Bank). b.current) (h.parts.peripherals.pads (suc n) (omega arith))) e_pads e;
    }

-- ---- windows of them

-- there is room for a whole window
whole_by : (left : ℕ) → 256 ≤ left → (if nat_le left 256 then left else 256) ≡ 256
whole_by left le = grind (arith, leb_tells)

quiet_window : (w : Setting) (s : State) (n i : ℕ) → IsWaiting w no_notes s n → length s.sram ≡ 67584 → i + 256 ≤ n → window_length w (states w s i) ≡ 256
quiet_window w s n i h long le =
    let t = states w s i in
    let at : t ≡ passed w s i = at_passed w no_notes s n i h (omega (arith, le)) in
    let limit = h.parts.limit in
    let number : t.cycle ≡ s.cycle + i = ap (λ (x : State). x.cycle) at in
    let offer : t.core1.offer ≡ s.core1.offer = ap (λ (x : State). x.core1.offer) at ∙ h.parts.core1.offer i (omega (arith, le)) in
    let sio : t.sio ≡ s.sio = ap (λ (x : State). x.sio) at in
    let whole : longest w t ≡ 256 = whole_by (w.limit - t.cycle) (omega (arith, limit, number, le)) in
    let first : First t = record {
      free = ap (λ (x : State). has_hold x.fabric) at ∙ h.parts.fabric;
      knows = record {
        pins = ap (λ (x : State). x.outer.sio) at ∙ h.parts.peripherals.sio i (omega (arith, le)) ∙ h.agree.pins ∙ ap pins_of (sym sio);
        offer = offer ∙ h.agree.offer ∙ ap offers_of (sym sio);
      };
      long = ap (λ (x : State). length x.sram) at ∙ long;
    } in
    let unlaunched : is_launching t.core1 ≡ false = rw (offer ∙ h.agree.offer ∙ h.parts.launcher) (and-false t.core1.asleep) in
    let start : start_of t ≡ start_of s = ap start_of at ∙ starts w no_notes s n i h (omega (arith, le)) in
    let goes : GoesAsAlone w (start_of t) no_notes t 256 = subst (λ (x : Start). GoesAsAlone w x no_notes t 256) (sym start) (waits_as_alone w no_notes s n i 256 h le) in
    let gone : GoneOver w (start_of t) t no_notes [] 256 (states w t 256) (noted_in w (start_of t) no_notes t 256) (marks_in w t 256) =
    record { state = refl; goes = goes; noted = refl; marked = refl } in
    sym (closed_full (along_first first gone unlaunched (omega (arith, whole))) (sym whole)).length

pub no_window : (w : Setting) (s : State) → AreQuietWindows w s 0
no_window w s = record { quiet = quiet_none w s; free = λ k lt. absurd (omega (arith, lt)); whole = λ k lt. absurd (omega (arith, lt)) }

-- so many whole windows of the cycles in which nobody has anything to do
pub quiet_windows : (w : Setting) (s : State) (n windows : ℕ) → CopiesAgree s → length s.sram ≡ 67584 → ArePartsQuiet w s n → 256 * windows ≤ n → AreQuietWindows w s windows
quiet_windows w s n windows agree long parts le =
    let all = fewer_parts w s n (256 * windows) parts le in
    let h : IsWaiting w no_notes s (256 * windows) = record { sees = refl; agree = agree; parts = all } in
    record {
      quiet = quiet_cycles w s (256 * windows) agree all;
      free = λ k lt. ap (λ (x : State). has_hold x.fabric) (at_passed w no_notes s (256 * windows) (256 * k) h (omega (arith, lt))) ∙ parts.fabric;
      whole = λ k lt. quiet_window w s (256 * windows) (256 * k) h long (omega (arith, lt));
    }
