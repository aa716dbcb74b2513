-- An instruction takes its beats: one cycle, then all of them, also where its accesses wait.
use Rattle.std.proofs.Common.{◌≡◌, ℕ, zero, suc, ◌+◌, ◌%◌, ◌^◌, ◌<◌, ◌≤◌, ◌==◌, ◌&&◌, ◌||◌, inl, inr, not, Bool, true, false, cond, List, [], ◌∷◌, ◌++◌, length, refl, sym, ap, ap₂, subst, ◌∙◌, arith, append_assoc, append-nil, length-append, lt-ltb, le-ltb}
use Rattle.core_laws.proofs.Shared.{Option, Some, None, option_to_list, map, slice_get, unwrap_or, nat_lt, Request, Spot, Op, place_of, begins_long, operation_of, Regs, Beat, Inner, Access, beats_of, effect_of, return_of, Exceptions, wakes_of, Half, answered, Question, awaits_event, awaits_interrupt, master_of, stopped, asks_awake, asks_next, asks_boundary, asks_taken, asks_first, asks_half, asks_second, asks_decoded, asks_fault, asks_beat, beat_of, in_beat, is_faulty, with_value, waiting, returning, called, ended, passed_instruction, passed, is_paused_op, closed, State, Given, lines_in, touched_by, changed_by, exceptions_in, event_in, wanted_in, after_cycle, is_stop, GoesOn, want_at, want_of_beat, wants_in, read_at, read_in, reads_in, IsAtBoundary, half_at, IsEncoded, IsFetched, IsPlain, is_access, and-true, and-false, drop_all, drop, list_any, is_signal, Served, after_served, after_all_served, GoesOnServed, wants_served, wants_of_beats, exceptions_served, event_served, is_over, left_after, reads_served, IsInProgress, IsOver, is_refused, AnInstructionTakesItsBeats, AnInstructionTakesItsBeatsAndWaits, or_parts, cases_Bool}
use Rattle.rp_base.specs.declared.map.Spot.TheVariants as spot
use Rattle.rp_base.specs.declared.Why.TheVariants as why
use Rattle.m0_nvic.specs.Cycle as nvic
use Rattle.lane_look.specs.declared.lane.Want.TheVariants as want
use Rattle.m0_core.specs.declared.doing.Work.TheVariants as works
use Rattle.core_laws.specs.Laws.{after_cycles}
use Rattle.core_laws.proofs.ReadCount.{reads_one, is_read, reading, reading-le}
use Rattle.core_laws.proofs.Cycles.{BeginsBeat, serves_beat}

-- ---- what a cycle begins

-- the cycle begins the next beat of the instruction
abbrev pub Begins : Op → Given → State → Type 0
Begins op g s = answered g.answers (asks_awake s) ≡ answered g.answers (asks_beat (works.Instruction op) s)

pub begins_on : (op : Op) (g : Given) (s : State) → s.work ≡ Some (works.Instruction op) → Begins op g s
unfolding asks_awake
begins_on op g s e = ap (λ w. answered g.answers (asks_next w s)) e

begins_decoded : (op : Op) (g : Given) (s : State) → IsPlain op s → answered g.answers (asks_decoded op s) ≡ answered g.answers (asks_beat (works.Instruction op) s)
unfolding asks_decoded
begins_decoded op g s plain =
    ap (λ b. answered g.answers (cond b (stopped (why.Bkpt s.number)) (cond (is_faulty op s) (asks_fault s) (asks_beat (works.Instruction op) s)))) plain.unbroken
    ∙ ap (λ b. answered g.answers (cond b (asks_fault s) (asks_beat (works.Instruction op) s))) plain.unfaulted

begins_second : (op : Op) (g : Given) (s : State) (long : Bool) → begins_long (half_at g.answers s.regs.pc) ≡ long → IsEncoded long g.answers s.regs.pc op
    → answered g.answers (asks_second (half_at g.answers s.regs.pc) s) ≡ answered g.answers (asks_decoded op s)
unfolding asks_second
begins_second op g s false e is =
    let first = half_at g.answers s.regs.pc in
    ap (λ b. answered g.answers (cond b (asks_half ((s.regs.pc + 2) % 2 ^ 32) s (λ second. asks_decoded (operation_of first second) s)) (asks_decoded (operation_of first 0) s))) e
    ∙ ap (λ o. answered g.answers (asks_decoded o s)) is
begins_second op g s true e is =
    let first = half_at g.answers s.regs.pc in
    let address = (s.regs.pc + 2) % 2 ^ 32 in
    ap (λ b. answered g.answers (cond b (asks_half address s (λ second. asks_decoded (operation_of first second) s)) (asks_decoded (operation_of first 0) s))) e
    ∙ ap (λ b. answered g.answers (cond b (Question (Half address) (λ half. asks_decoded (operation_of first (half % 2 ^ 16)) s)) (stopped (why.Outside (master_of s.number) address)))) is.0
    ∙ ap (λ o. answered g.answers (asks_decoded o s)) is.1

pub begins_first : (op : Op) (g : Given) (s : State) → IsFetched g.answers s.regs.pc op → answered g.answers (asks_first s) ≡ answered g.answers (asks_decoded op s)
unfolding asks_first
begins_first op g s fetched =
    ap (λ b. answered g.answers (cond b (Question (Half s.regs.pc) (λ half. asks_second (half % 2 ^ 16) s)) (stopped (why.Outside (master_of s.number) s.regs.pc)))) fetched.0
    ∙ begins_second op g s (begins_long (half_at g.answers s.regs.pc)) refl fetched.1

pub begins_boundary : (op : Op) (g : Given) (s : State) → IsAtBoundary s → IsFetched g.answers s.regs.pc op → IsPlain op s → Begins op g s
unfolding asks_awake asks_boundary
begins_boundary op g s at fetched plain =
    ap (λ w. answered g.answers (asks_next w s)) at.between
    ∙ ap (λ t. answered g.answers (asks_taken t s)) at.untaken
    ∙ begins_first op g s fetched
    ∙ begins_decoded op g s plain

pub begins_at : (op : Op) (g : Given) (s : State) (b : Beat) → Begins op g s → slice_get (beats_of op s.regs) s.beats_done ≡ Some b → BeginsBeat (works.Instruction op) b g s
unfolding asks_beat beat_of
begins_at op g s b begins at = begins ∙ ap (λ o. answered g.answers (in_beat (works.Instruction op) s (unwrap_or o Inner))) at

-- ---- lists

value_kept : (read : List ℕ) (v : Option ℕ) → length read + length (option_to_list v) ≤ 16 → with_value read v ≡ read ++ option_to_list v
value_kept read None h = sym (append-nil read)
value_kept read (Some x) h = ap (λ b. cond b (read ++ x ∷ []) read) (lt-ltb (length read) 16 (omega arith))

reads_access : (spot : Spot) (request : Request) (w : Option ℕ) (g : Given) (s : State) → length (option_to_list (read_at spot request w g s)) ≡ is_read w
reads_access spot request None g s = refl
reads_access spot request (Some write) g s = refl

reads_beat : (b : Beat) (g : Given) (s : State) → length (option_to_list (read_in b g s)) ≡ reads_one b
reads_beat Inner g s = refl
reads_beat (Access request) g s = reads_access (place_of request.address) request request.write g s

at_index : (xs : List Beat) (b : Beat) (ys : List Beat) → slice_get (xs ++ b ∷ ys) (length xs) ≡ Some b
at_index [] b ys = refl
at_index (x ∷ xs) b ys = at_index xs b ys

-- ---- an instruction that began in a state

module _ (op : Op) (s : State) (no_event : awaits_event op ≡ false) (no_interrupt : awaits_interrupt op ≡ false) where
  -- so many beats are over, and these values were read
  record Stands (index : ℕ) (read : List ℕ) (t : State) : Type 0 where
    awake : t.asleep ≡ false
    kept : t.regs ≡ s.regs
    so_far : t.beats_done ≡ index
    values : t.read ≡ read

  -- the same in the middle of it, and its end where no beats are left
  abbrev At : ℕ → List ℕ → List Beat → State → Type 0
  At index read [] t = IsOver op read s t
  At index read (b ∷ rest) t = Stands index read t × (t.work ≡ Some (works.Instruction op))

  -- the cycle makes this of the exceptions, and then the timer and the lines have their turn
  record Changes (lines cycle : ℕ) (e : Exceptions) (event : Bool) (t : State) : Type 0 where
    exceptions : t.nvic ≡ nvic.after_cycle lines cycle e
    event_after : t.event ≡ (event || nvic.is_event lines cycle e)

  -- a beat is over: the last one, or another one follows
  passed_beat : (done rest : List Beat) (b : Beat) (read next_read : List ℕ) (v : Option ℕ) (lines cycle : ℕ) (t : State) → beats_of op s.regs ≡ done ++ b ∷ rest
      → Stands (length done) read t → with_value read v ≡ next_read
      → let u = closed lines cycle (passed (works.Instruction op) v (record t { nvic = touched_by b t.nvic })) in
      At (length done + 1) next_read rest u × Changes lines cycle (changed_by op b rest t.nvic) t.event u
  unfolding passed passed_instruction closed ended
  passed_beat done [] b read next_read v lines cycle t split stands reads =
      let last : nat_lt (t.beats_done + 1) (length (beats_of op t.regs)) ≡ false =
      ap₂ (λ (i : ℕ) (r : Regs). nat_lt (i + 1) (length (beats_of op r))) stands.so_far stands.kept
      ∙ le-ltb (length done + 1) (length (beats_of op s.regs)) (omega (arith, ap length split ∙ length-append done (b ∷ []))) in
      let values : with_value t.read v ≡ next_read = ap (λ xs. with_value xs v) stands.values ∙ reads in
      rw last (
        record {
          awake = stands.awake;
          effect = ap₂ (λ r xs. effect_of op r xs) stands.kept values;
          then_returns = ap₂ (λ r xs. returning (return_of op r xs)) stands.kept values;
          first = refl;
          fresh = refl;
        },
        record {
          exceptions = refl;
          event_after = ap (λ x. (t.event && not x) || nvic.is_event lines cycle (called op (touched_by b t.nvic))) no_event
              ∙ ap (λ x. x || nvic.is_event lines cycle (called op (touched_by b t.nvic))) (and-true t.event);
        },
      )
  passed_beat done (c ∷ rest) b read next_read v lines cycle t split stands reads =
      let more : nat_lt (t.beats_done + 1) (length (beats_of op t.regs)) ≡ true =
      ap₂ (λ (i : ℕ) (r : Regs). nat_lt (i + 1) (length (beats_of op r))) stands.so_far stands.kept
      ∙ lt-ltb (length done + 1) (length (beats_of op s.regs)) (omega (arith, ap length split ∙ length-append done (b ∷ c ∷ rest))) in
      rw more (
        (record { awake = stands.awake; kept = stands.kept; so_far = ap (λ (i : ℕ). i + 1) stands.so_far; values = ap (λ xs. with_value xs v) stands.values ∙ reads }, refl),
        record { exceptions = refl; event_after = refl },
      )

  waiting_beat : (index : ℕ) (read : List ℕ) (rest : List Beat) (b : Beat) (lines cycle : ℕ) (t : State) → Stands index read t
      → At index read (b ∷ rest) (closed lines cycle (waiting (works.Instruction op) t)) × Changes lines cycle t.nvic t.event (closed lines cycle (waiting (works.Instruction op) t))
  unfolding closed
  waiting_beat index read rest b lines cycle t stands =
      ((record { awake = stands.awake; kept = stands.kept; so_far = stands.so_far; values = stands.values }, refl), record { exceptions = refl; event_after = refl })

  unpaused : (t : State) → is_paused_op op t ≡ false
  unpaused t =
      ap₂ (λ x y. (t.beats_done == 1) && ((x || y && not t.event) && not (wakes_of t.nvic))) no_interrupt no_event ∙ and-false (t.beats_done == 1)

  -- what the cycles come to while beats are left, or none
  record Comes (rest : List Beat) (xs : List Served) (read : List ℕ) (cycle : ℕ) (t : State) : Type 0 where
    goes_on : (bs : List Beat) → left_after op rest xs ≡ Some bs → GoesOnServed cycle xs t
    in_progress : (b : Beat) (bs : List Beat) → left_after op rest xs ≡ Some (b ∷ bs) → IsInProgress op s (after_all_served cycle xs t)
    wants : (bs : List Beat) → left_after op rest xs ≡ Some bs → wants_served cycle xs t ≡ wants_of_beats op rest xs
    exceptions : (bs : List Beat) → left_after op rest xs ≡ Some bs → (after_all_served cycle xs t).nvic ≡ exceptions_served op cycle rest xs t.nvic
    event : (bs : List Beat) → left_after op rest xs ≡ Some bs → (after_all_served cycle xs t).event ≡ event_served op cycle rest xs t.nvic t.event
    over : left_after op rest xs ≡ Some [] → IsOver op (read ++ reads_served op cycle rest xs t) s (after_all_served cycle xs t)

  -- one cycle, and what the others come to
  comes_by : (b : Beat) (rest done : List Beat) (read : List ℕ) (x : Served) (xs : List Served) (cycle : ℕ) (t : State)
      → beats_of op s.regs ≡ done ++ b ∷ rest → Stands (length done) read t → length read + reading (b ∷ rest) ≤ 16 → list_any is_refused (b ∷ rest) ≡ false → Begins op x.given t
      → ((rest' done' : List Beat) (read' : List ℕ) → beats_of op s.regs ≡ done' ++ rest' → At (length done') read' rest' (after_served cycle x t) → length read' + reading rest' ≤ 16
      → list_any is_refused rest' ≡ false → Comes rest' xs read' (cycle + 1) (after_served cycle x t))
      → Comes (b ∷ rest) (x ∷ xs) read cycle t
  comes_by b rest done read x xs cycle t split stands count granted begins then =
      let v = read_in b x.given t in
      let u = after_served cycle x t in
      let here : slice_get (beats_of op t.regs) t.beats_done ≡ Some b =
      ap₂ (λ (r : Regs) (k : ℕ). slice_get (beats_of op r) k) stands.kept stands.so_far ∙ ap (λ bs. slice_get bs (length done)) split ∙ at_index done b rest in
      let serves = serves_beat op b cycle x t stands.awake (or_parts (is_refused b) (list_any is_refused rest) granted).0 (begins_at op x.given t b begins here) in
      let unstopped : is_stop (wanted_in cycle x.given t) ≡ false = ap is_stop serves.wants ∙ goes b in
      elim (cases_Bool (is_over op b x)) [
        | inl o ↦
            let both = subst (λ z. At (length done + 1) (read ++ option_to_list v) rest z × Changes (lines_in x.given) cycle (changed_by op b rest t.nvic) t.event z) (sym (serves.passes (unpaused t) o))
            (passed_beat done rest b read (read ++ option_to_list v) v (lines_in x.given) cycle t split stands (value_kept read v (omega (arith, reads_beat b x.given t, count)))) in
            let c = both.1 in
            let h = then rest (done ++ b ∷ []) (read ++ option_to_list v) (split ∙ sym (append_assoc done (b ∷ []) rest))
            (subst (λ k. At k (read ++ option_to_list v) rest u) (sym (length-append done (b ∷ []))) both.0)
            (omega (arith, length-append read (option_to_list v), reads_beat b x.given t, count)) (or_parts (is_refused b) (list_any is_refused rest) granted).1 in
            let cut : (m : Option (List Beat)) → left_after op (b ∷ rest) (x ∷ xs) ≡ m → left_after op rest xs ≡ m =
            λ m q. ap (λ z. cond z (left_after op rest xs) (left_after op (b ∷ rest) xs)) (sym o) ∙ q in
            record {
              goes_on = λ bs q. (unstopped, h.goes_on bs (cut (Some bs) q));
              in_progress = λ c cs q. h.in_progress c cs (cut (Some (c ∷ cs)) q);
              wants = λ bs q. rw o (ap₂ (λ w ws. w ∷ ws) serves.wants (h.wants bs (cut (Some bs) q)));
              exceptions = λ bs q. rw o (h.exceptions bs (cut (Some bs) q) ∙ ap (λ y. exceptions_served op (cycle + 1) rest xs y) c.exceptions);
              event = λ bs q. rw o (h.event bs (cut (Some bs) q) ∙ ap₂ (λ y (z : Bool). event_served op (cycle + 1) rest xs y z) c.exceptions c.event_after);
              over = λ q. rw o (subst (λ ys. IsOver op ys s (after_all_served (cycle + 1) xs u)) (append_assoc read (option_to_list v) (reads_served op (cycle + 1) rest xs u)) (h.over (cut (Some []) q)));
            }
        | inr o ↦
            let both = subst (λ z. At (length done) read (b ∷ rest) z × Changes (lines_in x.given) cycle t.nvic t.event z) (sym (serves.waits o))
            (waiting_beat (length done) read rest b (lines_in x.given) cycle t stands) in
            let c = both.1 in
            let h = then (b ∷ rest) done read split both.0 count granted in
            let cut : (m : Option (List Beat)) → left_after op (b ∷ rest) (x ∷ xs) ≡ m → left_after op (b ∷ rest) xs ≡ m =
            λ m q. ap (λ z. cond z (left_after op rest xs) (left_after op (b ∷ rest) xs)) (sym o) ∙ q in
            record {
              goes_on = λ bs q. (unstopped, h.goes_on bs (cut (Some bs) q));
              in_progress = λ c cs q. h.in_progress c cs (cut (Some (c ∷ cs)) q);
              wants = λ bs q. rw o (ap₂ (λ w ws. w ∷ ws) serves.wants (h.wants bs (cut (Some bs) q)));
              exceptions = λ bs q. rw o (h.exceptions bs (cut (Some bs) q) ∙ ap (λ y. exceptions_served op (cycle + 1) (b ∷ rest) xs y) c.exceptions);
              event = λ bs q. rw o (h.event bs (cut (Some bs) q) ∙ ap₂ (λ y (z : Bool). event_served op (cycle + 1) (b ∷ rest) xs y z) c.exceptions c.event_after);
              over = λ q. rw o (h.over (cut (Some []) q));
            }
      ]
    where
      at_spot_goes : (request : Request) (p : Spot) → is_stop (want_at p request) ≡ false
      at_spot_goes request (spot.Ram index bank) = refl
      at_spot_goes request _ = refl

      signal_goes : (b : Bool) → is_stop (cond b want.Signal want.Nothing) ≡ false
      signal_goes true = refl
      signal_goes false = refl

      goes : (b : Beat) → is_stop (want_of_beat op b) ≡ false
      goes Inner = signal_goes (is_signal op)
      goes (Access request) = at_spot_goes request (place_of request.address)

  past : (xs : List Served) (read : List ℕ) (x : Served) (cycle : ℕ) (t : State) → Comes [] (x ∷ xs) read cycle t
  past xs read x cycle t = record {
    goes_on = λ bs q. absurd (cc);
    in_progress = λ b bs q. absurd (cc);
    wants = λ bs q. absurd (cc);
    exceptions = λ bs q. absurd (cc);
    event = λ bs q. absurd (cc);
    over = λ q. absurd (cc);
  }

  comes : (xs : List Served) (cycle : ℕ) (t : State) (rest done : List Beat) (read : List ℕ) → beats_of op s.regs ≡ done ++ rest → At (length done) read rest t
      → length read + reading rest ≤ 16 → list_any is_refused rest ≡ false → Comes rest xs read cycle t
  comes [] cycle t [] done read split at count granted = record {
    goes_on = λ bs q. tt;
    in_progress = λ b bs q. absurd (cc);
    wants = λ bs q. refl;
    exceptions = λ bs q. refl;
    event = λ bs q. refl;
    over = λ q. subst (λ ys. IsOver op ys s t) (sym (append-nil read)) at;
  }
  comes [] cycle t (b ∷ rest) done read split at count granted = record {
    goes_on = λ bs q. tt;
    in_progress = λ b bs q. (at.0.kept, at.1);
    wants = λ bs q. refl;
    exceptions = λ bs q. refl;
    event = λ bs q. refl;
    over = λ q. absurd (cc);
  }
  comes (x ∷ xs) cycle t [] done read split at count granted = past xs read x cycle t
  comes (x ∷ xs) cycle t (b ∷ rest) done read split at count granted =
      comes_by b rest done read x xs cycle t split at.0 count granted (begins_on op x.given t at.1) (λ rest' done' read'. comes xs (cycle + 1) (after_served cycle x t) rest' done' read')

  comes_all : (beats : List Beat) (x : Served) (xs : List Served) (cycle : ℕ) → beats_of op s.regs ≡ beats → IsAtBoundary s → reading beats ≤ 16 → list_any is_refused beats ≡ false
      → Begins op x.given s → Comes beats (x ∷ xs) [] cycle s
  comes_all [] x xs cycle split at count granted begins = past xs [] x cycle s
  comes_all (b ∷ rest) x xs cycle split at count granted begins =
      comes_by b rest [] [] x xs cycle s split (record { awake = at.awake; kept = refl; so_far = at.first; values = at.fresh }) (omega (arith, count)) granted begins
      (λ rest' done' read'. comes xs (cycle + 1) (after_served cycle x s) rest' done' read')

pub an_instruction_takes_its_beats_and_waits : AnInstructionTakesItsBeatsAndWaits
an_instruction_takes_its_beats_and_waits op s cycle x xs at fetched plain granted =
    let all = comes_all op s plain.no_event plain.no_interrupt (beats_of op s.regs) x xs cycle refl at (reading-le op s.regs) granted (begins_boundary op x.given s at fetched plain) in
    record { goes_on = all.goes_on; in_progress = all.in_progress; wants = all.wants; exceptions = all.exceptions; event = all.event; over = all.over }

-- ---- where each access is done at once

abbrev at_once : Given → Served
at_once g = record { given = g; done = true }

met : (b : Bool) → cond b true true ≡ true
met true = refl
met false = refl

-- the cycles of the one law are some of the other's
record Agrees (op : Op) (beats : List Beat) (gs : List Given) (cycle : ℕ) (s : State) : Type 0 where
  goes_on : GoesOnServed cycle (map at_once gs) s → GoesOn cycle gs s
  after : after_all_served cycle (map at_once gs) s ≡ after_cycles cycle gs s
  wants : wants_served cycle (map at_once gs) s ≡ wants_in cycle gs s
  reads : reads_served op cycle beats (map at_once gs) s ≡ reads_in cycle beats gs s
  left : length gs ≤ length beats → left_after op beats (map at_once gs) ≡ Some (drop (length gs) beats)
  wanted : length gs ≡ length beats → wants_of_beats op beats (map at_once gs) ≡ map (want_of_beat op) beats
  exceptions : (e : Exceptions) → exceptions_served op cycle beats (map at_once gs) e ≡ exceptions_in op cycle beats gs e
  event : (e : Exceptions) (v : Bool) → event_served op cycle beats (map at_once gs) e v ≡ event_in op cycle beats gs e v

agree : (op : Op) (beats : List Beat) (gs : List Given) (cycle : ℕ) (s : State) → Agrees op beats gs cycle s
agree op [] [] cycle s = record { goes_on = λ h. h; after = refl; wants = refl; reads = refl; left = λ h. refl; wanted = λ h. refl; exceptions = λ e. refl; event = λ e v. refl }
agree op (b ∷ rest) [] cycle s = record {
  goes_on = λ h. h;
  after = refl;
  wants = refl;
  reads = refl;
  left = λ h. refl;
  wanted = λ h. absurd (omega (arith, h));
  exceptions = λ e. refl;
  event = λ e v. refl;
}
agree op [] (g ∷ gs) cycle s =
    let h = agree op [] gs (cycle + 1) (after_cycle cycle g s) in
    record {
      goes_on = λ k. (k.0, h.goes_on k.1);
      after = h.after;
      wants = ap (λ ws. wanted_in cycle g s ∷ ws) h.wants;
      reads = refl;
      left = λ k. absurd (omega (arith, k));
      wanted = λ k. refl;
      exceptions = λ e. refl;
      event = λ e v. refl;
    }
agree op (b ∷ rest) (g ∷ gs) cycle s =
    let h = agree op rest gs (cycle + 1) (after_cycle cycle g s) in
    let e = met (is_access (want_of_beat op b)) in
    record {
      goes_on = λ k. (k.0, h.goes_on k.1);
      after = h.after;
      wants = ap (λ ws. wanted_in cycle g s ∷ ws) h.wants;
      reads = rw e (ap (λ vs. option_to_list (read_in b g s) ++ vs) h.reads);
      left = λ k. rw e (h.left (omega (arith, k)));
      wanted = λ k. rw e (ap (λ ws. want_of_beat op b ∷ ws) (h.wanted (omega (arith, k))));
      exceptions = λ y. rw e (h.exceptions _);
      event = λ y v. rw e (h.event _ _);
    }

pub an_instruction_takes_its_beats : AnInstructionTakesItsBeats
an_instruction_takes_its_beats op s cycle g gs at fetched plain granted =
    let all = an_instruction_takes_its_beats_and_waits op s cycle (at_once g) (map at_once gs) at fetched plain granted in
    let beats = beats_of op s.regs in
    let same = agree op beats (g ∷ gs) cycle s in
    let none : length (g ∷ gs) ≡ length beats → left_after op beats (map at_once (g ∷ gs)) ≡ Some [] =
    λ h. same.left (omega (arith, h)) ∙ ap Some (drop_all (length (g ∷ gs)) beats (omega (arith, h))) in
    record {
      goes_on = λ h. same.goes_on (all.goes_on _ (same.left h));
      in_progress = λ h. subst (λ t. IsInProgress op s t) same.after (in_middle (length (g ∷ gs)) beats h (λ b bs q. all.in_progress b bs (same.left (omega (arith, h)) ∙ ap Some q)));
      wants = λ h. sym same.wants ∙ all.wants [] (none h) ∙ same.wanted h;
      exceptions = λ h. sym (ap (λ (t : State). t.nvic) same.after) ∙ all.exceptions _ (same.left h) ∙ same.exceptions s.nvic;
      event = λ h. sym (ap (λ (t : State). t.event) same.after) ∙ all.event _ (same.left h) ∙ same.event s.nvic s.event;
      over = λ h. subst (λ t. IsOver op (reads_in cycle beats (g ∷ gs) s) s t) same.after (subst (λ vs. IsOver op vs s (after_all_served cycle (map at_once (g ∷ gs)) s)) same.reads (all.over (none h)));
    }
  where
    in_middle : {A : Type 0} (n : ℕ) (bs : List Beat) → n < length bs → ((b : Beat) (rest : List Beat) → drop n bs ≡ b ∷ rest → A) → A
    in_middle n [] h f = absurd (omega (arith, h))
    in_middle zero (b ∷ bs) h f = f b bs refl
    in_middle (suc n) (b ∷ bs) h f = in_middle n bs (omega (arith, h)) f
