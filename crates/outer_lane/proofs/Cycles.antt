-- The peripherals over many cycles: each part goes its own way as long as the pads stay.
use Rattle.std.proofs.Common.{◌≡◌, ℕ, zero, suc, ◌+◌, ◌-◌, ◌^◌, ◌<◌, ◌≤◌, ◌==◌, Bool, true, false, List, [], ◌∷◌, ◌++◌, length, Option, None, refl, sym, ap, subst, ◌∙◌, arith}
use Rattle.std.specs.Prelude.{◌≢◌}
use Rattle.std.proofs.lemmas.Bool.Decides.{nat_tests}
use Rattle.std.specs.List.{filter}
use Rattle.rp_base.specs.declared.map.Block.{Block}
use Rattle.rp_base.specs.declared.map.Block.TheVariants as block
use Rattle.rp_base.specs.declared.resettable.Resettable.{Resettable}
use Rattle.rp_base.specs.Held.{unless_held, stays_if}
use Rattle.rp_base.specs.Resettable.{unless_held_becomes}
use Rattle.rp_base.proofs.Rows.{held as all_held}
use Rattle.io_bank.specs.declared.outputs.Outs.{Outs}
use Rattle.io_bank.specs.State.{State as Bank}
use Rattle.io_bank.specs.Edges.{edges_of}
use Rattle.io_bank.specs.Levels.{by_sets, receive_level, uart_outputs}
use Rattle.io_bank.specs.Step.{after_step, with_edges, with_levels}
use Rattle.lane_look.specs.declared.device.Wires.{Wires}
use Rattle.lane_look.specs.Device.{DeviceMeaning, no_wires}
use Rattle.lane_look.specs.Quiet.{IsDeviceQuiet, device_after}
use Rattle.lane_look.specs.Times.{times}
use Rattle.lane_look.proofs.Times.{times_rest, times_none, times_closed}
use Rattle.pin_script.specs.declared.entry.Entry.{Entry}
use Rattle.pin_script.specs.declared.script.Drives.{Drives}
use Rattle.pin_script.specs.Levels.{is_due, level_after, drive_of, drive_at}
use Rattle.pin_script.specs.Reading.{cycle_at, IsDueBefore}
use Rattle.pin_script.specs.Script.{IsScript}
use Rattle.pin_script.proofs.Due.{due_are_first, cycle_at-get_or}
use Rattle.rp_timer.specs.State.{State as TimerState, lines_of}
use Rattle.rp_timer.specs.Step as timer
use Rattle.rp_timer.specs.Quiet as timer_quiet
use Rattle.rp_timer.specs.Words as timer_words
use Rattle.rp_uart.specs.State.{State as SerialPort}
use Rattle.rp_uart.specs.Step.{output_of, pacing_of}
use Rattle.rp_uart.specs.Step as uart
use Rattle.rp_uart.specs.Quiet as uart_quiet
use Rattle.rp_uart.specs.Interrupts.{is_line_high}
use Rattle.rp_uart.specs.Words.{word_of}
use Rattle.outer_lane.specs.declared.world.SeenOutputs.{SeenOutputs}
use Rattle.outer_lane.specs.Lines.{outer_lines, outer_pacing}
use Rattle.outer_lane.specs.Setting.{Setting}
use Rattle.outer_lane.specs.State.{State}
use Rattle.outer_lane.specs.Step.{either, outs_of, outside_of, levels_by, pads_by, next_by, next, marked_by, marked, timer_after, byte_of, wires_by, words_by, wires_of}
use Rattle.outer_lane.specs.BroughtUp.{blocks_of, blocks_passed, AreBlocksQuiet}
use Rattle.outer_lane.specs.Rest.{pads_driven}
use Rattle.outer_lane.specs.Quiet.{seen_in, outer_step, outer_after, held_blocks, quiet_mark, IsQuiet, is_lasting_read, uart_cycle, uart_word, words_cycle, words_after, IsSettled, IsTimerQuiet, IsUartQuiet, AreWordsQuiet, IsScriptQuiet}
use Rattle.outer_lane.specs.declared.blocks.Blocks.{Blocks}
use Rattle.outer_lane.proofs.BroughtUp.{quiet_less}
use Rattle.outer_lane.specs.Words.{own_word}
use Rattle.rp_uart.proofs.Passing.{quiet-none}
use Rattle.rp_uart.proofs.PureReads.{pure_later}
use Rattle.io_bank.proofs.Routed.{levels_same}

-- ---- a block beside its bit of RESETS

go : {T : Type 0} (held : Bool) (block x : T) (step : T → T) → unless_held_becomes (unless_held_becomes (record { block = block; held = held }) x) (step (unless_held_becomes (record { block = block; held = held }) x).block) ≡ unless_held_becomes (record { block = block; held = held }) (step x)
go true block x step = refl
go false block x step = refl

none_go : {T : Type 0} (held : Bool) (block : T) → record { block = block; held = held } ≡ unless_held_becomes (record { block = block; held = held }) block
none_go true block = refl
none_go false block = refl

-- what stays of a block that is held, and as it goes of any other one
kept_by : {T A : Type 0} (f : T → A) (held : Bool) (x y : T) → (held ≡ false → f y ≡ f x) → f (stays_if held x y) ≡ f x
kept_by f true x y q = refl
kept_by f false x y q = q refl

-- ---- the timer

pub timer_cycles : (t : Resettable TimerState) (cycle k : ℕ) →
    times timer_after cycle k t ≡ unless_held_becomes t (timer.after_cycles cycle k t.block)
timer_cycles t cycle k =
    times_closed timer_after cycle t k (λ n. unless_held_becomes t (timer.after_cycles cycle n t.block))
    (sym (none_go t.held t.block))
    (λ n lt. go t.held t.block (timer.after_cycles cycle n t.block) (timer.after_step (cycle + n))) k (omega arith)

pub timer_stays : (t : Resettable TimerState) (cycle n : ℕ) → (t.held ≡ false → timer_quiet.IsQuiet t.block cycle n) →
    IsTimerQuiet t cycle n
timer_stays t cycle n q = record {
  lines = λ k le.
      ap (λ (x : Resettable TimerState). lines_of x.block) (timer_cycles t cycle k)
      ∙ kept_by lines_of t.held t.block _ (λ e. (q e).lines k le);
  held = λ k le. ap (λ (x : Resettable TimerState). x.held) (timer_cycles t cycle k);
}

read_by : (offset : ℕ) (held : Bool) (x y : TimerState) →
    unless_held held (timer_words.word_of offset y) ≡ unless_held held (timer_words.word_of offset (stays_if held x y))
read_by offset true x y = (all_held timer_words.timer_rows).reads offset tt y ∙ sym ((all_held timer_words.timer_rows).reads offset tt x)
read_by offset false x y = refl

pub timer_reads : (t : Resettable TimerState) (cycle k offset : ℕ) →
    unless_held t.held (timer_words.word_of offset (timer.after_cycles cycle k t.block))
    ≡ unless_held (times timer_after cycle k t).held (timer_words.word_of offset (times timer_after cycle k t).block)
timer_reads t cycle k offset = rw (timer_cycles t cycle k) (read_by offset t.held t.block (timer.after_cycles cycle k t.block))

-- ---- a UART

pub uart_cycles : (line : Bool) (u : Resettable SerialPort) (cycle k : ℕ) →
    times (uart_cycle line) cycle k u ≡ unless_held_becomes u (uart_quiet.after_cycles line k u.block)
uart_cycles line u cycle k =
    times_closed (uart_cycle line) cycle u k (λ n. unless_held_becomes u (uart_quiet.after_cycles line n u.block))
    (sym (none_go u.held u.block))
    (λ n lt. go u.held u.block (uart_quiet.after_cycles line n u.block) (uart.after_step line)) k (omega arith)

uart_keeps : {A : Type 0} (f : SerialPort → A) (line : Bool) (u : Resettable SerialPort) (cycle k : ℕ) →
    (u.held ≡ false → f (uart_quiet.after_cycles line k u.block) ≡ f u.block) →
    f (times (uart_cycle line) cycle k u).block ≡ f u.block
uart_keeps f line u cycle k q =
    ap (λ (x : Resettable SerialPort). f x.block) (uart_cycles line u cycle k) ∙ kept_by f u.held u.block _ q

later_by : (held : Bool) (x y : SerialPort) → (held ≡ false → uart_quiet.IsLater x y) → uart_quiet.IsLater x (stays_if held x y)
later_by true x y q = refl
later_by false x y q = q refl

no_byte : (held : Bool) (x y : SerialPort) → (held ≡ false → uart.sent_byte y ≡ None) →
    byte_of (record { block = stays_if held x y; held = held }) ≡ None
no_byte true x y q = refl
no_byte false x y q = q refl

pub uart_stays : (line : Bool) (u : Resettable SerialPort) (cycle n : ℕ) → (u.held ≡ false → uart_quiet.IsQuiet line u.block n) →
    IsUartQuiet line u cycle n
uart_stays line u cycle n q = record {
  silent = λ k lt. ap byte_of (uart_cycles line u cycle k) ∙ no_byte u.held u.block _ (λ e. (q e).silent k lt);
  output = λ k le. uart_keeps output_of line u cycle k (λ e. (q e).output k le);
  interrupt = λ k le. uart_keeps is_line_high line u cycle k (λ e. (q e).lines k le);
  pacing = λ k le. uart_keeps pacing_of line u cycle k (λ e. (q e).pacing k le);
  held = λ k le. ap (λ (x : Resettable SerialPort). x.held) (uart_cycles line u cycle k);
  words = λ k le offset.
      ap (uart_word offset) (uart_cycles line u cycle k)
      ∙ ap (unless_held u.held) (kept_by (word_of offset) u.held u.block _ (λ e. (q e).words k le offset));
  later = λ k le. rw (uart_cycles line u cycle k) (later_by u.held u.block _ (λ e. (q e).later k le));
}

-- each of them for no cycle
pub quiet_none : (line0 line1 : Bool) (b : Blocks) (first : ℕ) → AreBlocksQuiet line0 line1 b first 0
quiet_none line0 line1 b first = record {
  timer = timer_stays b.timer first 0 (λ e. record { lines = λ k le. let z : k ≡ 0 = omega arith in rw z refl });
  uart0 = uart_stays line0 b.uart0 first 0 (λ e. quiet-none line0 b.uart0.block);
  uart1 = uart_stays line1 b.uart1 first 0 (λ e. quiet-none line1 b.uart1.block);
}

-- ---- the device

fits_go : (d : DeviceMeaning) (words : List ℕ) (c levels : ℕ) → length words ≡ d.count → words_by d words c levels ≡ d.after_step words c levels
unfolding words_by
fits_go d words c levels e = let t : (length words == d.count) ≡ true = grind (arith, nat_tests) in rw t refl

wires_go : (d : DeviceMeaning) (words : List ℕ) (c levels : ℕ) → length words ≡ d.count → wires_by d words c levels ≡ d.wires words c levels
unfolding wires_by
wires_go d words c levels e = let t : (length words == d.count) ≡ true = grind (arith, nat_tests) in rw t refl

-- as long as the number of words stays, the words are the device's own
abbrev IsOwn : DeviceMeaning → List ℕ → ℕ → ℕ → ℕ → Type 0
IsOwn d words cycle levels k = times (words_cycle d levels) cycle k words ≡ device_after d levels cycle k words

words_fit : (d : DeviceMeaning) (words : List ℕ) (cycle levels n : ℕ) →
    ((k : ℕ) → k ≤ n → IsOwn d words cycle levels k → length (device_after d levels cycle k words) ≡ d.count) →
    (k : ℕ) → k ≤ n → IsOwn d words cycle levels k
unfolding times
words_fit d words cycle levels n fits zero le = refl
words_fit d words cycle levels n fits (suc k) le =
    let here = words_fit d words cycle levels n fits k (omega arith) in
    ap (words_cycle d levels (cycle + k)) here
    ∙ fits_go d (device_after d levels cycle k words) (cycle + k) levels (fits k (omega arith) here)

pub words_fitting : (d : DeviceMeaning) (words slice : List ℕ) (cycle levels n : ℕ) → length words ≡ d.count → slice ≡ words →
    IsDeviceQuiet d slice cycle levels n → AreWordsQuiet d words cycle levels n
words_fitting d words slice cycle levels n fits e of_slice =
    let q : IsDeviceQuiet d words cycle levels n = rw e at of_slice in
    let at = words_fit d words cycle levels n (λ k le here. q.words k le) in
    record {
      drives = λ k lt.
          ap (λ (x : List ℕ). wires_by d x (cycle + k) levels) (at k (omega arith))
          ∙ wires_go d (device_after d levels cycle k words) (cycle + k) levels (q.words k (omega arith))
          ∙ q.drives k lt ∙ sym (wires_go d words cycle levels fits);
      count = λ k le. ap length (at k le) ∙ q.words k le ∙ sym fits;
    }

unfit_go : (d : DeviceMeaning) (words : List ℕ) (c levels : ℕ) → (length words == d.count) ≡ false → words_by d words c levels ≡ words
unfolding words_by
unfit_go d words c levels e = rw e refl

unfit_wires : (d : DeviceMeaning) (words : List ℕ) (c levels : ℕ) → (length words == d.count) ≡ false → wires_by d words c levels ≡ no_wires
unfolding wires_by
unfit_wires d words c levels e = rw e refl

words_stay : (d : DeviceMeaning) (words : List ℕ) (cycle levels n : ℕ) → (length words == d.count) ≡ false →
    times (words_cycle d levels) cycle n words ≡ words
words_stay d words cycle levels n unfit = times_rest (words_cycle d levels) cycle n words (λ c. unfit_go d words c levels unfit)

pub words_unfit : (d : DeviceMeaning) (words : List ℕ) (cycle levels n : ℕ) → length words ≢ d.count →
    AreWordsQuiet d words cycle levels n
words_unfit d words cycle levels n other =
    let unfit : (length words == d.count) ≡ false = grind (arith, nat_tests) in
    let at : (k : ℕ) → times (words_cycle d levels) cycle k words ≡ words = λ k. words_stay d words cycle levels k unfit in
    record {
      drives = λ k lt.
          ap (λ (x : List ℕ). wires_by d x (cycle + k) levels) (at k)
          ∙ unfit_wires d words (cycle + k) levels unfit ∙ sym (unfit_wires d words cycle levels unfit);
      count = λ k le. ap length (at k);
    }

after_go : (b : Bool) (d : DeviceMeaning) (words : List ℕ) (cycle levels n : ℕ) → (length words == d.count) ≡ b → ((k : ℕ) → k ≤ n → length (times (words_cycle d levels) cycle k words) ≡ length words) → words_after d levels cycle n words ≡ times (words_cycle d levels) cycle n words
unfolding words_after
after_go true d words cycle levels n e kept =
    let fits : length words ≡ d.count = grind (arith, nat_tests) in
    rw e (sym (words_fit d words cycle levels n (λ k le here. sym (ap length here) ∙ kept k le ∙ fits) n (omega arith)))
after_go false d words cycle levels n e kept = rw e (sym (words_stay d words cycle levels n e))

pub words_after_is : (d : DeviceMeaning) (words : List ℕ) (cycle levels n : ℕ) → ((k : ℕ) → k ≤ n → length (times (words_cycle d levels) cycle k words) ≡ length words) → words_after d levels cycle n words ≡ times (words_cycle d levels) cycle n words
words_after_is d words cycle levels n kept = after_go (length words == d.count) d words cycle levels n refl kept

-- ---- the script

pub ruleset entry_cycle = (cycle_at-get_or)

pub script_waits : (script : List Entry) (cycle due n : ℕ) → IsScript script → due ≤ length script → IsDueBefore script cycle due → (due < length script → cycle < cycle_at script due) → (due < length script → cycle + n ≤ cycle_at script due) → IsScriptQuiet script cycle n
script_waits script cycle due n s within before after late k lt =
    due_are_first script (cycle + k) due s within (λ low. let b : cycle_at script (due - 1) ≤ cycle = before low in omega arith)
    (λ low. let l : cycle + n ≤ cycle_at script due = late low in omega arith)
    ∙ sym (due_are_first script cycle due s within before after)

-- by the entries as a slice
pub script_waits_by : (script slice : List Entry) (cycle due n : ℕ) → slice ≡ script → IsScript script → due ≤ length slice → IsDueBefore slice cycle due → (due < length slice → cycle < cycle_at slice due) → (due < length slice → cycle + n ≤ cycle_at slice due) → IsScriptQuiet script cycle n
script_waits_by script slice cycle due n e s within before after late =
    script_waits script cycle due n s (rw e at within) (rw e at before) (rw e at after) (rw e at late)

same_outside : (script : List Entry) (wires : Wires) (cycle later : ℕ) → filter (is_due later) script ≡ filter (is_due cycle) script → (pin : ℕ) → outside_of script wires later pin ≡ outside_of script wires cycle pin
unfolding outside_of drive_at
same_outside script wires cycle later e pin =
    ap (λ (es : List Entry). either (drive_of (level_after es pin)) (by_sets wires.mask wires.level pin)) e

-- ---- all of them

-- the state in which each part has gone so far on its own
abbrev pub passed : Setting → SeenOutputs → ℕ → State → State
passed w seen k s = record s {
  timer = times timer_after seen.cycle k s.timer;
  uart0 = times (uart_cycle (receive_level 0 s.pads)) seen.cycle k s.uart0;
  uart1 = times (uart_cycle (receive_level 1 s.pads)) seen.cycle k s.uart1;
  device = times (words_cycle w.device s.pads.current) seen.cycle k s.device;
}

with_same : (x : State) (pads : Bank) (irq : ℕ) → x.pads ≡ pads → x.irq ≡ irq → x ≡ record x { pads = pads; irq = irq }
with_same x pads irq e f = rw (← e, ← f) refl

closed_step : (w : Setting) (seen : SeenOutputs) (s : State) (k : ℕ) → outer_after w seen k s ≡ passed w seen k s → (outer_step w seen (seen.cycle + k) (passed w seen k s)).pads ≡ s.pads → (outer_step w seen (seen.cycle + k) (passed w seen k s)).irq ≡ s.irq → outer_after w seen (suc k) s ≡ passed w seen (suc k) s
unfolding times next next_by
closed_step w seen s k here pads irq =
    ap (outer_step w seen (seen.cycle + k)) here
    ∙ with_same (outer_step w seen (seen.cycle + k) (passed w seen k s)) s.pads s.irq pads irq

-- where the peripherals are quiet, each part has gone on its own
pub quiet_closed : (w : Setting) (seen : SeenOutputs) (s : State) (n : ℕ) → IsQuiet w seen s n → (k : ℕ) → k ≤ n → outer_after w seen k s ≡ passed w seen k s
unfolding times
quiet_closed w seen s n q zero le = refl
quiet_closed w seen s n q (suc k) le =
    let here = quiet_closed w seen s n q k (omega arith) in
    let there : outer_step w seen (seen.cycle + k) (passed w seen k s) ≡ outer_after w seen (suc k) s =
    sym (ap (outer_step w seen (seen.cycle + k)) here) in
    closed_step w seen s k here
    (ap (λ (x : State). x.pads) there ∙ q.pads (suc k) le)
    (ap (λ (x : State). x.irq) there ∙ q.irq (suc k) le)

-- the number of the device's words, as its own cycles leave it
pub quiet_count : (w : Setting) (seen : SeenOutputs) (s : State) (n : ℕ) → IsQuiet w seen s n → (k : ℕ) → k ≤ n → length (times (words_cycle w.device s.pads.current) seen.cycle k s.device) ≡ length s.device
quiet_count w seen s n q k le =
    sym (ap (λ (x : State). length x.device) (quiet_closed w seen s n q k le)) ∙ q.words k le

-- what the parts leave, one after another
pub passed_all : (w : Setting) (seen : SeenOutputs) (s a b : State) (n : ℕ) → IsQuiet w seen s n → a ≡ blocks_passed seen.cycle n s →
    b ≡ record a { device = words_after w.device a.pads.current seen.cycle n a.device } → b ≡ outer_after w seen n s
passed_all w seen s a b n q ea eb =
    eb
    ∙ ap (λ (x : State). record x { device = words_after w.device x.pads.current seen.cycle n x.device }) ea
    ∙ ap (λ (x : List ℕ). record (passed w seen n s) { device = x })
    (words_after_is w.device s.device seen.cycle s.pads.current n (quiet_count w seen s n q))
    ∙ sym (quiet_closed w seen s n q n (omega arith))

-- what makes them quiet
pub record ArePartsQuiet (w : Setting) (seen : SeenOutputs) (s : State) (n : ℕ) : Type 0 where
  pub timer_quiet : IsTimerQuiet s.timer seen.cycle n
  pub uart0_quiet : IsUartQuiet (receive_level 0 s.pads) s.uart0 seen.cycle n
  pub uart1_quiet : IsUartQuiet (receive_level 1 s.pads) s.uart1 seen.cycle n
  pub words_quiet : AreWordsQuiet w.device s.device seen.cycle s.pads.current n
  pub script_quiet : IsScriptQuiet w.script seen.cycle n
  pub settled : after_step (outs_of (wires_of w.device seen.cycle s) seen s) (outside_of w.script (wires_of w.device seen.cycle s) seen.cycle) s.pads ≡ s.pads
  pub same_irq : (wires_of w.device seen.cycle s).irq ≡ s.irq

-- what the device drives in cycle k
abbrev wires_at : Setting → SeenOutputs → ℕ → State → Wires
wires_at w seen k s = wires_by w.device (times (words_cycle w.device s.pads.current) seen.cycle k s.device) (seen.cycle + k) s.pads.current

abbrev outs_with : Wires → SeenOutputs → State → List ℕ → Outs
outs_with wires seen s uart = record { sio = s.sio; pio0 = seen.pio0; pio1 = seen.pio1; pwm = wires.pwm ∷ (2 ^ 30 - 1) ∷ []; uart = uart }

uart_outs : (a b c d : Bool) → a ≡ c → b ≡ d → uart_outputs a b ≡ uart_outputs c d
uart_outs a b c d e f = rw (e, f) refl

pads_stay : (w : Setting) (seen : SeenOutputs) (s : State) (n k : ℕ) → ArePartsQuiet w seen s n → k < n → pads_by w.script (wires_at w seen k s) (seen_in seen (seen.cycle + k)) (passed w seen k s) ≡ s.pads
unfolding pads_by
pads_stay w seen s n k p lt =
    let wires = wires_of w.device seen.cycle s in
    let cycle = seen.cycle + k in
    let outputs : uart_outputs (output_of (passed w seen k s).uart0.block) (output_of (passed w seen k s).uart1.block) ≡ uart_outputs (output_of s.uart0.block) (output_of s.uart1.block) =
    uart_outs _ _ _ _ (p.uart0_quiet.output k (omega arith)) (p.uart1_quiet.output k (omega arith)) in
    ap (λ (x : Wires). after_step (outs_of x (seen_in seen cycle) (passed w seen k s)) (outside_of w.script x cycle) s.pads) (p.words_quiet.drives k lt)
    ∙ ap (λ (x : List ℕ). after_step (outs_with wires seen s x) (outside_of w.script wires cycle) s.pads) outputs
    ∙ ap (λ (x : ℕ). with_levels x (with_edges (edges_of s.pads) s.pads))
    (levels_same (outs_of wires seen s) (outside_of w.script wires cycle) (outside_of w.script wires seen.cycle) s.pads
    (λ pin low. same_outside w.script wires seen.cycle cycle (p.script_quiet k lt) pin))
    ∙ p.settled

parts_closed : (w : Setting) (seen : SeenOutputs) (s : State) (n : ℕ) → ArePartsQuiet w seen s n → (k : ℕ) → k ≤ n → outer_after w seen k s ≡ passed w seen k s
unfolding times next next_by
parts_closed w seen s n p zero le = refl
parts_closed w seen s n p (suc k) le =
    closed_step w seen s k (parts_closed w seen s n p k (omega arith)) (pads_stay w seen s n k p (omega arith))
    (ap (λ (x : Wires). x.irq) (p.words_quiet.drives k (omega arith)) ∙ p.same_irq)

mark_go : (a b : Option ℕ) (x : ℕ) (s : State) → a ≡ None → b ≡ None → x ≡ s.pads.current → record { uart = a ∷ b ∷ []; pads = x } ≡ quiet_mark s
mark_go a b x s e f g = rw (e, f, g) refl

passed_mark : (w : Setting) (seen : SeenOutputs) (s : State) (n k : ℕ) → ArePartsQuiet w seen s n → k < n → marked w (passed w seen k s) (seen_in seen (seen.cycle + k)) ≡ quiet_mark s
unfolding marked marked_by levels_by pads_by
passed_mark w seen s n k p lt =
    mark_go _ _ _ s (p.uart0_quiet.silent k lt) (p.uart1_quiet.silent k lt) (ap (λ (x : Bank). x.current) (pads_stay w seen s n k p lt))

passed_lines : (w : Setting) (seen : SeenOutputs) (s : State) (n k core : ℕ) → ArePartsQuiet w seen s n → k ≤ n → outer_lines core (passed w seen k s) ≡ outer_lines core s
unfolding outer_lines
passed_lines w seen s n k core p le = rw (p.timer_quiet.lines k le, p.uart0_quiet.interrupt k le, p.uart1_quiet.interrupt k le) refl

two_pacings : (a b c d : List ℕ) → a ≡ c → b ≡ d → a ++ b ≡ c ++ d
two_pacings a b c d e f = rw (e, f) refl

passed_pacing : (w : Setting) (seen : SeenOutputs) (s : State) (n k : ℕ) → ArePartsQuiet w seen s n → k ≤ n → outer_pacing (passed w seen k s) ≡ outer_pacing s
passed_pacing w seen s n k p le =
    two_pacings (pacing_of (passed w seen k s).uart0.block) (pacing_of (passed w seen k s).uart1.block) (pacing_of s.uart0.block) (pacing_of s.uart1.block)
    (p.uart0_quiet.pacing k le) (p.uart1_quiet.pacing k le)

passed_held : (w : Setting) (seen : SeenOutputs) (s : State) (n k : ℕ) → ArePartsQuiet w seen s n → k ≤ n → held_blocks (passed w seen k s) ≡ held_blocks s
passed_held w seen s n k p le = rw (p.timer_quiet.held k le, p.uart0_quiet.held k le, p.uart1_quiet.held k le) refl

-- ---- what words read as

passed_lasts : (w : Setting) (seen : SeenOutputs) (s : State) (n k : ℕ) → ArePartsQuiet w seen s n → k ≤ n → (block : Block) (offset : ℕ) → is_lasting_read block offset (passed w seen k s) ≡ is_lasting_read block offset s
passed_lasts w seen s n k p le block.Uart0 offset = pure_later s.uart0.block _ offset (p.uart0_quiet.later k le)
passed_lasts w seen s n k p le block.Uart1 offset = pure_later s.uart1.block _ offset (p.uart1_quiet.later k le)
passed_lasts w seen s n k p le other offset = refl

passed_reads : (w : Setting) (seen : SeenOutputs) (s : State) (n k : ℕ) → ArePartsQuiet w seen s n → k ≤ n → (block : Block) (offset : ℕ) → is_lasting_read block offset s ≡ true
    → own_word block offset (passed w seen k s) ≡ own_word block offset s
unfolding own_word
passed_reads w seen s n k p le block.Uart0 offset e = p.uart0_quiet.words k le offset
passed_reads w seen s n k p le block.Uart1 offset e = p.uart1_quiet.words k le offset
passed_reads w seen s n k p le block.Timer offset e = cc e
passed_reads w seen s n k p le other offset e = refl

pub parts_quiet : (w : Setting) (seen : SeenOutputs) (s : State) (n : ℕ) → ArePartsQuiet w seen s n → IsQuiet w seen s n
parts_quiet w seen s n p =
    let at = parts_closed w seen s n p in
    record {
      mark = λ k lt. ap (λ (x : State). marked w x (seen_in seen (seen.cycle + k))) (at k (omega arith)) ∙ passed_mark w seen s n k p lt;
      pads = λ k le. ap (λ (x : State). x.pads) (at k le);
      lines = λ k le core. ap (outer_lines core) (at k le) ∙ passed_lines w seen s n k core p le;
      pacing = λ k le. ap outer_pacing (at k le) ∙ passed_pacing w seen s n k p le;
      irq = λ k le. ap (λ (x : State). x.irq) (at k le);
      sio = λ k le. ap (λ (x : State). x.sio) (at k le);
      held = λ k le. ap held_blocks (at k le) ∙ passed_held w seen s n k p le;
      words = λ k le. ap (λ (x : State). length x.device) (at k le) ∙ p.words_quiet.count k le;
      lasts = λ k le block offset. ap (is_lasting_read block offset) (at k le) ∙ passed_lasts w seen s n k p le block offset;
      reads = λ k le block offset e. ap (own_word block offset) (at k le) ∙ passed_reads w seen s n k p le block offset e;
    }

-- ---- for no cycle, and for fewer

pub quiet_zero : (w : Setting) (seen : SeenOutputs) (s : State) → IsQuiet w seen s 0
quiet_zero w seen s =
    let at : (k : ℕ) → k ≤ 0 → outer_after w seen k s ≡ s = λ k le. times_none (outer_step w seen) seen.cycle k s (omega arith) in
    record {
      mark = λ k lt. absurd (omega arith);
      pads = λ k le. ap (λ (x : State). x.pads) (at k le);
      lines = λ k le core. ap (outer_lines core) (at k le);
      pacing = λ k le. ap outer_pacing (at k le);
      irq = λ k le. ap (λ (x : State). x.irq) (at k le);
      sio = λ k le. ap (λ (x : State). x.sio) (at k le);
      held = λ k le. ap held_blocks (at k le);
      words = λ k le. ap (λ (x : State). length x.device) (at k le);
      lasts = λ k le block offset. ap (is_lasting_read block offset) (at k le);
      reads = λ k le block offset e. ap (own_word block offset) (at k le);
    }

-- by the number of cycles that each part is quiet for
pub least_quiet : (w : Setting) (seen : SeenOutputs) (s : State) (line0 line1 : Bool) (inside script words n : ℕ) →
    line0 ≡ receive_level 0 s.pads → line1 ≡ receive_level 1 s.pads → AreBlocksQuiet line0 line1 (blocks_of s) seen.cycle inside →
    IsScriptQuiet w.script seen.cycle script → AreWordsQuiet w.device s.device seen.cycle s.pads.current words →
    n ≤ inside → n ≤ script → n ≤ words → IsSettled w seen s → IsQuiet w seen s n
least_quiet w seen s line0 line1 inside script words n e0 e1 q x y li ls lw settled =
    let b = quiet_less line0 line1 (blocks_of s) seen.cycle inside n q li in
    parts_quiet w seen s n (record {
      timer_quiet = b.timer;
      uart0_quiet = subst (λ (line : Bool). IsUartQuiet line s.uart0 seen.cycle n) e0 b.uart0;
      uart1_quiet = subst (λ (line : Bool). IsUartQuiet line s.uart1 seen.cycle n) e1 b.uart1;
      words_quiet = record { drives = λ k lt. y.drives k (omega arith); count = λ k lt. y.count k (omega arith) };
      script_quiet = λ k lt. x k (omega arith);
      settled = settled.pads;
      same_irq = settled.irq;
    })

-- by what was stepped on copies
pub settled_by : (w : Setting) (seen : SeenOutputs) (s : State) (wires : Wires) (drives : Drives) → wires ≡ wires_of w.device seen.cycle s →
    ((pin : ℕ) → pin < 30 → by_sets drives.driven drives.high pin ≡ outside_of w.script wires seen.cycle pin) →
    pads_driven wires seen drives s ≡ s.pads → wires.irq ≡ s.irq → IsSettled w seen s
unfolding pads_driven
settled_by w seen s wires drives e outside stays irq =
    let there : after_step (outs_of wires seen s) (outside_of w.script wires seen.cycle) s.pads ≡ s.pads =
    ap (λ (x : ℕ). with_levels x (with_edges (edges_of s.pads) s.pads))
    (sym (levels_same (outs_of wires seen s) (by_sets drives.driven drives.high) (outside_of w.script wires seen.cycle) s.pads outside))
    ∙ stays in
    record { pads = rw (← e) there; irq = rw (← e) irq }
