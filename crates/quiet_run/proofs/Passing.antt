-- Cycles in which nobody has anything to do: each part goes its own way.
use Rattle.std.proofs.Common.{◌≡◌, ℕ, zero, suc, ◌+◌, ◌<◌, ◌≤◌, ◌==◌, Bool, true, false, List, [], ◌∷◌, None, refl, sym, ap, subst, ◌∙◌, arith}
use Rattle.std.specs.Prelude.{if◌then◌else◌, slice_index}
use Rattle.std.proofs.lemmas.Bool.Decides.{nat_tests}
use Rattle.lane_look.specs.declared.lane.Want.TheVariants as want
use Rattle.lane_look.specs.declared.lane.Turn.{Turn}
use Rattle.lane_look.specs.Asking.{answered}
use Rattle.lane_look.specs.Times.{times}
use Rattle.m0_core.specs.State.{State as Core}
use Rattle.m0_core.specs.Fetch as core_asks
use Rattle.m0_core.specs.Cycle as core
use Rattle.m0_core.specs.Quiet as core_quiet
use Rattle.dma_engine.specs.State.{State as Engine}
use Rattle.dma_engine.specs.Cycle as dma
use Rattle.pio_block.specs.State.{State as Pio}
use Rattle.pio_block.specs.Cycle as pio
use Rattle.pio_block.specs.Cycle.{inputs_of as pins_in}
use Rattle.pio_block.proofs.Between.{a_quiet_block_shows_the_same}
use Rattle.sio_block.specs.State.{State as SioState}
use Rattle.sio_block.specs.Launcher.{offers_of}
use Rattle.sio_block.specs.Cycle as sio_end
use Rattle.io_bank.specs.State.{State as Bank}
use Rattle.outer_lane.specs.Setting.{Setting}
use Rattle.outer_lane.specs.State.{State as OuterState}
use Rattle.outer_lane.specs.declared.world.SeenOutputs.{SeenOutputs}
use Rattle.outer_lane.specs.Step as outer
use Rattle.outer_lane.specs.Quiet as outer_quiet
use Rattle.outer_lane.specs.Quiet.{seen_in, outer_after, held_blocks}
use Rattle.rp_machine.specs.State.{State}
use Rattle.rp_machine.specs.Alone.{Blocks, AreBlocksQuiet, blocks_after, with_blocks}
use Rattle.rp_machine.specs.Answers.{answer_of, lines_of, pacing_of, inputs_of}
use Rattle.rp_machine.specs.Copies.{Agree, CopiesAgree}
use Rattle.rp_machine.specs.Cycle.{begun, wanted, cause_in, stop, with_turns, with_sio, with_offer, with_pins, pins_of, launched_where, ended, next, mark}
use Rattle.rp_machine.specs.Deeds.{cause_of}
use Rattle.rp_machine.specs.Events.{events}
use Rattle.rp_machine.specs.Wantless.{no_turns, core1_launched, wantless_next}
use Rattle.rp_machine.specs.Run.{states}
use Rattle.rp_machine.specs.Quiet.{IsQuiet}
use Rattle.quiet_run.specs.Parts.{AreOthersQuiet, ArePartsQuiet, passed, QuietPartsGoTheirOwnWay}
use Rattle.rp_machine.proofs.Wantless.{wantless_four}
use Rattle.rp_machine.proofs.Going.{none_after, fewer_cycles, core_fewer}
use Rattle.rp_machine.proofs.Inward.{TellOn, tell_on, lines_on, pacing_on, outs_on, core_more}
use Rattle.rp_machine.proofs.OneCore.{first_want, second_want}
use Rattle.rp_machine.proofs.Quietly.{states_through, no_events, seen_later, seen_number}

-- ---- what is asked and begun there

pub told : (w : Setting) (s : State) (n k : ℕ) → ArePartsQuiet w s n → k ≤ n → TellOn s (passed w s k)
told w s n k q le = tell_on w s (passed w s k) n k le q.blocks q.peripherals

pub same_lines : (w : Setting) (s : State) (n k number : ℕ) → ArePartsQuiet w s n → k ≤ n → lines_of number (passed w s k) ≡ lines_of number s
same_lines w s n k number q le = lines_on s (passed w s k) number refl (told w s n k q le)

pub same_pacing : (w : Setting) (s : State) (n k : ℕ) → ArePartsQuiet w s n → k ≤ n → pacing_of (passed w s k) ≡ pacing_of s
same_pacing w s n k q le = pacing_on s (passed w s k) (told w s n k q le)

begun_core0 : (w : Setting) (s : State) (n k : ℕ) → ArePartsQuiet w s n → k < n → (begun (passed w s k)).core0 ≡ answered (λ ask. lines_of 0 s) (core_asks.asks (passed w s k).core0 (s.cycle + k))
unfolding begun
begun_core0 w s n k q lt = q.core0.begins k lt (answer_of 0 (passed w s k)) (same_lines w s n k 0 q (omega arith))

begun_core1 : (w : Setting) (s : State) (n k : ℕ) → ArePartsQuiet w s n → k < n → (begun (passed w s k)).core1 ≡ answered (λ ask. lines_of 1 s) (core_asks.asks (passed w s k).core1 (s.cycle + k))
unfolding begun
begun_core1 w s n k q lt = q.core1.begins k lt (answer_of 1 (passed w s k)) (same_lines w s n k 1 q (omega arith))

-- what the blocks want, and come to
wants_dma : (w : Setting) (s : State) (n k : ℕ) → ArePartsQuiet w s n → k < n → dma.wanted (begun (passed w s k)).dma ≡ want.Nothing ∷ want.Nothing ∷ []
unfolding begun
wants_dma w s n k q lt = q.blocks.dma.wants k lt (answer_of 2 (passed w s k)) (same_pacing w s n k q (omega arith))

dma_more : (w : Setting) (s : State) (n k : ℕ) (turns : List Turn) → ArePartsQuiet w s n → k < n → dma.next (passed w s k).dma.block (begun (passed w s k)).dma turns ≡ (passed w s (suc k)).dma.block
unfolding begun
dma_more w s n k turns q lt = q.blocks.dma.steps k lt (answer_of 2 (passed w s k)) (same_pacing w s n k q (omega arith)) turns

pio0_more : (w : Setting) (s : State) (n k : ℕ) → ArePartsQuiet w s n → k < n → pio.next (begun (passed w s k)).pio0 (passed w s k).pio0.block ≡ (passed w s (suc k)).pio0.block
unfolding begun
pio0_more w s n k q lt = (a_quiet_block_shows_the_same (pins_in (inputs_of s)) s.pio0.block n q.blocks.pio0).steps k lt (answer_of 3 (passed w s k)) (ap pins_in (told w s n k q (omega arith)).inputs)

pio1_more : (w : Setting) (s : State) (n k : ℕ) → ArePartsQuiet w s n → k < n → pio.next (begun (passed w s k)).pio1 (passed w s k).pio1.block ≡ (passed w s (suc k)).pio1.block
unfolding begun
pio1_more w s n k q lt = (a_quiet_block_shows_the_same (pins_in (inputs_of s)) s.pio1.block n q.blocks.pio1).steps k lt (answer_of 4 (passed w s k)) (ap pins_in (told w s n k q (omega arith)).inputs)

pub begun_outer : (w : Setting) (s : State) (n k : ℕ) → ArePartsQuiet w s n → k ≤ n → (begun (passed w s k)).outer ≡ seen_in (begun s).outer (s.cycle + k)
begun_outer w s n k q le = seen_later s (passed w s k) (q.peripherals.pads k le) (λ block. outs_on s (passed w s k) block (told w s n k q le))

-- ---- nobody wants anything

pub wants_core0 : (w : Setting) (s : State) (n k : ℕ) → ArePartsQuiet w s n → k < n → core.want_of (begun (passed w s k)).core0 ≡ want.Nothing
wants_core0 w s n k q lt = ap core.want_of (begun_core0 w s n k q lt) ∙ q.core0.wants k lt

pub wants_core1 : (w : Setting) (s : State) (n k : ℕ) → ArePartsQuiet w s n → k < n → core.want_of (begun (passed w s k)).core1 ≡ want.Nothing
wants_core1 w s n k q lt = ap core.want_of (begun_core1 w s n k q lt) ∙ q.core1.wants k lt

pub wants_read : (w : Setting) (s : State) (n k : ℕ) → ArePartsQuiet w s n → k < n → dma.want_of (begun (passed w s k)).dma.read ≡ want.Nothing
wants_read w s n k q lt = first_want _ _ (wants_dma w s n k q lt)

pub wants_write : (w : Setting) (s : State) (n k : ℕ) → ArePartsQuiet w s n → k < n → dma.want_of (begun (passed w s k)).dma.write ≡ want.Nothing
wants_write w s n k q lt = second_want _ _ (wants_dma w s n k q lt)

no_cause : (w : Setting) (s : State) (n k : ℕ) → ArePartsQuiet w s n → k < n → cause_in w (begun (passed w s k)) (wanted (begun (passed w s k))) (passed w s k) ≡ None
unfolding wanted cause_in cause_of
no_cause w s n k q lt =
    rw (wants_core0 w s n k q lt, wants_core1 w s n k q lt, wants_read w s n k q lt, wants_write w s n k q lt) refl

below : (c limit : ℕ) → c < limit → (c == limit) ≡ false
below c limit lt = grind (arith, nat_tests)

goes_on : (w : Setting) (s : State) (n k : ℕ) → ArePartsQuiet w s n → k < n → stop w (passed w s k) ≡ None
unfolding stop
goes_on w s n k q lt =
    let l = q.limit in
    let no_limit : (s.cycle + k == w.limit) ≡ false = below (s.cycle + k) w.limit (omega arith) in
    rw no_limit (no_cause w s n k q lt)

rests : (w : Setting) (s : State) (n k : ℕ) → ArePartsQuiet w s n → k < n → next w (passed w s k) ≡ wantless_next w (begun (passed w s k)) (passed w s k)
unfolding next wanted
rests w s n k q lt =
    wantless_four w (begun (passed w s k)) _ _ _ _ (passed w s k) (wants_core0 w s n k q lt) (wants_core1 w s n k q lt) (wants_read w s n k q lt) (wants_write w s n k q lt) q.fabric

-- ---- the steps

after_more : (w : Setting) (seen : SeenOutputs) (o : OuterState) (k : ℕ) → outer_after w seen (suc k) o ≡ outer.next w (outer_after w seen k o) (seen_in seen (seen.cycle + k))
unfolding times
after_more w seen o k = refl

outer_more : (w : Setting) (s : State) (k : ℕ) (b : SeenOutputs) → b ≡ seen_in (begun s).outer (s.cycle + k) → outer.next w (outer_after w (begun s).outer k s.outer) b ≡ outer_after w (begun s).outer (suc k) s.outer
outer_more w s k b e =
    ap (outer.next w (outer_after w (begun s).outer k s.outer))
    (e ∙ ap (λ (c : ℕ). seen_in (begun s).outer (c + k)) (sym (seen_number s)))
    ∙ sym (after_more w (begun s).outer s.outer k)

turned : (s : State) (c0 c0' c1 c1' : Core) (d d' : Engine) (p0 p0' p1 p1' : Pio) (o o' : OuterState) → c0 ≡ c0' → c1 ≡ c1' → d ≡ d' → p0 ≡ p0' → p1 ≡ p1' → o ≡ o' → record (with_blocks (record { dma = d; pio0 = p0; pio1 = p1 }) s) { core0 = c0; core1 = c1; outer = o } ≡ record (with_blocks (record { dma = d'; pio0 = p0'; pio1 = p1' }) s) { core0 = c0'; core1 = c1'; outer = o' }
turned s c0 c0' c1 c1' d d' p0 p0' p1 p1' o o' a b c e f g = rw (a, b, c, e, f, g) refl

-- the lanes have stepped, and the number of the cycle has not
abbrev lanes_passed : Setting → State → ℕ → State
lanes_passed w s k = record (passed w s (suc k)) { cycle = s.cycle + k }

lanes_step : (w : Setting) (s : State) (n k : ℕ) → ArePartsQuiet w s n → k < n → with_turns w (begun (passed w s k)) no_turns (passed w s k) ≡ lanes_passed w s k
unfolding with_turns
lanes_step w s n k q lt =
    let p = passed w s k in
    let l = lanes_passed w s k in
    turned p _ l.core0 _ l.core1 _ l.dma.block _ l.pio0.block _ l.pio1.block _ l.outer
    (core_more (lines_of 0 s) s.core0 s.cycle k (begun p).core0 (begun_core0 w s n k q lt))
    (core_more (lines_of 1 s) s.core1 s.cycle k (begun p).core1 (begun_core1 w s n k q lt))
    (dma_more w s n k _ q lt)
    (pio0_more w s n k q lt)
    (pio1_more w s n k q lt)
    (outer_more w s k (begun p).outer (begun_outer w s n k q (omega arith)))

waits_by : (asleep offered : Bool) (t : State) → offered ≡ false → (if asleep then launched_where offered t else t) ≡ t
waits_by true true t e = absurd (cc e)
waits_by true false t e = refl
waits_by false offered t e = refl

launcher_waits : (offered : Bool) (t : State) → offered ≡ false → core1_launched offered t ≡ t
unfolding core1_launched
launcher_waits offered t e = waits_by t.core1.asleep offered t e

same_offer : (c : Core) (offer : Bool) → c.offer ≡ offer → with_offer offer c ≡ c
same_offer c offer e = rw (← e) refl

same_pins : (o : OuterState) (pins : List ℕ) → o.sio ≡ pins → with_pins pins o ≡ o
same_pins o pins e = rw (← e) refl

sio_built : (t : State) (c : Core) (o : OuterState) (x : SioState) → c ≡ t.core1 → o ≡ t.outer → x ≡ t.sio → record t { core1 = c; outer = o; sio = x } ≡ t
sio_built t c o x e f g = rw (e, f, g) refl

sio_stays : (sio : SioState) (t : State) → sio ≡ t.sio → t.core1.offer ≡ offers_of sio → t.outer.sio ≡ pins_of sio → with_sio sio t ≡ t
unfolding with_sio
sio_stays sio t e f g =
    sio_built t (with_offer (offers_of sio) t.core1) (with_pins (pins_of sio) t.outer) sio (same_offer t.core1 (offers_of sio) f) (same_pins t.outer (pins_of sio) g) e

sio_ends : (t : State) → sio_end.after_cycle t.sio ≡ t.sio → t.core1.offer ≡ offers_of t.sio → t.outer.sio ≡ pins_of t.sio → ended t ≡ t
unfolding ended
sio_ends t e f g = ap (λ (x : SioState). with_sio x t) e ∙ sio_stays t.sio t refl f g

numbered : (t : State) (m n : ℕ) → m ≡ n → record t { cycle = m } ≡ record t { cycle = n }
numbered t m n e = rw e refl

pub next_passed : (w : Setting) (s : State) (n k : ℕ) → CopiesAgree s → ArePartsQuiet w s n → k < n → next w (passed w s k) ≡ passed w s (suc k)
unfolding wantless_next
next_passed w s n k agree q lt =
    let p = passed w s k in
    let t = lanes_passed w s k in
    let more : s.cycle + k + 1 ≡ s.cycle + suc k = omega arith in
    rests w s n k q lt
    ∙ ap (λ (x : State). record (ended (core1_launched (offers_of s.sio) x)) { cycle = s.cycle + k + 1 }) (lanes_step w s n k q lt)
    ∙ ap (λ (x : State). record (ended x) { cycle = s.cycle + k + 1 }) (launcher_waits (offers_of s.sio) t q.launcher)
    ∙ ap (λ (x : State). record x { cycle = s.cycle + k + 1 })
    (sio_ends t q.sio (q.core1.offer (suc k) (omega arith) ∙ agree.offer) (q.peripherals.sio (suc k) (omega arith) ∙ agree.pins))
    ∙ numbered t (s.cycle + k + 1) (s.cycle + suc k) more

-- ---- no events

is_silent : (w : Setting) (s : State) (n k : ℕ) → ArePartsQuiet w s n → k < n → events w (passed w s k) ≡ []
unfolding events mark
is_silent w s n k q lt =
    let p = passed w s k in
    let seen : (begun p).outer ≡ seen_in (begun s).outer ((begun s).outer.cycle + k) =
    begun_outer w s n k q (omega arith) ∙ ap (λ (c : ℕ). seen_in (begun s).outer (c + k)) (sym (seen_number s)) in
    no_events p.cycle p.outer.pads.current (outer.marked w p.outer (begun p).outer)
    (ap (outer.marked w p.outer) seen ∙ q.peripherals.mark k lt
    ∙ ap (λ (b : Bank). record { uart = None ∷ None ∷ []; pads = b.current }) (sym (q.peripherals.pads k (omega arith))))

-- ---- all the cycles

first_passed : (w : Setting) (s : State) → passed w s 0 ≡ s
unfolding times
first_passed w s =
    let e : s.cycle + 0 ≡ s.cycle = omega arith in
    ap (λ (p : Blocks). record (with_blocks p s) { cycle = s.cycle + 0 }) (none_after s) ∙ rw e refl

pub states_passed : (w : Setting) (s : State) (n k : ℕ) → CopiesAgree s → ArePartsQuiet w s n → k ≤ n → states w s k ≡ passed w s k
states_passed w s n k agree q le =
    ap (λ (x : State). states w x k) (sym (first_passed w s))
    ∙ states_through w (passed w s) k (record {
      stop = λ j lt. goes_on w s n j q (omega arith);
      next = λ j lt. next_passed w s n j agree q (omega arith);
      events = λ j lt. is_silent w s n j q (omega arith);
    })

pub quiet_cycles : (w : Setting) (s : State) (n : ℕ) → CopiesAgree s → ArePartsQuiet w s n → IsQuiet w s n
quiet_cycles w s n agree q =
    let at = λ (k : ℕ) (le : k ≤ n). states_passed w s n k agree q le in
    record {
      goes = λ k lt. ap (stop w) (at k (omega arith)) ∙ goes_on w s n k q lt;
      silent = λ k lt. ap (events w) (at k (omega arith)) ∙ is_silent w s n k q lt;
      pads = λ k le. ap (λ (x : State). x.outer.pads) (at k le) ∙ q.peripherals.pads k le;
      cycle = λ k le. ap (λ (x : State). x.cycle) (at k le);
    }

pub quiet_parts_go_their_own_way : QuietPartsGoTheirOwnWay
quiet_parts_go_their_own_way w s n agree q = record {
  state = states_passed w s n n agree q (omega arith);
  quiet = quiet_cycles w s n agree q;
}

pub no_states : (w : Setting) (s : State) (k : ℕ) → k ≡ 0 → states w s k ≡ s
unfolding states
no_states w s zero e = refl
no_states w s (suc k) e = absurd (omega arith)

-- for no cycle
pub quiet_none : (w : Setting) (s : State) → IsQuiet w s 0
quiet_none w s =
    let none : (k : ℕ) → k ≤ 0 → states w s k ≡ s = λ k le. no_states w s k (omega arith) in
    record {
      goes = λ k lt. absurd (omega arith);
      silent = λ k lt. absurd (omega arith);
      pads = λ k le. ap (λ (x : State). x.outer.pads) (none k le);
      cycle = λ k le. let e : s.cycle ≡ s.cycle + k = omega arith in ap (λ (x : State). x.cycle) (none k le) ∙ e;
    }

-- ---- the copies that lanes keep

-- quiet cycles leave them as they are
pub passing_agrees : {reset : ℕ} {core1 after1 : Core} {dma pio0 pio1 : Bool} {outer after : OuterState} {sio : SioState} → after1.offer ≡ core1.offer → after.pads ≡ outer.pads → held_blocks after ≡ held_blocks outer → after.sio ≡ outer.sio → Agree reset core1 dma pio0 pio1 outer sio → Agree reset after1 dma pio0 pio1 after sio
passing_agrees offer pads held pins a = record {
  bits = a.bits;
  held = rw (pads, held) a.held;
  pins = pins ∙ a.pins;
  offer = offer ∙ a.offer;
}

-- ---- what the tests of the parts come to

pub fewer : (w : Setting) (seen : SeenOutputs) (o : OuterState) (n m : ℕ) → outer_quiet.IsQuiet w seen o n → m ≤ n → outer_quiet.IsQuiet w seen o m
fewer w seen o n m q le = record {
  mark = λ k lt. q.mark k (omega arith);
  pads = λ k lt. q.pads k (omega arith);
  lines = λ k lt. q.lines k (omega arith);
  pacing = λ k lt. q.pacing k (omega arith);
  irq = λ k lt. q.irq k (omega arith);
  sio = λ k lt. q.sio k (omega arith);
  held = λ k lt. q.held k (omega arith);
  words = λ k lt. q.words k (omega arith);
  lasts = λ k lt. q.lasts k (omega arith);
  reads = λ k lt. q.reads k (omega arith);
}

pub fewer_parts : (w : Setting) (s : State) (n m : ℕ) → ArePartsQuiet w s n → m ≤ n → ArePartsQuiet w s m
fewer_parts w s n m q le =
    let limit = q.limit in
    record {
      core0 = core_fewer (lines_of 0 s) s.core0 s.cycle n m q.core0 le;
      core1 = core_fewer (lines_of 1 s) s.core1 s.cycle n m q.core1 le;
      peripherals = fewer w (begun s).outer s.outer n m q.peripherals le;
      blocks = fewer_cycles s n m q.blocks le;
      sio = q.sio;
      launcher = q.launcher;
      fabric = q.fabric;
      limit = omega (arith, limit, le);
    }

-- the same where the fields are these
pub parts_by : (w : Setting) (i s : State) (lines0 lines1 a b c d n at to : ℕ) (seen : SeenOutputs) → i ≡ s → AreOthersQuiet s → at ≡ s.cycle → lines0 ≡ lines_of 0 s → lines1 ≡ lines_of 1 s → seen ≡ (begun s).outer → core_quiet.IsQuiet lines0 i.core0 at a → core_quiet.IsQuiet lines1 i.core1 at b → outer_quiet.IsQuiet w seen i.outer c → AreBlocksQuiet s d → n ≤ a → n ≤ b → n ≤ c → n ≤ d → at + n ≤ to → to ≤ w.limit → ArePartsQuiet w s n
parts_by w i s lines0 lines1 a b c d n at to seen same rest ea e0 e1 es q0 q1 qo blocks la lb lc ld lt ll =
    let h0 : core_quiet.IsQuiet lines0 s.core0 at a = subst (λ (x : State). core_quiet.IsQuiet lines0 x.core0 at a) same q0 in
    let h1 : core_quiet.IsQuiet lines1 s.core1 at b = subst (λ (x : State). core_quiet.IsQuiet lines1 x.core1 at b) same q1 in
    let ho : outer_quiet.IsQuiet w seen s.outer c = subst (λ (x : State). outer_quiet.IsQuiet w seen x.outer c) same qo in
    let g0 : core_quiet.IsQuiet lines0 s.core0 s.cycle a = subst (λ (x : ℕ). core_quiet.IsQuiet lines0 s.core0 x a) ea h0 in
    let g1 : core_quiet.IsQuiet lines1 s.core1 s.cycle b = subst (λ (x : ℕ). core_quiet.IsQuiet lines1 s.core1 x b) ea h1 in
    let r0 : core_quiet.IsQuiet (lines_of 0 s) s.core0 s.cycle a = subst (λ (x : ℕ). core_quiet.IsQuiet x s.core0 s.cycle a) e0 g0 in
    let r1 : core_quiet.IsQuiet (lines_of 1 s) s.core1 s.cycle b = subst (λ (x : ℕ). core_quiet.IsQuiet x s.core1 s.cycle b) e1 g1 in
    let ro : outer_quiet.IsQuiet w (begun s).outer s.outer c = subst (λ (x : SeenOutputs). outer_quiet.IsQuiet w x s.outer c) es ho in
    record {
      core0 = core_fewer (lines_of 0 s) s.core0 s.cycle a n r0 la;
      core1 = core_fewer (lines_of 1 s) s.core1 s.cycle b n r1 lb;
      peripherals = fewer w (begun s).outer s.outer c n ro lc;
      blocks = fewer_cycles s d n blocks ld;
      sio = rest.sio;
      launcher = rest.launcher;
      fabric = rest.fabric;
      limit = omega arith;
    }

-- ---- what the parts leave

-- each part has passed so many cycles, where the fields are these
pub record HavePassed (w : Setting) (i s : State) (core0 core1 : Core) (outer : OuterState) (n : ℕ) : Type 0 where
  pub core0_is : core0 ≡ times (core_quiet.rested (lines_of 0 s)) s.cycle n s.core0
  pub core1_is : core1 ≡ times (core_quiet.rested (lines_of 1 s)) s.cycle n s.core1
  pub outer_is : outer ≡ outer_after w (begun s).outer n s.outer

core_went : (i s : State) (lines known at n : ℕ) (c from to : Core) → at ≡ s.cycle → lines ≡ known → from ≡ to → c ≡ times (core_quiet.rested lines) at n from → c ≡ times (core_quiet.rested known) s.cycle n to
core_went i s lines known at n c from to ea el ef e =
    e ∙ ap (λ (x : ℕ). times (core_quiet.rested lines) x n from) ea
    ∙ ap (λ (x : ℕ). times (core_quiet.rested x) s.cycle n from) el
    ∙ ap (λ (x : Core). times (core_quiet.rested known) s.cycle n x) ef

pub have_passed : (w : Setting) (i s : State) (lines0 lines1 at n : ℕ) (seen : SeenOutputs) (core0 core1 : Core) (outer : OuterState) → i ≡ with_blocks (blocks_after n s) s → at ≡ s.cycle → lines0 ≡ lines_of 0 s → lines1 ≡ lines_of 1 s → seen ≡ (begun s).outer → core0 ≡ times (core_quiet.rested lines0) at n i.core0 → core1 ≡ times (core_quiet.rested lines1) at n i.core1 → outer ≡ outer_after w seen n i.outer → HavePassed w i s core0 core1 outer n
have_passed w i s lines0 lines1 at n seen core0 core1 outer same ea e0 e1 es c0 c1 o = record {
  core0_is = core_went i s lines0 (lines_of 0 s) at n core0 i.core0 s.core0 ea e0 (ap (λ (x : State). x.core0) same) c0;
  core1_is = core_went i s lines1 (lines_of 1 s) at n core1 i.core1 s.core1 ea e1 (ap (λ (x : State). x.core1) same) c1;
  outer_is = o ∙ ap (λ (x : SeenOutputs). outer_after w x n i.outer) es ∙ ap (λ (x : State). outer_after w (begun s).outer n x.outer) same;
}

fields_passed : (w : Setting) (s : State) (at n : ℕ) (core0 core1 : Core) (outer : OuterState) → at + n ≡ s.cycle + n → core0 ≡ (passed w s n).core0 → core1 ≡ (passed w s n).core1 → outer ≡ (passed w s n).outer → record (with_blocks (blocks_after n s) s) { cycle = at + n; core0 = core0; core1 = core1; outer = outer } ≡ passed w s n
fields_passed w s at n core0 core1 outer ea e0 e1 eo = rw (ea, e0, e1, eo) refl

-- the copies agreed before the blocks passed
agree_before : (s : State) (n : ℕ) → CopiesAgree (with_blocks (blocks_after n s) s) → CopiesAgree s
agree_before s n a = record { bits = a.bits; held = a.held; pins = a.pins; offer = a.offer }

pub passed_states : (w : Setting) (i s : State) (at n : ℕ) (core0 core1 : Core) (outer : OuterState) → i ≡ with_blocks (blocks_after n s) s → at ≡ s.cycle → CopiesAgree i → ArePartsQuiet w s n → HavePassed w i s core0 core1 outer n → record i { cycle = at + n; core0 = core0; core1 = core1; outer = outer } ≡ states w s n
passed_states w i s at n core0 core1 outer same ea agree q h =
    let here : CopiesAgree s = agree_before s n (subst CopiesAgree same agree) in
    ap (λ (x : State). record x { cycle = at + n; core0 = core0; core1 = core1; outer = outer }) same
    ∙ fields_passed w s at n core0 core1 outer (ap (λ (c : ℕ). c + n) ea) h.core0_is h.core1_is h.outer_is
    ∙ sym (states_passed w s n n here q (omega arith))

pub passed_agrees : (w : Setting) (i s : State) (n : ℕ) (core0 core1 : Core) (outer : OuterState) → i ≡ with_blocks (blocks_after n s) s → CopiesAgree i → ArePartsQuiet w s n → HavePassed w i s core0 core1 outer n → Agree (slice_index i.resets 0) core1 i.dma.held i.pio0.held i.pio1.held outer i.sio
passed_agrees w i s n core0 core1 outer same agree q h =
    passing_agrees
    (ap (λ (x : Core). x.offer) h.core1_is ∙ q.core1.offer n (omega arith) ∙ sym (ap (λ (x : State). x.core1.offer) same))
    (ap (λ (x : OuterState). x.pads) h.outer_is ∙ q.peripherals.pads n (omega arith) ∙ sym (ap (λ (x : State). x.outer.pads) same))
    (ap held_blocks h.outer_is ∙ q.peripherals.held n (omega arith) ∙ sym (ap (λ (x : State). held_blocks x.outer) same))
    (ap (λ (x : OuterState). x.sio) h.outer_is ∙ q.peripherals.sio n (omega arith) ∙ sym (ap (λ (x : State). x.outer.sio) same))
    agree
