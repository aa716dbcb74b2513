-- Core 0 goes on alone beside lanes that lie behind: each cycle is the definition's.
use Rattle.rp_machine.proofs.Shared.{AgreeWithSio, AreBlocksQuiet, Ask, Asking, Block, Blocks, Core0GoesOnAlone, Deed, Doing, GoesAlone, GoesOn, GoesOnward, IsCore0Alone, IsCore1Quiet, IsQuiet, Mark, Master, Op, Outer, Question, Ready, Request, Resets, SeenOutputs, Setting, Spot, State, StaysInward, TellsSame, Turn, Want, Why, a_quiet_block_shows_the_same, accessed_at, after_deed, alone_next, answered, asked_of, begun, blocks_after, cause_in, cause_of, core0_stepped, core0_want, core1_after, core1_launched, deed_of, ended, eqb_tells, events, found_by, goes_inward, granted_alone, has_hold, inward_after, inward_cycle, inward_deed, inward_next, inward_turn, inward_wantless, is_done_at, is_inward, is_lasting, is_lasting_read, is_none, is_open, is_peripheral, is_theirs, lasts_at, mark, next, nobody-after, offers_of, onward_after, opens, outer_after, outer_allowed, own_word, pins_of, place_of, read_at, read_there, seen_in, states, stop, stored_at, turn_at, turn_of, unwrap_or, wanted, wanted_by, with_beside, with_blocks, with_grant, with_sio, with_store, word_for}
use Rattle.std.proofs.Common.{◌≡◌, ◌+◌, ◌*◌, ◌%◌, ◌^◌, ◌<◌, ◌≤◌, zero, suc, inl, inr, arith, ℕ, true, false, Bool, if◌then◌else◌, List, [], ◌∷◌, Option, Some, None, ◌==◌, ◌&&◌, bit_or, refl, sym, ap, ◌∙◌}
use Rattle.rp_base.specs.declared.Master.TheVariants as master
use Rattle.rp_base.specs.declared.Why.TheVariants as why
use Rattle.rp_base.specs.declared.map.Spot.TheVariants as spot
use Rattle.lane_look.specs.declared.lane.Ask.TheVariants as ask
use Rattle.lane_look.specs.declared.lane.Want.TheVariants as want
use Rattle.lane_look.specs.declared.lane.Turn.TheVariants as turn
use Rattle.m0_core.specs.State.{State as Core}
use Rattle.m0_core.specs.Quiet.{rested}
use Rattle.m0_core.specs.Fetch as core_asks
use Rattle.m0_core.specs.Fetch.{asks_second, ends_with}
use Rattle.m0_core.specs.Begins.{begins}
use Rattle.m0_core.specs.Kinds.{is_signal}
use Rattle.m0_core.specs.declared.doing.Act.TheVariants.{Inner}
use Rattle.m0_core.specs.declared.doing.Work.TheVariants.{Instruction}
use Rattle.m0_core.proofs.Carrying.{begun_short}
use Rattle.m0_core.specs.Cycle as core
use Rattle.dma_engine.specs.Words as dma_words
use Rattle.pio_block.specs.Words as pio_words
use Rattle.pio_block.specs.Cycle.{inputs_of as pins_in}
use Rattle.sio_block.specs.State.{State as SioState}
use Rattle.io_bank.specs.State.{State as Bank}
use Rattle.io_bank.specs.Levels.{inputs_of as inputs_of_pads}
use Rattle.outer_lane.specs.State.{State as OuterState}
use Rattle.outer_lane.specs.Lines.{outer_lines, outer_inputs, outer_pacing}
use Rattle.outer_lane.specs.Step as outer
use Rattle.outer_lane.specs.Step.{marked}
use Rattle.outer_lane.proofs.BroughtUp.{lasting_stays, lasting_word}
use Rattle.lane_look.specs.Times.{times}
use Rattle.rp_machine.specs.declared.deed.Deed.TheVariants as deed
use Rattle.rp_machine.proofs.Wantless.{both}
use Rattle.rp_machine.specs.Answers.{answer_of, pair_number, sio_lines, lines_of, block_lines, packed_pair, pacing_of, inputs_of, outs_of}
use Rattle.rp_machine.specs.Registers.{Part, part_of, part_word, part_accessed, plain_write}
use Rattle.rp_machine.proofs.Quietly.{RunsThrough, states_through, fewer, no_events, seen_later, seen_number}
use Rattle.rp_machine.proofs.Opening.{opens_outer}
use Rattle.rp_machine.proofs.OneCore.{next_alone, cause_alone}
use Rattle.rp_machine.proofs.Going.{none_after}
use Rattle.rp_machine.proofs.HeldLanes.{outer_next}

-- ---- what is told beside others

pub answered_same : {B : Type 0} (f g : Ask → ℕ) → ((a : Ask) → f a ≡ g a) → (tree : Asking B) → answered f tree ≡ answered g tree
answered_same f g h (Ready begun) = refl
answered_same f g h (Question ask next) = ap (λ x. answered f (next x)) (h ask) ∙ answered_same f g h (next (g ask))

same_way : {A : Type 0} (c : Bool) (x : A) → (if c then x else x) ≡ x
same_way true x = refl
same_way false x = refl

answer_same : (p : Blocks) (c : Core) (o : OuterState) (s : State) → TellsSame p c o s → (a : Ask) → answer_of 0 (with_beside p c o s) a ≡ answer_of 0 s a
unfolding inputs_of
answer_same p c o s h ask.Lines = h.lines
answer_same p c o s h (ask.Half address) = refl
answer_same p c o s h (ask.Word address) = refl
answer_same p c o s h ask.Pacing = h.pacing
answer_same p c o s h ask.Inputs = ap packed_pair h.inputs
answer_same p c o s h (ask.Outs block) = h.outs block

pub begun_same : (p : Blocks) (c : Core) (o : OuterState) (s : State) → TellsSame p c o s → (begun (with_beside p c o s)).core0 ≡ (begun s).core0
unfolding begun
begun_same p c o s h = answered_same (answer_of 0 (with_beside p c o s)) (answer_of 0 s) (answer_same p c o s h) (core_asks.asks s.core0 s.cycle)

-- ---- the cycle

rests_again : (offered : Bool) (q : State) → offered ≡ false → core1_launched offered q ≡ q
unfolding core1_launched
rests_again offered q h = rw h (same_way q.core1.asleep q)

-- what core 0 does to SRAM is no deed that reaches further
no_deed : (w : Setting) (found : Bool) (request : Request) (write : Option ℕ) (at : Spot) (q : State) → after_deed w found master.Core0 (stored_at request write at) q ≡ q
unfolding after_deed
no_deed w found request None at q = refl
no_deed w found request (Some value) (spot.Ram index bank) q = refl
no_deed w found request (Some value) (spot.Reg block offset alias) q = refl
no_deed w found request (Some value) (spot.Sio offset) q = refl
no_deed w found request (Some value) (spot.Ppb offset) q = refl
no_deed w found request (Some value) spot.Outside q = refl

no_deed_where : (w : Setting) (found granted : Bool) (request : Request) (q : State) → after_deed w found master.Core0 (inward_deed granted (want.Ram request)) q ≡ q
unfolding after_deed
no_deed_where w found true request q = no_deed w found request request.write (place_of request.address) q
no_deed_where w found false request q = refl

-- SIO ends its cycle beside others
ends_beside : (p : Blocks) (c : Core) (o : OuterState) (q : State) → c.offer ≡ offers_of q.sio → o.sio ≡ pins_of q.sio → ended (with_beside p c o q) ≡ with_beside p c o (ended q)
unfolding ended with_sio
ends_beside p c o q told pins =
    ap (λ (offer : Bool). with_beside p (record c { offer = offer }) (record o { sio = pins_of q.sio }) (ended q)) (sym told)
    ∙ ap (λ (pins : List ℕ). with_beside p c (record o { sio = pins }) (ended q)) (sym pins)

-- what a cycle has come to before the launcher has its turn
abbrev reached : Doing → Want → State → State
reached b x s = core0_stepped b (inward_turn (granted_alone x s) x s.outer) (with_grant x s)

abbrev closed : Want → ℕ → Bool → State → State
closed x cycle granted q = record (ended (with_store (inward_deed granted x) q)) { cycle = cycle + 1 }

inward_end : (w : Setting) (p : Blocks) (c : Core) (o : OuterState) (s : State) (b : Doing) (seen : SeenOutputs) (x : Want) → AgreeWithSio c o s
    → closed x s.cycle (granted_alone x s) (core1_launched (offers_of s.sio) (with_beside p c (outer.next w o seen) (reached b x s)))
    ≡ with_beside p c (outer.next w o seen) (inward_next b x s)
unfolding inward_next
inward_end w p c o s b seen x h =
    ap (λ (q : State). closed x s.cycle (granted_alone x s) q) (rests_again (offers_of s.sio) (with_beside p c (outer.next w o seen) (reached b x s)) h.offers)
    ∙ ap (λ (q : State). record q { cycle = s.cycle + 1 })
    (ends_beside p c (outer.next w o seen) (with_store (inward_deed (granted_alone x s) x) (reached b x s)) h.told ((outer_next w o seen).sio ∙ h.pins))

-- an access to the peripherals is done where it is granted
done_there : (request : Request) (at : Spot) (granted : Bool) (o : OuterState) → (if granted then is_lasting request at o else is_peripheral at) ≡ true → is_done_at at granted ≡ granted
done_there request (spot.Reg block offset alias) granted o e = refl
done_there request (spot.Ram index bank) granted o e = refl
done_there request (spot.Sio offset) true o e = refl
done_there request (spot.Sio offset) false o e = absurd (cc e)
done_there request _ granted o e = refl

-- and they have its word
theirs : (w : Setting) (seen : SeenOutputs) (r : Request) (p : Part) (offset alias : ℕ) (s : State) → is_theirs p offset ≡ true → opens p r offset alias (part_word p offset w seen s) ≡ true
unfolding part_word
theirs w seen r (Outer block) offset alias s e = sym (opens_outer w seen r block offset alias s.outer) ∙ e
theirs w seen r _ offset alias s e = absurd (cc e)

last_theirs : (p : Part) (offset : ℕ) (o : OuterState) → lasts_at p offset o ≡ true → is_theirs p offset ≡ true
last_theirs (Outer block) offset o e = (both (outer_allowed block offset) _ e).0
last_theirs _ offset o e = cc e

reads_theirs : (granted : Bool) (r : Request) (p : Part) (offset : ℕ) (o : OuterState) → (if granted then is_none r.write && lasts_at p offset o else is_theirs p offset) ≡ true → is_theirs p offset ≡ true
reads_theirs true r p offset o e = last_theirs p offset o (both (is_none r.write) _ e).1
reads_theirs false r p offset o e = e

nowhere : (granted : Bool) → (if granted then false else false) ≡ true → ⊥
nowhere true e = cc e
nowhere false e = cc e

has_word : (w : Setting) (seen : SeenOutputs) (m : Master) (r : Request) (at : Spot) (granted : Bool) (s : State) (o : OuterState) → (if granted then is_lasting r at o else is_peripheral at) ≡ true
    → is_open r at (word_for w seen m r.address at s) ≡ true
unfolding word_for
has_word w seen m r (spot.Reg block offset alias) granted s o e = theirs w seen r (part_of block) offset alias s (reads_theirs granted r (part_of block) offset o e)
has_word w seen m r _ granted s o e = absurd (nowhere granted e)

-- ---- a read that lasts

-- beside peripherals that come from o by a cycle in which this is seen it finds the same
pub record ReadsSame (w : Setting) (o : OuterState) (seen : SeenOutputs) (s : State) : Type 0 where
  pub lasts : (block : Block) (offset : ℕ) → is_lasting_read block offset s.outer ≡ true → is_lasting_read block offset (outer.next w o seen) ≡ true
  pub reads : (block : Block) (offset : ℕ) → is_lasting_read block offset s.outer ≡ true → own_word block offset o ≡ own_word block offset s.outer

same_word : (w : Setting) (seen : SeenOutputs) (p : Part) (offset : ℕ) (s u : State) → ReadsSame w u.outer seen s → lasts_at p offset s.outer ≡ true → unwrap_or (part_word p offset w seen u) 0 ≡ read_at p offset s.outer
unfolding part_word
same_word w seen (Outer block) offset s u h e =
    let lasts = (both (outer_allowed block offset) _ e).1 in
    ap (λ (x : Option ℕ). unwrap_or x 0) (lasting_word w seen block offset s.outer u.outer lasts ∙ h.reads block offset lasts)
same_word w seen Resets offset s u h e = cc e
same_word w seen _ offset s u h e = cc e

told_same : (w : Setting) (seen : SeenOutputs) (r : Request) (at : Spot) (s u : State) → ReadsSame w u.outer seen s → is_lasting r at s.outer ≡ true
    → unwrap_or (word_for w seen master.Core0 r.address at u) 0 ≡ read_there at s.outer
unfolding word_for
told_same w seen r (spot.Reg block offset alias) s u h e = same_word w seen (part_of block) offset s u h (both (is_none r.write) _ e).1
told_same w seen r _ s u h e = cc e

-- it does nothing, neither to the peripherals nor to SRAM
part_stays : (w : Setting) (o : OuterState) (seen : SeenOutputs) (p : Part) (offset : ℕ) (s q : State) → ReadsSame w o seen s → q.outer ≡ outer.next w o seen → lasts_at p offset s.outer ≡ true
    → part_accessed p offset None q ≡ q
unfolding part_accessed
part_stays w o seen (Outer block) offset s q h same e =
    ap (λ (x : OuterState). record q { outer = x })
    (lasting_stays block offset q.outer (ap (is_lasting_read block offset) same ∙ h.lasts block offset (both (outer_allowed block offset) _ e).1))
part_stays w o seen Resets offset s q h same e = cc e
part_stays w o seen _ offset s q h same e = cc e

no_write : (r : Request) (write : Option ℕ) (alias word : ℕ) → is_none write ≡ true → plain_write r write alias word ≡ None
no_write r None alias word e = refl
no_write r (Some value) alias word e = cc e

read_does : (w : Setting) (o : OuterState) (seen : SeenOutputs) (found : Bool) (r : Request) (at : Spot) (s u q : State) → ReadsSame w o seen s → q.outer ≡ outer.next w o seen → is_lasting r at s.outer ≡ true
    → after_deed w found master.Core0 (accessed_at w seen r at u) q ≡ q
unfolding after_deed
read_does w o seen found r (spot.Reg block offset alias) s u q h same e =
    let parts = both (is_none r.write) _ e in
    ap (λ (write : Option ℕ). part_accessed (part_of block) offset write q) (no_write r r.write alias _ parts.0)
    ∙ part_stays w o seen (part_of block) offset s q h same parts.1
read_does w o seen found r (spot.Ram index bank) s u q h same e = cc e
read_does w o seen found r _ s u q h same e = cc e

read_stores : (w : Setting) (seen : SeenOutputs) (r : Request) (at : Spot) (u q : State) → with_store (accessed_at w seen r at u) q ≡ q
read_stores w seen r (spot.Reg block offset alias) u q = refl
read_stores w seen r _ u q = refl

-- ---- an access to the peripherals

abbrev finished : Setting → Want → Deed → State → State → State
finished w x d s q =
    record (ended (with_store d (core1_launched (offers_of s.sio) (after_deed w (found_by master.Core0 d s.sio) master.Core0 d q)))) { cycle = s.cycle + 1 }

outward_by : (w : Setting) (p q : Blocks) (c d : Core) (o : OuterState) (s : State) (b : Doing) (seen : SeenOutputs) (request : Request) (granted : Bool) → AgreeWithSio d o s → ReadsSame w o seen s
    → granted_alone (want.Outward request) s ≡ granted → (if granted then is_lasting request (place_of request.address) s.outer else is_peripheral (place_of request.address)) ≡ true
    → alone_next w q d b seen (want.Outward request) (with_beside p c o s) ≡ with_beside q d (outer.next w o seen) (inward_next b (want.Outward request) s)
unfolding alone_next turn_of deed_of after_deed
outward_by w p q c d o s b seen request false h r g e =
    let x = want.Outward request in
    let at = place_of request.address in
    let after = λ (told : Turn). with_beside q d (outer.next w o seen) (core0_stepped b told (with_grant x s)) in
    rw (ap (is_done_at at) g ∙ done_there request at false s.outer e)
    (sym (ap (λ (b : Bool). record (ended (core1_launched (offers_of s.sio) (after (turn_at b (read_there at s.outer))))) { cycle = s.cycle + 1 }) g)
    ∙ inward_end w q d o s b seen x h)
outward_by w p q c d o s b seen request true h r g e =
    let x = want.Outward request in
    let at = place_of request.address in
    let u = with_beside p c o s in
    let does = accessed_at w seen request at u in
    let after = λ (told : Turn). with_beside q d (outer.next w o seen) (core0_stepped b told (with_grant x s)) in
    let word = unwrap_or (word_for w seen master.Core0 request.address at u) 0 in
    let done : is_done_at at (granted_alone x s) ≡ true = ap (is_done_at at) g ∙ done_there request at true s.outer e in
    ap (λ (b : Bool). finished w x (if b then does else deed.Nothing) s (after (turn_at b word))) done
    ∙ ap (λ (t : State). record (ended (with_store does (core1_launched (offers_of s.sio) t))) { cycle = s.cycle + 1 })
    (read_does w o seen (found_by master.Core0 does s.sio) request at s u (after (turn.Done word)) r refl e)
    ∙ ap (λ (t : State). record (ended t) { cycle = s.cycle + 1 }) (read_stores w seen request at u (core1_launched (offers_of s.sio) (after (turn.Done word))))
    ∙ ap (λ (n : ℕ). record (ended (core1_launched (offers_of s.sio) (after (turn.Done n)))) { cycle = s.cycle + 1 }) (told_same w seen request at s u r e)
    ∙ sym (ap (λ (b : Bool). record (ended (core1_launched (offers_of s.sio) (after (turn_at b (read_there at s.outer))))) { cycle = s.cycle + 1 }) g)
    ∙ inward_end w q d o s b seen x h

inward_same : (w : Setting) (p q : Blocks) (c d : Core) (o : OuterState) (s : State) (b : Doing) (seen : SeenOutputs) (x : Want) → AgreeWithSio d o s → ReadsSame w o seen s
    → is_inward (granted_alone x s) x s.outer ≡ true → alone_next w q d b seen x (with_beside p c o s) ≡ with_beside q d (outer.next w o seen) (inward_next b x s)
unfolding alone_next turn_of deed_of asked_of after_deed
inward_same w p q c d o s b seen want.Nothing h r e = inward_end w q d o s b seen want.Nothing h
inward_same w p q c d o s b seen (want.Ram request) h r e =
    ap (λ (t : State). closed (want.Ram request) s.cycle (granted_alone (want.Ram request) s) (core1_launched (offers_of s.sio) t))
    (no_deed_where w _ (granted_alone (want.Ram request) s) request (with_beside q d (outer.next w o seen) (reached b (want.Ram request) s)))
    ∙ inward_end w q d o s b seen (want.Ram request) h
inward_same w p q c d o s b seen (want.Outward request) h r e = outward_by w p q c d o s b seen request (granted_alone (want.Outward request) s) h r refl e
inward_same w p q c d o s b seen _ h r e = cc

pub onward : (w : Setting) (p q : Blocks) (c d : Core) (o : OuterState) (s : State) → AgreeWithSio d o s → IsCore0Alone (with_beside p c o s) q d → TellsSame p c o s
    → ReadsSame w o (begun (with_beside p c o s)).outer s → goes_inward s ≡ true → next w (with_beside p c o s) ≡ with_beside q d (outer.next w o (begun (with_beside p c o s)).outer) (inward_next (begun s).core0 (core0_want s) s)
onward w p q c d o s h alone same reads inward =
    next_alone w (with_beside p c o s) q d alone
    ∙ ap (λ b. alone_next w q d b (begun (with_beside p c o s)).outer (core.want_of b) (with_beside p c o s)) (begun_same p c o s same)
    ∙ inward_same w p q c d o s (begun s).core0 (begun (with_beside p c o s)).outer (core0_want s) h reads inward

-- no master stops it
abbrev outside_unless : Bool → ℕ → Option Why
outside_unless opened address = if opened then None else Some (why.Outside master.Core0 address)

no_cause : (w : Setting) (seen : SeenOutputs) (s : State) (granted : Bool) (x : Want) (o : OuterState) → is_inward granted x o ≡ true → cause_of w seen s (wanted_by master.Core0 x) ≡ None
unfolding cause_of
no_cause w seen s granted want.Nothing o e = refl
no_cause w seen s granted (want.Ram request) o e = refl
no_cause w seen s granted (want.Outward request) o e =
    ap (λ opened. outside_unless opened request.address) (has_word w seen master.Core0 request (place_of request.address) granted s o e)
no_cause w seen s granted want.Signal o e = cc
no_cause w seen s granted (want.Stopped cause) o e = cc

pub onward_runs : (w : Setting) (p q : Blocks) (c d : Core) (o : OuterState) (s : State) → IsCore0Alone (with_beside p c o s) q d → TellsSame p c o s → goes_inward s ≡ true
    → cause_in w (begun (with_beside p c o s)) (wanted (begun (with_beside p c o s))) (with_beside p c o s) ≡ None
onward_runs w p q c d o s alone same inward =
    cause_alone w (with_beside p c o s) q d alone
    ∙ ap (λ b. cause_of w (begun (with_beside p c o s)).outer (with_beside p c o s) (wanted_by master.Core0 (core.want_of b))) (begun_same p c o s same)
    ∙ no_cause w (begun (with_beside p c o s)).outer (with_beside p c o s) (granted_alone (core0_want s) s) (core0_want s) s.outer inward

-- ---- a cycle in which nothing is wanted, and no access lasts

wantless_inward : (b : Doing) (x : Want) (s : State) → x ≡ want.Nothing → has_hold s.fabric ≡ false → inward_wantless b s ≡ inward_next b x s
unfolding inward_wantless inward_next asked_of
wantless_inward b x s e free = rw (e, nobody-after s.fabric free) refl

-- the same of what a call begins
pub rests_by : (b : Doing) (s : State) → b ≡ (begun s).core0 → core.want_of b ≡ want.Nothing → has_hold s.fabric ≡ false → inward_wantless b s ≡ inward_cycle s
rests_by b s e nothing free = wantless_inward b (core.want_of b) s nothing free ∙ ap (λ (d : Doing). inward_next d (core.want_of d) s) e

abbrev by_begun : State → Doing → Bool
by_begun s d = is_inward (granted_alone (core.want_of d) s) (core.want_of d) s.outer

pub nothing_inward : (b : Doing) (s : State) → b ≡ (begun s).core0 → core.want_of b ≡ want.Nothing → goes_inward s ≡ true
nothing_inward b s e nothing = ap (by_begun s) (sym e) ∙ ap (λ x. is_inward (granted_alone x s) x s.outer) nothing

pub wants_nothing_inward : (s : State) → core0_want s ≡ want.Nothing → goes_inward s ≡ true
wants_nothing_inward s nothing = ap (λ x. is_inward (granted_alone x s) x s.outer) nothing

-- the same of an instruction that core 0 begins by its first halfword
pub short_by : (s : State) (pc lines half : ℕ) (op : Op) → lines < 2 ^ 32 → lines ≡ lines_of 0 s → begins s.core0 ≡ Some pc → half ≡ answer_of 0 s (ask.Half pc)
    → asks_second (half % 2 ^ 16) s.core0 ≡ Ready (Inner (Instruction op)) → is_signal op ≡ false → has_hold s.fabric ≡ false
    → (core0_want s ≡ want.Nothing) × (record (ended (record s { core0 = core.closed lines s.cycle (core.after_inner (Instruction op) s.core0) })) { cycle = s.cycle + 1 } ≡ inward_cycle s)
unfolding begun inward_wantless core.next
short_by s pc lines half op fits told here answer short silent free =
    let b = ends_with lines s.cycle (Inner (Instruction op)) in
    let word : lines ≡ lines_of 0 s % 2 ^ 32 = omega (arith, fits, told) in
    let same : b ≡ (begun s).core0 =
    ap (λ l. ends_with l s.cycle (Inner (Instruction op))) word ∙ sym (begun_short (answer_of 0 s) s.cycle s.core0 pc (Inner (Instruction op)) here (ap (λ x. asks_second (x % 2 ^ 16) s.core0) (sym answer) ∙ short)) in
    let nothing : core.want_of b ≡ want.Nothing = ap (λ x. if x then want.Signal else want.Nothing) silent in
    (ap core.want_of (sym same) ∙ nothing, rests_by b s same nothing free)

pub reaches_by : (b : Doing) (s t : State) → b ≡ (begun s).core0 → t ≡ inward_next b (core.want_of b) s → t ≡ inward_cycle s
reaches_by b s t e reaches = reaches ∙ ap (λ (d : Doing). inward_next d (core.want_of d) s) e

pub inward_by : (b : Doing) (s : State) → b ≡ (begun s).core0 → is_inward (granted_alone (core.want_of b) s) (core.want_of b) s.outer ≡ true → goes_inward s ≡ true
inward_by b s e inward = ap (by_begun s) (sym e) ∙ inward

goes_on : (w : Setting) (p q : Blocks) (c d : Core) (o : OuterState) (s : State) → AgreeWithSio d o s → IsCore0Alone (with_beside p c o s) q d → TellsSame p c o s
    → ReadsSame w o (begun (with_beside p c o s)).outer s → goes_inward s ≡ true → GoesOn w p q c d o s
goes_on w p q c d o s h alone same reads inward = record {
  cause = onward_runs w p q c d o s alone same inward;
  state = onward w p q c d o s h alone same reads inward;
}

-- ---- one cycle after another

-- what no such cycle changes
pub record Stays (s t : State) (n : ℕ) : Type 0 where
  pub alone : GoesAlone t
  pub outer : t.outer ≡ s.outer
  pub dma : t.dma ≡ s.dma
  pub pio0 : t.pio0 ≡ s.pio0
  pub pio1 : t.pio1 ≡ s.pio1
  pub core1 : t.core1 ≡ s.core1
  pub lines1 : lines_of 1 t ≡ lines_of 1 s
  pub cycle : t.cycle ≡ s.cycle + n

stays_here : (s : State) → GoesAlone s → Stays s s 0
stays_here s h = record { alone = h; outer = refl; dma = refl; pio0 = refl; pio1 = refl; core1 = refl; lines1 = refl; cycle = omega arith }

-- the interrupt lines of either core
pub lines_stay : (b : Doing) (x : Want) (t : State) (number : ℕ) → lines_of number (inward_next b x t) ≡ lines_of number t
unfolding inward_next ended with_sio lines_of block_lines outer_lines
lines_stay b x t number = refl

stays_on : (b : Doing) (x : Want) (s t : State) (n : ℕ) → Stays s t n → Stays s (inward_next b x t) (suc n)
unfolding inward_next ended with_sio
stays_on b x s t n h =
    let cycle = h.cycle in
    record {
      alone = record { offers = h.alone.offers; told = refl; pins = refl };
      outer = ap (λ (pins : List ℕ). record t.outer { sio = pins }) (sym h.alone.pins) ∙ h.outer;
      dma = h.dma;
      pio0 = h.pio0;
      pio1 = h.pio1;
      core1 = ap (λ (offer : Bool). record t.core1 { offer = offer }) (sym h.alone.told) ∙ h.core1;
      lines1 = lines_stay b x t 1 ∙ h.lines1;
      cycle = omega arith;
    }

pub stays_after : (s : State) (n : ℕ) → GoesAlone s → Stays s (inward_after n s) n
unfolding inward_after
stays_after s zero h = stays_here s h
stays_after s (suc n) h = stays_on _ _ s (inward_after n s) n (stays_after s n h)

-- the blocks and the peripherals, which are quiet, tell in the cycle k what they told first
pub record TellOn (s t : State) : Type 0 where
  pub lines : (core : ℕ) → outer_lines core t.outer ≡ outer_lines core s.outer
  pub uarts : outer_pacing t.outer ≡ outer_pacing s.outer
  pub inputs : inputs_of t ≡ inputs_of s
  pub dma : dma_words.lines_of t.dma.block ≡ dma_words.lines_of s.dma.block
  pub lines0 : pio_words.lines_of t.pio0.block ≡ pio_words.lines_of s.pio0.block
  pub lines1 : pio_words.lines_of t.pio1.block ≡ pio_words.lines_of s.pio1.block
  pub outs0 : pio_words.outs_of t.pio0.block ≡ pio_words.outs_of s.pio0.block
  pub outs1 : pio_words.outs_of t.pio1.block ≡ pio_words.outs_of s.pio1.block
  pub pacing0 : pio_words.pacing_of t.pio0.block.machines ≡ pio_words.pacing_of s.pio0.block.machines
  pub pacing1 : pio_words.pacing_of t.pio1.block.machines ≡ pio_words.pacing_of s.pio1.block.machines

-- so the answers are the same
abbrev lines_from : ℕ → List Bool → List Bool → List Bool → ℕ → ℕ
lines_from outer first second dma own = bit_or outer (pair_number first * 2 ^ 7 + pair_number second * 2 ^ 9 + pair_number dma * 2 ^ 11 + own)

pub lines_on : (s t : State) (number : ℕ) → t.sio ≡ s.sio → TellOn s t → lines_of number t ≡ lines_of number s
unfolding lines_of block_lines
lines_on s t number sio h =
    ap (λ (x : ℕ). lines_from x (pio_words.lines_of t.pio0.block) (pio_words.lines_of t.pio1.block) (dma_words.lines_of t.dma.block) (sio_lines number t.sio)) (h.lines number)
    ∙ ap (λ (x : List Bool). lines_from (outer_lines number s.outer) x (pio_words.lines_of t.pio1.block) (dma_words.lines_of t.dma.block) (sio_lines number t.sio)) h.lines0
    ∙ ap (λ (x : List Bool). lines_from (outer_lines number s.outer) (pio_words.lines_of s.pio0.block) x (dma_words.lines_of t.dma.block) (sio_lines number t.sio)) h.lines1
    ∙ ap (λ (x : List Bool). lines_from (outer_lines number s.outer) (pio_words.lines_of s.pio0.block) (pio_words.lines_of s.pio1.block) x (sio_lines number t.sio)) h.dma
    ∙ ap (λ (x : SioState). lines_from (outer_lines number s.outer) (pio_words.lines_of s.pio0.block) (pio_words.lines_of s.pio1.block) (dma_words.lines_of s.dma.block) (sio_lines number x)) sio

pub pacing_on : (s t : State) → TellOn s t → pacing_of t ≡ pacing_of s
unfolding pacing_of
pacing_on s t h = rw (h.uarts, h.pacing0, h.pacing1) refl

outs_by : (first : Bool) (s t : State) → TellOn s t → pio_words.outs_of (if first then t.pio0.block else t.pio1.block) ≡ pio_words.outs_of (if first then s.pio0.block else s.pio1.block)
outs_by true s t h = h.outs0
outs_by false s t h = h.outs1

pub outs_on : (s t : State) (block : ℕ) → TellOn s t → outs_of block t ≡ outs_of block s
unfolding outs_of
outs_on s t block h = ap packed_pair (outs_by (block == 0) s t h)

-- the state in which the others have gone so many cycles, and core 0 has gone to t
abbrev pub beside_after : Setting → State → ℕ → State → State
beside_after w s k t = with_beside (blocks_after k s) (core1_after s.cycle k s) (outer_after w (begun s).outer k s.outer) t

pub tell_on : (w : Setting) (s t : State) (n k : ℕ) → k ≤ n → AreBlocksQuiet s n → IsQuiet w (begun s).outer s.outer n → TellOn s (beside_after w s k t)
unfolding inputs_of
tell_on w s t n k le blocks quiet =
    let pins = pins_in (inputs_of s) in
    let on0 = a_quiet_block_shows_the_same pins s.pio0.block n blocks.pio0 in
    let on1 = a_quiet_block_shows_the_same pins s.pio1.block n blocks.pio1 in
    record {
      lines = λ core. quiet.lines k le core;
      uarts = quiet.pacing k le;
      inputs = ap (λ (b : Bank). packed_pair (inputs_of_pads b b.current ∷ inputs_of_pads b b.second ∷ [])) (quiet.pads k le);
      dma = refl;
      lines0 = on0.lines k;
      lines1 = on1.lines k;
      outs0 = on0.outs k;
      outs1 = on1.outs k;
      pacing0 = on0.pacing k;
      pacing1 = on1.pacing k;
    }

-- what stays beside core 0 tells the same too
pub stayed : (s t : State) (n : ℕ) → Stays s t n → TellOn t s
unfolding inputs_of
stayed s t n h = rw (h.outer, h.dma, h.pio0, h.pio1) record {
  lines = λ core. refl;
  uarts = refl;
  inputs = refl;
  dma = refl;
  lines0 = refl;
  lines1 = refl;
  outs0 = refl;
  outs1 = refl;
  pacing0 = refl;
  pacing1 = refl;
}

pub told_both : (s t u : State) → TellOn s t → TellOn u s → TellOn u t
told_both s t u h i = record {
  lines = λ core. h.lines core ∙ i.lines core;
  uarts = h.uarts ∙ i.uarts;
  inputs = h.inputs ∙ i.inputs;
  dma = h.dma ∙ i.dma;
  lines0 = h.lines0 ∙ i.lines0;
  lines1 = h.lines1 ∙ i.lines1;
  outs0 = h.outs0 ∙ i.outs0;
  outs1 = h.outs1 ∙ i.outs1;
  pacing0 = h.pacing0 ∙ i.pacing0;
  pacing1 = h.pacing1 ∙ i.pacing1;
}

-- one cycle more of a core that is quiet
pub core_more : (lines : ℕ) (c : Core) (cycle k : ℕ) (b : Doing) → b ≡ answered (λ ask. lines) (core_asks.asks (times (rested lines) cycle k c) (cycle + k))
    → core.next (times (rested lines) cycle k c) b (turn.Nothing ∷ turn.Nothing ∷ []) ≡ times (rested lines) cycle (suc k) c
unfolding times
core_more lines c cycle k b e = rw e refl

-- in a cycle of these the blocks and core 1 come to what they are in the next
pub alone_by : (w : Setting) (s t : State) (n k : ℕ) → k < n → Stays s t k → AreBlocksQuiet s n → IsCore1Quiet s n → TellOn s (beside_after w s k t)
    → TellOn t (beside_after w s k t) → IsCore0Alone (beside_after w s k t) (blocks_after (suc k) s) (core1_after s.cycle (suc k) s)
unfolding begun
alone_by w s t n k lt stays blocks quiet on here =
    let u = beside_after w s k t in
    let pacing = pacing_on s u on in
    let begins : (begun u).core1 ≡ answered (λ ask. lines_of 1 s) (core_asks.asks (core1_after s.cycle k s) (s.cycle + k)) =
    ap (λ (cycle : ℕ). answered (answer_of 1 u) (core_asks.asks (core1_after s.cycle k s) cycle)) stays.cycle
    ∙ quiet.begins k lt (answer_of 1 u) (lines_on t u 1 refl here ∙ stays.lines1) in
    record {
      rests = ap core.want_of begins ∙ quiet.wants k lt;
      core1 = core_more (lines_of 1 s) s.core1 s.cycle k (begun u).core1 begins;
      wants = blocks.dma.wants k lt (answer_of 2 u) pacing;
      dma = λ turns. blocks.dma.steps k lt (answer_of 2 u) pacing turns;
      pio0 = (a_quiet_block_shows_the_same (pins_in (inputs_of s)) s.pio0.block n blocks.pio0).steps k lt (answer_of 3 u) (ap pins_in on.inputs);
      pio1 = (a_quiet_block_shows_the_same (pins_in (inputs_of s)) s.pio1.block n blocks.pio1).steps k lt (answer_of 4 u) (ap pins_in on.inputs);
    }

-- the cycle that comes next is one without a stop and without events
record IsStep (w : Setting) (s : State) (k : ℕ) : Type 0 where
  stop : stop w (onward_after w s k) ≡ None
  next : next w (onward_after w s k) ≡ onward_after w s (suc k)
  events : events w (onward_after w s k) ≡ []

pub stop_none : (w : Setting) (s : State) → s.cycle < w.limit → cause_in w (begun s) (wanted (begun s)) s ≡ None → stop w s ≡ None
unfolding stop
stop_none w s lt none = elim (eqb_tells s.cycle w.limit) [
  | inl e ↦ absurd (let same = e.1 in omega arith)
  | inr e ↦ rw e.0 none
]

a_step : (w : Setting) (s : State) (n k : ℕ) → k < n → GoesAlone s → AreBlocksQuiet s n → IsCore1Quiet s n → IsQuiet w (begun s).outer s.outer n
    → goes_inward (inward_after k s) ≡ true → s.cycle + n ≤ w.limit → IsStep w s k
unfolding mark events inward_after times
a_step w s n k lt h blocks core1 quiet inward limit =
    let le : k ≤ n = omega arith in
    let t = inward_after k s in
    let p = blocks_after k s in
    let c = core1_after s.cycle k s in
    let d = core1_after s.cycle (suc k) s in
    let o = outer_after w (begun s).outer k s.outer in
    let u = beside_after w s k t in
    let stays = stays_after s k h in
    let number = seen_number s in
    let cycle = stays.cycle in
    let on = tell_on w s t n k le blocks quiet in
    let here = told_both s u t on (stayed s t k stays) in
    let seen : (begun u).outer ≡ seen_in (begun s).outer ((begun s).outer.cycle + k) =
    seen_later s u (quiet.pads k le) (λ block. outs_on s u block on) ∙ ap (λ (c : ℕ). seen_in (begun s).outer c) (omega arith) in
    let tells : TellsSame p c o t = record {
      lines = lines_on t u 0 refl here;
      pacing = pacing_on t u here;
      inputs = ap (λ (b : Bank). inputs_of_pads b b.current ∷ inputs_of_pads b b.second ∷ []) (quiet.pads k le) ∙ ap outer_inputs (sym stays.outer);
      outs = λ block. outs_on t u block here;
    } in
    let knows : AgreeWithSio d o t = record {
      offers = stays.alone.offers;
      told = core1.offer (suc k) (omega arith) ∙ ap (λ (x : Core). x.offer) (sym stays.core1) ∙ stays.alone.told;
      pins = quiet.sio k le ∙ ap (λ (x : OuterState). x.sio) (sym stays.outer) ∙ stays.alone.pins;
    } in
    let reads : ReadsSame w o (begun u).outer t = record {
      lasts = λ block offset e.
          ap (λ (x : SeenOutputs). is_lasting_read block offset (outer.next w o x)) seen
          ∙ quiet.lasts (suc k) (omega arith) block offset ∙ sym (ap (is_lasting_read block offset) stays.outer) ∙ e;
      reads = λ block offset e.
          quiet.reads k le block offset (sym (ap (is_lasting_read block offset) stays.outer) ∙ e)
          ∙ sym (ap (own_word block offset) stays.outer);
    } in
    let step = goes_on w p (blocks_after (suc k) s) c d o t knows (alone_by w s t n k lt stays blocks core1 on here) tells reads inward in
    record {
      stop = stop_none w u (omega arith) step.cause;
      next = step.state ∙ ap (λ (x : SeenOutputs). with_beside (blocks_after (suc k) s) d (outer.next w o x) (inward_next (begun t).core0 (core0_want t) t)) seen;
      events = no_events t.cycle o.pads.current (marked w o (begun u).outer)
          (ap (λ (x : SeenOutputs). marked w o x) seen ∙ quiet.mark k lt ∙ ap (λ (b : Bank). record { uart = None ∷ None ∷ []; pads = b.current }) (sym (quiet.pads k le)));
    }

runs_through : (w : Setting) (s : State) (n : ℕ) → GoesAlone s → AreBlocksQuiet s n → IsCore1Quiet s n → IsQuiet w (begun s).outer s.outer n → StaysInward s n
    → s.cycle + n ≤ w.limit → RunsThrough w (onward_after w s) n
runs_through w s n h blocks core1 quiet inward limit = record {
  stop = λ k lt. (a_step w s n k lt h blocks core1 quiet (inward k lt) limit).stop;
  next = λ k lt. (a_step w s n k lt h blocks core1 quiet (inward k lt) limit).next;
  events = λ k lt. (a_step w s n k lt h blocks core1 quiet (inward k lt) limit).events;
}

-- no cycle
nothing_after : (w : Setting) (s : State) → onward_after w s 0 ≡ s
unfolding inward_after times
nothing_after w s = ap (λ (p : Blocks). with_blocks p s) (none_after s)

pub core0_goes_on_alone : Core0GoesOnAlone
core0_goes_on_alone w s n h blocks core1 quiet inward limit =
    let runs = runs_through w s n h blocks core1 quiet inward limit in
    let here : (k : ℕ) → k ≤ n → states w s k ≡ onward_after w s k =
    λ k le. ap (λ (x : State). states w x k) (sym (nothing_after w s)) ∙ states_through w (onward_after w s) k (fewer w (onward_after w s) n k le runs) in
    record {
      state = here n (omega arith);
      quiet = record {
        goes = λ k lt. ap (stop w) (here k (omega arith)) ∙ runs.stop k lt;
        silent = λ k lt. ap (events w) (here k (omega arith)) ∙ runs.events k lt;
        pads = λ k le. ap (λ (t : State). t.outer.pads) (here k le) ∙ quiet.pads k le;
        cycle = λ k le. ap (λ (t : State). t.cycle) (here k le) ∙ (stays_after s k h).cycle;
      };
    }

blocks_went : (s t : State) (n k : ℕ) → Stays s t k → blocks_after n t ≡ blocks_after n s
blocks_went s t n k h = rw (h.dma, h.pio0, h.pio1) refl

core1_went : (s t : State) (first n k : ℕ) → Stays s t k → core1_after first n t ≡ core1_after first n s
core1_went s t first n k h = rw (h.lines1, h.core1) refl

-- the same of what the calls of a run leave
pub went_onward : (w : Setting) (s t : State) (seen : SeenOutputs) (n : ℕ) → GoesAlone s → seen ≡ (begun s).outer → t ≡ inward_after n s → GoesOnward w s n
    → with_beside (blocks_after n t) (core1_after seen.cycle n t) (outer_after w seen n t.outer) t ≡ states w s n
went_onward w s t seen n h same went runs =
    let u = inward_after n s in
    let stays = stays_after s n h in
    ap (λ (x : State). with_beside (blocks_after n x) (core1_after seen.cycle n x) (outer_after w seen n x.outer) x) went
    ∙ ap (λ (x : SeenOutputs). with_beside (blocks_after n u) (core1_after x.cycle n u) (outer_after w x n u.outer) u) same
    ∙ ap (λ (first : ℕ). with_beside (blocks_after n u) (core1_after first n u) (outer_after w (begun s).outer n u.outer) u) (seen_number s)
    ∙ ap (λ (x : OuterState). with_beside (blocks_after n u) (core1_after s.cycle n u) (outer_after w (begun s).outer n x) u) stays.outer
    ∙ ap (λ (x : Blocks). with_beside x (core1_after s.cycle n u) (outer_after w (begun s).outer n s.outer) u) (blocks_went s u n n stays)
    ∙ ap (λ (x : Core). with_beside (blocks_after n s) x (outer_after w (begun s).outer n s.outer) u) (core1_went s u s.cycle n n stays)
    ∙ sym runs.state

-- ---- as far as core 0 goes on

-- from s core 0 has gone on alone for so many cycles, at most so many
pub record HasGone (s t : State) (most done lines before now : ℕ) (old new : List Mark) : Type 0 where
  pub within : done ≤ most
  pub state : t ≡ inward_after done s
  pub inward : StaysInward s done
  pub told : lines ≡ lines_of 0 t
  pub counted : now ≡ before + done
  pub kept : new ≡ old
  pub cycle : t.cycle ≡ s.cycle + done

pub has_gone_none : (s : State) (most lines steps : ℕ) (marks : List Mark) → lines ≡ lines_of 0 s → HasGone s s most 0 lines steps steps marks marks
unfolding inward_after
has_gone_none s most lines steps marks h = record {
  within = omega arith;
  state = refl;
  inward = λ k lt. absurd (omega arith);
  told = h;
  counted = omega arith;
  kept = refl;
  cycle = omega arith;
}

cycle_more : (b : Doing) (x : Want) (t : State) → (inward_next b x t).cycle ≡ t.cycle + 1
unfolding inward_next ended with_sio
cycle_more b x t = refl

inward_again : (s t : State) (n : ℕ) → t ≡ inward_after n s → goes_inward t ≡ true → StaysInward s n → StaysInward s (suc n)
inward_again s t n e last so_far k lt = elim (eqb_tells k n) [
  | inl same ↦ ap (λ (m : ℕ). goes_inward (inward_after m s)) same.1 ∙ ap goes_inward (sym e) ∙ last
  | inr other ↦ so_far k (let ne = other.1 in omega (arith, ne))
]

pub has_gone_on : (s t u : State) (most done more lines before now later : ℕ) (old new last : List Mark)
    → HasGone s t most done lines before now old new → done < most → goes_inward t ≡ true → u ≡ inward_next (begun t).core0 (core0_want t) t
    → more ≡ done + 1 → later ≡ now + 1 → last ≡ new
    → HasGone s u most more lines before later old last
unfolding inward_after
has_gone_on s t u most done more lines before now later old new last h lt inward e one step mark =
    let state : u ≡ inward_after (suc done) s = e ∙ ap inward_cycle h.state in
    let n : more ≡ suc done = omega arith in
    let steps = h.counted in
    let cycle = h.cycle in
    let here : u.cycle ≡ t.cycle + 1 = ap (λ (x : State). x.cycle) e ∙ cycle_more _ _ t in
    record {
      within = omega arith;
      state = state ∙ ap (λ (k : ℕ). inward_after k s) (sym n);
      inward = rw n (inward_again s t done h.state inward h.inward);
      told = h.told ∙ sym (ap (lines_of 0) e ∙ lines_stay _ _ t 0);
      counted = omega arith;
      kept = mark ∙ h.kept;
      cycle = omega arith;
    }
