-- What was opened and told, the whole call, and what a run puts.
use Rattle.pico_top.proofs.Shared.{◌<◌, ◌≡◌, ℕ, ◌+◌, ◌≤◌, List, [], ◌∷◌, ◌++◌, length, map, arith, Option, Some, Result, Ok, Err, refl, sym, ap, ap₂, inl, inr, ◌∙◌, subst, Bool, true, false, DeviceMeaning, paired, Aim, Wired, placed_by, wired_in, Setting, SinkFault, part_of_longer, part_behind, sends_part, sends_then, asked_by, State, Standing, first_of, OpensAt, Way, Closed, Ended, lines_heard, way_line, way_status, BearsOut, IsTaken, quits, talk_of, Subcommand, Opened, Unopened, Refusing, Memory, Board, Drawn, Sunk, Outside, Dialogue, Reply, aims_in, beside, device_in, dialogue_of, hear, input_limit, plain, run_reply, say, session_reply, Ending, heard_as, Said, Heard, Refused, NoMemory, Puts, RunsOut, Takes, Ends, Counts, IsCounted, Writes, ConversesIn, ConversesFor, Converses, opened_dialogue, EndsAs, EndsUnopened, Leads, PutsRefusal, Concludes}
use Rattle.board_parts.specs.declared.wiring.Wiring.{Wiring}
use Rattle.board_parts.specs.Part.{PartMeaning}
use Rattle.board_parts.specs.Parts.{parts_device}
use Rattle.trace_text.specs.declared.event.Event.{Event}
use Rattle.trace_text.specs.Line.{event_text}
use Rattle.trace_text.specs.Sent.{AppendsPart}
use Rattle.rp_ports.specs.Fault.{Rose}
use Rattle.rp_base.specs.declared.Why.{Why}
use Rattle.rp_machine.specs.Cycle.{stop}
use Rattle.rp_machine.specs.Run.{last_state}
use Rattle.window_runner.specs.declared.alone.Ran.{Ran}
use Rattle.window_runner.specs.Alone.{IsRan, IsRanFor, IsOnRun}
use Rattle.window_runner.specs.Told.{run_shown}
use Rattle.reverse_debug.specs.Talk.{text_from, Hears}
use Rattle.pico_top.specs.Dialogue.Cost.{Exactly}
use Rattle.pico_top.specs.Teller.{HasTold}
use Rattle.pico_top.specs.RunText.{event_lines, after_events, counts_text, stats_text, run_text, run_cycles, end_text}
use Rattle.std.proofs.lemmas.List.Concat.{flat_map-append}
use Rattle.pico_top.proofs.Walking.{no_memory}

-- ---- the call

-- where something was opened
pub opened_converses : (d : Dialogue) (before after : Outside) (device : DeviceMeaning) (aims : List Aim) (opened : Opened) (status : ℕ)
    → Leads before.files before.failed after.failed (opened_dialogue device aims) d (Ok opened) → after.files ≡ before.files
    → Concludes (opened_dialogue device aims opened) before.source after.source before.sink after.sink before.steps after.steps status
    → ConversesIn d before after status
opened_converses d before after device aims opened status opens kept told = record {
  ending = told.ending;
  walked = opens.found.1 told.ending (told.walked before.files);
  failed = opens.found.0 ∙ sym (told.loaded before.failed);
  kept = kept;
  takes = told.takes;
  ends = told.ends;
  counted = told.counted;
}

-- where nothing was opened nothing was heard or counted, and the line of the refusal was put, or memory ran out
unopened_ends : (a b : Drawn) (x y : Sunk) (steps steps' status : ℕ) (unopened : Unopened) (e : Ending) → EndsAs unopened e → b ≡ a → PutsRefusal x y status unopened → steps' ≡ steps
    → Takes a b status e × Ends x y status e × Counts e status steps steps'
unopened_ends a b x y steps steps' status (Refusing refusal) e is same puts still =
    subst (λ (e : Ending). Takes a b status e × Ends x y status e × Counts e status steps steps') (sym is) (same, puts, still)
unopened_ends a b x y steps steps' status Memory (Said reply) is same puts still = absurd is
unopened_ends a b x y steps steps' status Memory (Heard bytes way reply) is same puts still = absurd is
unopened_ends a b x y steps steps' status Memory (Refused refusal) is same puts still = (same, inr puts, still)
unopened_ends a b x y steps steps' status Memory NoMemory is same puts still = (same, puts, still)

pub unopened_converses : (d : Dialogue) (before after : Outside) (unopened : Unopened) (status : ℕ)
    → EndsUnopened before.files before.failed after.failed d unopened → after.files ≡ before.files → after.source ≡ before.source
    → PutsRefusal before.sink after.sink status unopened → after.steps ≡ before.steps → ConversesIn d before after status
unopened_converses d before after unopened status opens kept unheard puts still =
    let ends = unopened_ends before.source after.source before.sink after.sink before.steps after.steps status unopened opens.0 opens.3 unheard puts still in
    record { ending = opens.0; walked = opens.1; failed = opens.2; kept = kept; takes = ends.0; ends = ends.1; counted = ends.2 }

-- where memory ran out before a file was loaded
pub out_converses : (d : Dialogue) (before after : Outside) (status : ℕ) → after.failed ≡ before.failed → after.files ≡ before.files → after.source ≡ before.source
    → PutsRefusal before.sink after.sink status Memory → after.steps ≡ before.steps → ConversesIn d before after status
out_converses d before after status failed = unopened_converses d before after Memory status (NoMemory, no_memory before.files d, failed, tt)

-- with the device of the board
pub served : (b : Board) (command : Subcommand) (before after : Outside) (status : ℕ) (device : DeviceMeaning) → device ≡ device_in b command
    → ConversesIn (dialogue_of device (aims_in b.probes command) command) before after status → ConversesFor b (Some command) before after status
served b command before after status device is h =
    subst (λ (x : DeviceMeaning). ConversesIn (dialogue_of x (aims_in b.probes command) command) before after status) is h

-- for words that ask for this
pub read_converses : (b : Board) (words : List (List ℕ)) (asked : Option Subcommand) (before after : Outside) (status : ℕ) → asked_by b words ≡ asked → ConversesFor b asked before after status → Converses b words before after status
read_converses b words asked before after status is h = subst (λ (a : Option Subcommand). ConversesFor b a before after status) (sym is) h

-- the device of a run without parts: ws are those that are attached
pub beside_none : (ws : List Wiring) (ps : List Wired) (parts : List PartMeaning) (own : DeviceMeaning) → length ws < 1 → map wired_in ws ≡ ps → own ≡ beside ps parts own
beside_none [] ps parts own none e = subst (λ (qs : List Wired). own ≡ beside qs parts own) e refl
beside_none (w ∷ ws) ps parts own none e = absurd (omega (arith, none))

-- and with parts: ws are those that are attached
pub beside_some : (ws : List Wiring) (ps : List Wired) (parts : List PartMeaning) (first own : DeviceMeaning) → 1 ≤ length ws → map wired_in ws ≡ ps → first ≡ parts_device (placed_by parts (map wired_in ws)) → paired first own ≡ beside ps parts own
beside_some [] ps parts first own some e f = absurd (omega (arith, some))
beside_some (w ∷ ws) ps parts first own some e f = subst (λ (qs : List Wired). paired first own ≡ beside qs parts own) e (ap (λ d. paired d own) f)

-- ---- what was said

-- a text was said
tells_said : (reply : Reply) (source : Drawn) (a b : Sunk) (steps steps' status : ℕ) → Puts a b status 0 reply.text → IsCounted reply.cost status 0 steps steps'
    → Concludes (say reply) source source a b steps steps' status
tells_said reply source a b steps steps' status puts counted = record {
  ending = Said reply;
  walked = λ files. inl ([], tt, refl);
  loaded = λ failed. refl;
  takes = refl;
  ends = puts;
  counted = counted;
}

-- a text that costs no cycle was said
pub tells_text : (text : List ℕ) (source : Drawn) (a b : Sunk) (steps status : ℕ) → Puts a b status 0 text → Concludes (say (plain text)) source source a b steps steps status
tells_text text source a b steps status puts =
    tells_said (plain text) source a b steps steps status puts (record { whole = λ e. omega arith; forward = omega arith; within = omega arith })

-- ---- what a session tells

bears : (left : Option (List ℕ)) (before now status : ℕ) (way : Way) → BearsOut left before now 0 way → BearsOut left before now status way
bears left before now status Closed h = h
bears left before now status Ended h = (h.0, elim h.1 [ inl bad ↦ absurd (omega (arith, bad)) | inr end ↦ inr end ])
bears left before now status _ h = h

-- a session that was opened stands at cycle 0
pub opened_cycle : (w : Setting) (session : Standing) (limit : ℕ) → w.limit ≡ limit → OpensAt (first_of session) limit session → session.now.cycle ≡ 0
opened_cycle w session limit e h = ap (λ (s : State). s.cycle) h.now ∙ (h.stands w e).begins

-- lines were heard, and this was put
heard_so : (w : Setting) (f : State) (source source' : Drawn) (a b : Sunk) (old new : Option (List ℕ)) (before now steps steps' at status : ℕ) (result : Result Way SinkFault)
    (h : Hears (talk_of w f) 0 input_limit source.left source'.left source.faults source'.faults old new before now steps steps' at result)
    → IsTaken source.left source'.left source.faults source'.faults status h.bytes h.way
    → Puts a b status (way_status h.way) (text_from (talk_of w f) 0 (lines_heard quits h.way h.bytes) ++ way_line h.way)
    → Concludes (hear input_limit quits (session_reply w f)) source source' a b steps steps' status
heard_so w f source source' a b old new before now steps steps' at status result h taken puts = record {
  ending = Heard h.bytes h.way (heard_as quits (session_reply w f) h.bytes h.way);
  walked = λ files. inl ([], tt, (h.bytes, h.way, h.within, h.may, refl));
  loaded = λ failed. refl;
  takes = taken;
  ends = puts;
  counted = record { whole = λ _. (h.forward, h.most); forward = h.forward; within = h.most };
}

-- the hearing ended, and the line of its way was put
pub tells_heard : (w : Setting) (f : State) (source source' : Drawn) (a b c : Sunk) (steps steps' at status : ℕ) (way : Way) (cycle : ℕ) → cycle ≡ 0
    → Hears (talk_of w f) cycle input_limit source.left source'.left source.faults source'.faults a.written b.written a.faults b.faults steps steps' at (Ok way)
    → Puts b c status (way_status way) (way_line way) → Concludes (hear input_limit quits (session_reply w f)) source source' a c steps steps' status
tells_heard w f source source' a b c steps steps' at status way cycle zero h₀ puts =
    let h : Hears (talk_of w f) 0 input_limit source.left source'.left source.faults source'.faults a.written b.written a.faults b.faults steps steps' at (Ok way) =
    subst (λ p. Hears (talk_of w f) p input_limit source.left source'.left source.faults source'.faults a.written b.written a.faults b.faults steps steps' at (Ok way)) zero h₀ in
    let last : Puts b c status (way_status h.way) (way_line h.way) = subst (λ (x : Way). Puts b c status (way_status x) (way_line x)) h.is puts in
    heard_so w f source source' a c _ _ _ _ steps steps' at status (Ok way) h
    (record { taken = h.taken.taken; forward = h.taken.forward; borne = bears source'.left source.faults source'.faults status h.way h.taken.borne })
    (last.0, sends_then last.0 h.sends last.1, last.2)

-- the sink failed at an answer
pub tells_cut : (w : Setting) (f : State) (source source' : Drawn) (a b : Sunk) (steps steps' at : ℕ) (fault : SinkFault) (cycle : ℕ) → cycle ≡ 0
    → Hears (talk_of w f) cycle input_limit source.left source'.left source.faults source'.faults a.written b.written a.faults b.faults steps steps' at (Err fault)
    → Concludes (hear input_limit quits (session_reply w f)) source source' a b steps steps' 7
tells_cut w f source source' a b steps steps' at fault cycle zero h₀ =
    let h : Hears (talk_of w f) 0 input_limit source.left source'.left source.faults source'.faults a.written b.written a.faults b.faults steps steps' at (Err fault) =
    subst (λ p. Hears (talk_of w f) p input_limit source.left source'.left source.faults source'.faults a.written b.written a.faults b.faults steps steps' at (Err fault)) zero h₀ in
    heard_so w f source source' a b _ _ _ _ steps steps' at 7 (Err fault) h h.taken (Err fault, sends_part (way_line h.way) h.sends, refl)

-- ---- the text and the cycles of a run

-- a run begins with its events
run_begins : (stats : Bool) (w : Setting) (aims : List Aim) (s : State) → event_lines (run_shown w s) ++ end_text (stop w (last_state w s)) (last_state w s) (after_events (run_shown w s) aims) (stats_text stats w s) ≡ run_text stats w aims s
unfolding run_text
run_begins stats w aims s = refl

-- the counts are those of the run, where they are asked for
no_counts : (windows cycles : ℕ) (w : Setting) (s : State) → counts_text false windows cycles ≡ stats_text false w s
unfolding counts_text
no_counts windows cycles w s = refl

counts_of : (stats : Bool) (w : Setting) (s : State) (ran : Ran) → (stats ≡ true → IsRan w s ran) → counts_text stats ran.windows ran.cycles ≡ stats_text stats w s
counts_of true w s ran is = let r = is refl in ap₂ (counts_text true) r.windows r.cycles
counts_of false w s ran is = no_counts ran.windows ran.cycles w s

-- and ends with the lines of the last state, those of the probes and that of the counts
text_of_run : (stats : Bool) (w : Setting) (aims heard : List Aim) (s t : State) (ran : Ran) → t ≡ last_state w s → IsRanFor stats w s ran → heard ≡ after_events (run_shown w s) aims → event_lines (run_shown w s) ++ end_text (Some ran.why) t heard (counts_text stats ran.windows ran.cycles) ≡ run_text stats w aims s
text_of_run stats w aims heard s t ran e is h =
    ap (λ x. event_lines (run_shown w s) ++ x)
    (ap₂ (λ (why : Option Why) (x : State). end_text why x heard (counts_text stats ran.windows ran.cycles)) (sym is.why) e
    ∙ ap₂ (λ (a : List Aim) (n : List ℕ). end_text (stop w (last_state w s)) (last_state w s) a n) h (counts_of stats w s ran is.counts)) ∙ run_begins stats w aims s

-- a run by windows found the counts
pub ran_for : (stats : Bool) (w : Setting) (s : State) (ran : Ran) → stats ≡ true → IsRan w s ran → IsRanFor stats w s ran
ran_for stats w s ran asked is = record { why = is.why; counts = λ e. is; none = λ none. absurd (cc (none, asked)) }

-- where they are not asked for, no run has to find them
pub uncounted_for : (stats : Bool) (w : Setting) (s : State) (ran : Ran) → stats ≡ false → IsRanFor false w s ran → IsRanFor stats w s ran
uncounted_for stats w s ran none is = subst (λ (asked : Bool). IsRanFor asked w s ran) (sym none) is

-- what was counted at a state of the run, and at its last one
run_counted : (w : Setting) (s t : State) (steps steps' status : ℕ) → IsOnRun w s t → steps' + s.cycle ≡ steps + t.cycle → (status ≡ 0 → t ≡ last_state w s)
    → IsCounted (Exactly (run_cycles w s)) status 0 steps steps'
unfolding run_cycles
run_counted w s t steps steps' status on count last =
    let low : s.cycle ≤ t.cycle = on.forward in
    let high : t.cycle ≤ (last_state w s).cycle = on.within in
    record {
      whole = λ e. let at : t.cycle ≡ (last_state w s).cycle = ap (λ (x : State). x.cycle) (last e) in omega arith;
      forward = omega arith;
      within = omega arith;
    }

-- ---- where a run ends

-- the run went to its stop, and its last lines were put
pub run_ended : (stats : Bool) (w : Setting) (s t : State) (before after : List Aim) (source : Drawn) (a b c : Sunk) (steps steps' status : ℕ) (ran : Ran)
    → HasTold a b before after (run_shown w s) → IsRanFor stats w s ran → t ≡ last_state w s → IsOnRun w s t → steps' + s.cycle ≡ steps + t.cycle
    → Puts b c status 0 (end_text (Some ran.why) t after (counts_text stats ran.windows ran.cycles)) → Concludes (say (run_reply stats before w s)) source source a c steps steps' status
run_ended stats w s t before after source a b c steps steps' status ran told is state on count last =
    let events : Writes {T = Ran} {E = SinkFault} a b (event_lines (run_shown w s)) (Ok ran) =
    record { ok = told.written; err = tt; cause = tt; steady = told.steady; count = omega (arith, told.steady) } in
    tells_said (run_reply stats before w s) source a c steps steps' status
    (last.0, rw (sym (text_of_run stats w before after s t ran state is told.heard)) (sends_then last.0 events last.1), last.2)
    (run_counted w s t steps steps' status on count (λ e. state))

-- the sink failed at an event
pub run_cut : (stats : Bool) (w : Setting) (s t : State) (before heard : List Aim) (source : Drawn) (a b c : Sunk) (steps steps' : ℕ) (first others : List Event) (event : Event)
    → run_shown w s ≡ first ++ event ∷ others → HasTold a b before heard first → AppendsPart b.written c.written (event_text event) → Rose a.faults c.faults → a.faults ≤ c.faults
    → IsOnRun w s t → steps' + s.cycle ≡ steps + t.cycle → Concludes (say (run_reply stats before w s)) source source a c steps steps' 7
run_cut stats w s t before heard source a b c steps steps' first others event is told part rose later on count =
    let sent : AppendsPart a.written c.written (event_lines first ++ event_lines (event ∷ others)) = part_behind _ _ _ _ _ told.written (part_of_longer _ _ _ (event_lines others) part) in
    let cut : Writes {T = Ran} {E = SinkFault} a c (event_lines (run_shown w s)) (Err (record {})) =
    record { ok = tt; err = rw (ap event_lines is ∙ flat_map-append event_text first (event ∷ others)) sent; cause = rose; steady = tt; count = later } in
    tells_said (run_reply stats before w s) source a c steps steps' 7 (Err (record {}), rw (sym (run_begins stats w before s)) (sends_part _ cut), refl)
    (run_counted w s t steps steps' 7 on count (λ e. absurd (omega (arith, e))))

-- memory ran out before the run
pub run_none : (reply : Reply) (s t : State) (source : Drawn) (a c : Sunk) (steps steps' status : ℕ) → t ≡ s → steps' + s.cycle ≡ steps + t.cycle → RunsOut a c status
    → Concludes (say reply) source source a c steps steps' status
run_none reply s t source a c steps steps' status still count out = record {
  ending = NoMemory;
  walked = λ files. inr refl;
  loaded = λ failed. refl;
  takes = refl;
  ends = out;
  counted = let same : t.cycle ≡ s.cycle = ap (λ (x : State). x.cycle) still in omega (arith, same, count);
}
