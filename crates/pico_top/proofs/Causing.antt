-- The causes of a call's status, from the ending of its walk; the status over files and bytes that are told; and the whole text.
use Rattle.pico_top.proofs.Shared.{◌≡◌, ◌⊎◌, ℕ, List, Option, None, Result, Ok, Err, refl, sym, inl, inr, ◌∙◌, subst, arith, ◌+◌, ◌-◌, ◌<◌, ◌≤◌, nat_le, Bool, true, false, not, ◌&&◌, if◌then◌else◌, [], ◌∷◌, ◌++◌, length, take, Some, IfSome, ap, length-append, SinkFault, Subcommand, Refusal, refused_line, status_of, BadWords, Way, Closed, Ended, Broken, Full, way_status, BearsOut, MayEnd, IsTaken, Board, Sunk, Outside, dialogue_from, Dialogue, Ending, Walks, failed_names, Verdict, verdict, status_over, Said, Heard, Refused, NoMemory, Puts, RunsOut, Ends, Takes, Writes, sent_status, memory_line, ConversesIn, append-nil, take_at, Files, Appends, closes, Refuses, Says, Hears}
use Rattle.rp_ports.specs.Fault.{Rose}
use Rattle.rp_ports.specs.Source.{IsAtEnd}
use Rattle.pico_top.specs.Causes.{HasCause, HasHeard, IsStatus, Causes, Fulfils, Completes, HasRunOut, DoesNotFail, SaysAll, AnswersAll}
use Rattle.pico_top.proofs.Walking.{words_refused, IsOf, walk_follows}
use Rattle.std.proofs.Math.Seq.{take-append-add}
use Rattle.std.proofs.lemmas.Option.{same_Some}
use Rattle.reverse_debug.proofs.LineLists.{closes_more}

-- ---- the status of a text

-- the text was written and the status is its own, or it is 7 and the sink's count of faults rose
sent_is : (a b : Sunk) (status wanted : ℕ) (text : List ℕ) (sent : Result (Unit {0}) SinkFault) → Writes a b text sent → status ≡ sent_status sent wanted → ((status ≡ wanted) × Appends a.written b.written text) ⊎ ((status ≡ 7) × Rose a.faults b.faults)
sent_is a b status wanted text (Ok done) sends e = inl (e, sends.ok)
sent_is a b status wanted text (Err fault) sends e = inr (e, sends.cause)

-- ---- the status of an ending

abbrev pub ending_status : Ending → ℕ
ending_status (Said reply) = 0
ending_status (Heard bytes way reply) = way_status way
ending_status (Refused refusal) = status_of refusal
ending_status NoMemory = 9

-- the status is the ending's own, or 7 where the sink's count of faults rose, or 9
abbrev pub ComesOf : Sunk → Sunk → ℕ → ℕ → Type 0
ComesOf a b status own = (status ≡ own) ⊎ (((status ≡ 7) × Rose a.faults b.faults) ⊎ (status ≡ 9))

told_comes : (a b : Sunk) (status own : ℕ) (text : List ℕ) → Puts a b status own text → ComesOf a b status own
told_comes a b status own text h = elim (sent_is a b status own text h.0 h.1 h.2) [ inl e ↦ inl e.0 | inr e ↦ inr (inl e) ]

out_comes : (a b : Sunk) (status own : ℕ) → RunsOut a b status → ComesOf a b status own
out_comes a b status own h = elim (sent_is a b status 9 memory_line h.0 h.1 h.2) [ inl e ↦ inr (inr e.0) | inr e ↦ inr (inl e) ]

ends_comes : (a b : Sunk) (status : ℕ) (e : Ending) → Ends a b status e → ComesOf a b status (ending_status e)
ends_comes a b status (Said reply) h = told_comes a b status 0 reply.text h
ends_comes a b status (Heard bytes way reply) h = told_comes a b status (way_status way) reply.text h
ends_comes a b status (Refused refusal) h = elim h [ inl w ↦ told_comes a b status (status_of refusal) (refused_line refusal) w | inr w ↦ out_comes a b status (status_of refusal) w ]
ends_comes a b status NoMemory h = out_comes a b status 9 h

-- ---- the causes

-- a status that is the sink's fault
sink_cause : (a b : Sunk) (status own : ℕ) → (own ≡ 7 → ⊥) → ComesOf a b status own → status ≡ 7 → Rose a.faults b.faults
sink_cause a b status own other h seven = elim h [
  | inl e ↦ absurd (other (sym e ∙ seven))
  | inr w ↦ elim w [ inl rose ↦ rose.1 | inr e ↦ absurd (omega (arith, e, seven)) ]
]

-- of the statuses that no refusal has those of a failed source and of a full input have a cause
no_refusal : (b : Board) (asked : Option Subcommand) (before after : Outside) (status own : ℕ) → (own ≡ 0) ⊎ ((own ≡ 9) ⊎ ((own ≡ 8) ⊎ (own ≡ 10))) → ComesOf before.sink after.sink status own
    → (own ≡ 8 → HasHeard (dialogue_from b asked) before after status Broken) → (own ≡ 10 → HasHeard (dialogue_from b asked) before after status Full) → HasCause b asked before after status
no_refusal b asked before after status own plain comes broken full = record {
  words = λ e. absurd (grind (arith, comes, plain, e));
  refused = λ is. absurd (grind (arith, comes, plain, is.text, is.sink, is.source, is.memory, is.full));
  sink = λ e. sink_cause before.sink after.sink status own (λ x. grind (arith, plain, x)) comes e;
  source = λ e. broken (grind (arith, comes, plain, e));
  full = λ e. full (grind (arith, comes, plain, e));
}

-- a walk of the dialogue ended so
abbrev EndedIn : Dialogue → Outside → Outside → ℕ → Ending → Type 0
EndedIn d before after status e = Walks before.files d e × (after.failed ≡ failed_names before.failed e) × Takes before.source after.source status e

only_words : (refusal : Refusal) → status_of refusal ≡ 2 → refusal ≡ BadWords
only_words refusal e = grind (arith, e)

-- a refusal's status is none of a text, a sink, a source, memory or a full input
apart : (refusal : Refusal) → ((status_of refusal ≡ 7) → ⊥) × ((status_of refusal ≡ 8) → ⊥) × ((status_of refusal ≡ 10) → ⊥)
apart refusal = (λ e. grind (arith, e), λ e. grind (arith, e), λ e. grind (arith, e))

caused : (b : Board) (asked : Option Subcommand) (before after : Outside) (status : ℕ) (e : Ending) → EndedIn (dialogue_from b asked) before after status e
    → ComesOf before.sink after.sink status (ending_status e) → HasCause b asked before after status
caused b asked before after status (Said reply) ended comes = no_refusal b asked before after status 0 (inl refl) comes (λ e. absurd (cc e)) (λ e. absurd (cc e))
caused b asked before after status (Heard bytes Closed reply) ended comes = no_refusal b asked before after status 0 (inl refl) comes (λ e. absurd (cc e)) (λ e. absurd (cc e))
caused b asked before after status (Heard bytes Ended reply) ended comes = no_refusal b asked before after status 0 (inl refl) comes (λ e. absurd (cc e)) (λ e. absurd (cc e))
caused b asked before after status (Heard bytes Broken reply) ended comes =
    no_refusal b asked before after status 8 (inr (inr (inl refl))) comes (λ e. record { bytes = bytes; reply = reply; walked = ended.0; taken = ended.2 }) (λ e. absurd (cc e))
caused b asked before after status (Heard bytes Full reply) ended comes =
    no_refusal b asked before after status 10 (inr (inr (inr refl))) comes (λ e. absurd (cc e)) (λ e. record { bytes = bytes; reply = reply; walked = ended.0; taken = ended.2 })
caused b asked before after status (Refused refusal) ended comes =
    let away = apart refusal in
    record {
      words = λ e. words_refused before.files b asked (subst (λ (r : Refusal). Walks before.files (dialogue_from b asked) (Refused r)) (only_words refusal (grind (arith, comes, e))) ended.0);
      refused = λ is. record { refusal = refusal; walked = ended.0; failed = ended.1; own = grind (arith, comes, is.sink, is.memory) };
      sink = λ e. sink_cause before.sink after.sink status (status_of refusal) away.0 comes e;
      source = λ e. absurd (away.1 (grind (arith, comes, e)));
      full = λ e. absurd (away.2 (grind (arith, comes, e)));
    }
caused b asked before after status NoMemory ended comes = no_refusal b asked before after status 9 (inr (inl refl)) comes (λ e. absurd (cc e)) (λ e. absurd (cc e))

pub causes : Causes
causes b asked before after status h = caused b asked before after status h.ending (h.walked, h.failed, h.takes) (ends_comes before.sink after.sink status h.ending h.ends)

-- ---- the status over bytes

open_status : (limit : ℕ) (last : List ℕ → Bool) (held : List ℕ) → closes last (take limit held) ≡ true → status_over limit last held ≡ 0
open_status limit last held closed = rw closed (elim (nat_le limit (length held)) as (λ b. ◌≡◌ {A = ℕ} (if b && not true then 10 else 0) 0) [ true ↦ refl | false ↦ refl ])

short_status : (limit : ℕ) (last : List ℕ → Bool) (held : List ℕ) → length held < limit → status_over limit last held ≡ 0
short_status limit last held lt = let short : nat_le limit (length held) ≡ false = grind (arith, lt) in rw short refl

full_status : (limit : ℕ) (last : List ℕ → Bool) (held : List ℕ) → limit ≤ length held → closes last (take limit held) ≡ false → status_over limit last held ≡ 10
full_status limit last held le closed = let long : nat_le limit (length held) ≡ true = grind (arith, le) in rw (long, closed) refl

-- the first bytes up to the limit begin with those that were taken
first_bytes : (limit : ℕ) (bytes rest : List ℕ) → length bytes ≤ limit → take limit (bytes ++ rest) ≡ bytes ++ take (limit - length bytes) rest
first_bytes limit bytes rest le =
    let there : length bytes + (limit - length bytes) ≡ limit = omega arith in
    subst (λ n. take n (bytes ++ rest) ≡ bytes ++ take (limit - length bytes) rest) there (take-append-add bytes rest (limit - length bytes))

-- the bytes are some that were taken and some that are left
told_status : (status before now limit : ℕ) (last : List ℕ → Bool) (held bytes rest : List ℕ) (way : Way) → held ≡ bytes ++ rest → IsTaken (Some held) (Some rest) before now status bytes way → length bytes ≤ limit → MayEnd limit (closes last bytes) (length bytes) way → IsStatus status (way_status way) → (Rose before now → ⊥) → IsStatus status (status_over limit last held)
told_status status before now limit last held bytes rest Closed is taken le may h rose =
    let closed : closes last (take limit held) ≡ true = ap (λ x. closes last (take limit x)) is ∙ ap (closes last) (first_bytes limit bytes rest le) ∙ closes_more last bytes (take (limit - length bytes) rest) may in
    subst (λ n. IsStatus status n) (sym (open_status limit last held closed)) h
told_status status before now limit last held bytes rest Ended is taken le may h rose = elim taken.borne.1 [
  | inl seven ↦ inr (inl seven)
  | inr none ↦
      let long : length held ≡ length bytes = ap length (is ∙ ap (λ x. bytes ++ x) none ∙ append-nil bytes) in
      subst (λ n. IsStatus status n) (sym (short_status limit last held (omega (arith, long, may.1)))) h
]
told_status status before now limit last held bytes rest Broken is taken le may h rose = absurd (rose taken.borne)
told_status status before now limit last held bytes rest Full is taken le may h rose =
    let here : take limit held ≡ bytes = ap (take limit) is ∙ take_at bytes rest limit may.1 in
    let long : limit ≤ length held = omega (arith, ap length is, length-append bytes rest, may.1) in
    subst (λ n. IsStatus status n) (sym (full_status limit last held long (ap (closes last) here ∙ may.0))) h

heard_status : (left left' : Option (List ℕ)) (status before now limit : ℕ) (last : List ℕ → Bool) (bytes : List ℕ) (way : Way) → IsTaken left left' before now status bytes way → length bytes ≤ limit → MayEnd limit (closes last bytes) (length bytes) way → IsStatus status (way_status way) → IfSome left (λ held. (Rose before now → ⊥) → IsStatus status (status_over limit last held))
heard_status None left' status before now limit last bytes way taken le may h = tt
heard_status (Some held) None status before now limit last bytes way taken le may h = absurd (let e = taken.taken in cc e)
heard_status (Some held) (Some rest) status before now limit last bytes way taken le may h =
    told_status status before now limit last held bytes rest way (same_Some held (bytes ++ rest) taken.taken) taken le may h

-- ---- the status of a verdict

-- where memory ran out any other status may stand
none_is : (status n : ℕ) → IsStatus status 9 → IsStatus status n
none_is status n h = elim h [ inl nine ↦ inr (inr nine) | inr w ↦ inr w ]

none_fulfils : (before after : Outside) (v : Verdict) (status : ℕ) → IsStatus status 9 → Fulfils before after status v
none_fulfils before after (Refuses refusal) status h = none_is status (status_of refusal) h
none_fulfils before after Says status h = none_is status 0 h
none_fulfils before after (Hears limit last) status h = elim before.source.left as (λ (left : Option (List ℕ)). IfSome left (λ held. (Rose before.source.faults after.source.faults → ⊥) → IsStatus status (status_over limit last held))) [
  | None ↦ tt
  | Some held ↦ λ rose. none_is status (status_over limit last held) h
]

of_fulfils : (before after : Outside) (v : Verdict) (e : Ending) (status : ℕ) → IsOf v e → Takes before.source after.source status e → IsStatus status (ending_status e) → Fulfils before after status v
of_fulfils before after (Refuses refusal) e status is takes h = subst (λ (x : Ending). IsStatus status (ending_status x)) is h
of_fulfils before after Says e status is takes h = subst (λ (x : Ending). IsStatus status (ending_status x)) is.1 h
of_fulfils before after (Hears limit last) e status is takes h =
    let taken = subst (λ (x : Ending). Takes before.source after.source status x) is.5 takes in
    heard_status before.source.left after.source.left status before.source.faults after.source.faults limit last is.0 is.1 taken is.2 is.3 (subst (λ (x : Ending). IsStatus status (ending_status x)) is.5 h)

-- one name more is not the same list
not_longer : {Q : Type 0} (failed failed' : List (List ℕ)) (name : List ℕ) → failed' ≡ failed ++ name ∷ [] → failed' ≡ failed → Q
not_longer failed failed' name lost same = absurd (let e : length failed' ≡ length failed + 1 = ap length lost ∙ length-append failed (name ∷ []) in omega (arith, e, ap length same))

fulfils : (files : Option Files) (d : Dialogue) (before after : Outside) (e : Ending) (status : ℕ) → Walks files d e → after.failed ≡ failed_names before.failed e → Takes before.source after.source status e → IsStatus status (ending_status e) → IfSome files (λ f. after.failed ≡ before.failed → Fulfils before after status (verdict f d))
fulfils None d before after e status walk names takes is = tt
fulfils (Some f) d before after e status walk names takes is = λ same. elim (walk_follows f d e walk) [
  | inl none ↦ none_fulfils before after (verdict f d) status (subst (λ (x : Ending). IsStatus status (ending_status x)) none is)
  | inr w ↦ elim w [
    | inl lost ↦ not_longer before.failed after.failed lost.0 (names ∙ ap (failed_names before.failed) lost.1) same
    | inr of ↦ of_fulfils before after (verdict f d) e status of takes is
  ]
]

-- words that are refused end so, or memory ran out
refused_status : (files : Option Files) (b : Board) (asked : Option Subcommand) (e : Ending) (status : ℕ) → Walks files (dialogue_from b asked) e → IsStatus status (ending_status e) → asked ≡ None → IsStatus status 2
refused_status files b None e status walk is none = elim walk [
  | inl x ↦ subst (λ (x : Ending). IsStatus status (ending_status x)) x is
  | inr x ↦ none_is status 2 (subst (λ (x : Ending). IsStatus status (ending_status x)) x is)
]
refused_status files b (Some command) e status walk is none = absurd (cc none)

pub completes : Completes
completes b asked before after status h =
    let is : IsStatus status (ending_status h.ending) = elim (ends_comes before.sink after.sink status h.ending h.ends) [ inl e ↦ inl e | inr w ↦ inr (elim w [ inl s ↦ inl s.0 | inr e ↦ inr e ]) ] in
    record {
      refused = refused_status before.files b asked h.ending status h.walked is;
      fulfils = fulfils before.files (dialogue_from b asked) before after h.ending status h.walked h.failed h.takes is;
    }

-- ---- the whole text

puts_whole : (a b : Sunk) (status wanted : ℕ) (text : List ℕ) → Puts a b status wanted text → (Rose a.faults b.faults → ⊥) → (status ≡ wanted) × Appends a.written b.written text
puts_whole a b status wanted text h rose = elim (sent_is a b status wanted text h.0 h.1 h.2) [ inl e ↦ e | inr e ↦ absurd (rose e.1) ]

-- where the outside does not fail, the walk ends as the verdict says, or memory ran out
whole : (d : Dialogue) (before after : Outside) (status : ℕ) (files : Files) (v : Verdict) (h : ConversesIn d before after status) → DoesNotFail files before after → verdict files d ≡ v → IsOf v h.ending ⊎ HasRunOut before after status
whole d before after status files v h fine is = elim (walk_follows files d h.ending (subst (λ (x : Option Files). Walks x d h.ending) fine.told h.walked)) [
  | inl none ↦ inr (puts_whole before.sink after.sink status 9 memory_line (subst (λ (x : Ending). Ends before.sink after.sink status x) none h.ends) fine.put)
  | inr w ↦ elim w [
    | inl lost ↦ not_longer before.failed after.failed lost.0 (h.failed ∙ ap (failed_names before.failed) lost.1) fine.loaded
    | inr of ↦ inl (subst (λ (x : Verdict). IsOf x h.ending) is of)
  ]
]

pub says_all : SaysAll
says_all d before after status files h fine is = elim (whole d before after status files Says h fine is) [
  | inl there ↦
      let puts = puts_whole before.sink after.sink status 0 there.0.text (subst (λ (x : Ending). Ends before.sink after.sink status x) there.1 h.ends) fine.put in
      inl (record { reply = there.0; walked = subst (λ (x : Ending). Walks before.files d x) there.1 h.walked; zero = puts.0; written = puts.1 })
  | inr out ↦ inr out
]

-- the way in which a hearing ended whose status is 0, and what the source has left
heard_way : (left : Option (List ℕ)) (before now status : ℕ) (way : Way) → status ≡ way_status way → IsStatus status 0 → BearsOut left before now status way → ((way ≡ Closed) ⊎ ((way ≡ Ended) × IsAtEnd left)) × (status ≡ 0)
heard_way left before now status Closed e is borne = (inl refl, e)
heard_way left before now status Ended e is borne = (inr (refl, elim borne.1 [ inl bad ↦ absurd (omega (arith, bad, e)) | inr end ↦ end ]), e)
heard_way left before now status _ e is borne = absurd (grind (arith, e, is))

pub answers_all : AnswersAll
answers_all d before after status files limit last bytes h fine is told rose zero = elim (whole d before after status files (Hears limit last) h fine is) [
  | inl there ↦
      let taken = subst (λ (x : Ending). Takes before.source after.source status x) there.5 h.takes in
      let puts = puts_whole before.sink after.sink status (way_status there.1) there.4.text (subst (λ (x : Ending). Ends before.sink after.sink status x) there.5 h.ends) fine.put in
      let own = heard_status before.source.left after.source.left status before.source.faults after.source.faults limit last there.0 there.1 taken there.2 there.3 (inl puts.0) in
      let over : IsStatus status (status_over limit last bytes) = subst (λ (x : Option (List ℕ)). IfSome x (λ held. (Rose before.source.faults after.source.faults → ⊥) → IsStatus status (status_over limit last held))) told own rose in
      let way = heard_way after.source.left before.source.faults after.source.faults status there.1 puts.0 (subst (λ (n : ℕ). IsStatus status n) zero over) taken.borne in
      inl (record { bytes = there.0; way = there.1; reply = there.4; walked = subst (λ (x : Ending). Walks before.files d x) there.5 h.walked; whole = way.0; taken = taken.taken; zero = way.1; written = puts.1 })
  | inr out ↦ inr out
]
