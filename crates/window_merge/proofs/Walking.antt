-- A lane that runs alone again beside a log.
use Rattle.std.proofs.Common.{◌≡◌, ◌≢◌, ℕ, suc, ◌+◌, ◌<◌, ◌≤◌, Bool, true, false, if◌then◌else◌, List, [], ◌∷◌, ◌++◌, length, Option, Some, refl, ap, sym, ◌∙◌, subst, add-one, append-nil, append_assoc, length-append, arith}
use Rattle.window_merge.proofs.Shared.{Decides, IsFirstOther, Question, Ready, Walker, Want, answer_of, around, block_lines, eqb_tells, inputs_of, is_least, lines_of, outs_of, pacing_of, patched, take-append-le, take-append_seam, talk_alone}
use Rattle.std.specs.List.{slice_get}
use Rattle.lane_look.specs.Asking.{Asking, Runs, answered}
use Rattle.lane_look.specs.Replay.{Meaning, Entry, asked, after_begun}
use Rattle.lane_look.specs.Alone.{all_stored, begun_alone, alone, ends_wants, ends_now, ends_at, least, alone_length}
use Rattle.rp_machine.specs.State.{State}
use Rattle.window_merge.specs.Walks.{seen_by, IsCompared, GoesOn, Answers, IsStepped, IsMet, IsWalked}
use Rattle.window_merge.proofs.Meeting.{least_meets}
use Rattle.window_merge.proofs.Lanes.{below_least}
use Rattle.window_merge.proofs.Logs.{take_more, get-append, get-seam}

-- ---- two logs

pub still_other : (log : List Entry) (entry : Entry) (index : ℕ) (same : Bool) → same ≡ false → GoesOn log (entry ∷ []) index same index false
still_other log entry index true e = absurd (cc e)
still_other log entry index false e = search (arith, length-append, take-append-le, get-append)

-- the next entry is the same
pub one_more : (log : List Entry) (entry next : Entry) (index : ℕ) (same : Bool) → same ≡ true → slice_get log index ≡ Some next → next ≡ entry
    → GoesOn log (entry ∷ []) index same (index + 1) true
one_more log entry next index same h1 h2 h3 = grind (arith, length-append, add-one, take_more)

-- the next entry is another one, or there is none
pub now_other : (log : List Entry) (entry : Entry) (index : ℕ) (same : Bool) → slice_get log index ≢ Some entry → same ≡ true → GoesOn log (entry ∷ []) index same index false
now_other log entry index same h1 h2 = grind (arith, length-append, take-append_seam, get-seam)

pub not_next : (log : List Entry) (index : ℕ) (next entry : Entry) → slice_get log index ≡ Some next → (next ≡ entry → ⊥) → slice_get log index ≢ Some entry
not_next log index next entry e_get other e = other (cc (e_get, e))

-- ---- what the walker answers, and does

-- what is not in SRAM is answered by the machine as it is
pub lines_over : (lane : ℕ) (s : State) (sram : List ℕ) → lines_of lane s ≡ lines_of lane (record s { sram = sram })
unfolding lines_of block_lines
lines_over lane s sram = refl

pub pacing_over : (s : State) (sram : List ℕ) → pacing_of s ≡ pacing_of (record s { sram = sram })
unfolding pacing_of
pacing_over s sram = refl

pub inputs_over : (s : State) (sram : List ℕ) → inputs_of s ≡ inputs_of (record s { sram = sram })
unfolding inputs_of
inputs_over s sram = refl

pub outs_over : (block : ℕ) (s : State) (sram : List ℕ) → outs_of block s ≡ outs_of block (record s { sram = sram })
unfolding outs_of
outs_over block s sram = refl

abbrev with_found : Walker → ℕ → Bool → Walker
with_found k index same = record k { index = index; same = same }

-- what was begun is what the state answers, and the questions are compared
pub record Found {B : Type 0} (old : Walker) (tree : Asking B) (result : B) (new : Walker) : Type 0 where
  pub begun : result ≡ answered (answer_of old.lane (seen_by old)) tree
  pub kept : new ≡ with_found old new.index new.same
  pub goes_on : GoesOn old.log.now (asked (answer_of old.lane (seen_by old)) tree) old.index old.same new.index new.same

found : {B : Type 0} (k : Walker) (index : ℕ) (same : Bool) (tree : Asking B) (result : B) (new : Walker) → Runs Answers (with_found k index same) tree result new → Found (with_found k index same) tree result new
found k index same (Ready begun) result new r = grind (arith, append-nil)
found {B} k index same (Question ask next) result new r =
    let f = answer_of k.lane (seen_by k) in
    let here : Runs Answers (with_found k r.1.index r.1.same) (next r.0) result new = subst (λ (x : Walker). Runs Answers x (next r.0) result new) r.2.1 r.3 in
    let there : Runs Answers (with_found k r.1.index r.1.same) (next (f ask)) result new = subst (λ (x : ℕ). Runs Answers (with_found k r.1.index r.1.same) (next x) result new) r.2.0 here in
    let rest = found k r.1.index r.1.same (next (f ask)) result new there in
    record {
      begun = rest.begun;
      kept = rest.kept;
      goes_on = λ talk h.
          subst (λ (l : List Entry). IsCompared k.log.now l new.index new.same) (append_assoc talk ((ask, f ask) ∷ []) (asked f (next (f ask))))
          (rest.goes_on (talk ++ (ask, f ask) ∷ []) (subst (λ (x : ℕ). IsCompared k.log.now (talk ++ (ask, x) ∷ []) r.1.index r.1.same) r.2.0 (r.2.2 talk h)));
    }

pub runs_found : {B : Type 0} (k : Walker) (tree : Asking B) (result : B) (new : Walker) → Runs Answers k tree result new → Found k tree result new
runs_found k tree result new r = found k k.index k.same tree result new r

-- ---- one cycle

pub stepped : {S B : Type 0} (m : Meaning (Unit {0}) S B) (cycle : ℕ) (lane lane' : S) (begun : B) (k mid k' : Walker) (wants : List Want) (ends : Bool)
    → Found k (m.asks tt lane cycle) begun mid → wants ≡ m.wanted begun → lane' ≡ after_begun m tt lane begun
    → seen_by k' ≡ all_stored (around mid.lane) (seen_by mid) wants → k' ≡ record mid { words = k'.words } → length k'.words ≤ length mid.words + 2
    → ends ≡ ends_wants wants → IsStepped m cycle lane lane' k k' ends
stepped {S} {B} m cycle lane lane' begun k mid k' wants ends h e_wants e_lane e_seen e_rest few e_ends =
    let e_begun : begun ≡ begun_alone m (around k.lane) tt cycle lane (seen_by k) = h.begun in
    let e_wanted : wants ≡ m.wanted (begun_alone m (around k.lane) tt cycle lane (seen_by k)) = e_wants ∙ ap m.wanted e_begun in
    let same_words : length mid.words ≡ length k.words = ap (λ (x : Walker). length x.words) h.kept in
    record {
      is_end = e_ends ∙ ap ends_wants e_wanted;
      is_state = e_lane ∙ ap (λ (b : B). after_begun m tt lane b) e_begun;
      is_around = e_seen ∙ ap (λ (x : Walker). all_stored (around x.lane) (seen_by x) wants) h.kept ∙ ap (all_stored (around k.lane) (seen_by k)) e_wanted;
      goes_on = subst (λ (x : Walker). GoesOn k.log.now (asked (answer_of k.lane (seen_by k)) (m.asks tt lane cycle)) k.index k.same x.index x.same) (sym e_rest) h.goes_on;
      same_lane = ap (λ (x : Walker). x.lane) e_rest ∙ ap (λ (x : Walker). x.lane) h.kept;
      same_log = ap (λ (x : Walker). x.log) e_rest ∙ ap (λ (x : Walker). x.log) h.kept;
      few = omega (arith, few, same_words);
    }

-- ---- all cycles

-- what a cycle leaves of a lane and what is around it, what it asks, and whether the run ends before it
record Turned (S : Type 0) : Type 0 where
  state : S
  round : State
  talk : List Entry
  ends : Bool

abbrev turned : {S B : Type 0} → Meaning (Unit {0}) S B → ℕ → ℕ → S → State → Turned S
turned m number cycle lane round = record {
  state = after_begun m tt lane (begun_alone m (around number) tt cycle lane round);
  round = all_stored (around number) round (m.wanted (begun_alone m (around number) tt cycle lane round));
  talk = asked (answer_of number round) (m.asks tt lane cycle);
  ends = ends_now m (around number) tt cycle lane round;
}

turned_same : {S B : Type 0} (m : Meaning (Unit {0}) S B) (number number' cycle cycle' : ℕ) (lane lane' : S) (round round' : State)
    → number ≡ number' → cycle ≡ cycle' → lane ≡ lane' → round ≡ round' → turned m number cycle lane round ≡ turned m number' cycle' lane' round'
turned_same {S} m number number' cycle cycle' lane lane' round round' e_number e_cycle e_lane e_round = search arith

met_next : (test : ℕ → Bool) (k : ℕ) (ended ends : Bool) → IsMet test k ended → ends ≡ test k → IsMet test (suc k) (if ends then true else ended)
met_next test k ended ends h1 h2 = grind (arith, eqb_tells)

pub walk_first : {S B : Type 0} (m : Meaning (Unit {0}) S B) (before : S) (start : ℕ) (first : Walker) → first.words ≡ [] → first.index ≡ 0 → first.same ≡ true
    → IsWalked m before start first 0 before first false
unfolding alone
walk_first m before start first e_words e_index e_same = grind arith

walk_on : {S B : Type 0} (m : Meaning (Unit {0}) S B) (before : S) (start : ℕ) (first : Walker) (n : ℕ) (lane lane' : S) (k k' : Walker) (cycle : ℕ) (ended ends : Bool)
    → IsWalked m before start first n lane k ended → IsStepped m cycle lane lane' k k' ends → cycle ≡ start + n
    → IsWalked m before start first (suc n) lane' k' (if ends then true else ended)
unfolding alone ends_at
walk_on {S} m before start first n lane lane' k k' cycle ended ends h step e_cycle =
    let a = alone m (around first.lane) tt before start (seen_by first) n in
    let e = turned_same m k.lane first.lane cycle (start + n) lane a.state (seen_by k) a.around h.same_lane e_cycle h.is_state h.is_around in
    let log : k.log.now ≡ first.log.now = ap (λ l. l.now) h.same_log in
    let before_it : IsCompared k.log.now a.talk k.index k.same = subst (λ (l : List Entry). IsCompared l a.talk k.index k.same) (sym log) h.is_compared in
    let after_it = step.goes_on a.talk before_it in
    let few = h.few in
    let more = step.few in
    record {
      is_state = step.is_state ∙ ap (λ (t : Turned S). t.state) e;
      is_around = step.is_around ∙ ap (λ (t : Turned S). t.round) e;
      is_compared = subst (λ (t : List Entry). IsCompared first.log.now (a.talk ++ t) k'.index k'.same) (ap (λ (t : Turned S). t.talk) e)
          (subst (λ (l : List Entry). IsCompared l (a.talk ++ asked (answer_of k.lane (seen_by k)) (m.asks tt lane cycle)) k'.index k'.same) log after_it);
      is_ended = met_next (ends_at m (around first.lane) tt before start (seen_by first)) n ended ends h.is_ended (step.is_end ∙ ap (λ (t : Turned S). t.ends) e);
      same_lane = step.same_lane ∙ h.same_lane;
      same_log = step.same_log ∙ h.same_log;
      few = omega (arith, few, more);
    }

pub walk_next : {S B : Type 0} (m : Meaning (Unit {0}) S B) (before : S) (start : ℕ) (first : Walker) (n : ℕ) (lane lane' : S) (k k' : Walker) (cycle : ℕ) (ended ends ended' : Bool)
    → IsWalked m before start first n lane k ended → IsStepped m cycle lane lane' k k' ends → cycle ≡ start + n → ended' ≡ (if ends then true else ended)
    → IsWalked m before start first (n + 1) lane' k' ended'
walk_next m before start first n lane lane' k k' cycle ended ends ended' h step e_cycle e_ended =
    rw (add-one, e_ended) (walk_on m before start first n lane lane' k k' cycle ended ends h step e_cycle)

-- ---- the length

pub ended_early : (test : ℕ → Bool) (cycles bound : ℕ) → IsMet test cycles true → Decides false (cycles ≡ least test bound)
ended_early test cycles bound h =
    (λ e. absurd (cc e), λ e. let no : test h.0 ≡ false = below_least test bound h.0 (omega (arith, e, h.1)) in absurd (cc (no, h.2)))

pub ends_there : (test : ℕ → Bool) (cycles bound : ℕ) (last : Bool) → IsMet test cycles false → cycles < bound → last ≡ test cycles → Decides last (cycles ≡ least test bound)
ends_there test cycles bound last h lt e = (
  λ is. sym (is_least test bound cycles (omega (arith, lt)) h (λ below. sym e ∙ is)),
  λ same. e ∙ ap test same ∙ (least_meets test bound).met (omega (arith, lt, same)),
)

pub length_ended : {S B : Type 0} (m : Meaning (Unit {0}) S B) (before : S) (start : ℕ) (first : Walker) (cycles : ℕ) (lane : S) (k : Walker) (ended : Bool) (bound : ℕ)
    → IsWalked m before start first cycles lane k ended → ended ≡ true → Decides false (cycles ≡ alone_length m (around first.lane) tt before start (seen_by first) bound)
unfolding alone_length
length_ended m before start first cycles lane k ended bound h e =
    let test = ends_at m (around first.lane) tt before start (seen_by first) in
    ended_early test cycles bound (subst (λ (b : Bool). IsMet test cycles b) e h.is_ended)

pub length_long : {S B : Type 0} (m : Meaning (Unit {0}) S B) (before : S) (start : ℕ) (first : Walker) (cycles bound : ℕ)
    → bound < cycles → Decides false (cycles ≡ alone_length m (around first.lane) tt before start (seen_by first) bound)
unfolding alone_length
length_long m before start first cycles bound lt = search (arith, least_meets)

pub length_full : {S B : Type 0} (m : Meaning (Unit {0}) S B) (before : S) (start : ℕ) (first : Walker) (cycles : ℕ) (lane : S) (k : Walker) (ended : Bool) (bound : ℕ)
    → IsWalked m before start first cycles lane k ended → ended ≡ false → cycles ≡ bound → Decides true (cycles ≡ alone_length m (around first.lane) tt before start (seen_by first) bound)
unfolding alone_length
length_full m before start first cycles lane k ended bound h e e_bound = search (arith, is_least)

pub length_ends : {S B : Type 0} (m : Meaning (Unit {0}) S B) (before : S) (start : ℕ) (first : Walker) (cycles : ℕ) (lane : S) (k : Walker) (ended : Bool) (bound cycle : ℕ) (last : Bool)
    → IsWalked m before start first cycles lane k ended → ended ≡ false → cycles < bound → cycle ≡ start + cycles → last ≡ ends_now m (around k.lane) tt cycle lane (seen_by k)
    → Decides last (cycles ≡ alone_length m (around first.lane) tt before start (seen_by first) bound)
unfolding alone_length ends_at
length_ends {S} m before start first cycles lane k ended bound cycle last h e lt e_cycle e_last =
    let test = ends_at m (around first.lane) tt before start (seen_by first) in
    let a = alone m (around first.lane) tt before start (seen_by first) cycles in
    let same = turned_same m k.lane first.lane cycle (start + cycles) lane a.state (seen_by k) a.around h.same_lane e_cycle h.is_state h.is_around in
    ends_there test cycles bound last (subst (λ (b : Bool). IsMet test cycles b) e h.is_ended) lt (e_last ∙ ap (λ (t : Turned S). t.ends) same)

-- ---- from a machine

-- nothing is written yet
unwritten : (k : Walker) (s : State) → k.words ≡ [] → k.machine.now ≡ s → seen_by k ≡ s
unfolding patched
unwritten k s e_words e_machine = ap (λ w. record k.machine.now { sram = patched w k.machine.now.sram }) e_words ∙ e_machine

pub walked_other : {S B : Type 0} (m : Meaning (Unit {0}) S B) (before : S) (start : ℕ) (first : Walker) (cycles : ℕ) (lane : S) (k : Walker) (ended : Bool) (s : State) (number : ℕ) (log : List Entry) (result : Option ℕ)
    → IsWalked m before start first cycles lane k ended → first.lane ≡ number → first.words ≡ [] → first.machine.now ≡ s → start ≡ s.cycle → first.log.now ≡ log
    → ((talk : List Entry) → IsCompared log talk k.index k.same → IsFirstOther log talk result) → IsFirstOther log (talk_alone m number before s cycles) result
walked_other m before start first cycles lane k ended s number log result h e_lane e_words e_machine e_start e_log tells = grind (arith, unwritten)

pub walked_length : {S B : Type 0} (m : Meaning (Unit {0}) S B) (before : S) (start : ℕ) (first : Walker) (cycles : ℕ) (lane : S) (k : Walker) (ended : Bool) (s : State) (number bound : ℕ) (result : Bool)
    → IsWalked m before start first cycles lane k ended → first.lane ≡ number → first.words ≡ [] → first.machine.now ≡ s → start ≡ s.cycle
    → ((b : S) (f : Walker) → IsWalked m b start f cycles lane k ended → Decides result (cycles ≡ alone_length m (around f.lane) tt b start (seen_by f) bound))
    → Decides result (cycles ≡ alone_length m (around number) tt before s.cycle s bound)
walked_length m before start first cycles lane k ended s number bound result h e_lane e_words e_machine e_start tells = grind (arith, unwritten)
