-- Where the walks of a dialogue over a shelf of files end, and what a call answered, took, wrote and counted: the project's own.
use Rattle.std.specs.Prelude.{◌≡◌, ◌⊎◌, ℕ, ◌≤◌, nat_le, Bool, not, ◌&&◌, if◌then◌else◌, List, ◌++◌, length, take, Option, Some, None, ◌+◌, Result, Ok, Err, codes}
use Rattle.rp_ports.specs.Shelf.{Files, Answers, failed_after}
use Rattle.rp_ports.specs.declared.shelf.Loaded.{Loaded}
use Rattle.rp_ports.specs.declared.shelf.Loaded.TheVariants.{Done, Large, Failed, Memory}
use Rattle.pio_asm.specs.Assembly.{ArePrograms}
use Rattle.pio_program.specs.declared.program.Program.{Program}
use Rattle.command_words.specs.Refusals.{Refusal, refused_line, status_of}
use Rattle.command_words.specs.Refusals.Refusal.{Lost, TooLarge}
use Rattle.reverse_debug.specs.Lines.{closes}
use Rattle.reverse_debug.specs.declared.way.Way.{Way}
use Rattle.reverse_debug.specs.Hearing.{MayEnd, lines_heard, way_line, way_status, IsTaken}
use Rattle.pico_top.specs.Dialogue.{Reply, Dialogue, Cost, dialogue_from, Board, asked_by, Drawn, Sunk, Outside}
use Rattle.pico_top.specs.Dialogue.Dialogue.{Load, Refuse, Say, Hear}
use Rattle.trace_text.specs.Sent.{Sends}
use Rattle.trace_text.specs.declared.writer.SinkFault.{SinkFault}
use Rattle.command_words.specs.Words.{Subcommand}
use Rattle.pico_top.specs.Dialogue.Cost.{Exactly, AtMost}

-- how a walk ends: its text was said, these bytes were heard up to an end and this was told, an input was refused with every
-- input before it accepted, or memory ran out
pub data Ending : Type 0 where
  Said : (reply : Reply) → Ending
  Heard : (bytes : List ℕ) → (way : Way) → (reply : Reply) → Ending
  Refused : (refusal : Refusal) → Ending
  NoMemory : Ending

-- where an answer of the shelf leads: the bytes of a file lead on, and every other answer is an end
abbrev pub AfterLoad : Loaded → List ℕ → Ending → Type 0 → Type 0
AfterLoad Done name e on = on
AfterLoad (Large long) name e on = e ≡ Refused (TooLarge name long)
AfterLoad Failed name e on = e ≡ Refused (Lost name)
AfterLoad Memory name e on = e ≡ NoMemory

-- the answers to the lines that were heard, and the line of the way
abbrev pub heard_as : (List ℕ → Bool) → (List (List ℕ) → Reply) → List ℕ → Way → Reply
heard_as last answers bytes way =
    let r = answers (lines_heard last way bytes) in record { text = r.text ++ way_line way; cost = r.cost }

-- so many bytes were heard, up to an end
abbrev pub IsHeard : ℕ → (List ℕ → Bool) → (List (List ℕ) → Reply) → Ending → Type 0
IsHeard limit last answers e =
    (bytes : List ℕ) × (way : Way) × (length bytes ≤ limit) × MayEnd limit (closes last bytes) (length bytes) way
    × (e ≡ Heard bytes way (heard_as last answers bytes way))

-- A walk of the dialogue ends so: each load was answered by the shelf, each input was accepted or was the last one, and each
-- program has the words that stand with its lines. Memory may run out at every step, and nothing is said then.
abbrev pub Walks : Option Files → Dialogue → Ending → Type 0
Walks files (Load name limit next) e =
    (answer : Loaded) × (bytes : List ℕ) × Answers files name limit answer bytes × AfterLoad answer name e (Walks files (next bytes) e)
Walks files (Refuse refusal) e = (e ≡ Refused refusal) ⊎ (e ≡ NoMemory)
Walks files (Say plans reply) e = ((programs : List Program) × ArePrograms plans programs × (e ≡ Said (reply programs))) ⊎ (e ≡ NoMemory)
Walks files (Hear plans limit last answers) e =
    ((programs : List Program) × ArePrograms plans programs × IsHeard limit last (answers programs) e) ⊎ (e ≡ NoMemory)

-- the failed names of the shelf after a walk: one more where a load failed
abbrev pub failed_names : List (List ℕ) → Ending → List (List ℕ)
failed_names failed (Refused (Lost name)) = failed_after failed name Failed
failed_names failed _ = failed

-- ---- the walk over files that the shelf tells

-- where a dialogue leads: to a refusal, to a text, or to the hearing of an input
pub data Verdict : Type 0 where
  Refuses : (refusal : Refusal) → Verdict
  Says : Verdict
  Hears : (limit : ℕ) → (last : List ℕ → Bool) → Verdict

-- a file that is not held is lost, and one above its limit is too large
abbrev pub on_held : Option (List ℕ) → List ℕ → ℕ → (List ℕ → Verdict) → Verdict
on_held None name limit next = Refuses (Lost name)
on_held (Some bytes) name limit next = if nat_le (length bytes) limit then next bytes else Refuses (TooLarge name (length bytes))

-- the verdict of a dialogue over these files: its first refusal, or none where every input is accepted
abbrev pub verdict : Files → Dialogue → Verdict
verdict files (Load name limit next) = on_held (files name) name limit (λ bytes. verdict files (next bytes))
verdict files (Refuse refusal) = Refuses refusal
verdict files (Say plans reply) = Says
verdict files (Hear plans limit last answers) = Hears limit last

-- the status of hearing these bytes: 10 where the limit is reached before a last line is complete
abbrev pub status_over : ℕ → (List ℕ → Bool) → List ℕ → ℕ
status_over limit last bytes = if nat_le limit (length bytes) && not (closes last (take limit bytes)) then 10 else 0

-- ---- the status and the bytes

-- the status after a text was sent: its own, or 7 where the sink failed
abbrev pub sent_status : Result (Unit {0}) SinkFault → ℕ → ℕ
sent_status (Ok done) status = status
sent_status (Err fault) status = 7

-- a text was sent to a sink
abbrev pub Writes : {T E : Type 0} → Sunk → Sunk → List ℕ → Result T E → Type 0
Writes a b text sent = Sends a.written b.written a.faults b.faults text sent

-- a text was written with its status, or the sink failed, a part of it was written, and the status is 7
abbrev pub Puts : Sunk → Sunk → ℕ → ℕ → List ℕ → Type 0
Puts a b status wanted text = (sent : Result (Unit {0}) SinkFault) × Writes a b text sent × (status ≡ sent_status sent wanted)

-- the line that says that memory ran out, with its status
abbrev pub memory_line : List ℕ
memory_line = codes "error memory\n"

abbrev pub RunsOut : Sunk → Sunk → ℕ → Type 0
RunsOut a b status = Puts a b status 9 memory_line

-- The cases of every return: the text of the ending was written with its status, or the sink failed at it; where memory ran out,
-- also for the line of a refusal, it was the line that says so.
abbrev pub Ends : Sunk → Sunk → ℕ → Ending → Type 0
Ends a b status (Said reply) = Puts a b status 0 reply.text
Ends a b status (Heard bytes way reply) = Puts a b status (way_status way) reply.text
Ends a b status (Refused refusal) = Puts a b status (status_of refusal) (refused_line refusal) ⊎ RunsOut a b status
Ends a b status NoMemory = RunsOut a b status

-- ---- the steps

-- so many steps were counted
abbrev pub Ticks : Cost → ℕ → ℕ → Type 0
Ticks (Exactly cycles) before after = after ≡ before + cycles
Ticks (AtMost cycles) before after = (before ≤ after) × (after ≤ before + cycles)

abbrev pub most : Cost → ℕ
most (Exactly cycles) = cycles
most (AtMost cycles) = cycles

-- the steps of a call that said a text: its cost where the text was written whole, and never more
pub record IsCounted (cost : Cost) (status wanted before after : ℕ) : Type 0 where
  pub whole : status ≡ wanted → Ticks cost before after
  pub forward : before ≤ after
  pub within : after ≤ before + most cost

abbrev pub Counts : Ending → ℕ → ℕ → ℕ → Type 0
Counts (Said reply) status before after = IsCounted reply.cost status 0 before after
Counts (Heard bytes way reply) status before after = IsCounted reply.cost status (way_status way) before after
Counts _ status before after = after ≡ before

-- ---- the source

-- what was heard was taken, and nothing else
abbrev pub Takes : Drawn → Drawn → ℕ → Ending → Type 0
Takes a b status (Heard bytes way reply) = IsTaken a.left b.left a.faults b.faults status bytes way
Takes a b status _ = b ≡ a

-- ---- the call

-- A call with this status: a walk of the dialogue ended so, and what it took, wrote and counted goes with that ending. The files are
-- as before.
pub record ConversesIn (d : Dialogue) (before after : Outside) (status : ℕ) : Type 0 where
  pub ending : Ending
  pub walked : Walks before.files d ending
  pub failed : after.failed ≡ failed_names before.failed ending
  pub kept : after.files ≡ before.files
  pub takes : Takes before.source after.source status ending
  pub ends : Ends before.sink after.sink status ending
  pub counted : Counts ending status before.steps after.steps

-- a call for what is asked
abbrev pub ConversesFor : Board → Option Subcommand → Outside → Outside → ℕ → Type 0
ConversesFor b asked before after status = ConversesIn (dialogue_from b asked) before after status

-- a call for words
abbrev pub Converses : Board → List (List ℕ) → Outside → Outside → ℕ → Type 0
Converses b words before after status = ConversesFor b (asked_by b words) before after status
