-- Why a call answers its status, and what it answers where its outside does not fail: the project's own.
use Rattle.std.specs.Prelude.{◌≡◌, ◌⊎◌, ℕ, Bool, List, Option, None, Some, IfSome}
use Rattle.rp_ports.specs.Fault.{Rose}
use Rattle.rp_ports.specs.Shelf.{Files}
use Rattle.rp_ports.specs.Sink.{Appends}
use Rattle.rp_ports.specs.Source.{Consumes, IsAtEnd}
use Rattle.command_words.specs.Words.{Subcommand}
use Rattle.command_words.specs.Refusals.{Refusal, status_of}
use Rattle.reverse_debug.specs.declared.way.Way.{Way}
use Rattle.reverse_debug.specs.declared.way.Way.TheVariants.{Closed, Ended, Broken, Full}
use Rattle.reverse_debug.specs.Hearing.{IsTaken}
use Rattle.pico_top.specs.Dialogue.{Board, Outside, Dialogue, Reply, dialogue_from}
use Rattle.pico_top.specs.Answer.{ConversesFor, ConversesIn, memory_line, Verdict, Walks, verdict, status_over, failed_names}
use Rattle.pico_top.specs.Answer.Verdict.{Refuses, Says, Hears}
use Rattle.pico_top.specs.Answer.Ending.{Said, Heard, Refused}

-- ---- causes

-- the walk of the dialogue ended in this refusal, which has this status: every input before was accepted; the name of a load that
-- failed joined the failed ones, and no other name did
pub record IsRefused (d : Dialogue) (before after : Outside) (status : ℕ) : Type 0 where
  pub refusal : Refusal
  pub walked : Walks before.files d (Refused refusal)
  pub failed : after.failed ≡ failed_names before.failed (Refused refusal)
  pub own : status ≡ status_of refusal

-- the walk of the dialogue ended after bytes were heard, which were taken from the source, in this way
pub record HasHeard (d : Dialogue) (before after : Outside) (status : ℕ) (way : Way) : Type 0 where
  pub bytes : List ℕ
  pub reply : Reply
  pub walked : Walks before.files d (Heard bytes way reply)
  pub taken : IsTaken before.source.left after.source.left before.source.faults after.source.faults status bytes way

-- a status that no text has, and neither a failed sink or source, want of memory, nor a full input
pub record IsOfRefusal (status : ℕ) : Type 0 where
  pub text : status ≡ 0 → ⊥
  pub sink : status ≡ 7 → ⊥
  pub source : status ≡ 8 → ⊥
  pub memory : status ≡ 9 → ⊥
  pub full : status ≡ 10 → ⊥

-- 2 comes only where the words are refused, 7 only where the sink's count of faults rose, 8 only where a take failed, 10 only where
-- the limit of the bytes was reached and no last line was complete; and every other status but 0 and 9 only of the words, the file
-- or the input at which the walk ended, as the refusal's own
pub record HasCause (b : Board) (asked : Option Subcommand) (before after : Outside) (status : ℕ) : Type 0 where
  pub words : status ≡ 2 → asked ≡ None
  pub refused : IsOfRefusal status → IsRefused (dialogue_from b asked) before after status
  pub sink : status ≡ 7 → Rose before.sink.faults after.sink.faults
  pub source : status ≡ 8 → HasHeard (dialogue_from b asked) before after status Broken
  pub full : status ≡ 10 → HasHeard (dialogue_from b asked) before after status Full

-- ---- completeness

-- the status is this one, or one that may come in place of any: the sink failed, or memory ran out
abbrev pub IsStatus : ℕ → ℕ → Type 0
IsStatus status wanted = (status ≡ wanted) ⊎ ((status ≡ 7) ⊎ (status ≡ 9))

-- the status of a verdict: 0 where every input is accepted; where an input is heard, it is that of the bytes that the source
-- holds, if it tells them and its count of faults has not risen
abbrev pub Fulfils : Outside → Outside → ℕ → Verdict → Type 0
Fulfils before after status (Refuses refusal) = IsStatus status (status_of refusal)
Fulfils before after status Says = IsStatus status 0
Fulfils before after status (Hears limit last) =
    IfSome before.source.left (λ bytes. (Rose before.source.faults after.source.faults → ⊥) → IsStatus status (status_over limit last bytes))

-- where the words are refused, the status is 2; where the shelf tells its files and no load failed, it is that of the dialogue over
-- these files
pub record IsComplete (b : Board) (asked : Option Subcommand) (before after : Outside) (status : ℕ) : Type 0 where
  pub refused : asked ≡ None → IsStatus status 2
  pub fulfils : IfSome before.files (λ files. after.failed ≡ before.failed → Fulfils before after status (verdict files (dialogue_from b asked)))

-- ---- the whole text

-- the line that says that memory ran out was written alone, with its status
abbrev pub HasRunOut : Outside → Outside → ℕ → Type 0
HasRunOut before after status = (status ≡ 9) × Appends before.sink.written after.sink.written memory_line

-- the whole text was written, with status 0
pub record HasSaid (d : Dialogue) (before after : Outside) (status : ℕ) : Type 0 where
  pub reply : Reply
  pub walked : Walks before.files d (Said reply)
  pub zero : status ≡ 0
  pub written : Appends before.sink.written after.sink.written reply.text

-- the answers to all that was heard were written, with status 0: up to a last line, or to the end of the input, of which nothing is
-- left then
pub record HasAnswered (d : Dialogue) (before after : Outside) (status : ℕ) : Type 0 where
  pub bytes : List ℕ
  pub way : Way
  pub reply : Reply
  pub walked : Walks before.files d (Heard bytes way reply)
  pub whole : (way ≡ Closed) ⊎ ((way ≡ Ended) × IsAtEnd after.source.left)
  pub taken : Consumes before.source.left after.source.left bytes
  pub zero : status ≡ 0
  pub written : Appends before.sink.written after.sink.written reply.text

-- the shelf tells its files, no load failed, and the sink's count did not rise
pub record DoesNotFail (files : Files) (before after : Outside) : Type 0 where
  pub told : before.files ≡ Some files
  pub loaded : after.failed ≡ before.failed
  pub put : Rose before.sink.faults after.sink.faults → ⊥

-- ---- the laws, of every call

-- every status has its cause
abbrev pub Causes : Type 0
Causes =
    (b : Board) (asked : Option Subcommand) (before after : Outside) (status : ℕ)
    → ConversesFor b asked before after status → HasCause b asked before after status

-- the status of what is told is its own
abbrev pub Completes : Type 0
Completes =
    (b : Board) (asked : Option Subcommand) (before after : Outside) (status : ℕ)
    → ConversesFor b asked before after status → IsComplete b asked before after status

-- words and files that are accepted are answered with the whole text, where the outside does not fail, or memory runs out
abbrev pub SaysAll : Type 0
SaysAll =
    (d : Dialogue) (before after : Outside) (status : ℕ) (files : Files)
    → ConversesIn d before after status
    → DoesNotFail files before after
    → verdict files d ≡ Says
    → HasSaid d before after status ⊎ HasRunOut before after status

-- lines that are heard to their end are all answered, where the outside does not fail, or memory runs out
abbrev pub AnswersAll : Type 0
AnswersAll =
    (d : Dialogue) (before after : Outside) (status : ℕ) (files : Files) (limit : ℕ) (last : List ℕ → Bool) (bytes : List ℕ)
    → ConversesIn d before after status
    → DoesNotFail files before after
    → verdict files d ≡ Hears limit last
    → before.source.left ≡ Some bytes
    → (Rose before.source.faults after.source.faults → ⊥)
    → status_over limit last bytes ≡ 0
    → HasAnswered d before after status ⊎ HasRunOut before after status
