-- What the opening of a call gives, by the walks of its dialogue: the project's own.
use Rattle.std.specs.Prelude.{◌≡◌, ◌⊎◌, ◌==◌, ℕ, if◌then◌else◌, List, [], ◌∷◌, length, Option, Result, Ok, Err, IfOk, IfErr}
use Rattle.rp_ports.specs.Shelf.{Files}
use Rattle.command_words.specs.Words.{Subcommand}
use Rattle.command_words.specs.Refusals.{Refusal, refused_line, status_of, meant}
use Rattle.pico_top.specs.Dialogue.{Drawn, Sunk, Placed, loads_of, plans_in, Use, Dialogue, say, hear, plain, dialogue_of, run_reply, say_run, hear_run, input_limit, session_reply, with_programs}
use Rattle.pico_top.specs.Answer.{Puts, RunsOut, Takes, Ends, Counts, Ending, Walks, failed_names}
use Rattle.lane_look.specs.Device.{DeviceMeaning}
use Rattle.board_parts.specs.Hearing.{Aim}
use Rattle.outer_lane.specs.Setting.{setting_of}
use Rattle.rp_machine.specs.declared.load.PioLoad.{PioLoad}
use Rattle.pio_asm.specs.Placing.{with_addresses}
use Rattle.pin_script.specs.declared.entry.Entry.{Entry as ScriptEntry}
use Rattle.command_words.specs.Lists.{Entry}
use Rattle.reverse_debug.specs.Session.{first_of, OpensAt}
use Rattle.rp_machine.specs.State.{State}
use Rattle.pico_top.specs.declared.outcome.Started.{Started}
use Rattle.pico_top.specs.declared.outcome.Debugging.{Debugging}
use Rattle.pico_top.specs.declared.outcome.Purpose.{Purpose}
use Rattle.pico_top.specs.declared.outcome.Purpose.TheVariants.{Run as ForRun, Debug as ForDebug}
use Rattle.pico_top.specs.declared.outcome.Opened.{Opened}
use Rattle.pico_top.specs.declared.outcome.Opened.TheVariants.{Machine, Session, Text}
use Rattle.pico_top.specs.declared.outcome.Unopened.{Unopened}
use Rattle.pico_top.specs.declared.outcome.Unopened.TheVariants.{Refusing, Memory}
use Rattle.pio_asm.specs.Assembly.{ArePrograms}
use Rattle.pio_program.specs.declared.program.Program.{Program}
use Rattle.reverse_debug.specs.Debugger.{quits}
use Rattle.pico_top.specs.Answer.Ending.{Said, Heard, Refused}

-- what is left of the dialogue when this is opened
abbrev pub opened_dialogue : DeviceMeaning → List Aim → Opened → Dialogue
opened_dialogue device aims (Machine started) = say (run_reply started.stats aims (setting_of started.script device started.limit) started.machine)
opened_dialogue device aims (Session debugging) =
    hear input_limit quits (session_reply (setting_of debugging.script device debugging.limit) (first_of debugging.session))
opened_dialogue device aims (Text text pieces) = say (plain text.items)

-- nothing is said or heard
abbrev pub IsShort : Ending → Type 0
IsShort (Said reply) = ⊥
IsShort (Heard bytes way reply) = ⊥
IsShort _ = Unit {0}

-- the ending of a walk that opened nothing; memory may run out in place of a refusal
abbrev pub EndsAs : Unopened → Ending → Type 0
EndsAs (Refusing refusal) e = e ≡ Refused (meant refusal)
EndsAs Memory e = IsShort e

-- a walk of the dialogue ended so that nothing was opened, over a shelf with these files, and with these failed names before and after it
abbrev pub EndsUnopened : Option Files → List (List ℕ) → List (List ℕ) → Dialogue → Unopened → Type 0
EndsUnopened files failed failed' d unopened = (e : Ending) × Walks files d e × (failed' ≡ failed_names failed e) × EndsAs unopened e

-- Something was found, no load failed, and every walk of what comes behind it is a walk of the dialogue; or a walk of the dialogue ended
-- so that nothing was opened.
pub record Leads {V : Type 0} (files : Option Files) (failed failed' : List (List ℕ)) (behind : V → Dialogue) (d : Dialogue) (result : Result V Unopened) : Type 0 where
  pub found : IfOk result (λ v. (failed' ≡ failed) × ((e : Ending) → Walks files (behind v) e → Walks files d e))
  pub ended : IfErr result (EndsUnopened files failed failed' d)

-- the same of a part of a dialogue, whatever comes behind
abbrev pub Passes : {V : Type 0} → Option Files → List (List ℕ) → List (List ℕ) → ((V → Dialogue) → Dialogue) → Result V Unopened → Type 0
Passes {V} files failed failed' part result = (next : V → Dialogue) → Leads files failed failed' next (part next) result

-- the same of the dialogue of a command, whatever probes hear it
abbrev pub OpensFor : Option Files → List (List ℕ) → List (List ℕ) → DeviceMeaning → Subcommand → Result Opened Unopened → Type 0
OpensFor files failed failed' device command result =
    (aims : List Aim) → Leads files failed failed' (opened_dialogue device aims) (dialogue_of device aims command) result

-- what comes of judging: what is judged, the refusal of its fault, or want of memory
abbrev pub Judges : {A F : Type 0} → Result A F → (F → Refusal) → Result A Unopened → Type 0
Judges {A} {F} verdict refused (Ok a) = verdict ≡ Ok a
Judges {A} {F} verdict refused (Err (Refusing refusal)) = (fault : F) × (verdict ≡ Err fault) × (meant refusal ≡ refused fault)
Judges {A} {F} verdict refused (Err Memory) = Unit {0}

-- a machine in its first state for a run, or a session there for the debugger
abbrev pub Boots : Purpose → State → List ScriptEntry → ℕ → Opened → Type 0
Boots (ForRun stats) first script limit opened =
    (started : Started) × (opened ≡ Machine started) × (started.machine ≡ first) × (started.script ≡ script) × (started.limit ≡ limit) × (started.stats ≡ stats)
Boots ForDebug first script limit opened =
    (debugging : Debugging) × (opened ≡ Session debugging) × OpensAt first limit debugging.session × (debugging.script ≡ script) × (debugging.limit ≡ limit)

-- what is done with a run for a purpose
abbrev pub use_for : List Aim → Purpose → Use
use_for aims (ForRun stats) = say_run stats aims
use_for aims ForDebug = hear_run

-- ---- placed programs

-- the addresses of a block that are taken, one bit each, behind some that are
abbrev pub taken_by : ℕ → ℕ → List PioLoad → ℕ
taken_by used block [] = used
taken_by used block (load ∷ loads) =
    taken_by (if load.block == block then with_addresses used load.offset (length load.program.words.items) else used) block loads

-- the loads are those of placed programs, with some words of these
pub record ArePlaced (ps : List Placed) (loads : List PioLoad) : Type 0 where
  pub programs : List Program
  pub words : ArePrograms (plans_in ps) programs
  pub are : loads ≡ loads_of ps programs

-- These programs are placed, and where something is answered it holds their loads; what comes behind them and the entries that are left (`rest`,
-- which is empty in a contract) leads back to this part of a dialogue, or a walk of it ended so that nothing was opened
pub record Places {V : Type 0} (files : Option Files) (failed failed' : List (List ℕ)) (part : (List Placed → Dialogue) → Dialogue) (rest : List Entry) (loads : V → List PioLoad) (result : Result V Unopened) : Type 0 where
  pub after : List Placed
  pub placed : IfOk result (λ v. ArePlaced after (loads v))
  pub leads : (next : List Placed → Dialogue) → Leads files failed failed' (λ v. with_programs rest after next) (part next) result

-- the line of a refusal was put, or memory ran out
abbrev pub PutsRefusal : Sunk → Sunk → ℕ → Unopened → Type 0
PutsRefusal a b status (Refusing refusal) = Puts a b status (status_of (meant refusal)) (refused_line (meant refusal)) ⊎ RunsOut a b status
PutsRefusal a b status Memory = RunsOut a b status

-- what is left of a dialogue was told, or memory ran out before: a walk of it ended so, whatever the files, no load failed, and what
-- was taken, written and counted goes with that ending
pub record Concludes (d : Dialogue) (source source' : Drawn) (a b : Sunk) (steps steps' status : ℕ) : Type 0 where
  pub ending : Ending
  pub walked : (files : Option Files) → Walks files d ending
  pub loaded : (failed : List (List ℕ)) → failed_names failed ending ≡ failed
  pub takes : Takes source source' status ending
  pub ends : Ends a b status ending
  pub counted : Counts ending status steps steps'
