-- What a call is handed and meets outside, and what it does for its words: it loads files and judges each, one after another, and says
-- a text, or hears lines and answers them. The project's own.
use Rattle.std.specs.Prelude.{ℕ, List, length, Option, ◌==◌, if◌then◌else◌, [], ◌∷◌, map, Result, Bool, ◌++◌, None, Some, Ok, Err}
use Rattle.lane_look.specs.Device.{DeviceMeaning, paired}
use Rattle.rp_ports.specs.Shelf.{Files}
use Rattle.rp_ports.specs.declared.shelf.Shelf.{Ghosts as ShelfMeaning}
use Rattle.rp_ports.specs.declared.source.Source.{Ghosts as SourceMeaning}
use Rattle.rp_ports.specs.declared.sink.Sink.{Ghosts as SinkMeaning}
use Rattle.board_parts.specs.Part.{PartMeaning}
use Rattle.board_parts.specs.Probe.{ProbeMeaning}
use Rattle.board_parts.specs.Wiring.{counts_of, Wired, placed_by}
use Rattle.command_words.specs.Words.{Subcommand, reading, Run, parts_in}
use Rattle.pio_parse.specs.declared.fault.PioFault.{PioFault}
use Rattle.pio_asm.specs.Assembly.{Plan}
use Rattle.pio_program.specs.declared.program.Program.{Program}
use Rattle.pio_asm.specs.Placing.{placed, with_addresses}
use Rattle.rp_machine.specs.declared.load.PioLoad.{PioLoad}
use Rattle.command_words.specs.Lists.{Entry}
use Rattle.board_parts.specs.Parts.{parts_device}
use Rattle.board_parts.specs.Hearing.{Aim}
use Rattle.board_parts.specs.Aiming.{aims_of}
use Rattle.board_parts.specs.declared.target.Target.{Target}
use Rattle.uf2_image.specs.Code.{image_of_number}
use Rattle.uf2_image.specs.Uf2.{image_of}
use Rattle.uf2_image.specs.Writing.{file_of}
use Rattle.uf2_image.specs.declared.parts.Image.{Image}
use Rattle.startup_blocks.specs.Table.{linked}
use Rattle.thumb_asm.specs.Source.{image_of_source}
use Rattle.pin_script.specs.Script.{script_of}
use Rattle.pin_script.specs.declared.entry.Entry.{Entry as ScriptEntry}
use Rattle.pio_disasm.specs.Text.{source_text}
use Rattle.pio_asm.specs.Listing.{plans_of, listing}
use Rattle.outer_lane.specs.Setting.{Setting, setting_of}
use Rattle.rp_machine.specs.State.{State}
use Rattle.rp_machine.specs.Boot.{start}
use Rattle.command_words.specs.Refusals.{Refusal}
use Rattle.command_words.specs.Refusals.Refusal.{BadWords, BadImage, BadScript, BadSource, BadThumb, BadStart}
use Rattle.command_words.specs.Words.Subcommand.{RunImage, DebugImage, Disassemble, Assemble, AssembleThumb, Generate}
use Rattle.reverse_debug.specs.Talk.{text_from, cost_from}
use Rattle.reverse_debug.specs.Debugger.{quits, talk_of}
use Rattle.pico_top.specs.RunText.{run_text, run_cycles}

-- what is handed in for the board: the device at the pads, the probes that may be aimed, and the parts that may be attached
pub record Board : Type 0 where
  pub device : DeviceMeaning
  pub probes : List ProbeMeaning
  pub parts : List PartMeaning

abbrev pub board : DeviceMeaning → List ProbeMeaning → List PartMeaning → Board
board device probes parts = record { device = device; probes = probes; parts = parts }

-- what words ask for, or none where they are refused
abbrev pub asked_by : Board → List (List ℕ) → Option Subcommand
asked_by b words = reading (length b.probes) (counts_of b.parts) words

-- the bytes that a source has left, where it tells them, and its count of faults
pub record Drawn : Type 0 where
  pub left : Option (List ℕ)
  pub faults : ℕ

-- the bytes that a sink has written, where it tells them, and its count of faults
pub record Sunk : Type 0 where
  pub written : Option (List ℕ)
  pub faults : ℕ

-- the files of the shelf by name, where it tells them, and the names whose loads failed; the source, the sink, and the steps that
-- were counted
pub record Outside : Type 0 where
  pub files : Option Files
  pub failed : List (List ℕ)
  pub source : Drawn
  pub sink : Sunk
  pub steps : ℕ

abbrev pub drawn : {I : Type 0} → SourceMeaning I → I → Drawn
drawn source input = record { left = source.left input; faults = source.faults input }

abbrev pub sunk : {O : Type 0} → SinkMeaning O → O → Sunk
sunk sink out = record { written = sink.written out; faults = sink.faults out }

-- what a shelf, a source, a sink and a count of steps are now
abbrev pub outside : {F I O : Type 0} → ShelfMeaning F → SourceMeaning I → SinkMeaning O → F → I → O → ℕ → Outside
outside shelf source sink files input out steps = record {
  files = shelf.files files;
  failed = shelf.failed files;
  source = drawn source input;
  sink = sunk sink out;
  steps = steps;
}

-- ---- the programs that a run loads before its first cycle, and their offsets (RP2040 Datasheet, 3.2.1; the list is the project's own)

-- a placed program: the block, the machine that runs it, the offset, and the program
pub record Placed : Type 0 where
  pub block : ℕ
  pub machine : ℕ
  pub offset : ℕ
  pub plan : Plan

abbrev pub placed_as : Entry → Plan → ℕ → Placed
placed_as entry plan offset = record { block = entry.block; machine = entry.machine; offset = offset; plan = plan }

-- the addresses of a block that are taken, one bit each, behind some that are
abbrev pub taken_from : ℕ → ℕ → List Placed → ℕ
taken_from used block [] = used
taken_from used block (p ∷ ps) =
    taken_from (if p.block == block then with_addresses used p.offset (length p.plan.members) else used) block ps

-- the offset of a program behind others
abbrev pub offset_of : Entry → List Placed → Plan → Result ℕ PioFault
offset_of entry others plan = placed (taken_from 0 entry.block others) plan.origin (length plan.members)

-- the programs with their words, each at its offset
abbrev pub loads_of : List Placed → List Program → List PioLoad
loads_of [] programs = []
loads_of (p ∷ ps) [] = []
loads_of (p ∷ ps) (program ∷ programs) =
    record { block = p.block; machine = p.machine; offset = p.offset; program = program } ∷ loads_of ps programs

abbrev pub plans_in : List Placed → List Plan
plans_in ps = map (λ p. p.plan) ps

-- ---- the dialogue

-- how many machine cycles a text costs: exactly so many, or at most so many
pub data Cost : Type 0 where
  Exactly : (cycles : ℕ) → Cost
  AtMost : (cycles : ℕ) → Cost

-- a text and its cost
pub record Reply : Type 0 where
  pub text : List ℕ
  pub cost : Cost

-- Load: the file of this name is loaded, if it has at most so many bytes, and what is next goes on with its bytes.
-- Refuse: the dialogue ends with this refusal.
-- Say: a text is said, which goes with some words of these programs (where it goes with no program, there are none).
-- Hear: at most so many bytes are taken from the input, up to the first complete line that is a last one, and the lines before it
-- are answered; the answers go with some words of these programs.
pub data Dialogue : Type 0 where
  Load : (name : List ℕ) → (limit : ℕ) → (next : List ℕ → Dialogue) → Dialogue
  Refuse : (refusal : Refusal) → Dialogue
  Say : (plans : List Plan) → (reply : List Program → Reply) → Dialogue
  Hear : (plans : List Plan) → (limit : ℕ) → (last : List ℕ → Bool) → (answers : List Program → List (List ℕ) → Reply) → Dialogue

-- a text that goes with no program, and answers that go with none
abbrev pub say : Reply → Dialogue
say reply = Say [] (λ programs. reply)

abbrev pub hear : ℕ → (List ℕ → Bool) → (List (List ℕ) → Reply) → Dialogue
hear limit last answers = Hear [] limit last (λ programs. answers)

-- what is judged leads on, or its fault is refused
abbrev pub judge : {A F : Type 0} → Result A F → (F → Refusal) → (A → Dialogue) → Dialogue
judge (Ok a) refused next = next a
judge (Err fault) refused next = Refuse (refused fault)

-- a text that costs no cycle
abbrev pub plain : List ℕ → Reply
plain text = record { text = text; cost = Exactly 0 }

-- ---- the inputs

-- an image file has at most 16 MiB
abbrev pub image_limit : ℕ
image_limit = 16777216

-- a script file has at most 4 MiB
abbrev pub script_limit : ℕ
script_limit = 4194304

-- a source file has at most 1 MiB
abbrev pub source_limit : ℕ
source_limit = 1048576

-- an image file, and the image in it
abbrev pub with_image : List ℕ → (Image → Dialogue) → Dialogue
with_image name next = Load name image_limit (λ bytes. judge (image_of bytes) BadImage next)

-- an image linked with the table of routines, where that is asked for
abbrev pub with_linked : Bool → (Image → Dialogue) → Image → Dialogue
with_linked table next image = if table then judge (linked image) BadStart next else next image

-- a script file, and the script in it; without one the script is that of an empty file
abbrev pub with_script : Option (List ℕ) → (List ScriptEntry → Dialogue) → Dialogue
with_script None next = judge (script_of []) BadScript next
with_script (Some name) next = Load name script_limit (λ bytes. judge (script_of bytes) BadScript next)

-- a PIO source file, and the programs in it
abbrev pub with_source : List ℕ → (List Plan → Dialogue) → Dialogue
with_source name next = Load name source_limit (λ bytes. judge (plans_of bytes) BadSource next)

-- a Thumb source file, and the image of its bytes
abbrev pub with_thumb : List ℕ → (Image → Dialogue) → Dialogue
with_thumb name next = Load name source_limit (λ bytes. judge (image_of_source bytes) BadThumb next)

-- the first of some programs is placed behind others
abbrev pub with_first : Entry → List Placed → (List Placed → Dialogue) → List Plan → Dialogue
with_first entry others next [] = next others
with_first entry others next (plan ∷ plans) =
    judge (offset_of entry others plan) BadSource (λ offset. next (others ++ placed_as entry plan offset ∷ []))

-- the program of an entry: its file, its source, its offset
abbrev pub with_program : Entry → List Placed → (List Placed → Dialogue) → Dialogue
with_program entry others next = with_source entry.file (with_first entry others next)

-- the programs of all entries, one after another
abbrev pub with_programs : List Entry → List Placed → (List Placed → Dialogue) → Dialogue
with_programs [] placed next = next placed
with_programs (entry ∷ entries) placed next = with_program entry placed (λ more. with_programs entries more next)

-- ---- the dialogue of each command

-- the text of the run from a state, which these probes hear; the counts of its windows stand in it where they are asked for
abbrev pub run_reply : Bool → List Aim → Setting → State → Reply
run_reply stats aims w s = record { text = run_text stats w aims s; cost = Exactly (run_cycles w s) }

abbrev pub say_run : Bool → List Aim → Setting → Image → List Placed → Dialogue
say_run stats aims w image placed =
    Say (plans_in placed) (λ programs. run_reply stats aims w (start w.device image (loads_of placed programs)))

-- an input has at most 1 MiB up to its last line
abbrev pub input_limit : ℕ
input_limit = 1048576

-- what a session that begins in this state answers to lines; the cycles that it steps are counted
abbrev pub session_reply : Setting → State → List (List ℕ) → Reply
session_reply w first lines = let t = talk_of w first in record { text = text_from t 0 lines; cost = AtMost (cost_from t 0 lines) }

-- the debugger hears lines at the first state of a run
abbrev pub hear_run : Setting → Image → List Placed → Dialogue
hear_run w image placed =
    Hear (plans_in placed) input_limit quits (λ programs. session_reply w (start w.device image (loads_of placed programs)))

-- what is done with a run: its text, or its debugger
abbrev pub Use : Type 0
Use = Setting → Image → List Placed → Dialogue

-- a run: its image, which is linked where that is asked for, its script and its programs, and what is done with it
abbrev pub with_run : Use → DeviceMeaning → Run → Dialogue
with_run use_run device run =
    with_image run.image (with_linked run.table (λ image. with_script run.script (λ script. with_programs run.pio []
    (use_run (setting_of script device run.cycles) image))))

-- which probes a command aims at which pins: a run those that its words name, and no other command any
abbrev pub targets_in : Subcommand → List Target
targets_in (RunImage run) = run.probes
targets_in _ = []

-- the probes that are aimed, of those that are handed in
abbrev pub aims_in : List ProbeMeaning → Subcommand → List Aim
aims_in probes command = aims_of probes (targets_in command)

-- the parts that are attached, of those that are handed in, and beside them the device at the pads; this alone, where none is attached
abbrev pub beside : List Wired → List PartMeaning → DeviceMeaning → DeviceMeaning
beside [] parts device = device
beside (w ∷ ws) parts device = paired (parts_device (placed_by parts (w ∷ ws))) device

-- the device of what is asked for
abbrev pub device_in : Board → Subcommand → DeviceMeaning
device_in b command = beside (parts_in command) b.parts b.device

-- A run and the debugger on it load its image, which is linked where that is asked for, its script and its programs, and a listing and the
-- file of a Thumb source's image their source; the source text of instruction words needs no file. The run of a generated image has no
-- script and no programs. How many workers take part in a run makes no difference.
abbrev pub dialogue_of : DeviceMeaning → List Aim → Subcommand → Dialogue
dialogue_of device aims (RunImage run) = with_run (say_run run.stats aims) device run
dialogue_of device aims (DebugImage run) = with_run hear_run device run
dialogue_of device aims (Disassemble words side) = say (plain (source_text side words))
dialogue_of device aims (Assemble name) = with_source name (λ plans. Say plans (λ programs. plain (listing programs)))
dialogue_of device aims (AssembleThumb name) = with_thumb name (λ image. say (plain (file_of image)))
dialogue_of device aims (Generate number cycles workers stats) = say_run stats aims (setting_of [] device cycles) (image_of_number number) []

-- the dialogue of what words ask for, or their refusal
abbrev pub dialogue_from : Board → Option Subcommand → Dialogue
dialogue_from b None = Refuse BadWords
dialogue_from b (Some command) = dialogue_of (device_in b command) (aims_in b.probes command) command
