-- What a reader of the words answers: the project's own.
use Rattle.std.specs.Prelude.{◌≡◌, ◌<◌, ℕ, List, ◌∷◌, length, map, Option, Some, None, Result, Ok, Err, String}
use Rattle.std.specs.Global.{Global}
use Rattle.std.specs.Option.{option_map}
use Rattle.std.specs.String.{string_bytes}
use Rattle.board_parts.specs.Wiring.{wired_in}
use Rattle.command_words.specs.declared.reading.PioEntry.{PioEntry}
use Rattle.command_words.specs.declared.reading.RunWords.{RunWords}
use Rattle.command_words.specs.declared.reading.Reading.{Reading}
use Rattle.command_words.specs.declared.reading.Reading.TheVariants as readings
use Rattle.command_words.specs.declared.reading.WordsFault.{WordsFault}
use Rattle.command_words.specs.declared.reading.WordsFault.TheVariants.{Words, Memory}
use Rattle.command_words.specs.Options.{settings_of}
use Rattle.command_words.specs.Lists.{Entry}
use Rattle.command_words.specs.Words.{Run, Subcommand}
use Rattle.command_words.specs.Words.Subcommand.{RunImage, DebugImage, Disassemble, Assemble, AssembleThumb, Generate}

-- the entry that the words of one stand for
abbrev pub entry_in : PioEntry → Entry
entry_in e = record { block = e.block; machine = e.machine; file = string_bytes e.file }

-- the run that the words of one stand for
abbrev pub run_in : RunWords → Run
run_in r = record {
  image = string_bytes r.image;
  cycles = r.cycles;
  script = option_map string_bytes r.script;
  pio = map entry_in r.pio.items;
  probes = r.probes.items;
  parts = map wired_in r.parts.items;
  workers = r.workers;
  stats = r.stats;
  table = r.table;
}

-- the command that a reading stands for
abbrev pub command_in : Reading → Subcommand
command_in (readings.Run r) = RunImage (run_in r)
command_in (readings.Debug r) = DebugImage (run_in r)
command_in (readings.Dis d) = Disassemble d.words.items d.side
command_in (readings.Asm name) = Assemble (string_bytes name)
command_in (readings.Thumb name) = AssembleThumb (string_bytes name)
command_in (readings.Gen g) = Generate g.number g.cycles g.workers g.stats

-- the answer stands for what was asked for, or is Words where that is none; Memory says nothing
abbrev pub Reads : {X Y : Type 0} → (Y → X) → Option X → Result Y WordsFault → Type 0
Reads meaning asked (Ok y) = asked ≡ Some (meaning y)
Reads meaning asked (Err Words) = asked ≡ None
Reads meaning asked (Err Memory) = Unit {0}

-- an option, its value and what is behind are the first of some words
pub record IsFirst (words : List (String Global)) (name : List ℕ) (value : Option (List ℕ)) (rest : List (String Global)) : Type 0 where
  pub settings : settings_of (map string_bytes words) ≡ (name, value) ∷ settings_of (map string_bytes rest)
  pub fewer : length rest < length words
