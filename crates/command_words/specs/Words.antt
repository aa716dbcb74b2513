-- The words of a command line, and what they ask for. Where probes are spoken of as a number, it is how many are handed in; where parts
-- are spoken of as a list of numbers, it is how many pins each part has that is handed in. The project's own.
use Rattle.std.specs.Prelude.{◌≡◌, ℕ, Bool, false, nat_le, ◌==◌, ◌&&◌, ◌+◌, ◌-◌, ◌*◌, ◌%◌, ◌^◌, if◌then◌else◌, List, [], ◌∷◌, length, Option, Some, None, Result, Ok, Err, codes}
use Rattle.std.specs.Str.{bytes_eq}
use Rattle.hex.specs.Hex.{decode_of}
use Rattle.hex.specs.declared.error.FromHexError.{FromHexError}
use Rattle.pio_words.specs.declared.side.SideConfig.{SideConfig}
use Rattle.board_parts.specs.declared.target.Target.{Target}
use Rattle.board_parts.specs.Wiring.{Wired}
use Rattle.command_words.specs.Line.{line_in}
use Rattle.command_words.specs.Lists.{Entry, items_of, entry_of, share_machine, target_of, share_probe, wiring_of, share_part}
use Rattle.command_words.specs.Numbers.{given, number_within}
use Rattle.command_words.specs.Options.{NamedValue, settings_of, is_given, value_for, is_normal, number_for}

-- a run: the image's name, how many cycles it may have, the script's name, the programs for machines, the probes that are aimed, the
-- parts that are attached, how many workers run its lanes, whether it ends with the line of its windows, and whether the image is
-- linked with the table of routines
pub record Run : Type 0 where
  pub image : List ℕ
  pub cycles : ℕ
  pub script : Option (List ℕ)
  pub pio : List Entry
  pub probes : List Target
  pub parts : List Wired
  pub workers : ℕ
  pub stats : Bool
  pub table : Bool

-- what the words may ask for: a run, the debugger on a run, the source text of instruction words, the listing of a PIO source, the
-- image file of a Thumb source, or the run of the image that is generated from a number by so many workers, with or without the line
-- of its windows
pub data Subcommand : Type 0 where
  RunImage : (run : Run) → Subcommand
  DebugImage : (run : Run) → Subcommand
  Disassemble : (words : List ℕ) → (side : SideConfig) → Subcommand
  Assemble : (source : List ℕ) → Subcommand
  AssembleThumb : (source : List ℕ) → Subcommand
  Generate : (number cycles workers : ℕ) → (stats : Bool) → Subcommand

-- the limit of cycles, 1 to 1,000,000,000, which must be given
abbrev pub cycles_in : List NamedValue → Option ℕ
cycles_in settings = given (value_for (codes "--cycles") settings) (number_within 1 1000000000)

-- the number of workers, 0 to 8, and 0 where it is not given
abbrev pub workers_in : List NamedValue → Option ℕ
workers_in settings = number_for (codes "--workers") 8 settings

-- `<image> --cycles N [--script FILE] [--pio LIST] [--probe LIST] [--part LIST] [--workers K] [--stats] [--table]`; the items of a list are
-- joined by commas (44), and no machine, no probe and no part stands in one twice
unfoldable pub run_reading : ℕ → List ℕ → List ℕ → List NamedValue → Option Run
run_reading probes parts image settings =
    given (cycles_in settings) (λ cycles. given (items_of entry_of share_machine 44 (value_for (codes "--pio") settings)) (λ pio.
    given (items_of (target_of probes) share_probe 44 (value_for (codes "--probe") settings)) (λ targets.
    given (items_of (wiring_of parts) share_part 44 (value_for (codes "--part") settings)) (λ wirings.
    given (workers_in settings) (λ workers. Some (record {
      image = image;
      cycles = cycles;
      script = value_for (codes "--script") settings;
      pio = pio;
      probes = targets;
      parts = wirings;
      workers = workers;
      stats = is_given (codes "--stats") settings;
      table = is_given (codes "--table") settings;
    }))))))

-- two bytes are a word, the high one first
abbrev pub halves : List ℕ → List ℕ
halves [] = []
halves (high ∷ []) = []
halves (high ∷ low ∷ bytes) = (high * 256 + low) ∷ halves bytes

abbrev pub halves_of : Result (List ℕ) FromHexError → Option (List ℕ)
halves_of (Ok bytes) = Some (halves bytes)
halves_of (Err fault) = None

-- the words of 4 to 128 hexadecimal digits, four digits each
unfoldable pub words_of : List ℕ → Option (List ℕ)
words_of hex =
    if nat_le 4 (length hex) && nat_le (length hex) 128 && (length hex % 4 == 0) then halves_of (decode_of hex) else None

-- `--side S` and `--opt T`, both 0 where they are not given, at most five bits together
unfoldable pub side_of : List NamedValue → Option SideConfig
side_of settings =
    given (number_for (codes "--side") 5 settings) (λ count. given (number_for (codes "--opt") 1 settings) (λ opt.
    if nat_le (count + opt) 5 then Some (record { count = count; opt = opt == 1; pindirs = false }) else None))

-- `dis <hex> [--side S] [--opt T]`
unfoldable pub dis_reading : List ℕ → List NamedValue → Option Subcommand
dis_reading hex settings = given (words_of hex) (λ words. given (side_of settings) (λ side. Some (Disassemble words side)))

-- `gen <number> --cycles N [--workers K] [--stats]`, the number below 2 ^ 64
unfoldable pub gen_reading : List ℕ → List NamedValue → Option Subcommand
gen_reading number settings =
    given (number_within 0 (2 ^ 64 - 1) number) (λ number. given (cycles_in settings) (λ cycles.
    given (workers_in settings) (λ workers. Some (Generate number cycles workers (is_given (codes "--stats") settings)))))

-- what a command, its argument and its options ask for
unfoldable pub written : ℕ → List ℕ → List (List ℕ) → Option Subcommand
written probes parts [] = None
written probes parts (command ∷ []) = None
written probes parts (command ∷ argument ∷ options) =
    let settings = settings_of options in
    if bytes_eq command (codes "run") then given (run_reading probes parts argument settings) (λ run. Some (RunImage run))
    else if bytes_eq command (codes "debug") then given (run_reading probes parts argument settings) (λ run. Some (DebugImage run))
    else if bytes_eq command (codes "dis") then dis_reading argument settings
    else if bytes_eq command (codes "asm") then Some (Assemble argument)
    else if bytes_eq command (codes "thumb") then Some (AssembleThumb argument)
    else if bytes_eq command (codes "gen") then gen_reading argument settings else None

-- The reading of the words, or none where they are refused. Words in normal form are read as they are written. All others are read as
-- `clap` reads them.
unfoldable pub reading : ℕ → List ℕ → List (List ℕ) → Option Subcommand
reading probes parts words = if is_normal words then written probes parts words else given (line_in words) (written probes parts)

-- how many workers run the lanes of what is asked for; a command without such a number has none
abbrev pub workers_of : Subcommand → ℕ
workers_of (RunImage run) = run.workers
workers_of (Generate number cycles workers stats) = workers
workers_of _ = 0

-- the parts that are attached for what is asked for
abbrev pub parts_in : Subcommand → List Wired
parts_in (RunImage run) = run.parts
parts_in (DebugImage run) = run.parts
parts_in _ = []

-- what was asked for was read from some words, where so many probes were handed in, and parts with so many pins
abbrev pub IsRead : ℕ → List ℕ → Subcommand → Type 0
IsRead probes parts command = (words : List (List ℕ)) × (reading probes parts words ≡ Some command)
