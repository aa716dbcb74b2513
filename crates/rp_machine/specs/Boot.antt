-- The first state of a run: the image, and the PIO programs that are loaded before the first cycle (RP2040 Datasheet, 3.2.2 and
-- 3.7; what of a program is loaded is the project's own).
use Rattle.std.specs.Prelude.{ℕ, ◌+◌, ◌*◌, ◌/◌, ◌%◌, ◌^◌, ◌<◌, ◌≤◌, ◌==◌, if◌then◌else◌, List, [], ◌∷◌, length, Some}
use Rattle.rp_base.specs.Resettable.{with_block}
use Rattle.rp_base.specs.Word.{bit_number}
use Rattle.lane_look.specs.Device.{DeviceMeaning}
use Rattle.uf2_image.specs.declared.parts.Image.{Image}
use Rattle.pio_words.specs.declared.side.SideConfig.{SideConfig}
use Rattle.pio_program.specs.declared.program.Program.{Program}
use Rattle.rp_base.specs.Rows.{offset_at, place_in}
use Rattle.pio_block.specs.State.{State as Pio}
use Rattle.pio_block.specs.Words.{pio_rows, effect_of, counter_set}
use Rattle.rp_machine.specs.declared.load.PioLoad.{PioLoad}
use Rattle.rp_machine.specs.State.{State, first_state}

-- ---- words

-- a program that stands at an offset: in each word that has 0 in its top three bits, as a jump has, the low five bits are raised
-- by the offset modulo 32
abbrev pub relocated : ℕ → ℕ → ℕ
relocated offset word = if word / 2 ^ 13 == 0 then word / 2 ^ 5 * 2 ^ 5 + (word + offset) % 2 ^ 5 else word

abbrev pub with_word : ℕ → ℕ → Pio → Pio
with_word offset w p = effect_of offset (Some w) p

-- INSTR_MEM from a word on has the words
abbrev pub words_loaded : ℕ → ℕ → List ℕ → Pio → Pio
words_loaded offset at [] p = p
words_loaded offset at (word ∷ words) p =
    words_loaded offset (at + 1) words (with_word (offset_at (place_in pio_rows "INSTR_MEMn") at) (relocated offset word) p)

-- ---- the registers of a machine, which have their reset values but for what the program says

-- SIDE_EN, SIDE_PINDIR, and both ends of the wrap raised by the offset
abbrev pub execctrl_of : ℕ → Program → ℕ
execctrl_of offset program =
    bit_number program.side.opt * 2 ^ 30 + bit_number program.side.pindirs * 2 ^ 29 + (program.wrap + offset) * 2 ^ 12
    + (program.target + offset) * 2 ^ 7

-- SIDESET_COUNT, which counts the bit of `opt`; SET_COUNT is 5
abbrev pub pinctrl_of : SideConfig → ℕ
pinctrl_of side = (side.count + bit_number side.opt) * 2 ^ 29 + 5 * 2 ^ 26

-- EXECCTRL and PINCTRL of a machine
abbrev pub execctrl_offset : ℕ → ℕ
execctrl_offset machine = offset_at (place_in pio_rows "SMn_EXECCTRL") machine

abbrev pub pinctrl_offset : ℕ → ℕ
pinctrl_offset machine = offset_at (place_in pio_rows "SMn_PINCTRL") machine

-- ---- loads

abbrev pub words_of : PioLoad → List ℕ
words_of load = load.program.words.items

-- the block has the words, and the machine the program's registers and its first counter
unfoldable pub block_loaded : PioLoad → Pio → Pio
block_loaded load p =
    counter_set load.machine load.offset
    (with_word (pinctrl_offset load.machine) (pinctrl_of load.program.side)
    (with_word (execctrl_offset load.machine) (execctrl_of load.offset load.program)
    (words_loaded load.offset load.offset (words_of load) p)))

abbrev pub with_load : PioLoad → State → State
with_load load s =
    if load.block == 0
    then record s { pio0 = with_block s.pio0 (block_loaded load s.pio0.block) }
    else record s { pio1 = with_block s.pio1 (block_loaded load s.pio1.block) }

abbrev pub with_loads : List PioLoad → State → State
with_loads [] s = s
with_loads (load ∷ loads) s = with_loads loads (with_load load s)

-- the first state
unfoldable pub start : DeviceMeaning → Image → List PioLoad → State
start device image loads = with_loads loads (first_state device image)

-- what a load has to be: its words lie in the block's memory, and the side-set fits
pub record IsLoad (load : PioLoad) : Type 0 where
  pub block : load.block ≤ 1
  pub machine : load.machine ≤ 3
  pub room : load.offset + length (words_of load) ≤ 32
  pub target : load.program.target < length (words_of load)
  pub wrap : load.program.wrap < length (words_of load)
  pub side : load.program.side.count + bit_number load.program.side.opt ≤ 5

abbrev pub AreLoads : List PioLoad → Type 0
AreLoads [] = Unit {0}
AreLoads (load ∷ loads) = IsLoad load × AreLoads loads
