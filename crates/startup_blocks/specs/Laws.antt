-- Laws of the start-up registers: no wait of a usual start-up lasts.
use Rattle.std.specs.Prelude.{◌≡◌, ℕ, ◌%◌, ◌^◌, true, List, length, Some}
use Rattle.rp_base.specs.Word.{has_bit}
use Rattle.startup_blocks.specs.Words.{word_of, read_at, written}

-- in each state: XOSC is STABLE (bit 31 of STATUS), and both PLLs have LOCK (bit 31 of CS)
pub record NeverWaits (s : List ℕ) : Type 0 where
  pub stable : has_bit (read_at 0x40024004 s) 31 ≡ true
  pub pll_sys : has_bit (read_at 0x40028000 s) 31 ≡ true
  pub pll_usb : has_bit (read_at 0x4002c000 s) 31 ≡ true

abbrev pub OscillatorAndPllsAreReady : Type 0
OscillatorAndPllsAreReady = (s : List ℕ) → NeverWaits s

-- after a write of its CTRL the selected source of CLK_REF, and of CLK_SYS, is the one that SRC names
pub record SelectsAtOnce (s : List ℕ) (w : ℕ) : Type 0 where
  pub reference : word_of 0x40008038 (written 0x40008030 w s) ≡ Some (2 ^ (w % 4))
  pub system : word_of 0x40008044 (written 0x4000803c w s) ≡ Some (2 ^ (w % 2))

abbrev pub ClocksAreSelectedAtOnce : Type 0
ClocksAreSelectedAtOnce = (s : List ℕ) (w : ℕ) → length s ≡ 46 → SelectsAtOnce s w

-- after a write of TICK with ENABLE (bit 9) it is RUNNING (bit 10)
abbrev pub TheTickRunsAtOnce : Type 0
TheTickRunsAtOnce =
    (s : List ℕ) (w : ℕ) → length s ≡ 46 → has_bit w 9 ≡ true → has_bit (read_at 0x4005802c (written 0x4005802c w s)) 10 ≡ true
