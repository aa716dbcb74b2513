-- The offset of the pads' registers behind those of IO_BANK0 (the project's own).
use Rattle.std.specs.Prelude.{ℕ}

-- where the registers of PADS_BANK0 begin among the offsets of both blocks
abbrev pub PADS_BANK0 : ℕ
PADS_BANK0 = 0x1000

-- the pad of pin 29
abbrev pub PAD_GPIO29 : ℕ
PAD_GPIO29 = 0x1078
