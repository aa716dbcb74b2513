-- Where the groups of registers of SIO begin, after D0000000 (RP2040 Datasheet, 2.3.1.7, List of Registers).
use Rattle.std.specs.Prelude.{ℕ}

-- the mailboxes, and after them the divider
abbrev pub FIFO_ST : ℕ
FIFO_ST = 0x050

-- the 32 spinlocks, four bytes each
abbrev pub SPINLOCK0 : ℕ
SPINLOCK0 = 0x100
