-- Accesses to the peripherals: one is open exactly where there is a word, and none changes the bits of RESETS, the levels of the pads, or
-- what SIO puts out.
use Rattle.std.proofs.Common.{◌≡◌, ◌+◌, ◌&&◌, Bool, true, false, cond, ℕ, List, refl, sym, ap, ◌∙◌, rules}
use Rattle.std.specs.Prelude.{nat_lt, if◌then◌else◌, Option, Some, None, is_some}
use Rattle.rp_base.specs.declared.map.Block.{Block}
use Rattle.rp_base.specs.declared.map.Block.TheVariants as block
use Rattle.rp_base.specs.Held.{unless_held}
use Rattle.rp_base.specs.Rows.{Row, has_row, word_at}
use Rattle.rp_base.proofs.Rows.{keeps, either-way, held}
use Rattle.io_bank.specs.Offsets.{PADS_BANK0}
use Rattle.io_bank.specs.State.{State as Bank, after_held}
use Rattle.io_bank.specs.Words as bank
use Rattle.rp_uart.specs.Words.{uart_rows}
use Rattle.rp_timer.specs.Words.{timer_rows}
use Rattle.outer_lane.specs.declared.world.SeenOutputs.{SeenOutputs}
use Rattle.outer_lane.specs.Device.{device_accessed}
use Rattle.outer_lane.specs.Quiet.{held_blocks}
use Rattle.outer_lane.specs.Setting.{Setting}
use Rattle.outer_lane.specs.State.{State, outer_reset}
use Rattle.outer_lane.specs.Step.{is_fitting}
use Rattle.outer_lane.specs.Words.{outs_now, pads_word, own_word, outer_word, outer_allowed, bank_accessed, outer_accessed}

-- ---- where there is a word

some-held : (held : Bool) (word : Option ℕ) → is_some (unless_held true word) ≡ is_some (unless_held held word)
some-held held None = refl
some-held held (Some word) = refl

some-if : (b : Bool) → b ≡ is_some {T = ℕ} (if b then Some 0 else None)
some-if true = refl
some-if false = refl

-- of a block with a bit of RESETS
pub some-read : {V S : Type 0} (rows : List (Row V S)) (bit : Bool) (at : ℕ) (seen : V) (s : S)
    → has_row rows at ≡ is_some (unless_held bit (word_at rows seen at s))
some-read rows bit at seen s =
    some-if (has_row rows at) ∙ ap is_some (sym ((held rows).reads at seen s)) ∙ some-held bit (word_at rows seen at s)

some-below : (b c : Bool) (word : Option ℕ) → c ≡ is_some word → (b && c) ≡ is_some (cond b word None)
some-below true c word e = e
some-below false c word e = refl

pads_open : (w : Setting) (seen : SeenOutputs) (offset : ℕ) (o : State) → bank.is_word offset ≡ is_some (pads_word offset w seen o)
unfolding pads_word
pads_open w seen offset o = some-read bank.bank_rows (bank.is_held offset o.pads) offset (outs_now w seen o) o.pads

pub outer_open : (w : Setting) (seen : SeenOutputs) (b : Block) (offset : ℕ) (o : State)
    → outer_allowed b offset ≡ is_some (outer_word b offset w seen o)
unfolding outer_allowed outer_word own_word
outer_open w seen block.IoBank0 offset o = some-below (nat_lt offset PADS_BANK0) _ (pads_word offset w seen o) (pads_open w seen offset o)
outer_open w seen block.PadsBank0 offset o = pads_open w seen (PADS_BANK0 + offset) o
outer_open w seen block.Uart0 offset o = some-read uart_rows o.uart0.held offset tt o.uart0.block
outer_open w seen block.Uart1 offset o = some-read uart_rows o.uart1.held offset tt o.uart1.block
outer_open w seen block.Timer offset o = some-read timer_rows o.timer.held offset tt o.timer.block
outer_open w seen other offset o = refl

-- ---- what stays

record SamePads (b c : Bank) : Type 0 where
  pub bank : c.bank_held ≡ b.bank_held
  pub pads : c.pads_held ≡ b.pads_held
  pub levels : c.current ≡ b.current

same_pads : (b : Bank) → SamePads b b
same_pads b = record { bank = refl; pads = refl; levels = refl }

any_same : (offset : ℕ) (write : Option ℕ) (b : Bank) → SamePads b (bank.after_any offset write b)
any_same offset write b = keeps (SamePads b) bank.bank_rows offset write b (same_pads b) (search rules)

effect_same : (offset : ℕ) (write : Option ℕ) (b : Bank) → SamePads b (bank.effect_of offset write b)
effect_same offset write b =
    either-way (SamePads b) (bank.is_word offset) (either-way (SamePads b) (bank.is_held offset b) (same_pads b) (any_same offset write b)) (same_pads b)

-- the bits of RESETS, and what SIO puts out
pub record SameCopies (o p : State) : Type 0 where
  pub bank : p.pads.bank_held ≡ o.pads.bank_held
  pub pads : p.pads.pads_held ≡ o.pads.pads_held
  pub blocks : held_blocks p ≡ held_blocks o
  pub sio : p.sio ≡ o.sio

-- the levels of the pads as well
pub record Leaves (o p : State) : Type 0 where
  pub copies : SameCopies o p
  pub levels : p.pads.current ≡ o.pads.current

same : (o : State) → Leaves o o
same o = record { copies = record { bank = refl; pads = refl; blocks = refl; sio = refl }; levels = refl }

with_pads : (o : State) (b : Bank) → SamePads o.pads b → Leaves o (record o { pads = b })
with_pads o b h = record { copies = record { bank = h.bank; pads = h.pads; blocks = refl; sio = refl }; levels = h.levels }

pub access_leaves : (b : Block) (offset : ℕ) (write : Option ℕ) (o : State) → Leaves o (outer_accessed b offset write o)
unfolding outer_accessed
access_leaves block.IoBank0 offset write o =
    with_pads o (bank_accessed offset write o.pads)
    (either-way (SamePads o.pads) (nat_lt offset PADS_BANK0) (effect_same offset write o.pads) (same_pads o.pads))
access_leaves block.PadsBank0 offset write o =
    with_pads o (bank.effect_of (PADS_BANK0 + offset) write o.pads) (effect_same (PADS_BANK0 + offset) write o.pads)
access_leaves other offset write o = record { copies = record { bank = refl; pads = refl; blocks = refl; sio = refl }; levels = refl }

pub device_leaves : (w : Setting) (address : ℕ) (write : Option ℕ) (o : State) → Leaves o (device_accessed w address write o)
unfolding device_accessed
device_leaves w address write o =
    either-way (Leaves o) (is_fitting w.device o.device)
    (record { copies = record { bank = refl; pads = refl; blocks = refl; sio = refl }; levels = refl }) (same o)

-- ---- RESETS

-- the pads take its bits, and keep their levels
pub pads_reset : (bank pads : Bool) (b : Bank)
    → ((after_held bank pads b).bank_held ≡ bank) × ((after_held bank pads b).pads_held ≡ pads) × ((after_held bank pads b).current ≡ b.current)
pads_reset true true b = (refl, refl, refl)
pads_reset true false b = (refl, refl, refl)
pads_reset false true b = (refl, refl, refl)
pads_reset false false b = (refl, refl, refl)

pub reset_levels : (w : ℕ) (o : State) → (outer_reset w o).pads.current ≡ o.pads.current
unfolding outer_reset
reset_levels w o = (pads_reset _ _ o.pads).2
