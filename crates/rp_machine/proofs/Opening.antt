-- An access to a word of a PIO block by its plain addresses, or of the peripherals, is open exactly where the block allows it: it
-- allows none where it has no word.
use Rattle.rp_machine.proofs.Shared.{Bool, Outer, Pio0, Pio1, Request, Resettable, SeenOutputs, Setting, ap, not, opens, outer_allowed, outer_open, outer_word, plain_write, refl, some-read, ℕ, ◌&&◌, ◌∙◌, ◌≡◌}
use Rattle.std.specs.Prelude.{Option, Some, None, is_some}
use Rattle.rp_base.specs.Access.{word_written}
use Rattle.rp_base.specs.Held.{unless_held}
use Rattle.rp_base.specs.declared.map.Block.{Block as Place}
use Rattle.pio_block.specs.State.{State as Block}
use Rattle.pio_block.specs.Words.{pio_rows, is_word, is_allowed, sets_left_out, word_of}
use Rattle.outer_lane.specs.State.{State as OuterState}

same_write : (r : Request) (write : Option ℕ) (word : ℕ) → word_written r.size write ≡ plain_write r write 0 word
same_write r None word = refl
same_write r (Some value) word = refl

-- the block is either of the two
abbrev Opens : Request → ℕ → Option ℕ → Type 0
Opens r offset word =
    (is_allowed offset (word_written r.size r.write) ≡ opens Pio0 r offset 0 word) × (is_allowed offset (word_written r.size r.write) ≡ opens Pio1 r offset 0 word)

open_by : (r : Request) (offset : ℕ) (word : Option ℕ) → is_word offset ≡ is_some word → Opens r offset word
unfolding is_allowed
open_by r offset (Some word) e = (ap (is_allowed offset) (same_write r r.write word), ap (is_allowed offset) (same_write r r.write word))
open_by r offset None e =
    let none = ap (λ (c : Bool). c && not (sets_left_out offset (word_written r.size r.write))) e in
    (none, none)

pub plainly_open : (r : Request) (offset : ℕ) (b : Resettable Block) → Opens r offset (unless_held b.held (word_of offset b.block))
unfolding word_of is_word
plainly_open r offset b = open_by r offset (unless_held b.held (word_of offset b.block)) (some-read pio_rows b.held offset tt b.block)

opens-some : (r : Request) (b : Place) (offset alias : ℕ) (word : Option ℕ) → is_some word ≡ opens (Outer b) r offset alias word
opens-some r b offset alias None = refl
opens-some r b offset alias (Some word) = refl

-- an access to the peripherals is open exactly where they have the word
pub opens_outer : (w : Setting) (seen : SeenOutputs) (r : Request) (b : Place) (offset alias : ℕ) (o : OuterState)
    → outer_allowed b offset ≡ opens (Outer b) r offset alias (outer_word b offset w seen o)
opens_outer w seen r b offset alias o = outer_open w seen b offset o ∙ opens-some r b offset alias (outer_word b offset w seen o)
