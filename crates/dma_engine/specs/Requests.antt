-- What paces a channel, by its data request, row by row (RP2040 Datasheet, 2.5.3.1, System DREQ Table, and 2.5.7, TREQ_SEL).
use Rattle.std.specs.Prelude.{ℕ, ◌+◌, ◌-◌, Bool, ◌&&◌, nat_lt, nat_le, if◌then◌else◌, List, [], ◌∷◌}

-- a transmitter's FIFO, whose count of free entries is at that index of the counts; a receiver's, whose count of words is there; a
-- pacing timer by its number; nothing, so that the channel is always ready; or a part that this machine does not have
pub data Pace : Type 0 where
  Sender : (index : ℕ) → Pace
  Receiver : (index : ℕ) → Pace
  Timer : (number : ℕ) → Pace
  Always : Pace
  Never : Pace

-- data requests that follow each other, and parts of one kind that do
pub record Row : Type 0 where
  pub first : ℕ
  pub count : ℕ
  pub paces : ℕ → Pace
  pub index : ℕ

abbrev pub row : ℕ → ℕ → (ℕ → Pace) → ℕ → Row
row first count paces index = record { first = first; count = count; paces = paces; index = index }

abbrev pub requests : List Row
requests =
    -- TX of PIO0 and RX of PIO0, TX of PIO1 and RX of PIO1, of four machines each
    row 0 4 Sender 0
    ∷ row 4 4 Receiver 4
    ∷ row 8 4 Sender 8
    ∷ row 12 4 Receiver 12
    -- TX and RX of UART0, TX and RX of UART1, whose counts stand behind the sixteen of the PIO blocks
    ∷ row 20 1 Sender 16
    ∷ row 21 1 Receiver 17
    ∷ row 22 1 Sender 18
    ∷ row 23 1 Receiver 19
    -- TIMER0 to TIMER3, and a permanent request
    ∷ row 0x3B 4 Timer 0
    ∷ row 0x3F 1 (λ n. Always) 0
    ∷ []

abbrev pub has_request : Row → ℕ → Bool
has_request r treq = nat_le r.first treq && nat_lt treq (r.first + r.count)

abbrev pub pace_in : List Row → ℕ → Pace
pace_in [] treq = Never
pace_in (r ∷ rs) treq = if has_request r treq then r.paces (r.index + (treq - r.first)) else pace_in rs treq

abbrev pub pace_of : ℕ → Pace
pace_of treq = pace_in requests treq
