-- The board of tickets as plain data. Workers draw numbers, wait until their number is open, hold its lane, and finish it. A master opens six numbers at a time, the next six once the last six are finished.
use Rattle.std.specs.Prelude.{◌≡◌, ℕ, zero, suc, ◌+◌, ◌%◌, ◌^◌, ◌<◌, ◌≤◌, Bool, true, false, ◌&&◌, ◌||◌, ◌==◌, nat_lt, if◌then◌else◌, List, [], ◌∷◌, ◌++◌, length}
use mathlib.Core.Option.{some}
use lib.ListN.{get_elem?}

-- f of each element, added up
abbrev pub total : {A : Type 0} → (A → ℕ) → List A → ℕ
total f [] = 0
total f (x ∷ xs) = f x + total f xs

-- how often the number stands in the list
abbrev pub times : ℕ → List ℕ → ℕ
times n [] = 0
times n (x ∷ xs) = (if x == n then 1 else 0) + times n xs

-- What one worker's seat has done: the numbers that it drew and those that it finished, how many numbers were open when it looked last, how often it looked, whether it holds the lane of its number, and whether the board was closed when it looked last.
pub record SeatState : Type 0 where
  pub drawn : List ℕ
  pub finished : List ℕ
  pub seen : ℕ
  pub loads : ℕ
  pub holding : Bool
  pub shut : Bool

-- The next number to draw, how many numbers are open, how many are finished, whether the board is closed, how many finished ones the master knows of, how often it looked, and the seats.
pub record BoardState : Type 0 where
  pub ticket : ℕ
  pub opened : ℕ
  pub done : ℕ
  pub closed : Bool
  pub known : ℕ
  pub polls : ℕ
  pub seats : List SeatState

-- What the master of a board has done.
pub record MasterState : Type 0 where
  pub opened : ℕ
  pub closed : Bool
  pub known : ℕ
  pub polls : ℕ

abbrev pub master_of : BoardState → MasterState
master_of b = record { opened = b.opened; closed = b.closed; known = b.known; polls = b.polls }

-- the seat drew the number and has not finished it
abbrev pub IsUnfinished : SeatState → ℕ → Type 0
IsUnfinished s n = (0 < times n s.drawn) × (times n s.finished ≡ 0)

-- the seat has no number that it drew and has not finished
abbrev pub IsFree : SeatState → Type 0
IsFree s = (n : ℕ) → ¬ IsUnfinished s n

-- where so many numbers are open, this is true of a seat
pub record GoodSeat (opened : ℕ) (s : SeatState) : Type 0 where
  -- the finished numbers are among the drawn ones, each once
  pub finished_drawn : (n : ℕ) → times n s.finished ≤ times n s.drawn
  pub finished_once : (n : ℕ) → times n s.finished ≤ 1
  -- at most one drawn number is not finished
  pub one_unfinished : (m n : ℕ) → IsUnfinished s m → IsUnfinished s n → m ≡ n
  -- the seat has seen each number that it finished open, and no number that was not
  pub finished_seen : (n : ℕ) → 0 < times n s.finished → n < s.seen
  pub seen_opened : s.seen ≤ opened
  -- a seat that is holding has an unfinished number that it has seen open
  pub holding_due : s.holding ≡ true → (n : ℕ) × IsUnfinished s n × (n < s.seen)

pub record Good (b : BoardState) : Type 0 where
  -- the drawn numbers of all seats are distinct, and are the numbers below `ticket`
  pub drawn_once : (n : ℕ) → total (λ s. times n s.drawn) b.seats ≡ (if nat_lt n b.ticket then 1 else 0)
  pub each_seat : (i : ℕ) (s : SeatState) → get_elem? b.seats i ≡ some s → GoodSeat b.opened s
  -- `done` counts the finished numbers, and the master knows of no more
  pub done_finished : b.done ≡ total (λ s. length s.finished) b.seats
  pub known_done : b.known ≤ b.done
  pub by_sixes : b.opened % 6 ≡ 0
  pub opened_fits : b.opened ≤ 2 ^ 62
  -- each open number but for the last six is finished
  pub earlier_finished : (n : ℕ) → n + 6 < b.opened → 0 < total (λ s. times n s.finished) b.seats

-- a seat is named by its index in the list
pub data Event : Type 0 where
  Draw : ℕ → Event
  SeeOpen : ℕ → Event
  Finish : ℕ → ℕ → Event
  Open : Event
  Close : Event
  SeeDone : Event

-- some drawn number that is not finished is below the limit
abbrev pub is_due : List ℕ → List ℕ → ℕ → Bool
is_due [] finished limit = false
is_due (n ∷ ns) finished limit = (nat_lt n limit && (times n finished == 0)) || is_due ns finished limit

abbrev pub drew : ℕ → SeatState → SeatState
drew n s = record s { drawn = s.drawn ++ n ∷ [] }

-- a seat that looks holds its lane from then on where it has an unfinished number that is open
abbrev pub saw : ℕ → Bool → SeatState → SeatState
saw opened closed s = record s { seen = opened; loads = s.loads + 1; holding = s.holding || is_due s.drawn s.finished opened; shut = closed }

abbrev pub did : ℕ → SeatState → SeatState
did n s = record s { finished = s.finished ++ n ∷ []; holding = false }

-- the list, with f of the element at the index
abbrev pub change : {A : Type 0} → (A → A) → ℕ → List A → List A
change f i [] = []
change f zero (x ∷ xs) = f x ∷ xs
change f (suc i) (x ∷ xs) = x ∷ change f i xs

-- what may happen: a seat draws where it has no unfinished number, and finishes its number where it is holding; the master opens six more where it knows that all are finished and the board is not closed
abbrev pub IsLegal : BoardState → Event → Type 0
IsLegal b (Draw i) = (s : SeatState) × (get_elem? b.seats i ≡ some s) × IsFree s
IsLegal b (SeeOpen i) = (s : SeatState) × (get_elem? b.seats i ≡ some s)
IsLegal b (Finish i n) = (s : SeatState) × (get_elem? b.seats i ≡ some s) × IsUnfinished s n × (s.holding ≡ true)
IsLegal b Open = (b.known ≡ b.opened) × (b.closed ≡ false) × (b.opened + 6 ≤ 2 ^ 62)
IsLegal b Close = Unit {0}
IsLegal b SeeDone = Unit {0}

-- the board after an event
abbrev pub after : BoardState → Event → BoardState
after b (Draw i) = record b { ticket = b.ticket + 1; seats = change (drew b.ticket) i b.seats }
after b (SeeOpen i) = record b { seats = change (saw b.opened b.closed) i b.seats }
after b (Finish i n) = record b { done = b.done + 1; seats = change (did n) i b.seats }
after b Open = record b { opened = b.opened + 6 }
after b Close = record b { closed = true }
after b SeeDone = record b { known = b.done; polls = b.polls + 1 }
