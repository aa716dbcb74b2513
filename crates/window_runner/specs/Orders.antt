-- Runs of windows by seats at a board, in any order of the seats and with any reports. The project's own.
use Rattle.std.specs.Prelude.{◌≡◌, ℕ, zero, suc, ◌+◌, ◌-◌, ◌*◌, ◌==◌, ◌^◌, ◌<◌, ◌≤◌, ◌⊎◌, ◌&&◌, Bool, false, nat_le, if◌then◌else◌, List, [], ◌∷◌, ◌++◌, Option, Some, None, is_none, length, replicate}
use Rattle.lane_look.specs.Alone.{least}
use Rattle.bus_fabric.specs.State.{has_hold}
use Rattle.rp_base.specs.declared.Why.{Why}
use Rattle.outer_lane.specs.Setting.{Setting}
use Rattle.rp_machine.specs.State.{State}
use Rattle.rp_machine.specs.Cycle.{stop}
use Rattle.rp_machine.specs.Run.{last_state, unless_stopped}
use Rattle.turn_board.specs.Tickets.{BoardState, times}
use Rattle.turn_board.specs.Tickets as board
use Rattle.turn_board.specs.Tickets.Event.{Draw as DrawOn, SeeOpen as SeeOpenOn, Finish as FinishOn, Open as OpenOn, Close as CloseOn, SeeDone as SeeDoneOn}
use Rattle.turn_board.specs.Rule.{fresh}
use Rattle.window_merge.specs.Window.{Position, first_position, is_tried, next_position, positions, last_position}
use Rattle.rp_machine.specs.Laws.{KnowsSio}
use Rattle.window_runner.specs.Reports.{OneReport, IsTrueOrNone, SixReports, AreTaken, AllCame, AreRunsAlone}
use Rattle.window_runner.specs.Merge.{merged, merged_length}

-- ---- where a run stands

-- the board; the position of the machine; how many windows were committed; and what came with each number that was finished
pub record RunState : Type 0 where
  pub board : BoardState
  pub position : Position
  pub commits : ℕ
  pub came : List (ℕ × Option OneReport)

-- a board on which nothing was drawn, with so many seats
abbrev pub new_board : ℕ → BoardState
new_board seats = record {
  ticket = 0;
  opened = 0;
  done = 0;
  closed = false;
  known = 0;
  polls = 0;
  seats = replicate seats fresh;
}

-- the run begins at a state that is not past the limit, whose lanes know what SIO holds, and that has a stop or no open hold
pub record Begins (w : Setting) (s : State) : Type 0 where
  pub within : s.cycle ≤ w.limit
  pub knows : KnowsSio s
  pub free : ((why : Why) × (stop w s ≡ Some why)) ⊎ (has_hold s.fabric ≡ false)

abbrev pub beginning : State → ℕ → RunState
beginning s seats =
    record { board = new_board seats; position = first_position s; commits = 0; came = [] }

-- ---- the events

-- those of the board, of which a finish may bring a report; the commit of the window that is open; and where none is open, so many
-- windows that do not go over the board
pub data Event : Type 0 where
  Draw : (seat : ℕ) → Event
  SeeOpen : (seat : ℕ) → Event
  Finish : (seat number : ℕ) → (found : Option OneReport) → Event
  Open : Event
  Close : Event
  SeeDone : Event
  Commit : Event
  Pass : (windows : ℕ) → Event

-- what comes with a number: what its finish brought
abbrev pub found_of : List (ℕ × Option OneReport) → ℕ → Option OneReport
found_of [] number = None
found_of (x ∷ came) number = if x.0 == number then x.1 else found_of came number

-- where each event may happen. A report is true or there is none; a window is opened where the machine has no stop and the
-- window before is committed, and it is committed once all of it is known to be finished. Windows are passed over where all that was
-- opened is known to be finished and is committed, and the board is not closed
abbrev pub IsLegal : Setting → RunState → Event → Type 0
IsLegal w r (Draw seat) = board.IsLegal r.board (DrawOn seat)
IsLegal w r (SeeOpen seat) = board.IsLegal r.board (SeeOpenOn seat)
IsLegal w r (Finish seat number found) =
    board.IsLegal r.board (FinishOn seat number) × IsTrueOrNone w found
IsLegal w r Open =
    board.IsLegal r.board OpenOn × (stop w r.position.state ≡ None)
    × (r.board.opened ≡ 6 * r.commits)
IsLegal w r Close = board.IsLegal r.board CloseOn
IsLegal w r SeeDone = board.IsLegal r.board SeeDoneOn
IsLegal w r Commit = (r.board.known ≡ r.board.opened) × (r.board.opened ≡ 6 * r.commits + 6)
IsLegal w r (Pass windows) =
    (r.board.known ≡ r.board.opened) × (r.board.opened ≡ 6 * r.commits) × (r.board.closed ≡ false)

-- ---- what each event does

-- on by single cycles to the next position at which a window is tried, or to a stop
unfoldable pub onward : Setting → Position → ℕ → Position
onward w p zero = p
onward w p (suc n) =
    unless_stopped (stop w p.state) p
    (if is_tried p.after_empty p.state then p else onward w (next_position w p) n)

abbrev pub next_tried : Setting → Position → Position
next_tried w p = onward w p (w.limit - p.state.cycle)

-- from a position over so many windows, each of which is tried, to the next position at which one is tried, or to a stop
abbrev pub GoesOver : Setting → Position → ℕ → Position → Type 0
GoesOver w p zero q = q ≡ p
GoesOver w p (suc n) q = (stop w p.state ≡ None) × GoesOver w (next_tried w (next_position w p)) n q

-- the position after a merge
abbrev pub by_merge : Setting → SixReports → Position → Position
by_merge w six p = record {
  state = merged w six p.state;
  windows = p.windows + 1;
  cycles = p.cycles + merged_length w six p.state;
  after_empty = merged_length w six p.state == 0;
}

-- the six reports that are taken are merged, and the run goes on: the lane of number 6 m + i is i
abbrev pub IsCommitOf : Setting → SixReports → RunState → RunState → Type 0
IsCommitOf w six r next =
    AreTaken w r.position.state (λ lane. found_of r.came (6 * r.commits + lane)) six
    × (next ≡ record r {
      position = next_tried w (by_merge w six r.position);
      commits = r.commits + 1;
    })

abbrev pub IsCommit : Setting → RunState → RunState → Type 0
IsCommit w r next = (six : SixReports) × IsCommitOf w six r next

abbrev pub on_board : board.Event → RunState → RunState
on_board event r = record r { board = board.after r.board event }

abbrev pub Happens : Setting → RunState → Event → RunState → Type 0
Happens w r (Draw seat) next = next ≡ on_board (DrawOn seat) r
Happens w r (SeeOpen seat) next = next ≡ on_board (SeeOpenOn seat) r
Happens w r (Finish seat number found) next =
    next ≡ record r {
      board = board.after r.board (FinishOn seat number);
      came = r.came ++ (number, found) ∷ [];
    }
Happens w r Open next = next ≡ on_board OpenOn r
Happens w r Close next = next ≡ on_board CloseOn r
Happens w r SeeDone next = next ≡ on_board SeeDoneOn r
Happens w r Commit next = IsCommit w r next
Happens w r (Pass windows) next =
    (q : Position) × GoesOver w r.position windows q × (next ≡ record r { position = q })

-- a legal list of events, from one state of a run to another
abbrev pub Goes : Setting → RunState → List Event → RunState → Type 0
Goes w r [] last = last ≡ r
Goes w r (event ∷ events) last =
    (next : RunState) × IsLegal w r event × Happens w r event next × Goes w next events last

-- ---- the state at which a window begins

-- the window of that number, counted from 0, is tried at the position
abbrev pub begins_window : Setting → ℕ → Position → Bool
begins_window w m p =
    is_none (stop w p.state) && (is_tried p.after_empty p.state && (p.windows == m))

-- the first of the run's positions at which it is tried; where none is, the state at which the run stops
unfoldable pub window_start : Setting → State → ℕ → State
window_start w s m =
    if nat_le (last_position w s).windows m then last_state w s
    else (positions w (first_position s)
    (least (λ k. begins_window w m (positions w (first_position s) k))
    (2 * (w.limit - s.cycle) + 1))).state

-- ---- the laws

-- the numbers that were finished, each with what came
abbrev pub numbers_in : List (ℕ × Option OneReport) → List ℕ
numbers_in [] = []
numbers_in (x ∷ came) = x.0 ∷ numbers_in came

-- where a window may be committed, each of its six numbers was finished once: what came with it is what that finish brought
abbrev pub EachCameOnce : Type 0
EachCameOnce =
    (w : Setting) (s : State) (seats : ℕ)
    → (events : List Event) (r : RunState) → Goes w (beginning s seats) events r
    → IsLegal w r Commit → (lane : ℕ) → lane < 6
    → times (6 * r.commits + lane) (numbers_in r.came) ≡ 1

-- how many windows a list commits
abbrev pub commits_in : List Event → ℕ
commits_in [] = 0
commits_in (Commit ∷ events) = 1 + commits_in events
commits_in (_ ∷ events) = commits_in events

-- how many it passes over
abbrev pub passed_in : List Event → ℕ
passed_in [] = 0
passed_in (Pass windows ∷ events) = windows + passed_in events
passed_in (_ ∷ events) = passed_in events

-- whatever the seats do in whatever order, whatever true reports come or do not come, and wherever windows are passed over: the machine
-- after m windows that were committed or passed over is the state at which the run tries its window m, counted from 0, or at which it
-- stops where it does not try that many
abbrev pub AnyOrder : Type 0
AnyOrder =
    (w : Setting) (s : State) (seats : ℕ) → Begins w s
    → (events : List Event) (r : RunState) → Goes w (beginning s seats) events r
    → r.position.state ≡ window_start w s (commits_in events + passed_in events)

-- where a window may be committed, it cannot be that this has no outcome
abbrev pub ACommitHasAnOutcome : Type 0
ACommitHasAnOutcome =
    (w : Setting) (r : RunState) → IsLegal w r Commit → ¬ ((next : RunState) → ¬ Happens w r Commit next)

-- an example: from each state that begins a run and has no stop, one seat alone can pass a window for which no report comes. Its commit
-- takes the six runs alone
abbrev pub AWindowPasses : Type 0
AWindowPasses =
    (w : Setting) (s : State) → Begins w s → stop w s ≡ None
    → (events : List Event) × (r : RunState) × (next : RunState) × (six : SixReports)
    × Goes w (beginning s 1) events r × IsLegal w r Commit × IsCommitOf w six r next × AreRunsAlone w s six

-- another, where the limit is a number of cycles and the peripherals have the words of the world's device: the seat brings six true
-- reports, and the commit takes these
abbrev pub SixReportsAreTaken : Type 0
SixReportsAreTaken =
    (w : Setting) (s : State) → Begins w s → stop w s ≡ None → w.limit < 2 ^ 64
    → length s.outer.device ≡ w.device.count
    → (events : List Event) × (r : RunState) × (next : RunState) × (six : SixReports)
    × Goes w (beginning s 1) events r × IsLegal w r Commit
    × AllCame w r.position.state (λ lane. found_of r.came (6 * r.commits + lane)) six
    × IsCommitOf w six r next
