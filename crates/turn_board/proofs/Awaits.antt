-- What stays the same while a call waits.
use Rattle.std.proofs.Common.{◌≡◌, ◌<◌, ◌≤◌}
use Rattle.turn_board.specs.Shown.{SeatView, MasterView}
use Rattle.turn_board.specs.Answers.{SlotsStay}

-- a seat that has looked in vain
pub record Unmoved {J R W : Type 0} (s t : SeatView J R W) : Type 0 where
  pub board : t.board ≡ s.board
  pub made_for : t.made_for ≡ s.made_for
  pub drawn : t.state.drawn ≡ s.state.drawn
  pub finished : t.state.finished ≡ s.state.finished
  pub loads : s.state.loads ≤ t.state.loads
  pub seen : s.state.seen ≤ t.state.seen
  pub holding : t.state.holding ≡ s.state.holding
  pub slots : SlotsStay s t

-- a master that has looked in vain
pub record Waiting {W : Type 0} (m n : MasterView W) : Type 0 where
  pub board : n.board ≡ m.board
  pub made_for : n.made_for ≡ m.made_for
  pub opened : n.state.opened ≡ m.state.opened
  pub closed : n.state.closed ≡ m.state.closed
  pub polls : m.state.polls ≤ n.state.polls
  pub told : m.state.known ≤ n.state.known
  pub known : n.state.known < n.state.opened
