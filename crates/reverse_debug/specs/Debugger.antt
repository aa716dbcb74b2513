-- The debugger as a talk about lines: it stands at a cycle. The project's own.
use Rattle.std.specs.Prelude.{ℕ, Bool, List}
use Rattle.outer_lane.specs.Setting.{Setting}
use Rattle.rp_machine.specs.State.{State}
use Rattle.snap_ring.specs.Ring.{spacing_of}
use Rattle.reverse_debug.specs.Command.{is_quit, command_of}
use Rattle.reverse_debug.specs.Reply.{heard, cost}
use Rattle.reverse_debug.specs.Session.{Standing, first_of}
use Rattle.reverse_debug.specs.Talk.{Talk}

-- the line that ends a session
abbrev pub quits : List ℕ → Bool
quits line = is_quit (command_of line)

-- a session from the first state of a run
abbrev pub talk_of : Setting → State → Talk
talk_of w first = record {
  reply = λ cycle line. (heard w first cycle line).reply;
  next = λ cycle line. (heard w first cycle line).cycle;
  cost = λ cycle line. cost w first (spacing_of w.limit) cycle line;
  last = quits;
}

-- what is said to a session, over the run of its first state
abbrev pub talk_with : Setting → Standing → Talk
talk_with w session = talk_of w (first_of session)
