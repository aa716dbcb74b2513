use Rattle.std.proofs.Common.{◌≡◌, ◌*◌, false}
use Rattle.run_tests.specs.declared.numbers.TheConstants.{LIMIT}
use Rattle.run_tests.proofs.turn_board_tests.lead.Given as goal

abbrev pub invariant-loop-window : goal.invariant-loop-window
invariant-loop-window g l = (l.master.board ≡ l.board) × (l.master.made_for ≡ LIMIT) × (l.master.state.opened ≡ 6 * l.window) × (l.master.state.known ≡ 6 * l.window) × (l.master.state.closed ≡ false)
