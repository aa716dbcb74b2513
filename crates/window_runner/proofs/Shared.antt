-- What the proofs of this crate name of others and of the specifications.
pub use Rattle.bus_fabric.specs.State.{has_hold}
pub use Rattle.lane_look.specs.Alone.{Alone, all_stored, begun_alone, differs, ends_at, least}
unfoldable pub use Rattle.lane_look.specs.Alone.{alone, alone_length}
pub use Rattle.lane_look.specs.Asking.{Asking, answered}
pub use Rattle.lane_look.specs.Replay.{Entry, Meaning, after_begun, asked, first_answer, left, others, talk, told}
unfoldable pub use Rattle.lane_look.specs.Replay.{replayed}
pub use Rattle.lane_look.specs.Truth.{IsTrue, replay_of}
pub use Rattle.lane_look.specs.declared.lane.Ask.{Ask}
pub use Rattle.lane_look.specs.declared.marks.Mark.{Mark}
pub use Rattle.lane_look.specs.declared.replay.Report.{Report}
pub use Rattle.outer_lane.specs.Setting.{Setting, setting_of}
pub use Rattle.rp_base.specs.declared.Why.{Why}
pub use Rattle.rp_machine.proofs.Joining.{join, runs_follow}
pub use Rattle.rp_machine.proofs.Runs.{below_limit, events_here, events_more, events_none, events_on, last_here, next_cycle, states_here, states_on}
pub use Rattle.rp_machine.specs.Answers.{answer_of}
pub use Rattle.rp_machine.specs.Cycle.{begun, stop, wanted}
unfoldable pub use Rattle.rp_machine.specs.Cycle.{after_deeds, ended, mark, next, next_by, stepped, with_sio, with_turns}
pub use Rattle.rp_machine.specs.Events.{changes_of}
unfoldable pub use Rattle.rp_machine.specs.Events.{events, events_of}
pub use Rattle.rp_machine.specs.Laws.{KnowsSio, deeds_in}
pub use Rattle.rp_machine.specs.Quiet.{IsQuiet}
pub use Rattle.rp_machine.specs.Run.{unless_stopped}
unfoldable pub use Rattle.rp_machine.specs.Run.{all_events, events_in, last_state, states}
pub use Rattle.rp_machine.specs.State.{State}
pub use Rattle.std.proofs.Common.{Bool, Err, IfNone, List, None, Ok, OnErr, OnOk, Option, Result, Some, [], add-one, ap, append_assoc, arith, below_more, bit_xor, drop, false, get_or, if◌then◌else◌, inl, inr, is_none, is_some, length, length-append, map, nat_eq, nat_le, not, refl, replicate, slice_get, subst, suc, sym, true, w32, zero, ℕ, ◌&&◌, ◌*◌, ◌++◌, ◌+◌, ◌-◌, ◌/◌, ◌<◌, ◌==◌, ◌^◌, ◌||◌, ◌∙◌, ◌∷◌, ◌≡◌, ◌≢◌, ◌≤◌, ◌⊎◌}
pub use Rattle.std.proofs.lemmas.Bool.{eq-eqb, eqb-true, le-leb, lt-leb, ne_eqb, not-false, not-true, or_parts}
pub use Rattle.std.proofs.lemmas.Bool.Decides.{eqb_tells, leb_tells}
pub use Rattle.std.proofs.lemmas.List.{append-nil, append_cancel_left, append_cancel_right, drop_all, drop_more}
pub use Rattle.trace_text.specs.Tape.{FailsAmong, Tells}
pub use Rattle.trace_text.specs.declared.writer.SinkFault.{SinkFault}
pub use Rattle.turn_board.specs.Rule.{fresh}
pub use Rattle.turn_board.specs.Tickets.{Good, IsFree, IsUnfinished, SeatState, change, did, drew, saw, times, total}
pub use Rattle.window_merge.proofs.Meeting.{least_meets}
pub use Rattle.window_merge.proofs.Positions.{along_states, left_of, moves_on, nearer, not_empty, run_ends}
pub use Rattle.window_merge.proofs.WaitingCycles.{no_window}
pub use Rattle.window_merge.proofs.Windows.{Stands, Tries, at_most, ends_full, ends_run, ends_tried, on_of, one_more, stands_first, stands_next}
pub use Rattle.window_merge.specs.Lanes.{around, core1_bound, core_lane, dma_lane, is_launching, peripheral_lane, pio_lane, runs_of}
pub use Rattle.window_merge.specs.Merging.{IsRunAlone, begun_by, fits, left_by}
unfoldable pub use Rattle.window_merge.specs.Merging.{marks_in}
pub use Rattle.window_merge.specs.Window.{Position, by_window, ends_in, first_position, is_tried, last_position, longest}
unfoldable pub use Rattle.window_merge.specs.Window.{next_position, window_length}
pub use Rattle.window_runner.specs.Alone.{FailsWithin, IsOnRun, PassesTo, StepsTo, position_at, stop_in}
pub use Rattle.window_runner.specs.Course.{GoesOn, OnItsWay, TakenBefore}
pub use Rattle.window_runner.specs.Orders.Event.{Close, Commit, Draw, Finish, Open, Pass, SeeDone, SeeOpen}
pub use Rattle.window_runner.specs.Reports.{AllCame, AreRunsAlone, AreTaken, CameAccepted, IsAccepted, IsTaken, IsTrueOrNone, OneReport, SixReports, bound_under, core0_in, core1_in, dma_in, outer_in, pio0_in, pio1_in, talk_in}
unfoldable pub use Rattle.window_runner.specs.Reports.{overlaid}
pub use Rattle.window_runner.specs.Reports.OneReport.{OfCore0, OfCore1, OfDma, OfOuter, OfPio0, OfPio1}
pub use Rattle.window_runner.specs.Told.{events_by, run_shown, shown_as, step_events, window_events}
unfoldable pub use Rattle.window_runner.specs.Told.{all_shown, events_along}
pub use Rattle.window_runner.specs.declared.alone.Counts.{Counts}
