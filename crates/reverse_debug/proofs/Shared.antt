-- What the proofs of this crate name of others and of the specifications.
pub use Rattle.arrayvec.specs.ArrayVec.{array_vec_len}
pub use Rattle.m0_core.specs.Begins.{begins}
pub use Rattle.outer_lane.specs.Setting.{Setting, setting_of}
pub use Rattle.reverse_debug.specs.Advance.{Advances, Approaches, NoneEnds, Path, SeesAs}
pub use Rattle.reverse_debug.specs.Command.{Command, addresses, is_quit, is_ram, words}
unfoldable pub use Rattle.reverse_debug.specs.Command.{are_words, command_by, command_of}
pub use Rattle.reverse_debug.specs.Command.Command.{Back, Bad, Before, Goto, Quit, Step, Until}
pub use Rattle.reverse_debug.specs.Debugger.{talk_of, talk_with}
pub use Rattle.reverse_debug.specs.Lines.{all_lines, closes, complete_from, complete_lines, open_from, open_line, unless_empty, until, without_cr}
pub use Rattle.reverse_debug.specs.NextLine.{Ahead, Fills, HasNoEnd, Passes, Reads, behind, given_bytes}
pub use Rattle.reverse_debug.specs.Reading.{Fits, meant, sought}
pub use Rattle.reverse_debug.specs.Reply.{Said, answer, at_last, at_or_last, at_or_start, at_reply, behind_next, command_cost, ends_by, fewer, happens_by, is_begun, last_cycle, move_cost, pio_words, said, search_cost, seen, word_at}
unfoldable pub use Rattle.reverse_debug.specs.Reply.{before_nth, behind_nth, cost, ends, happens, heard, moved_back, moved_to}
pub use Rattle.reverse_debug.specs.Session.{AreOf, Does, FindsNear, Goes, GoesOn, IsAlong, IsIn, IsNearBy, Keeps, Lands, Misses, Moves, OpensAt, Seeks, Spends, Standing, Stands, StandsFor, StaysFor, all_kept, first_in, first_of, next_place}
pub use Rattle.reverse_debug.specs.Talk.{Hears, Talk, cost_from, cycle_after, text_from}
pub use Rattle.reverse_debug.specs.Way.{AnswersLines, IsAfterLine, Replies, RepliesTo, Taking}
pub use Rattle.reverse_debug.specs.declared.search.Tally.{Tally}
pub use Rattle.rp_base.specs.Alias.{or_zero}
unfoldable pub use Rattle.rp_base.specs.Map.{place_of}
pub use Rattle.rp_base.specs.Word.{has_bit}
pub use Rattle.rp_base.specs.declared.Why.{Why}
pub use Rattle.rp_machine.proofs.Runs.{below_limit, next_cycle, states_here, states_on}
pub use Rattle.rp_machine.specs.Cycle.{next, stop}
pub use Rattle.rp_machine.specs.Quiet.{IsQuiet}
pub use Rattle.rp_machine.specs.Run.{unless_stopped}
unfoldable pub use Rattle.rp_machine.specs.Run.{last_state, states}
pub use Rattle.rp_machine.specs.State.{State}
pub use Rattle.rp_ports.specs.Source.{Consumes}
pub use Rattle.snap_ring.proofs.Faithful.{keeping_is_faithful}
pub use Rattle.snap_ring.proofs.Nearest.{kept_both, kept_first, kept_only, kept_second}
pub use Rattle.snap_ring.specs.Ring.{IsGreatest, IsNearest, Snapshots, is_due, is_kept, is_within, kept_with, near_spacing, restarted, restored, spacing_of, state_at}
pub use Rattle.std.proofs.Common.{Bool, Err, IfOk, IfSome, List, None, Ok, OnOk, Option, Result, Some, [], add-one, ap, append_assoc, arith, cond, drop, false, flat_map, if◌then◌else◌, inl, inr, length, length-append, max, min, nat_le, nat_lt, not, refl, subst, suc, sym, take, true, zero, ℕ, ◌%◌, ◌&&◌, ◌*◌, ◌++◌, ◌+◌, ◌-◌, ◌/◌, ◌<◌, ◌==◌, ◌^◌, ◌||◌, ◌∙◌, ◌∷◌, ◌≡◌, ◌≤◌, ◌⊎◌}
pub use Rattle.std.proofs.Math.Nat.{div-add-mod, mod-eq_of_lt, mod-le, mod-lt, mul-add-mod_self_left, zero-mod}
pub use Rattle.std.proofs.lemmas.Bool.{and_from, and_parts, cases_Bool, cases_lt, eq-eqb, eqb-true, le-leb, leb-true, lt-ltb, ltb-true, or_cases, or_parts, or_right, true≢false}
pub use Rattle.std.proofs.lemmas.Bool.Decides.{nat_tests}
pub use Rattle.std.proofs.lemmas.List.{drop-drop, length-take, take_all, take_rest}
pub use Rattle.std.specs.List.{list_all, list_any, position, position_or_len, range_with_len}
pub use Rattle.std.specs.Prelude.{codes, slice_index}
pub use Rattle.std.specs.Str.Lines.{strip_carriage_return}
pub use Rattle.trace_text.proofs.Sending.{rose_later, sends_part, sends_then}
pub use Rattle.trace_text.specs.Line.{hex_word, level_digit, spaced_word, stop_text}
pub use Rattle.trace_text.specs.Sent.{Sends}
pub use Rattle.trace_text.specs.declared.writer.SinkFault.{SinkFault}
