-- What the proofs of this crate name of others and of the specifications.
pub use Rattle.core_laws.specs.ExceptionLaws.{AFaultPendsHardFaultAlone, AWfiMovesOnWhereAnExceptionWakes, Faults, IsInWfi, LeavesWfi, OnlyPendsHardFault, StaysInWfi, WhatIsTakenIsTheLeast, candidates, comes_in}
pub use Rattle.core_laws.specs.Handlers.{AReturnGivesBackWhatAnEntryFound, AReturnTakesItsBeats, AllDone, AnEntryTakesItsBeats, AreThere, BeginsReturn, HandlerBegins, HasFrame, HasRoom, IsBack, IsGivenBack, IsThere, KeepsTheRest, Stays, Takes, after_leaving, ends_in, entry_beats, last_lines, left_of, lines_of, want_in, wants_through, written}
pub use Rattle.core_laws.specs.Laws.{AnAccessLastsUntilItIsDone, AnInstructionTakesItsBeats, Given, GoesOn, IsAtBoundary, IsEncoded, IsFetched, IsInProgress, IsOver, IsPlain, LastsOn, accessing, after_cycle, begun_in, changed_by, event_in, exceptions_in, half_at, is_access, is_refused, is_refused_at, is_stop, lines_in, read_at, read_in, reads_in, touched_at, touched_by, turn_of, want_at, want_of_beat, wanted_in, wants_in, word_at}
pub use Rattle.core_laws.specs.Sound.{ACoreStaysSound, Agrees, AreRegisters, FrameFits, IsFormed, IsUnderWay, KeepsSound, active_before}
pub use Rattle.core_laws.specs.Waiting.{AnInstructionTakesItsBeatsAndWaits, GoesOnServed, Served, after_all_served, after_served, event_served, exceptions_served, is_over, left_after, reads_served, turn_served, wait_of, wants_of_beats, wants_served}
pub use Rattle.lane_look.specs.Asking.Asking.{Question, Ready}
pub use Rattle.lane_look.specs.Asking.{Asking, answered}
pub use Rattle.lane_look.specs.declared.lane.Ask.TheVariants.{Half, Lines, Word}
pub use Rattle.lane_look.specs.declared.lane.Ask.{Ask}
pub use Rattle.lane_look.specs.declared.lane.Want.{Want}
pub use Rattle.m0_beats.specs.Beats.{access, accesses, pop_end}
unfoldable pub use Rattle.m0_beats.specs.Beats.{registers_of}
pub use Rattle.m0_beats.specs.Conditions.{condition_holds, is_exception_return}
unfoldable pub use Rattle.m0_beats.specs.Instructions.{beats_of, effect_of, return_of}
pub use Rattle.m0_beats.specs.Registers.{is_thread, moved_on, register_of, sp_of, with_pc, with_register, with_sp, xpsr_of}
pub use Rattle.m0_beats.specs.declared.registers.Regs.{Regs}
pub use Rattle.m0_beats.specs.declared.timing.Beat.TheVariants.{Access, Inner}
pub use Rattle.m0_beats.specs.declared.timing.Beat.{Beat}
pub use Rattle.m0_core.proofs.Carrying.{begun_from}
pub use Rattle.m0_core.specs.Cycle.{after, after_access, after_outward, called, done_word, followed, is_idle, is_paused, is_paused_op, returning, signals, value_of, waiting, want_of, want_of_act, with_read, with_value}
unfoldable pub use Rattle.m0_core.specs.Cycle.{after_inner, after_private, closed, ended, faulted, next, passed, passed_entry, passed_instruction, passed_return}
unfoldable pub use Rattle.m0_core.specs.Entry.{entry_beat, entry_ended, taken_first}
pub use Rattle.m0_core.specs.Entry.{entry_frame, link_of, stacked, stacked_xpsr, stacking, vector_address, with_entry}
unfoldable pub use Rattle.m0_core.specs.Fetch.{asks, asks_awake, asks_beat, asks_boundary, asks_decoded, asks_first, asks_return, asks_second, beat_of, carried, is_locked, is_ram, taken_of}
pub use Rattle.m0_core.specs.Fetch.{asks_fault, asks_half, asks_next, asks_taken, asks_work, at_spot, beat_of_work, ends_with, in_beat, in_ram, is_faulty, is_ram_spot, locks_last, stopped}
pub use Rattle.m0_core.specs.Kinds.{awaits_event, awaits_interrupt, is_breakpoint, is_call, is_signal}
pub use Rattle.m0_core.specs.Private.{accessed, private_value}
unfoldable pub use Rattle.m0_core.specs.Return.{after_return, is_alone, is_bad, return_beat, return_ended, with_return}
pub use Rattle.m0_core.specs.Return.{is_misfit, is_to_handler, is_to_process, is_to_thread, return_frame, stack_after, stacked_number, unstacking, with_five, with_frame}
pub use Rattle.m0_core.specs.State.{State}
pub use Rattle.m0_core.specs.declared.doing.Act.{Act}
pub use Rattle.m0_core.specs.declared.doing.Doing.{Doing}
pub use Rattle.m0_core.specs.declared.doing.Work.{Work}
pub use Rattle.m0_nvic.specs.Changes.{entered, left, pended, with_pending, without_pending}
pub use Rattle.m0_nvic.specs.Exceptions.{HARDFAULT, SVCALL}
pub use Rattle.m0_nvic.specs.Laws.{after_cycles}
pub use Rattle.m0_nvic.specs.Numbers.{is_member, is_number, members, minus, numbers_from, of_interrupts}
pub use Rattle.m0_nvic.specs.Priority.{IsLeast, active_priority, best_of, comes_before, least, nearer, precedes, priority_of, rank_of, rank_or_none, wakes_of}
unfoldable pub use Rattle.m0_nvic.specs.Priority.{least_of}
pub use Rattle.m0_nvic.specs.State.{State as Exceptions}
pub use Rattle.m0_nvic.specs.Words.{cleared_if, is_allowed, pended_if}
pub use Rattle.rp_base.specs.Access.{lanes_of, master_of, word_written}
pub use Rattle.rp_base.specs.Map.{place_of}
pub use Rattle.rp_base.specs.Word.{bit_number, has_bit}
pub use Rattle.rp_base.specs.declared.Request.{Request}
pub use Rattle.rp_base.specs.declared.Why.{Why}
pub use Rattle.rp_base.specs.declared.map.Spot.{Spot}
pub use Rattle.rp_base.specs.declared.op.Op.{Op}
pub use Rattle.std.proofs.Math.Bool.{and-false, and-true, and_self_left}
pub use Rattle.std.proofs.Math.Pow.{pow-lt}
pub use Rattle.std.proofs.lemmas.Bool.Decides.{nat_tests}
pub use Rattle.std.proofs.lemmas.Bool.{and_parts, both_ways, cases_Bool, cases_eq, cases_lt, cond_both, eqb-true, false_from_ne_true, ltb-true, ne_eqb, not-false, or_parts}
pub use Rattle.std.proofs.lemmas.List.{drop_all, get_or-set_other, get_or-set_same, length-set, length-take-le, take_all, take_more}
pub use Rattle.std.proofs.lemmas.Nat.Bits.{and_pow, bit_at-lt, bit_at-pow_other, bit_at-pow_same, bit_at-zero, bit_at_and, bit_at_or, same_from_bits_below}
pub use Rattle.std.proofs.lemmas.Nat.{and-not, and_comm, and_le_l, or_disjoint, or_lt, or_mod}
pub use Rattle.std.specs.Int.{bit_at, int_min}
pub use Rattle.std.specs.List.{list_any}
pub use Rattle.std.specs.Prelude.{None, Option, Some, bit_and, bit_or, drop, filter, int_lt, map, max, min, nat_lt, option_to_list, slice_get, slice_index, slice_set, take, unwrap_or, ◌%◌, ◌^◌}
pub use Rattle.thumb_rows.specs.Rows.{begins_long, operation_of}
