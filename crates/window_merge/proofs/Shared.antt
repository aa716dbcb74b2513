-- What the proofs of this crate name of others and of the specifications.
pub use Rattle.bus_fabric.specs.State.{has_hold}
pub use Rattle.dma_engine.specs.declared.begun.BegunTransfer.{BegunTransfer}
pub use Rattle.lane_look.proofs.Least.{is_least}
pub use Rattle.lane_look.specs.Alone.{Alone, Surroundings, begun_alone, differs, ends_want, ends_wants, first_from}
unfoldable pub use Rattle.lane_look.specs.Alone.{alone, alone_length, asked_in, ends_at, least, wanted_in}
pub use Rattle.lane_look.specs.Asking.{Asking, answered}
pub use Rattle.lane_look.specs.Asking.Asking.{Question, Ready}
pub use Rattle.lane_look.specs.Replay.{Meaning, meaning, turn_alone}
pub use Rattle.lane_look.specs.Truth.{IsTrue, replay_of}
pub use Rattle.lane_look.specs.declared.lane.Ask.{Ask}
pub use Rattle.lane_look.specs.declared.lane.Ask.TheVariants.{Half, Lines}
pub use Rattle.lane_look.specs.declared.lane.Turn.{Turn}
pub use Rattle.lane_look.specs.declared.lane.Want.{Want}
pub use Rattle.lane_look.specs.declared.marks.Mark.{Mark}
pub use Rattle.lane_look.specs.declared.replay.Report.{Report}
pub use Rattle.m0_beats.specs.declared.timing.Beat.{Beat}
pub use Rattle.m0_core.specs.declared.doing.Act.{Act}
pub use Rattle.m0_core.specs.declared.doing.Doing.{Doing}
pub use Rattle.m0_core.specs.declared.doing.Work.{Work}
pub use Rattle.outer_lane.specs.Setting.{Setting, setting, setting_of}
pub use Rattle.outer_lane.specs.declared.world.SeenOutputs.{SeenOutputs}
pub use Rattle.quiet_run.proofs.Passing.{fewer, fewer_parts}
pub use Rattle.quiet_run.specs.Parts.{ArePartsQuiet, MayGoAlone, passed}
pub use Rattle.ram_banks.specs.Lanes.{with_lanes}
pub use Rattle.rp_base.specs.Map.{Range, place_by, ranges}
unfoldable pub use Rattle.rp_base.specs.Map.{place_of}
pub use Rattle.rp_base.specs.declared.Master.{Master}
pub use Rattle.rp_base.specs.declared.Master.TheVariants.{Core0, Core1, DmaRead, DmaWrite}
pub use Rattle.rp_base.specs.declared.Request.{Request}
pub use Rattle.rp_base.specs.declared.Why.{Why}
pub use Rattle.rp_base.specs.declared.map.Spot.{Spot}
pub use Rattle.rp_machine.proofs.Inward.{HasGone, alone_by, answered_same, begun_same, beside_after, core0_goes_on_alone, has_gone_none, has_gone_on, lines_on, lines_stay, outs_on, pacing_on, stayed, stays_after, tell_on, told_both}
pub use Rattle.rp_machine.proofs.Joining.{runs_follow}
pub use Rattle.rp_machine.proofs.Quietly.{seen_later, seen_number}
pub use Rattle.rp_machine.proofs.Runs.{next_cycle, states_here}
pub use Rattle.rp_machine.specs.Alone.{AreBlocksQuiet, Blocks, IsCore0Alone, IsCore1Quiet, beside, blocks_after, core1_after, is_first_alone}
pub use Rattle.rp_machine.specs.Answers.{answer_of, packed_pair}
unfoldable pub use Rattle.rp_machine.specs.Answers.{block_lines, inputs_of, lines_of, outs_of, pacing_of}
pub use Rattle.rp_machine.specs.Copies.{CopiesAgree}
pub use Rattle.rp_machine.specs.Cycle.{pins_of, stored}
unfoldable pub use Rattle.rp_machine.specs.Cycle.{begun, mark, wanted}
pub use Rattle.rp_machine.specs.Deeds.{asked_at, cause_by, port_at, stored_at}
unfoldable pub use Rattle.rp_machine.specs.Deeds.{asked_of, cause_of, deed_of, turn_of}
pub use Rattle.rp_machine.specs.Laws.{KnowsSio}
pub use Rattle.rp_machine.specs.Run.{last_state, unless_stopped}
unfoldable pub use Rattle.rp_machine.specs.Run.{states}
pub use Rattle.rp_machine.specs.declared.begun.Begun.{Begun}
pub use Rattle.rp_machine.specs.declared.deed.Deed.{Deed}
pub use Rattle.rp_machine.specs.declared.wanted.Wanted.{Wanted}
pub use Rattle.sio_block.specs.Launcher.{offers_of}
pub use Rattle.std.proofs.Common.{Bool, List, None, Option, Some, [], ap, arith, drop, false, if◌then◌else◌, map, nat_eq, not, refl, subst, suc, sym, true, zero, ℕ, ◌%◌, ◌&&◌, ◌*◌, ◌++◌, ◌+◌, ◌-◌, ◌/◌, ◌<◌, ◌==◌, ◌^◌, ◌||◌, ◌∙◌, ◌∷◌, ◌≡◌}
pub use Rattle.std.proofs.Math.Bool.{and-false, and-true, not-not, or-true}
pub use Rattle.std.proofs.Math.Seq.{take-append_seam, take-suc}
pub use Rattle.std.proofs.lemmas.Bool.{and_from, and_parts, cases_lt, eq-eqb, eqb-false, eqb-true, le-leb, leb-true, ne_eqb, not-false, not-true, or_cases, or_left, or_parts}
pub use Rattle.std.proofs.lemmas.Bool.Decides.{eqb_tells, leb_tells, not_from_Decides}
pub use Rattle.std.proofs.lemmas.List.{append_cancel_left, get_or-set_other, get_or-set_same, length-set, take-append-le}
pub use Rattle.std.proofs.lemmas.Option.{slice_get_past, slice_get_within}
pub use Rattle.std.specs.Bool.{Decides}
pub use Rattle.std.specs.Prelude.{is_some, slice_index}
pub use Rattle.window_merge.specs.Accept.{IsStranger, OtherAnswerAt, log_of, talk_alone}
pub use Rattle.window_merge.specs.Around.{copied, copied_store, copies_of}
pub use Rattle.window_merge.specs.Inward.{GoesAsAlone, GoneOver, IsWindow, KeepsInward, noted_core0}
unfoldable pub use Rattle.window_merge.specs.Inward.{noted_in, noted_inward, same_marks}
pub use Rattle.window_merge.specs.Jobs.{IsAlone, IsAloneBy, IsJobOf, Ran, RanIn, longest_by}
pub use Rattle.window_merge.specs.Judged.{DifferAt, IsFirstOther, IsUnlike, IsUnlikeBy, Judges}
pub use Rattle.window_merge.specs.Kinds.{asks_sram}
pub use Rattle.window_merge.specs.Lanes.{around, core1_bound, core_lane, dma_lane, is_launching, peripheral_lane, pio_lane, runs_of, stored_by}
pub use Rattle.window_merge.specs.Merging.{AreRunsAlone, IsRunAlone, begun_by, differs_by, end_at, fits, left_by, logs_of, wants_of}
unfoldable pub use Rattle.window_merge.specs.Merging.{marks_in}
pub use Rattle.window_merge.specs.Notes.{HasRoom, first_of, is_clean, last_of, no_notes, noted_by, seen_of, write_of}
pub use Rattle.window_merge.specs.Patch.{sram_after}
unfoldable pub use Rattle.window_merge.specs.Patch.{patched}
pub use Rattle.window_merge.specs.Questions.{asking_lane, questions, questions_of}
pub use Rattle.window_merge.specs.Start.{begun_from, differs_from, goes_by, goes_on}
pub use Rattle.window_merge.specs.Window.{Position, by_window, clash, clash_in, differs_in, ends_in, first_position, is_port_of, last_position, longest, share_port}
unfoldable pub use Rattle.window_merge.specs.Window.{closes, next_position, positions, window_length}
pub use Rattle.window_merge.specs.declared.copies.Copies.{Copies}
pub use Rattle.window_merge.specs.declared.lane_run.LaneRun.{LaneRun}
pub use Rattle.window_merge.specs.declared.notes.Notes.{Notes}
pub use Rattle.window_merge.specs.declared.questions.Questions.{Questions}
pub use Rattle.window_merge.specs.declared.start.Start.{Start}
pub use Rattle.window_merge.specs.declared.walk.Walker.{Walker}
