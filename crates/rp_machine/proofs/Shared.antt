-- What the proofs of this crate name of others and of the specifications.
pub use Rattle.bus_fabric.proofs.Alone.{nobody-after}
pub use Rattle.bus_fabric.specs.State.{has_hold}
pub use Rattle.lane_look.proofs.Answers.{runs_answered}
pub use Rattle.lane_look.specs.Asking.{Asking, answered}
pub use Rattle.lane_look.specs.Asking.Asking.{Question, Ready}
pub use Rattle.lane_look.specs.declared.lane.Ask.{Ask}
pub use Rattle.lane_look.specs.declared.lane.Turn.{Turn}
pub use Rattle.lane_look.specs.declared.lane.Want.{Want}
pub use Rattle.lane_look.specs.declared.marks.Mark.{Mark}
pub use Rattle.m0_core.specs.declared.doing.Doing.{Doing}
pub use Rattle.outer_lane.proofs.Accesses.{SameCopies, access_leaves, device_leaves, outer_open, pads_reset, some-read}
pub use Rattle.outer_lane.specs.Quiet.{IsQuiet, is_lasting_read, outer_after, seen_in}
pub use Rattle.outer_lane.specs.Setting.{Setting, setting_of}
pub use Rattle.outer_lane.specs.Words.{outer_accessed, outer_allowed, outer_word, own_word}
pub use Rattle.outer_lane.specs.declared.world.SeenOutputs.{SeenOutputs}
pub use Rattle.pio_block.proofs.Between.{a_quiet_block_shows_the_same, block_none}
pub use Rattle.rp_base.proofs.Rows.{keeps, listed}
pub use Rattle.rp_base.specs.Map.{place_of}
pub use Rattle.rp_base.specs.Resettable.{with_block}
pub use Rattle.rp_base.specs.Word.{bit_number, has_bit}
pub use Rattle.rp_base.specs.declared.Master.{Master}
pub use Rattle.rp_base.specs.declared.Request.{Request}
pub use Rattle.rp_base.specs.declared.Why.{Why}
pub use Rattle.rp_base.specs.declared.map.Block.{Block}
pub use Rattle.rp_base.specs.declared.map.Spot.{Spot}
pub use Rattle.rp_base.specs.declared.op.Op.{Op}
pub use Rattle.rp_base.specs.declared.resettable.Resettable.{Resettable}
pub use Rattle.rp_machine.specs.Alone.{AreBlocksQuiet, Blocks, IsCore0Alone, IsCore1Quiet, beside, blocks_after, core1_after, granted_alone, is_first_alone, stepped_alone, with_blocks, with_grant, with_store}
unfoldable pub use Rattle.rp_machine.specs.Alone.{alone_next, first_next}
pub use Rattle.rp_machine.specs.Answers.{answer_of}
unfoldable pub use Rattle.rp_machine.specs.Answers.{block_lines, lines_of, outs_of}
pub use Rattle.rp_machine.specs.Boot.{AreLoads, block_loaded, with_load, with_loads, words_loaded}
unfoldable pub use Rattle.rp_machine.specs.Boot.{start}
pub use Rattle.rp_machine.specs.Cycle.{after_master, after_masters, all_stored, first_cause, found_by, launched_where, pins_of, sio_accessed, started_by, stored, turn_for, wanted_by, with_event, with_grants}
unfoldable pub use Rattle.rp_machine.specs.Cycle.{after_deed, after_deeds, after_launcher, asked, begun, cause_in, deeds, ended, granted, mark, next, next_by, stepped, stop, turns, wanted, with_sio, with_turns}
pub use Rattle.rp_machine.specs.Deeds.{accessed_at, input_of, is_done_at, is_open, opens, stored_at, told_at, turn_at}
unfoldable pub use Rattle.rp_machine.specs.Deeds.{asked_of, cause_of, deed_of, turn_of, word_for}
unfoldable pub use Rattle.rp_machine.specs.Events.{events, events_of}
pub use Rattle.rp_machine.specs.Inward.{AgreeWithSio, Core0GoesOnAlone, GoesAlone, GoesOn, GoesOnward, StaysInward, TellsSame, core0_stepped, core0_want, goes_inward, inward_cycle, inward_deed, inward_turn, is_inward, is_lasting, is_peripheral, is_theirs, lasts_at, onward_after, read_at, read_there, with_beside}
unfoldable pub use Rattle.rp_machine.specs.Inward.{inward_after, inward_next, inward_wantless}
pub use Rattle.rp_machine.specs.Laws.{AreOneRun, EffectsComeAfterTheSteps, KnowsSio, RunsFollowEachOther, SioIsKnown, SramChangesByTheWritesAlone, core_alone, deeds_in, is_dma, is_for, is_for_outer, is_outer, is_pio0, is_pio1, outer_alone, reaches, word_after, word_with}
pub use Rattle.rp_machine.specs.Loading.{bytes_with, with_part, word_at, zeros}
pub use Rattle.rp_machine.specs.Registers.{plain_write, resets_rows}
unfoldable pub use Rattle.rp_machine.specs.Registers.{part_word}
pub use Rattle.rp_machine.specs.Registers.Part.{Dma, Fabric, Outer, Pio0, Pio1, Resets}
unfoldable pub use Rattle.rp_machine.specs.Run.{all_events, events_in, last_state, states}
pub use Rattle.rp_machine.specs.State.{State}
unfoldable pub use Rattle.rp_machine.specs.State.{first_state}
pub use Rattle.rp_machine.specs.Wantless.{CyclesWithoutWantsChangeTheLanesAlone, is_nothing, is_wantless, no_turns, wants_nothing}
unfoldable pub use Rattle.rp_machine.specs.Wantless.{core1_launched, wantless_next}
pub use Rattle.rp_machine.specs.contracts.machine.Machine.{the_view}
pub use Rattle.rp_machine.specs.declared.begun.Begun.{Begun}
pub use Rattle.rp_machine.specs.declared.deed.Deed.{Deed}
pub use Rattle.rp_machine.specs.declared.wanted.Wanted.{Wanted}
pub use Rattle.sio_block.specs.Launcher.{after_turn, launch_of, offers_of}
pub use Rattle.sio_block.specs.declared.Launch.{Launch}
pub use Rattle.std.proofs.Common.{Bool, List, [], add-one, ap, arith, drop, drop-cons, get_or, length, map, not, refl, rules, subst, sym, take, true, vec_len, zero-add, ℕ, ◌&&◌, ◌++◌, ◌+◌, ◌-◌, ◌<◌, ◌^◌, ◌∙◌, ◌∷◌, ◌≡◌, ◌≤◌}
pub use Rattle.std.proofs.lemmas.Bool.Decides.{eqb_tells, nat_tests}
pub use Rattle.std.specs.List.{list_all, list_any, range_with_len}
pub use Rattle.std.specs.Prelude.{is_none, slice_index, slice_index_or, slice_set, unwrap_or}
