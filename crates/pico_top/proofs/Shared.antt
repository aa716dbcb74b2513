-- What the proofs of this crate name of others and of the specifications.
pub use Rattle.board_parts.specs.Hearing.{Aim}
pub use Rattle.board_parts.specs.Wiring.{Wired, counts_of, placed_by, wired_in}
pub use Rattle.command_words.proofs.Fitting.{read_parts_fit}
pub use Rattle.command_words.specs.Read.{entry_in}
pub use Rattle.command_words.specs.Refusals.{Refusal, refused_line, status_of}
pub use Rattle.command_words.specs.Refusals.Refusal.{BadImage, BadScript, BadSource, BadStart, BadThumb, BadWords, Lost, TooLarge}
pub use Rattle.command_words.specs.Words.{Subcommand, Run}
pub use Rattle.command_words.specs.Words.Subcommand.{Assemble, AssembleThumb, DebugImage, Disassemble, Generate, RunImage}
pub use Rattle.command_words.specs.declared.reading.PioEntry.{PioEntry}
pub use Rattle.lane_look.specs.Device.{DeviceMeaning, paired}
pub use Rattle.outer_lane.specs.Setting.{Setting, setting_of}
pub use Rattle.pico_top.specs.Answer.{Converses, ConversesFor, ConversesIn, Counts, Ends, IsCounted, Puts, RunsOut, Takes, Writes, memory_line, sent_status, AfterLoad, Ending, IsHeard, Verdict, Walks, failed_names, heard_as, on_held, status_over, verdict}
pub use Rattle.pico_top.specs.Dialogue.{Board, asked_by, Drawn, Outside, Sunk, board, Dialogue, Reply, Use, aims_in, beside, device_in, dialogue_from, dialogue_of, hear, hear_run, input_limit, judge, plain, run_reply, say, say_run, session_reply, source_limit, with_first, with_linked, with_program, with_programs, with_run, with_script}
pub use Rattle.pico_top.specs.Dialogue.Dialogue.{Hear, Load, Refuse, Say}
pub use Rattle.pico_top.specs.Opening.{ArePlaced, Boots, Concludes, EndsAs, EndsUnopened, Judges, Leads, Places, PutsRefusal, opened_dialogue, taken_by, use_for}
pub use Rattle.pico_top.specs.Answer.Ending.{Heard, NoMemory, Refused, Said}
pub use Rattle.pico_top.specs.Answer.Verdict.{Hears, Refuses, Says}
pub use Rattle.pico_top.specs.declared.outcome.Opened.{Opened}
pub use Rattle.pico_top.specs.declared.outcome.Unopened.{Unopened}
pub use Rattle.pico_top.specs.declared.outcome.Unopened.TheVariants.{Memory, Refusing}
pub use Rattle.pin_script.specs.Script.{script_of}
pub use Rattle.pio_asm.specs.Listing.{listing, plans_of}
pub use Rattle.reverse_debug.specs.Debugger.{quits, talk_of}
pub use Rattle.reverse_debug.specs.Hearing.{BearsOut, IsTaken, MayEnd, lines_heard, way_line, way_status}
pub use Rattle.reverse_debug.specs.Lines.{closes}
pub use Rattle.reverse_debug.specs.Session.{OpensAt, Standing, first_of}
pub use Rattle.reverse_debug.specs.declared.way.Way.{Way}
pub use Rattle.reverse_debug.specs.declared.way.Way.TheVariants.{Broken, Closed, Ended, Full}
pub use Rattle.rp_machine.specs.State.{State}
pub use Rattle.rp_machine.specs.declared.load.PioLoad.{PioLoad}
pub use Rattle.rp_ports.specs.Shelf.{Answers, Files}
pub use Rattle.rp_ports.specs.Sink.{Appends}
pub use Rattle.rp_ports.specs.declared.shelf.Loaded.TheVariants.{Done, Failed, Large}
pub use Rattle.std.proofs.Common.{Bool, Err, Global, IfErr, IfOk, IfSome, IsErrAnd, IsSomeAnd, List, None, Ok, Option, Result, Some, Vec, [], ap, ap₂, arith, drop, false, get_or, if◌then◌else◌, inl, inr, length, length-append, map, nat_le, not, refl, rules, subst, suc, sym, take, true, zero, ℕ, ◌&&◌, ◌++◌, ◌+◌, ◌-◌, ◌<◌, ◌==◌, ◌∙◌, ◌∷◌, ◌≡◌, ◌≤◌, ◌⊎◌}
pub use Rattle.std.proofs.lemmas.List.{append-nil, at_drop_all, at_drop_more, take_at}
pub use Rattle.std.proofs.lemmas.Result.{err_from_is_err_and}
pub use Rattle.thumb_asm.specs.Source.{image_of_source}
pub use Rattle.trace_text.proofs.Sending.{SentTo, part_behind, part_of_longer, sends_cut, sends_part, sends_then, sent_on, sent_part}
pub use Rattle.trace_text.specs.declared.writer.SinkFault.{SinkFault}
pub use Rattle.uf2_image.specs.Uf2.{image_of}
pub use Rattle.uf2_image.specs.declared.parts.Image.{Image}
