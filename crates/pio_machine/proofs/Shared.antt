-- What the proofs of this crate name of others and of the specifications.
pub use Rattle.pio_machine.specs.Bits.{counted, entered, remaining, taken}
pub use Rattle.pio_machine.specs.Cycle.{advanced, after_op, after_word, divided, passed, ticks, word_of, worked, written_by_word}
unfoldable pub use Rattle.pio_machine.specs.Cycle.{after_cycle, after_try, word_tried, written_by_try, written_in_cycle}
pub use Rattle.pio_machine.specs.Ending.{Ending}
pub use Rattle.pio_machine.specs.Ending.Ending.{Completed, Executes, Jumped, Stalled}
pub use Rattle.pio_machine.specs.Fields.{autopull, divider, is_rx_full, out_base, out_count, out_right, pull_threshold, push_threshold, rx_depth, set_base, set_count, side_base, side_enable, side_pindir, tx_depth}
pub use Rattle.pio_machine.specs.Flags.{after_irq, cleared_by, flag_of, is_high, is_met, waits_for_clear, with_clear, with_set}
pub use Rattle.pio_machine.specs.Input.{in_value, is_autopush_due, shifted_in, shifted_once}
unfoldable pub use Rattle.pio_machine.specs.Input.{try_in}
pub use Rattle.pio_machine.specs.Jump.{after_jmp, is_taken}
pub use Rattle.pio_machine.specs.Move.{ending_of_mov, mov_value, with_moved, written_by_mov}
pub use Rattle.pio_machine.specs.Operation.{delay_of, has_side, is_osr, loads_osr, next_address, side_pins, side_value, stepped, stepped_past, tried, with_autopull, with_delay, written}
unfoldable pub use Rattle.pio_machine.specs.Operation.{ended, with_side}
pub use Rattle.pio_machine.specs.Output.{after_set, ending_of_out, out_done, out_pins, out_stalls, out_value, shifted_out, starved, with_out, written_by_set}
unfoldable pub use Rattle.pio_machine.specs.Output.{try_out, written_by_out}
pub use Rattle.pio_machine.specs.Pins.{overlaid, pins_from, with_enables, with_levels}
pub use Rattle.pio_machine.specs.Progress.{kept_in, progress_in, progress_of, untried, with_raised, with_shifted}
pub use Rattle.pio_machine.specs.Queue.{Try, completed, is_pull_void, is_push_void, is_spent, loaded, loaded_from, pulled_from, pushed, stalled, try_push_now, with_isr_cleared, with_rx_stall}
unfoldable pub use Rattle.pio_machine.specs.Queue.{refilled, try_pull, try_push}
pub use Rattle.pio_machine.specs.Ready.{settings_of}
pub use Rattle.pio_machine.specs.Start.{nothing_done}
pub use Rattle.pio_machine.specs.declared.machine.Done.{Done}
pub use Rattle.pio_machine.specs.declared.machine.Machine1.{Machine1}
pub use Rattle.pio_machine.specs.declared.machine.Progress.{Progress}
pub use Rattle.pio_machine.specs.declared.machine.Seen.{Seen}
pub use Rattle.pio_machine.specs.declared.machine.Waiting.{Waiting}
pub use Rattle.pio_words.specs.Operation.{operation_of}
pub use Rattle.pio_words.specs.declared.op.InSource.{InSource}
pub use Rattle.pio_words.specs.declared.op.IrqIndex.{IrqIndex}
pub use Rattle.pio_words.specs.declared.op.MovDestination.{MovDestination}
pub use Rattle.pio_words.specs.declared.op.OutDestination.{OutDestination}
pub use Rattle.pio_words.specs.declared.op.PioOp.{PioOp}
pub use Rattle.pio_words.specs.declared.op.PioOp.TheVariants.{In, Irq, Jmp, Mov, Out, Pull, Push, Set, Wait}
pub use Rattle.pio_words.specs.declared.op.SetDestination.{SetDestination}
pub use Rattle.pio_words.specs.declared.op.WaitSource.{WaitSource}
pub use Rattle.rp_base.proofs.Exact.{IsExact, both, flags, numbers, options, pairs, parts, told, whole}
pub use Rattle.rp_base.proofs.Rows.{either-way}
pub use Rattle.rp_base.specs.Word.{has_bit}
pub use Rattle.std.proofs.Common.{Bool, List, None, Option, Some, [], add_comm, ap, arith, bit_and, bit_or, false, if◌then◌else◌, length, length-append, map, max, min, nat_le, nat_lt, not, refl, replicate, subst, suc, sym, true, true≢false, zero, ℕ, ◌%◌, ◌&&◌, ◌*◌, ◌++◌, ◌+◌, ◌-◌, ◌/◌, ◌<◌, ◌==◌, ◌^◌, ◌∙◌, ◌∷◌, ◌≡◌, ◌≤◌}
pub use Rattle.std.proofs.Math.Nat.{add-mul, div-div-eq-div-mul, div-le_self, lt_of_mul-lt-mul_left, mod-lt, mul-div-le, mul-div_cancel, mul_comm, one-mul, pow-le-pow_right, sub-zero, zero-add, zero-div}
pub use Rattle.std.proofs.lemmas.Bool.{and_parts, cond_both, ltb-false, ltb-true}
pub use Rattle.std.proofs.lemmas.Bool.Decides.{nat_tests}
pub use Rattle.std.proofs.lemmas.Grind.{common_steps, flat_map-append}
pub use Rattle.std.proofs.lemmas.List.{append-nil, append_assoc, get_or-map, map-set}
pub use Rattle.std.proofs.lemmas.Nat.{and_le_r, and_mask, div-mul-add, mod-mul-add, mod-pow-add, or_lt, pow-add, pow_pos}
pub use Rattle.std.proofs.lemmas.Nat.Bits.{bit_at-lt, bit_at_and, bit_at_not, bit_at_or, same_from_bits_below}
pub use Rattle.std.specs.Int.{bit_at, bit_not, rotate_left, w32}
