-- What the proofs of this crate name of others and of the specifications.
pub use Rattle.pio_asm.specs.Assembly.{ArePrograms, Assembles, IsFaultOf, IsProgram, Plan, assembled, lines_from, lines_of, nothing_built, plan_of, program_lines, program_plan, programs_from}
pub use Rattle.pio_asm.specs.Code.{AreWordsOf}
pub use Rattle.pio_asm.specs.Fits.{FitsOptionalSide, FitsPlainSide, FitsSide, IsInRange, IsWaitInRange}
pub use Rattle.pio_asm.specs.Kept.{AllValued, AreKept, AreWordsIfKept, StandsIfKept, is_kept}
pub use Rattle.pio_asm.specs.Listing.{listing, plans_in, program_text, word_line}
unfoldable pub use Rattle.pio_asm.specs.Listing.{plans_of}
pub use Rattle.pio_asm.specs.Operand.{field_by, field_in, field_with, modifier_by, modifier_in, modifier_with, number_within, polarity_in}
pub use Rattle.pio_asm.specs.Plan.{IsConfig, IsOptionalConfig, StandsFor, config_of, delay_bits, delay_modifier_in, greatest, instruction_in, judged_of, member_of, operation_in, planned_by, side_modifier_in, side_value_of, sure_op, waited_for}
pub use Rattle.pio_asm.specs.Step.{checked, definition_value, fitting, instruction_verdict, is_label_twice, is_member, is_origin_fault, is_seen, label_value, line_step, misfits, names_of, statement_step, with_definition, with_label, with_name, word_member}
pub use Rattle.pio_asm.specs.Symbols.{Names}
pub use Rattle.pio_asm.specs.Value.{after_binary, after_unary, binary_step, bounded, bounded_option, evaluated, evaluation_of, is_in_bounds, name_step, number_step, one_operand, operator_step, outcome_of, rest_of, reversed_bits, term_step, top_of, two_operands, unary_step, value_in, with_result}
pub use Rattle.pio_asm.specs.Whole.{AreWhole, IsWhole}
pub use Rattle.pio_asm.specs.declared.building.Building.{Building}
pub use Rattle.pio_asm.specs.declared.operand.Field.{Field}
pub use Rattle.pio_asm.specs.declared.operand.Modifier.{Modifier}
pub use Rattle.pio_asm.specs.declared.plan.Member.{Member}
pub use Rattle.pio_asm.specs.declared.plan.Member.TheVariants.{Coded, Lost, Word as WordMember}
pub use Rattle.pio_asm.specs.declared.value.Evaluated.{Evaluated}
pub use Rattle.pio_asm.specs.declared.value.Evaluation.{Evaluation}
pub use Rattle.pio_disasm.specs.Text.{delay_text, hex_half, index_text, instruction_text, is_from_y, is_plain, is_to_y, is_written, line_text, operation_text, side_text, source_text, wait_source_text, word_text}
pub use Rattle.pio_parse.proofs.PieceLines.{AreLines, header, joined_lines, program_parses, source_of_lines, stays}
pub use Rattle.pio_parse.proofs.Pieces.{AreApart, IsRun, Piece, chars_of, ends_word, joined, token_at, tokens_of}
pub use Rattle.pio_parse.proofs.Pieces.Piece.{Bang, Blank, Close, Colons, Comma, Minus, NotEqual, Open, Run}
pub use Rattle.pio_parse.proofs.Readers.{one_answer, reader}
pub use Rattle.pio_parse.proofs.Tests.{both, neither, not_true}
pub use Rattle.pio_parse.specs.Files.{EarlyFault, IsFault, IsSource}
pub use Rattle.pio_parse.specs.Words.{directive_name, keyword_name, number_of, word_kind}
pub use Rattle.pio_parse.specs.declared.expression.Operator.{Operator}
pub use Rattle.pio_parse.specs.declared.expression.Operator.TheVariants.{Add, Multiply, Negate, Reverse as ReverseOperator, Subtract}
pub use Rattle.pio_parse.specs.declared.expression.Term.{Term}
pub use Rattle.pio_parse.specs.declared.expression.Term.TheVariants.{Name, Number, Operator as OperatorTerm}
pub use Rattle.pio_parse.specs.declared.fault.PioFault.{PioFault}
pub use Rattle.pio_parse.specs.declared.fault.PioFault.TheVariants.{Char, Delay, Memory, NoRoom, Origin as OriginFault, Range, Side, Syntax, TooLong, Twice, Unknown, Wrap as WrapFault}
pub use Rattle.pio_parse.specs.declared.syntax.Instruction.{Instruction}
pub use Rattle.pio_parse.specs.declared.syntax.Line.{Line}
pub use Rattle.pio_parse.specs.declared.syntax.Operation.{Operation}
pub use Rattle.pio_parse.specs.declared.syntax.Operation.TheVariants.{In as InSyntax, Irq as IrqSyntax, Jmp as JmpSyntax, Mov as MovSyntax, Out as OutSyntax, Pull as PullSyntax, Push as PushSyntax, Set as SetSyntax, WaitGpio, WaitIrq, WaitPin}
pub use Rattle.pio_parse.specs.declared.syntax.Source.{Source}
pub use Rattle.pio_parse.specs.declared.syntax.SourceProgram.{SourceProgram}
pub use Rattle.pio_parse.specs.declared.syntax.Statement.{Statement}
pub use Rattle.pio_parse.specs.declared.syntax.Statement.TheVariants.{Define, Instruction as InstructionStatement, Origin, Program as ProgramStatement, SideSet as SideSetStatement, Word as WordStatement, Wrap, WrapTarget}
pub use Rattle.pio_parse.specs.declared.token.Directive.TheVariants.{SideSet, Word as WordDirective}
pub use Rattle.pio_parse.specs.declared.token.Keyword.{Keyword}
pub use Rattle.pio_parse.specs.declared.token.Keyword.TheVariants.{Block as KBlock, Clear as KClear, Exec as KExec, Gpio as KGpio, IfEmpty as KIfEmpty, IfFull as KIfFull, In as KIn, Irq as KIrq, Isr as KIsr, Jmp as KJmp, Mov as KMov, NoBlock as KNoBlock, NoWait as KNoWait, Nop as KNop, Null as KNull, Opt as KOpt, Osr as KOsr, Osre as KOsre, Out as KOut, Pc as KPc, Pin as KPin, Pindirs as KPindirs, Pins as KPins, Pull as KPull, Push as KPush, Rel as KRel, Set as KSet, Side as KSide, Status as KStatus, Wait as KWait, X as KX, Y as KY, Public}
pub use Rattle.pio_parse.specs.declared.token.TokenKind.TheVariants.{Directive as DirectiveToken, Keyword as KeywordToken, LineEnd, Number as NumberToken}
pub use Rattle.pio_program.specs.declared.program.Program.{Program}
pub use Rattle.pio_words.proofs.Scaled.{high-lt, joined as joined_parts, low-lt, power_le, scaled-lt}
pub use Rattle.pio_words.specs.InSource.{in_sources}
pub use Rattle.pio_words.specs.JmpCondition.{conditions}
pub use Rattle.pio_words.specs.MovDestination.{mov_destinations}
pub use Rattle.pio_words.specs.MovOperation.{mov_operations}
pub use Rattle.pio_words.specs.MovSource.{mov_sources}
pub use Rattle.pio_words.specs.Operation.{HasFields, HasOperation, IsCount, IsIrqIndex, IsWaitSource, bit, count_at, irq_at, irq_index_at, named_at, operation_of, or_reserved, push_pull_at, wait_source_at}
pub use Rattle.pio_words.specs.OutDestination.{out_destinations}
pub use Rattle.pio_words.specs.SetDestination.{set_destinations}
pub use Rattle.pio_words.specs.Side.{IsOptionalSide, IsPlainSide, IsSideField, optional_side_at, plain_side_at, scaled_side, side_at}
pub use Rattle.pio_words.specs.Table.{entry}
pub use Rattle.pio_words.specs.declared.op.InSource.{InSource}
pub use Rattle.pio_words.specs.declared.op.InSource.TheVariants.{Isr as InIsr, Null as InNull, Osr as InOsr, Pins as InPins, X as InX, Y as InY}
pub use Rattle.pio_words.specs.declared.op.IrqIndex.{IrqIndex}
pub use Rattle.pio_words.specs.declared.op.JmpCondition.{JmpCondition}
pub use Rattle.pio_words.specs.declared.op.JmpCondition.TheVariants.{Always, OsrNotEmpty, Pin as PinHigh, XDecrement, XNotY, XZero, YDecrement, YZero}
pub use Rattle.pio_words.specs.declared.op.MovDestination.{MovDestination}
pub use Rattle.pio_words.specs.declared.op.MovDestination.TheVariants.{Exec as ToExec, Isr as ToIsr, Osr as ToOsr, Pc as ToPc, Pins as ToPins, X as ToX, Y as ToY}
pub use Rattle.pio_words.specs.declared.op.MovOperation.{MovOperation}
pub use Rattle.pio_words.specs.declared.op.MovOperation.TheVariants.{Invert, Plain, Reverse}
pub use Rattle.pio_words.specs.declared.op.MovSource.{MovSource}
pub use Rattle.pio_words.specs.declared.op.MovSource.TheVariants.{Isr as FromIsr, Null as FromNull, Osr as FromOsr, Pins as FromPins, Status as FromStatus, X as FromX, Y as FromY}
pub use Rattle.pio_words.specs.declared.op.OutDestination.{OutDestination}
pub use Rattle.pio_words.specs.declared.op.OutDestination.TheVariants.{Exec as OutExec, Isr as OutIsr, Null as OutNull, Pc as OutPc, Pindirs as OutPindirs, Pins as OutPins, X as OutX, Y as OutY}
pub use Rattle.pio_words.specs.declared.op.PioOp.{PioOp}
pub use Rattle.pio_words.specs.declared.op.PioOp.TheVariants.{In, Irq, Jmp, Mov, Out, Pull, Push, Reserved, Set, Wait}
pub use Rattle.pio_words.specs.declared.op.SetDestination.{SetDestination}
pub use Rattle.pio_words.specs.declared.op.SetDestination.TheVariants.{Pindirs as SetPindirs, Pins as SetPins, X as SetX, Y as SetY}
pub use Rattle.pio_words.specs.declared.op.WaitSource.{WaitSource}
pub use Rattle.pio_words.specs.declared.op.WaitSource.TheVariants.{Irq as Flag, Gpio, Pin}
pub use Rattle.pio_words.specs.declared.side.SideConfig.{SideConfig}
pub use Rattle.pio_words.specs.declared.side.SideDelay.{SideDelay}
pub use Rattle.rp_base.specs.Word.{bit_number}
pub use Rattle.source_text.specs.Outcome.{and_then, map_ok}
pub use Rattle.source_text.specs.Symbols.{found, put}
pub use Rattle.std.proofs.lemmas.Bool.{eq-eqb, le-leb}
pub use Rattle.std.proofs.lemmas.Bool.Decides.{eqb_tells, leb_tells, nat_tests}
pub use Rattle.std.proofs.lemmas.Int.{ints}
pub use Rattle.std.proofs.lemmas.List.{drop_all, length-map}
pub use Rattle.std.specs.Fmt.{decimal}
unfoldable pub use Rattle.std.specs.Fmt.{digits}
pub use Rattle.std.specs.Option.{SomeIff, option_map}
pub use Rattle.std.specs.Prelude.{All, Err, FitsSigned, IfOk, IsOkAnd, MatchResult, Ok, Result, flat_map, if◌then◌else◌, is_none, is_some, nat_le, nat_lt, negsuc, option_and_then, option_map as option_mapped, pos, unwrap_or, ⊤, ◌&&◌, ◌==◌, ◌⊎◌}
