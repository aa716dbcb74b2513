-- What the proofs of this crate name of others and of the specifications.
pub use Rattle.pio_parse.specs.Files.{AreLines, EarlyFault, FaultsAt, IsAnswer, IsFault, IsSource, IsSyntaxFaultAt, Reader}
pub use Rattle.pio_parse.specs.Files.EarlyFault.{CharAt, SyntaxAt}
pub use Rattle.pio_parse.specs.Grammar.{BeginsExpression, EndsProduct, EndsSum, Expr, IsExpression, IsOperand, IsProduct, IsSum, postfix}
pub use Rattle.pio_parse.specs.Grammar.Expr.{Difference, Name as NameTree, Negate, Number as NumberTree, Product, Reverse, Sum}
pub use Rattle.pio_parse.specs.Grammar.IsOperand.{name, negate, number, parentheses, reverse}
pub use Rattle.pio_parse.specs.Grammar.IsProduct.{operand, times}
pub use Rattle.pio_parse.specs.Grammar.IsSum.{minus as minus_sum, plus, product}
pub use Rattle.pio_parse.specs.GrammarLaws.{LineFaultsAtFirst, OneAnswer, OneMeaning, ParsesGrammar, ReadsLines, SyntaxFaultsAtFirst, is_line}
pub use Rattle.pio_parse.specs.Laws.{CharFaultsAtFirst, FaultsAtFirst, LexesExactly, ReadsOperands, ends_line}
pub use Rattle.pio_parse.specs.Lexical.{AreLexemes, IsCharFaultAt, IsLexed, IsLexeme, IsMisplaced, StopsAt, are_word_chars, begins_by, ends_badly, ends_line as ends_text_line, ends_word, first_chars, has_name, is_among, is_option, is_word, lacks, lacks_pair, tokens_at, word_at}
pub use Rattle.pio_parse.specs.Lexical.AreLexemes.{lexeme, nothing}
pub use Rattle.pio_parse.specs.Lexical.IsLexeme.{bang, carriage_return, close_bracket, close_parenthesis, code_block, colon, comma, comment, double_colon, line_end, minus, not_equal, open_bracket, open_parenthesis, option, plus as plus_lexeme, semicolon, slashes, space, star, tab, tilde, word}
pub use Rattle.pio_parse.specs.Lexical.IsMisplaced.{open_block, open_comment, other, percent, slash}
pub use Rattle.pio_parse.specs.Lexical.StopsAt.{after_lexeme, none_here}
pub use Rattle.pio_parse.specs.Lines.{BeginsLine, IsBlock, IsCondition, IsDecrement, IsDelay, IsIrqMode, IsJmpCondition, IsLabel, IsLastValue, IsLine, IsModifiers, IsMovOperation, IsOperation, IsPolarity, IsProgram, IsSetting, IsSide, IsStatement, IsValue, MayStand}
pub use Rattle.pio_parse.specs.Lines.IsBlock.{block, no_word, noblock}
pub use Rattle.pio_parse.specs.Lines.IsCondition.{osr_not_empty, pin, x_decrement, x_not_y, x_zero, y_decrement, y_zero}
pub use Rattle.pio_parse.specs.Lines.IsDelay.{delay, no_delay}
pub use Rattle.pio_parse.specs.Lines.IsIrqMode.{clear as clear_mode, no_mode, nowait, set as set_mode, wait as wait_mode}
pub use Rattle.pio_parse.specs.Lines.IsJmpCondition.{always, condition}
pub use Rattle.pio_parse.specs.Lines.IsLabel.{label, no_label}
pub use Rattle.pio_parse.specs.Lines.IsLastValue.{last_value}
pub use Rattle.pio_parse.specs.Lines.IsModifiers.{delay_first, side_first}
pub use Rattle.pio_parse.specs.Lines.IsMovOperation.{invert, plain, reverse as reverse_source, tilde as tilde_source}
pub use Rattle.pio_parse.specs.Lines.IsOperation.{in_, irq, jmp, mov, nop, out, pull, push, set, wait_gpio, wait_irq, wait_pin}
pub use Rattle.pio_parse.specs.Lines.IsPolarity.{no_polarity, polarity}
pub use Rattle.pio_parse.specs.Lines.IsProgram.{program as program_line}
pub use Rattle.pio_parse.specs.Lines.IsSetting.{define, lang_opt, pio_version}
pub use Rattle.pio_parse.specs.Lines.IsSide.{no_side, side}
pub use Rattle.pio_parse.specs.Lines.IsStatement.{instruction, nothing as nothing_said, origin, program, setting, side_set, word as word_statement, wrap, wrap_target}
pub use Rattle.pio_parse.specs.Lines.IsValue.{name as name_value, number as number_value, parentheses as parentheses_value}
pub use Rattle.pio_parse.specs.Lines.MayStand.{missing, stands}
pub use Rattle.pio_parse.specs.Programs.{before_by, gathered, token_lines, with_first}
pub use Rattle.pio_parse.specs.Registers.{in_source_of, mov_destination_of, mov_source_of, out_destination_of, set_destination_of}
pub use Rattle.pio_parse.specs.Tokens.{are_together, head_kind, head_position, is_end, is_program, name_at}
pub use Rattle.pio_parse.specs.Words.{number_of, number_to, word_kind}
pub use Rattle.pio_parse.specs.declared.expression.Operator.{Operator}
pub use Rattle.pio_parse.specs.declared.expression.Operator.TheVariants.{Add, Multiply, Negate as NegateOperator, Reverse as ReverseOperator, Subtract}
pub use Rattle.pio_parse.specs.declared.expression.Pending.{Pending}
pub use Rattle.pio_parse.specs.declared.expression.Pending.TheVariants.{Operator as OperatorPending, Parenthesis}
pub use Rattle.pio_parse.specs.declared.expression.Reading.{Reading}
pub use Rattle.pio_parse.specs.declared.expression.Term.{Term}
pub use Rattle.pio_parse.specs.declared.expression.Term.TheVariants.{Name as NameTerm, Number as NumberTerm, Operator as OperatorTerm}
pub use Rattle.pio_parse.specs.declared.parser.Groups.{Groups}
pub use Rattle.pio_parse.specs.declared.scan.Mode.{Mode}
pub use Rattle.pio_parse.specs.declared.scan.Mode.TheVariants.{Bang, Between, BlockComment, Code, Colon as ColonMode, Header, LineComment, Slash, Word}
pub use Rattle.pio_parse.specs.declared.scan.Step.{Step}
pub use Rattle.pio_parse.specs.declared.syntax.Line.{Line}
pub use Rattle.pio_parse.specs.declared.syntax.Operation.{Operation}
pub use Rattle.pio_parse.specs.declared.syntax.Source.{Source}
pub use Rattle.pio_parse.specs.declared.syntax.SourceProgram.{SourceProgram}
pub use Rattle.pio_parse.specs.declared.syntax.Statement.{Statement}
pub use Rattle.pio_parse.specs.declared.syntax.Statement.TheVariants.{Define as DefineStatement, Instruction as InstructionStatement, Origin as OriginStatement, Program, SideSet as SideSetStatement, Word as WordStatement, Wrap as WrapStatement, WrapTarget as WrapTargetStatement}
pub use Rattle.pio_parse.specs.declared.token.Directive.TheVariants.{Define, LangOpt, Origin, PioVersion, Program as ProgramDirective, SideSet, Word as WordDirective, Wrap, WrapTarget}
pub use Rattle.pio_parse.specs.declared.token.Keyword.{Keyword}
pub use Rattle.pio_parse.specs.declared.token.Keyword.TheVariants.{Block, Clear, Gpio, IfEmpty, IfFull, In, Irq, Jmp, Mov, NoBlock, NoWait, Nop, Opt, Osre, Out, Pin, Pindirs, Pins, Public, Pull, Push, Rel, Set, Side, Wait, X, Y}
pub use Rattle.pio_parse.specs.declared.token.Span.{Span}
pub use Rattle.pio_parse.specs.declared.token.Token.{Token}
pub use Rattle.pio_parse.specs.declared.token.TokenKind.{TokenKind}
pub use Rattle.pio_parse.specs.declared.token.TokenKind.TheVariants.{Bang as BangToken, CloseBracket, CloseParenthesis, Colon, Comma, Directive as DirectiveToken, DoubleColon, FileEnd, Keyword as KeywordToken, LineEnd, Minus, Name, NotEqual, Number, OpenBracket, OpenParenthesis, Plus, Star, Tilde}
pub use Rattle.pio_parse.specs.descent.Cursor.{Outcome, after_head, expected, misfit}
pub use Rattle.pio_parse.specs.descent.Expression.{after_newest, expression_at, expression_from, is_close_parenthesis, level_of, nothing_read, operand_at, operand_of_kind, operand_step, operator_step, reduced, token_step, with_closed}
pub use Rattle.pio_parse.specs.descent.Gathering.{grouped, grouped_by, line_step, no_groups, source_from}
pub use Rattle.pio_parse.specs.descent.Instruction.{block_at, block_of, conditional_at, decrement_at, delay_at, flag_at, in_at, irq_at, irq_mode_at, irq_mode_of, is_close_bracket, is_comma, is_if_empty, is_if_full, is_minus, is_not_equal, is_open_bracket, is_rel, is_side, is_y, jmp_at, jmp_condition_at, jmp_condition_of, last_operand_at, modified_at, modifiers_at, mov_at, mov_operation_at, mov_operation_of, named_at, not_condition_at, not_condition_of, out_at, past_comma, polarity_at, polarity_of, pull_at, push_at, set_at, side_at, wait_at, wait_for, x_condition_at}
pub use Rattle.pio_parse.specs.descent.Parsed.{IsFaultOf, lines_at, parsed, parsed_tokens, source_of, with_syntax}
pub use Rattle.pio_parse.specs.descent.Scan.{IsStarted, begins, ends, finishes, scanned, scanned_from, sign_of, single_token, steps, without_token, word_ends, word_token_ends}
pub use Rattle.pio_parse.specs.descent.Statement.{begins_label, define_at, end_at, is_colon, is_end_after, is_first, is_opt, is_pindirs, is_public, is_zero, label_at, line_at, name_of_kind, name_token_at, past_public, side_set_at, statement_at, statement_of_kind, version_at}
pub use Rattle.pio_words.specs.declared.op.JmpCondition.{JmpCondition}
pub use Rattle.pio_words.specs.declared.op.JmpCondition.TheVariants.{Always, OsrNotEmpty, Pin as PinHigh, XDecrement, XNotY, XZero, YDecrement, YZero}
pub use Rattle.pio_words.specs.declared.op.MovOperation.{MovOperation}
pub use Rattle.source_text.specs.Characters.{is_word_char}
pub use Rattle.source_text.specs.Outcome.{and_then, map_ok}
pub use Rattle.source_text.specs.Position.{IsPositionBelow, first_position, moved, past, position_behind}
pub use Rattle.source_text.specs.declared.position.SourcePosition.{SourcePosition}
pub use Rattle.std.proofs.lemmas.Bool.{cases_Bool, le-leb}
pub use Rattle.std.proofs.lemmas.Bool.Decides.{eqb_tells}
pub use Rattle.std.proofs.lemmas.List.{drop_all, get_or-drop}
pub use Rattle.std.specs.Option.{option_map_or}
pub use Rattle.std.specs.Prelude.{Err, IfErr, IfOk, Ok, Result, is_some, option_to_list, slice_range, ⊤, ◌-◌}
pub use mathlib.Core.Bool.{false≢true}
