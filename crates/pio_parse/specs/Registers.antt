-- The words that name a source or a destination (RP2040 Datasheet, 3.4.4, 3.4.5, 3.4.8 and 3.4.10, Assembler Syntax).
use Rattle.std.specs.Prelude.{Option, None, Some}
use Rattle.pio_parse.specs.declared.token.Keyword.TheVariants.{Pins, X, Y, Null, Isr, Osr, Pindirs, Pc, Exec, Status}
use Rattle.pio_parse.specs.declared.token.TokenKind.{TokenKind}
use Rattle.pio_parse.specs.declared.token.TokenKind.TheVariants.{Keyword as KeywordToken}
use Rattle.pio_words.specs.declared.op.InSource.{InSource}
use Rattle.pio_words.specs.declared.op.InSource.TheVariants.{Pins as InSourcePins, X as InSourceX, Y as InSourceY, Null as InSourceNull, Isr as InSourceIsr, Osr as InSourceOsr}
use Rattle.pio_words.specs.declared.op.OutDestination.{OutDestination}
use Rattle.pio_words.specs.declared.op.OutDestination.TheVariants.{Pins as OutDestinationPins, X as OutDestinationX, Y as OutDestinationY, Null as OutDestinationNull, Pindirs as OutDestinationPindirs, Pc as OutDestinationPc, Isr as OutDestinationIsr, Exec as OutDestinationExec}
use Rattle.pio_words.specs.declared.op.MovDestination.{MovDestination}
use Rattle.pio_words.specs.declared.op.MovDestination.TheVariants.{Pins as MovDestinationPins, X as MovDestinationX, Y as MovDestinationY, Exec as MovDestinationExec, Pc as MovDestinationPc, Isr as MovDestinationIsr, Osr as MovDestinationOsr}
use Rattle.pio_words.specs.declared.op.MovSource.{MovSource}
use Rattle.pio_words.specs.declared.op.MovSource.TheVariants.{Pins as MovSourcePins, X as MovSourceX, Y as MovSourceY, Null as MovSourceNull, Status as MovSourceStatus, Isr as MovSourceIsr, Osr as MovSourceOsr}
use Rattle.pio_words.specs.declared.op.SetDestination.{SetDestination}
use Rattle.pio_words.specs.declared.op.SetDestination.TheVariants.{Pins as SetDestinationPins, X as SetDestinationX, Y as SetDestinationY, Pindirs as SetDestinationPindirs}

-- the sources of `in`
abbrev pub in_source_of : TokenKind → Option InSource
in_source_of (KeywordToken Pins) = Some InSourcePins
in_source_of (KeywordToken X) = Some InSourceX
in_source_of (KeywordToken Y) = Some InSourceY
in_source_of (KeywordToken Null) = Some InSourceNull
in_source_of (KeywordToken Isr) = Some InSourceIsr
in_source_of (KeywordToken Osr) = Some InSourceOsr
in_source_of kind = None

-- the destinations of `out`
abbrev pub out_destination_of : TokenKind → Option OutDestination
out_destination_of (KeywordToken Pins) = Some OutDestinationPins
out_destination_of (KeywordToken X) = Some OutDestinationX
out_destination_of (KeywordToken Y) = Some OutDestinationY
out_destination_of (KeywordToken Null) = Some OutDestinationNull
out_destination_of (KeywordToken Pindirs) = Some OutDestinationPindirs
out_destination_of (KeywordToken Pc) = Some OutDestinationPc
out_destination_of (KeywordToken Isr) = Some OutDestinationIsr
out_destination_of (KeywordToken Exec) = Some OutDestinationExec
out_destination_of kind = None

-- the destinations of `mov`
abbrev pub mov_destination_of : TokenKind → Option MovDestination
mov_destination_of (KeywordToken Pins) = Some MovDestinationPins
mov_destination_of (KeywordToken X) = Some MovDestinationX
mov_destination_of (KeywordToken Y) = Some MovDestinationY
mov_destination_of (KeywordToken Exec) = Some MovDestinationExec
mov_destination_of (KeywordToken Pc) = Some MovDestinationPc
mov_destination_of (KeywordToken Isr) = Some MovDestinationIsr
mov_destination_of (KeywordToken Osr) = Some MovDestinationOsr
mov_destination_of kind = None

-- the sources of `mov`
abbrev pub mov_source_of : TokenKind → Option MovSource
mov_source_of (KeywordToken Pins) = Some MovSourcePins
mov_source_of (KeywordToken X) = Some MovSourceX
mov_source_of (KeywordToken Y) = Some MovSourceY
mov_source_of (KeywordToken Null) = Some MovSourceNull
mov_source_of (KeywordToken Status) = Some MovSourceStatus
mov_source_of (KeywordToken Isr) = Some MovSourceIsr
mov_source_of (KeywordToken Osr) = Some MovSourceOsr
mov_source_of kind = None

-- the destinations of `set`
abbrev pub set_destination_of : TokenKind → Option SetDestination
set_destination_of (KeywordToken Pins) = Some SetDestinationPins
set_destination_of (KeywordToken X) = Some SetDestinationX
set_destination_of (KeywordToken Y) = Some SetDestinationY
set_destination_of (KeywordToken Pindirs) = Some SetDestinationPindirs
set_destination_of kind = None
