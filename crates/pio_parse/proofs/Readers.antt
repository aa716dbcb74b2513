-- What `parse` reads is what the grammar has, and the grammar has one answer for each file.
use Rattle.std.proofs.Common.{◌≡◌, ℕ, List, Result, Ok, Err, refl, sym, ap, ◌∙◌}
use Rattle.pio_parse.proofs.Shared.{IfOk, IfErr, SourcePosition, Token, Source, EarlyFault, IsAnswer, IsFault, IsSource, Reader, CharAt, SyntaxAt, OneAnswer, IsFaultOf, parsed, parsed_tokens, with_syntax, scanned}
use Rattle.pio_parse.specs.declared.fault.PioFault.{PioFault}
use Rattle.pio_parse.specs.declared.fault.PioFault.TheVariants.{Char, Syntax}
use Rattle.pio_parse.proofs.Decide.{char_faults_at_first}
use Rattle.pio_parse.proofs.Files.{parses_grammar, syntax_faults_at_first}

no_char : (position : SourcePosition) (outcome : Result Source SourcePosition) → with_syntax outcome ≡ Err (CharAt position) → ⊥
no_char position (Ok source) h = cc
no_char position (Err p) h = cc

char_at : (text : List ℕ) (position : SourcePosition) (outcome : Result (List Token) SourcePosition) → parsed_tokens text outcome ≡ Err (CharAt position) → outcome ≡ Err position
char_at text position (Ok tokens) h = absurd (no_char position _ h)
char_at text position (Err p) h = cc

-- what is read is the grammar's answer
is_answer : (text : List ℕ) (answer : Result Source EarlyFault) → parsed text ≡ answer → IsAnswer text answer
is_answer text (Ok source) h = (parses_grammar text source).0 h
is_answer text (Err (CharAt position)) h = (char_faults_at_first text position).0 (char_at text position (scanned text) h)
is_answer text (Err (SyntaxAt position)) h = (syntax_faults_at_first text position).0 h

-- the grammar's answer is read
read_answer : (text : List ℕ) (answer : Result Source EarlyFault) → IsAnswer text answer → parsed text ≡ answer
read_answer text (Ok source) is = (parses_grammar text source).1 is
read_answer text (Err (CharAt position)) is = ap (parsed_tokens text) ((char_faults_at_first text position).1 is)
read_answer text (Err (SyntaxAt position)) is = (syntax_faults_at_first text position).1 is

pub one_answer : OneAnswer
one_answer text answer other is is' = sym (read_answer text answer is) ∙ read_answer text other is'

-- a reader: there is one, and by the law above all answer the same
pub reader : Reader
reader = record { read = parsed; reads = λ text. is_answer text (parsed text) refl }

pub source_read : (text : List ℕ) (result : Result Source PioFault) → IfOk result (λ source. parsed text ≡ Ok source) → IfOk result (λ source. IsSource text source)
source_read text (Ok source) h = is_answer text (Ok source) h
source_read text (Err fault) h = h

fault_is : (text : List ℕ) (fault : PioFault) → IsFaultOf (parsed text) fault → IsFault text fault
fault_is text (Char line column) h = is_answer text (Err (CharAt (record { line = line; column = column }))) h
fault_is text (Syntax line column) h = is_answer text (Err (SyntaxAt (record { line = line; column = column }))) h
fault_is text fault h = h

pub fault_read : (text : List ℕ) (result : Result Source PioFault) → IfErr result (IsFaultOf (parsed text)) → IfErr result (IsFault text)
fault_read text (Ok source) h = h
fault_read text (Err fault) h = fault_is text fault h
