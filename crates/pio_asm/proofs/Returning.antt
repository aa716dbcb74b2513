-- A source of words is read back as these words.
use Rattle.std.proofs.Common.{◌≡◌, ◌==◌, ◌&&◌, not, ℕ, ◌+◌, ◌/◌, ◌%◌, ◌<◌, ◌≤◌, Bool, true, false, List, [], ◌∷◌, ◌++◌, map, length, Option, None, Some, Result, Ok, append_assoc, append-nil, length-append, arith, codes, refl, ap, sym, ◌∙◌}
use Rattle.pio_asm.proofs.Shared.{All, length-map, nat_tests, PioOp, SideConfig, SideDelay, operation_of, IsSideField, side_at, PioFault, and_then, Statement, SideSetStatement, WordStatement, Line, AreApart, Piece, both, not_true, AreLines, joined_lines, header, program_parses, source_of_lines, stays, is_written, source_text, Member, WordMember, Coded, Lost, Building, Names, IsConfig, StandsFor, config_of, is_member, line_step, names_of, with_definition, AreWordsOf, assembled, lines_from, plan_of}
use Rattle.std.proofs.lemmas.List.Elements.{All-head, All-tail}
use Rattle.pio_words.proofs.Unique.{word-unique}
use Rattle.pio_parse.specs.descent.Parsed.{parsed}
use Rattle.pio_parse.proofs.Files.{parses_grammar}
use Rattle.pio_asm.specs.Returns.{ReadsBack, SourcesReturn, named_side}
use Rattle.pio_asm.proofs.Decoded.{has_operation, has_side, small_side}
use Rattle.pio_asm.proofs.LinePieces.{instruction_if, instruction_pieces, line_pieces, program_lines, side_set_lines, word_pieces}
use Rattle.pio_asm.proofs.LineText.{source_is}
use Rattle.pio_asm.proofs.LineApart.{instruction_apart, side_set_apart, word_apart}
use Rattle.pio_asm.proofs.LineParse.{line_parses, line_with, number_terms, side_set_parses, statement_if, statement_of}
use Rattle.pio_asm.proofs.LineSteps.{HasBits, built, instruction_assembles, side_set_assembles, word_assembles}

abbrev member_if : Bool → Option SideConfig → PioOp → SideDelay → ℕ → Member
member_if true set op side word = Coded op (config_of set) side.value side.delay
member_if false set op side word = WordMember word

abbrev member_of : Option SideConfig → PioOp → Option SideDelay → ℕ → Member
member_of set op None word = WordMember word
member_of set op (Some side) word = member_if (is_written op) set op side word

-- the directive names the same bits
abbrev IsSameSide : SideConfig → Option SideConfig → Type 0
IsSameSide side set = (v : Option ℕ) (d f : ℕ) → IsSideField side v d f → IsSideField (config_of set) v d f

-- what holds of the line of a word
record IsLineOf (set : Option SideConfig) (word : ℕ) (pieces : List Piece) (statement : Statement) (member : Member) : Type 0 where
  apart : AreApart pieces
  kept : stays (Some statement) ≡ true
  counted : is_member (Some statement) ≡ true
  nameless : (globals seen : Names) → with_definition globals (Some statement) seen ≡ seen
  assembles : (whole globals : Names) (total number : ℕ) (code : List Member) → length code < 32 → line_step whole globals total (line_with number statement) (built code set) ≡ Ok (built (code ++ member ∷ []) set)
  stands : StandsFor member word

module _ (side : SideConfig) (set : Option SideConfig) (same : IsSameSide side set) (bits : HasBits set) where
  word_line : (word : ℕ) → word < 65536 → IsLineOf set word (word_pieces word) (WordStatement (number_terms word)) (WordMember word)
  word_line word lt = record {
    apart = word_apart word lt;
    kept = refl;
    counted = refl;
    nameless = λ globals seen. refl;
    assembles = λ whole globals total number code room. word_assembles whole globals total number set word code lt room;
    stands = refl;
  }

  written : (word : ℕ) (s : SideDelay) (b : Bool) → word < 65536 → side_at side (word / 256 % 32) ≡ Some s → is_written (operation_of word) ≡ b → IsLineOf set word (instruction_if b (operation_of word) s word) (statement_if b (operation_of word) s word) (member_if b set (operation_of word) s word)
  written word s true lt e h =
      let has = has_operation word h in
      let field = has_side side (word / 256 % 32) s (omega arith) e in
      let small = small_side side.opt side.count s.value s.delay (word / 256 % 32) field in
      let there = same s.value s.delay (word / 256 % 32) field in
      record {
        apart = instruction_apart (operation_of word) s (word / 8192) (word / 32 % 8) (word % 32) has small.0 small.1;
        kept = refl;
        counted = refl;
        nameless = λ globals seen. refl;
        assembles = λ whole globals total number code room. instruction_assembles whole globals total number set (operation_of word) s (word / 8192) (word / 32 % 8) (word % 32) (word / 256 % 32) code has bits there small.0 small.1 room;
        stands = record { is_half = lt; has_operation = has; has_side = there };
      }
  written word s false lt e h = word_line word lt

  line_of : (word : ℕ) (o : Option SideDelay) → word < 65536 → side_at side (word / 256 % 32) ≡ o → IsLineOf set word (instruction_pieces (operation_of word) o word) (statement_of (operation_of word) o word) (member_of set (operation_of word) o word)
  line_of word None lt e = word_line word lt
  line_of word (Some s) lt e = written word s (is_written (operation_of word)) lt e refl

abbrev word_statement : SideConfig → ℕ → Statement
word_statement side word = statement_of (operation_of word) (side_at side (word / 256 % 32)) word

abbrev word_member : Option SideConfig → SideConfig → ℕ → Member
word_member set side word = member_of set (operation_of word) (side_at side (word / 256 % 32)) word

abbrev word_lines : SideConfig → ℕ → List ℕ → List Line
word_lines side number [] = []
word_lines side number (word ∷ words) = line_with number (word_statement side word) ∷ word_lines side (number + 1) words

names_step : (globals seen : Names) (count number : ℕ) (statement : Statement) (lines : List Line) → is_member (Some statement) ≡ true → with_definition globals (Some statement) seen ≡ seen → names_of globals seen count (line_with number statement ∷ lines) ≡ names_of globals seen (count + 1) lines
names_step globals seen count number statement lines counted nameless = rw (counted, nameless) refl

lines_step : (whole globals : Names) (total : ℕ) (line : Line) (lines : List Line) (b next : Building) → line_step whole globals total line b ≡ Ok next → lines_from whole globals total (line ∷ lines) b ≡ lines_from whole globals total lines next
lines_step whole globals total line lines b next e = ap (λ (r : Result Building PioFault). and_then (λ (n : Building). lines_from whole globals total lines n) r) e

-- what holds of the lines of words
record AreLinesOf (side : SideConfig) (set : Option SideConfig) (words : List ℕ) : Type 0 where
  lines : (text : List ℕ) (number : ℕ) → AreLines text number (map (line_pieces side) words) (word_lines side number words)
  names : (globals seen : Names) (count number : ℕ) → names_of globals seen count (word_lines side number words) ≡ (seen, count + length words)
  assembles : (whole globals : Names) (total number : ℕ) (code : List Member) → length code + length words ≤ 32 → lines_from whole globals total (word_lines side number words) (built code set) ≡ Ok (built (code ++ map (word_member set side) words) set)
  stand : AreWordsOf (map (word_member set side) words) words

lines_of : (side : SideConfig) (set : Option SideConfig) → IsSameSide side set → HasBits set → (words : List ℕ) → All (λ word. word < 65536) words → AreLinesOf side set words
lines_of side set same bits [] h = record {
  lines = λ text number. tt;
  names = λ globals seen count number. let e : count + 0 ≡ count = omega arith in rw e refl;
  assembles = λ whole globals total number code room. rw (append-nil code) refl;
  stand = tt;
}
lines_of side set same bits (word ∷ words) h =
    let line = line_of side set same bits word (side_at side (word / 256 % 32)) (All-head (λ w. w < 65536) word words h) refl in
    let rest = lines_of side set same bits words (All-tail (λ w. w < 65536) word words h) in
    record {
      lines = λ text number. (line.apart, line.kept, line_parses text number (operation_of word) (side_at side (word / 256 % 32)) word, rest.lines text (number + 1));
      names = λ globals seen count number.
          let e : count + 1 + length words ≡ count + length (word ∷ words) = omega arith in
          names_step globals seen count number (word_statement side word) (word_lines side (number + 1) words) line.counted (line.nameless globals seen)
          ∙ rest.names globals seen (count + 1) (number + 1) ∙ rw e refl;
      assembles = λ whole globals total number code room.
          let here : length code < 32 = omega arith in
          let more : length (code ++ word_member set side word ∷ []) + length words ≤ 32 = omega (arith, length-append code (word_member set side word ∷ [])) in
          lines_step whole globals total (line_with number (word_statement side word)) (word_lines side (number + 1) words) (built code set) (built (code ++ word_member set side word ∷ []) set) (line.assembles whole globals total number code here)
          ∙ rest.assembles whole globals total (number + 1) (code ++ word_member set side word ∷ []) more
          ∙ ap (λ (members : List Member). Ok (built members set)) (append_assoc code (word_member set side word ∷ []) (map (word_member set side) words));
      stand = (line.stands, rest.stand);
    }

-- a program whose lines have no names
assembles_alone : (set : Option SideConfig) (members : List Member) (count : ℕ) (lines : List Line) → 0 < count → names_of [] [] 0 lines ≡ ([], count) → lines_from [] [] count lines (built [] None) ≡ Ok (built members set) → assembled (source_of_lines lines) ≡ Ok (plan_of (codes "code") (built members set) ∷ [])
assembles_alone set members count lines some names e =
    let other : (count == 0) ≡ false = grind (arith, nat_tests) in
    rw (names, other, e) refl

from_zero : (n : ℕ) → 0 + n ≡ n
from_zero n = omega arith

-- the directive leaves out what has no bits
module _ (side : SideConfig) where
  without_bits : ((side.count == 0) && not side.opt) ≡ true → IsSameSide side None
  without_bits h v d f field =
      let parts = both (side.count == 0) (not side.opt) h in
      let opt : side.opt ≡ false = not_true side.opt parts.1 in
      let none : side.count ≡ 0 = zero_is side.count parts.0 in
      let g = rw (opt, none) at field in g
    where
      zero_is : (n : ℕ) → (n == 0) ≡ true → n ≡ 0
      zero_is n h = grind (arith, nat_tests)

set_if : Bool → SideConfig → Option SideConfig
set_if true side = None
set_if false side = Some side

lines_if : Bool → SideConfig → List ℕ → List Line
lines_if true side words = word_lines side 2 words
lines_if false side words = line_with 2 (SideSetStatement (number_terms side.count) side.opt side.pindirs) ∷ word_lines side 3 words

record IsProgramOf (b : Bool) (side : SideConfig) (words : List ℕ) : Type 0 where
  lines : (text : List ℕ) → AreLines text 2 (side_set_lines b side ++ map (line_pieces side) words) (lines_if b side words)
  assembles : assembled (source_of_lines (lines_if b side words)) ≡ Ok (plan_of (codes "code") (built (map (word_member (set_if b side) side) words) (set_if b side)) ∷ [])
  stand : AreWordsOf (map (word_member (set_if b side) side) words) words

program_of : (b : Bool) (side : SideConfig) (words : List ℕ) → ((side.count == 0) && not side.opt) ≡ b → IsConfig side → 0 < length words → length words ≤ 32 → All (λ word. word < 65536) words → IsProgramOf b side words
unfolding set_if lines_if
program_of true side words h fits some few halves =
    let rest = lines_of side None (without_bits side h) tt words halves in
    record {
      lines = λ text. rest.lines text 2;
      assembles = assembles_alone None (map (word_member None side) words) (length words) (word_lines side 2 words) some
          (rest.names [] [] 0 2 ∙ rw (from_zero (length words)) refl)
          (rest.assembles [] [] (length words) 2 [] (rw (from_zero (length words)) few));
      stand = rest.stand;
    }
program_of false side words h fits some few halves =
    let rest = lines_of side (Some side) (λ v d f field. field) h words halves in
    let low : side.count < 100 = omega arith in
    record {
      lines = λ text. (side_set_apart side low, refl, side_set_parses text 2 side, rest.lines text 3);
      assembles = assembles_alone (Some side) (map (word_member (Some side) side) words) (length words) (line_with 2 (SideSetStatement (number_terms side.count) side.opt side.pindirs) ∷ word_lines side 3 words) some
          (rest.names [] [] 0 3 ∙ rw (from_zero (length words)) refl)
          (lines_step [] [] (length words) (line_with 2 (SideSetStatement (number_terms side.count) side.opt side.pindirs)) (word_lines side 3 words) (built [] None) (built [] (Some side)) (side_set_assembles [] [] (length words) 2 side fits)
          ∙ rest.assembles [] [] (length words) 3 [] (rw (from_zero (length words)) few));
      stand = rest.stand;
    }

named_if : (b : Bool) (side : SideConfig) → ((side.count == 0) && not side.opt) ≡ b → config_of (set_if b side) ≡ named_side side
unfolding set_if
named_if true side h = rw h refl
named_if false side h = rw h refl

same_member : (member : Member) (word other : ℕ) → StandsFor member word → StandsFor member other → word ≡ other
same_member (WordMember n) word other h k = h ∙ sym k
same_member (Coded op side value delay) word other h k = word-unique op side value delay word other h k
same_member Lost word other h k = absurd h

-- members have one list of words
same_words : (members : List Member) (words others : List ℕ) → AreWordsOf members words → AreWordsOf members others → others ≡ words
same_words [] [] [] h k = refl
same_words [] [] (other ∷ others) h k = absurd k
same_words [] (word ∷ words) others h k = absurd h
same_words (member ∷ members) [] others h k = absurd h
same_words (member ∷ members) (word ∷ words) [] h k = absurd k
same_words (member ∷ members) (word ∷ words) (other ∷ others) h k =
    let first = same_member member other word k.0 h.0 in
    let rest = same_words members words others h.1 k.1 in cc

reads_back : (b : Bool) (side : SideConfig) (words : List ℕ) → ((side.count == 0) && not side.opt) ≡ b → IsConfig side → 0 < length words → length words ≤ 32 → All (λ word. word < 65536) words → ReadsBack side words
reads_back b side words h fits some few halves =
    let program = program_of b side words h fits some few halves in
    let pieces : program_lines side words ≡ side_set_lines b side ++ map (line_pieces side) words = rw h refl in
    let text : source_text side words ≡ header ++ joined_lines (side_set_lines b side ++ map (line_pieces side) words) = sym (source_is side words) ∙ rw pieces refl in
    record {
      source = source_of_lines (lines_if b side words);
      plan = plan_of (codes "code") (built (map (word_member (set_if b side) side) words) (set_if b side));
      parses = (parses_grammar (source_text side words) (source_of_lines (lines_if b side words))).0 (ap parsed text ∙ program_parses (side_set_lines b side ++ map (line_pieces side) words) (lines_if b side words) (program.lines (header ++ joined_lines (side_set_lines b side ++ map (line_pieces side) words))));
      assembles = program.assembles;
      same_words = program.stand;
      no_others = λ others are. same_words (map (word_member (set_if b side) side) words) words others program.stand are;
      same_side = named_if b side h;
      name = refl;
      origin = refl;
      target = refl;
      wrap = rw (length-map words (word_member (set_if b side) side)) refl;
    }

pub sources_return : SourcesReturn
sources_return side words fits some few halves = reads_back ((side.count == 0) && not side.opt) side words refl fits some few halves
