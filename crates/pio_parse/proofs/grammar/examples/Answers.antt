use Rattle.std.proofs.Common.{refl}
use Rattle.pio_parse.proofs.Files.{parses_grammar, syntax_faults_at_first}
use Rattle.pio_parse.proofs.grammar.examples.Goals as goal

pub returns : goal.returns
returns c = (
  (parses_grammar _ _).0 refl,
  (syntax_faults_at_first _ _).0 refl,
  (syntax_faults_at_first _ _).0 refl,
  (syntax_faults_at_first _ _).0 refl,
  (syntax_faults_at_first _ _).0 refl,
  (syntax_faults_at_first _ _).0 refl,
  (syntax_faults_at_first _ _).0 refl,
  (syntax_faults_at_first _ _).0 refl,
  (syntax_faults_at_first _ _).0 refl,
  (syntax_faults_at_first _ _).0 refl,
  (syntax_faults_at_first _ _).0 refl,
)
