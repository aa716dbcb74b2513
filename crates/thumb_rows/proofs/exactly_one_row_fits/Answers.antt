use Rattle.thumb_rows.specs.Rows.{rows}
use Rattle.thumb_rows.proofs.Apart.{one_fits, rows_apart}
use Rattle.thumb_rows.proofs.exactly_one_row_fits.Goals as goal

pub returns : goal.returns
returns c = λ first second _ _. one_fits rows first second rows_apart
