use Rattle.thumb_parse.proofs.ReadLines.{read_by_forms}
use Rattle.thumb_parse.proofs.laws.lines_are_read_by_their_forms.Goals as goal

pub returns : goal.returns
returns c = read_by_forms
