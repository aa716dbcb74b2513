-- A count is not above the number of what is counted.
use Rattle.std.proofs.lemmas.List.Sums.{count_by-le-length}

pub ruleset counting = (count_by-le-length)
