-- What stands for itself, item by item.
use Rattle.std.proofs.lemmas.List.{map-id}

pub ruleset ids = (map-id)
