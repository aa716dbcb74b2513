-- The operation that stands beside a word of the instruction memory.
use Rattle.pio_machine.proofs.Shared.{List, PioOp, get_or-map, length, map, map-set, operation_of, sym, ℕ, ◌<◌, ◌≡◌}
use Rattle.std.specs.Prelude.{slice_index, slice_index_or, slice_set}

pub operation_at : (operations : List PioOp) (words : List ℕ) (i : ℕ) (d : PioOp) → operations ≡ map operation_of words
    → i < length words
    → slice_index_or operations i d ≡ operation_of (slice_index words i)
operation_at operations words i d beside low = rw beside (get_or-map operation_of words i 0 d low)

pub operations_set : (words : List ℕ) (i word : ℕ) → slice_set (map operation_of words) i (operation_of word) ≡ map operation_of (slice_set words i word)
operations_set words i word = sym (map-set operation_of words i word)
