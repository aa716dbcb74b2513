-- The entries of a log from an index on.
use Rattle.std.proofs.Common.{◌≡◌, ℕ, ◌+◌, List, ◌∷◌, Some, slice_get, drop, refl, sym, ◌∙◌, add-one}
use Rattle.std.proofs.Math.Seq.{drop-cons}
use Rattle.std.proofs.lemmas.Option.{get_or_from_slice_get, slice_get_within}
use Rattle.lane_look.specs.Replay.{Entry, first_answer, others}

drop_here : {A : Type 0} (xs : List A) (index : ℕ) (x : A) → slice_get xs index ≡ Some x → drop index xs ≡ x ∷ drop (index + 1) xs
drop_here xs index x h =
    drop-cons xs index x (slice_get_within xs index x h) ∙ rw (get_or_from_slice_get xs index x x h, add-one index) refl

-- the entry at the index is the next one, and the others are left
pub popped : (log left : List Entry) (index : ℕ) (entry : Entry) → drop index log ≡ left → slice_get log index ≡ Some entry → (entry.1 ≡ first_answer left) × (drop (index + 1) log ≡ others left)
popped log left index entry h at =
    let e : left ≡ entry ∷ drop (index + 1) log = sym h ∙ drop_here log index entry at in
    (rw e refl, rw e refl)
