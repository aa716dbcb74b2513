-- The entries of a line that sends bytes, one after the other.
use Rattle.std.proofs.Common.{◌≡◌, ℕ, ◌+◌, List, [], ◌∷◌, ◌++◌, length, ap, sym, ◌∙◌, arith}
use Rattle.std.proofs.lemmas.List.{append-nil, append_assoc}
use Rattle.std.proofs.lemmas.List.FromFn.{length-map-range_with_len, map-range_with_len_more}
use Rattle.pin_script.specs.declared.entry.LineEntry.{LineEntry}
use Rattle.pin_script.specs.Lines.{sent_entries, sent_entry}

pub sent_none : (n cycle pin divisor : ℕ) (bytes : List ℕ) (xs : List LineEntry) → xs ≡ xs ++ sent_entries n cycle pin divisor bytes 0
unfolding sent_entries
sent_none n cycle pin divisor bytes xs = sym (append-nil xs)

sent-more : (n cycle pin divisor : ℕ) (bytes : List ℕ) (k : ℕ) →
    sent_entries n cycle pin divisor bytes (k + 1) ≡ sent_entries n cycle pin divisor bytes k ++ sent_entry n cycle pin divisor bytes k ∷ []
unfolding sent_entries
sent-more n cycle pin divisor bytes k = map-range_with_len_more (sent_entry n cycle pin divisor bytes) 0 k k (omega arith)

pub sent_more : (n cycle pin divisor : ℕ) (bytes : List ℕ) (k : ℕ) (xs ys zs : List LineEntry) (e : LineEntry) →
    zs ≡ ys ++ e ∷ [] → ys ≡ xs ++ sent_entries n cycle pin divisor bytes k → e ≡ sent_entry n cycle pin divisor bytes k →
    zs ≡ xs ++ sent_entries n cycle pin divisor bytes (k + 1)
sent_more n cycle pin divisor bytes k xs ys zs e h i j =
    h ∙ ap (λ l. l ++ e ∷ []) i ∙ ap (λ x. (xs ++ sent_entries n cycle pin divisor bytes k) ++ x ∷ []) j
    ∙ append_assoc xs (sent_entries n cycle pin divisor bytes k) (sent_entry n cycle pin divisor bytes k ∷ [])
    ∙ ap (λ l. xs ++ l) (sym (sent-more n cycle pin divisor bytes k))

pub sent_length : (n cycle pin divisor : ℕ) (bytes : List ℕ) (count : ℕ) → length (sent_entries n cycle pin divisor bytes count) ≡ count
unfolding sent_entries
sent_length n cycle pin divisor bytes count = length-map-range_with_len (sent_entry n cycle pin divisor bytes) 0 count
