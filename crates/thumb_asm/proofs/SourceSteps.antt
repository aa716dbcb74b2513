-- The lines of a source, one step after the other.
use Rattle.std.proofs.Common.{◌≡◌, ℕ, ◌+◌, List, [], ◌∷◌, ◌++◌, length, Some, None, Result, Ok, Err, sym, ap, ◌∙◌, arith}
use Rattle.std.specs.Str.Lines.{lines}
use Rattle.thumb_asm.specs.declared.fault.ThumbFault.{ThumbFault}
use Rattle.thumb_parse.specs.Tokens.{code_part}
use Rattle.thumb_asm.specs.Lines.{statement_at}
use Rattle.thumb_asm.specs.Source.{Names, address_after, bytes_from, fault_at, line_bytes, names_from, or_fault, with_label}

-- ---- names

pub names_more : (n address : ℕ) (answer names names' : Names) (rest line after : List ℕ) → answer ≡ names_from n address names (lines rest) →
    lines rest ≡ line ∷ lines after → names' ≡ with_label n address (code_part line) (statement_at (code_part line)).label names →
    answer ≡ names_from (n + 1) (address_after address (code_part line)) names' (lines after)
unfolding names_from
names_more n address answer names names' rest line after h i j =
    h ∙ ap (names_from n address names) i ∙ ap (λ names. names_from (n + 1) (address_after address (code_part line)) names (lines after)) (sym j)

pub names_end : (n address : ℕ) (answer names : Names) (rest : List ℕ) → answer ≡ names_from n address names (lines rest) →
    length rest ≡ 0 → answer ≡ names
unfolding names_from
names_end n address answer names [] h none = h
names_end n address answer names (x ∷ rest) h none = absurd (omega arith)

-- ---- bytes

pub bytes_more : (names : Names) (n address : ℕ) (answer : Result (List ℕ) ThumbFault) (bytes bytes' rest line after : List ℕ) →
    answer ≡ bytes_from names n address bytes (lines rest) → lines rest ≡ line ∷ lines after →
    fault_at names n address (code_part line) (statement_at (code_part line)) ≡ None →
    bytes' ≡ bytes ++ line_bytes names address (code_part line) →
    answer ≡ bytes_from names (n + 1) (address_after address (code_part line)) bytes' (lines after)
unfolding bytes_from
bytes_more names n address answer bytes bytes' rest line after h i j k =
    h ∙ ap (bytes_from names n address bytes) i
    ∙ ap (λ fault. or_fault fault (bytes_from names (n + 1) (address_after address (code_part line)) (bytes ++ line_bytes names address (code_part line)) (lines after))) j
    ∙ ap (λ bytes. bytes_from names (n + 1) (address_after address (code_part line)) bytes (lines after)) (sym k)

pub bytes_fault : (names : Names) (n address : ℕ) (answer : Result (List ℕ) ThumbFault) (bytes rest line after : List ℕ) (fault : ThumbFault) →
    answer ≡ bytes_from names n address bytes (lines rest) → lines rest ≡ line ∷ lines after →
    fault_at names n address (code_part line) (statement_at (code_part line)) ≡ Some fault → answer ≡ Err fault
unfolding bytes_from
bytes_fault names n address answer bytes rest line after fault h i j =
    h ∙ ap (bytes_from names n address bytes) i
    ∙ ap (λ fault. or_fault fault (bytes_from names (n + 1) (address_after address (code_part line)) (bytes ++ line_bytes names address (code_part line)) (lines after))) j

pub bytes_end : (names : Names) (n address : ℕ) (answer : Result (List ℕ) ThumbFault) (bytes rest : List ℕ) →
    answer ≡ bytes_from names n address bytes (lines rest) → length rest ≡ 0 → answer ≡ Ok bytes
unfolding bytes_from
bytes_end names n address answer bytes [] h none = h
bytes_end names n address answer bytes (x ∷ rest) h none = absurd (omega arith)
