-- Lines of texts that stand one behind another.
use Rattle.reverse_debug.proofs.Shared.{Bool, HasNoEnd, List, [], all_lines, ap, append_assoc, closes, complete_from, complete_lines, false, if◌then◌else◌, list_any, open_from, open_line, refl, sym, true, unless_empty, until, without_cr, ℕ, ◌++◌, ◌==◌, ◌||◌, ◌∙◌, ◌∷◌, ◌≡◌}
use Rattle.std.proofs.lemmas.List.{append-nil}
use Rattle.std.proofs.lemmas.List.Folds.{list_any-append}

-- the complete lines of two texts are those of the first, and those of the second behind the line that the first leaves open
pub complete_append : (held xs ys : List ℕ) → complete_from held (xs ++ ys) ≡ complete_from held xs ++ complete_from (open_from held xs) ys
complete_append held [] ys = refl
complete_append held (b ∷ bs) ys =
    elim (b == 10) as (λ t. (if t then without_cr held ∷ complete_from [] (bs ++ ys) else complete_from (held ++ b ∷ []) (bs ++ ys))
    ≡ (if t then without_cr held ∷ complete_from [] bs else complete_from (held ++ b ∷ []) bs) ++ complete_from (if t then open_from [] bs else open_from (held ++ b ∷ []) bs) ys) [
      | true ↦ ap (λ l. without_cr held ∷ l) (complete_append [] bs ys)
      | false ↦ complete_append (held ++ b ∷ []) bs ys
    ]

open_append : (held xs ys : List ℕ) → open_from held (xs ++ ys) ≡ open_from (open_from held xs) ys
open_append held [] ys = refl
open_append held (b ∷ bs) ys =
    elim (b == 10) as (λ t. (if t then open_from [] (bs ++ ys) else open_from (held ++ b ∷ []) (bs ++ ys)) ≡ open_from (if t then open_from [] bs else open_from (held ++ b ∷ []) bs) ys) [
      | true ↦ open_append [] bs ys
      | false ↦ open_append (held ++ b ∷ []) bs ys
    ]

-- ---- the bytes of one line more

-- up to its LF
complete_line : (held line rest : List ℕ) → HasNoEnd line → complete_from held (line ++ 10 ∷ rest) ≡ without_cr (held ++ line) ∷ complete_from [] rest
complete_line held [] rest none = ap (λ l. without_cr l ∷ complete_from [] rest) (sym (append-nil held))
complete_line held (b ∷ bs) rest none = elim (b == 10) as (λ t. t ≡ false → (if t then without_cr held ∷ complete_from [] (bs ++ 10 ∷ rest) else complete_from (held ++ b ∷ []) (bs ++ 10 ∷ rest)) ≡ without_cr (held ++ b ∷ bs) ∷ complete_from [] rest) [
  | true ↦ λ e. absurd (cc e)
  | false ↦ λ e. complete_line (held ++ b ∷ []) bs rest none.1 ∙ ap (λ l. without_cr l ∷ complete_from [] rest) (append_assoc held (b ∷ []) bs)
] none.0

open_behind : (held line rest : List ℕ) → HasNoEnd line → open_from held (line ++ 10 ∷ rest) ≡ open_from [] rest
open_behind held [] rest none = refl
open_behind held (b ∷ bs) rest none = elim (b == 10) as (λ t. t ≡ false → (if t then open_from [] (bs ++ 10 ∷ rest) else open_from (held ++ b ∷ []) (bs ++ 10 ∷ rest)) ≡ open_from [] rest) [
  | true ↦ λ e. absurd (cc e)
  | false ↦ λ e. open_behind (held ++ b ∷ []) bs rest none.1
] none.0

-- without an LF
complete_none : (held line : List ℕ) → HasNoEnd line → complete_from held line ≡ []
complete_none held [] none = refl
complete_none held (b ∷ bs) none = elim (b == 10) as (λ t. t ≡ false → (if t then without_cr held ∷ complete_from [] bs else complete_from (held ++ b ∷ []) bs) ≡ []) [
  | true ↦ λ e. absurd (cc e)
  | false ↦ λ e. complete_none (held ++ b ∷ []) bs none.1
] none.0

open_none : (held line : List ℕ) → HasNoEnd line → open_from held line ≡ held ++ line
open_none held [] none = sym (append-nil held)
open_none held (b ∷ bs) none = elim (b == 10) as (λ t. t ≡ false → (if t then open_from [] bs else open_from (held ++ b ∷ []) bs) ≡ held ++ b ∷ bs) [
  | true ↦ λ e. absurd (cc e)
  | false ↦ λ e. open_none (held ++ b ∷ []) bs none.1 ∙ append_assoc held (b ∷ []) bs
] none.0

-- behind whole lines
pub lines_more : (seen line : List ℕ) → open_line seen ≡ [] → HasNoEnd line → complete_lines (seen ++ (line ++ 10 ∷ [])) ≡ complete_lines seen ++ without_cr line ∷ []
lines_more seen line whole none =
    complete_append [] seen (line ++ 10 ∷ []) ∙ ap (λ h. complete_lines seen ++ complete_from h (line ++ 10 ∷ [])) whole ∙ ap (λ l. complete_lines seen ++ l) (complete_line [] line [] none)

pub open_more : (seen line : List ℕ) → HasNoEnd line → open_line (seen ++ (line ++ 10 ∷ [])) ≡ []
open_more seen line none = open_append [] seen (line ++ 10 ∷ []) ∙ open_behind (open_line seen) line [] none

pub lines_open : (seen line : List ℕ) → HasNoEnd line → complete_lines (seen ++ line) ≡ complete_lines seen
lines_open seen line none = complete_append [] seen line ∙ ap (λ l. complete_lines seen ++ l) (complete_none (open_line seen) line none) ∙ append-nil (complete_lines seen)

open_open : (seen line : List ℕ) → open_line seen ≡ [] → HasNoEnd line → open_line (seen ++ line) ≡ line
open_open seen line whole none = open_append [] seen line ∙ open_none (open_line seen) line none ∙ ap (λ h. h ++ line) whole

pub all_open : (seen line : List ℕ) → open_line seen ≡ [] → HasNoEnd line → all_lines (seen ++ line) ≡ complete_lines seen ++ unless_empty line
all_open seen line whole none =
    ap (λ l. l ++ unless_empty (open_line (seen ++ line))) (lines_open seen line none) ∙ ap (λ o. complete_lines seen ++ unless_empty o) (open_open seen line whole none)

-- ---- last lines

pub until_more : (last : List ℕ → Bool) (xs ys : List (List ℕ)) → list_any last xs ≡ true → until last xs ≡ until last (xs ++ ys)
until_more last [] ys h = absurd (cc h)
until_more last (x ∷ xs) ys h = elim (last x) as (λ b. (b || list_any last xs) ≡ true → (if b then [] else x ∷ until last xs) ≡ (if b then [] else x ∷ until last (xs ++ ys))) [
  | true ↦ λ e. refl
  | false ↦ λ e. ap (λ l. x ∷ l) (until_more last xs ys e)
] h

-- a last line that is complete stays so
pub closes_more : (last : List ℕ → Bool) (xs ys : List ℕ) → closes last xs ≡ true → closes last (xs ++ ys) ≡ true
closes_more last xs ys h =
    let more = complete_from (open_line xs) ys in
    ap (list_any last) (complete_append [] xs ys) ∙ list_any-append last (complete_lines xs) more ∙ ap (λ b. b || list_any last more) h

-- where no line is a last one
pub last_both : (last : List ℕ → Bool) (xs ys : List (List ℕ)) → list_any last xs ≡ false → list_any last (xs ++ ys) ≡ list_any last ys
last_both last xs ys h = list_any-append last xs ys ∙ ap (λ b. b || list_any last ys) h

pub until_both : (last : List ℕ → Bool) (xs ys : List (List ℕ)) → list_any last xs ≡ false → until last (xs ++ ys) ≡ xs ++ until last ys
until_both last [] ys h = refl
until_both last (x ∷ xs) ys h = elim (last x) as (λ b. (b || list_any last xs) ≡ false → (if b then [] else x ∷ until last (xs ++ ys)) ≡ x ∷ (xs ++ until last ys)) [
  | true ↦ λ e. absurd (cc e)
  | false ↦ λ e. ap (λ l. x ∷ l) (until_both last xs ys e)
] h

pub until_all : (last : List ℕ → Bool) (xs : List (List ℕ)) → list_any last xs ≡ false → until last xs ≡ xs
until_all last xs h = sym (ap (until last) (append-nil xs)) ∙ until_both last xs [] h ∙ append-nil xs

-- lines behind others come behind those that are left of them
pub until_front : (last : List ℕ → Bool) (xs ys : List (List ℕ)) → (zs : List (List ℕ)) × (until last (xs ++ ys) ≡ until last xs ++ zs)
until_front last [] ys = (until last ys, refl)
until_front last (x ∷ xs) ys = elim (last x) as (λ b. (zs : List (List ℕ)) × ((if b then [] else x ∷ until last (xs ++ ys)) ≡ (if b then [] else x ∷ until last xs) ++ zs)) [
  | true ↦ ([], refl)
  | false ↦ let more = until_front last xs ys in (more.0, ap (λ l. x ∷ l) more.1)
]
