-- What is driven after each entry.
use Rattle.std.proofs.Common.{◌≡◌, ◌≤◌, ◌<◌, ℕ, zero, suc, ◌+◌, ◌-◌, ◌*◌, ◌^◌, ◌%◌, ◌==◌, Bool, true, false, List, [], ◌∷◌, ◌++◌, length, get_or, take, Option, Some, None, is_some, unwrap_or, cond, inl, inr, ◌⊎◌, refl, sym, ap, ◌∙◌, arith}
use Rattle.std.specs.Prelude.{bit_and, bit_or, if◌then◌else◌}
use Rattle.std.specs.Int.{w32}
use Rattle.std.proofs.lemmas.Bool.{eq-eqb, ne_eqb, cases_eq}
use Rattle.std.proofs.lemmas.List.{append-nil, get_or_append_left, get_or_push, length_push, take_more}
use Rattle.std.proofs.lemmas.List.Elements.{filter-append}
use Rattle.std.proofs.lemmas.Nat.Bits.{bit_at-zero, bit_at_set_same, bit_at_set_other, bit_at_clear_same, bit_at_clear_other}
use Rattle.std.specs.List.{filter}
use Rattle.rp_base.specs.Word.{has_bit}
use Rattle.pin_script.specs.declared.entry.Entry.{Entry}
use Rattle.pin_script.specs.declared.script.Drives.{Drives}
use Rattle.pin_script.specs.Levels.{drive_at, drive_of, driven_level, is_due, is_for, last_of, level_after, level_or_free}
use Rattle.pin_script.specs.Reading.{IsTable, IsTabled, Shows}
use Rattle.pin_script.specs.Script.{IsScript, IsScriptFrom}

-- ---- one bit

pub is_set : (x n : ℕ) → n < 32 → has_bit (bit_or x (1 * 2 ^ n % 2 ^ 32)) n ≡ true
is_set x n h = ap (λ b. b == 1) (bit_at_set_same w32 x n h)

pub is_clear : (x n : ℕ) → n < 32 → has_bit (bit_and x (2 ^ 32 - 1 - 1 * 2 ^ n % 2 ^ 32)) n ≡ false
is_clear x n h = ap (λ b. b == 1) (bit_at_clear_same w32 x n h)

pub set_keeps : (x n i : ℕ) → n < 32 → (i ≡ n → ⊥) → has_bit (bit_or x (1 * 2 ^ n % 2 ^ 32)) i ≡ has_bit x i
set_keeps x n i h other = ap (λ b. b == 1) (bit_at_set_other w32 x n h i other)

pub clear_keeps : (x n i : ℕ) → n < 32 → i < 32 → (i ≡ n → ⊥) → has_bit (bit_and x (2 ^ 32 - 1 - 1 * 2 ^ n % 2 ^ 32)) i ≡ has_bit x i
clear_keeps x n i h lt other = ap (λ b. b == 1) (bit_at_clear_other w32 x n h i lt other)

-- ---- one entry

rebuilt : (o : Option Bool) → (if is_some o then Some (unwrap_or o false) else None) ≡ o
rebuilt (Some level) = refl
rebuilt None = refl

pub driven_same : (d h p pin : ℕ) (o : Option Bool) → p ≡ pin → has_bit d p ≡ is_some o → has_bit h p ≡ unwrap_or o false → driven_level d h pin ≡ o
driven_same d h p pin o e i j = rw (← e, i, j) (rebuilt o)

pub driven_other : (d h d' h' pin : ℕ) → has_bit d' pin ≡ has_bit d pin → has_bit h' pin ≡ has_bit h pin → driven_level d' h' pin ≡ driven_level d h pin
driven_other d h d' h' pin i j = rw (i, j) refl

pub after_entry : (d h d' h' p pin : ℕ) (o : Option Bool) → has_bit d' p ≡ is_some o → has_bit h' p ≡ unwrap_or o false →
    ((pin ≡ p → ⊥) → has_bit d' pin ≡ has_bit d pin) → ((pin ≡ p → ⊥) → has_bit h' pin ≡ has_bit h pin) →
    driven_level d' h' pin ≡ (if p == pin then o else driven_level d h pin)
after_entry d h d' h' p pin o i j k l = elim (cases_eq p pin) [
  | inl same ↦ driven_same d' h' p pin o same i j ∙ sym (ap (λ b. cond b o (driven_level d h pin)) (eq-eqb p pin same))
  | inr other ↦
      driven_other d h d' h' pin (k (λ e. other (sym e))) (l (λ e. other (sym e)))
      ∙ sym (ap (λ b. cond b o (driven_level d h pin)) (ne_eqb p pin other))
]

-- ---- the entries one after the other

last_of_push : (xs : List Entry) (x : Entry) → last_of (xs ++ x ∷ []) ≡ Some x
last_of_push [] x = refl
last_of_push (y ∷ []) x = refl
last_of_push (y ∷ z ∷ zs) x = last_of_push (z ∷ zs) x

level_same : (xs : List Entry) (e : Entry) (pin : ℕ) → e.pin ≡ pin → level_after (xs ++ e ∷ []) pin ≡ e.level
level_same xs e pin h =
    let yes : (e.pin == pin) ≡ true = eq-eqb e.pin pin h in
    let last : filter (is_for pin) (e ∷ []) ≡ e ∷ [] = rw yes refl in
    ap (λ es. level_or_free (last_of es)) (filter-append (is_for pin) xs (e ∷ []) ∙ ap (λ es. filter (is_for pin) xs ++ es) last)
    ∙ ap level_or_free (last_of_push (filter (is_for pin) xs) e)

level_other : (xs : List Entry) (e : Entry) (pin : ℕ) → (e.pin ≡ pin → ⊥) → level_after (xs ++ e ∷ []) pin ≡ level_after xs pin
level_other xs e pin h =
    let no : (e.pin == pin) ≡ false = ne_eqb e.pin pin h in
    let none : filter (is_for pin) (e ∷ []) ≡ [] = rw no refl in
    ap (λ es. level_or_free (last_of es))
    (filter-append (is_for pin) xs (e ∷ []) ∙ ap (λ es. filter (is_for pin) xs ++ es) none ∙ append-nil (filter (is_for pin) xs))

-- what one entry more leaves
abbrev IsAfter : Drives → Entry → Drives → Type 0
IsAfter d e d' =
    (pin : ℕ) → pin < 30 →
    driven_level d'.driven d'.high pin ≡ (if e.pin == pin then drive_of e.level else driven_level d.driven d.high pin)

shows_push : (es : List Entry) (e : Entry) (d d' : Drives) → Shows es d → IsAfter d e d' → Shows (es ++ e ∷ []) d'
shows_push es e d d' shows after pin lt = elim (cases_eq e.pin pin) [
  | inl same ↦
      after pin lt ∙ ap (λ b. cond b (drive_of e.level) (driven_level d.driven d.high pin)) (eq-eqb e.pin pin same)
      ∙ sym (ap drive_of (level_same es e pin same))
  | inr other ↦
      after pin lt ∙ ap (λ b. cond b (drive_of e.level) (driven_level d.driven d.high pin)) (ne_eqb e.pin pin other)
      ∙ shows pin lt ∙ sym (ap drive_of (level_other es e pin other))
]

pub shows_next : (es : List Entry) (i : ℕ) (x : Entry) (d d' : Drives) → i < length es → Shows (take i es) d → IsAfter d (get_or es i x) d' →
    Shows (take (i + 1) es) d'
shows_next es i x d d' lt shows after pin within =
    shows_push (take i es) (get_or es i x) d d' shows after pin within
    ∙ sym (ap (λ l. drive_of (level_after l pin)) (take_more es i x lt))

pub shows_none : (d : Drives) → d.driven ≡ 0 → Shows [] d
shows_none d none pin lt =
    let no : has_bit 0 pin ≡ false = ap (λ b. b == 1) (bit_at-zero pin) in
    rw (none, no) refl

-- ---- the table

pub no_rows : (es : List Entry) → IsTable es [] 0
no_rows es = record { rows = refl; shown = λ k d lt. absurd (omega arith) }

below_or_last : (k i : ℕ) → k < i + 1 → (k < i) ⊎ (k ≡ i)
below_or_last k i h = grind arith

pub row_more : (es : List Entry) (table : List Drives) (i : ℕ) (d : Drives) → IsTable es table i → Shows (take (i + 1) es) d →
    IsTable es (table ++ d ∷ []) (i + 1)
row_more es table i d t shows = record {
  rows = length_push table d ∙ ap (λ n. n + 1) t.rows;
  shown = λ k x lt. elim (below_or_last k i lt) [
    | inl below ↦ λ pin within.
        ap (λ (r : Drives). driven_level r.driven r.high pin) (get_or_append_left table (d ∷ []) x k (omega (arith, t.rows)))
        ∙ t.shown k x below pin within
    | inr last ↦ λ pin within.
        ap (λ (r : Drives). driven_level r.driven r.high pin) (get_or_push table d x k (t.rows ∙ sym last))
        ∙ shows pin within ∙ ap (λ n. drive_of (level_after (take (n + 1) es) pin)) (sym last)
  ];
}

pub row_within : (es : List Entry) (table : List Drives) (count : ℕ) → IsTabled es table → count ≤ length es → (count ≡ 0 → ⊥) →
    count - 1 < length table
row_within es table count t within some = omega (arith, t.table.rows)

pub row_shows : (es : List Entry) (table : List Drives) (count : ℕ) (d : Drives) → IsTabled es table → count ≤ length es → (count ≡ 0 → ⊥) →
    Shows (take count es) (get_or table (count - 1) d)
row_shows es table count d t within some pin lt =
    let back : count - 1 + 1 ≡ count = omega arith in
    t.table.shown (count - 1) d (omega arith) pin lt ∙ ap (λ k. drive_of (level_after (take k es) pin)) back

pub shows_due : (es : List Entry) (cycle due : ℕ) (d : Drives) → filter (is_due cycle) es ≡ take due es → Shows (take due es) d →
    (pin : ℕ) → pin < 30 → driven_level d.driven d.high pin ≡ drive_at es cycle pin
unfolding drive_at
shows_due es cycle due d h shows pin lt = shows pin lt ∙ sym (ap (λ l. drive_of (level_after l pin)) h)

-- ---- pins

pin_from : (low : ℕ) (xs : List Entry) (i : ℕ) (d : Entry) → IsScriptFrom low xs → i < length xs → (get_or xs i d).pin < 30
pin_from low [] i d s lt = absurd (omega arith)
pin_from low (x ∷ xs) zero d s lt = s.1
pin_from low (x ∷ xs) (suc i) d s lt = pin_from x.cycle xs i d s.2 (omega arith)

pub pin_at : (xs : List Entry) (i : ℕ) (d : Entry) → IsScript xs → i < length xs → (get_or xs i d).pin < 30
pin_at xs i d s lt = pin_from 0 xs i d s lt
