-- A table's entries are the names that they stand for, in the same order.
use Rattle.std.proofs.Common.{◌≡◌, ℕ, List, [], ◌∷◌, cond, Some, Bor, refl, ap, ◌∙◌}
use Rattle.std.specs.Prelude.{map}
use Rattle.std.specs.Map.{lookup}
use Rattle.std.specs.Str.{bytes_eq}
use Rattle.std.specs.declared.cmp.Ordering.{Ordering}
use Rattle.std.specs.declared.cmp.Ordering.TheVariants.{Less, Equal, Greater}
use Rattle.std.specs.Ordering.{is_eq, match_ordering, nat_cmp}
use Rattle.std.specs.Cmp.Lexicographic.{slice_cmp}
use Rattle.std.specs.BTreeMap.{insert_entry}
use Rattle.std.proofs.lemmas.Map.Text.{is_eq-slice_cmp}
use Rattle.source_text.specs.Symbols.{Symbols, found, put}

-- the entries of a table as names with their values
abbrev pub named : {V : Type 0} → List (Bor (List ℕ) × V) → Symbols V
named entries = map (λ entry. (entry.0.now, entry.1)) entries

pub lookup-found : {V : Type 0} (name : List ℕ) (entries : List (Bor (List ℕ) × V)) → lookup (λ key. is_eq (slice_cmp nat_cmp name key.now)) entries ≡ found name (named entries)
lookup-found name [] = refl
lookup-found name (e ∷ es) =
    ap (λ here. cond here (Some e.1) (lookup (λ key. is_eq (slice_cmp nat_cmp name key.now)) es)) (is_eq-slice_cmp name e.0.now)
    ∙ ap (λ rest. cond (bytes_eq name e.0.now) (Some e.1) rest) (lookup-found name es)

-- a table's entries and the names that they stand for stand at the same index
placed : {V : Type 0} (order : Ordering) (name : Bor (List ℕ)) (value : V) (e : Bor (List ℕ) × V) (es more : List (Bor (List ℕ) × V)) (names : Symbols V) → named more ≡ names
    → named (match_ordering order ((name, value) ∷ e ∷ es) ((e.0, value) ∷ es) (e ∷ more))
    ≡ match_ordering order ((name.now, value) ∷ (e.0.now, e.1) ∷ named es) ((e.0.now, value) ∷ named es) ((e.0.now, e.1) ∷ names)
placed Less name value e es more names h = refl
placed Equal name value e es more names h = refl
placed Greater name value e es more names h = ap (λ rest. (e.0.now, e.1) ∷ rest) h

pub insert-put : {V : Type 0} (name : Bor (List ℕ)) (value : V) (entries : List (Bor (List ℕ) × V)) → named (insert_entry (λ x y. slice_cmp nat_cmp x.now y.now) entries name value) ≡ put name.now value (named entries)
insert-put name value [] = refl
insert-put name value (e ∷ es) =
    placed (slice_cmp nat_cmp name.now e.0.now) name value e es (insert_entry (λ x y. slice_cmp nat_cmp x.now y.now) es name value) (put name.now value (named es)) (insert-put name value es)
