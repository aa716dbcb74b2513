use Rattle.std.proofs.Common.{◌≡◌, ℕ, suc, ◌+◌, ◌-◌, ◌<◌, ◌≤◌, true, false, List, [], ◌∷◌, ◌++◌, length, take, drop, get_or, arith, refl, ap, ◌∙◌, length-drop, drop-cons, add-one}
use Rattle.pio_parse.proofs.Shared.{slice_range, Result, Ok, get_or-drop, SourcePosition, Token, Source, Groups, and_then, is_end, source_of, line_step, source_from}
use Rattle.std.proofs.Math.Seq.{take-suc}
use Rattle.pio_parse.specs.declared.cursor.Stop.{Stop}
use Rattle.pio_parse.specs.declared.cursor.Stop.TheVariants.{Syntax, Memory}
use Rattle.pio_parse.specs.descent.Calls.{IsStopOf}
use Rattle.pio_parse.proofs.Gathered.{source_gathered}

get_or_dropped : {X : Type 0} (xs : List X) (i j : ℕ) (d : X) → i ≤ j → get_or (drop i xs) (j - i) d ≡ get_or xs j d
get_or_dropped xs i j d le = let e : i + (j - i) ≡ j = omega arith in get_or-drop i xs (j - i) d ∙ rw e refl

-- a range that goes on by one element
slice_next : {X : Type 0} (xs : List X) (i j : ℕ) (d : X) → i ≤ j → j < length xs → slice_range xs i (j + 1) ≡ slice_range xs i j ++ get_or xs j d ∷ []
slice_next xs i j d le lt =
    let e : j + 1 - i ≡ suc (j - i) = omega arith in
    let inside : j - i < length (drop i xs) = omega (arith, length-drop i xs) in
    rw e (take-suc (drop i xs) (j - i) d inside ∙ ap (λ x. take (j - i) (drop i xs) ++ x ∷ []) (get_or_dropped xs i j d le))

slice_none : {X : Type 0} (xs : List X) (i : ℕ) → slice_range xs i i ≡ []
slice_none xs i = let e : i - i ≡ 0 = omega arith in rw e refl

pub drop_next : {X : Type 0} (xs : List X) (j : ℕ) (d : X) → j < length xs → drop j xs ≡ get_or xs j d ∷ drop (j + 1) xs
drop_next xs j d lt = rw add-one (drop-cons xs j d lt)

abbrev lines-then : List ℕ → Groups → List Token → ℕ → ℕ → Result Source SourcePosition
lines-then text groups tokens start index = source_from text groups (slice_range tokens start index) (drop index tokens)

-- a line ends at this token
line-ends : (text : List ℕ) (groups : Groups) (tokens : List Token) (start index : ℕ) (d : Token) → start ≤ index → index < length tokens → is_end (get_or tokens index d).kind ≡ true → lines-then text groups tokens start index ≡ and_then (λ next. source_from text next [] (drop (index + 1) tokens)) (line_step text groups (slice_range tokens start (index + 1)))
line-ends text groups tokens start index d le lt h = rw (drop_next tokens index d lt, h, slice_next tokens start index d le lt) refl

-- a line goes on with this token
pub line-goes : (text : List ℕ) (groups : Groups) (tokens : List Token) (start index : ℕ) (d : Token) → start ≤ index → index < length tokens → is_end (get_or tokens index d).kind ≡ false → source_from text groups (slice_range tokens start index) (drop index tokens) ≡ source_from text groups (slice_range tokens start (index + 1)) (drop (index + 1) tokens)
line-goes text groups tokens start index d le lt h = rw (drop_next tokens index d lt, h, slice_next tokens start index d le lt) refl

-- the lines after an end are read from the next token on
pub line-next : (text : List ℕ) (groups next : Groups) (tokens : List Token) (start index : ℕ) (d : Token) → start ≤ index → index < length tokens → is_end (get_or tokens index d).kind ≡ true → line_step text groups (slice_range tokens start (index + 1)) ≡ Ok next → source_from text groups (slice_range tokens start index) (drop index tokens) ≡ source_from text next (slice_range tokens (index + 1) (index + 1)) (drop (index + 1) tokens)
line-next text groups next tokens start index d le lt h e = line-ends text groups tokens start index d le lt h ∙ rw (e, slice_none tokens (index + 1)) refl

-- a line that is refused ends the file
pub line-stopped : (text : List ℕ) (groups : Groups) (tokens : List Token) (start index : ℕ) (d : Token) (stop : Stop) → start ≤ index → index < length tokens → is_end (get_or tokens index d).kind ≡ true → source_of text tokens ≡ source_from text groups (slice_range tokens start index) (drop index tokens) → IsStopOf (line_step text groups (slice_range tokens start (index + 1))) stop → IsStopOf (source_of text tokens) stop
line-stopped text groups tokens start index d (Syntax position) le lt h whole e = whole ∙ line-ends text groups tokens start index d le lt h ∙ rw e refl
line-stopped text groups tokens start index d Memory le lt h whole e = tt

pub ruleset line_laws = (source_gathered, line-goes, line-next, line-stopped)
