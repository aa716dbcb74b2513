-- The entries of a file stand in order of their lines, and so of those for a pin the one with the greatest pair acts.
use Rattle.std.proofs.Common.{◌≡◌, ◌≤◌, ℕ, ◌+◌, ◌||◌, nat_lt, ◌∙◌, ap, sym, subst, Bool, true, false, if◌then◌else◌, List, [], ◌∷◌, ◌++◌, map, Option, Some, None, Result, Ok, Err, codes, refl, arith}
use Rattle.std.proofs.lemmas.List.{append-nil}
use Rattle.std.specs.List.{range_with_len}
use Rattle.std.specs.Str.{bytes_eq}
use Rattle.std.specs.Str.Lines.{lines}
use Rattle.pin_script.specs.declared.entry.Entry.{Entry}
use Rattle.pin_script.specs.declared.entry.LineEntry.{LineEntry}
use Rattle.pin_script.specs.declared.entry.Level.{Level}
use Rattle.pin_script.specs.declared.fault.ScriptFault.{ScriptFault}
use Rattle.pin_script.specs.declared.fault.ScriptFault.TheVariants.{Version, Pin, Divisor, Bytes}
use Rattle.pin_script.specs.Levels.{level_at}
use Rattle.source_text.specs.Numbers.{number_of}
use Rattle.source_text.specs.Outcome.{and_then, map_ok}
use Rattle.pin_script.specs.Words.{fields, are_bytes}
use Rattle.pin_script.specs.Lines.{Earlier, fits, added, LevelWords, level_words, level_entry, level_numbers, after_level, SendWords, send_words, sent_entry, sent_count, sent_entries, sent, send_numbers, after_either, is_skipped, after_line}
use Rattle.pin_script.specs.Script.{after_lines, nothing, is_other_version, headed, of_lines, entries_of, in_order, without_line, script_of}
use Rattle.pin_script.specs.Laws.{LinesFrom, TheGreatestPairOfAFileActs}
use Rattle.pin_script.proofs.Acting.{the_greatest_pair_acts}

-- all are of this line
abbrev AllAt : ℕ → List LineEntry → Type 0
AllAt n [] = Unit {0}
AllAt n (entry ∷ more) = (entry.line ≡ n) × AllAt n more

-- none is of a later line
abbrev AllUpTo : ℕ → List LineEntry → Type 0
AllUpTo n [] = Unit {0}
AllUpTo n (entry ∷ more) = (entry.line ≤ n) × AllUpTo n more

from-at : (low n : ℕ) (ys : List LineEntry) → low ≤ n → AllAt n ys → LinesFrom low ys
from-at low n [] h a = tt
from-at low n (y ∷ ys) h a = (omega (arith, h, a.0), from-at y.line n ys (omega (arith, a.0)) a.1)

from-append : (low n : ℕ) (xs ys : List LineEntry) → low ≤ n → LinesFrom low xs → AllUpTo n xs → AllAt n ys → LinesFrom low (xs ++ ys)
from-append low n [] ys h l u a = from-at low n ys h a
from-append low n (x ∷ xs) ys h l u a = (l.0, from-append x.line n xs ys u.0 l.1 u.1 a)

at-up : (n : ℕ) (ys : List LineEntry) → AllAt n ys → AllUpTo (n + 1) ys
at-up n [] a = tt
at-up n (y ∷ ys) a = (omega (arith, a.0), at-up n ys a.1)

up-append : (n : ℕ) (xs ys : List LineEntry) → AllUpTo n xs → AllAt n ys → AllUpTo (n + 1) (xs ++ ys)
up-append n [] ys u a = at-up n ys a
up-append n (x ∷ xs) ys u a = (omega (arith, u.0), up-append n xs ys u.1 a)

-- ---- a line

-- it adds entries of its line
record Grows (n : ℕ) (s t : Earlier) : Type 0 where
  more : List LineEntry
  are : t.entries ≡ s.entries ++ more
  at : AllAt n more

abbrev GrowsOk : ℕ → Earlier → Result Earlier ScriptFault → Type 0
GrowsOk n s (Err fault) = Unit {0}
GrowsOk n s (Ok t) = Grows n s t

chosen : (n : ℕ) (s : Earlier) (b : Bool) (x y : Result Earlier ScriptFault) → GrowsOk n s x → GrowsOk n s y → GrowsOk n s (if b then x else y)
chosen n s true x y g h = g
chosen n s false x y g h = h

where_grows : (n : ℕ) (s t : Earlier) (r : Result (Unit {0}) ScriptFault) → Grows n s t → GrowsOk n s (map_ok (λ _. t) r)
where_grows n s t (Err fault) g = tt
where_grows n s t (Ok done) g = g

adds : (n : ℕ) (s : Earlier) (cycle : ℕ) (more : List LineEntry) → AllAt n more → GrowsOk n s (added n s cycle more)
adds n s cycle more a = where_grows n s _ (fits n s cycle _) (record { more = more; are = refl; at = a })

level_grows : (n : ℕ) (s : Earlier) (level : Level) (cycle pin : Option ℕ) → GrowsOk n s (level_numbers n s level cycle pin)
level_grows n s level (Some cycle) (Some pin) =
    chosen n s (nat_lt 29 pin) (Err (Pin n)) (added n s cycle (level_entry n cycle pin level ∷ [])) tt (adds n s cycle (level_entry n cycle pin level ∷ []) ((refl, tt)))
level_grows n s level (Some cycle) None = tt
level_grows n s level None pin = tt

after_level_grows : (n : ℕ) (s : Earlier) (words : Option LevelWords) → GrowsOk n s (after_level n s words)
after_level_grows n s None = tt
after_level_grows n s (Some words) = level_grows n s words.level (number_of 10 10 words.cycle) (number_of 10 2 words.pin)

sent-at : (n cycle pin divisor : ℕ) (bytes ks : List ℕ) → AllAt n (map (sent_entry n cycle pin divisor bytes) ks)
sent-at n cycle pin divisor bytes [] = tt
sent-at n cycle pin divisor bytes (k ∷ ks) = (refl, sent-at n cycle pin divisor bytes ks)

entries-at : (n cycle pin divisor : ℕ) (bytes : List ℕ) (count : ℕ) → AllAt n (sent_entries n cycle pin divisor bytes count)
unfolding sent_entries
entries-at n cycle pin divisor bytes count = sent-at n cycle pin divisor bytes (range_with_len 0 count)

sent_grows : (n : ℕ) (s : Earlier) (cycle pin divisor : ℕ) (bytes : List ℕ) → GrowsOk n s (sent n s cycle pin divisor bytes)
sent_grows n s cycle pin divisor bytes =
    let whole = added n s cycle (sent_entries n cycle pin divisor bytes (sent_count bytes)) in
    let last = if are_bytes bytes then whole else Err (Bytes n) in
    let high = nat_lt divisor 64 || nat_lt 4194303 divisor in
    chosen n s (nat_lt 29 pin) (Err (Pin n)) (if high then Err (Divisor n) else last) tt
    (chosen n s high (Err (Divisor n)) last tt
    (chosen n s (are_bytes bytes) whole (Err (Bytes n)) (adds n s cycle (sent_entries n cycle pin divisor bytes (sent_count bytes)) (entries-at n cycle pin divisor bytes (sent_count bytes))) tt))

send_grows : (n : ℕ) (s : Earlier) (bytes : List ℕ) (cycle pin divisor : Option ℕ) → GrowsOk n s (send_numbers n s bytes cycle pin divisor)
send_grows n s bytes (Some cycle) (Some pin) (Some divisor) = sent_grows n s cycle pin divisor bytes
send_grows n s bytes (Some cycle) (Some pin) None = tt
send_grows n s bytes (Some cycle) None divisor = tt
send_grows n s bytes None pin divisor = tt

either_grows : (n : ℕ) (s : Earlier) (send : Option SendWords) (words : List (List ℕ)) → GrowsOk n s (after_either n s send words)
either_grows n s (Some send) words = send_grows n s send.bytes (number_of 10 10 send.cycle) (number_of 10 2 send.pin) (number_of 10 7 send.divisor)
either_grows n s None words = after_level_grows n s (level_words words)

line_grows : (sends : Bool) (n : ℕ) (s : Earlier) (line : List ℕ) → GrowsOk n s (after_line sends n s line)
unfolding after_line
line_grows sends n s line =
    let given = if sends then after_either n s (send_words (fields line)) (fields line) else after_level n s (level_words (fields line)) in
    chosen n s (is_skipped line) (Ok s) given (record { more = []; are = sym (append-nil s.entries); at = tt })
    (chosen n s sends (after_either n s (send_words (fields line)) (fields line)) (after_level n s (level_words (fields line)))
    (either_grows n s (send_words (fields line)) (fields line)) (after_level_grows n s (level_words (fields line))))

-- ---- a file

abbrev Lined : Result (List LineEntry) ScriptFault → Type 0
Lined (Err fault) = Unit {0}
Lined (Ok entries) = LinesFrom 0 entries

unless_lined : (n : ℕ) (s : Earlier) (next : Earlier → Result (List LineEntry) ScriptFault) (r : Result Earlier ScriptFault)
    → GrowsOk n s r → ((t : Earlier) → Grows n s t → Lined (next t)) → Lined (and_then next r)
unless_lined n s next (Err fault) g h = tt
unless_lined n s next (Ok t) g h = h t g

lines_lined : (sends : Bool) (n : ℕ) (s : Earlier) (lines : List (List ℕ)) → LinesFrom 0 s.entries → AllUpTo n s.entries → Lined (after_lines sends n s lines)
unfolding after_lines
lines_lined sends n s [] l u = l
lines_lined sends n s (line ∷ more) l u =
    unless_lined n s (λ t. after_lines sends (n + 1) t more) (after_line sends n s line) (line_grows sends n s line)
    (λ t g. lines_lined sends (n + 1) t more
    (subst (λ (es : List LineEntry). LinesFrom 0 es) (sym g.are) (from-append 0 n s.entries g.more (omega arith) l u g.at))
    (subst (λ (es : List LineEntry). AllUpTo (n + 1) es) (sym g.are) (up-append n s.entries g.more u g.at)))

either_lined : (b : Bool) (x y : Result (List LineEntry) ScriptFault) → Lined x → Lined y → Lined (if b then x else y)
either_lined true x y g h = g
either_lined false x y g h = h

headed_lined : (n : ℕ) (line : List ℕ) (more : List (List ℕ)) → Lined (headed n line more)
headed_lined n line more =
    let plain = after_lines false n nothing (line ∷ more) in
    let other = is_other_version line in
    either_lined (bytes_eq line (codes "version 2")) (after_lines true (n + 1) nothing more) (if other then Err (Version n) else plain)
    (lines_lined true (n + 1) nothing more tt tt)
    (either_lined other (Err (Version n)) (after_lines false n nothing (line ∷ more)) tt (lines_lined false n nothing (line ∷ more) tt tt))

of_lines_lined : (n : ℕ) (lines : List (List ℕ)) → Lined (of_lines n lines)
unfolding of_lines
of_lines_lined n [] = tt
of_lines_lined n (line ∷ more) = either_lined (is_skipped line) (of_lines (n + 1) more) (headed n line more) (of_lines_lined (n + 1) more) (headed_lined n line more)

entries_lined : (bytes : List ℕ) → Lined (entries_of bytes)
unfolding entries_of
entries_lined bytes = of_lines_lined 1 (lines bytes)

-- the script that is there
abbrev script_in : Result (List Entry) ScriptFault → List Entry
script_in (Ok script) = script
script_in (Err fault) = []

script_is : (bytes : List ℕ) (entries : List LineEntry) (script : List Entry) → entries_of bytes ≡ Ok entries → script_of bytes ≡ Ok script
    → script ≡ map without_line (in_order entries)
unfolding script_of
script_is bytes entries script h k = sym (ap script_in k) ∙ ap (λ r. script_in (map_ok (λ entries. map without_line (in_order entries)) r)) h

pub the_greatest_pair_of_a_file_acts : TheGreatestPairOfAFileActs
the_greatest_pair_of_a_file_acts bytes entries script cycle pin h k =
    ap (λ es. level_at es cycle pin) (script_is bytes entries script h k)
    ∙ the_greatest_pair_acts entries cycle pin (subst (λ (r : Result (List LineEntry) ScriptFault). Lined r) h (entries_lined bytes))
