-- The lines of a file, one after the other.
use Rattle.std.proofs.Common.{◌≡◌, ℕ, ◌+◌, Bool, true, false, List, [], ◌∷◌, length, map, Ok, Err, refl, ap, ◌∙◌, arith}
use Rattle.std.specs.Str.Lines.{lines}
use Rattle.pin_script.specs.declared.entry.LineEntry.{LineEntry}
use Rattle.pin_script.specs.declared.fault.ScriptFault.{ScriptFault}
use Rattle.pin_script.specs.Lines.{Earlier, after_line, is_skipped}
use Rattle.pin_script.specs.declared.entry.Entry.{Entry}
use Rattle.pin_script.specs.Script.{after_lines, entries_of, headed, in_order, nothing, of_lines, script_of, without_line}

pub start : (bytes : List ℕ) → entries_of bytes ≡ of_lines 1 (lines bytes)
unfolding entries_of
start bytes = refl

-- ---- before the first line that is not skipped

pub skip_more : (bytes rest line after : List ℕ) (n : ℕ) → entries_of bytes ≡ of_lines n (lines rest) → lines rest ≡ line ∷ lines after →
    is_skipped line ≡ true → entries_of bytes ≡ of_lines (n + 1) (lines after)
unfolding of_lines
skip_more bytes rest line after n h i skipped = h ∙ ap (of_lines n) i ∙ rw skipped refl

pub head_here : (bytes rest line after : List ℕ) (n : ℕ) → entries_of bytes ≡ of_lines n (lines rest) → lines rest ≡ line ∷ lines after →
    is_skipped line ≡ false → entries_of bytes ≡ headed n line (lines after)
unfolding of_lines
head_here bytes rest line after n h i first = h ∙ ap (of_lines n) i ∙ rw first refl

pub head_none : (bytes rest : List ℕ) (n : ℕ) → entries_of bytes ≡ of_lines n (lines rest) → length rest ≡ 0 →
    entries_of bytes ≡ after_lines false n nothing (lines rest)
unfolding of_lines after_lines
head_none bytes [] n h none = h
head_none bytes (x ∷ rest) n h none = absurd (omega arith)

-- ---- the lines after it

pub lines_more : (bytes rest line after : List ℕ) (sends : Bool) (n : ℕ) (s s' : Earlier) → entries_of bytes ≡ after_lines sends n s (lines rest) →
    lines rest ≡ line ∷ lines after → after_line sends n s line ≡ Ok s' → entries_of bytes ≡ after_lines sends (n + 1) s' (lines after)
unfolding after_lines
lines_more bytes rest line after sends n s s' h i j = h ∙ ap (after_lines sends n s) i ∙ rw j refl

pub lines_fault : (bytes rest line after : List ℕ) (sends : Bool) (n : ℕ) (s : Earlier) (fault : ScriptFault) → entries_of bytes ≡ after_lines sends n s (lines rest) →
    lines rest ≡ line ∷ lines after → after_line sends n s line ≡ Err fault → entries_of bytes ≡ Err fault
unfolding after_lines
lines_fault bytes rest line after sends n s fault h i j = h ∙ ap (after_lines sends n s) i ∙ rw j refl

pub lines_end : (bytes rest : List ℕ) (sends : Bool) (n : ℕ) (s : Earlier) → entries_of bytes ≡ after_lines sends n s (lines rest) → length rest ≡ 0 →
    entries_of bytes ≡ Ok s.entries
unfolding after_lines
lines_end bytes [] sends n s h none = h
lines_end bytes (x ∷ rest) sends n s h none = absurd (omega arith)

-- ---- the script

pub script_ok : (bytes : List ℕ) (entries : List LineEntry) (script : List Entry) → entries_of bytes ≡ Ok entries →
    script ≡ map without_line (in_order entries) → script_of bytes ≡ Ok script
unfolding script_of
script_ok bytes entries script h i = rw (h, i) refl

pub script_fault : (bytes : List ℕ) (fault : ScriptFault) → entries_of bytes ≡ Err fault → script_of bytes ≡ Err fault
unfolding script_of
script_fault bytes fault h = rw h refl
