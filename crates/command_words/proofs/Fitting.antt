-- The parts that a command's words name fit those that are handed in.
use Rattle.std.proofs.Common.{◌≡◌, ℕ, ◌==◌, nat_eq, nat_le, nat_lt, Bool, true, false, not, ◌&&◌, List, [], ◌∷◌, ◌++◌, length, Option, Some, None, IfSome, refl, subst, arith}
use Rattle.std.specs.Prelude.{slice_index, if◌then◌else◌, ◌-◌, ◌^◌, codes}
use Rattle.std.specs.Str.{bytes_eq}
use Rattle.std.specs.List.{list_all, list_any}
use Rattle.std.proofs.lemmas.Grind.{common_steps}
use Rattle.std.proofs.lemmas.List.Folds.{list_all-append}
use Rattle.board_parts.specs.Part.{all_different}
use Rattle.board_parts.specs.Wiring.{Wired, all_fit}
use Rattle.command_words.specs.Lists.{cut, pieces, items_from, items_of, entry_of, share_machine, target_of, share_probe, wiring_of, share_part}
use Rattle.command_words.specs.Numbers.{given, number_below, number_within, number_of}
use Rattle.command_words.specs.Line.{line_in}
use Rattle.command_words.specs.Options.{NamedValue, settings_of, is_normal, value_for}
use Rattle.command_words.specs.Words.{words_of, side_of, Run, Subcommand, IsRead, parts_in, cycles_in, workers_in, run_reading, dis_reading, gen_reading, written, reading}

-- what holds of each value that the next step gives holds of what both give
given_all : {X Y : Type 0} (P : Y → Type 0) (o : Option X) (next : X → Option Y) → ((x : X) → o ≡ Some x → IfSome (next x) P)
    → IfSome (given o next) P
given_all P None next h = tt
given_all P (Some x) next h = h x refl

-- what holds of a value that is there
of_some : {X : Type 0} (P : X → Type 0) (o : Option X) (x : X) → IfSome o P → o ≡ Some x → P x
of_some {X} P o x h e = subst (λ (o : Option X). IfSome o P) e h

-- what holds of a choice
either : {X : Type 0} (P : X → Type 0) (b : Bool) (x y : Option X) → (b ≡ true → IfSome x P) → (b ≡ false → IfSome y P) → IfSome (if b then x else y) P
either P true x y h k = h refl
either P false x y h k = k refl

-- a number that is there passes its test
passes : (test : ℕ → Bool) (n : Option ℕ) (k : ℕ) → given n (λ m. if test m then Some m else None) ≡ Some k → test k ≡ true
passes test n k =
    let P : ℕ → Type 0 = λ m. test m ≡ true in
    of_some P _ k (given_all P n _ (λ m _. either P (test m) (Some m) None (λ e. e) (λ _. tt)))

-- what holds of some items, and with them of one more that clashes with none, holds of all that are read
items_keep : {X : Type 0} (read : List ℕ → Option X) (clash : X → X → Bool) (P : List X → Type 0)
    → ((items : List X) (text : List ℕ) (item : X) → read text ≡ Some item → list_any (clash item) items ≡ false → P items → P (items ++ item ∷ []))
    → (items : List X) (texts : List (List ℕ)) → P items → IfSome (items_from read clash items texts) P
items_keep read clash P more items [] h = h
items_keep read clash P more items (text ∷ texts) h = given_all P (read text) _ (λ item is.
    either P (list_any (clash item) items) None (items_from read clash (items ++ item ∷ []) texts) (λ _. tt) (λ apart.
    items_keep read clash P more (items ++ item ∷ []) texts (more items text item is apart h)))

-- one more pin that is none of those before it
one_more : (pins : List ℕ) (pin : ℕ) → all_different pins ≡ true → list_any (nat_eq pin) pins ≡ false → all_different (pins ++ pin ∷ []) ≡ true
one_more [] pin h apart = refl
one_more (p ∷ ps) pin h apart = grind (arith, common_steps, list_all-append (λ other. not (other == p)) ps (pin ∷ []), one_more ps pin)

-- pins that a part may be attached to
abbrev AreApart : List ℕ → Type 0
AreApart pins = (list_all (λ pin. nat_le pin 29) pins && all_different pins) ≡ true

pins_apart : (texts : List (List ℕ)) → IfSome (items_from (number_within 0 29) nat_eq [] texts) AreApart
pins_apart texts = items_keep (number_within 0 29) nat_eq AreApart (λ pins word pin is apart h.
    let low = passes (λ n. nat_le 0 n && nat_le n 29) (number_of word) pin is in
    grind (arith, common_steps, one_more pins pin, list_all-append (λ p. nat_le p 29) pins (pin ∷ []))) [] texts refl

-- entries that are of parts that are handed in, and of as many pins as these have
abbrev AllFit : List ℕ → List Wired → Type 0
AllFit parts wirings = all_fit parts wirings ≡ true

wiring_fits : (parts text : List ℕ) (w : Wired) → wiring_of parts text ≡ Some w → AllFit parts (w ∷ [])
unfolding wiring_of items_of
wiring_fits parts text w =
    let P : Wired → Type 0 = λ w. AllFit parts (w ∷ []) in
    of_some P _ w (given_all P (cut 61 text) _ (λ sides _. given_all P (number_below (length parts) sides.0) _ (λ index is.
    given_all P (items_of (number_within 0 29) nat_eq 43 (Some sides.1)) _ (λ pins listed.
    either P (length pins == slice_index parts index) _ None (λ long.
    let low : nat_lt index (length parts) ≡ true = passes (λ n. nat_lt n (length parts)) (number_of sides.0) index is in
    let apart : AreApart pins = of_some AreApart _ pins (pins_apart (pieces 43 sides.1)) listed in
    grind (arith, common_steps)) (λ _. tt)))))

wirings_fit : (parts : List ℕ) (list : Option (List ℕ)) → IfSome (items_of (wiring_of parts) share_part 44 list) (AllFit parts)
unfolding items_of
wirings_fit parts None = refl
wirings_fit parts (Some list) = items_keep (wiring_of parts) share_part (AllFit parts) (λ wirings text w is _ h.
    rw (list_all-append _ wirings (w ∷ []), h) (wiring_fits parts text w is)) [] (pieces 44 list) refl

run_fits : (probes : ℕ) (parts image : List ℕ) (settings : List NamedValue) → IfSome (run_reading probes parts image settings) (λ run. AllFit parts run.parts)
unfolding run_reading
run_fits probes parts image settings =
    let P : Run → Type 0 = λ run. AllFit parts run.parts in
    given_all P (cycles_in settings) _ (λ _ _. given_all P (items_of entry_of share_machine 44 (value_for (codes "--pio") settings)) _ (λ _ _.
    given_all P (items_of (target_of probes) share_probe 44 (value_for (codes "--probe") settings)) _ (λ _ _.
    let named = value_for (codes "--part") settings in
    given_all P (items_of (wiring_of parts) share_part 44 named) _ (λ wirings listed.
    given_all P (workers_in settings) _ (λ _ _. of_some (AllFit parts) _ wirings (wirings_fit parts named) listed)))))

-- the parts of a command fit those with so many pins
abbrev IsFitting : List ℕ → Subcommand → Type 0
IsFitting parts command = AllFit parts (parts_in command)

written_fits : (probes : ℕ) (parts : List ℕ) (words : List (List ℕ)) → IfSome (written probes parts words) (IsFitting parts)
unfolding written dis_reading gen_reading
written_fits probes parts [] = tt
written_fits probes parts (command ∷ []) = tt
written_fits probes parts (command ∷ argument ∷ options) =
    let s = settings_of options in
    let P = IsFitting parts in
    let of_run = λ (run : Run). λ (e : run_reading probes parts argument s ≡ Some run). of_some (λ r. AllFit parts r.parts) _ run (run_fits probes parts argument s) e in
    either P (bytes_eq command (codes "run")) _ _ (λ _. given_all P (run_reading probes parts argument s) _ of_run) (λ _.
    either P (bytes_eq command (codes "debug")) _ _ (λ _. given_all P (run_reading probes parts argument s) _ of_run) (λ _.
    either P (bytes_eq command (codes "dis")) _ _ (λ _. given_all P (words_of argument) _ (λ words _. given_all P (side_of s) _ (λ side _. refl))) (λ _.
    either P (bytes_eq command (codes "asm")) _ _ (λ _. refl) (λ _. either P (bytes_eq command (codes "thumb")) _ _ (λ _. refl) (λ _.
    either P (bytes_eq command (codes "gen")) _ _
    (λ _. given_all P (number_within 0 (2 ^ 64 - 1) argument) _ (λ m _. given_all P (cycles_in s) _ (λ n _. given_all P (workers_in s) _ (λ k _. refl)))) (λ _. tt))))))

-- the parts of the command that is read fit those that are handed in
pub read_parts_fit : (probes : ℕ) (parts : List ℕ) (command : Subcommand) → IsRead probes parts command → all_fit parts (parts_in command) ≡ true
unfolding reading
read_parts_fit probes parts command h = of_some (IsFitting parts) (reading probes parts h.0) command
    (either (IsFitting parts) (is_normal h.0) _ _ (λ _. written_fits probes parts h.0) (λ _. given_all (IsFitting parts) (line_in h.0) _ (λ line _. written_fits probes parts line))) h.1
