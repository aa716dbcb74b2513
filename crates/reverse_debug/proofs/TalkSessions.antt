-- What a session says to a line, as a talk says it.
use Rattle.reverse_debug.proofs.Shared.{Bad, Bool, Command, IfOk, List, Ok, Option, Quit, Replies, RepliesTo, Result, Sends, Setting, SinkFault, Standing, StandsFor, State, answer, ap, arith, command_cost, command_of, cost, false, first_of, given_bytes, heard, if◌then◌else◌, is_quit, length, length-take, move_cost, nat_le, nat_lt, nat_tests, not, refl, slice_index, spacing_of, strip_carriage_return, subst, sym, take, take_all, talk_of, talk_with, true, without_cr, ℕ, ◌+◌, ◌-◌, ◌<◌, ◌==◌, ◌∙◌, ◌≡◌, ◌≤◌}
use Rattle.reverse_debug.proofs.Moves.{quits_exactly}
use Rattle.reverse_debug.proofs.Talks.{nothing_sent}

-- ---- the reply to a line

-- the command that ends a session takes no step and moves nowhere
no_move : (d c : ℕ) → move_cost d c c ≡ 0
no_move d c = let isnt : nat_lt c c ≡ false = grind (arith, nat_tests) in rw isnt (omega arith)

quit_stays : (w : Setting) (f : State) (d cycle : ℕ) (q : Command) → is_quit q ≡ true → ((answer w f cycle q).cycle ≡ cycle) × (command_cost w f d cycle q ≡ 0)
quit_stays w f d cycle Quit is = (refl, no_move d cycle)
quit_stays w f d cycle _ is = absurd (cc is)

not_of : (a b m : Bool) → a ≡ b → m ≡ not a → b ≡ not m
not_of true b m e is = sym e ∙ ap not (sym is)
not_of false b m e is = sym e ∙ ap not (sym is)

pub replied_last : (w : Setting) (session : Standing) (line : List ℕ) (sent : Option (List ℕ)) (faults steps steps' at : ℕ) (m : Bool) → m ≡ not (heard w (first_of session) session.now.cycle line).quits → m ≡ false → at ≡ (heard w (first_of session) session.now.cycle line).cycle → steps ≤ steps' →
    steps' ≤ steps + cost w (first_of session) session.ring.spacing session.now.cycle line → RepliesTo (talk_with w session) session.now.cycle line sent sent faults faults steps steps' at (Ok false)
unfolding heard cost
replied_last w session line sent faults steps steps' at m quit is moved forward most =
    let last : is_quit (command_of line) ≡ true = not_of _ _ m (quits_exactly w (first_of session) session.now.cycle (command_of line)) quit ∙ ap not is in
    let stays = quit_stays w (first_of session) session.ring.spacing session.now.cycle (command_of line) last in
    rw last (record { sends = nothing_sent sent faults; stands = moved ∙ stays.0; forward = forward; most = subst (λ n. steps' ≤ steps + n) stays.1 most; more = refl })

pub replied_more : (w : Setting) (session : Standing) (line reply : List ℕ) (old new : Option (List ℕ)) (before now steps steps' at : ℕ) (m : Bool) (result : Result Bool SinkFault) → StandsFor w session → m ≡ not (heard w (first_of session) session.now.cycle line).quits → m ≡ true →
    reply ≡ (heard w (first_of session) session.now.cycle line).reply → at ≡ (heard w (first_of session) session.now.cycle line).cycle → steps ≤ steps' → steps' ≤ steps + cost w (first_of session) session.ring.spacing session.now.cycle line →
    IfOk result (λ more. false ≡ not more) → Sends old new before now reply result → RepliesTo (talk_with w session) session.now.cycle line old new before now steps steps' at result
unfolding heard cost
replied_more w session line reply old new before now steps steps' at m result k quit is said moved forward most more sends =
    let other : is_quit (command_of line) ≡ false = not_of _ _ m (quits_exactly w (first_of session) session.now.cycle (command_of line)) quit ∙ ap not is in
    rw other (record {
      sends = subst (λ text. Sends old new before now text result) said sends;
      stands = moved;
      forward = forward;
      most = subst (λ d. steps' ≤ steps + command_cost w (first_of session) d session.now.cycle (command_of line)) (k.spacing ∙ ap spacing_of k.limit) most;
      more = more;
    })

-- what asks for the same has the same reply
pub replied_same : (w : Setting) (f : State) (cycle : ℕ) (one other : List ℕ) (old new : Option (List ℕ)) (before now steps steps' at : ℕ) (result : Result Bool SinkFault) → command_of one ≡ command_of other → RepliesTo (talk_of w f) cycle one old new before now steps steps' at result → RepliesTo (talk_of w f) cycle other old new before now steps steps' at result
unfolding heard cost
replied_same w f cycle one other old new before now steps steps' at result e h =
    subst (λ (q : Command). Replies (is_quit q) (answer w f cycle q).reply cycle (answer w f cycle q).cycle (command_cost w f (spacing_of w.limit) cycle q) old new before now steps steps' at result) e h

-- ---- the first bytes of a line

too_long : (line : List ℕ) → 255 < length line → command_of line ≡ Bad
unfolding command_of
too_long line lt = let no : nat_le (length line) 255 ≡ false = grind (arith, lt) in rw no refl

-- without a CR a line is shorter by one byte at most
less_by_one : (line : List ℕ) → length line ≤ length (strip_carriage_return line) + 1
less_by_one line = elim (slice_index line (length line - 1) == 13) as (λ b. length line ≤ length (if b then take (length line - 1) line else line) + 1) [
  | true ↦ omega (arith, length-take (length line - 1) line)
  | false ↦ omega arith
]

-- the bytes that are given of a longer line are no command, as the line is none
same_first : (f : List ℕ → List ℕ) → ((l : List ℕ) → length l ≤ length (f l) + 1) → (whole : List ℕ) (b : Bool) → nat_le (length whole) given_bytes ≡ b → command_of (f (take given_bytes whole)) ≡ command_of (f whole)
same_first f keeps whole true is = ap (λ x. command_of (f x)) (take_all given_bytes whole (grind (arith, is)))
same_first f keeps whole false is =
    let long : given_bytes < length whole = grind (arith, is) in
    let first : length (take given_bytes whole) ≡ 257 = omega (arith, length-take given_bytes whole, long) in
    too_long (f (take given_bytes whole)) (omega (arith, keeps (take given_bytes whole), first)) ∙ sym (too_long (f whole) (omega (arith, keeps whole, long)))

pub same_line : (line whole : List ℕ) → line ≡ without_cr (take given_bytes whole) → command_of line ≡ command_of (without_cr whole)
same_line line whole is = ap command_of is ∙ same_first strip_carriage_return less_by_one whole (nat_le (length whole) given_bytes) refl

pub same_open : (line whole : List ℕ) → line ≡ take given_bytes whole → command_of line ≡ command_of whole
same_open line whole is = ap command_of is ∙ same_first (λ l. l) (λ l. omega arith) whole (nat_le (length whole) given_bytes) refl
