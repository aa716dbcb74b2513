-- The words of a mailbox, and the launcher's answers.
use Rattle.std.proofs.Common.{◌≡◌, ◌≢◌, ℕ, zero, suc, ◌-◌, ◌^◌, ◌<◌, ◌==◌, nat_lt, Bool, true, false, not, ◌&&◌, inl, inr, cond, List, [], ◌∷◌, ◌++◌, length, refl, sym, ap, ap₂, ◌∙◌, arith, append_assoc}
use Rattle.std.specs.Prelude.{slice_get, drop, unwrap_or}
use Rattle.std.proofs.lemmas.Bool.{eq-eqb}
use Rattle.std.proofs.lemmas.Bool.Decides.{nat_tests, eqb_tells}
use Rattle.std.proofs.lemmas.Grind.{common_steps}
use Rattle.std.proofs.lemmas.List.{append-nil}
use Rattle.sio_block.specs.Mailbox.{front_of}
use Rattle.sio_block.specs.Side.{mailbox_written}
use Rattle.sio_block.specs.Launcher.{answer_to, word_taken, after_turn}
use Rattle.sio_block.specs.State.{State}
use Rattle.sio_block.specs.Words.{word_of}
use Rattle.sio_block.specs.MailLaws.{Post, core_of, words_of, posted, all_posted, coming, given_by, came, given, WordsStayInOrder, first_words, Fits, DoesNotFit, Answers, TheLauncherAnswers}
use Rattle.sio_block.specs.MailLaws.Post.{Sends, Takes}

some_word : (words : List ℕ) (w : ℕ) (rest : List ℕ) → words ≡ w ∷ rest → nat_lt 0 (length words) ≡ true
some_word [] w rest h = cc
some_word (x ∷ xs) w rest h = grind (arith, nat_tests, common_steps)

-- ---- one mailbox

sent_by : (w : ℕ) (ws : List ℕ) (b : Bool) → nat_lt (length ws) 8 ≡ b → mailbox_written (nat_lt (length ws) 8) 0x054 w ws ≡ ws ++ cond b (w ∷ []) []
sent_by w ws true h = rw h refl
sent_by w ws false h = rw h (sym (append-nil ws))

taken_by : (ws : List ℕ) → ws ≡ cond (nat_lt 0 (length ws)) (front_of ws ∷ []) [] ++ cond (nat_lt 0 (length ws)) (drop 1 ws) ws
taken_by [] = refl
taken_by (w ∷ ws) = sym (ap (λ b. cond b (w ∷ []) [] ++ cond b ws (w ∷ ws)) (some_word (w ∷ ws) w ws refl))

-- ---- one cycle

sent : (second : Bool) (w : ℕ) (s : State) →
    words_of (core_of (not second)) (posted second (Sends w) s)
    ≡ mailbox_written (nat_lt (length (words_of (core_of (not second)) s)) 8) 0x054 w (words_of (core_of (not second)) s)
sent true w s = refl
sent false w s = refl

took : (second : Bool) (s : State) →
    words_of (core_of (not second)) (posted second Takes s)
    ≡ cond (nat_lt 0 (length (words_of (core_of (not second)) s))) (drop 1 (words_of (core_of (not second)) s)) (words_of (core_of (not second)) s)
took true s = refl
took false s = refl

reads : (second : Bool) (s : State) →
    unwrap_or (word_of (core_of (not second)) 0x058 0 s) 0 ≡ front_of (words_of (core_of (not second)) s)
reads true s = refl
reads false s = refl

one_post : (second : Bool) (p : Post) (s : State) →
    words_of (core_of (not second)) s ++ coming p (words_of (core_of (not second)) s)
    ≡ given_by p (words_of (core_of (not second)) s) (word_of (core_of (not second)) 0x058 0 s)
    ++ words_of (core_of (not second)) (posted second p s)
one_post second (Sends w) s =
    sym (sent_by w (words_of (core_of (not second)) s) (nat_lt (length (words_of (core_of (not second)) s)) 8) refl) ∙ sym (sent second w s)
one_post second Takes s =
    let ws = words_of (core_of (not second)) s in
    let left = cond (nat_lt 0 (length ws)) (drop 1 ws) ws in
    let word = unwrap_or (word_of (core_of (not second)) 0x058 0 s) 0 in
    append-nil ws ∙ taken_by ws
    ∙ ap (λ x. cond (nat_lt 0 (length ws)) (x ∷ []) [] ++ left) (sym (reads second s))
    ∙ ap (λ l. cond (nat_lt 0 (length ws)) (word ∷ []) [] ++ l) (sym (took second s))

joined : (a b c d e : List ℕ) (f : List ℕ) → a ++ b ≡ c ++ d → d ++ e ≡ f → a ++ (b ++ e) ≡ c ++ f
joined a b c d e f h i = sym (append_assoc a b e) ∙ ap (λ l. l ++ e) h ∙ append_assoc c d e ∙ ap (λ l. c ++ l) i

pub stay_in_order : WordsStayInOrder
stay_in_order s second [] = append-nil (words_of (core_of (not second)) s)
stay_in_order s second (Sends w ∷ ps) =
    let r = core_of (not second) in
    let t = posted second (Sends w) s in
    joined (words_of r s) (coming (Sends w) (words_of r s)) [] (words_of r t) (came second ps t)
    (given second ps t ++ words_of r (all_posted second ps t)) (one_post second (Sends w) s) (stay_in_order t second ps)
stay_in_order s second (Takes ∷ ps) =
    let r = core_of (not second) in
    let t = posted second Takes s in
    let first = given_by Takes (words_of r s) (word_of r 0x058 0 s) in
    joined (words_of r s) (coming Takes (words_of r s)) first (words_of r t) (came second ps t)
    (given second ps t ++ words_of r (all_posted second ps t)) (one_post second Takes s) (stay_in_order t second ps)
    ∙ sym (append_assoc first (given second ps t) (words_of r (all_posted second ps t)))

-- ---- the launcher

some_room : (n : ℕ) → n < 8 → nat_lt n 8 ≡ true
some_room n h = grind (arith, nat_tests)

fits_by : (n w : ℕ) → Fits (slice_get first_words n) w → cond (nat_lt n 2) (w == 0) (cond (n == 2) (w == 1) true) ≡ true
fits_by zero w h = eq-eqb w 0 h
fits_by (suc zero) w h = eq-eqb w 0 h
fits_by (suc (suc zero)) w h = eq-eqb w 1 h
fits_by (suc (suc (suc n))) w h =
    let e : nat_lt (suc (suc (suc n))) 2 ≡ false = grind (arith, nat_tests) in
    let f : (suc (suc (suc n)) == 2) ≡ false = grind (arith, nat_tests) in
    rw (e, f) refl

not_equal : (w k : ℕ) → w ≢ k → (w == k) ≡ false
not_equal w k ne = elim (eqb_tells w k) [ inl same ↦ absurd (ne same.1) | inr other ↦ other.0 ]

refused_by : (n w : ℕ) → DoesNotFit (slice_get first_words n) w → cond (nat_lt n 2) (w == 0) (cond (n == 2) (w == 1) true) ≡ false
refused_by zero w h = not_equal w 0 h
refused_by (suc zero) w h = not_equal w 0 h
refused_by (suc (suc zero)) w h = not_equal w 1 h
refused_by (suc (suc (suc n))) w h = absurd h

turn_is : (s : State) (w : ℕ) (rest : List ℕ) → words_of 1 s ≡ w ∷ rest → length (words_of 0 s) < 8 → after_turn s ≡ word_taken w s
turn_is s w rest h room =
    ap₂ (λ a b. cond (a && b) (word_taken (front_of s.core1.mailbox) s) s) (some_word (words_of 1 s) w rest h) (some_room (length (words_of 0 s)) room)
    ∙ ap (λ l. word_taken (front_of l) s) h

answers_by : (s : State) (w answer : ℕ) (rest : List ℕ) → words_of 1 s ≡ w ∷ rest → length (words_of 0 s) < 8 → answer_to s.launched w ≡ answer →
    Answers s w answer rest
answers_by s w answer rest h room is =
    record {
      taken = ap (words_of 1) (turn_is s w rest h room) ∙ ap (λ l. drop 1 l) h;
      answered = ap (words_of 0) (turn_is s w rest h room)
          ∙ ap (λ b. cond b (words_of 0 s ++ answer_to s.launched w ∷ []) (words_of 0 s)) (some_room (length (words_of 0 s)) room)
          ∙ ap (λ a. words_of 0 s ++ a ∷ []) is;
    }

pub launcher_answers : TheLauncherAnswers
launcher_answers s w rest h room =
    record {
      echo = λ f. answers_by s w w rest h room (ap (λ b. cond b w (2 ^ 32 - 1 - w)) (fits_by (length s.launched) w f));
      refusal = λ f. answers_by s w (2 ^ 32 - 1 - w) rest h room (ap (λ b. cond b w (2 ^ 32 - 1 - w)) (refused_by (length s.launched) w f));
    }
