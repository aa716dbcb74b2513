-- A channel's sequence, cycle by cycle.
use Rattle.std.proofs.Common.{◌≡◌, ◌≢◌, ℕ, zero, suc, ◌+◌, ◌-◌, ◌/◌, ◌%◌, ◌^◌, ◌<◌, ◌==◌, ◌&&◌, ◌||◌, ◌⊎◌, inl, inr, not, Bool, true, false, cond, List, [], ◌∷◌, ◌++◌, map, drop, length, refl, sym, ap, ap₂, subst, ◌∙◌, arith, true≢false, append_assoc, append-nil, length-append, Option, Some, None, option_to_list}
use Rattle.std.specs.Prelude.{nat_lt, slice_get}
use Rattle.std.specs.List.{filter, list_any}
use Rattle.std.proofs.lemmas.Bool.Decides.{nat_tests}
use Rattle.std.proofs.lemmas.List.{length-set, get_or-set_same, get_or-set_other}
use Rattle.rp_base.specs.declared.Request.{Request}
use Rattle.rp_base.specs.declared.Master.TheVariants.{DmaRead, DmaWrite}
use Rattle.rp_base.specs.declared.map.Spot.{Spot}
use Rattle.rp_base.specs.declared.map.Spot.TheVariants as spot
use Rattle.rp_base.specs.Map.{place_of}
use Rattle.rp_base.specs.Word.{bit_number}
use Rattle.lane_look.specs.declared.lane.Ask.{Ask}
use Rattle.lane_look.specs.declared.lane.Ask.TheVariants.{Pacing}
use Rattle.lane_look.specs.Asking.{answered}
use Rattle.lane_look.specs.Asking.Asking.{Question}
use Rattle.dma_engine.specs.declared.channel.Channel.{Channel}
use Rattle.dma_engine.specs.declared.waiting.WaitingWrite.{WaitingWrite}
use Rattle.dma_engine.specs.declared.begun.Access.{Access}
use Rattle.dma_engine.specs.declared.begun.Access.TheVariants as access
use Rattle.dma_engine.specs.declared.begun.BegunTransfer.{BegunTransfer}
use Rattle.dma_engine.specs.Asks.{may_be_device, outside, elsewhere, first_write, write_at, write_for, write_begun, read_for, next_request, asks_at, asks_for, asks_read, waits_for_counts, asks}
use Rattle.dma_engine.specs.Channel.{changed, in_turn}
use Rattle.dma_engine.specs.Choice.{is_ready, choice_of}
use Rattle.dma_engine.specs.Control.{is_high}
use Rattle.dma_engine.specs.Cycle.{want_of, is_chosen, has_write, is_in_flight, is_over, after_ends, word_of, word_read, with_data, with_read_by, with_read, after_read, is_written, after_write, counted, with_chosen, choice_where_none, after_choice, after_read_of, after_write_of, after_transfers, next}
use Rattle.dma_engine.specs.Laws.{IsFirst, IsChoice}
use Rattle.dma_engine.specs.State.{State as Engine, idle_channel, channel_at}
use Rattle.dma_engine.specs.Timer.{gets_credit, credited, with_credit, with_stepped_timers, after_timers}
use Rattle.dma_engine.specs.Transfer.{rounded, moved, data_of, read_of, write_after, request_of}
use Rattle.dma_engine.specs.Control.{size_by}
use Rattle.dma_engine.proofs.First.{choice_comes_first}
use Rattle.dma_laws.specs.Copies.{Cycle, begun_in, after, granted, word_by, read_by, is_first, written_by, waiting_of, reads_from, writes_from, AreCycles, end_of, words_over, reads_over, written_over, in_hand, ACopyIsExactOnAnyChannel}
use Rattle.dma_laws.proofs.Views.{equal_or_not, changed_same, changed_other, changed_beside, Beside, turns_same}

-- ---- what is begun

-- nothing is read; or a word is, by the access that was next
abbrev ReadIs : Option Request → Access → Option ℕ → Type 0
ReadIs r a u =
    ((word_read a u ≡ None) × (granted u (want_of a) ≡ []))
    ⊎ ((q : Request) × (word : ℕ) × (r ≡ Some q) × (word_read a u ≡ Some word) × (granted u (want_of a) ≡ q ∷ []))

-- the same of a write
abbrev WriteIs : Option Request → Access → Option ℕ → Type 0
WriteIs r a u =
    ((is_written a u ≡ false) × (granted u (want_of a) ≡ []))
    ⊎ ((q : Request) × (r ≡ Some q) × (is_written a u ≡ true) × (granted u (want_of a) ≡ q ∷ []))

no_read : (r : Option Request) (u : Option ℕ) → ReadIs r access.Nothing u
no_read r None = inl (refl, refl)
no_read r (Some x) = inl (refl, refl)

read_outside : (q : Request) (b : Bool) (u : Option ℕ) → ReadIs (Some q) (cond b (access.Outward q) (outside DmaRead q)) u
read_outside q true None = inl (refl, refl)
read_outside q true (Some x) = inr (q, x, refl, refl, refl)
read_outside q false None = inl (refl, refl)
read_outside q false (Some x) = inl (refl, refl)

read_elsewhere : (q : Request) (p : Spot) (u : Option ℕ) → ReadIs (Some q) (elsewhere DmaRead q p) u
read_elsewhere q (spot.Reg block offset alias) u = read_outside q true u
read_elsewhere q spot.Outside u = read_outside q (may_be_device q.address) u
read_elsewhere q _ u = read_outside q false u

read_told : (q : Request) (word : ℕ) (u : Option ℕ) → ReadIs (Some q) (access.Read q word) u
read_told q word None = inl (refl, refl)
read_told q word (Some x) = inr (q, word, refl, refl, refl)

record Begun (e : Engine) (b : BegunTransfer) (r : Option Request) : Type 0 where
  read : (u : Option ℕ) → ReadIs r b.read u
  write : b.write ≡ write_begun e

begun_at : (f : Ask → ℕ) (e : Engine) (x : ℕ) (q : Request) (p : Spot) → Begun e (answered f (asks_at x (write_begun e) q p)) (Some q)
begun_at f e x q (spot.Ram index bank) = record { read = λ u. read_told q _ u; write = refl }
begun_at f e x q (spot.Reg block offset alias) = record { read = λ u. read_elsewhere q (spot.Reg block offset alias) u; write = refl }
begun_at f e x q (spot.Sio offset) = record { read = λ u. read_elsewhere q (spot.Sio offset) u; write = refl }
begun_at f e x q (spot.Ppb offset) = record { read = λ u. read_elsewhere q (spot.Ppb offset) u; write = refl }
begun_at f e x q spot.Outside = record { read = λ u. read_elsewhere q spot.Outside u; write = refl }

begun_for : (f : Ask → ℕ) (e : Engine) (x : ℕ) (r : Option Request) → Begun e (answered f (asks_for x (write_begun e) r)) r
begun_for f e x None = record { read = λ u. no_read None u; write = refl }
begun_for f e x (Some q) = begun_at f e x q (place_of q.address)

begun_of : (f : Ask → ℕ) (e : Engine) → Begun e (answered f (asks e)) (next_request e)
unfolding asks asks_read
begun_of f e = go (list_any waits_for_counts e.channels)
  where
    go : (b : Bool) → Begun e (answered f (cond b (Question Pacing (λ counts. asks_read counts e)) (asks_read 0 e))) (next_request e)
    go true = begun_for f e (f Pacing) (next_request e)
    go false = begun_for f e 0 (next_request e)

-- ---- the write that is begun

no_write : (r : Option Request) (u : Option ℕ) → WriteIs r access.Nothing u
no_write r None = inl (refl, refl)
no_write r (Some x) = inl (refl, refl)

write_out : (q : Request) (b : Bool) (u : Option ℕ) → WriteIs (Some q) (cond b (access.Outward q) (outside DmaWrite q)) u
write_out q true None = inl (refl, refl)
write_out q true (Some x) = inr (q, refl, refl, refl)
write_out q false None = inl (refl, refl)
write_out q false (Some x) = inl (refl, refl)

write_in : (q : Request) (u : Option ℕ) → WriteIs (Some q) (access.Write q) u
write_in q None = inl (refl, refl)
write_in q (Some x) = inr (q, refl, refl, refl)

write_place : (q : Request) (p : Spot) (u : Option ℕ) → WriteIs (Some q) (write_at q p) u
write_place q (spot.Ram index bank) u = write_in q u
write_place q (spot.Reg block offset alias) u = write_out q true u
write_place q spot.Outside u = write_out q (may_be_device q.address) u
write_place q _ u = write_out q false u

write_is : (r : Option Request) (u : Option ℕ) → WriteIs r (write_for r) u
write_is None u = no_write None u
write_is (Some q) u = write_place q (place_of q.address) u

begun_write_is : (e : Engine) (u : Option ℕ) → WriteIs (first_write e.waiting) (write_begun e) u
unfolding write_begun
begun_write_is e u = write_is (first_write e.waiting) u

-- ---- the read that is next

record NextIs (e : Engine) (q : Request) : Type 0 where
  n : ℕ
  chosen : e.chosen ≡ Some n
  room : nat_lt (length e.waiting) 2 ≡ true
  number : nat_lt n 12 ≡ true
  is : q ≡ read_of (channel_at n e)

none_some : {A B : Type 0} (a : A) → None ≡ Some a → B
none_some a h = absurd (cc)

same_some : {A : Type 0} (a b : A) → Some a ≡ Some b → a ≡ b
same_some a b h = cc

next_is : (e : Engine) (q : Request) → next_request e ≡ Some q → NextIs e q
unfolding next_request
next_is e q h = room (nat_lt (length e.waiting) 2) refl h
  where
    number : (n : ℕ) (b : Bool) → nat_lt (length e.waiting) 2 ≡ true → e.chosen ≡ Some n → nat_lt n 12 ≡ b → cond b (Some (read_of (channel_at n e))) None ≡ Some q → NextIs e q
    number n true r c l h = record { n = n; chosen = c; room = r; number = l; is = sym (same_some (read_of (channel_at n e)) q h) }
    number n false r c l h = none_some q h

    chosen : (o : Option ℕ) → nat_lt (length e.waiting) 2 ≡ true → e.chosen ≡ o → read_for o e ≡ Some q → NextIs e q
    chosen None r c h = none_some q h
    chosen (Some n) r c h = number n (nat_lt n 12) r c refl h

    room : (b : Bool) → nat_lt (length e.waiting) 2 ≡ b → cond b (read_for e.chosen e) None ≡ Some q → NextIs e q
    room true r h = chosen e.chosen r refl h
    room false r h = none_some q h

-- ---- what is seen of a channel

record At (k : ℕ) (x : Engine) (d : Channel) (o : Option ℕ) (ws : List WaitingWrite) : Type 0 where
  channel : channel_at k x ≡ d
  chosen : x.chosen ≡ o
  waiting : x.waiting ≡ ws
  twelve : length x.channels ≡ 12

-- those of the channel
abbrev of : ℕ → List WaitingWrite → List Request
of k ws = map request_of (filter (λ (w : WaitingWrite). is_chosen k (Some w.channel)) ws)

abbrev after_moves : Option ℕ → Channel → Channel
after_moves None c = c
after_moves (Some word) c = moved c

abbrev one_read : Option ℕ → Channel → List Request
one_read None c = []
one_read (Some word) c = read_of c ∷ []

abbrev one_write : ℕ → Option ℕ → Channel → List Request
one_write k None c = []
one_write k (Some word) c = request_of (write_after k c word) ∷ []

of_chosen : (k : ℕ) (w : WaitingWrite) (ws : List WaitingWrite) (b : Bool) → is_chosen k (Some w.channel) ≡ b → of k (w ∷ ws) ≡ cond b (request_of w ∷ of k ws) (of k ws)
of_chosen k w ws true e = ap (λ b. map request_of (cond b (w ∷ filter (λ (v : WaitingWrite). is_chosen k (Some v.channel)) ws) (filter (λ (v : WaitingWrite). is_chosen k (Some v.channel)) ws))) e
of_chosen k w ws false e = ap (λ b. map request_of (cond b (w ∷ filter (λ (v : WaitingWrite). is_chosen k (Some v.channel)) ws) (filter (λ (v : WaitingWrite). is_chosen k (Some v.channel)) ws))) e

of_append : (k : ℕ) (ws vs : List WaitingWrite) → of k (ws ++ vs) ≡ of k ws ++ of k vs
of_append k [] vs = refl
of_append k (w ∷ ws) vs = go (is_chosen k (Some w.channel)) refl (of_append k ws vs)
  where
    go : (b : Bool) → is_chosen k (Some w.channel) ≡ b → of k (ws ++ vs) ≡ of k ws ++ of k vs → of k (w ∷ (ws ++ vs)) ≡ of k (w ∷ ws) ++ of k vs
    go true e rest = of_chosen k w (ws ++ vs) true e ∙ ap (λ l. request_of w ∷ l) rest ∙ ap (λ l. l ++ of k vs) (sym (of_chosen k w ws true e))
    go false e rest = of_chosen k w (ws ++ vs) false e ∙ rest ∙ ap (λ l. l ++ of k vs) (sym (of_chosen k w ws false e))

eq_itself : (n : ℕ) → (n == n) ≡ true
eq_itself n = grind (arith, nat_tests)

eq_other : (n k : ℕ) → k ≢ n → (n == k) ≡ false
eq_other n k apart = go (n == k) refl
  where
    is_number : (n == k) ≡ true → n ≡ k
    is_number h = grind (arith, nat_tests, h)

    go : (b : Bool) → (n == k) ≡ b → (n == k) ≡ false
    go true e = absurd (apart (sym (is_number e)))
    go false e = e

-- ---- the read of a cycle

record Reading (k : ℕ) (t : Cycle) (x : Engine) : Type 0 where
  o : Option ℕ
  more : List WaitingWrite
  at : At k x (after_moves (word_by k t) (channel_at k t.engine)) o (t.engine.waiting ++ more)
  hand : bit_number (is_chosen k o) + length (option_to_list (word_by k t)) ≡ in_hand k t.engine
  reads : read_by k t ≡ one_read (word_by k t) (channel_at k t.engine)
  writes : of k more ≡ one_write k (word_by k t) (channel_at k t.engine)

-- where no word comes to the channel, whatever it has in hand
record NoWord (k : ℕ) (t : Cycle) : Type 0 where
  word : word_by k t ≡ None
  read : read_by k t ≡ []

none_either : (k : ℕ) (t : Cycle) (b : Bool) → is_chosen k t.engine.chosen ≡ b → word_read (begun_in t).read (word_of (slice_get t.turns 0)) ≡ None
    → granted (word_of (slice_get t.turns 0)) (want_of (begun_in t).read) ≡ [] → NoWord k t
none_either k t true e w g = record {
  word = ap (λ b. cond b (word_read (begun_in t).read (word_of (slice_get t.turns 0))) None) e ∙ w;
  read = ap (λ b. cond b (granted (word_of (slice_get t.turns 0)) (want_of (begun_in t).read)) []) e ∙ g;
}
none_either k t false e w g = record {
  word = ap (λ b. cond b (word_read (begun_in t).read (word_of (slice_get t.turns 0))) None) e;
  read = ap (λ b. cond b (granted (word_of (slice_get t.turns 0)) (want_of (begun_in t).read)) []) e;
}

reading_none : (k : ℕ) (t : Cycle) (x : Engine) → NoWord k t → At k x (channel_at k t.engine) t.engine.chosen t.engine.waiting → Reading k t x
reading_none k t x nothing at = record {
  o = t.engine.chosen;
  more = [];
  at = record {
    channel = at.channel ∙ ap (λ w. after_moves w (channel_at k t.engine)) (sym nothing.word);
    chosen = at.chosen;
    waiting = at.waiting ∙ sym (append-nil t.engine.waiting);
    twelve = at.twelve;
  };
  hand = let e : length (option_to_list (word_by k t)) ≡ 0 = ap (λ w. length (option_to_list w)) nothing.word in omega (arith, e);
  reads = nothing.read ∙ ap (λ w. one_read w (channel_at k t.engine)) (sym nothing.word);
  writes = ap (λ w. one_write k w (channel_at k t.engine)) (sym nothing.word);
}

-- a word comes to the channel of that number
abbrev with_word : ℕ → ℕ → Engine → Engine
with_word word n x = with_data word n (channel_at n x) x

read_goes : (word n : ℕ) (x : Engine) → nat_lt (length x.waiting) 2 ≡ true → x.chosen ≡ Some n → nat_lt n 12 ≡ true → with_read word x ≡ with_word word n x
unfolding with_read
read_goes word n x room chosen number =
    ap (λ b. cond b (with_read_by word x.chosen x) x) room ∙ ap (λ o. with_read_by word o x) chosen ∙ ap (λ b. cond b (with_word word n x) x) number

write_channel : (n : ℕ) (c : Channel) (word : ℕ) → (write_after n c word).channel ≡ n
unfolding write_after
write_channel n c word = refl

word_same : (k word : ℕ) (x : Engine) (d : Channel) (o : Option ℕ) (ws : List WaitingWrite) → k < 12 → At k x d o ws
    → At k (with_word word k x) (moved d) None (ws ++ write_after k d word ∷ [])
word_same k word x d o ws low at = record {
  channel = get_or-set_same x.channels k (moved (channel_at k x)) idle_channel (omega (arith, low, at.twelve)) ∙ ap moved at.channel;
  chosen = refl;
  waiting = ap₂ (λ vs c. vs ++ write_after k c word ∷ []) at.waiting at.channel;
  twelve = length-set x.channels k (moved (channel_at k x)) ∙ at.twelve;
}

word_other : (n k word : ℕ) (x : Engine) (d : Channel) (o : Option ℕ) (ws : List WaitingWrite) → k ≢ n → At k x d o ws
    → At k (with_word word n x) d None (ws ++ write_after n (channel_at n x) word ∷ [])
word_other n k word x d o ws apart at = record {
  channel = get_or-set_other x.channels n k (moved (channel_at n x)) idle_channel apart ∙ at.channel;
  chosen = refl;
  waiting = ap (λ vs. vs ++ write_after n (channel_at n x) word ∷ []) at.waiting;
  twelve = length-set x.channels n (moved (channel_at n x)) ∙ at.twelve;
}

reading_same : (k : ℕ) (t : Cycle) (x : Engine) (q : Request) (word : ℕ) → k < 12 → At k x (channel_at k t.engine) t.engine.chosen t.engine.waiting
    → t.engine.chosen ≡ Some k → q ≡ read_of (channel_at k t.engine) → word_read (begun_in t).read (word_of (slice_get t.turns 0)) ≡ Some word
    → granted (word_of (slice_get t.turns 0)) (want_of (begun_in t).read) ≡ q ∷ [] → Reading k t (with_word word k x)
reading_same k t x q word low at chosen is w g =
    let c = channel_at k t.engine in
    let mine : is_chosen k t.engine.chosen ≡ true = ap (is_chosen k) chosen ∙ eq_itself k in
    let by : word_by k t ≡ Some word = ap (λ b. cond b (word_read (begun_in t).read (word_of (slice_get t.turns 0))) None) mine ∙ w in
    let now = word_same k word x c t.engine.chosen t.engine.waiting low at in
    record {
      o = None;
      more = write_after k c word ∷ [];
      at = record {
        channel = now.channel ∙ ap (λ v. after_moves v c) (sym by);
        chosen = now.chosen;
        waiting = now.waiting;
        twelve = now.twelve;
      };
      hand =
          let none : bit_number (is_chosen k None) ≡ 0 = refl in
          let long : length (option_to_list (word_by k t)) ≡ in_hand k t.engine = ap (λ v. length (option_to_list v)) by ∙ ap bit_number (sym mine) in
          omega (arith, none, long);
      reads = ap (λ b. cond b (granted (word_of (slice_get t.turns 0)) (want_of (begun_in t).read)) []) mine ∙ g ∙ ap (λ r. r ∷ []) is ∙ ap (λ v. one_read v c) (sym by);
      writes = of_chosen k (write_after k c word) [] true (ap (λ (m : ℕ). m == k) (write_channel k c word) ∙ eq_itself k) ∙ ap (λ v. one_write k v c) (sym by);
    }

reading_other : (n k : ℕ) (t : Cycle) (x : Engine) (word : ℕ) → k ≢ n → At k x (channel_at k t.engine) t.engine.chosen t.engine.waiting
    → t.engine.chosen ≡ Some n → Reading k t (with_word word n x)
reading_other n k t x word apart at chosen =
    let c = channel_at k t.engine in
    let mine : is_chosen k t.engine.chosen ≡ false = ap (is_chosen k) chosen ∙ eq_other n k apart in
    let by : word_by k t ≡ None = ap (λ b. cond b (word_read (begun_in t).read (word_of (slice_get t.turns 0))) None) mine in
    let now = word_other n k word x c t.engine.chosen t.engine.waiting apart at in
    record {
      o = None;
      more = write_after n (channel_at n x) word ∷ [];
      at = record {
        channel = now.channel ∙ ap (λ v. after_moves v c) (sym by);
        chosen = now.chosen;
        waiting = now.waiting;
        twelve = now.twelve;
      };
      hand =
          let none : bit_number (is_chosen k None) ≡ 0 = refl in
          let long : length (option_to_list (word_by k t)) ≡ in_hand k t.engine = ap (λ v. length (option_to_list v)) by ∙ ap bit_number (sym mine) in
          omega (arith, none, long);
      reads = ap (λ b. cond b (granted (word_of (slice_get t.turns 0)) (want_of (begun_in t).read)) []) mine ∙ ap (λ v. one_read v c) (sym by);
      writes = of_chosen k (write_after n (channel_at n x) word) [] false (ap (λ (m : ℕ). m == k) (write_channel n (channel_at n x) word) ∙ eq_other n k apart)
          ∙ ap (λ v. one_write k v c) (sym by);
    }

reading : (k : ℕ) (t : Cycle) (x : Engine) → k < 12 → At k x (channel_at k t.engine) t.engine.chosen t.engine.waiting
    → Reading k t (after_read_of (begun_in t) t.turns x)
reading k t x low at = elim ((begun_of t.answers t.engine).read (word_of (slice_get t.turns 0))) [
  | inl none ↦
      subst (λ w. Reading k t (after_read w x)) (sym none.0)
      (reading_none k t x (none_either k t (is_chosen k t.engine.chosen) refl none.0 none.1) at)
  | inr some ↦
      let is = next_is t.engine some.0 some.2 in
      subst (λ w. Reading k t (after_read w x)) (sym some.3)
      (subst (λ y. Reading k t y)
      (sym (read_goes some.1 is.n x (ap (λ (ws : List WaitingWrite). nat_lt (length ws) 2) at.waiting ∙ is.room) (at.chosen ∙ is.chosen) is.number))
      (elim (equal_or_not is.n k) [
        | inl same ↦
            subst (λ m. Reading k t (with_word some.1 m x)) (sym same)
            (reading_same k t x some.0 some.1 low at (is.chosen ∙ ap Some same) (is.is ∙ ap (λ m. read_of (channel_at m t.engine)) same) some.3 some.4)
        | inr apart ↦ reading_other is.n k t x some.1 (λ e. apart (sym e)) at is.chosen
      ]))
]

-- ---- the write of a cycle

record Writing (k : ℕ) (t : Cycle) (d : Channel) (o : Option ℕ) (more : List WaitingWrite) (x : Engine) : Type 0 where
  rest : List WaitingWrite
  at : At k x d o rest
  writes : of k (t.engine.waiting ++ more) ≡ written_by k t ++ of k rest

either_none : (b : Bool) (g : List Request) → g ≡ [] → cond b g [] ≡ []
either_none true g h = h
either_none false g h = refl

record FirstIs (ws : List WaitingWrite) (q : Request) : Type 0 where
  w : WaitingWrite
  left : List WaitingWrite
  all : ws ≡ w ∷ left
  is : q ≡ request_of w

first_is : (ws : List WaitingWrite) (q : Request) → first_write ws ≡ Some q → FirstIs ws q
first_is [] q h = none_some q h
first_is (w ∷ ws) q h = record { w = w; left = ws; all = refl; is = sym (same_some (request_of w) q h) }

one_goes : (k : ℕ) (w : WaitingWrite) (ws : List WaitingWrite) (b : Bool) → is_chosen k (Some w.channel) ≡ b
    → of k (w ∷ ws) ≡ cond b (request_of w ∷ []) [] ++ of k ws
one_goes k w ws true e = of_chosen k w ws true e
one_goes k w ws false e = of_chosen k w ws false e

writing : (k : ℕ) (t : Cycle) (d : Channel) (o : Option ℕ) (more : List WaitingWrite) (x : Engine)
    → At k x d o (t.engine.waiting ++ more) → Writing k t d o more (after_write_of (begun_in t) t.turns x)
writing k t d o more x at =
    let u = word_of (slice_get t.turns 1) in
    let begun = (begun_of t.answers t.engine).write in
    elim (subst (λ a. WriteIs (first_write t.engine.waiting) a u) (sym begun) (begun_write_is t.engine u)) [
      | inl none ↦
          subst (λ b. Writing k t d o more (after_write b x)) (sym none.0)
          (record {
            rest = t.engine.waiting ++ more;
            at = at;
            writes = ap (λ g. g ++ of k (t.engine.waiting ++ more))
                (sym (either_none (is_first k t.engine.waiting) (granted u (want_of (begun_in t).write)) none.1));
          })
      | inr some ↦
          let first = first_is t.engine.waiting some.0 some.1 in
          subst (λ b. Writing k t d o more (after_write b x)) (sym some.2)
          (record {
            rest = first.left ++ more;
            at = record {
              channel = at.channel;
              chosen = at.chosen;
              waiting = ap (drop 1) (at.waiting ∙ ap (λ ws. ws ++ more) first.all);
              twelve = at.twelve;
            };
            writes =
                ap (λ ws. of k (ws ++ more)) first.all
                ∙ one_goes k first.w (first.left ++ more) (is_chosen k (Some (first.w).channel)) refl
                ∙ ap (λ (g : List Request). cond (is_chosen k (Some (first.w).channel)) g [] ++ of k (first.left ++ more)) (ap (λ r. r ∷ []) (sym first.is) ∙ sym some.3)
                ∙ ap (λ ws. cond (is_first k ws) (granted u (want_of (begun_in t).write)) [] ++ of k (first.left ++ more)) (sym first.all);
          })
    ]

-- ---- the choice of a cycle

-- the same addresses and control word, and a busy channel
record Like (c d : Channel) : Type 0 where
  read : d.read ≡ c.read
  write : d.write ≡ c.write
  ctrl : d.ctrl ≡ c.ctrl
  busy : d.busy ≡ c.busy

like : (c : Channel) → Like c c
like c = record { read = refl; write = refl; ctrl = refl; busy = refl }

like_on : (b c d : Channel) → Like b c → Like c d → Like b d
like_on b c d x y = record { read = y.read ∙ x.read; write = y.write ∙ x.write; ctrl = y.ctrl ∙ x.ctrl; busy = y.busy ∙ x.busy }

like_is : (c d : Channel) → d ≡ c → Like c d
like_is c d h = record {
  read = ap (λ (x : Channel). x.read) h;
  write = ap (λ (x : Channel). x.write) h;
  ctrl = ap (λ (x : Channel). x.ctrl) h;
  busy = ap (λ (x : Channel). x.busy) h;
}

record Choosing (k : ℕ) (d : Channel) (o : Option ℕ) (ws : List WaitingWrite) (x : Engine) : Type 0 where
  like : Like d (channel_at k x)
  count : (channel_at k x).count + in_hand k x ≡ d.count + bit_number (is_chosen k o)
  waiting : x.waiting ≡ ws
  twelve : length x.channels ≡ 12

chosen_as : (k : ℕ) (d : Channel) (o : Option ℕ) (ws : List WaitingWrite) (x : Engine) → At k x d o ws → Choosing k d o ws x
chosen_as k d o ws x at = record {
  like = like_is d (channel_at k x) at.channel;
  count = ap₂ (λ (c : Channel) p. c.count + bit_number (is_chosen k p)) at.channel at.chosen;
  waiting = at.waiting;
  twelve = at.twelve;
}

chooses_same : (k : ℕ) (d : Channel) (ws : List WaitingWrite) (x : Engine) → k < 12 → 0 < d.count → At k x d None ws
    → Choosing k d None ws (with_chosen k (changed counted k x))
chooses_same k d ws x low some at =
    let is : channel_at k (changed counted k x) ≡ counted d = changed_same counted k x low at.twelve ∙ ap counted at.channel in
    let rest = changed_beside counted k x in
    record {
      like = like_on d (counted d) (channel_at k (changed counted k x)) (record { read = refl; write = refl; ctrl = refl; busy = refl })
          (like_is (counted d) (channel_at k (changed counted k x)) is);
      count = let one : bit_number (is_chosen k (Some k)) ≡ 1 = ap bit_number (eq_itself k) in
          let less : (channel_at k (changed counted k x)).count ≡ d.count - 1 = ap (λ (c : Channel). c.count) is in omega (arith, one, less, some);
      waiting = rest.waiting ∙ at.waiting;
      twelve = rest.long ∙ at.twelve;
    }

chooses_other : (n k : ℕ) (d : Channel) (ws : List WaitingWrite) (x : Engine) → k ≢ n → At k x d None ws
    → Choosing k d None ws (with_chosen n (changed counted n x))
chooses_other n k d ws x apart at =
    let is : channel_at k (changed counted n x) ≡ d = changed_other counted n k x apart ∙ at.channel in
    let rest = changed_beside counted n x in
    record {
      like = like_is d (channel_at k (changed counted n x)) is;
      count = ap₂ (λ (c : Channel) b. c.count + bit_number b) is (eq_other n k apart);
      waiting = rest.waiting ∙ at.waiting;
      twelve = rest.long ∙ at.twelve;
    }

choosing : (k : ℕ) (d : Channel) (o choice : Option ℕ) (ws : List WaitingWrite) (x : Engine) → k < 12 → (choice ≡ Some k → 0 < d.count)
    → At k x d o ws → Choosing k d o ws (choice_where_none o choice x)
choosing k d (Some n) choice ws x low some at = chosen_as k d (Some n) ws x at
choosing k d None None ws x low some at = chosen_as k d None ws x at
choosing k d None (Some n) ws x low some at = elim (equal_or_not n k) [
  | inl is ↦ subst (λ m. Choosing k d None ws (with_chosen m (changed counted m x))) (sym is) (chooses_same k d ws x low (some (ap Some is)) at)
  | inr apart ↦ chooses_other n k d ws x (λ e. apart (sym e)) at
]

-- what is chosen has transfers left
left_by : (busy none other : Bool) → (busy && (not none && other)) ≡ true → none ≡ false
left_by true false other h = refl
left_by true true other h = absurd (true≢false (sym h))
left_by false none other h = absurd (true≢false (sym h))

some_left : (high : Bool) (counts : ℕ) (s : Engine) (n : ℕ) → IsFirst high counts s n → ((channel_at n s).count == 0) ≡ false
some_left high counts s n first =
    left_by (channel_at n s).busy ((channel_at n s).count == 0) ((not high || is_high (channel_at n s)) && is_ready counts (channel_at n s) s) first.candidate

choice_left : (counts : ℕ) (s : Engine) (n : ℕ) → IsChoice counts s (Some n) → ((channel_at n s).count == 0) ≡ false
choice_left counts s n (inl first) = some_left true counts s n first
choice_left counts s n (inr other) = some_left false counts s n other.1

above : (n : ℕ) → (n == 0) ≡ false → 0 < n
above n h = grind (arith, nat_tests, h)

chosen_left : (counts k : ℕ) (s : Engine) → choice_of counts s ≡ Some k → 0 < (channel_at k s).count
chosen_left counts k s h = above (channel_at k s).count (choice_left counts s k (subst (λ o. IsChoice counts s o) h (choice_comes_first counts s)))

-- ---- the timers of a cycle

record Timed (k : ℕ) (e f : Engine) : Type 0 where
  like : Like (channel_at k e) (channel_at k f)
  count : (channel_at k f).count ≡ (channel_at k e).count
  chosen : f.chosen ≡ e.chosen
  waiting : f.waiting ≡ e.waiting
  long : length f.channels ≡ length e.channels

timed_on : (k : ℕ) (e f g : Engine) → Timed k e f → Timed k f g → Timed k e g
timed_on k e f g a b = record {
  like = like_on (channel_at k e) (channel_at k f) (channel_at k g) a.like b.like;
  count = b.count ∙ a.count;
  chosen = b.chosen ∙ a.chosen;
  waiting = b.waiting ∙ a.waiting;
  long = b.long ∙ a.long;
}

timed_is : (k : ℕ) (e f : Engine) → channel_at k f ≡ channel_at k e → Beside e f → Timed k e f
timed_is k e f is rest = record {
  like = like_is (channel_at k e) (channel_at k f) is;
  count = ap (λ (c : Channel). c.count) is;
  chosen = rest.chosen;
  waiting = rest.waiting;
  long = rest.long;
}

credit_timed : (n k : ℕ) (e : Engine) → k < 12 → length e.channels ≡ 12 → Timed k e (with_credit n e)
credit_timed n k e low long = elim (equal_or_not n k) [
  | inl is ↦
      let same = changed_same credited k e low long in
      let rest = changed_beside credited k e in
      subst (λ m. Timed k e (changed credited m e)) (sym is)
      (record {
        like = like_on (channel_at k e) (credited (channel_at k e)) (channel_at k (changed credited k e))
            (record { read = refl; write = refl; ctrl = refl; busy = refl }) (like_is (credited (channel_at k e)) (channel_at k (changed credited k e)) same);
        count = ap (λ (c : Channel). c.count) same;
        chosen = rest.chosen;
        waiting = rest.waiting;
        long = rest.long;
      })
  | inr apart ↦ timed_is k e (changed credited n e) (changed_other credited n k e (λ is. apart (sym is))) (changed_beside credited n e)
]

timed_same : (k : ℕ) (e : Engine) → Timed k e e
timed_same k e = record { like = like (channel_at k e); count = refl; chosen = refl; waiting = refl; long = refl }

turns_timed : (test : ℕ → Bool) (n k : ℕ) (e : Engine) → k < 12 → length e.channels ≡ 12 → Timed k e (in_turn test with_credit n e)
unfolding in_turn
turns_timed test zero k e low long = timed_same k e
turns_timed test (suc n) k e low long = go (test n) (turns_timed test n k e low long)
  where
    go : (b : Bool) → Timed k e (in_turn test with_credit n e) → Timed k e (cond b (with_credit n (in_turn test with_credit n e)) (in_turn test with_credit n e))
    go true before =
        timed_on k e (in_turn test with_credit n e) (with_credit n (in_turn test with_credit n e)) before
        (credit_timed n k (in_turn test with_credit n e) low (before.long ∙ long))
    go false before = before

timers_timed : (test : ℕ → Bool) (k : ℕ) (e : Engine) → k < 12 → length e.channels ≡ 12 → Timed k e (after_timers test e)
unfolding after_timers
timers_timed test k e low long =
    timed_on k e (with_stepped_timers e) (in_turn test with_credit 12 (with_stepped_timers e))
    (record { like = like (channel_at k e); count = refl; chosen = refl; waiting = refl; long = refl })
    (turns_timed test 12 k (with_stepped_timers e) low long)

-- ---- a cycle

moved_count : (w : Option ℕ) (c : Channel) → (after_moves w c).count ≡ c.count
unfolding moved
moved_count None c = refl
moved_count (Some word) c = refl

moved_busy : (w : Option ℕ) (c : Channel) → (after_moves w c).busy ≡ c.busy
unfolding moved
moved_busy None c = refl
moved_busy (Some word) c = refl

record Steps (k : ℕ) (t : Cycle) (f : Engine) : Type 0 where
  like : Like (after_moves (word_by k t) (channel_at k t.engine)) (channel_at k f)
  busy : (channel_at k f).busy ≡ true
  count : (channel_at k f).count + in_hand k f + length (option_to_list (word_by k t)) ≡ (channel_at k t.engine).count + in_hand k t.engine
  reads : read_by k t ≡ one_read (word_by k t) (channel_at k t.engine)
  writes : waiting_of k t.engine ++ one_write k (word_by k t) (channel_at k t.engine) ≡ written_by k t ++ waiting_of k f

ends_at : (k : ℕ) (e : Engine) → k < 12 → length e.channels ≡ 12 → (channel_at k e).busy ≡ true → is_over e k ≡ false
    → At k (after_ends e) (channel_at k e) e.chosen e.waiting
unfolding after_ends
ends_at k e low long busy going =
    let s = turns_same (is_over e) 12 k e low long busy (λ j less is. ap (is_over e) is ∙ going) in
    record { channel = s.channel; chosen = s.chosen; waiting = s.waiting; twelve = s.long ∙ long }

stepped : (k : ℕ) (t : Cycle) → k < 12 → length t.engine.channels ≡ 12 → (channel_at k t.engine).busy ≡ true
    → is_over t.engine k ≡ false → Steps k t (after_timers (gets_credit t.engine) (after_transfers t.engine (begun_in t) t.turns))
unfolding after_transfers
stepped k t low long busy going =
    let e = t.engine in
    let c = channel_at k e in
    let d = after_moves (word_by k t) c in
    let r = reading k t (after_ends e) low (ends_at k e low long busy going) in
    let read = after_read_of (begun_in t) t.turns (after_ends e) in
    let w = writing k t d r.o r.more read r.at in
    let written = after_write_of (begun_in t) t.turns read in
    let choice = choice_of (begun_in t).counts e in
    let h : Choosing k d r.o w.rest (after_choice choice written) =
    subst (λ o. Choosing k d r.o w.rest (choice_where_none o choice written)) (sym (w.at).chosen)
    (choosing k d r.o choice w.rest written low (λ is. subst (λ (n : ℕ). 0 < n) (sym (moved_count (word_by k t) c)) (chosen_left (begun_in t).counts k e is)) w.at) in
    let f = after_choice choice written in
    let g = timers_timed (gets_credit e) k f low h.twelve in
    record {
      like = like_on d (channel_at k f) (channel_at k (after_timers (gets_credit e) f)) h.like g.like;
      busy = (g.like).busy ∙ (h.like).busy ∙ moved_busy (word_by k t) c ∙ busy;
      count =
          let chosen : in_hand k (after_timers (gets_credit e) f) ≡ in_hand k f = ap (λ o. bit_number (is_chosen k o)) g.chosen in
          omega (arith, g.count, chosen, h.count, r.hand, moved_count (word_by k t) c);
      reads = r.reads;
      writes =
          ap (λ m. of k e.waiting ++ m) (sym r.writes) ∙ sym (of_append k e.waiting r.more) ∙ w.writes
          ∙ ap (λ ws. written_by k t ++ of k ws) (sym (g.waiting ∙ h.waiting));
    }

steps : (k : ℕ) (t : Cycle) → k < 12 → length t.engine.channels ≡ 12 → (channel_at k t.engine).busy ≡ true
    → is_over t.engine k ≡ false → Steps k t (after t)
unfolding next
steps k t low long busy going = stepped k t low long busy going

-- ---- transfers of channels that are alike

read_like : (c d : Channel) → Like c d → read_of d ≡ read_of c
unfolding read_of
read_like c d l = ap₂ (λ (x y : ℕ). record { address = rounded (size_by (x / 2 ^ 2 % 2 ^ 2)) y; size = size_by (x / 2 ^ 2 % 2 ^ 2); write = None }) l.ctrl l.read

abbrev with_place : Channel → ℕ → ℕ → ℕ → Channel
with_place c read write ctrl = record c { read = read; write = write; ctrl = ctrl }

write_like : (k : ℕ) (c d : Channel) (word : ℕ) → Like c d → write_after k d word ≡ write_after k c word
unfolding write_after data_of
write_like k c d word l =
    ap (λ x. write_after k (with_place d x d.write d.ctrl) word) l.read
    ∙ ap (λ x. write_after k (with_place d c.read x d.ctrl) word) l.write
    ∙ ap (λ x. write_after k (with_place d c.read c.write x) word) l.ctrl

moved_like : (c d : Channel) → Like c d → Like (moved c) (moved d)
unfolding moved
moved_like c d l = record {
  read = ap₂ (λ (x y : ℕ). (moved (with_place d x d.write y)).read) l.read l.ctrl;
  write = ap₂ (λ (x y : ℕ). (moved (with_place d d.read x y)).write) l.write l.ctrl;
  ctrl = l.ctrl;
  busy = l.busy;
}

reads_like : (n : ℕ) (c d : Channel) → Like c d → reads_from d n ≡ reads_from c n
reads_like zero c d l = refl
reads_like (suc n) c d l = ap₂ (λ q qs. q ∷ qs) (read_like c d l) (reads_like n (moved c) (moved d) (moved_like c d l))

writes_like : (k : ℕ) (words : List ℕ) (c d : Channel) → Like c d → writes_from k d words ≡ writes_from k c words
writes_like k [] c d l = refl
writes_like k (word ∷ words) c d l =
    ap₂ (λ q qs. q ∷ qs) (ap request_of (write_like k c d word l)) (writes_like k words (moved c) (moved d) (moved_like c d l))

one_more_read : (o : Option ℕ) (c : Channel) (n : ℕ) → one_read o c ++ reads_from (after_moves o c) n ≡ reads_from c (length (option_to_list o) + n)
one_more_read None c n = let e : n ≡ 0 + n = omega arith in ap (reads_from c) e
one_more_read (Some word) c n = let e : suc n ≡ 1 + n = omega arith in ap (reads_from c) e

one_more_write : (k : ℕ) (o : Option ℕ) (c : Channel) (words : List ℕ) → one_write k o c ++ writes_from k (after_moves o c) words ≡ writes_from k c (option_to_list o ++ words)
one_more_write k None c words = refl
one_more_write k (Some word) c words = refl

-- ---- all cycles

-- from any state in which the channel is busy
record Runs (k : ℕ) (s : Engine) (ts : List Cycle) : Type 0 where
  reads : reads_over k ts ≡ reads_from (channel_at k s) (length (words_over k ts))
  writes : waiting_of k s ++ writes_from k (channel_at k s) (words_over k ts) ≡ written_over k ts ++ waiting_of k (end_of s ts)
  busy : (channel_at k (end_of s ts)).busy ≡ true
  count : (channel_at k (end_of s ts)).count + in_hand k (end_of s ts) + length (words_over k ts) ≡ (channel_at k s).count + in_hand k s

-- in pieces: what waited, what is read now and later; what is written now and later, what waits then
in_pieces : (a now later done b more c : List Request) → a ++ now ≡ done ++ b → b ++ later ≡ more ++ c → a ++ (now ++ later) ≡ (done ++ more) ++ c
in_pieces a now later done b more c h g =
    sym (append_assoc a now later) ∙ ap (λ l. l ++ later) h ∙ append_assoc done b later ∙ ap (λ l. done ++ l) g ∙ sym (append_assoc done more c)

runs : (k : ℕ) (s : Engine) (ts : List Cycle) → k < 12 → (channel_at k s).busy ≡ true → AreCycles k s ts → Runs k s ts
runs k s [] low busy cycles = record {
  reads = refl;
  writes = append-nil (waiting_of k s);
  busy = busy;
  count = omega arith;
}
runs k s (t ∷ ts) low busy cycles =
    let left = cycles.0 in
    let e = t.engine in
    let c = channel_at k s in
    let here : channel_at k e ≡ c = left.channel in
    let step = steps k t low left.twelve (ap (λ (x : Channel). x.busy) here ∙ busy) cycles.1 in
    let rest = runs k (after t) ts low step.busy cycles.2 in
    let o = word_by k t in
    let words = words_over k ts in
    let n = length words in
    let like : Like (after_moves o c) (channel_at k (after t)) = subst (λ x. Like (after_moves o x) (channel_at k (after t))) here step.like in
    let long : length (option_to_list o ++ words) ≡ length (option_to_list o) + n = length-append (option_to_list o) words in
    record {
      reads =
          ap₂ (λ a b. a ++ b) (step.reads ∙ ap (one_read o) here) (rest.reads ∙ reads_like n (after_moves o c) (channel_at k (after t)) like)
          ∙ one_more_read o c n ∙ ap (reads_from c) (sym long);
      writes =
          ap (λ l. waiting_of k s ++ l) (sym (one_more_write k o c words))
          ∙ in_pieces (waiting_of k s) (one_write k o c) (writes_from k (after_moves o c) words) (written_by k t) (waiting_of k (after t)) (written_over k ts)
          (waiting_of k (end_of (after t) ts))
          (ap₂ (λ ws x. of k ws ++ one_write k o x) (sym left.waiting) (sym here) ∙ step.writes)
          (ap (λ l. waiting_of k (after t) ++ l) (sym (writes_like k words (after_moves o c) (channel_at k (after t)) like)) ∙ rest.writes);
      busy = rest.busy;
      count =
          let kept : (channel_at k e).count ≡ c.count = ap (λ (x : Channel). x.count) here in
          let hand : in_hand k e ≡ in_hand k s = ap (λ p. bit_number (is_chosen k p)) left.chosen in
          omega (arith, rest.count, step.count, kept, hand, long);
    }

-- ---- when it is over

-- none waits exactly where the list is empty
none_waits : (k : ℕ) (ws : List WaitingWrite) → (length (of k ws) == 0) ≡ not (has_write k ws)
none_waits k [] = refl
none_waits k (w ∷ ws) = go (is_chosen k (Some w.channel)) refl (none_waits k ws)
  where
    go : (b : Bool) → is_chosen k (Some w.channel) ≡ b → (length (of k ws) == 0) ≡ not (has_write k ws) → (length (of k (w ∷ ws)) == 0) ≡ not (has_write k (w ∷ ws))
    go true e rest = ap (λ (l : List Request). length l == 0) (of_chosen k w ws true e) ∙ some (length (of k ws)) ∙ ap (λ b. not (b || has_write k ws)) (sym e)
      where
        some : (n : ℕ) → (suc n == 0) ≡ false
        some n = grind (arith, nat_tests)
    go false e rest = ap (λ (l : List Request). length l == 0) (of_chosen k w ws false e) ∙ rest ∙ ap (λ b. not (b || has_write k ws)) (sym e)

over_is : (k : ℕ) (s : Engine) → (channel_at k s).busy ≡ true
    → is_over s k ≡ ((channel_at k s).count == 0 && (not (is_chosen k s.chosen) && (length (waiting_of k s) == 0)))
over_is k s busy =
    ap (λ b. (b && (channel_at k s).count == 0) && not (is_in_flight k s)) busy
    ∙ ap (λ b. (channel_at k s).count == 0 && b) (neither (is_chosen k s.chosen) (has_write k s.waiting) ∙ ap (λ b. not (is_chosen k s.chosen) && b) (sym (none_waits k s.waiting)))
  where
    neither : (a b : Bool) → not (a || b) ≡ (not a && not b)
    neither true b = refl
    neither false b = refl

none_over : (count hand waits : ℕ) (b : Bool) → bit_number b ≡ hand → ((count == 0) && (not b && (waits == 0))) ≡ true → count + hand + waits ≡ 0
none_over count hand waits true e h = absurd (no (count == 0) h)
  where
    no : (c : Bool) → (c && false) ≡ true → ⊥
    no true h = true≢false (sym h)
    no false h = true≢false (sym h)
none_over count hand waits false e h =
    let a : count ≡ 0 = zero_of (count == 0) (waits == 0) refl h in
    let b : waits ≡ 0 = other_of (count == 0) (waits == 0) refl h in
    omega (arith, a, b, e)
  where
    is_none : (n : ℕ) → (n == 0) ≡ true → n ≡ 0
    is_none n h = grind (arith, nat_tests, h)

    zero_of : (c w : Bool) → (count == 0) ≡ c → (c && w) ≡ true → count ≡ 0
    zero_of true w e h = is_none count e
    zero_of false w e h = absurd (true≢false (sym h))

    other_of : (c w : Bool) → (waits == 0) ≡ w → (c && w) ≡ true → waits ≡ 0
    other_of true w e h = is_none waits (e ∙ h)
    other_of false w e h = absurd (true≢false (sym h))

is_over_by : (count waits : ℕ) (b : Bool) → count ≡ 0 → waits ≡ 0 → bit_number b ≡ 0 → ((count == 0) && (not b && (waits == 0))) ≡ true
is_over_by count waits true c w h = let one : bit_number true ≡ 1 = refl in absurd (omega (arith, one, h))
is_over_by count waits false c w h = ap₂ (λ (x y : ℕ). (x == 0) && (y == 0)) c w

length-writes : (k : ℕ) (words : List ℕ) (c : Channel) → length (writes_from k c words) ≡ length words
length-writes k [] c = refl
length-writes k (word ∷ words) c = ap suc (length-writes k words (moved c))

pub a_copy_is_exact : ACopyIsExactOnAnyChannel
a_copy_is_exact k s ts begun cycles =
    let r = runs k s ts begun.number begun.busy cycles in
    let f = end_of s ts in
    let c = channel_at k s in
    let words = words_over k ts in
    let writes : written_over k ts ++ waiting_of k f ≡ writes_from k c words = sym r.writes ∙ ap (λ l. l ++ writes_from k c words) begun.unwritten in
    let free : in_hand k s ≡ 0 = ap bit_number begun.unread in
    let count : (channel_at k f).count + in_hand k f + length words ≡ c.count = omega (arith, r.count, free) in
    let long : length (written_over k ts) + length (waiting_of k f) ≡ length words =
    sym (length-append (written_over k ts) (waiting_of k f)) ∙ ap (λ (l : List Request). length l) writes ∙ length-writes k words c in
    record {
      reads = r.reads;
      writes = writes;
      busy = r.busy;
      count = count;
      over = λ h.
          let none = none_over (channel_at k f).count (in_hand k f) (length (waiting_of k f)) (is_chosen k f.chosen) refl (sym (over_is k f r.busy) ∙ h) in
          omega (arith, none, long, count);
      all = λ h.
          let a : (channel_at k f).count ≡ 0 = omega (arith, h, long, count) in
          let b : length (waiting_of k f) ≡ 0 = omega (arith, h, long, count) in
          let d : in_hand k f ≡ 0 = omega (arith, h, long, count) in
          over_is k f r.busy ∙ is_over_by (channel_at k f).count (length (waiting_of k f)) (is_chosen k f.chosen) a b d;
    }
