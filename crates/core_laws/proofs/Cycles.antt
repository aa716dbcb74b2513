-- One cycle, by the beat that it begins.
use Rattle.std.proofs.Common.{◌≡◌, ℕ, ◌%◌, ◌^◌, Bool, true, false, cond, [], ◌∷◌, refl, sym, ap, subst, ◌∙◌, true≢false}
use Rattle.core_laws.proofs.Shared.{not-false, Option, Some, None, slice_get, Request, Spot, Op, Beat, Inner, Access, Exceptions, is_allowed, Word, Want, Asking, answered, Ready, Act, Doing, Work, is_signal, lanes_of, master_of, word_written, place_of, private_value, accessed, stopped, asks_awake, in_beat, in_ram, at_spot, ends_with, want_of, want_of_act, signals, waiting, passed, is_paused, done_word, value_of, after_private, after_inner, after, closed, is_idle, next, State, begun_from, Given, turn_of, lines_in, touched_at, touched_by, begun_in, after_cycle, want_at, want_of_beat, read_at, read_in, is_refused_at, is_refused, word_at, LastsOn, accessing, is_access, AnAccessLastsUntilItIsDone, Served, wait_of, turn_served, is_over}
use Rattle.rp_base.specs.declared.Why.TheVariants as why
use Rattle.rp_base.specs.declared.map.Spot.TheVariants as spot
use Rattle.lane_look.specs.declared.lane.Turn.TheVariants as turn
use Rattle.lane_look.specs.declared.lane.Want.TheVariants as want
use Rattle.m0_core.specs.declared.doing.Act.TheVariants as act
use Rattle.m0_core.specs.declared.doing.Work.TheVariants as works

-- ---- what a cycle begins

pub begun_awake : (g : Given) (cycle : ℕ) (s : State) → s.asleep ≡ false → begun_in cycle g s ≡ ends_with (lines_in g) cycle (answered g.answers (asks_awake s))
begun_awake g cycle s awake = begun_from g.answers cycle s awake

-- the cycle begins this beat
abbrev pub BeginsBeat : Work → Beat → Given → State → Type 0
BeginsBeat work b g s = answered g.answers (asks_awake s) ≡ answered g.answers (in_beat work s b)

pub begun_beat : (work : Work) (b : Beat) (g : Given) (cycle : ℕ) (s : State) → s.asleep ≡ false → BeginsBeat work b g s
    → begun_in cycle g s ≡ ends_with (lines_in g) cycle (answered g.answers (in_beat work s b))
begun_beat work b g cycle s awake begins = begun_awake g cycle s awake ∙ ap (ends_with (lines_in g) cycle) begins

-- the end of a cycle that began this
abbrev step_by : ℕ → ℕ → ℕ → State → Act → State
step_by lines cycle word s a =
    cond (is_idle a) s (closed lines cycle (after a (done_word (slice_get (turn_of (want_of_act a) word ∷ turn.Nothing ∷ []) 0)) s))

pub after_begun : (g : Given) (cycle : ℕ) (s : State) (a : Act) → begun_in cycle g s ≡ ends_with (lines_in g) cycle a → after_cycle cycle g s ≡ step_by (lines_in g) cycle g.word s a
unfolding next
after_begun g cycle s a e = ap (λ d. next s d (turn_of (want_of d) g.word ∷ turn.Nothing ∷ [])) e

-- ---- what it wants and leaves

-- the cycle wants this, and is over or not; a beat that is over has read this, and made this of the exceptions
pub record Serves (work : Work) (w : Want) (over : Bool) (v : Option ℕ) (e : Exceptions) (cycle : ℕ) (x : Served) (s : State) (d : Doing) : Type 0 where
  pub wants : want_of d ≡ w
  pub waits : over ≡ false → next s d (turn_served (want_of d) x ∷ turn.Nothing ∷ []) ≡ closed (lines_in x.given) cycle (waiting work s)
  pub passes : is_paused work s ≡ false → over ≡ true
      → next s d (turn_served (want_of d) x ∷ turn.Nothing ∷ []) ≡ closed (lines_in x.given) cycle (passed work v (record s { nvic = e }))

abbrev begun : ℕ → Served → Asking Act → Doing
begun cycle x tree = ends_with (lines_in x.given) cycle (answered x.given.answers tree)

-- an access is done in the cycle, or waits
turned : (cycle : ℕ) (x : Served) (s : State) (a : Act) (b : Bool) → x.done ≡ b
    → next s (ends_with (lines_in x.given) cycle a) (turn_served (want_of_act a) x ∷ turn.Nothing ∷ [])
    ≡ next s (ends_with (lines_in x.given) cycle a) (cond b (turn_of (want_of_act a) x.given.word) (wait_of (want_of_act a)) ∷ turn.Nothing ∷ [])
turned cycle x s a b e =
    ap (λ d. next s (ends_with (lines_in x.given) cycle a) (cond d (turn_of (want_of_act a) x.given.word) (wait_of (want_of_act a)) ∷ turn.Nothing ∷ [])) e

pub serves_inner : (work : Work) (cycle : ℕ) (x : Served) (s : State) → Serves work (cond (signals work) want.Signal want.Nothing) true None s.nvic cycle x s (begun cycle x (Ready (act.Inner work)))
unfolding next after_inner
serves_inner work cycle x s = record {
  wants = refl;
  waits = λ q. absurd (true≢false q);
  passes = λ p q. ap (λ h. closed (lines_in x.given) cycle (cond h (waiting work s) (passed work None s))) p;
}

-- what an access to SRAM reads
abbrev pub value_ram : Request → Option ℕ → Given → Option ℕ
value_ram request None g = Some (lanes_of request.size request.address (g.answers (Word request.address) % 2 ^ 32))
value_ram request (Some write) g = None

pub serves_ram : (work : Work) (request : Request) (w : Option ℕ) (cycle : ℕ) (x : Served) (s : State)
    → Serves work (want.Ram request) x.done (value_ram request w x.given) s.nvic cycle x s (begun cycle x (in_ram work request w))
unfolding next
serves_ram work request None cycle x s =
    let a = act.Read work request (x.given.answers (Word request.address) % 2 ^ 32) in
    record { wants = refl; waits = turned cycle x s a false; passes = λ p. turned cycle x s a true }
serves_ram work request (Some write) cycle x s =
    record { wants = refl; waits = turned cycle x s (act.Write work request) false; passes = λ p. turned cycle x s (act.Write work request) true }

value_at : (p : Spot) (request : Request) (w : Option ℕ) (word : ℕ) (g : Given) (s : State) → word_at p request.address g s ≡ word → value_of request w word ≡ read_at p request w g s
value_at p request None word g s e = ap (λ z. Some (lanes_of request.size request.address z)) (sym e)
value_at p request (Some write) word g s e = refl

private_at : (request : Request) (w : Option ℕ) (offset : ℕ) (g : Given) (s : State) → private_value request w offset s ≡ read_at (spot.Ppb offset) request w g s
private_at request None offset g s = refl
private_at request (Some write) offset g s = refl

ram_at : (index bank : ℕ) (request : Request) (w : Option ℕ) (g : Given) (s : State) → value_ram request w g ≡ read_at (spot.Ram index bank) request w g s
ram_at index bank request None g s = refl
ram_at index bank request (Some write) g s = refl

serves_outward : (work : Work) (request : Request) (v : Option ℕ) (cycle : ℕ) (x : Served) (s : State) → value_of request request.write x.given.word ≡ v
    → Serves work (want.Outward request) x.done v s.nvic cycle x s (begun cycle x (Ready (act.Outward work request)))
unfolding next
serves_outward work request v cycle x s e = record {
  wants = refl;
  waits = turned cycle x s (act.Outward work request) false;
  passes = λ p q. turned cycle x s (act.Outward work request) true q ∙ ap (λ z. closed (lines_in x.given) cycle (passed work z s)) e;
}

serves_at : (work : Work) (request : Request) (cycle : ℕ) (x : Served) (s : State) (p : Spot) → is_refused_at request p ≡ false
    → Serves work (want_at p request) (cond (is_access (want_at p request)) x.done true) (read_at p request request.write x.given s) (touched_at p request s.nvic) cycle x s
    (begun cycle x (at_spot work request s p))
unfolding next after_private
serves_at work request cycle x s (spot.Ram index bank) e =
    subst (λ v. Serves work (want.Ram request) x.done v s.nvic cycle x s (begun cycle x (in_ram work request request.write)))
    (ram_at index bank request request.write x.given s) (serves_ram work request request.write cycle x s)
serves_at work request cycle x s (spot.Ppb offset) e =
    subst (λ b. Serves work want.Nothing true (read_at (spot.Ppb offset) request request.write x.given s) (touched_at (spot.Ppb offset) request s.nvic) cycle x s
    (begun cycle x (cond b (Ready (act.Private work request offset)) (stopped (why.Outside (master_of s.number) request.address)))))
    (sym (not-false (is_allowed offset (word_written request.size request.write)) e)) (record {
      wants = refl;
      waits = λ q. absurd (true≢false q);
      passes = λ p q. ap (λ v. closed (lines_in x.given) cycle (passed work v (accessed request offset s))) (private_at request request.write offset x.given s);
    })
serves_at work request cycle x s p e = serves_outward work request _ cycle x s (value_at p request request.write x.given.word x.given s refl)

silent : (b done : Bool) → cond (is_access (cond b want.Signal want.Nothing)) done true ≡ true
silent true done = refl
silent false done = refl

-- a beat of an instruction, which the private bus does not refuse
pub serves_beat : (op : Op) (b : Beat) (cycle : ℕ) (x : Served) (s : State) → s.asleep ≡ false → is_refused b ≡ false → BeginsBeat (works.Instruction op) b x.given s
    → Serves (works.Instruction op) (want_of_beat op b) (is_over op b x) (read_in b x.given s) (touched_by b s.nvic) cycle x s (begun_in cycle x.given s)
serves_beat op b cycle x s awake granted begins =
    subst (λ d. Serves (works.Instruction op) (want_of_beat op b) (is_over op b x) (read_in b x.given s) (touched_by b s.nvic) cycle x s d)
    (sym (begun_beat (works.Instruction op) b x.given cycle s awake begins)) (go b granted)
  where
    go : (b : Beat) → is_refused b ≡ false
        → Serves (works.Instruction op) (want_of_beat op b) (is_over op b x) (read_in b x.given s) (touched_by b s.nvic) cycle x s (begun cycle x (in_beat (works.Instruction op) s b))
    go Inner e =
        subst (λ o. Serves (works.Instruction op) (want_of_beat op Inner) o None s.nvic cycle x s (begun cycle x (Ready (act.Inner (works.Instruction op)))))
        (sym (silent (is_signal op) x.done)) (serves_inner (works.Instruction op) cycle x s)
    go (Access request) e = serves_at (works.Instruction op) request cycle x s (place_of request.address) e

-- ---- accesses that wait

lasts_closed : (lines cycle : ℕ) (s : State) (a : Act) (work : Work) → accessing a ≡ Some work → LastsOn s (ends_with lines cycle a) (closed lines cycle (waiting work s))
unfolding closed
lasts_closed lines cycle s a work e = record { awake = refl; kept = refl; in_progress = sym e; so_far = refl; values = refl; exceptions = refl; event = refl }

pub an_access_lasts_until_it_is_done : AnAccessLastsUntilItIsDone
unfolding next
an_access_lasts_until_it_is_done s begun e = go begun.act e
  where
    unsignalled : {A : Type 0} (b : Bool) → is_access (cond b want.Signal want.Nothing) ≡ true → A
    unsignalled true e = absurd (true≢false (sym e))
    unsignalled false e = absurd (true≢false (sym e))

    go : (a : Act) → is_access (want_of_act a) ≡ true → LastsOn s (ends_with begun.lines begun.cycle a) (next s (ends_with begun.lines begun.cycle a) (turn.Wait ∷ turn.Nothing ∷ []))
    go (act.Inner work) e = unsignalled (signals work) e
    go (act.Read work request told) e = lasts_closed begun.lines begun.cycle s (act.Read work request told) work refl
    go (act.Write work request) e = lasts_closed begun.lines begun.cycle s (act.Write work request) work refl
    go (act.Outward work request) e = lasts_closed begun.lines begun.cycle s (act.Outward work request) work refl
    go _ e = absurd (true≢false (sym e))
