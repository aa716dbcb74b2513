-- Whatever has beats takes them, cycle by cycle, where its accesses go to SRAM.
use Rattle.std.proofs.Common.{◌≡◌, ℕ, zero, suc, ◌+◌, ◌<◌, Bool, true, false, cond, List, [], ◌∷◌, length, refl, sym, ap, ap₂, subst, ◌∙◌, arith, true≢false}
use Rattle.core_laws.proofs.Shared.{Option, Some, None, map, Request, Spot, place_of, Beat, Inner, Access, Exceptions, numbers_from, after_cycles, Want, answered, Work, is_ram, is_ram_spot, in_beat, at_spot, ends_with, signals, waiting, passed, is_paused, closed, State, Given, lines_in, begun_in, wanted_in, Served, after_served, after_all_served, wants_served, ends_in, left_of, want_in, wants_through, AllDone, lines_of}
use Rattle.rp_base.specs.declared.map.Spot.TheVariants as spot
use Rattle.m0_nvic.specs.Cycle as nvic
use Rattle.lane_look.specs.declared.lane.Want.TheVariants as want
use Rattle.m0_core.specs.declared.doing.Act.TheVariants as act
use Rattle.core_laws.proofs.Cycles.{BeginsBeat, begun_beat, Serves, value_ram, serves_inner, serves_ram}

-- ---- a beat

-- the access goes to SRAM
abbrev pub IsInRam : Beat → Type 0
IsInRam Inner = Unit {0}
IsInRam (Access request) = is_ram request.address ≡ true

-- what it reads
abbrev pub value_in : Beat → Given → Option ℕ
value_in Inner g = None
value_in (Access request) g = value_ram request request.write g

pub serves_walk : (work : Work) (b : Beat) (cycle : ℕ) (x : Served) (s : State) → signals work ≡ false → s.asleep ≡ false → IsInRam b → BeginsBeat work b x.given s
    → Serves work (want_in b) (ends_in b x) (value_in b x.given) s.nvic cycle x s (begun_in cycle x.given s)
unfolding is_ram
serves_walk work b cycle x s silent awake ram begins =
    subst (λ d. Serves work (want_in b) (ends_in b x) (value_in b x.given) s.nvic cycle x s d) (sym (begun_beat work b x.given cycle s awake begins)) (go b ram)
  where
    at : (request : Request) (p : Spot) → is_ram_spot p ≡ true
        → Serves work (want.Ram request) x.done (value_ram request request.write x.given) s.nvic cycle x s (ends_with (lines_in x.given) cycle (answered x.given.answers (at_spot work request s p)))
    at request (spot.Ram index bank) e = serves_ram work request request.write cycle x s
    at request _ e = absurd (true≢false (sym e))

    go : (b : Beat) → IsInRam b → Serves work (want_in b) (ends_in b x) (value_in b x.given) s.nvic cycle x s (ends_with (lines_in x.given) cycle (answered x.given.answers (in_beat work s b)))
    go Inner h =
        subst (λ z. Serves work (cond z want.Signal want.Nothing) true None s.nvic cycle x s (ends_with (lines_in x.given) cycle (act.Inner work))) silent (serves_inner work cycle x s)
    go (Access request) h = at request (place_of request.address) h

-- ---- the end of a cycle and the exceptions

pub closed_nvic : (lines cycle : ℕ) (s : State) → (closed lines cycle s).nvic ≡ nvic.after_cycle lines cycle s.nvic
unfolding closed
closed_nvic lines cycle s = refl

-- the exceptions after these cycles, in the last of which something is done to them
abbrev pub after_last : (Exceptions → Exceptions) → ℕ → List ℕ → Exceptions → Exceptions
after_last last cycle [] e = e
after_last last cycle (lines ∷ []) e = nvic.after_cycle lines cycle (last e)
after_last last cycle (lines ∷ another ∷ more) e = after_last last (cycle + 1) (another ∷ more) (nvic.after_cycle lines cycle e)

-- ---- all cycles

-- what the beats of some work do: P holds before the beat at an index, Q behind the last one
pub record Plan (work : Work) (f : ℕ → Beat) (total : ℕ) (last : Exceptions → Exceptions) (G : Given → Type 0) (P : ℕ → State → Type 0) (Q : State → Type 0) : Type 0 where
  pub in_ram : (k : ℕ) → k < total → IsInRam (f k)
  pub unpaused : (s : State) → is_paused work s ≡ false
  pub silent : signals work ≡ false
  pub awake : (k : ℕ) (s : State) → P k s → s.asleep ≡ false
  pub begins : (g : Given) (k : ℕ) (s : State) → P k s → BeginsBeat work (f k) g s
  pub waits : (lines cycle k : ℕ) (s : State) → P k s → P k (closed lines cycle (waiting work s))
  pub goes : (g : Given) (lines cycle k : ℕ) (s : State) → G g → P k s → k + 1 < total → P (k + 1) (closed lines cycle (passed work (value_in (f k) g) s))
  pub keeps : (g : Given) (k : ℕ) (s : State) → P k s → k + 1 < total → (passed work (value_in (f k) g) s).nvic ≡ s.nvic
  pub ends : (g : Given) (lines cycle k : ℕ) (s : State) → G g → P k s → k + 1 ≡ total → Q (closed lines cycle (passed work (value_in (f k) g) s))
  pub leaves : (g : Given) (k : ℕ) (s : State) → P k s → k + 1 ≡ total → (passed work (value_in (f k) g) s).nvic ≡ last s.nvic

abbrev pub AllGiven : (Given → Type 0) → List Served → Type 0
AllGiven G [] = Unit {0}
AllGiven G (x ∷ xs) = G x.given × AllGiven G xs

pub record Result (P : ℕ → State → Type 0) (Q : State → Type 0) (rest : Option (List Beat)) (wanted expected : List Want) (e done : Exceptions) (t : State) : Type 0 where
  pub mid : (b : Beat) (bs : List Beat) → rest ≡ Some (b ∷ bs) → ((k : ℕ) × P k t) × (t.nvic ≡ e)
  pub over : rest ≡ Some [] → Q t × (t.nvic ≡ done)
  pub wants : (bs : List Beat) → rest ≡ Some bs → wanted ≡ expected

joined : (P : ℕ → State → Type 0) (Q : State → Type 0) (o : Bool) (l m : Option (List Beat)) (w v : Want) (ws vs us : List Want) (e d : Exceptions) (t : State)
    → w ≡ v → (o ≡ true → Result P Q l ws vs e d t) → (o ≡ false → Result P Q m ws us e d t)
    → Result P Q (cond o l m) (w ∷ ws) (v ∷ cond o vs us) e d t
joined P Q true l m w v ws vs us e d t same over lasts =
    let h = over refl in record { mid = h.mid; over = h.over; wants = λ bs q. ap₂ (λ a more. a ∷ more) same (h.wants bs q) }
joined P Q false l m w v ws vs us e d t same over lasts =
    let h = lasts refl in record { mid = h.mid; over = h.over; wants = λ bs q. ap₂ (λ a more. a ∷ more) same (h.wants bs q) }

module _ (work : Work) (f : ℕ → Beat) (total : ℕ) (last : Exceptions → Exceptions) (G : Given → Type 0) (P : ℕ → State → Type 0) (Q : State → Type 0) (plan : Plan work f total last G P Q) where
  -- the beat is over, and another one follows
  followed_by : (cycle : ℕ) (x : Served) (k : ℕ) (s : State) → P k s → G x.given → k + 1 < total → ends_in (f k) x ≡ true
      → P (k + 1) (after_served cycle x s) × ((after_served cycle x s).nvic ≡ nvic.after_cycle (lines_in x.given) cycle s.nvic)
  followed_by cycle x k s p g more e =
      let path = (serves_walk work (f k) cycle x s plan.silent (plan.awake k s p) (plan.in_ram k (omega (arith, more))) (plan.begins x.given k s p)).passes (plan.unpaused s) e in (
        subst (λ u. P (k + 1) u) (sym path) (plan.goes x.given (lines_in x.given) cycle k s g p more),
        ap (λ u. u.nvic) path ∙ closed_nvic (lines_in x.given) cycle (passed work (value_in (f k) x.given) s) ∙ ap (nvic.after_cycle (lines_in x.given) cycle) (plan.keeps x.given k s p more),
      )

  -- the last beat is over
  ended_by : (cycle : ℕ) (x : Served) (k : ℕ) (s : State) → P k s → G x.given → k + 1 ≡ total → ends_in (f k) x ≡ true
      → Q (after_served cycle x s) × ((after_served cycle x s).nvic ≡ nvic.after_cycle (lines_in x.given) cycle (last s.nvic))
  ended_by cycle x k s p g none e =
      let path = (serves_walk work (f k) cycle x s plan.silent (plan.awake k s p) (plan.in_ram k (omega (arith, none))) (plan.begins x.given k s p)).passes (plan.unpaused s) e in (
        subst (λ u. Q u) (sym path) (plan.ends x.given (lines_in x.given) cycle k s g p none),
        ap (λ u. u.nvic) path ∙ closed_nvic (lines_in x.given) cycle (passed work (value_in (f k) x.given) s) ∙ ap (nvic.after_cycle (lines_in x.given) cycle) (plan.leaves x.given k s p none),
      )

  -- the access waits
  waited_by : (cycle : ℕ) (x : Served) (k : ℕ) (s : State) → P k s → k < total → ends_in (f k) x ≡ false
      → P k (after_served cycle x s) × ((after_served cycle x s).nvic ≡ nvic.after_cycle (lines_in x.given) cycle s.nvic)
  waited_by cycle x k s p within e =
      let path = (serves_walk work (f k) cycle x s plan.silent (plan.awake k s p) (plan.in_ram k within) (plan.begins x.given k s p)).waits e in (
        subst (λ u. P k u) (sym path) (plan.waits (lines_in x.given) cycle k s p),
        ap (λ u. u.nvic) path ∙ closed_nvic (lines_in x.given) cycle (waiting work s),
      )

  wanted_by : (cycle : ℕ) (x : Served) (k : ℕ) (s : State) → P k s → k < total → wanted_in cycle x.given s ≡ want_in (f k)
  wanted_by cycle x k s p within =
      (serves_walk work (f k) cycle x s plan.silent (plan.awake k s p) (plan.in_ram k within) (plan.begins x.given k s p)).wants

  abbrev Comes : ℕ → ℕ → List Served → ℕ → State → Type 0
  Comes k count xs cycle s =
      Result P Q (left_of (map f (numbers_from k count)) xs) (wants_served cycle xs s) (wants_through (map f (numbers_from k count)) xs)
      (after_cycles cycle (lines_of xs) s.nvic) (after_last last cycle (lines_of xs) s.nvic) (after_all_served cycle xs s)

  -- what follows a cycle, by the exceptions behind it
  moved : (rest : Option (List Beat)) (ws vs : List Want) (cycle line : ℕ) (lines : List ℕ) (e g : Exceptions) (t : State) → g ≡ nvic.after_cycle line cycle e
      → (another : ℕ) (more : List ℕ) → lines ≡ another ∷ more
      → Result P Q rest ws vs (after_cycles (cycle + 1) lines g) (after_last last (cycle + 1) lines g) t
      → Result P Q rest ws vs (after_cycles cycle (line ∷ lines) e) (after_last last cycle (line ∷ lines) e) t
  moved rest ws vs cycle line lines e g t same another more path r =
      let h = subst (λ ls. Result P Q rest ws vs (after_cycles (cycle + 1) ls g) (after_last last (cycle + 1) ls g) t) path r in
      let i = subst (λ z. Result P Q rest ws vs (after_cycles (cycle + 1) (another ∷ more) z) (after_last last (cycle + 1) (another ∷ more) z) t) same h in
      subst (λ ls. Result P Q rest ws vs (after_cycles cycle (line ∷ ls) e) (after_last last cycle (line ∷ ls) e) t) (sym path) i

  pub walk : (xs : List Served) (k c cycle : ℕ) (s : State) → k + suc c ≡ total → P k s → AllGiven G xs → Comes k (suc c) xs cycle s
  walk [] k c cycle s e p g = record {
    mid = λ b bs q. ((k, p), refl);
    over = λ q. absurd (cc);
    wants = λ bs q. refl;
  }
  walk (x ∷ []) k zero cycle s e p g =
      let u = after_served cycle x s in
      joined P Q (ends_in (f k) x) (Some []) (Some (f k ∷ [])) (wanted_in cycle x.given s) (want_in (f k)) [] [] []
      (nvic.after_cycle (lines_in x.given) cycle s.nvic) (nvic.after_cycle (lines_in x.given) cycle (last s.nvic)) u
      (wanted_by cycle x k s p (omega (arith, e)))
      (λ o. record { mid = λ b bs q. absurd (cc); over = λ q. ended_by cycle x k s p g.0 (omega (arith, e)) o; wants = λ bs q. refl })
      (λ o. let w = waited_by cycle x k s p (omega (arith, e)) o in
      record { mid = λ b bs q. ((k, w.0), w.1); over = λ q. absurd (cc); wants = λ bs q. refl })
  walk (x ∷ []) k (suc c) cycle s e p g =
      let u = after_served cycle x s in
      let rest = map f (numbers_from (k + 1) (suc c)) in
      joined P Q (ends_in (f k) x) (Some rest) (Some (f k ∷ rest)) (wanted_in cycle x.given s) (want_in (f k)) [] [] []
      (nvic.after_cycle (lines_in x.given) cycle s.nvic) (nvic.after_cycle (lines_in x.given) cycle (last s.nvic)) u
      (wanted_by cycle x k s p (omega (arith, e)))
      (λ o. let w = followed_by cycle x k s p g.0 (omega (arith, e)) o in
      record { mid = λ b bs q. ((k + 1, w.0), w.1); over = λ q. absurd (cc); wants = λ bs q. refl })
      (λ o. let w = waited_by cycle x k s p (omega (arith, e)) o in
      record { mid = λ b bs q. ((k, w.0), w.1); over = λ q. absurd (cc); wants = λ bs q. refl })
  walk (x ∷ y ∷ ys) k zero cycle s e p g =
      let u = after_served cycle x s in
      let t = after_all_served (cycle + 1) (y ∷ ys) u in
      joined P Q (ends_in (f k) x) None (left_of (f k ∷ []) (y ∷ ys)) (wanted_in cycle x.given s) (want_in (f k)) (wants_served (cycle + 1) (y ∷ ys) u) [] (wants_through (f k ∷ []) (y ∷ ys))
      (after_cycles cycle (lines_of (x ∷ y ∷ ys)) s.nvic) (after_last last cycle (lines_of (x ∷ y ∷ ys)) s.nvic) t
      (wanted_by cycle x k s p (omega (arith, e)))
      (λ o. record { mid = λ b bs q. absurd (cc); over = λ q. absurd (cc); wants = λ bs q. absurd (cc) })
      (λ o. let w = waited_by cycle x k s p (omega (arith, e)) o in
      moved (left_of (f k ∷ []) (y ∷ ys)) (wants_served (cycle + 1) (y ∷ ys) u) (wants_through (f k ∷ []) (y ∷ ys)) cycle (lines_in x.given) (lines_of (y ∷ ys)) s.nvic u.nvic t w.1
      (lines_in y.given) (lines_of ys) refl (walk (y ∷ ys) k zero (cycle + 1) u e w.0 g.1))
  walk (x ∷ y ∷ ys) k (suc c) cycle s e p g =
      let u = after_served cycle x s in
      let t = after_all_served (cycle + 1) (y ∷ ys) u in
      let rest = map f (numbers_from (k + 1) (suc c)) in
      joined P Q (ends_in (f k) x) (left_of rest (y ∷ ys)) (left_of (f k ∷ rest) (y ∷ ys)) (wanted_in cycle x.given s) (want_in (f k)) (wants_served (cycle + 1) (y ∷ ys) u)
      (wants_through rest (y ∷ ys)) (wants_through (f k ∷ rest) (y ∷ ys))
      (after_cycles cycle (lines_of (x ∷ y ∷ ys)) s.nvic) (after_last last cycle (lines_of (x ∷ y ∷ ys)) s.nvic) t
      (wanted_by cycle x k s p (omega (arith, e)))
      (λ o. let w = followed_by cycle x k s p g.0 (omega (arith, e)) o in
      moved (left_of rest (y ∷ ys)) (wants_served (cycle + 1) (y ∷ ys) u) (wants_through rest (y ∷ ys)) cycle (lines_in x.given) (lines_of (y ∷ ys)) s.nvic u.nvic t w.1
      (lines_in y.given) (lines_of ys) refl (walk (y ∷ ys) (k + 1) c (cycle + 1) u (omega (arith, e)) w.0 g.1))
      (λ o. let w = waited_by cycle x k s p (omega (arith, e)) o in
      moved (left_of (f k ∷ rest) (y ∷ ys)) (wants_served (cycle + 1) (y ∷ ys) u) (wants_through (f k ∷ rest) (y ∷ ys)) cycle (lines_in x.given) (lines_of (y ∷ ys)) s.nvic u.nvic t w.1
      (lines_in y.given) (lines_of ys) refl (walk (y ∷ ys) k (suc c) (cycle + 1) u e w.0 g.1))

-- as many cycles as beats, where each access is done at once
pub counted : (f : ℕ → Beat) (xs : List Served) (k : ℕ) → AllDone xs → left_of (map f (numbers_from k (length xs))) xs ≡ Some []
counted f [] k done = refl
counted f (x ∷ xs) k done =
    ap (λ o. cond o (left_of (map f (numbers_from (k + 1) (length xs))) xs) (left_of (f k ∷ map f (numbers_from (k + 1) (length xs))) xs)) (at_once (f k) x done.0)
    ∙ counted f xs (k + 1) done.1
  where
    at_once : (b : Beat) (x : Served) → x.done ≡ true → ends_in b x ≡ true
    at_once Inner x e = refl
    at_once (Access request) x e = e
