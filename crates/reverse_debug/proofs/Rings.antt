-- States that are kept.
use Rattle.reverse_debug.proofs.Shared.{Bool, IsIn, Keeps, List, Setting, Snapshots, Some, State, [], and_from, and_parts, ap, arith, cases_Bool, cases_lt, div-add-mod, eq-eqb, eqb-true, false, if◌then◌else◌, inl, inr, is_due, is_kept, is_within, keeping_is_faithful, kept_both, kept_only, kept_with, le-leb, leb-true, lt-ltb, ltb-true, max, mod-eq_of_lt, mod-le, mul-add-mod_self_left, nat_le, nat_lt, near_spacing, next_place, not, or_right, refl, restored, state_at, states, subst, sym, true, zero-mod, ℕ, ◌%◌, ◌&&◌, ◌*◌, ◌++◌, ◌+◌, ◌-◌, ◌/◌, ◌<◌, ◌==◌, ◌||◌, ◌∙◌, ◌∷◌, ◌≡◌, ◌≤◌}
use Rattle.snap_ring.proofs.Room.{due}

-- ---- multiples of a spacing

-- the least multiple above a cycle
pub next_multiple : (at d c : ℕ) → 0 < d → c % d ≡ 0 → at < c → at - at % d + d ≤ c
next_multiple at d c some none lt = elim (cases_lt c (at - at % d + d)) [
  | inr le ↦ le
  | inl near ↦ absurd (
      let whole : d * (at / d) + at % d ≡ at = div-add-mod at d in
      let base : at - at % d ≡ d * (at / d) = omega arith in
      let low : d * (at / d) < c = omega arith in
      let small : c - d * (at / d) < d = omega arith in
      let parts : d * (at / d) + (c - d * (at / d)) ≡ c = omega arith in
      let left : c % d ≡ c - d * (at / d) =
      ap (λ n. n % d) (sym parts) ∙ mul-add-mod_self_left d (at / d) (c - d * (at / d)) ∙ mod-eq_of_lt small
      in
      omega arith)
]

-- the next place of a ring is the least multiple above a cycle
pub next_least : (ring : Snapshots) (at c : ℕ) → 0 < ring.spacing → ring.origin ≤ at → (c - ring.origin) % ring.spacing ≡ 0 → at < c → next_place ring at ≤ c
next_least ring at c some begun none lt =
    let far : at - ring.origin < c - ring.origin = omega arith in
    let least : at - ring.origin - (at - ring.origin) % ring.spacing + ring.spacing ≤ c - ring.origin = next_multiple (at - ring.origin) ring.spacing (c - ring.origin) some none far in
    let rest : (at - ring.origin) % ring.spacing ≤ at - ring.origin = mod-le (at - ring.origin) ring.spacing in
    omega arith

-- the greatest multiple not above a cycle
pub multiple_below : (c d : ℕ) → (c - c % d) % d ≡ 0
multiple_below c d =
    let whole : d * (c / d) + c % d ≡ c = div-add-mod c d in
    let base : c - c % d ≡ d * (c / d) + 0 = omega arith in
    ap (λ n. n % d) base ∙ mul-add-mod_self_left d (c / d) 0 ∙ zero-mod d

pub place_below : (ring : Snapshots) (c : ℕ) → ring.origin ≤ c → (c - (c - ring.origin) % ring.spacing - ring.origin) % ring.spacing ≡ 0
place_below ring c begun =
    let le : (c - ring.origin) % ring.spacing ≤ c - ring.origin = mod-le (c - ring.origin) ring.spacing in
    let same : c - (c - ring.origin) % ring.spacing - ring.origin ≡ c - ring.origin - (c - ring.origin) % ring.spacing = omega arith in
    ap (λ n. n % ring.spacing) same ∙ multiple_below (c - ring.origin) ring.spacing

-- ---- the stretch of a ring

pub within_of : (ring : Snapshots) (c : ℕ) → ring.origin ≤ c → c - ring.origin < 64 * ring.spacing → IsIn ring c
within_of ring c begun low = and_from (nat_le ring.origin c) (nat_lt (c - ring.origin) (64 * ring.spacing)) (le-leb _ _ begun) (lt-ltb _ _ low)

pub begun_within : (ring : Snapshots) (c : ℕ) → IsIn ring c → ring.origin ≤ c
begun_within ring c h = leb-true _ _ (and_parts (nat_le ring.origin c) (nat_lt (c - ring.origin) (64 * ring.spacing)) h).0

pub low_within : (ring : Snapshots) (c : ℕ) → IsIn ring c → c - ring.origin < 64 * ring.spacing
low_within ring c h = ltb-true _ _ (and_parts (nat_le ring.origin c) (nat_lt (c - ring.origin) (64 * ring.spacing)) h).1

-- the same stretch has the same cycles
pub in_same : (a b : Snapshots) (c e : ℕ) → b.spacing ≡ a.spacing → b.origin ≡ a.origin → e ≡ c → IsIn a c → IsIn b e
in_same a b c e spacing origin same h =
    ap (λ d. is_within d b.origin e) spacing ∙ ap (λ o. is_within a.spacing o e) origin ∙ ap (is_within a.spacing a.origin) same ∙ h

-- the greatest place not above a cycle of the stretch is of the stretch
pub place_within : (ring : Snapshots) (c : ℕ) → IsIn ring c → IsIn ring (c - (c - ring.origin) % ring.spacing)
place_within ring c h =
    let begun : ring.origin ≤ c = begun_within ring c h in
    let low : c - ring.origin < 64 * ring.spacing = low_within ring c h in
    let le : (c - ring.origin) % ring.spacing ≤ c - ring.origin = mod-le (c - ring.origin) ring.spacing in
    within_of ring (c - (c - ring.origin) % ring.spacing) (omega arith) (omega arith)

-- the near spacing is no greater, and 64 of it are no less
pub closer_low : (d : ℕ) → 0 < d → near_spacing d ≤ d
closer_low d some = omega arith

pub closer_fills : (d : ℕ) → d ≤ 64 * near_spacing d
closer_fills d = omega arith

-- ---- what is found among the kept states

pub restored_cycle : (c : ℕ) (kept : List State) (own : State) → is_kept c kept ≡ true → (restored (state_at c kept) own).cycle ≡ c
restored_cycle c [] own h = absurd (cc)
restored_cycle c (s ∷ kept) own h = elim (cases_Bool (s.cycle == c)) [
  | inl is ↦ rw is (eqb-true s.cycle c is)
  | inr isnt ↦ let older : is_kept c kept ≡ true = rw isnt at h in rw isnt (restored_cycle c kept own older)
]

-- the machine's own state doesn't count where one is kept
pub restored_any : (c : ℕ) (kept : List State) (own other : State) → is_kept c kept ≡ true → restored (state_at c kept) own ≡ restored (state_at c kept) other
restored_any c [] own other h = absurd (cc)
restored_any c (s ∷ kept) own other h = elim (cases_Bool (s.cycle == c)) [
  | inl is ↦ rw is refl
  | inr isnt ↦ let older : is_kept c kept ≡ true = rw isnt at h in rw isnt (restored_any c kept own other older)
]

-- ---- among the states of two lists

restored_both : (c : ℕ) (a b : List State) (own : State) → restored (state_at c (a ++ b)) own ≡ restored (state_at c a) (restored (state_at c b) own)
restored_both c [] b own = refl
restored_both c (s ∷ a) b own = elim (s.cycle == c) as (λ t. restored (if t then Some s else state_at c (a ++ b)) own ≡ restored (if t then Some s else state_at c a) (restored (state_at c b) own)) [
  | true ↦ refl
  | false ↦ restored_both c a b own
]

restored_none : (c : ℕ) (a : List State) (own : State) → is_kept c a ≡ false → restored (state_at c a) own ≡ own
restored_none c [] own h = refl
restored_none c (s ∷ a) own h = elim (s.cycle == c) as (λ t. (t || is_kept c a) ≡ false → restored (if t then Some s else state_at c a) own ≡ own) [
  | true ↦ λ e. absurd (cc e)
  | false ↦ λ e. restored_none c a own e
] h

-- it is restored from the first list, or else from the second
pub restored_first : (c : ℕ) (a b : List State) (own s : State) → is_kept c a ≡ true → s ≡ restored (state_at c a) own → s ≡ restored (state_at c (a ++ b)) own
restored_first c a b own s kept e = e ∙ restored_any c a own (restored (state_at c b) own) kept ∙ sym (restored_both c a b own)

pub restored_second : (c : ℕ) (a b : List State) (own m s : State) → is_kept c a ≡ false → m ≡ restored (state_at c a) own → s ≡ restored (state_at c b) m → s ≡ restored (state_at c (a ++ b)) own
restored_second c a b own m s none e f =
    f ∙ ap (restored (state_at c b)) (e ∙ restored_none c a own none) ∙ sym (restored_both c a b own ∙ restored_none c a (restored (state_at c b) own) none)

-- what is kept is the states of a run
abbrev pub AreOfRun : Setting → State → List State → Type 0
AreOfRun w first kept = (c : ℕ) (own : State) → is_kept c kept ≡ true → restored (state_at c kept) own ≡ states w first c

pub both_of_run : (w : Setting) (first : State) (a b : List State) → AreOfRun w first a → AreOfRun w first b → AreOfRun w first (a ++ b)
both_of_run w first a b h k c own kept = elim (cases_Bool (is_kept c a)) as (λ _. restored (state_at c (a ++ b)) own ≡ states w first c) [
  | inl is ↦ restored_both c a b own ∙ h c (restored (state_at c b) own) is
  | inr isnt ↦ restored_both c a b own ∙ restored_none c a (restored (state_at c b) own) isnt ∙ k c own (rw isnt at (sym (kept_both c a b) ∙ kept))
]

-- ---- one state more

-- either it is to be kept, or the ring stays as it is
with_state : (s : State) (ring : Snapshots) (P : Snapshots → Type 0) → (is_due ring.spacing ring.origin ring.kept s.cycle ≡ true → P (record ring { kept = s ∷ ring.kept })) → (is_due ring.spacing ring.origin ring.kept s.cycle ≡ false → P ring) → P (kept_with s ring)
with_state s ring P more same = elim (cases_Bool (is_due ring.spacing ring.origin ring.kept s.cycle)) [
  | inl is ↦ rw is (more is)
  | inr isnt ↦ rw isnt (same isnt)
]

pub spacing_stays : (s : State) (ring : Snapshots) → (kept_with s ring).spacing ≡ ring.spacing
spacing_stays s ring = with_state s ring (λ r. r.spacing ≡ ring.spacing) (λ _. refl) (λ _. refl)

pub origin_stays : (s : State) (ring : Snapshots) → (kept_with s ring).origin ≡ ring.origin
origin_stays s ring = with_state s ring (λ r. r.origin ≡ ring.origin) (λ _. refl) (λ _. refl)

-- the state of a cycle that is kept stays the one that is found
pub found_still : (s : State) (ring : Snapshots) (c : ℕ) (own other : State) → is_kept c ring.kept ≡ true → restored (state_at c (kept_with s ring).kept) own ≡ restored (state_at c ring.kept) other
found_still s ring c own other h = ap (λ o. restored o own) ((keeping_is_faithful ring s).others c h) ∙ restored_any c ring.kept own other h

kept_anew : (s : State) (c : ℕ) (kept : List State) → s.cycle ≡ c → is_kept c (s ∷ kept) ≡ true
kept_anew s c kept e = rw (eq-eqb s.cycle c e) refl

both_hold : (a b k : Bool) → a ≡ true → b ≡ true → (a && (b && not k)) ≡ false → k ≡ true
both_hold a b true x y h = refl
both_hold a b false x y h = absurd (let no : true ≡ false = rw (x, y) at h in cc)

-- ---- what a ring keeps

-- a state is offered that is not beyond the next place
pub keeps_after : (w : Setting) (first s : State) (ring : Snapshots) (at to reached more most : ℕ) → Keeps w first ring to reached → s ≡ states w first s.cycle → ring.origin ≤ at → at ≤ to
    → s.cycle ≤ next_place ring at → more ≤ max to s.cycle → reached ≤ most → s.cycle ≤ most → Keeps w first (kept_with s ring) more most
keeps_after w first s ring at to reached more most k of begun here near le far low =
    let last : (c : ℕ) → (c - ring.origin) % ring.spacing ≡ 0 → to < c → c ≤ more → s.cycle ≡ c = λ c multiple lt within.
    let next : next_place ring at ≤ c = next_least ring at c k.some begun multiple (omega arith) in omega arith in
    with_state s ring (λ r. Keeps w first r more most) (λ is. record {
      some = k.some;
      kept = λ c own h. elim (cases_Bool (s.cycle == c)) as (λ _. restored (state_at c (s ∷ ring.kept)) own ≡ states w first c) [
        | inl same ↦ rw same (of ∙ ap (states w first) (eqb-true s.cycle c same))
        | inr other ↦ let older : is_kept c ring.kept ≡ true = rw other at h in rw other (k.kept c own older)
      ];
      below = λ c h. elim (cases_Bool (s.cycle == c)) as (λ _. c ≤ most) [
        | inl same ↦ let e : s.cycle ≡ c = eqb-true s.cycle c same in omega arith
        | inr other ↦ let older : is_kept c ring.kept ≡ true = rw other at h in let lower : c ≤ reached = k.below c older in omega arith
      ];
      apart = λ c h. elim (cases_Bool (s.cycle == c)) as (λ _. (c - ring.origin) % ring.spacing ≡ 0) [
        | inl same ↦ subst (λ n. (n - ring.origin) % ring.spacing ≡ 0) (eqb-true s.cycle c same) (due ring.spacing ring.origin ring.kept s.cycle is).multiple
        | inr other ↦ let older : is_kept c ring.kept ≡ true = rw other at h in k.apart c older
      ];
      multiples = λ c within multiple upto. elim (cases_lt to c) as (λ _. is_kept c (s ∷ ring.kept) ≡ true) [
        | inr lower ↦ or_right (s.cycle == c) (is_kept c ring.kept) (k.multiples c within multiple lower)
        | inl lt ↦ kept_anew s c ring.kept (last c multiple lt upto)
      ];
    }) (λ isnt. record {
      some = k.some;
      kept = k.kept;
      below = λ c h. let lower : c ≤ reached = k.below c h in omega arith;
      apart = k.apart;
      multiples = λ c within multiple upto. elim (cases_lt to c) as (λ _. is_kept c ring.kept ≡ true) [
        | inr lower ↦ k.multiples c within multiple lower
        | inl lt ↦ both_hold (is_within ring.spacing ring.origin c) ((c - ring.origin) % ring.spacing == 0) (is_kept c ring.kept) within (eq-eqb _ _ multiple)
            (subst (λ n. is_due ring.spacing ring.origin ring.kept n ≡ false) (last c multiple lt upto) isnt)
      ];
    })

-- fewer cycles are asked of it
pub keeps_to : (w : Setting) (first : State) (ring : Snapshots) (to less reached : ℕ) → less ≤ to → Keeps w first ring to reached → Keeps w first ring less reached
keeps_to w first ring to less reached le k = record { some = k.some; kept = k.kept; below = k.below; apart = k.apart; multiples = λ c within multiple low. k.multiples c within multiple (omega arith) }

-- a ring that keeps nothing
abbrev pub empty : ℕ → ℕ → Snapshots
empty spacing origin = record { spacing = spacing; origin = origin; kept = [] }

-- its first state is at its origin
pub due_first : (d o c : ℕ) → 0 < d → c ≡ o → is_due d o [] c ≡ true
due_first d o c some at =
    and_from _ _ (within_of (empty d o) c (omega arith) (omega arith)) (and_from _ _ (eq-eqb _ _ (ap (λ n. n % d) (omega arith) ∙ zero-mod d)) refl)

pub keeps_first : (w : Setting) (first s : State) (spacing origin to reached : ℕ) → 0 < spacing → s.cycle ≡ origin → s ≡ states w first s.cycle → to ≤ s.cycle → s.cycle ≤ reached →
    Keeps w first (kept_with s (empty spacing origin)) to reached
keeps_first w first s d o to reached some at of le low =
    rw (due_first d o s.cycle some at) (record {
      some = some;
      kept = λ c own h. rw (eq-eqb s.cycle c (kept_only c s h)) (of ∙ ap (states w first) (kept_only c s h));
      below = λ c h. omega (arith, kept_only c s h);
      apart = λ c h. ap (λ n. n % d) (omega (arith, kept_only c s h)) ∙ zero-mod d;
      multiples = λ c inside multiple last. let begun : o ≤ c = begun_within (empty d o) c inside in kept_anew s c [] (omega arith);
    })
