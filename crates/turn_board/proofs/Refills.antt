-- The master refills one lane after the other.
use Rattle.std.proofs.Common.{◌≡◌, ℕ, ◌+◌, ◌*◌, List, ◌∷◌, get_or, sym, refl, ap, ◌∙◌, subst}
use Rattle.atomic_table.specs.Table.{rest, turned}
use Rattle.turn_board.specs.Plays.{Sat, BringsJobs, Collects}
use Rattle.turn_board.specs.Answers.{EachLane}
use Rattle.turn_board.specs.Holding.{HoldsAll, filled}
use Rattle.turn_board.specs.declared.slot.Slot.{Slot}
use Rattle.turn_board.specs.declared.slot.Slot.TheVariants.{Empty, Job}
use Rattle.turn_board.specs.declared.answers.Six.{Six}

abbrev Rest : Type 0 → Type 0 → Type 0
Rest J R = List (ℕ × Slot J R)

-- the lane's second slot is the next
abbrev pub Next : {J R : Type 0} → ℕ → Slot J R → Rest J R → Slot J R → Type 0
Next lane x in_hand y = turned ((2 * lane, x) ∷ rest in_hand) ≡ (2 * lane + 1, y) ∷ rest (turned ((2 * lane, x) ∷ rest in_hand))

value_of : {J R : Type 0} → Rest J R → Slot J R
value_of l = (get_or l 0 (0, Empty)).1

-- what is found in it
pub same_value : {J R : Type 0} (lane : ℕ) (x y z : Slot J R) (in_hand : Rest J R) → Next lane x in_hand y → Next lane x in_hand z → y ≡ z
unfolding value_of
same_value lane x y z in_hand a b = ap value_of (sym a ∙ b)

-- the master with six jobs in the slots
pub brings_jobs : {J R W : Type 0} (fits : W → ℕ → J → Type 0) (m n : Sat J R W) (jobs : Six J) (x : Six (Slot J R)) → n ≡ (m.0, filled x)
    → x ≡ record { l0 = Job jobs.l0; l1 = Job jobs.l1; l2 = Job jobs.l2; l3 = Job jobs.l3; l4 = Job jobs.l4; l5 = Job jobs.l5 } → EachLane (fits m.0.made_for) jobs → BringsJobs fits n
brings_jobs {J} {R} {W} fits m n jobs x e are made = subst (λ (y : Sat J R W). BringsJobs fits y) (sym (e ∙ (λ q. (m.0, filled (are q)))))
    (jobs.l0, jobs.l1, jobs.l2, jobs.l3, jobs.l4, jobs.l5, refl, made.0, made.1, made.2, made.3, made.4, made.5)

pub collected : {J R : Type 0} (job_fits : ℕ → J → Type 0) (found_fits : ℕ → R → Type 0) (done : ℕ) (in_hand : Rest J R) → Collects job_fits found_fits done in_hand → (s : Six (Slot J R)) × HoldsAll in_hand s
collected job_fits found_fits done in_hand k = (record { l0 = k.second0; l1 = k.second1; l2 = k.second2; l3 = k.second3; l4 = k.second4; l5 = k.second5 }, (k.first0, k.first1, k.first2, k.first3, k.first4, k.first5, k.are))
