-- A session that stands at a cycle of a run, with states of the run that are kept: of the whole run, and closer together of one stretch
-- of it (the project's own).
use Rattle.std.specs.Prelude.{◌≡◌, ◌≤◌, ◌<◌, ℕ, ◌+◌, ◌-◌, ◌%◌, max, true, List, ◌++◌, Option, IfSome, Some, None}
use Rattle.rp_base.specs.Alias.{or_zero}
use Rattle.rp_base.specs.declared.Why.{Why}
use Rattle.outer_lane.specs.Setting.{Setting}
use Rattle.rp_machine.specs.State.{State}
use Rattle.rp_machine.specs.Cycle.{stop}
use Rattle.rp_machine.specs.Run.{states}
use Rattle.snap_ring.specs.Ring.{Snapshots, spacing_of, near_spacing, is_kept, is_within, state_at, restored}
use Rattle.reverse_debug.specs.Advance.{CountsMove}
use Rattle.reverse_debug.specs.Command.{Command, Watched}
use Rattle.reverse_debug.specs.Command.Command.{Before, Last}
use Rattle.reverse_debug.specs.Reply.{Said, last_cycle, move_cost, search_cost, before_nth, behind_next, answer}

pub record Standing : Type 0 where
  -- the machine's state at the present cycle
  pub now : State
  -- the states that are kept of the run
  pub ring : Snapshots
  -- the near ones, which are kept of one stretch of it
  pub near : Snapshots
  -- the cycle at which each run ends
  pub limit : ℕ
  -- the greatest cycle that was reached
  pub reached : ℕ

-- the first state of the run is the one that is kept of cycle 0
abbrev pub first_in : Snapshots → State → State
first_in ring own = restored (state_at 0 ring.kept) own

abbrev pub first_of : Standing → State
first_of session = first_in session.ring session.now

-- a cycle of the stretch of which a ring keeps states
abbrev pub IsIn : Snapshots → ℕ → Type 0
IsIn ring cycle = is_within ring.spacing ring.origin cycle ≡ true

-- the next multiple of a ring's spacing from its origin after a cycle
abbrev pub next_place : Snapshots → ℕ → ℕ
next_place ring cycle = cycle - (cycle - ring.origin) % ring.spacing + ring.spacing

-- the states that two rings keep
abbrev pub all_kept : Snapshots → Snapshots → List State
all_kept ring near = near.kept ++ ring.kept

-- What two rings keep is states of the run from a first state, and that one is kept; below a cycle are kept all multiples of the first
-- ring's spacing, and all places of the second ring.
pub record AreOf (w : Setting) (first : State) (ring near : Snapshots) (to : ℕ) : Type 0 where
  pub begins : first.cycle ≡ 0
  pub zero : is_kept 0 (all_kept ring near) ≡ true
  pub some : 0 < ring.spacing
  pub closer : 0 < near.spacing
  pub every : (cycle : ℕ) → cycle < to → is_kept (cycle - cycle % ring.spacing) (all_kept ring near) ≡ true
  pub close : (cycle : ℕ) → cycle < to → IsIn near cycle → is_kept (cycle - (cycle - near.origin) % near.spacing) (all_kept ring near) ≡ true
  pub kept : (cycle : ℕ) (own : State) → is_kept cycle (all_kept ring near) ≡ true → restored (state_at cycle (all_kept ring near)) own ≡ states w first cycle

-- What a ring keeps is states of the run from a first state, at multiples of its spacing from its origin, none beyond a cycle that was
-- reached. Kept are, of the cycles of its stretch up to another one, all these multiples.
pub record Keeps (w : Setting) (first : State) (ring : Snapshots) (to reached : ℕ) : Type 0 where
  pub some : 0 < ring.spacing
  pub kept : (cycle : ℕ) (own : State) → is_kept cycle ring.kept ≡ true → restored (state_at cycle ring.kept) own ≡ states w first cycle
  pub below : (cycle : ℕ) → is_kept cycle ring.kept ≡ true → cycle ≤ reached
  pub apart : (cycle : ℕ) → is_kept cycle ring.kept ≡ true → (cycle - ring.origin) % ring.spacing ≡ 0
  pub multiples : (cycle : ℕ) → IsIn ring cycle → (cycle - ring.origin) % ring.spacing ≡ 0 → cycle ≤ to → is_kept cycle ring.kept ≡ true

-- The present state, and each that is kept, are those of the run from a first state. Kept are, of the cycles up to the greatest one
-- reached, all multiples of the spacing below 64 spacings; and of those up to the present one all multiples of the near spacing from the
-- origin of the near stretch on, which is itself a multiple of the spacing, below 64 near spacings from there.
pub record IsAlong (w : Setting) (first : State) (session : Standing) : Type 0 where
  pub limit : session.limit ≡ w.limit
  pub small : session.limit ≤ 1000000000
  pub spacing : session.ring.spacing ≡ spacing_of session.limit
  pub closer : session.near.spacing ≡ near_spacing session.ring.spacing
  pub begins : first.cycle ≡ 0
  pub now : session.now ≡ states w first session.now.cycle
  pub here : session.now.cycle ≤ session.reached
  pub reached : session.reached ≤ last_cycle w first
  pub zero : session.ring.origin ≡ 0
  pub ring : Keeps w first session.ring session.reached session.reached
  pub behind : session.near.origin ≤ session.now.cycle
  pub stretch : session.near.origin % session.ring.spacing ≡ 0
  pub near : Keeps w first session.near session.now.cycle session.reached

-- the session stands for the run of its first state in this setting
abbrev pub StandsFor : Setting → Standing → Type 0
StandsFor w session = IsAlong w (first_of session) session

-- it does for some setting
abbrev pub Stands : Standing → Type 0
Stands session = (w : Setting) × StandsFor w session

-- a session that was opened at a state stands for each run from there up to the limit, and has reached no other cycle
pub record OpensAt (machine : State) (limit : ℕ) (session : Standing) : Type 0 where
  pub first : first_of session ≡ machine
  pub now : session.now ≡ machine
  pub spacing : session.ring.spacing ≡ spacing_of limit
  pub closer : session.near.spacing ≡ near_spacing (spacing_of limit)
  pub stretch : session.near.origin ≡ 0
  pub reached : session.reached ≡ 0
  pub stands : (w : Setting) → w.limit ≡ limit → StandsFor w session

-- ---- on the way

-- The session has another present state, and stands for the same runs as before. It forgets no cycle that it has reached.
pub record StaysFor (w : Setting) (old new : Standing) : Type 0 where
  pub stands : StandsFor w new
  pub first : first_of new ≡ first_of old
  pub spacing : new.ring.spacing ≡ old.ring.spacing
  pub closer : new.near.spacing ≡ old.near.spacing
  pub reached : new.reached ≡ max old.reached new.now.cycle

-- The session has gone forward, with the same near stretch, and a step was counted for each cycle.
pub record Goes (w : Setting) (old new : Standing) (before after : ℕ) : Type 0 where
  pub stays : StaysFor w old new
  pub forward : old.now.cycle ≤ new.now.cycle
  pub stretch : new.near.origin ≡ old.near.origin
  pub count : CountsMove old.now new.now before after

-- So it has gone, at most to a cycle; with a cause only where that is the stop below it.
pub record GoesOn (w : Setting) (old : Standing) (to : ℕ) (new : Standing) (result : Option Why) (before after : ℕ) : Type 0 where
  pub goes : Goes w old new before after
  pub within : new.now.cycle ≤ to
  pub stopped : IfSome result (λ why. (stop w new.now ≡ Some why) × (new.now.cycle < to))

-- So it has gone, and so many of the times at which it would end are left.
pub record Seeks (w : Setting) (watched : Watched) (times : ℕ) (old new : Standing) (left before now : ℕ) : Type 0 where
  pub goes : Goes w old new before now
  pub next : behind_next w (first_of old) watched times old.now.cycle ≡ behind_next w (first_of old) watched left new.now.cycle

-- Some are left, and it has come to a stop.
pub record Misses (w : Setting) (watched : Watched) (count : ℕ) (old new : Standing) (why : Why) (before now : ℕ) : Type 0 where
  pub left : ℕ
  pub some : 0 < left
  pub seeks : Seeks w watched count old new left before now
  pub stopped : stop w new.now ≡ Some why

-- none is left, or it has come to a stop before
abbrev pub ComesTo : Setting → Watched → ℕ → Standing → Standing → Option Why → ℕ → ℕ → Type 0
ComesTo w watched count old new None before now = Seeks w watched count old new 0 before now
ComesTo w watched count old new (Some why) before now = Misses w watched count old new why before now

-- Without a step the session has come as near to a target as a kept state is: not beyond it and nearer than a spacing, where it
-- was beyond it before, and nearer than the near spacing, where the target is of the near stretch as well; else no farther than before.
-- Where it has gone back the target is of its near stretch then, and where it stands as it stood that is the same.
pub record Lands (w : Setting) (old : Standing) (target : ℕ) (new : Standing) : Type 0 where
  pub stays : StaysFor w old new
  pub below : new.now.cycle ≤ target
  pub back : target < old.now.cycle → target < new.now.cycle + old.ring.spacing
  pub near : target < old.now.cycle → IsIn old.near target → target < new.now.cycle + old.near.spacing
  pub ahead : old.now.cycle ≤ target → old.now.cycle ≤ new.now.cycle
  pub stretch : target < old.now.cycle → IsIn new.near target
  pub same : new.now.cycle ≡ old.now.cycle → new.near.origin ≡ old.near.origin

-- The session did what was said: it stands where was said, and the reply is what was said. It took at most so many steps by the spacing,
-- and at most as many by the near spacing where something holds of the near stretch. Where it has gone back it stands within its near
-- stretch, and where it has not moved it does so if it did before.
pub record Does (w : Setting) (old : Standing) (what : Said) (Near : Type 0) (most : ℕ → ℕ) (new : Standing) (reply : List ℕ) (before after : ℕ) : Type 0 where
  pub stays : StaysFor w old new
  pub cycle : new.now.cycle ≡ what.cycle
  pub said : reply ≡ what.reply
  pub forward : before ≤ after
  pub steps : after ≤ before + most old.ring.spacing
  pub near : Near → after ≤ before + most old.near.spacing
  pub back : new.now.cycle < old.now.cycle → IsIn new.near new.now.cycle
  pub same : new.now.cycle ≡ old.now.cycle → IsIn old.near old.now.cycle → IsIn new.near new.now.cycle

-- it moved
abbrev pub Moves : Setting → Standing → Said → Standing → List ℕ → ℕ → ℕ → Type 0
Moves w old what new reply before after =
    Does w old what (IsIn old.near what.cycle) (λ d. move_cost d old.now.cycle what.cycle) new reply before after

-- ---- within the near stretch

-- a search finds a cycle of the near stretch, and begins there where it goes over a stretch between two kept states twice
pub record FindsNear (near : Snapshots) (count cycle found : ℕ) : Type 0 where
  pub ends : IsIn near found
  pub begins : 1 < count → IsIn near cycle

-- A search took at most so many steps by the spacing of the ring of the whole run, and at most as many by the near spacing where it
-- finds near.
pub record Spends (ring near : Snapshots) (count cycle before after : ℕ) (found : Option ℕ) : Type 0 where
  pub forward : before ≤ after
  pub steps : after ≤ before + search_cost ring.spacing count cycle found
  pub close : FindsNear near count cycle (or_zero found) → after ≤ before + search_cost near.spacing count cycle found

-- what is said to a command is of the near stretch: the cycle that is moved to, or told as the last one
abbrev pub IsNearBy : Setting → State → Snapshots → ℕ → Command → Type 0
IsNearBy w s near cycle (Last watched) = FindsNear near 1 cycle (or_zero (before_nth w s watched 1 cycle))
IsNearBy w s near cycle (Before watched count) = FindsNear near count cycle (or_zero (before_nth w s watched count cycle))
IsNearBy w s near cycle command = IsIn near (answer w s cycle command).cycle
