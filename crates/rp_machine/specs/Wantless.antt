-- A cycle in which nobody wants anything.
use Rattle.std.specs.Prelude.{◌≡◌, ◌+◌, ◌&&◌, Bool, true, false, not, if◌then◌else◌, List, [], ◌∷◌}
use Rattle.std.specs.List.{list_all}
use Rattle.lane_look.specs.declared.lane.Want.{Want}
use Rattle.lane_look.specs.declared.lane.Want.TheVariants as want
use Rattle.lane_look.specs.declared.lane.Turn.{Turn}
use Rattle.lane_look.specs.declared.lane.Turn.TheVariants as turn
use Rattle.bus_fabric.specs.State.{has_hold}
use Rattle.sio_block.specs.Launcher.{offers_of}
use Rattle.outer_lane.specs.Setting.{Setting}
use Rattle.rp_machine.specs.declared.begun.Begun.{Begun}
use Rattle.rp_machine.specs.declared.wanted.Wanted.{Wanted}
use Rattle.rp_machine.specs.State.{State}
use Rattle.rp_machine.specs.Cycle.{begun, wanted, with_turns, launched_where, ended, next}

abbrev pub is_nothing : Want → Bool
is_nothing want.Nothing = true
is_nothing _ = false

abbrev pub wants_nothing : Wanted → Bool
wants_nothing x = is_nothing x.want

-- nobody wants anything, and no access lasts
abbrev pub is_wantless : List Wanted → State → Bool
is_wantless xs s = list_all wants_nothing xs && not (has_hold s.fabric)

-- nobody is told anything
abbrev pub no_turns : List Turn
no_turns = turn.Nothing ∷ turn.Nothing ∷ turn.Nothing ∷ turn.Nothing ∷ []

-- the launcher has its turn while core 1 sleeps, where it had a word when the cycle began
unfoldable pub core1_launched : Bool → State → State
core1_launched offered s = if s.core1.asleep then launched_where offered s else s

-- the lanes step, and SIO ends its cycle
unfoldable pub wantless_next : Setting → Begun → State → State
wantless_next w b s = record (ended (core1_launched (offers_of s.sio) (with_turns w b no_turns s))) { cycle = s.cycle + 1 }

-- where nobody wants anything and no access lasts, a cycle changes the lanes, SIO and the number alone: it is this one, so SRAM,
-- the fabric and RESETS stay
pub record IsWantless (w : Setting) (s t : State) : Type 0 where
  pub steps : t ≡ wantless_next w (begun s) s
  pub sram : t.sram ≡ s.sram
  pub fabric : t.fabric ≡ s.fabric
  pub resets : t.resets ≡ s.resets

abbrev pub CyclesWithoutWantsChangeTheLanesAlone : Type 0
CyclesWithoutWantsChangeTheLanesAlone =
    (w : Setting) (s : State) → is_wantless (wanted (begun s)) s ≡ true → IsWantless w s (next w s)
