-- A separate cycle, in which every want is nothing or an access to SRAM, no two accesses name one port and none lasts: each lane
-- steps as if it ran alone.
use Rattle.window_merge.proofs.Shared.{Begun, Bool, Deed, KnowsSio, List, Master, Request, SeenOutputs, Setting, Spot, Turn, Want, [], ap, asked_at, asked_of, deed_of, ends_want, false, has_hold, if◌then◌else◌, is_some, map, offers_of, port_at, refl, sram_after, subst, sym, true, turn_alone, turn_of, ℕ, ◌&&◌, ◌+◌, ◌∙◌, ◌∷◌, ◌≡◌, arith}
use Rattle.rp_base.specs.declared.Master.TheVariants as master
use Rattle.m0_core.specs.Fetch.{is_ram_spot}
use Rattle.m0_core.specs.State.{State as Core}
use Rattle.m0_core.specs.Cycle as core
use Rattle.dma_engine.specs.Cycle as dma
use Rattle.pio_block.specs.Cycle as pio
use Rattle.outer_lane.specs.Step as outer
use Rattle.sio_block.specs.State.{State as SioState}
use Rattle.rp_machine.specs.declared.deed.Deed.TheVariants as deed
use Rattle.rp_machine.specs.State.{State}
use Rattle.rp_machine.specs.Cycle.{wanted, asked, granted, turns, with_turns, deeds, with_sio, after_deed, launched_where, after_masters, stored, with_stores, ended, after_deeds, with_grants, stepped, next_by}
use Rattle.window_merge.proofs.Banks.{has_bank}
use Rattle.window_merge.proofs.InSram.{IsPlaced}
use Rattle.window_merge.proofs.Keeping.{core_keeps, outer_keeps}
use Rattle.window_merge.proofs.Ports.{InBank, Apart, free_done, free_after}

-- ---- one want

asks_at : (request : Request) (spot : Spot) → is_ram_spot spot ≡ true → is_some (asked_at request (port_at spot)) ≡ true
asks_at request spot h1 = grind arith

pub in_bank : (v : Want) → ends_want v ≡ false → IsPlaced v → InBank (asked_of v)
unfolding asked_of
in_bank v h1 h2 = search (arith, has_bank)

-- its turn is that of a lane that runs alone, where each access is done
turn_goes : (w : Setting) (seen : SeenOutputs) (rival : Want) (m : Master) (v : Want) (s : State) → ends_want v ≡ false → IsPlaced v → turn_of w seen rival (is_some (asked_of v)) m v s ≡ turn_alone v
unfolding turn_of asked_of
turn_goes w seen rival m v s h1 h2 = grind (arith, asks_at)

-- nothing is to be done but to store
abbrev pub IsStore : Deed → Type 0
IsStore deed.Nothing = Unit {0}
IsStore (deed.Store index lanes value) = Unit {0}
IsStore _ = ⊥

deed_stores : (w : Setting) (seen : SeenOutputs) (grant : Bool) (v : Want) (s : State) → ends_want v ≡ false → IsStore (deed_of w seen grant v s)
unfolding deed_of
deed_stores w seen grant v s h1 = grind arith

-- ---- the cycle

-- what is wanted is nothing, or an access to SRAM
pub record AllGoOn (b : Begun) : Type 0 where
  pub goes0 : ends_want (core.want_of b.core0) ≡ false
  pub goes1 : ends_want (core.want_of b.core1) ≡ false
  pub goes_read : ends_want (dma.want_of b.dma.read) ≡ false
  pub goes_write : ends_want (dma.want_of b.dma.write) ≡ false

-- what is known of a separate cycle in which this is begun
pub record IsSeparate (b : Begun) (s : State) : Type 0 where
  pub goes : AllGoOn b
  pub placed0 : IsPlaced (core.want_of b.core0)
  pub placed1 : IsPlaced (core.want_of b.core1)
  pub placed_read : IsPlaced (dma.want_of b.dma.read)
  pub placed_write : IsPlaced (dma.want_of b.dma.write)
  pub apart : Apart (asked_of (core.want_of b.core0)) (asked_of (core.want_of b.core1)) (asked_of (dma.want_of b.dma.read)) (asked_of (dma.want_of b.dma.write))
  pub free : has_hold s.fabric ≡ false
  pub launcher : (s.core1.asleep && s.core1.offer) ≡ false
  pub knows : KnowsSio s

-- the lanes have stepped as if each ran alone, and what is needed for the next cycle holds again
pub record IsStepped (w : Setting) (b : Begun) (s t : State) : Type 0 where
  pub cycle : t.cycle ≡ s.cycle + 1
  pub core0 : t.core0 ≡ core.next s.core0 b.core0 (map turn_alone (core.wanted b.core0))
  pub core1 : t.core1 ≡ core.next s.core1 b.core1 (map turn_alone (core.wanted b.core1))
  pub dma : t.dma.block ≡ dma.next s.dma.block b.dma (map turn_alone (dma.wanted b.dma))
  pub pio0 : t.pio0.block ≡ pio.next b.pio0 s.pio0.block
  pub pio1 : t.pio1.block ≡ pio.next b.pio1 s.pio1.block
  pub outer : t.outer ≡ outer.next w s.outer b.outer
  pub free : has_hold t.fabric ≡ false
  pub asleep : t.core1.asleep ≡ s.core1.asleep
  pub offer : t.core1.offer ≡ s.core1.offer
  pub knows : KnowsSio t

granted_separate : (b : Begun) (s : State) → IsSeparate b s → granted (wanted b) s ≡
    is_some (asked_of (core.want_of b.core0)) ∷ is_some (asked_of (core.want_of b.core1)) ∷ is_some (asked_of (dma.want_of b.dma.read)) ∷ is_some (asked_of (dma.want_of b.dma.write)) ∷ []
unfolding granted asked wanted
granted_separate b s h = grind (arith, free_done, in_bank)

abbrev separate_turns : Begun → List Turn
separate_turns b = turn_alone (core.want_of b.core0) ∷ turn_alone (core.want_of b.core1) ∷ turn_alone (dma.want_of b.dma.read) ∷ turn_alone (dma.want_of b.dma.write) ∷ []

-- the deeds of the masters but for what they store
masters_separate : (w : Setting) (start : SioState) (d0 d1 d2 d3 : Deed) (t : State) → IsStore d0 → IsStore d1 → IsStore d2 → IsStore d3
    → (if t.core1.asleep then launched_where (offers_of start) t else t) ≡ t
    → after_masters w start (master.Core0 ∷ master.Core1 ∷ master.DmaRead ∷ master.DmaWrite ∷ []) (d0 ∷ d1 ∷ d2 ∷ d3 ∷ []) t ≡ t
unfolding after_deed
masters_separate w start d0 d1 d2 d3 t h0 h1 h2 h3 rests = grind arith

-- the state in which the lanes have stepped
abbrev after_lanes : Setting → Begun → State → State
after_lanes w b s = with_turns w b (separate_turns b) (with_grants (wanted b) s)

-- core 1 and the pads know of SIO what they have to know
record KnowsOn (w : Setting) (b : Begun) (s t : State) : Type 0 where
  asleep : t.core1.asleep ≡ s.core1.asleep
  offer : t.core1.offer ≡ s.core1.offer
  pins : t.outer.sio ≡ s.outer.sio
  sio : t.sio ≡ s.sio

knows_on : (w : Setting) (b : Begun) (s : State) → KnowsOn w b s (after_lanes w b s)
unfolding with_turns
knows_on w b s = grind (arith, core_keeps, outer_keeps)

rests_on : (w : Setting) (b : Begun) (s : State) → IsSeparate b s
    → (if (after_lanes w b s).core1.asleep then launched_where (offers_of (after_lanes w b s).sio) (after_lanes w b s) else after_lanes w b s) ≡ after_lanes w b s
rests_on w b s h = search (arith, knows_on)

abbrev separate_deeds : Setting → Begun → State → List Deed
separate_deeds w b s =
    deed_of w b.outer (is_some (asked_of (core.want_of b.core0))) (core.want_of b.core0) s
    ∷ deed_of w b.outer (is_some (asked_of (core.want_of b.core1))) (core.want_of b.core1) s
    ∷ deed_of w b.outer (is_some (asked_of (dma.want_of b.dma.read))) (dma.want_of b.dma.read) s
    ∷ deed_of w b.outer (is_some (asked_of (dma.want_of b.dma.write))) (dma.want_of b.dma.write) s
    ∷ []

-- the state after the cycle
abbrev after_separate : Setting → Begun → State → State
after_separate w b s = record (ended (with_stores (separate_deeds w b s) (after_lanes w b s))) { cycle = s.cycle + 1 }

stepped_separate : (w : Setting) (b : Begun) (s : State) → IsSeparate b s → next_by w b (wanted b) s ≡ after_separate w b s
unfolding next_by stepped turns wanted deeds after_deeds
stepped_separate w b s h = search (arith, granted_separate, turn_goes, masters_separate, deed_stores, rests_on)

core1_separate : (w : Setting) (b : Begun) (s : State) → IsSeparate b s → (after_separate w b s).core1 ≡ (after_lanes w b s).core1
unfolding ended with_sio
core1_separate w b s h = search (arith, knows_on)

same_pins : (w : Setting) (b : Begun) (s : State) → IsSeparate b s → (after_separate w b s).outer ≡ (after_lanes w b s).outer
unfolding ended with_sio
same_pins w b s h = search (arith, knows_on)

knows_separate : (w : Setting) (b : Begun) (s : State) → KnowsSio (after_separate w b s)
unfolding ended with_sio
knows_separate w b s = record { pins = refl; offer = refl }

free_separate : (w : Setting) (b : Begun) (s : State) → IsSeparate b s → has_hold (after_separate w b s).fabric ≡ false
unfolding ended with_sio with_turns asked wanted
free_separate w b s h = search (arith, free_after, in_bank)

lanes_separate : (w : Setting) (b : Begun) (s : State) → IsSeparate b s → IsStepped w b s (after_separate w b s)
unfolding ended with_sio with_turns
lanes_separate w b s h =
    let k = knows_on w b s in
    let c1 = core1_separate w b s h in
    record {
      cycle = refl;
      core0 = refl;
      core1 = c1;
      dma = refl;
      pio0 = refl;
      pio1 = refl;
      outer = same_pins w b s h;
      free = free_separate w b s h;
      asleep = ap (λ (c : Core). c.asleep) c1 ∙ k.asleep;
      offer = ap (λ (c : Core). c.offer) c1 ∙ k.offer;
      knows = knows_separate w b s;
    }

pub separate_next : (w : Setting) (b : Begun) (s : State) → IsSeparate b s → IsStepped w b s (next_by w b (wanted b) s)
separate_next w b s h = subst (IsStepped w b s) (sym (stepped_separate w b s h)) (lanes_separate w b s h)

-- ---- SRAM

stored_goes : (w : Setting) (seen : SeenOutputs) (v : Want) (s : State) (sram : List ℕ) → ends_want v ≡ false → IsPlaced v
    → stored (deed_of w seen (is_some (asked_of v)) v s) sram ≡ sram_after v sram
unfolding deed_of asked_of
stored_goes w seen v s sram h1 h2 = grind (arith, asks_at)

-- what the masters leave of SRAM, one after the other
abbrev pub sram_left : Begun → List ℕ → List ℕ
sram_left b sram =
    sram_after (dma.want_of b.dma.write) (sram_after (dma.want_of b.dma.read) (sram_after (core.want_of b.core1) (sram_after (core.want_of b.core0) sram)))

pub separate_sram : (w : Setting) (b : Begun) (s : State) → IsSeparate b s → (next_by w b (wanted b) s).sram ≡ sram_left b s.sram
unfolding ended with_sio with_turns
separate_sram w b s h = search (arith, stepped_separate, stored_goes)
